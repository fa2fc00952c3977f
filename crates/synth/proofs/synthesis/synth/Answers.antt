use Rattle.std.proofs.Common.{◌≡◌, ◌∙◌, sym, ap, subst}
use Rattle.flow_net.specs.declared.net.Flow.{Flow}
use Rattle.pulse_net.specs.declared.net.PulseNet.{PulseNet}
use Rattle.synth.specs.declared.made.Made.{Made}
use Rattle.synth.specs.Meaning.{MeansText, NeedsFewest}
use Rattle.synth.proofs.TextMeans.{means-tables}
use Rattle.synth.proofs.synthesis.synth.Goals as goal

pub netlist_of-requires-clause-inputs : goal.netlist_of-requires-clause-inputs
netlist_of-requires-clause-inputs c = c.in_ok-gates.ensures.inputs ∙ c.in_ok-subject.ensures.inputs

pub returns-clause-means : goal.returns-clause-means
returns-clause-means c =
    let ordered = c.in_ok-ordered.ordered in
    let net = c.in_ok-laid.laid.net in
    let made : c.made_with.result.net ≡ net = ap (λ (m : Made). m.net) c.made_with.ensures in
    let means = means-tables c.args.phases c.in_ok-gates.gates ordered net (c.in_ok-gates.ensures.outputs ∙ c.in_ok-subject.ensures.outputs)
    (λ row. c.in_ok-gates.ensures.value row ∙ c.in_ok-subject.ensures.value row) c.in_ok-laid.ensures.means in
    subst (MeansText c.args.phases c.args.text.now) (sym made) (record {
      design = ordered.design;
      order = ordered.order;
      is_read = c.in_ok-ordered.ensures.design;
      is_ordered = c.in_ok-ordered.ensures.order;
      means = means;
    })

pub returns-clause-fewest : goal.returns-clause-fewest
returns-clause-fewest c =
    let laid = c.in_ok-laid.laid in
    let net : c.made_with.result.net ≡ laid.net = ap (λ (m : Made). m.net) c.made_with.ensures in
    let flow : c.made_with.result.flow ≡ laid.flow = ap (λ (m : Made). m.flow) c.made_with.ensures in
    subst (λ (n : PulseNet). NeedsFewest n c.made_with.result.flow) (sym net) (subst (NeedsFewest laid.net) (sym flow) c.in_ok-laid.ensures.fewest)
