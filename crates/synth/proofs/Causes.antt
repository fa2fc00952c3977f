-- No layer's definition refuses a text for want of memory, and so neither does the whole.
use Rattle.std.proofs.Common.{◌≡◌, ◌≢◌, ℕ, Bool, true, false, cond, List, length, Ok, Err, Some, None, Result, Option, nat_lt}
use Rattle.net_base.specs.Answers.{◌>>=◌}
use Rattle.net_base.specs.declared.graph.Subject.{Subject}
use Rattle.net_base.specs.declared.graph.TheConstants.{MAX_NODES}
use Rattle.blif_model.specs.declared.design.Design.{Design}
use Rattle.blif_model.specs.declared.design.Ordered.{Ordered}
use Rattle.blif_model.specs.Order.{Refusal, DuplicateDriver as DrivenTwice, Undriven as NotDriven, Cycle as OnCycle, table_order}
use Rattle.blif_read.specs.Reading.{design_of}
use Rattle.subject_graph.specs.Tables.{subject_of}
use Rattle.balance_map.specs.Cover.{cover_of}
use Rattle.gate_net.specs.declared.net.GateNet.{GateNet}
use Rattle.dro_chains.specs.declared.chain.Chained.{Chained}
use Rattle.pulse_net.specs.declared.net.PulseNet.{PulseNet}
use Rattle.splitters.specs.Elements.{elements_of}
use Rattle.synth.specs.declared.fault.SynthFault.{SynthFault}
use Rattle.synth.specs.declared.fault.SynthFault.TheVariants.{Blif, TooManyNodes, TooManyDros, NoMemory}
use Rattle.synth.specs.declared.made.Made.{Made}
use Rattle.synth.specs.declared.made.TheConstants.{MAX_GATES}
use Rattle.synth.specs.Clocking.{clocks, clock_flow}
use Rattle.synth.specs.Meaning.{names_of}
use Rattle.synth.specs.Synth.{refused_as, order_fault, reads, orders, within_nodes, within_gates, ordered_in, covers, chains_within, nets_within, made_of, synth_of}
use Rattle.synth.specs.Laws.{RefusalsHaveCauses}

-- an answer that isn't refused for want of memory
abbrev HasCause : {A : Type 0} → Result A SynthFault → Type 0
HasCause answer = answer ≢ Err NoMemory

-- Steps that have causes have one together.
bind-cause : {A B : Type 0} (first : Result A SynthFault) (go : A → Result B SynthFault) → HasCause first → ((a : A) → HasCause (go a)) → HasCause (first >>= go)
bind-cause (Ok a) go has each = each a
bind-cause (Err fault) go has each = λ same. let e : fault ≡ NoMemory = cc in has (λ i. Err (e i))

-- What each layer says.
refused_as-cause : {A E : Type 0} (tell : E → SynthFault) (answer : Result A E) → ((e : E) → tell e ≢ NoMemory) → HasCause (refused_as tell answer)
refused_as-cause tell (Ok a) told = λ same. absurd cc
refused_as-cause tell (Err e) told = λ same. told e cc

order_fault-cause : (refusal : Refusal) → order_fault refusal ≢ NoMemory
order_fault-cause (DrivenTwice name) = λ same. absurd cc
order_fault-cause (NotDriven name) = λ same. absurd cc
order_fault-cause (OnCycle line) = λ same. absurd cc

orders-cause : (design : Design) → HasCause (orders design)
orders-cause design =
    bind-cause (refused_as order_fault (table_order design)) (λ order. Ok (record { design = design; order = order }))
    (refused_as-cause order_fault (table_order design) order_fault-cause) (λ order. λ same. absurd cc)

nodes-cause : (subject : Subject) → HasCause (within_nodes subject)
nodes-cause subject = by (nat_lt MAX_NODES (length subject.graph.nodes))
  where
    by : (b : Bool) → HasCause (cond b (Err TooManyNodes) (Ok subject))
    by true = λ same. absurd cc
    by false = λ same. absurd cc

gates-cause : (gates : Option GateNet) → HasCause (within_gates gates)
gates-cause None = λ same. absurd cc
gates-cause (Some gates) = λ same. absurd cc

nets-cause : (n : ℕ) (design : Design) (gates : GateNet) → HasCause (nets_within n design gates)
nets-cause n design gates =
    bind-cause (chains_within n gates) (λ chained. Ok (elements_of chained (names_of design)))
    (refused_as-cause TooManyDros (clocks n gates) (λ count. λ same. absurd cc)) (λ chained. λ same. absurd cc)

pub refusals_have_causes : RefusalsHaveCauses
unfolding synth_of
refusals_have_causes n text =
    bind-cause (ordered_in text)
    (λ (ordered : Ordered). within_nodes (subject_of ordered) >>= λ subject. covers subject >>= λ gates. nets_within n ordered.design gates >>= λ net. Ok (made_of ordered.design subject net (clock_flow n gates)))
    (bind-cause (reads text) orders (refused_as-cause Blif (design_of text) (λ fault. λ same. absurd cc)) orders-cause)
    (λ ordered.
    bind-cause (within_nodes (subject_of ordered))
    (λ (subject : Subject). covers subject >>= λ gates. nets_within n ordered.design gates >>= λ net. Ok (made_of ordered.design subject net (clock_flow n gates)))
    (nodes-cause (subject_of ordered))
    (λ subject.
    bind-cause (covers subject) (λ (gates : GateNet). nets_within n ordered.design gates >>= λ net. Ok (made_of ordered.design subject net (clock_flow n gates)))
    (gates-cause (cover_of MAX_GATES subject))
    (λ gates.
    bind-cause (nets_within n ordered.design gates) (λ (net : PulseNet). Ok (made_of ordered.design subject net (clock_flow n gates)))
    (nets-cause n ordered.design gates) (λ net. λ same. absurd cc))))
