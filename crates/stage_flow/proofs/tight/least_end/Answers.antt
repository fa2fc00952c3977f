use Rattle.std.proofs.Common.{◌≡◌, ◌≤◌, ◌-◌, ◌^◌, ◌⊎◌, ℕ, inr, All, Contains, sym, subst, arith}
use Rattle.std.proofs.lemmas.List.{take_all}
use Rattle.std.proofs.lemmas.List.Elements.{Contains-get_or}
use Rattle.stage_flow.specs.Given.{count_at}
use Rattle.stage_flow.proofs.SendingPath.{least-more}
use Rattle.stage_flow.proofs.tight.least_end.Goals as goal
use Rattle.stage_flow.proofs.tight.least_end.Goals.{then-hops-vertex-eq0+then-vertex-least, else-hops-vertex-eq0, else-hops-vertex-eq0-via-then-hops-vertex-eq0+else-vertex-least, else-hops-vertex-eq0-via-else-hops-vertex-eq0}

pub loop-vertex-preserved : goal.loop-vertex-preserved
loop-vertex-preserved c =
    let hops = c.args.hops.now in
    let reached = c.args.reached.now in
    let i = c.loop-vertex.vertex-index in
    let least = c.loop-vertex.least in
    let next = c.if-hops-vertex-eq0.least in
    let within = c.loop-vertex-test.true in
    let IsFound : ℕ → Type 0 = λ n. (n ≡ 2 ^ 32 - 1) ⊎ (Contains reached n × (count_at hops n ≡ 0)) in
    elim c.if-hops-vertex-eq0.branch [
      | then-hops-vertex-eq0+then-vertex-least w ↦
          let is = w.least-is in
          let less = w.if-vertex-least.true in (
            least-more hops reached i least next within c.loop-vertex.invariant.0 (omega (arith, is, less)) (λ none. omega (arith, is)),
            subst IsFound (sym is) (inr (Contains-get_or reached i 0 within, w.if-hops-vertex-eq0.true)),
          )
      | else-hops-vertex-eq0 w ↦
          let is = w.least-is in
          elim w.else-hops-vertex-eq0.branch [
            | else-hops-vertex-eq0-via-then-hops-vertex-eq0+else-vertex-least w' ↦
                let most = w'.if-vertex-least.false in (
                  least-more hops reached i least next within c.loop-vertex.invariant.0 (omega (arith, is)) (λ none. omega (arith, is, most)),
                  subst IsFound (sym is) c.loop-vertex.invariant.1,
                )
            | else-hops-vertex-eq0-via-else-hops-vertex-eq0 w' ↦ (
              least-more hops reached i least next within c.loop-vertex.invariant.0 (omega (arith, is)) (λ none. absurd (w'.if-hops-vertex-eq0.false none)),
              subst IsFound (sym is) c.loop-vertex.invariant.1,
            )
          ]
    ]

pub returns-clause-least : goal.returns-clause-least
returns-clause-least c =
    subst (All (λ vertex. count_at c.args.hops.now vertex ≡ 0 → c.loop-vertex.least ≤ vertex)) (take_all c.loop-vertex.vertex-index c.args.reached.now c.loop-vertex-test.false) c.loop-vertex.invariant.0
