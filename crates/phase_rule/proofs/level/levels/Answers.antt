use Rattle.std.proofs.Common.{◌≡◌, ◌≤◌, ◌+◌, ◌++◌, ◌∙◌, ℕ, List, [], ◌∷◌, map, All, drop, sym, ap, subst, arith}
use Rattle.std.proofs.lemmas.List.Elements.{All-push, All-weaker}
use Rattle.net_base.specs.PerItem.{per_item}
use Rattle.gate_net.specs.Entries.{entry_of}
use Rattle.phase_rule.specs.Levels.{level_of, largest}
use Rattle.net_base.proofs.CallerLemmas.{per_item-more}
use Rattle.phase_rule.proofs.CallerLemmas.{largest-entries-le}
use Rattle.phase_rule.proofs.level.levels.Goals as goal

-- A gate's level is at most its place, counted from 1.
All-push_level : (levels : List ℕ) (i level : ℕ) → All (λ n. n ≤ i) levels → level ≤ i + 1 → All (λ n. n ≤ i + 1) (levels ++ level ∷ [])
All-push_level levels i level bound least =
    All-push (λ n. n ≤ i + 1) levels level (All-weaker (λ n. n ≤ i) (λ n. n ≤ i + 1) (λ n h. omega arith) levels bound) least

pub loop-row-preserved : goal.loop-row-preserved
loop-row-preserved c =
    let done = c.loop-row.levels.items in
    let rows = c.as_slice-row-items.result.now in
    let i = c.loop-row.row-index in
    let row = c.row-item.result in
    let found : c.largest_level-level.result ≡ largest (map (entry_of done) row.pins) =
    c.largest_level-level.ensures.largest
    ∙ ap (λ levels. largest (map (entry_of levels) c.as_slice-in-loop-row.result.now)) c.as_slice.ensures.value
    ∙ ap (λ pins. largest (map (entry_of done) pins)) c.as_slice-in-loop-row.ensures in
    let least : c.largest_level-level.result ≤ i = omega (arith, found, largest-entries-le done i row.pins c.loop-row.invariant.1) in
    let pushed = c.in_ok-push.ensures.items in (
      ap (λ levels. per_item level_of levels (drop (i + 1) rows)) (pushed ∙ ap (λ n. done ++ (1 + n) ∷ []) found)
          ∙ per_item-more level_of done rows i row c.loop-row-test.true c.row-item.is
          ∙ c.loop-row.invariant.0,
      subst (All (λ n. n ≤ i + 1)) (sym pushed) (All-push_level done i (1 + c.largest_level-level.result) c.loop-row.invariant.1 (omega arith)),
    )
