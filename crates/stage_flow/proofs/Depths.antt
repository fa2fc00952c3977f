-- Labels for one sender, from lengths and a search breadth first. Lengths to the wanting mirrors fit, and a residual arc is level
-- where they differ by just its length. Go breadth first from the sender over level arcs, until a layer has a mirror that wants.
-- What is left to that layer's depth is a label's number of arcs, and nothing where a vertex is deeper or wasn't met: a level arc
-- leads at most one layer down, so it fits, and it is tight just where it leads to the next layer.
use Rattle.std.proofs.Common.{◌≡◌, ◌≤◌, ◌+◌, ◌-◌, ℕ, ℤ, pos, List, [], ◌∷◌, length, get_or, All, ap, arith, ⊎_elim}
use Rattle.std.proofs.lemmas.Bool.{cases_lt}
use Rattle.std.proofs.lemmas.Int.{ints}
use Rattle.std.proofs.lemmas.List.Elements.{All-nil, All-cons, All-head, All-tail}
use Rattle.flow_net.specs.declared.net.Net.{Net}
use Rattle.flow_net.specs.declared.net.Flow.{Flow}
use Rattle.stage_flow.specs.Residual.{Way, ways_of}
use Rattle.stage_flow.specs.LawsOfWalks.{IsWalk, led_by, label, IsFitting, IsTight, FitsWay, potential_by, IsLevel, AreDepths, SearchesGiveLabels}
use Rattle.stage_flow.proofs.Walks.{test-no_better, reach-same}

-- What is left to a depth.
abbrev left : ℕ → (ℕ → ℕ) → ℕ → ℕ
left last depth vertex = last - depth vertex

fits-by_depth : (net : Net) (flow : Flow) (far : ℕ → ℤ) (depth : ℕ → ℕ) (from last mirror : ℕ) → AreDepths net flow far depth from last mirror → All (IsFitting far (left last depth)) (ways_of net flow)
fits-by_depth net flow far depth from last mirror depths k d within =
    let way = get_or (ways_of net flow) k d in
    let hops = left last depth in
    let rises : FitsWay (potential_by far) way = depths.fits k d within in
    test-no_better (led_by way (label far hops way.head)) (label far hops way.tail) (record {
      no_longer = omega (arith, ints, rises);
      no_fewer = λ same.
          let level : IsLevel (potential_by far) way = omega (arith, ints, same) in
          ⊎_elim {C = hops way.tail ≤ hops way.head + 1} (λ higher. let next = depths.next k d within level higher in omega (arith, next))
          (λ deep. omega (arith, deep)) (cases_lt (depth way.tail) last);
    })

-- A walk of level arcs, each to the next layer, is tight as far as the last layer.
tight-by_depth : (ways : List Way) (far : ℕ → ℤ) (depth : ℕ → ℕ) (from to last : ℕ) (walk : List Way) → IsWalk ways from to walk → All (λ way. IsLevel (potential_by far) way × (depth way.head ≡ depth way.tail + 1)) walk → depth to ≤ last → All (IsTight far (left last depth)) walk × (depth from + length walk ≡ depth to)
tight-by_depth ways far depth from to last [] here down end =
    let same = ap depth here in
    (All-nil (IsTight far (left last depth)), omega (arith, same))
tight-by_depth ways far depth from to last (way ∷ walk) (there, begins, goes) down end =
    let IsDown : Way → Type 0 = λ one. IsLevel (potential_by far) one × (depth one.head ≡ depth one.tail + 1) in
    let own = All-head IsDown way walk down in
    let level = own.0 in
    let next = own.1 in
    let rest = tight-by_depth ways far depth way.head to last walk goes (All-tail IsDown way walk down) end in
    let many = rest.1 in
    let start = ap depth begins in
    let hops = left last depth in
    let tight : IsTight far hops way =
    reach-same (led_by way (label far hops way.head)) (label far hops way.tail) (omega (arith, ints, level)) (omega (arith, next, many, end)) in
    (All-cons (IsTight far hops) way walk tight rest.0, omega (arith, next, many, start))

pub searches_give_labels : SearchesGiveLabels
searches_give_labels net flow far depth from last mirror depths =
    let found = tight-by_depth (ways_of net flow) far depth from mirror last depths.walk depths.goes depths.down (let end = depths.ends in omega (arith, end)) in record {
      fits = fits-by_depth net flow far depth from last mirror depths;
      nothing = λ v wants.
          let deep = depths.first v wants in
          reach-same (label far (left last depth) v) (record { length = pos 0; hops = 0 }) (depths.nothing v wants) (omega (arith, deep));
      served = record {
        mirror = mirror;
        wants = depths.wants;
        walk = depths.walk;
        tight = record { goes = depths.goes; tight = found.0 };
      };
    }
