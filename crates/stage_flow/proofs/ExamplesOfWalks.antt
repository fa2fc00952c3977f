-- Labels, layers and the path of the first round on the network of `Examples`: f = a AND NOT b at one phase. Its vertices are the
-- source 0, the NOT 1, the AND 2, the sink 3, and the mirrors 4 to 7 of a, b, the NOT and the AND.
use Rattle.std.proofs.Common.{◌≡◌, ◌<◌, refl, ℕ, ℤ, zero, suc, pos, negsuc, true, false, [], ◌∷◌, map, get_or, All, Any, Some, arith}
use Rattle.std.specs.Prelude.{slice_index_or}
use Rattle.std.proofs.lemmas.List.Elements.{All-from_recursion}
use Rattle.flow_net.specs.declared.net.Net.{Net}
use Rattle.flow_net.specs.declared.net.Flow.{Flow}
use Rattle.flow_net.specs.Flows.{out_minus_in}
use Rattle.stage_flow.specs.Residual.{Way, ways_of}
use Rattle.stage_flow.specs.Longest.{Reach, is_better}
use Rattle.stage_flow.specs.Rounds.{no_units, sender, is_wanting, receiver, best_to, is_reach, path_of, after_round}
use Rattle.stage_flow.specs.LawsOfWalks.{led_by, label, IsFitting, IsTight, AreLabels}

abbrev net : Net
net = record {
  gates = 2;
  drivers = 4;
  pins = record { driver = 1; from = 0; to = 1; weight = 1 }
      ∷ record { driver = 0; from = 0; to = 2; weight = 1 }
      ∷ record { driver = 2; from = 1; to = 2; weight = 1 }
      ∷ record { driver = 3; from = 2; to = 3; weight = 1 } ∷ [];
}

-- the labels before the first round, when all mirrors want
abbrev far : ℕ → ℤ
far vertex = slice_index_or (pos 2 ∷ pos 1 ∷ pos 0 ∷ negsuc 0 ∷ []) vertex (pos 0)

abbrev hops : ℕ → ℕ
hops vertex = slice_index_or (4 ∷ 3 ∷ 2 ∷ 1 ∷ []) vertex 0

abbrev by_way : Way → Reach
by_way way = led_by way (label far hops way.head)

-- Each residual arc fits. Tight are the forward arcs of b, of the NOT and of the AND, and the AND's back arc.
all_fit : map (λ way. is_better (by_way way) (label far hops way.tail)) (ways_of net (no_units net)) ≡ false ∷ false ∷ false ∷ false ∷ false ∷ false ∷ false ∷ false ∷ []
all_fit = refl

some_are_tight : map (λ way. is_reach (Some (by_way way)) (label far hops way.tail)) (ways_of net (no_units net)) ≡ true ∷ false ∷ false ∷ false ∷ true ∷ false ∷ true ∷ true ∷ []
some_are_tight = refl

-- The best to a vertex of a layer is as long as the labels differ, with as many arcs as there are steps.
to_the_sink : best_to net (no_units net) 0 3 ≡ Some (record { length = pos 3; hops = 3 })
to_the_sink = refl

-- The receiver is the AND's mirror, with the source's label.
the_receiver : receiver net (no_units net) 0 ≡ Some (record { vertex = 7; reach = record { length = pos 2; hops = 4 } })
the_receiver = refl

the_path : map (λ (way : Way). way.number) (path_of net (no_units net) (sender net (no_units net))) ≡ 0 ∷ 4 ∷ 6 ∷ 7 ∷ []
the_path = refl

-- One unit leaves the source and comes to the mirror.
the_ends : map (out_minus_in net (after_round net (no_units net))) (0 ∷ 1 ∷ 2 ∷ 3 ∷ 7 ∷ []) ≡ pos 1 ∷ pos 0 ∷ pos 0 ∷ pos 0 ∷ negsuc 0 ∷ []
unfolding after_round
the_ends = refl

-- These are labels: each residual arc fits, a mirror's label is nothing, and out of source, gates and sink there is a tight arc.
abbrev start : Flow
start = no_units net

abbrev way_at : ℕ → Way
way_at place = get_or (ways_of net start) place (record { tail = 0; head = 0; length = pos 0; number = 0; takes = false })

they_fit : All (IsFitting far hops) (ways_of net start)
they_fit = All-from_recursion (IsFitting far hops) (ways_of net start) (refl, (refl, (refl, (refl, (refl, (refl, (refl, (refl, tt))))))))

mirrors_are_nothing : (vertex : ℕ) → is_wanting net start vertex ≡ true → label far hops vertex ≡ record { length = pos 0; hops = 0 }
mirrors_are_nothing zero wants = absurd (cc)
mirrors_are_nothing (suc zero) wants = absurd (cc)
mirrors_are_nothing (suc (suc zero)) wants = absurd (cc)
mirrors_are_nothing (suc (suc (suc zero))) wants = absurd (cc)
mirrors_are_nothing (suc (suc (suc (suc vertex)))) wants = refl

others_go_on : (vertex : ℕ) → vertex < 8 → is_wanting net start vertex ≡ false → Any (λ way. (way.tail ≡ vertex) × IsTight far hops way) (ways_of net start)
others_go_on zero within idle = (0, way_at 0, omega arith, refl, (refl, refl))
others_go_on (suc zero) within idle = (4, way_at 4, omega arith, refl, (refl, refl))
others_go_on (suc (suc zero)) within idle = (6, way_at 6, omega arith, refl, (refl, refl))
others_go_on (suc (suc (suc zero))) within idle = (7, way_at 7, omega arith, refl, (refl, refl))
others_go_on (suc (suc (suc (suc zero)))) within idle = absurd (cc)
others_go_on (suc (suc (suc (suc (suc zero))))) within idle = absurd (cc)
others_go_on (suc (suc (suc (suc (suc (suc zero)))))) within idle = absurd (cc)
others_go_on (suc (suc (suc (suc (suc (suc (suc zero))))))) within idle = absurd (cc)
others_go_on (suc (suc (suc (suc (suc (suc (suc (suc vertex)))))))) within idle = absurd (omega arith)

they_are_labels : AreLabels net start far hops
they_are_labels = record { fits = they_fit; nothing = mirrors_are_nothing; onward = others_go_on }
