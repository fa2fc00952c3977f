-- Spreading a wire over targets, by a tree of splitters.
use Rattle.std.specs.Prelude.{ℕ, zero, suc, ◌+◌, ◌-◌, ◌*◌, ◌/◌, List, [], ◌∷◌, ◌++◌}
use Rattle.pulse_net.specs.declared.net.Element.{Element}
use Rattle.pulse_net.specs.declared.net.Element.TheVariants.{Split}

-- the targets that the left wire of a splitter goes to: half of them, and one more than half where they are odd
abbrev pub first_half : ℕ → ℕ
first_half targets = (targets + 1) / 2

-- The splitters that spread a wire over its targets, `targets` of them. Over one target it is joined. Over two or more a
-- splitter makes the next two wires; the left one is spread over the first half, and then the right one over the rest. The
-- first number bounds the depth.
abbrev pub tree_lines : ℕ → ℕ → ℕ → ℕ → List Element
tree_lines zero wire next targets = []
tree_lines (suc depth) wire next zero = []
tree_lines (suc depth) wire next (suc zero) = []
tree_lines (suc depth) wire next (suc (suc more)) =
    Split wire next (next + 1)
    ∷ (tree_lines depth next (next + 2) (first_half (suc (suc more)))
    ++ tree_lines depth (next + 1) (next + 2 * first_half (suc (suc more))) (suc (suc more) - first_half (suc (suc more))))

-- the wires of the targets, in the order of the targets
abbrev pub tree_wires : ℕ → ℕ → ℕ → ℕ → List ℕ
tree_wires zero wire next targets = []
tree_wires (suc depth) wire next zero = []
tree_wires (suc depth) wire next (suc zero) = wire ∷ []
tree_wires (suc depth) wire next (suc (suc more)) =
    tree_wires depth next (next + 2) (first_half (suc (suc more)))
    ++ tree_wires depth (next + 1) (next + 2 * first_half (suc (suc more))) (suc (suc more) - first_half (suc (suc more)))

-- the splitters for these targets, and the targets' wires; no tree is deeper than its targets are many
abbrev pub spread_lines : ℕ → ℕ → ℕ → List Element
spread_lines wire next targets = tree_lines targets wire next targets

abbrev pub spread_wires : ℕ → ℕ → ℕ → List ℕ
spread_wires wire next targets = tree_wires targets wire next targets
