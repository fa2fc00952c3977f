-- The offers of a queue.
use Rattle.std.specs.Prelude.{List, ◌++◌, map}
use Rattle.std.specs.List.{flat_map}
use Rattle.std.specs.BinaryHeap.{heap_items}
use Rattle.stage_flow.specs.declared.offers.Offer.{Offer}
use Rattle.stage_flow.specs.declared.offers.SmallRises.{SmallRises}
use Rattle.stage_flow.specs.declared.offers.Queue.{Queue}

-- lists of offers one behind the other
abbrev pub joined : List (List Offer) → List Offer
joined lists = flat_map (λ (list : List Offer). list) lists

-- the offers that rise little
abbrev pub small_ones : SmallRises → List Offer
small_ones small = joined (map (λ list. list.items) small.lists.items)

-- the offers that wait: those that gain, then those that rise little, and then all others
abbrev pub waiting : Queue → List Offer
waiting queue = heap_items queue.gaining ++ (small_ones queue.small ++ heap_items queue.large)
