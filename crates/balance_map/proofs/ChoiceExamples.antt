-- Worked fan-outs and choices, computed from the definitions.
use Rattle.std.proofs.Common.{◌≡◌, List, [], ◌∷◌, map, true, refl}
use Rattle.std.specs.Ordering.{is_lt}
use Rattle.net_base.specs.declared.graph.GNode.TheVariants.{Inp, Neg, Both}
use Rattle.net_base.specs.declared.graph.Ref.TheVariants.{Const, Node}
use Rattle.net_base.specs.declared.graph.Subject.{Subject}
use Rattle.cut_word.specs.Word.{first_word, packed, leaves_in}
use Rattle.cell_match.specs.declared.matching.Match.{Match}
use Rattle.balance_map.specs.declared.choice.Choice.{Choice}
use Rattle.balance_map.specs.FanOuts.{fan_outs}
use Rattle.balance_map.specs.Choices.{own_choice, choice_of, choice_cmp, best_of}

-- two inputs, the complement of the second, and the conjunction of the first with it; three outputs
subject : Subject
subject = record { graph = record { inputs = 2; nodes = Inp 0 ∷ Inp 1 ∷ Neg 1 ∷ Both 0 2 ∷ [] }; outputs = Node 3 ∷ Node 2 ∷ Const true ∷ Node 2 ∷ [] }

-- Node 2 is read by node 3 and at two outputs; node 3 at an output alone.
fan_outs-all : map (fan_outs subject) (0 ∷ 1 ∷ 2 ∷ 3 ∷ []) ≡ 1 ∷ 1 ∷ 3 ∷ 1 ∷ []
unfolding subject
fan_outs-all = refl

-- what is read by none has one fan-out
fan_outs-none : fan_outs (record { graph = record { inputs = 1; nodes = Inp 0 ∷ [] }; outputs = [] }) 0 ≡ 1
fan_outs-none = refl

-- ---- One output, node 3
single : Subject
unfolding subject
single = record { graph = subject.graph; outputs = Node 3 ∷ [] }

-- the choices of the inputs, and of node 2, which is one Not over node 1
complement : Choice
complement = record { cost = 9; arrival = 1; leaves = 0x4000020000000000; table = 0x55; depth = 1 }

choices : List Choice
choices = own_choice 0 ∷ own_choice 1 ∷ complement ∷ []

-- node 3 as one And over nodes 0 and 2: 11, and 9 of node 2, and a DRO in front of node 0, which is there a level before
near : Match
near = record { leaves = 0x8000010000300000; table = 0x88; depth = 1; cost = 11 }

choice-near : choice_of single choices near ≡ record { cost = 26; arrival = 2; leaves = 0x8000010000300000; table = 0x88; depth = 1 }
unfolding single subject choices complement near choice_of leaves_in first_word packed
choice-near = refl

-- node 3 over both inputs: an And of a DRO and a Not
far : Match
far = record { leaves = 0x8000010000200000; table = 0x22; depth = 2; cost = 26 }

choice-far : choice_of single choices far ≡ record { cost = 26; arrival = 2; leaves = 0x8000010000200000; table = 0x22; depth = 2 }
unfolding single subject choices complement far choice_of leaves_in first_word packed
choice-far = refl

-- With three fan-outs, node 2 costs node 3 a third.
choice-shared : choice_of subject choices near ≡ record { cost = 20; arrival = 2; leaves = 0x8000010000300000; table = 0x88; depth = 1 }
unfolding subject choices complement near choice_of leaves_in first_word packed
choice-shared = refl

-- Cost and arrival are equal, so the lesser cut decides, whatever the order.
least : best_of 3 (map (choice_of single choices) (near ∷ far ∷ [])) ≡ choice_of single choices far
unfolding single subject choices complement near far choice_of leaves_in first_word packed
least = refl

least-turned : best_of 3 (map (choice_of single choices) (far ∷ near ∷ [])) ≡ choice_of single choices far
unfolding single subject choices complement near far choice_of leaves_in first_word packed
least-turned = refl

-- Before cut and depth a lower arrival wins, and before that a lower cost.
arrival-first : is_lt (choice_cmp (record { cost = 5; arrival = 1; leaves = 9; table = 9; depth = 4 }) (record { cost = 5; arrival = 2; leaves = 1; table = 1; depth = 1 })) ≡ true
arrival-first = refl

cost-first : is_lt (choice_cmp (record { cost = 4; arrival = 3; leaves = 9; table = 9; depth = 4 }) (record { cost = 5; arrival = 2; leaves = 1; table = 1; depth = 1 })) ≡ true
cost-first = refl

-- an input is its own choice: the first word and the table of its trivial cut
own : best_of 0 [] ≡ record { cost = 0; arrival = 0; leaves = 0x4000010000000000; table = 0xAA; depth = 0 }
unfolding first_word packed
own = refl
