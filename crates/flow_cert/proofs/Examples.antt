-- The network of f = a and not b at one phase, with its flow and its epochs, evaluated: a false definition fails here.
use Rattle.std.specs.Prelude.{◌≡◌, pos, [], ◌∷◌, refl}
use Rattle.flow_net.specs.declared.net.Net.{Net}
use Rattle.flow_net.specs.declared.net.Epochs.{Epochs}
use Rattle.flow_net.specs.declared.net.Flow.{Flow}
use Rattle.flow_cert.specs.declared.verdict.Cause.TheVariants.{Length, Unbalanced, Balance, Value}
use Rattle.flow_cert.specs.declared.verdict.Verdict.TheVariants.{Fewest, Bad}
use Rattle.flow_cert.specs.Verdicts.{verdict_of}

-- gate 0 turns b, and gate 1 joins a with it
abbrev network : Net
network = record {
  gates = 2;
  drivers = 4;
  pins = record { driver = 1; from = 0; to = 1; weight = 1 }
      ∷ (record { driver = 0; from = 0; to = 2; weight = 1 }
      ∷ (record { driver = 2; from = 1; to = 2; weight = 1 }
      ∷ (record { driver = 3; from = 2; to = 3; weight = 1 } ∷ [])));
}

abbrev flow : Flow
flow = record {
  pins = record { forward = 2; back = 1 }
      ∷ (record { forward = 0; back = 1 } ∷ (record { forward = 2; back = 1 } ∷ (record { forward = 1; back = 1 } ∷ [])));
}

abbrev earliest : Epochs
earliest = record { gates = 1 ∷ (2 ∷ []); sink = 3 }

yes : verdict_of network earliest flow ≡ Fewest 1
yes = refl

-- One unit less on the first pin: the source sends 1, and wants to send 2.
abbrev short : Flow
short = record {
  pins = record { forward = 1; back = 1 }
      ∷ (record { forward = 0; back = 1 } ∷ (record { forward = 2; back = 1 } ∷ (record { forward = 1; back = 1 } ∷ [])));
}

short-source : verdict_of network earliest short ≡ Bad (Balance 0 (pos 1) (pos 2))
short-source = refl

abbrev nothing : Flow
nothing = record { pins = [] }

no-lines : verdict_of network earliest nothing ≡ Bad (Length 0 4)
no-lines = refl

-- A latency of 4 costs one DRO more behind gate 1.
abbrev late : Epochs
late = record { gates = 1 ∷ (2 ∷ []); sink = 4 }

late-costs_more : verdict_of network late flow ≡ Bad (Value (pos 1) (pos 2))
late-costs_more = refl

-- Both gates at epoch 1: the pin between them has no gap.
abbrev level : Epochs
level = record { gates = 1 ∷ (1 ∷ []); sink = 3 }

level-too_near : verdict_of network level flow ≡ Bad (Unbalanced 2 (pos 0) 1)
level-too_near = refl
