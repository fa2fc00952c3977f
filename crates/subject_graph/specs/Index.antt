-- The index of nodes: those of one bucket are linked, each to the last one before it.
use Rattle.std.specs.Prelude.{◌≡◌, ◌==◌, ◌<◌, ◌+◌, ◌*◌, ◌/◌, ◌%◌, ◌^◌, ℕ, zero, suc, List, length, slice_index, if◌then◌else◌}
use Rattle.net_base.specs.declared.graph.GNode.{GNode}
use Rattle.net_base.specs.declared.graph.GNode.TheVariants.{Inp, Neg, Both}
use Rattle.subject_graph.specs.declared.nodes.TheConstants.{BUCKETS, FIRST_FACTOR, SECOND_FACTOR, BUCKET_SIZE}
use Rattle.subject_graph.specs.Nodes.{node_at}

-- the bucket of two numbers: the first bits of a sum of their products
abbrev pub bucket_of_two : ℕ → ℕ → ℕ
bucket_of_two a b = ((a * FIRST_FACTOR % 2 ^ 64 + b * SECOND_FACTOR % 2 ^ 64) % 2 ^ 64 / BUCKET_SIZE) % BUCKETS

-- the bucket of a node
unfoldable pub bucket_of : GNode → ℕ
bucket_of (Inp k) = bucket_of_two k 0
bucket_of (Neg a) = bucket_of_two 0 a
bucket_of (Both a b) = bucket_of_two a b

-- the last of the first nodes that is in this bucket, by its place plus 1, and 0 where there is none
abbrev pub last_in : List GNode → ℕ → ℕ → ℕ
last_in nodes bucket zero = 0
last_in nodes bucket (suc k) = if bucket_of (node_at nodes k) == bucket then suc k else last_in nodes bucket k

-- the head of each bucket is its last node, and each node is linked to the last one of its bucket before it
pub record IsLinked (heads links : List ℕ) (nodes : List GNode) : Type 0 where
  pub buckets : length heads ≡ BUCKETS
  pub last : (bucket : ℕ) → bucket < BUCKETS → slice_index heads bucket ≡ last_in nodes bucket (length nodes)
  pub linked : length links ≡ length nodes
  pub before : (place : ℕ) → place < length nodes → slice_index links place ≡ last_in nodes (bucket_of (node_at nodes place)) place
