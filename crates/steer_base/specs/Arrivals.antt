-- The receive queue of an arriving packet (kernel scaling chapter, sections RSS and accelerated
-- RFS; 128 entries as the redirection table of the Intel 82599).
use Rattle.std.specs.Prelude.{ℕ, ◌%◌, ◌≡◌, List, Option, Some, None, map}
use Rattle.std.specs.List.{range_with_len}
use Rattle.steer_base.specs.Choices.{class_of}

-- the filter that a hash is looked up at, among so many
abbrev pub filter_place : ℕ → Option ℕ → Option ℕ
filter_place filters hash = class_of filters hash

-- the entry of the redirection table that a hash is looked up at
abbrev pub table_place : ℕ → ℕ
table_place hash = hash % 128

-- the entries of the table by which so many queues get them in turn: entry i has queue `i mod
-- queues`
unfoldable pub even_entries : ℕ → List ℕ
even_entries queues = map (λ i. i % queues) (range_with_len 0 128)

-- a queue with the value that led to it: a filter's queue, an entry's queue, or neither
pub record Route : Type 0 where
  pub queue : ℕ
  pub filter : Option ℕ
  pub entry : Option ℕ

-- Queue 0 without a hash; the queue of the filter that was seen, where one was; else that of the
-- entry that was seen.
abbrev pub route : Option ℕ → Option ℕ → ℕ → Route
route None filter entry = record { queue = 0; filter = None; entry = None }
route (Some hash) (Some queue) entry = record { queue = queue; filter = Some queue; entry = None }
route (Some hash) None entry = record { queue = entry; filter = None; entry = Some entry }

-- A packet with this hash goes this way for some values seen.
abbrev pub IsRoute : Option ℕ → Route → Type 0
IsRoute hash r = (filter : Option ℕ) × (entry : ℕ) × (r ≡ route hash filter entry)
