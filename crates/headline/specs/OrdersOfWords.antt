-- What the words that the threads of a run share leave in a history: what caused a filter or a want
-- that was seen, and that it came before (kernel scaling chapter, sections RFS and accelerated
-- RFS).
use Rattle.std.specs.Prelude.{IsSome, ℕ, ◌≡◌, ◌≢◌, ◌<◌, ◌≤◌, None, Some, length, slice_get}
use Rattle.std.specs.List.{Contains}
use Rattle.history.specs.Lists.{list_at}
use Rattle.history.specs.Regular.{route_of}
use Rattle.history.specs.declared.arrival.Arrival.{Arrival}
use Rattle.history.specs.declared.history.History.{History}
use Rattle.history.specs.declared.sent.Sent.{Sent}
use Rattle.history.specs.declared.sock_write.SockWrite.{SockWrite}
use Rattle.hop_model.specs.Hop.{chosen_at}
use Rattle.steer_base.specs.Arrivals.{route}
use Rattle.steer_base.specs.Choices.{class_of}
use Rattle.steer_base.specs.Counters.{rounded_up}
use Rattle.steer_base.specs.declared.command.Command.TheVariants as give
use Rattle.steer_model.specs.Good.Arrivals.{FilterFrom}
use Rattle.steer_model.specs.Good.Inputs.{Input, WasDone, setup_in, settings_at}
use Rattle.steer_model.specs.Good.Writes.{IsSize}
use Rattle.steer_model.specs.State.Setup.{packet_hash}

-- ---- filters

-- A filter by which a packet came was set by the move of a packet that arrived before it.
abbrev pub FiltersAreOlder : Input → History → Type 0
FiltersAreOlder i h =
    (a : Arrival) (hash queue : ℕ) → Contains h.arrivals a
    → packet_hash (setup_in i) a.id ≡ Some hash → route_of a ≡ route (Some hash) (Some queue) 0
    → (f : FilterFrom i h hash queue) × (f.choice.id < a.id)

-- ---- wants

-- The n-th write of an application was made for its k-th reply's packet: the entry is that of the
-- packet's hash, by a size that the socket flow table had in the run.
pub record IsWriteFor (i : Input) (h : History) (app n k : ℕ) : Type 0 where
  pub write : SockWrite
  pub sent : Sent
  pub is : slice_get (list_at h.writes app) n ≡ Some write
  pub for : slice_get (list_at h.sent app) k ≡ Some sent
  pub size : ℕ
  pub is_size : IsSize i h size
  pub entry : class_of size (packet_hash (setup_in i) sent.id) ≡ Some write.entry

-- Each write of an application was made for a packet that it took: the write's number gives that of
-- the reply. They are in the order of the packets, and no two writes are for one packet.
pub record WritesHavePackets (i : Input) (h : History) (reply : (app write : ℕ) → ℕ) : Type 0 where
  pub rise : (a m n : ℕ) → m < n → n < length (list_at h.writes a) → reply a m < reply a n
  pub each : (a n : ℕ) → n < length (list_at h.writes a) → IsWriteFor i h a n (reply a n)

-- The want of choice k of queue q was written for another packet than this one and those that the
-- queue chose for later: no choice of the queue from k on is for it.
pub record WasWrittenBefore (h : History) (reply : (app write : ℕ) → ℕ) (q k entry want : ℕ)
    : Type 0 where
  pub app : ℕ
  pub index : ℕ
  pub is : slice_get (list_at h.writes app) index ≡ Some (record { entry = entry; cpu = want })
  pub sent : Sent
  pub for : slice_get (list_at h.sent app) (reply app index) ≡ Some sent
  pub older : (j : ℕ) → k ≤ j → j < length (list_at h.choices q)
      → (chosen_at (list_at h.choices q) j).id ≢ sent.id

-- Each want that is set was written before, at the entry of the packet's hash by the size after the
-- commands of the choice: not for this packet, nor for one that its queue steered later.
pub record WantsAreOlder (i : Input) (h : History) (at : (queue choice : ℕ) → ℕ) : Type 0 where
  pub reply : (app write : ℕ) → ℕ
  pub packets : WritesHavePackets i h reply
  pub wants : (q k want : ℕ) → k < length (list_at h.choices q)
      → (chosen_at (list_at h.choices q) k).choice.want ≡ Some want
      → (entry : ℕ)
      × (class_of (settings_at i h (at q k)).sock
      (packet_hash (setup_in i) (chosen_at (list_at h.choices q) k).id) ≡ Some entry)
      × WasWrittenBefore h reply q k entry want

-- A want that is set is unset again by nothing but a done command that sets the size of the socket
-- flow table: if a later choice of the queue, which has a class and the same entry, wants none,
-- there was such a command.
abbrev pub WantsStaySet : Input → History → Type 0
WantsStaySet i h =
    (q j k want entry : ℕ) → j < k → k < length (list_at h.choices q)
    → (chosen_at (list_at h.choices q) j).choice.want ≡ Some want
    → class_of (rounded_up i.plan.sock)
    (packet_hash (setup_in i) (chosen_at (list_at h.choices q) j).id) ≡ Some entry
    → class_of (rounded_up i.plan.sock)
    (packet_hash (setup_in i) (chosen_at (list_at h.choices q) k).id) ≡ Some entry
    → IsSome (chosen_at (list_at h.choices q) k).choice.class
    → (chosen_at (list_at h.choices q) k).choice.want ≡ None
    → (size : ℕ) × WasDone h (give.Sock size)
