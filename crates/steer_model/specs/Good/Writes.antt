-- A good history's writes to the socket flow table (kernel scaling chapter, section RFS).
use Rattle.std.specs.Prelude.{ℕ, ◌≡◌, ◌⊎◌, List, [], ◌∷◌, Some, None, slice_get}
use Rattle.steer_base.specs.Choices.{class_of}
use Rattle.steer_base.specs.Counters.{rounded_up}
use Rattle.steer_base.specs.declared.command.Command.TheVariants as give
use Rattle.history.specs.Lists.{list_at}
use Rattle.history.specs.declared.history.History.{History}
use Rattle.history.specs.declared.sock_write.SockWrite.{SockWrite}
use Rattle.steer_model.specs.Good.Inputs.{Input, WasDone, setup_in}
use Rattle.steer_model.specs.State.Setup.{packet_hash}

-- ---- clause 9

-- a size of the socket flow table in the run: the plan's, or that of a done command, rounded up
abbrev pub IsSize : Input → History → ℕ → Type 0
IsSize i h size =
    (size ≡ rounded_up i.plan.sock) ⊎ ((n : ℕ) × (size ≡ rounded_up n) × WasDone h (give.Sock n))

-- where an application stood: by the plan, or by a done command
abbrev pub StoodAt : Input → History → ℕ → ℕ → Type 0
StoodAt i h a cpu = (slice_get i.plan.apps a ≡ Some cpu) ⊎ WasDone h (give.Stand a cpu)

-- The write of an application for a packet with this hash: its entry by a size of the run that is
-- not 0, and a processor where the application stood.
pub record IsWrite (i : Input) (h : History) (a hash : ℕ) (w : SockWrite) : Type 0 where
  pub size : ℕ
  pub is_size : IsSize i h size
  pub at : class_of size (Some hash) ≡ Some w.entry
  pub stood : StoodAt i h a w.cpu

-- One write for each of these packets that has a hash, in their order. Where 0 is a size of the
-- run, a packet may have none; without a hash it has none.
abbrev pub AreWrites : Input → History → ℕ → List ℕ → List SockWrite → Type 0
AreWrites i h a [] ws = ws ≡ []
AreWrites i h a (x ∷ xs) ws =
    ((packet_hash (setup_in i) x ≡ None) × AreWrites i h a xs ws)
    ⊎ ((hash : ℕ) × (w : SockWrite) × (rest : List SockWrite)
    × (packet_hash (setup_in i) x ≡ Some hash) × (ws ≡ w ∷ rest)
    × IsWrite i h a hash w × AreWrites i h a xs rest)
    ⊎ ((hash : ℕ) × (packet_hash (setup_in i) x ≡ Some hash) × IsSize i h 0 × AreWrites i h a xs ws)

-- The writes of each application are those of its inbox.
abbrev pub WritesAreRight : Input → History → Type 0
WritesAreRight i h = (a : ℕ) → AreWrites i h a (list_at h.inboxes a) (list_at h.writes a)
