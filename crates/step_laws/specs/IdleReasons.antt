-- Where a step of one event is enabled, and the reason for which it is idle elsewhere: by the stage
-- of its actor's hand, and by whether the actor is inside its gate.
use Rattle.std.specs.Prelude.{ℕ, ◌+◌, ◌<◌, ◌≤◌, ◌≡◌, Bool, true, false, not, ◌||◌, nat_lt, List}
use Rattle.std.specs.Prelude.{[], ◌∷◌, Option, None, is_some, length, unwrap_or, if◌then◌else◌}
use Rattle.steer_base.specs.declared.command.Answer.{Answer}
use Rattle.steer_base.specs.declared.command.Answer.TheVariants as says
use Rattle.steer_base.specs.declared.filter.Filter.{Filter}
use Rattle.steer_base.specs.declared.idle.Idle.{Idle}
use Rattle.steer_base.specs.declared.idle.Idle.TheVariants as idle
use Rattle.steer_base.specs.declared.packet.Packet.{Packet}
use Rattle.steer_base.specs.declared.step.Step.{Step}
use Rattle.steer_base.specs.declared.step.Step.TheVariants as act
use Rattle.hop_model.specs.Hop.{Bare, HopState, accepted_at, arrivals_of, choices_of, delivered_at}
use Rattle.hop_model.specs.Hop.{inside_of, placed_of, pulled_at, retired_at, taken_of}
use Rattle.plan_reader.specs.declared.plan.Plan.{Plan}
use Rattle.steer_model.specs.Steps.Applications.{next_in}
use Rattle.steer_model.specs.State.Machine.{Machine, note_of}
use Rattle.steer_model.specs.State.Setup.{flow_hash}
use Rattle.steer_model.specs.State.Start.{new_machine}
use Rattle.steer_model.specs.Steps.SingleSteps.{is_command, simple}
use Rattle.steer_model.specs.Steps.CompoundSteps.{after}
use Rattle.steer_model.specs.declared.note.Note.{Note}
use Rattle.steer_model.specs.declared.note.Note.TheVariants as note

-- ---- the stages of a hand

-- A hand is empty or has a packet. A poller has one that it took, looked up or weighed, or asks for
-- a filter for the one that it put; an application has a reply that it sent or weighed; a lane is
-- full with a packet to deliver, or has one that it delivered.
pub data Stage : Type 0 where
  Empty : Stage
  Taken : Stage
  Looked : Stage
  Weighed : Stage
  Asking : Stage
  Sent : Stage
  Full : Stage
  Delivered : Stage

-- whether a hand is at this stage
abbrev pub is_at : Stage → Stage → Bool
is_at Empty Empty = true
is_at Taken Taken = true
is_at Looked Looked = true
is_at Weighed Weighed = true
is_at Asking Asking = true
is_at Sent Sent = true
is_at Full Full = true
is_at Delivered Delivered = true
is_at _ _ = false

-- whether a producer has a packet to weigh
abbrev pub weighs_next : HopState → ℕ → Bool
weighs_next s p = nat_lt (length (choices_of s p)) (taken_of s p)

-- whether a producer has a packet to put
abbrev pub puts_next : HopState → ℕ → Bool
puts_next s p = nat_lt (placed_of s p) (length (choices_of s p))

-- the stage of a poller, by its note and by whether it has a packet to weigh and one to put
abbrev pub poller_stage : Note → Bool → Bool → Stage
poller_stage (note.Looked want) weighs puts = Looked
poller_stage (note.Asking filter) weighs puts = Asking
poller_stage note.Nothing weighs true = Weighed
poller_stage note.Nothing true false = Taken
poller_stage note.Nothing false false = Empty

-- the stage of a poller's hand
abbrev pub poller_hand : Machine → ℕ → Stage
poller_hand m q = poller_stage (note_of m q) (weighs_next m.rx q) (puts_next m.rx q)

-- the stage of an application, by whether it has a reply to weigh and one to put
abbrev pub sender_stage : Bool → Bool → Stage
sender_stage weighs true = Weighed
sender_stage true false = Sent
sender_stage false false = Empty

-- the stage of an application's hand
abbrev pub sender_hand : Machine → ℕ → Stage
sender_hand m a = sender_stage (weighs_next m.tx a) (puts_next m.tx a)

-- the stage of a lane, by whether it has a packet to deliver and one to retire
abbrev pub lane_stage : Bool → Bool → Stage
lane_stage true retires = Full
lane_stage false true = Delivered
lane_stage false false = Empty

-- the stage of a lane's hand
abbrev pub lane_hand : Bare → ℕ → Stage
lane_hand b c =
    lane_stage (nat_lt (delivered_at b c) (pulled_at b c))
    (nat_lt (retired_at b c) (delivered_at b c))

-- ---- what a step needs

-- a condition of a step, and the reason for which the step is idle without it
abbrev pub Need : Type 0
Need = Bool × Idle

-- the answer done if all conditions hold, otherwise idle for the first that does not
abbrev pub answer_by_needs : List Need → Answer
answer_by_needs [] = says.Done
answer_by_needs (need ∷ needs) = if need.0 then answer_by_needs needs else says.Idle need.1

-- what a pull needs
abbrev pub pull_needs : Bare → ℕ → List Need
pull_needs b c =
    (is_at (lane_hand b c) Empty, idle.HandFull)
    ∷ (nat_lt (pulled_at b c) (length (accepted_at b c)), idle.NothingWaiting) ∷ []

-- what a delivery needs
abbrev pub deliver_needs : Bare → ℕ → List Need
deliver_needs b c =
    (not (is_at (lane_hand b c) Empty), idle.HandEmpty)
    ∷ (is_at (lane_hand b c) Full, idle.AlreadyDelivered) ∷ []

-- what a retire needs
abbrev pub retire_needs : Bare → ℕ → List Need
retire_needs b c =
    (not (is_at (lane_hand b c) Empty), idle.HandEmpty)
    ∷ (is_at (lane_hand b c) Delivered, idle.NotDelivered) ∷ []

-- what an event needs that is made inside the gate with the hand at a stage
abbrev pub stage_needs : HopState → ℕ → Stage → Stage → List Need
stage_needs s a hand stage =
    (inside_of s a, idle.NotInside) ∷ (is_at hand stage, idle.WrongStage) ∷ []

-- what leaving the gate needs: the hand empty or at this stage
abbrev pub leave_needs : HopState → ℕ → Stage → Stage → List Need
leave_needs s a hand stage =
    (inside_of s a, idle.NotInside)
    ∷ (is_at hand Empty || is_at hand stage, idle.MidPacket) ∷ []

-- What a step of one event needs, in the order of the reasons; a step of many events needs nothing
-- here.
abbrev pub needs : Machine → Step → List Need
needs m act.Arrive =
    (nat_lt (length m.arrivals) (length m.setup.packets), idle.NothingLeft) ∷ []
needs m (act.Take q) =
    (is_at (poller_hand m q) Empty, idle.HandFull)
    ∷ (nat_lt (taken_of m.rx q) (length (arrivals_of m.rx q)), idle.RingEmpty) ∷ []
needs m (act.Enter q) = (not (inside_of m.rx q), idle.AlreadyInside) ∷ []
needs m (act.Look q) = stage_needs m.rx q (poller_hand m q) Taken
needs m (act.Weigh q) = stage_needs m.rx q (poller_hand m q) Looked
needs m (act.Put q) = stage_needs m.rx q (poller_hand m q) Weighed
needs m (act.Ask q) = stage_needs m.rx q (poller_hand m q) Asking
needs m (act.Leave q) = leave_needs m.rx q (poller_hand m q) Taken
needs m (act.Pull c) = pull_needs m.rx.bare c
needs m (act.Deliver c) = deliver_needs m.rx.bare c
needs m (act.Retire c) = retire_needs m.rx.bare c
needs m (act.Record flow) =
    (is_some (flow_hash m.setup flow), idle.NoFlow)
    ∷ (is_some (unwrap_or (flow_hash m.setup flow) None), idle.NoHash)
    ∷ (nat_lt 0 (length m.socket), idle.NoTable) ∷ []
needs m (act.Send a) =
    (is_at (sender_hand m a) Empty, idle.HandFull)
    ∷ (is_some (next_in m a), idle.InboxDone) ∷ []
needs m (act.TEnter a) = (not (inside_of m.tx a), idle.AlreadyInside) ∷ []
needs m (act.TLeave a) = leave_needs m.tx a (sender_hand m a) Sent
needs m (act.TWeigh a) = stage_needs m.tx a (sender_hand m a) Sent
needs m (act.TPut a) = stage_needs m.tx a (sender_hand m a) Weighed
needs m (act.TPull t) = pull_needs m.tx.bare t
needs m (act.TDeliver t) = deliver_needs m.tx.bare t
needs m (act.TRetire t) = retire_needs m.tx.bare t
needs m _ = (false, idle.Nothing) ∷ []

-- ---- the laws

-- In a hop each producer and each lane has at most one packet in hand.
pub record IsStaged (s : HopState) : Type 0 where
  pub weighed : (p : ℕ) → placed_of s p ≤ length (choices_of s p)
  pub taken : (p : ℕ) → length (choices_of s p) ≤ taken_of s p
  pub one : (p : ℕ) → taken_of s p ≤ placed_of s p + 1
  pub delivered : (c : ℕ) → delivered_at s.bare c ≤ pulled_at s.bare c
  pub retired : (c : ℕ) → retired_at s.bare c ≤ delivered_at s.bare c
  pub one_pulled : (c : ℕ) → pulled_at s.bare c ≤ retired_at s.bare c + 1
  pub counted : length s.placed ≡ length s.choices

-- In both hops of a machine each hand has at most one packet; a poller that looked has a packet to
-- weigh, and one that asks for a filter has put what it took.
pub record AreStaged (m : Machine) : Type 0 where
  pub rx : IsStaged m.rx
  pub tx : IsStaged m.tx
  pub looked : (q : ℕ) (want : Option ℕ) → note_of m q ≡ note.Looked want
      → length (choices_of m.rx q) < taken_of m.rx q
  pub asking : (q : ℕ) (filter : Filter) → note_of m q ≡ note.Asking filter
      → taken_of m.rx q ≤ placed_of m.rx q

-- In a new machine each hand has at most one packet.
abbrev pub NewIsStaged : Type 0
NewIsStaged =
    (plan : Plan) (packets : List Packet) (cut : Option ℕ)
    → AreStaged (new_machine plan packets cut)

-- After any steps each hand still has at most one packet.
abbrev pub StepsKeepStaged : Type 0
StepsKeepStaged = (ss : List Step) (m : Machine) → AreStaged m → AreStaged (after ss m)

-- A step of one event is done if and only if all that it needs holds, and otherwise idle for the
-- first reason.
abbrev pub IdleForFirstReason : Type 0
IdleForFirstReason =
    (m : Machine) (s : Step) → AreStaged m → is_command s ≡ false
    → (simple m s).1 ≡ answer_by_needs (needs m s)
