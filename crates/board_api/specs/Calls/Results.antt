-- The steps that each call adds to its seat's own list, and its result. Lists have the newest step
-- first.
use Rattle.std.specs.Prelude.{◌≡◌, ◌≢◌, ℕ, ◌+◌, ◌*◌, ◌^◌, ◌<◌, ◌≤◌, true, false, List, [], ◌∷◌}
use Rattle.std.specs.Prelude.{◌++◌}
use Rattle.std.specs.Prelude.{Option, Some, None, slice_get, length, map, All}
use Rattle.steer_base.specs.Lanes.{LaneLists}
use Rattle.steer_base.specs.Sets.{has, those_below}
use Rattle.steer_base.specs.declared.cpu_mask.CpuMask.{CpuMask}
use Rattle.steer_base.specs.declared.put.Put.{Put}
use Rattle.backlog.specs.Puts.{put_answer, next_waiting}
use Rattle.hop_rule.specs.Boards.{lane_steps, gate_steps, out_slot}
use Rattle.hop_rule.specs.Gates.{openings}
use Rattle.hop_rule.specs.Lanes.{phase, has_pulled}
use Rattle.hop_rule.specs.OutLanes.{OutList}
use Rattle.hop_rule.specs.declared.sizes.BoardSizes.{BoardSizes}
use Rattle.hop_rule.specs.declared.step.BoardStep.{BoardStep}
use Rattle.hop_rule.specs.declared.step.BoardStep.TheVariants.{Lane, Gate, Weighed, Counted}
use Rattle.hop_rule.specs.declared.step.BoardStep.TheVariants.{LaneOut, LaneIn, OutCounted}
use Rattle.hop_rule.specs.declared.step.Change.{Change}
use Rattle.hop_rule.specs.declared.step.Change.TheVariants.{Nothing, Offered, Pulled}
use Rattle.hop_rule.specs.declared.step.GateStep.TheVariants.{Entered, Turned, Left, Shut}
use Rattle.hop_rule.specs.declared.step.GateStep.TheVariants.{NotShut, Opened}
use Rattle.hop_rule.specs.declared.step.LaneStep.TheVariants.{Held, Missed, Freed, OutHeld}
use Rattle.hop_rule.specs.declared.step.LaneStep.TheVariants.{OutMissed, OutFreed, Given, Retired}
use Rattle.board_api.specs.Calls.HeldLanes.{HoldsKind}
use Rattle.board_api.specs.Seats.{BoardSeatView, Adds}
use Rattle.board_api.specs.StepWords.{low_half, tail_in, is_odd, is_marked}
use Rattle.board_api.specs.declared.answers.CloseAnswer.{CloseAnswer}
use Rattle.board_api.specs.declared.answers.CloseAnswer.TheVariants as close
use Rattle.board_api.specs.declared.answers.Emptied.{Emptied}
use Rattle.board_api.specs.declared.answers.Emptied.TheVariants as emptied
use Rattle.board_api.specs.declared.answers.EnterAnswer.{EnterAnswer}
use Rattle.board_api.specs.declared.answers.EnterAnswer.TheVariants as enter
use Rattle.board_api.specs.declared.answers.Hold.{Hold}
use Rattle.board_api.specs.declared.answers.Hold.TheVariants as hold
use Rattle.board_api.specs.declared.answers.Pull.{Pull}
use Rattle.board_api.specs.declared.answers.Pull.TheVariants as pull
use Rattle.board_api.specs.declared.held_lane.HeldLane.{HeldLane}
use Rattle.board_api.specs.declared.held_lane.HeldLane.TheVariants as held
use Rattle.board_api.specs.declared.held_lane.LaneId.{LaneId}
use Rattle.board_api.specs.declared.held_lane.LaneId.TheVariants as id

-- A seat at a board as contracts see it.
abbrev pub Seat : Type 0
Seat = BoardSeatView

-- ---- visits

-- A visit began at an open gate; or the visitor found the closed mark and backed out.
abbrev pub EnterTells : Seat → Seat → EnterAnswer → Type 0
EnterTells old new enter.Ok =
    (word : ℕ) × (is_marked word ≡ false) × Adds (Gate (Entered word) ∷ []) old new
EnterTells old new (enter.Closed word) =
    (is_marked word ≡ true) × Adds (Gate Left ∷ Gate (Turned word) ∷ []) old new

-- The head is the low half of the word that was loaded.
abbrev pub WeighTells : ℕ → Seat → Seat → ℕ → Type 0
WeighTells lane old new answer =
    (word : ℕ) × (answer ≡ low_half word) × Adds (Weighed lane word ∷ []) old new

-- ---- words of lanes

-- The step of a load of a lane's word, with the word that was found.
abbrev pub CountedAt : LaneId → ℕ → BoardStep
CountedAt (id.Middle l) word = Counted l word
CountedAt (id.Out o) word = OutCounted o word

-- The tail is that of the word that was loaded.
abbrev pub TailTells : LaneId → Seat → Seat → ℕ → Type 0
TailTells lane old new answer =
    (word : ℕ) × (answer ≡ tail_in word) × Adds (CountedAt lane word ∷ []) old new

-- ---- holds

-- The middle lane was taken with this content, and moved out of its slot.
pub record TookMiddle (l : ℕ) (content : LaneLists) (old new : Seat) : Type 0 where
  pub word : ℕ
  pub free : is_odd word ≡ false
  pub step : Adds (LaneOut l ∷ Lane (Held l word content) ∷ []) old new

-- The out lane was taken with this content, and moved out of its slot.
pub record TookOut (about : BoardSizes) (o : ℕ) (content : OutList) (old new : Seat)
    : Type 0 where
  pub word : ℕ
  pub free : is_odd word ≡ false
  pub step : Adds (LaneOut (out_slot about o) ∷ Lane (OutHeld o word content) ∷ []) old new

-- The lane that was taken is the one that was asked for.
abbrev pub Took : BoardSizes → LaneId → Seat → Seat → HeldLane → Type 0
Took about (id.Middle l) old new (held.Middle i content) =
    (i ≡ l) × TookMiddle l content old new
Took about (id.Out o) old new (held.Out i content) =
    (i ≡ o) × TookOut about o content old new
Took about (id.Middle l) old new (held.Out i content) = ⊥
Took about (id.Out o) old new (held.Middle i content) = ⊥

-- The step of a lane that was not taken, with the word that was found.
abbrev pub MissedAt : LaneId → ℕ → BoardStep
MissedAt (id.Middle l) word = Lane (Missed l word)
MissedAt (id.Out o) word = Lane (OutMissed o word)

-- The lane was taken and the seat holds it now; or its word was odd, since a seat holds it.
abbrev pub HoldTells : BoardSizes → LaneId → Seat → Seat → Hold → Type 0
HoldTells about lane old new (hold.Ok h) =
    Took about lane old new h × HoldsKind about new.steps lane h
HoldTells about lane old new (hold.Held word) =
    (is_odd word ≡ true) × Adds (MissedAt lane word ∷ []) old new

-- ---- releases: the slot was taken again, its lane moved in, and the lane's word released

-- The steps of a release of the middle lane l with a change.
abbrev pub released : ℕ → Change → List BoardStep
released l change = Lane (Freed l change) ∷ LaneIn l ∷ []

-- The lane was given back unchanged.
abbrev pub BackTells : BoardSizes → HeldLane → Seat → Seat → Type 0
BackTells about (held.Middle l content) old new = Adds (released l Nothing) old new
BackTells about (held.Out o content) old new =
    Adds (Lane (OutFreed o) ∷ LaneIn (out_slot about o) ∷ []) old new

-- The packet was offered to the lane as it was found.
abbrev pub PutTells : HeldLane → ℕ → Option ℕ → Seat → Seat → Put → Type 0
PutTells (held.Middle l content) packet hash old new answer =
    (answer ≡ put_answer content hash) × Adds (released l (Offered packet hash answer)) old new
PutTells (held.Out o content) packet hash old new answer = Unit {0}

-- The packet that waited longest in the lane as it was found was pulled, if there was one.
abbrev pub PullTells : BoardSizes → HeldLane → Seat → Seat → Pull → Type 0
PullTells about (held.Middle l content) old new (pull.Took packet) =
    (next_waiting content ≡ Some packet) × (packet < about.room)
    × Adds (released l (Pulled packet)) old new
PullTells about (held.Middle l content) old new pull.Empty =
    (next_waiting content ≡ None) × Adds (released l Nothing) old new
PullTells about (held.Out o content) old new answer = Unit {0}

-- The packet that the seat had pulled was appended to the out lane as it was found.
abbrev pub DeliverTells : BoardSizes → HeldLane → ℕ → Seat → Seat → ℕ → Type 0
DeliverTells about (held.Middle l content) from old new place = Unit {0}
DeliverTells about (held.Out o content) from old new place =
    (packet : ℕ) × (phase from (lane_steps old.steps) ≡ has_pulled packet)
    × (place ≡ length content.items + 1)
    × Adds (Lane (Given o from packet place) ∷ LaneIn (out_slot about o) ∷ []) old new

-- The packet at index n of the out lane as it was found, if there is one.
abbrev pub ReadTells : BoardSizes → HeldLane → ℕ → Option ℕ → Type 0
ReadTells about (held.Middle l content) n answer = Unit {0}
ReadTells about (held.Out o content) n (Some packet) =
    (slice_get content.items n ≡ Some packet) × (packet < about.room)
ReadTells about (held.Out o content) n None = slice_get content.items n ≡ None

-- The head was raised, with the word that was found.
abbrev pub RetireTells : ℕ → Seat → Seat → Type 0
RetireTells lane old new = (word : ℕ) × Adds (Lane (Retired lane word) ∷ []) old new

-- ---- the closer

-- The gate was closed, and nothing was found empty since; or visits were open in the word that was
-- read, at most one of each other seat.
abbrev pub CloseTells : BoardSizes → Seat → Seat → CloseAnswer → Type 0
CloseTells about old new close.Ok =
    new ≡ record old {
      steps = Gate (Shut (openings (gate_steps old.steps) * 2 ^ 32)) ∷ old.steps;
      has_emptied = false;
    }
CloseTells about old new (close.Inside n) =
    (word : ℕ) × (n ≡ low_half word) × (0 < n) × (n + 1 ≤ about.seats)
    × Adds (Gate (NotShut word) ∷ []) old new

-- The gate was opened, and nothing was found empty since.
abbrev pub OpenTells : Seat → Seat → Type 0
OpenTells old new =
    new ≡ record old { steps = Gate Opened ∷ old.steps; has_emptied = false }

-- The words of the head of a lane and of the lane, loaded in this order.
pub record Looked : Type 0 where
  pub lane : ℕ
  pub head : ℕ
  pub tail : ℕ

-- The two loads of each lane, in the order of the list.
abbrev pub looking : List Looked → List BoardStep → List BoardStep
looking [] steps = steps
looking (x ∷ xs) steps =
    looking xs (Counted x.lane x.tail ∷ Weighed x.lane x.head ∷ steps)

-- The lane was empty when it was looked at: its head is its tail, as counter numbers.
abbrev pub IsEmpty : Looked → Type 0
IsEmpty x = low_half x.head ≡ tail_in x.tail

-- The lanes of the board in a set, ascending.
abbrev pub lanes_in : BoardSizes → CpuMask → List ℕ
lanes_in about mask = those_below about.lanes (has mask)

-- Each lane of the set was looked at and found empty.
pub record FindsAll (about : BoardSizes) (mask : CpuMask) (old new : Seat) : Type 0 where
  pub looked : List Looked
  pub lanes : map (λ (x : Looked). x.lane) looked ≡ lanes_in about mask
  pub empty : All IsEmpty looked
  pub step : new ≡ record old { steps = looking looked old.steps; has_emptied = true }

-- The lanes of the set up to this one were looked at, and only this one was not empty.
pub record FindsFirst (about : BoardSizes) (mask : CpuMask) (old new : Seat)
    (lane head tail : ℕ) : Type 0 where
  pub looked : List Looked
  pub last : Looked
  pub rest : List ℕ
  pub lanes : map (λ (x : Looked). x.lane) looked ++ lane ∷ rest ≡ lanes_in about mask
  pub empty : All IsEmpty looked
  pub lane_is : last.lane ≡ lane
  pub head_is : head ≡ low_half last.head
  pub tail_is : tail ≡ tail_in last.tail
  pub apart : head ≢ tail
  pub step : new ≡ record old { steps = looking (looked ++ last ∷ []) old.steps }

-- The lanes of the set were all found empty, or this is the first that was not.
abbrev pub EmptiedTells : BoardSizes → CpuMask → Seat → Seat → Emptied → Type 0
EmptiedTells about mask old new emptied.Ok = FindsAll about mask old new
EmptiedTells about mask old new (emptied.NotEmpty lane head tail) =
    FindsFirst about mask old new lane head tail
