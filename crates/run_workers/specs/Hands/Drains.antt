-- A middle lane that a seat empties, by the seat's own list.
use Rattle.std.specs.Prelude.{◌≡◌, ◌⊎◌, ℕ, ◌<◌, ◌≤◌, Bool, true, false, List, [], ◌∷◌, Option}
use Rattle.std.specs.Prelude.{None, Some, IsSome, All, length}
use Rattle.steer_base.specs.Counters.{number}
use Rattle.steer_base.specs.Lanes.{LaneLists}
use Rattle.steer_model.specs.State.Setup.{Setup, app_for}
use Rattle.hop_rule.specs.Boards.{lane_steps, out_slot}
use Rattle.hop_rule.specs.Deliveries.{Delivery}
use Rattle.hop_rule.specs.Lanes.{Phase, idle, has_pulled, phase}
use Rattle.hop_rule.specs.OutLanes.{OutList}
use Rattle.hop_rule.specs.declared.sizes.BoardSizes.{BoardSizes}
use Rattle.hop_rule.specs.declared.step.BoardStep.{BoardStep}
use Rattle.hop_rule.specs.declared.step.BoardStep.TheVariants.{Counted, Lane, LaneIn}
use Rattle.hop_rule.specs.declared.step.LaneStep.TheVariants.{Missed, OutFreed, OutMissed}
use Rattle.board_api.specs.Calls.Results.{PullTells, TookMiddle, TookOut}
use Rattle.board_api.specs.OwnSteps.{delivered_by, retired_by}
use Rattle.board_api.specs.Seats.{BoardSeatView, Adds}
use Rattle.board_api.specs.StepWords.{is_odd, tail_in}
use Rattle.board_api.specs.declared.answers.Pull.TheVariants as pull
use Rattle.board_api.specs.declared.held_lane.HeldLane.TheVariants as held
use Rattle.run_workers.specs.Hands.Deltas.{Serves, this_lane}
use Rattle.run_workers.specs.declared.drain.Drain.{Drain}
use Rattle.run_workers.specs.declared.drain.Exit.{Exit}
use Rattle.run_workers.specs.declared.drain.Exit.TheVariants.{Inboxes, Port}

-- the out lane of a packet
abbrev pub out_for : Exit → Setup → ℕ → ℕ
out_for Inboxes given id = app_for given id
out_for Port given id = 0

-- the number of out lanes among which an exit is
abbrev pub outs_of : Exit → Setup → ℕ
outs_of Inboxes given = given.apps
outs_of Port given = 1

-- the hand of a seat for a lane, with a packet that was pulled, or empty
abbrev pub hand_phase : Option ℕ → Phase
hand_phase None = idle
hand_phase (Some id) = has_pulled id

-- By the seat's own list the drain has its packet in hand and has retired its count, and each
-- delivery from its lane was to the out lane of its packet.
pub record IsDrain (given : Setup) (d : Drain) (own : List BoardStep) : Type 0 where
  pub hand : phase d.lane (lane_steps own) ≡ hand_phase d.hand
  pub retired : d.retired ≡ length (retired_by d.lane own)
  pub right : All (λ (g : Delivery). g.to ≡ out_for d.exit given g.id) (delivered_by d.lane own)

-- The word of the lane was loaded.
abbrev pub Looks : ℕ → BoardSeatView → BoardSeatView → Type 0
Looks lane old new = (word : ℕ) × Adds (Counted lane word ∷ []) old new

-- ---- where a drain stops

-- The seat got no packet from the middle lane l: it loaded the lane's word, whose tail was this
-- count; or another seat held the lane; or no packet waited in the lane that it took.
abbrev pub FindsNone : BoardSizes → (l count : ℕ) → BoardSeatView → BoardSeatView → Type 0
FindsNone about l count old new =
    ((word : ℕ) × (tail_in word ≡ count) × Adds (Counted l word ∷ []) old new)
    ⊎ ((word : ℕ) × (is_odd word ≡ true) × Adds (Lane (Missed l word) ∷ []) old new)
    ⊎ ((content : LaneLists) × (mid : BoardSeatView) × TookMiddle l content old mid
    × PullTells about (held.Middle l content) mid new pull.Empty)

-- The seat could deliver nothing to the out lane o: another seat held it, or it had no room.
abbrev pub FindsNoRoom : BoardSizes → ℕ → BoardSeatView → BoardSeatView → Type 0
FindsNoRoom about o old new =
    ((word : ℕ) × (is_odd word ≡ true) × Adds (Lane (OutMissed o word) ∷ []) old new)
    ⊎ ((content : OutList) × (mid : BoardSeatView) × (content.room ≤ length content.items)
    × TookOut about o content old mid
    × Adds (Lane (OutFreed o) ∷ LaneIn (out_slot about o) ∷ []) mid new)

-- The drain had no packet in hand and got none from its lane, whose tail was no further than its
-- count; or it could not deliver the packet in its hand.
abbrev pub StopsAt : BoardSizes → Setup → Drain → Option ℕ → BoardSeatView → BoardSeatView → Type 0
StopsAt about given d None old new = FindsNone about d.lane (number d.start d.retired) old new
StopsAt about given d (Some id) old new = FindsNoRoom about (out_for d.exit given id) old new

-- The last that a drain's seat did shows why it goes no further.
pub record StopsHere (about : BoardSizes) (given : Setup) (d : Drain) (old new : BoardSeatView)
    : Type 0 where
  pub mid : BoardSeatView
  pub serves : Serves (this_lane d.lane) old mid
  pub last : StopsAt about given d d.hand mid new

-- A drain has stopped: it goes no further, or has retired as many packets as there are.
abbrev pub Stops : BoardSizes → Setup → Drain → BoardSeatView → BoardSeatView → Type 0
Stops about given d old new =
    (length given.packets ≤ d.retired) ⊎ StopsHere about given d old new

-- Nothing was pulled and nothing delivered; or a packet was, and is retired or in hand.
abbrev pub Moves : Drain → Drain → Bool → Type 0
Moves d e false = e ≡ d
Moves d e true =
    (d.retired < e.retired) ⊎ ((d.hand ≡ None) × IsSome e.hand × (e.retired ≡ d.retired))
