-- The tries of a controller touch no lane.
use Rattle.std.specs.List.{filter_map}
use Rattle.steer_base.specs.Commands.{refusal}
use Rattle.steer_base.specs.declared.command.Answer.{Answer}
use Rattle.steer_base.specs.declared.command.Answer.TheVariants as says
use Rattle.steer_base.specs.declared.command.Busy.TheVariants as busy
use Rattle.steer_base.specs.declared.command.Command.{Command}
use Rattle.steer_base.specs.declared.command.Command.TheVariants as give
use Rattle.steer_base.specs.declared.command.Refused.{Refused}
use Rattle.steer_base.specs.declared.cpu_mask.CpuMask.{CpuMask}
use Rattle.history.specs.declared.commanded.Commanded.{Commanded}
use Rattle.hop_rule.specs.Boards.{lane_steps}
use Rattle.hop_rule.specs.Owns.{PutMade, put_made}
use Rattle.hop_rule.specs.declared.step.BoardStep.TheVariants.{Counted, LaneIn, LaneOut, OutCounted}
use Rattle.hop_rule.specs.declared.step.Change.TheVariants.{Nothing, Offered, Pulled}
use Rattle.hop_rule.specs.declared.step.LaneStep.{LaneStep}
use Rattle.hop_rule.specs.declared.step.LaneStep.TheVariants.{Freed, Given, Held, Missed, OutFreed}
use Rattle.hop_rule.specs.declared.step.LaneStep.TheVariants.{OutMissed, Retired}
use Rattle.board_api.specs.Calls.Results.{Looked, looking}
use Rattle.board_api.specs.Seats.{BoardSeatView}
use Rattle.run_words.specs.declared.shared.Shared.{Shared}
use Rattle.run_controller.specs.Gated.{IsGated}
use Rattle.run_controller.specs.Attempts.{DoesAtOnce, TriesBy, TriesUnless}
use Rattle.run_controller.specs.Expiries.{ExpiresFirst, LooksAt}
use Rattle.run_controller.specs.Journals.{AllAttempted, known_from}
use Rattle.run_controller.specs.Settings.{KnownSettings, receive_change, transmit_change}
use Rattle.run_controller.specs.Stages.{Stage}
use Rattle.run_controller.specs.declared.change.Change.{Change}
use Rattle.run_words.specs.declared.seats.Seats.{Seats}
use Rattle.run_crew.specs.ThreadLaws.{ControllersTouchNoLane, TouchesNoLane}
use Rattle.run_crew.proofs.Names.{◌≡◌, ℕ, List, [], ◌∷◌, ◌++◌, Option, Some, None, refl, ap, ◌∙◌}
use Rattle.run_crew.proofs.Names.{Bool, length, sym, Filter, puts_of, Gate, Lane, Weighed, OutHeld}
use Rattle.run_crew.proofs.Names.{BoardSizes, BoardStep, filter_in, HintView}

-- A seat has the lane steps that it had.
abbrev LanesStay : BoardSeatView → BoardSeatView → Type 0
LanesStay old new = lane_steps new.steps ≡ lane_steps old.steps

abbrev BothStay : Seats → Seats → Type 0
BothStay old new = LanesStay old.rx new.rx × LanesStay old.tx new.tx

looks-stay : (xs : List Looked) (steps : List BoardStep)
    → lane_steps (looking xs steps) ≡ lane_steps steps
looks-stay [] steps = refl
looks-stay (x ∷ xs) steps = looks-stay xs _

-- ---- behind a gate

gated-stay : (about : BoardSizes) (lanes : CpuMask) (number value : ℕ) (old new : BoardSeatView)
    (answer : Answer) → IsGated about lanes number value old new answer → LanesStay old new
gated-stay about lanes number value old new says.Done
    (mid, (shut, closes, finds), (made, sets, opens)) =
    ap (λ (s : BoardSeatView). lane_steps s.steps) opens
    ∙ (ap (λ (s : BoardSeatView). lane_steps s.steps) sets
    ∙ (ap (λ (s : BoardSeatView). lane_steps s.steps) finds.step
    ∙ (looks-stay finds.looked shut.steps
    ∙ ap (λ (s : BoardSeatView). lane_steps s.steps) closes)))
gated-stay about lanes number value old new (says.Busy (busy.Inside n))
    (word, is, some, few, adds) =
    ap (λ (s : BoardSeatView). lane_steps s.steps) adds
gated-stay about lanes number value old new (says.Busy (busy.NotEmpty lane head tail))
    (mid, looked, closes, finds, opens) =
    ap (λ (s : BoardSeatView). lane_steps s.steps) opens
    ∙ (ap (λ (s : BoardSeatView). lane_steps s.steps) finds.step
    ∙ (looks-stay (finds.looked ++ finds.last ∷ []) mid.steps
    ∙ ap (λ (s : BoardSeatView). lane_steps s.steps) closes))
gated-stay about lanes number value old new (says.Idle why) no_way = absurd no_way
gated-stay about lanes number value old new (says.CpuInUse user) no_way = absurd no_way
gated-stay about lanes number value old new says.CpuOffline no_way = absurd no_way
gated-stay about lanes number value old new (says.Expired count) no_way = absurd no_way

-- ---- an expiry

looks-at-stay : (shared : Shared) (place value : ℕ) (f : Option Filter)
    (old new : BoardSeatView) (hint_old hint_new : HintView) (cleared : Bool)
    → LooksAt shared place value f old new hint_old hint_new cleared → LanesStay old new
looks-at-stay shared place value None old new hint_old hint_new cleared (same, hints, none) =
    ap (λ (s : BoardSeatView). lane_steps s.steps) same
looks-at-stay shared place value (Some f) old new hint_old hint_new cleared
    (head, flows, adds, clears) =
    ap (λ (s : BoardSeatView). lane_steps s.steps) adds

expires-stay : (shared : Shared) (outcomes : List Bool) (old new : BoardSeatView)
    (hint_old hint_new : HintView) → ExpiresFirst shared outcomes old new hint_old hint_new
    → LanesStay old new
expires-stay shared [] old new hint_old hint_new (same, hints) =
    ap (λ (s : BoardSeatView). lane_steps s.steps) same
expires-stay shared (cleared ∷ rest) old new hint_old hint_new
    (mid, hint_mid, before, (value, one)) =
    looks-at-stay shared (length rest) value
    (filter_in value (length shared.given.homes) shared.given.cpus) mid new _ hint_new cleared one
    ∙ expires-stay shared rest old mid hint_old hint_mid before

-- ---- a try

at-once-stay : (shared : Shared) (c : Command) (answer : Answer) (old new : Seats)
    → DoesAtOnce shared c answer old new → BothStay old new
at-once-stay shared (give.Reta entry q) answer old new (done, stores) = (
  ap (λ (s : Seats). lane_steps s.rx.steps) stores,
  ap (λ (s : Seats). lane_steps s.tx.steps) stores,
)
at-once-stay shared (give.Stand app cpu) answer old new (done, stores) = (
  ap (λ (s : Seats). lane_steps s.rx.steps) stores,
  ap (λ (s : Seats). lane_steps s.tx.steps) stores,
)
at-once-stay shared give.Expire answer old new (count, is, same, e) = (
  ap (λ (z : BoardSeatView). lane_steps z.steps) e.leaves
      ∙ (expires-stay shared e.all.outcomes e.first e.last old.hint new.hint e.all.expires
      ∙ ap (λ (z : BoardSeatView). lane_steps z.steps) e.enters),
  ap (λ (s : BoardSeatView). lane_steps s.steps) same,
)
at-once-stay shared (give.Mask q mask) answer old new no_way = absurd no_way
at-once-stay shared (give.Flows q count) answer old new no_way = absurd no_way
at-once-stay shared (give.Sock size) answer old new no_way = absurd no_way
at-once-stay shared (give.Offline cpu) answer old new no_way = absurd no_way
at-once-stay shared (give.Online cpu) answer old new no_way = absurd no_way
at-once-stay shared (give.XCpus tx mask) answer old new no_way = absurd no_way
at-once-stay shared (give.XQueues tx queues) answer old new no_way = absurd no_way

tries-stay : (s : Stage) (c : Command) (rx tx : Option Change) (answer : Answer) (old new : Seats)
    → TriesBy s c rx tx answer old new → BothStay old new
tries-stay s c (Some m) other answer old new tries = (
  gated-stay s.rx.sizes tries.gated.0 m.number m.value old.rx new.rx answer tries.gated.2,
  ap (λ (z : BoardSeatView). lane_steps z.steps) tries.tx,
)
tries-stay s c None (Some m) answer old new tries = (
  ap (λ (z : BoardSeatView). lane_steps z.steps) tries.rx,
  gated-stay s.tx.sizes tries.gated.0 m.number m.value old.tx new.tx answer tries.gated.2,
)
tries-stay s c None None answer old new tries = at-once-stay s.shared c answer old new tries

unless-stay : (s : Stage) (k : KnownSettings) (c : Command) (why : Option Refused) (answer : Answer)
    (old new : Seats) → TriesUnless s k c why answer old new → BothStay old new
unless-stay s k c (Some why) answer old new (is, same) =
    (ap (λ (z : Seats). lane_steps z.rx.steps) same, ap (λ (z : Seats). lane_steps z.tx.steps) same)
unless-stay s k c None answer old new tries =
    tries-stay s c (receive_change (length s.shared.given.homes) k c)
    (transmit_change s.shared.given.txs c) answer old new tries

all-stay : (s : Stage) (first : KnownSettings) (late : List Commanded) (old new : Seats)
    → AllAttempted s first late old new → BothStay old new
all-stay s first [] old new same =
    (ap (λ (z : Seats). lane_steps z.rx.steps) same, ap (λ (z : Seats). lane_steps z.tx.steps) same)
all-stay s first (g ∷ rest) old new (mid, before, one) =
    let k = known_from first rest in
    let a = all-stay s first rest old mid before in
    let b =
    unless-stay s k g.command
    (refusal k.settings.online g.command s.shared.given.homes k.settings.stands) g.answer mid new
    one in
    (b.0 ∙ a.0, b.1 ∙ a.1)

-- ---- puts are lane steps

abbrev put-at : LaneStep → Option PutMade
put-at (Freed l (Offered id hash answer)) = Some (put_made l id hash answer)
put-at _ = None

puts-at : (ds : List BoardStep) → puts_of ds ≡ filter_map put-at (lane_steps ds)
unfolding put-at
puts-at [] = refl
puts-at (Lane (Held l w x) ∷ ds) = puts-at ds
puts-at (Lane (Missed l w) ∷ ds) = puts-at ds
puts-at (Lane (Freed l Nothing) ∷ ds) = puts-at ds
puts-at (Lane (Freed l (Offered id hash answer)) ∷ ds) =
    ap (λ xs. put_made l id hash answer ∷ xs) (puts-at ds)
puts-at (Lane (Freed l (Pulled id)) ∷ ds) = puts-at ds
puts-at (Lane (OutHeld o w x) ∷ ds) = puts-at ds
puts-at (Lane (OutMissed o w) ∷ ds) = puts-at ds
puts-at (Lane (OutFreed o) ∷ ds) = puts-at ds
puts-at (Lane (Given o from id place) ∷ ds) = puts-at ds
puts-at (Lane (Retired l w) ∷ ds) = puts-at ds
puts-at (Gate g ∷ ds) = puts-at ds
puts-at (Weighed l w ∷ ds) = puts-at ds
puts-at (Counted l w ∷ ds) = puts-at ds
puts-at (OutCounted o w ∷ ds) = puts-at ds
puts-at (LaneOut s ∷ ds) = puts-at ds
puts-at (LaneIn s ∷ ds) = puts-at ds

touches : (old new : BoardSeatView) → LanesStay old new → TouchesNoLane old new
touches old new same =
    record {
      lanes = same;
      puts = puts-at new.steps ∙ (ap (filter_map put-at) same ∙ sym (puts-at old.steps));
    }

pub controllers_touch_no_lane : ControllersTouchNoLane
controllers_touch_no_lane s before after first last old new a =
    let both = all-stay s first a.late old new a.attempted in
    (touches old.rx new.rx both.0, touches old.tx new.tx both.1)
