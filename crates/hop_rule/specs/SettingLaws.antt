-- What a lawful order of steps shows of its gate and its settings.
use Rattle.std.specs.Prelude.{◌≡◌, ◌≢◌, ◌↔◌, ℕ, ◌+◌, ◌*◌, ◌/◌, ◌^◌, ◌<◌, ◌≤◌, List, Some, length}
use Rattle.linearization.specs.Orders.{StepBy}
use Rattle.hop_rule.specs.Boards.{IsLawful, gate_steps, gates_of, lane_at, lanes_of}
use Rattle.hop_rule.specs.Boards.{settings}
use Rattle.hop_rule.specs.Deliveries.{Delivery, delivered_from}
use Rattle.hop_rule.specs.Emptied.{WasEmptied}
use Rattle.hop_rule.specs.Events.{sum_below}
use Rattle.hop_rule.specs.Gates.{closed, gate_word, inside, is_open, opened, openings, outside}
use Rattle.hop_rule.specs.Gates.{own_settings, visit, visit_number}
use Rattle.hop_rule.specs.Moments.{IsStep, nth_step, past}
use Rattle.hop_rule.specs.Owns.{own_of}
use Rattle.hop_rule.specs.PutLaws.{WasPut, lane_then}
use Rattle.hop_rule.specs.Sizes.{FitSizes, closer}
use Rattle.hop_rule.specs.declared.sizes.BoardSizes.{BoardSizes}
use Rattle.hop_rule.specs.declared.sizes.TheConstants.{MAX_OPENINGS}
use Rattle.hop_rule.specs.declared.step.BoardStep.{BoardStep}
use Rattle.hop_rule.specs.declared.step.BoardStep.TheVariants.{Gate, Weighed, Counted}
use Rattle.hop_rule.specs.declared.step.GateStep.{GateStep}
use Rattle.hop_rule.specs.declared.step.GateStep.TheVariants.{Entered, Left, Read, Set}

-- The steps at the gate in the own list of the seat q.
abbrev pub own_gate : List (StepBy BoardStep) → ℕ → List GateStep
own_gate order q = gate_steps (own_of order q)

-- The closer's own steps at the gate.
abbrev pub closers : BoardSizes → List (StepBy BoardStep) → List GateStep
closers about order = own_gate order (closer about)

-- ---- the gate's word

-- The number of seats on a visit or backing out.
abbrev pub open_visits : BoardSizes → List (StepBy BoardStep) → ℕ
open_visits about order = sum_below (λ q. is_open (visit (own_gate order q))) about.seats

-- The gate's word is the sum of the open visits of all seats, 2^31 if the closer has closed the
-- gate and not opened it since, and 2^32 for each of its openings. The first is below 2^31. While
-- the gate is closed no seat is inside, and the closer is outside.
pub record IsGateWord (about : BoardSizes) (order : List (StepBy BoardStep)) : Type 0 where
  pub word : gate_word (gates_of order)
      ≡ open_visits about order + 2 ^ 31 * closed (closers about order)
      + 2 ^ 32 * openings (closers about order)
  pub few : open_visits about order ≤ about.seats
  pub once : closed (closers about order) ≤ 1
  pub bounded : openings (closers about order) ≤ MAX_OPENINGS
  pub nobody_inside : closed (closers about order) ≡ 1
      → (q : ℕ) → q < about.seats → visit (own_gate order q) ≢ inside
  pub closer_outside : closed (closers about order) ≡ 1 → visit (closers about order) ≡ outside

-- In each lawful order the gate's word is as `IsGateWord` says.
abbrev pub GateWordCountsVisits : Type 0
GateWordCountsVisits =
    (about : BoardSizes) (order : List (StepBy BoardStep)) → FitSizes about
    → IsLawful about order → IsGateWord about order

-- ---- settings

-- The settings are those after the closer's own sets.
abbrev pub SettingsAreTheClosers : Type 0
SettingsAreTheClosers =
    (about : BoardSizes) (order : List (StepBy BoardStep)) → IsLawful about order
    → settings about order ≡ own_settings about (closers about order)

-- No setting is made while a seat is inside.
abbrev pub NoSetWhileInside : Type 0
NoSetWhileInside =
    (about : BoardSizes) (order : List (StepBy BoardStep)) → IsLawful about order
    → (n p q i v : ℕ) → IsStep order n p (Gate (Set i v)) → q < about.seats
    → visit (own_gate (past n order) q) ≢ inside

-- The number of a visit is that of the openings which the closer had made at its entry; it is at
-- most that of all openings, and does not fall from one entry to a later one.
abbrev pub VisitsAreNumbered : Type 0
VisitsAreNumbered =
    (about : BoardSizes) (order : List (StepBy BoardStep)) → FitSizes about
    → IsLawful about order → (n q w : ℕ) → IsStep order n q (Gate (Entered w))
    → (w / 2 ^ 32 ≡ openings (closers about (past n order)))
    × (w / 2 ^ 32 ≤ openings (closers about order))
    × ((m p v : ℕ) → m < n → IsStep order m p (Gate (Entered v)) → v / 2 ^ 32 ≤ w / 2 ^ 32)

-- The settings at an entry are those after the closer's sets before the last opening that the entry
-- counts, or those at the start if it counts none.
abbrev pub VisitsShowSettings : Type 0
VisitsShowSettings =
    (about : BoardSizes) (order : List (StepBy BoardStep)) → FitSizes about
    → IsLawful about order → (n q w : ℕ) → IsStep order n q (Gate (Entered w))
    → settings about (past n order)
    ≡ own_settings about (opened (w / 2 ^ 32) (closers about order))

-- What a visit reads of its settings is their value at its entry.
abbrev pub VisitsReadSettings : Type 0
VisitsReadSettings =
    (about : BoardSizes) (order : List (StepBy BoardStep)) → FitSizes about
    → IsLawful about order → (m n q w i v : ℕ) → m < n → IsStep order m q (Gate (Entered w))
    → ((k : ℕ) → m < k → k < n → IsStep order k q (Gate Left) → ⊥)
    → IsStep order n q (Gate (Read i v))
    → v ≡ own_settings about (opened (w / 2 ^ 32) (closers about order)) i

-- ---- a lane that was found empty

-- The number of the visit in which a put was made.
abbrev pub put_visit : BoardSizes → List (StepBy BoardStep) → ℕ → ℕ → ℕ
put_visit about order n q = visit_number (own_gate (past n order) q)

-- The closer closed the gate after k openings and then found the lane empty with h packets
-- accepted. These are the packets put there in visits with a number of at most k; all were
-- delivered, and each is in its out lane below each packet that was put to any lane in a visit with
-- a higher number and went to the same out lane.
pub record EarlyStandsFirst (about : BoardSizes) (order : List (StepBy BoardStep)) (l k h : ℕ)
    : Type 0 where
  pub early : (j id : ℕ) (u : WasPut about order l j id)
      → (j < h) ↔ (put_visit about order u.moment u.seat ≤ k)
  pub delivered : h ≤ length (delivered_from l (lanes_of order))
  pub first : (i to j id : ℕ) (g late : Delivery) (u : WasPut about order to j id) → i < h
      → nth_step (delivered_from l (lanes_of order)) i ≡ Some g
      → k < put_visit about order u.moment u.seat
      → nth_step (delivered_from to (lanes_of order)) j ≡ Some late → g.to ≡ late.to
      → g.place < late.place

-- In each lawful order the packets of a lane that the closer found empty come first, as
-- `EarlyStandsFirst` says.
abbrev pub EmptiedLanesStandFirst : Type 0
EmptiedLanesStandFirst =
    (about : BoardSizes) (order : List (StepBy BoardStep)) → FitSizes about
    → IsLawful about order → (n l : ℕ) (e : WasEmptied about order n l)
    → EarlyStandsFirst about order l (e.word / 2 ^ 32)
    (length (lane_then about order e.counted l).accepted)

-- A head that was loaded before a tail of the same lane counts at most the packets that the tail
-- counts, and these are at most those of the lane at the end.
abbrev pub HeadsAreBelowTails : Type 0
HeadsAreBelowTails =
    (about : BoardSizes) (order : List (StepBy BoardStep)) → IsLawful about order
    → (m n p q l head tail : ℕ) → m < n → IsStep order m p (Weighed l head)
    → IsStep order n q (Counted l tail)
    → (head ≤ tail / 2) × (tail / 2 ≤ about.start + length (lane_at about order l).accepted)
