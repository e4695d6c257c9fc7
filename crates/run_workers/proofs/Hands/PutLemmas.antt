-- The steps of a put: a middle lane taken, and given back with one more packet.
use Rattle.steer_base.specs.declared.put.DropCause.{DropCause}
use Rattle.hop_rule.specs.declared.step.Change.TheVariants.{Offered}
use Rattle.hop_rule.specs.declared.step.LaneStep.TheVariants.{Freed}
use Rattle.board_api.specs.declared.held_lane.HeldLane.TheVariants as held
use Rattle.run_workers.specs.Hands.Pollers.{Puts}
use Rattle.run_workers.specs.Hands.Deltas.{TakesLane}
use Rattle.run_workers.proofs.Names.{◌≡◌, ℕ, ◌==◌, List, ◌∷◌, ◌++◌, None, Some, Option, refl, ap}
use Rattle.run_workers.proofs.Names.{subst, ◌∙◌, SeatView, LaneLists, Choice, Put, Dropped}
use Rattle.run_workers.proofs.Names.{table_after, Table, HintStep, gate_steps, lane_steps, visit}
use Rattle.run_workers.proofs.Names.{holding, BoardSizes, BoardStep, Lane, LaneIn, PutTells}
use Rattle.run_workers.proofs.Names.{released, IsInside, BoardSeatView, Adds, HeldLane}
use Rattle.run_workers.proofs.Names.{quiet_steps_stay, AreQuiet, Setup, packet_hash, AsksFilter}
use Rattle.run_workers.proofs.Names.{count_after, HoldsNoMore, LeavesLane}
use Rattle.run_workers.proofs.Hands.DeltaLemmas.{adds_both, held_steps, holds_both, leaves_both}
use Rattle.run_workers.proofs.Hands.DeltaLemmas.{none_either, quiet_both}

-- a put with what a seat did for it
pub record PutMade (lane packet : ℕ) (hash : Option ℕ) (answer : Put)
    (old new : BoardSeatView) : Type 0 where
  pub early : List BoardStep
  pub quiet : AreQuiet early
  pub holds : HoldsNoMore (Lane (Freed lane (Offered packet hash answer)) ∷ early)
  pub leaves : (l : ℕ) → LeavesLane l (Lane (Freed lane (Offered packet hash answer)) ∷ early)
  pub adds : Adds (Lane (Freed lane (Offered packet hash answer)) ∷ early) old new

module _ (about : BoardSizes) (lane : ℕ) (old mid new : BoardSeatView) where
  -- a seat is still inside when it has taken a lane
  pub still_inside : (h : HeldLane) → TakesLane about lane old mid h → IsInside old.steps
      → IsInside mid.steps
  still_inside (held.Out i content) t is = absurd t.took
  still_inside (held.Middle i content) t is =
      let w = t.waits in
      let took = t.took.1 in
      ap (λ (s : BoardSeatView). visit (gate_steps s.steps)) took.step
      ∙ (ap (λ (s : BoardSeatView). visit (gate_steps s.steps)) w.adds
      ∙ ((quiet_steps_stay w.added old.steps w.only.quiet.visits).place ∙ is))

  offered_quiet : (w : ℕ) (x : LaneLists) → AreQuiet (LaneIn lane ∷ held_steps lane w x)
  offered_quiet w x = record { puts = refl; visits = refl }

  module _ (packet : ℕ) (hash : Option ℕ) (answer : Put) where
    abbrev offer : BoardStep
    offer = Lane (Freed lane (Offered packet hash answer))

    offered_holds : (w : ℕ) (x : LaneLists)
        → HoldsNoMore (offer ∷ LaneIn lane ∷ held_steps lane w x)
    offered_holds w x =
        record {
          lanes = λ i own e. none_either (lane == i) (holding i (lane_steps own)) (Some x) e;
          outs = λ o own e. e;
        }

    offered_leaves : (l w : ℕ) (x : LaneLists)
        → LeavesLane l (offer ∷ LaneIn lane ∷ held_steps lane w x)
    offered_leaves l w x = record { hand = λ own. refl; retires = refl; deliveries = refl }

    pub put_made : (h : HeldLane) → TakesLane about lane old mid h
        → PutTells h packet hash mid new answer → PutMade lane packet hash answer old new
    put_made (held.Out i content) t told = absurd t.took
    put_made (held.Middle i content) t told =
        let w = t.waits in
        let took = t.took.1 in
        let back : Adds (released lane (Offered packet hash answer)) mid new =
        subst (λ (k : ℕ). Adds (released k (Offered packet hash answer)) mid new) t.took.0
        told.1 in
        let steps : List BoardStep = held_steps lane took.word content in
        record {
          early = LaneIn lane ∷ (steps ++ w.added);
          quiet = quiet_both (LaneIn lane ∷ steps) w.added (offered_quiet took.word content)
              w.only.quiet;
          holds = holds_both (offer ∷ LaneIn lane ∷ steps) w.added
              (offered_holds took.word content) w.only.holds;
          leaves = λ l. leaves_both l (offer ∷ LaneIn lane ∷ steps) w.added
              (offered_leaves l took.word content) (w.only.others l refl);
          adds = adds_both old mid new (released lane (Offered packet hash answer))
              (steps ++ w.added) (adds_both old t.mid mid steps w.added w.adds took.step) back;
        }

-- the packet is put with its own hash, and the table and the count are told of the answer
pub puts : (given : Setup) (filters packet : ℕ) (hash : Option ℕ) (choice : Choice) (answer : Put)
    (before after : Table) (count_old count_new : ℕ) (old new : BoardSeatView)
    (hint_old hint_new : SeatView HintStep) → hash ≡ packet_hash given packet
    → PutMade choice.lane packet hash answer old new
    → after ≡ table_after before choice.class (Some answer)
    → count_new ≡ count_after count_old answer
    → AsksFilter given filters packet choice answer hint_old hint_new
    → Puts given filters packet choice answer before after count_old count_new old new
    hint_old hint_new
puts given filters packet hash choice answer before after count_old count_new old new
    hint_old hint_new own made table count asks =
    let m = subst (λ (h : Option ℕ). PutMade choice.lane packet h answer old new) own made in
    record {
      early = m.early;
      quiet = m.quiet;
      holds = m.holds;
      leaves = m.leaves;
      adds = m.adds;
      table = table;
      count = count;
      asks = asks;
    }

-- the table is not told of a drop
pub dropped_told : (table : Table) (class : Option ℕ) (number accepted pulled : ℕ)
    (cause : DropCause)
    → table ≡ table_after table class (Some (Dropped number accepted pulled cause))
dropped_told table None number accepted pulled cause = refl
dropped_told table (Some k) number accepted pulled cause = refl
