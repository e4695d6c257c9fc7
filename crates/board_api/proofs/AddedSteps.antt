-- What is read of a seat's own list after new steps.
use Rattle.std.proofs.Common.{◌^◌}
use Rattle.std.proofs.lemmas.List.Elements.{filter_map-append}
use Rattle.hop_rule.specs.Boards.{empty, lane_steps, out_slot, own_state}
use Rattle.hop_rule.specs.Gates.{closed, closed_after, found, found_after, visit_after}
use Rattle.hop_rule.specs.Lanes.{holding, out_holding}
use Rattle.hop_rule.specs.OutLanes.{OutList}
use Rattle.hop_rule.specs.Owns.{visit_in, visits_of}
use Rattle.hop_rule.specs.declared.step.BoardStep.TheVariants.{LaneOut}
use Rattle.hop_rule.specs.declared.step.LaneStep.TheVariants.{Held, OutHeld}
use Rattle.board_api.specs.Calls.HeldLanes.{FitsLane, IsMiddle, IsOut}
use Rattle.board_api.specs.Laws.OwnSteps.{QuietStepsStay, TakenLanesAreHeld}
use Rattle.board_api.specs.Seats.{BoardSeatView}
use Rattle.board_api.specs.Calls.Results.{TookMiddle, TookOut}
use Rattle.board_api.specs.declared.held_lane.HeldLane.TheVariants as held
use Rattle.board_api.specs.declared.held_lane.LaneId.TheVariants as id
use Rattle.board_api.proofs.Names.{◌≡◌, ℕ, ◌/◌, List, [], ◌∷◌, ◌++◌, Some, sym, refl, ap, ◌∙◌}
use Rattle.board_api.proofs.Names.{subst, LaneLists, if_same, gate_steps, visit, BoardSizes}
use Rattle.board_api.proofs.Names.{BoardStep, Lane, Gate, Read}

-- ---- lanes

module _ (about : BoardSizes) (old new : BoardSeatView) where
  middle_held : (l : ℕ) (content : LaneLists) → FitsLane about (id.Middle l)
      → TookMiddle l content old new → IsMiddle about new.steps l content
  middle_held l content within took =
      let taken : List BoardStep = Lane (Held l took.word content) ∷ old.steps in
      let list : new.steps ≡ LaneOut l ∷ taken = ap (λ (s : BoardSeatView). s.steps) took.step in
      record {
        within = within;
        holds =
            ap (λ ds. holding l (lane_steps ds)) list
            ∙ if_same l l (Some content) (holding l (lane_steps old.steps)) refl;
        slot = ap (own_state about l) list ∙ if_same l l empty (own_state about l taken) refl;
      }

  out_held : (o : ℕ) (content : OutList) → FitsLane about (id.Out o)
      → TookOut about o content old new → IsOut about new.steps o content
  out_held o content within took =
      let k : ℕ = out_slot about o in
      let taken : List BoardStep = Lane (OutHeld o took.word content) ∷ old.steps in
      let list : new.steps ≡ LaneOut k ∷ taken = ap (λ (s : BoardSeatView). s.steps) took.step in
      record {
        within = within;
        holds =
            ap (λ ds. out_holding o (lane_steps ds)) list
            ∙ if_same o o (Some content) (out_holding o (lane_steps old.steps)) refl;
        slot = ap (own_state about k) list ∙ if_same k k empty (own_state about k taken) refl;
      }

pub taken_lanes_are_held : TakenLanesAreHeld
taken_lanes_are_held about (id.Middle l) old new (held.Middle i content) within took =
    subst (λ (z : ℕ). IsMiddle about new.steps z content) (sym took.0)
    (middle_held about old new l content within took.1)
taken_lanes_are_held about (id.Out o) old new (held.Out i content) within took =
    subst (λ (z : ℕ). IsOut about new.steps z content) (sym took.0)
    (out_held about old new o content within took.1)
taken_lanes_are_held about (id.Middle l) old new (held.Out i content) within took = absurd took
taken_lanes_are_held about (id.Out o) old new (held.Middle i content) within took = absurd took

-- ---- the gate

-- where a seat stands, and whether it has closed the gate, are told by these steps alone
visit-of : (ds : List BoardStep) → visit (visits_of ds) ≡ visit (gate_steps ds)
visit-of [] = refl
visit-of (Gate (Read i v) ∷ ds) = visit-of ds
visit-of (Gate g ∷ ds) = ap (visit_after g) (visit-of ds)
visit-of (d ∷ ds) = visit-of ds

closed-of : (ds : List BoardStep) → closed (visits_of ds) ≡ closed (gate_steps ds)
closed-of [] = refl
closed-of (Gate (Read i v) ∷ ds) = closed-of ds
closed-of (Gate g ∷ ds) = ap (closed_after g) (closed-of ds)
closed-of (d ∷ ds) = closed-of ds

found-of : (ds : List BoardStep) → found (visits_of ds) ≡ found (gate_steps ds)
found-of [] = refl
found-of (Gate (Read i v) ∷ ds) = found-of ds
found-of (Gate g ∷ ds) = ap (found_after g) (found-of ds)
found-of (d ∷ ds) = found-of ds

pub quiet_steps_stay : QuietStepsStay
quiet_steps_stay added own none =
    let same : visits_of (added ++ own) ≡ visits_of own =
    filter_map-append visit_in added own ∙ ap (λ gs. gs ++ visits_of own) none in
    record {
      place = sym (visit-of (added ++ own)) ∙ (ap visit same ∙ visit-of own);
      gate = sym (closed-of (added ++ own)) ∙ (ap closed same ∙ closed-of own);
      number = ap (λ w. w / 2 ^ 32)
          (sym (found-of (added ++ own)) ∙ (ap found same ∙ found-of own));
    }
