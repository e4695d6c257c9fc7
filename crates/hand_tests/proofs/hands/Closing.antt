-- The closer's seat over a change that is tried.
use Rattle.std.proofs.Common.{◌≡◌, ◌≤◌, ◌+◌, ◌*◌, ◌^◌, ℕ, Bool, true, false, List, [], ◌∷◌}
use Rattle.std.proofs.Common.{◌++◌, None, Some}
use Rattle.std.proofs.Common.{refl, sym, ap, ◌∙◌, arith}
use Rattle.steer_base.specs.declared.command.Busy.{Busy}
use Rattle.steer_base.specs.declared.command.Busy.TheVariants.{Inside, NotEmpty}
use Rattle.steer_base.specs.declared.cpu_mask.CpuMask.{CpuMask}
use Rattle.hop_rule.specs.Boards.{gate_steps, lane_steps}
use Rattle.hop_rule.specs.Gates.{closed, openings, outside, visit}
use Rattle.hop_rule.specs.Lanes.{holding, out_holding, phase}
use Rattle.hop_rule.specs.declared.sizes.BoardSizes.{BoardSizes}
use Rattle.hop_rule.specs.declared.step.BoardStep.{BoardStep}
use Rattle.hop_rule.specs.declared.step.BoardStep.TheVariants.{Counted, Gate, Weighed}
use Rattle.hop_rule.specs.declared.step.GateStep.TheVariants.{NotShut, Opened, Set, Shut}
use Rattle.board_api.specs.Calls.Results.{CloseTells, Looked, looking}
use Rattle.board_api.specs.Calls.Rights.{HasClosed}
use Rattle.board_api.specs.Seats.{BoardSeatView}
use Rattle.board_api.specs.declared.answers.CloseAnswer.TheVariants as close
use Rattle.board_api.specs.Views.{BoardView}
use Rattle.run_controller.specs.Gates.{ClosesEmpty, SetsAndOpens}
use Rattle.hand_tests.specs.Benches.{RestsBut, opened_by}

abbrev Seat : Type 0
Seat = BoardSeatView

-- ---- steps that are not at lanes

record KeepsLanes (a b : Seat) : Type 0 where
  table : b.table ≡ a.table
  number : b.number ≡ a.number
  lanes : lane_steps b.steps ≡ lane_steps a.steps
  place : visit (gate_steps b.steps) ≡ visit (gate_steps a.steps)

keeps_by : (a b : Seat) (steps : List BoardStep) (found : Bool)
    → b ≡ record a { steps = steps; has_emptied = found } → lane_steps steps ≡ lane_steps a.steps
    → visit (gate_steps steps) ≡ visit (gate_steps a.steps) → KeepsLanes a b
keeps_by a b steps found e lanes place =
    record {
      table = ap (λ (s : Seat). s.table) e;
      number = ap (λ (s : Seat). s.number) e;
      lanes = ap (λ (s : Seat). lane_steps s.steps) e ∙ lanes;
      place = ap (λ (s : Seat). visit (gate_steps s.steps)) e ∙ place;
    }

keeps_on : (a b c : Seat) → KeepsLanes a b → KeepsLanes b c → KeepsLanes a c
keeps_on a b c x y =
    record {
      table = y.table ∙ x.table;
      number = y.number ∙ x.number;
      lanes = y.lanes ∙ x.lanes;
      place = y.place ∙ x.place;
    }

lanes-looking : (xs : List Looked) (steps : List BoardStep)
    → lane_steps (looking xs steps) ≡ lane_steps steps
lanes-looking [] steps = refl
lanes-looking (x ∷ xs) steps =
    lanes-looking xs (Counted x.lane x.tail ∷ Weighed x.lane x.head ∷ steps)

gates-looking : (xs : List Looked) (steps : List BoardStep)
    → gate_steps (looking xs steps) ≡ gate_steps steps
gates-looking [] steps = refl
gates-looking (x ∷ xs) steps =
    gates-looking xs (Counted x.lane x.tail ∷ Weighed x.lane x.head ∷ steps)

looks_keep : (a b : Seat) (xs : List Looked) (found : Bool)
    → b ≡ record a { steps = looking xs a.steps; has_emptied = found } → KeepsLanes a b
looks_keep a b xs found e =
    keeps_by a b (looking xs a.steps) found e (lanes-looking xs a.steps)
    (ap visit (gates-looking xs a.steps))

shut_keeps : (about : BoardSizes) (a b : Seat) → CloseTells about a b close.Ok → KeepsLanes a b
shut_keeps about a b told =
    keeps_by a b (Gate (Shut (openings (gate_steps a.steps) * 2 ^ 32)) ∷ a.steps) false told refl
    refl

looks_open : (a b : Seat) (xs : List Looked) (found : Bool)
    → b ≡ record a { steps = looking xs a.steps; has_emptied = found }
    → opened_by b ≡ opened_by a
looks_open a b xs found e = ap opened_by e ∙ ap openings (gates-looking xs a.steps)

-- ---- the seat afterwards

pub record RestsOpened (own : ℕ → Bool) (board : BoardView) (number : ℕ) (old new : Seat)
    : Type 0 where
  pub rests : RestsBut own board number new
  pub opened : opened_by new ≤ opened_by old + 1

module _ (own : ℕ → Bool) (board : BoardView) (number : ℕ) where
  keeps_rest : (a b : Seat) → RestsBut own board number a → KeepsLanes a b
      → closed (gate_steps b.steps) ≡ 0 → RestsBut own board number b
  keeps_rest a b r k unclosed =
      record {
        table = k.table ∙ r.table;
        number_is = k.number ∙ r.number_is;
        outside = k.place ∙ r.outside;
        gate = unclosed;
        lanes = λ l. ap (holding l) k.lanes ∙ r.lanes l;
        outs = λ o. ap (out_holding o) k.lanes ∙ r.outs o;
        hands = λ l other. ap (phase l) k.lanes ∙ r.hands l other;
      }

  -- a visit that begins or ends
  pub gate_keeps : (a b : Seat) (steps : List BoardStep) → RestsBut own board number a
      → b ≡ record a { steps = steps } → lane_steps steps ≡ lane_steps a.steps
      → visit (gate_steps steps) ≡ outside → closed (gate_steps steps) ≡ 0
      → RestsBut own board number b
  gate_keeps a b steps r e lanes place unclosed =
      keeps_rest a b r (keeps_by a b steps a.has_emptied e lanes (place ∙ sym r.outside))
      (ap (λ (s : Seat). closed (gate_steps s.steps)) e ∙ unclosed)

  module _ (about : BoardSizes) (lanes : CpuMask) (old new : Seat) where
    -- a change that was refused
    pub refused_rests : (busy : Busy) → RestsBut own board number old
        → ClosesEmpty about lanes old new (Some busy) → RestsOpened own board number old new
    refused_rests (Inside n) r told =
        let e = told.4 in
        record {
          rests = keeps_rest old new r
              (keeps_by old new (Gate (NotShut told.0) ∷ old.steps) old.has_emptied e refl refl)
              (ap (λ (s : Seat). closed (gate_steps s.steps)) e ∙ r.gate);
          opened = omega (arith, ap opened_by e);
        }
    refused_rests (NotEmpty lane head tail) r (mid, looked, shut, found, opens) =
        let xs : List Looked = found.looked ++ found.last ∷ [] in
        let k = keeps_on old mid looked
        (shut_keeps about old mid shut)
        (looks_keep mid looked xs mid.has_emptied found.step) in
        record {
          rests = keeps_rest old new r
              (keeps_on old looked new k
              (keeps_by looked new (Gate Opened ∷ looked.steps) false opens refl refl))
              (ap (λ (s : Seat). closed (gate_steps s.steps)) opens);
          opened = omega (
            arith,
            ap opened_by opens,
            looks_open mid looked xs mid.has_emptied found.step,
            ap opened_by shut,
          );
        }

    -- a change that was made
    pub made_rests : (mid : Seat) (i v : ℕ) → RestsBut own board number old
        → ClosesEmpty about lanes old mid None → SetsAndOpens i v mid new
        → RestsOpened own board number old new
    made_rests mid i v r (shut, closes, found) (set, sets, opens) =
        let xs : List Looked = found.looked in
        let a = shut_keeps about old shut closes in
        let b = looks_keep shut mid xs true found.step in
        let c = keeps_by mid set (Gate (Set i v) ∷ mid.steps) mid.has_emptied sets refl refl in
        let d = keeps_by set new (Gate Opened ∷ set.steps) false opens refl refl in
        record {
          rests = keeps_rest old new r
              (keeps_on old set new (keeps_on old mid set (keeps_on old shut mid a b) c) d)
              (ap (λ (s : Seat). closed (gate_steps s.steps)) opens);
          opened = omega (
            arith,
            ap opened_by opens,
            ap opened_by sets,
            looks_open shut mid xs true found.step,
            ap opened_by closes,
          );
        }

    -- what was left for the setting
    pub made_closed : ClosesEmpty about lanes old new None → HasClosed new.steps
    made_closed (shut, closes, found) =
        ap (λ (s : Seat). closed (gate_steps s.steps)) found.step
        ∙ (ap closed (gates-looking found.looked shut.steps)
        ∙ ap (λ (s : Seat). closed (gate_steps s.steps)) closes)

    pub made_emptied : ClosesEmpty about lanes old new None → new.has_emptied ≡ true
    made_emptied (shut, closes, found) = ap (λ (s : Seat). s.has_emptied) found.step

    pub made_there : ClosesEmpty about lanes old new None → new.table ≡ old.table
    made_there (shut, closes, found) =
        ap (λ (s : Seat). s.table) found.step ∙ ap (λ (s : Seat). s.table) closes

    pub made_by : ClosesEmpty about lanes old new None → new.number ≡ old.number
    made_by (shut, closes, found) =
        ap (λ (s : Seat). s.number) found.step ∙ ap (λ (s : Seat). s.number) closes
