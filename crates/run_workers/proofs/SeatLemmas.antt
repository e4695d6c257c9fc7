-- A seat between two calls.
use Rattle.board_api.specs.Laws.OwnSteps.{StandsAs}
use Rattle.run_workers.proofs.Names.{◌≡◌, ◌⊎◌, inl, inr, ℕ, ◌*◌, Bool, true, false, List, [], ◌∷◌}
use Rattle.run_workers.proofs.Names.{◌++◌, Some, refl, ap, subst, ◌∙◌, length, SeatView, Arrival}
use Rattle.run_workers.proofs.Names.{HintStep, gate_steps, lane_steps, closed, visit, holding}
use Rattle.run_workers.proofs.Names.{out_holding, phase, BoardSizes, BoardStep, Gate, Entered, Left}
use Rattle.run_workers.proofs.Names.{Read, Turned, HasOpen, IsOutside, BoardSeatView, Adds}
use Rattle.run_workers.proofs.Names.{BoardView, quiet_steps_stay, visit_with, Setup, HoldsNoMore}
use Rattle.run_workers.proofs.Names.{LeavesLane, Serves, no_lane, Polls, SteersHand, Waits}
use Rattle.run_workers.proofs.Names.{BacksOut, RepliesOrKeeps, TakesOrLeaves, Poller, Server}
use Rattle.run_workers.proofs.Names.{IsForeign, IsBetween}
use Rattle.run_workers.proofs.Hands.DeltaLemmas.{adds_both, holds_both, leaves_both}
use Rattle.run_workers.proofs.Hands.DeltaLemmas.{without_reasons}
use Rattle.run_workers.proofs.Hands.WaitLemmas.{leaves_at_board, waits_at_board}

abbrev Hint : Type 0
Hint = SeatView HintStep

-- the steps of a call: no more lanes are held after them, and of lanes that are not served nothing
-- was pulled, delivered or retired
pub record Moves (served : ℕ → Bool) (old new : BoardSeatView) : Type 0 where
  pub added : List BoardStep
  pub adds : Adds added old new
  pub holds : HoldsNoMore added
  pub others : (l : ℕ) → served l ≡ false → LeavesLane l added

pub serves_move : (served : ℕ → Bool) (old new : BoardSeatView) → Serves served old new
    → Moves served old new
serves_move served old new s =
    record { added = s.added; adds = s.adds; holds = s.only.holds; others = s.only.others }

move_both : (a b c : BoardSeatView) → Moves no_lane a b → Moves no_lane b c → Moves no_lane a c
move_both a b c first second =
    record {
      added = second.added ++ first.added;
      adds = adds_both a b c second.added first.added first.adds second.adds;
      holds = holds_both second.added first.added second.holds first.holds;
      others = λ l e.
          leaves_both l second.added first.added (second.others l e) (first.others l e);
    }

-- steps at the gate alone
module _ (old new : BoardSeatView) where
  move_none : new ≡ old → Moves no_lane old new
  move_none same =
      record {
        added = [];
        adds = same;
        holds = record { lanes = λ l own e. e; outs = λ o own e. e };
        others = λ l e. record { hand = λ own. refl; retires = refl; deliveries = refl };
      }

  move_out : (word : ℕ) → Adds (Gate Left ∷ Gate (Turned word) ∷ []) old new
      → Moves no_lane old new
  move_out word adds =
      record {
        added = Gate Left ∷ Gate (Turned word) ∷ [];
        adds = adds;
        holds = record { lanes = λ l own e. e; outs = λ o own e. e };
        others = λ l e. record { hand = λ own. refl; retires = refl; deliveries = refl };
      }

  move_record : (word q size : ℕ)
      → Adds (Gate Left ∷ Gate (Read q size) ∷ Gate (Entered word) ∷ []) old new
      → Moves no_lane old new
  move_record word q size adds =
      record {
        added = Gate Left ∷ Gate (Read q size) ∷ Gate (Entered word) ∷ [];
        adds = adds;
        holds = record { lanes = λ l own e. e; outs = λ o own e. e };
        others = λ l e. record { hand = λ own. refl; retires = refl; deliveries = refl };
      }

  move_gate : (new ≡ old) ⊎ BacksOut old new → Moves no_lane old new
  move_gate (inl same) = move_none same
  move_gate (inr out) = move_out out.0 out.1

polls_steer : (given : Setup) (filters : ℕ) (mid q : Poller) (old new : BoardSeatView)
    (hint_old hint_new : Hint) → Waits mid q old new hint_old hint_new
    ⊎ ((id : ℕ) × (mid.hand ≡ Some id) × SteersHand given filters id mid q old new hint_old
    hint_new)
    → Moves no_lane old new
polls_steer given filters mid q old new hint_old hint_new (inl waits) =
    move_gate old new (waits_at_board mid q old new hint_old hint_new waits)
polls_steer given filters mid q old new hint_old hint_new (inr (id, hand, steers)) =
    record {
      added = visit_with steers.turn [] [];
      adds = steers.visit.adds;
      holds = steers.visit.holds;
      others = λ l e. steers.visit.leaves l;
    }

pub polls_move : (given : Setup) (filters : ℕ) (p q : Poller) (old new : BoardSeatView)
    (hint_old hint_new : Hint) → Polls given filters p q old new hint_old hint_new
    → Moves no_lane old new
polls_move given filters p q old new hint_old hint_new polls =
    polls_steer given filters polls.mid q old new hint_old hint_new polls.steers

pub takes_move : (about : BoardSizes) (given : Setup) (s t : Server) (took : Bool)
    (old new : BoardSeatView) (hint_old hint_new : Hint)
    → TakesOrLeaves about given s t old new hint_old hint_new took → Moves no_lane old new
takes_move about given s t true old new hint_old hint_new x =
    move_both old x.mid new (record {
      added = x.peeks.added;
      adds = x.peeks.adds;
      holds = x.peeks.only.holds;
      others = x.peeks.only.others;
    })
    (move_record x.mid new x.records.word (2 * length given.homes) x.records.size x.records.adds)
takes_move about given s t false old new hint_old hint_new x =
    move_both old x.mid new (serves_move no_lane old x.mid x.looks)
    (move_gate x.mid new (leaves_at_board about s t old new hint_old hint_new x))

pub replies_move : (given : Setup) (late : List Arrival) (s t : Server) (sent : Bool)
    (old new : BoardSeatView) (hint_old hint_new : Hint)
    → RepliesOrKeeps given late s t old new hint_old hint_new sent → Moves no_lane old new
replies_move given late s t true old new hint_old hint_new x =
    record {
      added = visit_with x.turn [] [];
      adds = x.replies.adds;
      holds = x.replies.holds;
      others = λ l e. x.replies.leaves l;
    }
replies_move given late s t false old new hint_old hint_new x =
    move_gate old new (without_reasons x.gate)

-- ---- the seat after a call

pub between_calls : (board : BoardView) (count size : ℕ) (served : ℕ → Bool)
    (old new : BoardSeatView) → count ≡ size → Moves served old new
    → ((l : ℕ) → IsForeign board.sizes old.number size l → served l ≡ false)
    → IsOutside new.steps → HasOpen new.steps → IsBetween board size old
    → IsBetween board count new
between_calls board count size served old new many m foreign outside gate b =
    let steps : new.steps ≡ m.added ++ old.steps = ap (λ (s : BoardSeatView). s.steps) m.adds in
    let number : new.number ≡ old.number = ap (λ (s : BoardSeatView). s.number) m.adds in
    record {
      table = ap (λ (s : BoardSeatView). s.table) m.adds ∙ b.table;
      outside = outside;
      gate = gate;
      lanes = λ l.
          ap (λ ds. holding l (lane_steps ds)) steps ∙ m.holds.lanes l old.steps (b.lanes l);
      outs = λ o.
          ap (λ ds. out_holding o (lane_steps ds)) steps ∙ m.holds.outs o old.steps (b.outs o);
      others = λ l far.
          (let there : IsForeign board.sizes old.number size l =
          subst (λ (z : ℕ × ℕ). IsForeign board.sizes z.0 z.1 l) (λ j. (number j, many j)) far in
          ap (λ ds. phase l (lane_steps ds)) steps
          ∙ ((m.others l (foreign l there)).hand old.steps ∙ b.others l there));
    }

-- the seat stays at the gate while lanes are served
module _ (served : ℕ → Bool) (old new : BoardSeatView) (s : Serves served old new) where
  stands : StandsAs (s.added ++ old.steps) old.steps
  stands = quiet_steps_stay s.added old.steps s.only.quiet.visits

  same_steps : new.steps ≡ s.added ++ old.steps
  same_steps = ap (λ (v : BoardSeatView). v.steps) s.adds

  pub serves_outside : IsOutside old.steps → IsOutside new.steps
  serves_outside out = ap (λ ds. visit (gate_steps ds)) same_steps ∙ (stands.place ∙ out)

  pub serves_open : HasOpen old.steps → HasOpen new.steps
  serves_open gate = ap (λ ds. closed (gate_steps ds)) same_steps ∙ (stands.gate ∙ gate)
