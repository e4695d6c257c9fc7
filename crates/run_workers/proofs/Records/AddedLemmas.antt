-- The calls of a hand add steps to the lists of its seats.
use Rattle.std.specs.Prelude.{List, length}
use Rattle.run_workers.specs.Records.ReplyingLaws.{CallsAddSteps}
use Rattle.run_workers.proofs.Names.{◌≡◌, ◌⊎◌, inl, inr, ℕ, ◌*◌, Bool, true, false, [], ◌∷◌, Some}
use Rattle.run_workers.proofs.Names.{SeatView, Arrival, HintStep, BoardSizes, Gate, Entered, Left}
use Rattle.run_workers.proofs.Names.{Read, BoardSeatView, visit_with, Setup, SteersHand, Waits}
use Rattle.run_workers.proofs.Names.{RepliesOrKeeps, TakesOrLeaves, Poller, Server, Grows}
use Rattle.run_workers.proofs.Records.HeldLemmas.{writes_grow}
use Rattle.run_workers.proofs.Records.HintLemmas.{polls_keep_hints, steps_one}
use Rattle.run_workers.proofs.Records.ListLemmas.{grows_both}
use Rattle.run_workers.proofs.Records.ReplyingLemmas.{adds_grow, gate_grow, kept_grow, leaves_grow}
use Rattle.run_workers.proofs.Hands.DeltaLemmas.{without_reasons}
use Rattle.run_workers.proofs.Hands.WaitLemmas.{waits_at_board}

abbrev Hint : Type 0
Hint = SeatView HintStep

polls_grow : (given : Setup) (filters : ℕ) (mid q : Poller) (old new : BoardSeatView)
    (hint_old hint_new : Hint) → Waits mid q old new hint_old hint_new
    ⊎ ((id : ℕ) × (mid.hand ≡ Some id) × SteersHand given filters id mid q old new hint_old
    hint_new)
    → Grows old.steps new.steps
polls_grow given filters mid q old new hint_old hint_new (inl waits) =
    gate_grow old new (waits_at_board mid q old new hint_old hint_new waits)
polls_grow given filters mid q old new hint_old hint_new (inr (id, hand, steers)) =
    adds_grow (visit_with steers.turn [] []) old new steers.visit.adds

takes_grow : (about : BoardSizes) (given : Setup) (s t : Server) (took : Bool)
    (old new : BoardSeatView) (hint_old hint_new : Hint)
    → TakesOrLeaves about given s t old new hint_old hint_new took
    → Grows old.steps new.steps × Grows hint_old.steps hint_new.steps
takes_grow about given s t true old new hint_old hint_new x = (
  grows_both old.steps x.mid.steps new.steps (adds_grow x.peeks.added old x.mid x.peeks.adds)
      (adds_grow (Gate Left ∷ Gate (Read (2 * length given.homes) x.records.size)
      ∷ Gate (Entered x.records.word) ∷ []) x.mid new x.records.adds),
  grows_both hint_old.steps x.hint_mid.steps hint_new.steps
      (steps_one _ hint_old x.hint_mid x.loads)
      (writes_grow given.cpus s.app s.home _ s.writes t.writes x.hint_mid hint_new
      x.records.writes),
)
takes_grow about given s t false old new hint_old hint_new x =
    leaves_grow about s t old new hint_old hint_new x

replies_grow : (given : Setup) (late : List Arrival) (s t : Server) (sent : Bool)
    (old new : BoardSeatView) (hint_old hint_new : Hint)
    → RepliesOrKeeps given late s t old new hint_old hint_new sent
    → Grows old.steps new.steps × Grows hint_old.steps hint_new.steps
replies_grow given late s t true old new hint_old hint_new x = (
  adds_grow (visit_with x.turn [] []) old new x.replies.adds,
  grows_both hint_old.steps x.hint_mid.steps hint_new.steps
      (steps_one _ hint_old x.hint_mid x.queued.2)
      (steps_one _ x.hint_mid hint_new x.replies.stands.2),
)
replies_grow given late s t false old new hint_old hint_new x = (
  gate_grow old new (without_reasons x.gate),
  kept_grow (length given.homes) late s.hand hint_old hint_new x.queue x.hint x.untouched,
)

pub calls_add_steps : CallsAddSteps
calls_add_steps =
    record {
      serves = λ served old new x. adds_grow x.added old new x.adds;
      polls = λ given filters p q old new hint_old hint_new x. (
        polls_grow given filters x.mid q old new hint_old hint_new x.steers,
        polls_keep_hints given filters p q old new hint_old hint_new x,
      );
      takes = takes_grow;
      replies = replies_grow;
    }
