-- What a seat did where a poller waits or an application leaves its inbox.
use Rattle.std.proofs.Common.{not}
use Rattle.std.proofs.lemmas.Bool.{ne_eqb}
use Rattle.run_workers.specs.Hands.Pollers.{FindsAnnounced}
use Rattle.run_workers.specs.Hands.Servers.{LoadsMark}
use Rattle.run_workers.proofs.Names.{◌≡◌, ◌≢◌, ◌⊎◌, ◌==◌, inl, inr, ℕ, zero, suc, Option, None}
use Rattle.run_workers.proofs.Names.{Some, Bool, true, false, refl, sym, ap, ◌∙◌, length, arith}
use Rattle.run_workers.proofs.Names.{SeatView, HintStep, BoardSizes, BoardSeatView, FindsClosed}
use Rattle.run_workers.proofs.Names.{LoadsQueue, Waits, BacksOut, HasNoNext, LeavesInbox, Peeks}
use Rattle.run_workers.proofs.Names.{Poller, Server}

abbrev Hint : Type 0
Hint = SeatView HintStep

-- ---- a word that was tested

pub clear_word : (b : Bool) (word : ℕ) → b ≡ not (word == 0) → b ≡ false → word ≡ 0
clear_word b zero is no_mark = refl
clear_word b (suc n) is no_mark =
    let set : (suc n == 0) ≡ false = ne_eqb (suc n) 0 (λ e. omega (arith, e)) in
    let f : true ≡ false = sym (ap not set) ∙ (sym is ∙ no_mark) in
    absurd (cc)

pub set_word : (b : Bool) (word : ℕ) → b ≡ not (word == 0) → b ≡ true → word ≢ 0
set_word b zero is marked = absurd (cc)
set_word b (suc n) is marked = λ e. omega (arith, e)

-- ---- waiting

-- what a poller that waits did
abbrev WaitSteps : Option ℕ → BoardSeatView → BoardSeatView → Hint → Hint → Type 0
WaitSteps hand old new hint_old hint_new =
    ((hand ≡ None) × (hint_new ≡ hint_old) × (new ≡ old))
    ⊎ ((id : ℕ) × (hand ≡ Some id) × LoadsQueue id 0 hint_old hint_new × (new ≡ old))
    ⊎ ((id : ℕ) × (word : ℕ) × (hand ≡ Some id) × LoadsQueue id word hint_old hint_new
    × (word ≢ 0) × FindsClosed old new)

-- what an application that leaves its inbox did after its look, from the middle on
abbrev LeaveSteps : BoardSizes → Server → (old mid new : BoardSeatView) → Hint → Hint → Type 0
LeaveSteps about s old mid new hint_old hint_new =
    (HasNoNext about s old mid × (hint_new ≡ hint_old) × (new ≡ mid))
    ⊎ ((id : ℕ) × (word : ℕ) × Peeks about s.app (length s.sent.items) (Some id) old mid
    × LoadsMark id word hint_old hint_new
    × (((word ≡ 0) × (new ≡ mid)) ⊎ ((word ≢ 0) × BacksOut mid new)))

module _ (p q : Poller) (old new : BoardSeatView) (hint_old hint_new : Hint)
    (waits : Waits p q old new hint_old hint_new) where
  -- nothing was done at the board, or its gate was closed
  pub waits_at_board : (new ≡ old) ⊎ FindsClosed old new
  waits_at_board = by_steps waits.steps
    where
      by_steps : WaitSteps p.hand old new hint_old hint_new → (new ≡ old) ⊎ FindsClosed old new
      by_steps (inl (empty, hint, same)) = inl same
      by_steps (inr (inl (id, hand, loads, same))) = inl same
      by_steps (inr (inr (id, word, hand, loads, set, out))) = inr out

  -- the hint seat has its table
  pub waits_there : hint_new.table ≡ hint_old.table
  waits_there = by_steps waits.steps
    where
      by_steps : WaitSteps p.hand old new hint_old hint_new → hint_new.table ≡ hint_old.table
      by_steps (inl (empty, hint, same)) = ap (λ (h : Hint). h.table) hint
      by_steps (inr (inl (id, hand, loads, same))) = ap (λ (h : Hint). h.table) loads
      by_steps (inr (inr (id, word, hand, loads, set, out))) = ap (λ (h : Hint). h.table) loads

-- without an announced packet in hand a poller waits
pub waited : (p : Poller) (seat : BoardSeatView) (old new : Hint)
    → FindsAnnounced p.hand None old new → Waits p p seat seat old new
waited p seat old new (inl (empty, same)) =
    record { same = refl; steps = inl (empty, same, refl) }
waited p seat old new (inr (id, hand, loads)) =
    record { same = refl; steps = inr (inl (id, hand, loads, refl)) }

module _ (about : BoardSizes) (s t : Server) (old new : BoardSeatView) (hint_old hint_new : Hint)
    (leaves : LeavesInbox about s t old new hint_old hint_new) where
  -- nothing more was done at the board, or its gate was closed
  pub leaves_at_board : (new ≡ leaves.mid) ⊎ BacksOut leaves.mid new
  leaves_at_board = by_gate leaves.gate
    where
      by_gate : LeaveSteps about s old leaves.mid new hint_old hint_new
          → (new ≡ leaves.mid) ⊎ BacksOut leaves.mid new
      by_gate (inl (none, hint, same)) = inl same
      by_gate (inr (id, word, peeks, loads, inl (unmarked, same))) = inl same
      by_gate (inr (id, word, peeks, loads, inr (marked, out))) = inr out

  -- the hint seat has its table
  pub leaves_there : hint_new.table ≡ hint_old.table
  leaves_there = by_gate leaves.gate
    where
      by_gate : LeaveSteps about s old leaves.mid new hint_old hint_new
          → hint_new.table ≡ hint_old.table
      by_gate (inl (none, hint, same)) = ap (λ (h : Hint). h.table) hint
      by_gate (inr (id, word, peeks, loads, gate)) = ap (λ (h : Hint). h.table) loads
