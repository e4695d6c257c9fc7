-- What the loops of an expiry and of a clear of the socket flow table have done so far.
use Rattle.board_api.specs.Calls.Results.{EnterTells}
use Rattle.board_api.specs.declared.answers.EnterAnswer.{EnterAnswer}
use Rattle.board_api.specs.declared.answers.EnterAnswer.TheVariants as enter
use Rattle.run_words.specs.declared.hint_word.HintWord.TheVariants as word
use Rattle.run_controller.specs.Attempts.{AreClears, ClearsSockets}
use Rattle.run_controller.specs.Expiries.{ExpiresOne, cleared_in}
use Rattle.run_controller.proofs.Names.{◌≡◌, ℕ, suc, ◌+◌, ◌≤◌, Bool, true, false, List, [], ◌∷◌}
use Rattle.run_controller.proofs.Names.{◌++◌, length, if◌then◌else◌, refl, sym, ap, subst, ◌∙◌}
use Rattle.run_controller.proofs.Names.{arith, HintStep, Store, MAX_SOCKET_SIZE, BoardSeatView}
use Rattle.run_controller.proofs.Names.{hint_number, Shared, HintView, after_step, ExpiresAll}

-- ---- the socket flow table

-- so many words were cleared
pub record Cleared (count : ℕ) (old new : HintView) : Type 0 where
  pub stores : List HintStep
  pub are : AreClears stores
  pub all : length stores ≡ count
  pub steps : new ≡ record old { steps = stores ++ old.steps }
  pub table : new.table ≡ old.table

pub cleared_none : (old : HintView) → Cleared 0 old old
cleared_none old = record { stores = []; are = tt; all = refl; steps = refl; table = refl }

pub cleared_more : (count : ℕ) (old mid new : HintView) → Cleared count old mid
    → new ≡ after_step (Store (hint_number (word.Socket count)) 0) mid
    → Cleared (count + 1) old new
cleared_more count old mid new c is =
    let stores : List HintStep = Store (hint_number (word.Socket count)) 0 ∷ c.stores in
    let all = c.all in
    record {
      stores = stores;
      are = (ap (λ n. Store (hint_number (word.Socket n)) 0) (sym c.all), c.are);
      all = omega (arith, all);
      steps = is ∙ ap (λ (s : HintView). after_step (Store (hint_number (word.Socket count)) 0) s)
          c.steps;
      table = ap (λ (s : HintView). s.table) is ∙ c.table;
    }

pub cleared_all : (old new : HintView) → Cleared MAX_SOCKET_SIZE old new → ClearsSockets old new
cleared_all old new c = (c.stores, c.are, c.all, c.steps)

-- ---- an expiry

pub expires_none : (shared : Shared) (old : BoardSeatView) (hint : HintView)
    → ExpiresAll shared 0 old old hint hint 0
expires_none shared old hint =
    record { outcomes = []; all = refl; expires = (refl, refl); counted = refl }

pub expires_more : (shared : Shared) (places count : ℕ) (cleared : Bool)
    (old mid new : BoardSeatView) (hint_old hint_mid hint_new : HintView)
    → ExpiresAll shared places old mid hint_old hint_mid count
    → ExpiresOne shared places mid new hint_mid hint_new cleared
    → ExpiresAll shared (places + 1) old new hint_old hint_new
    (if cleared then count + 1 else count)
expires_more shared places count cleared old mid new hint_old hint_mid hint_new e one =
    let all = e.all in
    record {
      outcomes = cleared ∷ e.outcomes;
      all = omega (arith, all);
      expires = (
        mid,
        hint_mid,
        e.expires,
        subst (λ n. ExpiresOne shared n mid new hint_mid hint_new cleared) (sym e.all) one,
      );
      counted = by_one cleared e.counted;
    }
  where
    by_one : (b : Bool) → count ≡ cleared_in e.outcomes
        → (if b then count + 1 else count)
        ≡ (if b then cleared_in e.outcomes + 1 else cleared_in e.outcomes)
    by_one true is = ap (λ n. n + 1) is
    by_one false is = is

-- no more filters are cleared than were looked at
pub few_expired : (shared : Shared) (places count : ℕ) (old new : BoardSeatView)
    (hint_old hint_new : HintView) → ExpiresAll shared places old new hint_old hint_new count
    → count ≤ places
few_expired shared places count old new hint_old hint_new e =
    let few = few-cleared e.outcomes in
    let all = e.all in
    let is = e.counted in
    omega (arith, few, all, is)
  where
    few-cleared : (outcomes : List Bool) → cleared_in outcomes ≤ length outcomes
    few-cleared [] = omega arith
    few-cleared (b ∷ bs) = by_one b (few-cleared bs)
      where
        by_one : (b : Bool) → cleared_in bs ≤ length bs
            → (if b then cleared_in bs + 1 else cleared_in bs) ≤ suc (length bs)
        by_one true few = omega arith
        by_one false few = omega arith

-- a visit that began
pub entered : (old new : BoardSeatView) (answer : EnterAnswer) → EnterTells old new answer
    → answer ≡ enter.Ok → EnterTells old new enter.Ok
entered old new answer tells is = subst (EnterTells old new) is tells
