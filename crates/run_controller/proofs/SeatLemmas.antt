-- The controller's seats after a try.
use Rattle.steer_base.specs.Filters.{may_expire}
use Rattle.steer_base.specs.declared.command.Answer.TheVariants as says
use Rattle.steer_base.specs.declared.filter.Filter.{Filter}
use Rattle.hint_words.specs.declared.step.HintStep.TheVariants.{Load}
use Rattle.hop_rule.specs.Gates.{openings}
use Rattle.hop_rule.specs.declared.step.GateStep.TheVariants.{Entered, Left, Opened, Read}
use Rattle.hop_rule.specs.declared.step.GateStep.TheVariants.{Set, Shut}
use Rattle.board_api.specs.Calls.Rights.{HasOpen, IsOutside}
use Rattle.board_api.specs.StepWords.{low_half}
use Rattle.run_words.specs.Numbers.{receive_number}
use Rattle.run_words.specs.Values.{filter_in, flows_in}
use Rattle.run_words.specs.declared.hint_word.HintWord.TheVariants as word
use Rattle.run_words.specs.declared.setting.ReceiveSetting.TheVariants as receive
use Rattle.run_coupling.proofs.Tries.EmptiedLemmas.{gates-looking}
use Rattle.run_controller.proofs.Names.{◌≡◌, ◌⊎◌, inl, inr, ℕ, suc, ◌+◌, ◌*◌, ◌^◌, ◌≤◌, Bool, true}
use Rattle.run_controller.proofs.Names.{false, List, [], ◌∷◌, ◌++◌, Option, Some, None, length}
use Rattle.run_controller.proofs.Names.{refl, sym, ap, subst, ◌∙◌, arith, Contains, Answer, Inside}
use Rattle.run_controller.proofs.Names.{NotEmpty, CpuMask, ClearIf, Store, gate_steps, closed}
use Rattle.run_controller.proofs.Names.{visit, BoardSizes, BoardStep, Gate, Weighed, Looked}
use Rattle.run_controller.proofs.Names.{looking, BoardSeatView, BoardView, hint_number, Shared}
use Rattle.run_controller.proofs.Names.{IsGated, HintView, after_step}
use Rattle.run_controller.proofs.HintLemmas.{ClearsFilters, clear-no-store, clears-more}
use Rattle.run_controller.proofs.HintLemmas.{clears-none, clears-on, load-no-clear, load-no-store}
use Rattle.run_controller.proofs.HintLemmas.{past-step, word_of}
use Rattle.run_controller.proofs.ListLemmas.{contains-cases}
use Rattle.run_controller.specs.Expiries.{ClearsIf, Expires, ExpiresFirst, ExpiresOne, LooksAt}
use Rattle.run_controller.specs.Stages.{IsSeated, opened_by}

-- ---- a try behind a gate

-- the seat is where it was, with its gate open, and has opened it once more at most
pub record StaysOut (old new : BoardSeatView) : Type 0 where
  pub table : new.table ≡ old.table
  pub number : new.number ≡ old.number
  pub visit_is : visit (gate_steps new.steps) ≡ visit (gate_steps old.steps)
  pub opens : HasOpen old.steps → HasOpen new.steps
  pub opened : opened_by new ≤ opened_by old + 1

pub stays_seated : (board : BoardView) (old new : BoardSeatView) → StaysOut old new
    → IsSeated board old → IsSeated board new
stays_seated board old new stays is =
    record {
      table = stays.table ∙ is.table;
      closer = stays.number ∙ is.closer;
      outside = stays.visit_is ∙ is.outside;
      is_open = stays.opens is.is_open;
    }

pub same_stays : (old new : BoardSeatView) → new ≡ old → StaysOut old new
same_stays old new same =
    subst (StaysOut old) (sym same)
    (record {
      table = refl;
      number = refl;
      visit_is = refl;
      opens = λ was. was;
      opened = omega arith;
    })

-- from what all steps came to at the gate
opened_out : (xs : List Looked) (w : ℕ) (newer : List BoardStep) (old new : BoardSeatView)
    → new.table ≡ old.table → new.number ≡ old.number
    → new.steps ≡ Gate Opened ∷ (newer ++ looking xs (Gate (Shut w) ∷ old.steps))
    → ((ds : List BoardStep) → visit (gate_steps (newer ++ ds)) ≡ visit (gate_steps ds))
    → ((ds : List BoardStep) → openings (gate_steps (newer ++ ds)) ≡ openings (gate_steps ds))
    → StaysOut old new
opened_out xs w newer old new table number is quiet few =
    let base : List BoardStep = Gate (Shut w) ∷ old.steps in
    let looks : List BoardStep = looking xs base in
    let count : opened_by new ≡ opened_by old + 1 =
    ap (λ ds. openings (gate_steps ds)) is
    ∙ ap (λ n. n + 1) (few looks ∙ ap openings (gates-looking xs base)) in
    record {
      table = table;
      number = number;
      visit_is =
          ap (λ ds. visit (gate_steps ds)) is
          ∙ (quiet looks ∙ ap visit (gates-looking xs base));
      opens = λ _. ap (λ ds. closed (gate_steps ds)) is;
      opened = omega arith;
    }

pub gated_stays : (about : BoardSizes) (lanes : CpuMask) (number value : ℕ) (answer : Answer)
    (old new : BoardSeatView) → IsGated about lanes number value old new answer
    → StaysOut old new
gated_stays about lanes number value says.Done old new
    (mid, (shut, closes, all), (set, sets, opens)) =
    let w : ℕ = openings (gate_steps old.steps) * 2 ^ 32 in
    opened_out all.looked w (Gate (Set number value) ∷ []) old new
    (ap (λ (s : BoardSeatView). s.table) opens
    ∙ (ap (λ (s : BoardSeatView). s.table) sets
    ∙ (ap (λ (s : BoardSeatView). s.table) all.step
    ∙ ap (λ (s : BoardSeatView). s.table) closes)))
    (ap (λ (s : BoardSeatView). s.number) opens
    ∙ (ap (λ (s : BoardSeatView). s.number) sets
    ∙ (ap (λ (s : BoardSeatView). s.number) all.step
    ∙ ap (λ (s : BoardSeatView). s.number) closes)))
    (ap (λ (s : BoardSeatView). s.steps) opens
    ∙ ap (λ ds. Gate Opened ∷ ds)
    (ap (λ (s : BoardSeatView). s.steps) sets
    ∙ ap (λ ds. Gate (Set number value) ∷ ds)
    (ap (λ (s : BoardSeatView). s.steps) all.step
    ∙ ap (λ (s : BoardSeatView). looking all.looked s.steps) closes)))
    (λ ds. refl) (λ ds. refl)
gated_stays about lanes number value (says.Busy (Inside n)) old new (word, is, some, few, adds) =
    let count : opened_by new ≡ opened_by old =
    ap (λ (s : BoardSeatView). openings (gate_steps s.steps)) adds in
    record {
      table = ap (λ (s : BoardSeatView). s.table) adds;
      number = ap (λ (s : BoardSeatView). s.number) adds;
      visit_is = ap (λ (s : BoardSeatView). visit (gate_steps s.steps)) adds;
      opens = λ was. ap (λ (s : BoardSeatView). closed (gate_steps s.steps)) adds ∙ was;
      opened = omega arith;
    }
gated_stays about lanes number value (says.Busy (NotEmpty lane head tail)) old new
    (mid, looked, closes, found, opens) =
    let w : ℕ = openings (gate_steps old.steps) * 2 ^ 32 in
    opened_out (found.looked ++ found.last ∷ []) w [] old new
    (ap (λ (s : BoardSeatView). s.table) opens
    ∙ (ap (λ (s : BoardSeatView). s.table) found.step
    ∙ ap (λ (s : BoardSeatView). s.table) closes))
    (ap (λ (s : BoardSeatView). s.number) opens
    ∙ (ap (λ (s : BoardSeatView). s.number) found.step
    ∙ ap (λ (s : BoardSeatView). s.number) closes))
    (ap (λ (s : BoardSeatView). s.steps) opens
    ∙ ap (λ ds. Gate Opened ∷ ds)
    (ap (λ (s : BoardSeatView). s.steps) found.step
    ∙ ap (λ (s : BoardSeatView). looking (found.looked ++ found.last ∷ []) s.steps) closes))
    (λ ds. refl) (λ ds. refl)
gated_stays about lanes number value (says.Expired n) old new gated = absurd gated
gated_stays about lanes number value (says.Idle why) old new gated = absurd gated
gated_stays about lanes number value (says.CpuInUse user) old new gated = absurd gated
gated_stays about lanes number value says.CpuOffline old new gated = absurd gated

-- ---- an expiry

-- what an expiry loads for a filter: the head of its processor and the flow count of its queue
pub record Glance : Type 0 where
  pub index : ℕ
  pub value : ℕ
  pub lane : ℕ
  pub word : ℕ

-- the steps of these, the newest first
abbrev pub glances : List Glance → List BoardStep
glances [] = []
glances (x ∷ xs) = Gate (Read x.index x.value) ∷ Weighed x.lane x.word ∷ glances xs

pub visit-glances : (xs : List Glance) (ds : List BoardStep)
    → visit (gate_steps (glances xs ++ ds)) ≡ visit (gate_steps ds)
visit-glances [] ds = refl
visit-glances (x ∷ xs) ds = visit-glances xs ds

pub closed-glances : (xs : List Glance) (ds : List BoardStep)
    → closed (gate_steps (glances xs ++ ds)) ≡ closed (gate_steps ds)
closed-glances [] ds = refl
closed-glances (x ∷ xs) ds = closed-glances xs ds

pub openings-glances : (xs : List Glance) (ds : List BoardStep)
    → openings (gate_steps (glances xs ++ ds)) ≡ openings (gate_steps ds)
openings-glances [] ds = refl
openings-glances (x ∷ xs) ds = openings-glances xs ds

-- the seats after these glances; the hint words were loaded, the words of filters, of so many, were
-- cleared, and nothing was stored
pub record Glanced (filters : ℕ) (old new : BoardSeatView) (hint_old hint_new : HintView)
    : Type 0 where
  pub seen : List Glance
  pub steps : new.steps ≡ glances seen ++ old.steps
  pub table : new.table ≡ old.table
  pub number : new.number ≡ old.number
  pub hint_table : hint_new.table ≡ hint_old.table
  pub stored : (n v : ℕ) → Contains hint_new.steps (Store n v) → Contains hint_old.steps (Store n v)
  pub cleared : ClearsFilters filters hint_old hint_new

-- a clear leaves the stores, and clears its word alone
clears : (b : Bool) (number value : ℕ) (old new : HintView) (cleared : Bool)
    → ClearsIf b number value old new cleared
    → (new.table ≡ old.table)
    × ((n v : ℕ) → Contains new.steps (Store n v) → Contains old.steps (Store n v))
    × ((n v : ℕ) (done : Bool) → Contains new.steps (ClearIf n v done)
    → Contains old.steps (ClearIf n v done) ⊎ (n ≡ number))
clears true number value old new cleared is = (
  ap (λ (s : HintView). s.table) is,
  λ n v has. past-step (ClearIf number value cleared) (Store n v) old.steps
      (clear-no-store number value n v cleared)
      (subst (λ (s : HintView). Contains s.steps (Store n v)) is has),
  λ n v done has.
      elim (contains-cases (ClearIf number value cleared) old.steps (ClearIf n v done)
      (subst (λ (s : HintView). Contains s.steps (ClearIf n v done)) is has)) [
        | inl e ↦ inr (sym (ap word_of e))
        | inr older ↦ inl older
      ],
)
clears false number value old new cleared is = (
  ap (λ (s : HintView). s.table) is.0,
  λ n v has. subst (λ (s : HintView). Contains s.steps (Store n v)) is.0 has,
  λ n v done has. inl (subst (λ (s : HintView). Contains s.steps (ClearIf n v done)) is.0 has),
)

no_glance : (filters : ℕ) (old new : BoardSeatView) (hint_old hint_new : HintView) → new ≡ old
    → hint_new ≡ hint_old → Glanced filters old new hint_old hint_new
no_glance filters old new hint_old hint_new same hint =
    record {
      seen = [];
      steps = ap (λ (s : BoardSeatView). s.steps) same;
      table = ap (λ (s : BoardSeatView). s.table) same;
      number = ap (λ (s : BoardSeatView). s.number) same;
      hint_table = ap (λ (s : HintView). s.table) hint;
      stored = λ n v has. subst (λ (s : HintView). Contains s.steps (Store n v)) hint has;
      cleared = clears-none filters hint_old hint_new hint;
    }

looks_glance : (shared : Shared) (place value : ℕ) (f : Option Filter) (old new : BoardSeatView)
    (hint_old hint_new : HintView) (cleared : Bool)
    → LooksAt shared place value f old new hint_old hint_new cleared
    → Glanced (suc place) old new hint_old hint_new
looks_glance shared place value None old new hint_old hint_new cleared (same, hint, is) =
    no_glance (suc place) old new hint_old hint_new same hint
looks_glance shared place value (Some f) old new hint_old hint_new cleared
    (head, flows, adds, clear) =
    let index : ℕ = receive_number (length shared.given.homes) (receive.Flows f.queue) in
    let hints = clears (may_expire f (low_half head) (flows_in flows))
    (hint_number (word.Filter place)) value hint_old hint_new cleared clear in
    record {
      seen = record { index = index; value = flows; lane = f.cpu; word = head } ∷ [];
      steps = ap (λ (s : BoardSeatView). s.steps) adds;
      table = ap (λ (s : BoardSeatView). s.table) adds;
      number = ap (λ (s : BoardSeatView). s.number) adds;
      hint_table = hints.0;
      stored = hints.1;
      cleared = λ n v done has. elim (hints.2 n v done has) [
        | inl older ↦ inl older
        | inr is ↦ inr (place, omega arith, is)
      ];
    }

one_glance : (shared : Shared) (place : ℕ) (old new : BoardSeatView) (hint_old hint_new : HintView)
    (cleared : Bool) → ExpiresOne shared place old new hint_old hint_new cleared
    → Glanced (suc place) old new hint_old hint_new
one_glance shared place old new hint_old hint_new cleared (value, looks) =
    let number : ℕ = hint_number (word.Filter place) in
    let g = looks_glance shared place value
    (filter_in value (length shared.given.homes) shared.given.cpus) old new
    (after_step (Load number value) hint_old) hint_new cleared looks in
    record {
      seen = g.seen;
      steps = g.steps;
      table = g.table;
      number = g.number;
      hint_table = g.hint_table;
      stored = λ n v has. past-step (Load number value) (Store n v) hint_old.steps
          (load-no-store number value n v) (g.stored n v has);
      cleared = λ n v done has. elim (g.cleared n v done has) [
        | inl older ↦ inl (past-step (Load number value) (ClearIf n v done) hint_old.steps
            (load-no-clear number value n v done) older)
        | inr filter ↦ inr filter
      ];
    }

pub first_glances : (shared : Shared) (outcomes : List Bool) (old new : BoardSeatView)
    (hint_old hint_new : HintView) → ExpiresFirst shared outcomes old new hint_old hint_new
    → Glanced (length outcomes) old new hint_old hint_new
first_glances shared [] old new hint_old hint_new (same, hint) =
    no_glance 0 old new hint_old hint_new same hint
first_glances shared (cleared ∷ rest) old new hint_old hint_new (mid, hint_mid, older, one) =
    let a = first_glances shared rest old mid hint_old hint_mid older in
    let b = one_glance shared (length rest) mid new hint_mid hint_new cleared one in
    record {
      seen = b.seen ++ a.seen;
      steps = b.steps ∙ (ap (λ ds. glances b.seen ++ ds) a.steps
          ∙ glances-append b.seen a.seen old.steps);
      table = b.table ∙ a.table;
      number = b.number ∙ a.number;
      hint_table = b.hint_table ∙ a.hint_table;
      stored = λ n v has. a.stored n v (b.stored n v has);
      cleared = clears-on (suc (length rest)) hint_old hint_mid hint_new
          (clears-more (length rest) (suc (length rest)) hint_old hint_mid (omega arith) a.cleared)
          b.cleared;
    }
  where
    glances-append : (xs ys : List Glance) (ds : List BoardStep)
        → glances xs ++ (glances ys ++ ds) ≡ glances (xs ++ ys) ++ ds
    glances-append [] ys ds = refl
    glances-append (x ∷ xs) ys ds =
        ap (λ zs. Gate (Read x.index x.value) ∷ Weighed x.lane x.word ∷ zs)
        (glances-append xs ys ds)

-- all that an expiry adds at the receive board
pub expired_steps : (shared : Shared) (old new : BoardSeatView) (hint_old hint_new : HintView)
    (count : ℕ) → Expires shared old new hint_old hint_new count
    → (xs : List Glance) × (w : ℕ)
    × (new.steps ≡ Gate Left ∷ (glances xs ++ Gate (Entered w) ∷ old.steps))
expired_steps shared old new hint_old hint_new count e =
    let g = first_glances shared e.all.outcomes e.first e.last hint_old hint_new e.all.expires in (
      g.seen,
      e.word,
      ap (λ (s : BoardSeatView). s.steps) e.leaves
          ∙ ap (λ ds. Gate Left ∷ ds)
          (g.steps ∙ ap (λ (s : BoardSeatView). glances g.seen ++ s.steps) e.enters),
    )

pub expired_stays : (shared : Shared) (old new : BoardSeatView) (hint_old hint_new : HintView)
    (count : ℕ) → IsOutside old.steps → Expires shared old new hint_old hint_new count
    → StaysOut old new
expired_stays shared old new hint_old hint_new count outside e =
    let g = first_glances shared e.all.outcomes e.first e.last hint_old hint_new e.all.expires in
    let s = expired_steps shared old new hint_old hint_new count e in
    let older : List BoardStep = Gate (Entered s.1) ∷ old.steps in
    let many : opened_by new ≡ opened_by old =
    ap (λ ds. openings (gate_steps ds)) s.2 ∙ openings-glances s.0 older in
    record {
      table = ap (λ (z : BoardSeatView). z.table) e.leaves
          ∙ (g.table ∙ ap (λ (z : BoardSeatView). z.table) e.enters);
      number = ap (λ (z : BoardSeatView). z.number) e.leaves
          ∙ (g.number ∙ ap (λ (z : BoardSeatView). z.number) e.enters);
      visit_is = ap (λ ds. visit (gate_steps ds)) s.2 ∙ sym outside;
      opens = λ was. ap (λ ds. closed (gate_steps ds)) s.2 ∙ (closed-glances s.0 older ∙ was);
      opened = omega arith;
    }
