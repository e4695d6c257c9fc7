-- What the stores of the controller and of the wire were for.
use Rattle.std.proofs.lemmas.Bool.{and_parts, cases_eq}
use Rattle.steer_base.specs.declared.command.Command.{Command}
use Rattle.steer_base.specs.declared.command.Command.TheVariants as give
use Rattle.rss_table.specs.declared.reta.TheConstants.{RETA_ENTRIES}
use Rattle.hint_words.specs.Steps.{value_written}
use Rattle.history.specs.declared.commanded.Commanded.{Commanded}
use Rattle.plan_reader.specs.declared.plan.Plan.{Plan}
use Rattle.steer_model.specs.Good.Arrivals.{EntryFrom}
use Rattle.steer_model.specs.Good.Inputs.{WasDone}
use Rattle.steer_model.specs.Good.Writes.{StoodAt}
use Rattle.run_words.specs.declared.hint_word.HintWord.TheVariants as word
use Rattle.run_coupling.specs.Coupling.Tries.{Try}
use Rattle.run_coupling.proofs.Tries.GivenLemmas.{all-joined, all_within}
use Rattle.run_coupling.proofs.Tries.RangeLemmas.{IsWithinPlan}
use Rattle.run_crew.specs.StoreCoupling.{IsEntryValue, TellsNothing}
use Rattle.run_crew.proofs.Names.{◌≡◌, ◌⊎◌, inl, inr, ℕ, ◌<◌, Bool, List, [], ◌∷◌, None, Some, All}
use Rattle.run_crew.proofs.Names.{length, map, sym, ◌∙◌, subst, arith, nat_lt, Contains, ltb-true}
use Rattle.run_crew.proofs.Names.{ne_eqb, All-cons, All-head, All-nil, All-tail, SeatView, if_same}
use Rattle.run_crew.proofs.Names.{if_other, Filter, MAX_SOCKET_SIZE, HintStep, ClearIf, Load, Store}
use Rattle.run_crew.proofs.Names.{Arrival, History, Execution, Input, hint_number, AreShared}
use Rattle.run_crew.proofs.Names.{HintCodes, StoresAreMeant, oldest_first, nth_step, StoresInTurn}
use Rattle.run_crew.proofs.Names.{BoardSizes, BoardStep}
use Rattle.run_crew.proofs.StoreCouplingLemmas.{own_store}
use Rattle.run_crew.proofs.TurnListLemmas.{nth_contains}
use Rattle.run_crew.specs.ArrivalLaws.{ArrivalsAreCoupled}
use Rattle.run_controller.specs.Laws.{CommandsAreCoupled, IsStoredFor}
use Rattle.run_crew.proofs.ChoiceFunctions.{at-place, none-some, some-is}

abbrev Hint : Type 0
Hint = SeatView HintStep

-- ---- commands that were done are the plan's

all-oldest : {A : Type 0} (P : A → Type 0) (xs : List A) → All P xs → All P (oldest_first xs)
all-oldest P [] all = All-nil P
all-oldest P (x ∷ xs) all =
    all-joined P (oldest_first xs) (x ∷ []) (all-oldest P xs (All-tail P x xs all))
    (All-cons P x [] (All-head P x xs all) (All-nil P))

all-given : (plan : Plan) (ts : List Try)
    → All (λ (t : Try). IsWithinPlan plan t.given.command) ts
    → All (λ (g : Commanded). IsWithinPlan plan g.command) (map (λ (t : Try). t.given) ts)
all-given plan [] all = All-nil (λ (g : Commanded). IsWithinPlan plan g.command)
all-given plan (t ∷ ts) all =
    All-cons (λ (g : Commanded). IsWithinPlan plan g.command) t.given
    (map (λ (t : Try). t.given) ts)
    (All-head (λ (t : Try). IsWithinPlan plan t.given.command) t ts all)
    (all-given plan ts (All-tail (λ (t : Try). IsWithinPlan plan t.given.command) t ts all))

-- ---- what a step writes

store-written : (at n v value : ℕ) → value_written at (Store n v) ≡ Some value
    → (n ≡ at) × (v ≡ value)
store-written at n v value writes = elim (cases_eq n at) [
  | inl same ↦ (same, some-is v value (sym (if_same n at (Some v) None same) ∙ writes))
  | inr other ↦ none-some value (sym (if_other n at (Some v) None other) ∙ writes)
]

clear-written : (at n v value : ℕ) (done : Bool) → value_written at (ClearIf n v done) ≡ Some value
    → n ≡ at
clear-written at n v value done writes = elim (cases_eq n at) [
  | inl same ↦ same
  | inr other ↦ (let none : None ≡ Some value = rw (ne_eqb n at other) at writes in
      none-some value none)
]

module _ (i : Input) (h : History) (c : HintCodes) (execution : Execution) (seat : Hint)
    (codes : AreShared c) where
  place-back : (m n : ℕ) → c.place m ≡ c.place n → m ≡ n
  place-back m n same =
      let a = codes.place m in let b = codes.place n in omega (arith, a, b, same)

  -- ---- of the controller

  module _ (rx tx : BoardSizes) (rx_own tx_own : ℕ → List BoardStep) (tries : List Try)
      (coupled : CommandsAreCoupled i h rx tx rx_own tx_own c seat tries) where
    within : (d : Command) → WasDone h d → IsWithinPlan i.plan d
    within d (j, there) =
        at-place (λ (g : Commanded). IsWithinPlan i.plan g.command) h.commands j _
        (subst (All (λ (g : Commanded). IsWithinPlan i.plan g.command)) (sym
        coupled.received.commands)
        (all-oldest (λ (g : Commanded). IsWithinPlan i.plan g.command) _
        (all-given i.plan tries
        (all_within i.plan tries h.commands coupled.received.commands coupled.commands.given))))
        there

    entry-low : (entry q : ℕ) → WasDone h (give.Reta entry q) → entry < RETA_ENTRIES
    entry-low entry q done =
        ltb-true entry 128
        (and_parts (nat_lt entry 128) (nat_lt q (length i.plan.queues))
        (within (give.Reta entry q) done)).0

    app-low : (app cpu : ℕ) → WasDone h (give.Stand app cpu) → app < length i.plan.apps
    app-low app cpu done =
        ltb-true app (length i.plan.apps)
        (and_parts (nat_lt app (length i.plan.apps)) (nat_lt cpu i.plan.cpus)
        (within (give.Stand app cpu) done)).0

    socket : {B : Type 0} (place cpu : ℕ) → place < MAX_SOCKET_SIZE
        → IsStoredFor h c (c.socket place) (c.place cpu) → B
    socket place cpu less (inl (e, q, number, value, done)) =
        let a = codes.socket place in let b = codes.entry e in
        absurd (omega (arith, a, b, number, less))
    socket place cpu less (inr (inl (app, w, number, value, done))) =
        let a = codes.socket place in let b = codes.stand app in
        absurd (omega (arith, a, b, number, less))
    socket place cpu less (inr (inr (e, size, low, number, value, done))) =
        absurd (c.place_is_set cpu value)

    entry : (place q : ℕ) → place < RETA_ENTRIES
        → IsStoredFor h c (c.entry place) (c.place q) → EntryFrom i h place q
    entry place q less (inl (e, p, number, value, done)) =
        let a = codes.entry place in let b = codes.entry e in
        let same : e ≡ place = omega (arith, a, b, number) in
        inr (subst (λ n. WasDone h (give.Reta n q)) same
        (subst (λ n. WasDone h (give.Reta e n)) (sym (place-back q p value)) done))
    entry place q less (inr (inl (app, w, number, value, done))) =
        let a = codes.entry place in let b = codes.stand app in
        absurd (omega (arith, a, b, number, less))
    entry place q less (inr (inr (e, size, low, number, value, done))) =
        absurd (c.place_is_set q value)

    stand : (a cpu : ℕ) → a < length i.plan.apps
        → IsStoredFor h c (c.stand a) (c.place cpu) → StoodAt i h a cpu
    stand a cpu less (inl (e, q, number, value, done)) =
        let x = codes.stand a in let y = codes.entry e in let low = entry-low e q done in
        absurd (omega (arith, x, y, number, low))
    stand a cpu less (inr (inl (app, w, number, value, done))) =
        let x = codes.stand a in let y = codes.stand app in
        let same : app ≡ a = omega (arith, x, y, number) in
        inr (subst (λ n. WasDone h (give.Stand n cpu)) same
        (subst (λ n. WasDone h (give.Stand app n)) (sym (place-back cpu w value)) done))
    stand a cpu less (inr (inr (e, size, low, number, value, done))) =
        absurd (c.place_is_set cpu value)

    filter : {B : Type 0} (place : ℕ) (f : Filter)
        → IsStoredFor h c (c.filter place) (c.filter_value f) → B
    filter place f (inl (e, q, number, value, done)) =
        let x = codes.filter place in let y = codes.entry e in let low = entry-low e q done in
        absurd (omega (arith, x, y, number, low))
    filter place f (inr (inl (app, w, number, value, done))) =
        let x = codes.filter place in let y = codes.stand app in
        let low = app-low app w done in
        let few = i.plan.within.apps_length.at_most in
        absurd (omega (arith, x, y, number, low, few))
    filter place f (inr (inr (e, size, low, number, value, done))) =
        absurd (c.filter_is_set f value)

    packet : {B : Type 0} (x q : ℕ) → IsStoredFor h c (c.packet x) (c.place q) → B
    packet x q (inl (e, p, number, value, done)) =
        let a = codes.packet x in let b = codes.entry e in let low = entry-low e p done in
        absurd (omega (arith, a, b, number, low))
    packet x q (inr (inl (app, w, number, value, done))) =
        let a = codes.packet x in let b = codes.stand app in
        let low = app-low app w done in
        let few = i.plan.within.apps_length.at_most in
        absurd (omega (arith, a, b, number, low, few))
    packet x q (inr (inr (e, size, low, number, value, done))) = absurd (c.place_is_set q value)

    pub commands-meant : StoresAreMeant i h c (seat ∷ []) execution
    commands-meant =
        record {
          sockets = λ place cpu less s.
              socket place cpu less (coupled.stored _ _ (own_store seat _ _ s));
          entries = λ place q less s.
              entry place q less (coupled.stored _ _ (own_store seat _ _ s));
          stands = λ a cpu less s. stand a cpu less (coupled.stored _ _ (own_store seat _ _ s));
          filters = λ place f less low small s.
              filter place f (coupled.stored _ _ (own_store seat _ _ s));
          packets = λ x q less s. packet x q (coupled.stored _ _ (own_store seat _ _ s));
        }

    -- ---- in their turn

    stored-at : (n number value : ℕ) → nth_step seat.steps n ≡ Some (Store number value)
        → IsStoredFor h c number value
    stored-at n number value at =
        coupled.stored number value (nth_contains seat.steps n (Store number value) at)

    mark : {B : Type 0} (x value : ℕ) → IsStoredFor h c (c.steered x) value → B
    mark x value (inl (e, p, number, same, done)) =
        let a = codes.steered x in let b = codes.entry e in let low = entry-low e p done in
        absurd (omega (arith, a, b, number, low))
    mark x value (inr (inl (app, w, number, same, done))) =
        let a = codes.steered x in let b = codes.stand app in
        let low = app-low app w done in
        let few = i.plan.within.apps_length.at_most in
        absurd (omega (arith, a, b, number, low, few))
    mark x value (inr (inr (e, size, low, number, same, done))) =
        let a = codes.steered x in let b = codes.socket e in
        absurd (omega (arith, a, b, number, low))

    -- the value of an entry that the controller stored
    entry-stored : (place number value : ℕ) → place < MAX_SOCKET_SIZE → number ≡ c.socket place
        → IsStoredFor h c number value → IsEntryValue i h c value
    entry-stored place number value less is (inl (e, q, at, same, done)) =
        let a = codes.socket place in let b = codes.entry e in
        absurd (omega (arith, a, b, at, is, less))
    entry-stored place number value less is (inr (inl (app, w, at, same, done))) =
        let a = codes.socket place in let b = codes.stand app in
        absurd (omega (arith, a, b, at, is, less))
    entry-stored place number value less is (inr (inr (e, size, low, at, same, done))) =
        inr (size, same, done)

    entry-written : (place value : ℕ) (d : HintStep) → place < MAX_SOCKET_SIZE
        → Contains seat.steps d → value_written (c.socket place) d ≡ Some value
        → IsEntryValue i h c value
    entry-written place value (Load n v) less has writes = none-some value writes
    entry-written place value (Store n v) less has writes =
        let w = store-written (c.socket place) n v value writes in
        entry-stored place n value less w.0
        (subst (IsStoredFor h c n) w.1 (coupled.stored n v has))
    entry-written place value (ClearIf n v done) less has writes =
        let at = coupled.cleared n v done has in
        let same = clear-written (c.socket place) n v value done writes in
        let a = codes.socket place in
        let b = codes.filter at.0 in
        let filter_at = at.2 in
        absurd (omega (arith, same, a, b, filter_at, less))

    pub commands-in-turn : (seats : List Hint) (reply : (app write : ℕ) → ℕ)
        → StoresInTurn i h c seats execution reply [] seat
    commands-in-turn seats reply =
        record {
          filters = λ n place f less low small at. filter place f (stored-at n _ _ at);
          marks_are = λ x n value at. mark x value (stored-at n _ _ at);
          writes = λ n place cpu less at. socket place cpu less (stored-at n _ _ at);
          entries = entry-written;
        }

    pub commands-quiet : TellsNothing c seat
    commands-quiet y n value at = told y value (stored-at n _ _ at)
      where
        told : (x value : ℕ) → IsStoredFor h c (c.packet x) value → ⊥
        told x value (inl (e, p, number, same, done)) =
            let a = codes.packet x in let b = codes.entry e in let low = entry-low e p done in
            absurd (omega (arith, a, b, number, low))
        told x value (inr (inl (app, w, number, same, done))) =
            let a = codes.packet x in let b = codes.stand app in
            let low = app-low app w done in
            let few = i.plan.within.apps_length.at_most in
            absurd (omega (arith, a, b, number, low, few))
        told x value (inr (inr (e, size, low, number, same, done))) =
            let a = codes.packet x in let b = codes.socket e in
            absurd (omega (arith, a, b, number, low))

  -- ---- of the wire

  module _ (seats : List Hint) (coupled : ArrivalsAreCoupled i h c seats seat) where
    pub arrivals-meant : StoresAreMeant i h c (seat ∷ []) execution
    arrivals-meant =
        record {
          sockets = λ place cpu less s.
              let a = codes.socket place in
              not-there (c.socket place) (c.place cpu) (omega (arith, a, less))
              (own_store seat _ _ s);
          entries = λ place q less s.
              let a = codes.entry place in
              not-there (c.entry place) (c.place q) (omega (arith, a, less)) (own_store seat _ _ s);
          stands = λ app cpu less s.
              let a = codes.stand app in let few = i.plan.within.apps_length.at_most in
              not-there (c.stand app) (c.place cpu) (omega (arith, a, less, few))
              (own_store seat _ _ s);
          filters = λ place f less low small s.
              let a = codes.filter place in let few = i.plan.within.filters_within in
              not-there (c.filter place) (c.filter_value f) (omega (arith, a, less, few))
              (own_store seat _ _ s);
          packets = λ x q less s. coupled.packets x q (own_store seat _ _ s);
        }
      where
        -- the wire stores in no word before that which says that all packets have arrived
        not-there : {B : Type 0} (number value : ℕ) → number < hint_number word.Done
            → Contains seat.steps (Store number value) → B
        not-there {B = B} number value low has = at (coupled.stored number value has)
          where
            at : (number ≡ hint_number word.Done)
                ⊎ ((a : Arrival) × Contains h.arrivals a × (number ≡ c.packet a.id)
                × (value ≡ c.place a.queue)) → B
            at (inl same) = absurd (omega (arith, low, same))
            at (inr (a, among, same, is)) =
                let x = codes.packet a.id in absurd (omega (arith, low, same, x))

    -- ---- in their turn

    wire-stored : (n number value : ℕ) → nth_step seat.steps n ≡ Some (Store number value)
        → (number ≡ hint_number word.Done)
        ⊎ ((a : Arrival) × Contains h.arrivals a × (number ≡ c.packet a.id)
        × (value ≡ c.place a.queue))
    wire-stored n number value at =
        coupled.stored number value (nth_contains seat.steps n (Store number value) at)

    -- the wire stores in no word before that which says that all packets have arrived
    none-before : {B : Type 0} (number value : ℕ) → number < hint_number word.Done
        → (number ≡ hint_number word.Done)
        ⊎ ((a : Arrival) × Contains h.arrivals a × (number ≡ c.packet a.id)
        × (value ≡ c.place a.queue)) → B
    none-before number value low (inl same) = absurd (omega (arith, low, same))
    none-before number value low (inr (a, among, same, is)) =
        let x = codes.packet a.id in absurd (omega (arith, low, same, x))

    no-mark : {B : Type 0} (x value : ℕ)
        → (c.steered x ≡ hint_number word.Done)
        ⊎ ((a : Arrival) × Contains h.arrivals a × (c.steered x ≡ c.packet a.id)
        × (value ≡ c.place a.queue)) → B
    no-mark x value (inl same) = let a = codes.steered x in absurd (omega (arith, a, same))
    no-mark x value (inr (a, among, same, is)) =
        let m = codes.steered x in let n = codes.packet a.id in absurd (omega (arith, m, n, same))

    wire-entry : {B : Type 0} (place value : ℕ) (d : HintStep) → place < MAX_SOCKET_SIZE
        → Contains seat.steps d → value_written (c.socket place) d ≡ Some value → B
    wire-entry place value (Load n v) less has writes = none-some value writes
    wire-entry place value (Store n v) less has writes =
        let w = store-written (c.socket place) n v value writes in
        let same = w.0 in
        let a = codes.socket place in
        none-before n v (omega (arith, same, a, less)) (coupled.stored n v has)
    wire-entry place value (ClearIf n v done) less has writes =
        absurd (coupled.cleared n v done has)

    pub arrivals-in-turn : (reply : (app write : ℕ) → ℕ)
        → StoresInTurn i h c seats execution reply [] seat
    arrivals-in-turn reply =
        record {
          filters = λ n place f less low small at.
              (let a = codes.filter place in let few = i.plan.within.filters_within in
              none-before (c.filter place) (c.filter_value f) (omega (arith, a, less, few))
              (wire-stored n _ _ at));
          marks_are = λ x n value at. no-mark x value (wire-stored n _ _ at);
          writes = λ n place cpu less at.
              (let a = codes.socket place in
              none-before (c.socket place) (c.place cpu) (omega (arith, a, less))
              (wire-stored n _ _ at));
          entries = λ place value d less has writes. wire-entry place value d less has writes;
        }
