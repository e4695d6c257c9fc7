-- What the wire did gives its coupling invariants.
use Rattle.std.proofs.Common.{leb-false}
use Rattle.std.specs.Prelude.{◌||◌, ◌-◌, ◌/◌, ◌^◌, drop, if◌then◌else◌}
use Rattle.std.specs.List.{range_with_len}
use Rattle.std.proofs.lemmas.List.Elements.{Contains-append_left, Contains-push, All-push}
use Rattle.steer_base.specs.Arrivals.{route}
use Rattle.rss_table.specs.Redirection.{queue_of}
use Rattle.history.specs.Finding.{found}
use Rattle.history.specs.Lists.{arrival_of, no_arrival}
use Rattle.history.specs.Regular.{route_of}
use Rattle.history.proofs.FindingLemmas.{found-here, found-past}
use Rattle.run_words.specs.Values.{place_word}
use Rattle.run_words.specs.declared.hint_word.HintWord.TheVariants as word
use Rattle.run_words.specs.declared.values.TheConstants.{DONE}
use Rattle.run_words.proofs.ValueLemmas.{only_coded}
use Rattle.run_coupling.specs.Coupling.Hints.{IsByWord, IsRouted, Says, SawNoFilter, WasLoaded}
use Rattle.run_coupling.proofs.Runs.CodeLemmas.{no-filter-says}
use Rattle.run_coupling.proofs.Lists.PlaceLemmas.{AreNumbered}
use Rattle.run_coupling.specs.Coupling.Marks.{LoadsFilter}
use Rattle.run_crew.proofs.Names.{◌≡◌, ◌⊎◌, inl, inr, ℕ, zero, suc, ◌%◌, ◌<◌, ◌==◌, Bool, true}
use Rattle.run_crew.proofs.Names.{false, List, [], ◌∷◌, ◌++◌, Option, Some, None, length, map, All}
use Rattle.run_crew.proofs.Names.{◌+◌, ◌≤◌, refl, sym, ap, subst, ◌∙◌, arith, nat_le, slice_get}
use Rattle.run_crew.proofs.Names.{slice_index, unwrap_or, Contains, length-map}
use Rattle.run_crew.proofs.Names.{length-range_with_len, All-nil, filter_place, table_place, Filter}
use Rattle.run_crew.proofs.Names.{Redirection, HintStep, ClearIf, Load, Store, Arrival, History}
use Rattle.run_crew.proofs.Names.{nth_step, none-some, some-is, nth-first, nth-inside, nth-old}
use Rattle.run_crew.proofs.Names.{QueuePlan, hint_number, filter_in, place_in, Input, setup_in}
use Rattle.run_crew.proofs.Names.{Setup, packet_hash, AreShared, HintCodes, word-says, oldest_first}
use Rattle.run_crew.proofs.Names.{ByFilter, Leads, LooksUpFilter, Routes, HintView}
use Rattle.run_crew.proofs.TurnListLemmas.{has_number, nth-oldest, oldest-nth}
use Rattle.run_crew.proofs.WireTurnLemmas.{found-filter, id-at, look_in, no-clear, told}
use Rattle.run_crew.specs.ArrivalLaws.{IsInTurn, WireKeepsCoupling}
use Rattle.run_crew.specs.Routes.{announcement}
use Rattle.run_words.specs.HintViews.{after_step}

-- ---- members of a list of steps

contains-first : {A : Type 0} (x : A) (xs : List A) → Contains (x ∷ xs) x
contains-first x xs = (0, omega arith, refl)

contains-later : {A : Type 0} (y : A) (xs : List A) (x : A) → Contains xs x → Contains (y ∷ xs) x
contains-later y xs x (k, less, is) = (suc k, omega arith, is)

contains-cases : {A : Type 0} (y : A) (xs : List A) (x : A) → Contains (y ∷ xs) x
    → (y ≡ x) ⊎ Contains xs x
contains-cases y xs x (zero, less, is) = inl is
contains-cases y xs x (suc k, less, is) = inr (k, omega arith, is)

-- a load is no store
store_count : HintStep → ℕ
store_count (Load n v) = 0
store_count (Store n v) = 1
store_count (ClearIf n v done) = 0

number_of : HintStep → ℕ
number_of (Load n v) = n
number_of (Store n v) = n
number_of (ClearIf n v done) = n

value_of : HintStep → ℕ
value_of (Load n v) = v
value_of (Store n v) = v
value_of (ClearIf n v done) = v

past-load : (m w n v : ℕ) (steps : List HintStep) → Contains (Load m w ∷ steps) (Store n v)
    → Contains steps (Store n v)
unfolding store_count
past-load m w n v steps c = elim (contains-cases (Load m w) steps (Store n v) c) [
  | inl e ↦ (let z = ap store_count e in absurd (omega arith))
  | inr older ↦ older
]

-- ---- filters in range

or-cases : (a b : Bool) → (a || b) ≡ false → (a ≡ false) × (b ≡ false)
or-cases true b e = absurd (cc)
or-cases false b e = (refl, e)

-- the filter that a word may mean
abbrev made : ℕ → Filter
made value = record {
  queue = (value - 1) % 16;
  cpu = (value - 1) / 16 % 32;
  mark = (value - 1) / 512;
}

in-range : (value queues cpus : ℕ) (f : Filter) → filter_in value queues cpus ≡ Some f
    → (f.queue < queues) × (f.cpu < cpus)
in-range value queues cpus f is = by_zero (value == 0) is
  where
    by_range : (a b c : Bool) → nat_le queues ((value - 1) % 16) ≡ a
        → nat_le cpus ((value - 1) / 16 % 32) ≡ b
        → (if a || (b || c) then None else Some (made value)) ≡ Some f
        → (f.queue < queues) × (f.cpu < cpus)
    by_range true b c x y is = none-some f is
    by_range false true c x y is = none-some f is
    by_range false false true x y is = none-some f is
    by_range false false false x y is =
        subst (λ (f : Filter). (f.queue < queues) × (f.cpu < cpus)) (some-is (made value) f is)
        (leb-false queues ((value - 1) % 16) x, leb-false cpus ((value - 1) / 16 % 32) y)

    by_zero : (b : Bool)
        → (if b then None else
        if nat_le queues ((value - 1) % 16)
        || (nat_le cpus ((value - 1) / 16 % 32) || nat_le (2 ^ 32) ((value - 1) / 512))
        then None else Some (made value)) ≡ Some f
        → (f.queue < queues) × (f.cpu < cpus)
    by_zero true is = none-some f is
    by_zero false is =
        by_range (nat_le queues ((value - 1) % 16)) (nat_le cpus ((value - 1) / 16 % 32))
        (nat_le (2 ^ 32) ((value - 1) / 512)) refl refl is

-- ---- what a packet's way adds

module _ (given : Setup) (filters : ℕ) (reta : Redirection) where
  filter-grows : (place : Option ℕ) (old new : HintView) (f : Option Filter)
      → LooksUpFilter given place old new f → (d : HintStep) → Contains old.steps d
      → Contains new.steps d
  filter-grows None old new f looks d c =
      subst (λ (s : HintView). Contains s.steps d) (sym looks.1) c
  filter-grows (Some place) old new f looks d c =
      subst (λ (s : HintView). Contains s.steps d) (sym looks.2)
      (contains-later (Load (hint_number (word.Filter place)) looks.0) old.steps d c)

  by-filter-grows : (hash : ℕ) (f : Option Filter) (a : Arrival) (old new : HintView)
      → ByFilter given reta hash f a old new → (d : HintStep) → Contains old.steps d
      → Contains new.steps d
  by-filter-grows hash (Some f) a old new by d c =
      subst (λ (s : HintView). Contains s.steps d) (sym by.1) c
  by-filter-grows hash None a old new (queue, way, (value, is, same)) d c =
      subst (λ (s : HintView). Contains s.steps d) (sym same)
      (contains-later (Load (hint_number (word.Redirection (table_place hash))) value) old.steps d
      c)

  routes-grow : (hash : Option ℕ) (a : Arrival) (old new : HintView)
      → Routes given filters reta hash a old new → (d : HintStep) → Contains old.steps d
      → Contains new.steps d
  routes-grow None a old new way d c = subst (λ (s : HintView). Contains s.steps d) (sym way.1) c
  routes-grow (Some hash) a old new (f, mid, looks, by) d c =
      by-filter-grows hash f a mid new by d
      (filter-grows (filter_place filters (Some hash)) old mid f looks d c)

  -- no store
  filter-stores : (place : Option ℕ) (old new : HintView) (f : Option Filter)
      → LooksUpFilter given place old new f → (n v : ℕ) → Contains new.steps (Store n v)
      → Contains old.steps (Store n v)
  filter-stores None old new f looks n v c =
      subst (λ (s : HintView). Contains s.steps (Store n v)) looks.1 c
  filter-stores (Some place) old new f looks n v c =
      past-load (hint_number (word.Filter place)) looks.0 n v old.steps
      (subst (λ (s : HintView). Contains s.steps (Store n v)) looks.2 c)

  by-filter-stores : (hash : ℕ) (f : Option Filter) (a : Arrival) (old new : HintView)
      → ByFilter given reta hash f a old new → (n v : ℕ) → Contains new.steps (Store n v)
      → Contains old.steps (Store n v)
  by-filter-stores hash (Some f) a old new by n v c =
      subst (λ (s : HintView). Contains s.steps (Store n v)) by.1 c
  by-filter-stores hash None a old new (queue, way, (value, is, same)) n v c =
      past-load (hint_number (word.Redirection (table_place hash))) value n v old.steps
      (subst (λ (s : HintView). Contains s.steps (Store n v)) same c)

  routes-stores : (hash : Option ℕ) (a : Arrival) (old new : HintView)
      → Routes given filters reta hash a old new → (n v : ℕ) → Contains new.steps (Store n v)
      → Contains old.steps (Store n v)
  routes-stores None a old new way n v c =
      subst (λ (s : HintView). Contains s.steps (Store n v)) way.1 c
  routes-stores (Some hash) a old new (f, mid, looks, by) n v c =
      filter-stores (filter_place filters (Some hash)) old mid f looks n v
      (by-filter-stores hash f a mid new by n v c)

  -- ---- all arrivals

  leads-grow : (late : List Arrival) (old new : HintView) → Leads given filters reta late old new
      → (d : HintStep) → Contains old.steps d → Contains new.steps d
  leads-grow [] old new leads d c = subst (λ (s : HintView). Contains s.steps d) (sym leads) c
  leads-grow (a ∷ rest) old new (before, mid, more, way, same) d c =
      subst (λ (s : HintView). Contains s.steps d) (sym same)
      (contains-later (announcement a) mid.steps d
      (routes-grow (packet_hash given a.id) a before mid way d
      (leads-grow rest old before more d c)))

  leads-stores : (late : List Arrival) (old new : HintView) → Leads given filters reta late old new
      → (n v : ℕ) → Contains new.steps (Store n v)
      → Contains old.steps (Store n v)
      ⊎ ((a : Arrival) × Contains late a × (n ≡ hint_number (word.Queue a.id))
      × (v ≡ place_word a.queue))
  unfolding number_of value_of
  leads-stores [] old new leads n v c =
      inl (subst (λ (s : HintView). Contains s.steps (Store n v)) leads c)
  leads-stores (a ∷ rest) old new (before, mid, more, way, same) n v c =
      elim (contains-cases (announcement a) mid.steps (Store n v)
      (subst (λ (s : HintView). Contains s.steps (Store n v)) same c)) [
        | inl e ↦ inr (a, contains-first a rest, sym (ap number_of e), sym (ap value_of e))
        | inr older ↦ elim (leads-stores rest old before more n v
            (routes-stores (packet_hash given a.id) a before mid way n v older)) [
              | inl oldest ↦ inl oldest
              | inr found ↦ inr (found.0, contains-later a rest found.0 found.1, found.2, found.3)
            ]
      ]

-- ---- the coupling

module _ (i : Input) (h : History) (c : HintCodes) (seats : List HintView) (final : HintView)
    (shared : AreShared c) (among : Contains seats final) where
  abbrev reta : Redirection
  reta = record { queues = length i.plan.queues; entries = i.plan.reta }

  loaded : (n m v w : ℕ) → n ≡ m → v ≡ w → Contains final.steps (Load m w) → WasLoaded seats n v
  loaded n m v w number value has = record {
    seat = final;
    among = among;
    loads = subst (λ (z : ℕ × ℕ). Contains final.steps (Load z.0 z.1))
        (λ k. (sym number k, sym value k)) has;
  }

  queue-count : length (setup_in i).homes ≡ length i.plan.queues
  queue-count = length-map i.plan.queues (λ (q : QueuePlan). q.home)

  by-filter : (hash : ℕ) (place : Option ℕ) (old mid : HintView) (f : Filter) (a : Arrival)
      → filter_place i.plan.filters (Some hash) ≡ place
      → LooksUpFilter (setup_in i) place old mid (Some f)
      → ((d : HintStep) → Contains mid.steps d → Contains final.steps d)
      → route_of a ≡ route (Some hash) (Some f.queue) 0 → IsRouted i h c seats (Some hash) a
  by-filter hash None old mid f a there looks sub way = none-some f (sym looks.0)
  by-filter hash (Some place) old mid f a there (value, is, same) sub way =
      let range = in-range value (length (setup_in i).homes) (setup_in i).cpus f (sym is) in
      let number : ℕ = hint_number (word.Filter place) in
      inr (
        place,
        f,
        subst (λ n. f.queue < n) queue-count range.0,
        range.1,
        way,
        there,
        loaded (c.filter place) number (c.filter_value f) value (shared.filter place)
            (shared.filter_value f
            ∙ sym (only_coded.filter value (length (setup_in i).homes) (setup_in i).cpus f
            (sym is)))
            (sub (Load number value)
            (subst (λ (s : HintView). Contains s.steps (Load number value)) (sym same)
            (contains-first (Load number value) old.steps))),
      )

  -- the word of the filter said none
  no-filter : (hash : ℕ) (place : Option ℕ) (old mid : HintView)
      → filter_place i.plan.filters (Some hash) ≡ place
      → LooksUpFilter (setup_in i) place old mid None
      → ((d : HintStep) → Contains mid.steps d → Contains final.steps d)
      → SawNoFilter i h c seats hash
  no-filter hash None old mid there looks sub = inl there
  no-filter hash (Some place) old mid there (value, is, same) sub =
      let number : ℕ = hint_number (word.Filter place) in
      inr (
        place,
        value,
        there,
        loaded (c.filter place) number value value (shared.filter place) refl
            (sub (Load number value)
            (subst (λ (s : HintView). Contains s.steps (Load number value)) (sym same)
            (contains-first (Load number value) old.steps))),
        no-filter-says c shared value (length i.plan.queues) i.plan.cpus
            i.plan.within.queues_length.at_most i.plan.within.cpus_within
            (subst (λ n. filter_in value n i.plan.cpus ≡ None) queue-count (sym is)),
      )

  by-entry : (hash queue value : ℕ) (place : Option ℕ) (a : Arrival)
      → SawNoFilter i h c seats hash
      → place_in value (length (setup_in i).homes) ≡ place
      → queue ≡ unwrap_or place (queue_of reta (Some hash))
      → route_of a ≡ route (Some hash) None queue
      → Contains final.steps (Load (hint_number (word.Redirection (table_place hash))) value)
      → IsRouted i h c seats (Some hash) a
  by-entry hash queue value place a none is same way has =
      inl (queue, way, none, by-place place is same)
    where
      was : WasLoaded seats (c.entry (table_place hash)) value
      was =
          loaded (c.entry (table_place hash)) (hint_number (word.Redirection (table_place hash)))
          value value (shared.entry (table_place hash)) refl has

      says : (o : Option ℕ) → place_in value (length (setup_in i).homes) ≡ o
          → Says c (length i.plan.queues) value o
      says o at =
          word-says c shared value (length i.plan.queues) o
          (ap (place_in value) (sym queue-count) ∙ at)

      by-place : (o : Option ℕ) → place_in value (length (setup_in i).homes) ≡ o
          → queue ≡ unwrap_or o (queue_of reta (Some hash))
          → IsByWord i h c seats (c.entry (table_place hash)) (length i.plan.queues) queue
          (slice_index i.plan.reta (table_place hash) ≡ queue)
      by-place None at plan = inr ((value, was, says None at), sym plan)
      by-place (Some q) at said =
          inl (value, was, says (Some queue) (at ∙ ap (λ n. Some n) (sym said)))

  routed : (hash : Option ℕ) (a : Arrival) (old new : HintView)
      → Routes (setup_in i) i.plan.filters reta hash a old new
      → ((d : HintStep) → Contains new.steps d → Contains final.steps d)
      → IsRouted i h c seats hash a
  routed None a old new way sub = way.0
  routed (Some hash) a old new (Some f, mid, looks, by) sub =
      by-filter hash (filter_place i.plan.filters (Some hash)) old mid f a refl looks
      (λ d has. sub d (subst (λ (s : HintView). Contains s.steps d) (sym by.1) has)) by.0
  routed (Some hash) a old new (None, mid, looks, by) sub =
      let value : ℕ = by.2.0 in
      let load : HintStep = Load (hint_number (word.Redirection (table_place hash))) value in
      let loads : (d : HintStep) → Contains mid.steps d → Contains final.steps d =
      λ d has. sub d (subst (λ (s : HintView). Contains s.steps d) (sym by.2.2)
      (contains-later load mid.steps d has)) in
      by-entry hash by.0 value (place_in value (length (setup_in i).homes)) a
      (no-filter hash (filter_place i.plan.filters (Some hash)) old mid refl looks loads) refl
      by.2.1 by.1
      (sub load (subst (λ (s : HintView). Contains s.steps load) (sym by.2.2)
      (contains-first load mid.steps)))

  abbrev IsLed : Arrival → Type 0
  IsLed a = IsRouted i h c seats (packet_hash (setup_in i) a.id) a

  all-led : (late : List Arrival) (old new : HintView)
      → Leads (setup_in i) i.plan.filters reta late old new
      → ((d : HintStep) → Contains new.steps d → Contains final.steps d)
      → All IsLed (oldest_first late)
  all-led [] old new leads sub = All-nil IsLed
  all-led (a ∷ rest) old new (before, mid, more, way, same) sub =
      let later : (d : HintStep) → Contains mid.steps d → Contains final.steps d =
      λ d has. sub d (subst (λ (s : HintView). Contains s.steps d) (sym same)
      (contains-later (announcement a) mid.steps d has)) in
      All-push IsLed (oldest_first rest) a
      (all-led rest old before more
      (λ d has. later d
      (routes-grow (setup_in i) i.plan.filters reta (packet_hash (setup_in i) a.id) a before mid way
      d has)))
      (routed (packet_hash (setup_in i) a.id) a before mid way later)

contains-oldest : {A : Type 0} (xs : List A) (x : A) → Contains xs x → Contains (oldest_first xs) x
contains-oldest [] x (k, less, is) = absurd (omega arith)
contains-oldest (y ∷ ys) x c = elim (contains-cases y ys x c) [
  | inl e ↦
      subst (λ z. Contains (oldest_first ys ++ y ∷ []) z) e (Contains-push (oldest_first ys) y)
  | inr later ↦
      Contains-append_left (oldest_first ys) (y ∷ []) x (contains-oldest ys x later)
]

-- ---- the arrival of a packet

at-least : (arrivals : List Arrival) (n : ℕ) (a : Arrival) → AreNumbered n arrivals
    → Contains arrivals a → n ≤ a.id
at-least [] n a numbered (k, less, is) = absurd (omega arith)
at-least (b ∷ rest) n a numbered c =
    let first : b.id ≡ n = ap (λ zs. slice_index zs 0) numbered in
    elim (contains-cases b rest a c) [
      | inl e ↦ (let same : b.id ≡ a.id = ap (λ (a : Arrival). a.id) e in omega arith)
      | inr later ↦
          (let more = at-least rest (n + 1) a (ap (λ zs. drop 1 zs) numbered) later in omega arith)
    ]

arrival-is : (arrivals : List Arrival) (n : ℕ) (a : Arrival) → AreNumbered n arrivals
    → Contains arrivals a → found (λ (a : Arrival). a.id) a.id arrivals ≡ Some a
arrival-is [] n a numbered (k, less, is) = absurd (omega arith)
arrival-is (b ∷ rest) n a numbered c =
    let first : b.id ≡ n = ap (λ zs. slice_index zs 0) numbered in
    let older : AreNumbered (n + 1) rest = ap (λ zs. drop 1 zs) numbered in
    elim (contains-cases b rest a c) [
      | inl e ↦
          subst (λ (z : Arrival). found (λ (a : Arrival). a.id) z.id (b ∷ rest) ≡ Some z) e
          (found-here (λ (a : Arrival). a.id) b.id b rest refl)
      | inr later ↦
          (let high = at-least rest (n + 1) a older later in
          found-past (λ (a : Arrival). a.id) a.id b rest (λ e. absurd (omega arith))
          ∙ arrival-is rest (n + 1) a older later)
    ]

-- an arrival has its place
at-own-place : (arrivals : List Arrival) (n : ℕ) (a : Arrival) → AreNumbered n arrivals
    → Contains arrivals a → (k : ℕ) → a.id ≡ n + k → slice_get arrivals k ≡ Some a
at-own-place [] n a numbered (j, less, is) k id = absurd (omega arith)
at-own-place (b ∷ rest) n a numbered c zero id = elim (contains-cases b rest a c) [
  | inl e ↦ ap Some e
  | inr later ↦
      (let more = at-least rest (n + 1) a (ap (λ zs. drop 1 zs) numbered) later in
      absurd (omega (arith, more, id)))
]
at-own-place (b ∷ rest) n a numbered c (suc k) id =
    let first : b.id ≡ n = ap (λ zs. slice_index zs 0) numbered in
    elim (contains-cases b rest a c) [
      | inl e ↦ (let same : b.id ≡ a.id = ap (λ (z : Arrival). z.id) e in
          absurd (omega (arith, first, same, id)))
      | inr later ↦
          at-own-place rest (n + 1) a (ap (λ zs. drop 1 zs) numbered) later k (omega (arith, id))
    ]

module _ (i : Input) (h : History) (c : HintCodes) (shared : AreShared c)
    (all : map (λ (a : Arrival). a.id) h.arrivals ≡ range_with_len 0 (length i.packets)) where
  numbered : AreNumbered 0 h.arrivals
  numbered =
      let same : length h.arrivals ≡ length i.packets =
      sym (length-map h.arrivals (λ (a : Arrival). a.id))
      ∙ (ap length all ∙ length-range_with_len 0 (length i.packets)) in
      all ∙ ap (range_with_len 0) (sym same)

  queue-is : (x q : ℕ)
      → ((c.packet x ≡ hint_number word.Done)
      ⊎ ((a : Arrival) × Contains h.arrivals a × (c.packet x ≡ c.packet a.id)
      × (c.place q ≡ c.place a.queue))) → (arrival_of h.arrivals x).queue ≡ q
  queue-is x q (inl e) =
      let z = sym (shared.packet x) ∙ e in absurd (omega (arith, z))
  queue-is x q (inr (a, has, number, value)) =
      let n = sym (shared.packet x) ∙ (number ∙ shared.packet a.id) in
      let v : q + 1 ≡ a.queue + 1 = sym (shared.place q) ∙ (value ∙ shared.place a.queue) in
      let id : x ≡ a.id = omega (arith, n) in
      let queue : a.queue ≡ q = omega arith in
      ap (λ z. (arrival_of h.arrivals z).queue) id
      ∙ (ap (λ (o : Option Arrival). (unwrap_or o no_arrival).queue)
      (arrival-is h.arrivals 0 a numbered has)
      ∙ queue)

module _ (i : Input) (h : History) (c : HintCodes) (old new : HintView) (shared : AreShared c)
    (none : old.steps ≡ []) (late : List Arrival) (mid : HintView)
    (are : h.arrivals ≡ oldest_first late)
    (all : map (λ (a : Arrival). a.id) h.arrivals ≡ range_with_len 0 (length i.packets)) where
  abbrev plan_table : Redirection
  plan_table = record { queues = length i.plan.queues; entries = i.plan.reta }

  abbrev last : HintStep
  last = Store (hint_number word.Done) DONE

  nobody : (n v : ℕ) → Contains [] (Store n v) → ⊥
  nobody n v (k, less, is) = absurd (omega arith)

  stored-are : Leads (setup_in i) i.plan.filters plan_table late old mid
      → new ≡ after_step last mid → (n v : ℕ) → Contains new.steps (Store n v)
      → (n ≡ hint_number word.Done)
      ⊎ ((a : Arrival) × Contains h.arrivals a × (n ≡ c.packet a.id) × (v ≡ c.place a.queue))
  unfolding number_of
  stored-are leads done n v has =
      elim (contains-cases last mid.steps (Store n v)
      (subst (λ (s : HintView). Contains s.steps (Store n v)) done has)) [
        | inl e ↦ inl (sym (ap number_of e))
        | inr older ↦ elim (leads-stores (setup_in i) i.plan.filters plan_table late old mid leads n
            v older) [
              | inl oldest ↦ absurd (nobody n v
                  (subst (λ steps. Contains steps (Store n v)) none oldest))
              | inr found ↦ inr (
                found.0,
                subst (λ xs. Contains xs found.0) (sym are)
                    (contains-oldest late found.0 found.1),
                found.2 ∙ sym (shared.packet found.0.id),
                found.3 ∙ sym (shared.place found.0.queue),
              )
            ]
      ]

  -- ---- in turn

  abbrev given : Setup
  given = setup_in i

  counted : (k : ℕ) (a : Arrival) → nth_step late k ≡ Some a → a.id ≡ k
  counted k a at =
      let is = id-at h.arrivals 0 k a (numbered i h c shared all)
      (ap (λ zs. slice_get zs k) are ∙ nth-oldest late k a at) in
      omega (arith, is)

  mid-at : new ≡ after_step last mid → (n : ℕ) (d : HintStep) → nth_step new.steps n ≡ Some d
      → (nth_step mid.steps n ≡ Some d) ⊎ ((last ≡ d) × (n ≡ length mid.steps))
  mid-at done n d at =
      nth-first last mid.steps n d
      (subst (λ (s : HintView). nth_step s.steps n ≡ Some d) done at)

  in-turn : (seats : List HintView) (leads : Leads given i.plan.filters plan_table late old mid)
      → new ≡ after_step last mid → IsInTurn i h c seats new
  unfolding number_of
  in-turn seats leads done =
      record {
        look = look_in given i.plan.filters plan_table late old mid leads;
        looks = λ a hash queue has some way. looks a hash queue (place-of a has) some way;
        tells = λ x y n value hash le some at. tells x y n value hash le some
            (mid-at done n (Store (c.packet y) value) at);
      }
    where
      tells : (x y n value hash : ℕ) → x ≤ y → packet_hash given x ≡ Some hash
          → (nth_step mid.steps n ≡ Some (Store (c.packet y) value))
          ⊎ ((last ≡ Store (c.packet y) value) × (n ≡ length mid.steps))
          → look_in given i.plan.filters plan_table late old mid leads x < n
      tells x y n value hash le some (inl at) =
          (told given i.plan.filters plan_table late old mid leads none counted n y value
          (subst (λ m. nth_step mid.steps n ≡ Some (Store m value)) (shared.packet y) at)).1 x hash
          le some
      tells x y n value hash le some (inr (is, end)) =
          let number = ap number_of is ∙ shared.packet y in absurd (omega (arith, number))

      place-of : (a : Arrival) → Contains h.arrivals a → nth_step late a.id ≡ Some a
      place-of a has =
          oldest-nth late a.id a
          (sym (ap (λ zs. slice_get zs a.id) are)
          ∙ at-own-place h.arrivals 0 a (numbered i h c shared all) has a.id (omega arith))

      looks : (a : Arrival) (hash queue : ℕ) → nth_step late a.id ≡ Some a
          → packet_hash given a.id ≡ Some hash
          → route_of a ≡ route (Some hash) (Some queue) 0
          → LoadsFilter i h c seats new
          (look_in given i.plan.filters plan_table late old mid leads a.id) hash queue
      looks a hash queue at some way =
          let x = found-filter given i.plan.filters plan_table late old mid leads counted a.id a
          hash queue at some way in
          let range = in-range x.value (length given.homes) given.cpus x.filter x.means in
          let step : ℕ = look_in given i.plan.filters plan_table late old mid leads a.id in
          let load : HintStep = Load (hint_number (word.Filter x.place)) x.value in
          let value : x.value ≡ c.filter_value x.filter =
          only_coded.filter x.value (length given.homes) given.cpus x.filter x.means
          ∙ sym (shared.filter_value x.filter) in
          record {
            place = x.place;
            filter = x.filter;
            here = x.here;
            queue_is = x.queue_is;
            queue_within =
                subst (λ n. x.filter.queue < n)
                (length-map i.plan.queues (λ (q : QueuePlan). q.home)) range.0;
            cpu_within = range.1;
            loads =
                ap (λ (s : HintView). nth_step s.steps step) done
                ∙ (nth-old (last ∷ []) mid.steps step (nth-inside mid.steps step load x.loads)
                ∙ (x.loads
                ∙ (λ j. Some (Load (sym (shared.filter x.place) j) (value j)))));
          }

  nothing-cleared : Leads given i.plan.filters plan_table late old mid
      → new ≡ after_step last mid → (number value : ℕ) (done : Bool)
      → Contains new.steps (ClearIf number value done) → ⊥
  nothing-cleared leads is number value done has =
      let at = has_number new.steps (ClearIf number value done) has in
      elim (mid-at is at.0 (ClearIf number value done) at.1) [
        | inl before ↦
            no-clear given i.plan.filters plan_table late old mid leads none at.0 number value done
            before
        | inr (same, end) ↦ absurd (cc)
      ]

pub wire_keeps_coupling : WireKeepsCoupling
wire_keeps_coupling i h c seats old new shared among none all (late, mid, are, leads, done) =
    let last : HintStep = Store (hint_number word.Done) DONE in
    let grows : (d : HintStep) → Contains mid.steps d → Contains new.steps d =
    λ d has. subst (λ (s : HintView). Contains s.steps d) (sym done)
    (contains-later last mid.steps d has) in
    let stored = stored-are i h c old new shared none late mid are all leads done in
    record {
      among = among;
      arrived = all;
      routed = subst (All (IsLed i h c seats new shared among)) (sym are)
          (all-led i h c seats new shared among late old mid leads grows);
      stored = stored;
      packets = λ x q has. queue-is i h c shared all x q (stored (c.packet x) (c.place q) has);
      in_turn = in-turn i h c old new shared none late mid are all seats leads done;
      cleared = nothing-cleared i h c old new shared none late mid are all leads done;
    }
