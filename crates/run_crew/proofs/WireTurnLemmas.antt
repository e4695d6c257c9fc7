-- The wire announces the packets in turn: it looks for a packet's filter before it announces it.
use Rattle.std.specs.Prelude.{drop}
use mathlib.Core.Logic.{dite}
use native.Mathlib.Decide.{ℕ_discrete}
use Rattle.steer_base.specs.Arrivals.{Route, route}
use Rattle.history.specs.Regular.{route_of}
use Rattle.run_words.specs.declared.hint_word.HintWord.TheVariants as word
use Rattle.run_coupling.proofs.Lists.PlaceLemmas.{AreNumbered}
use Rattle.run_crew.specs.Routes.{announcement}
use Rattle.run_crew.proofs.Names.{◌≡◌, ◌⊎◌, inl, inr, ℕ, zero, suc, ◌+◌, ◌<◌, ◌≤◌, ◌==◌, Bool, true}
use Rattle.run_crew.proofs.Names.{false, List, [], ◌∷◌, Option, Some, None, length, sym, refl, ap}
use Rattle.run_crew.proofs.Names.{◌∙◌, subst, arith, if◌then◌else◌, slice_get, slice_index, if_same}
use Rattle.run_crew.proofs.Names.{if_other, filter_place, table_place, Filter, Redirection}
use Rattle.run_crew.proofs.Names.{HintStep, ClearIf, Load, Store, Arrival, nth_step, none-some}
use Rattle.run_crew.proofs.Names.{some-is, nth-first, nth-inside, nth-last, nth-old, HintView}
use Rattle.run_crew.proofs.Names.{hint_number, filter_in, Setup, packet_hash, ByFilter, Leads}
use Rattle.run_crew.proofs.Names.{LooksUpFilter, Routes}

-- ---- lists with more loads

abbrev is_load : HintStep → Bool
is_load (Load n v) = true
is_load (Store n v) = false
is_load (ClearIf n v done) = false

-- the word and the value of a packet's announcement
abbrev announced : ℕ → ℕ → HintStep
announced y value = Store (hint_number (word.Queue y)) value

-- the word of a store
abbrev stored_number : HintStep → ℕ
stored_number (Store number value) = number
stored_number _ = 0

-- To these steps only loads were added.
record HasLoaded (old new : List HintStep) : Type 0 where
  keeps : (k : ℕ) (d : HintStep) → nth_step old k ≡ Some d → nth_step new k ≡ Some d
  only : (k : ℕ) (d : HintStep) → nth_step new k ≡ Some d
      → (nth_step old k ≡ Some d) ⊎ (is_load d ≡ true)
  longer : length old ≤ length new

kept : (d : HintStep) (steps : List HintStep) (k : ℕ) (e : HintStep) → nth_step steps k ≡ Some e
    → nth_step (d ∷ steps) k ≡ Some e
kept d steps k e at = nth-old (d ∷ []) steps k (nth-inside steps k e at) ∙ at

none-loaded : (old new : List HintStep) → new ≡ old → HasLoaded old new
none-loaded old new same =
    subst (λ zs. HasLoaded old zs) (sym same)
    (record { keeps = λ k d at. at; only = λ k d at. inl at; longer = omega arith })

one-loaded : (n v : ℕ) (old new : List HintStep) → new ≡ Load n v ∷ old → HasLoaded old new
one-loaded n v old new same =
    subst (λ zs. HasLoaded old zs) (sym same) (record {
      keeps = kept (Load n v) old;
      only = λ k d at. elim (nth-first (Load n v) old k d at) [
        | inl before ↦ inl before
        | inr last ↦ inr (ap is_load (sym last.0))
      ];
      longer = omega arith;
    })

both-loaded : (first second third : List HintStep) → HasLoaded first second
    → HasLoaded second third → HasLoaded first third
both-loaded first second third x y =
    record {
      keeps = λ k d at. y.keeps k d (x.keeps k d at);
      only = λ k d at. elim (y.only k d at) [
        | inl before ↦ x.only k d before
        | inr load ↦ inr load
      ];
      longer = (let m = x.longer in let n = y.longer in omega (arith, m, n));
    }

-- ---- the numbers of arrivals

-- the arrivals, the newest first, have their numbers of those before them
abbrev AreCounted : List Arrival → Type 0
AreCounted late = (k : ℕ) (a : Arrival) → nth_step late k ≡ Some a → a.id ≡ k

counted-rest : (a : Arrival) (rest : List Arrival) → AreCounted (a ∷ rest) → AreCounted rest
counted-rest a rest all k b at =
    all k b (nth-old (a ∷ []) rest k (nth-inside rest k b at) ∙ at)

pub id-at : (arrivals : List Arrival) (n k : ℕ) (a : Arrival) → AreNumbered n arrivals
    → slice_get arrivals k ≡ Some a → a.id ≡ n + k
id-at [] n k a numbered at = none-some a at
id-at (b ∷ rest) n zero a numbered at =
    let first : b.id ≡ n = ap (λ zs. slice_index zs 0) numbered in
    let same : b.id ≡ a.id = ap (λ (z : Arrival). z.id) (some-is b a at) in
    omega (arith, first, same)
id-at (b ∷ rest) n (suc k) a numbered at =
    let x = id-at rest (n + 1) k a (ap (λ zs. drop 1 zs) numbered) at in omega (arith, x)

-- ---- the way of a packet

abbrev filter_of_route : Route → Option ℕ
filter_of_route r = r.filter

module _ (given : Setup) (filters : ℕ) (reta : Redirection) where
  filter-loaded : (place : Option ℕ) (old new : HintView) (f : Option Filter)
      → LooksUpFilter given place old new f → HasLoaded old.steps new.steps
  filter-loaded None old new f looks =
      none-loaded old.steps new.steps (ap (λ (s : HintView). s.steps) looks.1)
  filter-loaded (Some place) old new f looks =
      one-loaded (hint_number (word.Filter place)) looks.0 old.steps new.steps
      (ap (λ (s : HintView). s.steps) looks.2)

  by-filter-loaded : (hash : ℕ) (f : Option Filter) (a : Arrival) (old new : HintView)
      → ByFilter given reta hash f a old new → HasLoaded old.steps new.steps
  by-filter-loaded hash (Some f) a old new by =
      none-loaded old.steps new.steps (ap (λ (s : HintView). s.steps) by.1)
  by-filter-loaded hash None a old new (queue, way, (value, is, same)) =
      one-loaded (hint_number (word.Redirection (table_place hash))) value old.steps new.steps
      (ap (λ (s : HintView). s.steps) same)

  way-loaded : (hash : Option ℕ) (a : Arrival) (old new : HintView)
      → Routes given filters reta hash a old new → HasLoaded old.steps new.steps
  way-loaded None a old new way =
      none-loaded old.steps new.steps (ap (λ (s : HintView). s.steps) way.1)
  way-loaded (Some hash) a old new (f, mid, looks, by) =
      both-loaded old.steps mid.steps new.steps
      (filter-loaded (filter_place filters (Some hash)) old mid f looks)
      (by-filter-loaded hash f a mid new by)

  -- for a packet with a hash something was loaded
  some-loaded : (o : Option ℕ) (hash : ℕ) (a : Arrival) (old new : HintView) → o ≡ Some hash
      → Routes given filters reta o a old new → length old.steps < length new.steps
  some-loaded None hash a old new some way = none-some hash some
  some-loaded (Some h) hash a old new some (None, mid, looks, (queue, way, (value, is, same))) =
      let low = (filter-loaded (filter_place filters (Some h)) old mid None looks).longer in
      let n = ap (λ (s : HintView). length s.steps) same in
      omega (arith, low, n)
  some-loaded (Some h) hash a old new some (Some f, mid, looks, by) =
      at (filter_place filters (Some h)) looks
    where
      at : (place : Option ℕ) → LooksUpFilter given place old mid (Some f)
          → length old.steps < length new.steps
      at None none = none-some f (sym none.0)
      at (Some place) is =
          let m = ap (λ (s : HintView). length s.steps) is.2 in
          let n = ap (λ (s : HintView). length s.steps) by.1 in
          omega (arith, m, n)

  -- With this step a filter was loaded that leads to the queue, for a hash.
  pub record HasLoadedFilter (steps : List HintStep) (step hash queue : ℕ) : Type 0 where
    pub place : ℕ
    pub value : ℕ
    pub filter : Filter
    pub here : filter_place filters (Some hash) ≡ Some place
    pub queue_is : filter.queue ≡ queue
    pub means : filter_in value (length given.homes) given.cpus ≡ Some filter
    pub loads : nth_step steps step ≡ Some (Load (hint_number (word.Filter place)) value)

  more-steps : (old new : List HintStep) (step hash queue : ℕ)
      → ((k : ℕ) (d : HintStep) → nth_step old k ≡ Some d → nth_step new k ≡ Some d)
      → HasLoadedFilter old step hash queue → HasLoadedFilter new step hash queue
  more-steps old new step hash queue keeps x =
      record {
        place = x.place;
        value = x.value;
        filter = x.filter;
        here = x.here;
        queue_is = x.queue_is;
        means = x.means;
        loads = keeps step (Load (hint_number (word.Filter x.place)) x.value) x.loads;
      }

  -- what came by a filter found it with the first step of its way
  filter-first : (o : Option ℕ) (hash queue : ℕ) (a : Arrival) (old new : HintView)
      → o ≡ Some hash → route_of a ≡ route (Some hash) (Some queue) 0
      → Routes given filters reta o a old new
      → HasLoadedFilter new.steps (length old.steps) hash queue
  filter-first None hash queue a old new some way is = none-some hash some
  filter-first (Some h) hash queue a old new some way (None, mid, looks, by) =
      none-some queue (ap filter_of_route (sym by.1 ∙ way))
  filter-first (Some h) hash queue a old new some way (Some f, mid, looks, by) =
      subst (λ (n : ℕ). HasLoadedFilter new.steps (length old.steps) n queue)
      (some-is h hash some) (at (filter_place filters (Some h)) refl looks)
    where
      at : (place : Option ℕ) → filter_place filters (Some h) ≡ place
          → LooksUpFilter given place old mid (Some f)
          → HasLoadedFilter new.steps (length old.steps) h queue
      at None there none = none-some f (sym none.0)
      at (Some place) there (value, is, same) =
          record {
            place = place;
            value = value;
            filter = f;
            here = there;
            queue_is = some-is f.queue queue (ap filter_of_route (sym by.0 ∙ way));
            means = sym is;
            loads =
                ap (λ (s : HintView). nth_step s.steps (length old.steps)) (by.1 ∙ same)
                ∙ nth-last (Load (hint_number (word.Filter place)) value) old.steps;
          }

  -- ---- all arrivals

  -- the step before those of a packet
  abbrev pub look_in : (late : List Arrival) (old new : HintView)
      → Leads given filters reta late old new → ℕ → ℕ
  look_in [] old new leads x = 0
  look_in (a ∷ rest) old new (before, mid, more, way, same) x =
      if length rest == x then length before.steps else look_in rest old before more x

  look-low : (late : List Arrival) (old new : HintView)
      (leads : Leads given filters reta late old new) (x : ℕ) → x < length late
      → look_in late old new leads x < length new.steps
  look-low [] old new leads x less = absurd (omega (arith, less))
  look-low (a ∷ rest) old new (before, mid, more, way, same) x less =
      let low = (way-loaded (packet_hash given a.id) a before mid way).longer in
      let n = ap (λ (s : HintView). length s.steps) same in
      dite (ℕ_discrete (length rest) x)
      (λ e. subst (λ m. m < length new.steps)
      (sym (if_same (length rest) x (length before.steps) (look_in rest old before more x) e))
      (omega (arith, low, n)))
      (λ ne. subst (λ m. m < length new.steps)
      (sym (if_other (length rest) x (length before.steps) (look_in rest old before more x) ne))
      (let m = look-low rest old before more x (omega (arith, less, ne)) in
      omega (arith, low, n, m)))

  -- an announced packet is one of these, and was looked up before
  pub told : (late : List Arrival) (old new : HintView)
      (leads : Leads given filters reta late old new) → old.steps ≡ [] → AreCounted late
      → (n y value : ℕ) → nth_step new.steps n ≡ Some (Store (hint_number (word.Queue y)) value)
      → (y < length late)
      × ((x hash : ℕ) → x ≤ y → packet_hash given x ≡ Some hash
      → look_in late old new leads x < n)
  told [] old new leads none counted n y value at =
      none-some (Store (hint_number (word.Queue y)) value)
      (sym (ap (λ (s : HintView). nth_step s.steps n) leads ∙ ap (λ zs. nth_step zs n) none) ∙ at)
  told (a ∷ rest) old new (before, mid, more, way, same) none counted n y value at =
      by_step (told rest old before more none (counted-rest a rest counted) n y value)
      (nth-first (announcement a) mid.steps n (announced y value)
      (subst (λ (s : HintView). nth_step s.steps n ≡ Some (announced y value)) same at))
    where
      loaded : HasLoaded before.steps mid.steps
      loaded = way-loaded (packet_hash given a.id) a before mid way

      by_step : (nth_step before.steps n ≡ Some (announced y value)
          → (y < length rest)
          × ((x hash : ℕ) → x ≤ y → packet_hash given x ≡ Some hash
          → look_in rest old before more x < n))
          → (nth_step mid.steps n ≡ Some (announced y value))
          ⊎ ((announcement a ≡ announced y value) × (n ≡ length mid.steps))
          → (y < suc (length rest))
          × ((x hash : ℕ) → x ≤ y → packet_hash given x ≡ Some hash
          → (if length rest == x then length before.steps else look_in rest old before more x) < n)
      by_step earlier_told (inl earlier) = elim (loaded.only n (announced y value) earlier) [
        | inl older ↦
            let t = earlier_told older in
            let low = t.0 in (
              omega (arith, low),
              λ x hash le some. subst (λ m. m < n)
                  (sym (if_other (length rest) x (length before.steps)
                  (look_in rest old before more x) (λ e. absurd (omega (arith, e, le, low)))))
                  (t.1 x hash le some),
            )
        | inr load ↦ absurd (cc)
      ]
      by_step earlier_told (inr (is, last)) =
          let number : hint_number (word.Queue a.id) ≡ hint_number (word.Queue y) =
          ap stored_number is in
          let mine : a.id ≡ length rest = counted (length rest) a (nth-last a rest) in
          let longer = loaded.longer in (
            omega (arith, number, mine),
            λ x hash le some. dite (ℕ_discrete (length rest) x)
                (λ e. subst (λ m. m < n)
                (sym (if_same (length rest) x (length before.steps)
                (look_in rest old before more x) e))
                (let id : x ≡ a.id = omega (arith, e, mine) in
                let more_steps = some-loaded (packet_hash given a.id) hash a before mid
                (ap (packet_hash given) (sym id) ∙ some) way in
                omega (arith, more_steps, last)))
                (λ ne. subst (λ m. m < n)
                (sym (if_other (length rest) x (length before.steps)
                (look_in rest old before more x) ne))
                (let low = look-low rest old before more x
                (omega (arith, ne, le, number, mine)) in
                omega (arith, low, longer, last))),
          )

  -- what came by a filter was looked up at its look
  pub found-filter : (late : List Arrival) (old new : HintView)
      (leads : Leads given filters reta late old new) → AreCounted late
      → (k : ℕ) (a : Arrival) (hash queue : ℕ) → nth_step late k ≡ Some a
      → packet_hash given a.id ≡ Some hash → route_of a ≡ route (Some hash) (Some queue) 0
      → HasLoadedFilter new.steps (look_in late old new leads k) hash queue
  found-filter [] old new leads counted k a hash queue at some way = none-some a at
  found-filter (b ∷ rest) old new (before, mid, more, routes, same) counted k a hash queue at some
      way =
      subst (λ (s : HintView). HasLoadedFilter s.steps
      (if length rest == k then length before.steps else look_in rest old before more k) hash queue)
      (sym same)
      (more-steps mid.steps (announcement b ∷ mid.steps) _ hash queue
      (kept (announcement b) mid.steps)
      (by_place
      (λ earlier. found-filter rest old before more (counted-rest b rest counted) k a hash queue
      earlier some way)
      (nth-first b rest k a at)))
    where
      by_place : (nth_step rest k ≡ Some a
          → HasLoadedFilter before.steps (look_in rest old before more k) hash queue)
          → (nth_step rest k ≡ Some a) ⊎ ((b ≡ a) × (k ≡ length rest))
          → HasLoadedFilter mid.steps
          (if length rest == k then length before.steps else look_in rest old before more k) hash
          queue
      by_place found (inl earlier) =
          let low = nth-inside rest k a earlier in
          subst (λ n. HasLoadedFilter mid.steps n hash queue)
          (sym (if_other (length rest) k (length before.steps) (look_in rest old before more k)
          (λ e. absurd (omega (arith, e, low)))))
          (more-steps before.steps mid.steps (look_in rest old before more k) hash queue
          (way-loaded (packet_hash given b.id) b before mid routes).keeps
          (found earlier))
      by_place found (inr (is, last)) =
          subst (λ n. HasLoadedFilter mid.steps n hash queue)
          (sym (if_same (length rest) k (length before.steps) (look_in rest old before more k)
          (sym last)))
          (filter-first (packet_hash given b.id) hash queue b before mid
          (ap (λ (z : Arrival). packet_hash given z.id) is ∙ some) (ap route_of is ∙ way) routes)

  -- nothing was cleared
  pub no-clear : (late : List Arrival) (old new : HintView) → Leads given filters reta late old new
      → old.steps ≡ [] → (n number value : ℕ) (done : Bool)
      → nth_step new.steps n ≡ Some (ClearIf number value done) → ⊥
  no-clear [] old new leads none n number value done at =
      none-some (ClearIf number value done)
      (sym (ap (λ (s : HintView). nth_step s.steps n) leads ∙ ap (λ zs. nth_step zs n) none) ∙ at)
  no-clear (a ∷ rest) old new (before, mid, more, way, same) none n number value done at =
      elim (nth-first (announcement a) mid.steps n (ClearIf number value done)
      (subst (λ (s : HintView). nth_step s.steps n ≡ Some (ClearIf number value done)) same at)) [
        | inl earlier ↦ elim ((way-loaded (packet_hash given a.id) a before mid way).only n
            (ClearIf number value done) earlier) [
              | inl older ↦ no-clear rest old before more none n number value done older
              | inr load ↦ absurd (cc)
            ]
        | inr last ↦ (let e = last.0 in absurd (cc))
      ]
