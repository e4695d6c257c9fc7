-- The settings after any tries are within the plan's ranges, and the homes of all queues stay
-- online.
use Rattle.std.proofs.Common.{nat_le, lit<}
use Rattle.std.specs.Prelude.{find, max, unwrap_or}
use Rattle.std.specs.Int.{IsPowerOfTwo}
use Rattle.std.proofs.Math.Nat.{pow-le-pow_right}
use Rattle.std.proofs.lemmas.Bool.{cases_Bool, leb-false}
use Rattle.std.proofs.lemmas.Nat.{and_le_l, or_lt}
use Rattle.steer_base.specs.Counters.{first_power}
use Rattle.steer_base.specs.declared.command.Command.TheVariants as give
use Rattle.steer_base.specs.declared.limits.TheConstants.{MAX_FLOW_COUNT, MAX_SOCKET_SIZE}
use Rattle.steer_base.proofs.CountersLemmas.{first_power-next}
use Rattle.plan_reader.specs.Plans.{sizes_of}
use Rattle.plan_reader.specs.Ranges.{QueueIsWithin, TxIsWithin, command_is_within}
use Rattle.plan_reader.specs.declared.plan.TxPlan.{TxPlan}
use Rattle.xps_map.specs.Maps.{no_cpus}
use Rattle.plan_reader.specs.declared.plan.Plan.{Plan}
use Rattle.steer_model.specs.State.Settings.{mask_of}
use Rattle.run_coupling.proofs.Names.{◌≡◌, ◌≢◌, inl, inr, ℕ, zero, suc, ◌+◌, ◌-◌, ◌/◌, ◌^◌, ◌<◌}
use Rattle.run_coupling.proofs.Names.{◌≤◌, ◌==◌, ◌&&◌, Bool, true, false, List, [], ◌∷◌, length}
use Rattle.run_coupling.proofs.Names.{map, All, if◌then◌else◌, sym, refl, ap, ◌∙◌, subst, arith}
use Rattle.run_coupling.proofs.Names.{nat_lt, slice_index, slice_index_or, slice_set}
use Rattle.run_coupling.proofs.Names.{range_with_len, cases_eq, ne_eqb, ltb-true, All-head}
use Rattle.run_coupling.proofs.Names.{All-tail, rounded_up, Command, CpuMask, QueuePlan, Settings}
use Rattle.run_coupling.proofs.Names.{changed, initial_settings, is_done, Try, settings_by}

-- ---- rounded numbers

-- the search through the powers of two finds none over one that is enough
find-within : (n k from len : ℕ) → from ≤ k → n ≤ 2 ^ k
    → unwrap_or (find (λ power. nat_le n power) (map (λ i. 2 ^ i) (range_with_len from len))) 0
    ≤ 2 ^ k
find-within n k from zero low enough = omega arith
find-within n k from (suc len) low enough =
    elim (cases_Bool (nat_le n (2 ^ from))) [
      | inl e ↦
          let up : 2 ^ from ≤ 2 ^ k = pow-le-pow_right {n = 2} (lit< tt) low in
          rw e up
      | inr e ↦ (
          let short : 2 ^ from < n = leb-false n (2 ^ from) e in
          elim (cases_eq from k) [
            | inl same ↦ absurd (
                let s : 2 ^ from ≡ 2 ^ k = ap (λ i. 2 ^ i) same in
                omega (arith, s, short, enough))
            | inr other ↦ rw e (find-within n k (from + 1) len (omega (arith, low, other)) enough)
          ])
    ]

first-within : (n k : ℕ) → n ≤ 2 ^ k → first_power n ≤ 2 ^ k
unfolding first_power
first-within n k enough = find-within n k 0 33 (omega arith) enough

rounded-within : (n k : ℕ) → n ≤ 2 ^ k → rounded_up n ≤ 2 ^ k
rounded-within n k few = by_zero (n == 0)
  where
    by_zero : (b : Bool) → (if b then 0 else first_power n) ≤ 2 ^ k
    by_zero true = omega arith
    by_zero false = first-within n k few

pub rounded-flows : (n : ℕ) → n ≤ MAX_FLOW_COUNT → rounded_up n ≤ MAX_FLOW_COUNT
rounded-flows n few = rounded-within n 15 few

pub rounded-sock : (n : ℕ) → n ≤ MAX_SOCKET_SIZE → rounded_up n ≤ MAX_SOCKET_SIZE
rounded-sock n few = rounded-within n 16 few

some-power : (n : ℕ) → 0 < 2 ^ n
some-power n =
    let least : 1 ≤ 2 ^ n = pow-le-pow_right {n = 2} (lit< tt) (zero-least n) in omega arith
  where
    zero-least : (m : ℕ) → 0 ≤ m
    zero-least m = omega arith

-- the search finds a power of two, if one is enough
find-power : (n k from len : ℕ) → from ≤ k → k < from + len → n ≤ 2 ^ k → IsPowerOfTwo
    (unwrap_or (find (λ power. nat_le n power) (map (λ i. 2 ^ i) (range_with_len from len))) 0)
find-power n k from zero low high enough = absurd (omega arith)
find-power n k from (suc len) low high enough =
    elim (cases_Bool (nat_le n (2 ^ from))) [
      | inl e ↦ rw e (from, refl)
      | inr e ↦ (
          let short : 2 ^ from < n = leb-false n (2 ^ from) e in
          elim (cases_eq from k) [
            | inl same ↦ absurd (
                let s : 2 ^ from ≡ 2 ^ k = ap (λ i. 2 ^ i) same in
                omega (arith, s, short, enough))
            | inr other ↦
                rw e (find-power n k (from + 1) len (omega (arith, low, other))
                (omega (arith, high)) enough)
          ])
    ]

power-found : (n : ℕ) → n ≤ MAX_FLOW_COUNT → IsPowerOfTwo (first_power n)
unfolding first_power
power-found n few = find-power n 15 0 33 (omega arith) (omega arith) few

-- a rounded flow count is its own rounding
rounded-again : (n : ℕ) → n ≤ MAX_FLOW_COUNT → rounded_up (rounded_up n) ≡ rounded_up n
rounded-again n few =
    elim (cases_eq n 0) [
      | inl e ↦ ap (λ m. rounded_up (rounded_up m)) e ∙ ap rounded_up (sym e)
      | inr ne ↦
          (let is : rounded_up n ≡ first_power n =
          ap (λ b. if b then 0 else first_power n) (ne_eqb n 0 ne) in
          ap rounded_up is
          ∙ (again (first_power n) (power-found n few)
          (let most = first-within n 15 few in omega arith)
          ∙ sym is))
    ]
  where
    again : (p : ℕ) → IsPowerOfTwo p → p ≤ 65536 → rounded_up p ≡ p
    again p power few =
        let some : 0 < p = subst (λ m. 0 < m) (sym power.1) (some-power power.0) in
        let other : p ≢ 0 = λ e. absurd (omega arith) in
        ap (λ b. if b then 0 else first_power p) (ne_eqb p 0 other)
        ∙ sym (first_power-next p p power some few (omega arith) (half p some))
      where
        half : (p : ℕ) → 0 < p → p / 2 < max 1 p
        half p some = omega arith

-- ---- ranges

-- the settings are within the ranges of a plan with so many processors
pub record FitSettings (cpus : ℕ) (s : Settings) : Type 0 where
  pub masks : (p : ℕ) → (mask_of s p).0 < 2 ^ cpus
  pub counts : (p : ℕ) → slice_index s.counts p ≤ MAX_FLOW_COUNT
  pub rounded : (p : ℕ) → rounded_up (slice_index s.counts p) ≡ slice_index s.counts p
  pub sock : s.sock ≤ MAX_SOCKET_SIZE
  pub online : s.online.0 < 2 ^ cpus

-- the maps of the transmit queues have processors and receive queues that there are
pub record FitMaps (cpus queues : ℕ) (s : Settings) : Type 0 where
  pub cpu_sets : (tx : ℕ) → (slice_index_or s.maps.cpus tx no_cpus).0 < 2 ^ cpus
  pub queue_sets : (tx : ℕ) → slice_index s.maps.queues tx < 2 ^ queues

pub and-both : (a b : Bool) → (a && b) ≡ true → (a ≡ true) × (b ≡ true)
and-both true b e = (refl, e)
and-both false b e = absurd (cc)

below-power : (m n : ℕ) → m < n → 2 ^ m < 2 ^ n
below-power m n less =
    let up : 2 ^ suc m ≤ 2 ^ n = pow-le-pow_right {n = 2} (lit< tt) less in
    let double : 2 ^ suc m ≡ 2 ^ m + 2 ^ m = double-power m in
    let some = some-power m in omega arith
  where
    double-power : (m : ℕ) → 2 ^ suc m ≡ 2 ^ m + 2 ^ m
    double-power m = omega arith

set-any : (P : CpuMask → Type 0) (xs : List CpuMask) (q p : ℕ) (x d : CpuMask) → P x
    → P (slice_index_or xs p d) → P (slice_index_or (slice_set xs q x) p d)
set-any P [] q p x d new old = old
set-any P (y ∷ xs) zero zero x d new old = new
set-any P (y ∷ xs) zero (suc p) x d new old = old
set-any P (y ∷ xs) (suc q) zero x d new old = old
set-any P (y ∷ xs) (suc q) (suc p) x d new old = set-any P xs q p x d new old

set-number : (P : ℕ → Type 0) (xs : List ℕ) (q p x : ℕ) → P x → P (slice_index xs p)
    → P (slice_index (slice_set xs q x) p)
set-number P [] q p x new old = old
set-number P (y ∷ xs) zero zero x new old = new
set-number P (y ∷ xs) zero (suc p) x new old = old
set-number P (y ∷ xs) (suc q) zero x new old = old
set-number P (y ∷ xs) (suc q) (suc p) x new old = set-number P xs q p x new old

module _ (plan : Plan) where
  abbrev Fit : Settings → Type 0
  Fit s = FitSettings plan.cpus s

  -- a command of the plan
  abbrev pub IsWithinPlan : Command → Type 0
  IsWithinPlan c = command_is_within (sizes_of plan) c ≡ true

  pub fit_changed : (s : Settings) (c : Command) → IsWithinPlan c → Fit s → Fit (changed s c)
  fit_changed s (give.Mask q mask) within f =
      let b = and-both (nat_lt q (length plan.queues)) (nat_lt mask.0 (2 ^ plan.cpus)) within in
      let small = ltb-true mask.0 (2 ^ plan.cpus) b.1 in
      record {
        masks = λ p.
            set-any (λ (m : CpuMask). m.0 < 2 ^ plan.cpus) s.masks q p mask (record { 0 = 0 }) small
            (f.masks p);
        counts = f.counts;
        rounded = f.rounded;
        sock = f.sock;
        online = f.online;
      }
  fit_changed s (give.Flows q count) within f =
      let b = and-both (nat_lt q (length plan.queues)) (nat_lt count (MAX_FLOW_COUNT + 1)) within in
      let few = ltb-true count (MAX_FLOW_COUNT + 1) b.1 in
      record {
        masks = f.masks;
        counts = λ p.
            set-number (λ n. n ≤ MAX_FLOW_COUNT) s.counts q p (rounded_up count)
            (rounded-flows count (omega arith)) (f.counts p);
        rounded = λ p.
            set-number (λ n. rounded_up n ≡ n) s.counts q p (rounded_up count)
            (rounded-again count (omega arith)) (f.rounded p);
        sock = f.sock;
        online = f.online;
      }
  fit_changed s (give.Sock size) within f =
      let few = ltb-true size (MAX_SOCKET_SIZE + 1) within in
      record {
        masks = f.masks;
        counts = f.counts;
        rounded = f.rounded;
        sock = rounded-sock size (omega arith);
        online = f.online;
      }
  fit_changed s (give.Offline cpu) within f =
      let less = and_le_l s.online.0 (2 ^ 32 - 1 - 2 ^ cpu) in
      let now = f.online in
      record {
        masks = f.masks;
        counts = f.counts;
        rounded = f.rounded;
        sock = f.sock;
        online = omega arith;
      }
  fit_changed s (give.Online cpu) within f =
      record {
        masks = f.masks;
        counts = f.counts;
        rounded = f.rounded;
        sock = f.sock;
        online =
            or_lt plan.cpus s.online.0 (2 ^ cpu) f.online
            (below-power cpu plan.cpus (ltb-true cpu plan.cpus within));
      }
  fit_changed s c within f =
      record {
        masks = f.masks;
        counts = f.counts;
        rounded = f.rounded;
        sock = f.sock;
        online = f.online;
      }

  first-masks : (qs : List QueuePlan) (p : ℕ) → All (QueueIsWithin plan.cpus) qs
      → (slice_index_or (map (λ (q : QueuePlan). q.mask) qs) p (record { 0 = 0 })).0 < 2 ^ plan.cpus
  first-masks [] p all = some-power plan.cpus
  first-masks (q ∷ qs) zero all = (All-head (QueueIsWithin plan.cpus) q qs all).mask
  first-masks (q ∷ qs) (suc p) all = first-masks qs p (All-tail (QueueIsWithin plan.cpus) q qs all)

  first-counts : (qs : List QueuePlan) (p : ℕ) → All (QueueIsWithin plan.cpus) qs
      → slice_index (map (λ (q : QueuePlan). rounded_up q.flows) qs) p ≤ MAX_FLOW_COUNT
  first-counts [] p all = omega arith
  first-counts (q ∷ qs) zero all =
      rounded-flows q.flows (All-head (QueueIsWithin plan.cpus) q qs all).flows
  first-counts (q ∷ qs) (suc p) all =
      first-counts qs p (All-tail (QueueIsWithin plan.cpus) q qs all)

  first-rounded : (qs : List QueuePlan) (p : ℕ) → All (QueueIsWithin plan.cpus) qs
      → rounded_up (slice_index (map (λ (q : QueuePlan). rounded_up q.flows) qs) p)
      ≡ slice_index (map (λ (q : QueuePlan). rounded_up q.flows) qs) p
  first-rounded [] p all = refl
  first-rounded (q ∷ qs) zero all =
      rounded-again q.flows (All-head (QueueIsWithin plan.cpus) q qs all).flows
  first-rounded (q ∷ qs) (suc p) all =
      first-rounded qs p (All-tail (QueueIsWithin plan.cpus) q qs all)

  pub fit_first : Fit (initial_settings plan)
  fit_first =
      let some = some-power plan.cpus in
      record {
        masks = λ p. first-masks plan.queues p plan.within.queues_within;
        counts = λ p. first-counts plan.queues p plan.within.queues_within;
        rounded = λ p. first-rounded plan.queues p plan.within.queues_within;
        sock = rounded-sock plan.sock plan.within.sock_within;
        online = omega arith;
      }

  pub fit_by : (ts : List Try) → All (λ (t : Try). IsWithinPlan t.given.command) ts
      → Fit (settings_by (initial_settings plan) ts)
  fit_by [] all = fit_first
  fit_by (t ∷ ts) all =
      by_done (is_done t.given.answer)
      (fit_by ts (All-tail (λ (t : Try). IsWithinPlan t.given.command) t ts all))
      (All-head (λ (t : Try). IsWithinPlan t.given.command) t ts all)
    where
      by_done : (b : Bool) → Fit (settings_by (initial_settings plan) ts)
          → IsWithinPlan t.given.command
          → Fit (if b then changed (settings_by (initial_settings plan) ts) t.given.command
          else settings_by (initial_settings plan) ts)
      by_done true f within =
          fit_changed (settings_by (initial_settings plan) ts) t.given.command within f
      by_done false f within = f

  -- ---- maps

  abbrev Maps : Settings → Type 0
  Maps s = FitMaps plan.cpus (length plan.queues) s

  maps_changed : (s : Settings) (c : Command) → IsWithinPlan c → Maps s → Maps (changed s c)
  maps_changed s (give.XCpus tx mask) within f =
      let b = and-both (nat_lt tx (length plan.tx)) (nat_lt mask.0 (2 ^ plan.cpus)) within in
      record {
        cpu_sets = λ y.
            set-any (λ (m : CpuMask). m.0 < 2 ^ plan.cpus) s.maps.cpus tx y mask no_cpus
            (ltb-true mask.0 (2 ^ plan.cpus) b.1) (f.cpu_sets y);
        queue_sets = f.queue_sets;
      }
  maps_changed s (give.XQueues tx queues) within f =
      let b = and-both (nat_lt tx (length plan.tx)) (nat_lt queues (2 ^ length plan.queues))
      within in
      record {
        cpu_sets = f.cpu_sets;
        queue_sets = λ y.
            set-number (λ n. n < 2 ^ length plan.queues) s.maps.queues tx y queues
            (ltb-true queues (2 ^ length plan.queues) b.1) (f.queue_sets y);
      }
  maps_changed s c within f = record { cpu_sets = f.cpu_sets; queue_sets = f.queue_sets }

  first-cpu_sets : (ts : List TxPlan) (tx : ℕ) → All (TxIsWithin plan.cpus (length plan.queues)) ts
      → (slice_index_or (map (λ (q : TxPlan). q.cpus) ts) tx no_cpus).0 < 2 ^ plan.cpus
  first-cpu_sets [] tx all = some-power plan.cpus
  first-cpu_sets (t ∷ ts) zero all =
      (All-head (TxIsWithin plan.cpus (length plan.queues)) t ts all).cpus_below
  first-cpu_sets (t ∷ ts) (suc tx) all =
      first-cpu_sets ts tx (All-tail (TxIsWithin plan.cpus (length plan.queues)) t ts all)

  first-queue_sets : (ts : List TxPlan) (tx : ℕ)
      → All (TxIsWithin plan.cpus (length plan.queues)) ts
      → slice_index (map (λ (q : TxPlan). q.queues) ts) tx < 2 ^ length plan.queues
  first-queue_sets [] tx all = some-power (length plan.queues)
  first-queue_sets (t ∷ ts) zero all =
      (All-head (TxIsWithin plan.cpus (length plan.queues)) t ts all).queues_below
  first-queue_sets (t ∷ ts) (suc tx) all =
      first-queue_sets ts tx (All-tail (TxIsWithin plan.cpus (length plan.queues)) t ts all)

  pub maps_by : (ts : List Try) → All (λ (t : Try). IsWithinPlan t.given.command) ts
      → Maps (settings_by (initial_settings plan) ts)
  maps_by [] all =
      record {
        cpu_sets = λ tx. first-cpu_sets plan.tx tx plan.within.tx_within;
        queue_sets = λ tx. first-queue_sets plan.tx tx plan.within.tx_within;
      }
  maps_by (t ∷ ts) all =
      by_done (is_done t.given.answer)
      (maps_by ts (All-tail (λ (t : Try). IsWithinPlan t.given.command) t ts all))
      (All-head (λ (t : Try). IsWithinPlan t.given.command) t ts all)
    where
      by_done : (b : Bool) → Maps (settings_by (initial_settings plan) ts)
          → IsWithinPlan t.given.command
          → Maps (if b then changed (settings_by (initial_settings plan) ts) t.given.command
          else settings_by (initial_settings plan) ts)
      by_done true f within =
          maps_changed (settings_by (initial_settings plan) ts) t.given.command within f
      by_done false f within = f
