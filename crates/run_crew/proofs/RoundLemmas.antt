-- How all workers go on, one after the other.
use Rattle.std.proofs.Common.{slice_set}
use Rattle.std.proofs.lemmas.Bool.{cases_eq}
use Rattle.std.proofs.lemmas.List.{length-set}
use Rattle.run_workers.specs.Laws.{ArrivalsBecomeKnown}
use Rattle.run_workers.specs.Workers.{GoesOn}
use Rattle.run_workers.proofs.SameLemmas.{goes_both, goes_first}
use Rattle.run_crew.specs.Sweeps.{AllWork, CrewsGoOn, CrewsLearnArrivals, CrewsPlayOn}
use Rattle.run_crew.proofs.Names.{◌≡◌, ◌≢◌, ◌⊎◌, inl, inr, ℕ, zero, suc, ◌/◌, ◌%◌, ◌<◌, List, []}
use Rattle.run_crew.proofs.Names.{◌∷◌, Bool, false, true, Some, length, sym, refl, ap, ◌∙◌, subst}
use Rattle.run_crew.proofs.Names.{arith, slice_get, StageView, stage_view, AreWorking, IsPlayed}
use Rattle.run_crew.proofs.Names.{drains_of, pollers_of, servers_of, ships_of, GoOn, Seated}
use Rattle.run_crew.proofs.ChoiceFunctions.{is-within, item-at, some-is}

-- ---- lists

get-set : {A : Type 0} (xs : List A) (i : ℕ) (z : A) → i < length xs
    → slice_get (slice_set xs i z) i ≡ Some z
get-set [] i z less = absurd (omega (arith, less))
get-set (x ∷ xs) zero z less = refl
get-set (x ∷ xs) (suc i) z less = get-set xs i z (omega (arith, less))

get-other : {A : Type 0} (xs : List A) (i k : ℕ) (z : A) → k ≢ i
    → slice_get (slice_set xs i z) k ≡ slice_get xs k
get-other [] i k z ne = refl
get-other (x ∷ xs) zero zero z ne = absurd (ne refl)
get-other (x ∷ xs) zero (suc k) z ne = refl
get-other (x ∷ xs) (suc i) zero z ne = refl
get-other (x ∷ xs) (suc i) (suc k) z ne = get-other xs i k z (λ same. ne (ap suc same))

-- what is false and true is everything
pub both_ways : {A : Type 0} (b : Bool) → b ≡ false → b ≡ true → A
both_ways b no_ yes_ = cc

module _ (t : StageView) where
  -- the worker at a place before
  before-at : (before after : List Seated) (go : GoOn t before after) (w : ℕ) (y : Seated)
      → slice_get after w ≡ Some y → (x : Seated) × (slice_get before w ≡ Some x)
  before-at before after go w y there =
      let less = is-within after w y there in
      let count = go.count in
      item-at before w (omega (arith, less, count))

  pub go_first : (crew : List Seated) → AllWork t crew → GoOn t crew crew
  go_first crew all =
      record {
        count = refl;
        each = λ w y there x was.
            subst (λ (z : Seated). GoesOn t z.worker y.worker z.seats y.seats)
            (some-is y x (sym there ∙ was)) (goes_first t y.worker y.seats (all w y there));
      }

  pub go_both : (a b c : List Seated) → GoOn t a b → GoOn t b c → GoOn t a c
  go_both a b c one two =
      record {
        count = two.count ∙ one.count;
        each = λ w z there x was.
            let y = before-at b c two w z there in
            goes_both t x.worker y.0.worker z.worker x.seats y.0.seats z.seats
            (one.each w y.0 y.1 x was) (two.each w z there y.0 y.1);
      }

  pub all_after : (before after : List Seated) → GoOn t before after → AllWork t after
  all_after before after go w y there =
      let x = before-at before after go w y there in (go.each w y there x.0 x.1).is

  -- one worker went on
  pub go_set : (a b : List Seated) (i : ℕ) (y z : Seated) → GoOn t a b
      → slice_get b i ≡ Some y → GoesOn t y.worker z.worker y.seats z.seats
      → GoOn t a (slice_set b i z)
  go_set a b i y z go at went =
      record {
        count = length-set b i z ∙ go.count;
        each = λ w u there x was. by_place w u there x was (cases_eq w i);
      }
    where
      by_place : (w : ℕ) (u : Seated) → slice_get (slice_set b i z) w ≡ Some u → (x : Seated)
          → slice_get a w ≡ Some x → (w ≡ i) ⊎ (w ≢ i)
          → GoesOn t x.worker u.worker x.seats u.seats
      by_place w u there x was (inl same) =
          let less = is-within b i y at in
          let is : z ≡ u =
          some-is z u
          (sym (get-set b i z less) ∙ (ap (slice_get (slice_set b i z)) (sym same) ∙ there)) in
          subst (λ (v : Seated). GoesOn t x.worker v.worker x.seats v.seats) is
          (goes_both t x.worker y.worker z.worker x.seats y.seats z.seats
          (go.each w y (ap (slice_get b) same ∙ at) x was) went)
      by_place w u there x was (inr ne) =
          go.each w u (sym (get-other b i w z ne) ∙ there) x was

  -- ---- what they keep together

  module _ (before after : List Seated) (queues apps : ℕ) (are : AreWorking t before queues apps)
      (go : GoOn t before after) where
    -- an actor is played at the same place
    played-after : {A : Type 0} (kind : Seated → List A)
        → ((w : ℕ) (x y : Seated) → slice_get before w ≡ Some x → slice_get after w ≡ Some y
        → length (kind y) ≡ length (kind x))
        → (n : ℕ) → IsPlayed before kind n → IsPlayed after kind n
    played-after kind same n p =
        let count = go.count in
        let less = is-within before (n % length before) p.by p.worker in
        let y = item-at after (n % length before) (omega (arith, less, count)) in
        let low = is-within (kind p.by) (n / length before) p.actor p.is in
        let size = same (n % length before) p.by y.0 p.worker y.1 in
        let a = item-at (kind y.0) (n / length before) (omega (arith, low, size)) in
        record {
          by = y.0;
          actor = a.0;
          worker = ap (λ m. slice_get after (n % m)) count ∙ y.1;
          is = ap (λ m. slice_get (kind y.0) (n / m)) count ∙ a.1;
        }

    go_on : AreWorking t after queues apps
    go_on =
        let count = go.count in
        let some = are.some in
        let rx_count = are.rx_count in
        let tx_count = are.tx_count in
        record {
          some = omega (arith, some, count);
          rx_count = omega (arith, rx_count, count);
          tx_count = omega (arith, tx_count, count);
          rx_numbers = λ w y there.
              let x = before-at before after go w y there in
              (go.each w y there x.0 x.1).same.rx_number ∙ are.rx_numbers w x.0 x.1;
          tx_numbers = λ w y there.
              let x = before-at before after go w y there in
              (go.each w y there x.0 x.1).same.tx_number ∙ are.tx_numbers w x.0 x.1;
          work = all_after before after go;
          pollers = λ q less.
              played-after pollers_of (λ w x y was there. (go.each w y there x was).same.pollers) q
              (are.pollers q less);
          servers = λ a less.
              played-after servers_of (λ w x y was there. (go.each w y there x was).same.servers) a
              (are.servers a less);
          drains = λ l less.
              played-after drains_of (λ w x y was there. (go.each w y there x was).same.drains) l
              (are.drains l less);
          ships = λ l less.
              played-after ships_of (λ w x y was there. (go.each w y there x was).same.ships) l
              (are.ships l less);
        }

pub crews_go_on : CrewsGoOn
crews_go_on t before after queues apps are go = go_on t before after queues apps are go

-- ---- what is played on

module _ (t : StageView) (before after : List Seated) (go : GoOn t before after) where
  -- an actor of a kind of which there are as many was played at the same place
  played-before : {A : Type 0} (kind : Seated → List A)
      → ((w : ℕ) (x y : Seated) → slice_get before w ≡ Some x → slice_get after w ≡ Some y
      → length (kind y) ≡ length (kind x))
      → (n : ℕ) (p : IsPlayed after kind n)
      → (o : IsPlayed before kind n) × (slice_get before (n % length after) ≡ Some o.by)
      × (slice_get (kind o.by) (n / length after) ≡ Some o.actor)
  played-before kind same n p =
      let count = go.count in
      let x = before-at t before after go (n % length after) p.by p.worker in
      let low = is-within (kind p.by) (n / length after) p.actor p.is in
      let size = same (n % length after) x.0 p.by x.1 p.worker in
      let a = item-at (kind x.0) (n / length after) (omega (arith, low, size)) in (
        record {
          by = x.0;
          actor = a.0;
          worker = ap (λ m. slice_get before (n % m)) (sym count) ∙ x.1;
          is = ap (λ m. slice_get (kind x.0) (n / m)) (sym count) ∙ a.1;
        },
        x.1,
        a.1,
      )

pub crews_play_on : CrewsPlayOn
crews_play_on t before after go =
    record {
      rings = λ q p.
          let o = played-before t before after go pollers_of
          (λ w x y was there. (go.each w y there x was).same.pollers) q p in (
            o.0,
            (go.each (q % length after) p.by p.worker o.0.by o.1).same.rings
                (q / length after) p.actor p.is o.0.actor o.2,
          );
      homes = λ a p.
          let o = played-before t before after go servers_of
          (λ w x y was there. (go.each w y there x was).same.servers) a p in (
            o.0,
            (go.each (a % length after) p.by p.worker o.0.by o.1).same.homes
                (a / length after) p.actor p.is o.0.actor o.2,
          );
    }

pub crews_learn_arrivals : ArrivalsBecomeKnown → CrewsLearnArrivals
crews_learn_arrivals known rx tx shared arrivals crew queues apps are =
    let work : AllWork (stage_view rx tx shared arrivals) crew =
    λ w x there. known rx tx shared arrivals x.worker x.seats (are.work w x there) in
    assumption work
