-- A put is a position or else a drop, and two equal puts are of one place and one drop.
use Rattle.std.proofs.Common.{ℕ, ◌≡◌, List, [], ◌∷◌, Option, Some, None, refl, ap, ◌∙◌, sym, arith}
use Rattle.std.proofs.Common.{◌<◌, ◌^◌}
use Rattle.std.specs.Option.{option_map, option_or, option_and_then, is_some}
use Rattle.steer_base.specs.Counters.{number}
use Rattle.steer_base.specs.Entries.{place_in}
use Rattle.steer_base.specs.declared.put.DropCause.{DropCause}
use Rattle.steer_base.specs.declared.put.DropCause.TheVariants.{Full}
use Rattle.steer_base.specs.declared.put.LaneDrop.{LaneDrop}
use Rattle.steer_base.specs.declared.put.Put.{Put}
use Rattle.steer_base.specs.declared.put.Put.TheVariants.{At, Dropped}
use Rattle.history.specs.Finding.{found, first_some}
use Rattle.history.specs.Lines.{dropped_as, drop_in}
use Rattle.history.specs.Lists.{drop_ids}
use Rattle.history.specs.declared.lane_list.LaneList.{LaneList}
use Rattle.history.proofs.RegularLemmas.{found-key, is_some-found}
use Rattle.history.proofs.SamePlaces.{some_same, found-none}

-- the number of a count has one count
pub number-count : (start m n : ℕ) → m < 2 ^ 32 → n < 2 ^ 32 → number start m ≡ number start n
    → m ≡ n
number-count start m n a b e = omega (arith, a, b, e)

-- a place is found again in its number
pub position-place : (start : ℕ) (o p : Option ℕ) → ((n : ℕ) → o ≡ Some n → n < 2 ^ 32)
    → ((n : ℕ) → p ≡ Some n → n < 2 ^ 32)
    → option_map (number start) o ≡ option_map (number start) p → o ≡ p
position-place start None None a b e = refl
position-place start None (Some n) a b e = absurd (cc)
position-place start (Some m) None a b e = absurd (cc)
position-place start (Some m) (Some n) a b e =
    ap (λ k. Some k) (number-count start m n (a m refl) (b n refl) (some_same (number start m)
    (number start n) e))

abbrev position_or : ℕ → Put → ℕ
position_or d (At n) = n
position_or d (Dropped number accepted pulled cause) = d

abbrev number_of : Put → ℕ
number_of (At n) = 0
number_of (Dropped number accepted pulled cause) = number

abbrev accepted_of : Put → ℕ
accepted_of (At n) = 0
accepted_of (Dropped number accepted pulled cause) = accepted

abbrev pulled_of : Put → ℕ
pulled_of (At n) = 0
pulled_of (Dropped number accepted pulled cause) = pulled

abbrev cause_of : Put → DropCause
cause_of (At n) = Full
cause_of (Dropped number accepted pulled cause) = cause

-- a drop at a lane is no position
no_position : (n : ℕ) (o : Option LaneDrop) (p : Option ℕ) → option_and_then
    (λ d. option_map (dropped_as d) p) o ≡ Some (At n) → ⊥
no_position n None p e = cc
no_position n (Some d) None e = cc
no_position n (Some d) (Some k) e = cc

or_no_position : (n : ℕ) (o p : Option Put) → (o ≡ Some (At n) → ⊥) → (p ≡ Some (At n) → ⊥)
    → option_or o p ≡ Some (At n) → ⊥
or_no_position n None p a b e = b e
or_no_position n (Some q) p a b e = a e

pub drop-no_position : (x n : ℕ) (lanes : List LaneList) → first_some (drop_in x) lanes ≡ Some
    (At n) → ⊥
drop-no_position x n [] e = cc
drop-no_position x n (lane ∷ lanes) e =
    or_no_position n (drop_in x lane) (first_some (drop_in x) lanes)
    (no_position n (found (λ d. d.id) x lane.drops) (place_in x (drop_ids lane)))
    (drop-no_position x n lanes) e

-- The parts of a put: a position, or else what is no position.
pub put-parts : (o p : Option ℕ) (d f : Option Put) → ((n : ℕ) → d ≡ Some (At n) → ⊥)
    → ((n : ℕ) → f ≡ Some (At n) → ⊥)
    → option_or (option_map (λ n. At n) o) d ≡ option_or (option_map (λ n. At n) p) f → (o ≡ p)
    × (o ≡ None → d ≡ f)
put-parts None None d f a b e = (refl, λ h. e)
put-parts None (Some n) d f a b e = absurd (a n e)
put-parts (Some m) None d f a b e = absurd (b m (sym e))
put-parts (Some m) (Some n) d f a b e =
    let h : m ≡ n = ap (position_or 0) (some_same (At m) (At n) e) in
    (ap (λ k. Some k) h, λ g. absurd (cc))

-- what has no drop in a list has none as a put
pub no_drop : (x : ℕ) (lane : LaneList) → place_in x (drop_ids lane) ≡ None → drop_in x lane ≡ None
no_drop x lane h =
    ap (λ o. option_and_then (λ d. option_map (dropped_as d) (place_in x (drop_ids lane))) o)
    (found-none (λ d. d.id) x lane.drops h)

same_fall : (x : ℕ) (o p : Option LaneDrop) (m n : Option ℕ) → is_some o ≡ is_some m
    → is_some p ≡ is_some n
    → ((d : LaneDrop) → o ≡ Some d → d.id ≡ x) → ((d : LaneDrop) → p ≡ Some d → d.id ≡ x)
    → option_and_then (λ d. option_map (dropped_as d) m) o ≡ option_and_then
    (λ d. option_map (dropped_as d) n) p → (m ≡ n) × (o ≡ p)
same_fall x None None None None s t a b e = (refl, refl)
same_fall x None None None (Some j) s t a b e = absurd (cc)
same_fall x None None (Some i) n s t a b e = absurd (cc)
same_fall x None (Some d) m None s t a b e = absurd (cc)
same_fall x None (Some d) m (Some j) s t a b e = absurd (cc)
same_fall x (Some c) p None n s t a b e = absurd (cc)
same_fall x (Some c) None (Some i) n s t a b e = absurd (cc)
same_fall x (Some c) (Some d) (Some i) None s t a b e = absurd (cc)
same_fall x (Some c) (Some d) (Some i) (Some j) s t a b e =
    let f : dropped_as c i ≡ dropped_as d j = some_same (dropped_as c i) (dropped_as d j) e in
    let k : i ≡ j = ap number_of f in
    let key : c.id ≡ d.id = a c refl ∙ sym (b d refl) in
    let acc : c.accepted ≡ d.accepted = ap accepted_of f in
    let pul : c.pulled ≡ d.pulled = ap pulled_of f in
    let cau : c.cause ≡ d.cause = ap cause_of f in (
      (λ w. Some (k w)),
      (λ w. Some (record {
        id = key w;
        accepted = acc w;
        pulled = pul w;
        cause = cau w;
      })),
    )

-- equal drops of a packet are of one place and one record
pub drop-parts : (x : ℕ) (l m : LaneList) → drop_in x l ≡ drop_in x m
    → (place_in x (drop_ids l) ≡ place_in x (drop_ids m)) × (found (λ d. d.id) x l.drops ≡ found
    (λ d. d.id) x m.drops)
drop-parts x l m e =
    same_fall x (found (λ d. d.id) x l.drops) (found (λ d. d.id) x m.drops)
    (place_in x (drop_ids l)) (place_in x (drop_ids m))
    (is_some-found (λ d. d.id) x l.drops) (is_some-found (λ d. d.id) x m.drops)
    (λ d. found-key (λ c. c.id) x l.drops d) (λ d. found-key (λ c. c.id) x m.drops d) e
