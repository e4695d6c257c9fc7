-- What the steps at the gate keep: an actor enters or leaves, the gate closes or opens, and a
-- producer's classes change.
use Rattle.std.proofs.Common.{ℕ, ◌+◌, ◌-◌, ◌≤◌, ◌<◌, ◌≡◌, Bool, true, false, cond, List, [], ◌∷◌}
use Rattle.std.proofs.Common.{length, refl, ◌∙◌, sym, arith, suc, zero, inl, inr, get_or, set}
use Rattle.std.specs.Prelude.{count_by}
use Rattle.std.proofs.Math.ListN.{length-set}
use Rattle.std.proofs.lemmas.Bool.{cases_eq, cases_lt}
use Rattle.std.proofs.lemmas.List.Sums.{sum_by-set, sum_by-cons}
use Rattle.hop_model.specs.Hop.{HopState, accepted_at, retired_at, arrivals_of, choices_of}
use Rattle.hop_model.specs.Hop.{taken_of}
use Rattle.hop_model.specs.Hop.{placed_of, since_of, inside_of, with_closed, with_bare, with_visit}
use Rattle.hop_model.specs.Hop.{resized}
use Rattle.hop_model.specs.Events.{IsEmptied}
use Rattle.hop_model.specs.Sound.{Gate, Sound}
use Rattle.hop_core.proofs.Lists.{Changed-set}
use Rattle.hop_core.proofs.Sound.{Hands-resize}
use Rattle.hop_core.proofs.Stands.{Stands-resize, Past-resize}

count_set : (xs : List Bool) (a : ℕ) (b : Bool) → a < length xs → count_by (λ b. b)
    (set xs a b) + cond (get_or xs a false) 1 0 ≡ count_by (λ b. b) xs + cond b 1 0
count_set xs a b in' = sum_by-set (λ b. cond b 1 0) xs a b false in'

-- who is inside counts
pub count_some : (xs : List Bool) (a : ℕ) → get_or xs a false ≡ true → 0 < count_by (λ b. b) xs
count_some [] a h = absurd (let f : false ≡ true = h in cc)
count_some (b ∷ bs) zero h = let e : b ≡ true = h in rw (sum_by-cons (λ b. cond b 1 0) b bs, e)
    (omega arith)
count_some (b ∷ bs) (suc a) h = let i = count_some bs a h in rw (sum_by-cons (λ b. cond b 1 0) b bs)
    (omega arith)

-- another gate before the same producers and lanes
abbrev gated : HopState → List Bool → ℕ → Bool → HopState
gated s visits inside closed = record s {
  bare = record s.bare { inside = inside; closed = closed };
  visits = visits;
}

Sound-gate : (s : HopState) (visits : List Bool) (inside : ℕ) (closed : Bool)
    → length visits ≡ length s.visits → Gate (gated s visits inside closed)
    → Sound s → Sound (gated s visits inside closed)
Sound-gate s visits inside closed many gate h =
    let w = h.wide in
    record {
      wide = record {
        counts = w.counts;
        taken = w.taken;
        choices = w.choices;
        placed = w.placed;
        since = w.since;
        visits = rw many w.visits;
        offers = w.offers;
        drops = w.drops;
        pulled = w.pulled;
        delivered = w.delivered;
        retired = w.retired;
      };
      small = record { below = h.small.below; room = h.small.room; start = h.small.start };
      hands = h.hands;
      once = h.once;
      counts = h.counts;
      puts = h.puts;
      falls = h.falls;
      places = h.places;
      stands = h.stands;
      past = h.past;
      lanes = h.lanes;
      gate = gate;
    }

pub Sound-enter : (s : HopState) (a : ℕ) → a < length s.visits → inside_of s a ≡ false
    → s.bare.closed ≡ false → Sound s → Sound (with_visit s a true (s.bare.inside + 1))
Sound-enter s a in' out open' h =
    let ch = Changed-set s.visits a true false in' in
    Sound-gate s (set s.visits a true) (s.bare.inside + 1) s.bare.closed
    (length-set s.visits a true)
    (record {
      inside = (let n : count_by (λ b. b) (set s.visits a true) + 0 ≡ count_by
          (λ b. b) s.visits + 1 = (rw out at (count_set s.visits a true in')) in
          let g = h.gate.inside in omega arith);
      shut = λ e. absurd (let f : false ≡ true = sym open' ∙ e in cc);
      weighed = λ q lt. elim (cases_eq q a) [
        | inl e ↦ rw (e, ch.here) refl
        | inr ne ↦ rw (ch.there q ne) (h.gate.weighed q lt)
      ];
    }) h

pub Sound-leave : (s : HopState) (a : ℕ) → a < length s.visits → inside_of s a ≡ true
    → length (choices_of s a) ≤ placed_of s a → Sound s
    → Sound (with_visit s a false (s.bare.inside - 1))
Sound-leave s a in' inside done h =
    let ch = Changed-set s.visits a false false in' in
    let n : count_by (λ b. b) (set s.visits a false) + 1 ≡ count_by (λ b. b) s.visits + 0 =
    (rw inside at (count_set s.visits a false in')) in
    let g = h.gate.inside in
    Sound-gate s (set s.visits a false) (s.bare.inside - 1) s.bare.closed
    (length-set s.visits a false)
    (record {
      inside = omega arith;
      shut = λ e. (let z = h.gate.shut e in omega arith);
      weighed = λ q lt. elim (cases_eq q a) [
        | inl e ↦ absurd (let f : placed_of s q < length
            (choices_of s q) = lt in let g : placed_of s a < length (choices_of s a) =
            rw e at f in omega arith)
        | inr ne ↦ rw (ch.there q ne) (h.gate.weighed q lt)
      ];
    }) h

pub Sound-close : (s : HopState) → s.bare.inside ≡ 0 → Sound s
    → Sound (with_bare s (with_closed s.bare true))
Sound-close s none h =
    Sound-gate s s.visits s.bare.inside true refl (record {
      inside = h.gate.inside;
      shut = λ e. none;
      weighed = h.gate.weighed;
    }) h

pub Sound-reopen : (s : HopState) → Sound s → Sound (with_bare s (with_closed s.bare false))
Sound-reopen s h =
    Sound-gate s s.visits s.bare.inside false refl
    (record {
      inside = h.gate.inside;
      shut = λ e. absurd (let f : false ≡ true = e in cc);
      weighed = h.gate.weighed;
    }) h

-- with nobody inside nobody has weighed
pub nobody_weighs : (s : HopState) → Sound s → s.bare.inside ≡ 0 → (p : ℕ) → placed_of s p ≡ length
    (choices_of s p)
nobody_weighs s h alone p =
    let a = h.hands.put p in
    elim (cases_lt (placed_of s p) (length (choices_of s p))) [
      | inl lt ↦ absurd (let i = count_some s.visits p (h.gate.weighed p lt) in
          let g = h.gate.inside in omega arith)
      | inr le ↦ omega arith
    ]

-- with the gate closed nobody has weighed
pub all_placed : (s : HopState) → Sound s → s.bare.closed ≡ true → (p : ℕ) → placed_of s p ≡ length
    (choices_of s p)
all_placed s h shut p = nobody_weighs s h (h.gate.shut shut) p

pub Sound-resize : (s : HopState) (p count : ℕ) → p < length s.arrivals → s.bare.closed ≡ true
    → ((d : ℕ) → IsEmptied s.bare d) → Sound s → Sound (resized s p count)
Sound-resize s p count in' shut drained h =
    let w = h.wide in
    let ch = Changed-set s.since p (length (choices_of s p)) 0 (omega arith) in
    let since : ℕ → ℕ = since_of (resized s p count) in
    record {
      wide = record {
        counts = rw length-set w.counts;
        taken = w.taken;
        choices = w.choices;
        placed = w.placed;
        since = rw length-set w.since;
        visits = w.visits;
        offers = w.offers;
        drops = w.drops;
        pulled = w.pulled;
        delivered = w.delivered;
        retired = w.retired;
      };
      small = record { below = h.small.below; room = h.small.room; start = h.small.start };
      hands = Hands-resize (arrivals_of s) (taken_of s) (choices_of s) (placed_of s)
          (since_of s) since p ch (all_placed s h shut p) h.hands;
      once = h.once;
      counts = h.counts;
      puts = h.puts;
      falls = h.falls;
      places = h.places;
      stands = Stands-resize (accepted_at s.bare) (retired_at s.bare) (choices_of s)
          (since_of s) since p ch h.stands;
      past = Past-resize (accepted_at s.bare) (retired_at s.bare) (choices_of s) since drained;
      lanes = h.lanes;
      gate = record { inside = h.gate.inside; shut = h.gate.shut; weighed = h.gate.weighed };
    }
