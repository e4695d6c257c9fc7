-- What stays in a hop through every event: its lists only grow, its counts of retired packets only
-- rise, and the entries by which each choice was made are as they were.
use Rattle.std.proofs.Common.{ℕ, zero, suc, ◌+◌, ◌≤◌, ◌<◌, ◌≡◌, List, [], ◌∷◌, ◌++◌, Option, Some}
use Rattle.std.proofs.Common.{None, length, refl, ap, ◌∙◌, sym, arith, get_or, set}
use Rattle.steer_base.specs.Drops.{bucket_of, lane_drop_cause}
use Rattle.steer_base.specs.Entries.{position}
use Rattle.steer_base.specs.declared.choice.Chosen.{Chosen}
use Rattle.steer_base.specs.declared.put.DropCause.{DropCause}
use Rattle.hop_model.specs.declared.event.HopEvent.{HopEvent}
use Rattle.hop_model.specs.declared.event.HopEvent.TheVariants as event
use Rattle.hop_model.specs.Events.{AllMayAsk, MayAsk, happens, run}
use Rattle.hop_model.specs.Hop.{HopState, accepted_at, arrivals_of, choice_of, choices_of, in_hand}
use Rattle.hop_model.specs.Hop.{chosen_at, lane_of, next_of, nobody, placed_of, retired_at}
use Rattle.hop_core.specs.Laws.{entries_before}
use Rattle.hop_model.specs.Sound.{Sound}
use Rattle.hop_core.proofs.AllSteps.{Sound-happens}
use Rattle.hop_core.proofs.Cases.{Enabled, by_cases}
use Rattle.hop_core.proofs.Choices.{choices_stay, put_positions}
use Rattle.hop_core.proofs.Lists.{Changed-set}
use Rattle.hop_core.proofs.PutSteps.{put_as}
use Rattle.hop_core.proofs.Sizes.{Sizes-happens}
use Rattle.steer_properties.proofs.Histories.ExtendLemmas.{Extends, extends-get, extends-length}
use Rattle.steer_properties.proofs.Histories.ExtendLemmas.{extends-more}
use Rattle.steer_properties.proofs.Histories.ExtendLemmas.{extends-same, extends-self, extends-set}

-- lists that grew, and counts that rose
record Grown (s t : HopState) : Type 0 where
  arrivals : (p : ℕ) → Extends (arrivals_of s p) (arrivals_of t p)
  choices : (p : ℕ) → Extends (choices_of s p) (choices_of t p)
  accepted : (c : ℕ) → Extends (accepted_at s.bare c) (accepted_at t.bare c)
  retired : (c : ℕ) → retired_at s.bare c ≤ retired_at t.bare c

grown-self : (s : HopState) → Grown s s
grown-self s =
    record {
      arrivals = λ p. extends-self (arrivals_of s p);
      choices = λ p. extends-self (choices_of s p);
      accepted = λ c. extends-self (accepted_at s.bare c);
      retired = λ c. omega arith;
    }

-- where these lists are the same
grown-same : (s t : HopState) → t.arrivals ≡ s.arrivals → t.choices ≡ s.choices
    → t.bare.accepted ≡ s.bare.accepted → t.bare.retired ≡ s.bare.retired → Grown s t
grown-same s t a c b r =
    record {
      arrivals = λ p. extends-same (arrivals_of s p) (arrivals_of t p)
          (ap (λ (l : List (List ℕ)). get_or l p []) a);
      choices = λ p. extends-same (choices_of s p) (choices_of t p)
          (ap (λ (l : List (List Chosen)). get_or l p []) c);
      accepted = λ d. extends-same (accepted_at s.bare d) (accepted_at t.bare d)
          (ap (λ (l : List (List ℕ)). get_or l d []) b);
      retired = λ d. (
          let e : retired_at t.bare d ≡ retired_at s.bare d =
          ap (λ (l : List ℕ). get_or l d 0) r in
          omega (arith, e));
    }

pub count-risen : (xs : List ℕ) (c d : ℕ)
    → get_or xs d 0 ≤ get_or (set xs c (get_or xs c 0 + 1)) d 0
count-risen [] c d = omega arith
count-risen (x ∷ xs) zero zero = omega arith
count-risen (x ∷ xs) zero (suc d) = omega arith
count-risen (x ∷ xs) (suc c) zero = omega arith
count-risen (x ∷ xs) (suc c) (suc d) = count-risen xs c d

grown-landed : (s : HopState) (p : ℕ) (cause : Option DropCause) (bucket : Option ℕ)
    → Grown s (put_as s p cause bucket)
grown-landed s p None bucket =
    let same = grown-self s in
    record {
      arrivals = same.arrivals;
      choices = same.choices;
      accepted = λ c. extends-set s.bare.accepted (in_hand s p).choice.lane c (in_hand s p).id;
      retired = same.retired;
    }
grown-landed s p (Some cause) bucket =
    let same = grown-self s in
    assumption

grown-enabled : (s : HopState) (e : HopEvent) → Enabled (Grown s) s e
grown-enabled s (event.Arrive p x) =
    let same = grown-self s in
    record {
      arrivals = λ q. extends-set s.arrivals p q x;
      choices = same.choices;
      accepted = same.accepted;
      retired = same.retired;
    }
grown-enabled s (event.Weigh p class want desired online) =
    λ _ _. (
    let same = grown-self s in
    let c : Chosen =
    record { id = next_of s p; choice = choice_of s p class want desired online } in
    record {
      arrivals = same.arrivals;
      choices = λ q. extends-set s.choices p q c;
      accepted = same.accepted;
      retired = same.retired;
    })
grown-enabled s (event.Put p hash) =
    λ _ _. grown-landed s p
    (lane_drop_cause (lane_of s.fixed s.bare (in_hand s p).choice.lane) hash) (bucket_of hash)
grown-enabled s (event.Retire c) =
    λ _. (
    let same = grown-self s in
    record {
      arrivals = same.arrivals;
      choices = same.choices;
      accepted = same.accepted;
      retired = λ d. count-risen s.bare.retired c d;
    })
grown-enabled s (event.Take p) = λ _ _. grown-same s _ refl refl refl refl
grown-enabled s (event.Enter a) = λ _ _. grown-same s _ refl refl refl refl
grown-enabled s (event.Leave a) = λ _ _. grown-same s _ refl refl refl refl
grown-enabled s (event.Pull c) = λ _ _. grown-same s _ refl refl refl refl
grown-enabled s (event.Deliver c o) = λ _. grown-same s _ refl refl refl refl
grown-enabled s (event.Resize p count) = grown-same s _ refl refl refl refl
grown-enabled s event.Close = λ _. grown-same s _ refl refl refl refl
grown-enabled s event.Reopen = grown-same s _ refl refl refl refl

-- ---- positions

-- The packets of all choices of a producer but the last were put, so that where each was accepted
-- is as it was.
abbrev pub PositionsStay : HopState → HopState → Type 0
PositionsStay s t =
    (p j : ℕ) → j + 1 < length (choices_of s p)
    → position (accepted_at t.bare) (chosen_at (choices_of s p) j)
    ≡ position (accepted_at s.bare) (chosen_at (choices_of s p) j)

positions-landed : (s : HopState) (q : ℕ) (cause : Option DropCause) (bucket : Option ℕ)
    → Sound s → placed_of s q < length (choices_of s q)
    → PositionsStay s (put_as s q cause bucket)
positions-landed s q (Some cause) bucket h more p j lt = refl
positions-landed s q None bucket h more p j lt =
    let c : Chosen = in_hand s q in
    let lane : ℕ = c.choice.lane in
    let new : List (List ℕ) = set s.bare.accepted lane (accepted_at s.bare lane ++ c.id ∷ []) in
    let ch = Changed-set s.bare.accepted lane (accepted_at s.bare lane ++ c.id ∷ []) []
    (h.lanes q (placed_of s q) more) in
    put_positions s q h more (λ d. get_or new d []) (record { here = ch.here; there = ch.there }) p
    j
    (omega (arith, lt))
    (λ e same. (
    let long : length (choices_of s p) ≡ length (choices_of s q) =
    ap (λ r. length (choices_of s r)) e in
    let a = h.hands.one q in let b = h.hands.chosen q in
    omega (arith, a, b, lt, long, same)))

positions-enabled : (s : HopState) (e : HopEvent) → Sound s → Enabled (PositionsStay s) s e
positions-enabled s (event.Put q hash) h =
    λ _ more. positions-landed s q
    (lane_drop_cause (lane_of s.fixed s.bare (in_hand s q).choice.lane) hash) (bucket_of hash) h
    more
positions-enabled s (event.Arrive q x) h = λ p j lt. refl
positions-enabled s (event.Take q) h = λ _ _ p j lt. refl
positions-enabled s (event.Enter a) h = λ _ _ p j lt. refl
positions-enabled s (event.Leave a) h = λ _ _ p j lt. refl
positions-enabled s (event.Weigh q class want desired online) h = λ _ _ p j lt. refl
positions-enabled s (event.Pull c) h = λ _ _ p j lt. refl
positions-enabled s (event.Deliver c o) h = λ _ p j lt. refl
positions-enabled s (event.Retire c) h = λ _ p j lt. refl
positions-enabled s (event.Resize q count) h = λ p j lt. refl
positions-enabled s event.Close h = λ _ p j lt. refl
positions-enabled s event.Reopen h = λ p j lt. refl

-- ---- every event

pub record Stays (s t : HopState) : Type 0 where
  pub fixed : t.fixed ≡ s.fixed
  pub lanes : length t.bare.accepted ≡ length s.bare.accepted
  pub arrivals : (p : ℕ) → Extends (arrivals_of s p) (arrivals_of t p)
  pub choices : (p : ℕ) → Extends (choices_of s p) (choices_of t p)
  pub accepted : (c : ℕ) → Extends (accepted_at s.bare c) (accepted_at t.bare c)
  pub retired : (c : ℕ) → retired_at s.bare c ≤ retired_at t.bare c
  pub entries : (p i from k : ℕ) → i < length (choices_of s p)
      → entries_before t p from i k ≡ entries_before s p from i k
  pub positions : PositionsStay s t

pub stays-self : (s : HopState) → Stays s s
stays-self s =
    let g = grown-self s in
    record {
      fixed = refl;
      lanes = refl;
      arrivals = g.arrivals;
      choices = g.choices;
      accepted = g.accepted;
      retired = g.retired;
      entries = λ p i from k lt. refl;
      positions = λ p j lt. refl;
    }

pub stays-happens : (s : HopState) (e : HopEvent) → MayAsk s e → Sound s
    → Stays s (happens s e).0
stays-happens s e may h =
    let g = by_cases (Grown s) s e (grown-self s) (grown-enabled s e) in
    let z = Sizes-happens s e in
    record {
      fixed = z.fixed;
      lanes = z.lanes;
      arrivals = g.arrivals;
      choices = g.choices;
      accepted = g.accepted;
      retired = g.retired;
      entries = λ p i from k lt. (choices_stay s (e ∷ []) h (may, tt) p i lt).1 from k;
      positions = by_cases (PositionsStay s) s e (λ p j lt. refl) (positions-enabled s e h);
    }

pub stays-more : (s t u : HopState) → Stays s t → Stays t u → Stays s u
stays-more s t u a b =
    record {
      fixed = b.fixed ∙ a.fixed;
      lanes = b.lanes ∙ a.lanes;
      arrivals = λ p. extends-more (arrivals_of s p) (arrivals_of t p) (arrivals_of u p)
          (a.arrivals p) (b.arrivals p);
      choices = λ p. extends-more (choices_of s p) (choices_of t p) (choices_of u p)
          (a.choices p) (b.choices p);
      accepted = λ c. extends-more (accepted_at s.bare c) (accepted_at t.bare c)
          (accepted_at u.bare c) (a.accepted c) (b.accepted c);
      retired = λ c. (let x = a.retired c in let y = b.retired c in omega (arith, x, y));
      entries = λ p i from k lt. (
          let far = extends-length (choices_of s p) (choices_of t p) (a.choices p) in
          b.entries p i from k (omega (arith, lt, far)) ∙ a.entries p i from k lt);
      positions = λ p j lt. (
          let far = extends-length (choices_of s p) (choices_of t p) (a.choices p) in
          let same : chosen_at (choices_of t p) j ≡ chosen_at (choices_of s p) j =
          extends-get (choices_of s p) (choices_of t p) j nobody (a.choices p)
          (omega (arith, lt)) in
          ap (position (accepted_at u.bare)) (sym same)
          ∙ b.positions p j (omega (arith, lt, far))
          ∙ ap (position (accepted_at t.bare)) same ∙ a.positions p j lt);
    }

pub stays-run : (es : List HopEvent) (s : HopState) → AllMayAsk es s → Sound s
    → Stays s (run es s)
stays-run [] s may h = stays-self s
stays-run (e ∷ es) s may h =
    stays-more s (happens s e).0 (run es (happens s e).0) (stays-happens s e may.0 h)
    (stays-run es (happens s e).0 may.1 (Sound-happens s e may.0 h))
