-- The heads that choices saw never fall, and none is over what its lane retired.
use Rattle.std.proofs.Common.{ℕ, zero, suc, ◌^◌, ◌≤◌, ◌<◌, ◌≡◌, Bool, true, false, cond, not}
use Rattle.std.proofs.Common.{List, [], ◌∷◌, ◌++◌, Option, Some, None, map, length, drop, refl}
use Rattle.std.proofs.Common.{ap, ◌∙◌, sym, subst, arith, inl, inr}
use Rattle.std.specs.Prelude.{◌==◌, slice_index_or}
use Rattle.std.proofs.lemmas.Bool.{cases_Bool, cases_eq, cases_lt}
use Rattle.std.proofs.lemmas.List.{take-append-le}
use Rattle.std.proofs.Math.Seq.{take-append_seam}
use Rattle.std.proofs.lemmas.Option.{same_Some}
use Rattle.steer_base.specs.Choices.{by_entry, migrate}
use Rattle.steer_base.specs.Counters.{distance, has_reached, number}
use Rattle.steer_base.specs.Entries.{current_lane, entry, is_class, last_or, of_class}
use Rattle.steer_base.specs.Sets.{has}
use Rattle.steer_base.specs.declared.choice.Choice.{Choice}
use Rattle.steer_base.specs.declared.choice.Chosen.{Chosen}
use Rattle.steer_base.specs.declared.choice.Entry.{Entry}
use Rattle.steer_base.specs.declared.choice.Why.TheVariants.{Kept, Offline, Passed, Same}
use Rattle.steer_base.specs.declared.cpu_mask.CpuMask.{CpuMask}
use Rattle.steer_base.proofs.RuleLemmas.{by_entry-class}
use Rattle.hop_model.specs.Hop.{HopState, accepted_at, choice_of, choices_of, chosen_at, chose}
use Rattle.hop_model.specs.Hop.{head_at, next_of, nobody, retired_at, since_of}
use Rattle.hop_model.specs.Sound.{Sound}
use Rattle.hop_core.proofs.Fits.{fits_room}
use Rattle.hop_core.proofs.Lists.{Changed-set, chosen-push_front, chosen-push_last, length-push}
use Rattle.history.specs.Lists.{lane_at}
use Rattle.history.specs.declared.lane_list.LaneList.{LaneList}
use Rattle.steer_model.specs.Good.Choices.{HeadsRise, lane_of_class, lane_seen}
use Rattle.steer_model.specs.State.Machine.{history_lanes}
use Rattle.steer_invariant.proofs.LaneLemmas.{lane-is}
use Rattle.steer_properties.proofs.Histories.HopGrowthLemmas.{Stays}

-- ---- the head that a choice keeps

-- a choice keeps the head of the current lane, or none
head-by : (k : ℕ) (want : Option ℕ) (desired tail current head : ℕ) (same off reached : Bool)
    (seen : ℕ)
    → (cond {A = Choice} same
    (record {
      class = Some k;
      want = want;
      head = None;
      tail = Some tail;
      lane = current;
      why = Same;
    })
    (cond {A = Choice} off
    (record {
      class = Some k;
      want = want;
      head = None;
      tail = Some tail;
      lane = desired;
      why = Offline;
    })
    (cond {A = Choice} reached
    (record {
      class = Some k;
      want = want;
      head = Some head;
      tail = Some tail;
      lane = desired;
      why = Passed;
    })
    (record {
      class = Some k;
      want = want;
      head = Some head;
      tail = Some tail;
      lane = current;
      why = Kept;
    })))).head ≡ Some seen → seen ≡ head
head-by k want desired tail current head true off reached seen is = absurd (cc)
head-by k want desired tail current head false true reached seen is = absurd (cc)
head-by k want desired tail current head false false true seen is = cc
head-by k want desired tail current head false false false seen is = cc

by_entry-head : (k : ℕ) (want : Option ℕ) (desired tail : ℕ) (head : ℕ → ℕ) (online : ℕ → Bool)
    (current : Option ℕ) (seen : ℕ)
    → (by_entry k want desired tail head online current).head ≡ Some seen
    → (lane : ℕ) × (current ≡ Some lane) × (seen ≡ head lane)
by_entry-head k want desired tail head online None seen is = absurd (cc)
by_entry-head k want desired tail head online (Some lane) seen is = (
  lane,
  refl,
  head-by k want desired tail lane (head lane) (lane == desired) (not (online lane))
      (has_reached (head lane) tail 0) seen is,
)

-- the current lane of a class, where there is one, is that of its last choice of all
last_or-any : (d : Option ℕ) (xs : List (Option ℕ)) (lane : ℕ) → last_or None xs ≡ Some lane
    → last_or d xs ≡ Some lane
last_or-any d [] lane is = absurd (cc)
last_or-any d (x ∷ xs) lane is = is

current-cons : (k : ℕ) (c : Chosen) (cs : List Chosen) (lane : ℕ)
    → current_lane (of_class k cs) ≡ Some lane → current_lane (of_class k (c ∷ cs)) ≡ Some lane
current-cons k c cs lane is =
    elim (cases_Bool (is_class k c.choice.class)) [
      | inl own ↦
          rw own
          (last_or-any (Some c.choice.lane) (map (λ d. Some d.choice.lane) (of_class k cs)) lane is)
      | inr other ↦ rw other is
    ]

current-drop : (k n : ℕ) (cs : List Chosen) (lane : ℕ)
    → current_lane (of_class k (drop n cs)) ≡ Some lane
    → current_lane (of_class k cs) ≡ Some lane
current-drop k zero cs lane is = is
current-drop k (suc n) [] lane is = is
current-drop k (suc n) (c ∷ cs) lane is =
    current-cons k c cs lane (current-drop k n cs lane is)

-- a new choice saw the head of the lane that the choices of its class before it tell
abbrev SawHead : (ℕ → ℕ) → List Chosen → Choice → Type 0
SawHead head cs c =
    (seen lane : ℕ) → c.head ≡ Some seen → lane_of_class c.class cs ≡ Some lane → seen ≡ head lane

saw-head : (class want : Option ℕ) (desired start since : ℕ) (accepted : ℕ → List ℕ)
    (cs : List Chosen) (head : ℕ → ℕ) (online : ℕ → Bool)
    → SawHead head cs
    (migrate class want desired (entry start accepted (drop since cs)) head online)
saw-head None want desired start since accepted cs head online seen lane is at = absurd (cc)
saw-head (Some k) want desired start since accepted cs head online seen lane is at =
    let e : Entry = entry start accepted (drop since cs) k in
    let w = by_entry-head k want desired e.tail head online e.lane seen is in
    let class : (by_entry k want desired e.tail head online e.lane).class ≡ Some k =
    by_entry-class k want desired e.tail head online e.lane in
    let here : current_lane (of_class k cs) ≡ Some lane =
    ap (λ c. lane_of_class c cs) (sym class) ∙ at in
    let there : current_lane (of_class k cs) ≡ Some w.0 = current-drop k since cs w.0 w.1 in
    let same : w.0 ≡ lane = same_Some w.0 lane (sym there ∙ here) in
    w.2 ∙ ap head same

-- ---- a choice more

module _ (start : ℕ) (lanes : List LaneList) (cs : List Chosen) (c : Chosen) where
  front : (k : ℕ) → k < length cs → chosen_at (cs ++ c ∷ []) k ≡ chosen_at cs k
  front k lt = chosen-push_front cs c nobody k lt

  front-seen : (k : ℕ) → k < length cs → lane_seen (cs ++ c ∷ []) k ≡ lane_seen cs k
  front-seen k lt =
      (λ i. lane_of_class (front k lt i).choice.class
      (take-append-le k cs (c ∷ []) (omega (arith, lt)) i))

  last : chosen_at (cs ++ c ∷ []) (length cs) ≡ c
  last = chosen-push_last cs c nobody

  last-seen : lane_seen (cs ++ c ∷ []) (length cs) ≡ lane_of_class c.choice.class cs
  last-seen = (λ i. lane_of_class (last i).choice.class (take-append_seam cs (c ∷ []) i))

  abbrev head-is : ℕ → ℕ → Type 0
  head-is k seen = (chosen_at (cs ++ c ∷ []) k).choice.head ≡ Some seen

  heads-pushed : HeadsRise start lanes cs
      → ((seen lane : ℕ) → c.choice.head ≡ Some seen
      → lane_of_class c.choice.class cs ≡ Some lane
      → distance seen start ≡ (lane_at lanes lane).retired)
      → HeadsRise start lanes (cs ++ c ∷ [])
  heads-pushed old new =
      record { within = within; rise = rise }
    where
      before : (k seen lane : ℕ) → k < length cs
          → head-is k seen → lane_seen (cs ++ c ∷ []) k ≡ Some lane
          → distance seen start ≤ (lane_at lanes lane).retired
      before k seen lane lt is at =
          old.within k seen lane lt (ap (λ d. d.choice.head) (sym (front k lt)) ∙ is)
          (sym (front-seen k lt) ∙ at)

      newest : (k seen lane : ℕ) → k ≡ length cs
          → head-is k seen → lane_seen (cs ++ c ∷ []) k ≡ Some lane
          → distance seen start ≡ (lane_at lanes lane).retired
      newest k seen lane e is at =
          new seen lane
          (ap (λ d. d.choice.head) (sym last)
          ∙ ap (λ n. (chosen_at (cs ++ c ∷ []) n).choice.head) (sym e) ∙ is)
          (sym last-seen ∙ ap (lane_seen (cs ++ c ∷ [])) (sym e) ∙ at)

      within : (k seen lane : ℕ) → k < length (cs ++ c ∷ [])
          → head-is k seen → lane_seen (cs ++ c ∷ []) k ≡ Some lane
          → distance seen start ≤ (lane_at lanes lane).retired
      within k seen lane lt is at =
          let n = length-push cs c in
          elim (cases_lt k (length cs)) [
            | inl early ↦ before k seen lane early is at
            | inr late ↦ (
                let e : k ≡ length cs = omega (arith, lt, late, n) in
                let f = newest k seen lane e is at in omega (arith, f))
          ]

      rise : (j k earlier seen lane : ℕ) → j < k → k < length (cs ++ c ∷ [])
          → head-is j earlier → lane_seen (cs ++ c ∷ []) j ≡ Some lane
          → head-is k seen → lane_seen (cs ++ c ∷ []) k ≡ Some lane
          → distance earlier start ≤ distance seen start
      rise j k earlier seen lane less lt is at now there =
          let n = length-push cs c in
          elim (cases_lt k (length cs)) [
            | inl early ↦
                let jl : j < length cs = omega (arith, less, early) in
                old.rise j k earlier seen lane less early
                (ap (λ d. d.choice.head) (sym (front j jl)) ∙ is)
                (sym (front-seen j jl) ∙ at)
                (ap (λ d. d.choice.head) (sym (front k early)) ∙ now)
                (sym (front-seen k early) ∙ there)
            | inr late ↦ (
                let e : k ≡ length cs = omega (arith, lt, late, n) in
                let f = newest k seen lane e now there in
                let g = before j earlier lane (omega (arith, less, e)) is at in
                omega (arith, f, g))
          ]

-- ---- a hop

retired-is : (s : HopState) → Sound s → (c : ℕ)
    → (lane_at (history_lanes s.bare) c).retired ≡ retired_at s.bare c
retired-is s h c = ap (λ lane. lane.retired) (lane-is s h c)

pub retired-small : (s : HopState) → Sound s → (c : ℕ) → retired_at s.bare c ≤ 262144
retired-small s h c =
    let f = (fits_room s h).puts c in let r = h.small.room in
    let a = h.counts.retired_first c in let b = h.counts.delivered_first c in
    let d = h.counts.pulled_first c in
    omega (arith, f, r, a, b, d)

pub distance-is : (start count : ℕ) → start < 2 ^ 32 → count ≤ 262144
    → distance (number start count) start ≡ count
distance-is start count s c = omega arith

abbrev pub HeadsIn : HopState → Type 0
HeadsIn s = (p : ℕ) → HeadsRise s.fixed.start (history_lanes s.bare) (choices_of s p)

-- a hop that stays, and makes no choice
pub heads-stay : (s t : HopState) → Sound s → Sound t → Stays s t → t.choices ≡ s.choices
    → HeadsIn s → HeadsIn t
heads-stay s t h g stays same old p =
    let start : t.fixed.start ≡ s.fixed.start = ap (λ f. f.start) stays.fixed in
    let cs : choices_of t p ≡ choices_of s p = ap (λ l. slice_index_or l p []) same in
    let o = old p in
    subst (λ (l : List Chosen). HeadsRise t.fixed.start (history_lanes t.bare) l) (sym cs)
    (subst (λ n. HeadsRise n (history_lanes t.bare) (choices_of s p)) (sym start)
    (record {
      within = λ k seen lane lt is at. (
          let a = o.within k seen lane lt is at in
          let b = retired-is s h lane in let c = retired-is t g lane in
          let d = stays.retired lane in
          omega (arith, a, b, c, d));
      rise = o.rise;
    }))

-- a hop that makes a choice by the rule
pub heads-chose : (s : HopState) (q : ℕ) (class want : Option ℕ) (desired : ℕ) (online : CpuMask)
    → Sound s → q < length s.choices → HeadsIn s
    → HeadsIn (chose s q (choice_of s q class want desired online))
heads-chose s q class want desired online h in' old p =
    let c : Choice = choice_of s q class want desired online in
    let new : Chosen = record { id = next_of s q; choice = c } in
    let t : HopState = chose s q c in
    let ch = Changed-set s.choices q (choices_of s q ++ new ∷ []) [] in' in
    let start = s.fixed.start in
    elim (cases_eq p q) [
      | inl e ↦ (
          let is : choices_of t p ≡ choices_of s q ++ new ∷ [] =
          ap (choices_of t) e ∙ ch.here in
          subst (λ (l : List Chosen). HeadsRise start (history_lanes s.bare) l) (sym is)
          (heads-pushed start (history_lanes s.bare) (choices_of s q) new (old q)
          (λ seen lane kept at. (
          let f : seen ≡ head_at start s.bare lane =
          saw-head class want desired start (since_of s q) (accepted_at s.bare) (choices_of s q)
          (head_at start s.bare) (has online) seen lane kept at in
          ap (λ n. distance n start) f
          ∙ distance-is start (retired_at s.bare lane) h.small.start (retired-small s h lane)
          ∙ sym (retired-is s h lane)))))
      | inr ne ↦
          subst (λ (l : List Chosen). HeadsRise start (history_lanes s.bare) l)
          (sym (ch.there p ne))
          (old p)
    ]
