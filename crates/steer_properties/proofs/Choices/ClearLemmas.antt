-- Where a choice moved a class, the earlier packets of the class that were accepted are retired.
use Rattle.std.proofs.Common.{ℕ, ◌+◌, ◌-◌, ◌≤◌, ◌<◌, ◌≡◌, true, false, List, []}
use Rattle.std.proofs.Common.{◌∷◌, ◌++◌, Option, Some, None, length, refl, ap, ◌∙◌, sym}
use Rattle.std.proofs.Common.{subst, arith}
use Rattle.std.proofs.Common.{inl, inr, get_or}
use Rattle.std.specs.Prelude.{nat_le}
use Rattle.std.proofs.Math.ListN.{get_or-eq_default}
use Rattle.std.proofs.lemmas.Bool.{cases_eq, cases_lt, eq-eqb, leb-true}
use Rattle.std.proofs.lemmas.List.{get_or-drop, length-drop}
use Rattle.std.proofs.lemmas.Option.{same_Some}
use Rattle.history.specs.declared.lane_list.LaneList.{LaneList}
use Rattle.hop_model.specs.Events.{IsEmptied}
use Rattle.hop_model.specs.Hop.{HopState, accepted_at, choice_of, choices_of, chosen_at, chose}
use Rattle.hop_model.specs.Hop.{head_at}
use Rattle.hop_model.specs.Hop.{next_of, nobody, recent, retired_at, since_of}
use Rattle.hop_model.specs.Sound.{Sound}
use Rattle.hop_model.specs.Standing.{StandsAt}
use Rattle.hop_core.proofs.Alone.{All-passed}
use Rattle.hop_core.proofs.Fits.{fits_room}
use Rattle.hop_core.proofs.Lists.{Changed-set, chosen-push_front, chosen-push_last, length-push}
use Rattle.steer_base.specs.Choices.{has_moved}
use Rattle.steer_base.specs.Entries.{current_lane, entry, is_class, of_class, place_in, position}
use Rattle.steer_base.specs.Entries.{recorded_count}
use Rattle.steer_base.specs.Moves.{MayLeave, MovesByThree}
use Rattle.steer_base.specs.Sets.{has}
use Rattle.steer_base.specs.declared.choice.Choice.{Choice}
use Rattle.steer_base.specs.declared.choice.Chosen.{Chosen}
use Rattle.steer_base.specs.declared.choice.Entry.{Entry}
use Rattle.steer_base.specs.declared.cpu_mask.CpuMask.{CpuMask}
use Rattle.steer_base.proofs.CountersLemmas.{has_reached-counts}
use Rattle.steer_base.proofs.EntriesLemmas.{place_in-le, recorded_count-le}
use Rattle.steer_base.proofs.RuleLemmas.{moves-of}
use Rattle.steer_model.specs.State.Machine.{history_lanes}
use Rattle.steer_invariant.proofs.LaneLemmas.{lane-is}
use Rattle.steer_properties.specs.Choices.Clear.{MovesAreClear}
use Rattle.steer_properties.proofs.Choices.HeadLemmas.{retired-small}
use Rattle.steer_properties.proofs.Choices.MoveLemmas.{migrate-class}
use Rattle.steer_properties.proofs.Histories.HopGrowthLemmas.{Stays}

-- the same of a hop
abbrev pub ClearIn : HopState → Type 0
ClearIn s =
    (p j k class n : ℕ) → j < k → k < length (choices_of s p)
    → has_moved (chosen_at (choices_of s p) k).choice.why ≡ true
    → (chosen_at (choices_of s p) k).choice.class ≡ Some class
    → (chosen_at (choices_of s p) j).choice.class ≡ Some class
    → position (accepted_at s.bare) (chosen_at (choices_of s p) j) ≡ Some n
    → n ≤ retired_at s.bare (chosen_at (choices_of s p) j).choice.lane

-- ---- a hop that makes no choice

pub clear-stays : (s t : HopState) → Stays s t → t.choices ≡ s.choices → ClearIn s → ClearIn t
clear-stays s t stays same old p j k class n less lt moved is of at =
    let cs : choices_of t p ≡ choices_of s p =
    ap (λ (l : List (List Chosen)). get_or l p []) same in
    let long : length (choices_of t p) ≡ length (choices_of s p) = ap length cs in
    let here : (i : ℕ) → chosen_at (choices_of s p) i ≡ chosen_at (choices_of t p) i =
    λ i. ap (λ l. chosen_at l i) (sym cs) in
    let before : position (accepted_at s.bare) (chosen_at (choices_of s p) j) ≡ Some n =
    sym (stays.positions p j (omega (arith, less, lt, long)))
    ∙ ap (position (accepted_at t.bare)) (here j) ∙ at in
    let low = old p j k class n less (omega (arith, lt, long))
    (ap (λ c. has_moved c.choice.why) (here k) ∙ moved) (ap (λ c. c.choice.class) (here k) ∙ is)
    (ap (λ c. c.choice.class) (here j) ∙ of) before in
    let lane : (chosen_at (choices_of t p) j).choice.lane
    ≡ (chosen_at (choices_of s p) j).choice.lane = ap (λ c. c.choice.lane) (sym (here j)) in
    let high = stays.retired (chosen_at (choices_of s p) j).choice.lane in
    let e = ap (retired_at t.bare) lane in
    omega (arith, low, high, e)

-- ---- a new choice

module _ (s : HopState) (q : ℕ) (want : Option ℕ) (desired : ℕ) (online : CpuMask) (h : Sound s)
    (drained : (c : ℕ) → c < length s.bare.accepted → has online c ≡ false → IsEmptied s.bare c)
    (class : ℕ) where
  abbrev c : Choice
  c = choice_of s q (Some class) want desired online

  abbrev of : List Chosen
  of = of_class class (recent s q)

  abbrev e : Entry
  e = entry s.fixed.start (accepted_at s.bare) (recent s q) class

  accepted-few : (d : ℕ) → length (accepted_at s.bare d) ≤ 262144
  accepted-few d =
      let f = (fits_room s h).puts d in let r = h.small.room in omega (arith, f, r)

  -- a recent packet that is accepted and not retired keeps its class from moving
  not-left : (n lane : ℕ) → n ≤ recorded_count (accepted_at s.bare) of
      → n ≤ length (accepted_at s.bare lane) → e.lane ≡ Some lane
      → (current : Option ℕ) → e.lane ≡ current
      → MayLeave desired e.tail (head_at s.fixed.start s.bare) (has online) current
      → n ≤ retired_at s.bare lane
  not-left n lane tail here is None e w = absurd (let f : Some lane ≡ None = sym is ∙ e in cc)
  not-left n lane tail here is (Some other) at w =
      let same : other ≡ lane = same_Some other lane (sym at ∙ is) in
      elim w.1 [
        | inl off ↦ elim (cases_lt other (length s.bare.accepted)) [
          | inl lt ↦ (
              let empty = drained other lt off in
              let a = ap (retired_at s.bare) same in
              let b = ap (λ d. length (accepted_at s.bare d)) same in
              omega (arith, empty, a, b, here))
          | inr le ↦ (
              let none : accepted_at s.bare other ≡ [] =
              get_or-eq_default s.bare.accepted [] le in
              let a = ap length none in
              let b = ap (λ d. length (accepted_at s.bare d)) same in
              omega (arith, a, b, here))
        ]
        | inr reached ↦ (
            let count = recorded_count (accepted_at s.bare) of in
            let few = recorded_count-le (accepted_at s.bare) of 262144 accepted-few in
            let small = retired-small s h other in
            let test : nat_le (count + 0) (retired_at s.bare other) ≡ true =
            sym (has_reached-counts s.fixed.start (retired_at s.bare other) count 0 h.small.start
            small few) ∙ reached in
            let le = leb-true (count + 0) (retired_at s.bare other) test in
            let a = ap (retired_at s.bare) same in
            omega (arith, le, a, tail))
      ]

  -- where the new choice moved the class
  clear-recent : (j n : ℕ) → since_of s q ≤ j → j < length (choices_of s q)
      → (chosen_at (choices_of s q) j).choice.class ≡ Some class
      → position (accepted_at s.bare) (chosen_at (choices_of s q) j) ≡ Some n
      → MayLeave desired e.tail (head_at s.fixed.start s.bare) (has online) e.lane
      → n ≤ retired_at s.bare (chosen_at (choices_of s q) j).choice.lane
  clear-recent j n from lt own at may =
      let d : Chosen = chosen_at (choices_of s q) j in
      let i : ℕ = j - since_of s q in
      let same : get_or (recent s q) i nobody ≡ d =
      get_or-drop (since_of s q) (choices_of s q) i nobody
      ∙ ap (chosen_at (choices_of s q)) (let f : since_of s q + i ≡ j = omega (arith, from) in f) in
      let long = length-drop (since_of s q) (choices_of s q) in
      let test : is_class class (get_or (recent s q) i nobody).choice.class ≡ true =
      ap (λ (k : Chosen). is_class class k.choice.class) same ∙ ap (is_class class) own
      ∙ eq-eqb class class refl in
      let stands : StandsAt (accepted_at s.bare) (retired_at s.bare) (current_lane of)
      (recorded_count (accepted_at s.bare) of) d =
      subst
      (StandsAt (accepted_at s.bare) (retired_at s.bare) (current_lane of)
      (recorded_count (accepted_at s.bare) of)) same
      (All-passed
      (StandsAt (accepted_at s.bare) (retired_at s.bare) (current_lane of)
      (recorded_count (accepted_at s.bare) of))
      (λ k. is_class class k.choice.class) (recent s q) nobody (h.stands q class) i
      (omega (arith, from, lt, long)) test) in
      elim (cases_lt (retired_at s.bare d.choice.lane) n) [
        | inr le ↦ le
        | inl less ↦ (
            let w = stands n at less in
            let within = place_in-le d.id (accepted_at s.bare d.choice.lane) n at in
            not-left n d.choice.lane w.1 within.1 w.0 e.lane refl may)
      ]

  clear-new : (j n : ℕ) → j < length (choices_of s q) → has_moved c.why ≡ true
      → (chosen_at (choices_of s q) j).choice.class ≡ Some class
      → position (accepted_at s.bare) (chosen_at (choices_of s q) j) ≡ Some n
      → n ≤ retired_at s.bare (chosen_at (choices_of s q) j).choice.lane
  clear-new j n lt moved own at =
      elim (cases_lt j (since_of s q)) [
        | inl early ↦ h.past q j n early at
        | inr late ↦ (
            let w : MovesByThree c desired e.tail (head_at s.fixed.start s.bare) (has online)
            e.lane =
            moves-of c class want desired e.tail (head_at s.fixed.start s.bare) (has online) e.lane
            refl in
            clear-recent j n late lt own at (w.may.0 moved))
      ]

-- a choice without a class moves nothing
plain-not_moved : (s : HopState) (q : ℕ) (want : Option ℕ) (desired : ℕ) (online : CpuMask)
    → has_moved (choice_of s q None want desired online).why ≡ false
plain-not_moved s q want desired online = refl

module _ (s : HopState) (q : ℕ) (of want : Option ℕ) (desired : ℕ) (online : CpuMask) (h : Sound s)
    (drained : (c : ℕ) → c < length s.bare.accepted → has online c ≡ false → IsEmptied s.bare c)
    (in' : q < length s.choices) where
  abbrev new : Chosen
  new = record { id = next_of s q; choice = choice_of s q of want desired online }

  abbrev t : HopState
  t = chose s q (choice_of s q of want desired online)

  by-class : (o : Option ℕ) → of ≡ o → (class j n : ℕ) → j < length (choices_of s q)
      → has_moved new.choice.why ≡ true → new.choice.class ≡ Some class
      → (chosen_at (choices_of s q) j).choice.class ≡ Some class
      → position (accepted_at s.bare) (chosen_at (choices_of s q) j) ≡ Some n
      → n ≤ retired_at s.bare (chosen_at (choices_of s q) j).choice.lane
  by-class None is class j n lt moved own other at =
      absurd (
      let f : has_moved new.choice.why ≡ false =
      ap (λ o. has_moved (choice_of s q o want desired online).why) is in
      let g : true ≡ false = sym moved ∙ f in cc)
  by-class (Some k) is class j n lt moved own other at =
      let same : k ≡ class =
      same_Some k class (sym is ∙ sym (migrate-class of want desired _ _ _) ∙ own) in
      let whole : of ≡ Some class = is ∙ ap (λ d. Some d) same in
      clear-new s q want desired online h drained class j n lt
      (ap (λ o. has_moved (choice_of s q o want desired online).why) (sym whole) ∙ moved) other at

  pub clear-chose : ClearIn s → ClearIn t
  clear-chose old p j k class n less lt moved is own at =
      elim (cases_eq p q) [
        | inr ne ↦ (
            let ch = Changed-set s.choices q (choices_of s q ++ new ∷ []) [] in' in
            let cs : choices_of s p ≡ choices_of t p = sym (ch.there p ne) in
            let long = ap length cs in
            let here : (i : ℕ) → chosen_at (choices_of s p) i ≡ chosen_at (choices_of t p) i =
            λ i. ap (λ l. chosen_at l i) cs in
            let low = old p j k class n less (omega (arith, lt, long))
            (ap (λ c. has_moved c.choice.why) (here k) ∙ moved)
            (ap (λ c. c.choice.class) (here k) ∙ is) (ap (λ c. c.choice.class) (here j) ∙ own)
            (ap (position (accepted_at s.bare)) (here j) ∙ at) in
            let lane = ap (λ c. retired_at s.bare c.choice.lane) (here j) in
            omega (arith, low, lane))
        | inl e ↦ at-producer e
      ]
    where
      grown : p ≡ q → choices_of t p ≡ choices_of s q ++ new ∷ []
      grown e =
          ap (choices_of t) e
          ∙ (Changed-set s.choices q (choices_of s q ++ new ∷ []) [] in').here

      at-producer : p ≡ q → n ≤ retired_at s.bare (chosen_at (choices_of t p) j).choice.lane
      at-producer e =
          let cs : List Chosen = choices_of s q in
          let long : length (choices_of t p) ≡ length (cs ++ new ∷ []) = ap length (grown e) in
          let n-long = length-push cs new in
          let front : (i : ℕ) → i < length cs → chosen_at cs i ≡ chosen_at (choices_of t p) i =
          λ i il. sym (ap (λ l. chosen_at l i) (grown e) ∙ chosen-push_front cs new nobody i il) in
          let jl : j < length cs = omega (arith, less, lt, long, n-long) in
          let before : position (accepted_at s.bare) (chosen_at cs j) ≡ Some n =
          ap (position (accepted_at s.bare)) (front j jl) ∙ at in
          let class-j : (chosen_at cs j).choice.class ≡ Some class =
          ap (λ c. c.choice.class) (front j jl) ∙ own in
          let lane = ap (λ c. retired_at s.bare c.choice.lane) (front j jl) in
          elim (cases_lt k (length cs)) [
            | inl early ↦ (
                let low = old q j k class n less early
                (ap (λ c. has_moved c.choice.why) (front k early) ∙ moved)
                (ap (λ c. c.choice.class) (front k early) ∙ is) class-j before in
                omega (arith, low, lane))
            | inr late ↦ (
                let last : length cs ≡ k = omega (arith, late, lt, long, n-long) in
                let mine : new ≡ chosen_at (choices_of t p) k =
                sym
                (ap (chosen_at (choices_of t p)) (sym last)
                ∙ ap (λ l. chosen_at l (length cs)) (grown e) ∙ chosen-push_last cs new nobody) in
                let low = by-class of refl class j n jl
                (ap (λ c. has_moved c.choice.why) mine ∙ moved)
                (ap (λ c. c.choice.class) mine ∙ is) class-j before in
                omega (arith, low, lane))
          ]

-- ---- in the words of a history

pub clear-words : (s : HopState) → Sound s → ClearIn s → (p : ℕ)
    → MovesAreClear (history_lanes s.bare) (choices_of s p)
clear-words s h old p j k class n less lt moved is own at =
    let c : Chosen = chosen_at (choices_of s p) j in
    let here : position (accepted_at s.bare) c ≡ Some n =
    ap (λ (l : LaneList). place_in c.id l.accepted) (sym (lane-is s h c.choice.lane)) ∙ at in
    let low = old p j k class n less lt moved is own here in
    let same = ap (λ (l : LaneList). l.retired) (lane-is s h c.choice.lane) in
    omega (arith, low, same)
