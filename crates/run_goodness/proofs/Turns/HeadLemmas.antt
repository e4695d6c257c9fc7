-- Heads that choices saw.
use Rattle.std.proofs.lemmas.List.{map-append, take-append-drop}
use Rattle.linearization.specs.Orders.{step_by}
use Rattle.steer_base.specs.Entries.{current_lane, is_class, last_or, of_class}
use Rattle.hop_rule.specs.Moments.{moment_of}
use Rattle.hop_rule.specs.Sizes.{FitSizes}
use Rattle.hop_rule.proofs.Moments.{step-inside}
use Rattle.hop_rule.proofs.Parts.{at_moment, moments_rise}
use Rattle.board_api.specs.Laws.Heads as seam
use Rattle.board_api.specs.Laws.Lanes.{LanesAreInTurn}
use Rattle.hop_delivery.specs.Orders.Runs.{IsByRule}
use Rattle.hop_delivery.proofs.Orders.TurnLemmas.{Places, turns_have_places}
use Rattle.steer_model.specs.Good.Choices.{HeadsRise, lane_seen}
use Rattle.run_goodness.proofs.Names.{◌≡◌, ℕ, zero, suc, ◌+◌, ◌-◌, ◌%◌, ◌^◌, ◌<◌, ◌≤◌, ◌==◌, not}
use Rattle.run_goodness.proofs.Names.{Bool, true, false, List, [], ◌∷◌, ◌++◌, Option, Some, None}
use Rattle.run_goodness.proofs.Names.{length, map, take, drop, get_or, if◌then◌else◌, sym, refl, ap}
use Rattle.run_goodness.proofs.Names.{◌∙◌, arith, slice_get, by_entry, migrate, distance}
use Rattle.run_goodness.proofs.Names.{has_reached, Choice, Chosen, Entry, Why, Kept, Offline}
use Rattle.run_goodness.proofs.Names.{Passed, Same, lane_at, chosen_at, nobody, nth_step}
use Rattle.run_goodness.proofs.Names.{BoardSizes, BoardStep, Weighed, none-some, some-is}
use Rattle.run_goodness.proofs.Names.{nth-inside, nth-last, nth-old, nth-some, Has, BoardLists}
use Rattle.run_goodness.proofs.Names.{Steering, Execution, turns_of, Explained, Turn, accepted_left}
use Rattle.run_goodness.proofs.Tries.AnswerLemmas.{shown}
use Rattle.run_coupling.proofs.Turns.TableEntryLemmas.{nth-moment}
use Rattle.run_goodness.proofs.Turns.ChoiceLemmas.{get-or}
use Rattle.run_goodness.specs.Laws.{HeadsFollow}

-- ---- a choice that keeps a head

abbrev a_choice : ℕ → Option ℕ → ℕ → Option ℕ → ℕ → Why → Choice
a_choice class want tail head lane why = record {
  class = Some class;
  want = want;
  head = head;
  tail = Some tail;
  lane = lane;
  why = why;
}

record KeepsHead (class : Option ℕ) (entries : ℕ → Entry) (head h : ℕ) (c : Choice) : Type 0 where
  of_class : ℕ
  lane : ℕ
  is_class : class ≡ Some of_class
  is_lane : (entries of_class).lane ≡ Some lane
  is_head : head ≡ h
  same_class : c.class ≡ Some of_class

kept-head : (class want : Option ℕ) (desired : ℕ) (entries : ℕ → Entry) (head : ℕ)
    (online : ℕ → Bool) (h : ℕ)
    → (migrate class want desired entries (λ _. head) online).head ≡ Some h
    → KeepsHead class entries head h (migrate class want desired entries (λ _. head) online)
kept-head None want desired entries head online h is = none-some h is
kept-head (Some c) want desired entries head online h is = by_lane (entries c).lane refl is
  where
    by_bools : (l tail : ℕ) (same off reached : Bool)
        → (if same then a_choice c want tail None l Same else
        if off then a_choice c want tail None desired Offline else
        if reached then a_choice c want tail (Some head) desired Passed
        else a_choice c want tail (Some head) l Kept).head ≡ Some h
        → (head ≡ h) × ((if same then a_choice c want tail None l Same else
        if off then a_choice c want tail None desired Offline else
        if reached then a_choice c want tail (Some head) desired Passed
        else a_choice c want tail (Some head) l Kept).class ≡ Some c)
    by_bools l tail true off reached is = none-some h is
    by_bools l tail false true reached is = none-some h is
    by_bools l tail false false true is = (some-is head h is, refl)
    by_bools l tail false false false is = (some-is head h is, refl)

    by_lane : (o : Option ℕ) → (entries c).lane ≡ o
        → (by_entry c want desired (entries c).tail (λ _. head) online o).head ≡ Some h
        → KeepsHead (Some c) entries head h
        (by_entry c want desired (entries c).tail (λ _. head) online (entries c).lane)
    by_lane None same is = none-some h is
    by_lane (Some l) same is =
        let b = by_bools l (entries c).tail (l == desired) (not (online l))
        (has_reached head (entries c).tail 0) is in
        record {
          of_class = c;
          lane = l;
          is_class = refl;
          is_lane = same;
          is_head = b.0;
          same_class =
              ap (λ (o : Option ℕ).
              (by_entry c want desired (entries c).tail (λ _. head) online o).class) same ∙ b.1;
        }

-- ---- the current lane of the last part of a list is that of the whole list

last-any : (a b : Option ℕ) (xs : List (Option ℕ)) (l : ℕ) → last_or None xs ≡ Some l
    → last_or a xs ≡ Some l
last-any a b [] l is = none-some l is
last-any a b (x ∷ xs) l is = is

last-append : (d : Option ℕ) (xs ys : List (Option ℕ))
    → last_or d (xs ++ ys) ≡ last_or (last_or d xs) ys
last-append d [] ys = refl
last-append d (x ∷ xs) ys = last-append x xs ys

class-append : (c : ℕ) (xs ys : List Chosen) → of_class c (xs ++ ys)
    ≡ of_class c xs ++ of_class c ys
class-append c [] ys = refl
class-append c (x ∷ xs) ys = by_bool (is_class c x.choice.class) (class-append c xs ys)
  where
    by_bool : (b : Bool) → of_class c (xs ++ ys) ≡ of_class c xs ++ of_class c ys
        → (if b then x ∷ of_class c (xs ++ ys) else of_class c (xs ++ ys))
        ≡ (if b then x ∷ of_class c xs else of_class c xs) ++ of_class c ys
    by_bool true same = ap (λ zs. x ∷ zs) same
    by_bool false same = same

current-later : (c n l : ℕ) (xs : List Chosen) → current_lane (of_class c (drop n xs)) ≡ Some l
    → current_lane (of_class c xs) ≡ Some l
current-later c n l xs is =
    let f : Chosen → Option ℕ = λ x. Some x.choice.lane in
    let a : List Chosen = of_class c (take n xs) in
    let b : List Chosen = of_class c (drop n xs) in
    let parts : of_class c xs ≡ a ++ b =
    ap (of_class c) (sym (take-append-drop n xs)) ∙ class-append c (take n xs) (drop n xs) in
    ap current_lane parts
    ∙ (ap (last_or None) (map-append f a b) ∙ (last-append None (map f a) (map f b)
    ∙ last-any (last_or None (map f a)) None (map f b) l is))

-- ---- loads of turns

contains_at : (xs : List BoardStep) (k : ℕ) (d : BoardStep) → k < length xs
    → (j : ℕ) × (nth_step xs j ≡ Some (get_or xs k d))
contains_at [] k d l = absurd (omega arith)
contains_at (y ∷ ys) zero d l = (length ys, nth-last y ys)
contains_at (y ∷ ys) (suc k) d l =
    let t = contains_at ys k d (omega arith) in
    (t.0, nth-old (y ∷ []) ys t.0 (nth-inside ys t.0 (get_or ys k d) t.1) ∙ t.1)

module _ (about : BoardSizes) (own : ℕ → List BoardStep) (lists : BoardLists) (fit : FitSizes about)
    (law : seam.HeadsRise about own lists) (turn : LanesAreInTurn about own lists) (t : Execution)
    (r : Steering) (p : ℕ) (explained : Explained (own (t.seat p)) (t.turns (t.seat p)))
    (many : length (turns_of t p) ≡ length (t.choices p))
    (chosen : (k : ℕ) (u : Turn) → nth_step (turns_of t p) k ≡ Some u
    → slice_get (t.choices p) k ≡ Some u.chosen)
    (by_rule : (k : ℕ) (u : Turn) → nth_step (turns_of t p) k ≡ Some u
    → IsByRule about own (accepted_left lists) t r p k u) where
  abbrev pub q : ℕ
  q = t.seat p

  abbrev cs : List Chosen
  cs = t.choices p

  abbrev pub places : Places (own q) (t.turns q)
  places = turns_have_places (own q) (t.turns q) explained

  abbrev pub at : ℕ → ℕ
  at k = moment_of p (t.turns q) k

  -- the load of the head that choice k saw
  pub record Load (k head lane : ℕ) : Type 0 where
    pub word : ℕ
    pub step : ℕ
    pub does : Has (own q) step (Weighed lane word)
    pub shows : word % 2 ^ 32 ≡ head
    pub after : places.entered (at k) < step
    pub before : step < places.put (at k)

  inside : (k : ℕ) (u : Turn) → nth_step (turns_of t p) k ≡ Some u → at k < length (t.turns q)
  inside k u is = step-inside (t.turns q) (at k) p u (at_moment p (t.turns q) k u is)

  pub load : (k head lane : ℕ) → k < length cs → (chosen_at cs k).choice.head ≡ Some head
      → lane_seen cs k ≡ Some lane → Load k head lane
  load k head lane less has_head seen =
      let u = nth-some (turns_of t p) k (omega arith) in
      let b = by_rule k u.0 u.1 in
      let x : chosen_at cs k ≡ u.0.chosen = get-or cs k nobody u.0.chosen (chosen k u.0 u.1) in
      let its_head : u.0.chosen.choice.head ≡ Some head =
      ap (λ (c : Chosen). c.choice.head) (sym x) ∙ has_head in
      let kept = kept-head _ _ _ _ b.head _ head
      (ap (λ (c : Choice). c.head) (sym b.rule) ∙ its_head) in
      let class : (chosen_at cs k).choice.class ≡ Some kept.of_class =
      ap (λ (c : Chosen). c.choice.class) x
      ∙ (ap (λ (c : Choice). c.class) b.rule ∙ kept.same_class) in
      let whole : current_lane (of_class kept.of_class (take k cs)) ≡ Some kept.lane =
      current-later kept.of_class _ kept.lane (take k cs) kept.is_lane in
      let same : kept.lane ≡ lane =
      some-is kept.lane lane
      (sym whole
      ∙ (sym (ap (λ (o : Option ℕ).
      Rattle.steer_model.specs.Good.Choices.lane_of_class o (take k cs)) class) ∙ seen)) in
      let w = b.loaded kept.of_class kept.lane kept.is_class kept.is_lane
      (its_head ∙ ap (λ n. Some n) (sym kept.is_head)) in
      let has = w.1 in
      let j = contains_at u.0.early has.0 (Weighed kept.lane w.0) has.1 in
      let turn_is = nth-moment (t.turns q) (at k) p u.0 (at_moment p (t.turns q) k u.0 u.1) in
      let e = (places.visits (at k) (step_by p u.0) turn_is).early j.0 (Weighed kept.lane w.0)
      (j.1 ∙ ap (λ d. Some d) has.2) in
      record {
        word = w.0;
        step = e.0;
        does = e.3 ∙ ap (λ l. Some (Weighed l w.0)) same;
        shows = w.2 ∙ kept.is_head;
        after = e.1;
        before = e.2;
      }

  pub counted : (k head lane : ℕ) (x : Load k head lane)
      → (distance head about.start ≡ x.word - about.start)
      × (x.word ≤ about.start + (lane_at lists.lanes lane).retired) × (about.start ≤ x.word)
  counted k head lane x =
      let a = law.from_start q x.step lane x.word x.does in
      let b = law.reached q x.step lane x.word x.does in
      let i = turn lane in
      let i0 = i.retired in
      let i1 = i.delivered in
      let i2 = i.pulled in
      let i3 = i.room in
      let big = fit.room in (
        ap (λ n. distance n about.start) (sym x.shows)
            ∙ shown about.start x.word fit.start a (omega arith),
        b,
        a,
      )

  pub heads_follow : HeadsRise about.start lists.lanes cs
  heads_follow = record {
    within = λ k head lane less is seen.
        let x = load k head lane less is seen in
        let c = counted k head lane x in
        let d = c.0 in
        let e = c.1 in
        let f = c.2 in
        omega arith;
    rise = λ j k before head lane less within is_j seen_j is_k seen_k.
        let x = load j before lane (omega arith) is_j seen_j in
        let y = load k head lane within is_k seen_k in
        let c = counted j before lane x in
        let d = counted k head lane y in
        let u = nth-some (turns_of t p) k (omega arith) in
        let rises = moments_rise p (t.turns q) j k less (omega arith) in
        let order = places.in_order (at j) (at k) rises (inside k u.0 u.1) in
        let x0 = x.before in
        let y0 = y.after in
        let words = law.rise q x.step y.step lane x.word y.word (omega arith) x.does y.does in
        let c0 = c.0 in
        let d0 = d.0 in
        let c1 = c.2 in
        let d1 = d.2 in
        omega arith;
  }

pub heads_of_closing : (about : BoardSizes) (own : ℕ → List BoardStep) (lists : BoardLists)
    → FitSizes about → seam.HeadsRise about own lists → LanesAreInTurn about own lists
    → HeadsFollow about own lists
heads_of_closing about own lists fit law turn t r p explained many chosen by_rule =
    heads_follow about own lists fit law turn t r p explained many chosen by_rule
