-- A choice by what a queue's turns know is a choice by the settings of their visits.
use Rattle.std.{proofs.Common.◌*◌, proofs.Common.cond, specs.Prelude.unwrap_or}
use Rattle.steer_base.proofs.SetsLemmas.{those_below-more}
use Rattle.steer_base.specs.{Choices.desired_cpu, Choices.rps_choice_of, Sends.first_filled}
use Rattle.steer_base.specs.Sets.{at_hash, has_queue, those_below}
use Rattle.hop_delivery.proofs.Names.{◌≡◌, ℕ, zero, suc, ◌+◌, ◌<◌, ◌≤◌, ◌==◌, List, [], ◌∷◌, ◌++◌}
use Rattle.hop_delivery.proofs.Names.{Bool, true, Option, Some, None, take, drop, if◌then◌else◌}
use Rattle.hop_delivery.proofs.Names.{sym, refl, ap, ◌∙◌, arith, nat_lt, slice_index, migrate}
use Rattle.hop_delivery.proofs.Names.{entry, of_class, current_lane, has, Chosen, since_resize}
use Rattle.hop_delivery.proofs.Names.{nth_step, BoardSizes, BoardStep, nth-inside, nth-some}
use Rattle.hop_delivery.proofs.Names.{BoardLists, Queues, online_word, receive_steering, Execution}
use Rattle.hop_delivery.proofs.Names.{Steering, goal_of, turns_of, Turn, Explained, accepted_left}
use Rattle.hop_delivery.{proofs.Names.TurnsKnowSettings, specs.Closings.TurnReads.HasSeen}
use Rattle.hop_delivery.specs.Closings.TurnReads.{IsBySeen, Knows, RulesAreByReads, PicksAreByReads}
use Rattle.hop_delivery.specs.Orders.ReceiveSettings.{flows_word, mask, mask_word, queues}
use Rattle.hop_delivery.specs.Orders.Runs.{IsByRule, settings_of_visit, settings_at, word_of}

-- the last resize before a choice, by the shapes up to it
since-same : (f g : ℕ → ℕ) (i : ℕ) → ((j : ℕ) → j ≤ i → f j ≡ g j)
    → since_resize f i ≡ since_resize g i
unfolding since_resize
since-same f g zero same = refl
since-same f g (suc i) same =
    let here = same i (omega arith) in
    let next = same (suc i) (omega arith) in
    let before = since-same f g i (λ j le. same j (omega arith)) in
    λ a. if here a == next a then before a else suc i

-- two lists of settings that agree at the words that a queue's turns read steer them alike
module _ (q : Queues) (p : ℕ) (s z : ℕ → ℕ) (masks : s (mask_word q p) ≡ z (mask_word q p))
    (flows : s (flows_word q p) ≡ z (flows_word q p))
    (onlines : s (online_word q) ≡ z (online_word q)) where
  abbrev r : Steering
  r = receive_steering q

  pub shape_same : r.shape s p ≡ r.shape z p
  shape_same = λ i. if nat_lt p (queues q) then flows i else 0

  plain_same : (f : ℕ) → r.plain s p f ≡ r.plain z p f
  plain_same f = λ i. if nat_lt p (queues q)
      then rps_choice_of (mask (masks i)) (q.hash f) (mask (onlines i)) (slice_index q.homes p)
      else 0

  pub online_same : r.online s ≡ r.online z
  online_same = λ i l. has (mask (onlines i)) l

  pub goal_same : (f : ℕ) (class want : Option ℕ)
      → goal_of r s p f class want ≡ goal_of r z p f class want
  goal_same f None want = plain_same f
  goal_same f (Some class) want = λ i. desired_cpu (Some 0) want (mask (onlines i)) (plain_same f i)

module _ (about : BoardSizes) (own : ℕ → List BoardStep) (lists : BoardLists)
    (law : TurnsKnowSettings about own lists) (q : Queues) (t : Execution) (seen : ℕ → ℕ → ℕ)
    (p i : ℕ) (explained : Explained (own (t.seat p)) (t.turns (t.seat p)))
    (sees : (j : ℕ) (v : Turn) → j ≤ i → nth_step (turns_of t p) j ≡ Some v
    → HasSeen (own (t.seat p)) q p v (seen j)) where
  abbrev steering : Steering
  steering = receive_steering q

  abbrev accepted : ℕ → List ℕ
  accepted = accepted_left lists

  abbrev visits_at : ℕ → ℕ → ℕ
  visits_at j = settings_at about own accepted t steering p j

  -- the settings of the j-th visit are what its turn knows
  word_same : (j word : ℕ) (v : Turn) → nth_step (turns_of t p) j ≡ Some v
      → Knows (own (t.seat p)) v word (seen j word) → seen j word ≡ visits_at j word
  word_same j word v at has = law t p j word (seen j word) v explained at has
      ∙ ap (λ o. settings_of_visit about own (word_of o) word) (sym at)

  module _ (u : Turn) (at : nth_step (turns_of t p) i ≡ Some u) where
    turn_at : (j : ℕ) → j ≤ i → (v : Turn) × (nth_step (turns_of t p) j ≡ Some v)
    turn_at j le =
        let inside = nth-inside (turns_of t p) i u at in nth-some (turns_of t p) j (omega arith)

    shapes : (j : ℕ) → j ≤ i → steering.shape (seen j) p ≡ steering.shape (visits_at j) p
    shapes j le =
        let v = turn_at j le in
        let h = sees j v.0 le v.1 in
        shape_same q p (seen j) (visits_at j) (word_same j (mask_word q p) v.0 v.1 h.mask)
        (word_same j (flows_word q p) v.0 v.1 h.flows)
        (word_same j (online_word q) v.0 v.1 h.online)

    pub by_reads : IsBySeen about accepted t steering seen p i u
        → IsByRule about own accepted t steering p i u
    by_reads b =
        let h = sees i u (omega arith) at in
        let masks = word_same i (mask_word q p) u at h.mask in
        let flows = word_same i (flows_word q p) u at h.flows in
        let onlines = word_same i (online_word q) u at h.online in
        let f : ℕ = steering.flow u.chosen.id in
        let want : Option ℕ = u.chosen.choice.want in
        let since : since_resize (λ j. steering.shape (seen j) p) i
        ≡ since_resize (λ j. steering.shape (visits_at j) p) i =
        since-same (λ j. steering.shape (seen j) p) (λ j. steering.shape (visits_at j) p) i
        shapes in
        let class : steering.class (steering.shape (seen i) p) f
        ≡ steering.class (steering.shape (visits_at i) p) f =
        ap (λ x. steering.class x f) (shapes i (omega arith)) in
        let goal : goal_of steering (seen i) p f (steering.class (steering.shape (seen i) p) f)
        want ≡ goal_of steering (visits_at i) p f
        (steering.class (steering.shape (visits_at i) p) f) want =
        ap (λ c. goal_of steering (seen i) p f c want) class
        ∙ goal_same q p (seen i) (visits_at i) masks flows onlines f
        (steering.class (steering.shape (visits_at i) p) f) want in
        let on = online_same q p (seen i) (visits_at i) masks flows onlines in
        let cs : List Chosen = take i (t.choices p) in
        record {
          head = b.head;
          rule = b.rule ∙ (λ k. migrate (class k) want (goal k)
              (entry about.start accepted (drop (since k) cs)) (λ _. b.head) (on k));
          loaded = λ c l of_c lane seen_head. (
              b.loaded c l (class ∙ of_c)
              (ap (λ n. current_lane (of_class c (drop n cs))) since ∙ lane) seen_head);
          goal_online = sym (λ k. on k (goal k)) ∙ b.goal_online;
        }

pub rules_by_reads : (about : BoardSizes) (own : ℕ → List BoardStep) (lists : BoardLists)
    → TurnsKnowSettings about own lists → RulesAreByReads about own lists
rules_by_reads about own lists law q t seen p i u less explained at sees b =
    by_reads about own lists law q t seen p i explained sees u at b

-- ---- picks of transmit queues

those-same : (f g : ℕ → Bool) (n : ℕ) → ((k : ℕ) → k < n → f k ≡ g k)
    → those_below n f ≡ those_below n g
unfolding those_below
those-same f g zero same = refl
those-same f g (suc n) same =
    let next : suc n ≡ n + 1 = omega arith in
    let before = those-same f g n (λ k less. same k (omega arith)) in
    let last = same n (omega arith) in
    ap (λ m. those_below m f) next ∙ (those_below-more n f
    ∙ ((λ i. before i ++ cond (last i) (n ∷ []) [])
    ∙ sym (ap (λ m. those_below m g) next ∙ those_below-more n g)))

pub picks_by_reads : (about : BoardSizes) (own : ℕ → List BoardStep) (lists : BoardLists)
    → TurnsKnowSettings about own lists → PicksAreByReads about own lists
picks_by_reads about own lists law t p i count u s explained at knows rxq cpu hash =
    let z : ℕ → ℕ = settings_of_visit about own u.word in
    let by_queue : those_below count (λ tx. has_queue (s (count + tx)) rxq)
    ≡ those_below count (λ tx. has_queue (z (count + tx)) rxq) =
    those-same (λ tx. has_queue (s (count + tx)) rxq) (λ tx. has_queue (z (count + tx)) rxq) count
    (λ tx less. ap (λ w. has_queue w rxq) (same (count + tx) (omega arith))) in
    let by_cpu : those_below count (λ tx. has (mask (s tx)) cpu)
    ≡ those_below count (λ tx. has (mask (z tx)) cpu) =
    those-same (λ tx. has (mask (s tx)) cpu) (λ tx. has (mask (z tx)) cpu) count
    (λ tx less. ap (λ w. has (mask w) cpu) (same tx (omega arith))) in
    λ j. at_hash (first_filled (by_queue j) (by_cpu j) (those_below count (λ tx. true)))
    (unwrap_or hash 0) where
      same : (word : ℕ) → word < 2 * count → s word ≡ settings_of_visit about own u.word word
      same word less = law t p i word (s word) u explained at (knows word less)
