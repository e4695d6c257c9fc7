-- What keeps each tight set in order: every event, and every list of events.
use Rattle.std.proofs.Common.{ℕ, ◌+◌, ◌≤◌, ◌<◌, ◌≡◌, ◌≢◌, Bool, true, false, ◌||◌, List, [], ◌∷◌}
use Rattle.std.proofs.Common.{◌++◌, Option, Some, None, length, refl, ap, ◌∙◌, sym, arith, suc}
use Rattle.std.proofs.Common.{zero, inl, inr, get_or, set as set_list, take, drop, map}
use Rattle.std.proofs.Common.{append_assoc}
use Rattle.std.specs.Prelude.{◌==◌, slice_index}
use Rattle.std.specs.List.{filter, list_any}
use Rattle.std.proofs.lemmas.List.{take-append-le, take_more, take-append-drop, append-nil}
use Rattle.std.proofs.lemmas.List.{length-take-le, get_or-take}
use Rattle.std.proofs.Math.Bool.{or_assoc, or-false, or-true}
use Rattle.std.proofs.lemmas.List.Elements.{filter-append}
use Rattle.std.proofs.lemmas.List.Folds.{list_any-append}
use Rattle.std.proofs.lemmas.Bool.{cases_eq, cases_Bool, ne_eqb, eq-eqb, and_right}
use Rattle.steer_base.specs.Drops.{bucket_of, lane_drop_cause}
use Rattle.steer_base.specs.Orders.{was_dropped}
use Rattle.steer_base.specs.declared.put.DropCause.{DropCause}
use Rattle.steer_base.specs.declared.put.LaneDrop.{LaneDrop}
use Rattle.hop_model.specs.declared.event.HopEvent.{HopEvent}
use Rattle.hop_model.specs.declared.event.HopEvent.TheVariants as event
use Rattle.hop_model.specs.Hop.{Bare, HopState, accepted_at, fell_at, delivered_at, retired_at}
use Rattle.hop_model.specs.Hop.{pulled_at, out_at, arrivals_of, choices_of, placed_of, in_hand}
use Rattle.hop_model.specs.Hop.{next_out, lane_of, deliver_at, retire_at, put_one, arrived}
use Rattle.hop_model.specs.Hop.{with_bare}
use Rattle.hop_model.specs.Events.{happens, MayAsk, AllMayAsk, run}
use Rattle.hop_model.specs.Sound.{Sound}
use Rattle.hop_core.specs.Order.{is_kept, IsInOrder, OnlyAt, Tight, AllTight, Ordered}
use Rattle.hop_core.proofs.Lists.{Changed, Changed-set, filter-same}
use Rattle.hop_core.proofs.Gathered.{Added, Gathered-retire, Gathered-other, Gathered-put}
use Rattle.hop_core.proofs.Gathered.{Gathered-pass, Gathered-deliver, filter-no}
use Rattle.hop_core.proofs.Puts.{added_at}
use Rattle.hop_core.proofs.Cases.{Enabled, by_cases}
use Rattle.hop_core.proofs.ProducerSteps.{in_hand_absent}
use Rattle.hop_core.proofs.PutSteps.{put_as}
use Rattle.hop_core.proofs.LaneSteps.{retired_rises}
use Rattle.hop_core.proofs.AllSteps.{Sound-happens}
use Rattle.hop_core.proofs.Alone.{OnlyAt-from_class}

-- ---- who was dropped

or_last : (a b c : Bool) → ((a || (b || false)) || c) ≡ ((a || c) || b)
or_last true b c = refl
or_last false true true = refl
or_last false true false = refl
or_last false false true = refl
or_last false false false = refl

-- one more drop
dropped_more : (drops : List (List LaneDrop)) (c : ℕ) (r : LaneDrop) (x : ℕ) → c < length drops
    → list_any (λ ds. list_any (λ d. d.id == x) ds) (set_list drops c (get_or drops c [] ++ r
    ∷ [])) ≡ (list_any (λ ds. list_any (λ d. d.id == x) ds) drops || (r.id == x))
dropped_more [] c r x in' = absurd (omega arith)
dropped_more (ds ∷ dss) zero r x in' =
    rw (list_any-append (λ d. d.id == x) ds (r ∷ [])) (or_last (list_any (λ d. d.id == x) ds)
    (r.id == x) (list_any (λ ds. list_any (λ d. d.id == x) ds) dss))
dropped_more (ds ∷ dss) (suc c) r x in' =
    rw (dropped_more dss c r x (omega arith))
    (sym (or_assoc (list_any (λ d. d.id == x) ds)
    (list_any (λ ds. list_any (λ d. d.id == x) ds) dss) (r.id == x)))

not_in : (ds : List LaneDrop) (x : ℕ) → ((j : ℕ) → j < length (map (λ d. d.id) ds)
    → get_or (map (λ d. d.id) ds) j 0 ≢ x) → list_any (λ d. d.id == x) ds ≡ false
not_in [] x h = refl
not_in (d ∷ ds) x h =
    let i : list_any (λ d. d.id == x) ds ≡ false = not_in ds x (λ j in'. h (suc j) (omega arith)) in
    rw (ne_eqb d.id x (h 0 (omega arith)), i) refl

not_dropped : (drops : List (List LaneDrop)) (x : ℕ)
    → ((c j : ℕ) → j < length (map (λ d. d.id) (get_or drops c []))
    → get_or (map (λ d. d.id) (get_or drops c [])) j 0 ≢ x)
    → list_any (λ ds. list_any (λ d. d.id == x) ds) drops ≡ false
not_dropped [] x h = refl
not_dropped (ds ∷ dss) x h =
    rw (not_in ds x (λ j in'. h 0 j in'), not_dropped dss x (λ c j in'. h (suc c) j in')) refl

-- ---- the kept arrivals

kept_same : (set : ℕ → Bool) (old new : Bare) (x n : ℕ) (arrivals : List ℕ)
    → ((y : ℕ) → was_dropped new.drops y ≡ (was_dropped old.drops y || (x == y)))
    → ((j : ℕ) → j < length (take n arrivals) → x ≢ get_or (take n arrivals) j 0)
    → filter (is_kept set new) (take n arrivals) ≡ filter (is_kept set old) (take n arrivals)
kept_same set old new x n arrivals more apart =
    filter-same (is_kept set new) (is_kept set old) (take n arrivals)
    (λ j in'. let y : ℕ = get_or (take n arrivals) j 0 in rw (
      more y,
      ne_eqb x y (apart j in'),
      or-false (was_dropped old.drops y),
    ) refl)

-- the arrivals that were put, once the next is
put_more : (s : HopState) → Sound s → (p : ℕ) → placed_of s p < length (choices_of s p)
    → take (placed_of s p + 1) (arrivals_of s p) ≡ take (placed_of s p) (arrivals_of s p)
    ++ (in_hand s p).id ∷ []
put_more s h p more =
    let a = h.hands.arrived p in let b = h.hands.chosen p in
    rw (
      take_more (arrivals_of s p) (placed_of s p) 0 (omega arith),
      h.hands.of_arrivals p
          (placed_of s p) more,
    ) refl

-- the packet in hand stands at no other place of the arrivals
hand_apart : (s : HopState) → Sound s → (q : ℕ) → placed_of s q < length (choices_of s q)
    → (p n : ℕ) → n ≤ length (arrivals_of s p) → (p ≡ q → n ≤ placed_of s q)
    → (j : ℕ) → j < length (take n (arrivals_of s p)) → (in_hand s q).id ≢ get_or
    (take n (arrivals_of s p)) j 0
hand_apart s h q more p n le first j in' e =
    let l = length-take-le n (arrivals_of s p) le in
    let a = h.hands.arrived q in let b = h.hands.chosen q in
    let lt : j < n = omega arith in
    let f : get_or (take n (arrivals_of s p)) j 0 ≡ slice_index (arrivals_of s p) j =
    get_or-take n (arrivals_of s p) j 0 lt in
    let g = h.once p q j (placed_of s q) (omega arith) (omega arith) (sym f ∙ sym e
    ∙ h.hands.of_arrivals q (placed_of s q) more) in
    let le2 = first g.0 in
    omega (arith, g.1)

-- ---- a put

-- the packet in hand is dropped
Ordered-dropped : (set : ℕ → Bool) (p o q : ℕ) (s : HopState) (cause : DropCause)
    (bucket : Option ℕ) → Sound s → q < length s.arrivals
    → placed_of s q < length (choices_of s q) → Ordered set p o s → Ordered set p o
    (put_as s q (Some cause) bucket)
Ordered-dropped set p o q s cause bucket h in' more g =
    let c : ℕ = (in_hand s q).choice.lane in
    let x : ℕ = (in_hand s q).id in
    let w = h.wide in
    let lane : c < length s.bare.accepted = h.lanes q (placed_of s q) more in
    let t : HopState = put_as s q (Some cause) bucket in
    let new : Bare = t.bare in
    let r : LaneDrop = record {
      id = x;
      accepted = length (accepted_at s.bare c);
      pulled = pulled_at s.bare c;
      cause = cause;
    } in
    let a = h.hands.arrived p in let b = h.hands.chosen p in let d = h.hands.put p in
    let ch : Changed (placed_of s) (placed_of t) q (placed_of s q + 1) =
    Changed-set s.placed q (placed_of s q + 1) 0 (omega arith) in
    let fell : (y : ℕ) → was_dropped new.drops y ≡ (was_dropped s.bare.drops y || (x == y)) =
    λ y. dropped_more s.bare.drops c r y (omega arith) in
    record {
      mine = g.mine;
      lane = g.lane;
      gathered = elim (cases_eq p q) [
        | inl e ↦ (
            let n : placed_of t p ≡ placed_of s q + 1 = rw e ch.here in
            let same : filter (is_kept set new) (take (placed_of s q) (arrivals_of s p)) ≡ filter
            (is_kept set s.bare) (take (placed_of s q) (arrivals_of s p)) =
            kept_same set s.bare new x (placed_of s q) (arrivals_of s p) fell
            (hand_apart s h q more p (placed_of s q) (let f : placed_of s p ≡ placed_of s q = ap
            (placed_of s) e in omega arith) (λ f. omega arith)) in
            let out' : is_kept set new x ≡ false =
            rw (fell x, eq-eqb x x refl, or-true (was_dropped s.bare.drops x))
            (and_right (set x) false refl) in
            let cell : take (placed_of s q + 1) (arrivals_of s p) ≡ take (placed_of s q)
            (arrivals_of s p) ++ x ∷ [] = rw e (put_more s h q more) in
            rw (
              n,
              cell,
              filter-append (is_kept set new) (take (placed_of s q) (arrivals_of s p))
                  (x ∷ []),
              same,
              out',
              append-nil (filter (is_kept set s.bare)
                  (take (placed_of s q) (arrivals_of s p))),
            )
            (rw (ap (placed_of s) e) at g.gathered))
        | inr ne ↦ rw (
          ch.there p ne,
          kept_same set s.bare new x (placed_of s p)
              (arrivals_of s p) fell (hand_apart s h q more p (placed_of s p) (omega arith)
              (λ f. absurd (ne f))),
        ) g.gathered
      ];
    }

-- the packet in hand is accepted at the end of the lane's list
Ordered-accepted : (set : ℕ → Bool) (p o q : ℕ) (s : HopState) (bucket : Option ℕ) → Sound s
    → q < length s.arrivals
    → placed_of s q < length (choices_of s q) → (set (in_hand s q).id ≡ true → q ≡ p
    → OnlyAt set s.bare (in_hand s q).choice.lane)
    → Ordered set p o s → Ordered set p o (put_as s q None bucket)
Ordered-accepted set p o q s bucket h in' more alone g =
    let c : ℕ = (in_hand s q).choice.lane in
    let x : ℕ = (in_hand s q).id in
    let w = h.wide in
    let lane : c < length s.bare.accepted = h.lanes q (placed_of s q) more in
    let t : HopState = put_as s q None bucket in
    let new : Bare = t.bare in
    let ch : Changed (placed_of s) (placed_of t) q (placed_of s q + 1) =
    Changed-set s.placed q (placed_of s q + 1) 0 (omega arith) in
    let cha = Changed-set s.bare.accepted c (accepted_at s.bare c ++ x ∷ []) [] lane in
    let added : Added (accepted_at s.bare) (accepted_at new) c x =
    record { here = cha.here; there = cha.there } in
    let within : (d : ℕ) → (retired_at s.bare d ≤ delivered_at s.bare d)
    × (delivered_at s.bare d ≤ length (accepted_at s.bare d)) =
    λ d. (
      h.counts.retired_first d,
      let i = h.counts.delivered_first d in
          let j = h.counts.pulled_first d in omega arith,
    ) in
    elim (cases_Bool (set x)) [
      | inl member ↦ (
          let aq = h.hands.arrived q in let bq = h.hands.chosen q in
          let e : q ≡ p = g.mine q (placed_of s q) (omega arith)
          (rw (← h.hands.of_arrivals q (placed_of s q) more) member) in
          let n : placed_of t p ≡ placed_of s q + 1 = rw (sym e) ch.here in
          let cell : take (placed_of s q + 1) (arrivals_of s p) ≡ take (placed_of s q)
          (arrivals_of s p) ++ x ∷ [] = rw (sym e) (put_more s h q more) in
          let stays : was_dropped s.bare.drops x ≡ false = not_dropped s.bare.drops x
          (in_hand_absent s (fell_at s.bare) h h.falls q (placed_of s q) (omega arith) more) in
          let in_set : is_kept set s.bare x ≡ true = rw (member, stays) refl in
          record {
            mine = g.mine;
            lane = c;
            gathered = rw (
              n,
              cell,
              filter-append (is_kept set s.bare)
                  (take (placed_of s q) (arrivals_of s p)) (x ∷ []),
              in_set,
            )
                (Gathered-put set (accepted_at s.bare) (accepted_at new) (delivered_at s.bare)
                (retired_at s.bare) (out_at s.bare o) (filter (is_kept set s.bare)
                (take (placed_of s q) (arrivals_of s p))) g.lane c x added member within
                (alone member e)
                (rw (sym (ap (placed_of s) e)) at g.gathered));
          })
      | inr other ↦ (
          let out' : is_kept set s.bare x ≡ false = rw other refl in
          let same : filter (is_kept set s.bare) (take (placed_of t p) (arrivals_of s p)) ≡ filter
          (is_kept set s.bare) (take (placed_of s p) (arrivals_of s p)) = elim (cases_eq p q) [
            | inl e ↦ (
                let n : placed_of t p ≡ placed_of s p + 1 = rw (ch.here) at (ap (placed_of t) e)
                ∙ ap (λ q. placed_of s q + 1) (sym e) in
                let cell : take (placed_of s p + 1) (arrivals_of s p) ≡ take (placed_of s p)
                (arrivals_of s p) ++ x ∷ [] = rw e (put_more s h q more) in
                rw (
                  n,
                  cell,
                  filter-append (is_kept set s.bare)
                      (take (placed_of s p) (arrivals_of s p)) (x ∷ []),
                  out',
                )
                (append-nil (filter (is_kept set s.bare)
                (take (placed_of s p) (arrivals_of s p)))))
            | inr ne ↦ rw (ch.there p ne) refl
          ] in
          record {
            mine = g.mine;
            lane = g.lane;
            gathered = rw same (Gathered-other set (accepted_at s.bare) (accepted_at new)
                (delivered_at s.bare) (retired_at s.bare) (out_at s.bare o)
                (filter (is_kept set s.bare) (take (placed_of s p) (arrivals_of s p))) g.lane c x
                added other within g.gathered);
          })
    ]

Ordered-landed : (set : ℕ → Bool) (p o q : ℕ) (s : HopState) (cause : Option DropCause)
    (bucket : Option ℕ) → Sound s → q < length s.arrivals
    → placed_of s q < length (choices_of s q) → (set (in_hand s q).id ≡ true → q ≡ p
    → OnlyAt set s.bare (in_hand s q).choice.lane)
    → Ordered set p o s → Ordered set p o (put_as s q cause bucket)
Ordered-landed set p o q s None bucket h in' more alone g =
    Ordered-accepted set p o q s bucket h in' more alone g
Ordered-landed set p o q s (Some cause) bucket h in' more alone g =
    Ordered-dropped set p o q s cause bucket h in' more g

Ordered-put : (set : ℕ → Bool) (p o q : ℕ) (s : HopState) (hash : Option ℕ) → Sound s
    → q < length s.arrivals
    → placed_of s q < length (choices_of s q) → (set (in_hand s q).id ≡ true → q ≡ p
    → OnlyAt set s.bare (in_hand s q).choice.lane)
    → Ordered set p o s → Ordered set p o (put_one s q hash)
Ordered-put set p o q s hash h in' more alone g =
    Ordered-landed set p o q s (lane_drop_cause (lane_of s.fixed s.bare (in_hand s q).choice.lane)
    hash) (bucket_of hash) h in' more alone g

Ordered-arrive : (set : ℕ → Bool) (p o q x : ℕ) (s : HopState) → Sound s → q < length s.arrivals
    → (set x ≡ true → q ≡ p)
    → Ordered set p o s → Ordered set p o (arrived s q x)
Ordered-arrive set p o q x s h in' own g =
    let t : HopState = arrived s q x in
    let ch : Changed (arrivals_of s) (arrivals_of t) q (arrivals_of s q ++ x ∷ []) =
    Changed-set s.arrivals q (arrivals_of s q ++ x ∷ []) [] in' in
    let a = h.hands.arrived p in let b = h.hands.chosen p in let d = h.hands.put p in
    let same : take (placed_of s p) (arrivals_of t p) ≡ take (placed_of s p) (arrivals_of s p) =
    elim (cases_eq p q) [
      | inl e ↦ (let f : arrivals_of t p ≡ arrivals_of s p ++ x ∷ [] = rw e ch.here in
          rw f (take-append-le (placed_of s p) (arrivals_of s p) (x ∷ []) (omega arith)))
      | inr ne ↦ rw (ch.there p ne) refl
    ] in
    record {
      mine = λ r i ir m. elim (added_at (arrivals_of s) (arrivals_of t) q x
          (record { here = ch.here; there = ch.there }) r i ir) [
            | inl old ↦ g.mine r i old.0 (rw old.1 at m)
            | inr new ↦ new.0 ∙ own (rw new.1 at m)
          ];
      lane = g.lane;
      gathered = rw same g.gathered;
    }

Ordered-deliver : (set : ℕ → Bool) (p o c to : ℕ) (s : HopState) → Sound s
    → c < length s.bare.accepted → to < length s.bare.outs
    → delivered_at s.bare c < pulled_at s.bare c → (set (next_out s.bare c) ≡ true → to ≡ o)
    → Ordered set p o s → Ordered set p o (with_bare s (deliver_at s.bare c to))
Ordered-deliver set p o c to s h in' out' more own g =
    let x : ℕ = next_out s.bare c in
    let w = h.wide in
    let ch = Changed-set s.bare.delivered c (delivered_at s.bare c + 1) 0 (omega arith) in
    let cho = Changed-set s.bare.outs to (out_at s.bare to ++ x ∷ []) [] out' in
    let b = h.counts.pulled_first c in
    let kept : List ℕ = filter (is_kept set s.bare) (take (placed_of s p) (arrivals_of s p)) in
    elim (cases_Bool (set x)) [
      | inl member ↦ (
          let e : to ≡ o = own member in
          let f : out_at (deliver_at s.bare c to) o ≡ out_at s.bare o ++ x ∷ [] =
          rw (← e) cho.here in
          record {
            mine = g.mine;
            lane = g.lane;
            gathered = rw f (Gathered-deliver set (accepted_at s.bare) (delivered_at s.bare)
                (delivered_at (deliver_at s.bare c to)) (retired_at s.bare)
                (out_at s.bare o) kept g.lane c
                (omega arith) member ch.here (h.counts.retired_first c) g.gathered);
          })
      | inr other ↦ (
          let same : filter set (out_at (deliver_at s.bare c to) o) ≡ filter set (out_at s.bare o) =
          elim (cases_eq o to) [
            | inl e ↦ (
                let f : out_at (deliver_at s.bare c to) o ≡ out_at s.bare o ++ x ∷ [] =
                rw e cho.here in
                rw (f, filter-append set (out_at s.bare o) (x ∷ []), filter-no set x [] other)
                (append-nil (filter set (out_at s.bare o))))
            | inr ne ↦ rw (cho.there o ne) refl
          ] in
          record {
            mine = g.mine;
            lane = g.lane;
            gathered = Gathered-pass set (accepted_at s.bare) (delivered_at s.bare)
                (delivered_at (deliver_at s.bare c to)) (retired_at s.bare)
                (out_at s.bare o) kept g.lane c
                (omega arith) other ch.here ch.there (out_at (deliver_at s.bare c to) o) same
                g.gathered;
          })
    ]

Ordered-retire : (set : ℕ → Bool) (p o c : ℕ) (s : HopState) → Sound s → c < length s.bare.accepted
    → Ordered set p o s → Ordered set p o (with_bare s (retire_at s.bare c))
Ordered-retire set p o c s h in' g =
    let w = h.wide in
    record {
      mine = g.mine;
      lane = g.lane;
      gathered = Gathered-retire set (accepted_at s.bare) (delivered_at s.bare) (retired_at s.bare)
          (retired_at (retire_at s.bare c)) (out_at s.bare o)
          (filter (is_kept set s.bare) (take (placed_of s p) (arrivals_of s p))) g.lane
          (retired_rises s c (omega arith)) g.gathered;
    }

ordered-enabled : (set : ℕ → Bool) (p o : ℕ) (s : HopState) (e : HopEvent) → MayAsk s e
    → Tight set p o s e → Sound s → Ordered set p o s
    → Enabled (Ordered set p o) s e
ordered-enabled set p o s (event.Arrive q id) m t h g =
    Ordered-arrive set p o q id s h m.producer t g
ordered-enabled set p o s (event.Take q) m t h g = λ _ _. record {
  mine = g.mine;
  lane = g.lane;
  gathered = g.gathered;
}
ordered-enabled set p o s (event.Enter a) m t h g = λ _ _. record {
  mine = g.mine;
  lane = g.lane;
  gathered = g.gathered;
}
ordered-enabled set p o s (event.Leave a) m t h g = λ _ _. record {
  mine = g.mine;
  lane = g.lane;
  gathered = g.gathered;
}
ordered-enabled set p o s (event.Weigh q class want desired online) m t h g =
    λ _ _. record { mine = g.mine; lane = g.lane; gathered = g.gathered }
ordered-enabled set p o s (event.Put q hash) m t h g =
    λ inside more. Ordered-put set p o q s hash h m more (λ member own. elim (t more member) [
      | inl c ↦ rw own (OnlyAt-from_class set p s h g.mine (rw own at more)
          (rw own at member) c.0 c.1)
      | inr alone ↦ alone
    ]) g
ordered-enabled set p o s (event.Pull c) m t h g = λ _ _. record {
  mine = g.mine;
  lane = g.lane;
  gathered = g.gathered;
}
ordered-enabled set p o s (event.Deliver c to) m t h g =
    λ more. Ordered-deliver set p o c to s h m.lane m.out more (t more) g
ordered-enabled set p o s (event.Retire c) m t h g = λ _. Ordered-retire set p o c s h m g
ordered-enabled set p o s (event.Resize q count) m t h g = record {
  mine = g.mine;
  lane = g.lane;
  gathered = g.gathered;
}
ordered-enabled set p o s event.Close m t h g = λ _. record {
  mine = g.mine;
  lane = g.lane;
  gathered = g.gathered;
}
ordered-enabled set p o s event.Reopen m t h g = record {
  mine = g.mine;
  lane = g.lane;
  gathered = g.gathered;
}

pub Ordered-happens : (set : ℕ → Bool) (p o : ℕ) (s : HopState) (e : HopEvent) → MayAsk s e
    → Tight set p o s e → Sound s → Ordered set p o s → Ordered set p o (happens s e).0
Ordered-happens set p o s e m t h g = by_cases (Ordered set p o) s e g
    (ordered-enabled set p o s e m t h g)

pub Ordered-run : (set : ℕ → Bool) (p o : ℕ) (es : List HopEvent) (s : HopState) → AllMayAsk es s
    → AllTight set p o es s → Sound s → Ordered set p o s → Ordered set p o (run es s)
Ordered-run set p o [] s m t h g = g
Ordered-run set p o (e ∷ es) s m t h g =
    Ordered-run set p o es (happens s e).0 m.1 t.1 (Sound-happens s e m.0 h)
    (Ordered-happens set p o s e m.0 t.0 h g)

-- the law, from what is kept
pub InOrder-from : (set : ℕ → Bool) (p o : ℕ) (s : HopState) → Ordered set p o s
    → IsInOrder set p o s
InOrder-from set p o s g =
    let front : List ℕ = filter (is_kept set s.bare) (take (placed_of s p) (arrivals_of s p)) in
    let back : List ℕ = filter (is_kept set s.bare) (drop (placed_of s p) (arrivals_of s p)) in
    let waiting : List ℕ =
    filter set (drop (delivered_at s.bare g.lane) (accepted_at s.bare g.lane)) in
    let e : filter (is_kept set s.bare) (arrivals_of s p) ≡ front ++ back =
    sym (ap (filter (is_kept set s.bare)) (take-append-drop (placed_of s p) (arrivals_of s p)))
    ∙ filter-append (is_kept set s.bare) (take (placed_of s p) (arrivals_of s p))
    (drop (placed_of s p) (arrivals_of s p)) in
    (waiting ++ back, rw (e, g.gathered.in_order, append_assoc) refl)
