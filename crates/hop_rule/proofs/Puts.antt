-- Puts and positions, dropped puts and drops, deliveries and places.
use Rattle.steer_base.specs.declared.put.LaneDrop.{LaneDrop}
use Rattle.hop_rule.specs.Fronts.{Front}
use Rattle.hop_rule.specs.Lanes as lanes
use Rattle.hop_rule.specs.PutLaws.{IsDelivery, PutsRight, WasPut, WasDropped, GivesRight, WasGiven}
use Rattle.hop_rule.specs.PutLaws.{EachPutIsRight, EachAcceptedWasPut, EachDropWasPut}
use Rattle.hop_rule.specs.PutLaws.{PositionsRise, EachDeliveryIsRight, EachMemberWasGiven}
use Rattle.hop_rule.specs.PutLaws.{PlacesRise, OffersArePuts}
use Rattle.hop_rule.proofs.Names.{◌≡◌, ◌⊎◌, inl, inr, ℕ, zero, suc, ◌+◌, ◌-◌, ◌<◌, ◌≤◌, List, []}
use Rattle.hop_rule.proofs.Names.{◌∷◌, ◌++◌, length, drop, Option, Some, None, sym, refl, ap, ◌∙◌}
use Rattle.hop_rule.proofs.Names.{subst, arith, slice_get, bucket_of, lane_drop_cause, LaneLists}
use Rattle.hop_rule.proofs.Names.{DropCause, Put, after_put, put_by, StepBy, step_by, steps_of}
use Rattle.hop_rule.proofs.Names.{if_same, lane_at, lanes_of, IsLawful, out, delivered_from, past}
use Rattle.hop_rule.proofs.Names.{IsStep, OutList, IsPut, lane_then, BoardSizes, BoardStep, Lane}
use Rattle.hop_rule.proofs.Names.{Change, Nothing, Offered, Pulled, LaneStep, Freed, Given}
use Rattle.hop_rule.proofs.Boards.{lanes_past, step_lawful, put_now}
use Rattle.hop_rule.proofs.Cases.{lane_case, out_case, lane_part_case}
use Rattle.hop_rule.proofs.Deliveries.{facts, Waits}
use Rattle.hop_rule.proofs.Fronts.{front-get, get-pushed, lane_later, out_later}
use Rattle.hop_rule.proofs.Fronts.{count_later, accepted_later}
use Rattle.hop_rule.proofs.Lists.{none-some, some-is}
use Rattle.hop_rule.proofs.Lanes.{holds, out_holds}
use Rattle.hop_rule.proofs.Moments.{past-all, past-none, step-inside, along}
use Rattle.hop_rule.proofs.Owns.{lanes_own}

get-end : {A : Type 0} (xs : List A) (y x : A) (j : ℕ) → slice_get (xs ++ y ∷ []) j ≡ Some x
    → (slice_get xs j ≡ Some x) ⊎ ((length xs ≡ j) × (y ≡ x))
get-end [] y x zero e = inr (refl, some-is y x e)
get-end [] y x (suc j) e = none-some x e
get-end (z ∷ xs) y x zero e = inl e
get-end (z ∷ xs) y x (suc j) e = elim (get-end xs y x j e) [
  | inl a ↦ inl a
  | inr b ↦
      inr (ap suc b.0, b.1)
]

module _ (about : BoardSizes) (order : List (StepBy BoardStep)) (lawful : IsLawful about order)
  where
    abbrev Order : Type 0
    Order = List (StepBy BoardStep)

    pub top : past (length order) order ≡ order
    top = past-all order (length order) (omega arith)

    -- what a lane shows came with a step of the order
    pub by_steps : (Q : LaneLists → Type 0) (l : ℕ)
        → ((k p : ℕ) (c : Change) → IsStep order k p (Lane (Freed l c))
        → Q (lane_then about order k l) → Q (lanes.lane_changed c (lane_then about order k l)))
        → Q (lanes.lane about l []) → Q (lane_at about order l)
    by_steps Q l step none = subst (λ (z : Order). Q (lane_at about z l)) top
        (along (λ es. Q (lane_at about es l)) order 0 (length order) (omega arith)
        (λ k e from to is here. lane_part_case (λ ls. Q (lanes.lane about l ls)) e.by e.step
        (lanes_of (past k order))
        (λ s lane. lane_case Q l s (lane_then about order k l)
        (λ c frees. step k e.by c
        (is ∙ (λ i. step_by e.by ((lane ∙ ap Lane frees) i) ∷ past k order)) here) here) here)
        (subst (λ (z : Order). Q (lane_at about z l)) (sym (past-none order)) none))

    -- ---- accepted packets

    module _ (l j id : ℕ) where
      abbrev Shows : LaneLists → Type 0
      Shows y = slice_get y.accepted j ≡ Some id → WasPut about order l j id

      put_shows : (k p x : ℕ) (hash : Option ℕ) (answer : Put)
          → IsPut about order k p l x hash answer
          → Shows (lane_then about order k l)
          → (cause : Option DropCause) → lane_drop_cause (lane_then about order k l) hash ≡ cause
          → Shows (put_by cause (lane_then about order k l) x (bucket_of hash))
      put_shows k p x hash answer is here (Some cause) caused at = here at
      put_shows k p x hash answer is here None caused at =
          elim (get-end (lane_then about order k l).accepted x id j at) [
            | inl old ↦ here old
            | inr new ↦ record {
              moment = k;
              seat = p;
              hash = hash;
              answer = answer;
              is = subst (λ (z : ℕ). IsPut about order k p l z hash answer) new.1 is;
              found = new.0;
              cause = caused;
            }
          ]

      change_shows : (k p : ℕ) (c : Change) → IsStep order k p (Lane (Freed l c))
          → Shows (lane_then about order k l)
          → Shows (lanes.lane_changed c (lane_then about order k l))
      change_shows k p Nothing is here = here
      change_shows k p (Pulled x) is here = here
      change_shows k p (Offered x hash answer) is here = put_shows k p x hash answer is here
          (lane_drop_cause (lane_then about order k l) hash) refl

      pub was_put : slice_get (lane_at about order l).accepted j ≡ Some id
          → WasPut about order l j id
      was_put = by_steps Shows l change_shows (λ at. none-some id at)

    -- ---- dropped packets

    module _ (l j : ℕ) (d : LaneDrop) where
      abbrev ShowsDrop : LaneLists → Type 0
      ShowsDrop y = slice_get y.drops j ≡ Some d → WasDropped about order l j d

      put_drops : (k p x : ℕ) (hash : Option ℕ) (answer : Put)
          → IsPut about order k p l x hash answer
          → ShowsDrop (lane_then about order k l)
          → (cause : Option DropCause) → lane_drop_cause (lane_then about order k l) hash ≡ cause
          → ShowsDrop (put_by cause (lane_then about order k l) x (bucket_of hash))
      put_drops k p x hash answer is here None caused at = here at
      put_drops k p x hash answer is here (Some cause) caused at =
          let y : LaneLists = lane_then about order k l in
          let fell : LaneDrop = record {
            id = x;
            accepted = length y.accepted;
            pulled =
                y.pulled;
            cause = cause;
          } in
          elim (get-end y.drops fell d j at) [
            | inl old ↦ here old
            | inr new ↦ record {
              moment = k;
              seat = p;
              hash = hash;
              answer = answer;
              is = subst (λ (z : ℕ). IsPut about order k p l z hash answer)
                  (ap (λ (z : LaneDrop). z.id) new.1) is;
              found = new.0;
              accepted = ap (λ (z : LaneDrop). z.accepted) (sym new.1);
              pulled = ap (λ (z : LaneDrop). z.pulled) (sym new.1);
              cause = caused ∙ ap (λ (z : LaneDrop). Some z.cause) new.1;
            }
          ]

      change_drops : (k p : ℕ) (c : Change) → IsStep order k p (Lane (Freed l c))
          → ShowsDrop (lane_then about order k l)
          → ShowsDrop (lanes.lane_changed c (lane_then about order k l))
      change_drops k p Nothing is here = here
      change_drops k p (Pulled x) is here = here
      change_drops k p (Offered x hash answer) is here = put_drops k p x hash answer is here
          (lane_drop_cause (lane_then about order k l) hash) refl

      pub was_dropped : slice_get (lane_at about order l).drops j ≡ Some d
          → WasDropped about order l j d
      was_dropped = by_steps ShowsDrop l change_drops (λ at. none-some d at)

    -- ---- puts

    module _ (n q l id : ℕ) (hash : Option ℕ) (answer : Put)
        (is : IsPut about order n q l id hash answer) where
      abbrev step : BoardStep
      step = Lane (Freed l (Offered id hash answer))

      x : LaneLists
      x = (step_lawful about order n q step lawful is).1.0.1.0

      in_time : n < length order
      in_time = step-inside order n q step is

      pub puts_right : PutsRight about order n q l id hash answer
      puts_right =
          let may = (step_lawful about order n q step lawful is).1 in
          let y : LaneLists = may.0.1.0 in
          let same : lane_then about order n l ≡ y =
          (holds about (lanes_of (past n order)) (lanes_past about order n lawful) l q y
          may.0.1.1).1 in
          record {
            inside = may.1;
            holds = ap (lanes.holding l) (sym (lanes_own q (past n order)))
                ∙ (may.0.1.1 ∙ ap Some (sym same));
            id_fits = may.0.1.2.0;
            room = subst (λ (z : LaneLists). Rattle.backlog.specs.Puts.put_count z < about.room)
                (sym same) may.0.1.2.1;
            answers = may.0.1.2.2 ∙ ap (λ z. Rattle.backlog.specs.Puts.put_answer z hash)
                (sym same);
            stands = subst (λ (z : Order). Rattle.hop_rule.specs.Fronts.IsEarlier
                (after_put (lane_then about order n l) id hash) (lane_at about z l)) top
                (subst (λ (z : LaneLists). Rattle.hop_rule.specs.Fronts.IsEarlier z
                (lane_then about order (length order) l))
                (put_now about order n q l id hash answer is)
                (lane_later about order (suc n) (length order) l (omega (arith, in_time))));
          }

      -- an accepted put
      pub accepted_now : lane_drop_cause (lane_then about order n l) hash ≡ None
          → (lane_then about order (suc n) l).accepted ≡ (lane_then about order n l).accepted
          ++ id ∷
          []
      accepted_now none = ap (λ (y : LaneLists). y.accepted)
          (put_now about order n q l id hash answer is
          ∙ ap (λ c. put_by c (lane_then about order n l) id (bucket_of hash)) none)

      pub put_stands : (m : ℕ) → lane_drop_cause (lane_then about order n l) hash ≡ None → n < m
          → slice_get (lane_then about order m l).accepted
          (length (lane_then about order n l).accepted) ≡ Some id
      put_stands m none less = accepted_later about order (suc n) m l
          (length (lane_then about order n l).accepted) id (omega arith)
          (ap (λ z. slice_get z (length (lane_then about order n l).accepted)) (accepted_now none)
          ∙ get-pushed (lane_then about order n l).accepted id)

      pub put_counts : (m : ℕ) → lane_drop_cause (lane_then about order n l) hash ≡ None → n < m
          → length (lane_then about order n l).accepted < length
          (lane_then about order m l).accepted
      put_counts m none less =
          let now = ap length (accepted_now none) in let one =
          Rattle.std.proofs.Common.length-append
          (lane_then about order n l).accepted (id ∷ []) in
          let up = count_later about order (suc n) m l (omega arith) in omega arith

    -- ---- deliveries

    module _ (o j id : ℕ) where
      abbrev ShowsGift : List ℕ → Type 0
      ShowsGift xs = slice_get xs j ≡ Some id → WasGiven about order o j id

      out_then : (k p o from x place : ℕ) → IsDelivery about order k p o from x place
          → place ≡ length
          (out about (past k order) o) + 1
      out_then k p o from x place is =
          let may = (step_lawful about order k p (Lane (Given o from x place)) lawful is).1.0 in
          let same = (out_holds about (lanes_of (past k order))
          (lanes_past about order k lawful) o p
          may.2.0 may.2.1).1 in
          may.2.3 ∙ ap (λ (y : OutList). length y.items + 1) (sym same)

      gift_shows : (k p from x place : ℕ) → IsDelivery about order k p o from x place
          → ShowsGift (out about (past k order) o)
          → ShowsGift (out about (past k order) o ++ x ∷ [])
      gift_shows k p from x place is here at =
          elim (get-end (out about (past k order) o) x id j at) [
            | inl old ↦ here old
            | inr new ↦ (
                let n = new.0 in let p_is = out_then k p o from x place is in
                let place_is : place ≡ suc j = omega arith in
                record {
                  moment = k;
                  seat = p;
                  from = from;
                  is = subst (λ (z : ℕ × ℕ). IsDelivery about order k p o from z.0 z.1)
                      (λ v. (new.1 v, place_is v)) is;
                })
          ]

      pub was_given : slice_get (out about order o) j ≡ Some id → WasGiven about order o j id
      was_given = subst (λ (z : Order). ShowsGift (out about z o)) top
          (along (λ es. ShowsGift (out about es o)) order 0 (length order) (omega arith)
          (λ k e from to is here. lane_part_case (λ ls. ShowsGift (lanes.out o ls)) e.by e.step
          (lanes_of (past k order))
          (λ s lane. out_case ShowsGift o s (out about (past k order) o)
          (λ f x place gives. gift_shows k e.by f x place
          (is ∙ (λ i. step_by e.by ((lane ∙ ap Lane gives) i) ∷ past k order)) here) here) here)
          (subst (λ (z : Order). ShowsGift (out about z o)) (sym (past-none order))
          (λ at. none-some id at)))

    module _ (n q o from id place : ℕ) (is : IsDelivery about order n q o from id place) where
      given_now : out about (past (suc n) order) o ≡ out about (past n order) o ++ id ∷ []
      given_now = ap (λ (z : Order). out about z o) is
          ∙ if_same o o (out about (past n order) o ++ id ∷ []) (out about (past n order) o) refl

      pub place_is : place ≡ length (out about (past n order) o) + 1
      place_is = out_then o n id n q o from id place is

      pub stands_later : (m : ℕ) → n < m → slice_get (out about (past m order) o)
          (length (out about (past n order) o)) ≡ Some id
      stands_later m less =
          front-get (out about (past (suc n) order) o) (out about (past m order) o)
          (length (out about (past n order) o)) id
          (out_later about order (suc n) m o (omega arith))
          (ap (λ z. slice_get z (length (out about (past n order) o))) given_now
          ∙ get-pushed (out about (past n order) o) id)

      pub gives_right : GivesRight about order n q o from id place
      gives_right =
          let may = (step_lawful about order n q (Lane (Given o from id place)) lawful is).1.0 in
          let ls : List (StepBy LaneStep) = lanes_of (past n order) in
          let p_is = place_is in
          let in_time = step-inside order n q (Lane (Given o from id place)) is in
          let index : place - 1 ≡ length (out about (past n order) o) = omega arith in
          let was : lanes.phase from (steps_of (Rattle.hop_rule.specs.Sizes.puller about from) ls) ≡
          lanes.has_pulled id = ap (λ z. lanes.phase from (steps_of z ls)) may.2.4 ∙ may.2.5 in
          let waits : slice_get (lane_then about order n from).accepted
          (length (delivered_from from ls)) ≡
          Some id =
          subst (λ (z : lanes.Phase). Waits about (delivered_from from ls) z
          (lane_then about order n from).accepted) was
          (facts about ls (lanes_past about order n lawful) from).3 in
          record {
            by_puller = sym may.2.4;
            next = subst (λ (z : Order). slice_get (lane_at about z from).accepted
                (length (delivered_from from ls)) ≡ Some id) top
                (accepted_later about order n (length order) from
                (length (delivered_from from ls)) id
                (omega arith) waits);
            place_from_one = omega arith;
            stands = ap (slice_get (out about order o)) index
                ∙ subst (λ (z : Order). slice_get (out about z o)
                (length (out about (past n order) o)) ≡ Some id) top
                (stands_later (length order) in_time);
          }

-- ---- the laws

pub each_put_is_right : EachPutIsRight
each_put_is_right about order lawful n q l id hash answer is = puts_right about order lawful n q l
    id hash answer is

pub each_accepted_was_put : EachAcceptedWasPut
each_accepted_was_put about order lawful l j id at = was_put about order lawful l j id at

pub each_drop_was_put : EachDropWasPut
each_drop_was_put about order lawful l j d at = was_dropped about order lawful l j d at

pub positions_rise : PositionsRise
positions_rise about order lawful m n p q l x y hash other answer reply less is is' none =
    put_counts about order lawful m p l x hash answer is n none less

pub each_delivery_is_right : EachDeliveryIsRight
each_delivery_is_right about order lawful n q o from id place is = gives_right about order lawful n
    q o from id place is

pub each_member_was_given : EachMemberWasGiven
each_member_was_given about order lawful o j id at = was_given about order lawful o j id at

pub places_rise : PlacesRise
places_rise about order lawful m n p q o k l x y i j less is is' =
    let a = place_is about order lawful m p o k x i is in
    let b = place_is about order lawful n q o l y j is' in
    let stands = stands_later about order lawful m p o k x i is n less in
    let inside = get-length (out about (past n order) o) (length (out about (past m order) o)) x
    stands in omega arith
  where
    get-length : (xs : List ℕ) (i x : ℕ) → slice_get xs i ≡ Some x → i < length xs
    get-length [] i x e = none-some x e
    get-length (y ∷ ys) zero x e = omega arith
    get-length (y ∷ ys) (suc i) x e = let l = get-length ys i x e in omega arith

pub offers_are_puts : OffersArePuts
offers_are_puts about order lawful n q l id hash answer is =
    ap (λ (y : LaneLists). y.offers) (put_now about order n q l id hash answer is)
    ∙ by_cause (lane_drop_cause (lane_then about order n l) hash)
  where
    by_cause : (cause : Option DropCause)
        → (put_by cause (lane_then about order n l) id (bucket_of hash)).offers ≡
        (lane_then about order n l).offers ++ bucket_of hash ∷ []
    by_cause None = refl
    by_cause (Some cause) = refl
