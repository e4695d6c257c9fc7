-- Delivery in order, from the premises.
use Rattle.std.proofs.{Common.◌||◌, Common.◌&&◌, lemmas.Bool.eqb-true, lemmas.Bool.not-true}
use Rattle.steer_base.specs.Orders.{was_dropped, InOrder}
use Rattle.steer_base.specs.declared.put.{DropCause.DropCause, LaneDrop.LaneDrop}
use Rattle.backlog.specs.Puts.{after_put, put_by}
use Rattle.hop_rule.proofs.Boards.{parts}
use Rattle.hop_rule.proofs.Deliveries.{Each, nth-each, ids_at, facts, stands, rises, same_lane}
use Rattle.hop_rule.proofs.{Fronts.front-get, Fronts.get-pushed, Heads.passed_since}
use Rattle.hop_rule.proofs.{Members.each_given, Members.out_given, Puts.puts_right, Puts.was_put}
use Rattle.hop_rule.{proofs.Puts.was_dropped as drop_was_put, specs.Boards.drops}
use Rattle.hop_rule.specs.{Boards.drops_at, Boards.lanes_of, Boards.out, Deliveries.Delivery}
use Rattle.hop_rule.specs.{Deliveries.delivery, Deliveries.delivered_from, PutLaws.lane_then}
use Rattle.hop_delivery.proofs.Names.{◌≡◌, inl, inr, ℕ, zero, suc, ◌-◌, ◌<◌, ◌==◌, Bool, true}
use Rattle.hop_delivery.proofs.Names.{false, not, List, [], ◌∷◌, ◌++◌, length, sym, refl, ap, ◌∙◌}
use Rattle.hop_delivery.proofs.Names.{subst, arith, Option, Some, None, slice_get, list_any}
use Rattle.hop_delivery.proofs.Names.{cases_Bool, true≢false, eq-eqb, lane_drop_cause, position}
use Rattle.hop_delivery.proofs.Names.{Chosen, Put, StepBy, IsLawful, accepted, nth_step, IsPut}
use Rattle.hop_delivery.proofs.Names.{FitSizes, BoardSizes, BoardStep, LaneStep, some-is, none-some}
use Rattle.hop_delivery.proofs.Names.{step-inside, Steering, IsSteering}
use Rattle.hop_delivery.proofs.Orders.AccountLemmas.{Account, IsAccount, At, chosen, lane_chosen}
use Rattle.hop_delivery.proofs.Orders.AccountLemmas.{place-get, put_is, once, at_put, put_at}
use Rattle.hop_delivery.proofs.Orders.AccountLemmas.{own_put, same_put, found_at, in_range}
use Rattle.hop_delivery.proofs.Orders.AccountLemmas.{rises as places_rise}
use Rattle.hop_delivery.proofs.Orders.AccountedLemmas.{account, is_account}
use Rattle.hop_delivery.proofs.Orders.FilterLemmas.{any-at, any-member, any-range, both, range-any}
use Rattle.hop_delivery.proofs.Orders.{FilterLemmas.prefix_of_parts, WalkLemmas.passed}
use Rattle.hop_delivery.specs.Orders.DeliveryLaw.{DeliversInOrder}
use Rattle.hop_rule.specs.Lanes as lanes

module _ (about : BoardSizes) (order : List (StepBy BoardStep)) (fit : FitSizes about)
    (lawful : IsLawful about order) (a : Account) (r : Steering) (steers : IsSteering about.lanes r)
    (good : IsAccount about order a r) (p f : ℕ) where
  abbrev c : ℕ → Chosen
  c i = chosen a p i

  abbrev arrived : List ℕ
  arrived = a.arrivals p

  abbrev ls : List (StepBy LaneStep)
  ls = lanes_of order

  abbrev came : ℕ → Bool
  came x = list_any (λ y. y == x) arrived && (r.flow x == f)

  abbrev fell : ℕ → Bool
  fell x = was_dropped (drops about order) x

  abbrev kept : ℕ → Bool
  kept x = came x && not (fell x)

  abbrev IsAt : ℕ → ℕ → Type 0
  IsAt i n = At about order a r p i n

  lawful_lanes : lanes.AreLawful about ls
  lawful_lanes = (parts about order lawful).0

  came-is : (x : ℕ) → came x ≡ true → (i : ℕ) × (slice_get arrived i ≡ Some x) × (r.flow x ≡ f)
  came-is x e =
      let b = both (list_any (λ y. y == x) arrived) (r.flow x == f) e in
      let m = any-at (λ y. y == x) arrived b.0 in
      (m.0, m.2 ∙ ap Some (eqb-true m.1 x m.3), eqb-true (r.flow x) f b.1)

  kept-is : (x : ℕ) → kept x ≡ true → (came x ≡ true) × (fell x ≡ false)
  kept-is x e = let b = both (came x) (not (fell x)) e in (b.0, not-true (fell x) b.1)

  -- ---- delivered packets

  -- a packet that came from the producer and was delivered
  record Delivered (q k x : ℕ) : Type 0 where
    index : ℕ
    placed : index < a.placed q
    same : (chosen a q index).id ≡ x
    count : ℕ
    at : At about order a r q index (suc count)
    nth_is : nth_step (delivered_from (lane_chosen a q index) ls) count ≡ Some
        (delivery (r.to f) x (suc k))

  of_producer : (q i j x : ℕ) → j < a.placed q → slice_get arrived i ≡ Some x
      → (chosen a q j).id ≡ x → (p ≡ q) × (i ≡ j)
  of_producer q i j x jq at same = good.once p q i j x at (good.arrived q j jq ∙ ap Some same)

  delivered : (k x : ℕ) → slice_get (out about order (r.to f)) k ≡ Some x → came x ≡ true
      → Delivered p k x
  delivered k x at came_ =
      let g = out_given about (r.to f) k x ls lawful_lanes at in
      let id = ids_at about (delivered_from g.lane ls) (accepted about order g.lane)
      (facts about ls lawful_lanes g.lane).2 g.index (delivery (r.to f) x (suc k)) g.at in
      let w = was_put about order lawful g.lane g.index x id in
      let u = put_is about order lawful a r good w.moment w.seat g.lane x w.hash w.answer w.is in
      let home = came-is x came_ in
      let mine = of_producer u.producer home.0 u.index x u.placed home.1 u.same_id in
      let is : IsPut about order (a.put u.producer u.index) w.seat
      (lane_chosen a u.producer u.index) (chosen a u.producer u.index).id w.hash w.answer =
      subst (λ (z : ℕ × (ℕ × ℕ)). IsPut about order z.0 w.seat z.1.0 z.1.1 w.hash w.answer)
      (λ j. (sym u.moment j, (sym u.same_lane j, sym u.same_id j))) w.is in
      let cause : lane_drop_cause
      (lane_then about order (a.put u.producer u.index) (lane_chosen a u.producer u.index))
      w.hash ≡ None =
      (λ j. lane_drop_cause (lane_then about order (u.moment j) (u.same_lane j)) w.hash)
      ∙ w.cause in
      let there = put_at about order lawful a r good u.producer u.index w.seat w.hash w.answer
      u.placed is cause in
      let found : found_at about order lawful a r good u.producer u.index ≡ g.index =
      (λ j. length (lane_then about order (u.moment j) (u.same_lane j)).accepted) ∙ w.found in
      let whole : Delivered u.producer k x = record {
        index = u.index;
        placed = u.placed;
        same = u.same_id;
        count = g.index;
        at = subst (λ (z : ℕ). At about order a r u.producer u.index (suc z)) found there;
        nth_is = ap (λ z. nth_step (delivered_from z ls) g.index) u.same_lane ∙ g.at;
      } in
      subst (λ (q : ℕ). Delivered q k x) (sym mine.0) whole

  -- ---- dropped packets

  -- an accepted packet did not fall
  not-fell : (i n : ℕ) → i < a.placed p → IsAt i n → fell (c i).id ≡ false
  not-fell i n ip at = elim (cases_Bool (fell (c i).id)) [
    | inr e ↦ e
    | inl e ↦ (
        let x : ℕ = (c i).id in
        let l = any-range (λ (xs : List LaneDrop). list_any (λ (d : LaneDrop). d.id == x) xs)
        (λ l. drops_at about order l) 0 about.lanes e in
        let m = any-at (λ (d : LaneDrop). d.id == x) (drops_at about order l.0) l.3 in
        let w = drop_was_put about order lawful l.0 m.0 m.1 m.2 in
        let w_is : IsPut about order w.moment w.seat l.0 x w.hash w.answer =
        subst (λ (z : ℕ). IsPut about order w.moment w.seat l.0 z w.hash w.answer)
        (eqb-true m.1.id x m.3) w.is in
        let own = own_put about order lawful a r good p i w.moment w.seat l.0 w.hash w.answer ip
        w_is in
        let b = at_put about order lawful a r good p i n ip at in
        let b_is : IsPut about order w.moment b.seat (lane_chosen a p i) x b.hash b.answer =
        subst (λ (z : ℕ). IsPut about order z b.seat (lane_chosen a p i) x b.hash b.answer)
        own.0 b.is in
        let hashes : b.hash ≡ w.hash =
        (same_put about order w.moment b.seat w.seat (lane_chosen a p i) l.0 x x b.hash w.hash
        b.answer w.answer b_is w_is).2 in
        none-some m.1.cause (sym b.cause
        ∙ ((λ j. lane_drop_cause (lane_then about order (own.0 j) (own.1 j)) (hashes j))
        ∙ w.cause)))
  ]

  -- a put that a lane dropped for a cause is among its drops
  put_fell : (n q l id : ℕ) (hash : Option ℕ) (answer : Put) (cause : DropCause)
      → IsPut about order n q l id hash answer → lane_drop_cause (lane_then about order n l) hash ≡
      Some cause → list_any (λ (d : LaneDrop). d.id == id) (drops_at about order l) ≡ true
  put_fell n q l id hash answer cause is caused =
      let stands = (puts_right about order lawful n q l id hash answer is).stands in
      let x = lane_then about order n l in
      let d : LaneDrop = record {
        id = id;
        accepted = length x.accepted;
        pulled = x.pulled;
        cause = cause;
      } in
      let here : (after_put x id hash).drops ≡ x.drops ++ d ∷ [] =
      ap (λ z. (put_by z x id (Rattle.steer_base.specs.Drops.bucket_of hash)).drops) caused in
      let at : slice_get (after_put x id hash).drops (length x.drops) ≡ Some d =
      ap (λ z. slice_get z (length x.drops)) here ∙ get-pushed x.drops d in
      any-member (λ (d : LaneDrop). d.id == id) (drops_at about order l) (length x.drops) d
      (front-get (after_put x id hash).drops (drops_at about order l) (length x.drops) d
      stands.drops at) (eq-eqb id id refl)

  -- a put packet that did not fall was accepted
  accepted_or : (i : ℕ) → i < a.placed p → fell (c i).id ≡ false → (n : ℕ) × IsAt i (suc n)
  accepted_or i ip kept_ = let v = good.visits p i ip in by_cause v.hash v.answer v.puts
      (lane_drop_cause (lane_then about order (a.put p i) (lane_chosen a p i)) v.hash) refl where
        by_cause : (hash : Option ℕ) (answer : Put) → IsPut about order (a.put p i) (a.seat p)
            (lane_chosen a p i) (c i).id hash answer → (cause : Option DropCause) → lane_drop_cause
            (lane_then about order (a.put p i) (lane_chosen a p i)) hash ≡ cause → (n : ℕ)
            × IsAt i (suc n)
        by_cause hash answer is None e = (
          found_at about order lawful a r good p i,
          put_at about order lawful a r good p i (a.seat p) hash answer ip is e,
        )
        by_cause hash answer is (Some cause) e =
            let l : ℕ = lane_chosen a p i in
            let there = put_fell (a.put p i) (a.seat p) l (c i).id hash answer cause is e in
            let inside = in_range about order lawful a r good p i ip in
            let all =
            range-any (λ (xs : List LaneDrop). list_any (λ (d : LaneDrop). d.id == (c i).id) xs)
            (λ l. drops_at about order l) 0 about.lanes l (omega arith) (omega arith) there in
            absurd (true≢false (sym all ∙ kept_))

  -- ---- pairs

  given_to : (l : ℕ) → Each about (λ (g : Delivery). g.to ≡ r.to (r.flow g.id))
      (delivered_from l ls)
  given_to l = each_given about l (λ (g : Delivery). g.to ≡ r.to (r.flow g.id)) order
      (λ n q o id place is. good.given n q o l id place is)

  -- the delivery of an accepted packet of the flow stands in the flow's out lane
  in_out_lane : (i n k : ℕ) (g : Delivery) → IsAt i (suc n) → r.flow (c i).id ≡ f
      → nth_step (delivered_from (lane_chosen a p i) ls) n ≡ Some g
      → (g.to ≡ r.to f → g.place < suc k)
      → (l : ℕ) × (l < k) × (slice_get (out about order (r.to f)) l ≡ Some (c i).id)
  in_out_lane i n k g at flow there low =
      let l : ℕ = lane_chosen a p i in
      let id = ids_at about (delivered_from l ls) (accepted about order l)
      (facts about ls lawful_lanes l).2 n g there in
      let mine : slice_get (accepted about order l) n ≡ Some (c i).id =
      (let k : n ≡ suc n - 1 = omega arith in ap (slice_get (accepted about order l)) k
      ∙ place-get (c i).id (suc n) (accepted about order l) at) in
      let id_is : g.id ≡ (c i).id = some-is g.id (c i).id (sym id ∙ mine) in
      let to_is : g.to ≡ r.to f = nth-each about (λ (d : Delivery). d.to ≡ r.to (r.flow d.id))
      (delivered_from l ls) (given_to l) n g there ∙ ap r.to (ap r.flow id_is ∙ flow) in
      let lower = low to_is in
      let s = nth-each about (λ (d : Delivery). (0 < d.place)
      × (slice_get (lanes.out d.to ls) (d.place - 1) ≡ Some d.id)) (delivered_from l ls)
      (stands about ls lawful_lanes l) n g there in
      let pos = s.0 in (
        g.place - 1,
        omega arith,
        ap (λ z. slice_get (lanes.out z ls) (g.place - 1)) (sym to_is) ∙ (s.1 ∙ ap Some id_is),
      )

  -- an earlier packet of the flow that was accepted stands in the out lane before a later one
  pair : (i j n m k : ℕ) → i < j → j < a.placed p → IsAt i (suc n) → IsAt j (suc m)
      → r.flow (c i).id ≡ f → r.flow (c j).id ≡ f
      → nth_step (delivered_from (lane_chosen a p j) ls) m ≡ Some (delivery (r.to f) (c j).id
      (suc k)) → (l : ℕ) × (l < k) × (slice_get (out about order (r.to f)) l ≡ Some (c i).id)
  pair i j n m k less jp at at' flow flow' there =
      let g : Delivery = delivery (r.to f) (c j).id (suc k) in
      elim (passed about order fit lawful a r steers good p i j (suc n) less jp at
      (flow ∙ sym flow')) [
        | inl gone ↦ (
            let b = at_put about order lawful a r good p j (suc m) jp at' in
            let found = b.found in
            let inside = step-inside order (a.put p j) b.seat _ b.is in
            let s = passed_since about order lawful (a.put p j) (lane_chosen a p i) n (omega arith)
            (omega arith) (lane_chosen a p j) m g (omega arith) there in
            in_out_lane i n k s.0 at flow s.1 s.2)
        | inr same ↦ (
            let lt = places_rise about order lawful a r good p i j (suc n) (suc m) less jp same at
            at' in
            let s = same_lane about (delivered_from (lane_chosen a p j) ls)
            (rises about ls lawful_lanes (lane_chosen a p j)) n m g (omega arith) there in
            in_out_lane i n k s.0 at flow (ap (λ z. nth_step (delivered_from z ls) n) same
            ∙ s.1) s.2)
      ]

  -- ---- the law

  came-of : (i x : ℕ) → slice_get arrived i ≡ Some x → r.flow x ≡ f → came x ≡ true
  came-of i x at flow = rw (
    any-member (λ y. y == x) arrived i x at (eq-eqb x x refl),
    eq-eqb (r.flow x) f flow,
  ) refl

  pub in_order : InOrder came arrived (drops about order) (out about order (r.to f))
  in_order = prefix_of_parts came kept arrived (out about order (r.to f))
      (λ i j x at at'. (good.once p p i j x at at').1) (λ k l x came_ at at'.
      let u = delivered k x at came_ in let v = delivered l x at' came_ in
      let same = (once about order lawful a r good p p u.index v.index u.placed v.placed
      (u.same ∙ sym v.same)).1 in
      let counts : suc u.count ≡ suc v.count = some-is (suc u.count) (suc v.count)
      (sym u.at ∙ (ap (λ z. position (accepted about order) (c z)) same ∙ v.at)) in
      let n : u.count ≡ v.count = omega arith in
      let d : delivery (r.to f) x (suc k) ≡ delivery (r.to f) x (suc l) = some-is _ _
      (sym u.nth_is ∙ ((λ j. nth_step (delivered_from (lane_chosen a p (same j)) ls) (n j))
      ∙ v.nth_is)) in
      let pl : suc k ≡ suc l = ap (λ (g : Delivery). g.place) d in omega arith) (λ k x at came_.
      let d = delivered k x at came_ in (
        d.index,
        good.arrived p d.index d.placed ∙ ap Some d.same,
        rw (came_, ap fell (sym d.same) ∙ not-fell d.index (suc d.count) d.placed d.at) refl,
      ))
      (λ i j k x y less at kept_ at' kept' given_.
      let came_x = (kept-is x kept_).0 in
      let d = delivered k y given_ (kept-is y kept').0 in
      let j_is = (of_producer p j d.index y d.placed at' d.same).1 in
      let ip : i < a.placed p = (let b = d.placed in omega arith) in
      let id : (c i).id ≡ x = some-is (c i).id x (sym (good.arrived p i ip) ∙ at) in
      let n = accepted_or i ip (ap fell id ∙ (kept-is x kept_).1) in
      let flow_x : r.flow (c i).id ≡ f = ap r.flow id ∙ (came-is x came_x).2 in
      let flow_y : r.flow (c d.index).id ≡ f = ap r.flow d.same ∙ (came-is y (kept-is y kept').0).2
      in
      let s = pair i d.index n.0 d.count k (omega arith) d.placed n.1 d.at flow_x flow_y
      (d.nth_is ∙ ap (λ z. Some (delivery (r.to f) z (suc k))) (sym d.same)) in
      (s.0, s.1, s.2 ∙ ap Some id, came_x))

pub delivers_in_order : DeliversInOrder
delivers_in_order about order t r fit lawful steers good p f =
    in_order about order fit lawful (account about order t r fit lawful good) r steers
    (is_account about order t r fit lawful good) p f
