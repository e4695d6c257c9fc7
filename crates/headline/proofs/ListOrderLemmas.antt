-- What one order of a hop shows in its lists.
use Rattle.std.proofs.Common.{◌≡◌, inl, inr, ℕ, suc, ◌<◌, ◌≤◌, length, ap, arith}
use Rattle.std.proofs.lemmas.Bool.{cases_eq, cases_lt}
use Rattle.std.proofs.lemmas.Option.{slice_get_within}
use Rattle.history.specs.Lists.{list_at}
use Rattle.headline.specs.HopOrders.{AcceptedAs, DeliveredAs, DroppedAs, HopLists, HopOrder}
use Rattle.headline.specs.HopOrders.{SawHead}
use Rattle.headline.specs.ListOrders.{HeadsFitPuts, OrdersShowInLists}
use Rattle.headline.specs.ListOrders.{OutsKeepLanes, OwnPutsAreInTurn}
use Rattle.steer_base.specs.declared.put.LaneDrop.{LaneDrop}

module _ (o : HopLists) (order : HopOrder o) where
  -- ---- puts

  accepted-within : (p k l n : ℕ) → AcceptedAs o p k l n → k < length (list_at o.choices p)
  accepted-within p k l n a = slice_get_within (list_at o.choices p) k a.chosen a.choice

  dropped-within : (p k l i : ℕ) (d : LaneDrop) → DroppedAs o p k l i d
      → k < length (list_at o.choices p)
  dropped-within p k l i d a = slice_get_within (list_at o.choices p) k a.chosen a.choice

  -- the moment of a later choice is no earlier
  put-later : (p j k : ℕ) → j ≤ k → k < length (list_at o.choices p)
      → order.put p j ≤ order.put p k
  put-later p j k le within =
      elim (cases_eq j k) [
        | inl is ↦ (let e = ap (order.put p) is in omega arith)
        | inr ne ↦ (let up = order.in_turn p j k (omega arith) within in omega arith)
      ]

  own-puts : OwnPutsAreInTurn o
  own-puts =
      record {
        accepted = λ p j k l m n less a b.
            (let x = (order.accepts p j l m a).after in
            let y = (order.accepts p k l n b).before in
            let up = order.in_turn p j k less (accepted-within p k l n b) in
            let more = (order.rise (suc (order.put p j)) (order.put p k)
            (omega arith)).accepted l in
            omega arith);
        before_drop = λ p j k l n i d less a b.
            (let x = (order.accepts p j l n a).after in
            let y = (order.drops p k l i d b).accepted in
            let up = order.in_turn p j k less (dropped-within p k l i d b) in
            let more = (order.rise (suc (order.put p j)) (order.put p k)
            (omega arith)).accepted l in
            omega arith);
        after_drop = λ p j k l n i d less a b.
            (let x = (order.drops p j l i d a).accepted in
            let y = (order.accepts p k l n b).before in
            let up = order.in_turn p j k less (accepted-within p k l n b) in
            let more = (order.rise (order.put p j) (order.put p k) (omega arith)).accepted l in
            omega arith);
        dropped = λ p j k l m n d e less a b.
            (let x = (order.drops p j l m d a).after in
            let y = (order.drops p k l n e b).before in
            let up = order.in_turn p j k less (dropped-within p k l n e b) in
            let more = (order.rise (suc (order.put p j)) (order.put p k)
            (omega arith)).dropped l in
            omega arith);
      }

  -- ---- deliveries

  -- of two deliveries to one out list the later one has the higher place
  places-rise : (s t out a b : ℕ) → s < t → (order.at (suc s)).delivered out ≡ suc a
      → (order.at t).delivered out ≡ b → a < b
  places-rise s t out a b less after before =
      let more = (order.rise (suc s) t (omega arith)).delivered out in omega arith

  outs : OutsKeepLanes o
  outs l m n out a b less x y =
      let f = order.deliveries l m out a x in
      let g = order.deliveries l n out b y in
      elim (cases_lt f.moment g.moment) [
        | inl before ↦ places-rise f.moment g.moment out a b before f.after g.before
        | inr after ↦
            (let more = (order.rise g.moment f.moment after).pulled l in
            let f0 = f.pulled in
            let g0 = g.pulled in
            absurd (omega arith))
      ]

  -- ---- heads

  passed : (p j k l count m to n out a b : ℕ) → j ≤ k → SawHead o p j l count → m < count
      → DeliveredAs o l m out a → AcceptedAs o p k to n → DeliveredAs o to n out b → a < b
  passed p j k l count m to n out a b le saw below x put y =
      let s = order.heads p j l count saw in
      let f = order.deliveries l m out a x in
      let g = order.deliveries to n out b y in
      let up = put-later p j k le (accepted-within p k to n put) in
      let here = s.before in
      elim (cases_lt f.moment s.look) [
        | inr late ↦
            (let more = (order.rise s.look f.moment late).retired l in
            let f0 = f.retired in
            let s0 = s.sees in
            absurd (omega arith))
        | inl early ↦
            elim (cases_lt (order.put p k) g.moment) [
              | inl after ↦
                  places-rise f.moment g.moment out a b (omega arith) f.after g.before
              | inr before ↦
                  (let more = (order.rise g.moment (order.put p k) before).pulled to in
                  let served = (order.served (order.put p k) to).pulled in
                  let p0 = (order.accepts p k to n put).before in
                  let g0 = g.pulled in
                  absurd (omega arith))
            ]
      ]

  heads : HeadsFitPuts o
  heads =
      record {
        accepted = λ p j k l count n le saw put.
            (let s = order.heads p j l count saw in
            let sees = s.sees in
            let here = s.before in
            let up = put-later p j k le (accepted-within p k l n put) in
            let more = (order.rise s.look (order.put p k) (omega arith)).retired l in
            let c = order.served (order.put p k) l in
            let c0 = c.retired in
            let c1 = c.pulled in
            let x = (order.accepts p k l n put).before in
            omega arith);
        dropped = λ p j k l count i d le saw put.
            (let s = order.heads p j l count saw in
            let sees = s.sees in
            let here = s.before in
            let up = put-later p j k le (dropped-within p k l i d put) in
            let more = (order.rise s.look (order.put p k) (omega arith)).retired l in
            let c = (order.served (order.put p k) l).retired in
            let x = (order.drops p k l i d put).pulled in
            omega arith);
        after_drop = λ p j k l count i d less put saw.
            (let s = order.heads p k l count saw in
            let sees = s.sees in
            let here = s.after j less in
            let more = (order.rise (order.put p j) s.look (omega arith)).pulled l in
            let c = (order.served s.look l).one in
            let x = (order.drops p j l i d put).pulled in
            omega arith);
        passed = passed;
      }

pub orders-show : OrdersShowInLists
orders-show o order =
    record { own_puts = own-puts o order; outs = outs o order; heads = heads o order }
