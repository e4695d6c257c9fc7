-- A hop in which nothing has happened.
use Rattle.std.proofs.Common.{ℕ, ◌+◌, ◌<◌, ◌≡◌, false, cond, List, [], length, refl, arith, suc}
use Rattle.std.proofs.Common.{zero, get_or, map, replicate}
use Rattle.std.specs.Prelude.{count_by}
use Rattle.std.proofs.Math.ListN.{length-replicate}
use Rattle.std.proofs.lemmas.List.Sums.{sum_by-cons}
use Rattle.steer_base.specs.declared.choice.Chosen.{Chosen}
use Rattle.steer_base.specs.declared.put.LaneDrop.{LaneDrop}
use Rattle.hop_model.specs.Hop.{HopState, arrivals_of, choices_of, accepted_at, fell_at, out_at}
use Rattle.hop_model.specs.Hop.{since_of}
use Rattle.hop_core.specs.Laws.{FreshIsOrdered, FreshIsSound, NewIsOrdered, NewIsSound}
use Rattle.hop_model.specs.Shape.{classes_for, fixed_of, fresh_hop}

pub at_new : {X : Type 0} (n i : ℕ) (x : X) → get_or (replicate n x) i x ≡ x
at_new zero i x = refl
at_new (suc n) zero x = refl
at_new (suc n) (suc i) x = at_new n i x

pub none_inside : (n : ℕ) → 0 ≡ count_by (λ b. b) (replicate n false)
none_inside zero = refl
none_inside (suc n) =
    let i = none_inside n in rw (sum_by-cons (λ b. cond b 1 0) false (replicate n false))
    (omega arith)

-- nothing stands in a list that is empty
nowhere : {P : Type 0} (i : ℕ) (xs : List ℕ) → xs ≡ [] → i < length xs → P
nowhere i xs e h = absurd (let f : i < length xs = h in let g : length xs ≡ 0 = rw e refl in
    omega arith)

no_choice : {P : Type 0} (i : ℕ) (xs : List Chosen) → xs ≡ [] → i < length xs → P
no_choice i xs e h = absurd (let g : length xs ≡ 0 = rw e refl in omega arith)

pub Sound-fresh : FreshIsSound
Sound-fresh fixed classes guests lanes outs small wide =
    let producers : ℕ = length classes in
    let s : HopState = fresh_hop fixed classes guests lanes outs in
    let a : (p : ℕ) → arrivals_of s p ≡ [] = λ p. at_new producers p [] in
    let c : (p : ℕ) → choices_of s p ≡ [] = λ p. at_new producers p [] in
    let t : (d : ℕ) → accepted_at s.bare d ≡ [] = λ d. at_new {X = List ℕ} lanes d [] in
    let f : (d : ℕ) → fell_at s.bare d ≡ [] =
    λ d. rw (at_new {X = List LaneDrop} lanes d []) refl in
    let u : (o : ℕ) → out_at s.bare o ≡ [] = λ o. at_new {X = List ℕ} outs o [] in
    record {
      small = record {
        below = λ p i h. nowhere i (arrivals_of s p) (a p) h;
        room = small;
        start = wide;
      };
      wide = record {
        taken = rw (length-replicate, length-replicate) refl;
        choices = rw (length-replicate, length-replicate) refl;
        placed = rw (length-replicate, length-replicate) refl;
        since = rw (length-replicate, length-replicate) refl;
        counts = rw length-replicate refl;
        visits = rw (length-replicate, length-replicate) (omega arith);
        offers = rw (length-replicate, length-replicate) refl;
        drops = rw (length-replicate, length-replicate) refl;
        pulled = rw (length-replicate, length-replicate) refl;
        delivered = rw (length-replicate, length-replicate) refl;
        retired = rw (length-replicate, length-replicate) refl;
      };
      hands = record {
        of_arrivals = λ p i h. no_choice i (choices_of s p) (c p) h;
        arrived = λ p. rw (at_new {X = ℕ} producers p 0) (omega arith);
        chosen = λ p. rw (c p, at_new {X = ℕ} producers p 0) (omega arith);
        put = λ p. rw (at_new {X = ℕ} producers p 0) (omega arith);
        one = λ p. rw (at_new {X = ℕ} producers p 0) (omega arith);
        past = λ p. rw (at_new {X = ℕ} producers p 0) (omega arith);
      };
      once = λ p q i j ip jq e. nowhere i (arrivals_of s p) (a p) ip;
      counts = record {
        retired_first = λ d. rw (at_new {X = ℕ} lanes d 0) (omega arith);
        delivered_first = λ d. rw (at_new {X = ℕ} lanes d 0) (omega arith);
        pulled_first = λ d. rw (at_new {X = ℕ} lanes d 0) (omega arith);
        one = λ d. rw (at_new {X = ℕ} lanes d 0) (omega arith);
      };
      puts = λ d j h. nowhere j (accepted_at s.bare d) (t d) h;
      falls = λ d j h. nowhere j (fell_at s.bare d) (f d) h;
      places = record {
        once = λ p q i j ip jq e. nowhere i (accepted_at s.bare p) (t p) ip;
        fell_once = λ p q i j ip jq e. nowhere i (fell_at s.bare p) (f p) ip;
        never_both = λ p q i j ip jq e. nowhere i (accepted_at s.bare p) (t p) ip;
        out_once = λ p q i j ip jq e. nowhere i (out_at s.bare p) (u p) ip;
        from = λ o j h. nowhere j (out_at s.bare o) (u o) h;
      };
      stands = λ p k. rw (c p, at_new {X = ℕ} producers p 0) (λ i d h. absurd (omega arith));
      past = λ p i n h. absurd (let e : since_of s p ≡ 0 = at_new {X = ℕ} producers p 0 in
          omega arith);
      lanes = λ p i h. no_choice i (choices_of s p) (c p) h;
      gate = record {
        inside = none_inside (producers + guests);
        shut = λ e. refl;
        weighed = λ p h. no_choice 0 (choices_of s p) (c p) (omega arith);
      };
    }

pub Sound-new : NewIsSound
Sound-new shape is =
    Sound-fresh (fixed_of shape) (map (classes_for shape.exact) shape.counts.items) shape.guests
    shape.lanes shape.outs is.room is.start

pub Ordered-fresh : FreshIsOrdered
Ordered-fresh fixed classes guests lanes outs set p o =
    let producers : ℕ = length classes in
    let s : HopState = fresh_hop fixed classes guests lanes outs in
    record {
      mine = λ q i h m. nowhere i (arrivals_of s q) (at_new producers q []) h;
      lane = 0;
      gathered = record {
        in_order = rw (
          at_new {X = List ℕ} producers p [],
          at_new {X = ℕ} producers p 0,
          at_new {X = List ℕ} outs o [],
          at_new {X = List ℕ} lanes 0 [],
          at_new {X = ℕ} lanes 0 0,
        )
            refl;
        nowhere_else = λ d ne. rw (at_new {X = List ℕ} lanes d [], at_new {X = ℕ} lanes d 0) refl;
      };
    }

pub Ordered-new : NewIsOrdered
Ordered-new shape set p o =
    Ordered-fresh (fixed_of shape) (map (classes_for shape.exact) shape.counts.items) shape.guests
    shape.lanes shape.outs set p o
