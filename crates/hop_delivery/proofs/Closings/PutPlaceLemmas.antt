-- Puts are of turns, one for each packet, and their answers are places.
use Rattle.std.proofs.{Common.eq-eqb, Common.ne_eqb, lemmas.Option.get_or_from_slice_get}
use Rattle.std.{proofs.lemmas.Option.slice_get_within, specs.Option.option_map}
use Rattle.steer_base.specs.{Counters.number, Drops.bucket_of, Entries.place_in, Lanes.LaneLists}
use Rattle.steer_base.specs.declared.put.DropCause.{DropCause}
use Rattle.backlog.specs.Puts.{answer_by, put_by}
use Rattle.dev_flow_table.specs.Folds.{IsPutAt}
use Rattle.history.specs.Lists.{lane_at}
use Rattle.hop_rule.proofs.{Moments.past-next, Parts.from_moment}
use Rattle.hop_rule.specs.{Moments.moment_of, Owns.PutMade, Owns.put_in, Owns.put_made}
use Rattle.board_api.specs.Laws.Puts.{AcceptedWerePut, DropsWerePut, PutsStand}
use Rattle.board_api.specs.{Lists.IsFrontOf, OwnSteps.Has, OwnSteps.held_before, OwnSteps.put_step}
use Rattle.hop_delivery.proofs.Names.{◌≡◌, ◌≢◌, ℕ, zero, suc, ◌+◌, ◌-◌, List, [], ◌∷◌, ◌++◌, Option}
use Rattle.hop_delivery.proofs.Names.{Some, None, length, if◌then◌else◌, sym, refl, ap, ◌∙◌, subst}
use Rattle.hop_delivery.proofs.Names.{arith, slice_get, StepBy, steps_of, lane_drop_cause, Put}
use Rattle.hop_delivery.proofs.Names.{IsStep, nth_step, BoardSizes, BoardStep, none-some, some-is}
use Rattle.hop_delivery.proofs.Names.{nth-some, BoardLists, accepted_left, Execution, turns_of}
use Rattle.hop_delivery.proofs.Names.{Turn, turn_put}
use Rattle.hop_delivery.proofs.Orders.{AccountLemmas.place-get, AccountedLemmas.nth-all}
use Rattle.hop_delivery.proofs.Orders.TurnLemmas.{Places, turns_have_places}
use Rattle.hop_delivery.specs.Closings.PutPlaces.{AnswersArePlaces, AreTurnsOf, HasTurn}
use Rattle.hop_delivery.specs.Closings.PutPlaces.{PacketsStand, PutsAreOnce, TurnsPutOnce}

-- what a put step says
pub said : (l m id x : ℕ) (hash other : Option ℕ) (answer reply : Put)
    → put_step l id hash answer ≡ put_step m x other reply
    → put_made l id hash answer ≡ put_made m x other reply
said l m id x hash other answer reply same =
    some-is (put_made l id hash answer) (put_made m x other reply) (ap put_in same)

module _ (own : ℕ → List BoardStep) (t : Execution) (a : AreTurnsOf own t) where
  pub places : (q : ℕ) → Places (own q) (t.turns q)
  places q = turns_have_places (own q) (t.turns q) (a.explained q)

  -- the turn of a put
  pub record TurnOf (q k l id : ℕ) : Type 0 where
    pub producer : ℕ
    pub index : ℕ
    pub turn : Turn
    pub is : nth_step (turns_of t producer) index ≡ Some turn
    pub same_id : turn.chosen.id ≡ id
    pub same_lane : turn.chosen.choice.lane ≡ l
    pub seat : t.seat producer ≡ q
    pub step : (places q).put (moment_of producer (t.turns q) index) ≡ k

  pub turn_of : (q k l id : ℕ) (hash : Option ℕ) (answer : Put)
      → Has (own q) k (put_step l id hash answer) → TurnOf q k l id
  turn_of q k l id hash answer does =
      let f = (places q).all_puts k l id hash answer does in
      let e = nth-some (t.turns q) f.0 f.1 in
      let p : ℕ = e.0.by in
      let u : Turn = e.0.step in
      let seat : t.seat p ≡ q =
      nth-all (λ (z : StepBy Turn). t.seat z.by ≡ q) (t.turns q) f.0 e.0 (a.by_seat q) e.1 in
      let here : IsStep (t.turns q) f.0 p u = past-next (t.turns q) f.0 e.0 e.1 in
      let i = from_moment p (t.turns q) f.0 u here in
      let v = (places q).visits f.0 e.0 e.1 in
      let both : Some (turn_put u) ≡ Some (put_step l id hash answer) =
      sym v.puts ∙ (ap (nth_step (own q)) f.2 ∙ does) in
      let made = said u.chosen.choice.lane l u.chosen.id id u.hash hash u.answer answer
      (some-is (turn_put u) (put_step l id hash answer) both) in
      record {
        producer = p;
        index = i.0;
        turn = u;
        is = ap (λ z. nth_step (steps_of p (t.turns z)) i.0) seat ∙ i.1;
        same_id = ap (λ (m : PutMade). m.id) made;
        same_lane = ap (λ (m : PutMade). m.lane) made;
        seat = seat;
        step = ap (λ n. (places q).put n) i.2 ∙ f.2;
      }

  once : PutsAreOnce own
  once p q j k l m id hash other answer reply does did =
      let x = turn_of p j l id hash answer does in
      let y = turn_of q k m id other reply did in
      let at_x = a.arrived x.producer x.index x.turn x.is in
      let at_y = a.arrived y.producer y.index y.turn y.is in
      let same = a.once x.producer y.producer x.index y.index
      (slice_get_within (t.arrivals x.producer) x.index x.turn.chosen.id at_x)
      (slice_get_within (t.arrivals y.producer) y.index y.turn.chosen.id at_y)
      (get_or_from_slice_get (t.arrivals x.producer) x.index x.turn.chosen.id 0 at_x
      ∙ (x.same_id ∙ (sym y.same_id
      ∙ sym (get_or_from_slice_get (t.arrivals y.producer) y.index y.turn.chosen.id 0 at_y)))) in
      let seats : p ≡ q = sym x.seat ∙ (ap t.seat same.0 ∙ y.seat) in (
        seats,
        sym x.step
            ∙ ((λ i. (places (seats i)).put (moment_of (same.0 i) (t.turns (seats i)) (same.1 i)))
            ∙ y.step),
      )

pub turns_put_once : TurnsPutOnce
turns_put_once = once

-- ---- the place of a packet

place-first : (x n : ℕ) (xs : List ℕ) → slice_get xs n ≡ Some x
    → ((m : ℕ) → slice_get xs m ≡ Some x → m ≡ n) → place_in x xs ≡ Some (n + 1)
place-first x n [] at only = none-some x at
place-first x zero (y ∷ ys) at only = ap (λ b. if b then Some 1 else option_map suc (place_in x ys))
    (eq-eqb x y (sym (some-is y x at)))
place-first x (suc n) (y ∷ ys) at only =
    let ne : x ≢ y = λ e. (let z = only 0 (ap (λ k. Some k) (sym e)) in absurd (omega arith)) in
    let rest = place-first x n ys at (λ m here. (let z = only (suc m) here in omega arith)) in
    let next : suc (n + 1) ≡ suc n + 1 = omega arith in
    ap (λ b. if b then Some 1 else option_map suc (place_in x ys)) (ne_eqb x y ne)
    ∙ (ap (option_map suc) rest ∙ ap (λ k. Some k) next)

none-of : (o : Option ℕ) → ((n : ℕ) → o ≡ Some n → ⊥) → o ≡ None
none-of None no_one = refl
none-of (Some n) no_one = absurd (no_one n refl)

at-end : {A : Type 0} (xs : List A) (x : A) (more : List A)
    → slice_get ((xs ++ x ∷ []) ++ more) (length xs) ≡ Some x
at-end [] x more = refl
at-end (y ∷ xs) x more = at-end xs x more

pub answers_are_places : (about : BoardSizes) (own : ℕ → List BoardStep) (lists : BoardLists)
    → PutsStand about own lists → AcceptedWerePut about own lists → AnswersArePlaces about own lists
answers_are_places about own lists stand were once q k l id hash answer does =
    let s = stand q k l id hash answer does in
    let other : (n : ℕ) → slice_get (accepted_left lists l) n ≡ Some id
    → (length s.found.accepted ≡ n) × (lane_drop_cause s.found hash ≡ None) = λ n at. (
    let w = were l n id at in
    let same = once w.seat q w.step k l l id w.hash hash w.answer answer w.does does in
    let found : w.found ≡ s.found = some-is w.found s.found (sym w.finds
    ∙ ((λ i. held_before (own (same.0 i)) (same.1 i) l) ∙ s.finds)) in
    let steps : Some (put_step l id w.hash w.answer) ≡ Some (put_step l id hash answer) =
    sym w.does ∙ ((λ i. nth_step (own (same.0 i)) (same.1 i)) ∙ does) in
    let made = said l l id id w.hash hash w.answer answer
    (some-is (put_step l id w.hash w.answer) (put_step l id hash answer) steps) in (
      ap (λ (x : LaneLists). length x.accepted) (sym found) ∙ w.count,
      sym (λ i. lane_drop_cause (found i) ((made i).hash)) ∙ w.accepts,
    )) in
    subst (λ (r : Put). IsPutAt about.start (place_in id (accepted_left lists l)) (Some r))
    (sym s.answers)
    (by_cause (lane_drop_cause s.found hash) refl s.found other s.lane.start s.stands) where
      by_cause : (cause : Option DropCause) {c : Option DropCause} → c ≡ cause → (found : LaneLists)
          → ((n : ℕ) → slice_get (accepted_left lists l) n ≡ Some id
          → (length found.accepted ≡ n) × (c ≡ None)) → found.start ≡ about.start
          → IsFrontOf (put_by cause found id (bucket_of hash)) (lane_at lists.lanes l)
          → IsPutAt about.start (place_in id (accepted_left lists l)) (Some (answer_by cause found))
      by_cause None is found other start front = let n : ℕ = length found.accepted in (
        n + 1,
        place-first id n (accepted_left lists l) (ap (λ xs. slice_get xs n) front.accepted.1
            ∙ at-end found.accepted id front.accepted.0) (λ m at. sym (other m at).0),
        ap (λ z. number z (n + 1)) (sym start),
      )
      by_cause (Some cause) is found other start front =
          none-of (place_in id (accepted_left lists l)) (λ n at.
          none-some cause (sym (other (n - 1) (place-get id n (accepted_left lists l) at)).1 ∙ is))

-- what two steps that are one step say: the lane, the hash, and what was found
module _ (own : ℕ → List BoardStep) (once : PutsAreOnce own) (p q j k l m id : ℕ)
    (hash other : Option ℕ) (answer reply : Put) (a b : LaneLists)
    (does : Has (own p) j (put_step l id hash answer))
    (did : Has (own q) k (put_step m id other reply))
    (finds : held_before (own p) j l ≡ Some a) (found : held_before (own q) k m ≡ Some b) where
  one : (p ≡ q) × (j ≡ k)
  one = once p q j k l m id hash other answer reply does did

  made : put_made l id hash answer ≡ put_made m id other reply
  made = said l m id id hash other answer reply
      (some-is (put_step l id hash answer) (put_step m id other reply)
      (sym does ∙ ((λ i. nth_step (own (one.0 i)) (one.1 i)) ∙ did)))

  same_lane : l ≡ m
  same_lane = ap (λ (x : PutMade). x.lane) made

  same_hash : hash ≡ other
  same_hash = ap (λ (x : PutMade). x.hash) made

  same_found : a ≡ b
  same_found = some-is a b
      (sym finds ∙ ((λ i. held_before (own (one.0 i)) (one.1 i) (same_lane i)) ∙ found))

pub packets_stand : (about : BoardSizes) (own : ℕ → List BoardStep) (lists : BoardLists)
    → AcceptedWerePut about own lists → DropsWerePut about own lists → PacketsStand about own lists
packets_stand about own lists were fell t a =
    let once = turns_put_once own t a in
    record {
      accepted = λ l n id at.
          let w = were l n id at in has_turn w.seat w.step l id w.hash w.answer w.does;
      dropped = λ l n d at.
          let w = fell l n d at in has_turn w.seat w.step l d.id w.hash w.answer w.does;
      accepted_once = λ l m i j id at there.
          let w = were l i id at in
          let v = were m j id there in (
            same_lane own once w.seat v.seat w.step v.step l m id w.hash v.hash w.answer v.answer
                w.found v.found w.does v.does w.finds v.finds,
            sym w.count ∙ (ap (λ (x : LaneLists). length x.accepted)
                (same_found own once w.seat v.seat w.step v.step l m id w.hash v.hash w.answer
                v.answer w.found v.found w.does v.does w.finds v.finds) ∙ v.count),
          );
      dropped_once = λ l m i j d e at there same.
          let w = fell l i d at in
          let v = fell m j e there in
          let did : Has (own v.seat) v.step (put_step m d.id v.hash v.answer) =
          v.does ∙ ap (λ x. Some (put_step m x v.hash v.answer)) (sym same) in (
            same_lane own once w.seat v.seat w.step v.step l m d.id w.hash v.hash w.answer v.answer
                w.found v.found w.does did w.finds v.finds,
            sym w.count ∙ (ap (λ (x : LaneLists). length x.drops)
                (same_found own once w.seat v.seat w.step v.step l m d.id w.hash v.hash w.answer
                v.answer w.found v.found w.does did w.finds v.finds) ∙ v.count),
          );
      apart = λ l m i j d at there.
          let w = were l i d.id at in
          let v = fell m j d there in
          let f = same_found own once w.seat v.seat w.step v.step l m d.id w.hash v.hash w.answer
          v.answer w.found v.found w.does v.does w.finds v.finds in
          let h = same_hash own once w.seat v.seat w.step v.step l m d.id w.hash v.hash w.answer
          v.answer w.found v.found w.does v.does w.finds v.finds in
          none-some d.cause (sym w.accepts ∙ ((λ k. lane_drop_cause (f k) (h k)) ∙ v.cause));
    }
  where
    has_turn : (q k l id : ℕ) (hash : Option ℕ) (answer : Put)
        → Has (own q) k (put_step l id hash answer) → HasTurn t l id
    has_turn q k l id hash answer does =
        let u = turn_of own t a q k l id hash answer does in
        record {
          producer = u.producer;
          index = u.index;
          turn = u.turn;
          is = u.is;
          same_id = u.same_id;
          same_lane = u.same_lane;
        }
