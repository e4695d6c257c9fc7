-- The laws of puts, by own steps.
use Rattle.steer_base.specs.Sets.{has}
use Rattle.steer_base.specs.declared.put.Put.{Put}
use Rattle.history.specs.Lists.{lane_at as left_at}
use Rattle.hop_rule.specs.Boards.{lane_steps}
use Rattle.hop_rule.specs.Fronts.{IsEarlier}
use Rattle.hop_rule.specs.Lanes as lanes
use Rattle.hop_rule.specs.PutLaws as put
use Rattle.hop_rule.specs.declared.step.Change.{Change}
use Rattle.hop_rule.specs.declared.step.LaneStep.{LaneStep}
use Rattle.hop_rule.proofs.Boards.{put_now}
use Rattle.hop_rule.proofs.Cases.{lane_case}
use Rattle.hop_rule.proofs.Fronts.{lane_later}
use Rattle.hop_rule.proofs.Puts.{each_put_is_right, each_accepted_was_put, each_drop_was_put}
use Rattle.board_api.specs.Lists.{IsFrontOf, IsLaneOf}
use Rattle.board_api.specs.OwnSteps.{held_before}
use Rattle.board_api.specs.Laws.Puts.{AcceptedWerePut, DropsWerePut, PutStands, PutsKeepOrder}
use Rattle.board_api.specs.Laws.Puts.{PutsStand, PutsTakeTurns, WasPut}
use Rattle.board_api.proofs.Names.{◌≡◌, inl, inr, ℕ, suc, ◌<◌, List, [], ◌∷◌, length, Option, Some}
use Rattle.board_api.proofs.Names.{None, sym, refl, ap, ◌∙◌, subst, arith, cases_eq, cases_lt}
use Rattle.board_api.proofs.Names.{bucket_of, lane_drop_cause, LaneLists, DropCause, after_put}
use Rattle.board_api.proofs.Names.{put_by, StepBy, IsLawful, lane_at, lanes_of, past, BoardSizes}
use Rattle.board_api.proofs.Names.{BoardStep, Nothing, Offered, Pulled, step_lawful, some-is}
use Rattle.board_api.proofs.Names.{lists_of, Has, put_step, BoardLists}
use Rattle.board_api.proofs.Left.{accepted_left, drop_left, lane_is}
use Rattle.board_api.proofs.OwnTimes.{moments, own, same_step, when}

-- ---- lanes keep their limits

record Shape (about : BoardSizes) (l : ℕ) (x : LaneLists) : Type 0 where
  limit : x.limit ≡ about.limit
  room : x.room ≡ about.room
  start : x.start ≡ about.start
  limited : x.limited ≡ has about.limited l

put_shape : (about : BoardSizes) (l id : ℕ) (hash : Option ℕ) (x : LaneLists)
    (cause : Option DropCause) → Shape about l x → Shape about l
    (put_by cause x id (bucket_of hash))
put_shape about l id hash x None t =
    record { limit = t.limit; room = t.room; start = t.start; limited = t.limited }
put_shape about l id hash x (Some cause) t =
    record { limit = t.limit; room = t.room; start = t.start; limited = t.limited }

change_shape : (about : BoardSizes) (l : ℕ) (c : Change) (x : LaneLists) → Shape about l x
    → Shape about l (lanes.lane_changed c x)
change_shape about l Nothing x t = t
change_shape about l (Offered id hash answer) x t =
    put_shape about l id hash x (lane_drop_cause x hash) t
change_shape about l (Pulled id) x t =
    record { limit = t.limit; room = t.room; start = t.start; limited = t.limited }

shapes : (about : BoardSizes) (l : ℕ) (es : List (StepBy LaneStep))
    → Shape about l (lanes.lane about l es)
shapes about l [] = record { limit = refl; room = refl; start = refl; limited = refl }
shapes about l (e ∷ es) =
    lane_case (Shape about l) l e.step (lanes.lane about l es)
    (λ c _. change_shape about l c (lanes.lane about l es) (shapes about l es))
    (shapes about l es)

pub lane_of : (about : BoardSizes) (order : List (StepBy BoardStep)) (l : ℕ) → l < about.lanes
    → IsLaneOf about l (lane_at about order l)
lane_of about order l within =
    let s = shapes about l (lanes_of order) in
    record {
      within = within;
      limit = s.limit;
      room = s.room;
      start = s.start;
      limited = s.limited;
    }

-- what an earlier lane of an order is to the lists that the order leaves
pub front_of : (about : BoardSizes) (order : List (StepBy BoardStep)) (l : ℕ) (x : LaneLists)
    → l < about.lanes → IsEarlier x (lane_at about order l)
    → IsFrontOf x (left_at (lists_of about order).lanes l)
front_of about order l x within t =
    subst (IsFrontOf x) (sym (lane_is about order l within))
    (record { accepted = t.accepted; drops = t.drops; pulled = t.pulled })

-- ---- own puts

module _ (about : BoardSizes) (order : List (StepBy BoardStep))
    (lawful : IsLawful about order) where
  abbrev lists : BoardLists
  lists = lists_of about order

  module _ (q k l id : ℕ) (hash : Option ℕ) (answer : Put)
      (does : Has (own order q) k (put_step l id hash answer)) where
    abbrev then_ : LaneLists
    then_ = put.lane_then about order (when order q k) l

    pub is_put : put.IsPut about order (when order q k) q l id hash answer
    is_put = (moments order q).moment k (put_step l id hash answer) does

    right : put.PutsRight about order (when order q k) q l id hash answer
    right = each_put_is_right about order lawful (when order q k) q l id hash answer is_put

    within : l < about.lanes
    within =
        (step_lawful about order (when order q k) q (put_step l id hash answer) lawful is_put).1.0.0

    finds_then : held_before (own order q) k l ≡ Some then_
    finds_then =
        ap (λ ds. lanes.holding l (lane_steps ds))
        ((moments order q).before k (put_step l id hash answer) does)
        ∙ right.holds

    pub put_stands : PutStands about (own order) lists q k l id hash answer
    put_stands =
        record {
          found = then_;
          finds = finds_then;
          lane = lane_of about (past (when order q k) order) l within;
          small = right.id_fits;
          room = right.room;
          answers = right.answers;
          stands = front_of about order l (after_put then_ id hash) within right.stands;
        }

    -- what the seat found is what its hold found
    pub found_is : (a : LaneLists) → held_before (own order q) k l ≡ Some a → then_ ≡ a
    found_is a finds = some-is then_ a (sym finds_then ∙ finds)

    -- what is found later is later
    later : (n : ℕ) → when order q k < n
        → IsEarlier (after_put then_ id hash) (put.lane_then about order n l)
    later n less =
        subst (λ (z : LaneLists). IsEarlier z (put.lane_then about order n l))
        (put_now about order (when order q k) q l id hash answer is_put)
        (lane_later about order (suc (when order q k)) n l (omega arith))

  module _ (p q j k l x y : ℕ) (hash other : Option ℕ) (answer reply : Put)
      (does : Has (own order p) j (put_step l x hash answer))
      (did : Has (own order q) k (put_step l y other reply)) (a b : LaneLists)
      (finds : held_before (own order p) j l ≡ Some a)
      (found : held_before (own order q) k l ≡ Some b) where
    pub in_turn : when order p j < when order q k → IsEarlier (after_put a x hash) b
    in_turn less =
        subst (λ (z : LaneLists × LaneLists). IsEarlier (after_put z.0 x hash) z.1)
        (λ i. (
          found_is p j l x hash answer does a finds i,
          found_is q k l y other reply did b found i,
        ))
        (later p j l x hash answer does (when order q k) less)

  pub puts_stand : PutsStand about (own order) lists
  puts_stand q k l id hash answer does = put_stands q k l id hash answer does

  pub puts_keep_order : PutsKeepOrder about (own order) lists
  puts_keep_order q j k l x y hash other answer reply less does did a b finds found =
      in_turn q q j k l x y hash other answer reply does did a b finds found
      ((moments order q).rise j k (put_step l y other reply) less did)

  pub puts_take_turns : PutsTakeTurns about (own order) lists
  puts_take_turns p q j k l x y hash other answer reply does did a b finds found =
      elim (cases_lt (when order p j) (when order q k)) [
        | inl less ↦
            inr (inl (in_turn p q j k l x y hash other answer reply does did a b finds found less))
        | inr le ↦
            elim (cases_eq (when order p j) (when order q k)) [
              | inr ne ↦
                  inr (inr (in_turn q p k j l y x other hash reply answer did does b a found finds
                  (omega arith)))
              | inl e ↦
                  inl (same_step order p q j k (put_step l x hash answer)
                  (put_step l y other reply) does
                  did e)
            ]
      ]

  -- ---- positions and drops

  pub accepted_were_put : AcceptedWerePut about (own order) lists
  accepted_were_put l j id at =
      let t = each_accepted_was_put about order lawful l j id
      (accepted_left about order l j id at) in
      let f = (moments order t.seat).own t.moment (put_step l id t.hash t.answer) t.is in
      let k : ℕ = f.0 in
      let here : put.lane_then about order t.moment l ≡ put.lane_then about order
      (when order t.seat k) l =
      ap (λ n. put.lane_then about order n l) (sym f.2) in
      record {
        seat = t.seat;
        step = k;
        hash = t.hash;
        answer = t.answer;
        found = put.lane_then about order (when order t.seat k) l;
        does = f.1;
        finds = finds_then t.seat k l id t.hash t.answer f.1;
        count = ap (λ (y : LaneLists). length y.accepted) (sym here) ∙ t.found;
        accepts = ap (λ (y : LaneLists). lane_drop_cause y t.hash) (sym here) ∙ t.cause;
      }

  -- the same put by its moment
  abbrev pub order_put : (l j id : ℕ) (u : WasPut about (own order) lists l j id)
      → put.WasPut about order l j id
  order_put l j id u =
      let here : put.lane_then about order (when order u.seat u.step) l ≡ u.found =
      found_is u.seat u.step l id u.hash u.answer u.does u.found u.finds in
      record {
        moment = when order u.seat u.step;
        seat = u.seat;
        hash = u.hash;
        answer = u.answer;
        is = is_put u.seat u.step l id u.hash u.answer u.does;
        found = ap (λ (y : LaneLists). length y.accepted) here ∙ u.count;
        cause = ap (λ (y : LaneLists). lane_drop_cause y u.hash) here ∙ u.accepts;
      }

  pub drops_were_put : DropsWerePut about (own order) lists
  drops_were_put l j d at =
      let t = each_drop_was_put about order lawful l j d (drop_left about order l j d at) in
      let f = (moments order t.seat).own t.moment (put_step l d.id t.hash t.answer) t.is in
      let k : ℕ = f.0 in
      let here : put.lane_then about order t.moment l ≡ put.lane_then about order
      (when order t.seat k) l =
      ap (λ n. put.lane_then about order n l) (sym f.2) in
      record {
        seat = t.seat;
        step = k;
        hash = t.hash;
        answer = t.answer;
        found = put.lane_then about order (when order t.seat k) l;
        does = f.1;
        finds = finds_then t.seat k l d.id t.hash t.answer f.1;
        count = ap (λ (y : LaneLists). length y.drops) (sym here) ∙ t.found;
        accepted = t.accepted ∙ ap (λ (y : LaneLists). length y.accepted) here;
        pulled = t.pulled ∙ ap (λ (y : LaneLists). y.pulled) here;
        cause = ap (λ (y : LaneLists). lane_drop_cause y t.hash) (sym here) ∙ t.cause;
      }
