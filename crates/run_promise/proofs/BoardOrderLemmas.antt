-- Each lawful order of steps, by the counts at its moments.
use Rattle.std.proofs.Common.{◌≡◌, ℕ, zero, suc, ◌+◌, ◌-◌, ◌/◌, ◌^◌, ◌<◌, ◌≤◌, List, [], ◌∷◌}
use Rattle.std.proofs.Common.{◌++◌, Option, Some, None, length, drop, take, sym, refl, ap, ◌∙◌}
use Rattle.std.proofs.Common.{subst, arith, length-append}
use Rattle.std.specs.Prelude.{slice_get}
use Rattle.history.specs.Lists.{lane_at as left_at, list_at}
use Rattle.history.specs.declared.lane_list.LaneList.{LaneList}
use Rattle.steer_base.specs.Drops.{bucket_of, drop_cause, lane_drop_cause, offers_of}
use Rattle.steer_base.specs.Lanes.{LaneLists}
use Rattle.steer_base.specs.declared.put.DropCause.{DropCause}
use Rattle.steer_base.specs.declared.put.LaneDrop.{LaneDrop}
use Rattle.steer_base.specs.declared.put.Put.{Put}
use Rattle.backlog.specs.Offers.{buckets_of}
use Rattle.backlog.specs.Puts.{put_by}
use Rattle.linearization.specs.Orders.{StepBy, step_by, steps_of}
use Rattle.linearization.proofs.ListLemmas.{if_same}
use Rattle.hop_rule.specs.Boards.{IsLawful, gates_of, lane_at, lanes_of, out, retired}
use Rattle.hop_rule.specs.Deliveries.{delivered_from}
use Rattle.hop_rule.specs.Fronts.{Front, IsEarlier}
use Rattle.hop_rule.specs.Gates as gates
use Rattle.hop_rule.specs.Lanes as lanes
use Rattle.hop_rule.specs.Moments.{IsStep, past}
use Rattle.hop_rule.specs.PutLaws.{IsPut, lane_then}
use Rattle.hop_rule.specs.SettingLaws.{closers}
use Rattle.hop_rule.specs.Sizes.{FitSizes, closer, puller}
use Rattle.hop_rule.specs.declared.sizes.BoardSizes.{BoardSizes}
use Rattle.hop_rule.specs.declared.step.BoardStep.{BoardStep}
use Rattle.hop_rule.specs.declared.step.BoardStep.TheVariants.{Gate, Lane, Weighed}
use Rattle.hop_rule.specs.declared.step.GateStep.{GateStep}
use Rattle.hop_rule.specs.declared.step.GateStep.TheVariants.{Entered, Left, NotShut, Opened}
use Rattle.hop_rule.specs.declared.step.GateStep.TheVariants.{Read, Set, Shut, Turned}
use Rattle.hop_rule.specs.declared.step.LaneStep.{LaneStep}
use Rattle.hop_rule.specs.declared.step.LaneStep.TheVariants.{Given}
use Rattle.hop_rule.proofs.Boards.{gates_past, lanes_past, lawful_past, parts, put_now}
use Rattle.hop_rule.proofs.Boards.{retired_later, step_lawful}
use Rattle.hop_rule.proofs.Cases.{gate_part_case}
use Rattle.hop_rule.proofs.Deliveries.{facts, gone, waiting}
use Rattle.hop_rule.proofs.Drops.{drops_are_explained}
use Rattle.hop_rule.proofs.Fronts.{front-length, lane_later, out_count_later}
use Rattle.hop_rule.proofs.Gates.{closes, unshut}
use Rattle.hop_rule.proofs.Heads.{in_turn, loaded_heads_are_retires}
use Rattle.hop_rule.proofs.Moments.{along, past-all, step-more}
use Rattle.hop_rule.proofs.Numbers.{none_between}
use Rattle.hop_rule.proofs.Openings.{closers_are, openings_later, visits_are_numbered}
use Rattle.hop_rule.proofs.Puts.{accepted_now, gives_right, place_is}
use Rattle.hop_rule.proofs.Visits.{inside_at}
use Rattle.board_api.specs.Closings.Finals.{lists_of}
use Rattle.board_api.specs.Laws.Puts.{WasDropped, WasPut}
use Rattle.board_api.specs.OwnSteps.{Has, put_step}
use Rattle.board_api.specs.declared.lists.BoardLists.{BoardLists}
use Rattle.board_api.proofs.Left.{lane_is, out_is}
use Rattle.board_api.proofs.OwnPuts.{found_is, is_put, lane_of, order_put, put_stands}
use Rattle.board_api.proofs.OwnTimes.{moments, own, rise, step_is, when}
use Rattle.headline.specs.HopOrders.{AcceptsAt, DropsAt, HopCounts, IsServed, NoneFalls}
use Rattle.run_promise.specs.BoardOrders.{BoardOrder, GivesAt, LaneHasNoCause, PutsHaveHashes}
use Rattle.run_promise.proofs.RoomLemmas.{rooms}

-- ---- fronts

take-front : {A : Type 0} (xs more : List A) → take (length xs) (xs ++ more) ≡ xs
take-front [] [] = refl
take-front [] (y ∷ more) = refl
take-front (x ∷ xs) more = ap (λ zs. x ∷ zs) (take-front xs more)

front-take : {A : Type 0} (xs ys : List A) → Front xs ys → take (length xs) ys ≡ xs
front-take xs ys f = ap (take (length xs)) f.1 ∙ take-front xs f.0

-- a step of the last part of an order is a step of the order
drop-steps : (k : ℕ) (es : List (StepBy BoardStep)) (n p : ℕ) (d : BoardStep)
    → IsStep (drop k es) n p d → IsStep es n p d
drop-steps zero es n p d is = is
drop-steps (suc k) [] n p d is = is
drop-steps (suc k) (e ∷ es) n p d is = step-more e es n p d (drop-steps k es n p d is)

module _ (about : BoardSizes) (order : List (StepBy BoardStep)) (fit : FitSizes about)
    (lawful : IsLawful about order) where
  abbrev lists : BoardLists
  lists = lists_of about order

  -- ---- counts

  -- the counts of the board at a moment
  abbrev pub counts_at : ℕ → HopCounts
  counts_at m =
      record {
        accepted = λ l. length (lane_then about order m l).accepted;
        dropped = λ l. length (lane_then about order m l).drops;
        pulled = λ l. (lane_then about order m l).pulled;
        retired = λ l. retired about (past m order) l;
        delivered = λ o. length (out about (past m order) o);
      }

  counts-rise : (m n : ℕ) → m ≤ n → NoneFalls (counts_at m) (counts_at n)
  counts-rise m n le =
      record {
        accepted = λ l.
            front-length (lane_then about order m l).accepted (lane_then about order n l).accepted
            (lane_later about order m n l le).accepted;
        dropped = λ l.
            front-length (lane_then about order m l).drops (lane_then about order n l).drops
            (lane_later about order m n l le).drops;
        pulled = λ l. (lane_later about order m n l le).pulled;
        retired = λ l. retired_later about order m n l le;
        delivered = λ o. out_count_later about order m n o le;
      }

  served : (m l : ℕ) → IsServed (counts_at m) l
  served m l =
      let t = in_turn about (past m order) (lawful_past about order m lawful) l in
      let a = t.of_delivered in
      let b = t.of_pulled in
      record { retired = omega arith; one = t.one_at_most; pulled = t.of_accepted }

  -- after all steps the counts are those of what is left
  all-past : (m : ℕ) → past (m + length order) order ≡ order
  all-past m = past-all order (m + length order) (omega arith)

  accepted-within : (m l : ℕ) → l < about.lanes
      → (counts_at m).accepted l ≤ length (left_at lists.lanes l).accepted
  accepted-within m l less =
      let up = (counts-rise m (m + length order) (omega arith)).accepted l in
      let same = ap (λ (es : List (StepBy BoardStep)). length (lane_at about es l).accepted)
      (all-past m) in
      let is = ap (λ (y : LaneList). length y.accepted) (lane_is about order l less) in
      omega arith

  dropped-within : (m l : ℕ) → l < about.lanes
      → (counts_at m).dropped l ≤ length (left_at lists.lanes l).drops
  dropped-within m l less =
      let up = (counts-rise m (m + length order) (omega arith)).dropped l in
      let same = ap (λ (es : List (StepBy BoardStep)). length (lane_at about es l).drops)
      (all-past m) in
      let is = ap (λ (y : LaneList). length y.drops) (lane_is about order l less) in
      omega arith

  delivered-within : (m o : ℕ) → o < about.outs
      → (counts_at m).delivered o ≤ length (list_at lists.outs o)
  delivered-within m o less =
      let up = (counts-rise m (m + length order) (omega arith)).delivered o in
      let same = ap (λ (es : List (StepBy BoardStep)). length (out about es o)) (all-past m) in
      let is = ap length (out_is about order o less) in
      omega arith

  -- ---- puts

  accepts : (l n id : ℕ) (u : WasPut about (own order) lists l n id)
      → AcceptsAt counts_at (when order u.seat u.step) l n
  accepts l n id u =
      let v = order_put about order lawful l n id u in
      let now = ap length (accepted_now about order lawful v.moment u.seat l id u.hash u.answer
      v.is v.cause) in
      let one = length-append (lane_then about order v.moment l).accepted (id ∷ []) in
      let before = v.found in
      record { before = v.found; after = omega arith }

  drops : (l j : ℕ) (d : LaneDrop) (u : WasDropped about (own order) lists l j d)
      → DropsAt counts_at (when order u.seat u.step) l j d
  drops l j d u =
      let m : ℕ = when order u.seat u.step in
      let x : LaneLists = lane_then about order m l in
      let here : x ≡ u.found =
      found_is about order lawful u.seat u.step l d.id u.hash u.answer u.does u.found u.finds in
      let is = is_put about order lawful u.seat u.step l d.id u.hash u.answer u.does in
      let before : length x.drops ≡ j = ap (λ (y : LaneLists). length y.drops) here ∙ u.count in
      let cause : lane_drop_cause x u.hash ≡ Some d.cause =
      ap (λ (y : LaneLists). lane_drop_cause y u.hash) here ∙ u.cause in
      let put : lane_then about order (suc m) l ≡ put_by (Some d.cause) x d.id (bucket_of u.hash) =
      put_now about order m u.seat l d.id u.hash u.answer is
      ∙ ap (λ (c : Option DropCause). put_by c x d.id (bucket_of u.hash)) cause in
      let now = ap (λ (y : LaneLists). length y.drops) put in
      let fell : LaneDrop = record {
        id = d.id;
        accepted = length x.accepted;
        pulled = x.pulled;
        cause = d.cause;
      } in
      let one = length-append x.drops (fell ∷ []) in
      record {
        before = before;
        after = omega arith;
        accepted = u.accepted ∙ ap (λ (y : LaneLists). length y.accepted) (sym here);
        pulled = u.pulled ∙ ap (λ (y : LaneLists). y.pulled) (sym here);
      }

  -- ---- no cause to drop

  -- what a lane was is a front of what is left of it
  earlier : (m l : ℕ) → IsEarlier (lane_then about order m l) (lane_at about order l)
  earlier m l =
      subst (λ (es : List (StepBy BoardStep)).
      IsEarlier (lane_then about order m l) (lane_at about es l)) (all-past m)
      (lane_later about order m (m + length order) l (omega arith))

  module _ (hash_of : ℕ → Option ℕ) (hashes : PutsHaveHashes (own order) hash_of) where
    past-hashes : (m n q l id : ℕ) (hash : Option ℕ) (answer : Put)
        → IsPut about (past m order) n q l id hash answer → hash ≡ hash_of id
    past-hashes m n q l id hash answer is =
        let here = drop-steps (length order - m) order n q (put_step l id hash answer) is in
        let t = (moments order q).own n (put_step l id hash answer) here in
        hashes q t.0 l id hash answer t.1

    due : (l n id : ℕ) (u : WasPut about (own order) lists l n id)
        → LaneHasNoCause about hash_of l (left_at lists.lanes l)
        (counts_at (when order u.seat u.step)) id
    due l n id u =
        let m : ℕ = when order u.seat u.step in
        let x : LaneLists = lane_then about order m l in
        let here : x ≡ u.found =
        found_is about order lawful u.seat u.step l id u.hash u.answer u.does u.found u.finds in
        let none : lane_drop_cause x u.hash ≡ None =
        ap (λ (y : LaneLists). lane_drop_cause y u.hash) here ∙ u.accepts in
        let stands = put_stands about order lawful u.seat u.step l id u.hash u.answer u.does in
        let within : l < about.lanes = stands.lane.within in
        let shape = lane_of about (past m order) l within in
        let left : LaneList = left_at lists.lanes l in
        let is = lane_is about order l within in
        let e = earlier m l in
        let accepted : take (length x.accepted) left.accepted ≡ x.accepted =
        ap (λ (y : LaneList). take (length x.accepted) y.accepted) is
        ∙ front-take x.accepted (lane_at about order l).accepted e.accepted in
        let fallen : take (length x.drops) left.drops ≡ x.drops =
        ap (λ (y : LaneList). take (length x.drops) y.drops) is
        ∙ front-take x.drops (lane_at about order l).drops e.drops in
        let offers = (drops_are_explained about (past m order) (lawful_past about order m lawful)
        hash_of (past-hashes m) l).0.buckets in
        let buckets : buckets_of hash_of
        (offers_of (take (length x.accepted) left.accepted) (take (length x.drops) left.drops))
        ≡ x.offers =
        (λ i. buckets_of hash_of (offers_of (accepted i) (fallen i))) ∙ sym offers in
        let hash = hashes u.seat u.step l id u.hash u.answer u.does in
        (λ i. drop_cause (sym shape.limited i) (sym shape.limit i)
        (length x.accepted - x.pulled) (buckets i) (sym hash i))
        ∙ none

  -- ---- loads and deliveries

  loads : (q k l word : ℕ) → Has (own order q) k (Weighed l word)
      → word ≡ about.start + (counts_at (when order q k)).retired l
  loads q k l word does =
      (loaded_heads_are_retires about order lawful (when order q k) q l word
      (step_is order q k (Weighed l word) does)).0

  gives : (q k o from id j : ℕ) → Has (own order q) k (Lane (Given o from id (suc j)))
      → GivesAt lists counts_at from o id j
  gives q k o from id j does =
      let m : ℕ = when order q k in
      let d : BoardStep = Lane (Given o from id (suc j)) in
      let is = step_is order q k d does in
      let may = (step_lawful about order m q d lawful is).1.0 in
      let ls : List (StepBy LaneStep) = lanes_of (past m order) in
      let n : ℕ = length (delivered_from from ls) in
      let was : lanes.phase from (steps_of (puller about from) ls) ≡ lanes.has_pulled id =
      ap (λ z. lanes.phase from (steps_of z ls)) may.2.4 ∙ may.2.5 in
      let f = facts about ls (lanes_past about order m lawful) from in
      let a : (lane_then about order m from).pulled ≡ n + 1 =
      f.0 ∙ ap (λ o. n + waiting about o) was in
      let b : n ≡ retired about (past m order) from + 0 =
      f.1 ∙ ap (λ o. retired about (past m order) from + gone about o) was in
      let g = gives_right about order lawful m q o from id (suc j) is in
      let place = place_is about order lawful m q o from id (suc j) is in
      let xs : List ℕ = out about (past m order) o in
      let now : out about (past (suc m) order) o ≡ xs ++ id ∷ [] =
      ap (λ (es : List (StepBy BoardStep)). out about es o) is
      ∙ if_same o o (xs ++ id ∷ []) xs refl in
      let more = ap length now in
      let one = length-append xs (id ∷ []) in
      record {
        index = n;
        stands =
            ap (λ (y : LaneList). slice_get y.accepted n) (lane_is about order from may.1)
            ∙ g.next;
        delivers =
            record {
              moment = m;
              pulled = omega arith;
              retired = omega arith;
              before = omega arith;
              after = omega arith;
            };
      }

  -- ---- visits

  -- how often the gate had been opened before a moment
  abbrev pub openings_at : ℕ → ℕ
  openings_at m = gates.all_openings (gates_of (past m order))

  openings-rise : (m n : ℕ) → m ≤ n → openings_at m ≤ openings_at n
  openings-rise m n le =
      let up = openings_later about order lawful m n le in
      let a = (closes about (gates_of (past m order)) (gates_past about order m lawful)).1 in
      let b = (closes about (gates_of (past n order)) (gates_past about order n lawful)).1 in
      omega arith

  openings-within : (m : ℕ) → openings_at m ≤ gates.openings (closers about order)
  openings-within m =
      let up = openings-rise m (m + length order) (omega arith) in
      let same = ap (λ (es : List (StepBy BoardStep)). gates.all_openings (gates_of es))
      (all-past m) in
      let a = (closes about (gates_of order) (parts about order lawful).1).1 in
      let b = ap gates.openings (closers_are about order) in
      omega arith

  -- while a seat is inside the gate is not opened
  openings-stay : (q e u word m : ℕ) → q < about.seats → IsStep order e q (Gate (Entered word))
      → ((k : ℕ) → e < k → k < u → IsStep order k q (Gate Left) → ⊥) → e < m → m ≤ u
      → openings_at m ≡ openings_at e
  openings-stay q e u word m seat enters stays less le =
      along (λ es. gates.all_openings (gates_of es) ≡ openings_at e) order (suc e) m (omega arith)
      (λ k s from to is here.
      gate_part_case (λ gs. gates.all_openings gs ≡ openings_at e) s.by s.step
      (gates_of (past k order))
      (λ g gate.
      by_gate k s.by g (is ∙ ap (λ d. step_by s.by d ∷ past k order) gate) from (omega arith) here)
      here)
      (ap (λ (es : List (StepBy BoardStep)). gates.all_openings (gates_of es)) enters)
    where
      by_gate : (k p : ℕ) (g : GateStep) → IsStep order k p (Gate g) → suc e ≤ k → k ≤ u
          → openings_at k ≡ openings_at e
          → gates.openings_after g (openings_at k) ≡ openings_at e
      by_gate k p Opened is from to here =
          let may = (step_lawful about order k p (Gate Opened) lawful is).1 in
          let gs : List (StepBy GateStep) = gates_of (past k order) in
          let legal = gates_past about order k lawful in
          let shut : gates.closed (steps_of (closer about) gs) ≡ 1 =
          ap (λ z. gates.closed (steps_of z gs)) (sym may.0) ∙ may.1 in
          let all = (closes about gs legal).0 in
          let open_ = unshut about gs legal q seat
          (inside_at about order lawful q e u word k enters stays (omega arith) to) in
          absurd (omega arith)
      by_gate k p (Entered w) is from to here = here
      by_gate k p (Turned w) is from to here = here
      by_gate k p Left is from to here = here
      by_gate k p (Shut w) is from to here = here
      by_gate k p (NotShut w) is from to here = here
      by_gate k p (Set i v) is from to here = here
      by_gate k p (Read i v) is from to here = here

  visits : (q e u l id word : ℕ) (hash : Option ℕ) (answer : Put) → e < u
      → Has (own order q) e (Gate (Entered word)) → Has (own order q) u (put_step l id hash answer)
      → ((k : ℕ) → e < k → k < u → Has (own order q) k (Gate Left) → ⊥)
      → word / 2 ^ 32 ≡ openings_at (when order q u)
  visits q e u l id word hash answer less enters puts stays =
      let d : BoardStep = put_step l id hash answer in
      let first : ℕ = when order q e in
      let last : ℕ = when order q u in
      let up = rise order q e u d less puts in
      let is = step_is order q e (Gate (Entered word)) enters in
      let seat = (step_lawful about order first q (Gate (Entered word)) lawful is).0 in
      let same = openings-stay q first last word last seat is
      (λ m from to left.
      none_between about order q e u m (Gate (Entered word)) d (Gate Left) enters puts stays from
      to left)
      up (omega arith) in
      let number = (visits_are_numbered about order fit lawful first q word is).0 in
      let a = ap gates.openings (closers_are about (past first order)) in
      let b = (closes about (gates_of (past first order))
      (gates_past about order first lawful)).1 in
      omega arith

  pub board-order : BoardOrder about (own order) lists
  board-order =
      record {
        at = counts_at;
        rise = counts-rise;
        served = served;
        room = λ m l. (rooms about l (lanes_of (past m order))).waits;
        accepted_within = accepted-within;
        dropped_within = dropped-within;
        delivered_within = delivered-within;
        moment = when order;
        in_turn = rise order;
        accepts = accepts;
        drops = drops;
        due = due;
        loads = loads;
        gives = gives;
        openings = openings_at;
        openings_rise = openings-rise;
        openings_within = openings-within;
        visits = visits;
      }
