-- The laws of holds, deliveries and of the one server of a lane, by own steps.
use Rattle.std.proofs.Common.{◌*◌}
use Rattle.history.specs.Lists.{list_at}
use Rattle.hop_rule.specs.Fronts.{Front}
use Rattle.hop_rule.specs.Lanes as lanes
use Rattle.hop_rule.specs.OutLanes.{OutList, out_list}
use Rattle.hop_rule.specs.declared.step.LaneStep.TheVariants.{Held, OutHeld}
use Rattle.hop_rule.proofs.Fronts.{lane_later, out_later}
use Rattle.hop_rule.proofs.Heads.{delivered_as_accepted, delivered_in_order, in_turn}
use Rattle.hop_rule.proofs.Puts.{each_delivery_is_right, each_member_was_given, places_rise, top}
use Rattle.board_api.specs.Laws.Lanes.{DeliveriesHavePlaces, GivesPlace, HoldFinds, HoldsFindFronts}
use Rattle.board_api.specs.Laws.Lanes.{IsInTurn, IsServedByOne, LanesAreInTurn, LanesAreServedByOne}
use Rattle.board_api.specs.Laws.Lanes.{OutHoldFinds, WasGiven}
use Rattle.board_api.specs.OwnSteps.{pulled_by, pulled_in, retired_by, retired_in}
use Rattle.board_api.proofs.Names.{◌≡◌, inl, inr, ℕ, suc, ◌+◌, ◌-◌, ◌<◌, List, length, Some, sym}
use Rattle.board_api.proofs.Names.{ap, ◌∙◌, subst, arith, slice_get, cases_eq, cases_lt, LaneLists}
use Rattle.board_api.proofs.Names.{StepBy, LaneList, IsLawful, lane_at, lanes_of, out}
use Rattle.board_api.proofs.Names.{delivered_from, nth_step, past, puller, BoardSizes, BoardStep}
use Rattle.board_api.proofs.Names.{Lane, Given, step_lawful, lists_of, Has, delivered_by}
use Rattle.board_api.proofs.Names.{BoardLists}
use Rattle.board_api.proofs.Left.{lane_is, lane_past, member_left, out_is}
use Rattle.board_api.proofs.Owners.{all_of, first-nth, from-nth, given_own, pulled_own, pulls}
use Rattle.board_api.proofs.Owners.{retired_own, retires}
use Rattle.board_api.proofs.OwnPuts.{front_of, lane_of}
use Rattle.board_api.proofs.OwnTimes.{in_time, moments, own, same_step, step_is, when}

module _ (about : BoardSizes) (order : List (StepBy BoardStep))
    (lawful : IsLawful about order) where
  abbrev lists : BoardLists
  lists = lists_of about order

  -- ---- holds

  hold_finds : (q k l word : ℕ) (found : LaneLists) → Has (own order q) k (Lane (Held l word found))
      → HoldFinds about (own order) lists l word found
  hold_finds q k l word found does =
      let d : BoardStep = Lane (Held l word found) in
      let m : ℕ = when order q k in
      let may = (step_lawful about order m q d lawful (step_is order q k d does)).1.0 in
      let here : lane_at about (past m order) l ≡ found = sym may.3 in
      let before_end = in_time order q k d does in
      let tail : word ≡ 2 * (about.start + length (lane_at about (past m order) l).accepted) + 0 =
      may.1
      ∙ ap (λ h. 2 * (about.start + length (lane_at about (past m order) l).accepted)
      + lanes.bit h) may.2 in
      let same = ap (λ (y : LaneLists). length y.accepted) here in
      record {
        lane =
            subst (Rattle.board_api.specs.Lists.IsLaneOf about l) here
            (lane_of about (past m order) l may.0);
        front = front_of about order l found may.0
            (subst (λ (z : LaneLists). Rattle.hop_rule.specs.Fronts.IsEarlier z
            (lane_at about order l))
            here
            (subst (λ (z : List (StepBy BoardStep)).
            Rattle.hop_rule.specs.Fronts.IsEarlier (lane_at about (past m order) l)
            (lane_at about z l))
            (top about order lawful)
            (lane_later about order m (length order) l (omega arith))));
        tail = omega arith;
      }

  out_hold_finds : (q k o word : ℕ) (found : OutList)
      → Has (own order q) k (Lane (OutHeld o word found)) → OutHoldFinds about
      (own order) lists o word found
  out_hold_finds q k o word found does =
      let d : BoardStep = Lane (OutHeld o word found) in
      let m : ℕ = when order q k in
      let may = (step_lawful about order m q d lawful (step_is order q k d does)).1.0 in
      let here : out_list (out about (past m order) o) about.room ≡ found = sym may.3 in
      let before_end = in_time order q k d does in
      let tail : word ≡ 2 * (about.start + length (out about (past m order) o)) + 0 =
      may.1
      ∙ ap (λ h. 2 * (about.start + length (out about (past m order) o)) + lanes.bit h) may.2 in
      let same = ap (λ (y : OutList). length y.items) here in
      let later : Front (out about (past m order) o) (out about order o) =
      subst (λ (z : List (StepBy BoardStep)). Front (out about (past m order) o) (out about z o))
      (top about order lawful) (out_later about order m (length order) o (omega arith)) in
      record {
        within = may.0;
        room = ap (λ (y : OutList). y.room) (sym here);
        front =
            subst (λ (z : List ℕ × List ℕ). Front z.0 z.1)
            (λ i. ((here i).items, sym (out_is about order o may.0) i)) later;
        tail = omega arith;
      }

  pub holds_find_fronts : HoldsFindFronts about (own order) lists
  holds_find_fronts = record { middle = hold_finds; out = out_hold_finds }

  -- ---- the server of a lane

  module _ (l : ℕ) (within : l < about.lanes) where
    abbrev mine : List BoardStep
    mine = own order (puller about l)

    gifts : delivered_from l (lanes_of order) ≡ delivered_by l mine
    gifts = given_own about l order lawful

    pulled : all_of (pulled_in l) order ≡ pulled_by l mine
    pulled = pulled_own about l order lawful

    heads : all_of (retired_in l) order ≡ retired_by l mine
    heads = retired_own about l order lawful

    served : IsServedByOne about (own order) lists l
    served =
        let is = lane_is about order l within in
        let p = pulls about l order lawful in
        let r = retires about l order lawful in
        record {
          pulled = ap (λ (y : LaneList). y.pulled) is ∙ (p.0 ∙ ap length pulled);
          delivered = ap (λ (y : LaneList). y.delivered) is ∙ ap length gifts;
          retired = ap (λ (y : LaneList). y.retired) is ∙ (r.0 ∙ ap length heads);
          nth_pull = λ n id at. (
              ap (λ (y : LaneList). slice_get y.accepted n) is
              ∙ first-nth (all_of (pulled_in l) order) (lane_at about order l).accepted n id p.1
              (ap (λ xs. nth_step xs n) pulled ∙ at));
          nth_delivery = λ n g at. (
              ap (λ (y : LaneList). slice_get y.accepted n) is
              ∙ delivered_as_accepted about order lawful l n g
              (ap (λ gs. nth_step gs n) gifts ∙ at));
          in_order = λ m n g h earlier at at' to. (
              delivered_in_order about order lawful l m n g h earlier
              (ap (λ gs. nth_step gs m) gifts ∙ at) (ap (λ gs. nth_step gs n) gifts ∙ at') to);
          nth_retire = λ n word at. (
              from-nth about.start (all_of (retired_in l) order) n word r.1
              (ap (λ xs. nth_step xs n) heads ∙ at));
        }

  pub lanes_are_served_by_one : LanesAreServedByOne about (own order) lists
  lanes_are_served_by_one l within = served l within

  pub lanes_are_in_turn : LanesAreInTurn about (own order) lists
  lanes_are_in_turn l =
      elim (cases_lt l about.lanes) [
        | inl within ↦
            (let t = in_turn about order lawful l in
            subst (IsInTurn about (own order) lists) (sym (lane_is about order l within))
            (record {
              retired = t.of_delivered;
              delivered = t.of_pulled;
              pulled = t.of_accepted;
              room = t.fits;
            }))
        | inr over ↦
            subst (IsInTurn about (own order) lists) (sym (lane_past about order l over))
            (record {
              retired = omega arith;
              delivered = omega arith;
              pulled = omega arith;
              room = omega arith;
            })
      ]

  -- ---- deliveries and places

  gives_place : (q k o from id place : ℕ) → Has (own order q) k (Lane (Given o from id place))
      → GivesPlace about (own order) lists q o from id place
  gives_place q k o from id place does =
      let d : BoardStep = Lane (Given o from id place) in
      let is = step_is order q k d does in
      let may = (step_lawful about order (when order q k) q d lawful is).1.0 in
      let t = each_delivery_is_right about order lawful (when order q k) q o from id place is in
      record {
        by_puller = sym t.by_puller;
        from_one = t.place_from_one;
        stands = ap (λ xs. slice_get xs (place - 1)) (out_is about order o may.0) ∙ t.stands;
      }

  was_given : (o j id : ℕ) → slice_get (list_at lists.outs o) j ≡ Some id
      → WasGiven about (own order) lists o j id
  was_given o j id at =
      let t = each_member_was_given about order lawful o j id (member_left about order o j id at) in
      let f = (moments order t.seat).own t.moment (Lane (Given o t.from id (suc j))) t.is in
      record { seat = t.seat; step = f.0; from = t.from; does = f.1 }

  places_apart : (p q j k o from to x y place : ℕ)
      → Has (own order p) j (Lane (Given o from x place)) → Has (own order q) k
      (Lane (Given o to y place))
      → (p ≡ q) × (j ≡ k)
  places_apart p q j k o from to x y place does did =
      let a = step_is order p j (Lane (Given o from x place)) does in
      let b = step_is order q k (Lane (Given o to y place)) did in
      elim (cases_lt (when order p j) (when order q k)) [
        | inl before ↦
            (let up = places_rise about order lawful (when order p j)
            (when order q k) p q o from to x y place
            place before a b in
            absurd (omega arith))
        | inr le ↦
            elim (cases_eq (when order p j) (when order q k)) [
              | inr ne ↦
                  (let up = places_rise about order lawful (when order q k)
                  (when order p j) q p o to from y x place
                  place (omega arith) b a in
                  absurd (omega arith))
              | inl e ↦
                  same_step order p q j k (Lane (Given o from x place))
                  (Lane (Given o to y place)) does
                  did e
            ]
      ]

  pub deliveries_have_places : DeliveriesHavePlaces about (own order) lists
  deliveries_have_places =
      record { stand = gives_place; given = was_given; apart = places_apart }
