-- Heads follow deliveries; what a loaded head counts was passed.
use Rattle.backlog.specs.Puts.{put_count}
use Rattle.hop_rule.specs.LaneLaws.{AreInTurn, HeadsFollowDeliveries, EachRetireFollows}
use Rattle.hop_rule.specs.Lanes as lanes
use Rattle.hop_rule.specs.PutLaws.{DeliveredAsAccepted, DeliveredInOrder, LoadedHeadsAreRetires}
use Rattle.hop_rule.specs.PutLaws.{LoadedHeadsArePassed}
use Rattle.hop_rule.proofs.Names.{◌≡◌, ℕ, ◌+◌, ◌<◌, ◌≤◌, List, ◌++◌, length, Some, sym, ap, ◌∙◌}
use Rattle.hop_rule.proofs.Names.{subst, arith, StepBy, steps_of, IsLawful, lane_at, lanes_of}
use Rattle.hop_rule.proofs.Names.{retired, Delivery, delivered_from, past, nth_step, lane_then}
use Rattle.hop_rule.proofs.Names.{puller, BoardSizes, BoardStep, Lane, Weighed, LaneStep, Retired}
use Rattle.hop_rule.proofs.Boards.{parts, lanes_past, step_lawful, lanes_more, retired_later}
use Rattle.hop_rule.proofs.Deliveries.{facts, gone, ids_at, passing, rises, same_lane}
use Rattle.hop_rule.proofs.Fronts.{count_later}
use Rattle.hop_rule.proofs.Lanes.{counted}
use Rattle.hop_rule.proofs.Lists.{some-is}
use Rattle.hop_rule.proofs.Moments.{past-all, step-inside}

pub in_turn : (about : BoardSizes) (es : List (StepBy BoardStep)) → IsLawful about es → (l : ℕ)
    → AreInTurn about es l
in_turn about es lawful l =
    let ls : List (StepBy LaneStep) = lanes_of es in
    let f = facts about ls (parts about es lawful).0 l in let a = f.0 in let b = f.1 in
    let c = counted about ls (parts about es lawful).0 l in let d = c.0 in let e = c.1 in let g =
    c.2 in
    by_phase (lanes.phase l (steps_of (puller about l) ls)) a b d e g
  where
    by_phase : (o : lanes.Phase) → (lane_at about es l).pulled ≡ length
        (delivered_from l (lanes_of es)) +
        Rattle.hop_rule.proofs.Deliveries.waiting about o
        → length (delivered_from l (lanes_of es)) ≡ retired
        about es l + gone about o
        → (lane_at about es l).pulled ≡ retired about es l +
        Rattle.hop_rule.proofs.Lanes.out_of_hand about o → (lane_at about es l).pulled ≤ length
        (lane_at about es l).accepted → put_count (lane_at about es l) ≤ about.room
        → AreInTurn about es l
    by_phase lanes.idle a b d e g =
        record {
          of_delivered = omega arith;
          of_pulled = omega arith;
          one_at_most =
              omega arith;
          of_accepted = e;
          fits = g;
        }
    by_phase (lanes.has_pulled id) a b d e g =
        record {
          of_delivered = omega arith;
          of_pulled = omega arith;
          one_at_most =
              omega arith;
          of_accepted = e;
          fits = g;
        }
    by_phase lanes.gave a b d e g =
        record {
          of_delivered = omega arith;
          of_pulled = omega arith;
          one_at_most =
              omega arith;
          of_accepted = e;
          fits = g;
        }

pub heads_follow_deliveries : HeadsFollowDeliveries
heads_follow_deliveries about order lawful l = in_turn about order lawful l

pub each_retire_follows : EachRetireFollows
each_retire_follows about order lawful n q l w is =
    let may = (step_lawful about order n q (Lane (Retired l w)) lawful is).1.0 in
    let ls : List (StepBy LaneStep) = lanes_of (past n order) in
    let f = (facts about ls (lanes_past about order n lawful) l).1 in
    let was : lanes.phase l (steps_of (puller about l) ls) ≡ lanes.gave =
    ap (λ z. lanes.phase l (steps_of z ls)) may.2 ∙ may.3 in
    let one : length (delivered_from l ls) ≡ retired about (past n order) l + 1 = f
    ∙ ap (λ o. retired about (past n order) l + gone about o) was in
    record { by_puller = sym may.2; word = may.1; delivered = omega arith }

-- ---- deliveries

pub delivered_as_accepted : DeliveredAsAccepted
delivered_as_accepted about order lawful l k g at =
    ids_at about (delivered_from l (lanes_of order)) (lane_at about order l).accepted
    (facts about (lanes_of order) (parts about order lawful).0 l).2 k g at

pub delivered_in_order : DeliveredInOrder
delivered_in_order about order lawful l j k g h less at at' to =
    let t = same_lane about (delivered_from l (lanes_of order))
    (rises about (lanes_of order) (parts about order lawful).0 l) j k h less at' in
    let same : t.0 ≡ g = some-is t.0 g (sym t.1 ∙ at) in
    subst (λ (z : Delivery). z.place < h.place) same (t.2 (ap (λ (z : Delivery). z.to) same ∙ to))

-- ---- loads of heads

pub loaded_heads_are_retires : LoadedHeadsAreRetires
loaded_heads_are_retires about order lawful n q l w is =
    let inside = step-inside order n q (Weighed l w) is in (
      (step_lawful about order n q (Weighed l w) lawful is).1.1,
      subst (λ (z : List (StepBy BoardStep)). retired about (past n order) l ≤ retired about z l)
          (past-all order (length order) (omega arith))
          (retired_later about order n (length order) l (omega arith)),
    )

-- What was retired by the moment n was passed by each put since.
pub passed_since : (about : BoardSizes) (order : List (StepBy BoardStep)) → IsLawful about order
    → (n l i : ℕ) → n ≤ length order → i < retired about (past n order) l
    → (to j : ℕ) (h : Delivery) → length (lane_then about order n to).accepted ≤ j
    → nth_step (delivered_from to (lanes_of order)) j ≡ Some h
    → (g : Delivery) × (nth_step (delivered_from l (lanes_of order)) i ≡ Some g)
    × (g.to ≡ h.to → g.place < h.place)
passed_since about order lawful n l i le gone_ to j h since at =
    let t = lanes_more order n (length order) le in
    let top : lanes_of order ≡ t.0 ++ lanes_of (past n order) = ap lanes_of
    (sym (past-all order (length order) (omega arith))) ∙ t.1 in
    let p = passing about t.0 (lanes_of (past n order))
    (subst (lanes.AreLawful about) top (parts about order lawful).0) l to j i h since
    (ap (λ ls. nth_step (delivered_from to ls) j) (sym top) ∙ at) gone_ in
    (p.0, ap (λ ls. nth_step (delivered_from l ls) i) top ∙ p.1, p.2)

pub loaded_heads_are_passed : LoadedHeadsArePassed
loaded_heads_are_passed about order lawful n q l w k i is word less =
    let loads = loaded_heads_are_retires about order lawful n q l w is in let a = loads.0 in let b =
    loads.1 in
    let inside = step-inside order n q (Weighed l w) is in
    let end = in_turn about order lawful l in let c = end.of_delivered in
    let one = Rattle.hop_rule.proofs.Moments.nth-some (delivered_from l (lanes_of order)) i
    (omega arith) in (
      one.0,
      one.1,
      λ m p to id j hash answer h after put found at same. (
          let since : length (lane_then about order n to).accepted ≤ j =
          subst (λ z. length (lane_then about order n to).accepted ≤ z) found
          (count_later about order n m to (omega arith)) in
          let t = passed_since about order lawful n l i (omega arith) (omega arith) to j h since at
          in
          let is_one : t.0 ≡ one.0 = some-is t.0 one.0 (sym t.1 ∙ one.1) in
          subst (λ (z : Delivery). z.place < h.place) is_one
          (t.2 (ap (λ (z : Delivery). z.to) is_one ∙ same))),
    )
