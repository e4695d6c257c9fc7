-- Delivery in order by the lists that are left.
use Rattle.std.proofs.Common.{map}
use Rattle.steer_base.specs.{Orders.InOrder, declared.put.LaneDrop.LaneDrop}
use Rattle.history.specs.{Lists.list_at, declared.lane_list.LaneList.LaneList}
use Rattle.hop_rule.proofs.Puts.{each_accepted_was_put, each_member_was_given}
use Rattle.hop_rule.specs.{Boards.out, declared.step.LaneStep.TheVariants.Given}
use Rattle.board_api.proofs.Left.{lane_is, lane_past, out_is, out_past}
use Rattle.board_api.specs.Closings.{Closings.AtEachClosing, Finals.lane_list}
use Rattle.hop_delivery.proofs.Names.{◌≡◌, inl, inr, ℕ, ◌≤◌, List, [], ◌∷◌, Some, sym, refl, ap}
use Rattle.hop_delivery.proofs.Names.{◌∙◌, subst, arith, range_with_len, slice_get, cases_lt}
use Rattle.hop_delivery.proofs.Names.{StepBy, IsLawful, accepted, own_of, FitSizes, BoardSizes}
use Rattle.hop_delivery.proofs.Names.{BoardStep, Lane, Offered, Freed, step_lawful, lists_of}
use Rattle.hop_delivery.proofs.Names.{at_closings, accepted_left}
use Rattle.hop_delivery.proofs.Orders.DeliveryLemmas.{delivers_in_order}
use Rattle.hop_delivery.specs.Closings.FlowLaw.{FlowsAreInOrder}
use Rattle.hop_delivery.specs.Orders.{DeliveryLaw.came_by, Premises.MeetsPremises}

-- a list without a first member is empty
none-first : (xs : List ℕ) → ((x : ℕ) → slice_get xs 0 ≡ Some x → ⊥) → xs ≡ []
none-first [] none = refl
none-first (x ∷ xs) none = absurd (none x refl)

drops-map : {A : Type 0} (f : A → LaneList) (xs : List A)
    → map (λ (lane : LaneList). lane.drops) (map f xs) ≡ map (λ x. (f x).drops) xs
drops-map f [] = refl
drops-map f (x ∷ xs) = ap (λ ys. (f x).drops ∷ ys) (drops-map f xs)

module _ (about : BoardSizes) (order : List (StepBy BoardStep))
    (lawful : IsLawful about order) where
  -- beyond the lanes of the board nothing was accepted, and nothing was delivered
  none_accepted : (l : ℕ) → about.lanes ≤ l → accepted about order l ≡ []
  none_accepted l past = none-first (accepted about order l) (λ x at.
      (let u = each_accepted_was_put about order lawful l 0 x at in
      let within = (step_lawful about order u.moment u.seat
      (Lane (Freed l (Offered x u.hash u.answer))) lawful u.is).1.0.0 in absurd (omega arith)))

  none_given : (o : ℕ) → about.outs ≤ o → out about order o ≡ []
  none_given o past = none-first (out about order o) (λ x at.
      (let u = each_member_was_given about order lawful o 0 x at in
      let within = (step_lawful about order u.moment u.seat (Lane (Given o u.from x 1)) lawful
      u.is).1.0.0 in absurd (omega arith)))

  pub accepted_same : accepted_left (lists_of about order) ≡ accepted about order
  accepted_same =
      let each : (l : ℕ) → accepted_left (lists_of about order) l ≡ accepted about order l =
      λ l. elim (cases_lt l about.lanes) [
        | inl within ↦ ap (λ (y : LaneList). y.accepted) (lane_is about order l within)
        | inr past ↦ ap (λ (y : LaneList). y.accepted) (lane_past about order l past)
            ∙ sym (none_accepted l past)
      ] in λ i l. each l i

  out_same : (o : ℕ) → list_at (lists_of about order).outs o ≡ out about order o
  out_same o = elim (cases_lt o about.outs) [
    | inl within ↦ out_is about order o within
    | inr past ↦ out_past about order o past ∙ sym (none_given o past)
  ]

  pub flows_in_order : FitSizes about → FlowsAreInOrder about (own_of order) (lists_of about order)
  flows_in_order fit t r steers meets p f =
      let here : MeetsPremises about (own_of order) (accepted about order) t r =
      subst (λ (a : ℕ → List ℕ). MeetsPremises about (own_of order) a t r) accepted_same meets in
      subst (λ (z : List (List LaneDrop) × List ℕ).
      InOrder (came_by t r p f) (t.arrivals p) z.0 z.1) (λ i. (
        sym (drops-map (lane_list about order) (range_with_len 0 about.lanes)) i,
        sym (out_same (r.to f)) i,
      )) (delivers_in_order about order t r fit lawful steers here p f)

pub flows_are_in_order : AtEachClosing FlowsAreInOrder
flows_are_in_order =
    at_closings FlowsAreInOrder (λ about order fit lawful. flows_in_order about order lawful fit)
