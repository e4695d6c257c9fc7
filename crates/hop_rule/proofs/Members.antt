-- Deliveries as steps of the order, and the members of an out lane.
use Rattle.hop_rule.specs.Lanes as lanes
use Rattle.hop_rule.specs.Deliveries.{given_after}
use Rattle.hop_rule.proofs.Names.{◌≡◌, ◌⊎◌, inl, inr, ℕ, zero, suc, ◌+◌, ◌<◌, List, [], ◌∷◌, ◌++◌}
use Rattle.hop_rule.proofs.Names.{length, sym, refl, ap, ◌∙◌, subst, arith, Some, slice_get, StepBy}
use Rattle.hop_rule.proofs.Names.{step_by, if_same, BoardSizes, BoardStep, Lane, Gate, Weighed}
use Rattle.hop_rule.proofs.Names.{Counted, LaneOut, LaneIn, OutCounted, LaneStep, Held, Missed}
use Rattle.hop_rule.proofs.Names.{Freed, OutHeld, OutMissed, OutFreed, Given, Retired, OutList}
use Rattle.hop_rule.proofs.Names.{lanes_of, Delivery, delivery, delivered_from, nth_step, IsStep}
use Rattle.hop_rule.proofs.Cases.{pick, lane_part}
use Rattle.hop_rule.proofs.Lists.{some-is, none-some}
use Rattle.hop_rule.proofs.Lanes.{out_holds}
use Rattle.hop_rule.proofs.Deliveries.{Each}
use Rattle.hop_rule.proofs.Moments.{step-more, step-last, nth-inside, nth-old}

-- what holds of each delivery step of a lane holds of its deliveries
pub each_given : (about : BoardSizes) (l : ℕ) (P : Delivery → Type 0) (es : List (StepBy BoardStep))
    → ((n q o id place : ℕ) → IsStep es n q (Lane (Given o l id place)) → P (delivery o id place))
    → Each about P (delivered_from l (lanes_of es))
each_given about l P [] all = tt
each_given about l P (e ∷ es) all = by_step e.by e.step (λ n q o id place is. all n q o id place is)
    (each_given about l P es
    (λ n q o id place is. all n q o id place (step-more e es n q (Lane (Given o l id place)) is)))
  where
    by_lane : (p : ℕ) (d : LaneStep)
        → ((n q o id place : ℕ) → IsStep (step_by p (Lane d) ∷ es) n q (Lane (Given o l id place))
        → P (delivery o id place)) → Each about P (delivered_from l (lanes_of es))
        → Each about P (given_after l d (delivered_from l (lanes_of es)))
    by_lane p (Given o from id place) all' t = pick from l
        (delivery o id place ∷ delivered_from l (lanes_of es)) (delivered_from l (lanes_of es))
        (Each about P)
        (λ e. (
          all' (length es) p o id place
              (subst (λ (z : ℕ). IsStep (step_by p (Lane (Given o from id place)) ∷ es)
              (length es) p
              (Lane (Given o z id place))) e (step-last p (Lane (Given o from id place)) es)),
          t,
        ))
        (λ _. t)
    by_lane p (Held i w x) all' t = t
    by_lane p (Missed i w) all' t = t
    by_lane p (Freed i c) all' t = t
    by_lane p (OutHeld i w x) all' t = t
    by_lane p (OutMissed i w) all' t = t
    by_lane p (OutFreed i) all' t = t
    by_lane p (Retired i w) all' t = t

    by_step : (p : ℕ) (d : BoardStep)
        → ((n q o id place : ℕ) → IsStep (step_by p d ∷ es) n q (Lane (Given o l id place))
        → P (delivery o id place)) → Each about P (delivered_from l (lanes_of es))
        → Each about P (delivered_from l (lane_part p d (lanes_of es)))
    by_step p (Lane d) all' t = by_lane p d all' t
    by_step p (Gate d) all' t = t
    by_step p (Weighed i w) all' t = t
    by_step p (Counted i w) all' t = t
    by_step p (OutCounted i w) all' t = t
    by_step p (LaneOut i) all' t = t
    by_step p (LaneIn i) all' t = t

module _ (about : BoardSizes) (o k x : ℕ) where
  -- a member of an out lane was delivered from some lane
  pub record GivenAt (es : List (StepBy LaneStep)) : Type 0 where
    pub lane : ℕ
    pub index : ℕ
    pub inside : lane < about.lanes
    pub at : nth_step (delivered_from lane es) index ≡ Some (delivery o x (suc k))

  nth-more : (l : ℕ) (d : LaneStep) (gs : List Delivery) (j : ℕ) (g : Delivery)
      → nth_step gs j ≡ Some g → nth_step (given_after l d gs) j ≡ Some g
  nth-more l (Given i from id place) gs j g at = pick from l (delivery i id place ∷ gs) gs
      (λ z. nth_step z j ≡ Some g)
      (λ _. nth-old (delivery i id place ∷ []) gs j (nth-inside gs j g at) ∙ at) (λ _. at)
  nth-more l (Held i w y) gs j g at = at
  nth-more l (Missed i w) gs j g at = at
  nth-more l (Freed i c) gs j g at = at
  nth-more l (OutHeld i w y) gs j g at = at
  nth-more l (OutMissed i w) gs j g at = at
  nth-more l (OutFreed i) gs j g at = at
  nth-more l (Retired i w) gs j g at = at

  given-more : (p : ℕ) (d : LaneStep) (es : List (StepBy LaneStep)) → GivenAt es
      → GivenAt (step_by p d ∷ es)
  given-more p d es t = record {
    lane = t.lane;
    index = t.index;
    inside = t.inside;
    at =
        nth-more t.lane d (delivered_from t.lane es) t.index (delivery o x (suc k)) t.at;
  }

  get-end : (xs : List ℕ) (y j : ℕ) → slice_get (xs ++ y ∷ []) j ≡ Some x
      → (slice_get xs j ≡ Some x) ⊎ ((length xs ≡ j) × (y ≡ x))
  get-end [] y zero e = inr (refl, some-is y x e)
  get-end [] y (suc j) e = none-some x e
  get-end (z ∷ xs) y zero e = inl e
  get-end (z ∷ xs) y (suc j) e =
      elim (get-end xs y j e) [ inl a ↦ inl a | inr b ↦ inr (ap suc b.0, b.1) ]

  pub out_given : (es : List (StepBy LaneStep)) → lanes.AreLawful about es
      → slice_get (lanes.out o es) k ≡ Some x → GivenAt es
  out_given [] lawful at = none-some x at
  out_given (e ∷ es) lawful at = by_step e.by e.step lawful.0 (out_given es lawful.1) at
    where
      by_step : (p : ℕ) (d : LaneStep) → lanes.MayCome about p es d
          → (slice_get (lanes.out o es) k ≡ Some x → GivenAt es)
          → slice_get (lanes.out_after o d (lanes.out o es)) k ≡ Some x → GivenAt (step_by p d ∷ es)
      by_step p (Held i w y) may t at = given-more p (Held i w y) es (t at)
      by_step p (Missed i w) may t at = given-more p (Missed i w) es (t at)
      by_step p (Freed i c) may t at = given-more p (Freed i c) es (t at)
      by_step p (OutHeld i w y) may t at = given-more p (OutHeld i w y) es (t at)
      by_step p (OutMissed i w) may t at = given-more p (OutMissed i w) es (t at)
      by_step p (OutFreed i) may t at = given-more p (OutFreed i) es (t at)
      by_step p (Retired i w) may t at = given-more p (Retired i w) es (t at)
      by_step p (Given i from id place) may t at = pick i o (lanes.out o es ++ id ∷ [])
          (lanes.out o es) (λ z. slice_get z k ≡ Some x
          → GivenAt (step_by p (Given i from id place) ∷ es))
          (λ same a. elim (get-end (lanes.out o es) id k a) [
            | inl old ↦ given-more p (Given i from id place) es (t old)
            | inr new ↦ (
                let gs : List Delivery = delivered_from from es in
                let g : Delivery = delivery i id place in
                let found = (out_holds about es lawful.1 i p may.2.0 may.2.1).1 in
                let place_is : place ≡ suc k = may.2.3
                ∙ (ap (λ (z : OutList). length z.items + 1) (sym found)
                ∙ (let n : length (lanes.out i es) ≡ k = ap (λ z. length (lanes.out z es)) same
                ∙ new.0 in omega arith)) in
                record {
                  lane = from;
                  index = length gs;
                  inside = may.1;
                  at = ap (λ z. nth_step z (length gs)) (if_same from from (g ∷ gs) gs refl)
                      ∙ (if_same (length gs) (length gs) (Some g) (nth_step gs (length gs)) refl
                      ∙ (λ j. Some (delivery (same j) (new.1 j) (place_is j))));
                })
          ])
          (λ _ a. given-more p (Given i from id place) es (t a)) at
