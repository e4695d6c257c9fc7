-- No more packets than the limit ever wait in a lane.
use Rattle.std.proofs.Common.{◌≡◌, inl, inr, ℕ, ◌+◌, ◌-◌, ◌≤◌, Bool, List, [], ◌∷◌}
use Rattle.std.proofs.Common.{Option, Some, None, length, if◌then◌else◌, sym, refl, ap, ◌∙◌, arith}
use Rattle.std.proofs.Common.{eq-eqb, length-append}
use Rattle.std.specs.Option.{option_map}
use Rattle.std.proofs.lemmas.Bool.{cases_lt}
use Rattle.steer_base.specs.Drops.{bucket_count, bucket_of, flow_cause, lane_drop_cause}
use Rattle.steer_base.specs.Lanes.{LaneLists}
use Rattle.steer_base.specs.declared.put.DropCause.{DropCause}
use Rattle.steer_base.specs.declared.put.DropCause.TheVariants.{Full}
use Rattle.backlog.specs.Puts.{put_by}
use Rattle.linearization.specs.Orders.{StepBy}
use Rattle.hop_rule.specs.Lanes as lanes
use Rattle.hop_rule.specs.declared.sizes.BoardSizes.{BoardSizes}
use Rattle.hop_rule.specs.declared.step.Change.{Change}
use Rattle.hop_rule.specs.declared.step.Change.TheVariants.{Nothing, Offered, Pulled}
use Rattle.hop_rule.specs.declared.step.LaneStep.{LaneStep}
use Rattle.hop_rule.proofs.Cases.{lane_case}
use Rattle.hop_rule.proofs.Lists.{none-some}

pub record HasRoom (about : BoardSizes) (x : LaneLists) : Type 0 where
  pub limit : x.limit ≡ about.limit
  pub waits : length x.accepted ≤ x.pulled + about.limit

abbrev cause_if : LaneLists → Option ℕ → Bool → Option DropCause
cause_if x hash b =
    if b then Some Full
    else flow_cause x.limited x.limit (length x.accepted - x.pulled)
    (option_map (bucket_count x.offers) (bucket_of hash))

-- where no cause is given, the lane is not full
not-full : (x : LaneLists) (hash : Option ℕ) → lane_drop_cause x hash ≡ None
    → length x.accepted - x.pulled ≡ x.limit → ⊥
not-full x hash none is =
    let full : lane_drop_cause x hash ≡ Some Full =
    ap (cause_if x hash) (eq-eqb (length x.accepted - x.pulled) x.limit is) in
    none-some Full (sym none ∙ full)

module _ (about : BoardSizes) where
  put-room : (x : LaneLists) (id : ℕ) (hash : Option ℕ) (cause : Option DropCause)
      → lane_drop_cause x hash ≡ cause → HasRoom about x
      → HasRoom about (put_by cause x id (bucket_of hash))
  put-room x id hash (Some cause) is r = record { limit = r.limit; waits = r.waits }
  put-room x id hash None is r =
      let limit = r.limit in
      let waits = r.waits in
      let one = length-append x.accepted (id ∷ []) in
      elim (cases_lt (length x.accepted) (x.pulled + about.limit)) [
        | inl less ↦ record { limit = r.limit; waits = omega arith }
        | inr full ↦ absurd (not-full x hash is (omega arith))
      ]

  change-room : (c : Change) (x : LaneLists) → HasRoom about x
      → HasRoom about (lanes.lane_changed c x)
  change-room Nothing x r = r
  change-room (Offered id hash answer) x r = put-room x id hash (lane_drop_cause x hash) refl r
  change-room (Pulled id) x r =
      record { limit = r.limit; waits = (let waits = r.waits in omega arith) }

  pub rooms : (l : ℕ) (es : List (StepBy LaneStep)) → HasRoom about (lanes.lane about l es)
  rooms l [] = record { limit = refl; waits = omega arith }
  rooms l (e ∷ es) =
      lane_case (HasRoom about) l e.step (lanes.lane about l es)
      (λ c _. change-room c (lanes.lane about l es) (rooms l es)) (rooms l es)
