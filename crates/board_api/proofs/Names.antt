-- The names that the proofs of this crate cite most, passed on from one place. Declares nothing.
pub use Rattle.std.proofs.Common.{◌≡◌, ℕ, ◌/◌, List, [], ◌∷◌, ◌++◌, Some, sym, refl, ap, ◌∙◌, subst}
pub use Rattle.std.proofs.Common.{◌≢◌, suc, ◌+◌, ◌<◌, arith, inl, inr, ◌-◌, ◌≤◌, length}
pub use Rattle.std.proofs.Common.{length-append, None, Option}
pub use Rattle.std.specs.List.{range_with_len}
pub use Rattle.std.specs.Prelude.{slice_get}
pub use Rattle.std.proofs.lemmas.Bool.{cases_eq, cases_lt}
pub use mathlib.Core.Logic.{dite}
pub use native.Mathlib.Decide.{ℕ_discrete}
pub use Rattle.steer_base.specs.Drops.{bucket_of, lane_drop_cause}
pub use Rattle.steer_base.specs.Lanes.{LaneLists}
pub use Rattle.steer_base.specs.declared.put.DropCause.{DropCause}
pub use Rattle.backlog.specs.Puts.{after_put, put_by}
pub use Rattle.history.specs.declared.lane_list.LaneList.{LaneList}
pub use Rattle.linearization.specs.Orders.{StepBy, step_by}
pub use Rattle.linearization.proofs.ListLemmas.{if_same, if_other}
pub use Rattle.linearization.proofs.ViewLemmas.{steps_of_other}
pub use Rattle.hop_rule.specs.Boards.{gate_steps, IsLawful, lane_at, out, MayCome, lanes_of}
pub use Rattle.hop_rule.specs.Deliveries.{delivered_from}
pub use Rattle.hop_rule.specs.Gates.{visit, visit_number}
pub use Rattle.hop_rule.specs.Moments.{nth_step, past}
pub use Rattle.hop_rule.specs.Owns.{own_of}
pub use Rattle.hop_rule.specs.Sizes.{FitSizes, puller}
pub use Rattle.hop_rule.specs.declared.sizes.BoardSizes.{BoardSizes}
pub use Rattle.hop_rule.specs.declared.step.BoardStep.{BoardStep}
pub use Rattle.hop_rule.specs.declared.step.BoardStep.TheVariants.{Lane, Gate}
pub use Rattle.hop_rule.specs.declared.step.Change.TheVariants.{Nothing, Offered, Pulled}
pub use Rattle.hop_rule.specs.declared.step.GateStep.TheVariants.{Read}
pub use Rattle.hop_rule.specs.declared.step.LaneStep.TheVariants.{Given}
pub use Rattle.hop_rule.proofs.Boards.{step_lawful}
pub use Rattle.hop_rule.proofs.Lists.{some-is, none-some}
pub use Rattle.hop_rule.proofs.Moments.{nth-inside}
pub use Rattle.board_api.specs.Closings.Finals.{lists_of}
pub use Rattle.board_api.specs.OwnSteps.{Has, put_step, delivered_by}
pub use Rattle.board_api.specs.declared.lists.BoardLists.{BoardLists}
