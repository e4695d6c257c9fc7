-- The names that the proofs of this crate cite most, passed on from one place. Declares nothing.
pub use Rattle.std.proofs.Common.{◌≡◌, ℕ, zero, suc, ◌-◌, ◌<◌, ◌≤◌, List, [], ◌∷◌, ◌++◌, Option}
pub use Rattle.std.proofs.Common.{length, drop, sym, refl, ap, ◌∙◌, subst, arith, ◌≢◌, ◌+◌, ◌==◌}
pub use Rattle.std.proofs.Common.{if◌then◌else◌, inl, inr, ◌/◌, ◌%◌, Some, None, length-append}
pub use Rattle.std.proofs.Common.{false, ◌⊎◌, get_or}
pub use Rattle.std.specs.Prelude.{slice_get}
pub use Rattle.std.proofs.lemmas.Bool.{cases_lt, cases_eq}
pub use mathlib.Core.Logic.{dite}
pub use native.Mathlib.Decide.{ℕ_discrete}
pub use Rattle.steer_base.specs.Drops.{bucket_of, lane_drop_cause}
pub use Rattle.steer_base.specs.Lanes.{LaneLists}
pub use Rattle.steer_base.specs.declared.put.DropCause.{DropCause}
pub use Rattle.steer_base.specs.declared.put.Put.{Put}
pub use Rattle.backlog.specs.Puts.{after_put, put_by}
pub use Rattle.linearization.specs.Orders.{StepBy, step_by, steps_of}
pub use Rattle.linearization.proofs.ListLemmas.{if_same, if_other}
pub use Rattle.linearization.proofs.ViewLemmas.{steps_of_own, steps_of_other}
pub use Rattle.hop_rule.specs.Boards.{lane_at, lanes_of, gates_of, MayCome, IsLawful, retired, out}
pub use Rattle.hop_rule.specs.Deliveries.{Delivery, delivery, delivered_from}
pub use Rattle.hop_rule.specs.Events.{sum_below}
pub use Rattle.hop_rule.specs.Lanes.{lane_changed, lane_after_step, out_after, lane, AreLawful}
pub use Rattle.hop_rule.specs.Moments.{past, IsStep, nth_step, moment_of}
pub use Rattle.hop_rule.specs.OutLanes.{OutList}
pub use Rattle.hop_rule.specs.PutLaws.{IsPut, lane_then}
pub use Rattle.hop_rule.specs.SettingLaws.{closers}
pub use Rattle.hop_rule.specs.Sizes.{closer, puller}
pub use Rattle.hop_rule.specs.declared.sizes.BoardSizes.{BoardSizes}
pub use Rattle.hop_rule.specs.declared.step.BoardStep.{BoardStep}
pub use Rattle.hop_rule.specs.declared.step.BoardStep.TheVariants.{Lane, Gate, Weighed, Counted}
pub use Rattle.hop_rule.specs.declared.step.BoardStep.TheVariants.{LaneOut, LaneIn, OutCounted}
pub use Rattle.hop_rule.specs.declared.step.Change.{Change}
pub use Rattle.hop_rule.specs.declared.step.Change.TheVariants.{Nothing, Offered, Pulled}
pub use Rattle.hop_rule.specs.declared.step.GateStep.{GateStep}
pub use Rattle.hop_rule.specs.declared.step.GateStep.TheVariants.{NotShut, Opened, Shut, Entered}
pub use Rattle.hop_rule.specs.declared.step.GateStep.TheVariants.{Turned, Left, Set, Read}
pub use Rattle.hop_rule.specs.declared.step.LaneStep.{LaneStep}
pub use Rattle.hop_rule.specs.declared.step.LaneStep.TheVariants.{Held, Missed, Freed, OutHeld}
pub use Rattle.hop_rule.specs.declared.step.LaneStep.TheVariants.{OutMissed, OutFreed, Given}
pub use Rattle.hop_rule.specs.declared.step.LaneStep.TheVariants.{Retired}
