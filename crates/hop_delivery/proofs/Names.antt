-- The names that the proofs of this crate cite most, passed on from one place. Declares nothing.
pub use Rattle.std.proofs.Common.{◌≡◌, inl, inr, ℕ, ◌≤◌, List, [], ◌∷◌, Some, sym, refl, ap, ◌∙◌}
pub use Rattle.std.proofs.Common.{subst, arith, ◌≢◌, zero, suc, ◌+◌, ◌-◌, ◌++◌, Option, None}
pub use Rattle.std.proofs.Common.{length, if◌then◌else◌, ◌<◌, ◌==◌, Bool, true, take, drop, ◌%◌}
pub use Rattle.std.proofs.Common.{◌^◌, ◌⊎◌, false, not}
pub use Rattle.std.proofs.lemmas.Bool.{cases_lt, cases_Bool, true≢false, eq-eqb, cases_eq}
pub use Rattle.std.specs.List.{range_with_len, list_any}
pub use Rattle.std.specs.Prelude.{slice_get, nat_lt, slice_index}
pub use mathlib.Core.Logic.{dite}
pub use native.Mathlib.Decide.{ℕ_discrete}
pub use Rattle.steer_base.specs.{Choices.migrate, Drops.lane_drop_cause}
pub use Rattle.steer_base.specs.Entries.{entry, of_class, current_lane, position}
pub use Rattle.steer_base.specs.{Sets.has, declared.choice.Chosen.Chosen, declared.put.Put.Put}
pub use Rattle.linearization.proofs.ListLemmas.{if_same, if_other}
pub use Rattle.linearization.specs.Orders.{StepBy, steps_of}
pub use Rattle.hop_rule.proofs.{Boards.step_lawful, Lists.none-some, Lists.some-is}
pub use Rattle.hop_rule.proofs.Moments.{nth-some, nth-inside, step-inside}
pub use Rattle.hop_rule.specs.Boards.{IsLawful, accepted, settings}
pub use Rattle.hop_rule.specs.{Gates.with_setting, Moments.IsStep, Moments.nth_step, Moments.past}
pub use Rattle.hop_rule.specs.{Owns.own_of, PutLaws.IsPut, Sizes.FitSizes, Sizes.closer}
pub use Rattle.hop_rule.specs.declared.{sizes.BoardSizes.BoardSizes, step.BoardStep.BoardStep}
pub use Rattle.hop_rule.specs.declared.step.BoardStep.TheVariants.{Lane, Gate, Weighed}
pub use Rattle.hop_rule.specs.declared.step.Change.TheVariants.{Offered}
pub use Rattle.hop_rule.specs.declared.step.GateStep.TheVariants.{Entered, Left, Set}
pub use Rattle.hop_rule.specs.declared.step.LaneStep.{LaneStep, TheVariants.Freed}
pub use Rattle.board_api.proofs.Endings.{at_closings}
pub use Rattle.board_api.specs.{Closings.Finals.lists_of, declared.lists.BoardLists.BoardLists}
pub use Rattle.hop_delivery.specs.Closings.{FlowLaw.accepted_left, TurnReads.TurnsKnowSettings}
pub use Rattle.hop_delivery.specs.Orders.ReceiveSettings.{Queues, online_word, receive_steering}
pub use Rattle.hop_delivery.specs.Orders.Runs.{Execution, turns_of, Steering, goal_of, IsSteering}
pub use Rattle.hop_delivery.specs.Orders.Turns.{Turn, turn_put, Explained}
unfoldable pub use Rattle.dev_flow_table.specs.Walks.{since_resize}
