-- The names that the proofs of this crate cite most, passed on from one place. Declares nothing.
pub use Rattle.std.proofs.Common.{◌≡◌, ℕ, zero, suc, ◌+◌, ◌*◌, ◌^◌, ◌<◌, Bool, true, false, List}
pub use Rattle.std.proofs.Common.{[], ◌∷◌, Some, None, length, map, All, if◌then◌else◌, refl, sym}
pub use Rattle.std.proofs.Common.{ap, subst, ◌∙◌, arith, ◌⊎◌, inl, inr, ◌++◌, append_assoc, ◌≤◌}
pub use Rattle.std.proofs.Common.{length-append, Option}
pub use Rattle.std.specs.List.{Contains}
pub use Rattle.std.proofs.lemmas.List.{length-map}
pub use Rattle.std.proofs.lemmas.List.Elements.{All-head, All-tail, All-cons, All-nil}
pub use Rattle.steer_base.specs.declared.command.Answer.{Answer}
pub use Rattle.steer_base.specs.declared.command.Busy.TheVariants.{Inside, NotEmpty}
pub use Rattle.steer_base.specs.declared.command.Command.{Command}
pub use Rattle.steer_base.specs.declared.cpu_mask.CpuMask.{CpuMask}
pub use Rattle.steer_base.specs.declared.limits.TheConstants.{MAX_SOCKET_SIZE}
pub use Rattle.plan_reader.specs.declared.plan.Plan.{Plan}
pub use Rattle.plan_reader.specs.declared.plan.QueuePlan.{QueuePlan}
pub use Rattle.history.specs.declared.commanded.Commanded.{Commanded}
pub use Rattle.history.specs.declared.history.History.{History}
pub use Rattle.steer_model.specs.Good.Inputs.{Input, setup_in}
pub use Rattle.steer_model.specs.State.Settings.{Settings}
pub use Rattle.steer_model.specs.State.Setup.{Setup}
pub use Rattle.steer_model.specs.Steps.Commands.{is_done}
pub use Rattle.hint_words.specs.declared.step.HintStep.{HintStep}
pub use Rattle.hint_words.specs.declared.step.HintStep.TheVariants.{ClearIf, Store}
pub use Rattle.hop_rule.specs.Boards.{gate_steps}
pub use Rattle.hop_rule.specs.Gates.{closed, visit}
pub use Rattle.hop_rule.specs.declared.sizes.BoardSizes.{BoardSizes}
pub use Rattle.hop_rule.specs.declared.step.BoardStep.{BoardStep}
pub use Rattle.hop_rule.specs.declared.step.BoardStep.TheVariants.{Weighed, Gate}
pub use Rattle.hop_rule.proofs.Lists.{none-some, some-is}
pub use Rattle.board_api.specs.Calls.Results.{Looked, looking}
pub use Rattle.board_api.specs.Seats.{BoardSeatView}
pub use Rattle.board_api.specs.Views.{BoardView}
pub use Rattle.run_words.specs.HintViews.{HintView, after_step}
pub use Rattle.run_words.specs.Lists.{oldest_first}
pub use Rattle.run_words.specs.Numbers.{hint_number}
pub use Rattle.run_words.specs.declared.seats.Seats.{Seats}
pub use Rattle.run_words.specs.declared.shared.Shared.{Shared}
pub use Rattle.hop_delivery.specs.Orders.Commands.{SettingChange, received_sets, sent_sets}
pub use Rattle.hop_delivery.specs.Orders.ReceiveSettings.{Queues, queues}
pub use Rattle.run_coupling.specs.Coupling.Inputs.{NamesReceiveQueues}
pub use Rattle.run_coupling.specs.Coupling.Tries.{Try}
pub use Rattle.run_controller.specs.Attempts.{TriesUnless}
pub use Rattle.run_controller.specs.Expiries.{ExpiresAll}
pub use Rattle.run_controller.specs.Gated.{GatedTriesKeep, IsGated}
pub use Rattle.run_controller.specs.Journals.{known_from, IsGivenOnce}
pub use Rattle.run_controller.specs.Settings.{KnownSettings, first_known, receive_change}
pub use Rattle.run_controller.specs.Settings.{transmit_change, IsKnown}
pub use Rattle.run_controller.specs.Stages.{Stage, stage, IsNamed, AreSeated}
pub use Rattle.run_controller.specs.declared.change.Change.{Change}
