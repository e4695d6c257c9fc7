-- The names that the proofs of this crate cite most, passed on from one place. Declares nothing.
pub use Rattle.std.proofs.Common.{◌≡◌, ℕ, ◌==◌, ◌&&◌, Bool, List, [], ◌∷◌, map, sym, refl, ap, ◌∙◌}
pub use Rattle.std.proofs.Common.{subst, ◌+◌, ◌≤◌, length, length-append, arith, ◌++◌, inl, inr}
pub use Rattle.std.proofs.Common.{suc, true, false, not, get_or, append_assoc, Option, Some, None}
pub use Rattle.std.proofs.Common.{All, ◌≢◌, zero, ◌/◌, ◌^◌, ◌<◌, ◌%◌, if◌then◌else◌, take, ◌⊎◌, ◌-◌}
pub use Rattle.std.proofs.Common.{drop}
pub use Rattle.std.specs.List.{list_any}
pub use Rattle.std.specs.Prelude.{slice_get, unwrap_or}
pub use Rattle.std.proofs.lemmas.Bool.{lt-ltb}
pub use Rattle.std.proofs.lemmas.List.{length-map}
pub use Rattle.std.proofs.lemmas.List.Elements.{All-from_get_or}
pub use Rattle.std.proofs.lemmas.Option.{slice_get-get_or}
pub use Rattle.steer_base.specs.Choices.{migrate, by_entry}
pub use Rattle.steer_base.specs.Counters.{distance, has_reached}
pub use Rattle.steer_base.specs.Entries.{entry}
pub use Rattle.steer_base.specs.Orders.{InOrder}
pub use Rattle.steer_base.specs.Sets.{has}
pub use Rattle.steer_base.specs.declared.choice.Choice.{Choice}
pub use Rattle.steer_base.specs.declared.choice.Chosen.{Chosen}
pub use Rattle.steer_base.specs.declared.choice.Entry.{Entry}
pub use Rattle.steer_base.specs.declared.choice.Why.{Why}
pub use Rattle.steer_base.specs.declared.choice.Why.TheVariants.{Kept, Offline, Passed, Same}
pub use Rattle.steer_base.specs.declared.command.Command.{Command}
pub use Rattle.steer_base.specs.declared.command.Refused.{Refused}
pub use Rattle.steer_base.specs.declared.put.LaneDrop.{LaneDrop}
unfoldable pub use Rattle.dev_flow_table.specs.Walks.{since_resize}
pub use Rattle.history.specs.Finding.{is_in}
pub use Rattle.history.specs.Lists.{arrivals_at, list_at, lane_at}
pub use Rattle.history.specs.declared.commanded.Commanded.{Commanded}
pub use Rattle.history.specs.declared.history.History.{History}
pub use Rattle.history.specs.declared.lane_list.LaneList.{LaneList}
pub use Rattle.history.specs.declared.sent.Sent.{Sent}
pub use Rattle.hop_model.specs.Hop.{chosen_at, nobody}
pub use Rattle.steer_model.specs.Good.Commands.{refused_with}
pub use Rattle.steer_model.specs.Good.Inputs.{Input, setup_in, settings_at}
pub use Rattle.steer_model.specs.State.Settings.{Settings}
pub use Rattle.steer_model.specs.State.Setup.{app_for, flow_number_of, packet_hash}
pub use Rattle.steer_model.specs.State.Start.{initial_settings}
pub use Rattle.hop_rule.specs.Boards.{gate_steps}
pub use Rattle.hop_rule.specs.Moments.{nth_step}
pub use Rattle.hop_rule.specs.Owns.{own_of}
pub use Rattle.hop_rule.specs.Sizes.{closer}
pub use Rattle.hop_rule.specs.declared.sizes.BoardSizes.{BoardSizes}
pub use Rattle.hop_rule.specs.declared.step.BoardStep.{BoardStep}
pub use Rattle.hop_rule.specs.declared.step.BoardStep.TheVariants.{Gate, Weighed, Counted}
pub use Rattle.hop_rule.specs.declared.step.GateStep.TheVariants.{Shut, Opened}
pub use Rattle.hop_rule.proofs.Lists.{none-some, some-is}
pub use Rattle.hop_rule.proofs.Moments.{nth-last, nth-old, nth-inside, nth-some}
pub use Rattle.board_api.specs.Closings.Closings.{own_in}
pub use Rattle.board_api.specs.Closings.Finals.{lists_of}
pub use Rattle.board_api.specs.Laws.Heads.{VisitNumbersRise}
pub use Rattle.board_api.specs.OwnSteps.{Has}
pub use Rattle.board_api.specs.declared.lists.BoardLists.{BoardLists}
pub use Rattle.board_api.proofs.Endings.{at_closings}
pub use Rattle.board_api.proofs.OwnLanes.{lanes_are_in_turn}
pub use Rattle.hop_delivery.specs.Closings.FlowLaw.{accepted_left}
pub use Rattle.hop_delivery.specs.Orders.Commands.{SettingChange}
pub use Rattle.hop_delivery.specs.Orders.ReceiveSettings.{receive_steering}
pub use Rattle.hop_delivery.specs.Orders.Runs.{Steering, Execution, turns_of, word_of}
pub use Rattle.hop_delivery.specs.Orders.Turns.{Turn, Explained}
pub use Rattle.run_coupling.specs.Coupling.Answers.{AllAnswered, IsAnswered}
pub use Rattle.run_coupling.specs.Coupling.Inputs.{receive_queues}
pub use Rattle.run_coupling.specs.Coupling.Runs.{IsRun}
pub use Rattle.run_coupling.specs.Coupling.Tries.{Try, at_receive, settings_by, tries_up_to}
pub use Rattle.run_coupling.specs.Coupling.Tries.{steps_of_tries, at_transmit}
pub use Rattle.run_coupling.specs.Laws.Choices.{commands_before}
pub use Rattle.run_coupling.specs.Laws.Replies.{RepliesAreBy, commands_before_reply}
pub use Rattle.run_coupling.proofs.Lists.PlaceLemmas.{StandOnce, at_in}
pub use Rattle.run_coupling.proofs.Runs.FactLemmas.{BoardFacts}
pub use Rattle.run_coupling.proofs.Runs.PutTurnLemmas.{turn-at}
pub use Rattle.run_coupling.proofs.Tries.RangeLemmas.{IsWithinPlan}
