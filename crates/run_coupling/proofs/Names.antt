-- The names that the proofs of this crate cite most, passed on from one place. Declares nothing.
pub use Rattle.std.proofs.Common.{◌≡◌, ℕ, zero, suc, ◌<◌, ◌≤◌, List, [], ◌∷◌, ◌++◌, length, map}
pub use Rattle.std.proofs.Common.{All, sym, refl, ap, ◌∙◌, arith, length-append, ◌⊎◌, inl, inr, ◌-◌}
pub use Rattle.std.proofs.Common.{true, Option, Some, None, ◌+◌, ◌≢◌, ◌==◌, Bool, take, drop, subst}
pub use Rattle.std.proofs.Common.{◌*◌, ◌/◌, ◌^◌, ◌&&◌, false, if◌then◌else◌}
pub use Rattle.std.specs.List.{cons_option, filter_map, range_with_len}
pub use Rattle.std.specs.Option.{option_map}
pub use Rattle.std.specs.Prelude.{slice_get, slice_index, nat_lt, slice_index_or, slice_set}
pub use Rattle.std.proofs.lemmas.Bool.{eq-eqb, ne_eqb, cases_eq, ltb-true}
pub use Rattle.std.proofs.lemmas.List.{length-map, get_or-set_other}
pub use Rattle.std.proofs.lemmas.List.Elements.{All-head, All-tail, All-from_get_or, All-cons}
pub use Rattle.std.proofs.lemmas.List.Elements.{All-nil}
pub use mathlib.Core.Logic.{dite}
pub use native.Mathlib.Decide.{ℕ_discrete}
pub use Rattle.steer_base.specs.Counters.{rounded_up}
pub use Rattle.steer_base.specs.Sets.{has}
pub use Rattle.steer_base.specs.declared.choice.Chosen.{Chosen}
pub use Rattle.steer_base.specs.declared.command.Command.{Command}
pub use Rattle.steer_base.specs.declared.cpu_mask.CpuMask.{CpuMask}
pub use Rattle.steer_base.specs.declared.put.LaneDrop.{LaneDrop}
pub use Rattle.plan_reader.specs.declared.plan.QueuePlan.{QueuePlan}
pub use Rattle.history.specs.Finding.{is_in}
pub use Rattle.history.specs.Lists.{lane_at, list_at}
pub use Rattle.history.specs.declared.arrival.Arrival.{Arrival}
pub use Rattle.history.specs.declared.commanded.Commanded.{Commanded}
pub use Rattle.history.specs.declared.history.History.{History}
pub use Rattle.steer_model.specs.Good.Inputs.{Input, setup_in, settings_after}
pub use Rattle.steer_model.specs.State.Settings.{Settings, changed}
pub use Rattle.steer_model.specs.State.Start.{initial_settings}
pub use Rattle.steer_model.specs.Steps.Commands.{is_done}
pub use Rattle.linearization.specs.Orders.{StepBy}
pub use Rattle.linearization.proofs.ListLemmas.{if_same, if_other}
pub use Rattle.hop_rule.specs.Boards.{gate_steps}
pub use Rattle.hop_rule.specs.Deliveries.{Delivery, delivery}
pub use Rattle.hop_rule.specs.Events.{sum_below}
pub use Rattle.hop_rule.specs.Gates.{opened, own_settings, with_setting}
pub use Rattle.hop_rule.specs.Moments.{nth_step}
pub use Rattle.hop_rule.specs.Sizes.{puller, FitSizes, closer}
pub use Rattle.hop_rule.specs.declared.sizes.BoardSizes.{BoardSizes}
pub use Rattle.hop_rule.specs.declared.step.BoardStep.{BoardStep}
pub use Rattle.hop_rule.specs.declared.step.BoardStep.TheVariants.{Lane, Gate, Weighed, Counted}
pub use Rattle.hop_rule.specs.declared.step.BoardStep.TheVariants.{OutCounted, LaneOut, LaneIn}
pub use Rattle.hop_rule.specs.declared.step.GateStep.TheVariants.{Entered, Opened, Set, Shut}
pub use Rattle.hop_rule.specs.declared.step.LaneStep.TheVariants.{Held, Missed, Freed, OutHeld}
pub use Rattle.hop_rule.specs.declared.step.LaneStep.TheVariants.{OutMissed, OutFreed, Given}
pub use Rattle.hop_rule.specs.declared.step.LaneStep.TheVariants.{Retired}
pub use Rattle.hop_rule.proofs.Lists.{none-some, some-is}
pub use Rattle.hop_rule.proofs.Moments.{nth-inside, nth-old, nth-some, nth-last}
pub use Rattle.board_api.specs.Laws.Lanes.{DeliveriesHavePlaces, LanesAreInTurn}
pub use Rattle.board_api.specs.Laws.Lanes.{LanesAreServedByOne, ListsAreCounted}
pub use Rattle.board_api.specs.Laws.Puts.{CountsAreSums}
pub use Rattle.board_api.specs.OwnSteps.{Has, delivered_by, delivered_in}
pub use Rattle.board_api.specs.declared.lists.BoardLists.{BoardLists}
pub use Rattle.run_words.specs.Lists.{oldest_first}
pub use Rattle.hop_delivery.specs.Closings.FlowLaw.{accepted_left}
pub use Rattle.hop_delivery.specs.Closings.PutPlaces.{AreTurnsOf}
pub use Rattle.hop_delivery.specs.Orders.Commands.{sent_sets, received_sets, SettingChange}
pub use Rattle.hop_delivery.specs.Orders.ReceiveSettings.{Queues, queues}
pub use Rattle.hop_delivery.specs.Orders.Runs.{Execution, turns_of, Steering}
pub use Rattle.hop_delivery.specs.Orders.Turns.{Turn}
pub use Rattle.run_coupling.specs.Coupling.Ends.{retired_count}
pub use Rattle.run_coupling.specs.Coupling.Inputs.{AreTransmitWords, NamesTransmitQueues}
pub use Rattle.run_coupling.specs.Coupling.Inputs.{AreReceiveWords, NamesReceiveQueues}
pub use Rattle.run_coupling.specs.Coupling.Tries.{Try, settings_by, tries_up_to, sets_and_openings}
pub use Rattle.run_coupling.specs.Coupling.Tries.{steps_of_tries, words_after, AllSetByAnswer}
pub use Rattle.run_coupling.specs.Coupling.Turns.{KeepsTurns}
