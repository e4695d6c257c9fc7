-- The names that the proofs of this crate cite most, passed on from one place. Declares nothing.
pub use Rattle.std.proofs.Common.{◌≡◌, ◌≢◌, ◌⊎◌, inl, inr, ℕ, zero, suc, ◌+◌, ◌<◌, ◌≤◌, List, []}
pub use Rattle.std.proofs.Common.{◌∷◌, ◌++◌, Some, None, All, length, map, sym, refl, ap, ◌∙◌}
pub use Rattle.std.proofs.Common.{arith, ◌-◌, ◌*◌, ◌%◌, ◌^◌, ◌==◌, Bool, true, false, Option}
pub use Rattle.std.proofs.Common.{if◌then◌else◌, take, drop, subst, ◌/◌}
pub use Rattle.std.specs.List.{Contains, fold}
pub use Rattle.std.specs.Option.{option_map}
pub use Rattle.std.specs.Prelude.{nat_le, nat_lt, slice_get, unwrap_or, slice_index}
pub use Rattle.std.proofs.lemmas.Bool.{cases_lt, lt-ltb, ne_eqb, cases_Bool, ltb-true}
pub use Rattle.std.proofs.lemmas.List.{length-map, map-append, get_or_past}
pub use Rattle.std.proofs.lemmas.List.Elements.{All-head, All-tail, All-cons, All-nil}
pub use Rattle.std.proofs.lemmas.List.FromFn.{length-range_with_len}
pub use Rattle.std.proofs.lemmas.Option.{slice_get-map}
pub use Rattle.steer_base.specs.Arrivals.{filter_place, table_place}
pub use Rattle.steer_base.specs.Choices.{class_of, looks_at_head, migrate}
pub use Rattle.steer_base.specs.Sets.{has}
pub use Rattle.steer_base.specs.declared.choice.Choice.{Choice}
pub use Rattle.steer_base.specs.declared.choice.Chosen.{Chosen}
pub use Rattle.steer_base.specs.declared.filter.Filter.{Filter}
pub use Rattle.steer_base.specs.declared.limits.TheConstants.{MAX_SOCKET_SIZE}
pub use Rattle.steer_base.specs.declared.put.Put.{Put}
pub use Rattle.steer_base.specs.declared.put.Put.TheVariants.{At, Dropped}
pub use Rattle.plan_reader.specs.declared.plan.QueuePlan.{QueuePlan}
pub use Rattle.rss_table.specs.Redirection.{Redirection}
pub use Rattle.dev_flow_table.specs.Folds.{after_turn}
pub use Rattle.dev_flow_table.specs.Tables.{Table, cleared}
unfoldable pub use Rattle.dev_flow_table.specs.Walks.{since_resize}
pub use Rattle.history.specs.Lists.{arrivals_at, list_at}
pub use Rattle.history.specs.declared.arrival.Arrival.{Arrival}
pub use Rattle.history.specs.declared.history.History.{History}
pub use Rattle.history.specs.declared.sent.Sent.{Sent}
pub use Rattle.steer_model.specs.Good.Inputs.{Input, setup_in}
pub use Rattle.steer_model.specs.State.Setup.{Setup, packet_hash}
pub use Rattle.linearization.specs.Orders.{StepBy, steps_of}
pub use Rattle.linearization.specs.Seats.{SeatView}
pub use Rattle.linearization.proofs.ListLemmas.{if_other, if_same}
pub use Rattle.hint_words.specs.declared.step.HintStep.{HintStep}
pub use Rattle.hint_words.specs.declared.step.HintStep.TheVariants.{Load, ClearIf, Store}
pub use Rattle.hop_rule.specs.Events.{sum_below}
pub use Rattle.hop_rule.specs.Moments.{nth_step}
pub use Rattle.hop_rule.specs.Owns.{puts_of}
pub use Rattle.hop_rule.specs.declared.sizes.BoardSizes.{BoardSizes}
pub use Rattle.hop_rule.specs.declared.step.BoardStep.{BoardStep}
pub use Rattle.hop_rule.specs.declared.step.BoardStep.TheVariants.{Gate, Lane, Weighed}
pub use Rattle.hop_rule.specs.declared.step.LaneStep.TheVariants.{OutHeld}
pub use Rattle.hop_rule.proofs.Gates.{sum_same}
pub use Rattle.hop_rule.proofs.Lists.{none-some, some-is}
pub use Rattle.hop_rule.proofs.Moments.{nth-first, nth-inside, nth-old, nth-last}
pub use Rattle.run_words.specs.HintViews.{HintView}
pub use Rattle.run_words.specs.Lists.{oldest_first}
pub use Rattle.run_words.specs.Numbers.{hint_number}
pub use Rattle.run_words.specs.Values.{place_in, socket_size_in, filter_in}
pub use Rattle.hop_delivery.specs.Orders.Runs.{Execution, turns_of}
pub use Rattle.hop_delivery.specs.Orders.Turns.{Turn}
pub use Rattle.run_coupling.specs.Coupling.Hints.{HintCodes, StoresAreMeant}
pub use Rattle.run_coupling.specs.Laws.SharedCodes.{AreShared}
pub use Rattle.run_coupling.proofs.Runs.CodeLemmas.{word-says}
pub use Rattle.run_workers.specs.Actors.{actor_at, Each}
pub use Rattle.run_workers.specs.Records.Polling.{PolledTurn, turns_in, choices_in, IsPolling}
pub use Rattle.run_workers.specs.Records.Replying.{IsReplying}
pub use Rattle.run_workers.specs.Records.Words.{Note, Mark}
pub use Rattle.run_workers.specs.Stages.{StageView, stage_view}
pub use Rattle.run_workers.specs.declared.poller.Poller.{Poller}
pub use Rattle.run_crew.specs.ApplicationCoupling.{ApplicationsAreCoupled}
pub use Rattle.run_crew.specs.CountLaws.{IsFull, actor_of, played}
pub use Rattle.run_crew.specs.Crews.{IsPlayed, pollers_of, ships_of, drains_of, AreWorking}
pub use Rattle.run_crew.specs.Crews.{servers_of}
pub use Rattle.run_crew.specs.Executions.{SeatTurns, queue_execution, reply_execution, HasTurns}
pub use Rattle.run_crew.specs.QueueCoupling.{IsMarkedBy, PollersAreCoupled}
pub use Rattle.run_crew.specs.QueueLaws.{ReceiveEnds}
pub use Rattle.run_crew.specs.ReplyLaws.{TransmitEnds}
pub use Rattle.run_crew.specs.Routes.{ByFilter, Leads, LooksUpFilter, Routes}
pub use Rattle.run_crew.specs.StoreCoupling.{StoresInTurn}
pub use Rattle.run_crew.specs.Sweeps.{GoOn}
pub use Rattle.run_crew.specs.declared.seated.Seated.{Seated}
