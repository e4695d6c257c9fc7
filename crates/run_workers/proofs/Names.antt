-- The names that the proofs of this crate cite most, passed on from one place. Declares nothing.
pub use Rattle.std.proofs.Common.{◌≡◌, ℕ, ◌<◌, ◌≤◌, Some, slice_get, sym, subst, ◌∙◌, List, []}
pub use Rattle.std.proofs.Common.{None, refl, length, ap, length-set, slice_set, ◌≢◌, ◌⊎◌, inl, inr}
pub use Rattle.std.proofs.Common.{zero, suc, ◌+◌, ◌*◌, ◌==◌, true, false, ◌∷◌, arith, All, Bool}
pub use Rattle.std.proofs.Common.{Option, IfSome, if◌then◌else◌, slice_index, ◌++◌, append_assoc}
pub use Rattle.std.proofs.Common.{take, length-append, unwrap_or, ◌||◌, map}
pub use Rattle.std.specs.List.{Contains}
pub use Rattle.std.proofs.lemmas.Bool.Decides.{eqb_tells}
pub use Rattle.std.proofs.lemmas.List.{map-append}
pub use Rattle.std.proofs.lemmas.List.Elements.{All-cons, filter_map-append, Contains-append_left}
pub use Rattle.std.proofs.lemmas.List.Elements.{Contains-append_right, Contains-push}
pub use Rattle.std.proofs.lemmas.Option.{slice_get_within}
pub use Rattle.steer_base.specs.Arrivals.{filter_place}
pub use Rattle.steer_base.specs.Choices.{class_of}
pub use Rattle.steer_base.specs.Counters.{number}
pub use Rattle.steer_base.specs.Journals.{Journal, grown}
pub use Rattle.steer_base.specs.Lanes.{LaneLists}
pub use Rattle.steer_base.specs.Sets.{has}
pub use Rattle.steer_base.specs.declared.choice.Choice.{Choice}
pub use Rattle.steer_base.specs.declared.choice.Chosen.{Chosen}
pub use Rattle.steer_base.specs.declared.cpu_mask.CpuMask.{CpuMask}
pub use Rattle.steer_base.specs.declared.filter.Filter.{Filter}
pub use Rattle.steer_base.specs.declared.put.Put.{Put}
pub use Rattle.steer_base.specs.declared.put.Put.TheVariants.{At, Dropped}
pub use Rattle.dev_flow_table.specs.Folds.{table_after}
pub use Rattle.dev_flow_table.specs.Tables.{IsClassOf, Table, weighed}
pub use Rattle.xps_map.specs.Maps.{Maps, no_cpus}
pub use Rattle.history.specs.declared.arrival.Arrival.{Arrival}
pub use Rattle.history.specs.declared.sent.Sent.{Sent}
pub use Rattle.history.specs.declared.sock_write.SockWrite.{SockWrite}
pub use Rattle.steer_model.specs.State.Setup.{Setup, packet_hash}
pub use Rattle.steer_model.specs.Steps.Pollers.{filter_for}
pub use Rattle.linearization.specs.Orders.{StepBy, step_by, steps_of}
pub use Rattle.linearization.specs.Seats.{SeatView}
pub use Rattle.linearization.proofs.ListLemmas.{if_same}
pub use Rattle.hint_words.specs.declared.step.HintStep.{HintStep}
pub use Rattle.hint_words.specs.declared.step.HintStep.TheVariants.{Load}
pub use Rattle.hop_rule.specs.Boards.{lane_steps, out_slot, gate_steps}
pub use Rattle.hop_rule.specs.Gates.{visit, closed}
pub use Rattle.hop_rule.specs.Lanes.{holding, idle, out_holding, phase}
pub use Rattle.hop_rule.specs.Moments.{nth_step}
pub use Rattle.hop_rule.specs.OutLanes.{OutList}
pub use Rattle.hop_rule.specs.declared.sizes.BoardSizes.{BoardSizes}
pub use Rattle.hop_rule.specs.declared.step.BoardStep.{BoardStep}
pub use Rattle.hop_rule.specs.declared.step.BoardStep.TheVariants.{Lane, LaneIn, Gate}
pub use Rattle.hop_rule.specs.declared.step.GateStep.TheVariants.{Entered, Left, Read, Turned}
pub use Rattle.hop_rule.specs.declared.step.LaneStep.TheVariants.{OutHeld, OutFreed}
pub use Rattle.hop_rule.proofs.Lists.{none-some, some-is}
pub use Rattle.hop_rule.proofs.Moments.{nth-inside}
pub use Rattle.board_api.specs.Calls.Results.{Took, BackTells, released, PutTells}
pub use Rattle.board_api.specs.Calls.Rights.{HasOpen, IsOutside, IsInside}
pub use Rattle.board_api.specs.Seats.{BoardSeatView, Adds}
pub use Rattle.board_api.specs.Views.{BoardView}
pub use Rattle.board_api.specs.declared.held_lane.HeldLane.{HeldLane}
pub use Rattle.board_api.proofs.AddedSteps.{quiet_steps_stay}
pub use Rattle.run_words.specs.Lists.{oldest_first}
pub use Rattle.run_words.specs.Values.{cpus_in, queues_in, socket_size_in}
pub use Rattle.run_words.specs.declared.seats.Seats.{Seats}
pub use Rattle.hop_delivery.specs.Orders.Turns.{Explained, Turn, AreQuiet, visit_with}
pub use Rattle.hop_delivery.proofs.Orders.TurnLemmas.{explained_more}
pub use Rattle.run_workers.specs.Actors.{KeepsServer, KeepsDrain, KeepsPoller, Each, IsTurnOfOne}
pub use Rattle.run_workers.specs.Actors.{actor_at, IsForeign}
pub use Rattle.run_workers.specs.Hands.Deltas.{Serves, this_lane, HoldsNoMore, LeavesLane}
pub use Rattle.run_workers.specs.Hands.Deltas.{OnlyServes, no_lane}
pub use Rattle.run_workers.specs.Hands.Drains.{IsDrain}
pub use Rattle.run_workers.specs.Hands.Laws.{StaysApplication}
pub use Rattle.run_workers.specs.Hands.Pollers.{HasLanesBelow, refreshed, IsPoller, count_after}
pub use Rattle.run_workers.specs.Hands.Pollers.{AsksFilter, FindsClosed, LooksUp, Polls, SteersHand}
pub use Rattle.run_workers.specs.Hands.Pollers.{StoresFilter, Waits, Visits, LoadsQueue}
pub use Rattle.run_workers.specs.Hands.Servers.{IsServer, BacksOut, LeavesInbox, Queued}
pub use Rattle.run_workers.specs.Hands.Servers.{RepliesOrKeeps, TakesNext, TakesOrLeaves, Writes}
pub use Rattle.run_workers.specs.Hands.Servers.{Peeks, HasNoNext}
pub use Rattle.run_workers.specs.Records.Growth.{Grows, TurnsGrow}
pub use Rattle.run_workers.specs.Records.Storing.{StoresAreFor, NotesGrow}
pub use Rattle.run_workers.specs.Records.Words.{Mark, Note}
pub use Rattle.run_workers.specs.Stages.{StageView, stage_view}
pub use Rattle.run_workers.specs.Tally.{dropped_by, CountsOn, finished_by}
pub use Rattle.run_workers.specs.Turns.{Plays, actors}
pub use Rattle.run_workers.specs.Workers.{IsWorking, IsBetween, GoesOn, HasHomes}
pub use Rattle.run_workers.specs.declared.drain.Drain.{Drain}
pub use Rattle.run_workers.specs.declared.drain.Exit.{Exit}
pub use Rattle.run_workers.specs.declared.drain.Exit.TheVariants.{Inboxes, Port}
pub use Rattle.run_workers.specs.declared.poller.Poller.{Poller}
pub use Rattle.run_workers.specs.declared.server.Server.{Server}
pub use Rattle.run_workers.specs.declared.worker.Worker.{Worker}
