-- The names that the proofs of this crate cite most, passed on from one place. Declares nothing.
pub use Rattle.std.proofs.Common.{◌≡◌, ℕ, ◌+◌, ◌-◌, ◌*◌, ◌<◌, Some, List, [], length, map}
pub use Rattle.std.proofs.Common.{slice_get, slice_index_or, sym, ap, ◌∙◌, subst, arith, zero, suc}
pub use Rattle.std.proofs.Common.{◌≤◌, ◌∷◌, All, Bool, true, false, ◌%◌, Option, refl, ◌++◌, take}
pub use Rattle.std.proofs.Common.{drop, inl, inr, ◌/◌, ◌⊎◌, None, slice_set, ◌≢◌, reverse}
pub use Rattle.std.specs.List.{range_with_len, Contains}
pub use Rattle.std.specs.Prelude.{slice_index}
pub use Rattle.std.specs.Vec.Iter.{into_iter_items}
pub use Rattle.std.proofs.Crossing.{crosses}
pub use Rattle.std.proofs.lemmas.Bool.{cases_eq, cases_lt}
pub use Rattle.std.proofs.lemmas.List.{length-map, length-append, length-set}
pub use Rattle.std.proofs.lemmas.List.Elements.{All-nil}
pub use Rattle.std.proofs.lemmas.Option.{slice_get_within, slice_get-get_or}
pub use denote.Param.Send.{sendable}
pub use Rattle.rtrb.specs.Ring.{IsPair, received, sent}
pub use Rattle.steer_base.specs.Counters.{rounded_up}
pub use Rattle.steer_base.specs.Journals.{Journal, journal}
pub use Rattle.steer_base.specs.declared.packet.Packet.{Packet}
pub use Rattle.plan_reader.specs.declared.plan.Plan.{Plan}
pub use Rattle.plan_reader.specs.declared.plan.QueuePlan.{QueuePlan}
pub use Rattle.history.specs.Lists.{arrivals_at}
pub use Rattle.history.specs.declared.arrival.Arrival.{Arrival}
pub use Rattle.steer_model.specs.Good.Inputs.{Input}
pub use Rattle.steer_model.specs.State.Ranges.{AreOfFlows}
pub use Rattle.steer_model.specs.State.Setup.{Setup}
pub use Rattle.linearization.specs.Seats.{SeatView, new_seats}
pub use Rattle.hint_words.specs.declared.step.HintStep.{HintStep}
pub use Rattle.hop_rule.specs.declared.sizes.BoardSizes.{BoardSizes}
pub use Rattle.hop_rule.proofs.Lists.{none-some, some-is}
pub use Rattle.board_api.specs.Seats.{BoardSeatView}
pub use Rattle.run_words.specs.declared.seats.Seats.{Seats}
pub use Rattle.run_workers.specs.Actors.{actor_at, Each}
pub use Rattle.run_workers.specs.Workers.{is_free}
pub use Rattle.run_workers.specs.declared.drain.Drain.{Drain}
pub use Rattle.run_workers.specs.declared.poller.Poller.{Poller}
pub use Rattle.run_workers.specs.declared.server.Server.{Server}
pub use Rattle.run_controller.specs.Stages.{stage}
pub use Rattle.run_crew.specs.Crews.{IsPlayed, pollers_of, servers_of, drains_of, ships_of}
pub use Rattle.run_crew.specs.Sweeps.{GoOn, all_free}
pub use Rattle.run_crew.specs.declared.seated.Seated.{Seated}
pub use Rattle.workers.specs.Actors.{ArePaired, RingEnd, IsFirstPoller, IsFirstServer}
pub use Rattle.workers.specs.BoardLaws.{BoardsHaveSettings}
pub use Rattle.workers.specs.Boards.{AreSeatsOf}
pub use Rattle.workers.specs.GatheredHands.{dealt_items}
pub use Rattle.workers.specs.Left.{all_played}
pub use Rattle.workers.specs.Overs.{IsOver, stage_of}
pub use Rattle.workers.specs.RoundRobin.{AreDealt, hand_at}
pub use Rattle.workers.specs.Seats.{AreSeated, first_seats}
pub use Rattle.workers.specs.Starts.{IsStart}
pub use Rattle.workers.specs.Threads.{workers_stage}
pub use Rattle.workers.specs.Wires.{ArePushed}
pub use Rattle.workers.specs.declared.boards.AllSeats.{AllSeats}
pub use Rattle.workers.specs.declared.boards.RunBoards.{RunBoards}
pub use Rattle.workers.specs.declared.seats.RunSeats.{RunSeats}
pub use Rattle.workers.specs.declared.start.Run.{Run}
pub use Rattle.workers.specs.declared.wire.Wire.{Wire}
