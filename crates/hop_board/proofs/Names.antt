-- The names that the proofs of this crate cite most, passed on from one place. Declares nothing.
pub use Rattle.std.proofs.Common.{◌≡◌, ◌≢◌, ℕ, ◌+◌, ◌-◌, ◌*◌, ◌%◌, ◌^◌, ◌<◌, ◌==◌, List, ◌∷◌, Bool}
pub use Rattle.std.proofs.Common.{true, false, length, if◌then◌else◌, sym, refl, ap, ◌∙◌, subst}
pub use Rattle.std.proofs.Common.{arith, ◌≤◌, zero, suc, [], All, Some, None, map, slice_index_or}
pub use Rattle.std.proofs.Common.{◌++◌, length-append, get_or, set, slice_index, get_or-set_same}
pub use Rattle.std.proofs.Common.{get_or-set_other, replicate, reverse, take, vec_capacity}
pub use Rattle.std.specs.Slots.{slots_items, slots_filled, slots_len}
pub use Rattle.std.specs.Vec.{vec_len}
pub use Rattle.std.proofs.lemmas.List.Elements.{All-head, All-tail}
pub use Rattle.std.proofs.lemmas.List.FromFn.{length-map-range_with_len, map-range_with_len_more}
pub use mathlib.Core.Logic.{dite}
pub use mathlib.Core.Option.{some}
pub use native.Mathlib.Decide.{ℕ_discrete}
pub use Rattle.atomic_table.specs.Seated.{TableId}
pub use Rattle.steer_base.specs.Journals.{journal}
pub use Rattle.steer_base.specs.Lanes.{LaneLists}
pub use Rattle.linearization.specs.Orders.{StepBy, step_by, steps_of}
pub use Rattle.linearization.specs.Rules.{Ordered}
pub use Rattle.linearization.specs.Seats.{SeatView, seat_view}
pub use Rattle.linearization.specs.Views.{one, number_in, steps_in}
pub use Rattle.linearization.proofs.ListLemmas.{if_same, if_other}
pub use Rattle.hop_rule.specs.Boards.{lanes_of, gate_steps, lane_steps, IsLawful, lane_at}
pub use Rattle.hop_rule.specs.Boards.{own_state}
pub use Rattle.hop_rule.specs.Lanes.{phase}
pub use Rattle.hop_rule.specs.OutLanes.{OutList, out_list}
pub use Rattle.hop_rule.specs.Sizes.{FitSizes, puller}
pub use Rattle.hop_rule.specs.declared.sizes.BoardSizes.{BoardSizes}
pub use Rattle.hop_rule.specs.declared.step.BoardStep.{BoardStep}
pub use Rattle.hop_rule.specs.declared.step.BoardStep.TheVariants.{Lane, Gate, LaneOut, LaneIn}
pub use Rattle.hop_rule.specs.declared.step.LaneStep.{LaneStep}
pub use Rattle.hop_rule.specs.declared.step.Slot.{Slot}
pub use Rattle.hop_rule.proofs.Boards.{parts}
pub use Rattle.board_api.specs.Calls.HeldLanes.{FitsLane, IsMiddle, IsOut}
pub use Rattle.board_api.specs.Seats.{BoardSeatView}
pub use Rattle.board_api.specs.Views.{BoardView}
pub use Rattle.board_api.specs.declared.held_lane.HeldLane.{HeldLane}
pub use Rattle.board_api.specs.declared.held_lane.LaneId.{LaneId}
pub use Rattle.hop_board.specs.Left.{AreFullFrom, AreSpare, AreTakenFrom, AreTakenTo}
pub use Rattle.hop_board.specs.Made.{new_middle, spaced}
pub use Rattle.hop_board.specs.Named.{board_seat, HasNoSteps}
pub use Rattle.hop_board.specs.Plays.{HeldAt}
pub use Rattle.hop_board.specs.Releases.{is_told, step_in}
pub use Rattle.hop_board.specs.Steps.{MayAct, MayGive, released_word}
pub use Rattle.hop_board.specs.Tables.{IsWord, value, home_after, all_slots, home_at, home_of}
pub use Rattle.hop_board.specs.Tables.{slot_of, place, width, HasBoard, InSlot, content}
pub use Rattle.hop_board.specs.declared.places.TheConstants.{SLOTS_PER_LANE}
pub use Rattle.hop_board.specs.declared.places.Word.{Word}
pub use Rattle.hop_board.specs.declared.release.Release.TheVariants.{Unchanged}
