use Rattle.std.proofs.Common.{◌≡◌, length}
use Rattle.std.specs.Prelude.{vec_len}
use Rattle.history_check.specs.Meeting.{AreMet}
use Rattle.history_check.proofs.polling.meet_all.Given as goal

abbrev pub invariant-loop-arrival : goal.invariant-loop-arrival
invariant-loop-arrival l = record {
  count : vec_len l.met ≡ length l.h.choices;
  met : AreMet l.h l.arrival-index l.met.items;
}
