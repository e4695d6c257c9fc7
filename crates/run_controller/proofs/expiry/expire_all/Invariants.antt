use Rattle.board_api.specs.Calls.Rights.{IsInside}
use Rattle.run_controller.proofs.Names.{◌≡◌, ExpiresAll}
use Rattle.run_controller.proofs.expiry.expire_all.Given as goal

abbrev pub invariant-loop-place : goal.invariant-loop-place
invariant-loop-place g l = record {
  all : ExpiresAll l.shared l.place l.fn.seat l.seat l.fn.hint l.hint l.count;
  table : l.seat.table ≡ l.fn.seat.table;
  inside : IsInside l.seat.steps;
  hint_table : l.hint.table ≡ l.fn.hint.table;
}
