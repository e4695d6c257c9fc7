use Rattle.std.proofs.Common.{◌≡◌, ◌+◌, ◌*◌, ◌≤◌, ◌++◌, length}
use Rattle.steer_base.specs.Sets.{in_bits, is_empty, those_below}
use Rattle.report.proofs.SetsLemmas.{members_text}
use Rattle.report.proofs.commands.push_set.Given as goal

-- the members so far are written
abbrev pub invariant-loop-n : goal.invariant-loop-n
invariant-loop-n l = record {
  text : l.buf ≡ l.initial.buf ++ members_text (those_below l.n (in_bits l.width l.bits));
  empty : l.first ≡ is_empty (those_below l.n (in_bits l.width l.bits));
  size : length l.buf ≤ length l.initial.buf + 3 * l.n;
}
