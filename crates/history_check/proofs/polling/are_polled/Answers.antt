use Rattle.std.proofs.Common.{arith, length, refl, sym}
use Rattle.history_check.specs.Tests.{is_polled}
use Rattle.history_check.proofs.MeetingLemmas.{other-fails}
use Rattle.history_check.proofs.PassingLemmas.{fails-below}
use Rattle.history_check.proofs.polling.are_polled.Goals as goal

pub returns-then-not-meet_all : goal.returns-then-not-meet_all
returns-then-not-meet_all c =
    let h = c.args.h.now in
    let other = c.if-not-meet_all.ensures.no refl in
    sym (fails-below (is_polled h) (length h.taken) other.0
    (omega (arith, other.1, c.requires.choices)) (other-fails h other.0 other.2))
