use Rattle.std.proofs.Common.{ℕ, ◌<◌, ◌≡◌, true}
use Rattle.history_check.specs.Tests.{has_replies}
use Rattle.history_check.proofs.item_test.ItemTest.have_replies.Given as goal

abbrev pub invariant-loop-app : goal.invariant-loop-app
invariant-loop-app l = (a : ℕ) → a < l.app → has_replies l.self.packets.now l.self.h.now a ≡ true
