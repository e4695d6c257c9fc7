use Rattle.std.proofs.Common.{ap, ◌∙◌, ◌-◌, length}
use Rattle.hop_model.specs.Hop.{HopState, accepted_at, retired_at}
use Rattle.steer_core.specs.Running.{Running}
use Rattle.steer_core.proofs.BusyLemmas.{busy-after-drain, done-after-drain}
use Rattle.steer_core.proofs.StillLemmas.{emptied-by}
use Rattle.steer_core.proofs.actors.Actors.drain_busy.Goals as goal

pub returns-then-unretired-gt0-clause-busy : goal.returns-then-unretired-gt0-clause-busy
returns-then-unretired-gt0-clause-busy c =
    let done = c.drain-done.ensures in
    busy-after-drain c.args.self.now.machine c.drain-done.new.self.machine c.args.c c.args.worked
    c.drain-done.result c.args.busy.now c.drain-done.new.apps done.turn done.setup done.apps
    c.requires.busy c.requires.member

pub returns-clause-busy : goal.returns-clause-busy
returns-clause-busy c =
    let done = c.drain-done.ensures in
    let rx = ap (λ (r : Running). r.machine.rx) c.self.view_is in
    let left = c.unretired.ensures
    ∙ ap (λ (s : HopState). length (accepted_at s.bare c.args.c) - retired_at s.bare c.args.c) rx in
    done-after-drain c.args.self.now.machine c.drain-done.new.self.machine c.args.c c.args.worked
    c.drain-done.result c.args.busy.now c.drain-done.new.apps done.turn done.setup done.apps
    c.requires.busy c.without-busy.result
    (emptied-by c.drain-done.new.self.machine.rx c.args.c c.unretired.result
    c.sound.ensures.kept.rx.sound left c.if-unretired-gt0.false)
    c.without-busy.ensures.members
