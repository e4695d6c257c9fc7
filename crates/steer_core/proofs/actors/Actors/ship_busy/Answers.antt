use Rattle.std.proofs.Common.{ap, ◌∙◌, ◌-◌, length}
use Rattle.hop_model.specs.Hop.{HopState, accepted_at, retired_at}
use Rattle.steer_core.specs.Running.{Running}
use Rattle.steer_core.proofs.BusyLemmas.{busy-after-ship, done-after-ship}
use Rattle.steer_core.proofs.StillLemmas.{emptied-by}
use Rattle.steer_core.proofs.actors.Actors.ship_busy.Goals as goal

pub returns-then-unretired-gt0-clause-busy : goal.returns-then-unretired-gt0-clause-busy
returns-then-unretired-gt0-clause-busy c =
    let done = c.ship-done.ensures in
    busy-after-ship c.args.self.now.machine c.ship-done.new.self.machine c.args.t c.args.worked
    c.ship-done.result c.args.busy.now done.turn done.setup c.requires.busy c.requires.member

pub returns-clause-busy : goal.returns-clause-busy
returns-clause-busy c =
    let done = c.ship-done.ensures in
    let tx = ap (λ (r : Running). r.machine.tx) c.self.view_is in
    let left = c.unretired.ensures
    ∙ ap (λ (s : HopState). length (accepted_at s.bare c.args.t) - retired_at s.bare c.args.t) tx in
    done-after-ship c.args.self.now.machine c.ship-done.new.self.machine c.args.t c.args.worked
    c.ship-done.result c.args.busy.now done.turn done.setup c.requires.busy c.without-busy.result
    (emptied-by c.ship-done.new.self.machine.tx c.args.t c.unretired.result
    c.sound.ensures.kept.tx.sound left c.if-unretired-gt0.false)
    c.without-busy.ensures.members
