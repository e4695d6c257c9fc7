use Rattle.std.proofs.Common.{false, refl, ◌∙◌}
use Rattle.steer_core.proofs.Paced.{spare_at}
use Rattle.steer_core.proofs.RoundLemmas.{before_serves, ships_paced}
use Rattle.steer_core.proofs.actors.Actors.round.Goals as goal

pub serve_all-worked-requires-clause-room : goal.serve_all-worked-requires-clause-room
serve_all-worked-requires-clause-room c =
    let one = c.arrive_busy-worked.ensures in let two = c.poll_all-worked.ensures in
    let three = c.drain_all-worked.ensures in
    spare_at _ _ c.args.self.now.machine c.drain_all-worked.new.self.machine
    c.drain_all-worked.new.self.machine refl
    (three.rooms ∙ two.rooms ∙ one.rooms)
    (before_serves _ _ _ _ false _ _ _ _ _ one.turn two.turn three.turn) c.requires.room

pub returns-clause-spare : goal.returns-clause-spare
returns-clause-spare c =
    let served = c.serve_all-worked.ensures in
    spare_at _ _ c.serve_all-worked.new.self.machine c.ship_all.new.self.machine
    c.ship_all.new.self.machine refl
    c.ship_all.ensures.rooms (ships_paced _ _ _ _ _ c.ship_all.ensures.turn) served.spare
