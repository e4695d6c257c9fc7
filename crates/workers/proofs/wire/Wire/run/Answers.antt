use Rattle.workers.proofs.Names.{◌∙◌}
use Rattle.workers.proofs.WireLemmas.{ids_more, keeps_rings, led_more, length_more, room_more}
use Rattle.workers.proofs.wire.Wire.run.Goals as goal

pub loop-id-preserved : goal.loop-id-preserved
loop-id-preserved g c =
    let given = c.args.shared.now.given in
    let filters = c.args.shared.now.filters in
    let before = c.loop-id.self in
    let after = c.arrive.new.self in
    let old = c.loop-id.seat in
    let new = c.arrive.new.seat in
    let kept = c.loop-id.invariant in
    let a = c.arrive.ensures.arrives in (
      led_more given filters c.loop-id.id c.args.self.now.reta before after c.args.seat.now old new
          kept.4 kept.0 a,
      ids_more given filters c.loop-id.id before after old new kept.1 a,
      length_more given filters c.loop-id.id before after old new kept.2 a,
      c.arrive.ensures.table ∙ kept.3,
      a.reta ∙ kept.4,
      room_more given filters c.loop-id.id before after old new a ∙ kept.5,
      c.arrive.ensures.pushed,
      keeps_rings c.args.self.now before after kept.7 c.arrive.ensures.rings,
    )
