use Rattle.std.proofs.Common.{◌≡◌, true, ap, sym, ◌∙◌, refl}
use Rattle.steer_base.specs.Sets.{is_empty, those_below}
use Rattle.xps_map.specs.Maps.{serves_cpu, serves_queue}
use Rattle.xps_map.proofs.maps.XpsMaps.serving.Goals as goal

pub returns-clause-none : goal.returns-clause-none
returns-clause-none c = λ e.
    let maps = c.args.self.now in
    let no_queue : is_empty (those_below maps.count (λ tx. serves_queue maps tx c.args.rxq)) ≡ true
    =
    ap is_empty (sym c.serving_queue-by_queue.ensures) ∙ sym c.is_empty.ensures
    ∙ c.if-not-is_empty.false in
    let no_cpu : is_empty (those_below maps.count (λ tx. serves_cpu maps tx c.args.cpu)) ≡ true =
    ap is_empty (sym c.serving_cpu-by_cpu.ensures) ∙ sym c.is_empty-2.ensures
    ∙ c.if-not-is_empty-2.false in
    rw (no_queue, no_cpu) refl
