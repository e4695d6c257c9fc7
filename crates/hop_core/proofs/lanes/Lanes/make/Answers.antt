use Rattle.std.proofs.Common.{◌≡◌, [], ◌∷◌, ◌++◌, length, sym, ap, ◌∙◌, arith}
use Rattle.std.proofs.lemmas.List.{length-append}
use Rattle.steer_base.specs.Sets.{has}
use Rattle.backlog.specs.Puts.{new_lane}
use Rattle.hop_core.proofs.LaneTables.{AreShaped-push, map-replicate_more}
use Rattle.hop_core.proofs.lanes.Lanes.make.Goals as goal

pub loop-lane-preserved : goal.loop-lane-preserved
loop-lane-preserved c =
    let was = c.loop-lane.invariant in
    let ls = c.loop-lane.lanes.items in
    let more : c.push.new.self.items ≡ ls ++ c.in_ok-make.field-0 ∷ [] =
    c.in_ok-push.ensures.items in
    let is : c.in_ok-make.field-0 ≡ new_lane c.args.limit c.args.room c.args.start
    (has c.args.limited (length ls)) =
    c.in_ok-make.ensures ∙ ap (new_lane c.args.limit c.args.room c.args.start) (c.has.ensures
    ∙ ap (has c.args.limited) (sym was.many)) in
    record {
      accepted = map-replicate_more (λ l. l.accepted) ls c.push.new.self.items c.in_ok-make.field-0
          [] c.loop-lane.lane more was.accepted (ap (λ l. l.accepted) is);
      offers = map-replicate_more (λ l. l.offers) ls c.push.new.self.items c.in_ok-make.field-0 []
          c.loop-lane.lane more was.offers (ap (λ l. l.offers) is);
      drops = map-replicate_more (λ l. l.drops) ls c.push.new.self.items c.in_ok-make.field-0 []
          c.loop-lane.lane more was.drops (ap (λ l. l.drops) is);
      pulled = map-replicate_more (λ l. l.pulled) ls c.push.new.self.items c.in_ok-make.field-0 0
          c.loop-lane.lane more was.pulled (ap (λ l. l.pulled) is);
      many = omega (arith, ap length more, length-append ls (c.in_ok-make.field-0 ∷ []), was.many);
      shaped = rw more (AreShaped-push ls c.args.limit c.args.room c.args.start c.args.limited
          c.in_ok-make.field-0 is was.shaped);
    }
