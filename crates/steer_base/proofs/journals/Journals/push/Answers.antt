use Rattle.std.proofs.Common.{◌≡◌, ◌<◌, ◌∷◌, ◌++◌, [], length, arith, ap, get_or}
use Rattle.std.proofs.lemmas.List.{length-map}
use Rattle.steer_base.specs.Journals.{journals}
use Rattle.steer_base.proofs.journals.Journals.push.Goals as goal
use Rattle.steer_base.proofs.ListLemmas.{map-pushed}

pub returns : goal.returns
returns g c =
    let e : c.push_reserved.new.self.items ≡ c.index_mut-list.result.now.items ++ c.args.item ∷ [] =
    grind arith in
    let f : c.push_reserved.new.self.items ≡ (get_or c.self.inside.lists.items c.args.i
    c.index_mut-list.result.now).items ++ c.args.item ∷ [] =
    rw (← c.index_mut-list.ensures.value) e in
    let below : c.args.i < length c.self.inside.lists.items =
    rw (← c.self.view_is, length-map) at c.requires.list in
    rw (← c.self.view_is)
    (ap (λ lists. journals lists c.self.inside.room)
    (map-pushed (λ v. v.items) c.self.inside.lists.items c.args.i c.push_reserved.new.self
    c.index_mut-list.result.now c.args.item below f))
