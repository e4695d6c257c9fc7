use Rattle.std.proofs.Common.{◌∙◌, ap, sym}
use Rattle.steer_base.specs.declared.choice.Chosen.{Chosen}
use Rattle.steer_model.specs.Steps.Pollers.{put_position}
use Rattle.steer_invariant.proofs.Invariant.RowLemmas.{held_asking, held_put}
use Rattle.steer_core.proofs.actors.Actors.put.Goals as goal

pub invariant_of-self : goal.invariant_of-self
invariant_of-self c =
    let named = rw (← c.self.view_is) at c.requires in
    let went = ap put_position (sym c.put-answer.ensures.answer) ∙ sym c.position_of.ensures
    ∙ c.in-Some.is in (
      rw (c.asking.ensures, c.filter_for-filter.ensures, c.homes.ensures.homes)
          (held_asking _ c.args.q c.hash_of-hash.result c.put-answer.new.self c.in-Some.position
          c.count.result c.last_of.result.choice named c.put-answer.ensures.state went
          (ap (λ (x : Chosen). x.choice) c.last_of.ensures) c.self.invariant.0),
      c.self.invariant.1,
    )

pub invariant_of-self-in_default : goal.invariant_of-self-in_default
invariant_of-self-in_default c = (
  held_put _ c.args.q c.hash_of-hash.result c.put-answer.new.self
      (rw (← c.self.view_is) at c.requires)
      c.put-answer.ensures.state c.self.invariant.0,
  c.self.invariant.1,
)
