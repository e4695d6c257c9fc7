use Rattle.std.proofs.Common.{◌≡◌, ◌∙◌, ap, length, refl, subst}
use Rattle.steer_core.specs.Running.{Running}
use Rattle.steer_core.specs.declared.parts.HopPart.{HopPart}
use Rattle.steer_core.proofs.actors.Actors.history.Goals as goal

pub joined-requires : goal.joined-requires
joined-requires c =
    record {
      port = ap (λ (part : HopPart). length part.outs) c.in_ok-tx.ensures
          ∙ subst (λ (r : Running). length r.machine.tx.bare.outs ≡ 1) c.self.view_is
          c.self.invariant.0.kept.tx.sizes.port;
    }

pub returns : goal.returns
returns c =
    c.joined.ensures ∙ rw (
      c.packet_count.ensures.value,
      c.cut.ensures,
      c.in_ok-rx.ensures,
      c.in_ok-tx.ensures,
      c.in_ok-beside.ensures,
      ← c.self.view_is,
    ) refl
