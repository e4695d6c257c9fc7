use Rattle.std.proofs.Common.{refl}
use Rattle.steer_invariant.proofs.Invariant.CommandLemmas.{held_expire}
use Rattle.steer_core.proofs.SeatedLemmas.{counted, seated}
use Rattle.steer_core.proofs.actors.Actors.expire.Goals as goal

pub clear_old-requires : goal.clear_old-requires
clear_old-requires c =
    let h = c.self.invariant.0 in
    record {
      cpus = h.kept.rx.sizes.cpus;
      queues = counted _ h;
      few = h.ranged.flows;
      seated = seated _ h;
    }

pub invariant_of-self : goal.invariant_of-self
invariant_of-self c = (
  held_expire _ c.clear_old.new.filters refl c.clear_old.ensures.cleared
      c.self.invariant.0,
  c.self.invariant.1,
)
