use Rattle.steer_invariant.proofs.Invariant.EventPremiseLemmas.{held_asks_rx, held_asks_tx}
use Rattle.steer_invariant.proofs.Invariant.EventPremiseLemmas.{held_is_seated}
use Rattle.steer_invariant.proofs.invariant_laws.a_machine_may_ask_its_hops.Goals as goal

pub returns : goal.returns
returns c = record { rx = held_asks_rx; tx = held_asks_tx; filters = held_is_seated }
