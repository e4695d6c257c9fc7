-- Commands that change a setting alone.
use Rattle.std.proofs.Common.{◌≡◌, true, ap, ◌∙◌}
use Rattle.steer_base.specs.declared.command.Command.{Command}
use Rattle.steer_base.specs.declared.command.Command.TheVariants as give
use Rattle.hop_model.specs.declared.event.HopEvent.{HopEvent}
use Rattle.hop_model.specs.Events.{happens}
use Rattle.hop_model.specs.Hop.{HopState}
use Rattle.steer_invariant.specs.Invariant.{Invariant}
use Rattle.steer_model.specs.State.Machine.{Machine}
use Rattle.steer_model.specs.Steps.Outcomes.{by_tx}
use Rattle.steer_invariant.proofs.Invariant.CommandLemmas.{SetsAlone}
use Rattle.steer_core.specs.Changes.{stands_alone}

pub sets_alone : (c : Command) → stands_alone c ≡ true → SetsAlone c
sets_alone (give.Mask q mask) e = tt
sets_alone (give.Flows q count) e = absurd (cc)
sets_alone (give.Sock size) e = absurd (cc)
sets_alone (give.Offline cpu) e = tt
sets_alone (give.Online cpu) e = tt
sets_alone (give.XCpus tx mask) e = tt
sets_alone (give.XQueues tx queues) e = tt
sets_alone (give.Reta place q) e = tt
sets_alone (give.Stand app cpu) e = tt
sets_alone give.Expire e = absurd (cc)

-- the state after an event of the transmit hop that is known by its value
pub by_tx-is : (m : Machine) → Invariant m → (e f : HopEvent) (t : HopState) → e ≡ f
    → t ≡ (happens m.tx e).0
    → record m { tx = t } ≡ (by_tx m f).0
by_tx-is m held e f t same is =
    ap (λ (s : HopState). record m { tx = s }) (is ∙ ap (λ (e : HopEvent). (happens m.tx e).0) same)
