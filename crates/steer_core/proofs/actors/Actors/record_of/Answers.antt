use Rattle.std.proofs.Common.{◌≡◌, ◌<◌, Some, None, length, ap, ◌∙◌, sym, arith}
use Rattle.steer_model.specs.State.Machine.{Machine}
use Rattle.steer_model.specs.State.Setup.{packet_hash}
use Rattle.steer_model.specs.Steps.Applications.{record_by}
use Rattle.steer_core.specs.Running.{Running}
use Rattle.steer_core.proofs.RecordLemmas.{flow-hash}
use Rattle.steer_core.proofs.actors.Actors.record_of.Goals as goal

pub returns-in-Some-clause-state : goal.returns-in-Some-clause-state
returns-in-Some-clause-state c =
    let m : Machine = c.args.self.now.machine in
    let x = c.args.id in
    let same : length c.self.inside.given.packets ≡ length m.setup.packets =
    ap (λ (r : Running). length r.machine.setup.packets) c.self.view_is in
    let within : x < length m.setup.packets =
    omega (arith, same, c.id.view_is, c.packet_count.ensures.value, c.if-id-packet_count.false) in
    let flow = flow-hash m.setup x c.sound.ensures.kept.given.flows within in
    let hash : packet_hash m.setup x ≡ Some c.in-Some.hash =
    sym (ap (λ (r : Running). packet_hash r.machine.setup x) c.self.view_is)
    ∙ sym c.hash_of.ensures ∙ c.in-Some.is in
    c.record_hash.ensures.state ∙ sym (ap (λ h. (record_by m h).0) (flow ∙ ap Some hash))

pub returns-in_default-clause-state : goal.returns-in_default-clause-state
returns-in_default-clause-state c =
    let m : Machine = c.args.self.now.machine in
    let x = c.args.id in
    let same : length c.self.inside.given.packets ≡ length m.setup.packets =
    ap (λ (r : Running). length r.machine.setup.packets) c.self.view_is in
    let within : x < length m.setup.packets =
    omega (arith, same, c.id.view_is, c.packet_count.ensures.value, c.if-id-packet_count.false) in
    let flow = flow-hash m.setup x c.sound.ensures.kept.given.flows within in
    let hash : packet_hash m.setup x ≡ None =
    sym (ap (λ (r : Running). packet_hash r.machine.setup x) c.self.view_is)
    ∙ sym c.hash_of.ensures ∙ c.in_default.is in
    sym (ap (λ h. (record_by m h).0) (flow ∙ ap Some hash))
