use Rattle.std.proofs.Common.{◌≡◌, length, ap, ◌∙◌, arith}
use Rattle.steer_model.specs.State.Machine.{Machine}
use Rattle.steer_core.specs.Running.{Running}
use Rattle.steer_core.proofs.StillLemmas.{still-round}
use Rattle.steer_core.proofs.actors.Actors.is_at_rest.Goals as goal

pub returns : goal.returns
returns c =
    let m : Machine = c.args.self.now.machine in
    let view = c.self.view_is in
    let came : length m.arrivals ≡ length m.setup.packets =
    (let a = ap (λ (r : Running). length r.machine.arrivals) view in
    let p = ap (λ (r : Running). length r.machine.setup.packets) view in
    let len = c.len.ensures.len in
    let count = c.packet_count.ensures.value in
    let same = c.if-len-packet_count.false in
    omega arith) in
    let queues : c.queues.result ≡ length m.setup.homes =
    c.queues.ensures.value ∙ ap (λ (r : Running). length r.machine.setup.homes) view in
    let cpus : c.cpus.result ≡ m.setup.cpus =
    c.cpus.ensures.value ∙ ap (λ (r : Running). r.machine.setup.cpus) view in
    let apps : c.apps.result ≡ m.setup.apps =
    c.apps.ensures.value ∙ ap (λ (r : Running). r.machine.setup.apps) view in
    let txs : c.txs.result ≡ m.setup.txs =
    c.txs.ensures.value ∙ ap (λ (r : Running). r.machine.setup.txs) view in
    λ all.
    still-round m c.sound.ensures.kept came
    (λ q lt. c.requires.pollers q lt
    (c.is_none_below.ensures.0 c.if-not-is_none_below.false q (omega arith)
    (omega (arith, lt, queues))))
    (λ x lt. c.requires.cpus x lt
    (c.is_none_below-2.ensures.0 c.if-not-is_none_below-2.false x (omega arith)
    (omega (arith, lt, cpus))))
    (λ a lt. c.requires.apps a lt
    (c.is_none_below-3.ensures.0 c.if-not-is_none_below-3.false a (omega arith)
    (omega (arith, lt, apps))))
    (λ x lt. c.requires.txs x lt
    (c.is_none_below-4.ensures.0 all x (omega arith) (omega (arith, lt, txs))))
