use Rattle.std.proofs.Common.{◌≤◌, ◌≡◌, List, ℕ, length, max, replicate, ap, refl, subst, sym}
use Rattle.std.proofs.Common.{◌∙◌, arith}
use Rattle.std.specs.List.{All}
use Rattle.std.proofs.Math.ListN.{length-replicate}
use Rattle.std.proofs.lemmas.List.Elements.{All-replicate}
use Rattle.steer_model.specs.Capture.FlowCounts.{flow_count}
use Rattle.steer_model.proofs.Capture.FlowLemmas.{count_within}
use Rattle.steer_core.proofs.MakeLemmas.{ok-same, tx-is}
use Rattle.steer_core.proofs.actors.make.transmit_hop.Goals as goal

pub returns : goal.returns
returns c =
    let most : c.max.result ≡ max 1 (flow_count c.args.packets.now) =
    let m = c.max.ensures in let f = c.flow_count.ensures in omega (arith, m, f) in
    let counts = c.in_ok-counts.ensures ∙ ap (λ n. replicate n c.max.result) c.len-apps.ensures
    ∙ ap (λ n. replicate (length c.args.plan.now.apps) n) most in
    ok-same c.make.result _ _
    (tx-is c.args.plan.now c.args.packets.now c.in_ok-counts.counts.items c.len.result _ counts
    c.len.ensures refl)
    c.make.ensures

pub make-requires : goal.make-requires
make-requires c =
    let w = c.args.plan.now.within in
    let tx = w.tx_length in let apps = w.apps_length in let t = c.len.ensures in
    let a = c.len-apps.ensures in
    let few = c.requires.few in
    let most : c.max.result ≤ 262144 =
    let m = c.max.ensures in let f = c.flow_count.ensures in
    let within = count_within c.args.packets.now c.requires.flows in
    omega (arith, m, f, within, few) in
    let long : length c.in_ok-counts.counts.items ≡ c.len-apps.result =
    ap length c.in_ok-counts.ensures ∙ length-replicate c.len-apps.result c.max.result in
    record {
      limit = omega arith;
      room = few;
      producers = omega (arith, apps.at_least, a);
      few_producers = omega (arith, apps.at_most, a);
      guests = omega arith;
      lanes = omega (arith, tx.at_least, t);
      few_lanes = omega (arith, tx.at_most, t);
      outs = omega arith;
      few_outs = omega arith;
      counts = long;
      classes = subst (λ (l : List ℕ). All (λ n. n ≤ 262144) l) (sym c.in_ok-counts.ensures)
          (All-replicate (λ n. n ≤ 262144) c.len-apps.result c.max.result most);
    }

pub overflow_cast-max : goal.overflow_cast-max
overflow_cast-max c =
    let m = c.max.ensures in let f = c.flow_count.ensures in
    let within = count_within c.args.packets.now c.requires.flows in
    let few = c.requires.few in
    omega (arith, m, f, within, few)
