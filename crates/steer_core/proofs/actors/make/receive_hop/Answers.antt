use Rattle.std.proofs.Common.{◌≤◌, ◌≡◌, List, ℕ, length, map, ap, refl, subst, sym, ◌∙◌, arith}
use Rattle.std.specs.List.{All}
use Rattle.std.proofs.Math.ListN.{length-map}
use Rattle.std.proofs.lemmas.List.Elements.{All-map}
use Rattle.plan_reader.specs.declared.plan.QueuePlan.{QueuePlan}
use Rattle.steer_core.proofs.MakeLemmas.{ok-same, rx-is}
use Rattle.steer_core.proofs.actors.make.receive_hop.Goals as goal

pub returns : goal.returns
returns c =
    let counts = c.in_ok-counts.ensures ∙ ap (map (λ (queue : QueuePlan). queue.flows))
    c.as_slice.ensures in
    ok-same c.make.result _ _
    (rx-is c.args.plan.now c.args.packets.now c.in_ok-counts.counts.items c.len-apps.result _ counts
    c.len-apps.ensures refl)
    c.make.ensures

pub make-requires : goal.make-requires
make-requires c =
    let w = c.args.plan.now.within in
    let counts : c.in_ok-counts.counts.items ≡ map (λ (queue : QueuePlan). queue.flows)
    c.args.plan.now.queues =
    c.in_ok-counts.ensures ∙ ap (map (λ (queue : QueuePlan). queue.flows)) c.as_slice.ensures in
    let long : length c.in_ok-counts.counts.items ≡ length c.args.plan.now.queues =
    ap length counts ∙ length-map c.args.plan.now.queues (λ (queue : QueuePlan). queue.flows) in
    let queues = w.queues_length in let apps = w.apps_length in let q = c.len.ensures in
    let a = c.len-apps.ensures in
    record {
      limit = w.some_backlog;
      room = c.requires;
      producers = omega (arith, queues.at_least, q);
      few_producers = omega (arith, queues.at_most, q);
      guests = omega (arith, apps.at_most, a);
      lanes = w.some_cpu;
      few_lanes = w.cpus_within;
      outs = omega (arith, apps.at_least, a);
      few_outs = omega (arith, apps.at_most, a);
      counts = omega (arith, long, q);
      classes = subst (λ (l : List ℕ). All (λ n. n ≤ 32768) l) (sym counts)
          (All-map (λ n. n ≤ 32768) (λ (queue : QueuePlan). queue.flows) c.args.plan.now.queues
          (λ k d lt. (w.queues_within k d lt).flows));
    }
