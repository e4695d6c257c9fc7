use Rattle.steer_model.proofs.Capture.FlowLemmas.{count_within}
use Rattle.workers.proofs.Names.{◌∙◌, arith, length, subst, Each, IsFirstServer}
use Rattle.workers.proofs.actors.Actors.make.Goals as goal

pub overflow_cast-flow_count : goal.overflow_cast-flow_count
overflow_cast-flow_count c =
    let within = count_within c.args.packets.now c.requires.flows in
    let is = c.flow_count.ensures in
    let few = c.requires.few in
    omega (arith, within, is, few)

pub servers-requires-clause-flows : goal.servers-requires-clause-flows
servers-requires-clause-flows c =
    let within = count_within c.args.packets.now c.requires.flows in
    let is = c.flow_count.ensures in
    let few = c.requires.few in
    omega (arith, within, is, few)

pub returns-clause-first : goal.returns-clause-first
returns-clause-first c =
    record {
      queues = c.in_ok-rings.ensures.count;
      pollers = c.in_ok-rings.ensures.first;
      cpus = c.in_ok-drains.ensures.count;
      drains = c.in_ok-drains.ensures.first;
      apps = c.in_ok-servers.ensures.count;
      servers =
          subst
          (λ n. Each (IsFirstServer c.args.plan.now (length
          c.args.packets.now) n) c.in_ok-servers.field-0.items)
          c.flow_count.ensures c.in_ok-servers.ensures.first;
      txs = c.in_ok-drains-2.ensures.count ∙ c.len.ensures;
      ships = c.in_ok-drains-2.ensures.first;
    }
