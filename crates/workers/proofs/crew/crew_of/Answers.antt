use Rattle.std.proofs.lemmas.Result.{IfOk-weaker}
use Rattle.workers.proofs.Names.{subst, AreDealt}
use Rattle.workers.proofs.crew.crew_of.Goals as goal

pub returns : goal.returns
returns c =
    let a = c.args.actors in
    let dealt = c.in_ok-hands.ensures.dealt in
    IfOk-weaker c.seated.result _ _
    (λ crew have. record {
      seats_are = have.seats_are;
      pollers = subst (AreDealt a.pollers.items) have.pollers dealt.pollers;
      drains = subst (AreDealt a.drains.items) have.drains dealt.drains;
      servers = subst (AreDealt a.servers.items) have.servers dealt.servers;
      ships = subst (AreDealt a.ships.items) have.ships dealt.ships;
    })
    c.seated.ensures
