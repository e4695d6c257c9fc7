use Rattle.run_workers.proofs.Names.{Some, unwrap_or, has}
use Rattle.run_workers.proofs.Hands.ChoiceLemmas.{choice_holds}
use Rattle.run_workers.proofs.server.Server.choose.Goals as goal

pub returns-clause-set : goal.returns-clause-set
returns-clause-set g c =
    (choice_holds c.args.lanes (Some c.args.class) (Some c.args.pick) c.args.pick
    c.args.self.now.table c.weigh.new.self (λ _. unwrap_or c.head-head.result 0)
    (has c.first_n-all.result) c.weigh.result c.requires.pick c.requires.lanes c.requires.class
    c.weigh.ensures.choice c.weigh.ensures.table).set
