use Rattle.run_workers.proofs.Records.ReplyingLemmas.{arrivals_come, replies_go_on, servers_stay}
use Rattle.run_workers.proofs.Records.ReplyingLemmas.{takes_go_on}
use Rattle.run_workers.proofs.record_laws.servers_keep_their_turns.Goals as goal

pub returns-clause-takes : goal.returns-clause-takes
returns-clause-takes c = takes_go_on

pub returns-clause-replies : goal.returns-clause-replies
returns-clause-replies c = replies_go_on

pub returns-clause-stay : goal.returns-clause-stay
returns-clause-stay c = servers_stay

pub returns-clause-late : goal.returns-clause-late
returns-clause-late c = arrivals_come
