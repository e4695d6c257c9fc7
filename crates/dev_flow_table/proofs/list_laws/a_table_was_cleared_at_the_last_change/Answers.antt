use Rattle.dev_flow_table.proofs.WalksLemmas.{since_is_last_change}
use Rattle.dev_flow_table.proofs.list_laws.a_table_was_cleared_at_the_last_change.Goals as goal

pub returns : goal.returns
returns c = since_is_last_change
