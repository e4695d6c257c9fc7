use Rattle.dev_flow_table.proofs.FoldsLemmas.{table_is_entries}
use Rattle.dev_flow_table.proofs.list_laws.a_table_has_the_entries_of_the_lists.Goals as goal

pub returns : goal.returns
returns c = table_is_entries
