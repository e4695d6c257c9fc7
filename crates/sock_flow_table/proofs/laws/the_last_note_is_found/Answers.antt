use Rattle.sock_flow_table.proofs.NotesLemmas.{found}
use Rattle.sock_flow_table.proofs.laws.the_last_note_is_found.Goals as goal

pub returns-clause-found : goal.returns-clause-found
returns-clause-found c = found
