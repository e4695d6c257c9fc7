use Rattle.dev_flow_table.proofs.FoldsLemmas as folds
use Rattle.board_api.proofs.OwnPuts.{accepted_were_put, puts_stand}
use Rattle.hop_delivery.proofs.Closings.PutPlaceLemmas.{answers_are_places}
use Rattle.run_coupling.specs.Laws.OwnTables.{TablesAreEntries, TablesRule}
use Rattle.run_coupling.proofs.Turns.TableEntryLemmas.{tables_are_entries}
use Rattle.run_coupling.proofs.Turns.TableLemmas.{tables_rule}
use Rattle.run_goodness.proofs.Names.{own_of, lists_of, at_closings}
use Rattle.run_goodness.proofs.laws.own_tables_rule.Goals as goal

pub returns-clause-entries : goal.returns-clause-entries
returns-clause-entries c =
    at_closings TablesAreEntries
    (λ about order fit lawful.
    tables_are_entries about (own_of order) (lists_of about order) folds.table_is_entries
    (answers_are_places about (own_of order) (lists_of about order) (puts_stand about order lawful)
    (accepted_were_put about order lawful)))

pub returns-clause-rule : goal.returns-clause-rule
returns-clause-rule c =
    at_closings TablesRule
    (λ about order fit lawful.
    tables_rule about (own_of order) (lists_of about order)
    (tables_are_entries about (own_of order) (lists_of about order) folds.table_is_entries
    (answers_are_places about (own_of order) (lists_of about order)
    (puts_stand about order lawful) (accepted_were_put about order lawful))))
