use Rattle.step_laws.proofs.Origins.FilterOriginLemmas.{filters_are_from_choices}
use Rattle.step_laws.proofs.Origins.SocketOriginLemmas.{entries_are_written}
use Rattle.step_laws.proofs.Origins.TableWriteLemmas.{entries_are_last_writes}
use Rattle.step_laws.proofs.Origins.TableWriteLemmas.{filters_are_last_writes, steps_are_events}
use Rattle.step_laws.proofs.Origins.TableWriteLemmas.{tables_start_unset}
use Rattle.step_laws.proofs.laws.a_table_in_force_is_the_last_writes.Goals as goal

pub returns : goal.returns
returns c =
    record {
      start = tables_start_unset;
      steps = steps_are_events;
      entries = entries_are_last_writes;
      filters = filters_are_last_writes;
      written = entries_are_written;
      chosen = filters_are_from_choices;
    }
