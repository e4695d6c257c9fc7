use Rattle.workers.proofs.BeginLemmas.{crews_begin}
use Rattle.workers.proofs.start_laws.crews_begin.Goals as goal

pub returns : goal.returns
returns c =
    crews_begin c.boards_have_their_settings.ensures c.coded_values_read_back.ensures
    c.workers_begin.ensures
