use Rattle.workers.proofs.EndLemmas.{Laws, one-port, run_ends}
use Rattle.workers.proofs.end_laws.left_lists_make_histories.Goals as goal

pub returns-clause-ends : goal.returns-clause-ends
returns-clause-ends c =
    let laws : Laws = record {
      turns = c.crews_have_turns.ensures;
      lanes = c.threads_keep_their_parts.ensures.lanes;
      within = c.threads_keep_their_parts.ensures.within;
      fronts = c.threads_keep_their_parts.ensures.fronts;
      wire = c.the_wire_keeps_its_coupling.ensures;
      controller = c.the_controller_keeps_its_coupling.ensures;
      boards = c.plans_fit_their_boards.ensures;
      codes = c.shared_codes_exist.ensures;
    } in
    run_ends laws

pub returns-clause-port : goal.returns-clause-port
returns-clause-port c = one-port
