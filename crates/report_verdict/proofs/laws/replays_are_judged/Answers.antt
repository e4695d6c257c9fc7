use Rattle.report_verdict.proofs.ReplayLemmas.{EveryReplay, replays_are_judged}
use Rattle.report_verdict.proofs.ReplayLemmas.{swept_replays_are_good, swept_replays_are_judged}
use Rattle.report_verdict.proofs.ReplayLemmas.{unrecorded_replays_are_good}
use Rattle.report_verdict.proofs.laws.replays_are_judged.Goals as goal

pub returns-clause-judged : goal.returns-clause-judged
returns-clause-judged c =
    let law : EveryReplay = record {
      one = c.a_report_has_one_history.ensures;
      reportable = c.every_replay_can_be_reported.ensures.replays;
      sizes = c.every_history_is_of_its_input.ensures;
      given = c.commands_are_given_once.ensures.replays;
      good = c.every_replay_is_good_so_far.ensures;
    } in
    replays_are_judged law

pub returns-clause-swept : goal.returns-clause-swept
returns-clause-swept c =
    let law : EveryReplay = record {
      one = c.a_report_has_one_history.ensures;
      reportable = c.every_replay_can_be_reported.ensures.replays;
      sizes = c.every_history_is_of_its_input.ensures;
      given = c.commands_are_given_once.ensures.replays;
      good = c.every_replay_is_good_so_far.ensures;
    } in
    swept_replays_are_judged law c.swept_replays_are_good_at_rest.ensures.runs

pub returns-clause-good : goal.returns-clause-good
returns-clause-good c =
    let law : EveryReplay = record {
      one = c.a_report_has_one_history.ensures;
      reportable = c.every_replay_can_be_reported.ensures.replays;
      sizes = c.every_history_is_of_its_input.ensures;
      given = c.commands_are_given_once.ensures.replays;
      good = c.every_replay_is_good_so_far.ensures;
    } in
    swept_replays_are_good law c.swept_replays_are_good_at_rest.ensures.runs

pub returns-clause-unrecorded : goal.returns-clause-unrecorded
returns-clause-unrecorded c =
    let law : EveryReplay = record {
      one = c.a_report_has_one_history.ensures;
      reportable = c.every_replay_can_be_reported.ensures.replays;
      sizes = c.every_history_is_of_its_input.ensures;
      given = c.commands_are_given_once.ensures.replays;
      good = c.every_replay_is_good_so_far.ensures;
    } in
    unrecorded_replays_are_good law c.swept_replays_are_good_at_rest.ensures.runs
