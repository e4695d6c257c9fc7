use Rattle.hop_rule.proofs.Puts.{each_accepted_was_put, each_drop_was_put, each_put_is_right}
use Rattle.hop_rule.proofs.Puts.{positions_rise}
use Rattle.hop_rule.proofs.laws.puts_and_positions_are_one_to_one.Goals as goal

pub returns-clause-put : goal.returns-clause-put
returns-clause-put c = each_put_is_right

pub returns-clause-accepted : goal.returns-clause-accepted
returns-clause-accepted c = each_accepted_was_put

pub returns-clause-dropped : goal.returns-clause-dropped
returns-clause-dropped c = each_drop_was_put

pub returns-clause-rise : goal.returns-clause-rise
returns-clause-rise c = positions_rise
