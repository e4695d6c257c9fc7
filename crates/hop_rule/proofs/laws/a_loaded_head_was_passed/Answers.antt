use Rattle.hop_rule.proofs.Heads.{loaded_heads_are_passed, loaded_heads_are_retires}
use Rattle.hop_rule.proofs.laws.a_loaded_head_was_passed.Goals as goal

pub returns-clause-retires : goal.returns-clause-retires
returns-clause-retires c = loaded_heads_are_retires

pub returns-clause-passed : goal.returns-clause-passed
returns-clause-passed c = loaded_heads_are_passed
