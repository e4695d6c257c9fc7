-- The ranges of rules.
use Rattle.std.specs.Prelude.{◌<◌, ◌≤◌, All, length}
use Rattle.ntuple_rules.specs.declared.rules.Rules.{Rules}
use Rattle.ntuple_rules.specs.declared.rules.TheConstants.{MAX_RULES}

-- 1 to 16 queues, kinds of six bits, at most `MAX_RULES` rules, and the queue of each is one of the
-- queues
pub record RulesAreWithin (rules : Rules) : Type 0 where
  pub some : 1 ≤ rules.queues
  pub few : rules.queues ≤ 16
  pub kinds : rules.kinds ≤ 63
  pub number : length rules.rules ≤ MAX_RULES
  pub queues : All (λ rule. rule.queue < rules.queues) rules.rules
