use Rattle.board_api.proofs.OwnVisits.{numbered_reads_are_settings, reads_are_settings}
use Rattle.hop_delivery.proofs.Closings.RuleLemmas.{picks_by_reads, rules_by_reads}
use Rattle.hop_delivery.proofs.Closings.TurnReadLemmas.{turns_know}
use Rattle.hop_delivery.proofs.Names.{at_closings, own_of, lists_of, TurnsKnowSettings}
use Rattle.hop_delivery.specs.Closings.TurnReads.{PicksAreByReads, RulesAreByReads}
use Rattle.hop_delivery.proofs.closing_laws.turns_know_their_settings.Goals as goal

pub returns-clause-knows : goal.returns-clause-knows
returns-clause-knows c = at_closings TurnsKnowSettings (λ about order fit lawful.
    turns_know about (own_of order) (lists_of about order)
    (reads_are_settings about order fit lawful)
    (numbered_reads_are_settings about order fit lawful))

pub returns-clause-rule : goal.returns-clause-rule
returns-clause-rule c = at_closings RulesAreByReads (λ about order fit lawful.
    rules_by_reads about (own_of order) (lists_of about order)
    (turns_know about (own_of order) (lists_of about order)
    (reads_are_settings about order fit lawful)
    (numbered_reads_are_settings about order fit lawful)))

pub returns-clause-picks : goal.returns-clause-picks
returns-clause-picks c = at_closings PicksAreByReads (λ about order fit lawful.
    picks_by_reads about (own_of order) (lists_of about order)
    (turns_know about (own_of order) (lists_of about order)
    (reads_are_settings about order fit lawful)
    (numbered_reads_are_settings about order fit lawful)))
