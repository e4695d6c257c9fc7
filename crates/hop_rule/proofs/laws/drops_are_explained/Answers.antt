use Rattle.hop_rule.proofs.Drops.{drop_counts_rise, drops_are_explained}
use Rattle.hop_rule.proofs.Puts.{offers_are_puts}
use Rattle.hop_rule.proofs.laws.drops_are_explained.Goals as goal

pub returns-clause-offers : goal.returns-clause-offers
returns-clause-offers c = offers_are_puts

pub returns-clause-counts : goal.returns-clause-counts
returns-clause-counts c = drop_counts_rise

pub returns-clause-causes : goal.returns-clause-causes
returns-clause-causes c = drops_are_explained
