use Rattle.std.proofs.Common.{◌/◌, refl}
use Rattle.ntuple_rules.proofs.Allowed.{set_allows, set_more}
use Rattle.ntuple_rules.proofs.sieve.admit.Goals as goal

pub returns-clause-more : goal.returns-clause-more
returns-clause-more c place flow allows =
    set_more c.make_up_to.new.sieves.items (c.args.place / 64) c.index_mut.result.now
    c.admit.new.self c.in_ok-make_up_to.ensures.enough c.index_mut.ensures.value
    c.admit.ensures.kept place flow (c.in_ok-make_up_to.ensures.more place flow allows)

pub returns-clause-rule : goal.returns-clause-rule
returns-clause-rule c =
    set_allows c.make_up_to.new.sieves.items (c.args.place / 64) c.index_mut.result.now
    c.admit.new.self c.in_ok-make_up_to.ensures.enough c.index_mut.ensures.value c.args.place
    c.args.rule.now refl c.admit.ensures.admits
