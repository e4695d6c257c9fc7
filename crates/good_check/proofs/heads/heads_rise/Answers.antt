use Rattle.std.proofs.Common.{sym}
use Rattle.good_check.proofs.HeadsLemmas.{rise-unseen}
use Rattle.good_check.proofs.heads.heads_rise.Goals as goal

pub returns-then-not-saw_head-clause-yes : goal.returns-then-not-saw_head-clause-yes
returns-then-not-saw_head-clause-yes c = λ t.
    rise-unseen c.args.start c.args.lanes.now c.args.choices.now (sym c.if-not-saw_head.ensures)
