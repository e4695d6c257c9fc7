use Rattle.linearization.proofs.RuleLemmas.{sits}
use Rattle.linearization.proofs.gathered.Gathered.sit.Goals as goal

pub load_new_seat-seat-requires : goal.load_new_seat-seat-requires
load_new_seat-seat-requires g c =
    let key = c.args.shared.now.key in (
      c.requires.words,
      sits (g.R.StepRule.seats key)
          (g.R.StepRule.lawful key) c.args.shared.now.table_id.slots 0,
    )
