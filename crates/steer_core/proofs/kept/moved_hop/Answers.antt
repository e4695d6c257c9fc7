use Rattle.steer_core.proofs.MoveLemmas.{left-part}
use Rattle.steer_core.proofs.kept.moved_hop.Goals as goal

pub returns : goal.returns
returns c =
    let left = c.in_ok-taken.ensures in
    rw (c.from_vec.ensures, c.in_ok-choices.ensures, c.in_ok-lanes.ensures, c.in_ok-outs.ensures)
    (left-part c.args.hop c.in_ok-taken.field-0 (record {
      taken = left.taken;
      choices = left.choices;
      lanes = left.lanes;
      outs = left.outs;
      start = left.start;
    }))
