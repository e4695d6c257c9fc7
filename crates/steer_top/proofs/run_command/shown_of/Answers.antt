use Rattle.steer_top.proofs.Inputs.{run_is}
use Rattle.steer_top.proofs.run_command.shown_of.Goals as goal

pub returns : goal.returns
returns g c =
    run_is c.args.input.now _ c.args.history.now c.make.result c.requires.good c.requires.by_run
    (rw c.as_slice-packets.ensures.value at c.make.ensures.is) c.make.ensures.fits
