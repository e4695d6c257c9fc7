use Rattle.plan_reader.specs.Ranges.{commands_of}
use Rattle.run_controller.proofs.Names.{◌≡◌, ◌*◌, List, length, arith, ap, Command}
use Rattle.run_controller.proofs.RoomLemmas.{few_commands, few_tries}
use Rattle.run_controller.proofs.controller.Controller.make.Goals as goal

pub overflow_cast-room : goal.overflow_cast-room
overflow_cast-room c =
    let few = few_commands c.args.plan.now in
    let is : length c.commands.result.now ≡ length (commands_of c.args.plan.now.steps) =
    ap (λ (cs : List Command). length cs) c.commands.ensures in
    omega (arith, few, is)

pub overflow_mul-room : goal.overflow_mul-room
overflow_mul-room c =
    let few = few_tries c.args.plan.now in
    let is : length c.commands.result.now * c.args.plan.now.tries
    ≡ length (commands_of c.args.plan.now.steps) * c.args.plan.now.tries =
    ap (λ (cs : List Command). length cs * c.args.plan.now.tries) c.commands.ensures in
    omega (arith, few, is)
