use Rattle.steer_base.specs.Journals.{Journal}
use Rattle.run_controller.proofs.Names.{◌≡◌, ℕ, length, ap, sym, subst, arith, Command, Commanded}
use Rattle.run_controller.proofs.Names.{IsGivenOnce, IsNamed, stage}
use Rattle.run_controller.proofs.RoomLemmas.{Ran, has_room, named_at, ran_all, ran_more, ran_none}
use Rattle.run_controller.proofs.controller.Controller.run.Goals as goal

pub loop-command-init : goal.loop-command-init
loop-command-init g c =
    ran_none (stage c.args.shared.now (g.B.Board.view c.args.rx.now) (g.B.Board.view c.args.tx.now))
    c.args.plan.now c.commands-commands.result.now c.args.self.now c.args.seats.now
    c.requires.setup c.commands-commands.ensures c.requires.known
    (ap (λ (j : Journal Commanded). j.items) c.requires.commands)
    (ap (λ (j : Journal Commanded). j.room) c.requires.commands) c.requires.seated

pub give-requires-clause-ready : goal.give-requires-clause-ready
give-requires-clause-ready g c = c.loop-command.invariant.ready

pub give-requires-clause-named : goal.give-requires-clause-named
give-requires-clause-named g c =
    subst (IsNamed c.args.shared.now.given) (sym c.command-item.is)
    (named_at c.args.plan.now c.args.shared.now.given c.requires.setup
    c.commands-commands.result.now c.commands-commands.ensures c.loop-command.command-index
    c.command-item.result c.loop-command-test.true)

pub give-requires-clause-room : goal.give-requires-clause-room
give-requires-clause-room g c =
    has_room (stage c.args.shared.now (g.B.Board.view c.args.rx.now) (g.B.Board.view c.args.tx.now))
    c.args.plan.now c.commands-commands.result.now c.loop-command.command-index
    c.loop-command.self c.args.seats.now c.loop-command.seats c.loop-command.invariant
    c.loop-command-test.true

pub loop-command-preserved : goal.loop-command-preserved
loop-command-preserved g c =
    ran_more (stage c.args.shared.now (g.B.Board.view c.args.rx.now) (g.B.Board.view c.args.tx.now))
    c.args.plan.now c.commands-commands.result.now c.loop-command.command-index
    c.command-item.result c.loop-command.self c.give.new.self c.args.seats.now
    c.loop-command.seats c.give.new.seats c.loop-command.invariant c.loop-command-test.true
    (subst (λ (d : Command). IsGivenOnce c.args.plan.now.tries d
    c.loop-command.self.commands.items c.give.new.self.commands.items) c.command-item.is
    c.give.ensures.once)
    c.give.ensures.attempted c.give.ensures.ready c.give.ensures.room

pub returns-clause-given : goal.returns-clause-given
returns-clause-given g c =
    let s = stage c.args.shared.now (g.B.Board.view c.args.rx.now)
    (g.B.Board.view c.args.tx.now) in
    let past = c.loop-command-test.false in
    let within = c.loop-command.auto.command-index-end in
    let all : c.loop-command.command-index ≡ length c.commands-commands.result.now =
    omega (arith, past, within) in
    ran_all s c.args.plan.now c.commands-commands.result.now c.loop-command.self c.args.seats.now
    c.loop-command.seats c.commands-commands.ensures
    (subst (λ (n : ℕ). Ran s c.args.plan.now c.commands-commands.result.now n
    c.loop-command.self c.args.seats.now c.loop-command.seats) all c.loop-command.invariant)

pub returns-clause-attempted : goal.returns-clause-attempted
returns-clause-attempted g c = c.loop-command.invariant.attempted

pub returns-clause-seated : goal.returns-clause-seated
returns-clause-seated g c = c.loop-command.invariant.ready.seated
