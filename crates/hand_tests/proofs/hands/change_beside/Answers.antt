use Rattle.run_workers.specs.Hands.Deltas.{no_lane}
use Rattle.hand_tests.proofs.hands.Closing.{made_closed, made_rests, refused_rests}
use Rattle.hand_tests.proofs.hands.change_beside.Goals as goal

pub set_and_open-requires-clause-closed : goal.set_and_open-requires-clause-closed
set_and_open-requires-clause-closed g c =
    made_closed no_lane c.args.board.now 3 c.args.board.now.sizes (record { 0 = 0 })
    c.args.closer.now
    c.close_empty.new.seat c.in-None.ensures

pub returns-in-None-clause-closer : goal.returns-in-None-clause-closer
returns-in-None-clause-closer g c =
    (made_rests no_lane c.args.board.now 3 c.args.board.now.sizes (record { 0 = 0 })
    c.args.closer.now
    c.set_and_open.new.seat c.close_empty.new.seat c.args.i c.args.v c.requires.closer
    c.in-None.ensures c.set_and_open.ensures).rests

pub returns-in-None-clause-opened : goal.returns-in-None-clause-opened
returns-in-None-clause-opened g c =
    (made_rests no_lane c.args.board.now 3 c.args.board.now.sizes (record { 0 = 0 })
    c.args.closer.now
    c.set_and_open.new.seat c.close_empty.new.seat c.args.i c.args.v c.requires.closer
    c.in-None.ensures c.set_and_open.ensures).opened

pub returns-in-Some-clause-closer : goal.returns-in-Some-clause-closer
returns-in-Some-clause-closer g c =
    (refused_rests no_lane c.args.board.now 3 c.args.board.now.sizes (record { 0 = 0 })
    c.args.closer.now c.close_empty.new.seat c.in-Some.busy c.requires.closer
    c.in-Some.ensures).rests

pub returns-in-Some-clause-opened : goal.returns-in-Some-clause-opened
returns-in-Some-clause-opened g c =
    (refused_rests no_lane c.args.board.now 3 c.args.board.now.sizes (record { 0 = 0 })
    c.args.closer.now c.close_empty.new.seat c.in-Some.busy c.requires.closer
    c.in-Some.ensures).opened
