use Rattle.std.proofs.Common.{arith}
use Rattle.hop_core.specs.View.{HopParts, parts_of}
use Rattle.hop_core.proofs.TableSteps.{IsClassOf-in_hand, IsSet-in_hand}
use Rattle.hop_core.proofs.Wholes.{fits-put, put_finds, put_leaves}
use Rattle.hop_core.proofs.hop.Hop.put.Goals as goal

pub put-went-requires-clause-room : goal.put-went-requires-clause-room
put-went-requires-clause-room c =
    let w = c.self.invariant in
    let named = rw (← c.self.view_is) at c.requires.producer in
    let found = put_finds _ c.args.p _ c.in-Some.chosen w named c.index-placed.ensures
    (rw (← c.self.view_is) at c.in-Some.ensures) in
    fits-put _ c.args.p c.in-Some.chosen.choice.lane found.more w

pub overflow_add-placed : goal.overflow_add-placed
overflow_add-placed c =
    let w = c.self.invariant in
    let named = rw (← c.self.view_is) at c.requires.producer in
    let found = put_finds _ c.args.p _ c.in-Some.chosen w named c.index-placed.ensures
    (rw (← c.self.view_is) at c.in-Some.ensures) in
    omega (arith, found.fits)

pub note-requires-clause-class : goal.note-requires-clause-class
note-requires-clause-class c =
    let w = c.self.invariant in
    let named = rw (← c.self.view_is) at c.requires.producer in
    let found = put_finds _ c.args.p _ c.in-Some.chosen w named c.index-placed.ensures
    (rw (← c.self.view_is) at c.in-Some.ensures) in
    rw found.chosen (IsClassOf-in_hand _ c.args.p c.self.inside.tables found.more w.sound w.tabled)

pub note-requires-clause-set : goal.note-requires-clause-set
note-requires-clause-set c =
    let w = c.self.invariant in
    let named = rw (← c.self.view_is) at c.requires.producer in
    let found = put_finds _ c.args.p _ c.in-Some.chosen w named c.index-placed.ensures
    (rw (← c.self.view_is) at c.in-Some.ensures) in
    rw found.chosen (IsSet-in_hand _ c.args.p c.self.inside.tables found.more w.sound w.tabled)

pub invariant_of-self : goal.invariant_of-self
invariant_of-self c =
    let w = c.self.invariant in
    let named = rw (← c.self.view_is) at c.requires.producer in
    let found = put_finds _ c.args.p _ c.in-Some.chosen w named c.index-placed.ensures
    (rw (← c.self.view_is) at c.in-Some.ensures) in
    (put_leaves _ c.args.p _ c.args.hash _ _ _ _ _ w named c.index-inside.ensures
    c.if-not-inside.false found
    c.put-went.ensures.lists c.put-went.ensures.answer c.note.ensures).0

pub returns-clause-state : goal.returns-clause-state
returns-clause-state c =
    let i = c.self.inside in
    let h : HopParts = parts_of i.rings i.counts.items i.tables i.lanes i.hands i.outs i.gate in
    let w = c.self.invariant in
    let named = rw (← c.self.view_is) at c.requires.producer in
    let found = put_finds h c.args.p _ c.in-Some.chosen w named c.index-placed.ensures
    (rw (← c.self.view_is) at c.in-Some.ensures) in
    rw (← c.self.view_is)
    (put_leaves h c.args.p _ c.args.hash _ _ _ _ _ w named c.index-inside.ensures
    c.if-not-inside.false found
    c.put-went.ensures.lists c.put-went.ensures.answer c.note.ensures).1
