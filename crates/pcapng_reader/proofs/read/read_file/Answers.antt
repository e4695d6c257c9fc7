use Rattle.std.proofs.Common.{◌≡◌, ◌<◌, length, Option, Some, None, Ok, refl, sym, ap, ◌∙◌, arith}
use Rattle.std.proofs.lemmas.Result.{err_from_is_err_and}
use Rattle.pcapng_reader.specs.declared.block.Block.{Block}
use Rattle.pcapng_reader.specs.Blocks.{block_at}
use Rattle.pcapng_reader.proofs.Placed.{placed, has_room}
use Rattle.pcapng_reader.proofs.Walk.{some_left, none_left, taken_in, walked_all, walked_fault}
use Rattle.pcapng_reader.proofs.read.read_file.Goals as goal

pub returns-in_err-block-clause-fault : goal.returns-in_err-block-clause-fault
returns-in_err-block-clause-fault c =
    let rest = c.loop-rest.rest.now in
    let some : 0 < length rest =
    some_left rest c.is_empty.result c.is_empty.ensures c.loop-rest-test.true in
    let left = err_from_is_err_and c.from_residual.result c.from_residual.ensures.1 in
    rw (left.1, left.2) (λ numbered.
    walked_fault c.args.bytes.now _ _ _ _ rest c.in_err-block.field-0.0 c.requires
    c.loop-rest.invariant (some, sym c.in_err-block.ensures.block))

pub returns-in_default-clause-found : goal.returns-in_default-clause-found
returns-in_default-clause-found c =
    let rest = c.loop-rest.rest.now in
    let some : 0 < length rest =
    some_left rest c.is_empty.result c.is_empty.ensures c.loop-rest-test.true in
    let w = c.loop-rest.reader.walker in
    let short : block_at w.section w.place rest ≡ Ok None =
    sym c.in_ok-block.ensures.block ∙ ap (λ (o : Option Block). Ok o) c.in_default.is in
    rw c.ends.ensures (walked_all c.args.bytes.now _ _ _ _ rest
    (Some (length rest)) c.requires c.loop-rest.invariant (some, short, refl))

pub take_in-requires-clause-packets : goal.take_in-requires-clause-packets
take_in-requires-clause-packets c =
    let w = c.loop-rest.reader.walker in
    let is : block_at w.section w.place c.loop-rest.rest.now ≡ Ok (Some c.in-Some.block) =
    sym c.in_ok-block.ensures.block ∙ ap (λ (o : Option Block). Ok o) c.in-Some.is in
    has_room _ _ _ c.in-Some.block is

pub split_at-requires : goal.split_at-requires
split_at-requires c =
    let w = c.loop-rest.reader.walker in
    let is : block_at w.section w.place c.loop-rest.rest.now ≡ Ok (Some c.in-Some.block) =
    sym c.in_ok-block.ensures.block ∙ ap (λ (o : Option Block). Ok o) c.in-Some.is in
    (placed _ _ _ c.in-Some.block is).whole

pub loop-rest-smaller : goal.loop-rest-smaller
loop-rest-smaller c =
    let w = c.loop-rest.reader.walker in
    let is : block_at w.section w.place c.loop-rest.rest.now ≡ Ok (Some c.in-Some.block) =
    sym c.in_ok-block.ensures.block ∙ ap (λ (o : Option Block). Ok o) c.in-Some.is in
    let least = (placed _ _ _ c.in-Some.block is).least in
    let behind = c.split_at.ensures.back_len in
    omega arith

pub loop-rest-preserved : goal.loop-rest-preserved
loop-rest-preserved c =
    let rest = c.loop-rest.rest.now in
    let some : 0 < length rest =
    some_left rest c.is_empty.result c.is_empty.ensures c.loop-rest-test.true in
    let w = c.loop-rest.reader.walker in
    let is : block_at w.section w.place c.loop-rest.rest.now ≡ Ok (Some c.in-Some.block) =
    sym c.in_ok-block.ensures.block ∙ ap (λ (o : Option Block). Ok o) c.in-Some.is in
    taken_in c.args.bytes.now c.loop-rest.reader c.take_in.new.self rest c.split_at.result.1.now
    c.in-Some.block c.loop-rest.invariant some is
    c.in_ok-take_in.ensures c.split_at.ensures.back

pub returns-clause-found : goal.returns-clause-found
returns-clause-found c =
    let rest = c.loop-rest.rest.now in
    rw c.ends-2.ensures
    (walked_all c.args.bytes.now _ _ _ _ rest None c.requires c.loop-rest.invariant
    (none_left rest c.is_empty.result c.is_empty.ensures c.loop-rest-test.false))
