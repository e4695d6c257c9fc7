use Rattle.std.proofs.Common.{◌≡◌, Option, Some, Ok, sym, ap, ◌∙◌, arith}
use Rattle.std.proofs.lemmas.Result.{err_from_is_err_and}
use Rattle.pcapng_reader.specs.declared.block.Block.{Block}
use Rattle.pcapng_reader.specs.Blocks.{block_at}
use Rattle.pcapng_reader.proofs.Placed.{placed, begins_behind, has_room}
use Rattle.pcapng_reader.proofs.Passing.{goes_on, finds, faulty}
use Rattle.pcapng_reader.proofs.walker.NgWalker.next.Goals as goal

pub returns-in_err-block-clause-fault : goal.returns-in_err-block-clause-fault
returns-in_err-block-clause-fault c bytes more frames h begins =
    let left = err_from_is_err_and c.from_residual.result c.from_residual.ensures.1 in
    rw (left.1, left.2) (λ numbered. faulty c.args.self.now bytes more frames c.args.window.now
    c.in_err-block.field-0.0 (sym c.in_err-block.ensures.block) h begins)

pub pass-requires-clause-blocks : goal.pass-requires-clause-blocks
pass-requires-clause-blocks c =
    let w = c.args.self.now in
    let is : block_at w.section w.place c.args.window.now ≡ Ok (Some c.in-Some.block) =
    sym c.in_ok-block.ensures.block ∙ ap (λ (o : Option Block). Ok o) c.in-Some.is in
    let p = placed w.section w.place c.args.window.now c.in-Some.block is in
    omega (arith, c.requires.fits, c.requires.blocks, p.least, p.whole)

pub pass-requires-clause-packets : goal.pass-requires-clause-packets
pass-requires-clause-packets c =
    let w = c.args.self.now in
    let is : block_at w.section w.place c.args.window.now ≡ Ok (Some c.in-Some.block) =
    sym c.in_ok-block.ensures.block ∙ ap (λ (o : Option Block). Ok o) c.in-Some.is in
    has_room w.section w.place c.args.window.now c.in-Some.block is

pub pass-requires-clause-bytes : goal.pass-requires-clause-bytes
pass-requires-clause-bytes c =
    let w = c.args.self.now in
    let is : block_at w.section w.place c.args.window.now ≡ Ok (Some c.in-Some.block) =
    sym c.in_ok-block.ensures.block ∙ ap (λ (o : Option Block). Ok o) c.in-Some.is in
    let p = placed w.section w.place c.args.window.now c.in-Some.block is in
    omega (arith, c.requires.fits, p.whole)

pub next_of-requires : goal.next_of-requires
next_of-requires c =
    let w = c.args.self.now in
    let is : block_at w.section w.place c.args.window.now ≡ Ok (Some c.in-Some.block) =
    sym c.in_ok-block.ensures.block ∙ ap (λ (o : Option Block). Ok o) c.in-Some.is in
    begins_behind w.section w.place c.args.window.now c.in-Some.block is

pub returns-clause-finds : goal.returns-clause-finds
returns-clause-finds c =
    let w = c.args.self.now in
    let is : block_at w.section w.place c.args.window.now ≡ Ok (Some c.in-Some.block) =
    sym c.in_ok-block.ensures.block ∙ ap (λ (o : Option Block). Ok o) c.in-Some.is in
    rw c.next_of.ensures
    (finds c.args.self.now c.pass.new.self c.args.window.now c.in-Some.block is
    c.in_ok-pass.ensures)

pub returns-clause-passed : goal.returns-clause-passed
returns-clause-passed c bytes frames h =
    let w = c.args.self.now in
    let is : block_at w.section w.place c.args.window.now ≡ Ok (Some c.in-Some.block) =
    sym c.in_ok-block.ensures.block ∙ ap (λ (o : Option Block). Ok o) c.in-Some.is in
    rw c.next_of.ensures (goes_on c.args.self.now c.pass.new.self bytes frames c.args.window.now
    c.in-Some.block is c.in_ok-pass.ensures h)
