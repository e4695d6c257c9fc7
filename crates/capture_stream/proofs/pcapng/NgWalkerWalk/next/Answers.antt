use Rattle.std.proofs.Common.{arith, inl, inr}
use Rattle.capture_stream.proofs.PcapngLemmas.{ends-there, fewer}
use Rattle.capture_stream.proofs.pcapng.NgWalkerWalk.next.Goals as goal

pub next-requires-clause-fits : goal.next-requires-clause-fits
next-requires-clause-fits c =
    let (bytes, frames, passed, few) = c.requires in
    let fills = c.a_walker_passes_blocks.ensures.fills c.args.self.now bytes frames
    c.args.window.now passed.1 in
    omega (arith, fills.size, few)

pub next-requires-clause-blocks : goal.next-requires-clause-blocks
next-requires-clause-blocks c =
    let (bytes, frames, passed, few) = c.requires in
    (c.a_walker_passes_blocks.ensures.fills c.args.self.now bytes frames c.args.window.now
    passed.1).narrow

pub returns-in-Ok-Frame : goal.returns-in-Ok-Frame
returns-in-Ok-Frame c =
    let (moves, inside, small) = rw c.in-Ok-Frame.field-0-is at c.in-Ok-Frame.ensures.finds in (
      moves.some,
      moves.within,
      inside,
      λ bytes frames passed.
          let now = rw c.in-Ok-Frame.field-0-is at c.in-Ok-Frame.ensures.passed bytes frames
          passed.1 in
          (fewer c.next.new.self bytes frames _ _ now, (passed.0, now)),
    )

pub returns-in-Ok-Incomplete : goal.returns-in-Ok-Incomplete
returns-in-Ok-Incomplete c =
    let (same, none, short) = rw c.in-Ok-Incomplete.field-0-is at
    c.in-Ok-Incomplete.ensures.finds in (
      same,
      λ bytes frames passed.
          ends-there c.a_walker_passes_blocks.ensures.all c.a_walker_passes_blocks.ensures.cut
          c.args.self.now bytes frames c.args.window.now passed.0 passed.1 none,
    )

pub returns-in-Err : goal.returns-in-Err
returns-in-Err c = elim c.fault_of.ensures [
  | inl memory ↦ rw memory.1 (λ bytes frames passed. tt)
  | inr other ↦ rw other.1 (λ bytes frames passed more.
      c.in-Err.ensures.fault bytes more frames passed.1 passed.0 other.0)
]
