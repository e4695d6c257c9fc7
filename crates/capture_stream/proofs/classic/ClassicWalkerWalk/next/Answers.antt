use Rattle.std.proofs.Common.{◌<◌, ◌≤◌, ◌≡◌, length, refl, arith}
use Rattle.std.proofs.lemmas.Bool.Decides.{nat_tests}
use Rattle.steer_base.specs.declared.limits.TheConstants.{MAX_PACKETS}
use Rattle.capture_stream.proofs.ClassicLemmas.{passed-more, ends-empty, ends-cut, tells-many}
use Rattle.capture_stream.proofs.ClassicLemmas.{tells-long}
use Rattle.capture_stream.proofs.classic.ClassicWalkerWalk.next.Goals as goal

pub returns-then-is_empty : goal.returns-then-is_empty
returns-then-is_empty c =
    let empty : length c.args.window.now ≡ 0 =
    grind (arith, nat_tests, c.if-is_empty.ensures) in
    let walker = c.args.self.now in
    (refl, λ bytes frames passed. ends-empty walker bytes frames c.args.window.now passed empty)

pub returns-then-self-ge-MAX_PACKETS : goal.returns-then-self-ge-MAX_PACKETS
returns-then-self-ge-MAX_PACKETS c =
    let some : 0 < length c.args.window.now =
    grind (arith, nat_tests, c.if-is_empty.ensures) in
    let many : MAX_PACKETS ≤ c.args.self.now.packets = omega arith in
    λ bytes frames passed more.
    tells-many c.args.self.now bytes frames c.args.window.now more passed some many

pub returns-in-Whole : goal.returns-in-Whole
returns-in-Whole c =
    let few : c.args.self.now.packets < MAX_PACKETS = omega arith in (
      omega arith,
      c.in-Whole.ensures.0,
      omega arith,
      λ bytes frames passed. passed-more c.args.self.now bytes frames c.args.window.now
          c.in-Whole.record passed c.in-Whole.ensures.0 few c.in-Whole.ensures.1,
    )

pub returns-in-TooLong : goal.returns-in-TooLong
returns-in-TooLong c =
    let few : c.args.self.now.packets < MAX_PACKETS = omega arith in
    λ bytes frames passed more. tells-long c.args.self.now bytes frames c.args.window.now more
    c.in-TooLong.len passed few c.in-TooLong.ensures

pub returns-in-Cut : goal.returns-in-Cut
returns-in-Cut c =
    let walker = c.args.self.now in
    let few : walker.packets < MAX_PACKETS = omega arith in (
      refl,
      λ bytes frames passed. ends-cut walker bytes frames c.args.window.now passed
          c.in-Cut.ensures few,
    )
