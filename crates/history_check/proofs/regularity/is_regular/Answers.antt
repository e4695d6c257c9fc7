use Rattle.std.proofs.Common.{◌≡◌, true, sym, ◌∙◌}
use Rattle.std.specs.Prelude.{◌↔◌, IsTrue}
use Rattle.std.proofs.lemmas.Bool.{false≢true}
use Rattle.std.proofs.lemmas.Result.{IfOk-weaker}
use Rattle.history.specs.Regular.{Regular}
use Rattle.history_check.specs.Tests.{has_shape, has_short_lists, passes}
use Rattle.history_check.proofs.FromTests.{from_tests}
use Rattle.history_check.proofs.PassingLists.{to_shape, to_short_lists}
use Rattle.history_check.proofs.ToTests.{to_tests}
use Rattle.history_check.proofs.regularity.is_regular.Goals as goal

pub returns-then-has_short_lists : goal.returns-then-has_short_lists
returns-then-has_short_lists c =
    let packets = c.args.packets.now in
    let h = c.args.history.now in
    IfOk-weaker c.passes.result (λ passed. passed ≡ passes packets c.args.apps h)
    (λ passed. IsTrue passed ↔ Regular packets c.args.apps h)
    (λ passed is. (
      λ t. from_tests packets c.args.apps h (sym is ∙ t),
      λ r. is
          ∙ to_tests packets c.args.apps h r,
    )) c.passes.ensures

pub returns-else-has_shape : goal.returns-else-has_shape
returns-else-has_shape c =
    let packets = c.args.packets.now in
    let h = c.args.history.now in (
      λ t. absurd (false≢true t),
      λ r. elim c.else-has_shape.branch [
        | goal.else-has_shape-via-then-has_shape+else-has_short_lists w ↦
            let short : has_short_lists h ≡ true = to_short_lists packets c.args.apps h r in cc
        | goal.else-has_shape-via-else-has_shape w ↦
            let shape : has_shape packets c.args.apps h ≡ true = to_shape packets c.args.apps h r in
            cc
      ],
    )
