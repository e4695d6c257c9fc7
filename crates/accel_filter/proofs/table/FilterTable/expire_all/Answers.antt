use Rattle.std.proofs.Common.{◌+◌, ◌*◌, ◌≡◌, arith}
use Rattle.accel_filter.proofs.table.FilterTable.expire_all.Goals as goal

pub loop-place-preserved : goal.loop-place-preserved
loop-place-preserved c =
    let at = c.loop-place in
    let next : 64 * (at.place + 1) ≡ 64 * at.place + 64 = omega arith in
    let few = c.expire_word-count.ensures.few in
    record {
      few = omega (arith, few, at.invariant.few);
      walked = rw next (c.expire_word-count.ensures.walked _ at.count at.invariant.walked);
      seated = c.expire_word-count.ensures.seated;
    }
