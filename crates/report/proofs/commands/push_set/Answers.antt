use Rattle.std.proofs.Common.{◌≡◌, ◌++◌, ◌∙◌, true, false, length, refl, sym, ap, arith, append-nil}
use Rattle.steer_base.specs.Sets.{in_bits, is_empty, those_below}
use Rattle.report.proofs.SetsLemmas.{members_text}
use Rattle.report.proofs.SetsLemmas.{member_more, no_member, some_member}
use Rattle.report.proofs.commands.push_set.Goals as goal
use Rattle.report.proofs.commands.push_set.Goals.{then-is_member, else-is_member}

pub loop-n-init : goal.loop-n-init
unfolding those_below
loop-n-init c = record {
  text = sym (append-nil c.args.buf.now);
  empty = refl;
  size = omega arith;
}

pub loop-n-preserved : goal.loop-n-preserved
loop-n-preserved c =
    let n = c.loop-n.n in
    let test = in_bits c.args.width c.args.bits in
    elim c.if-is_member.branch [
      | then-is_member w ↦
          let is : test n ≡ true = sym c.is_member.ensures ∙ w.if-is_member.true in
          record {
            text = w.buf-is ∙ member_more n test c.args.buf.now c.loop-n.buf w.push_member.new.buf
                c.loop-n.first is c.loop-n.invariant.empty c.loop-n.invariant.text
                w.push_member.ensures.text;
            empty = w.first-is ∙ some_member n test is;
            size = omega (
              arith,
              ap length w.buf-is,
              w.push_member.ensures.grows,
              c.loop-n.invariant.size,
            );
          }
      | else-is_member w ↦
          let isnt : test n ≡ false = sym c.is_member.ensures ∙ w.if-is_member.false in
          record {
            text = w.buf-is ∙ c.loop-n.invariant.text ∙ ap (λ ns. c.args.buf.now ++ members_text ns)
                (no_member n test isnt);
            empty = w.first-is ∙ c.loop-n.invariant.empty ∙ ap is_empty (no_member n test isnt);
            size = omega (arith, ap length w.buf-is, c.loop-n.invariant.size);
          }
    ]
