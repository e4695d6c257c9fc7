use Rattle.std.proofs.Common.{◌≡◌, ◌<◌, ◌≤◌, drop, length, true, sym, ◌∙◌, arith}
use Rattle.std.proofs.lemmas.List.{drop-drop, take_rest}
use Rattle.flow_dissector.specs.Ethernet.{is_tag}
use Rattle.flow_dissector.proofs.Tags.{after_tags-no_tag, after_tags-zero, after_tags-cut}
use Rattle.flow_dissector.proofs.Tags.{after_tags-more}
use Rattle.flow_dissector.proofs.ethernet.after_tags.Goals as goal

pub returns-then-rest-lt-TAG-clause-packet : goal.returns-then-rest-lt-TAG-clause-packet
returns-then-rest-lt-TAG-clause-packet c =
    let left : 0 < c.loop-left.left = omega arith in
    let tag : is_tag c.loop-left.kind ≡ true = sym c.is_tag.ensures ∙ c.if-is_tag.true in
    let cut : length (drop c.loop-left.start c.args.frame.now) < 4 =
    rw (← c.split_at.ensures.back) c.if-rest-lt-TAG.true in
    sym (after_tags-cut _ _ _ left tag cut) ∙ c.loop-left.invariant.1

pub loop-left-preserved : goal.loop-left-preserved
loop-left-preserved c =
    let left : 0 < c.loop-left.left = omega arith in
    let tag : is_tag c.loop-left.kind ≡ true = sym c.is_tag.ensures ∙ c.if-is_tag.true in
    let whole : 4 ≤ length (drop c.loop-left.start c.args.frame.now) =
    rw (← c.split_at.ensures.back) c.if-rest-lt-TAG.false in
    let more = sym (after_tags-more _ _ _ left tag whole) ∙ c.loop-left.invariant.1 in (
      omega arith,
      rw (
        c.read_u16-kind-in-loop-left.ensures,
        c.split_at.ensures.back,
        ← drop-drop 4 c.loop-left.start c.args.frame.now,
        take_rest,
      ) more,
    )

pub returns-else-is_tag-clause-packet : goal.returns-else-is_tag-clause-packet
returns-else-is_tag-clause-packet c =
    sym (after_tags-no_tag _ _ _ (sym c.is_tag.ensures ∙ c.if-is_tag.false))
    ∙ c.loop-left.invariant.1

pub returns-after-loop-left-clause-packet : goal.returns-after-loop-left-clause-packet
returns-after-loop-left-clause-packet c =
    let none_left : c.loop-left.left ≤ 0 = omega arith in sym (after_tags-zero _ _ _ none_left)
    ∙ c.loop-left.invariant.1
