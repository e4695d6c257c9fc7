use Rattle.std.proofs.Common.{◌≡◌, ◌<◌, ◌≤◌, ◌+◌, ◌*◌, drop, length, true, sym, ◌∙◌, arith}
use Rattle.std.proofs.lemmas.List.{drop-drop}
use Rattle.flow_dissector.specs.Ipv6.{is_extension, extension_len}
use Rattle.flow_dissector.proofs.Extensions.{after_extensions-none, after_extensions-zero}
use Rattle.flow_dissector.proofs.Extensions.{after_extensions-short, after_extensions-cut}
use Rattle.flow_dissector.proofs.Extensions.{after_extensions-more}
use Rattle.flow_dissector.proofs.ipv6.after_extensions.Goals as goal

pub returns-then-left-eq0-clause-payload : goal.returns-then-left-eq0-clause-payload
returns-then-left-eq0-clause-payload c =
    let walked : is_extension c.loop-rest.next ≡ true = sym c.is_extension.ensures
    ∙ c.loop-rest-test.true in
    let too_many = λ (none : c.loop-rest.left ≤ 0). sym (after_extensions-zero _ _ _ none walked)
    ∙ c.loop-rest.invariant.1 in
    let short = λ (short : length (drop c.loop-rest.start c.args.packet.now) < 2). sym
    (after_extensions-short _ _ _ walked short) ∙ c.loop-rest.invariant.1 in
    elim c.then-left-eq0.branch [
      | goal.then-left-eq0-via-then-left-eq0 w ↦ too_many (omega arith)
      | goal.then-left-eq0-via-else-left-eq0+then-rest-lt2 w ↦
          short (rw (← c.split_at.ensures.back) w.if-rest-lt2.true)
    ]

pub returns-then-rest-len-clause-payload : goal.returns-then-rest-len-clause-payload
returns-then-rest-len-clause-payload c =
    let walked : is_extension c.loop-rest.next ≡ true = sym c.is_extension.ensures
    ∙ c.loop-rest-test.true in
    let begun : 2 ≤ length (drop c.loop-rest.start c.args.packet.now) =
    rw (← c.split_at.ensures.back) c.if-rest-lt2.false in
    let cut : length (drop c.loop-rest.start c.args.packet.now) < extension_len
    (drop c.loop-rest.start c.args.packet.now) =
    rw (← c.split_at.ensures.back, ← c.from-extra.ensures) c.if-rest-len.true in
    sym (after_extensions-cut _ _ _ walked begun cut) ∙ c.loop-rest.invariant.1

pub loop-rest-preserved : goal.loop-rest-preserved
loop-rest-preserved c =
    let left : 0 < c.loop-rest.left = omega arith in
    let walked : is_extension c.loop-rest.next ≡ true = sym c.is_extension.ensures
    ∙ c.loop-rest-test.true in
    let begun : 2 ≤ length (drop c.loop-rest.start c.args.packet.now) =
    rw (← c.split_at.ensures.back) c.if-rest-lt2.false in
    let whole : extension_len (drop c.loop-rest.start c.args.packet.now) ≤ length
    (drop c.loop-rest.start c.args.packet.now) =
    rw (← c.split_at.ensures.back, ← c.from-extra.ensures) c.if-rest-len.false in
    let more = sym (after_extensions-more _ _ _ left walked begun whole)
    ∙ c.loop-rest.invariant.1 in (
      omega arith,
      rw (
        ← drop-drop ((c.from-extra.result + 1) * 8) c.loop-rest.start c.args.packet.now,
        c.from-extra.ensures,
        c.split_at.ensures.back,
      ) more,
    )

pub returns-clause-payload : goal.returns-clause-payload
returns-clause-payload c =
    sym (after_extensions-none _ _ _ (sym c.is_extension.ensures ∙ c.loop-rest-test.false))
    ∙ c.loop-rest.invariant.1
