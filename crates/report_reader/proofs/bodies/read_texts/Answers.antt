use Rattle.std.proofs.Common.{rules, ◌≡◌, true}
use Rattle.std.proofs.Common.{sym, ◌∙◌, arith, length, refl, length-drop}
use Rattle.std.proofs.Math.ListN.{drop_of_length-le}
use Rattle.std.proofs.lemmas.Slice.Eq.{bytes_eq-Decides}
use Rattle.report_reader.proofs.TextsLemmas.{text-fits, text-goes, texts-end, texts-go, texts-room}
use Rattle.report_reader.proofs.TextsLemmas.{texts-stop}
use Rattle.report_reader.proofs.bodies.read_texts.Goals as goal

pub returns-then-not-is_tap-clause-reads : goal.returns-then-not-is_tap-clause-reads
returns-then-not-is_tap-clause-reads c = λ texts i rest s o t.
    texts-stop _ _ _ _ _ o _ _ c.read-after.ensures.fields c.read-after.ensures.next
    (c.loop-next.invariant.reading texts i rest s o t)
    (λ e.
    let same : c.at.result.now ≡ c.as_slice.result.now = c.at.ensures ∙ e
    ∙ sym c.as_slice.ensures in
    let test : c.eq-is_tap.result ≡ true = c.eq-is_tap.ensures
    ∙ (bytes_eq-Decides c.at.result.now c.as_slice.result.now).1 same in
    let no' = c.if-not-is_tap.true in cc)

pub returns-then-after-next-lt-SHORTEST_TAP-clause-reads :
    goal.returns-then-after-next-lt-SHORTEST_TAP-clause-reads
returns-then-after-next-lt-SHORTEST_TAP-clause-reads c = λ texts i rest s o t.
    let same = (bytes_eq-Decides c.at.result.now c.as_slice.result.now).0 (sym c.eq-is_tap.ensures
    ∙ c.if-not-is_tap.false) in
    let room = texts-room _ _ _ _ _ o _ _ c.read-after.ensures.fields c.read-after.ensures.next
    (c.loop-next.invariant.reading texts i rest s o t) (sym c.at.ensures ∙ same
    ∙ c.as_slice.ensures) in
    let a = length-drop c.read-after.result c.args.bytes.now in
    let b = length-drop c.loop-next.next c.args.bytes.now in
    absurd (omega (
      arith,
      room,
      a,
      b,
      c.read-after.ensures.within,
      c.if-after-next-lt-SHORTEST_TAP.true,
    ))

pub returns-then-long-bytes-clause-reads : goal.returns-then-long-bytes-clause-reads
returns-then-long-bytes-clause-reads c = λ texts i rest s o t.
    let same = (bytes_eq-Decides c.at.result.now c.as_slice.result.now).0 (sym c.eq-is_tap.ensures
    ∙ c.if-not-is_tap.false) in
    let n = texts-go _ _ _ _ _ o _ _ c.read-after.ensures.fields c.read-after.ensures.next
    (c.loop-next.invariant.reading texts i rest s o t) (sym c.at.ensures ∙ same
    ∙ c.as_slice.ensures) in
    let long = c.number-long.ensures (length n.this) n.small (c.at-in-loop-next.ensures ∙ n.long) in
    let fits = text-fits c.args.bytes.now n.this _ c.read-after.result c.read-after.ensures.within
    n.text in
    absurd (omega (arith, long, fits, c.if-long-bytes.true))

pub loop-next-preserved : goal.loop-next-preserved
loop-next-preserved c = record {
  within = search rules;
  fit = search rules;
  reading = λ texts i rest s o t.
      let same = (bytes_eq-Decides c.at.result.now c.as_slice.result.now).0 (sym c.eq-is_tap.ensures
      ∙ c.if-not-is_tap.false) in
      let n = texts-go _ _ _ _ _ o _ _ c.read-after.ensures.fields c.read-after.ensures.next
      (c.loop-next.invariant.reading texts i rest s o t) (sym c.at.ensures ∙ same
      ∙ c.as_slice.ensures) in
      let long = c.number-long.ensures (length n.this) n.small (c.at-in-loop-next.ensures ∙ n.long)
      in
      text-goes _ _ _ _ _ _ n c.number-long.result _ _ _ long refl c.in_ok-copy_of.ensures
      c.in_ok-push.ensures.items;
}

pub returns-clause-reads : goal.returns-clause-reads
returns-clause-reads c = λ texts i rest s o t.
    absurd (texts-end _ _ _ _ _ o (c.loop-next.invariant.reading texts i rest s o t)
    (drop_of_length-le c.args.bytes.now (omega (arith, c.loop-next-test.false))))
