use Rattle.std.proofs.Common.{rules, ◌≡◌, ◌++◌, [], ◌∷◌, true, sym, ◌∙◌, subst}
use Rattle.std.proofs.Common.{ap, arith, length-drop}
use Rattle.std.proofs.Math.ListN.{drop_of_length-le}
use Rattle.std.proofs.lemmas.Slice.Eq.{bytes_eq-Decides}
use Rattle.report_reader.proofs.SectionsLemmas.{Left, fits-more, section-ends, section-full}
use Rattle.report_reader.proofs.SectionsLemmas.{section-goes, section-room, section-stops}
use Rattle.report_reader.proofs.sections.read_section.Goals as goal

pub returns-then-len-most-clause-reads : goal.returns-then-len-most-clause-reads
returns-then-len-most-clause-reads g c = λ items rows rest s m o t.
    section-full _ _ _ _ _ _ _ _ o _ (c.loop-next.invariant.reading items rows rest s m o t) m
    (sym c.loop-next.items.ok.0 ∙ sym c.len.ensures ∙ c.if-len-most.true)

pub returns-then-not-is_own-clause-reads : goal.returns-then-not-is_own-clause-reads
returns-then-not-is_own-clause-reads g c = λ items rows rest s m o t.
    section-stops _ _ _ _ _ _ _ _ o _ c.first_field.ensures
    (c.loop-next.invariant.reading items rows rest s m o t)
    (λ e.
    let same : c.first_field.result.now ≡ c.word.result.now = e ∙ sym c.word.ensures in
    let test : c.eq-is_own.result ≡ true = c.eq-is_own.ensures
    ∙ (bytes_eq-Decides c.first_field.result.now c.word.result.now).1 same in
    let no' = c.if-not-is_own.true in cc)

pub returns-then-after-next-clause-reads : goal.returns-then-after-next-clause-reads
returns-then-after-next-clause-reads g c = λ items rows rest s m o t.
    let same = (bytes_eq-Decides c.first_field.result.now c.word.result.now).0
    (sym c.eq-is_own.ensures ∙ c.if-not-is_own.false) in
    let room = section-room _ _ _ _ _ _ _ _ o _ c.first_field.ensures c.steps.result.now
    g.S.Section.gives c.steps.ensures _ _
    c.read_values-after.ensures.values c.read_values-after.ensures.next
    (c.loop-next.invariant.reading items rows rest s m o t) (same ∙ c.word.ensures) in
    let a = length-drop c.read_values-after.result c.args.bytes.now in
    let b = length-drop c.loop-next.next c.args.bytes.now in
    absurd (omega (
      arith,
      room,
      a,
      b,
      c.read_values-after.ensures.within,
      c.shortest.ensures,
      c.if-after-next.true,
    ))

pub loop-next-preserved : goal.loop-next-preserved
loop-next-preserved g c = record {
  within = search rules;
  few = search rules;
  fit = fits-more g.S.Section.least c.args.at c.loop-next.next c.read_values-after.result _ _ _
      c.in_ok-push.ensures.items c.loop-next.invariant.fit
      (omega (
        arith,
        c.shortest.ensures,
        c.if-after-next.false,
        c.read_values-after.ensures.after (omega (arith, c.loop-next-test.true)),
      ));
  reading = λ items rows rest s m o t.
      let same = (bytes_eq-Decides c.first_field.result.now c.word.result.now).0
      (sym c.eq-is_own.ensures ∙ c.if-not-is_own.false) in
      let n = section-goes _ _ _ _ _ _ _ _ o _ c.first_field.ensures c.steps.result.now
      g.S.Section.gives c.steps.ensures _ _
      c.read_values-after.ensures.values c.read_values-after.ensures.next
      (c.loop-next.invariant.reading items rows rest s m o t) (same ∙ c.word.ensures) in
      subst (λ done. Left g.S.Section.first g.S.Section.least g.S.Section.shows c.args.bytes.now
      c.read_values-after.result done items rest)
      (ap (λ x. c.loop-next.items.items ++ (x ∷ [])) (sym (c.item.ensures n.0 n.1))
      ∙ sym c.in_ok-push.ensures.items) n.2;
}

pub returns-clause-reads : goal.returns-clause-reads
returns-clause-reads g c = λ items rows rest s m o t.
    absurd (section-ends _ _ _ _ _ _ _ _ o (c.loop-next.invariant.reading items rows rest s m o t)
    (drop_of_length-le c.args.bytes.now (omega (arith, c.loop-next-test.false))))
