use Rattle.std.proofs.Common.{◌≡◌, ◌<◌, ◌∙◌, None, ap, arith, get_or, length, refl, sym, inl, inr}
use Rattle.std.proofs.lemmas.Bool.{cases_lt}
use Rattle.std.proofs.lemmas.List.{get_or_past, length-map}
use Rattle.report_reader.specs.Slots.{one_at, place_for, slot_of}
use Rattle.report_reader.specs.declared.shelf.TheConstants.{LISTS}
use Rattle.report_reader.proofs.PlacesLemmas.{one-most, zeros-at, zeros-long}
use Rattle.report_reader.proofs.ShelvesLemmas.{below, below-none, count-all, count-step}
use Rattle.report_reader.proofs.ShelvesLemmas.{line-at, slot-at}
use Rattle.report_reader.proofs.shelf.counts.Goals as goal

pub loop-x-init : goal.loop-x-init
loop-x-init c =
    let zero = zeros-at c.resize.new.self.items c.new-counts.result.items LISTS _
    c.in_ok-resize.ensures.items c.new-counts.ensures.items c.new-counts.ensures.len in
    record {
      lists = zeros-long c.resize.new.self.items c.new-counts.result.items LISTS _
          c.in_ok-resize.ensures.items c.new-counts.ensures.items c.new-counts.ensures.len;
      few = λ n l. omega (arith, zero n l);
      counted = λ start kind seen n wanted e l s. zero n l ∙ sym (below-none wanted);
    }

pub loop-x-preserved : goal.loop-x-preserved
loop-x-preserved c =
    let x = c.loop-x.x in
    let slot = get_or c.args.slots.now x None in
    record {
      lists = c.count_one.ensures.lists;
      few = λ n l.
          let e = c.count_one.ensures.each n l in
          let o = one-most (place_for n slot) in
          let before = c.loop-x.invariant.few n l in
          omega (arith, e, o, before);
      counted = λ start kind seen n wanted is l s.
          let long : length c.args.slots.now ≡ length seen =
          ap length is ∙ length-map seen (slot_of start kind) in
          let inside : x < length seen = omega (arith, c.loop-x-test.true, long) in
          let v = line-at seen x inside in
          let e : slot ≡ slot_of start kind v.0 =
          slot-at start kind seen c.args.slots.now x v.0 slot None is inside v.1 refl in
          let step = count-step start kind seen n wanted s x v.0 inside v.1 (place_for n slot)
          (ap (place_for n) e) (one_at (place_for n slot)) (λ e. ap one_at e)
          (λ p e. ap one_at e) in
          let before = c.loop-x.invariant.counted start kind seen n wanted is l s in
          let e = c.count_one.ensures.each n l in
          omega (arith, step, before, e);
    }

pub returns : goal.returns
returns c = λ start kind seen n wanted is s.
    let long : length c.args.slots.now ≡ length seen =
    ap length is ∙ length-map seen (slot_of start kind) in
    let end : c.loop-x.x ≡ length seen =
    omega (arith, c.loop-x-test.false, c.loop-x.auto.x-end, long) in
    elim (cases_lt n LISTS) [
      | inl l ↦
          c.loop-x.invariant.counted start kind seen n wanted is l s ∙ ap (λ k. below k wanted) end
          ∙ count-all start kind seen n wanted s
      | inr g ↦
          get_or_past c.loop-x.counts.items n 0 (omega (arith, g, c.loop-x.invariant.lists))
          ∙ sym (ap length (s.low g))
    ]
