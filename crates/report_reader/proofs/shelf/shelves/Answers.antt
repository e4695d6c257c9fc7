use Rattle.std.proofs.Common.{◌≡◌, ◌<◌, ◌∙◌, ap, arith, get_or, length, subst}
use Rattle.std.proofs.lemmas.List.{length-map}
use Rattle.history.specs.Lists.{list_at}
use Rattle.report_reader.specs.Slots.{place_for, slot_of}
use Rattle.report_reader.proofs.ShelvesLemmas.{IsUpTo, line-at, shelved-below, slot-at}
use Rattle.report_reader.proofs.ShelvesLemmas.{up-all, up-none, up-step}
use Rattle.report_reader.proofs.shelf.shelves.Goals as goal

pub counts-requires : goal.counts-requires
counts-requires c = omega (
  arith,
  c.requires,
  ap length c.deref.ensures.value,
  ap length c.in_ok-slots.ensures,
  length-map c.args.seen.now (slot_of c.args.start c.args.kind),
)

pub loop-x-init : goal.loop-x-init
loop-x-init c = record {
  lists = c.in_ok-shelves.ensures.lists;
  up = λ n wanted l s. up-none _ wanted (c.in_ok-shelves.ensures.long n l
      ∙ ap (λ xs. get_or xs n 0) c.deref-2.ensures.value
      ∙ c.in_ok-counts.ensures c.args.start c.args.kind c.args.seen.now n wanted
      (c.deref.ensures.value ∙ c.in_ok-slots.ensures) s);
}

pub loop-x-preserved : goal.loop-x-preserved
loop-x-preserved c =
    let x = c.loop-x.x in
    let start = c.args.start in
    let kind = c.args.kind in
    let seen = c.args.seen.now in
    let slot = c.index-slot.result.now in
    let long = ap length c.in_ok-slots.ensures in
    let same = length-map seen (slot_of start kind) in
    let inside : x < length seen = omega (arith, c.loop-x-test.true, long, same) in
    let v = line-at seen x inside in
    let e : slot ≡ slot_of start kind v.0 =
    slot-at start kind seen c.in_ok-slots.slots.items x v.0 slot slot c.in_ok-slots.ensures inside
    v.1 c.index-slot.ensures in
    record {
      lists = c.put.ensures.lists ∙ c.loop-x.invariant.lists;
      up = λ n wanted l s.
          let below = c.loop-x.invariant.lists in
          up-step start kind seen n wanted s x v.0 inside v.1 (place_for n slot)
          (ap (place_for n) e) (list_at c.loop-x.shelves n) _
          (λ p e a b. c.put.ensures.set n p (omega (arith, l, below)) e a b)
          (c.put.ensures.same n) (c.loop-x.invariant.up n wanted l s);
    }

pub returns-clause-each : goal.returns-clause-each
returns-clause-each c = λ n wanted l s.
    let long = ap length c.in_ok-slots.ensures in
    let same = length-map c.args.seen.now (slot_of c.args.start c.args.kind) in
    let end : c.loop-x.x ≡ length c.args.seen.now =
    omega (arith, c.loop-x-test.false, c.loop-x.auto.x-end, long, same) in
    ap (λ xs. list_at xs n) c.in_ok-lists.ensures
    ∙ up-all (length c.args.seen.now) _ wanted (shelved-below _ _ _ n wanted s)
    (subst (λ k. IsUpTo k (list_at c.loop-x.shelves n) wanted) end
    (c.loop-x.invariant.up n wanted l s))
