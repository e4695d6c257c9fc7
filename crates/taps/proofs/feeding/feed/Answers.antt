use Rattle.std.proofs.Common.{◌+◌, ◌∙◌, ◌≡◌, ℕ, IfOk, ap, arith, get_or, length, map, rules}
use Rattle.std.proofs.Common.{subst, sym}
use Rattle.std.proofs.lemmas.List.{with_items_is, places}
use Rattle.taps.specs.Shown.{lines_left, text_of}
use Rattle.taps.proofs.ShownLemmas.{none_left}
use Rattle.taps.proofs.feeding.feed.Goals as goal

pub line-requires : goal.line-requires
line-requires g c =
    omega (arith, c.loop-id-test.true, c.requires, ap length c.loop-id.invariant.packets)

pub loop-id-preserved : goal.loop-id-preserved
loop-id-preserved g c =
    let packets = c.args.lines.now.packets in
    let id = c.loop-id.id in
    let shown : map (text_of (λ tap count. (g.dyn-1.0.entry tap.vtable).1.text tap.value
    (lines_left count (id + 1) packets))) c.note_all.new.fed
    ≡ map (text_of (λ tap count. (g.dyn-1.0.entry tap.vtable).1.text tap.value
    (lines_left count id packets))) c.deref_mut.result.now =
    c.in_ok-note_all.ensures packets (omega (arith, c.loop-id-test.true, c.requires))
    (c.line.ensures.line
    ∙ ap (λ lines. get_or lines id c.line.result) c.loop-id.invariant.packets) in
    record {
      packets = c.line.ensures.same ∙ c.loop-id.invariant.packets;
      texts = ap (map (text_of (λ tap count. (g.dyn-1.0.entry tap.vtable).1.text tap.value
          (lines_left count (id + 1) packets))))
          (with_items_is c.loop-id.fed c.note_all.new.fed (search (rules, places))) ∙ shown
          ∙ ap (map (text_of (λ tap count. (g.dyn-1.0.entry tap.vtable).1.text tap.value
          (lines_left count id packets)))) c.deref_mut.ensures.value ∙ c.loop-id.invariant.texts;
    }

pub returns : goal.returns
returns g c =
    let packets = c.args.lines.now.packets in
    let test = c.loop-id-test.false in
    let all = c.requires in
    let none = λ (count : ℕ). none_left packets c.loop-id.id count (omega (arith, test, all)) in
    subst (λ ys. IfOk c.finish_all.result (λ texts. texts.items ≡ ys))
    ((λ i. map (text_of (λ tap count. (g.dyn-1.0.entry tap.vtable).1.text tap.value
    (sym (none count) i))) c.loop-id.fed.items) ∙ c.loop-id.invariant.texts) c.finish_all.ensures
