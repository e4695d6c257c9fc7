use Rattle.std.proofs.Common.{◌≡◌, ◌<◌, ◌∙◌, ap, arith, false, get_or, length, sym}
use Rattle.std.proofs.Common.{true}
use Rattle.std.specs.Prelude.{◌&&◌}
use Rattle.std.proofs.lemmas.List.{get_or_default}
use Rattle.std.proofs.lemmas.List.Folds.{list_all_at, list_all_more}
use Rattle.history.specs.Lists.{no_arrival}
use Rattle.history.specs.declared.arrival.Arrival.{Arrival}
use Rattle.good_check.specs.Swept.{has_ended}
use Rattle.good_check.proofs.SweptLemmas.{id-at}
use Rattle.good_check.proofs.case.Case.have_ended.Goals as goal

pub has_ended-requires : goal.has_ended-requires
has_ended-requires c =
    let xs = c.args.self.now.h.now.arrivals in
    let i = c.loop-arrival.arrival-index in
    let e : c.as_slice-arrival-items.result.now ≡ xs = c.as_slice-arrival-items.ensures in
    let here : i < length xs = omega (arith, c.loop-arrival-test.true, ap length e) in
    let is : c.arrival-item.result ≡ get_or xs i no_arrival =
    c.arrival-item.is ∙ ap (λ ys. get_or ys i c.arrival-item.result) e
    ∙ get_or_default xs i c.arrival-item.result no_arrival here in
    let id : c.arrival-item.result.id ≡ i =
    ap (λ a. a.id) is ∙ id-at xs i c.requires.plain.regular.arrived.numbered here in
    omega (arith, id, here)

pub returns-then-not-has_ended : goal.returns-then-not-has_ended
returns-then-not-has_ended c =
    let h = c.args.self.now.h.now in
    let xs = h.arrivals in
    let i = c.loop-arrival.arrival-index in
    let test = λ (a : Arrival). has_ended h a.id in
    let e : c.as_slice-arrival-items.result.now ≡ xs = c.as_slice-arrival-items.ensures in
    let here : i < length xs = omega (arith, c.loop-arrival-test.true, ap length e) in
    let is : c.arrival-item.result ≡ get_or xs i no_arrival =
    c.arrival-item.is ∙ ap (λ ys. get_or ys i c.arrival-item.result) e
    ∙ get_or_default xs i c.arrival-item.result no_arrival here in
    let f : test (get_or xs i no_arrival) ≡ false =
    ap test (sym is) ∙ sym c.has_ended.ensures ∙ c.if-not-has_ended.true in
    sym (list_all_at test xs i no_arrival here f)

pub loop-arrival-preserved : goal.loop-arrival-preserved
loop-arrival-preserved c =
    let h = c.args.self.now.h.now in
    let xs = h.arrivals in
    let i = c.loop-arrival.arrival-index in
    let test = λ (a : Arrival). has_ended h a.id in
    let e : c.as_slice-arrival-items.result.now ≡ xs = c.as_slice-arrival-items.ensures in
    let here : i < length xs = omega (arith, c.loop-arrival-test.true, ap length e) in
    let is : c.arrival-item.result ≡ get_or xs i no_arrival =
    c.arrival-item.is ∙ ap (λ ys. get_or ys i c.arrival-item.result) e
    ∙ get_or_default xs i c.arrival-item.result no_arrival here in
    let t : test (get_or xs i no_arrival) ≡ true =
    ap test (sym is) ∙ sym c.has_ended.ensures ∙ c.if-not-has_ended.false in
    list_all_more test xs i no_arrival here
    ∙ ap (λ b. b && test (get_or xs i no_arrival)) c.loop-arrival.invariant ∙ t
