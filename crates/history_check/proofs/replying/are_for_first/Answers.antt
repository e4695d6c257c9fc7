use Rattle.std.proofs.Common.{◌+◌, ◌≡◌, ◌<◌, ◌≢◌, sym, ◌∙◌, ap, arith, get_or, length, map}
use Rattle.std.proofs.lemmas.List.{get_or-map, length-map}
use Rattle.history_check.proofs.BeginsLemmas.{pair-next, pair-short, pair-other}
use Rattle.history_check.proofs.replying.are_for_first.Goals as goal
use Rattle.history_check.proofs.replying.are_for_first.Goals.{then-i-sent-via-then-i-sent}
use Rattle.history_check.proofs.replying.are_for_first.Goals.{then-i-sent-via-else-i-sent+then-ne}

pub returns-then-i-sent : goal.returns-then-i-sent
returns-then-i-sent c =
    let i = c.loop-i.i in
    let ids = map (λ c. c.id) c.args.choices.now in
    let sent = map (λ s. s.id) c.args.sent.now in
    let here : i < length c.args.choices.now = c.loop-i-test.true in
    let long : i < length ids = omega (arith, here, length-map c.args.choices.now (λ c. c.id)) in
    let is : get_or ids i 0 ≡ c.index-choices-i.result.id =
    get_or-map (λ c. c.id) c.args.choices.now i c.index-choices-i.result 0 here ∙ ap (λ c. c.id)
    (sym c.index-choices-i.is) in
    elim c.then-i-sent.branch [
      | then-i-sent-via-then-i-sent w ↦
          sym (pair-short i ids sent long
          (omega (arith, w.if-i-sent.true, length-map c.args.sent.now (λ s. s.id))))
          ∙ c.loop-i.invariant
      | then-i-sent-via-else-i-sent+then-ne w ↦
          let further : i < length sent =
          omega (arith, w.if-i-sent.false, length-map c.args.sent.now (λ s. s.id)) in
          let other : get_or sent i 0 ≡ w.index-sent-i.result.id =
          get_or-map (λ s. s.id) c.args.sent.now i w.index-sent-i.result 0 w.if-i-sent.false
          ∙ ap (λ s. s.id) (sym w.index-sent-i.is) in
          let differ : get_or ids i 0 ≢ get_or sent i 0 = λ e.
          let same : c.index-choices-i.result.id ≡ w.index-sent-i.result.id = sym is ∙ e ∙ other in
          grind arith in
          sym (pair-other i ids sent long further differ) ∙ c.loop-i.invariant
    ]

pub loop-i-preserved : goal.loop-i-preserved
loop-i-preserved c =
    let i = c.loop-i.i in
    let ids = map (λ c. c.id) c.args.choices.now in
    let sent = map (λ s. s.id) c.args.sent.now in
    let here : i < length c.args.choices.now = c.loop-i-test.true in
    let long : i < length ids = omega (arith, here, length-map c.args.choices.now (λ c. c.id)) in
    let is : get_or ids i 0 ≡ c.index-choices-i.result.id =
    get_or-map (λ c. c.id) c.args.choices.now i c.index-choices-i.result 0 here ∙ ap (λ c. c.id)
    (sym c.index-choices-i.is) in
    let further : i < length sent = omega (
      arith,
      c.if-i-sent.false,
      length-map c.args.sent.now
          (λ s. s.id),
    ) in
    let other : get_or sent i 0 ≡ c.index-sent-i.result.id =
    get_or-map (λ s. s.id) c.args.sent.now i c.index-sent-i.result 0 c.if-i-sent.false
    ∙ ap (λ s. s.id) (sym c.index-sent-i.is) in
    let same : c.index-choices-i.result.id ≡ c.index-sent-i.result.id = grind arith in
    pair-next i (i + 1) ids sent long further (is ∙ same ∙ sym other) (omega arith)
    ∙ c.loop-i.invariant
