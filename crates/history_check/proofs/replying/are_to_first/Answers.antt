use Rattle.std.proofs.Common.{◌+◌, ◌≡◌, ◌<◌, ◌≢◌, sym, ◌∙◌, ap, arith, get_or, length, map}
use Rattle.std.proofs.lemmas.Grind.{get_or_default_zero}
use Rattle.std.proofs.lemmas.List.{get_or-map, length-map}
use Rattle.history_check.proofs.BeginsLemmas.{pair-next, pair-short, pair-other}
use Rattle.history_check.proofs.replying.are_to_first.Goals as goal
use Rattle.history_check.proofs.replying.are_to_first.Goals.{then-i-inbox-via-then-i-inbox}
use Rattle.history_check.proofs.replying.are_to_first.Goals.{then-i-inbox-via-else-i-inbox+then-ne}

pub returns-then-i-inbox : goal.returns-then-i-inbox
returns-then-i-inbox c =
    let i = c.loop-i.i in
    let ids = map (λ s. s.id) c.args.sent.now in
    let here : i < length c.args.sent.now = c.loop-i-test.true in
    let long : i < length ids = omega (arith, here, length-map c.args.sent.now (λ s. s.id)) in
    let is : get_or ids i 0 ≡ c.index-sent-i.result.id =
    get_or-map (λ s. s.id) c.args.sent.now i c.index-sent-i.result 0 here ∙ ap (λ s. s.id)
    (sym c.index-sent-i.is) in
    elim c.then-i-inbox.branch [
      | then-i-inbox-via-then-i-inbox w ↦
          sym (pair-short i ids c.args.inbox.now long w.if-i-inbox.true) ∙ c.loop-i.invariant
      | then-i-inbox-via-else-i-inbox+then-ne w ↦
          let differ : get_or ids i 0 ≢ get_or c.args.inbox.now i 0 = λ e.
          let same : c.index-sent-i.result.id ≡ w.index-inbox-i.result =
          sym is ∙ e ∙ sym (w.index-inbox-i.is
          ∙ get_or_default_zero c.args.inbox.now i w.index-inbox-i.result w.if-i-inbox.false) in
          grind arith in
          sym (pair-other i ids c.args.inbox.now long w.if-i-inbox.false differ)
          ∙ c.loop-i.invariant
    ]

pub loop-i-preserved : goal.loop-i-preserved
loop-i-preserved c =
    let i = c.loop-i.i in
    let ids = map (λ s. s.id) c.args.sent.now in
    let here : i < length c.args.sent.now = c.loop-i-test.true in
    let long : i < length ids = omega (arith, here, length-map c.args.sent.now (λ s. s.id)) in
    let is : get_or ids i 0 ≡ c.index-sent-i.result.id =
    get_or-map (λ s. s.id) c.args.sent.now i c.index-sent-i.result 0 here ∙ ap (λ s. s.id)
    (sym c.index-sent-i.is) in
    let same : get_or ids i 0 ≡ get_or c.args.inbox.now i 0 =
    let e : c.index-sent-i.result.id ≡ c.index-inbox-i.result = grind arith in is ∙ e
    ∙ c.index-inbox-i.is ∙ get_or_default_zero c.args.inbox.now i c.index-inbox-i.result
    c.if-i-inbox.false in
    pair-next i (i + 1) ids c.args.inbox.now long c.if-i-inbox.false same (omega arith)
    ∙ c.loop-i.invariant
