-- Wrong orders are not lawful.
use Rattle.backlog.specs.Puts.{next_waiting}
use Rattle.hop_rule.specs.Gates as gates
use Rattle.hop_rule.specs.Lanes as lanes
use Rattle.hop_rule.specs.Unlawful.{PutsElsewhere, PullsTheNewest, RetiresBeforeDelivery}
use Rattle.hop_rule.specs.Unlawful.{SetsInAnOpenGate, ReadsTwoValues}
use Rattle.hop_rule.proofs.Names.{◌≡◌, ◌+◌, List, length, sym, ap, ◌∙◌, arith, StepBy, steps_of}
use Rattle.hop_rule.proofs.Names.{gates_of, lanes_of, retired, delivered_from, closer, puller}
use Rattle.hop_rule.proofs.Names.{LaneStep}
use Rattle.hop_rule.proofs.Boards.{parts}
use Rattle.hop_rule.proofs.Deliveries.{facts, gone}
use Rattle.hop_rule.proofs.Lists.{none-some, some-is}
use Rattle.hop_rule.proofs.Owns.{gates_own, lanes_own}
use Rattle.hop_rule.proofs.Visits.{read_is_setting}

pub puts_elsewhere : PutsElsewhere
puts_elsewhere about order p l id hash answer none lawful =
    let may = lawful.1.0.1 in
    none-some may.0 (sym none ∙ (ap (lanes.holding l) (sym (lanes_own p order)) ∙ may.1))

pub pulls_the_newest : PullsTheNewest
pulls_the_newest about order p l x id found holds waits other lawful =
    let may = lawful.1.0.1 in
    let same : found ≡ may.0 = some-is found may.0
    (sym holds ∙ (ap (lanes.holding l) (sym (lanes_own p order)) ∙ may.1)) in
    other (some-is id x (sym may.2.1 ∙ (ap next_waiting (sym same) ∙ waits)))

pub retires_before_delivery : RetiresBeforeDelivery
retires_before_delivery about order p l w all lawful =
    let may = lawful.1.0 in
    let ls : List (StepBy LaneStep) = lanes_of order in
    let was : lanes.phase l (steps_of (puller about l) ls) ≡ lanes.gave =
    ap (λ z. lanes.phase l (steps_of z ls)) may.2 ∙ may.3 in
    let one : length (delivered_from l ls) ≡ retired about order l + 1 =
    (facts about ls (parts about order lawful.2).0 l).1
    ∙ ap (λ o. retired about order l + gone about o) was in
    absurd (omega arith)

pub sets_in_an_open_gate : SetsInAnOpenGate
sets_in_an_open_gate about order p i v open_ lawful =
    let may = lawful.1 in
    let closed_ : gates.closed (steps_of (closer about) (gates_of order)) ≡ 1 =
    ap (λ z. gates.closed (steps_of z (gates_of order))) (sym may.0) ∙ may.2 in
    let same = ap gates.closed (gates_own (closer about) order) in
    absurd (omega arith)

pub reads_two_values : ReadsTwoValues
reads_two_values about order e m n q w i v x enters first second stays reads again other lawful =
    let a = read_is_setting about order lawful q e n w m i v enters stays first (omega arith) reads
    in
    let b = read_is_setting about order lawful q e n w n i x enters stays (omega arith)
    (omega arith) again in
    other (a ∙ sym b)
