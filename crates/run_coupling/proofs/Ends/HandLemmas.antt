-- A seat's deliveries are those that it retired, and one more if it is just between the two.
use Rattle.linearization.specs.Orders.{steps_of}
use Rattle.hop_rule.specs.Boards.{IsLawful, lanes_of, retired}
use Rattle.hop_rule.specs.Lanes.{Phase, gave, has_pulled, idle, phase}
use Rattle.hop_rule.specs.Owns.{own_of}
use Rattle.hop_rule.proofs.Boards.{parts}
use Rattle.hop_rule.proofs.Deliveries.{facts, gone}
use Rattle.hop_rule.proofs.Owns.{lanes_own}
use Rattle.board_api.specs.Closings.Closings.{AtEachClosing}
use Rattle.board_api.specs.Closings.Finals.{lists_of}
use Rattle.board_api.proofs.Endings.{at_closings}
use Rattle.board_api.proofs.Owners.{given_own, retired_own, retires}
use Rattle.run_coupling.specs.Laws.EmptyHands.{DeliveriesAreCounted, EmptyHandsRetired, hand_for}
use Rattle.run_coupling.specs.Laws.EmptyHands.{unretired}
use Rattle.run_coupling.proofs.Names.{◌≡◌, ◌+◌, List, length, sym, refl, ap, ◌∙◌, arith, StepBy}
use Rattle.run_coupling.proofs.Names.{FitSizes, puller, BoardSizes, BoardStep, retired_count}

module _ (about : BoardSizes) where
  gone-is : (o : Phase) → gone about o ≡ unretired o
  gone-is idle = refl
  gone-is (has_pulled id) = refl
  gone-is gave = refl

  module _ (order : List (StepBy BoardStep)) (fit : FitSizes about)
      (lawful : IsLawful about order) where
    counted : DeliveriesAreCounted about (own_of order) (lists_of about order)
    counted l less =
        let r = retires about l order lawful in
        let all : retired about order l ≡ retired_count about (own_of order) l =
        r.0 ∙ ap length (retired_own about l order lawful) in
        let hand : phase l (steps_of (puller about l) (lanes_of order))
        ≡ hand_for about (own_of order) l = ap (phase l) (lanes_own (puller about l) order) in
        ap length (sym (given_own about l order lawful))
        ∙ ((facts about (lanes_of order) (parts about order lawful).0 l).1
        ∙ (ap (λ n. n + gone about (phase l (steps_of (puller about l) (lanes_of order)))) all
        ∙ (ap (λ o. retired_count about (own_of order) l + gone about o) hand
        ∙ ap (λ n. retired_count about (own_of order) l + n)
        (gone-is (hand_for about (own_of order) l)))))

pub deliveries_are_counted : AtEachClosing DeliveriesAreCounted
deliveries_are_counted = at_closings DeliveriesAreCounted counted

pub empty_hands_retired : AtEachClosing EmptyHandsRetired
empty_hands_retired about seats lists ended empty l less =
    let all = deliveries_are_counted about seats lists ended l less in
    let none = ap unretired (empty l less) in omega arith
