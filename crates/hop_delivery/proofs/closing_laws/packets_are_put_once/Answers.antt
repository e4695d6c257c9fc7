use Rattle.board_api.proofs.OwnPuts.{accepted_were_put, drops_were_put, puts_stand}
use Rattle.hop_delivery.proofs.Closings.PutPlaceLemmas.{answers_are_places, packets_stand}
use Rattle.hop_delivery.proofs.Closings.PutPlaceLemmas.{turns_put_once}
use Rattle.hop_delivery.proofs.Names.{own_of, lists_of, at_closings}
use Rattle.hop_delivery.specs.Closings.PutPlaces.{AnswersArePlaces, PacketsStand}
use Rattle.hop_delivery.proofs.closing_laws.packets_are_put_once.Goals as goal

pub returns-clause-once : goal.returns-clause-once
returns-clause-once c = turns_put_once

pub returns-clause-places : goal.returns-clause-places
returns-clause-places c = at_closings AnswersArePlaces (λ about order fit lawful.
    answers_are_places about (own_of order) (lists_of about order) (puts_stand about order lawful)
    (accepted_were_put about order lawful))

pub returns-clause-stand : goal.returns-clause-stand
returns-clause-stand c = at_closings PacketsStand (λ about order fit lawful.
    packets_stand about (own_of order) (lists_of about order)
    (accepted_were_put about order lawful) (drops_were_put about order lawful))
