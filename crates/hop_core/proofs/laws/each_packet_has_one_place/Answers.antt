use Rattle.hop_model.specs.Events.{run}
use Rattle.hop_model.specs.Shape.{new_hop}
use Rattle.hop_core.proofs.AllSteps.{Sound-run}
use Rattle.hop_core.proofs.Apart.{HasPlaces-from}
use Rattle.hop_core.proofs.New.{Sound-new}
use Rattle.hop_core.proofs.laws.each_packet_has_one_place.Goals as goal

pub returns-clause-sound : goal.returns-clause-sound
returns-clause-sound c = λ s h. HasPlaces-from s h

pub returns-clause-all : goal.returns-clause-all
returns-clause-all c = λ shape es is may. HasPlaces-from (run es (new_hop shape))
    (Sound-run es (new_hop shape) may (Sound-new shape is))
