use Rattle.std.proofs.Common.{◌∙◌, ap, refl}
use Rattle.steer_model.proofs.Capture.WaitingLemmas.{list-waits}
use Rattle.steer_model.proofs.packet_list.PacketListFrameSink.take.Goals as goal
use Rattle.toeplitz.specs.Flows.{hash_of_flow}

pub returns : goal.returns
returns c first before taken =
    let list = c.make_room.new.self in
    let flow = c.dissect-flow.result in
    let is = c.in_ok-make_room.ensures taken.key taken.kinds before taken.is in
    record {
      key = taken.key;
      kinds = taken.kinds;
      empty = taken.empty;
      is = list-waits taken.key taken.kinds before c.args.frame.now list _ _ is refl refl refl
          c.in_ok-push.ensures.items c.dissect-flow.ensures.flow
          (c.hash.ensures ∙ ap (λ key. hash_of_flow key flow list.kinds.0) is.key_is
          ∙ ap (λ kinds. hash_of_flow taken.key flow kinds) is.kinds_are)
          refl;
    }
