use Rattle.std.proofs.Common.{[], refl, sym}
use Rattle.steer_model.proofs.packet_list.PacketList.make.Goals as goal

pub returns : goal.returns
returns c =
    record {
      key_is = c.in_ok-make.ensures;
      kinds_are = refl;
      done = [];
      waiting = [];
      frames_are = refl;
      packets = c.in_ok-make-2.ensures c.args.key.now c.args.kinds.0;
      others = sym c.in_ok-with_capacity.ensures.items;
    }
