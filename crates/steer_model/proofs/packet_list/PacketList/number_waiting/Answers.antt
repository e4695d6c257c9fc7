use Rattle.std.proofs.Common.{◌∙◌, subst, sym}
use Rattle.steer_model.specs.Capture.PacketLists.{HasPackets}
use Rattle.steer_model.proofs.packet_list.PacketList.number_waiting.Goals as goal

pub returns : goal.returns
returns c = λ key kinds frames is.
    record {
      key_is = is.key_is;
      kinds_are = is.kinds_are;
      packets = subst (λ fs. HasPackets key kinds fs c.push_all.new.self) is.frames_are
          (c.in_ok-push_all.ensures key kinds is.done is.waiting is.packets
          (is.others ∙ sym c.as_slice.ensures.value));
      none = c.clear.ensures.items;
    }
