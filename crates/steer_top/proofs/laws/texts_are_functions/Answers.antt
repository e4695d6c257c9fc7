use Rattle.steer_top.proofs.Functions.{OneOfEach}
use Rattle.steer_top.proofs.SameCalls.{texts-are-functions}
use Rattle.steer_top.proofs.laws.texts_are_functions.Goals as goal

pub returns : goal.returns
returns c =
    let law : OneOfEach = record {
      capture = c.one_capture_or_fault.ensures.one_capture;
      ng_capture = c.one_capture_or_fault-2.ensures.one_capture;
      packets = c.a_capture_has_one_list_of_packets.ensures;
      verdict = c.a_verdict_is_one.ensures;
    } in
    let decided = c.a_call_is_decided.ensures in
    texts-are-functions law decided.either decided.once decided.apart
