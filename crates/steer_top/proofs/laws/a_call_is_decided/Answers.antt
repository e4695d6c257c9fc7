use Rattle.steer_top.proofs.Decided.{OneCapture, is_decided, is_refused_once, is_not_both}
use Rattle.steer_top.proofs.laws.a_call_is_decided.Goals as goal

pub returns-clause-either : goal.returns-clause-either
returns-clause-either c =
    let pcap = c.one_capture_or_fault.ensures in
    let pcapng = c.one_capture_or_fault-2.ensures in
    let law : OneCapture = record {
      one = pcap.one_fault;
      apart = pcap.not_both;
      either = pcap.either;
      ng_one = pcapng.one_fault;
      ng_apart = pcapng.not_both;
      ng_either = pcapng.either;
    } in
    is_decided law

pub returns-clause-once : goal.returns-clause-once
returns-clause-once c =
    let pcap = c.one_capture_or_fault.ensures in
    let pcapng = c.one_capture_or_fault-2.ensures in
    let law : OneCapture = record {
      one = pcap.one_fault;
      apart = pcap.not_both;
      either = pcap.either;
      ng_one = pcapng.one_fault;
      ng_apart = pcapng.not_both;
      ng_either = pcapng.either;
    } in
    is_refused_once law

pub returns-clause-apart : goal.returns-clause-apart
returns-clause-apart c =
    let pcap = c.one_capture_or_fault.ensures in
    let pcapng = c.one_capture_or_fault-2.ensures in
    let law : OneCapture = record {
      one = pcap.one_fault;
      apart = pcap.not_both;
      either = pcap.either;
      ng_one = pcapng.one_fault;
      ng_apart = pcapng.not_both;
      ng_either = pcapng.either;
    } in
    is_not_both law
