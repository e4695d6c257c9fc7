use Rattle.std.proofs.Common.{◌∙◌, subst}
use Rattle.cap_gen.specs.Packets.{packets_of}
use Rattle.pcap_reader.specs.Writing.{capture_of}
use Rattle.replay.specs.Reports.{HasPlan}
use Rattle.replay.proofs.SummariesLemmas.{summary_is}
use Rattle.replay.proofs.summary.Summary.make.Goals as goal

pub returns : goal.returns
returns c =
    let seed = c.args.seed in
    let flows = c.args.flows in
    let n = c.args.packets in
    let plan = c.in-Ok.plan in
    let list = c.in_ok-list.list.items in
    let plan_bytes = c.deref.ensures.value ∙ c.in_ok-text.ensures.text in
    let counted = rw c.deref-4.ensures.value at c.flow_count.ensures in
    let played = rw c.deref-2.ensures.value at c.in_ok-history.ensures.is in
    record {
      plan = plan;
      has_plan = subst (λ b. HasPlan b plan) plan_bytes c.in-Ok.ensures.plan;
      capture = capture_of (packets_of seed flows n);
      has_capture = (c.a_generated_capture_has_its_frames.ensures seed flows n
          c.requires.few_packets).0;
      list = list;
      are_packets = c.in_ok-list.ensures.list;
      is = summary_is seed n _ _ list _ _ counted c.of.ensures played;
    }
