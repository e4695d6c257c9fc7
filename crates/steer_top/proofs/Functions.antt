-- The text of a command is a function of its words, of the bytes of its files, and of its taps.
use Rattle.std.proofs.Common.{◌≡◌, ◌≤◌, ℕ, List, [], ◌∷◌, Option, Ok, length}
use Rattle.std.proofs.Common.{refl, ap, ◌∙◌, sym, subst, inl, inr, arith}
use Rattle.headline.proofs.Reports.{plans, same-packets}
use Rattle.headline.specs.Headline.{Says}
use Rattle.ntuple_rules.specs.Readings.{rules_of}
use Rattle.ntuple_rules.specs.declared.rules.Rules.{Rules}
use Rattle.pcap_reader.specs.Laws as pcap
use Rattle.pcap_reader.specs.declared.capture.Capture.{Capture}
use Rattle.pcapng_reader.specs.Laws as pcapng
use Rattle.plan_reader.specs.declared.plan.Plan.{Plan}
use Rattle.replay.specs.Counts.{counts_of}
use Rattle.replay.specs.Meanings.{Meaning}
use Rattle.replay.specs.Replays.{replay_of, shown_text}
use Rattle.replay.specs.Reports.{IsReportOfPlan}
use Rattle.replay.specs.Summaries.{IsSummaryOf, generated_capture, generated_plan, summary_text}
use Rattle.replay.specs.declared.summary.Summary.{Summary}
use Rattle.report_verdict.specs.Laws.{HasOneVerdict}
use Rattle.report_verdict.specs.VerdictText.{verdict_text}
use Rattle.report_verdict.specs.Verdicts.{IsVerdict}
use Rattle.steer_base.specs.declared.packet.Packet.{Packet}
use Rattle.steer_model.specs.Capture.FlowCounts.{flow_count}
use Rattle.steer_model.specs.Good.Inputs.{Input}
use Rattle.steer_model.specs.Laws.Packets.{PacketsAreOne}
use Rattle.steer_model.specs.State.Start.{replayed}
use Rattle.steer_top.specs.Captures.{HasAnyCapture}
use Rattle.steer_top.specs.Checks.{IsVerdictLine}
use Rattle.steer_top.specs.Files.{Files}
use Rattle.steer_top.specs.Functions.{HasOneText, MeanTheSame}
use Rattle.steer_top.specs.HashText.{capture_text}
use Rattle.steer_top.specs.Outcomes.{Writes}
use Rattle.steer_top.specs.PlaceText.{place_text}
use Rattle.steer_top.specs.Words.{CommandWords}
use Rattle.steer_top.specs.Words.CommandWords.{Check, Gen, Hash, Place, Replay, Run}
use Rattle.steer_top.specs.declared.ending.Role.TheVariants as role
use Rattle.steer_top.proofs.FewPackets.{few-records}
use Rattle.steer_top.proofs.Plans.{one-plan}

-- taps that mean the same are one list of meanings
same_taps : (taps others : List Meaning) → MeanTheSame taps others → taps ≡ others
same_taps [] [] same = refl
same_taps [] (other ∷ others) same = elim same [ ]
same_taps (tap ∷ taps) [] same = elim same [ ]
same_taps (tap ∷ taps) (other ∷ others) (same, rest) =
    let first : tap ≡ other = λ i lines. same lines i in
    ap (λ (t : Meaning). t ∷ taps) first
    ∙ ap (λ (ts : List Meaning). other ∷ ts) (same_taps taps others rest)

-- the laws that the readers, the packets and the verdict have one value
pub record OneOfEach : Type 0 where
  pub capture : pcap.HasOneCapture
  pub ng_capture : pcapng.HasOneNgCapture
  pub packets : PacketsAreOne
  pub verdict : HasOneVerdict

module _ (law : OneOfEach) where
  pub one_capture : (bytes : List ℕ) (a b : Capture) → HasAnyCapture bytes a
      → HasAnyCapture bytes b → a ≡ b
  one_capture bytes a b (inl has) (inl also) = law.ng_capture bytes a b has also
  one_capture bytes a b (inl has) (inr (other, also)) = absurd (other has.begins)
  one_capture bytes a b (inr (other, has)) (inl also) = absurd (other also.begins)
  one_capture bytes a b (inr (other, has)) (inr (more, also)) = law.capture bytes a b has also

  -- the same bytes say one input
  one_input : (plan_bytes capture_bytes : List ℕ) (capture : Capture) (i j : Input)
      → Says plan_bytes capture_bytes capture i → Says plan_bytes capture_bytes capture j → j ≡ i
  one_input plan_bytes capture_bytes capture i j said says =
      let plan : j.plan ≡ i.plan = one-plan j.plan i.plan
      (plans plan_bytes capture_bytes capture i j said says law.packets) in
      let packets : j.packets ≡ i.packets =
      same-packets plan_bytes capture_bytes capture i j said says law.packets in
      let cut : j.cut ≡ i.cut = says.cut ∙ sym said.cut in
      ap (λ (p : Plan). let k : Input = record { plan = p; packets = j.packets; cut = j.cut } in k)
      plan
      ∙ ap (λ (ps : List Packet).
      let k : Input = record { plan = i.plan; packets = ps; cut = j.cut } in k) packets
      ∙ ap (λ (c : Option ℕ).
      let k : Input = record { plan = i.plan; packets = i.packets; cut = c } in k) cut

  -- ---- the text of each command

  one_replay : (plan_bytes capture_bytes : List ℕ) (capture : Capture) (taps : List Meaning)
      (text other : List ℕ) → IsReportOfPlan plan_bytes capture_bytes capture taps text
      → IsReportOfPlan plan_bytes capture_bytes capture taps other → text ≡ other
  one_replay plan_bytes capture_bytes capture taps text other r s =
      let i : Input = record { plan = r.plan; packets = r.packets; cut = capture.cut } in
      let j : Input = record { plan = s.plan; packets = s.packets; cut = capture.cut } in
      let said : Says plan_bytes capture_bytes capture i =
      record { plan = r.has_plan; packets = r.are_packets; cut = refl } in
      let says : Says plan_bytes capture_bytes capture j =
      record { plan = s.has_plan; packets = s.are_packets; cut = refl } in
      let same : j ≡ i = one_input plan_bytes capture_bytes capture i j said says in
      r.is ∙ ap (λ (k : Input). shown_text (replay_of k.plan k.packets k.cut taps)) (sym same)
      ∙ sym s.is

  one_summary : (seed packets flows : ℕ) (a b : Summary) → IsSummaryOf seed packets flows a
      → IsSummaryOf seed packets flows b → a ≡ b
  one_summary seed packets flows a b is was =
      let plan_bytes = generated_plan seed packets in
      let bytes = generated_capture seed packets flows in
      let capture : was.capture ≡ is.capture =
      law.capture bytes was.capture is.capture was.has_capture is.has_capture in
      let i : Input = record { plan = is.plan; packets = is.list; cut = is.capture.cut } in
      let j : Input = record { plan = was.plan; packets = was.list; cut = was.capture.cut } in
      let said : Says plan_bytes bytes is.capture i =
      record { plan = is.has_plan; packets = is.are_packets; cut = refl } in
      let says : Says plan_bytes bytes was.capture j =
      record { plan = was.has_plan; packets = was.are_packets; cut = refl } in
      let same : j ≡ i = one_input plan_bytes bytes is.capture i j said
      (subst (λ c. Says plan_bytes bytes c j) capture says) in
      is.is
      ∙ ap (λ (k : Input). (
      let s : Summary = record {
        seed = seed;
        packets = packets;
        flows = flow_count k.packets;
        counts = counts_of (replayed k.plan k.packets k.cut);
      } in s)) (sym same)
      ∙ sym was.is

  one_line : (plan_bytes capture_bytes : List ℕ) (capture : Capture) (report text other : List ℕ)
      → HasAnyCapture capture_bytes capture
      → IsVerdictLine plan_bytes capture_bytes capture report text
      → IsVerdictLine plan_bytes capture_bytes capture report other → text ≡ other
  one_line plan_bytes capture_bytes capture report text other has a b =
      let same : b.input ≡ a.input =
      one_input plan_bytes capture_bytes capture a.input b.input a.says b.says in
      let apps : length a.input.plan.apps ≤ 32 = a.input.plan.within.apps_length.at_most in
      let records : length capture.records ≤ 262144 = few-records capture_bytes capture has in
      let few : length a.input.packets ≤ 262144 = omega (arith, records, a.says.packets.many) in
      a.is_line
      ∙ ap verdict_text (law.verdict a.input report a.verdict b.verdict few (omega (arith, apps))
      a.is_verdict (subst (λ i. IsVerdict i report b.verdict) same b.is_verdict))
      ∙ sym b.is_line

  one_place : (rules_bytes bytes : List ℕ) (rules others : Rules) (a b : Capture)
      → rules_of rules_bytes ≡ Ok rules → rules_of rules_bytes ≡ Ok others → a ≡ b
      → place_text rules bytes a ≡ place_text others bytes b
  one_place rules_bytes bytes rules others a b reads also same =
      let both : Ok rules ≡ Ok others = sym reads ∙ also in
      let one : rules ≡ others = cc in
      ap (λ r. place_text r bytes a) one ∙ ap (place_text others bytes) same

  -- ---- the text

  pub one_text : (command : CommandWords) (files : Files) (taps others : List Meaning)
      → HasOneText command taps others → (text other : List ℕ)
      → Writes taps command files text → Writes others command files other → text ≡ other
  one_text (Hash words) files taps others may text other (a, has, is) (b, also, was) =
      is ∙ ap (capture_text words.queues words.kinds (files role.Capture))
      (one_capture (files role.Capture) a b has also) ∙ sym was
  one_text (Replay words) files taps others may text other (a, has, is) (b, also, was) =
      let plan_bytes = files role.Plan in
      let bytes = files role.Capture in
      let capture = one_capture bytes b a also has in
      one_replay plan_bytes bytes a taps text other is
      (subst (λ ts. IsReportOfPlan plan_bytes bytes a ts other) (sym (same_taps taps others may))
      (subst (λ c. IsReportOfPlan plan_bytes bytes c others other) capture was))
  one_text (Run words) files taps others may text other is was = absurd may
  one_text (Gen words) files taps others may text other (a, has, is) (b, also, was) =
      is ∙ ap summary_text (one_summary words.seed words.packets words.flows a b has also) ∙ sym was
  one_text (Check words) files taps others may text other (a, has, is) (b, also, was) =
      let plan_bytes = files role.Plan in
      let bytes = files role.Capture in
      let report = files role.Report in
      one_line plan_bytes bytes a report text other has is
      (subst (λ c. IsVerdictLine plan_bytes bytes c report other)
      (one_capture bytes b a also has) was)
  one_text (Place words) files taps others may text other (rules, a, reads, has, is)
      (more, b, also, had, was) =
      is ∙ one_place (files role.Rules) (files role.Capture) rules more a b reads also
      (one_capture (files role.Capture) a b has had) ∙ sym was
