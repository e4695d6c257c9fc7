use Rattle.std.proofs.Common.{◌∙◌, ap, arith, length, subst₂, sym}
use Rattle.report_reader.specs.Joined.{AreJoined}
use Rattle.report_history.proofs.BuiltLemmas.{built-is, if-both}
use Rattle.report_history.proofs.printed.history_of.Goals as goal

pub built-requires : goal.built-requires
built-requires c = record {
  few = omega (
    arith,
    c.if-len-packets.false,
    c.len.ensures,
    c.requires.few,
    ap (λ v. length v.items) c.replace-lines.ensures.value,
    c.in_ok-seen.ensures.long,
  );
}

pub returns : goal.returns
returns c = record {
  only = if-both _ _ _ c.built.result c.built.ensures.history c.built.ensures.texts
      (λ p b t h texts f. (
        built-is c.args.packets.now c.args.apps c.args.start c.args.parts c.in_ok-seen.seen
            p.history h texts
            (λ lines a. c.in_ok-seen.ensures.joined lines
            (subst₂ (λ ps rs. AreJoined ps rs lines)
            (sym (ap (λ v. v.items) c.replace-lines.ensures.value))
            (sym (ap (λ v. v.items) c.replace-replies.ensures.value)) a))
            (record {
              arrivals = b.arrivals;
              taken = b.taken;
              choices = b.choices;
              lanes = b.lanes;
              inboxes = b.inboxes;
              sent = b.sent;
              tx_choices = b.tx_choices;
              tx_lanes = b.tx_lanes;
              port = b.port;
              writes = b.writes;
              commands = b.commands;
              total = b.total;
              cut = b.cut;
              starts = b.starts;
            }) c.requires.few c.lines_fit.ensures (omega (arith, c.ranges.apps.fits)) f,
        t ∙ f.parts.texts,
      ));
}
