use Rattle.std.proofs.Common.{arith}
use Rattle.report_reader.proofs.PartsLemmas.{first-line, parts-are}
use Rattle.report_reader.proofs.parts.read_parts.Goals as goal

pub returns-clause-parts : goal.returns-clause-parts
returns-clause-parts g c = λ packets apps start h texts some low l small r.
    parts-are packets apps start h texts c.args.bytes.now r c.lines_fit.ensures small some low _
    c.args.most _ _ _ _ _ _ _ _ _ l
    (c.read-first.ensures.next _ _ (omega arith)
    (first-line packets apps start h texts c.args.bytes.now r))
    c.in_ok-packets.ensures.packets.reads c.in_ok-packets.ensures.replies.reads
    c.in_ok-queues.ensures.reads c.in_ok-cpus.ensures.reads
    c.in_ok-txs.ensures.reads c.in_ok-writes.ensures.reads c.in_ok-commands.ensures.reads
    c.in_ok-texts.ensures.reads
    c.read_last-last.ensures

pub returns-clause-fit : goal.returns-clause-fit
returns-clause-fit g c =
    omega (
      arith,
      c.in_ok-packets.ensures.packets.fit,
      c.in_ok-packets.ensures.replies.fit,
      c.in_ok-queues.ensures.fit,
      c.in_ok-cpus.ensures.fit,
      c.in_ok-txs.ensures.fit,
      c.in_ok-writes.ensures.fit,
      c.in_ok-commands.ensures.fit,
      c.in_ok-texts.ensures.fit,
      c.in_ok-texts.ensures.within,
    )
