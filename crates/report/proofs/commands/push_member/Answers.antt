use Rattle.std.proofs.Common.{[], ◌∷◌, ap, arith, length, length-append}
use Rattle.report.proofs.SetsLemmas.{decimal-short}
use Rattle.report.proofs.commands.push_member.Goals as goal

pub push-requires-2 : goal.push-requires-2
push-requires-2 c =
    omega (
      arith,
      c.requires.room,
      decimal-short c.args.n c.requires.small,
      ap length c.push.ensures,
      length-append c.args.buf.now (c.separator.result ∷ []),
      ap length c.as_bytes.ensures.value,
      ap length c.format.ensures.text,
    )

pub returns-clause-grows : goal.returns-clause-grows
returns-clause-grows c =
    omega (
      arith,
      decimal-short c.args.n c.requires.small,
      ap length c.push.ensures,
      length-append c.args.buf.now (c.separator.result ∷ []),
      ap length c.push-2.ensures,
      length-append c.push.new.self c.as_bytes.result.now,
      ap length c.as_bytes.ensures.value,
      ap length c.format.ensures.text,
    )
