use Rattle.std.proofs.Common.{[], refl}
use Rattle.std.proofs.KnownBytes.{Keeps-refl}
use Rattle.replay.specs.Summaries.{summary_text}
use Rattle.steer_top.specs.Commands.{gen_words_of}
use Rattle.steer_top.specs.Words.CommandWords.{Gen}
use Rattle.steer_top.proofs.Commands.{ends_written, files_of, gen_gave}
use Rattle.steer_top.proofs.gen_command.gen_input.Goals as goal

pub returns-in-Err-clause-ends : goal.returns-in-Err-clause-ends
returns-in-Err-clause-ends g c = λ held taps asked before after. (
  files_of [] [],
  gen_gave (gen_words_of c.args.command.now) held,
  Keeps-refl (g.K.Sink.written c.args.out.now),
)

pub returns-in-Ok-clause-ends : goal.returns-in-Ok-clause-ends
returns-in-Ok-clause-ends g c = λ held taps asked before after.
    let words = gen_words_of c.args.command.now in
    let summary = c.in-Ok.summary in
    ends_written (Gen words) _ (files_of [] []) (summary_text summary) c.write_summary.result
    (gen_gave words held) tt (summary, c.in-Ok.ensures, refl) c.write_summary.ensures.ends
