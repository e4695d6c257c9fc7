use Rattle.std.proofs.Common.{[], ◌∷◌, ◌++◌, codes, decimal}
use Rattle.report.specs.Commands.{answer_fields, command_fields}
use Rattle.report.proofs.PiecesLemmas.{joined, row_done}
use Rattle.report.proofs.commands.command_line.Goals as goal

pub returns : goal.returns
returns c =
    let number = decimal c.args.number ∷ [] in
    let step = command_fields c.args.commanded.now.command in
    let answer = answer_fields c.args.commanded.now.answer in
    let two = joined (codes "c") number step c.begin.new.buf c.push_command.new.buf
    c.begin.ensures.text c.push_command.ensures.text in
    let three = joined (codes "c") (number ++ step) answer c.push_command.new.buf
    c.push_answer.new.buf two c.push_answer.ensures.text in
    row_done (codes "c") (number ++ step ++ answer) c.push_answer.new.buf c.push.new.self three
    c.push.ensures
