use Rattle.std.proofs.Common.{◌<◌, ◌∙◌, [], arith, length}
use Rattle.std.proofs.lemmas.List.{get_or_default}
use Rattle.report_reader.proofs.shelf.shelf.Goals as goal

pub returns : goal.returns
returns c = λ wanted s.
    let list = c.args.list in
    let l : list < length c.in_ok-lists.lists.items = omega (arith, c.in_ok-lists.ensures.lists) in
    c.into_vec.ensures ∙ c.swap_remove.ensures.value
    ∙ get_or_default c.in_ok-lists.lists.items list c.swap_remove.result [] l
    ∙ c.in_ok-lists.ensures.each list wanted (omega arith) s
