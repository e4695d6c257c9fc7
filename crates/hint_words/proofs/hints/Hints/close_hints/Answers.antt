use Rattle.hint_words.proofs.Sources.{loads_are_stored}
use Rattle.hint_words.proofs.hints.Hints.close_hints.Goals as goal

pub returns-clause-order : goal.returns-clause-order
returns-clause-order c =
    let e = c.close.ensures.ends in
    record { order = e.order; lawful = e.lawfully.lawful; parts = e.parts }

pub returns-clause-stored : goal.returns-clause-stored
returns-clause-stored c =
    let e = c.close.ensures.ends in loads_are_stored c.args.seats.items e.order e.lawfully.lawful
    e.parts
