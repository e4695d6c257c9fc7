use Rattle.std.proofs.Common.{arith, get_or, ◌∙◌, sym, ◌≡◌}
use Rattle.std.proofs.lemmas.List.{get_or_default}
use Rattle.history.proofs.WordLemmas.{note-word}
use Rattle.history.proofs.known.places.Places.note.Goals as goal

pub returns-then-index-eq0 : goal.returns-then-index-eq0
returns-then-index-eq0 c =
    let words = c.self.inside.words.items in
    let at = c.id.inside.0 in
    let word = c.index.result.now in
    let empty : get_or words at 0 ≡ 0 =
    get_or_default words at 0 word (omega arith) ∙ sym c.index.ensures
    ∙ c.if-index-eq0.true in
    note-word words c.args.self.now c.args.id at c.args.place c.self.view_is c.id.view_is
    (omega arith) empty c.requires
