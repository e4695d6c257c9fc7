use Rattle.steer_model.proofs.Capture.ShortNumberLemmas.{listed_more}
use Rattle.steer_model.proofs.short_numbers.ShortNumbers.number_of.Goals as goal

pub invariant_of-self-in_err-note : goal.invariant_of-self-in_err-note
invariant_of-self-in_err-note c =
    listed_more _ _ _ _ c.args.key c.args.next _ c.self.invariant
    c.in_ok-number.ensures.number c.note.ensures

pub invariant_of-self-2 : goal.invariant_of-self-2
invariant_of-self-2 c =
    listed_more _ _ _ _ c.args.key c.args.next _ c.self.invariant
    c.in_ok-number.ensures.number c.note.ensures
