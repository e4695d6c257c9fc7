use Rattle.hint_words.proofs.LastWrites.{last_is, unwritten, either_way}
use Rattle.hint_words.proofs.laws.last_write.Goals as goal

pub returns-clause-written : goal.returns-clause-written
returns-clause-written c = λ i n order w. last_is i n order w

pub returns-clause-unwritten : goal.returns-clause-unwritten
returns-clause-unwritten c = λ i order none. unwritten i order none

pub returns-clause-either : goal.returns-clause-either
returns-clause-either c = λ i order. either_way i order
