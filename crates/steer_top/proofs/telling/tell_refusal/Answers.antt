use Rattle.steer_top.proofs.telling.tell_refusal.Goals as goal

pub returns-in-TooLong : goal.returns-in-TooLong
returns-in-TooLong g c = rw c.in-TooLong.is (rw c.name.ensures at c.say.ensures)
