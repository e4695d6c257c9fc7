use Rattle.steer_top.proofs.still.perform.Goals as goal

pub returns-in-Hash-clause-ends : goal.returns-in-Hash-clause-ends
returns-in-Hash-clause-ends g c = rw c.in-Hash.is (c.hash_file.ensures.ends _)

pub returns-in-Replay-clause-ends : goal.returns-in-Replay-clause-ends
returns-in-Replay-clause-ends g c = rw c.in-Replay.is c.replay_file.ensures.ends

pub returns-in-Gen-clause-ends : goal.returns-in-Gen-clause-ends
returns-in-Gen-clause-ends g c = rw c.in-Gen.is (c.gen_input.ensures.ends _ _ _ _ _)

pub returns-in-Check-clause-ends : goal.returns-in-Check-clause-ends
returns-in-Check-clause-ends g c = rw c.in-Check.is (c.check_file.ensures.ends _)

pub returns-in-Place-clause-ends : goal.returns-in-Place-clause-ends
returns-in-Place-clause-ends g c = rw c.in-Place.is (c.place_file.ensures.ends _)
