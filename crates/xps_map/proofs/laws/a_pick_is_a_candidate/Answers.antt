use Rattle.xps_map.proofs.CandidatesLemmas as lemmas
use Rattle.xps_map.proofs.laws.a_pick_is_a_candidate.Goals as goal

pub returns-clause-among : goal.returns-clause-among
returns-clause-among c = lemmas.among

pub returns-clause-within : goal.returns-clause-within
returns-clause-within c = lemmas.within
