use Rattle.run_coupling.proofs.Ends.HandLemmas as hands
use Rattle.run_coupling.proofs.laws.empty_hands_have_retired.Goals as goal

pub returns-clause-counted : goal.returns-clause-counted
returns-clause-counted c = hands.deliveries_are_counted

pub returns-clause-retired : goal.returns-clause-retired
returns-clause-retired c = hands.empty_hands_retired
