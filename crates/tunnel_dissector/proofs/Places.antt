-- Places within what a header stands before.
use Rattle.std.proofs.lemmas.List.{drop-drop, length-drop}

pub ruleset place_steps = (drop-drop, length-drop)
