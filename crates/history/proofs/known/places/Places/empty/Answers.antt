use Rattle.std.proofs.Common.{◌∙◌, ap, map}
use Rattle.history.specs.Index.{place_of_word}
use Rattle.history.proofs.WordLemmas.{words-none}
use Rattle.history.proofs.known.places.Places.empty.Goals as goal

pub returns : goal.returns
returns c = ap (map place_of_word) c.in_ok-zeros.ensures ∙ words-none c.args.count
