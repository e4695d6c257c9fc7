use Rattle.std.proofs.Common.{[], refl}
use Rattle.linearization.proofs.ViewLemmas.{views_open}
use Rattle.base_tests.proofs.seats.made.Goals as goal

pub of_words-requires : goal.of_words-requires
of_words-requires c = record { order = []; lawfully = refl; views_are = views_open 3 }
