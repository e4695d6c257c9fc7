use Rattle.hint_words.proofs.hints.Hints.clear_if.Given as goal

abbrev pub ghosts-clear_as : goal.ghosts-clear_as
ghosts-clear_as a = record { seats = a.self.now.seats }
