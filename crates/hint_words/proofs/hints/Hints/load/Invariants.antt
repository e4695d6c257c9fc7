use Rattle.hint_words.proofs.hints.Hints.load.Given as goal

abbrev pub ghosts-load_as : goal.ghosts-load_as
ghosts-load_as a = record { seats = a.self.now.seats }
