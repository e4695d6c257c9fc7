-- What the program's commands say of the words.
use Rattle.steer_top.specs.Words.{CheckWords, CommandWords, GenWords, HashWords, PlaceWords}
use Rattle.steer_top.specs.Words.{PlanWords}
use Rattle.steer_top.specs.Words.CommandWords.{Check, Gen, Hash, Place, Replay}
use Rattle.steer_top.specs.declared.command.CheckCommand.{CheckCommand}
use Rattle.steer_top.specs.declared.command.GenCommand.{GenCommand}
use Rattle.steer_top.specs.declared.command.HashCommand.{HashCommand}
use Rattle.steer_top.specs.declared.command.PlaceCommand.{PlaceCommand}
use Rattle.steer_top.specs.declared.command.PlanCommand.{PlanCommand}
use Rattle.steer_top.specs.declared.command.StillCommand.{StillCommand}
use Rattle.steer_top.specs.declared.command.StillCommand.TheVariants as command

-- The words of the command `hash`.
abbrev pub hash_words_of : HashCommand → HashWords
hash_words_of hash = record { capture = hash.capture.now; queues = hash.queues; kinds = hash.kinds }

-- The words of a command over a plan and a capture.
abbrev pub plan_words_of : PlanCommand → PlanWords
plan_words_of names = record { plan = names.plan.now; capture = names.capture.now }

-- The words of the command `gen`.
abbrev pub gen_words_of : GenCommand → GenWords
gen_words_of gen = record { seed = gen.seed; packets = gen.packets; flows = gen.flows }

-- The words of the command `check`.
abbrev pub check_words_of : CheckCommand → CheckWords
check_words_of check =
    record { plan = check.plan.now; capture = check.capture.now; report = check.report.now }

-- The words of the command `place`.
abbrev pub place_words_of : PlaceCommand → PlaceWords
place_words_of place = record { rules = place.rules.now; capture = place.capture.now }

-- The words of a command that needs no threads.
abbrev pub words_of : StillCommand → CommandWords
words_of (command.Hash hash) = Hash (hash_words_of hash)
words_of (command.Replay names) = Replay (plan_words_of names)
words_of (command.Gen gen) = Gen (gen_words_of gen)
words_of (command.Check check) = Check (check_words_of check)
words_of (command.Place place) = Place (place_words_of place)
