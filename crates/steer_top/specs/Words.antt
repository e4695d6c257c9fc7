-- The words of the command line, without the program's name.
use Rattle.std.specs.Prelude.{ℕ, List, [], ◌∷◌, Bool, false, not, ◌&&◌, ◌==◌, nat_le, Option, Some}
use Rattle.std.specs.Prelude.{None, if◌then◌else◌, bytes_eq, codes, String, string_bytes, map}
use Rattle.std.specs.declared.alloc.Global.{Global}
use Rattle.std.specs.Option.{option_map}
use Rattle.steer_base.specs.Decimals.{decimal_number}
use Rattle.steer_base.specs.declared.limits.TheConstants.{MAX_PACKETS}
use Rattle.cap_gen.specs.declared.frame.TheConstants.{MAX_FLOWS}

-- A word that names a file: it is neither empty nor begins with a dash.
abbrev pub is_name : List ℕ → Bool
is_name [] = false
is_name (first ∷ rest) = not (first == 45)

-- The number of one to twenty decimal digits.
abbrev pub word_number : List ℕ → Option ℕ
word_number word = decimal_number 20 word

-- The number, if there is one from `low` to `high`.
abbrev pub if_within : ℕ → ℕ → Option ℕ → Option ℕ
if_within low high None = None
if_within low high (Some n) = if nat_le low n && nat_le n high then Some n else None

-- The number that a word is, if it is from `low` to `high`.
abbrev pub number_within : ℕ → ℕ → List ℕ → Option ℕ
number_within low high word = if_within low high (word_number word)

-- The command `hash`: the name of a capture, the number of receive queues, and the hash kinds.
pub record HashWords : Type 0 where
  pub capture : List ℕ
  pub queues : ℕ
  pub kinds : ℕ

-- The words of `hash` with these numbers and this name, if the numbers are present and the name is
-- one.
abbrev pub hash_with : List ℕ → Option ℕ → Option ℕ → Option HashWords
hash_with capture None kinds = None
hash_with capture (Some queues) None = None
hash_with capture (Some queues) (Some kinds) =
    if is_name capture
    then Some (record { capture = capture; queues = queues; kinds = kinds })
    else None

-- The arguments after the word `hash`: CAPTURE [QUEUES [KINDS]], with 4 queues and all kinds where
-- they are not given.
unfoldable pub hash_arguments : List (List ℕ) → Option HashWords
hash_arguments [] = None
hash_arguments (capture ∷ []) = hash_with capture (Some 4) (Some 63)
hash_arguments (capture ∷ queues ∷ []) = hash_with capture (number_within 1 16 queues) (Some 63)
hash_arguments (capture ∷ queues ∷ kinds ∷ []) =
    hash_with capture (number_within 1 16 queues) (number_within 0 63 kinds)
hash_arguments (capture ∷ queues ∷ kinds ∷ more ∷ rest) = None

-- A command over a plan and a capture: their names.
pub record PlanWords : Type 0 where
  pub plan : List ℕ
  pub capture : List ℕ

-- The arguments after the words `replay` and `run`: PLAN CAPTURE.
unfoldable pub plan_arguments : List (List ℕ) → Option PlanWords
plan_arguments [] = None
plan_arguments (plan ∷ []) = None
plan_arguments (plan ∷ capture ∷ []) =
    if is_name plan && is_name capture
    then Some (record { plan = plan; capture = capture })
    else None
plan_arguments (plan ∷ capture ∷ more ∷ rest) = None

-- The command `gen`: a seed, a number of packets, and the most flows that they may have.
pub record GenWords : Type 0 where
  pub seed : ℕ
  pub packets : ℕ
  pub flows : ℕ

-- The words of `gen` with these numbers, if all are present.
abbrev pub gen_with : Option ℕ → Option ℕ → Option ℕ → Option GenWords
gen_with None packets flows = None
gen_with (Some seed) None flows = None
gen_with (Some seed) (Some packets) None = None
gen_with (Some seed) (Some packets) (Some flows) =
    Some (record { seed = seed; packets = packets; flows = flows })

-- The arguments after the word `gen`: SEED PACKETS FLOWS.
unfoldable pub gen_arguments : List (List ℕ) → Option GenWords
gen_arguments [] = None
gen_arguments (seed ∷ []) = None
gen_arguments (seed ∷ packets ∷ []) = None
gen_arguments (seed ∷ packets ∷ flows ∷ []) =
    gen_with (number_within 0 18446744073709551615 seed) (number_within 0 MAX_PACKETS packets)
    (number_within 1 MAX_FLOWS flows)
gen_arguments (seed ∷ packets ∷ flows ∷ more ∷ rest) = None

-- The command `check`: the names of a plan, of a capture and of a report.
pub record CheckWords : Type 0 where
  pub plan : List ℕ
  pub capture : List ℕ
  pub report : List ℕ

-- The arguments after the word `check`: PLAN CAPTURE REPORT.
unfoldable pub check_arguments : List (List ℕ) → Option CheckWords
check_arguments [] = None
check_arguments (plan ∷ []) = None
check_arguments (plan ∷ capture ∷ []) = None
check_arguments (plan ∷ capture ∷ report ∷ []) =
    if (is_name plan && is_name capture) && is_name report
    then Some (record { plan = plan; capture = capture; report = report })
    else None
check_arguments (plan ∷ capture ∷ report ∷ more ∷ rest) = None

-- The command `place`: the names of the rules and of a capture.
pub record PlaceWords : Type 0 where
  pub rules : List ℕ
  pub capture : List ℕ

-- The arguments after the word `place`: RULES CAPTURE.
unfoldable pub place_arguments : List (List ℕ) → Option PlaceWords
place_arguments [] = None
place_arguments (rules ∷ []) = None
place_arguments (rules ∷ capture ∷ []) =
    if is_name rules && is_name capture
    then Some (record { rules = rules; capture = capture })
    else None
place_arguments (rules ∷ capture ∷ more ∷ rest) = None

-- a command with its numbers and the names of its files
pub data CommandWords : Type 0 where
  Hash : HashWords → CommandWords
  Replay : PlanWords → CommandWords
  Run : PlanWords → CommandWords
  Gen : GenWords → CommandWords
  Check : CheckWords → CommandWords
  Place : PlaceWords → CommandWords

-- The command of this name with these arguments that needs no threads, if there is one.
unfoldable pub still_command_named : List ℕ → List (List ℕ) → Option CommandWords
still_command_named name arguments =
    if bytes_eq name (codes "hash") then option_map Hash (hash_arguments arguments) else
    if bytes_eq name (codes "replay") then option_map Replay (plan_arguments arguments) else
    if bytes_eq name (codes "gen") then option_map Gen (gen_arguments arguments) else
    if bytes_eq name (codes "check") then option_map Check (check_arguments arguments) else
    if bytes_eq name (codes "place") then option_map Place (place_arguments arguments) else None

-- The command `run` with these arguments, if this is its name and they are its arguments.
unfoldable pub live_command_named : List ℕ → List (List ℕ) → Option CommandWords
live_command_named name arguments =
    if bytes_eq name (codes "run") then option_map Run (plan_arguments arguments) else None

-- The command of this name with these arguments, if there is one.
abbrev pub command_named : List ℕ → List (List ℕ) → Option CommandWords
command_named name arguments =
    if bytes_eq name (codes "run") then live_command_named name arguments
    else still_command_named name arguments

-- What the first of some words names, with the others as its arguments.
abbrev pub by_name : (List ℕ → List (List ℕ) → Option CommandWords) → List (List ℕ)
    → Option CommandWords
by_name named [] = None
by_name named (word ∷ rest) = named word rest

-- The command that words of a command line are, if they are one.
abbrev pub command_of : List (String Global) → Option CommandWords
command_of words = by_name command_named (map (λ word. string_bytes word) words)

-- The same of the commands that need no threads, and of `run`.
abbrev pub still_command_of : List (String Global) → Option CommandWords
still_command_of words = by_name still_command_named (map (λ word. string_bytes word) words)

abbrev pub live_command_of : List (String Global) → Option CommandWords
live_command_of words = by_name live_command_named (map (λ word. string_bytes word) words)
