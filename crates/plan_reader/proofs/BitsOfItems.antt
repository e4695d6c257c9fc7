-- A list of numbers as a set, one number after another.
use Rattle.std.proofs.Common.{◌≡◌, ℕ, ◌+◌, ◌*◌, ◌%◌, ◌^◌, ◌<◌, Result, Ok, sym, ap, ◌∙◌, bit_or}
use Rattle.std.specs.Fmt.{decimal}
use Rattle.serde_json.specs.Data.{Data, Items, item}
use Rattle.plan_reader.specs.declared.faults.fault.Fault.{Fault}
use Rattle.plan_reader.specs.Causes.{◌>>=◌}
use Rattle.plan_reader.specs.Faults.{here, under}
use Rattle.plan_reader.specs.Readings.{number_below, set_from}
use Rattle.plan_reader.proofs.Sets.{bit_is}

-- a number more was read
pub set_more : (limit position bits n : ℕ) (d : Data) (ds : Items) (all : Result ℕ Fault) → n < 32
    → under (decimal position) (here (number_below limit d)) ≡ Ok n
    → set_from limit position bits (item d ds) ≡ all → set_from limit (position + 1)
    (bit_or bits (1 * 2 ^ n % 4294967296)) ds ≡ all
set_more limit position bits n d ds all small e h =
    rw (bit_is n small)
    (ap (λ (r : Result ℕ Fault). r >>= (λ m. set_from limit (position + 1)
    (bit_or bits (2 ^ m)) ds)) (sym e) ∙ h)
