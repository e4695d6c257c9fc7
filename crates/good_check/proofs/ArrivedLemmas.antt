-- How many packets arrived, where all did.
use Rattle.std.proofs.Common.{ℕ, ◌≡◌, ◌∙◌, List, ap, length, map, sym}
use Rattle.std.specs.List.{range_with_len}
use Rattle.std.proofs.lemmas.List.{length-map}
use Rattle.std.proofs.lemmas.List.FromFn.{length-range_with_len}
use Rattle.history.specs.declared.arrival.Arrival.{Arrival}

pub count-arrived : (arrivals : List Arrival) (n : ℕ)
    → map (λ a. a.id) arrivals ≡ range_with_len 0 n → length arrivals ≡ n
count-arrived arrivals n e =
    sym (length-map arrivals (λ a. a.id)) ∙ ap length e ∙ length-range_with_len 0 n
