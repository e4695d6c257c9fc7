use Rattle.std.proofs.Common.{All, ◌≡◌, ◌-◌, [], ◌++◌}
use Rattle.std.specs.Vec.{vec_len, vec_capacity}
use Rattle.linearization.specs.Views.{fresh}
use Rattle.linearization.specs.Seats.{new_seats}
use Rattle.linearization.proofs.dealing.deal.Given as goal

abbrev pub invariant-loop : goal.invariant-loop
invariant-loop g l = (l.main.table_id ≡ l.shared.table_id)
    × (l.main.me ≡ (record { hands = fresh l.counter (l.seats - l.counter) }, []))
    × (vec_len l.given ≡ l.counter) × (vec_capacity l.given ≡ l.seats)
    × All (λ s. s.table ≡ l.shared.table_id) l.given.items
    × (l.given.items ++ new_seats l.shared.table_id l.counter
    (l.seats - l.counter) ≡ new_seats l.shared.table_id 0 l.seats)
