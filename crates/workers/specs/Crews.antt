-- The workers of a run, each with the actors that were dealt to it.
use Rattle.std.specs.Prelude.{◌≡◌, ℕ, List, length, map}
use Rattle.workers.specs.RoundRobin.{AreDealt}
use Rattle.run_words.specs.declared.seats.Seats.{Seats}
use Rattle.run_crew.specs.Crews.{drains_of, pollers_of, servers_of, ships_of}
use Rattle.run_crew.specs.declared.seated.Seated.{Seated}
use Rattle.workers.specs.declared.actors.Actors.{Actors}
use Rattle.workers.specs.declared.crew.Hands.{Hands}

-- Of each kind there are so many hands.
pub record HasHands (hands : Hands) (count : ℕ) : Type 0 where
  pub pollers : length hands.pollers.items ≡ count
  pub drains : length hands.drains.items ≡ count
  pub servers : length hands.servers.items ≡ count
  pub ships : length hands.ships.items ≡ count

-- The actors were dealt out to these hands.
pub record AreDealtOut (a : Actors) (hands : Hands) : Type 0 where
  pub pollers : AreDealt a.pollers.items (map (λ hand. hand.items) hands.pollers.items)
  pub drains : AreDealt a.drains.items (map (λ hand. hand.items) hands.drains.items)
  pub servers : AreDealt a.servers.items (map (λ hand. hand.items) hands.servers.items)
  pub ships : AreDealt a.ships.items (map (λ hand. hand.items) hands.ships.items)

-- The workers are at these seats, each with the hands of its number.
pub record HaveHands (hands : Hands) (seats : List Seats) (crew : List Seated) : Type 0 where
  pub seats_are : map (λ (x : Seated). x.seats) crew ≡ seats
  pub pollers : map (λ hand. hand.items) hands.pollers.items ≡ map pollers_of crew
  pub drains : map (λ hand. hand.items) hands.drains.items ≡ map drains_of crew
  pub servers : map (λ hand. hand.items) hands.servers.items ≡ map servers_of crew
  pub ships : map (λ hand. hand.items) hands.ships.items ≡ map ships_of crew

-- The actors were dealt out to workers at these seats.
pub record IsCrewOf (a : Actors) (seats : List Seats) (crew : List Seated) : Type 0 where
  pub seats_are : map (λ (x : Seated). x.seats) crew ≡ seats
  pub pollers : AreDealt a.pollers.items (map pollers_of crew)
  pub drains : AreDealt a.drains.items (map drains_of crew)
  pub servers : AreDealt a.servers.items (map servers_of crew)
  pub ships : AreDealt a.ships.items (map ships_of crew)
