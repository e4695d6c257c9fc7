use Rattle.workers.proofs.Names.{◌≡◌, ◌++◌, map, into_iter_items, drains_of, pollers_of, servers_of}
use Rattle.workers.proofs.Names.{ships_of}
use Rattle.workers.proofs.crew.seated.Given as goal

abbrev pub invariant-loop-seats : goal.invariant-loop-seats
invariant-loop-seats l = record {
  all : l.yielded ++ into_iter_items l.seats-iterator ≡ l.fn.seats.items;
  seats : map (λ x. x.seats) l.crew.items ≡ l.yielded;
  pollers : map (λ hand. hand.items) l.fn.hands.pollers.items
      ≡ map pollers_of l.crew.items ++ map (λ hand. hand.items) l.left.pollers.items;
  drains : map (λ hand. hand.items) l.fn.hands.drains.items
      ≡ map drains_of l.crew.items ++ map (λ hand. hand.items) l.left.drains.items;
  servers : map (λ hand. hand.items) l.fn.hands.servers.items
      ≡ map servers_of l.crew.items ++ map (λ hand. hand.items) l.left.servers.items;
  ships : map (λ hand. hand.items) l.fn.hands.ships.items
      ≡ map ships_of l.crew.items ++ map (λ hand. hand.items) l.left.ships.items;
}
