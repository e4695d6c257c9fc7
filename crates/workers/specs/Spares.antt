-- Empty lists with room for what a run leaves.
use Rattle.std.specs.Prelude.{◌≡◌, ℕ, ◌+◌, ◌≤◌, []}
use Rattle.std.specs.Vec.{vec_capacity}
use Rattle.steer_base.specs.Journals.{journal}
use Rattle.workers.specs.declared.spare.Spare.{Spare}
use Rattle.workers.specs.declared.spare.SpareActors.{SpareActors}
use Rattle.workers.specs.declared.spare.SpareLists.{SpareLists}
use Rattle.workers.specs.declared.spare.SpareSeats.{SpareSeats}

-- Lists for the seats of so many workers, of the controller, and at the hint words of the wire.
pub record AreSeats (workers : ℕ) (s : SpareSeats) : Type 0 where
  pub rx : s.rx ≡ journal [] (workers + 1)
  pub tx : s.tx ≡ journal [] (workers + 1)
  pub hints : s.hints ≡ journal [] (workers + 2)

-- Lists for the actors of so many queues and applications, by worker and of all.
pub record AreActors (queues apps workers : ℕ) (s : SpareActors) : Type 0 where
  pub dealt_pollers : s.dealt_pollers ≡ journal [] workers
  pub dealt_servers : s.dealt_servers ≡ journal [] workers
  pub pollers : s.pollers.items ≡ []
  pub pollers_room : queues ≤ vec_capacity s.pollers
  pub servers : s.servers.items ≡ []
  pub servers_room : apps ≤ vec_capacity s.servers

-- Lists for a history with so many queues and applications.
pub record AreLists (queues apps : ℕ) (s : SpareLists) : Type 0 where
  pub taken : s.taken ≡ journal [] queues
  pub choices : s.choices ≡ journal [] queues
  pub sent : s.sent ≡ journal [] apps
  pub tx_choices : s.tx_choices ≡ journal [] apps
  pub writes : s.writes ≡ journal [] apps

-- All of these, for a run of so many queues, applications and workers.
pub record IsSpare (queues apps workers : ℕ) (s : Spare) : Type 0 where
  pub seats : AreSeats workers s.seats
  pub actors : AreActors queues apps workers s.actors
  pub lists : AreLists queues apps s.lists
