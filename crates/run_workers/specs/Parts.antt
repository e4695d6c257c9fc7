-- The parts of a worker's turn.
use Rattle.std.specs.Prelude.{ℕ, vec_len}
use Rattle.run_workers.specs.declared.worker.Part.{Part}
use Rattle.run_workers.specs.declared.worker.Part.TheVariants as part
use Rattle.run_workers.specs.declared.worker.Worker.{Worker}

-- how many actors of a worker have their turn in a part
abbrev pub actor_count : Part → Worker → ℕ
actor_count part.Poll w = vec_len w.pollers
actor_count part.Drain w = vec_len w.drains
actor_count part.Serve w = vec_len w.servers
actor_count part.Ship w = vec_len w.ships
