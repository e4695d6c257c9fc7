-- What the workers of a run leave.
use Rattle.std.specs.Prelude.{◌≡◌, ◌+◌, List, length, map}
use Rattle.steer_base.specs.Journals.{journal}
use Rattle.run_crew.specs.declared.seated.Seated.{Seated}
use Rattle.workers.specs.declared.parts.Parts.{Parts}

-- The seats of the workers, in lists with room for those of the other threads, and the actors of
-- each worker.
pub record AreParts (crew : List Seated) (p : Parts) : Type 0 where
  pub rx : p.seats.rx ≡ journal (map (λ (x : Seated). x.seats.rx) crew) (length crew + 1)
  pub tx : p.seats.tx ≡ journal (map (λ (x : Seated). x.seats.tx) crew) (length crew + 1)
  pub hints : p.seats.hints
      ≡ journal (map (λ (x : Seated). x.seats.hint) crew) (length crew + 2)
  pub pollers : p.pollers.items ≡ map (λ (x : Seated). x.worker.pollers) crew
  pub servers : p.servers.items ≡ map (λ (x : Seated). x.worker.servers) crew
