-- What a seat has read of the maps, after more steps of the seat.
use Rattle.board_api.specs.OwnSteps.{ReadsIn}
use Rattle.board_api.proofs.NumberedSteps.{numbered_reads_stay}
use Rattle.run_workers.specs.Hands.KeptMaps.{Kept}
use Rattle.run_workers.specs.Hands.Servers.{HasMaps, KeepsMaps, MapRead}
use Rattle.run_workers.proofs.Names.{ℕ, ◌+◌, List, length, Option, None, Some, IfSome, sym, subst}
use Rattle.run_workers.proofs.Names.{Maps, BoardStep, Setup, Grows}

module _ (own after : List BoardStep) (grow : Grows own after) where
  pub reads_later : (number setting value : ℕ) → ReadsIn own number setting value
      → ReadsIn after number setting value
  reads_later number setting value r =
      subst (λ (ds : List BoardStep). ReadsIn ds number setting value) (sym grow.1)
      (numbered_reads_stay grow.0 own number setting value r)

  pub map_later : (cpus queues count tx number : ℕ) (maps : Maps)
      → MapRead cpus queues count tx maps own number
      → MapRead cpus queues count tx maps after number
  map_later cpus queues count tx number maps r =
      record {
        cpu_word = r.cpu_word;
        queue_word = r.queue_word;
        reads_cpus = reads_later number tx r.cpu_word r.reads_cpus;
        reads_queues = reads_later number (count + tx) r.queue_word r.reads_queues;
        cpus_are = r.cpus_are;
        queues_are = r.queues_are;
      }

  kept_later : (given : Setup) (maps : Maps) (visit : Option ℕ)
      → IfSome visit (λ (number : ℕ). HasMaps given given.txs maps own number)
      → IfSome visit (λ (number : ℕ). HasMaps given given.txs maps after number)
  kept_later given maps None has = tt
  kept_later given maps (Some number) has =
      record {
        reads = λ tx low. map_later given.cpus (length given.homes) given.txs tx number maps
            (has.reads tx low);
        count = has.count;
        cpu_sets = has.cpu_sets;
        queue_sets = has.queue_sets;
      }

  pub maps_later : (given : Setup) (kept : Kept) → KeepsMaps given kept own
      → KeepsMaps given kept after
  maps_later given kept has = kept_later given kept.maps kept.visit has
