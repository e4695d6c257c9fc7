-- The maps of the transmit queues (kernel scaling chapter, section XPS) that an application keeps
-- from reply to reply.
use Rattle.std.specs.Prelude.{◌≡◌, ℕ, ◌<◌, ◌≤◌, List, Option, length, slice_index, slice_index_or}
use Rattle.std.specs.Prelude.{slice_set}
use Rattle.xps_map.specs.Maps.{Maps, no_cpus}
use Rattle.run_words.specs.Values.{cpus_in, queues_in}

-- The maps, the numbers of processors and of receive queues of which their words are, and the
-- number of the visits in which all of them are known, if there is one.
pub record Kept : Type 0 where
  pub cpus : ℕ
  pub queues : ℕ
  pub maps : Maps
  pub visit : Option ℕ

-- Of so many processors, receive queues and transmit queues the maps are what these words say.
pub record IsByWords (cpus queues txs : ℕ) (cpu_words queue_words : List ℕ) (maps : Maps)
    : Type 0 where
  pub few_cpus : cpus ≤ 32
  pub few_queues : queues ≤ 16
  pub few : txs ≤ 32
  pub count : maps.count ≡ txs
  pub cpu_sets : length maps.cpus ≡ txs
  pub queue_sets : length maps.queues ≡ txs
  pub cpus_are : (tx : ℕ) → tx < txs
      → slice_index_or maps.cpus tx no_cpus ≡ cpus_in (slice_index cpu_words tx) cpus
  pub queues_are : (tx : ℕ) → tx < txs
      → slice_index maps.queues tx ≡ queues_in (slice_index queue_words tx) queues

-- The maps are of so many processors, receive queues and transmit queues.
pub record IsFor (cpus queues txs : ℕ) (kept : Kept) : Type 0 where
  pub cpus_are : kept.cpus ≡ cpus
  pub queues_are : kept.queues ≡ queues
  pub count : kept.maps.count ≡ txs
  pub cpu_sets : length kept.maps.cpus ≡ txs
  pub queue_sets : length kept.maps.queues ≡ txs

-- the maps with what the two words of a transmit queue say
abbrev pub with_map : (cpus queues : ℕ) → Maps → (tx cpu_word queue_word : ℕ) → Maps
with_map cpus queues maps tx cpu_word queue_word = record {
  count = maps.count;
  cpus = slice_set maps.cpus tx (cpus_in cpu_word cpus);
  queues = slice_set maps.queues tx (queues_in queue_word queues);
}
