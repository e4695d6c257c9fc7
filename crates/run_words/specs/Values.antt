-- How processors, queues, filters, sets and counts are written as words, and what a word means that
-- may be any number.
use Rattle.std.specs.Prelude.{ℕ, ◌+◌, ◌-◌, ◌*◌, ◌/◌, ◌%◌, ◌^◌, Bool, ◌||◌, ◌==◌, Option, None}
use Rattle.std.specs.Prelude.{Some, nat_le, nat_lt, if◌then◌else◌}
use Rattle.steer_base.specs.declared.cpu_mask.CpuMask.{CpuMask}
use Rattle.steer_base.specs.declared.filter.Filter.{Filter}
use Rattle.steer_base.specs.declared.limits.TheConstants.{MAX_FLOW_COUNT, MAX_SOCKET_SIZE}
use Rattle.run_words.specs.declared.values.TheConstants.{DONE}

-- the word of a processor or of a receive queue
abbrev pub place_word : ℕ → ℕ
place_word place = place + 1

-- the processor or queue of a word, of so many
abbrev pub place_in : ℕ → ℕ → Option ℕ
place_in word count = if (word == 0) || nat_lt count word then None else Some (word - 1)

-- the word of a filter: 16 queues, then 32 processors, then the mark
abbrev pub filter_word : Filter → ℕ
filter_word f = 1 + f.queue + 16 * f.cpu + 512 * f.mark

-- the filter of a word, of so many queues and processors
abbrev pub filter_in : (word queues cpus : ℕ) → Option Filter
filter_in word queues cpus =
    if word == 0 then None
    else
    if nat_le queues ((word - 1) % 16)
    || (nat_le cpus ((word - 1) / 16 % 32) || nat_le (2 ^ 32) ((word - 1) / 512))
    then None
    else Some (record {
      queue = (word - 1) % 16;
      cpu = (word - 1) / 16 % 32;
      mark = (word - 1) / 512;
    })

-- the word of a set of processors
abbrev pub cpus_word : CpuMask → ℕ
cpus_word mask = mask.0

-- the set of processors of a word, of so many
abbrev pub cpus_in : ℕ → ℕ → CpuMask
cpus_in word cpus = record { 0 = if nat_lt word (2 ^ cpus) then word else 0 }

-- the word of a set of receive queues
abbrev pub queues_word : ℕ → ℕ
queues_word queues = queues

-- the set of receive queues of a word, of so many
abbrev pub queues_in : ℕ → ℕ → ℕ
queues_in word count = if nat_lt word (2 ^ count) then word else 0

-- the word of a flow count with the number of its changes
abbrev pub flows_word : ℕ → ℕ → ℕ
flows_word count generation = count + generation * 2 ^ 32

-- the flow count of a word
abbrev pub flows_in : ℕ → ℕ
flows_in word = if nat_le (word % 2 ^ 32) MAX_FLOW_COUNT then word % 2 ^ 32 else 0

-- the word of a size of the socket flow table
abbrev pub socket_size_word : ℕ → ℕ
socket_size_word size = size

-- the size of the socket flow table of a word
abbrev pub socket_size_in : ℕ → ℕ
socket_size_in word = if nat_le word MAX_SOCKET_SIZE then word else 0

-- whether a word says that all packets have arrived
abbrev pub is_done : ℕ → Bool
is_done word = word == DONE
