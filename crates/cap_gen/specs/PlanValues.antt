-- The plan of a generated capture as a JSON value, with the keys of each object in the order of
-- their bytes.
use Rattle.std.specs.Prelude.{ℕ, ◌*◌, codes, min}
use Rattle.serde_json.specs.Data.{Data, number, unsigned, array, object, item, no_items, member}
use Rattle.serde_json.specs.Data.{no_members}

-- the number of steps of a generated plan: four for each packet, and no more than a plan may have
abbrev pub generated_step_count : ℕ → ℕ
generated_step_count packets = min 999999 (4 * packets)

-- a whole number as a JSON value
abbrev pub whole_value : ℕ → Data
whole_value n = number (unsigned n)

-- the numbers 0 to 3
abbrev pub all_four : Data
all_four = array
    (item (whole_value 0)
    (item (whole_value 1) (item (whole_value 2) (item (whole_value 3) no_items))))

-- a list with one value for each of the numbers 0 to 3
abbrev pub for_each : (ℕ → Data) → Data
for_each value = array (item (value 0) (item (value 1) (item (value 2) (item (value 3) no_items))))

-- the JSON value of receive queue q, polled by processor q
abbrev pub queue_value : ℕ → Data
queue_value q =
    object (member (codes "flows") (whole_value 256)
    (member (codes "home") (whole_value q)
    (member (codes "mask") all_four no_members)))

-- the JSON value of transmit queue t, for processor t
abbrev pub tx_value : ℕ → Data
tx_value t =
    object (member (codes "cpus") (array (item (whole_value t) no_items))
    (member (codes "queues") (array no_items) no_members))

-- the JSON value of this many steps of a seed
abbrev pub steps_value : ℕ → ℕ → Data
steps_value seed count =
    object (member (codes "count") (whole_value count)
    (member (codes "seed") (whole_value seed) no_members))

-- the JSON value of a generated plan, without the keys whose value is the default
abbrev pub plan_value : ℕ → ℕ → Data
plan_value seed count =
    object (member (codes "apps") all_four
    (member (codes "cpus") (whole_value 4)
    (member (codes "queues") (for_each queue_value)
    (member (codes "sock") (whole_value 1024)
    (member (codes "steps") (steps_value seed count)
    (member (codes "tx") (for_each tx_value)
    (member (codes "workers") (whole_value 4) no_members)))))))
