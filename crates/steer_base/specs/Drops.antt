-- When a packet that is put to a lane is dropped: by a full backlog (`netdev_max_backlog`), or by
-- the flow limit, with the numbers of the kernel scaling chapter (section RPS flow limit: 4,096
-- buckets, a window of 256 packets, over half of the backlog). That the window holds all offers of
-- the lane with a hash is this project's own.
use Rattle.std.specs.Prelude.{ℕ, ◌+◌, ◌-◌, ◌*◌, ◌%◌, Bool, ◌&&◌, List, [], ◌∷◌, ◌++◌, Option, Some}
use Rattle.std.specs.Prelude.{None, ◌==◌, nat_lt, length, drop, map, filter, count_by}
use Rattle.std.specs.Prelude.{if◌then◌else◌}
use Rattle.std.specs.List.{filter_map}
use Rattle.std.specs.Option.{option_map}
use Rattle.steer_base.specs.declared.limits.TheConstants.{FLOW_LIMIT_BUCKETS}
use Rattle.steer_base.specs.Lanes.{LaneLists}
use Rattle.steer_base.specs.declared.put.DropCause.{DropCause}
use Rattle.steer_base.specs.declared.put.DropCause.TheVariants.{Full, Flow}
use Rattle.steer_base.specs.declared.put.LaneDrop.{LaneDrop}

-- the bucket of a packet: none without a hash
abbrev pub bucket_of : Option ℕ → Option ℕ
bucket_of hash = option_map (λ h. h % FLOW_LIMIT_BUCKETS) hash

-- the last n of a list
abbrev pub last_of : {X : Type 0} → ℕ → List X → List X
last_of n xs = drop (length xs - n) xs

-- the buckets of the last 256 offers that have one
abbrev pub window : List (Option ℕ) → List ℕ
window offers = last_of 256 (filter_map (λ bucket. bucket) offers)

-- how often a bucket occurs among the last 256 offers, this packet's included
abbrev pub bucket_count : List (Option ℕ) → ℕ → ℕ
bucket_count offers bucket = count_by (λ b. b == bucket) (window (offers ++ Some bucket ∷ []))

-- the flow limit, by how often the packet's bucket occurs among the last offers: more than half of
-- the limit waits, and the bucket occurs there more than 128 times
abbrev pub flow_cause : Bool → ℕ → ℕ → Option ℕ → Option DropCause
flow_cause limited limit waiting None = None
flow_cause limited limit waiting (Some count) =
    if limited && nat_lt limit (2 * waiting) && nat_lt 128 count then Some (Flow count) else None

-- a full backlog first, then the flow limit
abbrev pub cause_by : Bool → ℕ → ℕ → Option ℕ → Option DropCause
cause_by limited limit waiting count =
    if waiting == limit then Some Full else flow_cause limited limit waiting count

-- The cause of which a put is a drop, if it is one.
abbrev pub drop_cause : Bool → ℕ → ℕ → List (Option ℕ) → Option ℕ → Option DropCause
drop_cause limited limit waiting offers hash =
    cause_by limited limit waiting (option_map (bucket_count offers) (bucket_of hash))

-- the same at a lane, whose accepted packets wait until they are pulled
abbrev pub lane_drop_cause : LaneLists → Option ℕ → Option DropCause
lane_drop_cause l hash = drop_cause l.limited l.limit (length l.accepted - l.pulled) l.offers hash

-- the packets that were dropped when so many had been accepted, in the order of their numbers
abbrev pub dropped_after : ℕ → List LaneDrop → List ℕ
dropped_after n drops = map (λ d. d.id) (filter (λ d. d.accepted == n) drops)

-- The offers of a lane in the order of their puts: each drop comes after the accepted packets that
-- it counted.
abbrev pub offers_from : ℕ → List ℕ → List LaneDrop → List ℕ
offers_from n [] drops = dropped_after n drops
offers_from n (x ∷ xs) drops = dropped_after n drops ++ x ∷ offers_from (n + 1) xs drops

abbrev pub offers_of : List ℕ → List LaneDrop → List ℕ
offers_of accepted drops = offers_from 0 accepted drops
