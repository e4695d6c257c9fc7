-- A list of flows that keeps IPv6 addresses in a list of their own.
use Rattle.std.specs.Prelude.{◌≡◌, ◌≤◌, ◌<◌, ℕ, List, ◌++◌, All, length, get_or}
use Rattle.steer_base.specs.declared.flow.Flow.{Flow}
use Rattle.steer_base.specs.declared.flow.Flow.TheVariants as flow
use Rattle.steer_base.specs.declared.flow.Pair.{Pair}
use Rattle.steer_base.specs.declared.flow.Pair.TheVariants.{V4, V6}
use Rattle.steer_top.specs.declared.flow_list.Entry.{Entry}
use Rattle.steer_top.specs.declared.flow_list.Entry.TheVariants as entry
use Rattle.steer_top.specs.declared.flow_list.LongPair.{LongPair}

-- The two addresses at a place of the IPv6 addresses.
abbrev pub pair_at : List LongPair → ℕ → Pair
pair_at long place =
    let pair = get_or long place (record { src = 0; dst = 0 }) in
    V6 pair.src pair.dst

-- The flow of an entry, where these are the IPv6 addresses.
abbrev pub flow_of_entry : List LongPair → Entry → Flow
flow_of_entry long entry.Bare = flow.Bare
flow_of_entry long (entry.Two4 src dst) = flow.Two (V4 src dst)
flow_of_entry long (entry.Four4 proto src dst sport dport) =
    flow.Four (V4 src dst) proto sport dport
flow_of_entry long (entry.Two6 place) = flow.Two (pair_at long place)
flow_of_entry long (entry.Four6 proto place sport dport) =
    flow.Four (pair_at long place) proto sport dport

-- The place that an entry has is among these addresses.
abbrev pub IsWithin : List LongPair → Entry → Type 0
IsWithin long (entry.Two6 place) = place < length long
IsWithin long (entry.Four6 proto place sport dport) = place < length long
IsWithin long _ = Unit {0}

-- The entries have places among these addresses, which are no more than the entries.
pub record AreWithin (long : List LongPair) (entries : List Entry) : Type 0 where
  pub each : All (IsWithin long) entries
  pub few : length long ≤ length entries

-- The place is that of these two addresses, which were appended.
pub record IsPairOf (old new : List LongPair) (src dst place : ℕ) : Type 0 where
  pub more : List LongPair
  pub appended : new ≡ old ++ more
  pub one : length more ≤ 1
  pub within : place < length new
  pub is : pair_at new place ≡ V6 src dst

-- The entry is that of the flow, and at most one pair of addresses was appended to those before.
pub record IsEntryOf (old new : List LongPair) (f : Flow) (e : Entry) : Type 0 where
  pub more : List LongPair
  pub appended : new ≡ old ++ more
  pub one : length more ≤ 1
  pub within : IsWithin new e
  pub is : flow_of_entry new e ≡ f
