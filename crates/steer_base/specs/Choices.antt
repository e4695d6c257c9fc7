-- The choice of a lane: receive packet steering, receive flow steering, and the rule by which a
-- class moves (kernel scaling chapter, sections RPS and RFS). That the rule is asked also where the
-- socket flow table names no online processor, with the RPS choice, is this project's own.
use Rattle.std.specs.Prelude.{ℕ, ◌%◌, Bool, true, false, not, ◌&&◌, Option, Some, None, ◌==◌}
use Rattle.std.specs.Prelude.{nat_lt, if◌then◌else◌}
use Rattle.steer_base.specs.Counters.{has_reached}
use Rattle.steer_base.specs.Sets.{has, those_below, is_empty, at_hash}
use Rattle.steer_base.specs.declared.choice.Choice.{Choice}
use Rattle.steer_base.specs.declared.choice.Entry.{Entry}
use Rattle.steer_base.specs.declared.choice.Why.{Why}
use Rattle.steer_base.specs.declared.choice.Why.TheVariants.{Plain, Same, Unset, Offline, Passed}
use Rattle.steer_base.specs.declared.choice.Why.TheVariants.{Kept}
use Rattle.steer_base.specs.declared.cpu_mask.CpuMask.{CpuMask}

-- the cases under which a class gets a new lane
abbrev pub has_moved : Why → Bool
has_moved Plain = false
has_moved Same = false
has_moved Unset = true
has_moved Offline = true
has_moved Passed = true
has_moved Kept = false

-- The class of a hash among so many: none without a hash, and none where there are no classes.
abbrev pub class_of : ℕ → Option ℕ → Option ℕ
class_of count None = None
class_of count (Some hash) = if nat_lt 0 count then Some (hash % count) else None

-- the processor where it is online, else the home
abbrev pub online_or : CpuMask → ℕ → ℕ → ℕ
online_or online cpu home = if has online cpu then cpu else home

-- The RPS choice: the processor at `hash mod k` among the k of the mask, ascending; the home
-- processor without a hash, for an empty mask, and where that choice is offline.
abbrev pub rps_choice_of : CpuMask → Option ℕ → CpuMask → ℕ → ℕ
rps_choice_of mask None online home = home
rps_choice_of mask (Some hash) online home =
    let cpus = those_below 32 (has mask) in
    if is_empty cpus then home else online_or online (at_hash cpus hash) home

-- The desired processor: that of the socket's entry where the packet has a class, and the entry is
-- set and online; else the RPS choice.
abbrev pub desired_cpu : Option ℕ → Option ℕ → CpuMask → ℕ → ℕ
desired_cpu None want online rps = rps
desired_cpu (Some class) None online rps = rps
desired_cpu (Some class) (Some cpu) online rps = online_or online cpu rps

-- The migration rule for a class with this current lane and recorded tail, the first case that
-- holds. The head of a lane and the recorded tail are counter numbers.
abbrev pub by_entry : (class : ℕ) → Option ℕ → (desired tail : ℕ) → (ℕ → ℕ) → (ℕ → Bool) → Option ℕ
    → Choice
by_entry class want desired tail head online None =
    record {
      class = Some class;
      want = want;
      head = None;
      tail = Some tail;
      lane = desired;
      why = Unset;
    }
by_entry class want desired tail head online (Some current) =
    if current == desired
    then record {
      class = Some class;
      want = want;
      head = None;
      tail = Some tail;
      lane = current;
      why = Same;
    } else
    if not (online current)
    then record {
      class = Some class;
      want = want;
      head = None;
      tail = Some tail;
      lane = desired;
      why = Offline;
    } else
    if has_reached (head current) tail 0
    then record {
      class = Some class;
      want = want;
      head = Some (head current);
      tail = Some tail;
      lane = desired;
      why = Passed;
    } else record {
      class = Some class;
      want = want;
      head = Some (head current);
      tail = Some tail;
      lane = current;
      why = Kept;
    }

-- The choice for a packet: by the entry of its class, and plainly the desired lane without a class.
abbrev pub migrate : Option ℕ → Option ℕ → ℕ → (ℕ → Entry) → (ℕ → ℕ) → (ℕ → Bool) → Choice
migrate None want desired entries head online =
    record { class = None; want = None; head = None; tail = None; lane = desired; why = Plain }
migrate (Some class) want desired entries head online =
    by_entry class want desired (entries class).tail head online (entries class).lane

-- whether the rule looks at the head of the current lane: it is set, online and not the desired one
abbrev pub looks_from : Option ℕ → ℕ → (ℕ → Bool) → Bool
looks_from None desired online = false
looks_from (Some current) desired online = not (current == desired) && online current

abbrev pub looks_at_head : Option ℕ → (ℕ → Entry) → ℕ → (ℕ → Bool) → Bool
looks_at_head None entries desired online = false
looks_at_head (Some class) entries desired online = looks_from (entries class).lane desired online
