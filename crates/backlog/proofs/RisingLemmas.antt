-- The counts of a lane's drops never fall.
use Rattle.std.proofs.Common.{ℕ, ◌+◌, ◌-◌, ◌≤◌, Bool, true, false, [], ◌∷◌, length, Option, Some}
use Rattle.std.proofs.Common.{None, arith, length-append}
use Rattle.std.specs.Prelude.{nat_lt, if◌then◌else◌}
use Rattle.std.proofs.lemmas.List.Elements.{All-push}
use Rattle.std.proofs.lemmas.List.Sorted.{IsNonDecreasingBy-push, IsNonDecreasingBy-short}
use Rattle.steer_base.specs.Drops.{bucket_of, lane_drop_cause}
use Rattle.steer_base.specs.Lanes.{LaneLists}
use Rattle.steer_base.specs.declared.put.DropCause.{DropCause}
use Rattle.steer_base.specs.declared.put.LaneDrop.{LaneDrop}
use Rattle.backlog.specs.Puts.{after_put, after_take, new_lane, put_by}
use Rattle.backlog.specs.Rising.{AreRising}

rising_by : (l : LaneLists) (cause : Option DropCause) (id : ℕ) (bucket : Option ℕ) → AreRising l
    → AreRising (put_by cause l id bucket)
rising_by l None id bucket h =
    record {
      accepted = h.accepted;
      pulled = h.pulled;
      accepted_within = λ k d less. (let a = h.accepted_within k d less in
          omega (arith, length-append l.accepted (id ∷ [])));
      pulled_within = h.pulled_within;
    }
rising_by l (Some cause) id bucket h =
    let fell : LaneDrop = record {
      id = id;
      accepted = length l.accepted;
      pulled = l.pulled;
      cause = cause;
    } in
    record {
      accepted = IsNonDecreasingBy-push (λ (d : LaneDrop). d.accepted) l.drops fell h.accepted
          (λ d some. h.accepted_within (length l.drops - 1) d (omega arith));
      pulled = IsNonDecreasingBy-push (λ (d : LaneDrop). d.pulled) l.drops fell h.pulled
          (λ d some. h.pulled_within (length l.drops - 1) d (omega arith));
      accepted_within =
          All-push (λ d. d.accepted ≤ length l.accepted) l.drops fell h.accepted_within
          (omega arith);
      pulled_within = All-push (λ d. d.pulled ≤ l.pulled) l.drops fell h.pulled_within
          (omega arith);
    }

pub AreRising-put : (l : LaneLists) (id : ℕ) (hash : Option ℕ) → AreRising l → AreRising
    (after_put l id hash)
AreRising-put l id hash h = rising_by l (lane_drop_cause l hash) id (bucket_of hash) h

taken : (l : LaneLists) (some : Bool) → AreRising l → AreRising
    (if some then record l { pulled = l.pulled + 1 } else l)
taken l true h =
    record {
      accepted = h.accepted;
      pulled = h.pulled;
      accepted_within = h.accepted_within;
      pulled_within = λ k d less. (let a = h.pulled_within k d less in omega arith);
    }
taken l false h = h

pub AreRising-take : (l : LaneLists) → AreRising l → AreRising (after_take l)
AreRising-take l h = taken l (nat_lt l.pulled (length l.accepted)) h

pub AreRising-new : (limit room start : ℕ) (limited : Bool) → AreRising
    (new_lane limit room start limited)
AreRising-new limit room start limited =
    record {
      accepted = IsNonDecreasingBy-short (λ (d : LaneDrop). d.accepted) [] (omega arith);
      pulled = IsNonDecreasingBy-short (λ (d : LaneDrop). d.pulled) [] (omega arith);
      accepted_within = λ k d less. absurd (omega arith);
      pulled_within = λ k d less. absurd (omega arith);
    }
