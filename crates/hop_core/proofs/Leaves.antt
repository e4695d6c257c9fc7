-- What each event leaves alone.
use Rattle.std.proofs.Common.{ℕ, ◌+◌, ◌-◌, ◌≡◌, Bool, true, false, Option, Some, None, refl}
use Rattle.steer_base.specs.Counters.{rounded_up}
use Rattle.steer_base.specs.Drops.{bucket_of, lane_drop_cause}
use Rattle.steer_base.specs.declared.choice.Choice.{Choice}
use Rattle.steer_base.specs.declared.cpu_mask.CpuMask.{CpuMask}
use Rattle.steer_base.specs.declared.put.DropCause.{DropCause}
use Rattle.hop_model.specs.declared.event.HopEvent.{HopEvent}
use Rattle.hop_model.specs.declared.event.HopEvent.TheVariants as event
use Rattle.hop_model.specs.Hop.{HopState, arrived, choice_of, chose, deliver_at, in_hand, lane_of}
use Rattle.hop_model.specs.Hop.{pull_at, resized, retire_at, took, with_bare, with_closed}
use Rattle.hop_model.specs.Hop.{with_visit}
use Rattle.hop_core.specs.Leaves.{EachLeaves, Field, Same, changes}
use Rattle.hop_core.specs.Leaves as field
use Rattle.hop_core.proofs.Cases.{Enabled, by_cases}
use Rattle.hop_core.proofs.PutSteps.{put_as}

same_self : (f : Field) (s : HopState) → Same f s s
same_self field.fixed s = refl
same_self _ s = refl

-- the fields that an event does not change, one event after the other
arrive : (f : Field) (s : HopState) (p x : ℕ) → changes (event.Arrive p x) f ≡ false
    → Same f s (arrived s p x)
arrive field.arrivals s p x off = absurd (cc)
arrive _ s p x off = refl

take : (f : Field) (s : HopState) (p : ℕ) → changes (event.Take p) f ≡ false → Same f s (took s p)
take field.taken s p off = absurd (cc)
take _ s p off = refl

visit : (f : Field) (s : HopState) (a inside : ℕ) (here : Bool) → changes (event.Enter a) f ≡ false
    → Same f s (with_visit s a here inside)
visit field.inside s a inside here off = absurd (cc)
visit field.visits s a inside here off = absurd (cc)
visit _ s a inside here off = refl

weigh : (f : Field) (s : HopState) (p : ℕ) (class want : Option ℕ) (desired : ℕ) (online : CpuMask)
    (c : Choice)
    → changes (event.Weigh p class want desired online) f ≡ false → Same f s (chose s p c)
weigh field.choices s p class want desired online c off = absurd (cc)
weigh _ s p class want desired online c off = refl

put : (f : Field) (s : HopState) (p : ℕ) (hash : Option ℕ) (cause : Option DropCause)
    (bucket : Option ℕ)
    → changes (event.Put p hash) f ≡ false → Same f s (put_as s p cause bucket)
put field.accepted s p hash cause bucket off = absurd (cc)
put field.offers s p hash cause bucket off = absurd (cc)
put field.drops s p hash cause bucket off = absurd (cc)
put field.placed s p hash cause bucket off = absurd (cc)
put _ s p hash None bucket off = refl
put _ s p hash (Some cause) bucket off = refl

pull : (f : Field) (s : HopState) (c : ℕ) → changes (event.Pull c) f ≡ false
    → Same f s (with_bare s (pull_at s.bare c))
pull field.pulled s c off = absurd (cc)
pull _ s c off = refl

deliver : (f : Field) (s : HopState) (c o : ℕ) → changes (event.Deliver c o) f ≡ false
    → Same f s (with_bare s (deliver_at s.bare c o))
deliver field.delivered s c o off = absurd (cc)
deliver field.outs s c o off = absurd (cc)
deliver _ s c o off = refl

retire : (f : Field) (s : HopState) (c : ℕ) → changes (event.Retire c) f ≡ false
    → Same f s (with_bare s (retire_at s.bare c))
retire field.retired s c off = absurd (cc)
retire _ s c off = refl

resize : (f : Field) (s : HopState) (p count n : ℕ) → changes (event.Resize p count) f ≡ false
    → Same f s (resized s p n)
resize field.since s p count n off = absurd (cc)
resize field.counts s p count n off = absurd (cc)
resize _ s p count n off = refl

shut : (f : Field) (s : HopState) (closed : Bool) → changes event.Close f ≡ false
    → Same f s (with_bare s (with_closed s.bare closed))
shut field.closed s closed off = absurd (cc)
shut _ s closed off = refl

-- an actor that leaves, and a gate that opens, change what one that enters and one that closes do
as_entering : (f : Field) (a : ℕ) → changes (event.Leave a) f ≡ false
    → changes (event.Enter a) f ≡ false
as_entering field.inside a off = off
as_entering field.visits a off = off
as_entering _ a off = refl

as_closing : (f : Field) → changes event.Reopen f ≡ false → changes event.Close f ≡ false
as_closing field.closed off = off
as_closing _ off = refl

leaves : (f : Field) (s : HopState) (e : HopEvent) → changes e f ≡ false → Enabled (Same f s) s e
leaves f s (event.Arrive p x) off = arrive f s p x off
leaves f s (event.Take p) off = λ _ _. take f s p off
leaves f s (event.Enter a) off = λ _ _. visit f s a (s.bare.inside + 1) true off
leaves f s (event.Leave a) off = λ _ _. visit f s a (s.bare.inside - 1) false (as_entering f a off)
leaves f s (event.Weigh p class want desired online) off =
    λ _ _. weigh f s p class want desired online (choice_of s p class want desired online) off
leaves f s (event.Put p hash) off =
    λ _ _. put f s p hash (lane_drop_cause (lane_of s.fixed s.bare (in_hand s p).choice.lane) hash)
    (bucket_of hash) off
leaves f s (event.Pull c) off = λ _ _. pull f s c off
leaves f s (event.Deliver c o) off = λ _. deliver f s c o off
leaves f s (event.Retire c) off = λ _. retire f s c off
leaves f s (event.Resize p count) off = resize f s p count (rounded_up count) off
leaves f s event.Close off = λ _. shut f s true off
leaves f s event.Reopen off = shut f s false (as_closing f off)

pub each_leaves : EachLeaves
each_leaves s e f off = by_cases (Same f s) s e (same_self f s) (leaves f s e off)
