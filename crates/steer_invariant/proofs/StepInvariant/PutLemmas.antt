-- What a put keeps, and the filter that is asked for after it.
use Rattle.std.proofs.Common.{ℕ, ◌+◌, ◌≤◌, ◌<◌, ◌≡◌, ◌≢◌, true, false, List, [], ◌∷◌, ◌++◌, Option}
use Rattle.std.proofs.Common.{Some, None, length, refl, ap, ◌∙◌, sym, subst, arith, inl, inr}
use Rattle.std.proofs.Math.ListN.{length-set}
use Rattle.std.proofs.lemmas.Bool.{cases_eq}
use Rattle.steer_base.specs.Drops.{bucket_of, lane_drop_cause}
use Rattle.steer_base.specs.Sets.{has}
use Rattle.steer_base.specs.declared.choice.Choice.{Choice}
use Rattle.steer_base.specs.declared.choice.Chosen.{Chosen}
use Rattle.steer_base.specs.declared.filter.Filter.{Filter}
use Rattle.steer_base.specs.declared.put.DropCause.{DropCause}
use Rattle.hop_model.specs.declared.event.HopEvent.TheVariants as event
use Rattle.hop_model.specs.Events.{IsEmptied, Outcome, happens}
use Rattle.hop_model.specs.Hop.{HopState, accepted_at, choices_of, in_hand, lane_of, placed_of}
use Rattle.hop_model.specs.Hop.{taken_of}
use Rattle.hop_model.specs.Sound.{Sound}
use Rattle.hop_core.proofs.Cases.{by_cases, by_outcomes}
use Rattle.hop_core.proofs.Lists.{Changed-set}
use Rattle.hop_core.proofs.PutSteps.{put_as}
use Rattle.steer_model.specs.State.Machine.{Machine, note_of}
use Rattle.steer_model.specs.State.Notes.{asking}
use Rattle.steer_model.specs.Steps.Pollers.{filter_for, with_note, put_position, with_filter}
use Rattle.steer_model.specs.State.Settings.{Settings}
use Rattle.steer_model.specs.State.Setup.{Setup}
use Rattle.steer_model.specs.declared.note.Note.{Note}
use Rattle.steer_model.specs.declared.note.Note.TheVariants as note
use Rattle.steer_invariant.specs.StepInvariant.{StepInvariant}
use Rattle.steer_invariant.specs.HopInvariants.{AreNoted, IsNoted, Manned}
use Rattle.steer_invariant.proofs.StepInvariant.PollerLemmas.{StepInvariant-inner}
use Rattle.steer_invariant.proofs.StepInvariant.PollerLemmas.{StepInvariant-noted}
use Rattle.steer_invariant.proofs.StepInvariant.RouteLemmas.{asking-below, with-below}

-- ---- the hop after a packet landed

empty-landed : (s : HopState) (q : ℕ) (cause : Option DropCause) (bucket : Option ℕ) (d : ℕ)
    → Sound s → placed_of s q < length (choices_of s q) → d ≢ (in_hand s q).choice.lane
    → IsEmptied s.bare d → IsEmptied (put_as s q cause bucket).bare d
empty-landed s q (Some cause) bucket d h more ne dry = dry
empty-landed s q None bucket d h more ne dry =
    let c : Chosen = in_hand s q in
    let ch =
    Changed-set s.bare.accepted c.choice.lane (accepted_at s.bare c.choice.lane ++ c.id ∷ []) []
    (h.lanes q (placed_of s q) more) in
    rw (ch.there d ne) dry

choices-landed : (s : HopState) (q : ℕ) (cause : Option DropCause) (bucket : Option ℕ)
    → (put_as s q cause bucket).choices ≡ s.choices
choices-landed s q None bucket = refl
choices-landed s q (Some cause) bucket = refl

taken-landed : (s : HopState) (q : ℕ) (cause : Option DropCause) (bucket : Option ℕ)
    → (put_as s q cause bucket).taken ≡ s.taken
taken-landed s q None bucket = refl
taken-landed s q (Some cause) bucket = refl

lanes-landed : (s : HopState) (q : ℕ) (cause : Option DropCause) (bucket : Option ℕ)
    → length (put_as s q cause bucket).bare.accepted ≡ length s.bare.accepted
lanes-landed s q None bucket = length-set _ _ _
lanes-landed s q (Some cause) bucket = refl

manned-landed : (p : Setup) (now : Settings) (s : HopState) (q : ℕ) (cause : Option DropCause)
    (bucket : Option ℕ)
    → q < length s.arrivals → Sound s → placed_of s q < length (choices_of s q) → Manned p now s
    → Manned p now (put_as s q cause bucket)
manned-landed p now s q cause bucket in' h more k =
    let w = h.wide in
    let ch = Changed-set s.placed q (placed_of s q + 1) 0 (omega (arith, in', w.placed)) in
    record {
      homes = k.homes;
      within = k.within;
      empty = λ c lt off. empty-landed s q cause bucket c h more
          (λ e. absurd (let f : true ≡ false = sym (k.hand q more) ∙ ap (has now.online) (sym e)
          ∙ off in cc))
          (k.empty c (rw (lanes-landed s q cause bucket) at lt) off);
      hand = λ r lt. elim (cases_eq r q) [
        | inl e ↦ absurd (
            let f : placed_of (put_as s q cause bucket) r ≡ placed_of s q + 1 = rw e ch.here in
            let a = h.hands.chosen q in let b = h.hands.one q in
            let g : length (choices_of (put_as s q cause bucket) r) ≡ length (choices_of s q) =
            rw (choices-landed s q cause bucket, e) refl in omega (arith, f, a, b, g, lt))
        | inr ne ↦ (
            let f : placed_of (put_as s q cause bucket) r ≡ placed_of s r = ch.there r ne in
            let g : (in_hand (put_as s q cause bucket) r) ≡ in_hand s r =
            rw (choices-landed s q cause bucket, f) refl in
            rw g (k.hand r (rw (choices-landed s q cause bucket, f) at lt)))
      ];
    }

note-landed : (s : HopState) (q r : ℕ) (n : Note) (cause : Option DropCause) (bucket : Option ℕ)
    → q < length s.arrivals → Sound s → IsNoted s r n → IsNoted (put_as s q cause bucket) r n
note-landed s q r note.Nothing cause bucket in' h k = tt
note-landed s q r (note.Looked want) cause bucket in' h k =
    rw (choices-landed s q cause bucket, taken-landed s q cause bucket) k
note-landed s q r (note.Asking filter) cause bucket in' h k =
    let w = h.wide in
    let ch = Changed-set s.placed q (placed_of s q + 1) 0 (omega (arith, in', w.placed)) in
    let t : taken_of (put_as s q cause bucket) r ≡ taken_of s r =
    rw (taken-landed s q cause bucket) refl in
    elim (cases_eq r q) [
      | inl e ↦ (
          let old : placed_of s r ≡ placed_of s q = ap (placed_of s) e in
          let f : placed_of (put_as s q cause bucket) r ≡ placed_of s q + 1 = rw e ch.here in
          omega (arith, k, t, f, old))
      | inr ne ↦ (
          let f : placed_of (put_as s q cause bucket) r ≡ placed_of s r = ch.there r ne in
          omega (arith, k, t, f))
    ]

-- ---- a put

pub kept_put : (m : Machine) (q : ℕ) (hash : Option ℕ) (t : HopState) → q < length m.setup.homes
    → t ≡ (happens m.rx (event.Put q hash)).0 → StepInvariant m → StepInvariant
    (record m { rx = t })
kept_put m q hash t named is k =
    let z = k.rx.sizes in
    let in' : q < length m.rx.arrivals = omega (arith, named, z.queues) in
    let cause : Option DropCause =
    lane_drop_cause (lane_of m.rx.fixed m.rx.bare (in_hand m.rx q).choice.lane) hash in
    StepInvariant-inner m (event.Put q hash) t
    (record { closed = refl; counts = refl; arrivals = refl; outs = refl }) in' tt
    (by_cases (Manned m.setup m.settings) m.rx (event.Put q hash) k.by.manned
    (λ inside more. manned-landed m.setup m.settings m.rx q cause
    (bucket_of hash) in' k.rx.sound more k.by.manned))
    (by_cases (AreNoted m.notes) m.rx (event.Put q hash) k.noted
    (λ inside more r. note-landed m.rx q r (note_of m r) cause (bucket_of hash) in' k.rx.sound
    (k.noted r)))
    is k

-- a poller whose packet was accepted has put what it took
abbrev Accepted : ℕ → Outcome → Type 0
Accepted q o = (n : ℕ) → put_position o.1 ≡ Some n → taken_of o.0 q ≤ placed_of o.0 q

accepted_stage : (s : HopState) (q : ℕ) (hash : Option ℕ) → q < length s.arrivals → Sound s
    → Accepted q (happens s (event.Put q hash))
accepted_stage s q hash in' h =
    let w = h.wide in
    let ch = Changed-set s.placed q (placed_of s q + 1) 0 (omega (arith, in', w.placed)) in
    let cause : Option DropCause =
    lane_drop_cause (lane_of s.fixed s.bare (in_hand s q).choice.lane) hash in
    by_outcomes (Accepted q) s (event.Put q hash) (λ why n e. absurd (cc))
    (λ inside more n e. (
    let t : taken_of (put_as s q cause (bucket_of hash)) q ≡ taken_of s q =
    rw (taken-landed s q cause (bucket_of hash)) refl in
    let f : placed_of (put_as s q cause (bucket_of hash)) q ≡ placed_of s q + 1 = ch.here in
    let o = h.hands.one q in omega (arith, t, f, o)))

note-asking : (s : HopState) (q : ℕ) (filter : Option Filter) → taken_of s q ≤ placed_of s q
    → IsNoted s q (asking filter)
note-asking s q None h = tt
note-asking s q (Some filter) h = h

-- a put that was accepted, and the filter that is asked for by the choice
pub kept_asking : (m : Machine) (q : ℕ) (hash : Option ℕ) (t : HopState) (position filters : ℕ)
    (c : Choice)
    → q < length m.setup.homes → t ≡ (happens m.rx (event.Put q hash)).0
    → put_position (happens m.rx (event.Put q hash)).1 ≡ Some position → StepInvariant m
    → StepInvariant (with_note (record m { rx = t }) q
    (asking (filter_for m.setup.homes filters c position)))
kept_asking m q hash t position filters c named is went_at k =
    let z = k.rx.sizes in
    let filter : Option Filter = filter_for m.setup.homes filters c position in
    let stage =
    accepted_stage m.rx q hash (omega (arith, named, z.queues)) k.rx.sound position went_at in
    StepInvariant-noted (record m { rx = t }) q (asking filter) named
    (subst (λ (s : HopState). IsNoted s q (asking filter)) (sym is)
    (note-asking (happens m.rx (event.Put q hash)).0 q filter stage))
    (λ f e. asking-below m.setup.homes filters c position f e) (kept_put m q hash t named is k)

-- ---- the filter is written

pub kept_ask : (m : Machine) (q : ℕ) (filter : Filter) (hash : Option ℕ)
    (filters : List (Option Filter))
    → q < length m.setup.homes → note_of m q ≡ note.Asking filter
    → filters ≡ with_filter m.filters hash filter → StepInvariant m
    → StepInvariant (record (with_note m q note.Nothing) { filters = filters })
kept_ask m q filter hash filters named asked is k =
    let n : StepInvariant (with_note m q note.Nothing) =
    StepInvariant-noted m q note.Nothing named tt (λ f e. absurd (cc)) k in
    record {
      given = n.given;
      rx = n.rx;
      tx = n.tx;
      taken = n.taken;
      by = n.by;
      noted = n.noted;
      lists = n.lists;
      sizes = n.sizes;
      routes = record {
        table = n.routes.table;
        queues = n.routes.queues;
        set = rw is
            (with-below (length m.setup.homes) m.filters hash filter
            (k.routes.asked q filter asked) k.routes.set);
        asked = n.routes.asked;
      };
      came = n.came;
      replied = n.replied;
    }
