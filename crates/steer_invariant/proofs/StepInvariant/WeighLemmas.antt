-- What a poller may weigh its packet with, and what its choice keeps.
use Rattle.std.proofs.Common.{ℕ, ◌<◌, ◌≡◌, Bool, true, List, [], ◌∷◌, ◌++◌, Option, Some, None}
use Rattle.std.proofs.Common.{length, refl, ap, subst, ◌∙◌, arith, inl, inr}
use Rattle.std.specs.Prelude.{nat_lt, slice_index}
use Rattle.std.proofs.lemmas.Bool.{cases_Bool, cases_eq, ltb-true}
use Rattle.std.proofs.lemmas.Nat.{mod_below}
use Rattle.steer_base.specs.Choices.{class_of, desired_cpu, migrate, online_or, rps_choice_of}
use Rattle.steer_base.specs.Entries.{entry}
use Rattle.steer_base.specs.Sets.{at_hash, has, is_empty, those_below}
use Rattle.steer_base.specs.declared.choice.Choice.{Choice}
use Rattle.steer_base.specs.declared.choice.Chosen.{Chosen}
use Rattle.steer_base.specs.declared.choice.Entry.{Entry}
use Rattle.steer_base.specs.declared.cpu_mask.CpuMask.{CpuMask}
use Rattle.steer_base.proofs.RuleLemmas.{by_entry-online}
use Rattle.hop_model.specs.declared.event.HopEvent.{HopEvent}
use Rattle.hop_model.specs.Hop.{HopState, accepted_at, choice_of, choices_of, chose, head_at}
use Rattle.hop_model.specs.Hop.{in_hand, next_of, nobody, placed_of, recent, taken_of}
use Rattle.hop_model.specs.Events.{IsClassBelow, MayAsk, happens}
use Rattle.hop_model.specs.Sound.{Sound}
use Rattle.hop_core.proofs.Cases.{by_cases}
use Rattle.hop_core.proofs.Lists.{Changed-set, chosen-push_last}
use Rattle.steer_model.specs.State.Machine.{Machine, note_of}
use Rattle.steer_model.specs.Steps.Pollers.{with_note, weighing}
use Rattle.steer_model.specs.State.Settings.{Settings, class_at, mask_of, plain_lane}
use Rattle.steer_model.specs.State.Setup.{Setup, packet_hash}
use Rattle.steer_model.specs.declared.note.Note.{Note}
use Rattle.steer_model.specs.declared.note.Note.TheVariants as note
use Rattle.steer_invariant.specs.StepInvariant.{StepInvariant}
use Rattle.steer_invariant.specs.HopInvariants.{AreNoted, IsNoted, Manned}
use Rattle.steer_invariant.proofs.StepInvariant.PollerLemmas.{StepInvariant-inner}
use Rattle.steer_invariant.proofs.StepInvariant.PollerLemmas.{StepInvariant-noted}

-- ---- a choice for an online lane is of an online lane

migrate-online : (class want : Option ℕ) (desired : ℕ) (entries : ℕ → Entry) (head : ℕ
    → ℕ) (online : ℕ → Bool)
    → online desired ≡ true → online (migrate class want desired entries head online).lane ≡ true
migrate-online None want desired entries head online d = d
migrate-online (Some k) want desired entries head online d =
    by_entry-online k want desired (entries k).tail head online (entries k).lane d

-- ---- the class is in range, and the desired processor is online

class_below : (count : ℕ) (hash : Option ℕ) → IsClassBelow count (class_of count hash)
class_below count None = tt
class_below count (Some hash) =
    elim (cases_Bool (nat_lt 0 count)) [
      | inl e ↦ rw e (let p = ltb-true 0 count e in mod_below hash count p)
      | inr e ↦ rw e tt
    ]

online_or-online : (online : CpuMask) (cpu home : ℕ) → has online home ≡ true
    → has online (online_or online cpu home) ≡ true
online_or-online online cpu home h =
    elim (cases_Bool (has online cpu)) [ inl e ↦ rw e e | inr e ↦ rw e h ]

rps-online : (mask : CpuMask) (hash : Option ℕ) (online : CpuMask) (home : ℕ)
    → has online home ≡ true → has online (rps_choice_of mask hash online home) ≡ true
rps-online mask None online home h = h
rps-online mask (Some hash) online home h =
    let cpus : List ℕ = those_below 32 (has mask) in
    elim (cases_Bool (is_empty cpus)) [
      | inl e ↦ rw e h
      | inr e ↦ rw e (online_or-online online (at_hash cpus hash) home h)
    ]

desired-online : (class want : Option ℕ) (online : CpuMask) (rps : ℕ) → has online rps ≡ true
    → has online (desired_cpu class want online rps) ≡ true
desired-online None want online rps h = h
desired-online (Some class) None online rps h = h
desired-online (Some class) (Some cpu) online rps h = online_or-online online cpu rps h

desired-none : (class want : Option ℕ) (online : CpuMask) (rps : ℕ) → class ≡ None
    → desired_cpu class want online rps ≡ rps
desired-none class want online rps e = rw e refl

-- what the machine weighs with may be asked
pub may_weigh : (m : Machine) (q : ℕ) (want : Option ℕ) → q < length m.setup.homes → StepInvariant m
    → MayAsk m.rx (weighing m q (next_of m.rx q) want)
may_weigh m q want named k =
    let x : ℕ = next_of m.rx q in
    let z = k.rx.sizes in let manned = k.by.manned in
    let class : Option ℕ = class_at m.setup m.settings q x in
    let plain : has m.settings.online (plain_lane m.setup m.settings q x) ≡ true =
    rps-online (mask_of m.settings q) (packet_hash m.setup x) m.settings.online
    (slice_index m.setup.homes q)
    (manned.homes q named) in
    let lane : ℕ = desired_cpu class want m.settings.online (plain_lane m.setup m.settings q x) in
    let desired : has m.settings.online lane ≡ true =
    desired-online class want m.settings.online (plain_lane m.setup m.settings q x) plain in
    let below : lane < m.setup.cpus = manned.within lane desired in
    let e : slice_index m.settings.counts q ≡ slice_index m.rx.counts q =
    ap (λ (l : List ℕ). slice_index l q) k.by.counts in
    record {
      producer = omega (arith, named, z.queues);
      lane = omega (arith, below, z.cpus);
      in_range = subst (λ n. IsClassBelow n class) e
          (class_below (slice_index m.settings.counts q) (packet_hash m.setup x));
      is_online = desired;
      drained = manned.empty;
    }

-- ---- what it keeps

manned-chose : (p : Setup) (now : Settings) (s : HopState) (q : ℕ) (c : Choice)
    → q < length s.arrivals → Sound s → length (choices_of s q) < taken_of s q
    → has now.online c.lane ≡ true → Manned p now s → Manned p now (chose s q c)
manned-chose p now s q c in' h more online k =
    let w = h.wide in
    let new : Chosen = record { id = next_of s q; choice = c } in
    let ch =
    Changed-set s.choices q (choices_of s q ++ new ∷ []) [] (omega (arith, in', w.choices)) in
    record {
      homes = k.homes;
      within = k.within;
      empty = k.empty;
      hand = λ r lt. elim (cases_eq r q) [
        | inl e ↦ (
            let a = h.hands.one q in let b = h.hands.put q in
            let here : choices_of (chose s q c) r ≡ choices_of s q ++ new ∷ [] = rw e ch.here in
            let at : placed_of s r ≡ length (choices_of s q) =
            (let f : placed_of s r ≡ placed_of s q = ap (placed_of s) e in
            omega (arith, f, a, b, more)) in
            let last : in_hand (chose s q c) r ≡ new =
            rw (here, at) (chosen-push_last (choices_of s q) new nobody) in
            rw last online)
        | inr ne ↦ (
            let same : choices_of (chose s q c) r ≡ choices_of s r = ch.there r ne in
            rw same (k.hand r (rw same at lt)))
      ];
    }

note-chose : (s : HopState) (q r : ℕ) (n : Note) (c : Choice) → q < length s.choices
    → (r ≡ q → n ≡ note.Nothing) → IsNoted s r n → IsNoted (chose s q c) r n
note-chose s q r note.Nothing c in' other h = tt
note-chose s q r (note.Looked want) c in' other h =
    let new : Chosen = record { id = next_of s q; choice = c } in
    let ch = Changed-set s.choices q (choices_of s q ++ new ∷ []) [] in' in
    elim (cases_eq r q) [
      | inl e ↦ absurd (let f : note.Looked want ≡ note.Nothing = other e in cc)
      | inr ne ↦ rw (ch.there r ne) h
    ]
note-chose s q r (note.Asking filter) c in' other h = h

kept-weighed : (m : Machine) (q : ℕ) (want : Option ℕ) (t : HopState) → q < length m.setup.homes
    → note_of m q ≡ note.Nothing → t ≡ (happens m.rx (weighing m q (next_of m.rx q) want)).0
    → StepInvariant m → StepInvariant (record m { rx = t })
kept-weighed m q want t named quiet is k =
    let z = k.rx.sizes in let w = k.rx.sound.wide in
    let in' : q < length m.rx.arrivals = omega (arith, named, z.queues) in
    let there : q < length m.rx.choices = omega (arith, in', w.choices) in
    let x : ℕ = next_of m.rx q in
    let class : Option ℕ = class_at m.setup m.settings q x in
    let lane : ℕ = desired_cpu class want m.settings.online (plain_lane m.setup m.settings q x) in
    let e : HopEvent = weighing m q x want in
    let c : Choice = choice_of m.rx q class want lane m.settings.online in
    let may = may_weigh m q want named k in
    StepInvariant-inner m e t (record {
      closed = refl;
      counts = refl;
      arrivals = refl;
      outs = refl;
    }) may
    (λ more. (
      refl,
      λ none. desired-none class want m.settings.online
          (plain_lane m.setup m.settings q x) none,
    ))
    (by_cases (Manned m.setup m.settings) m.rx e k.by.manned
    (λ inside more. manned-chose m.setup m.settings m.rx q c in' k.rx.sound more
    (migrate-online class want lane (entry m.rx.fixed.start (accepted_at m.rx.bare) (recent m.rx q))
    (head_at m.rx.fixed.start m.rx.bare) (has m.settings.online) may.is_online) k.by.manned))
    (by_cases (AreNoted m.notes) m.rx e k.noted
    (λ inside more r. note-chose m.rx q r (note_of m r) c there (λ same. ap (note_of m) same
    ∙ quiet) (k.noted r)))
    is k

-- a poller forgets what it saw, and its packet is weighed
pub kept_weigh : (m : Machine) (q : ℕ) (want : Option ℕ) (t : HopState) → q < length m.setup.homes
    → t ≡ (happens m.rx (weighing m q (next_of m.rx q) want)).0 → StepInvariant m
    → StepInvariant (record (with_note m q note.Nothing) { rx = t })
kept_weigh m q want t named is k =
    let l = k.lists in
    let quiet : note_of (with_note m q note.Nothing) q ≡ note.Nothing =
    (Changed-set m.notes q note.Nothing note.Nothing (omega (arith, named, l.notes_long))).here in
    kept-weighed (with_note m q note.Nothing) q want t named quiet is
    (StepInvariant-noted m q note.Nothing named tt (λ filter e. absurd (cc)) k)
