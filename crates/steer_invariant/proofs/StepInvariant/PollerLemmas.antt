-- What the steps of the pollers and of the processors keep, but for weighing and putting.
use Rattle.std.proofs.Common.{ℕ, ◌+◌, ◌<◌, ◌≡◌, true, false, List, [], ◌∷◌, ◌++◌, Option, Some}
use Rattle.std.proofs.Common.{None, length, refl, ap, ◌∙◌, sym, subst, arith, inl, inr, get_or, map}
use Rattle.std.specs.Prelude.{nat_lt}
use Rattle.std.proofs.Math.ListN.{length-set}
use Rattle.std.proofs.lemmas.Bool.{cases_Bool, cases_eq, ltb-true}
use Rattle.std.proofs.lemmas.List.{get_or_default}
use Rattle.std.proofs.lemmas.Nat.{mod_below}
use Rattle.steer_base.specs.Apps.{app_of}
use Rattle.steer_base.specs.Orders.{IsPrefix}
use Rattle.steer_base.specs.declared.filter.Filter.{Filter}
use Rattle.hop_model.specs.declared.event.HopEvent.{HopEvent}
use Rattle.hop_model.specs.declared.event.HopEvent.TheVariants as event
use Rattle.hop_model.specs.Events.{MayAsk, happens}
use Rattle.hop_model.specs.Hop.{HopState, accepted_at, arrivals_of, choices_of, deliver_at}
use Rattle.hop_model.specs.Hop.{delivered_at, next_out, out_at, retire_at, retired_at, taken_of}
use Rattle.hop_model.specs.Hop.{took, with_bare}
use Rattle.hop_core.specs.Leaves.{Field, changes}
use Rattle.hop_model.specs.Reads.{to_weigh}
use Rattle.hop_core.specs.Settled.{IsBySettings}
use Rattle.hop_model.specs.Sound.{Sound}
use Rattle.hop_core.proofs.Cases.{by_cases}
use Rattle.hop_core.proofs.Lists.{Changed, Changed-set}
use Rattle.history.specs.Lists.{list_at}
use Rattle.history.specs.declared.arrival.Arrival.{Arrival}
use Rattle.history.specs.declared.sent.Sent.{Sent}
use Rattle.steer_model.specs.State.Machine.{Machine, note_of}
use Rattle.steer_model.specs.State.Notes.{is_asking}
use Rattle.steer_model.specs.Steps.Pollers.{with_note}
use Rattle.steer_model.specs.State.Settings.{Settings, class_at, plain_lane}
use Rattle.steer_model.specs.State.Setup.{Setup, app_for, packet_hash}
use Rattle.steer_model.specs.declared.note.Note.{Note}
use Rattle.steer_model.specs.declared.note.Note.TheVariants as note
use Rattle.steer_invariant.specs.StepInvariant.{StepInvariant}
use Rattle.steer_invariant.specs.HopInvariants.{AreNoted, IsNoted, Manned}
use Rattle.steer_invariant.specs.ListInvariants.{Came, Replied}
use Rattle.steer_invariant.proofs.StepInvariant.FrameLemmas.{by-happens, came-leaves, manned-leaves}
use Rattle.steer_invariant.proofs.StepInvariant.FrameLemmas.{noted-leaves}
use Rattle.steer_invariant.proofs.StepInvariant.FrameLemmas.{replied-inbox, rx-happens}
use Rattle.steer_invariant.proofs.PrefixLemmas.{prefix-more}

-- ---- an event of the receive hop

-- any event but a resize and one that closes or opens the gate, with the arrivals as they are then
pub StepInvariant-rx : (m : Machine) (e : HopEvent) (arrivals : List Arrival) → MayAsk m.rx e
    → changes e Field.closed ≡ false → changes e Field.counts ≡ false
    → IsBySettings (class_at m.setup m.settings) (plain_lane m.setup m.settings) m.rx e
    → Manned m.setup m.settings (happens m.rx e).0 → AreNoted m.notes (happens m.rx e).0
    → Came m.setup.packets arrivals (arrivals_of (happens m.rx e).0)
    → Replied (list_at m.sent) (out_at (happens m.rx e).0.bare) (arrivals_of m.tx)
    → StepInvariant m → StepInvariant (record m { rx = (happens m.rx e).0; arrivals = arrivals })
StepInvariant-rx m e arrivals may still counts allowed manned with_note came replied k =
    assumption (
      rx-happens m.setup m.rx e may still k.rx,
      by-happens m.setup m.settings m.rx e may counts k.rx allowed manned k.by,
      with_note,
      came,
      replied,
    )

-- an event by which nothing arrives and nothing leaves
pub record IsInner (e : HopEvent) : Type 0 where
  pub closed : changes e Field.closed ≡ false
  pub counts : changes e Field.counts ≡ false
  pub arrivals : changes e Field.arrivals ≡ false
  pub outs : changes e Field.outs ≡ false

pub StepInvariant-inner : (m : Machine) (e : HopEvent) (t : HopState) → IsInner e → MayAsk m.rx e
    → IsBySettings (class_at m.setup m.settings) (plain_lane m.setup m.settings) m.rx e
    → Manned m.setup m.settings (happens m.rx e).0 → AreNoted m.notes (happens m.rx e).0
    → t ≡ (happens m.rx e).0 → StepInvariant m → StepInvariant (record m { rx = t })
StepInvariant-inner m e t inner may allowed manned with_note is k =
    subst (λ (s : HopState). StepInvariant (record m { rx = s })) (sym is)
    (StepInvariant-rx m e m.arrivals may inner.closed inner.counts allowed manned with_note
    (came-leaves m.setup.packets m.arrivals m.rx e inner.arrivals k.came)
    (replied-inbox (list_at m.sent) (arrivals_of m.tx) m.rx e inner.outs k.replied) k)

-- ---- take, enter, leave, pull

note-took : (s : HopState) (q r : ℕ) (n : Note) → q < length s.taken → (r ≡ q → is_asking n ≡ false)
    → IsNoted s r n → IsNoted (took s q) r n
note-took s q r note.Nothing in' other h = tt
note-took s q r (note.Looked want) in' other h =
    let ch = Changed-set s.taken q (taken_of s q + 1) 0 in' in
    elim (cases_eq r q) [
      | inl e ↦ (
          let old : taken_of s r ≡ taken_of s q = ap (taken_of s) e in
          let f : taken_of (took s q) r ≡ taken_of s q + 1 = rw e ch.here in
          omega (arith, h, f, old))
      | inr ne ↦ (let f : taken_of (took s q) r ≡ taken_of s r = ch.there r ne in
          omega (arith, h, f))
    ]
note-took s q r (note.Asking filter) in' other h =
    let ch = Changed-set s.taken q (taken_of s q + 1) 0 in' in
    elim (cases_eq r q) [
      | inl e ↦ absurd (let f : true ≡ false = other e in cc)
      | inr ne ↦ (let f : taken_of (took s q) r ≡ taken_of s r = ch.there r ne in
          omega (arith, h, f))
    ]

pub kept_take : (m : Machine) (q : ℕ) (t : HopState) → q < length m.setup.homes
    → is_asking (note_of m q) ≡ false → t ≡ (happens m.rx (event.Take q)).0 → StepInvariant m
    → StepInvariant (record m { rx = t })
kept_take m q t named quiet is k =
    let z = k.rx.sizes in let w = k.rx.sound.wide in
    let long : q < length m.rx.taken = omega (arith, named, z.queues, w.taken) in
    StepInvariant-inner m (event.Take q) t
    (record { closed = refl; counts = refl; arrivals = refl; outs = refl })
    (omega (arith, named, z.queues)) tt
    (manned-leaves m.setup m.settings m.rx (event.Take q) refl refl refl refl k.by.manned)
    (by_cases (AreNoted m.notes) m.rx (event.Take q) k.noted
    (λ free more r.
    note-took m.rx q r (note_of m r) long (λ e. ap (λ i. is_asking (note_of m i)) e ∙ quiet)
    (k.noted r)))
    is k

-- an event that touches neither hands nor lanes
kept-beside : (m : Machine) (e : HopEvent) (t : HopState) → IsInner e → MayAsk m.rx e
    → IsBySettings (class_at m.setup m.settings) (plain_lane m.setup m.settings) m.rx e
    → changes e Field.accepted ≡ false → changes e Field.retired ≡ false
    → changes e Field.choices ≡ false → changes e Field.placed ≡ false
    → changes e Field.taken ≡ false → t ≡ (happens m.rx e).0 → StepInvariant m → StepInvariant
    (record m { rx = t })
kept-beside m e t inner may allowed a r c d u is k =
    StepInvariant-inner m e t inner may allowed
    (manned-leaves m.setup m.settings m.rx e a r c d k.by.manned)
    (noted-leaves m.notes m.rx e c u d k.noted) is k

-- an actor of the receive gate is a queue, or a guest
pub kept_visit-in : (m : Machine) (a : ℕ) (t : HopState) → a < length m.rx.visits
    → t ≡ (happens m.rx (event.Enter a)).0 → StepInvariant m → StepInvariant (record m { rx = t })
kept_visit-in m a t named is k =
    kept-beside m (event.Enter a) t
    (record { closed = refl; counts = refl; arrivals = refl; outs = refl })
    named tt refl refl refl refl refl is k

pub kept_visit-out : (m : Machine) (a : ℕ) (t : HopState) → a < length m.rx.visits
    → t ≡ (happens m.rx (event.Leave a)).0 → StepInvariant m → StepInvariant (record m { rx = t })
kept_visit-out m a t named is k =
    kept-beside m (event.Leave a) t
    (record { closed = refl; counts = refl; arrivals = refl; outs = refl })
    named tt refl refl refl refl refl is k

pub kept_enter : (m : Machine) (q : ℕ) (t : HopState) → q < length m.setup.homes
    → t ≡ (happens m.rx (event.Enter q)).0 → StepInvariant m → StepInvariant (record m { rx = t })
kept_enter m q t named is k =
    let z = k.rx.sizes in kept_visit-in m q t (omega (arith, named, z.visits)) is k

pub kept_leave : (m : Machine) (q : ℕ) (t : HopState) → q < length m.setup.homes
    → t ≡ (happens m.rx (event.Leave q)).0 → StepInvariant m → StepInvariant (record m { rx = t })
kept_leave m q t named is k =
    let z = k.rx.sizes in kept_visit-out m q t (omega (arith, named, z.visits)) is k

pub kept_pull : (m : Machine) (c : ℕ) (t : HopState) → c < m.setup.cpus
    → t ≡ (happens m.rx (event.Pull c)).0 → StepInvariant m → StepInvariant (record m { rx = t })
kept_pull m c t named is k =
    let z = k.rx.sizes in
    kept-beside m (event.Pull c) t
    (record { closed = refl; counts = refl; arrivals = refl; outs = refl })
    (omega (arith, named, z.cpus)) tt refl refl refl refl refl is k

-- ---- retire

manned-retired : (p : Setup) (now : Settings) (s : HopState) (c : ℕ) → c < length s.bare.accepted
    → Sound s → retired_at s.bare c < delivered_at s.bare c → Manned p now s
    → Manned p now (with_bare s (retire_at s.bare c))
manned-retired p now s c in' h more k =
    let w = h.wide in
    let ch =
    Changed-set s.bare.retired c (retired_at s.bare c + 1) 0 (omega (arith, in', w.retired)) in
    record {
      homes = k.homes;
      within = k.within;
      empty = λ d lt off. elim (cases_eq d c) [
        | inl e ↦ absurd (
            let f : retired_at s.bare c ≡ length (accepted_at s.bare c) =
            rw e at (k.empty d lt off) in
            let a = h.counts.delivered_first c in let b = h.counts.pulled_first c in
            omega (arith, f, a, b, more))
        | inr ne ↦ rw (ch.there d ne) (k.empty d lt off)
      ];
      hand = k.hand;
    }

pub kept_retire : (m : Machine) (c : ℕ) (t : HopState) → c < m.setup.cpus
    → t ≡ (happens m.rx (event.Retire c)).0 → StepInvariant m → StepInvariant (record m { rx = t })
kept_retire m c t named is k =
    let z = k.rx.sizes in
    let in' : c < length m.rx.bare.accepted = omega (arith, named, z.cpus) in
    StepInvariant-inner m (event.Retire c) t
    (record { closed = refl; counts = refl; arrivals = refl; outs = refl }) in' tt
    (by_cases (Manned m.setup m.settings) m.rx (event.Retire c) k.by.manned
    (λ more. manned-retired m.setup m.settings m.rx c in' k.rx.sound more k.by.manned))
    (noted-leaves m.notes m.rx (event.Retire c) refl refl refl k.noted) is k

-- ---- deliver

app_below : (hash : Option ℕ) (apps : ℕ) → 0 < apps → app_of hash apps < apps
app_below None apps some = some
app_below (Some hash) apps some = mod_below hash apps some

pub may_deliver : (m : Machine) (c x : ℕ) → c < m.setup.cpus → StepInvariant m
    → MayAsk m.rx (event.Deliver c (app_for m.setup x))
may_deliver m c x named k =
    let z = k.rx.sizes in let some = k.given.some_app in
    let below = app_below (packet_hash m.setup x) m.setup.apps some in
    record { lane = omega (arith, named, z.cpus); out = omega (arith, below, z.apps) }

replied-pushed : (sent : ℕ → List Sent) (old new begun : ℕ → List ℕ) (o x : ℕ)
    → Changed old new o (old o ++ x ∷ []) → Replied sent old begun → Replied sent new begun
replied-pushed sent old new begun o x ch k =
    record {
      first = λ a. elim (cases_eq a o) [
        | inl e ↦ (
            let here : new a ≡ old a ++ x ∷ [] =
            ap new e ∙ ch.here ∙ ap (λ b. old b ++ x ∷ []) (sym e) in
            subst (IsPrefix (map (λ s. s.id) (sent a))) (sym here)
            (prefix-more (map (λ s. s.id) (sent a)) (old a) (x ∷ []) (k.first a)))
        | inr ne ↦ subst (IsPrefix (map (λ s. s.id) (sent a))) (sym (ch.there a ne)) (k.first a)
      ];
      came = k.came;
    }

replied-delivered : (sent : ℕ → List Sent) (begun : ℕ → List ℕ) (s : HopState) (c o : ℕ)
    → o < length s.bare.outs → Replied sent (out_at s.bare) begun
    → Replied sent (out_at (with_bare s (deliver_at s.bare c o)).bare) begun
replied-delivered sent begun s c o in' k =
    let ch = Changed-set s.bare.outs o (out_at s.bare o ++ next_out s.bare c ∷ []) [] in' in
    replied-pushed sent (out_at s.bare) _ begun o (next_out s.bare c) ch k

kept-delivered : (m : Machine) (c x : ℕ) → c < m.setup.cpus → StepInvariant m
    → StepInvariant (record m { rx = (happens m.rx (event.Deliver c (app_for m.setup x))).0 })
kept-delivered m c x named k =
    let e : HopEvent = event.Deliver c (app_for m.setup x) in
    let may = may_deliver m c x named k in
    StepInvariant-rx m e m.arrivals may refl refl tt
    (manned-leaves m.setup m.settings m.rx e refl refl refl refl k.by.manned)
    (noted-leaves m.notes m.rx e refl refl refl k.noted)
    (came-leaves m.setup.packets m.arrivals m.rx e refl k.came)
    (by_cases (λ s. Replied (list_at m.sent) (out_at s.bare) (arrivals_of m.tx)) m.rx e k.replied
    (λ more. replied-delivered (list_at m.sent) (arrivals_of m.tx) m.rx c
    (app_for m.setup x) may.out k.replied)) k

pub kept_deliver : (m : Machine) (c x : ℕ) (e : HopEvent) (t : HopState) → c < m.setup.cpus
    → e ≡ event.Deliver c (app_for m.setup x) → t ≡ (happens m.rx e).0 → StepInvariant m
    → StepInvariant (record m { rx = t })
kept_deliver m c x e t named which is k =
    let then' : t ≡ (happens m.rx (event.Deliver c (app_for m.setup x))).0 =
    is ∙ ap (λ (e : HopEvent). (happens m.rx e).0) which in
    subst (λ (s : HopState). StepInvariant (record m { rx = s })) (sym then')
    (kept-delivered m c x named k)

-- ---- notes

-- another note of a poller, where a filter that it asks for names a queue that there is
pub StepInvariant-noted : (m : Machine) (q : ℕ) (n : Note) → q < length m.setup.homes
    → IsNoted m.rx q n
    → ((filter : Filter) → n ≡ note.Asking filter → filter.queue < length m.setup.homes)
    → StepInvariant m
    → StepInvariant (with_note m q n)
StepInvariant-noted m q n named here below k =
    let l = k.lists in
    let ch = Changed-set m.notes q n note.Nothing (omega (arith, named, l.notes_long)) in
    record {
      given = k.given;
      rx = k.rx;
      tx = k.tx;
      taken = k.taken;
      by = k.by;
      noted = λ r. elim (cases_eq r q) [
        | inl e ↦ (let f : note_of (with_note m q n) r ≡ n = rw e ch.here in rw (f, e) here)
        | inr ne ↦ (let f : note_of (with_note m q n) r ≡ note_of m r = ch.there r ne in
            rw f (k.noted r))
      ];
      lists = assumption (length-set m.notes q n ∙ l.notes_long);
      sizes = k.sizes;
      routes = record {
        table = k.routes.table;
        queues = k.routes.queues;
        set = k.routes.set;
        asked = λ r filter is. elim (cases_eq r q) [
          | inl e ↦ (let f : note_of (with_note m q n) r ≡ n = rw e ch.here in
              below filter (sym f ∙ is))
          | inr ne ↦ (let f : note_of (with_note m q n) r ≡ note_of m r = ch.there r ne in
              k.routes.asked r filter (sym f ∙ is))
        ];
      };
      came = k.came;
      replied = k.replied;
    }

-- a note that was read is that of its poller
pub read-note : (m : Machine) (q : ℕ) (n : Note) → q < length m.setup.homes → StepInvariant m
    → n ≡ get_or m.notes q n → n ≡ note_of m q
read-note m q n named k is =
    let l = k.lists in
    is ∙ get_or_default m.notes q n note.Nothing (omega (arith, named, l.notes_long))

pub weighs_next : (s : HopState) (q x : ℕ) → to_weigh s q ≡ Some x
    → length (choices_of s q) < taken_of s q
weighs_next s q x some =
    elim (cases_Bool (nat_lt (length (choices_of s q)) (taken_of s q))) [
      | inl e ↦ ltb-true _ _ e
      | inr e ↦ absurd (let f : to_weigh s q ≡ None = rw e refl in
          let g : None ≡ Some x = sym f ∙ some in cc)
    ]

pub kept_look : (m : Machine) (q x : ℕ) (want : Option ℕ) → q < length m.setup.homes
    → to_weigh m.rx q ≡ Some x → StepInvariant m → StepInvariant (with_note m q (note.Looked want))
kept_look m q x want named some k =
    StepInvariant-noted m q (note.Looked want) named (weighs_next m.rx q x some)
    (λ filter e. absurd (cc)) k
