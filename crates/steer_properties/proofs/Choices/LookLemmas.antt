-- What a poller saw in the socket flow table was written there, and stays so until it weighs.
use Rattle.std.proofs.Common.{ℕ, ◌<◌, ◌≡◌, true, List, [], ◌∷◌, ◌++◌, Option, Some}
use Rattle.std.proofs.Common.{None, length, refl, ap, ◌∙◌, sym, subst, arith, inl, inr, get_or}
use Rattle.std.specs.Prelude.{slice_index, slice_index_or}
use Rattle.std.proofs.lemmas.Bool.{cases_eq}
use Rattle.std.proofs.lemmas.List.{get_or-set_same}
use Rattle.history.specs.Lists.{list_at}
use Rattle.history.specs.declared.sock_write.SockWrite.{SockWrite}
use Rattle.hop_model.specs.Hop.{HopState, arrivals_of, choices_of, inside_of, next_of, taken_of}
use Rattle.hop_model.specs.Sound.{Sound}
use Rattle.hop_core.proofs.GateSteps.{count_some}
use Rattle.hop_core.proofs.Lists.{Changed-set}
use Rattle.steer_base.specs.Choices.{class_of}
use Rattle.steer_base.specs.HashTables.{row_at}
use Rattle.steer_base.specs.declared.choice.Chosen.{Chosen}
use Rattle.steer_base.specs.declared.step.Step.{Step}
use Rattle.steer_base.specs.declared.command.Command.{Command}
use Rattle.steer_model.specs.Steps.Commands.{answer_to, given}
use Rattle.steer_model.specs.Good.Inputs.{Input}
use Rattle.steer_model.specs.State.Start.{new_machine}
use Rattle.steer_model.specs.Good.Choices.{WasWritten}
use Rattle.steer_model.specs.State.Machine.{Machine, history_of, note_of}
use Rattle.steer_model.specs.Steps.Pollers.{with_note, seen_by, socket_seen}
use Rattle.steer_model.specs.State.Settings.{Settings, class_at}
use Rattle.steer_model.specs.State.Setup.{packet_hash}
use Rattle.steer_model.specs.Steps.SingleSteps.{simple}
use Rattle.step_laws.specs.Origins.SocketOrigins.{SocketIsWritten}
use Rattle.steer_model.specs.declared.note.Note.TheVariants as note
use Rattle.steer_invariant.specs.Invariant.{Invariant}
use Rattle.steer_invariant.specs.StepInvariant.{IsNamed}
use Rattle.steer_invariant.specs.HopInvariants.{IsNoted}
use Rattle.steer_properties.proofs.Histories.ExtendLemmas.{blank-at, extends-get, extends-slice_get}
use Rattle.steer_properties.proofs.Histories.LastingLemmas.{Given, Lasts, Still, looked-in}
use Rattle.steer_properties.proofs.Histories.StepKindLemmas.{lasts-noted, new_choice, walk, weighed}

-- ---- what is seen was written

-- this processor was written at the entry of a packet's hash, by the size in force
abbrev pub WantFrom : Machine → ℕ → ℕ → Type 0
WantFrom m x cpu =
    (place : ℕ) × (class_of m.settings.sock (packet_hash m.setup x) ≡ Some place)
    × WasWritten (history_of m) (record { entry = place; cpu = cpu })

pub was-written-lasts : (m n : Machine) (w : SockWrite) → Lasts m n → WasWritten (history_of m) w
    → WasWritten (history_of n) w
was-written-lasts m n w l is = (
  is.0,
  is.1,
  extends-slice_get (list_at m.writes is.0) (list_at n.writes is.0) is.1 w (l.writes is.0) is.2,
)

-- an entry that is seen
seen-at : (socket : List (Option ℕ)) (place : Option ℕ) (cpu : ℕ)
    → row_at None socket place ≡ Some cpu
    → (p : ℕ) × (place ≡ Some p) × (slice_index_or socket p None ≡ Some cpu)
seen-at socket None cpu is = absurd (cc)
seen-at socket (Some p) cpu is = (p, refl, is)

seen-from : (socket : List (Option ℕ)) (class hash : Option ℕ) (cpu : ℕ)
    → socket_seen socket class hash ≡ Some cpu
    → (p : ℕ) × (class_of (length socket) hash ≡ Some p)
    × (slice_index_or socket p None ≡ Some cpu)
seen-from socket (Some class) (Some hash) cpu is =
    seen-at socket (class_of (length socket) (Some hash)) cpu is
seen-from socket (Some class) None cpu is = absurd (cc)
seen-from socket None hash cpu is = absurd (cc)

want-seen : (m : Machine) (q x cpu : ℕ) → SocketIsWritten m → seen_by m q x ≡ Some cpu
    → WantFrom m x cpu
want-seen m q x cpu w is =
    let s = seen-from m.socket (class_at m.setup m.settings q x) (packet_hash m.setup x) cpu is in (
      s.0,
      ap (λ n. class_of n (packet_hash m.setup x)) (sym w.size) ∙ s.1,
      w.written s.0 cpu s.2,
    )

-- ---- pollers that looked

-- Whoever looked is inside, and what it saw was written for its next packet.
pub record LooksAt (m : Machine) (q : ℕ) (want : Option ℕ) : Type 0 where
  pub inside : inside_of m.rx q ≡ true
  pub from : (cpu : ℕ) → want ≡ Some cpu → WantFrom m (next_of m.rx q) cpu

abbrev pub Looking : Machine → Type 0
Looking m = (q : ℕ) (want : Option ℕ) → note_of m q ≡ note.Looked want → LooksAt m q want

-- its next packet stays, while no choice is made for its queue
next-stays : (m n : Machine) (q : ℕ) (want : Option ℕ) → Invariant m → Lasts m n
    → choices_of n.rx q ≡ choices_of m.rx q → note_of m q ≡ note.Looked want
    → next_of n.rx q ≡ next_of m.rx q
next-stays m n q want h l same is =
    let k = h.kept in
    let more : length (choices_of m.rx q) < taken_of m.rx q =
    subst (λ x. IsNoted m.rx q x) is (k.noted q) in
    let upto = k.rx.sound.hands.arrived q in
    ap (λ cs. slice_index (arrivals_of n.rx q) (length cs)) same
    ∙ extends-get (arrivals_of m.rx q) (arrivals_of n.rx q) (length (choices_of m.rx q)) 0
    (l.rx.arrivals q) (omega (arith, more, upto))

-- so does what was seen for it, as long as the size does
looks-stay : (m n : Machine) (q : ℕ) (want : Option ℕ) → Invariant m → Lasts m n
    → choices_of n.rx q ≡ choices_of m.rx q → n.settings.sock ≡ m.settings.sock
    → note_of m q ≡ note.Looked want → inside_of n.rx q ≡ true → LooksAt m q want
    → LooksAt n q want
looks-stay m n q want h l same sock is inside old =
    record { inside = inside; from = from }
  where
    from : (cpu : ℕ) → want ≡ Some cpu → WantFrom n (next_of n.rx q) cpu
    from cpu e =
        let w = old.from cpu e in
        let next = next-stays m n q want h l same is in (
          w.0,
          (λ i. class_of (sock i) (packet_hash (l.setup i) (next i))) ∙ w.1,
          was-written-lasts m n (record { entry = w.0; cpu = cpu }) l w.2,
        )

looking-still : (m n : Machine) → Invariant m → Still m n → Looking m → Looking n
looking-still m n h s old q want is =
    let w = s.looked q want is in
    let o = old q want w.0 in
    looks-stay m n q want h s.lasts (ap (λ (l : List (List Chosen)). get_or l q []) s.rx.choices)
    (ap (λ (t : Settings). t.sock) s.settings) w.0 (w.1 o.inside) o

looking-looked : (m : Machine) (q : ℕ) → Invariant m → SocketIsWritten m → inside_of m.rx q ≡ true
    → Looking m → Looking (with_note m q (note.Looked (seen_by m q (next_of m.rx q))))
looking-looked m q h w inside old p want is =
    let x : Option ℕ = seen_by m q (next_of m.rx q) in
    let n : Machine = with_note m q (note.Looked x) in
    elim (looked-in m.notes q (note.Looked x) p want is) [
      | inl new ↦
          let same : x ≡ want = (let f : note.Looked x ≡ note.Looked want = new.1 in cc) in
          subst (λ r. LooksAt n r want) (sym new.0)
          (record {
            inside = inside;
            from = λ cpu e. want-seen m q (next_of m.rx q) cpu w (same ∙ e);
          })
      | inr before ↦
          let o = old p want before in
          looks-stay m n p want h (lasts-noted m q (note.Looked x)) refl refl before o.inside o
    ]

-- a poller that weighs forgets what it saw
looking-weighed : (m : Machine) (q : ℕ) (want : Option ℕ) → Invariant m → q < length m.setup.homes
    → Lasts m (weighed m q want) → Looking m → Looking (weighed m q want)
looking-weighed m q want h in' l old p other is =
    let k = h.kept in let z = k.rx.sizes in let w = k.rx.sound.wide in let ls = k.lists in
    let n : Machine = weighed m q want in
    elim (cases_eq p q) [
      | inl e ↦ absurd (
          let quiet : note_of n q ≡ note.Nothing =
          get_or-set_same m.notes q note.Nothing note.Nothing
          (omega (arith, in', ls.notes_long)) in
          let f : note.Nothing ≡ note.Looked other = sym quiet ∙ ap (note_of n) (sym e) ∙ is in cc)
      | inr ne ↦
          let ns = Changed-set m.notes q note.Nothing note.Nothing
          (omega (arith, in', ls.notes_long)) in
          let new : Chosen = record { id = next_of m.rx q; choice = new_choice m q want } in
          let ch = Changed-set m.rx.choices q (choices_of m.rx q ++ new ∷ []) []
          (omega (arith, in', z.queues, w.choices)) in
          let before : note_of m p ≡ note.Looked other = sym (ns.there p ne) ∙ is in
          let o = old p other before in
          looks-stay m n p other h l (ch.there p ne) refl before o.inside o
    ]

-- with nobody inside nobody looked
nobody-looks : (s : HopState) (q : ℕ) → Sound s → s.bare.inside ≡ 0 → inside_of s q ≡ true → ⊥
nobody-looks s q h alone in' =
    let some = count_some s.visits q in' in let g = h.gate.inside in
    omega (arith, some, g, alone)

looking-given : (m n : Machine) (c : Command) → Invariant m → Given m c (answer_to m c) n
    → Looking m
    → Looking n
looking-given m n c h d old q want is =
    let w = d.looked q want is in
    let o = old q want w.0 in
    let k = h.kept in
    elim d.sock [
      | inl same ↦
          looks-stay m n q want h d.lasts (ap (λ (l : List (List Chosen)). get_or l q []) d.choices)
          same w.0 (w.1 o.inside) o
      | inr alone ↦ absurd (nobody-looks m.rx q k.rx.sound alone o.inside)
    ]

-- another transmit hop
looking-tx : (m : Machine) (t : HopState) → Looking m → Looking (record m { tx = t })
looking-tx m t old q want is =
    let o = old q want is in record { inside = o.inside; from = o.from }

pub looking-simple : (m : Machine) (s : Step) → Invariant m → SocketIsWritten m → IsNamed m.setup s
    → Looking m → Looking (simple m s).0
looking-simple m s h w named old =
    walk m h Looking s
    (record {
      quiet = λ n k. looking-still m n h k.still old;
      arrive = λ few k. looking-still m _ h k old;
      look = λ q in' inside more. looking-looked m q h w inside old;
      weigh = λ q want in' is more l. looking-weighed m q want h in' l old;
      write = λ flow hash is some k. looking-still m _ h k old;
      send = λ a x in' is k. looking-still m _ h k old;
      tx_weigh = λ a in' more l. looking-tx m _ old;
      give = λ c is in' d. looking-given m (given m c).0 c h d old;
    }) named

pub looking-new : (i : Input) → Looking (new_machine i.plan i.packets i.cut)
looking-new i q want is =
    absurd (
    let quiet : note_of (new_machine i.plan i.packets i.cut) q ≡ note.Nothing =
    blank-at (length i.plan.queues) q note.Nothing in
    let f : note.Nothing ≡ note.Looked want = sym quiet ∙ is in cc)
