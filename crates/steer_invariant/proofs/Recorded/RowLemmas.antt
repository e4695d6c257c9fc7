-- Each step of one event but an arrival keeps what the machine's lists say of each other.
use Rattle.std.proofs.Common.{ℕ, ◌+◌, ◌<◌, ◌≡◌, Bool, true, false, not, cond, zero, suc, List, []}
use Rattle.std.proofs.Common.{◌∷◌, ◌++◌, Option, Some, None, IsSome, is_some, length, refl, ap, ◌∙◌}
use Rattle.std.proofs.Common.{sym, subst, arith, get_or, set, inl, inr}
use Rattle.std.specs.Prelude.{◌%◌, ◌==◌, nat_lt, slice_index}
use Rattle.std.specs.List.{All}
use Rattle.std.proofs.Math.ListN.{length-map}
use Rattle.std.proofs.lemmas.Bool.{cases_Bool, lt-ltb}
use Rattle.std.proofs.lemmas.List.{get_or-map}
use Rattle.std.proofs.lemmas.List.Elements.{All-push}
use Rattle.steer_base.specs.Choices.{by_entry}
use Rattle.steer_base.specs.Counters.{has_reached}
use Rattle.steer_base.specs.declared.choice.Choice.{Choice}
use Rattle.steer_base.specs.declared.choice.Chosen.{Chosen}
use Rattle.steer_base.specs.declared.command.Answer.TheVariants as says
use Rattle.steer_base.specs.declared.idle.Idle.TheVariants as idle
use Rattle.steer_base.proofs.RuleLemmas.{by_entry-class}
use Rattle.hop_model.specs.declared.event.HopAnswer.{HopAnswer}
use Rattle.hop_model.specs.declared.event.HopEvent.{HopEvent}
use Rattle.hop_model.specs.declared.event.HopEvent.TheVariants as event
use Rattle.hop_model.specs.Events.{happens, run}
use Rattle.hop_model.specs.Hop.{HopState, choice_of, choices_of, chose, deliver_at, delivered_at}
use Rattle.hop_model.specs.Hop.{inside_of, next_of, next_out, placed_of, pulled_at, taken_of}
use Rattle.hop_model.specs.Hop.{arrivals_of, with_bare}
use Rattle.hop_core.specs.Leaves.{Field, Same, changes}
use Rattle.hop_core.specs.Leaves as field
use Rattle.hop_model.specs.Reads.{to_weigh}
use Rattle.hop_core.proofs.Cases.{by_cases}
use Rattle.hop_core.proofs.Leaves.{each_leaves}
use Rattle.history.specs.Lists.{app_at, arrival_of, packet_at}
use Rattle.history.specs.declared.sent.Sent.{Sent}
use Rattle.steer_model.specs.Steps.Applications.{cpu_delivers, everyone, in_lane, in_reply, next_in}
use Rattle.steer_model.specs.Steps.Applications.{nothing_sent, pick_for, record_by, record_flow}
use Rattle.steer_model.specs.Steps.Applications.{reply_to}
use Rattle.steer_model.specs.Steps.Applications.{send, send_by, sending, sends, sent_of, tput}
use Rattle.steer_model.specs.Steps.Applications.{tweigh}
use Rattle.steer_model.specs.Steps.Applications.{visited, wrote}
use Rattle.steer_model.specs.State.Machine.{Machine, last_chosen, note_of}
use Rattle.steer_model.specs.State.Notes.{is_asking, is_nothing}
use Rattle.steer_model.specs.Steps.Outcomes.{StepOutcome, by_rx, by_tx, idle_step}
use Rattle.steer_model.specs.Steps.Pollers.{ask, ask_by, poller_leaves, look, look_by, put_position}
use Rattle.steer_model.specs.Steps.Pollers.{poller_puts}
use Rattle.steer_model.specs.Steps.Pollers.{poller_after_put}
use Rattle.steer_model.specs.Steps.Pollers.{putting, poller_takes, poller_weighs, weigh_by}
use Rattle.steer_model.specs.Steps.Pollers.{weighing}
use Rattle.steer_model.specs.State.Setup.{app_for, flow_hash, flow_number_of, packet_hash}
use Rattle.steer_model.specs.declared.note.Note.{Note}
use Rattle.steer_model.specs.declared.note.Note.TheVariants as note
use Rattle.steer_invariant.specs.StepInvariant.{StepInvariant}
use Rattle.steer_invariant.specs.RecordedLists.{AreOwn, AreWeighed, IsRecorded}
use Rattle.steer_invariant.proofs.EitherLemmas.{either}

-- one item more at the end of one of many lists
pub all-pushed : {X : Type 0} (P : ℕ → X → Type 0) (lists : List (List X)) (a : ℕ) (x : X)
    → P a x → ((b : ℕ) → All (P b) (get_or lists b []))
    → (b : ℕ) → All (P b) (get_or (set lists a (get_or lists a [] ++ x ∷ [])) b [])
all-pushed P [] a x p h b = h b
all-pushed P (l ∷ ls) zero x p h zero = All-push (P 0) l x (h 0) p
all-pushed P (l ∷ ls) zero x p h (suc b) = h (suc b)
all-pushed P (l ∷ ls) (suc a) x p h zero = h 0
all-pushed P (l ∷ ls) (suc a) x p h (suc b) =
    all-pushed (λ c. P (suc c)) ls a x p (λ c. h (suc c)) b

-- ---- a hop that changes nothing of it

-- the receive hop with the same inboxes, and the transmit hop with the same choices
pub recorded-outs : (m : Machine) (s : HopState) → s.bare.outs ≡ m.rx.bare.outs → IsRecorded m
    → IsRecorded (record m { rx = s })
recorded-outs m s same r =
    record {
      routed = r.routed;
      own = subst (λ (lists : List (List ℕ)). AreOwn m.setup.packets m.setup.apps
          (λ a. get_or lists a [])) (sym same) r.own;
      queues = r.queues;
      weighed = r.weighed;
      told = r.told;
    }

pub recorded-choices : (m : Machine) (s : HopState) → s.choices ≡ m.tx.choices → IsRecorded m
    → IsRecorded (record m { tx = s })
recorded-choices m s same r =
    record {
      routed = r.routed;
      own = r.own;
      queues = r.queues;
      weighed = subst (λ (lists : List (List Chosen)). AreWeighed m.setup.packets
          (λ a. get_or lists a [])) (sym same) r.weighed;
      told = r.told;
    }

-- an event that delivers nothing, and one that weighs nothing
pub recorded-rx : (m : Machine) (e : HopEvent) → changes e field.outs ≡ false → IsRecorded m
    → IsRecorded (by_rx m e).0
recorded-rx m e off r = recorded-outs m (happens m.rx e).0 (each_leaves m.rx e field.outs off) r

pub recorded-tx : (m : Machine) (e : HopEvent) → changes e field.choices ≡ false → IsRecorded m
    → IsRecorded (by_tx m e).0
recorded-tx m e off r =
    recorded-choices m (happens m.tx e).0 (each_leaves m.tx e field.choices off) r

-- events that deliver nothing
abbrev pub AllLeaveOuts : List HopEvent → Type 0
AllLeaveOuts [] = Unit {0}
AllLeaveOuts (e ∷ es) = (changes e field.outs ≡ false) × AllLeaveOuts es

pub outs-run : (es : List HopEvent) (s : HopState) → AllLeaveOuts es
    → (run es s).bare.outs ≡ s.bare.outs
outs-run [] s off = refl
outs-run (e ∷ es) s off =
    outs-run es (happens s e).0 off.1 ∙ each_leaves s e field.outs off.0

-- ---- a poller, and a processor but for its delivery

-- an outcome with a machine whose lists are as before
abbrev Then : StepOutcome → Type 0
Then o = IsRecorded o.0

pub recorded-take : (m : Machine) (q : ℕ) → IsRecorded m → IsRecorded (poller_takes m q).0
recorded-take m q r =
    either Then (is_asking (note_of m q)) (idle_step m idle.HandFull) (by_rx m (event.Take q))
    (λ _. r) (λ _. recorded-rx m (event.Take q) refl r)

look-by : (m : Machine) (q : ℕ) (x : Option ℕ) → IsRecorded m → IsRecorded (look_by m q x).0
look-by m q None r = r
look-by m q (Some x) r = r

pub recorded-look : (m : Machine) (q : ℕ) → IsRecorded m → IsRecorded (look m q).0
recorded-look m q r =
    let seen : StepOutcome = look_by m q (to_weigh m.rx q) in
    let early : StepOutcome = idle_step m idle.WrongStage in
    either Then (not (inside_of m.rx q)) (idle_step m idle.NotInside)
    (cond (is_nothing (note_of m q)) seen early) (λ _. r)
    (λ _. either Then (is_nothing (note_of m q)) seen early
    (λ _. look-by m q (to_weigh m.rx q) r) (λ _. r))

weigh-by : (m : Machine) (q : ℕ) (n : Note) (x : Option ℕ) → IsRecorded m
    → IsRecorded (weigh_by m q n x).0
weigh-by m q note.Nothing x r = r
weigh-by m q (note.Looked want) None r = r
weigh-by m q (note.Looked want) (Some x) r = recorded-rx m (weighing m q x want) refl r
weigh-by m q (note.Asking filter) x r = r

pub recorded-weigh : (m : Machine) (q : ℕ) → IsRecorded m → IsRecorded (poller_weighs m q).0
recorded-weigh m q r =
    either Then (not (inside_of m.rx q)) (idle_step m idle.NotInside)
    (weigh_by m q (note_of m q) (to_weigh m.rx q)) (λ _. r)
    (λ _. weigh-by m q (note_of m q) (to_weigh m.rx q) r)

put-by : (m : Machine) (q : ℕ) (position : Option ℕ) (a : HopAnswer) → IsRecorded m
    → IsRecorded (poller_after_put m q position a).0
put-by m q None a r = r
put-by m q (Some position) a r = r

pub recorded-put : (m : Machine) (q : ℕ) → IsRecorded m → IsRecorded (poller_puts m q).0
recorded-put m q r =
    put-by (by_rx m (putting m q)).0 q (put_position (happens m.rx (putting m q)).1)
    (happens m.rx (putting m q)).1 (recorded-rx m (putting m q) refl r)

ask-by : (m : Machine) (q : ℕ) (n : Note) → IsRecorded m → IsRecorded (ask_by m q n).0
ask-by m q note.Nothing r = r
ask-by m q (note.Looked want) r = r
ask-by m q (note.Asking filter) r = r

pub recorded-ask : (m : Machine) (q : ℕ) → IsRecorded m → IsRecorded (ask m q).0
recorded-ask m q r =
    either Then (not (inside_of m.rx q)) (idle_step m idle.NotInside) (ask_by m q (note_of m q))
    (λ _. r) (λ _. ask-by m q (note_of m q) r)

pub recorded-leave : (m : Machine) (q : ℕ) → IsRecorded m → IsRecorded (poller_leaves m q).0
recorded-leave m q r =
    let gone : StepOutcome = by_rx m (event.Leave q) in
    let early : StepOutcome = idle_step m idle.MidPacket in
    either Then (not (inside_of m.rx q)) (idle_step m idle.NotInside)
    (cond (is_nothing (note_of m q)) gone early) (λ _. r)
    (λ _. either Then (is_nothing (note_of m q)) gone early
    (λ _. recorded-rx m (event.Leave q) refl r) (λ _. r))

-- ---- a delivery

deliver-to : (m : Machine) (c o : ℕ) → app_for m.setup (next_out m.rx.bare c) ≡ o → IsRecorded m
    → IsRecorded (record m { rx = with_bare m.rx (deliver_at m.rx.bare c o) })
deliver-to m c o is r =
    assumption (
    all-pushed (λ a x. app_at m.setup.packets m.setup.apps x ≡ a) m.rx.bare.outs o (next_out
    m.rx.bare c) is r.own)

pub recorded-deliver : (m : Machine) (c : ℕ) → IsRecorded m → IsRecorded (cpu_delivers m c).0
recorded-deliver m c r =
    let o : ℕ = app_for m.setup (in_lane m.rx c) in
    by_cases (λ s. IsRecorded (record m { rx = s })) m.rx (event.Deliver c o) r
    (λ more. (
    let test : nat_lt (delivered_at m.rx.bare c) (pulled_at m.rx.bare c) ≡ true =
    lt-ltb _ _ more in
    let is : in_lane m.rx c ≡ next_out m.rx.bare c = rw test refl in
    deliver-to m c o (ap (app_for m.setup) (sym is)) r))

-- ---- a socket write

record-by : (m : Machine) (hash : Option (Option ℕ)) → IsRecorded m
    → IsRecorded (record_by m hash).0
record-by m None r = r
record-by m (Some None) r = r
record-by m (Some (Some hash)) r =
    let a : ℕ = hash % m.setup.apps in
    let g : ℕ = length m.setup.homes + a in
    let es : List HopEvent = event.Enter g ∷ event.Leave g ∷ [] in
    either Then (nat_lt 0 (length m.socket)) (wrote (visited m a) a hash, says.Done)
    (idle_step m idle.NoTable)
    (λ _. recorded-outs m (run es m.rx) (outs-run es m.rx (refl, (refl, tt))) r) (λ _. r)

pub recorded-record : (m : Machine) (flow : ℕ) → IsRecorded m → IsRecorded (record_flow m flow).0
recorded-record m flow r = record-by m (flow_hash m.setup flow) r

-- ---- a reply

-- a reply is begun, with the queue at which its packet arrived
pub recorded-sends : (m : Machine) (a x : ℕ) (s : HopState) → s.choices ≡ m.tx.choices
    → IsRecorded m → IsRecorded (record (sends m a x) { tx = s })
recorded-sends m a x s same r =
    let moved = recorded-choices m s same r in
    assumption (
    all-pushed (λ _ t. t.rxq ≡ (arrival_of m.arrivals t.id).queue) m.sent a (reply_to m a x)
    refl r.queues)

-- arriving at the transmit hop and being taken up there makes no choice
pub begun-choices : (s : HopState) (a x : ℕ)
    → (run (event.Arrive a x ∷ event.Take a ∷ []) s).choices ≡ s.choices
begun-choices s a x =
    each_leaves (happens s (event.Arrive a x)).0 (event.Take a) field.choices refl

send-by : (m : Machine) (a : ℕ) (x : Option ℕ) → IsRecorded m → IsRecorded (send_by m a x).0
send-by m a None r = r
send-by m a (Some x) r =
    recorded-sends m a x (run (event.Arrive a x ∷ event.Take a ∷ []) m.tx)
    (begun-choices m.tx a x) r

pub recorded-send : (m : Machine) (a : ℕ) → IsRecorded m → IsRecorded (send m a).0
recorded-send m a r =
    either Then (nat_lt (placed_of m.tx a) (taken_of m.tx a)) (idle_step m idle.HandFull)
    (send_by m a (next_in m a)) (λ _. r) (λ _. send-by m a (next_in m a) r)

-- ---- a transmit choice

by_entry-want : (k : ℕ) (want : Option ℕ) (desired tail : ℕ) (head : ℕ → ℕ) (online : ℕ → Bool)
    (current : Option ℕ) → (by_entry k want desired tail head online current).want ≡ want
by_entry-want k want desired tail head online None = refl
by_entry-want k want desired tail head online (Some c) =
    elim (cases_Bool (c == desired)) [
      | inl s ↦ rw s refl
      | inr s ↦ elim (cases_Bool (online c)) [
        | inl o ↦ elim (cases_Bool (has_reached (head c) tail 0)) [
          | inl p ↦ rw (s, o, p) refl
          | inr p ↦ rw (s, o, p) refl
        ]
        | inr o ↦ rw (s, o) refl
      ]
    ]

-- the reply that is weighed next is to the packet that the transmit hop weighs next
pub in_reply-is : (m : Machine) (a : ℕ) → length (choices_of m.tx a) < taken_of m.tx a
    → StepInvariant m
    → next_of m.tx a ≡ (in_reply m a).id
in_reply-is m a more k =
    let n : ℕ = length (choices_of m.tx a) in
    let came = k.replied.came a in
    let upto = k.tx.sound.hands.arrived a in
    let long : length (arrivals_of m.tx a) ≡ length (sent_of m a) =
    ap length came ∙ length-map (sent_of m a) (λ s. s.id) in
    ap (λ l. slice_index l n) came
    ∙ get_or-map (λ s. s.id) (sent_of m a) n nothing_sent 0 (omega (arith, more, upto, long))

recorded-chose : (m : Machine) (a class pick : ℕ)
    → class ≡ flow_number_of m.setup (next_of m.tx a) → IsRecorded m
    → IsRecorded
    (record m { tx = chose m.tx a (choice_of m.tx a (Some class) (Some pick) pick everyone) })
recorded-chose m a class pick is r =
    let c : Choice = choice_of m.tx a (Some class) (Some pick) pick everyone in
    let d : Chosen = record { id = next_of m.tx a; choice = c } in
    let kind : c.class ≡ Some class = by_entry-class class (Some pick) pick _ _ _ _ in
    let want : c.want ≡ Some pick = by_entry-want class (Some pick) pick _ _ _ _ in
    assumption (
      all-pushed (λ _ e. e.choice.class ≡ Some (packet_at m.setup.packets e.id).flow_number)
          m.tx.choices a d (kind ∙ ap (λ n. Some n) is) r.weighed.class,
      all-pushed (λ _ e. IsSome e.choice.want) m.tx.choices a d (ap is_some want) r.weighed.want,
    )

pub recorded-tweigh : (m : Machine) (a : ℕ) → StepInvariant m → IsRecorded m → IsRecorded
    (tweigh m a).0
recorded-tweigh m a k r =
    let s : Sent = in_reply m a in
    by_cases (λ t. IsRecorded (record m { tx = t })) m.tx (sending m a s) r
    (λ _ more. recorded-chose m a (flow_number_of m.setup s.id) (pick_for m s)
    (ap (flow_number_of m.setup) (sym (in_reply-is m a more k))) r)

pub recorded-tput : (m : Machine) (a : ℕ) → IsRecorded m → IsRecorded (tput m a).0
recorded-tput m a r = recorded-tx m (event.Put a (packet_hash m.setup (last_chosen m.tx a).id)) refl
    r
