-- How far the work of a machine has come: each work that a step does adds to it, and nothing takes
-- from it.
use Rattle.std.proofs.Common.{ℕ, ◌+◌, ◌≤◌, ◌<◌, ◌≡◌, true, false, not, cond, List, Option, Some}
use Rattle.std.proofs.Common.{None, length, refl, ap, ◌∙◌, sym, subst, arith, inl, inr}
use Rattle.std.specs.Prelude.{◌%◌, nat_lt, slice_set}
use Rattle.std.specs.List.{sum_by}
use Rattle.std.proofs.lemmas.Bool.{ltb-true}
use Rattle.std.proofs.lemmas.List.Sums.{sum_by-set}
use Rattle.steer_base.specs.declared.choice.Choice.{Choice}
use Rattle.steer_base.specs.declared.choice.Chosen.{Chosen}
use Rattle.steer_base.specs.declared.command.Answer.TheVariants as says
use Rattle.steer_base.specs.declared.idle.Idle.TheVariants as idle
use Rattle.steer_base.specs.declared.step.Step.{Step}
use Rattle.steer_base.specs.declared.step.Step.TheVariants as act
use Rattle.hop_model.specs.declared.event.HopAnswer.{HopAnswer}
use Rattle.hop_model.specs.declared.event.HopEvent.{HopEvent}
use Rattle.hop_model.specs.declared.event.HopEvent.TheVariants as event
use Rattle.hop_model.specs.Events.{MayAsk, Outcome as HopOutcome, happens}
use Rattle.hop_model.specs.Hop.{HopState, choices_of, inside_of, next_of, placed_of, taken_of}
use Rattle.hop_core.specs.Leaves.{Field, changes}
use Rattle.hop_model.specs.Reads.{to_weigh}
use Rattle.hop_model.specs.Sound.{Sound}
use Rattle.hop_core.specs.Work.{WasIdle, sum_of, total, work}
use Rattle.hop_core.specs.Work as hop
use Rattle.hop_core.proofs.AllSteps.{Sound-happens}
use Rattle.hop_core.proofs.Cases.{by_outcomes}
use Rattle.hop_core.proofs.Leaves.{each_leaves}
use Rattle.hop_core.proofs.Work.{work_goes_on, work_stays}
use Rattle.steer_model.specs.Steps.Applications.{in_lane, in_reply, next_in, record_by, send_by}
use Rattle.steer_model.specs.Steps.Applications.{sending}
use Rattle.steer_model.specs.Steps.Applications.{visited, wrote}
use Rattle.steer_model.specs.State.Machine.{Machine, last_chosen, note_of}
use Rattle.steer_model.specs.State.Notes.{asking, is_asking, is_nothing}
use Rattle.steer_model.specs.Steps.Outcomes.{StepOutcome, by_rx, by_tx, idle_step, told}
use Rattle.steer_model.specs.Steps.Pollers.{arrives, ask_by, filter_for, look_by, put_position}
use Rattle.steer_model.specs.Steps.Pollers.{poller_after_put}
use Rattle.steer_model.specs.Steps.Pollers.{putting, seen_by, weigh_by, weighing}
use Rattle.steer_model.specs.State.Setup.{app_for, flow_hash, packet_hash}
use Rattle.steer_model.specs.Steps.SingleSteps.{is_command, is_idle, is_work, simple}
use Rattle.steer_model.specs.declared.note.Note.{Note}
use Rattle.steer_model.specs.declared.note.Note.TheVariants as note
use Rattle.steer_invariant.specs.StepInvariant.{IsNamed, StepInvariant}
use Rattle.steer_invariant.specs.HopInvariants.{IsNoted}
use Rattle.steer_invariant.proofs.EitherLemmas.{either}
use Rattle.steer_invariant.proofs.Invariant.EventPremiseLemmas.{asks_rx, asks_tx}
use Rattle.steer_invariant.proofs.StepInvariant.ArrivalLemmas.{next_arrival}
use Rattle.steer_invariant.proofs.StepInvariant.SingleStepLemmas.{weighs-is}

-- what a poller's note adds to the work: asking for a filter comes before nothing, and a look after
-- it
abbrev pub note_weight : Note → ℕ
note_weight note.Nothing = 1
note_weight (note.Looked want) = 2
note_weight (note.Asking filter) = 0

-- the work of both hops, and that of the looks and of the filters that are asked for
abbrev pub weight : Machine → ℕ
weight m =
    work m.rx + work m.tx + (total m.rx.choices + sum_of m.rx.placed) + sum_by note_weight m.notes

-- work was done: the machine is further on
abbrev Further : Machine → StepOutcome → Type 0
Further m o = is_idle o.1 ≡ false → weight m + 1 ≤ weight o.0

-- ---- an event of a hop

hop-worked : (s : HopState) (e : HopEvent) → MayAsk s e → hop.event_is_work e ≡ true → Sound s
    → is_idle (told (happens s e).1) ≡ false → work (happens s e).0 ≡ work s + 1
hop-worked s e may on h busy =
    elim (work_goes_on s e may h on) [
      | inl more ↦ more
      | inr was ↦ absurd (
          let f : is_idle (told (happens s e).1) ≡ true =
          ap (λ (a : HopAnswer). is_idle (told a)) was.1 in
          let g : true ≡ false = sym f ∙ busy in cc)
    ]

-- an event of the receive hop that leaves choices and puts
rx-further : (m : Machine) (e : HopEvent) → MayAsk m.rx e → hop.event_is_work e ≡ true → Sound m.rx
    → changes e Field.choices ≡ false → changes e Field.placed ≡ false → Further m (by_rx m e)
rx-further m e may on h c p busy =
    let more = hop-worked m.rx e may on h busy in
    let choices = ap (λ (l : List (List Chosen)). total l) (each_leaves m.rx e Field.choices c) in
    let placed = ap (λ (l : List ℕ). sum_of l) (each_leaves m.rx e Field.placed p) in
    omega (arith, more, choices, placed)

tx-further : (m : Machine) (e : HopEvent) → MayAsk m.tx e → hop.event_is_work e ≡ true → Sound m.tx
    → Further m (by_tx m e)
tx-further m e may on h busy = let more = hop-worked m.tx e may on h busy in omega (arith, more)

-- idle outcomes
idle-further : (m : Machine) (o : StepOutcome) → is_idle o.1 ≡ true → Further m o
idle-further m o is busy = absurd (let f : true ≡ false = sym is ∙ busy in cc)

-- the parts of a hop's work but its choices and its puts
record SameParts (s t : HopState) : Type 0 where
  arrivals : total t.arrivals ≡ total s.arrivals
  taken : sum_of t.taken ≡ sum_of s.taken
  pulled : sum_of t.bare.pulled ≡ sum_of s.bare.pulled
  delivered : sum_of t.bare.delivered ≡ sum_of s.bare.delivered
  retired : sum_of t.bare.retired ≡ sum_of s.bare.retired

parts-same : (s : HopState) (e : HopEvent) → changes e Field.arrivals ≡ false
    → changes e Field.taken ≡ false → changes e Field.pulled ≡ false
    → changes e Field.delivered ≡ false → changes e Field.retired ≡ false
    → SameParts s (happens s e).0
parts-same s e a t p d r =
    record {
      arrivals = ap (λ (l : List (List ℕ)). total l) (each_leaves s e Field.arrivals a);
      taken = ap (λ (l : List ℕ). sum_of l) (each_leaves s e Field.taken t);
      pulled = ap (λ (l : List ℕ). sum_of l) (each_leaves s e Field.pulled p);
      delivered = ap (λ (l : List ℕ). sum_of l) (each_leaves s e Field.delivered d);
      retired = ap (λ (l : List ℕ). sum_of l) (each_leaves s e Field.retired r);
    }

-- where these are the same, work that was added is that of a choice or of a put
added-there : (s t : HopState) → SameParts s t → work t ≡ work s + 1
    → total t.choices + sum_of t.placed ≡ total s.choices + sum_of s.placed + 1
added-there s t same more =
    let a = same.arrivals in let b = same.taken in let c = same.pulled in let d = same.delivered in
    let e = same.retired in omega (arith, more, a, b, c, d, e)

-- ---- notes

noted-sum : (m : Machine) (q : ℕ) (n : Note) → q < length m.notes
    → sum_by note_weight (slice_set m.notes q n) + note_weight (note_of m q)
    ≡ sum_by note_weight m.notes + note_weight n
noted-sum m q n in' = sum_by-set note_weight m.notes q n note.Nothing in'

nothing-noted : (n : Note) → is_nothing n ≡ true → n ≡ note.Nothing
nothing-noted note.Nothing e = refl
nothing-noted (note.Looked want) e = absurd (cc)
nothing-noted (note.Asking filter) e = absurd (cc)

module _ (m : Machine) (k : StepInvariant m) where
  notes-long : (q : ℕ) → q < length m.setup.homes → q < length m.notes
  notes-long q lt = let l = k.lists in omega (arith, lt, l.notes_long)

  -- ---- the wire and the pollers

  arrive-further : Further m (simple m act.Arrive)
  arrive-further =
      let e : HopEvent = event.Arrive (next_arrival m).queue (length m.arrivals) in
      either (Further m) (nat_lt (length m.arrivals) (length m.setup.packets))
      (arrives m (next_arrival m), says.Done)
      (idle_step m idle.NothingLeft)
      (λ few busy. (
      let more = hop-worked m.rx e ((asks_rx m k).arrive (ltb-true _ _ few)) refl k.rx.sound refl in
      let choices =
      ap (λ (l : List (List Chosen)). total l) (each_leaves m.rx e Field.choices refl) in
      let placed = ap (λ (l : List ℕ). sum_of l) (each_leaves m.rx e Field.placed refl) in
      omega (arith, more, choices, placed)))
      (λ none. idle-further m (idle_step m idle.NothingLeft) refl)

  take-further : (q : ℕ) → q < length m.setup.homes → Further m (simple m (act.Take q))
  take-further q lt =
      either (Further m) (is_asking (note_of m q)) (idle_step m idle.HandFull)
      (by_rx m (event.Take q))
      (λ asks. idle-further m (idle_step m idle.HandFull) refl)
      (λ quiet. rx-further m (event.Take q) ((asks_rx m k).take q lt) refl k.rx.sound refl refl)

  look-further : (q : ℕ) (x : Option ℕ) → q < length m.setup.homes → is_nothing (note_of m q) ≡ true
      → Further m (look_by m q x)
  look-further q None lt quiet = idle-further m (look_by m q None) refl
  look-further q (Some x) lt quiet =
      let sum = noted-sum m q (note.Looked (seen_by m q x)) (notes-long q lt) in
      let old : note_weight (note_of m q) ≡ 1 =
      ap (λ (n : Note). note_weight n) (nothing-noted (note_of m q) quiet) in
      λ busy. omega (arith, sum, old)

  weigh-further : (q : ℕ) (n : Note) (x : Option ℕ) → q < length m.setup.homes → note_of m q ≡ n
      → to_weigh m.rx q ≡ x → Further m (weigh_by m q n x)
  weigh-further q note.Nothing x lt is at = idle-further m (weigh_by m q note.Nothing x) refl
  weigh-further q (note.Asking filter) x lt is at =
      idle-further m (weigh_by m q (note.Asking filter) x) refl
  weigh-further q (note.Looked want) None lt is at =
      idle-further m (weigh_by m q (note.Looked want) None) refl
  weigh-further q (note.Looked want) (Some x) lt is at =
      λ busy. (
      let next : x ≡ next_of m.rx q = weighs-is m q x at in
      let e : HopEvent = weighing m q x want in
      let may : MayAsk m.rx e =
      subst (λ y. MayAsk m.rx (weighing m q y want)) (sym next) ((asks_rx m k).weigh q want lt) in
      let more = hop-worked m.rx e may refl k.rx.sound busy in
      let both =
      added-there m.rx (happens m.rx e).0 (parts-same m.rx e refl refl refl refl refl) more in
      let sum = noted-sum m q note.Nothing (notes-long q lt) in
      let old : note_weight (note_of m q) ≡ 2 = ap (λ (n : Note). note_weight n) is in
      omega (arith, more, both, sum, old))

  -- a poller that puts has not looked for the next packet
  old-note : (q : ℕ) (n : Note) → IsNoted m.rx q n → placed_of m.rx q < length (choices_of m.rx q)
      → note_weight n ≤ 1
  old-note q note.Nothing is more = omega arith
  old-note q (note.Asking filter) is more = omega arith
  old-note q (note.Looked want) is more =
      (let one = k.rx.sound.hands.one q in absurd (omega (arith, is, more, one)))

  put-enabled : (q : ℕ) (hash : Option ℕ)
      → is_idle (told (happens m.rx (event.Put q hash)).1) ≡ false
      → placed_of m.rx q < length (choices_of m.rx q)
  put-enabled q hash =
      by_outcomes
      (λ (o : HopOutcome).
      is_idle (told o.1) ≡ false → placed_of m.rx q < length (choices_of m.rx q))
      m.rx (event.Put q hash) (λ why busy. absurd (cc)) (λ inside more busy. more)

  put-further : (q : ℕ) (position : Option ℕ) → q < length m.setup.homes
      → Further m (poller_after_put (by_rx m (putting m q)).0 q position
      (happens m.rx (putting m q)).1)
  put-further q None lt busy =
      let e : HopEvent = putting m q in
      let hash : Option ℕ = packet_hash m.setup (last_chosen m.rx q).id in
      let more = hop-worked m.rx e ((asks_rx m k).put q hash lt) refl k.rx.sound busy in
      let both =
      added-there m.rx (happens m.rx e).0 (parts-same m.rx e refl refl refl refl refl) more in
      omega (arith, more, both)
  put-further q (Some position) lt busy =
      let e : HopEvent = putting m q in
      let hash : Option ℕ = packet_hash m.setup (last_chosen m.rx q).id in
      let choice : Choice = (last_chosen (by_rx m e).0.rx q).choice in
      let new : Note = asking (filter_for m.setup.homes (length m.filters) choice position) in
      let more = hop-worked m.rx e ((asks_rx m k).put q hash lt) refl k.rx.sound busy in
      let both =
      added-there m.rx (happens m.rx e).0 (parts-same m.rx e refl refl refl refl refl) more in
      let sum = noted-sum m q new (notes-long q lt) in
      let old = old-note q (note_of m q) (k.noted q) (put-enabled q hash busy) in
      omega (arith, more, both, sum, old)

  ask-further : (q : ℕ) (n : Note) → q < length m.setup.homes → note_of m q ≡ n
      → Further m (ask_by m q n)
  ask-further q note.Nothing lt is = idle-further m (ask_by m q note.Nothing) refl
  ask-further q (note.Looked want) lt is = idle-further m (ask_by m q (note.Looked want)) refl
  ask-further q (note.Asking filter) lt is =
      λ busy. (
      let sum = noted-sum m q note.Nothing (notes-long q lt) in
      let old : note_weight (note_of m q) ≡ 0 = ap (λ (n : Note). note_weight n) is in
      omega (arith, sum, old))

  -- ---- applications

  -- what is taken up, or not, takes nothing from the work
  taken-further : (s : HopState) (a : ℕ) → a < length s.arrivals → Sound s
      → work s ≤ work (happens s (event.Take a)).0
  taken-further s a lt h =
      elim (work_goes_on s (event.Take a) lt h refl) [
        | inl more ↦ omega (arith, more)
        | inr was ↦ (let e = ap (λ (t : HopState). work t) was.2 in omega (arith, e))
      ]

  send-further : (a : ℕ) (x : Option ℕ) → next_in m a ≡ x → a < m.setup.apps
      → Further m (send_by m a x)
  send-further a None is lt = idle-further m (send_by m a None) refl
  send-further a (Some x) is lt =
      λ busy. (
      let may = (asks_tx m k).send a x lt is in
      let s : HopState = (happens m.tx (event.Arrive a x)).0 in
      let first = hop-worked m.tx (event.Arrive a x) may.0 refl k.tx.sound refl in
      let second =
      taken-further s a may.1.0 (Sound-happens m.tx (event.Arrive a x) may.0 k.tx.sound) in
      omega (arith, first, second))

  -- ---- all that is work

  pub works-further : (s : Step) → IsNamed m.setup s → is_work s ≡ true → is_command s ≡ false
      → Further m (simple m s)
  works-further act.Arrive named on alone = arrive-further
  works-further (act.Take q) named on alone = take-further q (ltb-true _ _ named)
  works-further (act.Look q) named on alone =
      let rest : StepOutcome =
      cond (is_nothing (note_of m q)) (look_by m q (to_weigh m.rx q))
      (idle_step m idle.WrongStage) in
      either (Further m) (not (inside_of m.rx q)) (idle_step m idle.NotInside) rest
      (λ e. idle-further m (idle_step m idle.NotInside) refl)
      (λ e. either (Further m) (is_nothing (note_of m q)) (look_by m q (to_weigh m.rx q))
      (idle_step m idle.WrongStage)
      (λ quiet. look-further q (to_weigh m.rx q) (ltb-true _ _ named) quiet)
      (λ f. idle-further m (idle_step m idle.WrongStage) refl))
  works-further (act.Weigh q) named on alone =
      either (Further m) (not (inside_of m.rx q)) (idle_step m idle.NotInside)
      (weigh_by m q (note_of m q) (to_weigh m.rx q))
      (λ e. idle-further m (idle_step m idle.NotInside) refl)
      (λ e. weigh-further q (note_of m q) (to_weigh m.rx q) (ltb-true _ _ named) refl refl)
  works-further (act.Put q) named on alone =
      put-further q (put_position (happens m.rx (putting m q)).1) (ltb-true _ _ named)
  works-further (act.Ask q) named on alone =
      either (Further m) (not (inside_of m.rx q)) (idle_step m idle.NotInside)
      (ask_by m q (note_of m q))
      (λ e. idle-further m (idle_step m idle.NotInside) refl)
      (λ e. ask-further q (note_of m q) (ltb-true _ _ named) refl)
  works-further (act.Pull c) named on alone =
      rx-further m (event.Pull c)
      ((asks_rx m k).pull c (ltb-true _ _ named)) refl k.rx.sound refl refl
  works-further (act.Deliver c) named on alone =
      rx-further m (event.Deliver c (app_for m.setup (in_lane m.rx c)))
      ((asks_rx m k).deliver c (in_lane m.rx c) (ltb-true _ _ named)) refl k.rx.sound refl refl
  works-further (act.Retire c) named on alone =
      rx-further m (event.Retire c)
      ((asks_rx m k).retire c (ltb-true _ _ named)) refl k.rx.sound refl refl
  works-further (act.Send a) named on alone =
      either (Further m) (nat_lt (placed_of m.tx a) (taken_of m.tx a)) (idle_step m idle.HandFull)
      (send_by m a (next_in m a))
      (λ e. idle-further m (idle_step m idle.HandFull) refl)
      (λ e. send-further a (next_in m a) refl (ltb-true _ _ named))
  works-further (act.TWeigh a) named on alone =
      tx-further m (sending m a (in_reply m a))
      ((asks_tx m k).weigh a (in_reply m a) (ltb-true _ _ named)) refl k.tx.sound
  works-further (act.TPut a) named on alone =
      tx-further m (event.Put a (packet_hash m.setup (last_chosen m.tx a).id))
      ((asks_tx m k).put a (packet_hash m.setup (last_chosen m.tx a).id)
      (ltb-true _ _ named)) refl k.tx.sound
  works-further (act.TPull t) named on alone =
      tx-further m (event.Pull t) ((asks_tx m k).pull t (ltb-true _ _ named)) refl k.tx.sound
  works-further (act.TDeliver t) named on alone =
      tx-further m (event.Deliver t 0)
      ((asks_tx m k).deliver t (ltb-true _ _ named)) refl k.tx.sound
  works-further (act.TRetire t) named on alone =
      tx-further m (event.Retire t) ((asks_tx m k).retire t (ltb-true _ _ named)) refl k.tx.sound
  works-further (act.Enter q) named on alone = absurd (cc)
  works-further (act.Leave q) named on alone = absurd (cc)
  works-further (act.TEnter a) named on alone = absurd (cc)
  works-further (act.TLeave a) named on alone = absurd (cc)
  works-further (act.Record flow) named on alone = absurd (cc)
  works-further (act.Give c) named on alone = absurd (cc)
  works-further (act.Poll q) named on alone = idle-further m (simple m (act.Poll q)) refl
  works-further (act.Drain c) named on alone = idle-further m (simple m (act.Drain c)) refl
  works-further (act.Reply a) named on alone = idle-further m (simple m (act.Reply a)) refl
  works-further (act.Serve a) named on alone = idle-further m (simple m (act.Serve a)) refl
  works-further (act.Ship t) named on alone = idle-further m (simple m (act.Ship t)) refl
  works-further act.Sweep named on alone = idle-further m (simple m act.Sweep) refl

-- ---- what is no work

module _ (m : Machine) where
  abbrev AsFar : Machine → Type 0
  AsFar n = weight n ≡ weight m

  rx-rests : (n : Machine) (e : HopEvent) → hop.event_is_work e ≡ false
      → changes e Field.choices ≡ false
      → changes e Field.placed ≡ false → weight (by_rx n e).0 ≡ weight n
  rx-rests n e off c p =
      let same = work_stays n.rx e off in
      let choices = ap (λ (l : List (List Chosen)). total l) (each_leaves n.rx e Field.choices c) in
      let placed = ap (λ (l : List ℕ). sum_of l) (each_leaves n.rx e Field.placed p) in
      omega (arith, same, choices, placed)

  record-rests : (hash : Option (Option ℕ)) → AsFar (record_by m hash).0
  record-rests None = refl
  record-rests (Some None) = refl
  record-rests (Some (Some hash)) =
      let a : ℕ = hash % m.setup.apps in
      let g : ℕ = length m.setup.homes + a in
      let n : Machine = (by_rx m (event.Enter g)).0 in
      let first = rx-rests m (event.Enter g) refl refl refl in
      let second = rx-rests n (event.Leave g) refl refl refl in
      either (λ (o : StepOutcome). AsFar o.0) (nat_lt 0 (length m.socket))
      (wrote (visited m a) a hash, says.Done)
      (idle_step m idle.NoTable) (λ full. second ∙ first) (λ empty. refl)

  leave-rests : (q : ℕ) → AsFar (simple m (act.Leave q)).0
  leave-rests q =
      let out' : StepOutcome = by_rx m (event.Leave q) in
      let rest : StepOutcome = cond (is_nothing (note_of m q)) out' (idle_step m idle.MidPacket) in
      either (λ (o : StepOutcome). AsFar o.0) (not (inside_of m.rx q))
      (idle_step m idle.NotInside) rest
      (λ e. refl)
      (λ e. either (λ (o : StepOutcome). AsFar o.0) (is_nothing (note_of m q)) out'
      (idle_step m idle.MidPacket)
      (λ f. rx-rests m (event.Leave q) refl refl refl) (λ f. refl))

  tx-rests : (e : HopEvent) → hop.event_is_work e ≡ false → AsFar (by_tx m e).0
  tx-rests e off = let same = work_stays m.tx e off in omega (arith, same)

  pub rests-there : (s : Step) → is_work s ≡ false → AsFar (simple m s).0
  rests-there (act.Enter q) e = rx-rests m (event.Enter q) refl refl refl
  rests-there (act.Leave q) e = leave-rests q
  rests-there (act.TEnter a) e = tx-rests (event.Enter a) refl
  rests-there (act.TLeave a) e = tx-rests (event.Leave a) refl
  rests-there (act.Record flow) e = record-rests (flow_hash m.setup flow)
  rests-there _ e = absurd (cc)
