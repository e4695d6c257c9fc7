-- A step of one event is done where all holds that it needs, and else idle for the first reason.
use Rattle.std.proofs.Common.{ℕ, ◌+◌, ◌%◌, ◌≤◌, ◌≡◌, Bool, true, false, [], ◌∷◌, Option, Some, None}
use Rattle.std.proofs.Common.{length, refl, ap, ◌∙◌, sym, arith, inl, inr}
use Rattle.std.specs.Prelude.{if◌then◌else◌, ◌&&◌, ◌||◌, is_some, nat_lt, not, unwrap_or}
use Rattle.std.proofs.lemmas.Bool.{cases_lt, false≢true, le-ltb, lt-ltb}
use Rattle.steer_base.specs.Choices.{desired_cpu}
use Rattle.steer_base.specs.declared.command.Answer.{Answer}
use Rattle.steer_base.specs.declared.command.Answer.TheVariants as says
use Rattle.steer_base.specs.declared.filter.Filter.{Filter}
use Rattle.steer_base.specs.declared.idle.Idle.{Idle}
use Rattle.steer_base.specs.declared.idle.Idle.TheVariants as idle
use Rattle.steer_base.specs.declared.step.Step.{Step}
use Rattle.steer_base.specs.declared.step.Step.TheVariants as act
use Rattle.hop_model.specs.declared.event.HopAnswer.{HopAnswer}
use Rattle.hop_model.specs.declared.event.HopEvent.TheVariants as event
use Rattle.hop_model.specs.Events.{Outcome as HopOutcome, happens}
use Rattle.hop_model.specs.Hop.{HopState, accepted_at, arrivals_of, choices_of, delivered_at}
use Rattle.hop_model.specs.Hop.{inside_of, next_of, placed_of, pulled_at, retired_at, taken_of}
use Rattle.steer_model.specs.Steps.Applications.{in_lane, next_in, record_by, send_by}
use Rattle.steer_model.specs.Steps.Applications.{visited, wrote}
use Rattle.steer_model.specs.State.Machine.{Machine, last_chosen, note_of}
use Rattle.steer_model.specs.State.Notes.{is_asking, is_nothing}
use Rattle.steer_model.specs.Steps.Outcomes.{StepOutcome, by_rx, told}
use Rattle.steer_model.specs.Steps.Pollers.{ask_by, look_by, put_position, poller_after_put}
use Rattle.steer_model.specs.Steps.Pollers.{putting, weigh_by}
use Rattle.step_laws.specs.IdleReasons.{AreStaged, IsStaged, Need, Stage, answer_by_needs}
use Rattle.step_laws.specs.IdleReasons.{deliver_needs, is_at, needs}
use Rattle.step_laws.specs.IdleReasons.{poller_stage, pull_needs, puts_next, retire_needs}
use Rattle.step_laws.specs.IdleReasons.{sender_stage, weighs_next}
use Rattle.step_laws.specs.IdleReasons as stage
use Rattle.steer_model.specs.State.Settings.{class_at, plain_lane}
use Rattle.steer_model.specs.State.Setup.{app_for, flow_hash, packet_hash}
use Rattle.steer_model.specs.Steps.SingleSteps.{is_command, simple}
use Rattle.steer_model.specs.declared.note.Note.{Note}
use Rattle.steer_model.specs.declared.note.Note.TheVariants as note
use Rattle.step_laws.proofs.IdleLemmas.{weighs}

-- ---- at most one in hand

both-of : (a b c : ℕ) → a ≤ b → b ≤ c → nat_lt a c ≡ (nat_lt a b || nat_lt b c)
both-of a b c p q =
    elim (cases_lt a b) [
      | inl ab ↦ rw (lt-ltb a b ab, lt-ltb a c (omega arith)) refl
      | inr ba ↦ elim (cases_lt b c) [
        | inl bc ↦ rw (le-ltb a b ba, lt-ltb b c bc, lt-ltb a c (omega arith)) refl
        | inr cb ↦ rw (le-ltb a b ba, le-ltb b c cb, le-ltb a c (omega arith)) refl
      ]
    ]

one-of : (a b c : ℕ) → a ≤ b → b ≤ c → c ≤ a + 1 → (nat_lt a b && nat_lt b c) ≡ false
one-of a b c p q r =
    elim (cases_lt a b) [
      | inl ab ↦ rw (lt-ltb a b ab, le-ltb b c (omega arith)) refl
      | inr ba ↦ rw (le-ltb a b ba) refl
    ]

-- ---- the answers of a hop

-- an answer where a test holds, and another one elsewhere
abbrev either : Bool → Answer → Answer → Answer
either b x y = if b then x else y

two : (b c : Bool) (x y z : HopOutcome)
    → told (if b then x else (if c then y else z)).1
    ≡ either b (told x.1) (either c (told y.1) (told z.1))
two true c x y z = refl
two false true x y z = refl
two false false x y z = refl

one-if : (b : Bool) (x y : StepOutcome) → (if b then x else y).1 ≡ either b x.1 y.1
one-if true x y = refl
one-if false x y = refl

take-hop : (s : HopState) (p : ℕ)
    → told (happens s (event.Take p)).1
    ≡ either (nat_lt (placed_of s p) (taken_of s p)) (says.Idle idle.HandFull)
    (either (nat_lt (taken_of s p) (length (arrivals_of s p))) says.Done (says.Idle idle.RingEmpty))
take-hop s p =
    two (nat_lt (placed_of s p) (taken_of s p)) (nat_lt (taken_of s p) (length (arrivals_of s p))) _
    _ _

enter-hop : (s : HopState) (a : ℕ)
    → told (happens s (event.Enter a)).1 ≡ answer_by_needs
    ((not (inside_of s a), idle.AlreadyInside)
    ∷ [])
enter-hop s a = two (inside_of s a) s.bare.closed _ _ _ ∙ entered (inside_of s a) s.bare.closed
  where
    entered : (i c : Bool)
        → either i (says.Idle idle.AlreadyInside) (either c says.Done says.Done)
        ≡ answer_by_needs ((not i, idle.AlreadyInside) ∷ [])
    entered true c = refl
    entered false true = refl
    entered false false = refl

leave-hop : (s : HopState) (a : ℕ)
    → told (happens s (event.Leave a)).1
    ≡ either (not (inside_of s a)) (says.Idle idle.NotInside)
    (either (puts_next s a) (says.Idle idle.MidPacket) says.Done)
leave-hop s a = two (not (inside_of s a)) (puts_next s a) _ _ _

put-hop : (s : HopState) (p : ℕ) (hash : Option ℕ)
    → told (happens s (event.Put p hash)).1
    ≡ either (not (inside_of s p)) (says.Idle idle.NotInside)
    (either (puts_next s p) says.Done (says.Idle idle.WrongStage))
put-hop s p hash = two (not (inside_of s p)) (puts_next s p) _ _ _

-- ---- a lane: f is whether it has a packet to deliver, d whether it has one to retire

pull-row : (f d c : Bool)
    → either (d || f) (says.Idle idle.HandFull) (either c says.Done (says.Idle idle.NothingWaiting))
    ≡ answer_by_needs ((is_at (stage.lane_stage f d) stage.Empty, idle.HandFull)
    ∷ (c, idle.NothingWaiting) ∷ [])
pull-row true true c = refl
pull-row true false c = refl
pull-row false true c = refl
pull-row false false true = refl
pull-row false false false = refl

deliver-row : (f d : Bool)
    → either f says.Done (either d (says.Idle idle.AlreadyDelivered) (says.Idle idle.HandEmpty))
    ≡ answer_by_needs
    ((not (is_at (stage.lane_stage f d) stage.Empty), idle.HandEmpty)
    ∷ (is_at (stage.lane_stage f d) stage.Full, idle.AlreadyDelivered) ∷ [])
deliver-row true d = refl
deliver-row false true = refl
deliver-row false false = refl

retire-row : (f d : Bool) → (d && f) ≡ false
    → either d says.Done (either f (says.Idle idle.NotDelivered) (says.Idle idle.HandEmpty))
    ≡ answer_by_needs
    ((not (is_at (stage.lane_stage f d) stage.Empty), idle.HandEmpty)
    ∷ (is_at (stage.lane_stage f d) stage.Delivered, idle.NotDelivered) ∷ [])
retire-row true true e = absurd (false≢true (sym e))
retire-row true false e = refl
retire-row false true e = refl
retire-row false false e = refl

pull-lane : (s : HopState) (c : ℕ) → IsStaged s
    → told (happens s (event.Pull c)).1 ≡ answer_by_needs (pull_needs s.bare c)
pull-lane s c st =
    let P : ℕ = pulled_at s.bare c in
    let D : ℕ = delivered_at s.bare c in
    let R : ℕ = retired_at s.bare c in
    let waits : Bool = nat_lt P (length (accepted_at s.bare c)) in
    two (nat_lt R P) waits _ _ _
    ∙ ap (λ b. either b (says.Idle idle.HandFull)
    (either waits says.Done (says.Idle idle.NothingWaiting)))
    (both-of R D P (st.retired c) (st.delivered c))
    ∙ pull-row (nat_lt D P) (nat_lt R D) waits

deliver-lane : (s : HopState) (c o : ℕ)
    → told (happens s (event.Deliver c o)).1 ≡ answer_by_needs (deliver_needs s.bare c)
deliver-lane s c o =
    let full : Bool = nat_lt (delivered_at s.bare c) (pulled_at s.bare c) in
    let delivered : Bool = nat_lt (retired_at s.bare c) (delivered_at s.bare c) in
    two full delivered _ _ _ ∙ deliver-row full delivered

retire-lane : (s : HopState) (c : ℕ) → IsStaged s
    → told (happens s (event.Retire c)).1 ≡ answer_by_needs (retire_needs s.bare c)
retire-lane s c st =
    let full : Bool = nat_lt (delivered_at s.bare c) (pulled_at s.bare c) in
    let delivered : Bool = nat_lt (retired_at s.bare c) (delivered_at s.bare c) in
    two delivered full _ _ _
    ∙ retire-row full delivered
    (one-of (retired_at s.bare c) (delivered_at s.bare c) (pulled_at s.bare c) (st.retired c)
    (st.delivered c) (st.one_pulled c))

-- ---- a producer: t is whether it has a packet to weigh, w whether it has one to put

-- inside the gate with the hand at a stage
abbrev at_stage : Bool → Stage → Stage → Answer
at_stage i hand wanted =
    answer_by_needs ((i, idle.NotInside) ∷ (is_at hand wanted, idle.WrongStage) ∷ [])

abbrev may_leave : Bool → Stage → Stage → Answer
may_leave i hand other =
    answer_by_needs
    ((i, idle.NotInside)
    ∷ (is_at hand stage.Empty || is_at hand other, idle.MidPacket) ∷ [])

take-row : (n : Note) (t w c : Bool) → ((want : Option ℕ) → n ≡ note.Looked want → t ≡ true)
    → either (is_asking n) (says.Idle idle.HandFull)
    (either (w || t) (says.Idle idle.HandFull) (either c says.Done (says.Idle idle.RingEmpty)))
    ≡ answer_by_needs
    ((is_at (poller_stage n t w) stage.Empty, idle.HandFull) ∷ (c, idle.RingEmpty) ∷ [])
take-row note.Nothing t true c looked = refl
take-row note.Nothing true false c looked = refl
take-row note.Nothing false false true looked = refl
take-row note.Nothing false false false looked = refl
take-row (note.Asking filter) t w c looked = refl
take-row (note.Looked want) t true c looked = refl
take-row (note.Looked want) true false c looked = refl
take-row (note.Looked want) false false c looked = absurd (false≢true (looked want refl))

look-row : (n : Note) (i t w : Bool) → (w && t) ≡ false
    → either (not i) (says.Idle idle.NotInside)
    (either (is_nothing n) (either t says.Done (says.Idle idle.WrongStage))
    (says.Idle idle.WrongStage))
    ≡ at_stage i (poller_stage n t w) stage.Taken
look-row n false t w e = refl
look-row note.Nothing true true true e = absurd (false≢true (sym e))
look-row note.Nothing true false true e = refl
look-row note.Nothing true true false e = refl
look-row note.Nothing true false false e = refl
look-row (note.Looked want) true t w e = refl
look-row (note.Asking filter) true t w e = refl

put-row : (n : Note) (i t w : Bool) → (w && t) ≡ false
    → ((want : Option ℕ) → n ≡ note.Looked want → t ≡ true)
    → ((filter : Filter) → n ≡ note.Asking filter → w ≡ false)
    → either (not i) (says.Idle idle.NotInside) (either w says.Done (says.Idle idle.WrongStage))
    ≡ at_stage i (poller_stage n t w) stage.Weighed
put-row n false t w e looked asking = refl
put-row note.Nothing true t true e looked asking = refl
put-row note.Nothing true true false e looked asking = refl
put-row note.Nothing true false false e looked asking = refl
put-row (note.Looked want) true true true e looked asking = absurd (false≢true (sym e))
put-row (note.Looked want) true false true e looked asking = absurd (false≢true (looked want refl))
put-row (note.Looked want) true t false e looked asking = refl
put-row (note.Asking filter) true t true e looked asking =
    absurd (false≢true (sym (asking filter refl)))
put-row (note.Asking filter) true t false e looked asking = refl

leave-row : (n : Note) (i t w : Bool)
    → either (not i) (says.Idle idle.NotInside)
    (either (is_nothing n)
    (either (not i) (says.Idle idle.NotInside) (either w (says.Idle idle.MidPacket) says.Done))
    (says.Idle idle.MidPacket))
    ≡ may_leave i (poller_stage n t w) stage.Taken
leave-row n false t w = refl
leave-row note.Nothing true t true = refl
leave-row note.Nothing true true false = refl
leave-row note.Nothing true false false = refl
leave-row (note.Looked want) true t w = refl
leave-row (note.Asking filter) true t w = refl

tleave-row : (i t w : Bool)
    → either (not i) (says.Idle idle.NotInside) (either w (says.Idle idle.MidPacket) says.Done)
    ≡ may_leave i (sender_stage t w) stage.Sent
tleave-row false t w = refl
tleave-row true t true = refl
tleave-row true true false = refl
tleave-row true false false = refl

tweigh-row : (i t w : Bool) → (w && t) ≡ false
    → either (not i) (says.Idle idle.NotInside) (either t says.Done (says.Idle idle.WrongStage))
    ≡ at_stage i (sender_stage t w) stage.Sent
tweigh-row false t w e = refl
tweigh-row true true true e = absurd (false≢true (sym e))
tweigh-row true true false e = refl
tweigh-row true false true e = refl
tweigh-row true false false e = refl

tput-row : (i t w : Bool)
    → either (not i) (says.Idle idle.NotInside) (either w says.Done (says.Idle idle.WrongStage))
    ≡ at_stage i (sender_stage t w) stage.Weighed
tput-row false t w = refl
tput-row true t true = refl
tput-row true true false = refl
tput-row true false false = refl

send-row : (t w some : Bool)
    → either (w || t) (says.Idle idle.HandFull) (either some says.Done (says.Idle idle.InboxDone))
    ≡ answer_by_needs
    ((is_at (sender_stage t w) stage.Empty, idle.HandFull) ∷ (some, idle.InboxDone) ∷ [])
send-row t true some = refl
send-row true false some = refl
send-row false false true = refl
send-row false false false = refl

-- ---- the machine

look-answer : (m : Machine) (q x : ℕ) (t : Bool)
    → (look_by m q (if t then Some x else None)).1 ≡ either t says.Done (says.Idle idle.WrongStage)
look-answer m q x true = refl
look-answer m q x false = refl

put-answer : (m : Machine) (q : ℕ) (position : Option ℕ) (a : HopAnswer)
    → (poller_after_put m q position a).1 ≡ told a
put-answer m q (Some position) a = refl
put-answer m q None a = refl

weigh-answer : (m : Machine) (q x : ℕ) (n : Note) (t w : Bool) → inside_of m.rx q ≡ true
    → weighs_next m.rx q ≡ t → ((want : Option ℕ) → n ≡ note.Looked want → t ≡ true)
    → (weigh_by m q n (if t then Some x else None)).1
    ≡ either (is_at (poller_stage n t w) stage.Looked) says.Done (says.Idle idle.WrongStage)
weigh-answer m q x note.Nothing t true inside taken looked = refl
weigh-answer m q x note.Nothing true false inside taken looked = refl
weigh-answer m q x note.Nothing false false inside taken looked = refl
weigh-answer m q x (note.Asking filter) t w inside taken looked = refl
weigh-answer m q x (note.Looked want) false w inside taken looked =
    absurd (false≢true (looked want refl))
weigh-answer m q x (note.Looked want) true w inside taken looked =
    let class : Option ℕ = class_at m.setup m.settings q x in
    let desired : ℕ = desired_cpu class want m.settings.online
    (plain_lane m.setup m.settings q x) in
    weighs m.rx q class want desired m.settings.online inside taken

inside-if : (m : Machine) (i : Bool) (why : Idle) (y : StepOutcome) (r : Answer)
    → (i ≡ true → y.1 ≡ r)
    → (if not i then (m, says.Idle why) else y).1 ≡ either (not i) (says.Idle why) r
inside-if m true why y r e = e refl
inside-if m false why y r e = refl

stage-row : (i b : Bool)
    → either (not i) (says.Idle idle.NotInside) (either b says.Done (says.Idle idle.WrongStage))
    ≡ answer_by_needs ((i, idle.NotInside) ∷ (b, idle.WrongStage) ∷ [])
stage-row true b = refl
stage-row false b = refl

ask-answer : (m : Machine) (q : ℕ) (n : Note) (t w : Bool)
    → (ask_by m q n).1 ≡ either (is_at (poller_stage n t w) stage.Asking) says.Done
    (says.Idle idle.WrongStage)
ask-answer m q note.Nothing t true = refl
ask-answer m q note.Nothing true false = refl
ask-answer m q note.Nothing false false = refl
ask-answer m q (note.Looked want) t w = refl
ask-answer m q (note.Asking filter) t w = refl

send-answer : (m : Machine) (a : ℕ) (x : Option ℕ)
    → (send_by m a x).1 ≡ either (is_some x) says.Done (says.Idle idle.InboxDone)
send-answer m a (Some x) = refl
send-answer m a None = refl

recorded-answer : (m : Machine) (hash : Option (Option ℕ))
    → (record_by m hash).1
    ≡ answer_by_needs
    ((is_some hash, idle.NoFlow) ∷ (is_some (unwrap_or hash None), idle.NoHash)
    ∷ (nat_lt 0 (length m.socket), idle.NoTable) ∷ [])
recorded-answer m None = refl
recorded-answer m (Some None) = refl
recorded-answer m (Some (Some hash)) =
    one-if (nat_lt 0 (length m.socket)) (
      wrote (visited m (hash % m.setup.apps))
          (hash % m.setup.apps) hash,
      says.Done,
    ) _

-- a producer never has a packet to weigh and one to put, in this order of tests
one-packet : (s : HopState) (p : ℕ) → IsStaged s → (puts_next s p && weighs_next s p) ≡ false
one-packet s p st =
    one-of (placed_of s p) (length (choices_of s p)) (taken_of s p) (st.weighed p) (st.taken p)
    (st.one p)

-- a hand is full where it has a packet to put or to weigh
full-hand : (s : HopState) (p : ℕ) → IsStaged s
    → nat_lt (placed_of s p) (taken_of s p) ≡ (puts_next s p || weighs_next s p)
full-hand s p st = both-of (placed_of s p) (length (choices_of s p)) (taken_of s p) (st.weighed p)
    (st.taken p)

looked-weighs : (m : Machine) (q : ℕ) → AreStaged m
    → (want : Option ℕ) → note_of m q ≡ note.Looked want → weighs_next m.rx q ≡ true
looked-weighs m q st want e = lt-ltb (length (choices_of m.rx q)) (taken_of m.rx q)
    (st.looked q want e)

asking-put : (m : Machine) (q : ℕ) → AreStaged m
    → (filter : Filter) → note_of m q ≡ note.Asking filter → puts_next m.rx q ≡ false
asking-put m q st filter e =
    le-ltb (placed_of m.rx q) (length (choices_of m.rx q))
    (omega (arith, st.asking q filter e, st.rx.taken q))

pub idle_for_first_reason : (m : Machine) (s : Step) → AreStaged m → is_command s ≡ false
    → (simple m s).1 ≡ answer_by_needs (needs m s)
idle_for_first_reason m act.Arrive st alone =
    one-if (nat_lt (length m.arrivals) (length m.setup.packets)) _ _
idle_for_first_reason m (act.Take q) st alone =
    let n : Note = note_of m q in
    let ring : Bool = nat_lt (taken_of m.rx q) (length (arrivals_of m.rx q)) in
    one-if (is_asking n) (m, says.Idle idle.HandFull) (by_rx m (event.Take q))
    ∙ ap (either (is_asking n) (says.Idle idle.HandFull)) (take-hop m.rx q)
    ∙ ap (λ b. either (is_asking n) (says.Idle idle.HandFull)
    (either b (says.Idle idle.HandFull) (either ring says.Done (says.Idle idle.RingEmpty))))
    (full-hand m.rx q st.rx)
    ∙ take-row n (weighs_next m.rx q) (puts_next m.rx q) ring (looked-weighs m q st)
idle_for_first_reason m (act.Enter q) st alone = enter-hop m.rx q
idle_for_first_reason m (act.Look q) st alone =
    let n : Note = note_of m q in
    let i : Bool = inside_of m.rx q in
    inside-if m i idle.NotInside _
    (either (is_nothing n) (either (weighs_next m.rx q) says.Done (says.Idle idle.WrongStage))
    (says.Idle idle.WrongStage))
    (λ e. one-if (is_nothing n) _ _
    ∙ ap (λ r. either (is_nothing n) r (says.Idle idle.WrongStage))
    (look-answer m q (next_of m.rx q) (weighs_next m.rx q)))
    ∙ look-row n i (weighs_next m.rx q) (puts_next m.rx q) (one-packet m.rx q st.rx)
idle_for_first_reason m (act.Weigh q) st alone =
    inside-if m (inside_of m.rx q) idle.NotInside _ _
    (λ inside. weigh-answer m q (next_of m.rx q) (note_of m q) (weighs_next m.rx q)
    (puts_next m.rx q)
    inside refl (looked-weighs m q st))
    ∙ stage-row (inside_of m.rx q) _
idle_for_first_reason m (act.Put q) st alone =
    put-answer (by_rx m (putting m q)).0 q (put_position (happens m.rx (putting m q)).1)
    (happens m.rx (putting m q)).1
    ∙ put-hop m.rx q (packet_hash m.setup (last_chosen m.rx q).id)
    ∙ put-row (note_of m q) (inside_of m.rx q) (weighs_next m.rx q) (puts_next m.rx q)
    (one-packet m.rx q st.rx) (looked-weighs m q st) (asking-put m q st)
idle_for_first_reason m (act.Ask q) st alone =
    inside-if m (inside_of m.rx q) idle.NotInside _ _
    (λ inside. ask-answer m q (note_of m q) (weighs_next m.rx q) (puts_next m.rx q))
    ∙ stage-row (inside_of m.rx q) _
idle_for_first_reason m (act.Leave q) st alone =
    let n : Note = note_of m q in
    let i : Bool = inside_of m.rx q in
    inside-if m i idle.NotInside _
    (either (is_nothing n)
    (either (not i) (says.Idle idle.NotInside)
    (either (puts_next m.rx q) (says.Idle idle.MidPacket) says.Done))
    (says.Idle idle.MidPacket))
    (λ e. one-if (is_nothing n) (by_rx m (event.Leave q)) (m, says.Idle idle.MidPacket)
    ∙ ap (λ r. either (is_nothing n) r (says.Idle idle.MidPacket)) (leave-hop m.rx q))
    ∙ leave-row n i (weighs_next m.rx q) (puts_next m.rx q)
idle_for_first_reason m (act.Pull c) st alone = pull-lane m.rx c st.rx
idle_for_first_reason m (act.Deliver c) st alone =
    deliver-lane m.rx c (app_for m.setup (in_lane m.rx c))
idle_for_first_reason m (act.Retire c) st alone = retire-lane m.rx c st.rx
idle_for_first_reason m (act.Record flow) st alone = recorded-answer m (flow_hash m.setup flow)
idle_for_first_reason m (act.Send a) st alone =
    let some : Bool = is_some (next_in m a) in
    one-if (nat_lt (placed_of m.tx a) (taken_of m.tx a)) (m, says.Idle idle.HandFull)
    (send_by m a (next_in m a))
    ∙ ap (either (nat_lt (placed_of m.tx a) (taken_of m.tx a)) (says.Idle idle.HandFull))
    (send-answer m a (next_in m a))
    ∙ ap (λ b. either b (says.Idle idle.HandFull)
    (either some says.Done (says.Idle idle.InboxDone)))
    (full-hand m.tx a st.tx)
    ∙ send-row (weighs_next m.tx a) (puts_next m.tx a) some
idle_for_first_reason m (act.TEnter a) st alone = enter-hop m.tx a
idle_for_first_reason m (act.TLeave a) st alone =
    leave-hop m.tx a ∙ tleave-row (inside_of m.tx a) (weighs_next m.tx a) (puts_next m.tx a)
idle_for_first_reason m (act.TWeigh a) st alone =
    two (not (inside_of m.tx a)) (weighs_next m.tx a) _ _ _
    ∙ tweigh-row (inside_of m.tx a) (weighs_next m.tx a) (puts_next m.tx a)
    (one-packet m.tx a st.tx)
idle_for_first_reason m (act.TPut a) st alone =
    put-hop m.tx a (packet_hash m.setup (last_chosen m.tx a).id)
    ∙ tput-row (inside_of m.tx a) (weighs_next m.tx a) (puts_next m.tx a)
idle_for_first_reason m (act.TPull t) st alone = pull-lane m.tx t st.tx
idle_for_first_reason m (act.TDeliver t) st alone = deliver-lane m.tx t 0
idle_for_first_reason m (act.TRetire t) st alone = retire-lane m.tx t st.tx
idle_for_first_reason m (act.Give c) st alone = cc
idle_for_first_reason m (act.Poll q) st alone = refl
idle_for_first_reason m (act.Drain c) st alone = refl
idle_for_first_reason m (act.Reply a) st alone = refl
idle_for_first_reason m (act.Serve a) st alone = refl
idle_for_first_reason m (act.Ship t) st alone = refl
idle_for_first_reason m act.Sweep st alone = refl
