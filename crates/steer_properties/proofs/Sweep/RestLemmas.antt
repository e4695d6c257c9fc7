-- Where all work of an actor is idle, the actor rests.
use Rattle.std.proofs.Common.{ℕ, ◌≤◌, ◌≡◌, Bool, true, false, not, List, [], ◌∷◌, length, refl, ap}
use Rattle.std.proofs.Common.{◌∙◌, map, sym, subst, arith, inl, inr, suc, zero}
use Rattle.std.specs.Prelude.{is_some, nat_lt, slice_get}
use Rattle.std.proofs.lemmas.Bool.{cases_Bool, ltb-false}
use Rattle.std.proofs.Math.ListN.{length-map}
use Rattle.steer_base.specs.declared.step.Step.{Step}
use Rattle.steer_base.specs.declared.step.Step.TheVariants as act
use Rattle.hop_model.specs.Events.{IsEmptied}
use Rattle.hop_model.specs.Hop.{HopState, accepted_at, arrivals_of, choices_of, delivered_at}
use Rattle.hop_model.specs.Hop.{inside_of, out_at, placed_of, pulled_at, retired_at, taken_of}
use Rattle.hop_model.specs.Sound.{Sound}
use Rattle.steer_model.specs.Steps.Applications.{next_in, sent_of}
use Rattle.steer_model.specs.State.Machine.{Machine, note_of}
use Rattle.step_laws.specs.IdleReasons.{AreStaged, IsStaged, Need, Stage, answer_by_needs}
use Rattle.step_laws.specs.IdleReasons.{is_at}
use Rattle.step_laws.specs.IdleReasons.{lane_hand}
use Rattle.step_laws.specs.IdleReasons.{lane_stage, needs, poller_hand, poller_stage}
use Rattle.step_laws.specs.IdleReasons.{puts_next}
use Rattle.step_laws.specs.IdleReasons.{sender_hand, sender_stage, weighs_next}
use Rattle.step_laws.specs.IdleReasons as stage
use Rattle.steer_model.specs.Steps.SingleSteps.{is_command, is_idle, simple}
use Rattle.steer_model.specs.Steps.CompoundSteps.{drain_one, ship_one}
use Rattle.steer_model.specs.declared.note.Note.{Note}
use Rattle.steer_model.specs.declared.note.Note.TheVariants as note
use Rattle.step_laws.proofs.ReasonLemmas.{idle_for_first_reason}
use Rattle.steer_invariant.specs.StepInvariant.{StepInvariant}
use Rattle.steer_invariant.specs.HopInvariants.{IsNoted}
use Rattle.steer_properties.specs.Sweep.Rest.{PollerRests, SenderRests}
use Rattle.steer_properties.proofs.Sweep.IdleTurnLemmas.{AreIdle}
use Rattle.steer_invariant.proofs.PrefixLemmas.{prefix-length}

-- ---- hands have at most one packet

staged-hop : (s : HopState) → Sound s → IsStaged s
staged-hop s h =
    let w = h.wide in
    assumption (w.placed ∙ sym w.choices)

pub staged : (m : Machine) → StepInvariant m → AreStaged m
staged m k =
    record {
      rx = staged-hop m.rx k.rx.sound;
      tx = staged-hop m.tx k.tx.sound;
      looked = λ q want e. subst (λ (n : Note). IsNoted m.rx q n) e (k.noted q);
      asking = λ q filter e. subst (λ (n : Note). IsNoted m.rx q n) e (k.noted q);
    }

-- ---- what an idle step lacked

one-lacks : (need : Need) → is_idle (answer_by_needs (need ∷ [])) ≡ true → need.0 ≡ false
one-lacks need idle =
    elim (cases_Bool need.0) [
      | inl e ↦ absurd (let f : is_idle (answer_by_needs (need ∷ [])) ≡ false = rw e refl in
          let g : true ≡ false = sym idle ∙ f in cc)
      | inr e ↦ e
    ]

second-lacks : (need next : Need) → is_idle (answer_by_needs (need ∷ next ∷ [])) ≡ true
    → need.0 ≡ true
    → next.0 ≡ false
second-lacks need next idle e =
    one-lacks next
    (let f : is_idle (answer_by_needs (need ∷ next ∷ [])) ≡ is_idle (answer_by_needs (next ∷ [])) =
    rw e refl in
    sym f ∙ idle)

-- the answer by the reasons
by-reasons : (m : Machine) (s : Step) → StepInvariant m → is_command s ≡ false
    → is_idle (simple m s).1 ≡ true → is_idle (answer_by_needs (needs m s)) ≡ true
by-reasons m s k event idle =
    ap is_idle (sym (idle_for_first_reason m s (staged m k) event)) ∙ idle

-- ---- a poller

-- a hand that is at none of the other stages is empty
poller-empty : (n : Note) (weighs puts : Bool)
    → is_at (poller_stage n weighs puts) stage.Taken ≡ false
    → is_at (poller_stage n weighs puts) stage.Looked ≡ false
    → is_at (poller_stage n weighs puts) stage.Weighed ≡ false
    → is_at (poller_stage n weighs puts) stage.Asking ≡ false
    → (n ≡ note.Nothing) × (weighs ≡ false) × (puts ≡ false) × (is_at
    (poller_stage n weighs puts) stage.Empty ≡ true)
poller-empty (note.Looked want) weighs puts a b c d = absurd (cc)
poller-empty (note.Asking filter) weighs puts a b c d = absurd (cc)
poller-empty note.Nothing weighs true a b c d = absurd (cc)
poller-empty note.Nothing true false a b c d = absurd (cc)
poller-empty note.Nothing false false a b c d = (refl, refl, refl, refl)

pub poller-rests : (m : Machine) (q : ℕ) → StepInvariant m → inside_of m.rx q ≡ true
    → AreIdle m (act.Take q ∷ act.Look q ∷ act.Weigh q ∷ act.Put q ∷ act.Ask q ∷ [])
    → PollerRests q m
poller-rests m q k inside idle =
    let h = k.rx.sound.hands in
    let take = by-reasons m (act.Take q) k refl idle.0 in
    let look = second-lacks _ _ (by-reasons m (act.Look q) k refl idle.1.0) inside in
    let weigh = second-lacks _ _ (by-reasons m (act.Weigh q) k refl idle.1.1.0) inside in
    let put = second-lacks _ _ (by-reasons m (act.Put q) k refl idle.1.1.1.0) inside in
    let ask = second-lacks _ _ (by-reasons m (act.Ask q) k refl idle.1.1.1.1.0) inside in
    let e = poller-empty (note_of m q) (weighs_next m.rx q) (puts_next m.rx q) look weigh put ask in
    let ring = second-lacks _ _ take e.3 in
    let all : length (arrivals_of m.rx q) ≤ taken_of m.rx q = ltb-false _ _ ring in
    let weighed : taken_of m.rx q ≤ length (choices_of m.rx q) = ltb-false _ _ e.1 in
    let landed : length (choices_of m.rx q) ≤ placed_of m.rx q = ltb-false _ _ e.2 in
    let a = h.put q in let b = h.chosen q in let c = h.arrived q in
    record { put = omega (arith, all, weighed, landed, a, b, c); quiet = e.0 }

-- ---- an application

sender-empty : (weighs puts : Bool) → is_at (sender_stage weighs puts) stage.Sent ≡ false
    → is_at (sender_stage weighs puts) stage.Weighed ≡ false
    → (weighs ≡ false) × (puts ≡ false) × (is_at (sender_stage weighs puts) stage.Empty ≡ true)
sender-empty weighs true a b = absurd (cc)
sender-empty true false a b = absurd (cc)
sender-empty false false a b = (refl, refl, refl)

past-end : (xs : List ℕ) (n : ℕ) → is_some (slice_get xs n) ≡ false → length xs ≤ n
past-end [] n e = omega arith
past-end (x ∷ xs) zero e = absurd (cc)
past-end (x ∷ xs) (suc n) e = let i = past-end xs n e in omega (arith, i)

pub sender-rests : (m : Machine) (a : ℕ) → StepInvariant m → inside_of m.tx a ≡ true
    → AreIdle m (act.Send a ∷ act.TWeigh a ∷ act.TPut a ∷ []) → SenderRests a m
sender-rests m a k inside idle =
    let h = k.tx.sound.hands in
    let send = by-reasons m (act.Send a) k refl idle.0 in
    let weigh = second-lacks _ _ (by-reasons m (act.TWeigh a) k refl idle.1.0) inside in
    let put = second-lacks _ _ (by-reasons m (act.TPut a) k refl idle.1.1.0) inside in
    let e = sender-empty (weighs_next m.tx a) (puts_next m.tx a) weigh put in
    let none : is_some (next_in m a) ≡ false = second-lacks _ _ send e.2 in
    let all : length (out_at m.rx.bare a) ≤ length (sent_of m a) =
    past-end (out_at m.rx.bare a) (length (sent_of m a)) none in
    let weighed : taken_of m.tx a ≤ length (choices_of m.tx a) = ltb-false _ _ e.0 in
    let landed : length (choices_of m.tx a) ≤ placed_of m.tx a = ltb-false _ _ e.1 in
    let b = h.put a in let c = h.chosen a in let d = h.arrived a in
    let upto =
    prefix-length (map (λ s. s.id) (sent_of m a)) (out_at m.rx.bare a) (k.replied.first a) in
    let long = length-map (sent_of m a) (λ s. s.id) in
    let taken = k.taken a in
    record {
      begun = omega (arith, all, upto, long);
      put =
          omega (arith, weighed, landed, b, c, d, taken);
    }

-- ---- a lane

lane-empty : (delivers retires : Bool)
    → (not (is_at (lane_stage delivers retires) stage.Empty) ≡ true
    → is_at (lane_stage delivers retires) stage.Full ≡ false)
    → (not (is_at (lane_stage delivers retires) stage.Empty) ≡ true
    → is_at (lane_stage delivers retires) stage.Delivered ≡ false)
    → (delivers ≡ false) × (retires ≡ false) × (is_at
    (lane_stage delivers retires) stage.Empty ≡ true)
lane-empty true retires a b = absurd (let f : true ≡ false = a refl in cc)
lane-empty false true a b = absurd (let f : true ≡ false = b refl in cc)
lane-empty false false a b = (refl, refl, refl)

retired-all : (s : HopState) (c : ℕ) → Sound s → length (accepted_at s.bare c) ≤ pulled_at s.bare c
    → pulled_at s.bare c ≤ delivered_at s.bare c → delivered_at s.bare c ≤ retired_at s.bare c
    → IsEmptied s.bare c
retired-all s c h all pulled delivered =
    let a = h.counts.retired_first c in let b = h.counts.delivered_first c in
    let d = h.counts.pulled_first c in
    omega (arith, all, pulled, delivered, a, b, d)

pub lane-rests : (m : Machine) (c : ℕ) → StepInvariant m → AreIdle m (drain_one c)
    → IsEmptied m.rx.bare c
lane-rests m c k idle =
    let pull = by-reasons m (act.Pull c) k refl idle.0 in
    let deliver = second-lacks _ _ (by-reasons m (act.Deliver c) k refl idle.1.0) in
    let retire = second-lacks _ _ (by-reasons m (act.Retire c) k refl idle.1.1.0) in
    let e = lane-empty (nat_lt (delivered_at m.rx.bare c) (pulled_at m.rx.bare c))
    (nat_lt (retired_at m.rx.bare c) (delivered_at m.rx.bare c)) deliver retire in
    let none = second-lacks _ _ pull e.2 in
    retired-all m.rx c k.rx.sound (ltb-false _ _ none) (ltb-false _ _ e.0) (ltb-false _ _ e.1)

pub tx-rests : (m : Machine) (t : ℕ) → StepInvariant m → AreIdle m (ship_one t)
    → IsEmptied m.tx.bare t
tx-rests m t k idle =
    let pull = by-reasons m (act.TPull t) k refl idle.0 in
    let deliver = second-lacks _ _ (by-reasons m (act.TDeliver t) k refl idle.1.0) in
    let retire = second-lacks _ _ (by-reasons m (act.TRetire t) k refl idle.1.1.0) in
    let e = lane-empty (nat_lt (delivered_at m.tx.bare t) (pulled_at m.tx.bare t))
    (nat_lt (retired_at m.tx.bare t) (delivered_at m.tx.bare t)) deliver retire in
    let none = second-lacks _ _ pull e.2 in
    retired-all m.tx t k.tx.sound (ltb-false _ _ none) (ltb-false _ _ e.0) (ltb-false _ _ e.1)

-- ---- the wire

pub wire-rests : (m : Machine) → StepInvariant m → is_idle (simple m act.Arrive).1 ≡ true
    → length m.arrivals ≡ length m.setup.packets
wire-rests m k idle =
    let none = one-lacks _ (by-reasons m act.Arrive k refl idle) in
    let all : length m.setup.packets ≤ length m.arrivals = ltb-false _ _ none in
    let few = k.came.of_the_capture in omega (arith, all, few)
