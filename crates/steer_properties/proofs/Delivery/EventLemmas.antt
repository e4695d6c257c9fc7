-- What each event of a hop keeps of the order of flows and of the causes of drops.
use Rattle.std.proofs.Common.{ℕ, ◌-◌, ◌<◌, ◌≡◌, Bool, true, List, [], ◌∷◌, Option, Some, length}
use Rattle.std.proofs.Common.{refl, ap, ◌∙◌, sym, arith, inl}
use Rattle.std.specs.Prelude.{◌==◌, nat_lt, slice_index}
use Rattle.std.proofs.lemmas.Bool.{and_parts, eqb-true, lt-ltb, ltb-true}
use Rattle.std.proofs.lemmas.List.Elements.{All-drop}
use Rattle.std.proofs.lemmas.Option.{unwrap_or-slice_get}
use Rattle.steer_base.specs.Apps.{app_of}
use Rattle.steer_base.specs.Choices.{class_of, rps_choice_of}
use Rattle.steer_base.specs.declared.choice.Chosen.{Chosen}
use Rattle.hop_model.specs.declared.event.HopEvent.{HopEvent}
use Rattle.hop_model.specs.declared.event.HopEvent.TheVariants as event
use Rattle.hop_model.specs.Events.{AllMayAsk, MayAsk, happens, run}
use Rattle.hop_core.specs.Flows.{FlowAllowed}
use Rattle.hop_model.specs.Hop.{Fixed, HopState, choices_of, chosen_at, delivered_at, in_hand}
use Rattle.hop_model.specs.Hop.{next_out, nobody, placed_of, pulled_at, since_of}
use Rattle.hop_core.specs.Laws.{IsHashed}
use Rattle.hop_core.specs.Settled.{AreAlike, SettledIn}
use Rattle.hop_model.specs.Sound.{Sound}
use Rattle.hop_core.proofs.AllSteps.{Sound-happens}
use Rattle.hop_core.proofs.BareEvents.{each_keeps_drops_rising}
use Rattle.hop_core.proofs.Drops.{each_explains_drops}
use Rattle.hop_core.proofs.Flows.{FlowOrdered-happens}
use Rattle.hop_core.proofs.Settled.{settled_allows_puts}
use Rattle.hop_core.proofs.Sizes.{Sizes-happens}
use Rattle.steer_model.specs.Steps.Applications.{in_lane}
use Rattle.steer_model.specs.State.Ranges.{IsGiven}
use Rattle.steer_model.specs.State.Machine.{last_chosen}
use Rattle.steer_model.specs.State.Settings.{Settings, class_at, mask_of, plain_lane}
use Rattle.steer_model.specs.State.Setup.{Setup, app_for, flow_number_of, packet_hash}
use Rattle.steer_properties.proofs.Delivery.HopDelivery.{DeliversRx, DeliversTx, is_of}
use Rattle.steer_invariant.specs.RecordedLists.{AreWeighed}

-- ---- packets of one flow

flow-same : (p : Setup) (x y : ℕ) → is_of p x y ≡ true → flow_number_of p y ≡ flow_number_of p x
flow-same p x y e =
    let w = and_parts (nat_lt y (length p.packets)) (flow_number_of p y == flow_number_of p x) e in
    eqb-true (flow_number_of p y) (flow_number_of p x) w.1

-- they have one hash, and so one application
pub hash-same : (p : Setup) (x y : ℕ) → IsGiven p → x < length p.packets → is_of p x y ≡ true
    → packet_hash p y ≡ packet_hash p x
hash-same p x y given lt e =
    let w = and_parts (nat_lt y (length p.packets)) (flow_number_of p y == flow_number_of p x) e in
    given.flows.one_hash y x (ltb-true y (length p.packets) w.0) lt (flow-same p x y e)

pub app-same : (p : Setup) (x y : ℕ) → IsGiven p → x < length p.packets → is_of p x y ≡ true
    → app_for p y ≡ app_for p x
app-same p x y given lt e =
    ap (λ (hash : Option ℕ). app_of hash p.apps) (hash-same p x y given lt e)

-- the settings treat them alike
alike : (p : Setup) (now : Settings) (q x : ℕ) → IsGiven p → x < length p.packets
    → AreAlike (class_at p now) (plain_lane p now) (is_of p x) q
alike p now q x given lt y z ey ez =
    let same : packet_hash p y ≡ packet_hash p z =
    hash-same p x y given lt ey ∙ sym (hash-same p x z given lt ez) in (
      ap (class_of (slice_index now.counts q)) same,
      ap (λ (hash : Option ℕ). rps_choice_of (mask_of now q) hash now.online
          (slice_index p.homes q)) same,
    )

-- ---- any event

pub rx-event : (p : Setup) (f : Fixed) (s : HopState) (e : HopEvent) → MayAsk s e → Sound s
    → ((q x : ℕ) → x < length p.packets → FlowAllowed (is_of p x) q (app_for p x) s e)
    → IsHashed (packet_hash p) s e → DeliversRx p f s → DeliversRx p f (happens s e).0
rx-event p f s e may h allowed hashed d =
    record {
      fixed = (Sizes-happens s e).fixed ∙ d.fixed;
      order = λ q x lt.
          FlowOrdered-happens (is_of p x) q (app_for p x) s e may h (allowed q x lt)
          (d.order q x lt);
      causes = each_explains_drops (packet_hash p) s e hashed h d.causes;
      counts = each_keeps_drops_rising s e may h d.counts;
    }

pub tx-event : (p : Setup) (s : HopState) (e : HopEvent) → MayAsk s e → Sound s
    → ((a x : ℕ) → x < length p.packets → FlowAllowed (is_of p x) a 0 s e)
    → DeliversTx p s → DeliversTx p (happens s e).0
tx-event p s e may h allowed d a x lt =
    FlowOrdered-happens (is_of p x) a 0 s e may h (allowed a x lt) (d a x lt)

-- ---- an event that neither puts nor delivers

abbrev pub IsPlain : HopEvent → Type 0
IsPlain (event.Put q hash) = ⊥
IsPlain (event.Deliver c o) = ⊥
IsPlain _ = Unit {0}

plain-allowed : (test : ℕ → Bool) (p o : ℕ) (s : HopState) (e : HopEvent) → IsPlain e
    → FlowAllowed test p o s e
plain-allowed test p o s (event.Arrive q x) plain = tt
plain-allowed test p o s (event.Take q) plain = tt
plain-allowed test p o s (event.Enter a) plain = tt
plain-allowed test p o s (event.Leave a) plain = tt
plain-allowed test p o s (event.Weigh q class want desired online) plain = tt
plain-allowed test p o s (event.Put q hash) plain = absurd plain
plain-allowed test p o s (event.Pull c) plain = tt
plain-allowed test p o s (event.Deliver c to) plain = absurd plain
plain-allowed test p o s (event.Retire c) plain = tt
plain-allowed test p o s (event.Resize q count) plain = tt
plain-allowed test p o s event.Close plain = tt
plain-allowed test p o s event.Reopen plain = tt

plain-hashed : (hash : ℕ → Option ℕ) (s : HopState) (e : HopEvent) → IsPlain e
    → IsHashed hash s e
plain-hashed hash s (event.Arrive q x) plain = tt
plain-hashed hash s (event.Take q) plain = tt
plain-hashed hash s (event.Enter a) plain = tt
plain-hashed hash s (event.Leave a) plain = tt
plain-hashed hash s (event.Weigh q class want desired online) plain = tt
plain-hashed hash s (event.Put q h) plain = absurd plain
plain-hashed hash s (event.Pull c) plain = tt
plain-hashed hash s (event.Deliver c to) plain = absurd plain
plain-hashed hash s (event.Retire c) plain = tt
plain-hashed hash s (event.Resize q count) plain = tt
plain-hashed hash s event.Close plain = tt
plain-hashed hash s event.Reopen plain = tt

pub rx-plain : (p : Setup) (f : Fixed) (s : HopState) (e : HopEvent) → IsPlain e → MayAsk s e
    → Sound s → DeliversRx p f s → DeliversRx p f (happens s e).0
rx-plain p f s e plain may h d =
    rx-event p f s e may h (λ q x lt. plain-allowed (is_of p x) q (app_for p x) s e plain)
    (plain-hashed (packet_hash p) s e plain) d

pub tx-plain : (p : Setup) (s : HopState) (e : HopEvent) → IsPlain e → MayAsk s e → Sound s
    → DeliversTx p s → DeliversTx p (happens s e).0
tx-plain p s e plain may h d =
    tx-event p s e may h (λ a x lt. plain-allowed (is_of p x) a 0 s e plain) d

abbrev pub ArePlain : List HopEvent → Type 0
ArePlain [] = Unit {0}
ArePlain (e ∷ es) = IsPlain e × ArePlain es

pub rx-run : (p : Setup) (f : Fixed) (es : List HopEvent) (s : HopState) → ArePlain es
    → AllMayAsk es s → Sound s → DeliversRx p f s → DeliversRx p f (run es s)
rx-run p f [] s plain may h d = d
rx-run p f (e ∷ es) s plain may h d =
    rx-run p f es (happens s e).0 plain.1 may.1 (Sound-happens s e may.0 h)
    (rx-plain p f s e plain.0 may.0 h d)

pub tx-run : (p : Setup) (es : List HopEvent) (s : HopState) → ArePlain es → AllMayAsk es s
    → Sound s → DeliversTx p s → DeliversTx p (run es s)
tx-run p [] s plain may h d = d
tx-run p (e ∷ es) s plain may h d =
    tx-run p es (happens s e).0 plain.1 may.1 (Sound-happens s e may.0 h)
    (tx-plain p s e plain.0 may.0 h d)

-- ---- a put of the receive hop

-- the last choice is the one in hand, where one is
pub last-hand : (s : HopState) (q : ℕ) → Sound s → placed_of s q < length (choices_of s q)
    → last_chosen s q ≡ in_hand s q
last-hand s q h more =
    let cs : List Chosen = choices_of s q in
    let chosen = h.hands.chosen q in let one = h.hands.one q in
    let at : length cs - 1 ≡ placed_of s q = omega (arith, chosen, one, more) in
    unwrap_or-slice_get cs (length cs - 1) nobody ∙ ap (chosen_at cs) at

pub rx-put : (p : Setup) (now : Settings) (f : Fixed) (s : HopState) (q : ℕ) → IsGiven p
    → MayAsk s (event.Put q (packet_hash p (last_chosen s q).id)) → Sound s
    → SettledIn (class_at p now) (plain_lane p now) s → DeliversRx p f s
    → DeliversRx p f (happens s (event.Put q (packet_hash p (last_chosen s q).id))).0
rx-put p now f s q given may h settled d =
    let hash : Option ℕ = packet_hash p (last_chosen s q).id in
    rx-event p f s (event.Put q hash) may h
    (λ r x lt. settled_allows_puts (class_at p now) (plain_lane p now) (is_of p x) r (app_for p x)
    q hash s (alike p now r x given lt) h settled)
    (λ more. ap (λ (c : Chosen). packet_hash p c.id) (last-hand s q h more)) d

-- ---- a delivery of the receive hop

pub rx-deliver : (p : Setup) (f : Fixed) (s : HopState) (c : ℕ) → IsGiven p
    → MayAsk s (event.Deliver c (app_for p (in_lane s c))) → Sound s → DeliversRx p f s
    → DeliversRx p f (happens s (event.Deliver c (app_for p (in_lane s c)))).0
rx-deliver p f s c given may h d =
    rx-event p f s (event.Deliver c (app_for p (in_lane s c))) may h
    (λ q x lt more e. (
    let test : nat_lt (delivered_at s.bare c) (pulled_at s.bare c) ≡ true = lt-ltb _ _ more in
    let is : in_lane s c ≡ next_out s.bare c = rw test refl in
    ap (app_for p) is ∙ app-same p x (next_out s.bare c) given lt e)) tt d

-- ---- a put of the transmit hop

pub tx-put : (p : Setup) (s : HopState) (a : ℕ) (hash : Option ℕ) → MayAsk s (event.Put a hash)
    → Sound s → AreWeighed p.packets (choices_of s) → DeliversTx p s
    → DeliversTx p (happens s (event.Put a hash)).0
tx-put p s a hash may h weighed d =
    tx-event p s (event.Put a hash) may h
    (λ b x lt own more e. inl (
      flow_number_of p x,
      λ i c in' of. (
          let class =
          All-drop (λ (k : Chosen). k.choice.class ≡ Some (flow_number_of p k.id)) (since_of s b)
          (choices_of s b) (weighed.class b) i c in' in
          class ∙ ap (λ n. Some n) (flow-same p x _ of)),
    )) d

pub tx-deliver : (p : Setup) (s : HopState) (t : ℕ) → MayAsk s (event.Deliver t 0) → Sound s
    → DeliversTx p s → DeliversTx p (happens s (event.Deliver t 0)).0
tx-deliver p s t may h d = tx-event p s (event.Deliver t 0) may h (λ a x lt more e. refl) d
