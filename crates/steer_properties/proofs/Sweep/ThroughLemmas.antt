-- In a machine at rest each packet of the capture went all its way.
use Rattle.std.proofs.Common.{ℕ, ◌<◌, ◌≡◌, ◌⊎◌, List, [], ◌∷◌, length, refl, ap, ◌∙◌, sym, subst}
use Rattle.std.proofs.Common.{arith, inl, inr, suc, zero, get_or, map}
use Rattle.std.specs.Prelude.{◌==◌, slice_index, slice_index_or}
use Rattle.std.specs.List.{Contains}
use Rattle.std.proofs.Math.ListN.{get_or-eq_default}
use Rattle.std.proofs.lemmas.Bool.{cases_Bool, cases_lt, eq-eqb}
use Rattle.std.proofs.lemmas.List.{get_or_default}
use Rattle.hop_model.specs.Events.{IsEmptied}
use Rattle.hop_model.specs.Hop.{HopState, accepted_at, arrivals_of, choices_of, chosen_at, fell_at}
use Rattle.hop_model.specs.Hop.{out_at, placed_of}
use Rattle.hop_core.specs.NothingLost.{IsInOutLane, NothingLost}
use Rattle.hop_model.specs.Sound.{Sound}
use Rattle.history.specs.Lists.{arrivals_at, no_arrival}
use Rattle.history.specs.declared.arrival.Arrival.{Arrival}
use Rattle.history.proofs.FoundAgain.Arrivals.{arrival-id}
use Rattle.steer_model.specs.State.Machine.{Machine}
use Rattle.steer_model.specs.State.Setup.{Setup}
use Rattle.steer_base.specs.declared.step.Step.TheVariants as act
use Rattle.steer_model.specs.Steps.CompoundSteps.{step}
use Rattle.steer_invariant.specs.StepInvariant.{StepInvariant}
use Rattle.steer_properties.specs.Sweep.Rest.{AtRest}
use Rattle.steer_properties.specs.Sweep.SweepLaws.{RestIsThrough, SweptIsThrough}
use Rattle.steer_invariant.proofs.StepInvariant.StepLemmas.{step_keeps_kept, step_keeps_setup}
use Rattle.steer_invariant.proofs.StepInvariant.ReplyLemmas.{begun-at, sent-long}
use Rattle.steer_properties.proofs.Sweep.SweepLemmas.{sweep_ends_at_rest}

-- ---- lists

-- a list of many that has a member is one of them
pub full-below : {X : Type 0} (ls : List (List X)) (p i : ℕ) → i < length (slice_index_or ls p [])
    → p < length ls
full-below ls p i lt =
    elim (cases_lt p (length ls)) [
      | inl below ↦ below
      | inr past ↦ absurd (
          let e = ap length (get_or-eq_default ls [] past) in omega (arith, lt, e))
    ]

-- a member with its place by default 0
pub place-of : (xs : List ℕ) (x : ℕ) → Contains xs x
    → (i : ℕ) × (i < length xs) × (slice_index xs i ≡ x)
place-of xs x c = (c.0, c.1, get_or_default xs c.0 0 x c.1 ∙ c.2)

-- an arrival stands in the list of its queue
in-queue : (arrivals : List Arrival) (j q : ℕ) → j < length arrivals
    → (get_or arrivals j no_arrival).queue ≡ q
    → (i : ℕ) × (i < length (arrivals_at arrivals q)) × (slice_index
    (arrivals_at arrivals q) i ≡ (get_or arrivals j no_arrival).id)
in-queue [] j q lt is = absurd (omega (arith, lt))
in-queue (a ∷ rest) zero q lt is =
    let f : arrivals_at (a ∷ rest) q ≡ a.id ∷ arrivals_at rest q = rw (eq-eqb a.queue q is) refl in
    (0, (let n = ap length f in omega (arith, n)), ap (λ l. slice_index l 0) f)
in-queue (a ∷ rest) (suc j) q lt is =
    let w = in-queue rest j q (omega (arith, lt)) is in
    let below = w.1 in
    elim (cases_Bool (a.queue == q)) [
      | inl t ↦
          let f : arrivals_at (a ∷ rest) q ≡ a.id ∷ arrivals_at rest q = rw t refl in (
            suc w.0,
            (let n = ap length f in
                omega (arith, n, below)),
            ap (λ l. slice_index l (suc w.0)) f ∙ w.2,
          )
      | inr t ↦
          let f : arrivals_at (a ∷ rest) q ≡ arrivals_at rest q = rw t refl in (
            w.0,
            (let n = ap length f in
                omega (arith, n, below)),
            ap (λ l. slice_index l w.0) f ∙ w.2,
          )
    ]

-- ---- a hop in which all is put and retired

through : (s : HopState) (p i x : ℕ) → Sound s → NothingLost s
    → placed_of s p ≡ length (arrivals_of s p)
    → ((c : ℕ) → c < length s.bare.accepted → IsEmptied s.bare c) → i < length (arrivals_of s p)
    → slice_index (arrivals_of s p) i ≡ x
    → ((c : ℕ) × Contains (fell_at s.bare c) x) ⊎ IsInOutLane (out_at s.bare) x
through s p i x h n put empty lt at =
    let le = h.hands.put p in
    let id : (chosen_at (choices_of s p) i).id ≡ x =
    h.hands.of_arrivals p i (omega (arith, lt, put, le)) ∙ at in
    let lane : ℕ = (chosen_at (choices_of s p) i).choice.lane in
    elim (n.put p i (omega (arith, lt, put))) [
      | inl accepted ↦ (
          let w = place-of (accepted_at s.bare lane) (chosen_at (choices_of s p) i).id accepted in
          let below = w.1 in
          let dry = empty lane (full-below s.bare.accepted lane w.0 below) in
          let first = h.counts.retired_first lane in
          inr (subst (IsInOutLane (out_at s.bare)) (w.2
          ∙ id) (n.delivered lane w.0 (omega (arith, below, dry, first)))))
      | inr fell ↦ inl (lane, subst (Contains (fell_at s.bare lane)) id fell)
    ]

-- ---- the machine

-- what arrived is in the ring of its queue
came-in : (m : Machine) (x : ℕ) → StepInvariant m → x < length m.arrivals
    → (q : ℕ) × (i : ℕ) × (i < length (arrivals_of m.rx q)) × (slice_index
    (arrivals_of m.rx q) i ≡ x)
came-in m x k lt =
    let q : ℕ = (get_or m.arrivals x no_arrival).queue in
    let w = in-queue m.arrivals x q lt refl in
    let first = arrival-id 0 x m.arrivals k.came.numbered lt in
    let id : (get_or m.arrivals x no_arrival).id ≡ x = omega (arith, first) in
    let own = k.came.own q in
    let below = w.1 in
    let n = ap length own in
    (q, w.0, omega (arith, below, n), ap (λ l. slice_index l w.0) own ∙ w.2 ∙ id)

-- a reply to what is in an inbox is at the port
pub ported : (m : Machine) (o i x : ℕ) → StepInvariant m → AtRest m → i < length
    (out_at m.rx.bare o)
    → slice_index (out_at m.rx.bare o) i ≡ x → Contains (out_at m.tx.bare 0) x
ported m o i x k r lt at =
    let z = k.rx.sizes in let y = k.tx.sizes in
    let app = full-below m.rx.bare.outs o i lt in
    let a = r.senders o (omega (arith, app, z.apps)) in
    let begun = a.begun in let long = sent-long m o k in
    let there : i < length (arrivals_of m.tx o) = omega (arith, lt, begun, long) in
    let same = (begun-at m o i k there).1 in
    elim (through m.tx o i x k.tx.sound k.tx.lossless a.put
    (λ t below. r.txs t (omega (arith, below, y.txs))) there (sym same ∙ at)) [
      | inl fell ↦ absurd (
          let none : fell_at m.tx.bare fell.0 ≡ [] =
          ap (map (λ d. d.id)) (k.tx.ample.none fell.0) in
          let w = fell.1.1 in let n = ap length none in omega (arith, w, n))
      | inr out' ↦ (
          let w = out'.1 in
          let below = full-below m.tx.bare.outs out'.0 w.0 w.1 in
          let zero' : out'.0 ≡ 0 = omega (arith, below, y.port) in
          subst (λ p. Contains (out_at m.tx.bare p) x) zero' out'.1)
    ]

pub rest_is_through : RestIsThrough
rest_is_through m k r x lt =
    let z = k.rx.sizes in
    let all = r.arrived in
    let c = came-in m x k (omega (arith, lt, all)) in
    let ring = full-below m.rx.arrivals c.0 c.1 c.2 in
    let q = r.pollers c.0 (omega (arith, ring, z.queues)) in
    elim (through m.rx c.0 c.1 x k.rx.sound k.rx.lossless q.put
    (λ d below. r.cpus d (omega (arith, below, z.cpus))) c.2 c.3) [
      | inl fell ↦ inl fell
      | inr out' ↦ (
          let w = place-of (out_at m.rx.bare out'.0) x out'.1 in
          inr (out', ported m out'.0 w.0 x k r w.1 w.2))
    ]

pub swept_is_through : SweptIsThrough
swept_is_through m k x lt =
    let n : Machine = (step m act.Sweep).0 in
    let same : n.setup ≡ m.setup = step_keeps_setup m act.Sweep refl k in
    rest_is_through n (step_keeps_kept m act.Sweep refl k) (sweep_ends_at_rest m k) x
    (let e = ap (λ (p : Setup). length p.packets) same in omega (arith, lt, e))
