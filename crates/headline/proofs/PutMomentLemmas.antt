-- Every event of a run keeps the moments of accepted and dropped packets, and a put adds its own.
use Rattle.std.proofs.Common.{ℕ, ◌<◌, ◌≡◌, ◌⊎◌, List, [], ◌∷◌, ◌++◌, Option, Some}
use Rattle.std.proofs.Common.{None, length, refl, ap, ◌∙◌, sym, subst, arith, inl, inr, get_or}
use Rattle.std.specs.Prelude.{slice_get}
use Rattle.std.proofs.lemmas.Bool.{cases_eq}
use Rattle.hop_model.specs.Hop.{Fixed, HopState, accepted_at, choices_of, drops_at, dropped}
use Rattle.hop_model.specs.Hop.{in_hand}
use Rattle.hop_model.specs.Hop.{lane_of, placed_of, put_one}
use Rattle.hop_model.specs.Sound.{Sound}
use Rattle.hop_core.proofs.Lists.{Changed-set}
use Rattle.hop_core.proofs.PutSteps.{put_as}
use Rattle.steer_base.specs.Drops.{bucket_of, lane_drop_cause}
use Rattle.steer_base.specs.declared.choice.Chosen.{Chosen}
use Rattle.steer_base.specs.declared.put.DropCause.{DropCause}
use Rattle.steer_base.specs.declared.put.LaneDrop.{LaneDrop}
use Rattle.steer_base.specs.declared.step.Step.{Step}
use Rattle.steer_invariant.specs.Invariant.{Invariant}
use Rattle.steer_model.specs.Good.Inputs.{Input, setup_in}
use Rattle.steer_model.specs.State.Machine.{Machine}
use Rattle.steer_model.specs.State.Setup.{Setup, packet_hash}
use Rattle.steer_model.specs.State.Start.{fresh_rx, fresh_tx}
use Rattle.steer_model.specs.Steps.SingleSteps.{simple}
use Rattle.steer_properties.proofs.Delivery.EventLemmas.{last-hand}
use Rattle.steer_properties.proofs.Histories.ExtendLemmas.{blank-at, get-either}
use Rattle.steer_properties.proofs.Histories.PutKindLemmas.{LanesStay, put_hash}
use Rattle.steer_properties.proofs.Histories.PutKindLemmas.{walk_puts}
use Rattle.headline.specs.Moments.{HasAcceptedNext, HasDroppedNext, IsInHand, Moment}
use Rattle.headline.specs.Moments.{ProcessorAccepts, ProcessorDrops, QueueAccepts, start_of}
use Rattle.headline.proofs.RunLemmas.{GoesOn, moment-later, moment-now}

-- ---- a put, with its cause

module _ (f : Fixed) (s : HopState) (p : ℕ) (h : Sound s) (fixed : s.fixed ≡ f)
    (more : placed_of s p < length (choices_of s p)) (hash : ℕ → Option ℕ)
  where
    abbrev lane : ℕ
    lane = (in_hand s p).choice.lane

    abbrev packet : ℕ
    packet = (in_hand s p).id

    -- the cause by the limits that the hop has is that by the plan's
    abbrev cause_here : Option DropCause
    cause_here = lane_drop_cause (lane_of s.fixed s.bare lane) (hash packet)

    in-plan : (cause : Option DropCause) → cause_here ≡ cause
        → lane_drop_cause (lane_of f s.bare lane) (hash packet) ≡ cause
    in-plan cause is =
        subst (λ g. lane_drop_cause (lane_of g s.bare lane) (hash packet) ≡ cause) fixed is

    lane-in : lane < length s.bare.accepted
    lane-in = h.lanes p (placed_of s p) more

    in-its-hand : IsInHand s lane packet p
    in-its-hand = record { chosen = more; packet = refl; lane = refl }

    accepted-now : (bucket : Option ℕ) → cause_here ≡ None
        → HasAcceptedNext f (hash packet) lane (length (accepted_at s.bare lane)) packet s
        (put_as s p None bucket)
    accepted-now bucket is =
        let ch = Changed-set s.bare.accepted lane (accepted_at s.bare lane ++ packet ∷ []) []
        lane-in in
        record {
          hand = (p, in-its-hand);
          next = refl;
          no_drop = in-plan None is;
          made = ch.here;
        }

    accepted-as : (cause : Option DropCause) (bucket : Option ℕ) → cause_here ≡ cause
        → (c k x : ℕ) → slice_get (accepted_at (put_as s p cause bucket).bare c) k ≡ Some x
        → (slice_get (accepted_at s.bare c) k ≡ Some x)
        ⊎ HasAcceptedNext f (hash x) c k x s (put_as s p cause bucket)
    accepted-as (Some cause) bucket is c k x at = inl at
    accepted-as None bucket is c k x at =
        let t : HopState = put_as s p None bucket in
        let ch = Changed-set s.bare.accepted lane (accepted_at s.bare lane ++ packet ∷ []) []
        lane-in in
        elim (cases_eq c lane) [
          | inl e ↦
              let here : slice_get (accepted_at s.bare lane ++ packet ∷ []) k ≡ Some x =
              sym (ap (λ (l : List ℕ). slice_get l k) ch.here)
              ∙ sym (ap (λ r. slice_get (accepted_at t.bare r) k) e) ∙ at in
              elim (get-either (accepted_at s.bare lane) packet x k here) [
                | inl before ↦ inl (ap (λ r. slice_get (accepted_at s.bare r) k) e ∙ before)
                | inr new ↦
                    let one : HasAcceptedNext f (hash packet) lane k packet s t =
                    subst (λ j. HasAcceptedNext f (hash packet) lane j packet s t) (sym new.0)
                    (accepted-now bucket is) in
                    let two : HasAcceptedNext f (hash x) lane k x s t =
                    subst (λ y. HasAcceptedNext f (hash y) lane k y s t) new.1 one in
                    inr (subst (λ r. HasAcceptedNext f (hash x) r k x s t) (sym e) two)
              ]
          | inr ne ↦ inl (sym (ap (λ (l : List ℕ). slice_get l k) (ch.there c ne)) ∙ at)
        ]

    dropped-now : (cause : DropCause) (bucket : Option ℕ) → cause_here ≡ Some cause
        → HasDroppedNext f (hash packet) lane (length (drops_at s.bare lane))
        (dropped s.bare lane packet cause) s (put_as s p (Some cause) bucket)
    dropped-now cause bucket is =
        let d : LaneDrop = dropped s.bare lane packet cause in
        let w = h.wide in
        let ch = Changed-set s.bare.drops lane (drops_at s.bare lane ++ d ∷ []) []
        (omega (arith, lane-in, w.drops)) in
        record {
          hand = (p, in-its-hand);
          next = refl;
          accepted = refl;
          pulled = refl;
          cause = in-plan (Some cause) is;
          made = ch.here;
        }

    dropped-as : (cause : Option DropCause) (bucket : Option ℕ) → cause_here ≡ cause
        → (c j : ℕ) (e : LaneDrop)
        → slice_get (drops_at (put_as s p cause bucket).bare c) j ≡ Some e
        → (slice_get (drops_at s.bare c) j ≡ Some e)
        ⊎ HasDroppedNext f (hash e.id) c j e s (put_as s p cause bucket)
    dropped-as None bucket is c j e at = inl at
    dropped-as (Some cause) bucket is c j e at =
        let t : HopState = put_as s p (Some cause) bucket in
        let d : LaneDrop = dropped s.bare lane packet cause in
        let w = h.wide in
        let ch = Changed-set s.bare.drops lane (drops_at s.bare lane ++ d ∷ []) []
        (omega (arith, lane-in, w.drops)) in
        elim (cases_eq c lane) [
          | inl same ↦
              let here : slice_get (drops_at s.bare lane ++ d ∷ []) j ≡ Some e =
              sym (ap (λ (l : List LaneDrop). slice_get l j) ch.here)
              ∙ sym (ap (λ r. slice_get (drops_at t.bare r) j) same) ∙ at in
              elim (get-either (drops_at s.bare lane) d e j here) [
                | inl before ↦ inl (ap (λ r. slice_get (drops_at s.bare r) j) same ∙ before)
                | inr new ↦
                    let one : HasDroppedNext f (hash d.id) lane j d s t =
                    subst (λ n. HasDroppedNext f (hash packet) lane n d s t) (sym new.0)
                    (dropped-now cause bucket is) in
                    let two : HasDroppedNext f (hash e.id) lane j e s t =
                    subst (λ (y : LaneDrop). HasDroppedNext f (hash y.id) lane j y s t) new.1 one in
                    inr (subst (λ r. HasDroppedNext f (hash e.id) r j e s t) (sym same) two)
              ]
          | inr ne ↦ inl (sym (ap (λ (l : List LaneDrop). slice_get l j) (ch.there c ne)) ∙ at)
        ]

    -- a packet that a lane has accepted after a put was accepted before it, or by it
    accepted-put : (c k x : ℕ)
        → slice_get (accepted_at (put_one s p (hash packet)).bare c) k ≡ Some x
        → (slice_get (accepted_at s.bare c) k ≡ Some x)
        ⊎ HasAcceptedNext f (hash x) c k x s (put_one s p (hash packet))
    accepted-put = accepted-as cause_here (bucket_of (hash packet)) refl

    dropped-put : (c j : ℕ) (e : LaneDrop)
        → slice_get (drops_at (put_one s p (hash packet)).bare c) j ≡ Some e
        → (slice_get (drops_at s.bare c) j ≡ Some e)
        ⊎ HasDroppedNext f (hash e.id) c j e s (put_one s p (hash packet))
    dropped-put = dropped-as cause_here (bucket_of (hash packet)) refl

-- ---- what a state says of the moments before it

pub record PutMoments (i : Input) (es : List Step) (m : Machine) : Type 0 where
  pub accepted : (c k x : ℕ) → slice_get (accepted_at m.rx.bare c) k ≡ Some x
      → Moment i es (ProcessorAccepts i c k x)
  pub drops : (c j : ℕ) (d : LaneDrop) → slice_get (drops_at m.rx.bare c) j ≡ Some d
      → Moment i es (ProcessorDrops i c j d)
  pub queued : (t k x : ℕ) → slice_get (accepted_at m.tx.bare t) k ≡ Some x
      → Moment i es (QueueAccepts i t k x)

-- what is fixed in a machine of the run is that of the plan
pub record IsOfPlan (i : Input) (m : Machine) : Type 0 where
  pub setup : m.setup ≡ setup_in i
  pub rx : m.rx.fixed ≡ (fresh_rx i.plan i.packets).fixed
  pub tx : m.tx.fixed ≡ (fresh_tx i.plan i.packets).fixed

-- a put carries the hash of the packet in hand
hash-is : (i : Input) (m : Machine) (s : HopState) (p : ℕ) → m.setup ≡ setup_in i → Sound s
    → placed_of s p < length (choices_of s p)
    → put_hash m s p ≡ packet_hash (setup_in i) (in_hand s p).id
hash-is i m s p setup h more =
    ap (λ (u : Setup). put_hash (record m { setup = u }) s p) setup
    ∙ ap (λ (c : Chosen). packet_hash (setup_in i) c.id) (last-hand s p h more)

module _ (i : Input) (es fs : List Step) (m : Machine) (h : Invariant m) (of : IsOfPlan i m)
    (old : PutMoments i es m)
  where
    -- lanes that are as they were
    accepted-later : (n : Machine) → GoesOn i es fs m n → LanesStay m.rx n.rx → (c k x : ℕ)
        → slice_get (accepted_at n.rx.bare c) k ≡ Some x → Moment i fs (ProcessorAccepts i c k x)
    accepted-later n go same c k x at =
        moment-later i es fs m n go (ProcessorAccepts i c k x)
        (old.accepted c k x
        (sym (ap (λ (l : List (List ℕ)). slice_get (get_or l c []) k) same.accepted) ∙ at))

    drops-later : (n : Machine) → GoesOn i es fs m n → LanesStay m.rx n.rx → (c j : ℕ)
        (d : LaneDrop)
        → slice_get (drops_at n.rx.bare c) j ≡ Some d → Moment i fs (ProcessorDrops i c j d)
    drops-later n go same c j d at =
        moment-later i es fs m n go (ProcessorDrops i c j d)
        (old.drops c j d
        (sym (ap (λ (l : List (List LaneDrop)). slice_get (get_or l c []) j) same.drops) ∙ at))

    queued-later : (n : Machine) → GoesOn i es fs m n → LanesStay m.tx n.tx → (t k x : ℕ)
        → slice_get (accepted_at n.tx.bare t) k ≡ Some x → Moment i fs (QueueAccepts i t k x)
    queued-later n go same t k x at =
        moment-later i es fs m n go (QueueAccepts i t k x)
        (old.queued t k x
        (sym (ap (λ (l : List (List ℕ)). slice_get (get_or l t []) k) same.accepted) ∙ at))

    -- a put to a processor
    put-one : (q : ℕ) (n : Machine) → placed_of m.rx q < length (choices_of m.rx q)
        → n.rx ≡ put_one m.rx q (put_hash m m.rx q) → LanesStay m.tx n.tx → GoesOn i es fs m n
        → PutMoments i fs n
    put-one q n more is tx go =
        let k = h.kept in
        let hash : ℕ → Option ℕ = packet_hash (setup_in i) in
        let made : n.rx ≡ put_one m.rx q (hash (in_hand m.rx q).id) =
        is ∙ ap (put_one m.rx q) (hash-is i m m.rx q of.setup k.rx.sound more) in
        record {
          accepted = λ c j x at. elim (accepted-put (fresh_rx i.plan i.packets).fixed m.rx q
              k.rx.sound of.rx more hash c j x
              (subst (λ (t : HopState). slice_get (accepted_at t.bare c) j ≡ Some x) made at)) [
                | inl before ↦ moment-later i es fs m n go (ProcessorAccepts i c j x)
                    (old.accepted c j x before)
                | inr did ↦ moment-now i es fs m n go (ProcessorAccepts i c j x)
                    (subst (λ (t : HopState).
                    HasAcceptedNext (fresh_rx i.plan i.packets).fixed (hash x) c j x m.rx t)
                    (sym made) did)
              ];
          drops = λ c j d at. elim (dropped-put (fresh_rx i.plan i.packets).fixed m.rx q
              k.rx.sound of.rx more hash c j d
              (subst (λ (t : HopState). slice_get (drops_at t.bare c) j ≡ Some d) made at)) [
                | inl before ↦ moment-later i es fs m n go (ProcessorDrops i c j d)
                    (old.drops c j d before)
                | inr did ↦ moment-now i es fs m n go (ProcessorDrops i c j d)
                    (subst (λ (t : HopState).
                    HasDroppedNext (fresh_rx i.plan i.packets).fixed (hash d.id) c j d m.rx t)
                    (sym made) did)
              ];
          queued = queued-later n go tx;
        }

    -- a put to a transmit queue
    tx-put-one : (a : ℕ) (n : Machine) → placed_of m.tx a < length (choices_of m.tx a)
        → n.tx ≡ put_one m.tx a (put_hash m m.tx a) → LanesStay m.rx n.rx → GoesOn i es fs m n
        → PutMoments i fs n
    tx-put-one a n more is rx go =
        let k = h.kept in
        let hash : ℕ → Option ℕ = packet_hash (setup_in i) in
        let made : n.tx ≡ put_one m.tx a (hash (in_hand m.tx a).id) =
        is ∙ ap (put_one m.tx a) (hash-is i m m.tx a of.setup k.tx.sound more) in
        record {
          accepted = accepted-later n go rx;
          drops = drops-later n go rx;
          queued = λ t j x at. elim (accepted-put (fresh_tx i.plan i.packets).fixed m.tx a
              k.tx.sound of.tx more hash t j x
              (subst (λ (u : HopState). slice_get (accepted_at u.bare t) j ≡ Some x) made at)) [
                | inl before ↦ moment-later i es fs m n go (QueueAccepts i t j x)
                    (old.queued t j x before)
                | inr did ↦ moment-now i es fs m n go (QueueAccepts i t j x)
                    (subst (λ (u : HopState).
                    HasAcceptedNext (fresh_tx i.plan i.packets).fixed (hash x) t j x m.tx u)
                    (sym made) did)
              ];
        }

    pub puts-simple : (s : Step) → GoesOn i es fs m (simple m s).0
        → PutMoments i fs (simple m s).0
    puts-simple s go =
        walk_puts m (λ n. GoesOn i es fs m n → PutMoments i fs n)
        (record {
          nothing = λ n same g. record {
            accepted = accepted-later n g same.rx;
            drops = drops-later n g same.rx;
            queued = queued-later n g same.tx;
          };
          put = put-one;
          tx_put = tx-put-one;
        }) s go

-- ---- a new machine

pub puts-new : (i : Input) → PutMoments i [] (start_of i)
puts-new i =
    let m : Machine = start_of i in
    record {
      accepted = λ c k x is. absurd (
          let none : accepted_at m.rx.bare c ≡ [] = blank-at i.plan.cpus c [] in
          let f : None ≡ Some x = sym (ap (λ (l : List ℕ). slice_get l k) none) ∙ is in cc);
      drops = λ c j d is. absurd (
          let none : drops_at m.rx.bare c ≡ [] = blank-at i.plan.cpus c [] in
          let f : None ≡ Some d = sym (ap (λ (l : List LaneDrop). slice_get l j) none) ∙ is in cc);
      queued = λ t k x is. absurd (
          let none : accepted_at m.tx.bare t ≡ [] = blank-at (length i.plan.tx) t [] in
          let f : None ≡ Some x = sym (ap (λ (l : List ℕ). slice_get l k) none) ∙ is in cc);
    }
