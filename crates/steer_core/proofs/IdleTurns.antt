-- The turn of a poller or an application at rest changes nothing.
use Rattle.std.proofs.Common.{ℕ, ◌<◌, ◌≤◌, ◌≡◌, Bool, true, false, List, [], ◌∷◌, None, Option}
use Rattle.std.proofs.Common.{length, refl, ap, ◌∙◌, subst, arith, inl, inr, suc, zero}
use Rattle.std.proofs.lemmas.Bool.{cases_Bool, le-ltb, lt-ltb}
use Rattle.std.specs.Prelude.{◌&&◌, ◌||◌, is_some, nat_lt, not, slice_get}
use Rattle.steer_base.specs.declared.step.Step.{Step}
use Rattle.steer_base.specs.declared.step.Step.TheVariants as act
use Rattle.hop_model.specs.declared.event.HopEvent.TheVariants as event
use Rattle.hop_model.specs.Events.{happens}
use Rattle.hop_model.specs.Hop.{HopState, arrivals_of, choices_of, inside_of, out_at, placed_of}
use Rattle.hop_model.specs.Hop.{taken_of}
use Rattle.steer_model.specs.State.Machine.{Machine, note_of}
use Rattle.steer_model.specs.Steps.Applications.{next_in, sent_of}
use Rattle.steer_model.specs.Steps.CompoundSteps.{Progress, poll, reply, replying, serve, tried}
use Rattle.steer_model.specs.Steps.CompoundSteps.{tries, with_record}
use Rattle.step_laws.specs.IdleReasons.{Need, Stage, answer_by_needs, is_at, needs}
use Rattle.step_laws.specs.IdleReasons.{poller_hand, sender_hand}
use Rattle.step_laws.specs.IdleReasons as stage
use Rattle.steer_model.specs.Steps.SingleSteps.{is_command, is_idle, is_work, simple}
use Rattle.steer_model.specs.declared.note.Note.TheVariants as note
use Rattle.step_laws.proofs.ReasonLemmas.{idle_for_first_reason}
use Rattle.steer_invariant.specs.StepInvariant.{StepInvariant}
use Rattle.steer_invariant.proofs.StepInvariant.SingleStepLemmas.{goes-simple}
use Rattle.steer_properties.proofs.Sweep.IdleTurnLemmas.{idle-leaves}
use Rattle.steer_properties.proofs.Sweep.RestLemmas.{staged}
use Rattle.steer_properties.specs.Sweep.Rest.{PollerRests, SenderRests}
use Rattle.steer_core.specs.Resting.{PollerIsDone, SenderIsDone}
use Rattle.steer_core.proofs.GateLemmas.{enters, inside, is_inside, leaves}

-- ---- events that are idle

abbrev AreIdle : Machine → List Step → Type 0
AreIdle m [] = Unit {0}
AreIdle m (s ∷ ss) = (is_command s ≡ false) × (is_idle (simple m s).1 ≡ true) × AreIdle m ss

or-none : (w work idle : Bool) → idle ≡ true → (w || (work && not idle)) ≡ w
or-none true work idle e = refl
or-none false true true e = refl
or-none false false idle e = refl
or-none false true false e = absurd (cc)

or-unworked : (w work b : Bool) → work ≡ false → (w || (work && b)) ≡ w
or-unworked true work b e = refl
or-unworked false false b e = refl
or-unworked false true b e = absurd (cc)

tried-idle : (m : Machine) (w : Bool) (s : Step) → is_command s ≡ false
    → is_idle (simple m s).1 ≡ true → tried (m, w) s ≡ (m, w)
tried-idle m w s event idle =
    let same : (simple m s).0 ≡ m = idle-leaves m s event idle in
    let none = or-none w (is_work s) (is_idle (simple m s).1) idle in
    rw (same, none) refl

tries-idle : (ss : List Step) (m : Machine) (w : Bool) → AreIdle m ss → tries (m, w) ss ≡ (m, w)
tries-idle [] m w idle = refl
tries-idle (s ∷ ss) m w idle =
    ap (λ (t : Progress). tries t ss) (tried-idle m w s idle.0 idle.1)
    ∙ tries-idle ss m w idle.2

-- an event that is no work leads to a machine
tried-to : (m n : Machine) (w : Bool) (s : Step) → is_work s ≡ false → (simple m s).0 ≡ n
    → tried (m, w) s ≡ (n, w)
tried-to m n w s work to =
    let none = or-unworked w (is_work s) (not (is_idle (simple m s).1)) work in rw (to, none) refl

-- ---- what an idle step lacks

one-fails : (need : Need) → need.0 ≡ false → is_idle (answer_by_needs (need ∷ [])) ≡ true
one-fails need e = rw e refl

second-fails : (need next : Need) → next.0 ≡ false
    → is_idle (answer_by_needs (need ∷ next ∷ [])) ≡ true
second-fails need next e =
    elim (cases_Bool need.0) [
      | inl f ↦ rw (f, e) refl
      | inr f ↦ rw f refl
    ]

by-needs : (m : Machine) (s : Step) → StepInvariant m → is_command s ≡ false
    → is_idle (answer_by_needs (needs m s)) ≡ true → is_idle (simple m s).1 ≡ true
by-needs m s k event idle =
    ap is_idle (idle_for_first_reason m s (staged m k) event) ∙ idle

-- ---- pollers

module _ (m : Machine) (q : ℕ) (k : StepInvariant m) (r : PollerRests q m) where
  hands-same : (nat_lt (taken_of m.rx q) (length (arrivals_of m.rx q)) ≡ false)
      × (nat_lt (length (choices_of m.rx q)) (taken_of m.rx q) ≡ false)
      × (nat_lt (placed_of m.rx q) (length (choices_of m.rx q)) ≡ false)
  hands-same =
      let h = k.rx.sound.hands in
      let a = h.put q in let b = h.chosen q in let c = h.arrived q in
      let p = r.put in (
        le-ltb _ _ (omega (arith, a, b, p)),
        le-ltb _ _ (omega (arith, a, c, p)),
        le-ltb _ _ (omega (arith, b, c, p)),
      )

  empty-hand : poller_hand m q ≡ stage.Empty
  empty-hand =
      let h = hands-same in
      let n = r.quiet in
      rw (n, h.1, h.2) refl

  poller-idle : AreIdle m
      (act.Take q ∷ act.Look q ∷ act.Weigh q ∷ act.Put q ∷ act.Ask q ∷ [])
  poller-idle =
      let e = empty-hand in
      let no : (s : Stage) → is_at stage.Empty s ≡ false → is_at (poller_hand m q) s ≡ false =
      λ s none. ap (λ (h : Stage). is_at h s) e ∙ none in
      let take = by-needs m (act.Take q) k refl (second-fails _ _ hands-same.0) in
      let look = by-needs m (act.Look q) k refl (second-fails _ _ (no stage.Taken refl)) in
      let weigh = by-needs m (act.Weigh q) k refl (second-fails _ _ (no stage.Looked refl)) in
      let put = by-needs m (act.Put q) k refl (second-fails _ _ (no stage.Weighed refl)) in
      let ask = by-needs m (act.Ask q) k refl (second-fails _ _ (no stage.Asking refl)) in
      (refl, take, (refl, look, (refl, weigh, (refl, put, (refl, ask, tt)))))

-- a poller inside that keeps no note leaves by its hop
left-by : (m : Machine) (q : ℕ) → inside_of m.rx q ≡ true → note_of m q ≡ note.Nothing
    → (simple m (act.Leave q)).0 ≡ record m { rx = (happens m.rx (event.Leave q)).0 }
left-by m q here quiet = rw (here, quiet) refl

-- the machine with a poller inside
abbrev with_poller : Machine → ℕ → Machine
with_poller m q = record m { rx = inside m.rx q }

module _ (m : Machine) (q : ℕ) (k : StepInvariant m) (lt : q < length m.setup.homes)
    (d : PollerIsDone q m) where
  poller-in : q < length m.rx.visits
  poller-in = let v = k.rx.sizes.visits in omega (arith, lt, v)

  entered-poller : (simple m (act.Enter q)).0 ≡ with_poller m q
  entered-poller = rw (enters m.rx q d.outside k.rx.opened) refl

  kept-poller : StepInvariant (with_poller m q)
  kept-poller =
      subst (λ (n : Machine). StepInvariant n) entered-poller
      (goes-simple m k (act.Enter q) (lt-ltb q (length m.setup.homes) lt)).kept

  left-poller : (simple (with_poller m q) (act.Leave q)).0 ≡ m
  left-poller =
      left-by (with_poller m q) q (is_inside m.rx q poller-in) d.rests.quiet
      ∙ ap (λ (s : HopState). record m { rx = s })
      (leaves m.rx q poller-in d.outside (hands-same m q k d.rests).2)

  -- the turn of a poller that is done changes nothing
  pub poll-of-done : (w : Bool) → poll q (m, w) ≡ (m, w)
  poll-of-done w =
      let five : List Step = act.Take q ∷ act.Look q ∷ act.Weigh q ∷ act.Put q ∷ act.Ask q ∷ [] in
      let n : Machine = with_poller m q in
      let rests : PollerRests q n = record { put = d.rests.put; quiet = d.rests.quiet } in
      ap (λ (t : Progress). tried (tries t five) (act.Leave q))
      (tried-to m n w (act.Enter q) refl entered-poller)
      ∙ ap (λ (t : Progress). tried t (act.Leave q))
      (tries-idle five n w (poller-idle n q kept-poller rests))
      ∙ tried-to n m w (act.Leave q) refl left-poller

-- ---- applications

past-end : (xs : List ℕ) (n : ℕ) → length xs ≤ n → slice_get xs n ≡ None
past-end [] n past = refl
past-end (x ∷ xs) zero past = absurd (omega (arith, past))
past-end (x ∷ xs) (suc n) past = past-end xs n (omega (arith, past))

module _ (m : Machine) (a : ℕ) (k : StepInvariant m) (r : SenderRests a m) where
  sender-same : (nat_lt (placed_of m.tx a) (taken_of m.tx a) ≡ false)
      × (nat_lt (length (choices_of m.tx a)) (taken_of m.tx a) ≡ false)
      × (nat_lt (placed_of m.tx a) (length (choices_of m.tx a)) ≡ false)
  sender-same =
      let h = k.tx.sound.hands in
      let b = h.put a in let c = h.chosen a in let d = h.arrived a in
      let p = r.put in (
        le-ltb _ _ (omega (arith, d, p)),
        le-ltb _ _ (omega (arith, b, d, p)),
        le-ltb _ _ (omega (arith, c, d, p)),
      )

  none-next : next_in m a ≡ None
  none-next =
      past-end (out_at m.rx.bare a) (length (sent_of m a))
      (let b = r.begun in omega (arith, b))

  nothing-to-reply : replying m a ≡ None
  nothing-to-reply = rw sender-same.0 none-next

  sender-idle : AreIdle m (act.Send a ∷ act.TWeigh a ∷ act.TPut a ∷ [])
  sender-idle =
      let s = sender-same in
      let e : sender_hand m a ≡ stage.Empty = rw (s.1, s.2) refl in
      let no : (s : Stage) → is_at stage.Empty s ≡ false → is_at (sender_hand m a) s ≡ false =
      λ s none. ap (λ (h : Stage). is_at h s) e ∙ none in
      let none : is_some (next_in m a) ≡ false = ap (λ (o : Option ℕ). is_some o) none-next in
      let send = by-needs m (act.Send a) k refl (second-fails _ _ none) in
      let weigh = by-needs m (act.TWeigh a) k refl (second-fails _ _ (no stage.Sent refl)) in
      let put = by-needs m (act.TPut a) k refl (second-fails _ _ (no stage.Weighed refl)) in
      (refl, send, (refl, weigh, (refl, put, tt)))

-- the machine with an application inside the transmit gate
abbrev with_sender : Machine → ℕ → Machine
with_sender m a = record m { tx = inside m.tx a }

module _ (m : Machine) (a : ℕ) (k : StepInvariant m) (lt : a < m.setup.apps)
    (d : SenderIsDone a m) where
  sender-in : a < length m.tx.visits
  sender-in = let v = k.tx.sizes.visits in omega (arith, lt, v)

  entered-sender : (simple m (act.TEnter a)).0 ≡ with_sender m a
  entered-sender = rw (enters m.tx a d.outside k.tx.opened) refl

  kept-sender : StepInvariant (with_sender m a)
  kept-sender =
      subst (λ (n : Machine). StepInvariant n) entered-sender
      (goes-simple m k (act.TEnter a) (lt-ltb a m.setup.apps lt)).kept

  left-sender : (simple (with_sender m a) (act.TLeave a)).0 ≡ m
  left-sender =
      ap (λ (s : HopState). record m { tx = s })
      (leaves m.tx a sender-in d.outside (sender-same m a k d.rests).2)

  -- serving an application that is done changes nothing
  pub serve-of-done : (w : Bool) → serve a (m, w) ≡ (m, w)
  serve-of-done w =
      let three : List Step = act.Send a ∷ act.TWeigh a ∷ act.TPut a ∷ [] in
      let n : Machine = with_sender m a in
      let rests : SenderRests a n = record { begun = d.rests.begun; put = d.rests.put } in
      ap (λ (o : Option ℕ). reply a (with_record o (m, w))) (nothing-to-reply m a k d.rests)
      ∙ ap (λ (t : Progress). tried (tries t three) (act.TLeave a))
      (tried-to m n w (act.TEnter a) refl entered-sender)
      ∙ ap (λ (t : Progress). tried t (act.TLeave a))
      (tries-idle three n w (sender-idle n a kept-sender rests))
      ∙ tried-to n m w (act.TLeave a) refl left-sender
