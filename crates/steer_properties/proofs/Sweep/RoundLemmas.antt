-- After a round in which no work was done, the machine is at rest.
use Rattle.std.proofs.Common.{ℕ, ◌≤◌, ◌<◌, ◌≡◌, true, false, List, [], ◌∷◌, length, refl, ap, sym}
use Rattle.std.proofs.Common.{subst, arith, inl, inr, suc, zero}
use Rattle.std.proofs.lemmas.Bool.{cases_Bool, cases_eq, lt-ltb}
use Rattle.std.proofs.lemmas.List.{get_or-set_same}
use Rattle.steer_base.specs.declared.step.Step.{Step}
use Rattle.steer_base.specs.declared.step.Step.TheVariants as act
use Rattle.hop_model.specs.declared.event.HopEvent.TheVariants as event
use Rattle.hop_model.specs.Events.{IsEmptied, happens}
use Rattle.hop_model.specs.Hop.{HopState, inside_of}
use Rattle.steer_model.specs.State.Machine.{Machine}
use Rattle.steer_model.specs.State.Setup.{Setup, flow_number_of}
use Rattle.steer_model.specs.Steps.CompoundSteps.{Progress, again, drain, drain_one, for_each, poll}
use Rattle.steer_model.specs.Steps.CompoundSteps.{with_record}
use Rattle.steer_model.specs.Steps.CompoundSteps.{replying, serve, ship, ship_one, tried, tries}
use Rattle.steer_model.specs.Steps.CompoundSteps.{unretired}
use Rattle.steer_invariant.specs.StepInvariant.{IsNamed, StepInvariant}
use Rattle.steer_properties.specs.Sweep.Rest.{PollerRests, SenderRests}
use Rattle.steer_properties.specs.Sweep.SweepLaws.{IdleRoundRests}
use Rattle.steer_properties.proofs.Sweep.StillTurnLemmas.{Quiet, Still, leave-stays, quiet-start}
use Rattle.steer_properties.proofs.Sweep.StillTurnLemmas.{quiet-then}
use Rattle.steer_properties.proofs.Sweep.StillTurnLemmas.{quiet-tried, still-event, still-same}
use Rattle.steer_properties.proofs.Sweep.StillTurnLemmas.{still-then}
use Rattle.steer_properties.proofs.Sweep.IdleTurnLemmas.{idle-tries, tried-before, tried-idle}
use Rattle.steer_invariant.proofs.StepInvariant.StepLemmas.{flow_small}
use Rattle.steer_properties.proofs.Sweep.RestLemmas.{lane-rests, poller-rests, sender-rests}
use Rattle.steer_properties.proofs.Sweep.RestLemmas.{tx-rests}
use Rattle.steer_properties.proofs.Sweep.RestLemmas.{wire-rests}
use Rattle.steer_invariant.proofs.TurnLiftLemmas.{drain-keeps, is_tried, poll-keeps, recorded-keeps}
use Rattle.steer_invariant.proofs.TurnLiftLemmas.{serve-keeps, ship-keeps}

-- ---- an actor that rests goes on resting while all stands still

poller-stays : (q : ℕ) (m n : Machine) → Still m n → PollerRests q m → PollerRests q n
poller-stays q m n s r =
    let a = s.rx in
    record { put = rw (a.placed, a.arrivals) r.put; quiet = rw s.notes r.quiet }

cpu-stays : (c : ℕ) (m n : Machine) → Still m n → IsEmptied m.rx.bare c → IsEmptied n.rx.bare c
cpu-stays c m n s r = let a = s.rx in rw (a.accepted, a.retired) r

sender-stays : (a : ℕ) (m n : Machine) → Still m n → SenderRests a m → SenderRests a n
sender-stays a m n s r =
    let b = s.rx in let c = s.tx in
    record { begun = rw (s.sent, b.outs) r.begun; put = rw (c.placed, c.arrivals) r.put }

tx-stays : (t : ℕ) (m n : Machine) → Still m n → IsEmptied m.tx.bare t → IsEmptied n.tx.bare t
tx-stays t m n s r = let a = s.tx in rw (a.accepted, a.retired) r

-- ---- the turn of one actor

record Turned (p : Setup) (G : Machine → Type 0) (t u : Progress) : Type 0 where
  quiet : Quiet p t u
  rests : u.1 ≡ false → G u.0

-- an actor that comes by an open gate is inside
entered : (s : HopState) (a : ℕ) → s.bare.closed ≡ false → a < length s.visits
    → inside_of (happens s (event.Enter a)).0 a ≡ true
entered s a open' in' =
    elim (cases_Bool (inside_of s a)) [
      | inl here ↦ rw here here
      | inr out' ↦ rw (out', open') (get_or-set_same s.visits a true false in')
    ]

tries-before : (ss : List Step) (t : Progress) → (tries t ss).1 ≡ false → t.1 ≡ false
tries-before [] t none = none
tries-before (s ∷ ss) t none = tried-before t s (tries-before ss (tried t s) none)

again-before : (n : ℕ) (ss : List Step) (t : Progress) → (again n ss t).1 ≡ false → t.1 ≡ false
unfolding again
again-before zero ss t none = none
again-before (suc n) ss t none = tries-before ss t (again-before n ss (tries t ss) none)

module _ (p : Setup) (flows : (x : ℕ) → flow_number_of p x < 262144) where
  turned-poll : (q : ℕ) (t : Progress) → q < length p.homes → t.0.setup ≡ p → StepInvariant t.0
      → Turned p (PollerRests q) t (poll q t)
  turned-poll q t lt is k =
      let start = quiet-start p t is k in
      let named : IsNamed p (act.Enter q) = lt-ltb q (length p.homes) lt in
      let in' : Progress = tried t (act.Enter q) in
      let five : List Step = act.Take q ∷ act.Look q ∷ act.Weigh q ∷ act.Put q ∷ act.Ask q ∷ [] in
      let done : Progress = tries in' five in
      let first = quiet-tried p t t (act.Enter q) (is_tried p (act.Enter q) refl named) start in
      let z = k.rx.sizes in
      let below : q < length t.0.rx.visits =
      (let homes = ap (λ (r : Setup). length r.homes) is in omega (arith, lt, z.visits, homes)) in
      record {
        quiet = poll-keeps p (Quiet p t) (λ u h. h.setup) flows
            (λ u s tried h. quiet-tried p t u s tried h) q t lt start;
        rests = λ none. (
            let idle =
            idle-tries five in'
            (refl, refl, (refl, refl, (refl, refl, (refl, refl, (refl, refl, tt)))))
            (tried-before done (act.Leave q) none) in
            poller-stays q in'.0 (poll q t).0
            (still-then in'.0 done.0 (poll q t).0 (still-same in'.0 done.0 idle.same)
            (leave-stays done.0 q))
            (poller-rests in'.0 q first.kept (entered t.0.rx q k.rx.opened below) idle.idle));
      }

  -- with nothing to retire the lane is empty, and else the first time around was idle
  drained : (n c : ℕ) (t : Progress) → unretired t.0.rx.bare c ≡ n → StepInvariant t.0
      → (again n (drain_one c) t).1 ≡ false → IsEmptied t.0.rx.bare c
  unfolding again
  drained zero c t is k none =
      let h = k.rx.sound.counts in
      let a = h.retired_first c in let b = h.delivered_first c in let d = h.pulled_first c in
      omega (arith, is, a, b, d)
  drained (suc n) c t is k none =
      let once = again-before n (drain_one c) (tries t (drain_one c)) none in
      lane-rests t.0 c k
      (idle-tries (drain_one c) t (refl, refl, (refl, refl, (refl, refl, tt))) once).idle

  turned-drain : (c : ℕ) (t : Progress) → c < p.cpus → t.0.setup ≡ p → StepInvariant t.0
      → Turned p (λ m. IsEmptied m.rx.bare c) t (drain c t)
  turned-drain c t lt is k =
      let quiet =
      drain-keeps p (Quiet p t) (λ u h. h.setup) flows
      (λ u s tried h. quiet-tried p t u s tried h) c t lt
      (quiet-start p t is k) in
      record {
        quiet = quiet;
        rests = λ none.
            cpu-stays c t.0 (drain c t).0 (quiet.still none).1
            (drained (unretired t.0.rx.bare c) c t refl k none);
      }

  shipped : (n x : ℕ) (t : Progress) → unretired t.0.tx.bare x ≡ n → StepInvariant t.0
      → (again n (ship_one x) t).1 ≡ false → IsEmptied t.0.tx.bare x
  unfolding again
  shipped zero x t is k none =
      let h = k.tx.sound.counts in
      let a = h.retired_first x in let b = h.delivered_first x in let d = h.pulled_first x in
      omega (arith, is, a, b, d)
  shipped (suc n) x t is k none =
      let once = again-before n (ship_one x) (tries t (ship_one x)) none in
      tx-rests t.0 x k
      (idle-tries (ship_one x) t (refl, refl, (refl, refl, (refl, refl, tt))) once).idle

  turned-ship : (x : ℕ) (t : Progress) → x < p.txs → t.0.setup ≡ p → StepInvariant t.0
      → Turned p (λ m. IsEmptied m.tx.bare x) t (ship x t)
  turned-ship x t lt is k =
      let quiet =
      ship-keeps p (Quiet p t) (λ u h. h.setup) flows
      (λ u s tried h. quiet-tried p t u s tried h) x t lt
      (quiet-start p t is k) in
      record {
        quiet = quiet;
        rests = λ none.
            tx-stays x t.0 (ship x t).0 (quiet.still none).1
            (shipped (unretired t.0.tx.bare x) x t refl k none);
      }

  turned-serve : (a : ℕ) (t : Progress) → a < p.apps → t.0.setup ≡ p → StepInvariant t.0
      → Turned p (SenderRests a) t (serve a t)
  turned-serve a t lt is k =
      let start = quiet-start p t is k in
      let w : Progress = with_record (replying t.0 a) t in
      let noted =
      recorded-keeps p (Quiet p t) (λ u h. h.setup) flows
      (λ u s tried h. quiet-tried p t u s tried h)
      (replying t.0 a) t start in
      let named : IsNamed p (act.TEnter a) = lt-ltb a p.apps lt in
      let in' : Progress = tried w (act.TEnter a) in
      let three : List Step = act.Send a ∷ act.TWeigh a ∷ act.TPut a ∷ [] in
      let done : Progress = tries in' three in
      let first = quiet-tried p t w (act.TEnter a) (is_tried p (act.TEnter a) refl named) noted in
      let z = noted.kept.tx.sizes in
      let below : a < length w.0.tx.visits =
      (let apps = ap (λ (r : Setup). r.apps) noted.setup in omega (arith, lt, z.visits, apps)) in
      record {
        quiet = serve-keeps p (Quiet p t) (λ u h. h.setup) flows
            (λ u s tried h. quiet-tried p t u s tried h) a t lt start;
        rests = λ none. (
            let idle = idle-tries three in' (refl, refl, (refl, refl, (refl, refl, tt)))
            (tried-before done (act.TLeave a) none) in
            sender-stays a in'.0 (serve a t).0
            (still-then in'.0 done.0 (serve a t).0 (still-same in'.0 done.0 idle.same)
            (still-event done.0 (act.TLeave a) refl))
            (sender-rests in'.0 a first.kept
            (entered w.0.tx a noted.kept.tx.opened below) idle.idle));
      }

  -- ---- the turns of all actors of a kind

  record Rested (n : ℕ) (G : ℕ → Machine → Type 0) (t u : Progress) : Type 0 where
    quiet : Quiet p t u
    rests : u.1 ≡ false → (i : ℕ) → i < n → G i u.0

  each-rests : (n most : ℕ) (f : ℕ → Progress → Progress) (G : ℕ → Machine → Type 0) → n ≤ most
      → ((i : ℕ) (m n : Machine) → Still m n → G i m → G i n)
      → ((i : ℕ) (t : Progress) → i < most → t.0.setup ≡ p → StepInvariant t.0 → Turned p (G i) t
      (f i t))
      → (t : Progress) → t.0.setup ≡ p → StepInvariant t.0 → Rested n G t (for_each n f t)
  unfolding for_each
  each-rests zero most f G le stays turns t is k =
      record { quiet = quiet-start p t is k; rests = λ none i lt. absurd (omega (arith, lt)) }
  each-rests (suc n) most f G le stays turns t is k =
      let r = each-rests n most f G (omega (arith, le)) stays turns t is k in
      let u : Progress = for_each n f t in
      let one = turns n u (omega (arith, le)) r.quiet.setup r.quiet.kept in
      record {
        quiet = quiet-then p t u (f n u) r.quiet one.quiet;
        rests = λ none i lt. (
            let before = one.quiet.still none in
            elim (cases_eq i n) [
              | inl e ↦ subst (λ j. G j (f n u).0) (sym e) (one.rests none)
              | inr ne ↦ stays i u.0 (f n u).0 before.1 (r.rests before.0 i (omega (arith, lt, ne)))
            ]);
      }

-- ---- a round

pub idle_round_rests : IdleRoundRests
idle_round_rests m k none =
    let p : Setup = m.setup in
    let flows : (x : ℕ) → flow_number_of p x < 262144 = λ x. flow_small p x k.given in
    let t : Progress = (m, false) in
    let a : Progress = tried t act.Arrive in
    let b : Progress = for_each (length p.homes) poll a in
    let c : Progress = for_each p.cpus drain b in
    let d : Progress = for_each p.apps serve c in
    let e : Progress = for_each p.txs ship d in
    let came =
    quiet-tried p t t act.Arrive (is_tried p act.Arrive refl refl) (quiet-start p t refl k) in
    let polled = each-rests p flows (length p.homes) (length p.homes) poll PollerRests (omega arith)
    (λ i m n s r. poller-stays i m n s r)
    (λ i u lt is kept. turned-poll p flows i u lt is kept) a came.setup came.kept in
    let drained =
    each-rests p flows p.cpus p.cpus drain (λ i m. IsEmptied m.rx.bare i) (omega arith)
    (λ i m n s r. cpu-stays i m n s r)
    (λ i u lt is kept. turned-drain p flows i u lt is kept) b polled.quiet.setup
    polled.quiet.kept in
    let served = each-rests p flows p.apps p.apps serve SenderRests (omega arith)
    (λ i m n s r. sender-stays i m n s r)
    (λ i u lt is kept. turned-serve p flows i u lt is kept) c drained.quiet.setup
    drained.quiet.kept in
    let shipped = each-rests p flows p.txs p.txs ship (λ i m. IsEmptied m.tx.bare i) (omega arith)
    (λ i m n s r. tx-stays i m n s r)
    (λ i u lt is kept. turned-ship p flows i u lt is kept) d served.quiet.setup
    served.quiet.kept in
    let last = shipped.quiet.still none in
    let third = served.quiet.still last.0 in
    let second = drained.quiet.still third.0 in
    let first = polled.quiet.still second.0 in
    let from-c = still-then c.0 d.0 e.0 third.1 last.1 in
    let from-b = still-then b.0 c.0 e.0 second.1 from-c in
    let from-a = still-then a.0 b.0 e.0 first.1 from-b in
    let start = came.still first.0 in
    let all = still-then m a.0 e.0 start.1 from-a in
    let wire = wire-rests m k (tried-idle t act.Arrive refl first.0) in
    let setup : e.0.setup ≡ p = shipped.quiet.setup in
    record {
      arrived = rw (all.arrivals, setup) wire;
      pollers = λ q lt.
          poller-stays q b.0 e.0 from-b
          (polled.rests second.0 q (subst (λ (r : Setup). q < length r.homes) setup lt));
      cpus = λ x lt.
          cpu-stays x c.0 e.0 from-c
          (drained.rests third.0 x (subst (λ (r : Setup). x < r.cpus) setup lt));
      senders = λ x lt.
          sender-stays x d.0 e.0 last.1
          (served.rests last.0 x (subst (λ (r : Setup). x < r.apps) setup lt));
      txs = λ x lt. shipped.rests none x (subst (λ (r : Setup). x < r.txs) setup lt);
    }
