-- The actors that are not busy are at rest, through each turn of a round.
use Rattle.std.proofs.Common.{ℕ, ◌<◌, ◌≤◌, ◌≡◌, ◌≢◌, Bool, true, false, not, List, [], Option}
use Rattle.std.proofs.Common.{Some, None, length, refl, ap, ◌∙◌, sym, subst, arith, inl, inr}
use Rattle.std.specs.Prelude.{◌&&◌, ◌||◌, ◌==◌, nat_lt, slice_index, slice_index_or}
use Rattle.std.proofs.lemmas.Bool.{cases_eq, eq-eqb, lt-ltb, ne_eqb}
use Rattle.steer_base.specs.Sets.{has}
use Rattle.steer_base.specs.declared.cpu_mask.CpuMask.{CpuMask}
use Rattle.steer_base.specs.declared.step.Step.TheVariants as act
use Rattle.hop_model.specs.Events.{IsEmptied}
use Rattle.hop_model.specs.Hop.{Bare, HopState, accepted_at, arrivals_of, inside_of}
use Rattle.hop_model.specs.Hop.{out_at, placed_of, retired_at}
use Rattle.history.specs.declared.sent.Sent.{Sent}
use Rattle.steer_model.specs.State.Machine.{Machine}
use Rattle.steer_model.specs.State.Setup.{Setup}
use Rattle.steer_model.specs.Steps.CompoundSteps.{Progress, drain, poll, serve, ship}
use Rattle.steer_model.specs.Steps.Pollers.{arrive}
use Rattle.steer_core.specs.Resting.{AreMarked, OthersAreDone, PollerIsDone, SameCpu, SameSender}
use Rattle.steer_core.specs.Resting.{SameTx, SenderIsDone, next_queue}
use Rattle.steer_core.specs.declared.actors.busy.Busy.{Busy}
use Rattle.steer_core.proofs.SameLanes.{Steady, Upstream, poll-up, steady}
use Rattle.steer_core.proofs.SamePollers.{SamePoller, same-arrive, same-drain, same-poll}
use Rattle.steer_core.proofs.SamePollers.{same-serve, same-ship, stays-done}
use Rattle.steer_core.proofs.SameReplies.{Drained, Served, Shipped, drained, served, serve-beside}
use Rattle.steer_core.proofs.SameReplies.{shipped}

-- ---- actors that stay at rest

lane-stays : (s t : Bare) (c : ℕ) → accepted_at t c ≡ accepted_at s c
    → retired_at t c ≡ retired_at s c → IsEmptied s c → IsEmptied t c
lane-stays s t c accepted retired is =
    retired ∙ is ∙ ap (λ (xs : List ℕ). length xs) (sym accepted)

sender-stays : (a : ℕ) (m n : Machine) → SameSender a m n → SenderIsDone a m → SenderIsDone a n
sender-stays a m n s d =
    record {
      rests = record {
        begun = ap (λ (xs : List Sent). length xs) s.sent ∙ d.rests.begun
            ∙ ap (λ (xs : List ℕ). length xs) (sym s.inbox);
        put = s.placed ∙ d.rests.put ∙ ap (λ (xs : List ℕ). length xs) (sym s.arrivals);
      };
      outside = s.inside ∙ d.outside;
    }

-- by the transmit hop, the replies and the inboxes as a whole
sender-by : (a : ℕ) (m n : Machine) → n.tx ≡ m.tx → n.sent ≡ m.sent
    → n.rx.bare.outs ≡ m.rx.bare.outs → SameSender a m n
sender-by a m n tx sent outs =
    record {
      sent = ap (λ (ls : List (List Sent)). slice_index_or ls a []) sent;
      inbox = ap (λ (ls : List (List ℕ)). slice_index_or ls a []) outs;
      arrivals = ap (λ (s : HopState). arrivals_of s a) tx;
      placed = ap (λ (s : HopState). placed_of s a) tx;
      inside = ap (λ (s : HopState). inside_of s a) tx;
    }

tx-by : (x : ℕ) (m n : Machine) → n.tx ≡ m.tx → IsEmptied m.tx.bare x → IsEmptied n.tx.bare x
tx-by x m n tx is = subst (λ (s : HopState). IsEmptied s.bare x) (sym tx) is

cpu-by : (c : ℕ) (m n : Machine) → n.rx.bare.accepted ≡ m.rx.bare.accepted
    → n.rx.bare.retired ≡ m.rx.bare.retired → IsEmptied m.rx.bare c → IsEmptied n.rx.bare c
cpu-by c m n accepted retired is =
    lane-stays m.rx.bare n.rx.bare c
    (ap (λ (ls : List (List ℕ)). slice_index_or ls c []) accepted)
    (ap (λ (xs : List ℕ). slice_index xs c) retired) is

-- the machine of a progress
at : (P : Machine → Type 0) (n : Machine) (x : Bool) (t : Progress)
    → ◌≡◌ {A = Progress} (n, x) t → P t.0 → P n
at P n x t turn p = subst P (sym (ap (λ (u : Progress). u.0) turn)) p

here : (P : Setup → Type 0) (m n : Machine) → n.setup ≡ m.setup → P n.setup → P m.setup
here P m n setup p = subst P setup p

-- ---- numbers that leave a set

and-true : (a b : Bool) → b ≡ true → (a && b) ≡ false → a ≡ false
and-true true b e f = absurd (let g : true ≡ false = sym e ∙ f in cc)
and-true false b e f = refl

-- who is not in a set without a number was not in the set, unless it is the number
left-out : (set rest : CpuMask) (q p : ℕ)
    → ((x : ℕ) → has rest x ≡ (has set x && not (q == x))) → p ≢ q → has rest p ≡ false
    → has set p ≡ false
left-out set rest q p is other free =
    let apart : (q == p) ≡ false = ne_eqb q p (λ e. other (sym e)) in
    and-true (has set p) (not (q == p)) (ap not apart) (sym (is p) ∙ free)

-- who is below a count is in the set of the numbers below it
pub none-out : (set : CpuMask) (count n x : ℕ) → ((y : ℕ) → has set y ≡ nat_lt y count)
    → count ≡ n → x < n → has set x ≡ false → ⊥
none-out set count n x is many lt free =
    absurd (let here : nat_lt x count ≡ true = lt-ltb x count (omega (arith, lt, many)) in
    let e : true ≡ false = sym (is x ∙ here) ∙ free in cc)

-- ---- the wire

or-left : (a b : Bool) → (a || b) ≡ false → a ≡ false
or-left true b e = absurd (cc)
or-left false b e = refl

or-right : (a b : Bool) → (a || b) ≡ false → b ≡ false
or-right true b e = absurd (cc)
or-right false b e = e

module _ (m n : Machine) (busy : Busy) (to : n ≡ (arrive m).0) (setup : n.setup ≡ m.setup)
    (others : OthersAreDone busy m) where
  came : Steady m n
  came = subst (λ (o : Machine). Steady m o) (sym to) (steady m act.Arrive refl)

  arrived : (q : ℕ) → next_queue m ≢ Some q → SamePoller q m n
  arrived q other =
      subst (λ (o : Machine). SamePoller q m o) (sym to) (same-arrive q m other)

  -- with whatever pollers are busy
  with-pollers : (pollers : CpuMask)
      → ((q : ℕ) → q < length n.setup.homes → has pollers q ≡ false → PollerIsDone q n)
      → OthersAreDone (record busy { pollers = pollers }) n
  with-pollers pollers done =
      record {
        pollers = done;
        cpus = λ c lt free. cpu-by c m n came.accepted came.up.retired
            (others.cpus c (here (λ (p : Setup). c < p.cpus) m n setup lt) free);
        apps = λ a lt free. sender-stays a m n
            (sender-by a m n came.up.tx came.up.sent came.up.outs)
            (others.apps a (here (λ (p : Setup). a < p.apps) m n setup lt) free);
        txs = λ x lt free. tx-by x m n came.up.tx
            (others.txs x (here (λ (p : Setup). x < p.txs) m n setup lt) free);
      }

  -- no packet is left
  pub done-without-arrival : next_queue m ≡ None → OthersAreDone busy n
  done-without-arrival none =
      with-pollers busy.pollers (λ q lt free. stays-done q m n
      (arrived q (λ e. absurd (let f : ◌≡◌ {A = Option ℕ} None (Some q) = sym none ∙ e in cc)))
      (others.pollers q (here (λ (p : Setup). q < length p.homes) m n setup lt) free))

  -- a packet arrives at a queue, whose poller is busy then
  pub done-after-arrival : (queue : ℕ) (more : CpuMask) → length m.setup.homes ≤ 16
      → next_queue m ≡ Some queue
      → ((x : ℕ) → has more x ≡ (has busy.pollers x || (nat_lt x 32 && queue == x)))
      → OthersAreDone (record busy { pollers = more }) n
  done-after-arrival queue more few is members =
      with-pollers more (λ q lt free. (
      let lt' : q < length m.setup.homes = here (λ (p : Setup). q < length p.homes) m n setup lt in
      let none : (has busy.pollers q || (nat_lt q 32 && queue == q)) ≡ false =
      sym (members q) ∙ free in
      let below : nat_lt q 32 ≡ true = lt-ltb q 32 (omega (arith, few, lt')) in
      let apart : (queue == q) ≡ false =
      (let r = or-right (has busy.pollers q) (nat_lt q 32 && queue == q) none in
      let b : (nat_lt q 32 && queue == q) ≡ (queue == q) =
      ap (λ (b : Bool). b && queue == q) below in
      sym b ∙ r) in
      let other : next_queue m ≢ Some q =
      λ e. absurd (
      let f : ◌≡◌ {A = Option ℕ} (Some queue) (Some q) = sym is ∙ e in
      let g : queue ≡ q = (cc) in
      let h : (queue == q) ≡ true = eq-eqb queue q g in
      let z : true ≡ false = sym h ∙ apart in cc) in
      stays-done q m n (arrived q other)
      (others.pollers q lt' (or-left (has busy.pollers q) _ none))))

-- ---- the turn of a poller

module _ (m n : Machine) (q : ℕ) (w x : Bool) (busy : Busy) (cpus : CpuMask)
    (turn : ◌≡◌ {A = Progress} (n, x) (poll q (m, w))) (setup : n.setup ≡ m.setup)
    (marked : AreMarked m.setup.cpus busy.cpus cpus (λ c. SameCpu c m n))
    (others : OthersAreDone busy m) where
  polled : Upstream m n
  polled = at (λ (o : Machine). Upstream m o) n x _ turn (poll-up q (m, w))

  other-done : (p : ℕ) → p ≢ q → p < length n.setup.homes → has busy.pollers p ≡ false
      → PollerIsDone p n
  other-done p other lt free =
      stays-done p m n
      (at (λ (o : Machine). SamePoller p m o) n x _ turn (same-poll p q (m, w) other))
      (others.pollers p (here (λ (s : Setup). p < length s.homes) m n setup lt) free)

  beyond : (pollers : CpuMask)
      → ((p : ℕ) → p < length n.setup.homes → has pollers p ≡ false → PollerIsDone p n)
      → OthersAreDone (record busy { pollers = pollers; cpus = cpus }) n
  beyond pollers done =
      record {
        pollers = done;
        cpus = λ c lt free. (
            let lt' : c < m.setup.cpus = here (λ (p : Setup). c < p.cpus) m n setup lt in
            let k = marked c lt' free in
            lane-stays m.rx.bare n.rx.bare c k.1.accepted k.1.retired (others.cpus c lt' k.0));
        apps = λ a lt free. sender-stays a m n
            (sender-by a m n polled.tx polled.sent polled.outs)
            (others.apps a (here (λ (p : Setup). a < p.apps) m n setup lt) free);
        txs = λ x lt free. tx-by x m n polled.tx
            (others.txs x (here (λ (p : Setup). x < p.txs) m n setup lt) free);
      }

  -- it stays busy
  pub busy-after-poll : has busy.pollers q ≡ true → OthersAreDone (record busy { cpus = cpus }) n
  busy-after-poll is =
      beyond busy.pollers (λ p lt free.
      other-done p (λ e. absurd (
      let f : has busy.pollers p ≡ true = ap (λ y. has busy.pollers y) e ∙ is in
      let g : true ≡ false = sym f ∙ free in cc)) lt free)

  -- it is done, and busy no longer
  pub done-after-poll : (rest : CpuMask) → PollerIsDone q n
      → ((y : ℕ) → has rest y ≡ (has busy.pollers y && not (q == y)))
      → OthersAreDone (record busy { pollers = rest; cpus = cpus }) n
  done-after-poll rest done is =
      beyond rest (λ p lt free. elim (cases_eq p q) [
        | inl e ↦ subst (λ y. PollerIsDone y n) (sym e) done
        | inr other ↦ other-done p other lt (left-out busy.pollers rest q p is other free)
      ])

-- ---- the turn of a processor

module _ (m n : Machine) (c : ℕ) (w x : Bool) (busy : Busy) (apps : CpuMask)
    (turn : ◌≡◌ {A = Progress} (n, x) (drain c (m, w))) (setup : n.setup ≡ m.setup)
    (marked : AreMarked m.setup.apps busy.apps apps (λ a. SameSender a m n))
    (others : OthersAreDone busy m) where
  was-drained : Drained c m n
  was-drained = at (λ (o : Machine). Drained c m o) n x _ turn (drained c (m, w))

  after-drain : (cpus : CpuMask)
      → ((d : ℕ) → d < n.setup.cpus → has cpus d ≡ false → IsEmptied n.rx.bare d)
      → OthersAreDone (record busy { cpus = cpus; apps = apps }) n
  after-drain cpus done =
      record {
        pollers = λ q lt free. (
            let lt' : q < length m.setup.homes =
            here (λ (p : Setup). q < length p.homes) m n setup lt in
            stays-done q m n
            (at (λ (o : Machine). SamePoller q m o) n x _ turn (same-drain q c (m, w)))
            (others.pollers q lt' free));
        cpus = done;
        apps = λ a lt free. (
            let lt' : a < m.setup.apps = here (λ (p : Setup). a < p.apps) m n setup lt in
            let k = marked a lt' free in sender-stays a m n k.1 (others.apps a lt' k.0));
        txs = λ y lt free. tx-by y m n was-drained.tx
            (others.txs y (here (λ (p : Setup). y < p.txs) m n setup lt) free);
      }

  other-lane : (d : ℕ) → c ≢ d → d < n.setup.cpus → has busy.cpus d ≡ false
      → IsEmptied n.rx.bare d
  other-lane d other lt free =
      lane-stays m.rx.bare n.rx.bare d
      (ap (λ (ls : List (List ℕ)). slice_index_or ls d []) was-drained.accepted)
      (was-drained.retired d other)
      (others.cpus d (here (λ (p : Setup). d < p.cpus) m n setup lt) free)

  pub busy-after-drain : has busy.cpus c ≡ true → OthersAreDone (record busy { apps = apps }) n
  busy-after-drain is =
      after-drain busy.cpus (λ d lt free.
      other-lane d (λ e. absurd (
      let f : has busy.cpus d ≡ true = ap (λ y. has busy.cpus y) (sym e) ∙ is in
      let g : true ≡ false = sym f ∙ free in cc)) lt free)

  pub done-after-drain : (rest : CpuMask) → IsEmptied n.rx.bare c
      → ((y : ℕ) → has rest y ≡ (has busy.cpus y && not (c == y)))
      → OthersAreDone (record busy { cpus = rest; apps = apps }) n
  done-after-drain rest empty is =
      after-drain rest (λ d lt free. elim (cases_eq d c) [
        | inl e ↦ subst (λ y. IsEmptied n.rx.bare y) (sym e) empty
        | inr other ↦
            other-lane d (λ e. other (sym e)) lt (left-out busy.cpus rest c d is other free)
      ])

-- ---- the turn of an application

module _ (m n : Machine) (a : ℕ) (w x : Bool) (busy : Busy) (txs : CpuMask)
    (turn : ◌≡◌ {A = Progress} (n, x) (serve a (m, w))) (setup : n.setup ≡ m.setup)
    (marked : AreMarked m.setup.txs busy.txs txs (λ y. SameTx y m n))
    (others : OthersAreDone busy m) where
  was-served : Served m n
  was-served = at (λ (o : Machine). Served m o) n x _ turn (served a (m, w))

  after-serve : (apps : CpuMask)
      → ((b : ℕ) → b < n.setup.apps → has apps b ≡ false → SenderIsDone b n)
      → OthersAreDone (record busy { apps = apps; txs = txs }) n
  after-serve apps done =
      record {
        pollers = λ q lt free. (
            let lt' : q < length m.setup.homes =
            here (λ (p : Setup). q < length p.homes) m n setup lt in
            stays-done q m n
            (at (λ (o : Machine). SamePoller q m o) n x _ turn (same-serve q a (m, w) lt'))
            (others.pollers q lt' free));
        cpus = λ c lt free. cpu-by c m n was-served.accepted was-served.retired
            (others.cpus c (here (λ (p : Setup). c < p.cpus) m n setup lt) free);
        apps = done;
        txs = λ y lt free. (
            let lt' : y < m.setup.txs = here (λ (p : Setup). y < p.txs) m n setup lt in
            let k = marked y lt' free in
            lane-stays m.tx.bare n.tx.bare y k.1.accepted k.1.retired (others.txs y lt' k.0));
      }

  other-sender : (b : ℕ) → b ≢ a → b < n.setup.apps → has busy.apps b ≡ false
      → SenderIsDone b n
  other-sender b other lt free =
      let k = serve-beside b a (m, w) other in
      let same : SameSender b m (serve a (m, w)).0 =
      record {
        sent = k.sent;
        inbox = ap (λ (ls : List (List ℕ)). slice_index_or ls b []) (served a (m, w)).outs;
        arrivals = k.tx.arrivals;
        placed = k.tx.placed;
        inside = k.tx.inside;
      } in
      sender-stays b m n (at (λ (o : Machine). SameSender b m o) n x _ turn same)
      (others.apps b (here (λ (p : Setup). b < p.apps) m n setup lt) free)

  pub busy-after-serve : has busy.apps a ≡ true → OthersAreDone (record busy { txs = txs }) n
  busy-after-serve is =
      after-serve busy.apps (λ b lt free.
      other-sender b (λ e. absurd (
      let f : has busy.apps b ≡ true = ap (λ y. has busy.apps y) e ∙ is in
      let g : true ≡ false = sym f ∙ free in cc)) lt free)

  pub done-after-serve : (rest : CpuMask) → SenderIsDone a n
      → ((y : ℕ) → has rest y ≡ (has busy.apps y && not (a == y)))
      → OthersAreDone (record busy { apps = rest; txs = txs }) n
  done-after-serve rest done is =
      after-serve rest (λ b lt free. elim (cases_eq b a) [
        | inl e ↦ subst (λ y. SenderIsDone y n) (sym e) done
        | inr other ↦ other-sender b other lt (left-out busy.apps rest a b is other free)
      ])

-- ---- the turn of a transmit queue

module _ (m n : Machine) (y : ℕ) (w x : Bool) (busy : Busy)
    (turn : ◌≡◌ {A = Progress} (n, x) (ship y (m, w))) (setup : n.setup ≡ m.setup)
    (others : OthersAreDone busy m) where
  was-shipped : Shipped y m n
  was-shipped = at (λ (o : Machine). Shipped y m o) n x _ turn (shipped y (m, w))

  after-ship : (txs : CpuMask)
      → ((d : ℕ) → d < n.setup.txs → has txs d ≡ false → IsEmptied n.tx.bare d)
      → OthersAreDone (record busy { txs = txs }) n
  after-ship txs done =
      record {
        pollers = λ q lt free. (
            let lt' : q < length m.setup.homes =
            here (λ (p : Setup). q < length p.homes) m n setup lt in
            stays-done q m n
            (at (λ (o : Machine). SamePoller q m o) n x _ turn (same-ship q y (m, w)))
            (others.pollers q lt' free));
        cpus = λ c lt free. subst (λ (s : HopState). IsEmptied s.bare c) (sym was-shipped.rx)
            (others.cpus c (here (λ (p : Setup). c < p.cpus) m n setup lt) free);
        apps = λ a lt free. sender-stays a m n (record {
          sent = ap (λ (ls : List (List Sent)). slice_index_or ls a []) was-shipped.sent;
          inbox = ap (λ (s : HopState). out_at s.bare a) was-shipped.rx;
          arrivals =
              ap (λ (ls : List (List ℕ)). slice_index_or ls a []) was-shipped.arrivals;
          placed = ap (λ (xs : List ℕ). slice_index xs a) was-shipped.placed;
          inside =
              ap (λ (v : List Bool). slice_index_or v a false) was-shipped.visits;
        })
            (others.apps a (here (λ (p : Setup). a < p.apps) m n setup lt) free);
        txs = done;
      }

  other-tx : (d : ℕ) → y ≢ d → d < n.setup.txs → has busy.txs d ≡ false
      → IsEmptied n.tx.bare d
  other-tx d other lt free =
      lane-stays m.tx.bare n.tx.bare d
      (ap (λ (ls : List (List ℕ)). slice_index_or ls d []) was-shipped.accepted)
      (was-shipped.retired d other)
      (others.txs d (here (λ (p : Setup). d < p.txs) m n setup lt) free)

  pub busy-after-ship : has busy.txs y ≡ true → OthersAreDone busy n
  busy-after-ship is =
      after-ship busy.txs (λ d lt free.
      other-tx d (λ e. absurd (
      let f : has busy.txs d ≡ true = ap (λ z. has busy.txs z) (sym e) ∙ is in
      let g : true ≡ false = sym f ∙ free in cc)) lt free)

  pub done-after-ship : (rest : CpuMask) → IsEmptied n.tx.bare y
      → ((z : ℕ) → has rest z ≡ (has busy.txs z && not (y == z)))
      → OthersAreDone (record busy { txs = rest }) n
  done-after-ship rest empty is =
      after-ship rest (λ d lt free. elim (cases_eq d y) [
        | inl e ↦ subst (λ z. IsEmptied n.tx.bare z) (sym e) empty
        | inr other ↦
            other-tx d (λ e. other (sym e)) lt (left-out busy.txs rest y d is other free)
      ])
