-- What the turns of processors, of applications and of transmit queues leave of the others.
use Rattle.std.proofs.Common.{ℕ, ◌+◌, ◌≡◌, ◌≢◌, Bool, true, false, List, []}
use Rattle.std.proofs.Common.{Option, Some, None, length, refl, ap, ◌∙◌, sym, subst}
use Rattle.std.proofs.Common.{suc, zero, cond}
use Rattle.std.specs.Prelude.{◌%◌, nat_lt, slice_index, slice_index_or}
use Rattle.std.proofs.lemmas.List.{get_or-set_other}
use Rattle.steer_base.specs.declared.command.Answer.TheVariants as says
use Rattle.steer_base.specs.declared.idle.Idle.TheVariants as idle
use Rattle.steer_base.specs.declared.step.Step.{Step}
use Rattle.steer_base.specs.declared.step.Step.TheVariants as act
use Rattle.hop_model.specs.declared.event.HopEvent.{HopEvent}
use Rattle.hop_model.specs.declared.event.HopEvent.TheVariants as event
use Rattle.hop_model.specs.declared.event.HopAnswer.TheVariants as answer
use Rattle.hop_model.specs.Events.{Outcome, happens, idles}
use Rattle.hop_model.specs.Hop.{HopState, arrivals_of, deliver_at, delivered_at}
use Rattle.hop_model.specs.Hop.{inside_of, out_at, placed_of, pulled_at, retired_at, taken_of}
use Rattle.hop_model.specs.Hop.{with_bare}
use Rattle.hop_core.specs.Leaves.{Field, changes}
use Rattle.hop_core.proofs.Leaves.{each_leaves}
use Rattle.hop_core.proofs.Others.{each_leaves_lanes}
use Rattle.history.specs.declared.sent.Sent.{Sent}
use Rattle.steer_model.specs.State.Machine.{Machine, last_chosen}
use Rattle.steer_model.specs.State.Setup.{app_for, flow_hash, flow_number_of, packet_hash}
use Rattle.steer_model.specs.Steps.Applications.{in_lane, in_reply, next_in, record_by}
use Rattle.steer_model.specs.Steps.Applications.{send_by, sending, sent_of, visited, wrote}
use Rattle.steer_model.specs.Steps.CompoundSteps.{Progress, again, drain, drain_one, replying}
use Rattle.steer_model.specs.Steps.CompoundSteps.{serve, ship, ship_one, tried, tries, with_record}
use Rattle.steer_model.specs.Steps.Outcomes.{StepOutcome, idle_step}
use Rattle.steer_model.specs.Steps.SingleSteps.{simple}
use Rattle.steer_invariant.proofs.EitherLemmas.{either}
use Rattle.steer_core.specs.Resting.{PutsBeside, SameSender, SameTx}
use Rattle.steer_core.proofs.SameLanes.{put-beside}
use Rattle.steer_core.proofs.SamePollers.{SameIn, beside, enter-other, leave-other}

-- ---- a processor

-- what its events leave
pub record Drained (c : ℕ) (m n : Machine) : Type 0 where
  pub tx : n.tx ≡ m.tx
  pub sent : n.sent ≡ m.sent
  pub accepted : n.rx.bare.accepted ≡ m.rx.bare.accepted
  pub retired : (d : ℕ) → c ≢ d → retired_at n.rx.bare d ≡ retired_at m.rx.bare d

drained-refl : (c : ℕ) (m : Machine) → Drained c m m
drained-refl c m = record { tx = refl; sent = refl; accepted = refl; retired = λ d ne. refl }

drained-trans : (c : ℕ) (m n o : Machine) → Drained c m n → Drained c n o → Drained c m o
drained-trans c m n o a b =
    record {
      tx = b.tx ∙ a.tx;
      sent = b.sent ∙ a.sent;
      accepted = b.accepted ∙ a.accepted;
      retired = λ d ne. b.retired d ne ∙ a.retired d ne;
    }

some-same : (a b : ℕ) → ◌≡◌ {A = Option ℕ} (Some a) (Some b) → a ≡ b
some-same a b e = cc

module _ (c : ℕ) (m : Machine) where
  quietly : (e : HopEvent) → changes e Field.accepted ≡ false → changes e Field.retired ≡ false
      → Drained c m (record m { rx = (happens m.rx e).0 })
  quietly e a r =
      record {
        tx = refl;
        sent = refl;
        accepted = each_leaves m.rx e Field.accepted a;
        retired = λ d ne.
            ap (λ (xs : List ℕ). slice_index xs d) (each_leaves m.rx e Field.retired r);
      }

  of-retire : Drained c m (simple m (act.Retire c)).0
  of-retire =
      record {
        tx = refl;
        sent = refl;
        accepted = each_leaves m.rx (event.Retire c) Field.accepted refl;
        retired = λ d ne.
            (each_leaves_lanes m.rx (event.Retire c) d (λ e. ne (some-same c d e))).retired;
      }

drained-one : (c : ℕ) (t : Progress) → Drained c t.0 (tries t (drain_one c)).0
drained-one c t =
    let a : Progress = tried t (act.Pull c) in
    let b : Progress = tried a (act.Deliver c) in
    drained-trans c t.0 b.0 (tries t (drain_one c)).0
    (drained-trans c t.0 a.0 b.0 (quietly c t.0 (event.Pull c) refl refl)
    (quietly c a.0 (event.Deliver c (app_for a.0.setup (in_lane a.0.rx c))) refl refl))
    (of-retire c b.0)

drained-again : (c n : ℕ) (t : Progress) → Drained c t.0 (again n (drain_one c) t).0
unfolding again
drained-again c zero t = drained-refl c t.0
drained-again c (suc n) t =
    let u : Progress = tries t (drain_one c) in
    drained-trans c t.0 u.0 (again n (drain_one c) u).0 (drained-one c t) (drained-again c n u)

pub drained : (c : ℕ) (t : Progress) → Drained c t.0 (drain c t).0
drained c t = drained-again c _ t

-- ---- the applications that a processor leaves

pub sender-refl : (a : ℕ) (m : Machine) → SameSender a m m
sender-refl a m =
    record { sent = refl; inbox = refl; arrivals = refl; placed = refl; inside = refl }

pub sender-trans : (a : ℕ) (m n o : Machine) → SameSender a m n → SameSender a n o
    → SameSender a m o
sender-trans a m n o x y =
    record {
      sent = y.sent ∙ x.sent;
      inbox = y.inbox ∙ x.inbox;
      arrivals = y.arrivals ∙ x.arrivals;
      placed = y.placed ∙ x.placed;
      inside = y.inside ∙ x.inside;
    }

along : (a : ℕ) (m n o : Machine) → n ≡ o → SameSender a m o → SameSender a m n
along a m n o to s = subst (λ (k : Machine). SameSender a m k) (sym to) s

-- by an event of the receive hop that delivers nothing to it
by-outs : (a : ℕ) (m : Machine) (t : HopState) → out_at t.bare a ≡ out_at m.rx.bare a
    → SameSender a m (record m { rx = t })
by-outs a m t outs =
    record { sent = refl; inbox = outs; arrivals = refl; placed = refl; inside = refl }

whole-outs : (a : ℕ) (s : HopState) (e : HopEvent) → changes e Field.outs ≡ false
    → out_at (happens s e).0.bare a ≡ out_at s.bare a
whole-outs a s e still =
    ap (λ (ls : List (List ℕ)). slice_index_or ls a []) (each_leaves s e Field.outs still)

pub sender-pull : (a c : ℕ) (m n : Machine) → n ≡ (simple m (act.Pull c)).0 → SameSender a m n
sender-pull a c m n to =
    along a m n _ to (by-outs a m _ (whole-outs a m.rx (event.Pull c) refl))

pub sender-retire : (a c : ℕ) (m n : Machine) → n ≡ (simple m (act.Retire c)).0
    → SameSender a m n
sender-retire a c m n to =
    along a m n _ to (by-outs a m _ (whole-outs a m.rx (event.Retire c) refl))

deliver-other : (a c o : ℕ) (s : HopState) → a ≢ o
    → out_at (happens s (event.Deliver c o)).0.bare a ≡ out_at s.bare a
deliver-other a c o s ne =
    let Q : Outcome → Type 0 = λ r. out_at r.0.bare a ≡ out_at s.bare a in
    let went : Outcome =
    (with_bare s (deliver_at s.bare c o), answer.Position (length (out_at s.bare o) + 1)) in
    let late : Bool = nat_lt (retired_at s.bare c) (delivered_at s.bare c) in
    let rest : Outcome =
    cond late (idles s idle.AlreadyDelivered) (idles s idle.HandEmpty) in
    either Q (nat_lt (delivered_at s.bare c) (pulled_at s.bare c)) went rest
    (λ some. get_or-set_other s.bare.outs o a _ [] ne)
    (λ none. either Q late (idles s idle.AlreadyDelivered) (idles s idle.HandEmpty) (λ e. refl)
    (λ e. refl))

pub sender-deliver : (a c : ℕ) (m n : Machine) → a ≢ app_for m.setup (in_lane m.rx c)
    → n ≡ (simple m (act.Deliver c)).0 → SameSender a m n
sender-deliver a c m n ne to =
    along a m n _ to
    (by-outs a m _ (deliver-other a c (app_for m.setup (in_lane m.rx c)) m.rx ne))

-- ---- an application

-- what its turn leaves of the receive hop
pub record Served (m n : Machine) : Type 0 where
  pub accepted : n.rx.bare.accepted ≡ m.rx.bare.accepted
  pub retired : n.rx.bare.retired ≡ m.rx.bare.retired
  pub outs : n.rx.bare.outs ≡ m.rx.bare.outs

served-refl : (m : Machine) → Served m m
served-refl m = record { accepted = refl; retired = refl; outs = refl }

served-trans : (m n o : Machine) → Served m n → Served n o → Served m o
served-trans m n o a b =
    record {
      accepted = b.accepted ∙ a.accepted;
      retired = b.retired ∙ a.retired;
      outs = b.outs ∙ a.outs;
    }

-- who enters or leaves a hop leaves its lanes
by-gate : (s : HopState) (e : HopEvent) → changes e Field.accepted ≡ false
    → changes e Field.retired ≡ false → changes e Field.outs ≡ false
    → ((happens s e).0.bare.accepted ≡ s.bare.accepted)
    × ((happens s e).0.bare.retired ≡ s.bare.retired)
    × ((happens s e).0.bare.outs ≡ s.bare.outs)
by-gate s e a r o = (
  each_leaves s e Field.accepted a,
  each_leaves s e Field.retired r,
  each_leaves s e Field.outs o,
)

-- a record leaves the transmit hop and the replies, too
pub record Recorded (m n : Machine) : Type 0 where
  pub served : Served m n
  pub tx : n.tx ≡ m.tx
  pub sent : n.sent ≡ m.sent

recorded-refl : (m : Machine) → Recorded m m
recorded-refl m = record { served = served-refl m; tx = refl; sent = refl }

by-record : (m : Machine) (hash : Option (Option ℕ)) → Recorded m (record_by m hash).0
by-record m None = recorded-refl m
by-record m (Some None) = recorded-refl m
by-record m (Some (Some hash)) =
    let a : ℕ = hash % m.setup.apps in
    let g : ℕ = length m.setup.homes + a in
    let t : HopState = (happens m.rx (event.Enter g)).0 in
    let one = by-gate m.rx (event.Enter g) refl refl refl in
    let two = by-gate t (event.Leave g) refl refl refl in
    either (λ (o : StepOutcome). Recorded m o.0) (nat_lt 0 (length m.socket))
    (wrote (visited m a) a hash, says.Done)
    (idle_step m idle.NoTable)
    (λ full. record {
      served = record {
        accepted = two.0 ∙ one.0;
        retired = two.1 ∙ one.1;
        outs = two.2 ∙ one.2;
      };
      tx = refl;
      sent = refl;
    })
    (λ empty. recorded-refl m)

pub with-record : (o : Option ℕ) (t : Progress) → Recorded t.0 (with_record o t).0
with-record None t = recorded-refl t.0
with-record (Some x) t = by-record t.0 (flow_hash t.0.setup (flow_number_of t.0.setup x))

-- whether a step is one of an application
abbrev is_of_app : Step → Bool
is_of_app (act.Send a) = true
is_of_app (act.TEnter a) = true
is_of_app (act.TLeave a) = true
is_of_app (act.TWeigh a) = true
is_of_app (act.TPut a) = true
is_of_app _ = false

send-rx : (m : Machine) (a : ℕ) (x : Option ℕ) → (send_by m a x).0.rx ≡ m.rx
send-rx m a None = refl
send-rx m a (Some x) = refl

rx-same : (m : Machine) (s : Step) → is_of_app s ≡ true → (simple m s).0.rx ≡ m.rx
rx-same m (act.Send a) is =
    either (λ (o : StepOutcome). o.0.rx ≡ m.rx) (nat_lt (placed_of m.tx a) (taken_of m.tx a))
    (idle_step m idle.HandFull) (send_by m a (next_in m a)) (λ full. refl)
    (λ free. send-rx m a (next_in m a))
rx-same m (act.TEnter a) is = refl
rx-same m (act.TLeave a) is = refl
rx-same m (act.TWeigh a) is = refl
rx-same m (act.TPut a) is = refl
rx-same m _ is = absurd (cc)

served-by : (m n : Machine) → n.rx ≡ m.rx → Served m n
served-by m n rx =
    record {
      accepted = ap (λ (s : HopState). s.bare.accepted) rx;
      retired = ap (λ (s : HopState). s.bare.retired) rx;
      outs = ap (λ (s : HopState). s.bare.outs) rx;
    }

pub served : (a : ℕ) (t : Progress) → Served t.0 (serve a t).0
served a t =
    let u : Progress = with_record (replying t.0 a) t in
    let b : Progress = tried u (act.TEnter a) in
    let c : Progress = tried b (act.Send a) in
    let d : Progress = tried c (act.TWeigh a) in
    let e : Progress = tried d (act.TPut a) in
    let rx : (serve a t).0.rx ≡ u.0.rx =
    rx-same e.0 (act.TLeave a) refl ∙ rx-same d.0 (act.TPut a) refl
    ∙ rx-same c.0 (act.TWeigh a) refl ∙ rx-same b.0 (act.Send a) refl
    ∙ rx-same u.0 (act.TEnter a) refl in
    served-trans t.0 u.0 (serve a t).0 (with-record (replying t.0 a) t).served
    (served-by u.0 (serve a t).0 rx)

-- ---- the other applications

-- the transmit hop and the replies of another application
pub record Beside (b : ℕ) (m n : Machine) : Type 0 where
  pub tx : SameIn b m.tx n.tx
  pub sent : sent_of n b ≡ sent_of m b

beside-refl : (b : ℕ) (m : Machine) → Beside b m m
beside-refl b m =
    record { tx = record { arrivals = refl; placed = refl; inside = refl }; sent = refl }

beside-trans : (b : ℕ) (m n o : Machine) → Beside b m n → Beside b n o → Beside b m o
beside-trans b m n o x y =
    record {
      tx = record {
        arrivals = y.tx.arrivals ∙ x.tx.arrivals;
        placed = y.tx.placed ∙ x.tx.placed;
        inside = y.tx.inside ∙ x.tx.inside;
      };
      sent = y.sent ∙ x.sent;
    }

module _ (b a : ℕ) (other : b ≢ a) (m : Machine) where
  abbrev Leaves : StepOutcome → Type 0
  Leaves o = Beside b m o.0

  not-same : Some a ≢ Some b
  not-same e = other (sym (some-same a b e))

  by-tx : (t : HopState) → SameIn b m.tx t → Beside b m (record m { tx = t })
  by-tx t s = record { tx = s; sent = refl }

  of-send : (x : Option ℕ) → Leaves (send_by m a x)
  of-send None = beside-refl b m
  of-send (Some x) =
      let t : HopState = (happens m.tx (event.Arrive a x)).0 in
      let one = beside b m.tx (event.Arrive a x) not-same refl in
      let two = beside b t (event.Take a) not-same refl in
      record {
        tx = record {
          arrivals = two.arrivals ∙ one.arrivals;
          placed = two.placed ∙ one.placed;
          inside = two.inside ∙ one.inside;
        };
        sent = get_or-set_other m.sent a b _ [] other;
      }

  send-beside : Leaves (simple m (act.Send a))
  send-beside =
      either Leaves (nat_lt (placed_of m.tx a) (taken_of m.tx a)) (idle_step m idle.HandFull)
      (send_by m a (next_in m a)) (λ full. beside-refl b m) (λ free. of-send (next_in m a))

  enter-beside : Leaves (simple m (act.TEnter a))
  enter-beside = by-tx _ (enter-other b a m.tx other)

  leave-beside : Leaves (simple m (act.TLeave a))
  leave-beside = by-tx _ (leave-other b a m.tx other)

  weigh-beside : Leaves (simple m (act.TWeigh a))
  weigh-beside = by-tx _ (beside b m.tx (sending m a (in_reply m a)) not-same refl)

  put-other : Leaves (simple m (act.TPut a))
  put-other =
      by-tx _
      (beside b m.tx (event.Put a (packet_hash m.setup (last_chosen m.tx a).id)) not-same refl)

pub serve-beside : (b a : ℕ) (t : Progress) → b ≢ a → Beside b t.0 (serve a t).0
serve-beside b a t other =
    let u : Progress = with_record (replying t.0 a) t in
    let c : Progress = tried u (act.TEnter a) in
    let d : Progress = tried c (act.Send a) in
    let e : Progress = tried d (act.TWeigh a) in
    let f : Progress = tried e (act.TPut a) in
    let r = with-record (replying t.0 a) t in
    let first : Beside b t.0 u.0 =
    record {
      tx = record {
        arrivals = ap (λ (s : HopState). arrivals_of s b) r.tx;
        placed = ap (λ (s : HopState). placed_of s b) r.tx;
        inside = ap (λ (s : HopState). inside_of s b) r.tx;
      };
      sent = ap (λ (ls : List (List Sent)). slice_index_or ls b []) r.sent;
    } in
    let on : (m n : Machine) → Beside b t.0 m → Beside b m n → Beside b t.0 n =
    λ m n one two. beside-trans b t.0 m n one two in
    on f.0 (serve a t).0
    (on e.0 f.0
    (on d.0 e.0
    (on c.0 d.0 (on u.0 c.0 first (enter-beside b a other u.0)) (send-beside b a other c.0))
    (weigh-beside b a other d.0))
    (put-other b a other e.0))
    (leave-beside b a other f.0)

-- ---- the transmit queues that an application leaves

-- what each of its events but a put leaves of the lanes
pub record Still (m n : Machine) : Type 0 where
  pub accepted : n.tx.bare.accepted ≡ m.tx.bare.accepted
  pub retired : n.tx.bare.retired ≡ m.tx.bare.retired

module _ (m : Machine) where
  still-by : (n : Machine) (e : HopEvent) → n.tx ≡ (happens m.tx e).0
      → changes e Field.accepted ≡ false → changes e Field.retired ≡ false → Still m n
  still-by n e to a r =
      record {
        accepted = ap (λ (s : HopState). s.bare.accepted) to ∙ each_leaves m.tx e Field.accepted a;
        retired = ap (λ (s : HopState). s.bare.retired) to ∙ each_leaves m.tx e Field.retired r;
      }

  still-send : (a : ℕ) (x : Option ℕ) → Still m (send_by m a x).0
  still-send a None = record { accepted = refl; retired = refl }
  still-send a (Some x) =
      let t : HopState = (happens m.tx (event.Arrive a x)).0 in
      record {
        accepted = each_leaves t (event.Take a) Field.accepted refl
            ∙ each_leaves m.tx (event.Arrive a x) Field.accepted refl;
        retired = each_leaves t (event.Take a) Field.retired refl
            ∙ each_leaves m.tx (event.Arrive a x) Field.retired refl;
      }

-- whether a step is one of an application that puts no reply
abbrev is_still : Step → Bool
is_still (act.Send a) = true
is_still (act.TEnter a) = true
is_still (act.TLeave a) = true
is_still (act.TWeigh a) = true
is_still _ = false

still : (m : Machine) (s : Step) → is_still s ≡ true → Still m (simple m s).0
still m (act.Send a) is =
    either (λ (o : StepOutcome). Still m o.0) (nat_lt (placed_of m.tx a) (taken_of m.tx a))
    (idle_step m idle.HandFull) (send_by m a (next_in m a))
    (λ full. record { accepted = refl; retired = refl })
    (λ free. still-send m a (next_in m a))
still m (act.TEnter a) is = still-by m _ (event.Enter a) refl refl refl
still m (act.TLeave a) is = still-by m _ (event.Leave a) refl refl refl
still m (act.TWeigh a) is = still-by m _ (sending m a (in_reply m a)) refl refl refl
still m _ is = absurd (cc)

pub tx-refl : (x : ℕ) (m : Machine) → SameTx x m m
tx-refl x m = record { accepted = refl; retired = refl }

pub tx-trans : (x : ℕ) (m n o : Machine) → SameTx x m n → SameTx x n o → SameTx x m o
tx-trans x m n o a b =
    record { accepted = b.accepted ∙ a.accepted; retired = b.retired ∙ a.retired }

tx-along : (x : ℕ) (m n o : Machine) → n ≡ o → SameTx x m o → SameTx x m n
tx-along x m n o to s = subst (λ (k : Machine). SameTx x m k) (sym to) s

pub tx-still : (x : ℕ) (m n : Machine) (s : Step) → is_still s ≡ true → n ≡ (simple m s).0
    → SameTx x m n
tx-still x m n s is to =
    let k = still m s is in
    tx-along x m n _ to (record {
      accepted = ap (λ (ls : List (List ℕ)). slice_index_or ls x []) k.accepted;
      retired = ap (λ (xs : List ℕ). slice_index xs x) k.retired;
    })

pub tx-put : (x a : ℕ) (m n : Machine) → PutsBeside m.tx a x → n ≡ (simple m (act.TPut a)).0
    → SameTx x m n
tx-put x a m n other to =
    let e : HopEvent = event.Put a (packet_hash m.setup (last_chosen m.tx a).id) in
    tx-along x m n _ to (record {
      accepted = put-beside m.tx a x (packet_hash m.setup (last_chosen m.tx a).id) other;
      retired =
          ap (λ (xs : List ℕ). slice_index xs x) (each_leaves m.tx e Field.retired refl);
    })

-- ---- a transmit queue

-- what its events leave
pub record Shipped (x : ℕ) (m n : Machine) : Type 0 where
  pub rx : n.rx ≡ m.rx
  pub sent : n.sent ≡ m.sent
  pub accepted : n.tx.bare.accepted ≡ m.tx.bare.accepted
  pub arrivals : n.tx.arrivals ≡ m.tx.arrivals
  pub placed : n.tx.placed ≡ m.tx.placed
  pub visits : n.tx.visits ≡ m.tx.visits
  pub retired : (d : ℕ) → x ≢ d → retired_at n.tx.bare d ≡ retired_at m.tx.bare d

shipped-refl : (x : ℕ) (m : Machine) → Shipped x m m
shipped-refl x m =
    record {
      rx = refl;
      sent = refl;
      accepted = refl;
      arrivals = refl;
      placed = refl;
      visits = refl;
      retired = λ d ne. refl;
    }

shipped-trans : (x : ℕ) (m n o : Machine) → Shipped x m n → Shipped x n o → Shipped x m o
shipped-trans x m n o a b =
    record {
      rx = b.rx ∙ a.rx;
      sent = b.sent ∙ a.sent;
      accepted = b.accepted ∙ a.accepted;
      arrivals = b.arrivals ∙ a.arrivals;
      placed = b.placed ∙ a.placed;
      visits = b.visits ∙ a.visits;
      retired = λ d ne. b.retired d ne ∙ a.retired d ne;
    }

module _ (x : ℕ) (m : Machine) where
  by-lane : (e : HopEvent) → changes e Field.accepted ≡ false → changes e Field.arrivals ≡ false
      → changes e Field.placed ≡ false → changes e Field.visits ≡ false
      → ((d : ℕ) → x ≢ d → retired_at (happens m.tx e).0.bare d ≡ retired_at m.tx.bare d)
      → Shipped x m (record m { tx = (happens m.tx e).0 })
  by-lane e a r p v retired =
      record {
        rx = refl;
        sent = refl;
        accepted = each_leaves m.tx e Field.accepted a;
        arrivals = each_leaves m.tx e Field.arrivals r;
        placed = each_leaves m.tx e Field.placed p;
        visits = each_leaves m.tx e Field.visits v;
        retired = retired;
      }

  whole-retired : (e : HopEvent) → changes e Field.retired ≡ false → (d : ℕ)
      → retired_at (happens m.tx e).0.bare d ≡ retired_at m.tx.bare d
  whole-retired e still d =
      ap (λ (xs : List ℕ). slice_index xs d) (each_leaves m.tx e Field.retired still)

shipped-one : (x : ℕ) (t : Progress) → Shipped x t.0 (tries t (ship_one x)).0
shipped-one x t =
    let a : Progress = tried t (act.TPull x) in
    let b : Progress = tried a (act.TDeliver x) in
    shipped-trans x t.0 b.0 (tries t (ship_one x)).0
    (shipped-trans x t.0 a.0 b.0
    (by-lane x t.0 (event.Pull x) refl refl refl refl
    (λ d ne. whole-retired x t.0 (event.Pull x) refl d))
    (by-lane x a.0 (event.Deliver x 0) refl refl refl refl
    (λ d ne. whole-retired x a.0 (event.Deliver x 0) refl d)))
    (by-lane x b.0 (event.Retire x) refl refl refl refl
    (λ d ne. (each_leaves_lanes b.0.tx (event.Retire x) d
    (λ e. ne (some-same x d e))).retired))

shipped-again : (x n : ℕ) (t : Progress) → Shipped x t.0 (again n (ship_one x) t).0
unfolding again
shipped-again x zero t = shipped-refl x t.0
shipped-again x (suc n) t =
    let u : Progress = tries t (ship_one x) in
    shipped-trans x t.0 u.0 (again n (ship_one x) u).0 (shipped-one x t) (shipped-again x n u)

pub shipped : (x : ℕ) (t : Progress) → Shipped x t.0 (ship x t).0
shipped x t = shipped-again x _ t
