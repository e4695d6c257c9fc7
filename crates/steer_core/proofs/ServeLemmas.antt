-- An application writes no more to the socket flow table than it puts replies, where it is served.
use Rattle.std.proofs.Common.{ℕ, ◌+◌, ◌<◌, ◌≡◌, Bool, List, Option}
use Rattle.std.proofs.Common.{Some, None, length, map, refl, ap, ◌∙◌}
use Rattle.std.proofs.Common.{sym, subst, arith, inl, inr}
use Rattle.std.specs.Prelude.{◌%◌, nat_lt, slice_index, slice_index_or}
use Rattle.std.proofs.Math.ListN.{length-map}
use Rattle.std.proofs.lemmas.Bool.{cases_eq, lt-ltb, ltb-true}
use Rattle.std.proofs.lemmas.List.{get_or-map}
use Rattle.steer_base.specs.Apps.{app_of}
use Rattle.steer_base.specs.declared.step.Step.TheVariants as act
use Rattle.hop_model.specs.Hop.{HopState, accepted_at, arrivals_of, out_at, placed_of, taken_of}
use Rattle.hop_core.proofs.Fits.{put_below}
use Rattle.history.specs.Lists.{app_at, list_at}
use Rattle.history.specs.declared.sent.Sent.{Sent}
use Rattle.steer_model.specs.Steps.Applications.{next_in, nothing_sent, sent_of}
use Rattle.steer_model.specs.State.Machine.{Machine}
use Rattle.steer_model.specs.State.Setup.{flow_hash, flow_number_of, packet_hash}
use Rattle.steer_model.specs.Steps.CompoundSteps.{Progress, with_record, reply, replying, serve}
use Rattle.steer_model.specs.Steps.CompoundSteps.{tried}
use Rattle.steer_invariant.specs.Invariant.{Invariant}
use Rattle.steer_invariant.specs.StepInvariant.{StepInvariant}
use Rattle.steer_invariant.proofs.EitherLemmas.{either}
use Rattle.steer_invariant.proofs.StepInvariant.StepLemmas.{flow_small}
use Rattle.steer_invariant.proofs.StepInvariant.ReplyLemmas.{read_at}
use Rattle.steer_invariant.proofs.StepInvariant.SingleStepLemmas.{goes-simple}
use Rattle.steer_invariant.proofs.PrefixLemmas.{prefix-at, prefix-length}
use Rattle.steer_core.proofs.Paced.{Paced, quiet-paced}
use Rattle.steer_core.proofs.QuietTurns.{quiet-reply}
use Rattle.steer_core.proofs.RecordLemmas.{Wrote, flow-hash, wrote-by}
use Rattle.steer_core.proofs.ReplyLemmas.{replies-same, reply-puts}

-- ---- the packet that is replied to

-- it is in the inbox
abbrev InInbox : Machine → ℕ → ℕ → Type 0
InInbox m a x = (i : ℕ) × (i < length (out_at m.rx.bare a))
    × (slice_index (out_at m.rx.bare a) i ≡ x)

-- where it is in hand already
in-hand : (m : Machine) (a : ℕ) → StepInvariant m → placed_of m.tx a < taken_of m.tx a
    → InInbox m a (slice_index_or (sent_of m a) (placed_of m.tx a) nothing_sent).id
in-hand m a k full =
    let p : ℕ = placed_of m.tx a in
    let ids : List ℕ = map (λ s. s.id) (sent_of m a) in
    let came : arrivals_of m.tx a ≡ ids = k.replied.came a in
    let upto = k.tx.sound.hands.arrived a in
    let long : length ids ≡ length (sent_of m a) = length-map (sent_of m a) (λ s. s.id) in
    let many : length (arrivals_of m.tx a) ≡ length ids = ap length came in
    let below : p < length ids = omega (arith, full, upto, many) in
    let within = prefix-length ids (out_at m.rx.bare a) (k.replied.first a) in
    let at : slice_index (out_at m.rx.bare a) p ≡ slice_index ids p =
    prefix-at ids (out_at m.rx.bare a) p (k.replied.first a) below in
    let is : slice_index ids p ≡ (slice_index_or (sent_of m a) p nothing_sent).id =
    get_or-map (λ (s : Sent). s.id) (sent_of m a) p nothing_sent 0 (omega (arith, below, long)) in
    (p, omega (arith, below, within), at ∙ is)

replied-in : (m : Machine) (a x : ℕ) → StepInvariant m → replying m a ≡ Some x → InInbox m a x
replied-in m a x k =
    let hand : ℕ = (slice_index_or (sent_of m a) (placed_of m.tx a) nothing_sent).id in
    either (λ o. o ≡ Some x → InInbox m a x) (nat_lt (placed_of m.tx a) (taken_of m.tx a))
    (Some hand) (next_in m a)
    (λ full is. subst (InInbox m a) (ap (λ (o : Option ℕ). value o x) is)
    (in-hand m a k (ltb-true _ _ full)))
    (λ free is. (let at = read_at (out_at m.rx.bare a) (length (sent_of m a)) x is in
    (length (sent_of m a), at.0, at.1)))
  where
    value : Option ℕ → ℕ → ℕ
    value None d = d
    value (Some y) d = y

-- it is a packet of the capture
inbox-below : (m : Machine) (a x : ℕ) → StepInvariant m → InInbox m a x → x < length m.setup.packets
inbox-below m a x k in' =
    let h = k.rx.sound in
    let f = h.places.from a in'.0 in'.1 in
    let d = h.counts.delivered_first f.0 in let p = h.counts.pulled_first f.0 in let early = f.2 in
    let below : slice_index (accepted_at m.rx.bare f.0) f.1 < m.rx.fixed.room =
    put_below m.rx h (accepted_at m.rx.bare) h.puts f.0 f.1 (omega (arith, d, p, early)) in
    let is : slice_index (accepted_at m.rx.bare f.0) f.1 ≡ x = f.3 ∙ in'.2 in
    let room = k.rx.sizes.room in
    omega (arith, below, is, room)

hash-of-app : (hash : ℕ) (o : Option ℕ) (apps a : ℕ) → o ≡ Some hash → app_of o apps ≡ a
    → hash % apps ≡ a
hash-of-app hash o apps a e is = sym (ap (λ (h : Option ℕ). app_of h apps) e) ∙ is

-- the hash of its flow leads to the application itself
own-app : (m : Machine) (a x hash : ℕ) → Invariant m → InInbox m a x
    → flow_hash m.setup (flow_number_of m.setup x) ≡ Some (Some hash) → hash % m.setup.apps ≡ a
own-app m a x hash h in' is =
    let k = h.kept in
    let own : app_at m.setup.packets m.setup.apps x ≡ a =
    subst (λ y. app_at m.setup.packets m.setup.apps y ≡ a) in'.2 (h.recorded.own a in'.0 0 in'.1) in
    let same : Some (packet_hash m.setup x) ≡ Some (Some hash) =
    sym (flow-hash m.setup x k.given.flows (inbox-below m a x k in')) ∙ is in
    hash-of-app hash (packet_hash m.setup x) m.setup.apps a
    (ap (λ (o : Option (Option ℕ)). inner o) same) own
  where
    inner : Option (Option ℕ) → Option ℕ
    inner None = None
    inner (Some o) = o

-- ---- a turn of an application

served : (m : Machine) (a : ℕ) (w : Bool) (o : Option ℕ) → replying m a ≡ o → a < m.setup.apps
    → Invariant m
    → Paced 0 0 m (reply a (with_record o (m, w))).0
served m a w None is named h = quiet-paced m _ (quiet-reply a (m, w))
served m a w (Some x) is named h =
    let k = h.kept in
    let flow : ℕ = flow_number_of m.setup x in
    let t : Progress = tried (m, w) (act.Record flow) in
    let n : Machine = t.0 in
    let in' = replied-in m a x k is in
    let wrote : Wrote m n a =
    wrote-by m (flow_hash m.setup flow) a (λ hash e. own-app m a x hash h in' e) in
    let named' : a < n.setup.apps = subst (λ q. a < q.apps) (sym wrote.setup) named in
    let kept : StepInvariant n =
    (goes-simple m k (act.Record flow) (lt-ltb flow 262144 (flow_small m.setup x k.given))).kept in
    let next : replying n a ≡ Some x =
    replies-same m n a x (ap (λ (s : HopState). s.placed) wrote.tx)
    (ap (λ (s : HopState). s.taken) wrote.tx)
    wrote.outs wrote.sent is in
    let put : placed_of (reply a (n, t.1)).0.tx a ≡ placed_of n.tx a + 1 =
    reply-puts n a x t.1 named' kept next in
    let quiet = quiet-reply a (n, t.1) in
    let o : Machine = (reply a (n, t.1)).0 in
    record {
      setup = quiet.setup ∙ wrote.setup;
      written = λ b. (
          let w' : length (list_at o.writes b) ≡ length (list_at n.writes b) =
          ap (λ l. length (list_at l b)) quiet.writes in
          let p : placed_of n.tx b ≡ placed_of m.tx b =
          ap (λ (s : HopState). placed_of s b) wrote.tx in
          let g = quiet.placed b in
          elim (cases_eq b a) [
            | inl e ↦ (let one = wrote.here in
                let u : length (list_at n.writes b) ≡ length (list_at n.writes a) =
                ap (λ i. length (list_at n.writes i)) e in
                let v : length (list_at m.writes b) ≡ length (list_at m.writes a) =
                ap (λ i. length (list_at m.writes i)) e in
                let x : placed_of o.tx b ≡ placed_of o.tx a = ap (λ i. placed_of o.tx i) e in
                let y : placed_of n.tx b ≡ placed_of n.tx a = ap (λ i. placed_of n.tx i) e in
                omega (arith, w', p, one, u, v, x, y, put))
            | inr ne ↦ (let f = ap length (wrote.there b ne) in omega (arith, w', p, g, f))
          ]);
      listed = (
          let c = ap length quiet.commands in let d = ap length wrote.commands in
          omega (arith, c, d));
    }

pub serve-paced : (a : ℕ) (t : Progress) → a < t.0.setup.apps → Invariant t.0 → Paced 0 0 t.0
    (serve a t).0
serve-paced a t named h = served t.0 a t.1 (replying t.0 a) refl named h
