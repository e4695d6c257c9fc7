-- What the steps of applications and of transmit queues keep.
use Rattle.std.proofs.Common.{ℕ, ◌+◌, ◌≤◌, ◌<◌, ◌≡◌, max, true, false, List, [], ◌∷◌, ◌++◌, Option}
use Rattle.std.proofs.Common.{Some, map, length, refl, ap, ◌∙◌, sym, subst, arith, suc, zero, inl}
use Rattle.std.proofs.Common.{inr}
use Rattle.std.specs.Prelude.{slice_get, slice_index, slice_set}
use Rattle.std.proofs.Math.ListN.{get_or-eq_default, get_or-replicate, length-map, length-set}
use Rattle.std.proofs.lemmas.Bool.{cases_eq, cases_lt, le-ltb, lt-ltb}
use Rattle.std.proofs.lemmas.List.{map_push}
use Rattle.std.proofs.lemmas.Nat.Bits.{bit_at_ones}
use Rattle.steer_base.specs.Orders.{IsPrefix}
use Rattle.steer_base.specs.Sets.{has}
use Rattle.steer_base.specs.declared.packet.Packet.{Packet}
use Rattle.hop_model.specs.declared.event.HopEvent.{HopEvent}
use Rattle.hop_model.specs.declared.event.HopEvent.TheVariants as event
use Rattle.hop_model.specs.Events.{MayAsk, happens}
use Rattle.hop_model.specs.Hop.{HopState, accepted_at, arrivals_of, arrived, out_at, placed_of}
use Rattle.hop_model.specs.Hop.{taken_of, took}
use Rattle.hop_model.specs.Sound.{Sound}
use Rattle.hop_core.specs.Leaves.{Field, changes}
use Rattle.hop_core.proofs.Fits.{fits_room, put_below}
use Rattle.hop_core.proofs.Lists.{Changed, Changed-set, length-push}
use Rattle.history.specs.Lists.{list_at, no_packet}
use Rattle.history.specs.declared.sent.Sent.{Sent}
use Rattle.xps_map.specs.Maps.{serves_cpu, serves_queue}
use Rattle.xps_map.proofs.CandidatesLemmas.{within}
use Rattle.steer_model.proofs.Capture.FlowLemmas.{below_count}
use Rattle.steer_model.specs.Steps.Applications.{everyone, next_in, pick_for, sending, sent_of}
use Rattle.steer_model.specs.Capture.FlowCounts.{flow_count}
use Rattle.steer_model.specs.State.Ranges.{IsGiven}
use Rattle.steer_model.specs.State.Machine.{Machine}
use Rattle.steer_model.specs.State.Setup.{Setup, flow_number_of, packet_hash}
use Rattle.steer_invariant.specs.StepInvariant.{StepInvariant}
use Rattle.steer_invariant.specs.HopInvariants.{AllTaken}
use Rattle.steer_invariant.specs.ListInvariants.{Replied}
use Rattle.steer_invariant.proofs.StepInvariant.FrameLemmas.{replied-begun, taken-leaves}
use Rattle.steer_invariant.proofs.StepInvariant.FrameLemmas.{tx-happens}
use Rattle.steer_invariant.proofs.PrefixLemmas.{prefix-at, prefix-length, prefix-next}

-- ---- an event of the transmit hop

-- an event by which nothing arrives and nothing is taken up, but for a resize and one of the gate
pub kept_tx : (m : Machine) (e : HopEvent) (t : HopState) → changes e Field.closed ≡ false
    → changes e Field.counts ≡ false → changes e Field.arrivals ≡ false
    → changes e Field.taken ≡ false → MayAsk m.tx e → t ≡ (happens m.tx e).0 → StepInvariant m
    → StepInvariant (record m { tx = t })
kept_tx m e t still counts quiet taken may is k =
    subst (λ (s : HopState). StepInvariant (record m { tx = s })) (sym is)
    (assumption (
      tx-happens m.setup m.tx e may still counts k.tx,
      taken-leaves m.tx e quiet taken k.taken,
      replied-begun (list_at m.sent) (out_at m.rx.bare) m.tx e quiet k.replied,
    ))

pub kept_tenter : (m : Machine) (a : ℕ) (t : HopState) → a < m.setup.apps
    → t ≡ (happens m.tx (event.Enter a)).0 → StepInvariant m → StepInvariant (record m { tx = t })
kept_tenter m a t named is k =
    let z = k.tx.sizes in
    kept_tx m (event.Enter a) t refl refl refl refl (omega (arith, named, z.visits)) is k

pub kept_tleave : (m : Machine) (a : ℕ) (t : HopState) → a < m.setup.apps
    → t ≡ (happens m.tx (event.Leave a)).0 → StepInvariant m → StepInvariant (record m { tx = t })
kept_tleave m a t named is k =
    let z = k.tx.sizes in
    kept_tx m (event.Leave a) t refl refl refl refl (omega (arith, named, z.visits)) is k

pub kept_tput : (m : Machine) (a : ℕ) (hash : Option ℕ) (t : HopState) → a < m.setup.apps
    → t ≡ (happens m.tx (event.Put a hash)).0 → StepInvariant m → StepInvariant
    (record m { tx = t })
kept_tput m a hash t named is k =
    let z = k.tx.sizes in
    kept_tx m (event.Put a hash) t refl refl refl refl (omega (arith, named, z.apps)) is k

pub kept_tpull : (m : Machine) (x : ℕ) (t : HopState) → x < m.setup.txs
    → t ≡ (happens m.tx (event.Pull x)).0 → StepInvariant m → StepInvariant (record m { tx = t })
kept_tpull m x t named is k =
    let z = k.tx.sizes in
    kept_tx m (event.Pull x) t refl refl refl refl (omega (arith, named, z.txs)) is k

pub may_tdeliver : (m : Machine) (x : ℕ) → x < m.setup.txs → StepInvariant m
    → MayAsk m.tx (event.Deliver x 0)
may_tdeliver m x named k =
    let z = k.tx.sizes in record { lane = omega (arith, named, z.txs); out = omega (arith, z.port) }

pub kept_tdeliver : (m : Machine) (x : ℕ) (t : HopState) → x < m.setup.txs
    → t ≡ (happens m.tx (event.Deliver x 0)).0 → StepInvariant m → StepInvariant
    (record m { tx = t })
kept_tdeliver m x t named is k =
    kept_tx m (event.Deliver x 0) t refl refl refl refl (may_tdeliver m x named k) is k

pub kept_tretire : (m : Machine) (x : ℕ) (t : HopState) → x < m.setup.txs
    → t ≡ (happens m.tx (event.Retire x)).0 → StepInvariant m → StepInvariant (record m { tx = t })
kept_tretire m x t named is k =
    let z = k.tx.sizes in
    kept_tx m (event.Retire x) t refl refl refl refl (omega (arith, named, z.txs)) is k

-- ---- weigh

-- every transmit queue is in the set of all
everyone-has : (c : ℕ) → c < 32 → has everyone c ≡ true
everyone-has c lt = let bit = bit_at_ones 32 c lt in rw (lt-ltb c 32 lt, bit) refl

-- the flow of every packet has a class, also of one that the capture has not
pub flow_below : (p : Setup) (x : ℕ) → IsGiven p → flow_number_of p x < max 1 (flow_count p.packets)
flow_below p x g =
    elim (cases_lt x (length p.packets)) [
      | inl lt ↦ (let f = below_count p.packets x lt in omega (arith, f))
      | inr le ↦ (
          let e : flow_number_of p x ≡ 0 =
          ap (λ (y : Packet). y.flow_number) (get_or-eq_default p.packets no_packet le) in
          omega (arith, e))
    ]

-- the maps pick a transmit queue that there is
pub pick_below : (m : Machine) (r : Sent) → StepInvariant m → pick_for m r < m.setup.txs
pick_below m r k =
    let maps = k.sizes.maps in let some = k.given.some_tx in
    let pick : pick_for m r < m.settings.maps.count =
    within m.settings.maps.count (serves_queue m.settings.maps)
    (serves_cpu m.settings.maps) r.rxq r.cpu
    (packet_hash m.setup r.id) (omega (arith, maps, some)) in
    omega (arith, pick, maps)

-- any reply may be weighed
pub may_tweigh : (m : Machine) (a : ℕ) (r : Sent) → a < m.setup.apps → StepInvariant m
    → MayAsk m.tx (sending m a r)
may_tweigh m a r named k =
    let z = k.tx.sizes in let few = k.given.few_txs in
    let pick = pick_below m r k in
    let flow = flow_below m.setup r.id k.given in
    let is : slice_index m.tx.counts a ≡ max 1 (flow_count m.setup.packets) =
    ap (λ (l : List ℕ). slice_index l a) z.classes
    ∙ get_or-replicate m.setup.apps a (max 1 (flow_count m.setup.packets)) 0 named in
    record {
      producer = omega (arith, named, z.apps);
      lane = omega (arith, pick, z.txs);
      in_range = omega (arith, flow, is);
      is_online = everyone-has (pick_for m r) (omega (arith, pick, few));
      drained = λ c lt off. absurd (
          let f : true ≡ false = sym (everyone-has c (omega (arith, lt, z.txs, few))) ∙ off in cc);
    }

pub kept_tweigh : (m : Machine) (a : ℕ) (r : Sent) (e : HopEvent) (t : HopState) → a < m.setup.apps
    → e ≡ sending m a r → t ≡ (happens m.tx e).0 → StepInvariant m → StepInvariant
    (record m { tx = t })
kept_tweigh m a r e t named which is k =
    kept_tx m (sending m a r) t refl refl refl refl (may_tweigh m a r named k)
    (is ∙ ap (λ (e : HopEvent). (happens m.tx e).0) which) k

-- ---- send

-- what was read of a list stands there
pub read_at : (xs : List ℕ) (n x : ℕ) → slice_get xs n ≡ Some x
    → (n < length xs) × (slice_index xs n ≡ x)
read_at [] n x h = absurd (cc)
read_at (y ∷ ys) zero x h = (omega arith, cc)
read_at (y ∷ ys) (suc n) x h = let i = read_at ys n x h in let lt = i.0 in (omega (arith, lt), i.1)

-- each application's replies are the first packets of its inbox
pub sent-long : (m : Machine) (a : ℕ) → StepInvariant m → length (arrivals_of m.tx a) ≡ length
    (sent_of m a)
sent-long m a k = ap length (k.replied.came a) ∙ length-map (sent_of m a) (λ s. s.id)

pub begun-at : (m : Machine) (a i : ℕ) → StepInvariant m → i < length (arrivals_of m.tx a)
    → (i < length (out_at m.rx.bare a)) × (slice_index (out_at m.rx.bare a) i ≡ slice_index
    (arrivals_of m.tx a) i)
begun-at m a i k lt =
    let ids : List ℕ = map (λ s. s.id) (sent_of m a) in
    let came : arrivals_of m.tx a ≡ ids = k.replied.came a in
    let below : i < length ids = (let l = ap length came in omega (arith, lt, l)) in
    let upto = prefix-length ids (out_at m.rx.bare a) (k.replied.first a) in (
      omega (arith, below, upto),
      prefix-at ids (out_at m.rx.bare a) i (k.replied.first a) below
          ∙ ap (λ l. slice_index l i) (sym came),
    )

-- the next packet of an inbox comes to the transmit hop for the first time
pub may_send : (m : Machine) (a x : ℕ) → a < m.setup.apps → next_in m a ≡ Some x → StepInvariant m
    → MayAsk m.tx (event.Arrive a x)
may_send m a x named next k =
    let z = k.tx.sizes in let y = k.rx.sizes in let h = k.rx.sound in
    let at = read_at (out_at m.rx.bare a) (length (sent_of m a)) x next in
    let f = h.places.from a (length (sent_of m a)) at.0 in
    let d = h.counts.delivered_first f.0 in let p = h.counts.pulled_first f.0 in let early = f.2 in
    let below : slice_index (accepted_at m.rx.bare f.0) f.1 < m.rx.fixed.room =
    put_below m.rx h (accepted_at m.rx.bare) h.puts f.0 f.1 (omega (arith, d, p, early)) in
    let is : slice_index (accepted_at m.rx.bare f.0) f.1 ≡ x = f.3 ∙ at.1 in
    record {
      producer = omega (arith, named, z.apps);
      below = omega (arith, below, is, y.room, z.room);
      fresh = λ q i lt e. (
          let b = begun-at m q i k lt in
          let n = sent-long m a k in
          let o = h.places.out_once q a i (length (sent_of m a)) b.0 at.0 (b.1 ∙ e ∙ sym at.1) in
          let g : length (arrivals_of m.tx q) ≡ length (arrivals_of m.tx a) =
          ap (λ q. length (arrivals_of m.tx q)) o.0 in
          let j = o.1 in omega (arith, lt, g, n, j));
    }

-- the reply is listed, and its packet came to the transmit hop
replied-sent : (old new : ℕ → List Sent) (inbox begun now : ℕ → List ℕ) (a : ℕ) (s : Sent)
    → Changed old new a (old a ++ s ∷ []) → Changed begun now a (begun a ++ s.id ∷ [])
    → length (old a) < length (inbox a) → s.id ≡ slice_index (inbox a) (length (old a))
    → Replied old inbox begun → Replied new inbox now
replied-sent old new inbox begun now a s ch cb lt next k =
    let ids : map (λ s. s.id) (new a) ≡ map (λ s. s.id) (old a) ++ s.id ∷ [] =
    ap (map (λ s. s.id)) ch.here ∙ map_push (λ s. s.id) (old a) s in
    let long : length (map (λ s. s.id) (old a)) ≡ length (old a) = length-map (old a) (λ s. s.id) in
    let more : IsPrefix (map (λ s. s.id) (old a) ++ s.id ∷ []) (inbox a) =
    subst (λ x. IsPrefix (map (λ s. s.id) (old a) ++ x ∷ []) (inbox a))
    (ap (slice_index (inbox a)) long ∙ sym next)
    (prefix-next (map (λ s. s.id) (old a)) (inbox a) (k.first a) (omega (arith, lt, long))) in
    record {
      first = λ b. elim (cases_eq b a) [
        | inl e ↦ rw e (subst (λ xs. IsPrefix xs (inbox a)) (sym ids) more)
        | inr ne ↦ subst (λ xs. IsPrefix (map (λ s. s.id) xs) (inbox b)) (sym (ch.there b ne))
            (k.first b)
      ];
      came = λ b. elim (cases_eq b a) [
        | inl e ↦ rw e (cb.here ∙ ap (λ xs. xs ++ s.id ∷ []) (k.came a) ∙ sym ids)
        | inr ne ↦ cb.there b ne ∙ k.came b ∙ sym (ap (map (λ s. s.id)) (ch.there b ne))
      ];
    }

-- a free hand takes up what came
took-all : (s : HopState) (a x : ℕ) → a < length s.arrivals → Sound s → taken_of s a ≤ placed_of s a
    → AllTaken s → AllTaken (happens (arrived s a x) (event.Take a)).0
took-all s a x in' h free k p =
    let w = h.wide in let n = k a in
    let ca = Changed-set s.arrivals a (arrivals_of s a ++ x ∷ []) [] in' in
    let ct = Changed-set s.taken a (taken_of s a + 1) 0 (omega (arith, in', w.taken)) in
    let long : length (arrivals_of s a ++ x ∷ []) ≡ length (arrivals_of s a) + 1 =
    length-push (arrivals_of s a) x in
    let more : taken_of s a < length (arrivals_of (arrived s a x) a) =
    (let e : length (arrivals_of (arrived s a x) a) ≡ length
    (arrivals_of s a) + 1 = ap length ca.here ∙ long in
    omega (arith, n, e)) in
    let is : (happens (arrived s a x) (event.Take a)).0 ≡ took (arrived s a x) a =
    rw (
      le-ltb (placed_of s a) (taken_of s a) free,
      lt-ltb (taken_of s a)
          (length (arrivals_of (arrived s a x) a)) more,
    ) refl in
    subst (λ (t : HopState). taken_of t p ≡ length (arrivals_of t p)) (sym is)
    (elim (cases_eq p a) [
      | inl e ↦
          ap (λ i. taken_of (took (arrived s a x) a) i) e ∙ ct.here ∙ ap (λ i. i + 1) n ∙ sym long
          ∙ sym (ap (λ i. length (arrivals_of (arrived s a x) i)) e ∙ ap length ca.here)
      | inr ne ↦ ct.there p ne ∙ k p ∙ sym (ap length (ca.there p ne))
    ])

-- any reply to the next packet of the inbox, where the hand is free
pub kept_send : (m : Machine) (a x : ℕ) (r : Sent) (t u : HopState) → a < m.setup.apps
    → taken_of m.tx a ≤ placed_of m.tx a → next_in m a ≡ Some x → r.id ≡ x
    → t ≡ (happens m.tx (event.Arrive a x)).0 → u ≡ (happens t (event.Take a)).0 → StepInvariant m
    → StepInvariant (record m { tx = u; sent = slice_set m.sent a (sent_of m a ++ r ∷ []) })
kept_send m a x r t u named free next which is then' k =
    let z = k.tx.sizes in let l = k.lists in
    let s : HopState = arrived m.tx a x in
    let at = read_at (out_at m.rx.bare a) (length (sent_of m a)) x next in
    let sent : List (List Sent) = slice_set m.sent a (sent_of m a ++ r ∷ []) in
    let ch = Changed-set m.sent a (sent_of m a ++ r ∷ []) [] (omega (arith, named, l.sent_long)) in
    let cb =
    Changed-set m.tx.arrivals a (arrivals_of m.tx a ++ x ∷ []) [] (omega (arith, named, z.apps)) in
    let begun : Changed (arrivals_of m.tx) (arrivals_of s) a (arrivals_of m.tx a ++ r.id ∷ []) =
    subst (λ y. Changed (arrivals_of m.tx) (arrivals_of s) a (arrivals_of m.tx a ++ y ∷ []))
    (sym which) cb in
    let first =
    tx-happens m.setup m.tx (event.Arrive a x) (may_send m a x named next k) refl refl k.tx in
    let y = first.sizes in
    let both : u ≡ (happens s (event.Take a)).0 =
    then' ∙ ap (λ (s : HopState). (happens s (event.Take a)).0) is in
    subst (λ (v : HopState). StepInvariant (record m { tx = v; sent = sent })) (sym both)
    (assumption (
      tx-happens m.setup s (event.Take a) (omega (arith, named, y.apps)) refl refl first,
      took-all m.tx a x (omega (arith, named, z.apps)) k.tx.sound free k.taken,
      length-set m.sent a (sent_of m a ++ r ∷ []) ∙ l.sent_long,
      replied-begun (list_at sent) (out_at m.rx.bare) s (event.Take a) refl (replied-sent
          (list_at m.sent) (list_at sent) (out_at m.rx.bare) (arrivals_of m.tx) (arrivals_of s) a r
          ch begun at.0 (which ∙ sym at.1) k.replied),
    ))

-- the room for one reply more
pub room_send : (m : Machine) (a x room : ℕ) → length m.setup.packets ≤ room → next_in m a ≡ Some x
    → StepInvariant m → length (sent_of m a) < room
room_send m a x room enough next k =
    let at = read_at (out_at m.rx.bare a) (length (sent_of m a)) x next in
    let fits = (fits_room m.rx k.rx.sound).outs a in
    let z = k.rx.sizes in let lt = at.0 in
    omega (arith, lt, fits, z.room, enough)
