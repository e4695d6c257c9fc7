-- A record writes at most one entry, that of the application of its flow.
use Rattle.std.proofs.Common.{ℕ, ◌+◌, ◌<◌, ◌≤◌, ◌≡◌, ◌≢◌, List, [], ◌∷◌, ◌++◌, Option, Some, None}
use Rattle.std.proofs.Common.{length, refl, ap, ◌∙◌, sym, subst}
use Rattle.std.proofs.Common.{arith, get_or, inl, inr, zero, suc}
use Rattle.std.specs.Prelude.{◌%◌, nat_lt, slice_set}
use Rattle.std.specs.Option.{option_map}
use Rattle.std.proofs.Math.ListN.{get_or-eq_default, length-set}
use Rattle.std.proofs.lemmas.Bool.{cases_eq, cases_lt}
use Rattle.std.proofs.lemmas.List.{get_or-set_other, get_or-set_same}
use Rattle.steer_base.specs.declared.command.Answer.TheVariants as says
use Rattle.steer_base.specs.declared.idle.Idle.TheVariants as idle
use Rattle.steer_base.specs.declared.packet.Packet.{Packet}
use Rattle.hop_model.specs.declared.event.HopEvent.TheVariants as event
use Rattle.hop_model.specs.Events.{happens}
use Rattle.hop_model.specs.Hop.{HopState, placed_of}
use Rattle.hop_core.specs.Leaves.{Field}
use Rattle.hop_core.proofs.Leaves.{each_leaves}
use Rattle.hop_core.proofs.Lists.{length-push}
use Rattle.history.specs.Finding.{found}
use Rattle.history.specs.Lists.{list_at, no_packet}
use Rattle.history.specs.declared.sock_write.SockWrite.{SockWrite}
use Rattle.history.proofs.FindingLemmas.{found-here, found-past}
use Rattle.steer_model.specs.Steps.Applications.{record_by, record_hash, visited, write_of, wrote}
use Rattle.steer_model.specs.State.Ranges.{AreOfFlows}
use Rattle.steer_model.specs.State.Machine.{Machine}
use Rattle.steer_model.specs.Steps.Outcomes.{StepOutcome, idle_step}
use Rattle.steer_model.specs.State.Setup.{Setup, flow_hash, flow_number_of, packet_hash}
use Rattle.steer_invariant.proofs.EitherLemmas.{either}
use Rattle.steer_core.proofs.Paced.{Paced}

-- ---- the hash of a packet's flow

-- the first item with the key of one that is there has this key, and is there too
abbrev IsFound : List Packet → ℕ → Type 0
IsFound xs n =
    (j : ℕ) × (j < length xs) × (found (λ p. p.flow_number) n xs ≡ Some (get_or xs j no_packet))
    × ((get_or xs j no_packet).flow_number ≡ n)

found-later : (x : Packet) (xs : List Packet) (n : ℕ) → n ≢ x.flow_number → IsFound xs n
    → IsFound (x ∷ xs) n
found-later x xs n past r =
    let below = r.1 in (
      suc r.0,
      omega (arith, below),
      found-past (λ (p : Packet). p.flow_number) n x xs past
          ∙ r.2,
      r.3,
    )

first-found : (xs : List Packet) (i n : ℕ) → i < length xs → (get_or xs i no_packet).flow_number ≡ n
    → IsFound xs n
first-found [] i n lt is = absurd (omega (arith, lt))
first-found (x ∷ xs) zero n lt is =
    (0, omega arith, found-here (λ (p : Packet). p.flow_number) n x xs (sym is), is)
first-found (x ∷ xs) (suc i) n lt is =
    let rest = first-found xs i n (omega (arith, lt)) is in
    elim (cases_eq n x.flow_number) [
      | inl here ↦ (
        0,
        omega arith,
        found-here (λ (p : Packet). p.flow_number) n x xs here,
        sym here,
      )
      | inr past ↦ found-later x xs n past rest
    ]

-- the hash of the flow of a packet is that of the packet
pub flow-hash : (p : Setup) (x : ℕ) → AreOfFlows p.packets → x < length p.packets
    → flow_hash p (flow_number_of p x) ≡ Some (packet_hash p x)
flow-hash p x flows lt =
    let r = first-found p.packets x (flow_number_of p x) lt refl in
    ap (option_map (λ (q : Packet). q.hash)) r.2 ∙ ap Some (flows.one_hash r.0 x r.1 lt r.3)

-- ---- what is written

-- Between two machines one application has a write more at most, and no other has one; the hands,
-- the inboxes and the replies are the same.
pub record Wrote (m n : Machine) (b : ℕ) : Type 0 where
  pub setup : n.setup ≡ m.setup
  pub commands : n.commands ≡ m.commands
  pub tx : n.tx ≡ m.tx
  pub sent : n.sent ≡ m.sent
  pub outs : n.rx.bare.outs ≡ m.rx.bare.outs
  pub here : length (list_at n.writes b) ≤ length (list_at m.writes b) + 1
  pub there : (a : ℕ) → a ≢ b → list_at n.writes a ≡ list_at m.writes a

wrote-none : (m : Machine) (b : ℕ) → Wrote m m b
wrote-none m b =
    record {
      setup = refl;
      commands = refl;
      tx = refl;
      sent = refl;
      outs = refl;
      here = omega arith;
      there = λ a ne. refl;
    }

one-more : (writes : List (List SockWrite)) (b : ℕ) (w : SockWrite)
    → length (list_at (slice_set writes b (list_at writes b ++ w ∷ [])) b) ≤ length
    (list_at writes b) + 1
one-more writes b w =
    let new : List SockWrite = list_at writes b ++ w ∷ [] in
    elim (cases_lt b (length writes)) [
      | inl within ↦ (
          let e : list_at (slice_set writes b new) b ≡ new =
          get_or-set_same writes b new [] within in
          let l = ap length e in let p = length-push (list_at writes b) w in omega (arith, l, p))
      | inr past ↦ (
          let long = length-set writes b new in
          let e : list_at (slice_set writes b new) b ≡ [] =
          get_or-eq_default (slice_set writes b new) [] (omega (arith, past, long)) in
          let l = ap length e in omega (arith, l))
    ]

visit-outs : (s : HopState) (g : ℕ)
    → (happens (happens s (event.Enter g)).0 (event.Leave g)).0.bare.outs ≡ s.bare.outs
visit-outs s g =
    each_leaves (happens s (event.Enter g)).0 (event.Leave g) Field.outs refl
    ∙ each_leaves s (event.Enter g) Field.outs refl

wrote-hash : (m : Machine) (hash : ℕ) → Wrote m (record_hash m hash).0 (hash % m.setup.apps)
wrote-hash m hash =
    let b : ℕ = hash % m.setup.apps in
    let n : Machine = wrote (visited m b) b hash in
    either (λ (o : StepOutcome). Wrote m o.0 b) (nat_lt 0 (length m.socket)) (n, says.Done)
    (idle_step m idle.NoTable)
    (λ some. record {
      setup = refl;
      commands = refl;
      tx = refl;
      sent = refl;
      outs = visit-outs m.rx (length m.setup.homes + b);
      here = one-more m.writes b (write_of (visited m b) b hash);
      there = λ a ne. get_or-set_other m.writes b a (list_at m.writes b ++ write_of
          (visited m b) b hash ∷ []) [] ne;
    })
    (λ none. wrote-none m b)

-- by the hash of a flow the application is that of the hash
pub wrote-by : (m : Machine) (o : Option (Option ℕ)) (b : ℕ)
    → ((hash : ℕ) → o ≡ Some (Some hash) → hash % m.setup.apps ≡ b) → Wrote m (record_by m o).0 b
wrote-by m None b of = wrote-none m b
wrote-by m (Some None) b of = wrote-none m b
wrote-by m (Some (Some hash)) b of = subst (Wrote m (record_hash m hash).0) (of hash refl)
    (wrote-hash m hash)

-- so there is one write more than puts at most
pub wrote-paced : (m n : Machine) (b : ℕ) → Wrote m n b → Paced 1 0 m n
wrote-paced m n b w =
    record {
      setup = w.setup;
      written = λ a. (
          let p : placed_of n.tx a ≡ placed_of m.tx a = ap (λ (s : HopState). placed_of s a) w.tx in
          elim (cases_eq a b) [
            | inl e ↦ (let h = w.here in
                let f : length (list_at n.writes a) ≡ length (list_at n.writes b) =
                ap (λ i. length (list_at n.writes i)) e in
                let g : length (list_at m.writes a) ≡ length (list_at m.writes b) =
                ap (λ i. length (list_at m.writes i)) e in
                omega (arith, h, f, g, p))
            | inr ne ↦ (let f = ap length (w.there a ne) in omega (arith, f, p))
          ]);
      listed = (let c = ap length w.commands in omega (arith, c));
    }

pub record-paced : (m : Machine) (o : Option (Option ℕ)) → Paced 1 0 m (record_by m o).0
record-paced m None = wrote-paced m m 0 (wrote-none m 0)
record-paced m (Some None) = wrote-paced m m 0 (wrote-none m 0)
record-paced m (Some (Some hash)) = wrote-paced m (record_hash m hash).0 (hash % m.setup.apps)
    (wrote-hash m hash)
