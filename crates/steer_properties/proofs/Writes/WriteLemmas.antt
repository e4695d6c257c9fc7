-- Each write to the socket flow table is that of an application for a packet of its own.
use Rattle.std.proofs.Common.{ℕ, ◌<◌, ◌≡◌, List, [], Option, Some, None, length}
use Rattle.std.proofs.Common.{refl, ap, ◌∙◌, sym, subst, arith, get_or}
use Rattle.std.specs.Prelude.{◌%◌}
use Rattle.std.specs.List.{All}
use Rattle.std.specs.Option.{option_map}
use Rattle.std.proofs.lemmas.Bool.{lt-ltb}
use Rattle.std.proofs.lemmas.List.{get_or_default}
use Rattle.std.proofs.lemmas.List.Elements.{All-nil}
use Rattle.std.proofs.lemmas.Nat.{mod_below}
use Rattle.history.specs.Finding.{found}
use Rattle.history.specs.Lists.{list_at, no_packet, packet_at}
use Rattle.history.specs.declared.sock_write.SockWrite.{SockWrite}
use Rattle.history.proofs.SamePlaces.{found-all}
use Rattle.hop_model.specs.Hop.{next_of}
use Rattle.steer_base.specs.Apps.{app_of}
use Rattle.steer_base.specs.Choices.{class_of}
use Rattle.steer_base.specs.declared.packet.Packet.{Packet}
use Rattle.steer_base.specs.declared.step.Step.{Step}
use Rattle.steer_model.specs.Steps.Applications.{sends, visited, write_of, wrote}
use Rattle.steer_model.specs.Steps.Commands.{given}
use Rattle.steer_model.specs.Good.Inputs.{Input, setup_in}
use Rattle.steer_model.specs.State.Machine.{Machine, history_of}
use Rattle.steer_model.specs.Steps.Pollers.{with_note, seen_by}
use Rattle.steer_model.specs.State.Setup.{Setup, flow_hash, packet_hash}
use Rattle.steer_model.specs.State.Start.{new_machine}
use Rattle.steer_model.specs.Steps.SingleSteps.{simple}
use Rattle.steer_model.specs.declared.note.Note.{Note}
use Rattle.steer_model.specs.declared.note.Note.TheVariants as note
use Rattle.steer_invariant.specs.Invariant.{Invariant}
use Rattle.steer_invariant.specs.StepInvariant.{IsNamed}
use Rattle.steer_invariant.proofs.Recorded.RowLemmas.{all-pushed}
use Rattle.steer_properties.specs.Commands.Answered.{IsWriteFor, WritesAreMade}
use Rattle.steer_properties.proofs.Commands.StepLemmas.{Commanding}
use Rattle.steer_properties.proofs.Histories.ExtendLemmas.{blank-at}
use Rattle.steer_properties.proofs.Histories.LastingLemmas.{Lasts}
use Rattle.steer_properties.proofs.Writes.OriginLemmas.{size-is, size-lasts, stood-at, stood-lasts}
use Rattle.steer_properties.proofs.Choices.RuleStepLemmas.{Follows}
use Rattle.steer_properties.proofs.Histories.StepKindLemmas.{lasts-noted, tx_weighed, walk, weighed}

abbrev pub Written : Input → Machine → Type 0
Written i m = WritesAreMade i (history_of m)

-- ---- the packet of a flow

-- a packet of the capture
abbrev IsOf : List Packet → Packet → Type 0
IsOf packets p = (x : ℕ) × (x < length packets) × (packet_at packets x ≡ p)

at-itself : (packets : List Packet) (k : ℕ) (d : Packet) → k < length packets
    → IsOf packets (get_or packets k d)
at-itself packets k d lt = (k, lt, get_or_default packets k no_packet d lt)

hash-found : (packets : List Packet) (hash : ℕ) (o : Option Packet)
    → ((p : Packet) → o ≡ Some p → IsOf packets p)
    → option_map (λ (p : Packet). p.hash) o ≡ Some (Some hash)
    → (x : ℕ) × (x < length packets) × ((packet_at packets x).hash ≡ Some hash)
hash-found packets hash None of is = absurd (cc)
hash-found packets hash (Some p) of is =
    let w = of p refl in
    let e : p.hash ≡ Some hash = cc in
    (w.0, w.1, ap (λ (q : Packet). q.hash) w.2 ∙ e)

-- a packet of the capture has the hash that a flow has
flow-packet : (p : Setup) (flow hash : ℕ) → flow_hash p flow ≡ Some (Some hash)
    → (x : ℕ) × (x < length p.packets) × (packet_hash p x ≡ Some hash)
flow-packet p flow hash is =
    hash-found p.packets hash (found (λ (q : Packet). q.flow_number) flow p.packets)
    (λ q f. found-all (IsOf p.packets) (λ (r : Packet). r.flow_number) flow p.packets q
    (at-itself p.packets) f) is

-- ---- what was written stays

write-lasts : (i : Input) (m n : Machine) (a : ℕ) (w : SockWrite) → Lasts m n
    → IsWriteFor i (history_of m) a w → IsWriteFor i (history_of n) a w
write-lasts i m n a w l is =
    let v = is.write in
    record {
      packet = is.packet;
      of_the_capture = is.of_the_capture;
      own = is.own;
      hash = is.hash;
      hash_is = is.hash_is;
      write = record {
        size = v.size;
        is_size = size-lasts i (history_of m) (history_of n) v.size l.commands v.is_size;
        at = v.at;
        stood = stood-lasts i (history_of m) (history_of n) a w.cpu l.commands v.stood;
      };
    }

writes-last : (i : Input) (m n : Machine) → Lasts m n → (a : ℕ) (ws : List SockWrite)
    → All (IsWriteFor i (history_of m) a) ws → All (IsWriteFor i (history_of n) a) ws
writes-last i m n l a ws old k d lt = write-lasts i m n a (get_or ws k d) l (old k d lt)

-- nothing is written
writes-stay : (i : Input) (m n : Machine) → Lasts m n → n.writes ≡ m.writes → Written i m
    → Written i n
writes-stay i m n l same old a =
    subst (λ (ls : List (List SockWrite)). All (IsWriteFor i (history_of n) a) (list_at ls a))
    (sym same) (writes-last i m n l a (list_at m.writes a) (old a))

-- ---- a write

module _ (i : Input) (m : Machine) (setup : m.setup ≡ setup_in i) (follows : Follows i m)
    (w : Commanding i m) (h : Invariant m) (flow hash : ℕ)
    (is : flow_hash m.setup flow ≡ Some (Some hash)) (some : 0 < length m.socket) where
  abbrev a : ℕ
  a = hash % m.setup.apps

  abbrev n : Machine
  n = wrote (visited m a) a hash

  below : a < length i.plan.apps
  below =
      let k = h.kept in
      let lt : a < m.setup.apps = mod_below hash m.setup.apps k.given.some_app in
      let same : m.setup.apps ≡ length i.plan.apps = ap (λ (p : Setup). p.apps) setup in
      omega (arith, lt, same)

  new-write : IsWriteFor i (history_of m) a (write_of m a hash)
  new-write =
      let k = h.kept in
      let x = flow-packet m.setup flow hash is in
      let class : class_of (length m.socket) (Some hash) ≡ Some (hash % length m.socket) =
      rw (lt-ltb 0 (length m.socket) some) refl in
      let here : packet_hash (setup_in i) x.0 ≡ Some hash =
      ap (λ (p : Setup). packet_hash p x.0) (sym setup) ∙ x.2 in
      record {
        packet = x.0;
        of_the_capture = (
            let same : length m.setup.packets ≡ length i.packets =
            ap (λ (p : Setup). length p.packets) setup in
            let lt = x.1 in
            omega (arith, lt, same));
        own = ap (λ o. app_of o (setup_in i).apps) here
            ∙ ap (λ (p : Setup). hash % p.apps) (sym setup);
        hash = hash;
        hash_is = here;
        write = record {
          size = m.settings.sock;
          is_size = size-is i m w follows;
          at = ap (λ c. class_of c (Some hash)) k.sizes.sock ∙ class;
          stood = stood-at i m w a follows below;
        };
      }

  written-more : Lasts m n → Written i m → Written i n
  written-more l old =
      all-pushed (λ b (v : SockWrite). IsWriteFor i (history_of n) b v) m.writes a
      (write_of m a hash) (write-lasts i m n a (write_of m a hash) l new-write)
      (λ b. writes-last i m n l b (list_at m.writes b) (old b))

pub written-simple : (i : Input) (m : Machine) (s : Step) → m.setup ≡ setup_in i → Follows i m
    → Commanding i m → Invariant m → IsNamed m.setup s → Written i m → Written i (simple m s).0
written-simple i m s setup follows w h named old =
    walk m h (Written i) s
    (record {
      quiet = λ n k. writes-stay i m n k.still.lasts k.writes old;
      arrive = λ few k. writes-stay i m _ k.lasts refl old;
      look = λ q in' inside more. (
          let x : Note = note.Looked (seen_by m q (next_of m.rx q)) in
          writes-stay i m (with_note m q x) (lasts-noted m q x) refl old);
      weigh = λ q want in' is more l. writes-stay i m (weighed m q want) l refl old;
      write = λ flow hash is some k.
          written-more i m setup follows w h flow hash is some k.lasts old;
      send = λ a x in' is k. writes-stay i m (sends m a x) k.lasts refl old;
      tx_weigh = λ a in' more l. writes-stay i m (tx_weighed m a) l refl old;
      give = λ c is in' d. writes-stay i m (given m c).0 d.lasts d.writes old;
    }) named

pub written-new : (i : Input) → Written i (new_machine i.plan i.packets i.cut)
written-new i a =
    let m : Machine = new_machine i.plan i.packets i.cut in
    let none : list_at m.writes a ≡ [] = blank-at (length i.plan.apps) a [] in
    subst (All (IsWriteFor i (history_of m) a)) (sym none)
    (All-nil (IsWriteFor i (history_of m) a))
