-- Choices by the rule move their classes by the three conditions.
use Rattle.std.proofs.Common.{ℕ, ◌<◌, ◌≡◌, ◌⊎◌, Bool, true, false, List, Option, Some}
use Rattle.std.proofs.Common.{None, length, take, drop, refl, ap, ◌∙◌, sym, subst, arith, inl, inr}
use Rattle.std.proofs.Common.{unwrap_or, get_or}
use Rattle.std.specs.Prelude.{◌↔◌, slice_get}
use Rattle.std.specs.List.{All}
use Rattle.std.proofs.lemmas.Bool.{lt-ltb}
use Rattle.std.proofs.lemmas.List.{get_or-take, get_or_default, length-take-le}
use Rattle.std.proofs.lemmas.List.Elements.{All-filter}
use Rattle.std.proofs.lemmas.Nat.Bits.{bit_at_ones}
use Rattle.std.proofs.lemmas.Option.{same_Some}
use Rattle.history.specs.Lists.{list_at}
use Rattle.history.specs.declared.history.History.{History}
use Rattle.history.specs.declared.sent.Sent.{Sent}
use Rattle.hop_model.specs.Hop.{choices_of, chosen_at, nobody}
use Rattle.hop_core.proofs.Standing.{current_lane-in}
use Rattle.steer_base.specs.Choices.{desired_cpu, migrate}
use Rattle.steer_base.specs.Counters.{has_reached}
use Rattle.steer_base.specs.Entries.{current_lane, entry, is_class, of_class}
use Rattle.steer_base.specs.Moves.{MayLeave, MovesByThree}
use Rattle.steer_base.specs.Sets.{has}
use Rattle.steer_base.specs.declared.choice.Choice.{Choice}
use Rattle.steer_base.specs.declared.choice.Chosen.{Chosen}
use Rattle.steer_base.specs.declared.choice.Entry.{Entry}
use Rattle.steer_base.proofs.RuleLemmas.{by_entry-class, moves-of}
use Rattle.steer_model.specs.Steps.Applications.{everyone}
use Rattle.steer_model.specs.Good.Choices.{AreByRule, accepted_in}
use Rattle.steer_model.specs.Good.Replies.{IsReplyByRule}
use Rattle.steer_model.specs.Good.Inputs.{Input, settings_at, setup_in, since_at}
use Rattle.steer_model.specs.State.Machine.{Machine, history_of, history_lanes}
use Rattle.steer_model.specs.State.Settings.{Settings, class_at, plain_lane}
use Rattle.steer_model.specs.State.Setup.{flow_number_of, packet_hash}
use Rattle.steer_invariant.specs.StepInvariant.{StepInvariant}
use Rattle.xps_map.specs.Maps.{picked}
use Rattle.steer_properties.specs.Choices.Moves.{ChangesFlow, FlowsMoveAsSaid, MovesClass}

-- ---- the receive side

pub migrate-class : (class want : Option ℕ) (desired : ℕ) (entries : ℕ → Entry) (head : ℕ → ℕ)
    (online : ℕ → Bool) → (migrate class want desired entries head online).class ≡ class
migrate-class None want desired entries head online = refl
migrate-class (Some k) want desired entries head online =
    by_entry-class k want desired (entries k).tail head online (entries k).lane

module _ (i : Input) (h : History) (at : ℕ → ℕ → ℕ) (r : AreByRule i h at) (q k : ℕ)
    (lt : k < length (list_at h.choices q)) where
  abbrev c : Chosen
  c = chosen_at (list_at h.choices q) k

  abbrev s : Settings
  s = settings_at i h (at q k)

  abbrev entries : ℕ → Entry
  entries =
      entry h.start (accepted_in h.lanes)
      (drop (since_at h.commands q (at q) k) (take k (list_at h.choices q)))

  abbrev rule : Option ℕ → Choice
  rule class =
      migrate class c.choice.want
      (desired_cpu class c.choice.want s.online (plain_lane (setup_in i) s q c.id)) entries
      (λ lane. unwrap_or c.choice.head 0) (has s.online)

  class-is : (class : Option ℕ) → c.choice.class ≡ class → class_at (setup_in i) s q c.id ≡ class
  class-is class is =
      sym (ap (λ (d : Choice). d.class) (r.each q k lt)
      ∙ migrate-class (class_at (setup_in i) s q c.id) _ _ _ _ _)
      ∙ is

  by-class : (class : Option ℕ) → c.choice.class ≡ class → c.choice ≡ rule class
  by-class class is = r.each q k lt ∙ ap rule (class-is class is)

  class-moves : (class : ℕ) → c.choice.class ≡ Some class
      → MovesClass i h q k s (since_at h.commands q (at q) k) class
  class-moves class is =
      let e : Entry = entries class in
      moves-of c.choice class c.choice.want
      (desired_cpu (Some class) c.choice.want s.online (plain_lane (setup_in i) s q c.id)) e.tail
      (λ lane. unwrap_or c.choice.head 0) (has s.online) e.lane (by-class (Some class) is)

  plain-goes : c.choice.class ≡ None → c.choice.lane ≡ plain_lane (setup_in i) s q c.id
  plain-goes is = ap (λ (d : Choice). d.lane) (by-class None is)

pub flows_move : (i : Input) (h : History) (at : ℕ → ℕ → ℕ) → AreByRule i h at
    → FlowsMoveAsSaid i h at
flows_move i h at r =
    record {
      classes = λ q k class lt is. class-moves i h at r q k lt class is;
      plain = λ q k lt is. plain-goes i h at r q k lt is;
    }

-- ---- the transmit side

everyone-has : (c : ℕ) → c < 32 → has everyone c ≡ true
everyone-has c lt = let bit = bit_at_ones 32 c lt in rw (lt-ltb c 32 lt, bit) refl

-- where the current lane is online, a class leaves it as if all lanes were
leaves-online : (desired tail : ℕ) (head : ℕ → ℕ) (online : ℕ → Bool) (current : Option ℕ)
    → ((lane : ℕ) → current ≡ Some lane → online lane ≡ true)
    → MayLeave desired tail head online current ↔ MayLeave desired tail head (λ lane. true) current
leaves-online desired tail head online None on = (λ w. w, λ w. w)
leaves-online desired tail head online (Some lane) on = (
  λ w. (w.0, inr (reached (on lane refl) w.1)),
  λ w. (w.0, inr (reached refl w.1)),
)
  where
    reached : {b : Bool} → b ≡ true → (b ≡ false) ⊎ (has_reached (head lane) tail 0 ≡ true)
        → has_reached (head lane) tail 0 ≡ true
    reached e (inl off) = absurd (let f : true ≡ false = sym e ∙ off in cc)
    reached e (inr r) = r

moves-online : (c : Choice) (desired tail : ℕ) (head : ℕ → ℕ) (online : ℕ → Bool)
    (current : Option ℕ) → ((lane : ℕ) → current ≡ Some lane → online lane ≡ true)
    → MovesByThree c desired tail head online current
    → MovesByThree c desired tail head (λ lane. true) current
moves-online c desired tail head online current on w =
    let same = leaves-online desired tail head online current on in
    record {
      cases = w.cases;
      may = (λ f. same.0 (w.may.0 f), λ g. w.may.1 (same.1 g));
      moved = w.moved;
      kept = w.kept;
    }

-- a transmit queue that a flow has is one of the plan's
tx-online : (m : Machine) → StepInvariant m → (a k flow tx : ℕ) → k < length (choices_of m.tx a)
    → current_lane (of_class flow (take k (choices_of m.tx a))) ≡ Some tx
    → has everyone tx ≡ true
tx-online m kept a k flow tx lt is =
    let h = kept.tx.sound in let z = kept.tx.sizes in let few = kept.given.few_txs in
    let cs : List Chosen = choices_of m.tx a in
    let lanes : All (λ (c : Chosen). c.choice.lane < 32) (take k cs) =
    λ j d jl. (
    let long = length-take-le k cs (omega (arith, lt)) in
    let jk : j < k = omega (arith, jl, long) in
    let low = h.lanes a j (omega (arith, jk, lt)) in
    let same : get_or (take k cs) j d ≡ chosen_at cs j =
    get_or-take k cs j d jk ∙ get_or_default cs j d nobody (omega (arith, jk, lt)) in
    subst (λ (c : Chosen). c.choice.lane < 32) (sym same)
    (omega (arith, low, z.txs, few))) in
    everyone-has tx
    (current_lane-in (λ l. l < 32) (of_class flow (take k cs))
    (All-filter (λ c. is_class flow c.choice.class) (λ (c : Chosen). c.choice.lane < 32)
    (take k cs) lanes) tx is)

reply-by : (i : Input) (m : Machine) (a k : ℕ) (s : Settings) (r : Sent) → StepInvariant m
    → k < length (choices_of m.tx a)
    → (chosen_at (choices_of m.tx a) k).choice
    ≡ migrate (Some (flow_number_of (setup_in i) r.id))
    (Some (picked s.maps r.rxq r.cpu (packet_hash (setup_in i) r.id)))
    (picked s.maps r.rxq r.cpu (packet_hash (setup_in i) r.id))
    (entry m.rx.fixed.start (accepted_in (history_lanes m.tx.bare)) (take k (choices_of m.tx a)))
    (λ lane. unwrap_or (chosen_at (choices_of m.tx a) k).choice.head 0) (has everyone)
    → ChangesFlow i (history_of m) a k s r
reply-by i m a k s r kept lt is =
    let c : Choice = (chosen_at (choices_of m.tx a) k).choice in
    let flow : ℕ = flow_number_of (setup_in i) r.id in
    let pick : ℕ = picked s.maps r.rxq r.cpu (packet_hash (setup_in i) r.id) in
    let e : Entry =
    entry m.rx.fixed.start (accepted_in (history_lanes m.tx.bare))
    (take k (choices_of m.tx a)) flow in
    let head : ℕ → ℕ = λ tx. unwrap_or c.head 0 in
    moves-online c pick e.tail head (has everyone) e.lane
    (λ tx at. tx-online m kept a k flow tx lt at)
    (moves-of c flow (Some pick) pick e.tail head (has everyone) e.lane is)

pub reply-changes : (i : Input) (m : Machine) (a k : ℕ) (s : Settings) (r : Sent) → StepInvariant m
    → k < length (choices_of m.tx a) → slice_get (list_at m.sent a) k ≡ Some r
    → IsReplyByRule i (history_of m) a k s → ChangesFlow i (history_of m) a k s r
reply-changes i m a k s r kept lt is w =
    subst (λ (t : Sent). ChangesFlow i (history_of m) a k s t)
    (same_Some w.0 r (sym w.1 ∙ is)) (reply-by i m a k s w.0 kept lt w.3)
