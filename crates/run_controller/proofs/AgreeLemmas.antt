-- What the controller knows agrees with the words of its settings.
use Rattle.std.proofs.Common.{◌/◌, ◌==◌, ◌&&◌}
use Rattle.std.specs.Prelude.{replicate, slice_index, slice_set}
use Rattle.std.proofs.lemmas.List.{get_or-set_same, get_or-set_other}
use mathlib.Core.Logic.{dite}
use native.Mathlib.Decide.{ℕ_discrete}
use Rattle.linearization.proofs.ListLemmas.{if_same, if_other}
use Rattle.steer_base.specs.Counters.{rounded_up}
use Rattle.steer_base.specs.Sets.{with_cpu, without_cpu}
use Rattle.steer_base.specs.declared.command.Answer.TheVariants as says
use Rattle.steer_base.specs.declared.command.Command.TheVariants as give
use Rattle.hop_delivery.specs.Orders.Commands.{made, next_flows}
use Rattle.hop_delivery.specs.Orders.ReceiveSettings.{mask}
use Rattle.steer_model.specs.Good.Commands.{IsEnd, gate_lanes}
use Rattle.steer_model.specs.Good.Inputs.{is_flows}
use Rattle.steer_model.specs.State.Settings.{changed}
use Rattle.run_words.specs.Values.{flows_word}
use Rattle.run_coupling.specs.Coupling.Inputs.{AreReceiveWords}
use Rattle.run_coupling.specs.Coupling.Tries.{settings_by}
use Rattle.run_coupling.proofs.Tries.ResizeLemmas.{resizes_by}
use Rattle.run_controller.specs.Settings.{generations_after, known_after}
use Rattle.run_controller.proofs.Names.{◌≡◌, ℕ, zero, suc, ◌+◌, ◌*◌, ◌^◌, ◌<◌, Bool, true, false}
use Rattle.run_controller.proofs.Names.{List, [], ◌∷◌, Some, None, length, map, All, if◌then◌else◌}
use Rattle.run_controller.proofs.Names.{refl, sym, ap, subst, ◌∙◌, arith, All-head, All-tail}
use Rattle.run_controller.proofs.Names.{Command, Commanded, History, none-some, some-is}
use Rattle.run_controller.proofs.Names.{SettingChange, received_sets, sent_sets, Queues, queues}
use Rattle.run_controller.proofs.Names.{Plan, Input, Settings, is_done, NamesReceiveQueues, Try}
use Rattle.run_controller.proofs.Names.{known_from, KnownSettings, first_known, receive_change}
use Rattle.run_controller.proofs.Names.{transmit_change, Change}
use Rattle.run_controller.proofs.KnownLemmas.{generations-size, length-zeros}

-- ---- what is known after tries

abbrev pub given_in : List Try → List Commanded
given_in ts = map (λ t. t.given) ts

pub known-settings : (first : KnownSettings) (ts : List Try)
    → (known_from first (given_in ts)).settings ≡ settings_by first.settings ts
known-settings first [] = refl
known-settings first (t ∷ ts) = by_done (is_done t.given.answer) (known-settings first ts)
  where
    by_done : (b : Bool)
        → (known_from first (given_in ts)).settings ≡ settings_by first.settings ts
        → (if b then known_after (known_from first (given_in ts)) t.given.command
        else known_from first (given_in ts)).settings
        ≡ (if b then changed (settings_by first.settings ts) t.given.command
        else settings_by first.settings ts)
    by_done true older = ap (λ s. changed s t.given.command) older
    by_done false older = older

pub known-size : (first : KnownSettings) (gs : List Commanded)
    → length (known_from first gs).generations ≡ length first.generations
known-size first [] = refl
known-size first (g ∷ gs) = by_done (is_done g.answer) (known-size first gs)
  where
    by_done : (b : Bool)
        → length (known_from first gs).generations ≡ length first.generations
        → length (if b then known_after (known_from first gs) g.command
        else known_from first gs).generations ≡ length first.generations
    by_done true older =
        generations-size (known_from first gs).generations g.command ∙ older
    by_done false older = older

-- one more resize of queue r
raises : (gs : List ℕ) (r p n : ℕ) → r < length gs → slice_index gs p ≡ n
    → slice_index (slice_set gs r (slice_index gs r + 1)) p
    ≡ (if (p == r) && true then suc n else n)
raises gs r p n within is =
    dite (ℕ_discrete p r)
    (λ e.
    let more : slice_index gs r + 1 ≡ suc n =
    ap (λ k. slice_index gs k + 1) (sym e) ∙ (ap (λ k. k + 1) is ∙ plus n) in
    ap (λ k. slice_index (slice_set gs r (slice_index gs r + 1)) k) e
    ∙ (get_or-set_same gs r (slice_index gs r + 1) 0 within
    ∙ (more
    ∙ sym (ap (λ b. if b then suc n else n) (and-true (p == r)) ∙ if_same p r (suc n) n e))))
    (λ ne.
    get_or-set_other gs r p (slice_index gs r + 1) 0 ne
    ∙ (is ∙ sym (ap (λ b. if b then suc n else n) (and-true (p == r)) ∙ if_other p r (suc n) n ne)))
  where
    plus : (n : ℕ) → n + 1 ≡ suc n
    plus n = omega arith

    and-true : (b : Bool) → (b && true) ≡ b
    and-true true = refl
    and-true false = refl

done-raises : (c : Command) (gs : List ℕ) (p n : ℕ) → NamesReceiveQueues (length gs) c
    → slice_index gs p ≡ n
    → slice_index (generations_after gs c) p ≡ (if is_flows p c && true then suc n else n)
done-raises (give.Flows r count) gs p n names is = raises gs r p n names.0 is
done-raises (give.Mask q mask) gs p n names is = is
done-raises (give.Sock size) gs p n names is = is
done-raises (give.Offline cpu) gs p n names is = is
done-raises (give.Online cpu) gs p n names is = is
done-raises (give.XCpus tx cpus) gs p n names is = is
done-raises (give.XQueues tx rxqs) gs p n names is = is
done-raises (give.Reta entry q) gs p n names is = is
done-raises (give.Stand app cpu) gs p n names is = is
done-raises give.Expire gs p n names is = is

zero-at : (n p : ℕ) → slice_index (replicate n 0) p ≡ 0
zero-at zero p = refl
zero-at (suc n) zero = refl
zero-at (suc n) (suc p) = zero-at n p

module _ (plan : Plan) (p : ℕ) where
  -- what is known after these tries
  abbrev known_at : List Try → KnownSettings
  known_at ts = known_from (first_known plan) (given_in ts)

  pub known-generations : (ts : List Try)
      → All (λ (t : Try). NamesReceiveQueues (length plan.queues) t.given.command) ts
      → slice_index (known_at ts).generations p ≡ resizes_by p ts
  known-generations [] names = zero-at (length plan.queues) p
  known-generations (t ∷ ts) names =
      by_done (is_done t.given.answer)
      (known-generations ts
      (All-tail (λ (t : Try). NamesReceiveQueues (length plan.queues) t.given.command) t ts names))
      (All-head (λ (t : Try). NamesReceiveQueues (length plan.queues) t.given.command) t ts names)
    where
      by_done : (b : Bool) → slice_index (known_at ts).generations p ≡ resizes_by p ts
          → NamesReceiveQueues (length plan.queues) t.given.command
          → slice_index
          (if b then known_after (known_at ts) t.given.command else known_at ts).generations p
          ≡ (if is_flows p t.given.command && b then suc (resizes_by p ts) else resizes_by p ts)
      by_done true older named =
          done-raises t.given.command (known_at ts).generations p (resizes_by p ts)
          (subst (λ n. NamesReceiveQueues n t.given.command)
          (sym (known-size (first_known plan) (given_in ts) ∙ length-zeros (length plan.queues)))
          named) older
      by_done false older named =
          older
          ∙ sym (ap (λ b. if b then suc (resizes_by p ts) else resizes_by p ts)
          (and-false (is_flows p t.given.command)))
        where
          and-false : (b : Bool) → (b && false) ≡ false
          and-false true = refl
          and-false false = refl

-- ---- changes as the settings of a board

-- what is known agrees with the words of the settings
pub record Agrees (q : Queues) (words : ℕ → ℕ) (k : KnownSettings) : Type 0 where
  pub online : words (2 * queues q + 1) ≡ k.settings.online.0
  pub generations : (p : ℕ) → p < queues q → words (queues q + p) / 2 ^ 32
      ≡ slice_index k.generations p

pub agrees : (q : Queues) (s : Settings) (resized words : ℕ → ℕ) (k : KnownSettings)
    → AreReceiveWords q s resized words → k.settings ≡ s
    → ((p : ℕ) → p < queues q → slice_index k.generations p ≡ resized p) → Agrees q words k
agrees q s resized words k are settings generations =
    record {
      online = are.online ∙ sym (ap (λ (z : Settings). z.online.0) settings);
      generations = λ p less.
          (let word = are.flows p less in
          let small = are.small p less in
          let gen : words (queues q + p) / 2 ^ 32 ≡ resized p = omega (arith, word, small) in
          gen ∙ sym (generations p less));
    }

abbrev pub as_set : Change → SettingChange
as_set m = made m.number m.value

abbrev pub one_set : Change → List SettingChange
one_set m = as_set m ∷ []

module _ (q : Queues) (words : ℕ → ℕ) (k : KnownSettings) (agree : Agrees q words k) where
  next-is : (r count : ℕ) → r < queues q
      → next_flows (words (queues q + r)) count
      ≡ flows_word (rounded_up count) (slice_index k.generations r + 1)
  next-is r count less =
      let gen = agree.generations r less in
      ap (λ n. rounded_up count + 2 ^ 32 * (n + 1)) gen
      ∙ turn (rounded_up count) (slice_index k.generations r)
    where
      turn : (a n : ℕ) → a + 2 ^ 32 * (n + 1) ≡ a + (n + 1) * 2 ^ 32
      turn a n = omega arith

  pub receive-set : (c : Command) (m : Change) → NamesReceiveQueues (queues q) c
      → receive_change (queues q) k c ≡ Some m → received_sets q words c ≡ one_set m
  receive-set (give.Mask r cpus) m names is = ap one_set (some-is _ m is)
  receive-set (give.Flows r count) m names is =
      ap (λ v. made (queues q + r) v ∷ []) (next-is r count names.0)
      ∙ ap one_set (some-is _ m is)
  receive-set (give.Sock size) m names is = ap one_set (some-is _ m is)
  receive-set (give.Offline cpu) m names is =
      ap (λ n. made (2 * queues q + 1) (without_cpu (mask n) cpu).0 ∷ []) agree.online
      ∙ ap one_set (some-is _ m is)
  receive-set (give.Online cpu) m names is =
      ap (λ n. made (2 * queues q + 1) (with_cpu (mask n) cpu).0 ∷ []) agree.online
      ∙ ap one_set (some-is _ m is)
  receive-set (give.XCpus tx cpus) m names is = none-some m is
  receive-set (give.XQueues tx rxqs) m names is = none-some m is
  receive-set (give.Reta entry r) m names is = none-some m is
  receive-set (give.Stand app cpu) m names is = none-some m is
  receive-set give.Expire m names is = none-some m is

  pub receive-none : (c : Command) → receive_change (queues q) k c ≡ None
      → received_sets q words c ≡ []
  receive-none (give.XCpus tx cpus) is = refl
  receive-none (give.XQueues tx rxqs) is = refl
  receive-none (give.Reta entry r) is = refl
  receive-none (give.Stand app cpu) is = refl
  receive-none give.Expire is = refl
  receive-none (give.Mask r cpus) is = absurd (cc)
  receive-none (give.Flows r count) is = absurd (cc)
  receive-none (give.Sock size) is = absurd (cc)
  receive-none (give.Offline cpu) is = absurd (cc)
  receive-none (give.Online cpu) is = absurd (cc)

pub sent-set : (txs : ℕ) (c : Command) (m : Change) → transmit_change txs c ≡ Some m
    → sent_sets txs c ≡ one_set m
sent-set txs (give.XCpus tx cpus) m is = ap one_set (some-is _ m is)
sent-set txs (give.XQueues tx rxqs) m is = ap one_set (some-is _ m is)
sent-set txs (give.Mask r cpus) m is = none-some m is
sent-set txs (give.Flows r count) m is = none-some m is
sent-set txs (give.Sock size) m is = none-some m is
sent-set txs (give.Offline cpu) m is = none-some m is
sent-set txs (give.Online cpu) m is = none-some m is
sent-set txs (give.Reta entry r) m is = none-some m is
sent-set txs (give.Stand app cpu) m is = none-some m is
sent-set txs give.Expire m is = none-some m is

-- a command that changes the receive board has its gate, and changes nothing at the other
pub record AtReceive (h : History) (txs : ℕ) (c : Command) : Type 0 where
  pub sent : sent_sets txs c ≡ []
  pub lanes : gate_lanes h c ≡ Some h.lanes
  pub ends : (i : Input) → IsEnd i c says.Done

pub at-receive : (h : History) (count txs : ℕ) (k : KnownSettings) (c : Command) (m : Change)
    → receive_change count k c ≡ Some m → AtReceive h txs c
at-receive h count txs k (give.Mask r cpus) m is =
    record { sent = refl; lanes = refl; ends = λ i. refl }
at-receive h count txs k (give.Flows r flows) m is =
    record { sent = refl; lanes = refl; ends = λ i. refl }
at-receive h count txs k (give.Sock size) m is =
    record { sent = refl; lanes = refl; ends = λ i. refl }
at-receive h count txs k (give.Offline cpu) m is =
    record { sent = refl; lanes = refl; ends = λ i. refl }
at-receive h count txs k (give.Online cpu) m is =
    record { sent = refl; lanes = refl; ends = λ i. refl }
at-receive h count txs k (give.XCpus tx cpus) m is = none-some m is
at-receive h count txs k (give.XQueues tx rxqs) m is = none-some m is
at-receive h count txs k (give.Reta entry r) m is = none-some m is
at-receive h count txs k (give.Stand app cpu) m is = none-some m is
at-receive h count txs k give.Expire m is = none-some m is

pub record AtTransmit (h : History) (c : Command) : Type 0 where
  pub lanes : gate_lanes h c ≡ Some h.tx_lanes
  pub ends : (i : Input) → IsEnd i c says.Done

pub at-transmit : (h : History) (txs : ℕ) (c : Command) (m : Change)
    → transmit_change txs c ≡ Some m → AtTransmit h c
at-transmit h txs (give.XCpus tx cpus) m is = record { lanes = refl; ends = λ i. refl }
at-transmit h txs (give.XQueues tx rxqs) m is = record { lanes = refl; ends = λ i. refl }
at-transmit h txs (give.Mask r cpus) m is = none-some m is
at-transmit h txs (give.Flows r count) m is = none-some m is
at-transmit h txs (give.Sock size) m is = none-some m is
at-transmit h txs (give.Offline cpu) m is = none-some m is
at-transmit h txs (give.Online cpu) m is = none-some m is
at-transmit h txs (give.Reta entry r) m is = none-some m is
at-transmit h txs (give.Stand app cpu) m is = none-some m is
at-transmit h txs give.Expire m is = none-some m is
