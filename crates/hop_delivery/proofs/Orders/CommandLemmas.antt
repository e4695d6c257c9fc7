-- The lanes that have to be empty for the settings of a command are among those that it affects.
use Rattle.std.proofs.lemmas.Bool.{eqb-true, lt-ltb, not-true, or_cases, or_parts}
use Rattle.std.proofs.lemmas.List.Elements.{All-nil, All-cons}
use Rattle.std.specs.Prelude.{◌==◌, ◌&&◌, ◌||◌, if◌then◌else◌}
use Rattle.steer_base.proofs.MasksLemmas.{has-with_cpu, has-without_cpu}
use Rattle.steer_base.specs.{Commands.is_affected, Sets.with_cpu, Sets.without_cpu}
use Rattle.steer_base.specs.declared.command.Command.{Command, TheVariants.Mask, TheVariants.Flows}
use Rattle.steer_base.specs.declared.command.Command.TheVariants.{Sock, Offline, Online, XCpus}
use Rattle.steer_base.specs.declared.command.Command.TheVariants.{XQueues, Reta, Stand, Expire}
use Rattle.steer_base.specs.declared.cpu_mask.CpuMask.{CpuMask}
use Rattle.hop_delivery.proofs.Names.{◌≡◌, ◌⊎◌, inl, inr, ℕ, zero, suc, ◌+◌, ◌<◌, Bool, true, false}
use Rattle.hop_delivery.proofs.Names.{not, List, [], ◌∷◌, refl, sym, ap, ◌∙◌, nat_lt, list_any}
use Rattle.hop_delivery.proofs.Names.{range_with_len, cases_Bool, true≢false, eq-eqb, has, Queues}
use Rattle.hop_delivery.proofs.{Names.online_word, Names.receive_steering, Orders.FilterLemmas.both}
use Rattle.hop_delivery.specs.Orders.Commands.{SettingChange, made, received_sets, sent_sets}
use Rattle.hop_delivery.specs.Orders.Commands.{NamesCpu, AreAffected, ReceivedCommandsEmpty}
use Rattle.hop_delivery.specs.Orders.{Commands.SentCommandsEmpty, ReceiveSettings.came_on}
use Rattle.hop_delivery.specs.Orders.ReceiveSettings.{empty_for_mask, must_be_empty, online}
use Rattle.hop_delivery.specs.Orders.TransmitSettings.{transmit_steering}

-- of one setting
one : (P : SettingChange → Type 0) (m : SettingChange) → P m → Rattle.std.specs.Prelude.All P
    (m ∷ [])
one P m h = All-cons P m [] h (All-nil P)

-- a test that no number of a range passes
none_of : (test : ℕ → Bool) (a n : ℕ) → ((c : ℕ) → test c ≡ false)
    → list_any test (range_with_len a n) ≡ false
none_of test a zero none = refl
none_of test a (suc n) none = (λ i. none a i || none_of test (a + 1) n none i)

module _ (q : Queues) (s : ℕ → ℕ) (cpu l : ℕ) (small : cpu < 32) where
  abbrev old : CpuMask
  old = online q s

  -- for a processor that goes offline: itself
  off_empty : empty_for_mask q old (without_cpu old cpu) l ≡ true → (l == cpu) ≡ true
  off_empty e = elim (or_cases (has old l && not (has (without_cpu old cpu) l)) _ e) [
    | inl gone ↦ (
        let g = both (has old l) (not (has (without_cpu old cpu) l)) gone in
        let out : (has old l && not (cpu == l)) ≡ false = sym (has-without_cpu old cpu l small)
        ∙ not-true (has (without_cpu old cpu) l) g.1 in by_test (has old l) (cpu == l) refl g.0 out)
    | inr came ↦ absurd (true≢false
        (sym (both (list_any (λ home. home == l) q.homes) (came_on q old (without_cpu old cpu))
        came).1 ∙ none_of _ 0 32 none_came))
  ] where
    by_test : (a b : Bool) → (cpu == l) ≡ b → a ≡ true → (a && not b) ≡ false → (l == cpu) ≡ true
    by_test true true is on out = eq-eqb l cpu (sym (eqb-true cpu l is))
    by_test true false is on out = absurd (true≢false out)
    by_test false b is on out = absurd (true≢false (sym on))

    off_or : (a b : Bool) → (not a && (a && b)) ≡ false
    off_or true b = refl
    off_or false b = refl

    none_came : (c : ℕ) → (not (has old c) && has (without_cpu old cpu) c) ≡ false
    none_came c = ap (λ b. not (has old c) && b) (has-without_cpu old cpu c small)
        ∙ off_or (has old c) (not (cpu == c))

  -- for a processor that comes online: the homes of the queues
  on_empty : empty_for_mask q old (with_cpu old cpu) l ≡ true → list_any (λ home. home == l) q.homes
      ≡ true
  on_empty e = elim (or_cases (has old l && not (has (with_cpu old cpu) l)) _ e) [
    | inl gone ↦ (
        let g = both (has old l) (not (has (with_cpu old cpu) l)) gone in
        absurd (true≢false (sym (g.0) ∙ (or_parts (has old l) _ (sym (has-with_cpu old cpu l small)
        ∙ not-true (has (with_cpu old cpu) l) g.1)).0)))
    | inr came ↦ (both (list_any (λ home. home == l) q.homes) (came_on q old (with_cpu old cpu))
        came).0
  ]

module _ (q : Queues) (s : ℕ → ℕ) (cpus txs l : ℕ) (less : l < cpus) where
  abbrev Received : Command → SettingChange → Type 0
  Received c m = must_be_empty q s m.word m.value l ≡ true → is_affected c q.homes cpus txs l ≡ true

  all : nat_lt l cpus ≡ true
  all = lt-ltb l cpus less

  at_mask : (v : ℕ) → must_be_empty q s (online_word q) v l ≡ true → empty_for_mask q (online q s)
      (record { 0 = v }) l ≡ true
  at_mask v e = sym (ap (λ b. if b then empty_for_mask q (online q s) (record { 0 = v }) l else
      true) (eq-eqb (online_word q) (online_word q) refl)) ∙ e

  received : (c : Command) → NamesCpu c → AreAffected (receive_steering q) s c q.homes cpus txs l
      (received_sets q s c)
  received (Mask queue mask) names = one (Received (Mask queue mask)) _ (λ _. all)
  received (Flows queue count) names = one (Received (Flows queue count)) _ (λ _. all)
  received (Sock size) names = one (Received (Sock size)) _ (λ _. all)
  received (Offline cpu) names = one (Received (Offline cpu)) _
      (λ e. off_empty q s cpu l names (at_mask (without_cpu (online q s) cpu).0 e))
  received (Online cpu) names = one (Received (Online cpu)) _
      (λ e. on_empty q s cpu l names (at_mask (with_cpu (online q s) cpu).0 e))
  received (XCpus tx mask) names = All-nil (Received (XCpus tx mask))
  received (XQueues tx queues) names = All-nil (Received (XQueues tx queues))
  received (Reta place queue) names = All-nil (Received (Reta place queue))
  received (Stand app cpu) names = All-nil (Received (Stand app cpu))
  received Expire names = All-nil (Received Expire)

pub received_commands_empty : ReceivedCommandsEmpty
received_commands_empty q s c cpus txs l names less = received q s cpus txs l less c names

module _ (flow s : ℕ → ℕ) (homes : List ℕ) (count cpus l : ℕ) where
  abbrev Sent : Command → SettingChange → Type 0
  Sent c m = (transmit_steering flow).affects s m.word m.value l ≡ true
      → is_affected c homes cpus count l ≡ true

  sent : (c : Command) → AreAffected (transmit_steering flow) s c homes cpus count l
      (sent_sets count c)
  sent (XCpus tx mask) = one (Sent (XCpus tx mask)) (made tx mask.0)
      (λ e. absurd (true≢false (sym e)))
  sent (XQueues tx queues) = one (Sent (XQueues tx queues)) (made (count + tx) queues)
      (λ e. absurd (true≢false (sym e)))
  sent (Mask queue mask) = All-nil (Sent (Mask queue mask))
  sent (Flows queue count) = All-nil (Sent (Flows queue count))
  sent (Sock size) = All-nil (Sent (Sock size))
  sent (Offline cpu) = All-nil (Sent (Offline cpu))
  sent (Online cpu) = All-nil (Sent (Online cpu))
  sent (Reta place queue) = All-nil (Sent (Reta place queue))
  sent (Stand app cpu) = All-nil (Sent (Stand app cpu))
  sent Expire = All-nil (Sent Expire)

pub sent_commands_empty : SentCommandsEmpty
sent_commands_empty flow s c homes count cpus l = sent flow s homes count cpus l c
