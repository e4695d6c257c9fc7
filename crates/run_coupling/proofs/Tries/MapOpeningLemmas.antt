-- The words and the settings of the transmit board at an opening are those of the tries up to it.
use Rattle.steer_model.specs.Good.Inputs.{settings_at}
use Rattle.run_coupling.proofs.Names.{◌≡◌, ℕ, ◌≤◌, List, length, take, All, sym, ap, ◌∙◌, subst}
use Rattle.run_coupling.proofs.Names.{arith, length-append, Command, History, gate_steps, opened}
use Rattle.run_coupling.proofs.Names.{own_settings, closer, BoardSizes, BoardStep, BoardLists}
use Rattle.run_coupling.proofs.Names.{SettingChange, sent_sets, Input, settings_after, Settings}
use Rattle.run_coupling.proofs.Names.{initial_settings, AreTransmitWords, NamesTransmitQueues}
use Rattle.run_coupling.proofs.Names.{AllSetByAnswer, Try, settings_by, tries_up_to}
use Rattle.run_coupling.proofs.Tries.OpeningLemmas.{all-later, are-later}
use Rattle.run_coupling.proofs.Tries.TryLemmas.{first-tries, given_by, length-given, settings-given}
use Rattle.run_coupling.proofs.Tries.TryLemmas.{settings_opened, take-given}
use Rattle.run_coupling.specs.Coupling.Boards.{IsTransmitBoard}
use Rattle.run_coupling.specs.Coupling.Tries.{KeepsTransmitTries, at_transmit}
use Rattle.run_coupling.proofs.Tries.MapLemmas.{maps_are}

module _ (i : Input) (h : History) (about : BoardSizes) (own : ℕ → List BoardStep)
    (lists : BoardLists) (tries : List Try) (board : IsTransmitBoard i h about lists)
    (kept : KeepsTransmitTries i h about own tries (length i.plan.tx))
    (fits : All (λ (t : Try). NamesTransmitQueues (length i.plan.tx) t.given.command) tries) where
  abbrev count : ℕ
  count = length i.plan.tx

  abbrev ss : (ℕ → ℕ) → Command → List SettingChange
  ss w c = sent_sets count c

  abbrev begin : Settings
  begin = initial_settings i.plan

  abbrev upto : ℕ → List Try
  upto n = tries_up_to at_transmit n tries

  abbrev shown : ℕ → ℕ → ℕ
  shown n = own_settings about (opened n (gate_steps (own (closer about))))

  pub maps_of_opening : (n : ℕ) → AreTransmitWords count (settings_by begin (upto n)) (shown n)
  maps_of_opening n =
      let f = first-tries about ss at_transmit n tries kept.are in
      let are : AllSetByAnswer about ss at_transmit (upto n) =
      are-later about ss at_transmit f.0 (upto n)
      (subst (AllSetByAnswer about ss at_transmit) f.1 kept.are) in
      let fit : All (λ (t : Try). NamesTransmitQueues count t.given.command) (upto n) =
      all-later (λ (t : Try). NamesTransmitQueues count t.given.command) f.0 (upto n)
      (subst (All (λ (t : Try). NamesTransmitQueues count t.given.command)) f.1 fits) in
      subst (AreTransmitWords count (settings_by begin (upto n)))
      (sym (ap (λ ds. own_settings about (opened n (gate_steps ds))) kept.own_list
      ∙ settings_opened about ss at_transmit n tries kept.are))
      (maps_are about count begin at_transmit board.settings (upto n) fit are)

  pub settings_of_opening : (n : ℕ) → settings_at i h (length (upto n)) ≡ settings_by begin (upto n)
  settings_of_opening n =
      let f = first-tries about ss at_transmit n tries kept.are in
      ap (settings_after begin)
      (ap (take (length (upto n))) (kept.commands ∙ ap given_by f.1) ∙ take-given f.0 (upto n))
      ∙ sym (settings-given begin (upto n))

  pub length-upto : (n : ℕ) → length (upto n) ≤ length h.commands
  length-upto n =
      let f = first-tries about ss at_transmit n tries kept.are in
      let a = ap length f.1 in
      let b = length-append f.0 (upto n) in
      let c = ap length kept.commands in
      let d = length-given tries in
      omega arith
