-- The words and the settings of the receive board at an opening are those of the tries up to it.
use Rattle.steer_model.specs.Good.Inputs.{settings_at}
use Rattle.run_coupling.proofs.Names.{◌≡◌, ℕ, ◌≤◌, List, [], ◌∷◌, ◌++◌, length, take, All, sym, ap}
use Rattle.run_coupling.proofs.Names.{◌∙◌, subst, arith, length-append, All-tail, Command, History}
use Rattle.run_coupling.proofs.Names.{gate_steps, opened, own_settings, closer, BoardSizes}
use Rattle.run_coupling.proofs.Names.{BoardStep, BoardLists, SettingChange, received_sets, Queues}
use Rattle.run_coupling.proofs.Names.{queues, Input, settings_after, Settings, initial_settings}
use Rattle.run_coupling.proofs.Names.{AreReceiveWords, NamesReceiveQueues, AllSetByAnswer, Try}
use Rattle.run_coupling.proofs.Names.{settings_by, tries_up_to}
use Rattle.run_coupling.proofs.Tries.TryLemmas.{first-tries, given_by, length-given, settings-given}
use Rattle.run_coupling.proofs.Tries.TryLemmas.{settings_opened, take-given}
use Rattle.run_coupling.proofs.Tries.WordLemmas.{words_are}
use Rattle.run_coupling.specs.Coupling.Boards.{IsReceiveBoard}
use Rattle.run_coupling.specs.Coupling.Inputs.{receive_queues}
use Rattle.run_coupling.specs.Coupling.Tries.{KeepsReceiveTries, at_receive}
use Rattle.run_coupling.proofs.Tries.ResizeLemmas.{resizes_by}

pub are-later : (about : BoardSizes) (sets : (ℕ → ℕ) → Command → List SettingChange)
    (f : Try → List BoardStep)
    (more ts : List Try) → AllSetByAnswer about sets f (more ++ ts) → AllSetByAnswer about sets f ts
are-later about sets f [] ts are = are
are-later about sets f (t ∷ more) ts are = are-later about sets f more ts are.1

pub all-later : {A : Type 0} (P : A → Type 0) (xs ys : List A) → All P (xs ++ ys) → All P ys
all-later P [] ys all = all
all-later P (x ∷ xs) ys all = all-later P xs ys (All-tail P x (xs ++ ys) all)

module _ (i : Input) (h : History) (about : BoardSizes) (own : ℕ → List BoardStep)
    (lists : BoardLists) (tries : List Try) (board : IsReceiveBoard i h about lists)
    (kept : KeepsReceiveTries i h about own tries)
    (fits : All (λ (t : Try). NamesReceiveQueues (queues (receive_queues i)) t.given.command) tries)
  where
    abbrev q : Queues
    q = receive_queues i

    abbrev first : Settings
    first = initial_settings i.plan

    abbrev sets : (ℕ → ℕ) → Command → List SettingChange
    sets = received_sets q

    abbrev upto : ℕ → List Try
    upto n = tries_up_to at_receive n tries

    abbrev after : ℕ → Settings
    after n = settings_by first (upto n)

    abbrev shown : ℕ → ℕ → ℕ
    shown n = own_settings about (opened n (gate_steps (own (closer about))))

    pub words_of_opening : (n : ℕ)
        → AreReceiveWords q (after n) (λ p. resizes_by p (upto n)) (shown n)
    words_of_opening n =
        let f = first-tries about sets at_receive n tries kept.are in
        let are : AllSetByAnswer about sets at_receive (upto n) =
        are-later about sets at_receive f.0 (upto n)
        (subst (AllSetByAnswer about sets at_receive) f.1 kept.are) in
        let fit : All (λ (t : Try). NamesReceiveQueues (queues q) t.given.command) (upto n) =
        all-later (λ (t : Try). NamesReceiveQueues (queues q) t.given.command) f.0 (upto n)
        (subst (All (λ (t : Try). NamesReceiveQueues (queues q) t.given.command)) f.1 fits) in
        subst (AreReceiveWords q (after n) (λ p. resizes_by p (upto n)))
        (sym (ap (λ ds. own_settings about (opened n (gate_steps ds))) kept.own_list
        ∙ settings_opened about sets at_receive n tries kept.are))
        (words_are about q first at_receive board.settings (upto n) fit are)

    pub take-upto : (n : ℕ) → take (length (upto n)) h.commands ≡ given_by (upto n)
    take-upto n =
        let f = first-tries about sets at_receive n tries kept.are in
        ap (take (length (upto n))) (kept.commands ∙ ap given_by f.1) ∙ take-given f.0 (upto n)

    pub settings_of_opening : (n : ℕ) → settings_at i h (length (upto n)) ≡ after n
    settings_of_opening n = ap (settings_after first) (take-upto n)
        ∙ sym (settings-given first (upto n))

    pub length-upto : (n : ℕ) → length (upto n) ≤ length h.commands
    length-upto n =
        let f = first-tries about sets at_receive n tries kept.are in
        let a = ap length f.1 in
        let b = length-append f.0 (upto n) in
        let c = ap length kept.commands in
        let d = length-given tries in
        omega arith
