-- What the controller did gives its coupling invariants.
use Rattle.std.specs.Prelude.{slice_get}
use Rattle.steer_base.specs.declared.command.Answer.TheVariants as says
use Rattle.steer_base.specs.declared.command.Command.TheVariants as give
use Rattle.steer_base.specs.Commands.{refusal}
use Rattle.steer_model.specs.State.Start.{initial_settings}
use Rattle.run_coupling.specs.Laws.SharedCodes.{AreShared}
use Rattle.run_coupling.specs.Coupling.Answers.{AllAnswered}
use Rattle.run_coupling.specs.Coupling.EmptiedLanes.{AllFindLanes}
use Rattle.run_coupling.specs.Coupling.Hints.{HintCodes}
use Rattle.run_coupling.specs.Coupling.Inputs.{receive_queues}
use Rattle.run_coupling.specs.Coupling.Tries.{AllSetByAnswer, at_receive, at_transmit, settings_by}
use Rattle.run_coupling.specs.Coupling.Tries.{steps_of_tries, words_after}
use Rattle.run_coupling.proofs.Runs.QueueLemmas.{all_name_queues}
use Rattle.run_coupling.proofs.Tries.GivenLemmas.{all_within}
use Rattle.run_coupling.proofs.Tries.RangeLemmas.{IsWithinPlan}
use Rattle.run_coupling.proofs.Tries.ResizeLemmas.{resizes_by}
use Rattle.run_coupling.proofs.Tries.WordLemmas.{words_are}
use Rattle.run_controller.specs.Journals.{AllAttempted}
use Rattle.run_controller.specs.Laws.{AreBoards, ControllerKeepsCoupling, IsStoredFor}
use Rattle.run_controller.proofs.Names.{◌≡◌, ◌⊎◌, inl, inr, ℕ, zero, suc, List, [], ◌∷◌, ◌++◌, Some}
use Rattle.run_controller.proofs.Names.{length, map, All, refl, sym, ap, subst, ◌∙◌, arith}
use Rattle.run_controller.proofs.Names.{append_assoc, Contains, length-map, All-cons, All-head}
use Rattle.run_controller.proofs.Names.{All-nil, All-tail, HintStep, ClearIf, Store, Commanded}
use Rattle.run_controller.proofs.Names.{History, none-some, BoardView, received_sets, sent_sets}
use Rattle.run_controller.proofs.Names.{Queues, queues, QueuePlan, Input, setup_in, Settings, Setup}
use Rattle.run_controller.proofs.Names.{Shared, NamesReceiveQueues, Try, oldest_first}
use Rattle.run_controller.proofs.Names.{GatedTriesKeep, TriesUnless, known_from, KnownSettings}
use Rattle.run_controller.proofs.Names.{first_known, Stage, stage, Seats}
use Rattle.run_controller.proofs.AgreeLemmas.{Agrees, agrees, given_in, known-generations}
use Rattle.run_controller.proofs.AgreeLemmas.{known-settings}
use Rattle.run_controller.proofs.ListLemmas.{append-none, contains-first, contains-later}
use Rattle.run_controller.proofs.HintLemmas.{ClearsFilters, IsStoredBy, clears-none, clears-on}
use Rattle.run_controller.proofs.OneTryLemmas.{Kept, attempt_kept, stage_in}

-- ---- lists

contains-oldest : (xs : List Commanded) (x : Commanded) → Contains xs x
    → (j : ℕ) × (slice_get (oldest_first xs) j ≡ Some x)
contains-oldest [] x (k, less, is) = absurd (omega arith)
contains-oldest (y ∷ xs) x (zero, less, is) = behind (oldest_first xs) is
  where
    behind : (zs : List Commanded) → y ≡ x → (j : ℕ) × (slice_get (zs ++ y ∷ []) j ≡ Some x)
    behind [] e = (0, ap (λ z. Some z) e)
    behind (z ∷ zs) e = let b = behind zs e in (suc b.0, b.1)
contains-oldest (y ∷ xs) x (suc k, less, is) =
    let b = contains-oldest xs x (k, omega arith, is) in
    (b.0, front (oldest_first xs) (y ∷ []) b.0 b.1)
  where
    front : (zs more : List Commanded) (j : ℕ) → slice_get zs j ≡ Some x
        → slice_get (zs ++ more) j ≡ Some x
    front [] more j at = none-some x at
    front (z ∷ zs) more zero at = at
    front (z ∷ zs) more (suc j) at = front zs more j at

-- tries without steps of these commands
abbrev bare : List Commanded → List Try
bare gs = map (λ g. record { given = g; rx_steps = []; tx_steps = [] }) gs

given-bare : (gs : List Commanded) → given_in (bare gs) ≡ gs
given-bare [] = refl
given-bare (g ∷ gs) = ap (λ zs. g ∷ zs) (given-bare gs)

module _ (i : Input) where
  abbrev Within : Commanded → Type 0
  Within g = IsWithinPlan i.plan g.command

  within-bare : (gs : List Commanded)
      → All (λ (t : Try). IsWithinPlan i.plan t.given.command) (bare gs) → All Within gs
  within-bare [] all = All-nil Within
  within-bare (g ∷ gs) all =
      let t : Try = record { given = g; rx_steps = []; tx_steps = [] } in
      All-cons Within g gs
      (All-head (λ (t : Try). IsWithinPlan i.plan t.given.command) t (bare gs) all)
      (within-bare gs (All-tail (λ (t : Try). IsWithinPlan i.plan t.given.command) t (bare gs) all))

  within-tries : (ts : List Try) → All Within (given_in ts)
      → All (λ (t : Try). IsWithinPlan i.plan t.given.command) ts
  within-tries [] all = All-nil (λ (t : Try). IsWithinPlan i.plan t.given.command)
  within-tries (t ∷ ts) all =
      All-cons (λ (t : Try). IsWithinPlan i.plan t.given.command) t ts
      (All-head Within t.given (given_in ts) all)
      (within-tries ts (All-tail Within t.given (given_in ts) all))

  -- a command of the plan names receive queues that there are
  names-one : (g : Commanded) → Within g
      → NamesReceiveQueues (queues (receive_queues i)) g.command
  names-one g within =
      let t : Try = record { given = g; rx_steps = []; tx_steps = [] } in
      All-head (λ (t : Try). NamesReceiveQueues (queues (receive_queues i)) t.given.command) t []
      (all_name_queues i (t ∷ [])
      (All-cons (λ (t : Try). IsWithinPlan i.plan t.given.command) t [] within
      (All-nil (λ (t : Try). IsWithinPlan i.plan t.given.command))))

-- ---- all tries

module _ (i : Input) (h : History) (hints : Shared) (rx tx : BoardView)
    (boards : AreBoards i h rx.sizes tx.sizes) (keep : GatedTriesKeep) where
  abbrev q : Queues
  q = receive_queues i

  abbrev txs : ℕ
  txs = length i.plan.tx

  abbrev first : KnownSettings
  first = first_known i.plan

  abbrev z : Stage
  z = stage_in i h hints rx tx

  -- what all tries keep
  record AllKept (late : List Commanded) (old new : Seats) : Type 0 where
    tries : List Try
    givens : given_in tries ≡ late
    rx_are : new.rx.steps ≡ steps_of_tries at_receive tries ++ old.rx.steps
    tx_are : new.tx.steps ≡ steps_of_tries at_transmit tries ++ old.tx.steps
    rx_sets : AllSetByAnswer rx.sizes (received_sets q) at_receive tries
    tx_sets : AllSetByAnswer tx.sizes (λ w c. sent_sets txs c) at_transmit tries
    finds : AllFindLanes rx.sizes q i.plan.cpus txs at_receive tries
    answered : AllAnswered i h tries
    stored : (n v : ℕ) → Contains new.hint.steps (Store n v)
        → Contains old.hint.steps (Store n v)
        ⊎ ((g : Commanded) × Contains late g × IsStoredBy g n v)
    cleared : ClearsFilters i.plan.filters old.hint new.hint

  abbrev words : List Try → ℕ → ℕ
  words ts = words_after rx.sizes (received_sets q) at_receive ts

  agrees_after : (ts : List Try) → All (λ (t : Try). IsWithinPlan i.plan t.given.command) ts
      → AllSetByAnswer rx.sizes (received_sets q) at_receive ts
      → Agrees q (words ts) (known_from first (given_in ts))
  agrees_after ts within sets =
      let names = all_name_queues i ts within in
      let size = length-map i.plan.queues (λ (queue : QueuePlan). queue.home) in
      agrees q (settings_by (initial_settings i.plan) ts) (λ p. resizes_by p ts) (words ts)
      (known_from first (given_in ts))
      (words_are rx.sizes q (initial_settings i.plan) at_receive boards.settings ts names sets)
      (known-settings first ts)
      (λ p less. known-generations i.plan p ts
      (subst (λ n. All (λ (t : Try). NamesReceiveQueues n t.given.command) ts) size names))

  one_more : (g : Commanded) (rest : List Commanded) (old mid new : Seats)
      → Within i g → All (Within i) rest → (a : AllKept rest old mid)
      → Kept i h hints rx tx (words a.tries)
      (refusal (settings_by (initial_settings i.plan) a.tries).online g.command (setup_in i).homes
      (settings_by (initial_settings i.plan) a.tries).stands) g mid new
      → AllKept (g ∷ rest) old new
  one_more g rest old mid new within all a k =
      let t : Try = record { given = g; rx_steps = k.rx_steps; tx_steps = k.tx_steps } in
      record {
        tries = t ∷ a.tries;
        givens = ap (λ zs. g ∷ zs) a.givens;
        rx_are = k.rx_are ∙ (ap (λ ds. k.rx_steps ++ ds) a.rx_are
            ∙ sym (append_assoc k.rx_steps (steps_of_tries at_receive a.tries) old.rx.steps));
        tx_are = k.tx_are ∙ (ap (λ ds. k.tx_steps ++ ds) a.tx_are
            ∙ sym (append_assoc k.tx_steps (steps_of_tries at_transmit a.tries) old.tx.steps));
        rx_sets = (k.rx_sets, a.rx_sets);
        tx_sets = (
          k.tx_sets (words_after tx.sizes (λ w c. sent_sets txs c) at_transmit a.tries),
          a.tx_sets,
        );
        finds = (k.finds, a.finds);
        answered = (k.answered, a.answered);
        stored = λ n v has. elim (k.stored n v has) [
          | inl older ↦ elim (a.stored n v older) [
            | inl oldest ↦ inl oldest
            | inr (d, among, by) ↦ inr (d, contains-later g rest d among, by)
          ]
          | inr by ↦ inr (g, contains-first g rest, by)
        ];
        cleared = clears-on i.plan.filters old.hint mid.hint new.hint a.cleared k.cleared;
      }

  all_kept : (late : List Commanded) (old new : Seats) → All (Within i) late
      → AllAttempted z first late old new → AllKept late old new
  all_kept [] old new within same =
      record {
        tries = [];
        givens = refl;
        rx_are = ap (λ (s : Seats). s.rx.steps) same;
        tx_are = ap (λ (s : Seats). s.tx.steps) same;
        rx_sets = tt;
        tx_sets = tt;
        finds = tt;
        answered = tt;
        stored = λ n v has. inl (subst (λ (s : Seats). Contains s.hint.steps (Store n v)) same has);
        cleared = clears-none i.plan.filters old.hint new.hint (ap (λ (s : Seats). s.hint) same);
      }
  all_kept (g ∷ rest) old new within (mid, older, attempt) =
      let tail = All-tail (Within i) g rest within in
      let a = all_kept rest old mid tail older in
      let named = within-tries i a.tries (subst (All (Within i)) (sym a.givens) tail) in
      let agree = agrees_after a.tries named a.rx_sets in
      let head = All-head (Within i) g rest within in
      let k : KnownSettings = known_from first (given_in a.tries) in
      let tried : TriesUnless z k g.command
      (refusal k.settings.online g.command (setup_in i).homes k.settings.stands)
      g.answer mid new =
      subst (λ (gs : List Commanded). TriesUnless z (known_from first gs) g.command
      (refusal (known_from first gs).settings.online g.command (setup_in i).homes
      (known_from first gs).settings.stands) g.answer mid new) (sym a.givens) attempt in
      one_more g rest old mid new head tail a
      (subst (λ (s : Settings). Kept i h hints rx tx (words a.tries)
      (refusal s.online g.command (setup_in i).homes s.stands) g mid new)
      (known-settings first a.tries)
      (attempt_kept i h hints rx tx boards keep (words a.tries) k agree g.command
      (refusal k.settings.online g.command (setup_in i).homes k.settings.stands) g.answer mid new
      (names-one i g head) tried))

-- ---- the coupling

stored_for : (h : History) (c : HintCodes) (late : List Commanded) (g : Commanded) (n v : ℕ)
    → AreShared c → h.commands ≡ oldest_first late → Contains late g → IsStoredBy g n v
    → IsStoredFor h c n v
stored_for h c late g n v shared journal among by =
    elim by [
      | inl (entry, r, number, value, is) ↦
          inl (
            entry,
            r,
            number ∙ sym (shared.entry entry),
            value ∙ sym (shared.place r),
            done (record { command = give.Reta entry r; answer = says.Done }) is,
          )
      | inr (inl (app, cpu, number, value, is)) ↦
          inr (inl (
            app,
            cpu,
            number ∙ sym (shared.stand app),
            value ∙ sym (shared.place cpu),
            done (record { command = give.Stand app cpu; answer = says.Done }) is,
          ))
      | inr (inr (place, size, low, number, value, is)) ↦
          inr (inr (
            place,
            size,
            low,
            number ∙ sym (shared.socket place),
            value,
            done (record { command = give.Sock size; answer = says.Done }) is,
          ))
    ]
  where
    done : (d : Commanded) → g ≡ d → (j : ℕ) × (slice_get h.commands j ≡ Some d)
    done d is =
        let at = contains-oldest late g among in
        (at.0, ap (λ zs. slice_get zs at.0) journal ∙ (at.1 ∙ ap (λ x. Some x) is))

pub controller_keeps_coupling : GatedTriesKeep → ControllerKeepsCoupling
controller_keeps_coupling keep i h s rx_own tx_own c last old new shared boards given filters
    rx_none
    tx_none hint_none rx_is tx_is gives a =
    let late : List Commanded = a.late in
    let journal : h.commands ≡ oldest_first late = a.journal in
    let within = within-bare i late
    (all_within i.plan (bare late) h.commands
    (journal ∙ ap oldest_first (sym (given-bare late))) gives) in
    let attempted : AllAttempted (stage_in i h s.shared s.rx s.tx) (first_known i.plan) late old
    new =
    subst (λ (p : Setup × ℕ).
    AllAttempted (stage (record s.shared { given = p.0; filters = p.1 }) s.rx s.tx)
    (first_known i.plan) late old new) (λ j. (given j, filters j)) a.attempted in
    let k = all_kept i h s.shared s.rx s.tx boards keep late old new within attempted in
    let commands : h.commands ≡ oldest_first (given_in k.tries) =
    journal ∙ ap oldest_first (sym k.givens) in (
      k.tries,
      record {
        received = record {
          commands = commands;
          own_list = rx_is ∙ (k.rx_are
              ∙ (ap (λ ds. steps_of_tries at_receive k.tries ++ ds) rx_none
              ∙ append-none (steps_of_tries at_receive k.tries)));
          are = k.rx_sets;
        };
        sent = record {
          commands = commands;
          own_list = tx_is ∙ (k.tx_are
              ∙ (ap (λ ds. steps_of_tries at_transmit k.tries ++ ds) tx_none
              ∙ append-none (steps_of_tries at_transmit k.tries)));
          are = k.tx_sets;
        };
        finds = k.finds;
        commands = record { given = gives; answered = k.answered };
        stored = λ n v has. elim (k.stored n v has) [
          | inl oldest ↦
              absurd (no-step (Store n v)
              (subst (λ ds. Contains ds (Store n v)) hint_none oldest))
          | inr found ↦ stored_for h c late found.0 n v shared journal found.1 found.2
        ];
        cleared = λ n v clears has. elim (k.cleared n v clears has) [
          | inl oldest ↦
              absurd (no-step (ClearIf n v clears)
              (subst (λ ds. Contains ds (ClearIf n v clears)) hint_none oldest))
          | inr (place, less, is) ↦ (place, less, is ∙ sym (shared.filter place))
        ];
      },
    )
  where
    no-step : (d : HintStep) → Contains [] d → ⊥
    no-step d (k, less, is) = absurd (omega arith)
