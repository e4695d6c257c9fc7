-- A choice by the rule of its visit, with the head that it keeps, is by the rule of a good history,
-- with the settings after the commands up to the visit's opening.
use Rattle.run_goodness.proofs.Names.{◌≡◌, ℕ, Bool, true, false, Option, Some, None, ◌==◌, not}
use Rattle.run_goodness.proofs.Names.{if◌then◌else◌, sym, refl, ap, unwrap_or, by_entry, migrate}
use Rattle.run_goodness.proofs.Names.{has_reached, Choice, Entry, Why, Offline, Same, Passed, Kept}
use Rattle.run_goodness.proofs.Names.{inl, inr, zero, suc, ◌+◌, ◌/◌, ◌%◌, ◌^◌, ◌<◌, ◌≤◌, List, []}
use Rattle.run_goodness.proofs.Names.{◌∷◌, ◌++◌, length, take, drop, All, ◌∙◌, subst, arith}
use Rattle.run_goodness.proofs.Names.{slice_get, list_any, lt-ltb, entry, has, Chosen, Command}
use Rattle.run_goodness.proofs.Names.{since_resize, list_at, History, chosen_at, nobody, gate_steps}
use Rattle.run_goodness.proofs.Names.{nth_step, closer, BoardSizes, BoardStep, nth-some}
use Rattle.run_goodness.proofs.Names.{VisitNumbersRise, BoardLists, SettingChange, receive_steering}
use Rattle.run_goodness.proofs.Names.{Steering, Execution, turns_of, word_of, Turn, accepted_left}
use Rattle.run_goodness.proofs.Names.{Input, settings_at, setup_in, Settings, flow_number_of}
use Rattle.run_goodness.proofs.Names.{packet_hash, initial_settings, commands_before}
use Rattle.run_goodness.proofs.Names.{receive_queues, Try, at_receive, settings_by, tries_up_to}
use Rattle.std.proofs.Common.{◌*◌}
use Rattle.std.specs.Prelude.{nat_lt, slice_index, slice_index_or}
use Rattle.std.proofs.lemmas.Bool.{cases_lt}
use Rattle.steer_base.specs.Choices.{class_of, desired_cpu, online_or, rps_choice_of}
use Rattle.hop_rule.specs.Gates.{opened, own_settings}
use Rattle.hop_delivery.specs.Orders.Commands.{received_sets}
use Rattle.hop_delivery.specs.Orders.ReceiveSettings.{Queues, flows_word, mask, mask_word, online}
use Rattle.hop_delivery.specs.Orders.ReceiveSettings.{queues}
use Rattle.hop_delivery.specs.Orders.Runs.{goal_of}
use Rattle.steer_model.specs.Good.Choices.{AreByRule, accepted_in}
use Rattle.steer_model.specs.Good.Choices as good
use Rattle.steer_model.specs.Good.Inputs.{is_resize, since_at}
use Rattle.steer_model.specs.State.Settings.{class_at, plain_lane}
use Rattle.steer_model.specs.State.Setup.{Setup}
use Rattle.run_goodness.proofs.Turns.NumberLemmas as numbers
use Rattle.run_coupling.proofs.Tries.ResizeLemmas.{flow_word, resized_between, since_same}
use Rattle.run_coupling.proofs.Tries.ResizeLemmas.{resizes_by}
use Rattle.run_coupling.proofs.Tries.TryLemmas.{drop-given, given_by}
use Rattle.run_coupling.specs.Laws.Choices.{ChoicesFollow, ChoicesHaveTurns}
use Rattle.run_coupling.specs.Coupling.Boards.{IsReceiveBoard}
use Rattle.run_coupling.specs.Coupling.Inputs.{AreReceiveWords, FlowsHaveOneHash}
use Rattle.run_coupling.specs.Coupling.Inputs.{NamesReceiveQueues, hash_of_flow}
use Rattle.run_coupling.specs.Coupling.Tries.{KeepsReceiveTries}
use Rattle.run_coupling.proofs.Tries.OpeningLemmas.{settings_of_opening, words_of_opening}
use Rattle.run_coupling.proofs.Tries.OpeningLemmas as opening_lemmas

module _ (class : ℕ) (want : Option ℕ) (desired tail current : ℕ) where
  abbrev choice : Option ℕ → ℕ → Why → Choice
  choice head lane why = record {
    class = Some class;
    want = want;
    head = head;
    tail = Some tail;
    lane = lane;
    why = why;
  }

  abbrev by_bools : Bool → Bool → Bool → ℕ → Choice
  by_bools same off reached head =
      if same then choice None current Same else if off then choice None desired Offline else if
      reached then choice (Some head) desired Passed else choice (Some head) current Kept

  own_head : (same off : Bool) (f : ℕ → Bool) (head : ℕ) → by_bools same off (f head) head
      ≡ (let own : ℕ = unwrap_or (by_bools same off (f head) head).head 0 in
      by_bools same off (f own) own)
  own_head true off f head = refl
  own_head false true f head = refl
  own_head false false f head = ap (λ h. by_bools false false (f h) h) (sym (is (f head)))
    where
      is : (b : Bool) → unwrap_or (by_bools false false b head).head 0 ≡ head
      is true = refl
      is false = refl

pub by_entry_own : (class : ℕ) (want : Option ℕ) (desired tail head : ℕ) (online : ℕ → Bool)
    (lane : Option ℕ)
    → (let c : Choice = by_entry class want desired tail (λ _. head) online lane in
    c ≡ by_entry class want desired tail (λ _. unwrap_or c.head 0) online lane)
by_entry_own class want desired tail head online None = refl
by_entry_own class want desired tail head online (Some current) =
    own_head class want desired tail current (current == desired) (not (online current))
    (λ h. has_reached h tail 0) head

pub migrate_own : (class want : Option ℕ) (desired : ℕ) (entries : ℕ → Entry) (head : ℕ)
    (online : ℕ → Bool)
    → (let c : Choice = migrate class want desired entries (λ _. head) online in
    c ≡ migrate class want desired entries (λ _. unwrap_or c.head 0) online)
migrate_own None want desired entries head online = refl
migrate_own (Some class) want desired entries head online =
    by_entry_own class want desired (entries class).tail head online (entries class).lane

pub get-or : {A : Type 0} (xs : List A) (k : ℕ) (d x : A) → slice_get xs k ≡ Some x
    → slice_index_or xs k d ≡ x
get-or [] k d x at = Rattle.hop_rule.proofs.Lists.none-some x at
get-or (y ∷ ys) zero d x at = Rattle.hop_rule.proofs.Lists.some-is y x at
get-or (y ∷ ys) (suc k) d x at = get-or ys k d x at

is-below : (p n : ℕ) → p < n → nat_lt p n ≡ true
is-below p n less = lt-ltb p n less

mod-low : (c g : ℕ) → c < 2 ^ 32 → (c + 2 ^ 32 * g) % 2 ^ 32 ≡ c
mod-low c g small = omega arith

-- ---- by words that are the settings

module _ (i : Input) (p : ℕ) (z : ℕ → ℕ) (s : Settings) (g : ℕ → ℕ)
    (within : p < queues (receive_queues i)) (words : AreReceiveWords (receive_queues i) s g z)
  where
    abbrev qs : Queues
    qs = receive_queues i

    abbrev rs : Steering
    rs = receive_steering qs

    abbrev su : Setup
    su = setup_in i

    shape-is : rs.shape z p ≡ slice_index s.counts p + 2 ^ 32 * g p
    shape-is =
        ap (λ b. if b then z (flows_word qs p) else 0) (is-below p (queues qs) within)
        ∙ words.flows p within

    online-is : online qs z ≡ s.online
    online-is = ap (λ n. mask n) words.online

    module _ (x : ℕ) (same : hash_of_flow i (flow_number_of su x) ≡ packet_hash su x) where
      class-is : rs.class (rs.shape z p) (rs.flow x) ≡ class_at su s p x
      class-is =
          (λ k. class_of (shape-is k % 2 ^ 32) (same k))
          ∙ ap (λ n. class_of n (packet_hash su x))
          (mod-low (slice_index s.counts p) (g p) (words.small p within))

      plain-is : rs.plain z p (rs.flow x) ≡ plain_lane su s p x
      plain-is =
          ap (λ b. if b then rps_choice_of (mask (z (mask_word qs p))) (qs.hash (rs.flow x))
          (online qs z) (slice_index qs.homes p) else 0) (is-below p (queues qs) within)
          ∙ (λ k. rps_choice_of (mask (words.mask p within k)) (same k) (online-is k)
          (slice_index qs.homes p))

      goal-is : (class want : Option ℕ) → goal_of rs z p (rs.flow x) class want
          ≡ desired_cpu class want s.online (plain_lane su s p x)
      goal-is None want = plain-is
      goal-is (Some class) None = plain-is
      goal-is (Some class) (Some cpu) = λ k. online_or (online-is k) cpu (plain-is k)

-- ---- the law

module _ (i : Input) (h : History) (about : BoardSizes) (own : ℕ → List BoardStep)
    (lists : BoardLists) (tries : List Try) (t : Execution) (law : VisitNumbersRise about own lists)
    (hashes : FlowsHaveOneHash i) (board : IsReceiveBoard i h about lists)
    (kept : KeepsReceiveTries i h about own tries)
    (fits : All (λ (t : Try). NamesReceiveQueues (queues (receive_queues i)) t.given.command) tries)
    (keeps : ChoicesHaveTurns i h about own lists t) where
  abbrev q : Queues
  q = receive_queues i

  abbrev r : Steering
  r = receive_steering q

  abbrev now : Setup
  now = setup_in i

  abbrev first : Settings
  first = initial_settings i.plan

  abbrev sets : (ℕ → ℕ) → Command → List SettingChange
  sets = received_sets q

  abbrev upto : ℕ → List Try
  upto n = tries_up_to at_receive n tries

  abbrev after : ℕ → Settings
  after n = settings_by first (upto n)

  abbrev shown : ℕ → ℕ → ℕ
  shown n = own_settings about (opened n (gate_steps (own (closer about))))

  words-at : (n : ℕ) → AreReceiveWords q (after n) (λ p. resizes_by p (upto n)) (shown n)
  words-at n = words_of_opening i h about own lists tries board kept fits n

  take-upto : (n : ℕ) → take (length (upto n)) h.commands ≡ given_by (upto n)
  take-upto n = opening_lemmas.take-upto i h about own lists tries board kept fits n

  settings-at : (n : ℕ) → settings_at i h (length (upto n)) ≡ after n
  settings-at n = settings_of_opening i h about own lists tries board kept fits n

  length-upto : (n : ℕ) → length (upto n) ≤ length h.commands
  length-upto n = opening_lemmas.length-upto i h about own lists tries board kept fits n

  -- ---- the visits of a queue

  abbrev number : ℕ → ℕ → ℕ
  number p k = word_of (nth_step (turns_of t p) k) / 2 ^ 32

  grows : (p k : ℕ) → k + 1 < length (turns_of t p)
      → (more : List Try) × (upto (number p (suc k)) ≡ more ++ upto (number p k))
  grows = numbers.grows about own lists law sets at_receive tries kept.own_list kept.are t
      keeps.explained

  -- ---- the choice

  abbrev shape : ℕ → ℕ → ℕ
  shape p k = r.shape (shown (number p k)) p

  module _ (p : ℕ) (within : p < queues q) where
    shape-at : (k : ℕ) → shape p k ≡ flow_word first p (upto (number p k))
    shape-at k =
        shape-is i p (shown (number p k)) (after (number p k))
        (λ c. resizes_by c (upto (number p k))) within (words-at (number p k))

    between : (k : ℕ) → k + 1 < length (turns_of t p) → list_any (is_resize p)
        (drop (length (upto (number p k))) (take (length (upto (number p (suc k)))) h.commands))
        ≡ not (shape p k == shape p (suc k))
    between k less =
        let a : List Try = upto (number p k) in
        let g = grows p k less in
        let small = (words-at (number p (suc k))).small p within in
        let old = (words-at (number p k)).small p within in
        ap (λ cs. list_any (is_resize p) (drop (length a) cs))
        (take-upto (number p (suc k)) ∙ ap given_by g.1)
        ∙ (ap (list_any (is_resize p)) (drop-given g.0 a) ∙ (resized_between first p g.0 a
        (subst (λ ts. slice_index (settings_by first ts).counts p < 2 ^ 32) g.1 small) old
        ∙ (λ j. not (sym (shape-at k) j
        == sym (shape-at (suc k) ∙ ap (flow_word first p) g.1) j))))

    abbrev at : ℕ → ℕ
    at = commands_before tries t p

    since-is : (k : ℕ) → k < length (turns_of t p)
        → since_resize (shape p) k ≡ since_at h.commands p at k
    since-is k less = since_same (shape p) h.commands p at k (λ j l. between j (omega arith))

    -- what a good history says of a choice
    abbrev Says : ℕ → List Chosen → Chosen → Settings → ℕ → Type 0
    Says k cs x s since =
        x.choice
        ≡ migrate (class_at now s p x.id) x.choice.want
        (desired_cpu (class_at now s p x.id) x.choice.want s.online (plain_lane now s p x.id))
        (entry h.start (accepted_in h.lanes) (drop since (take k cs)))
        (λ lane. unwrap_or x.choice.head 0) (has s.online)

    says : (k : ℕ) (u : Turn) → nth_step (turns_of t p) k ≡ Some u
        → Says k (t.choices p) u.chosen (after (number p k)) (since_at h.commands p at k)
    says k u at_u =
        let inside = Rattle.hop_rule.proofs.Moments.nth-inside (turns_of t p) k u at_u in
        let b = keeps.by_rule p k u at_u in
        let n : ℕ = number p k in
        let z : ℕ → ℕ = shown n in
        let x : ℕ = u.chosen.id in
        let want : Option ℕ = u.chosen.choice.want in
        let same = hashes x (keeps.known p k u at_u) in
        let class = class-is i p z (after n) (λ c. resizes_by c (upto n)) within (words-at n) x same
        in
        let class_then : Option ℕ = r.class (r.shape z p) (r.flow x) in
        let goal = goal-is i p z (after n) (λ c. resizes_by c (upto n)) within (words-at n) x same
        in
        let goal_now : goal_of r z p (r.flow x) class_then want
        ≡ desired_cpu (class_at now (after n) p x) want (after n).online
        (plain_lane now (after n) p x) =
        ap (λ c. goal_of r z p (r.flow x) c want) class
        ∙ goal (class_at now (after n) p x) want in
        let on : r.online z ≡ has (after n).online =
        ap has (online-is i p z (after n) (λ c. resizes_by c (upto n)) within (words-at n)) in
        let cs : List Chosen = take k (t.choices p) in
        let entries = entry about.start (accepted_left lists) (drop (since_resize (shape p) k) cs)
        in
        let by_own = migrate_own class_then want (goal_of r z p (r.flow x) class_then want) entries
        b.head (r.online z) in
        b.rule
        ∙ (by_own
        ∙ ((λ j. migrate class_then want (goal_of r z p (r.flow x) class_then want) entries
        (λ _. unwrap_or (sym b.rule j).head 0) (r.online z))
        ∙ (λ j. migrate (class j) want (goal_now j)
        (entry (board.start j) (accepted_in (sym board.lanes j))
        (drop (since-is k inside j) cs))
        (λ _. unwrap_or u.chosen.choice.head 0) (on j))))

  by_rule : (p k : ℕ) → k < length (list_at h.choices p)
      → good.IsByRule i h p k (settings_at i h (commands_before tries t p k))
      (since_at h.commands p (commands_before tries t p) k)
  by_rule p k less =
      let same = keeps.journals p in
      let size = ap length same in
      let many = keeps.counted p in
      elim (cases_lt p (queues q)) [
        | inl within ↦
            let u = nth-some (turns_of t p) k (omega arith) in
            let x = get-or (t.choices p) k nobody u.0.chosen (keeps.chosen p k u.0 u.1) in
            subst (λ (y : List Chosen × (Chosen × Settings)).
            Says p within k y.0 y.1.0 y.1.1 (since_at h.commands p (commands_before tries t p) k))
            (λ j. (
              sym same j,
              ((sym x ∙ ap (λ cs. chosen_at cs k) (sym same)) j, sym (settings-at (number p k)) j),
            ))
            (says p within k u.0 u.1)
        | inr past ↦ let n = ap length (keeps.none p past) in absurd (omega arith)
      ]

  pub choices_follow : AreByRule i h (commands_before tries t)
  choices_follow = record {
    prefixes = λ p.
        (let size = ap length (keeps.journals p) in
        let many = keeps.counted p in
        numbers.prefixes about own lists law sets at_receive tries kept.own_list kept.are t
        keeps.explained p (length h.commands) (list_at h.choices p) (omega arith)
        length-upto);
    each = by_rule;
  }

pub choices_of_closing : (about : BoardSizes) (own : ℕ → List BoardStep) (lists : BoardLists)
    → VisitNumbersRise about own lists → ChoicesFollow about own lists
choices_of_closing about own lists law i h tries t hashes board kept fits keeps =
    choices_follow i h about own lists tries t law hashes board kept fits keeps
