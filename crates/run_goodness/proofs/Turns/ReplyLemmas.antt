-- A choice for a reply by the rule of its visit is by the rule of a good history.
use Rattle.std.proofs.lemmas.List.Elements.{All-head, All-nil, All-cons, All-tail}
use Rattle.std.proofs.lemmas.Nat.Bits.{bit_at_ones}
use Rattle.steer_base.specs.Entries.{is_class, last_or, of_class}
use Rattle.xps_map.specs.Maps.{picked}
use Rattle.hop_rule.specs.Gates.{opened, own_settings}
use Rattle.hop_delivery.specs.Orders.Commands.{sent_sets}
use Rattle.hop_delivery.specs.Orders.TransmitSettings.{pick_by}
use Rattle.steer_model.specs.Steps.Applications.{everyone}
use Rattle.steer_model.specs.Good.Choices.{accepted_in}
use Rattle.steer_model.specs.Good.Replies.{IsReplyByRule}
use Rattle.run_goodness.proofs.Names.{◌≡◌, ℕ, zero, suc, ◌/◌, ◌^◌, ◌<◌, ◌≤◌, ◌==◌, not, Bool, true}
use Rattle.run_goodness.proofs.Names.{false, List, [], ◌∷◌, Option, Some, None, length, map, take}
use Rattle.run_goodness.proofs.Names.{drop, All, if◌then◌else◌, sym, refl, ap, ◌∙◌, subst, arith}
use Rattle.run_goodness.proofs.Names.{unwrap_or, lt-ltb, by_entry, migrate, has_reached, entry, has}
use Rattle.run_goodness.proofs.Names.{Choice, Chosen, Entry, Why, Kept, Offline, Passed, Same}
use Rattle.run_goodness.proofs.Names.{Command, since_resize, list_at, History, Sent, chosen_at}
use Rattle.run_goodness.proofs.Names.{nobody, gate_steps, nth_step, closer, BoardSizes, BoardStep}
use Rattle.run_goodness.proofs.Names.{none-some, some-is, nth-some, VisitNumbersRise, BoardLists}
use Rattle.run_goodness.proofs.Names.{SettingChange, Execution, turns_of, word_of, Turn}
use Rattle.run_goodness.proofs.Names.{accepted_left, Input, settings_at, setup_in, Settings}
use Rattle.run_goodness.proofs.Names.{flow_number_of, packet_hash, initial_settings, RepliesAreBy}
use Rattle.run_goodness.proofs.Names.{commands_before_reply, Try, at_transmit, settings_by}
use Rattle.run_goodness.proofs.Names.{tries_up_to}
use Rattle.run_goodness.proofs.Turns.NumberLemmas as numbers
use Rattle.run_goodness.proofs.Turns.ChoiceLemmas.{migrate_own, get-or}
use Rattle.run_coupling.specs.Laws.Replies.{RepliesFollow, RepliesHaveTurns}
use Rattle.run_coupling.specs.Coupling.Boards.{IsTransmitBoard}
use Rattle.run_coupling.specs.Coupling.Inputs.{AreTransmitWords, NamesTransmitQueues}
use Rattle.run_coupling.specs.Coupling.Tries.{KeepsTransmitTries}
use Rattle.run_coupling.proofs.Tries.MapLemmas.{pick-is}
use Rattle.run_coupling.proofs.Tries.MapOpeningLemmas as map_openings

-- ---- all queues are online

everyone-has : (c : ℕ) → c < 32 → has everyone c ≡ true
everyone-has c lt = let bit = bit_at_ones 32 c lt in rw (lt-ltb c 32 lt, bit) refl

abbrev a_choice : ℕ → Option ℕ → ℕ → Option ℕ → ℕ → Why → Choice
a_choice class want tail head lane why = record {
  class = Some class;
  want = want;
  head = head;
  tail = Some tail;
  lane = lane;
  why = why;
}

by_entry-online : (class : ℕ) (want : Option ℕ) (desired tail : ℕ) (head : ℕ → ℕ)
    (on off : ℕ → Bool) (lane : Option ℕ) → ((c : ℕ) → lane ≡ Some c → on c ≡ off c)
    → by_entry class want desired tail head on lane ≡ by_entry class want desired tail head off lane
by_entry-online class want desired tail head on off None same = refl
by_entry-online class want desired tail head on off (Some current) same =
    ap (λ (x : Bool).
    if current == desired then a_choice class want tail None current Same else
    if not x then a_choice class want tail None desired Offline else
    if has_reached (head current) tail 0
    then a_choice class want tail (Some (head current)) desired Passed
    else a_choice class want tail (Some (head current)) current Kept) (same current refl)

-- the current lane of a class is a lane that was chosen
last-small : (d : Option ℕ) (cs : List Chosen) → ((c : ℕ) → d ≡ Some c → c < 32)
    → All (λ (x : Chosen). x.choice.lane < 32) cs
    → (c : ℕ) → last_or d (map (λ (x : Chosen). Some x.choice.lane) cs) ≡ Some c → c < 32
last-small d [] small all = small
last-small d (x ∷ cs) small all =
    last-small (Some x.choice.lane) cs
    (λ c is. subst (λ n. n < 32) (some-is x.choice.lane c is)
    (All-head (λ (x : Chosen). x.choice.lane < 32) x cs all))
    (All-tail (λ (x : Chosen). x.choice.lane < 32) x cs all)

all-class : (k : ℕ) (P : Chosen → Type 0) (cs : List Chosen) → All P cs → All P (of_class k cs)
all-class k P [] all = All-nil P
all-class k P (x ∷ cs) all =
    by_bool (is_class k x.choice.class) (of_class k cs) (all-class k P cs (All-tail P x cs all))
  where
    by_bool : (b : Bool) (xs : List Chosen) → All P xs → All P (if b then x ∷ xs else xs)
    by_bool true xs rest = All-cons P x xs (All-head P x cs all) rest
    by_bool false xs rest = rest

all-take : {A : Type 0} (P : A → Type 0) (n : ℕ) (xs : List A) → All P xs → All P (take n xs)
all-take P zero [] all = All-nil P
all-take P zero (x ∷ xs) all = All-nil P
all-take P (suc n) [] all = All-nil P
all-take P (suc n) (x ∷ xs) all =
    All-cons P x (take n xs) (All-head P x xs all) (all-take P n xs (All-tail P x xs all))

since-zero : (k : ℕ) → since_resize (λ _. 0) k ≡ 0
unfolding since_resize
since-zero zero = refl
since-zero (suc k) = since-zero k

-- ---- the law

module _ (i : Input) (h : History) (about : BoardSizes) (own : ℕ → List BoardStep)
    (lists : BoardLists) (tries : List Try) (t : Execution) (law : VisitNumbersRise about own lists)
    (board : IsTransmitBoard i h about lists)
    (kept : KeepsTransmitTries i h about own tries (length i.plan.tx))
    (fits : All (λ (t : Try). NamesTransmitQueues (length i.plan.tx) t.given.command) tries)
    (keeps : RepliesHaveTurns i h about own lists t) where
  abbrev count : ℕ
  count = length i.plan.tx

  abbrev ss : (ℕ → ℕ) → Command → List SettingChange
  ss w c = sent_sets count c

  abbrev begin : Settings
  begin = initial_settings i.plan

  abbrev upto : ℕ → List Try
  upto n = tries_up_to at_transmit n tries

  abbrev shown : ℕ → ℕ → ℕ
  shown n = own_settings about (opened n (gate_steps (own (closer about))))

  maps-at : (n : ℕ) → AreTransmitWords count (settings_by begin (upto n)) (shown n)
  maps-at n = map_openings.maps_of_opening i h about own lists tries board kept fits n

  settings-at : (n : ℕ) → settings_at i h (length (upto n)) ≡ settings_by begin (upto n)
  settings-at n = map_openings.settings_of_opening i h about own lists tries board kept fits n

  length-upto : (n : ℕ) → length (upto n) ≤ length h.commands
  length-upto n = map_openings.length-upto i h about own lists tries board kept fits n

  abbrev number : ℕ → ℕ → ℕ
  number a k = word_of (nth_step (turns_of t a) k) / 2 ^ 32

  -- what a good history says of a choice for this reply
  abbrev Says : ℕ → List Chosen → Chosen → Settings → Sent → Type 0
  Says k cs x s r =
      let pick : ℕ = picked s.maps r.rxq r.cpu (packet_hash (setup_in i) r.id) in
      x.choice
      ≡ migrate (Some (flow_number_of (setup_in i) r.id)) (Some pick) pick
      (entry h.start (accepted_in h.tx_lanes) (take k cs))
      (λ lane. unwrap_or x.choice.head 0) (has everyone)

  says : (a k : ℕ) (u : Turn) → nth_step (turns_of t a) k ≡ Some u → (r : Sent) → u.chosen.id ≡ r.id
      → u.chosen.choice.want
      ≡ Some (pick_by count (shown (u.word / 2 ^ 32)) r.rxq r.cpu (packet_hash (setup_in i) r.id))
      → Says k (t.choices a) u.chosen (settings_by begin (upto (u.word / 2 ^ 32))) r
  says a k u at_u r same want_is =
      let b = keeps.by_rule a k u at_u in
      let n : ℕ = u.word / 2 ^ 32 in
      let hash : Option ℕ = packet_hash (setup_in i) r.id in
      let want : Option ℕ = u.chosen.choice.want in
      let pick = pick-is count (settings_by begin (upto n)) (shown n) r.rxq r.cpu hash (maps-at n)
      in
      let wants = want_is ∙ ap (λ p. Some p) pick in
      let flow : ℕ = flow_number_of (setup_in i) u.chosen.id in
      let cs : List Chosen = take k (t.choices a) in
      let entries : ℕ → Entry = entry about.start (accepted_left lists) cs in
      let since : drop (since_resize (λ _. 0) k) cs ≡ cs = ap (λ z. drop z cs) (since-zero k) in
      let rule : u.chosen.choice
      ≡ migrate (Some flow) want (unwrap_or want 0) entries (λ _. b.head) (λ _. true) =
      b.rule
      ∙ ap (λ zs.
      migrate (Some flow) want (unwrap_or want 0) (entry about.start (accepted_left lists) zs)
      (λ _. b.head) (λ _. true)) since in
      let small : All (λ (x : Chosen). x.choice.lane < 32) (of_class flow cs) =
      all-class flow (λ (x : Chosen). x.choice.lane < 32) cs
      (all-take (λ (x : Chosen). x.choice.lane < 32) k (t.choices a) (keeps.few a)) in
      let lane_small : (c : ℕ) → (entries flow).lane ≡ Some c → c < 32 =
      last-small None (of_class flow cs) (λ c is. none-some c is) small in
      rule
      ∙ (migrate_own (Some flow) want (unwrap_or want 0) entries b.head (λ _. true)
      ∙ ((λ j. migrate (Some flow) want (unwrap_or want 0) entries
      (λ _. unwrap_or (sym rule j).head 0) (λ _. true))
      ∙ (by_entry-online flow want (unwrap_or want 0) (entries flow).tail
      (λ _. unwrap_or u.chosen.choice.head 0) (λ _. true) (has everyone) (entries flow).lane
      (λ c is. sym (everyone-has c (lane_small c is)))
      ∙ (λ j. migrate (Some (flow_number_of (setup_in i) (same j))) (wants j)
      (unwrap_or (wants j) 0)
      (entry (board.start j) (accepted_in (sym board.lanes j)) cs)
      (λ _. unwrap_or u.chosen.choice.head 0) (has everyone)))))

  by_rule : (a k : ℕ) → k < length (list_at h.tx_choices a)
      → IsReplyByRule i h a k (settings_at i h (commands_before_reply tries t a k))
  by_rule a k less =
      let same = keeps.journals a in
      let size = ap length same in
      let many = keeps.counted a in
      let u = nth-some (turns_of t a) k (omega arith) in
      let x = get-or (t.choices a) k nobody u.0.chosen (keeps.chosen a k u.0 u.1) in
      let chosen : u.0.chosen ≡ chosen_at (list_at h.tx_choices a) k =
      sym x ∙ ap (λ cs. chosen_at cs k) (sym same) in
      let r = keeps.replies a k u.0 u.1 in
      let n : number a k ≡ u.0.word / 2 ^ 32 = ap (λ o. word_of o / 2 ^ 32) u.1 in (
        r.0,
        r.1,
        sym (ap (λ (c : Chosen). c.id) chosen) ∙ r.2,
        subst (λ (y : List Chosen × (Chosen × Settings)). Says k y.0 y.1.0 y.1.1 r.0)
            (λ j. (
              sym same j,
              (
                chosen j,
                (ap (λ m. settings_by begin (upto m)) (sym n) ∙ sym (settings-at (number a k))) j,
              ),
            ))
            (says a k u.0 u.1 r.0 r.2 r.3),
      )

  replies_follow : RepliesAreBy i h (commands_before_reply tries t)
  replies_follow = record {
    prefixes = λ a.
        (let size = ap length (keeps.journals a) in
        let many = keeps.counted a in
        numbers.prefixes about own lists law ss at_transmit tries kept.own_list kept.are t
        keeps.explained a (length h.commands) (list_at h.tx_choices a) (omega arith)
        length-upto);
    each = by_rule;
  }

pub replies_of_closing : (about : BoardSizes) (own : ℕ → List BoardStep) (lists : BoardLists)
    → VisitNumbersRise about own lists → RepliesFollow about own lists
replies_of_closing about own lists law i h tries t board kept fits keeps =
    replies_follow i h about own lists tries t law board kept fits keeps
