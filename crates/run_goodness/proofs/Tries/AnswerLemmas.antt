-- The answers of the controller: a lane that was not found empty, and a busy answer was true at one
-- moment of its board's order.
use Rattle.steer_base.specs.Counters.{number}
use Rattle.steer_base.proofs.CountersLemmas.{distance-further}
use Rattle.hop_rule.specs.Sizes.{FitSizes}
use Rattle.board_api.specs.Laws.Heads.{HeadsAreBelowTails, HeadsRise}
use Rattle.board_api.specs.Laws.Lanes.{LanesAreInTurn}
use Rattle.board_api.specs.StepWords.{tail_in}
use Rattle.run_goodness.specs.Laws.{BusyLanesAreBusy, CommandsFollow, IsBoardOf, BusyAnswersAreTrue}
use Rattle.run_goodness.specs.Laws.{WasBusy}
use Rattle.run_goodness.proofs.Names.{◌≡◌, ◌≢◌, ℕ, ◌+◌, ◌-◌, ◌%◌, ◌/◌, ◌^◌, ◌<◌, ◌≤◌, List, length}
use Rattle.run_goodness.proofs.Names.{sym, ap, ◌∙◌, subst, arith, distance, lane_at, BoardSizes}
use Rattle.run_goodness.proofs.Names.{BoardStep, BoardLists, ◌⊎◌, inl, inr, zero, suc, [], ◌∷◌}
use Rattle.run_goodness.proofs.Names.{◌++◌, Option, Some, None, take, refl, append_assoc, slice_get}
use Rattle.run_goodness.proofs.Names.{Refused, Commanded, History, LaneList, nth_step, closer}
use Rattle.run_goodness.proofs.Names.{Counted, Gate, Weighed, Opened, Shut, none-some, some-is}
use Rattle.run_goodness.proofs.Names.{nth-last, nth-old, refused_with, Input, settings_at, Settings}
use Rattle.run_goodness.proofs.Names.{initial_settings, AllAnswered, IsAnswered, Try, settings_by}
use Rattle.run_goodness.proofs.Names.{steps_of_tries, at_receive, at_transmit, Command, own_of}
use Rattle.run_goodness.proofs.Names.{nth-inside, own_in}
use Rattle.steer_base.specs.declared.command.Busy.TheVariants as busy
use Rattle.board_api.specs.Calls.Results.{looking, Looked}
use Rattle.steer_model.specs.Good.Commands.{IsAnswer, MayBeBusy, IsEnd, gate_lanes}
use Rattle.steer_model.specs.Good.Inputs.{settings_after}
use Rattle.run_coupling.proofs.Tries.TryLemmas.{given_by, length-given, settings-given, take-given}
use Rattle.run_coupling.specs.Coupling.Answers.{FindsOneBusy, FindsVisits, IsBusy, IsBusyAt}
use Rattle.linearization.specs.Orders.{StepBy}
use Rattle.steer_base.specs.declared.command.Answer.{Answer}
use Rattle.steer_base.specs.declared.command.Answer.TheVariants as says
use Rattle.steer_base.specs.declared.command.Busy.{Busy}
use Rattle.steer_base.specs.declared.command.Command.TheVariants as give
use Rattle.steer_base.specs.declared.command.Refused.TheVariants as refused
use Rattle.hop_rule.specs.Moments.{moment_of}
use Rattle.hop_rule.specs.declared.step.GateStep.TheVariants.{NotShut}
use Rattle.hop_rule.proofs.Closes.{busy_lanes_have_packets, found_visits_are_open}
use Rattle.hop_rule.proofs.Moments.{nth-first}
use Rattle.hop_rule.proofs.Numbers.{none_between}
use Rattle.board_api.specs.Closings.Closings.{HasEnded}
use Rattle.board_api.specs.Seats.{BoardSeatView}
use Rattle.board_api.proofs.Endings.{own_parts}
use Rattle.board_api.proofs.OwnTimes.{rise, step_is}
use Rattle.steer_model.specs.Steps.Commands.{refused_answer}
use Rattle.run_coupling.proofs.Tries.EmptiedLemmas.{looking-append}

-- the count of a whole word, as a distance of its low half
pub shown : (start word : ℕ) → start < 2 ^ 32 → start ≤ word → word - start ≤ 262144
    → distance (word % 2 ^ 32) start ≡ word - start
shown start word small least few =
    let a : number start (word - start) ≡ word % 2 ^ 32 =
    ap (λ n. n % 2 ^ 32) (more start word least) in
    let b : number start 0 ≡ start = zeroth start small in
    sym (λ i. distance (a i) (b i))
    ∙ (distance-further start (word - start) 0 small few (least_zero (word - start))
    ∙ none (word - start))
  where
    more : (start word : ℕ) → start ≤ word → start + (word - start) ≡ word
    more start word le = omega arith

    zeroth : (start : ℕ) → start < 2 ^ 32 → (start + 0) % 2 ^ 32 ≡ start
    zeroth start l = omega arith

    least_zero : (n : ℕ) → 0 ≤ n
    least_zero n = omega arith

    none : (n : ℕ) → n - 0 ≡ n
    none n = omega arith

pub busy_lanes : (about : BoardSizes) (own : ℕ → List BoardStep) (lists : BoardLists)
    → FitSizes about → HeadsRise about own lists → HeadsAreBelowTails about own lists
    → LanesAreInTurn about own lists → BusyLanesAreBusy about own lists
busy_lanes about own lists fit rise below turn q j k l head tail less weighs counts apart =
    let a = rise.from_start q j l head weighs in
    let b = rise.reached q j l head weighs in
    let c = below q j k l head tail less weighs counts in
    let room = (turn l).room in
    let big = fit.room in
    let small = fit.start in
    let of_head = shown about.start head small a (omega arith) in
    let of_tail = shown about.start (tail / 2) small (omega arith) (omega arith) in
    let ne : head ≢ tail / 2 = λ e. apart (ap (λ n. n % 2 ^ 32) e) in (
      (let d : head - about.start
          < tail / 2 - about.start = below-of head (tail / 2) about.start a c.0 ne in
          subst (λ n. n < distance (tail_in tail) about.start) (sym of_head)
          (subst (λ n. head - about.start < n) (sym of_tail) d)),
      subst (λ n. n ≤ (lane_at lists.lanes l).retired) (sym of_head) (omega arith),
      subst (λ n. n ≤ length (lane_at lists.lanes l).accepted) (sym of_tail)
          (let e = c.1 in omega arith),
    )
  where
    below-of : (x y s : ℕ) → s ≤ x → x ≤ y → x ≢ y → x - s < y - s
    below-of x y s le less ne = omega arith

-- ---- the k-th command and its try

slice-end : {A : Type 0} (xs : List A) (y : A) (k : ℕ) (x : A) → slice_get (xs ++ y ∷ []) k ≡ Some x
    → (slice_get xs k ≡ Some x) ⊎ ((k ≡ length xs) × (y ≡ x))
slice-end [] y zero x at = inr (refl, some-is y x at)
slice-end [] y (suc k) x at = none-some x at
slice-end (z ∷ xs) y zero x at = inl at
slice-end (z ∷ xs) y (suc k) x at = elim (slice-end xs y k x at) [
  | inl old ↦ inl old
  | inr new ↦ inr (ap suc new.0, new.1)
]

pub record TryAt (ts : List Try) (k : ℕ) (c : Commanded) : Type 0 where
  pub more : List Try
  pub try : Try
  pub older : List Try
  pub are : ts ≡ more ++ try ∷ older
  pub count : length older ≡ k
  pub given : try.given ≡ c

pub try_at : (ts : List Try) (k : ℕ) (c : Commanded) → slice_get (given_by ts) k ≡ Some c
    → TryAt ts k c
try_at [] k c at = none-some c at
try_at (t ∷ ts) k c at = elim (slice-end (given_by ts) t.given k c at) [
  | inl old ↦
      let b = try_at ts k c old in
      record {
        more = t ∷ b.more;
        try = b.try;
        older = b.older;
        are = ap (λ z. t ∷ z) b.are;
        count = b.count;
        given = b.given;
      }
  | inr new ↦
      record {
        more = [];
        try = t;
        older = ts;
        are = refl;
        count = sym (new.0 ∙ length-given ts);
        given = new.1;
      }
]

pub answered-later : (i : Input) (h : History) (more ts : List Try) → AllAnswered i h (more ++ ts)
    → AllAnswered i h ts
answered-later i h [] ts all = all
answered-later i h (t ∷ more) ts all = answered-later i h more ts all.1

pub steps-append : (f : Try → List BoardStep) (xs ys : List Try)
    → steps_of_tries f (xs ++ ys) ≡ steps_of_tries f xs ++ steps_of_tries f ys
steps-append f [] ys = refl
steps-append f (t ∷ ts) ys =
    ap (λ z. f t ++ z) (steps-append f ts ys)
    ∙ sym (append_assoc (f t) (steps_of_tries f ts) (steps_of_tries f ys))

-- ---- the two loads of a busy lane

pub nth-here : {A : Type 0} (front : List A) (x : A) (back : List A)
    → nth_step (front ++ x ∷ back) (length back) ≡ Some x
nth-here front x back = nth-old front (x ∷ back) (length back) (omega arith) ∙ nth-last x back

busy_at : (i : Input) (h : History) (lanes : List LaneList) (f : Try → List BoardStep)
    (tries : List Try) (about : BoardSizes) (own : ℕ → List BoardStep) (lists : BoardLists)
    → IsBoardOf h lanes f tries about own lists → (more : List Try) (t : Try) (older : List Try)
    → tries ≡ more ++ t ∷ older → (lane head tail : ℕ)
    → FindsOneBusy i lanes (f t) t.given.command lane head tail
    → MayBeBusy i h lanes t.given.command (busy.NotEmpty lane head tail)
busy_at i h lanes f tries about own lists board more t older are lane head tail b =
    let c : BoardStep = Counted lane b.tail_word in
    let w : BoardStep = Weighed lane b.head_word in
    let looks : List BoardStep = looking b.looked (Gate (Shut b.word) ∷ []) in
    let past : List BoardStep = looks ++ steps_of_tries f older in
    let below : List BoardStep = w ∷ past in
    let newest : List BoardStep = Gate Opened ∷ [] in
    let front : List BoardStep = steps_of_tries f more ++ newest in
    let whole : own (closer about) ≡ front ++ c ∷ below =
    board.own_list
    ∙ (ap (steps_of_tries f) are ∙ (steps-append f more (t ∷ older)
    ∙ (ap (λ z. steps_of_tries f more ++ (z ++ steps_of_tries f older)) b.are
    ∙ sym (append_assoc (steps_of_tries f more) newest (c ∷ below))))) in
    let deep : own (closer about) ≡ (front ++ c ∷ []) ++ w ∷ past =
    whole ∙ sym (append_assoc front (c ∷ []) (w ∷ past)) in
    let weighs : nth_step (own (closer about)) (length past) ≡ Some w =
    ap (λ z. nth_step z (length past)) deep ∙ nth-here (front ++ c ∷ []) w past in
    let counts : nth_step (own (closer about)) (length below) ≡ Some c =
    ap (λ z. nth_step z (length below)) whole ∙ nth-here front c below in
    let r = board.busy (closer about) (length past) (length below) lane b.head_word b.tail_word
    (omega arith) weighs counts (λ e. b.apart (b.head_is ∙ (e ∙ sym b.tail_is))) in
    let all : (distance head h.start < distance tail h.start)
    × (distance head h.start ≤ (lane_at lanes lane).retired)
    × (distance tail h.start ≤ length (lane_at lanes lane).accepted) =
    subst (λ (z : (ℕ × ℕ) × (ℕ × List LaneList)).
    (distance z.0.0 z.1.0 < distance z.0.1 z.1.0)
    × (distance z.0.0 z.1.0 ≤ (lane_at z.1.1 lane).retired)
    × (distance z.0.1 z.1.0 ≤ length (lane_at z.1.1 lane).accepted))
    (λ j. ((sym b.head_is j, sym b.tail_is j), (board.start j, sym board.lanes_are j))) r in
    (b.within, b.affected, all.0, all.1, all.2)

-- ---- the law

module _ (i : Input) (h : History) (tries : List Try) (rx tx : BoardSizes)
    (rx_own tx_own : ℕ → List BoardStep) (rx_lists tx_lists : BoardLists)
    (a : IsBoardOf h h.lanes at_receive tries rx rx_own rx_lists)
    (b : IsBoardOf h h.tx_lanes at_transmit tries tx tx_own tx_lists) where
  answer_is : (more : List Try) (t : Try) (older : List Try) → tries ≡ more ++ t ∷ older
      → (o : Option Refused) → IsAnswered i h t o → IsAnswer i h t.given.command o t.given.answer
  answer_is more t older are (Some why) is = is
  answer_is more t older are None (inl end) = inl end
  answer_is more t older are None (inr (inl (gate, inl (n, is, v)))) =
      inr (h.lanes, busy.Inside n, gate, is, (v.some, v.few))
  answer_is more t older are None (inr (inr (gate, inl (n, is, v)))) =
      inr (h.tx_lanes, busy.Inside n, gate, is, (v.some, v.few))
  answer_is more t older are None (inr (inl (gate, inr (lane, head, tail, is, finds)))) = inr (
    h.lanes,
    busy.NotEmpty lane head tail,
    gate,
    is,
    busy_at i h h.lanes at_receive tries rx rx_own rx_lists a more t older are lane head tail
        finds,
  )
  answer_is more t older are None (inr (inr (gate, inr (lane, head, tail, is, finds)))) = inr (
    h.tx_lanes,
    busy.NotEmpty lane head tail,
    gate,
    is,
    busy_at i h h.tx_lanes at_transmit tries tx tx_own tx_lists b more t older are lane
        head tail finds,
  )

  answers : h.commands ≡ given_by tries → AllAnswered i h tries → (k : ℕ) (c : Commanded)
      → slice_get h.commands k ≡ Some c
      → IsAnswer i h c.command (refused_with i (settings_at i h k) c.command) c.answer
  answers commands all k c at =
      let t = try_at tries k c (ap (λ z. slice_get z k) (sym commands) ∙ at) in
      let x : Try = t.try in
      let older : List Try = t.older in
      let begin : Settings = initial_settings i.plan in
      let parts : tries ≡ (t.more ++ x ∷ []) ++ older =
      t.are ∙ sym (append_assoc t.more (x ∷ []) older) in
      let first : take k h.commands ≡ given_by older =
      ap (λ n. take n h.commands) (sym t.count)
      ∙ (ap (take (length older)) (commands ∙ ap given_by parts)
      ∙ take-given (t.more ++ x ∷ []) older) in
      let settings : settings_by begin older ≡ settings_at i h k =
      settings-given begin older ∙ ap (settings_after begin) (sym first) in
      let own = (answered-later i h t.more (x ∷ older) (subst (AllAnswered i h) t.are all)).0 in
      subst (λ (z : Commanded × Settings).
      IsAnswer i h z.0.command (refused_with i z.1 z.0.command) z.0.answer)
      (λ j. (t.given j, settings j))
      (answer_is t.more x older t.are (refused_with i (settings_by begin older) x.given.command)
      own)

pub commands_follow : CommandsFollow
commands_follow i h tries rx tx rx_own tx_own rx_lists tx_lists a b commands given all = record {
  given = given;
  answers = answers i h tries rx tx rx_own tx_own rx_lists tx_lists a b commands all;
}

-- ---- no opening behind a close

opening : BoardStep → ℕ
opening (Gate Opened) = 1
opening _ = 0

-- an opening is not among looks at lanes
no_look : (xs : List Looked) (base : List BoardStep) (k : ℕ)
    → nth_step (looking xs base) k ≡ Some (Gate Opened) → nth_step base k ≡ Some (Gate Opened)
unfolding opening
no_look [] base k at = at
no_look (x ∷ xs) base k at =
    elim (nth-first (Counted x.lane x.tail) (Weighed x.lane x.head ∷ base) k (Gate Opened)
    (no_look xs (Counted x.lane x.tail ∷ Weighed x.lane x.head ∷ base) k at)) [
      | inl older ↦ elim (nth-first (Weighed x.lane x.head) base k (Gate Opened) older) [
        | inl old ↦ old
        | inr new ↦ (let e = ap opening new.0 in absurd (omega arith))
      ]
      | inr new ↦ (let e = ap opening new.0 in absurd (omega arith))
    ]

none_opened : (lane head w : ℕ) (looked : List Looked) (rest : List BoardStep) (k : ℕ)
    → length rest < k
    → nth_step (Weighed lane head ∷ looking looked (Gate (Shut w) ∷ rest)) k ≡ Some (Gate Opened)
    → ⊥
unfolding opening
none_opened lane head w looked rest k after at =
    elim (nth-first (Weighed lane head) (looking looked (Gate (Shut w) ∷ rest)) k (Gate Opened)
    at) [
      | inl look ↦ elim (nth-first (Gate (Shut w)) rest k (Gate Opened)
          (no_look looked (Gate (Shut w) ∷ rest) k look)) [
            | inl old ↦ (let less = nth-inside rest k (Gate Opened) old in absurd (omega arith))
            | inr new ↦ (let e = ap opening new.0 in absurd (omega arith))
          ]
      | inr new ↦ (let e = ap opening new.0 in absurd (omega arith))
    ]

looks_longer : (xs : List Looked) (base : List BoardStep) → length base ≤ length (looking xs base)
looks_longer [] base = omega arith
looks_longer (x ∷ xs) base =
    let more = looks_longer xs (Counted x.lane x.tail ∷ Weighed x.lane x.head ∷ base) in
    omega arith

-- the close stands below the looks
shut_there : (xs : List Looked) (base : List BoardStep) (k : ℕ) (d : BoardStep) → k < length base
    → nth_step base k ≡ Some d → nth_step (looking xs base) k ≡ Some d
shut_there [] base k d less at = at
shut_there (x ∷ xs) base k d less at =
    shut_there xs (Counted x.lane x.tail ∷ Weighed x.lane x.head ∷ base) k d (omega arith)
    (nth-old (Counted x.lane x.tail ∷ Weighed x.lane x.head ∷ []) base k less ∙ at)

-- ---- one board

busy_in : Busy → Answer → Busy
busy_in other (says.Busy why) = why
busy_in other _ = other

module _ (i : Input) (about : BoardSizes) (seats : List BoardSeatView) (left : BoardLists)
    (e : HasEnded about seats left) (lanes : List LaneList) (f : Try → List BoardStep)
    (tries : List Try) (is_own : own_in seats (closer about) ≡ steps_of_tries f tries)
    (more older : List Try) (t : Try) (are : tries ≡ more ++ t ∷ older) where
  abbrev order : List (StepBy BoardStep)
  order = e.order

  abbrev rest : List BoardStep
  rest = steps_of_tries f older

  split : own_of order (closer about) ≡ steps_of_tries f more ++ (f t ++ rest)
  split =
      ap (λ own. own (closer about)) (sym (own_parts order seats e.parts))
      ∙ (is_own ∙ (ap (steps_of_tries f) are ∙ steps-append f more (t ∷ older)))

  abbrev here : ℕ → ℕ
  here k = moment_of (closer about) order k

  visits_were_open : (c : Command) (n : ℕ) → FindsVisits i.plan.workers (f t) n
      → WasBusy i about order c (busy.Inside n)
  visits_were_open c n v =
      let own : own_of order (closer about)
      ≡ steps_of_tries f more ++ Gate (NotShut v.word) ∷ rest =
      split ∙ ap (λ ds. steps_of_tries f more ++ (ds ++ rest)) v.are in
      let does : nth_step (own_of order (closer about)) (length rest)
      ≡ Some (Gate (NotShut v.word)) =
      ap (λ ds. nth_step ds (length rest)) own
      ∙ nth-here (steps_of_tries f more) (Gate (NotShut v.word)) rest in
      let step = step_is order (closer about) (length rest) (Gate (NotShut v.word)) does in
      let visits = found_visits_are_open about order e.sizes e.lawful (here (length rest))
      (closer about) v.word step in
      (here (length rest), v.word, step, v.counts ∙ visits.0, v.some)

  lane_had_packets : (c : Command) (lane head tail : ℕ) → FindsOneBusy i lanes (f t) c lane
      head tail → WasBusy i about order c (busy.NotEmpty lane head tail)
  lane_had_packets c lane head tail b =
      let w : BoardStep = Weighed lane b.head_word in
      let counted : BoardStep = Counted lane b.tail_word in
      let shut : BoardStep = Gate (Shut b.word) in
      let looks : List BoardStep = looking b.looked (shut ∷ rest) in
      let front : List BoardStep = steps_of_tries f more ++ Gate Opened ∷ [] in
      let own : own_of order (closer about) ≡ front ++ counted ∷ w ∷ looks =
      split
      ∙ (ap (λ ds. steps_of_tries f more ++ (ds ++ rest)) b.are
      ∙ (ap (λ ds. steps_of_tries f more ++ Gate Opened ∷ counted ∷ w ∷ ds)
      (sym (looking-append b.looked (shut ∷ []) rest))
      ∙ sym (append_assoc (steps_of_tries f more) (Gate Opened ∷ []) (counted ∷ w ∷ looks)))) in
      let long = looks_longer b.looked (shut ∷ rest) in
      let at_look : (k : ℕ) → k < length (w ∷ looks) → nth_step (own_of order (closer about)) k
      ≡ nth_step (w ∷ looks) k = λ k less.
      ap (λ ds. nth_step ds k) own
      ∙ (nth-old front (counted ∷ w ∷ looks) k (omega arith)
      ∙ nth-old (counted ∷ []) (w ∷ looks) k less) in
      let shuts : nth_step (own_of order (closer about)) (length rest) ≡ Some shut =
      at_look (length rest) (omega arith)
      ∙ (nth-old (w ∷ []) looks (length rest) (omega arith)
      ∙ shut_there b.looked (shut ∷ rest) (length rest) shut (omega arith)
      (nth-here [] shut rest)) in
      let weighs : nth_step (own_of order (closer about)) (length looks) ≡ Some w =
      at_look (length looks) (omega arith) ∙ nth-here [] w looks in
      let counts : nth_step (own_of order (closer about)) (length (w ∷ looks)) ≡ Some counted =
      ap (λ ds. nth_step ds (length (w ∷ looks))) own ∙ nth-here front counted (w ∷ looks) in
      let at_shut = step_is order (closer about) (length rest) shut shuts in
      let packets = busy_lanes_have_packets about order e.sizes e.lawful (here (length rest))
      (here (length looks)) (here (length (w ∷ looks))) lane b.word b.head_word b.tail_word
      (rise order (closer about) (length rest) (length looks) w (omega arith) weighs)
      (rise order (closer about) (length looks) (length (w ∷ looks)) counted (omega arith) counts)
      at_shut (step_is order (closer about) (length looks) w weighs)
      (step_is order (closer about) (length (w ∷ looks)) counted counts)
      (λ m from to opens.
      none_between about order (closer about) (length rest) (length (w ∷ looks)) m shut counted
      (Gate Opened) shuts counts
      (λ k after before has.
      none_opened lane b.head_word b.word b.looked rest k after
      (sym (at_look k before) ∙ has))
      from to opens)
      (λ same. b.apart (b.head_is ∙ (same ∙ sym b.tail_is))) in
      (here (length rest), b.word, at_shut, b.affected, packets)

  pub was_busy : (why : Busy) → IsBusyAt i lanes (f t) t.given → t.given.answer ≡ says.Busy why
      → WasBusy i about order t.given.command why
  unfolding busy_in
  was_busy why (inl (n, is, v)) says_why =
      subst (WasBusy i about order t.given.command) (ap (busy_in why) (sym is ∙ says_why))
      (visits_were_open t.given.command n v)
  was_busy why (inr (lane, head, tail, is, b)) says_why =
      subst (WasBusy i about order t.given.command) (ap (busy_in why) (sym is ∙ says_why))
      (lane_had_packets t.given.command lane head tail b)

-- ---- busy answers

busy_count : Answer → ℕ
busy_count (says.Busy why) = 1
busy_count _ = 0

refused_apart : (why : Refused) → busy_count (refused_answer why) ≡ 0
unfolding busy_count
refused_apart (refused.CpuInUse user) = refl
refused_apart refused.CpuOffline = refl
refused_apart refused.AlreadyOnline = refl

ends_apart : (i : Input) (c : Command) (a : Answer) → IsEnd i c a → busy_count a ≡ 0
unfolding busy_count
ends_apart i give.Expire a (n, is, few) = ap busy_count is
ends_apart i (give.Mask q mask) a is = ap busy_count is
ends_apart i (give.Flows q count) a is = ap busy_count is
ends_apart i (give.Sock size) a is = ap busy_count is
ends_apart i (give.Offline cpu) a is = ap busy_count is
ends_apart i (give.Online cpu) a is = ap busy_count is
ends_apart i (give.XCpus tx mask) a is = ap busy_count is
ends_apart i (give.XQueues tx queues) a is = ap busy_count is
ends_apart i (give.Reta place q) a is = ap busy_count is
ends_apart i (give.Stand app cpu) a is = ap busy_count is

says_busy : (i : Input) (h : History) (t : Try) (o : Option Refused) (why : Busy)
    → IsAnswered i h t o → t.given.answer ≡ says.Busy why → IsBusy i h t
unfolding busy_count
says_busy i h t (Some reason) why is says_why =
    let one = ap busy_count says_why in
    let none = ap busy_count is ∙ refused_apart reason in
    absurd (omega arith)
says_busy i h t None why (inl end) says_why =
    let one = ap busy_count says_why in
    let none = ends_apart i t.given.command t.given.answer end in
    absurd (omega arith)
says_busy i h t None why (inr busy_at) says_why = busy_at

pub busy_answers_are_true : BusyAnswersAreTrue
busy_answers_are_true i h r k c why at is = by_board at_board
  where
    there : TryAt r.tries k c
    there = try_at r.tries k c
        (ap (λ z. slice_get z k) (sym r.received.tries_are.commands) ∙ at)

    says_why : there.try.given.answer ≡ says.Busy why
    says_why = ap (λ (g : Commanded). g.answer) there.given ∙ is

    at_board : IsBusy i h there.try
    at_board =
        says_busy i h there.try _ why
        (answered-later i h there.more (there.try ∷ there.older)
        (subst (AllAnswered i h) there.are r.commands.answered)).0 says_why

    by_board : IsBusy i h there.try → ((gate_lanes h c.command ≡ Some h.lanes)
        × WasBusy i r.rx r.rx_ended.order c.command why)
        ⊎ ((gate_lanes h c.command ≡ Some h.tx_lanes)
        × WasBusy i r.tx r.tx_ended.order c.command why)
    by_board (inl (gate, b)) =
        inl (subst (λ (g : Commanded). (gate_lanes h g.command ≡ Some h.lanes)
        × WasBusy i r.rx r.rx_ended.order g.command why) there.given (
          gate,
          was_busy i r.rx r.rx_seats r.rx_lists r.rx_ended h.lanes at_receive r.tries
              r.received.tries_are.own_list there.more there.older there.try there.are why b
              says_why,
        ))
    by_board (inr (gate, b)) =
        inr (subst (λ (g : Commanded). (gate_lanes h g.command ≡ Some h.tx_lanes)
        × WasBusy i r.tx r.tx_ended.order g.command why) there.given (
          gate,
          was_busy i r.tx r.tx_seats r.tx_lists r.tx_ended h.tx_lanes at_transmit r.tries
              r.sent.tries_are.own_list there.more there.older there.try there.are why b says_why,
        ))
