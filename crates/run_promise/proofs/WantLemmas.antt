-- A want that was seen was written before, for a packet that its queue had not yet to choose for;
-- and none is unset but by a command.
use Rattle.std.proofs.Common.{◌≡◌, ◌≢◌, ◌⊎◌, inl, inr, ℕ, ◌/◌, ◌^◌, ◌<◌, ◌≤◌, Bool, false}
use Rattle.std.proofs.Common.{true, List, [], ◌∷◌, ◌++◌, Option, Some, None, length, sym, refl, ap}
use Rattle.std.proofs.Common.{◌∙◌, subst, arith, get_or, if◌then◌else◌}
use Rattle.std.proofs.Math.Bridge.{le_prop}
use Rattle.std.specs.Prelude.{IsSome, is_some}
use Rattle.std.specs.List.{Contains}
use Rattle.std.proofs.lemmas.Bool.{le-leb}
use Rattle.std.proofs.lemmas.Option.{slice_get-get_or}
use Rattle.linearization.specs.Seats.{SeatView}
use Rattle.steer_base.specs.Choices.{class_of}
use Rattle.steer_base.specs.Counters.{rounded_up}
use Rattle.steer_base.specs.declared.choice.Chosen.{Chosen}
use Rattle.steer_base.specs.declared.command.Command.TheVariants as give
use Rattle.steer_base.specs.declared.limits.TheConstants.{MAX_SOCKET_SIZE}
use Rattle.hint_words.specs.declared.step.HintStep.{HintStep}
use Rattle.hint_words.specs.declared.step.HintStep.TheVariants.{Load, Store}
use Rattle.history.specs.Lists.{list_at}
use Rattle.history.specs.declared.history.History.{History}
use Rattle.history.specs.declared.sock_write.SockWrite.{SockWrite}
use Rattle.hop_model.specs.Hop.{chosen_at, nobody}
use Rattle.hop_rule.specs.Moments.{nth_step}
use Rattle.hop_rule.proofs.Lists.{none-some, some-is}
use Rattle.hop_rule.specs.declared.step.BoardStep.{BoardStep}
use Rattle.board_api.specs.Closings.Closings.{own_in}
use Rattle.hop_delivery.specs.Orders.Commands.{received_sets}
use Rattle.hop_delivery.specs.Orders.ReceiveSettings.{socket_word}
use Rattle.hop_delivery.specs.Orders.Runs.{turns_of, word_of}
use Rattle.hop_delivery.specs.Orders.Turns.{Turn}
use Rattle.steer_model.specs.Good.Inputs.{Input, WasDone, settings_at, setup_in}
use Rattle.steer_model.specs.Good.Writes.{IsSize}
use Rattle.steer_model.specs.State.Settings.{Settings}
use Rattle.steer_model.specs.State.Setup.{packet_hash}
use Rattle.steer_model.specs.State.Start.{initial_settings}
use Rattle.run_words.specs.Values.{socket_size_in}
use Rattle.run_coupling.specs.Coupling.Answers.{AllAnswered}
use Rattle.run_coupling.specs.Coupling.Hints.{HasWants, HintCodes, LookedUp, Says, entry_of}
use Rattle.run_coupling.specs.Coupling.Inputs.{receive_queues}
use Rattle.run_coupling.specs.Coupling.Marks.{IsMarkedWrite}
use Rattle.run_coupling.specs.Coupling.Runs.{IsRun}
use Rattle.run_coupling.specs.Coupling.Tries.{Try, at_receive, settings_by, tries_up_to}
use Rattle.run_coupling.specs.Laws.Choices.{commands_before}
use Rattle.run_coupling.proofs.Runs.PutTurnLemmas.{turn-at}
use Rattle.run_coupling.proofs.Runs.QueueLemmas as queues
use Rattle.run_coupling.proofs.Runs.TurnListLemmas.{turn-arrived}
use Rattle.run_coupling.proofs.Tries.TryLemmas.{first-tries}
use Rattle.run_goodness.proofs.Runs.HintLemmas as hints
use Rattle.run_goodness.proofs.Runs.HintLemmas.{class-below}
use Rattle.run_goodness.proofs.Runs.ReceiveLemmas as receives
use Rattle.run_goodness.proofs.Runs.RunLemmas as runs
use Rattle.run_goodness.proofs.Tries.SizeLemmas.{size_by}
use Rattle.headline.specs.OrdersOfWords.{IsWriteFor, WantsAreOlder, WantsStaySet, WasWrittenBefore}
use Rattle.headline.specs.OrdersOfWords.{WritesHavePackets}
use Rattle.run_promise.proofs.WordLemmas.{WasStored, found-stored, in-turn, moment, was-stored}
use Rattle.run_promise.proofs.WordLemmas.{was-written}

-- A want was looked up at an entry of a socket flow table of this size, with a step of the seat
-- that found this value.
record IsLook (c : HintCodes) (cpus size : ℕ) (hash : Option ℕ) (seat : SeatView HintStep)
    (step want : Option ℕ) : Type 0 where
  place : ℕ
  here : class_of size hash ≡ Some place
  number : ℕ
  is : step ≡ Some number
  value : ℕ
  loads : nth_step seat.steps number ≡ Some (Load (c.socket place) value)
  says : Says c cpus value want

-- nothing is wanted without a class, or without entries
abbrev WantsNothing : (size : ℕ) → (class hash want : Option ℕ) → Type 0
WantsNothing size class hash want =
    (want ≡ None) × ((class ≡ None) ⊎ (class_of size hash ≡ None))

looked-at : (c : HintCodes) (cpus size : ℕ) (class hash : Option ℕ) (seat : SeatView HintStep)
    (step want : Option ℕ) → size ≤ MAX_SOCKET_SIZE
    → LookedUp c cpus seat (entry_of size class hash) step want
    → WantsNothing size class hash want ⊎ IsLook c cpus size hash seat step want
looked-at c cpus size None hash seat step want few looked = inl (looked.1, inl refl)
looked-at c cpus size (Some class) hash seat step want few looked =
    by-entry (class_of (socket_size_in size) hash) refl looked
  where
    same : socket_size_in size ≡ size
    same = ap (λ (b : Bool). if b then size else 0) (le-leb size MAX_SOCKET_SIZE few)

    by-entry : (o : Option ℕ) → class_of (socket_size_in size) hash ≡ o
        → LookedUp c cpus seat o step want
        → WantsNothing size (Some class) hash want ⊎ IsLook c cpus size hash seat step want
    by-entry None at by = inl (by.1, inr (ap (λ m. class_of m hash) (sym same) ∙ at))
    by-entry (Some entry) at (n, value, is, loads, says) =
        inr (record {
          place = entry;
          here = ap (λ m. class_of m hash) (sym same) ∙ at;
          number = n;
          is = is;
          value = value;
          loads = loads;
          says = says;
        })

no-class : (class : Option ℕ) → class ≡ None → IsSome class → ⊥
no-class class none some = apart (sym (ap is_some none) ∙ some)
  where
    apart : false ≡ true → ⊥
    apart e = absurd (cc)

answered-back : (i : Input) (h : History) (more ts : List Try) → AllAnswered i h (more ++ ts)
    → AllAnswered i h ts
answered-back i h [] ts all = all
answered-back i h (t ∷ more) ts all = answered-back i h more ts all.1

module _ (i : Input) (h : History) (run : IsRun i h) where
  abbrev rx_own : ℕ → List BoardStep
  rx_own = own_in run.rx_seats

  abbrev at : (seat step : ℕ) → ℕ
  at = moment run.hint_seats run.hints_ended

  abbrev hash_at : ℕ → Option ℕ
  hash_at id = packet_hash (setup_in i) id

  -- ---- turns

  -- each choice has its turn
  turn-of : (q k : ℕ) → k < length (list_at h.choices q)
      → (u : Turn) × (nth_step (turns_of run.queues q) k ≡ Some u)
      × (u.chosen ≡ chosen_at (list_at h.choices q) k)
  turn-of q k less =
      let same = run.received.queues.choices q in
      let few : k < length (run.queues.choices q) = subst (λ cs. k < length cs) same less in
      let u = turn-at rx_own run.queues run.received.queues.turns q k
      (get_or (run.queues.choices q) k nobody)
      (slice_get-get_or (run.queues.choices q) k nobody few) in
      (u.0, u.1, u.2 ∙ ap (λ cs. chosen_at cs k) (sym same))

  turn-known : (q k : ℕ) (u : Turn) → nth_step (turns_of run.queues q) k ≡ Some u
      → u.chosen.id < length i.packets
  turn-known =
      (receives.choices i h run.rx rx_own run.rx_lists (runs.rx-facts i h run) run.tries run.queues
      run.queues_seen run.input run.commands run.received).known

  -- a packet has one turn
  one-turn : (p q j k x : ℕ) (u v : Turn) → nth_step (turns_of run.queues p) j ≡ Some u
      → nth_step (turns_of run.queues q) k ≡ Some v → u.chosen.id ≡ x → v.chosen.id ≡ x
      → (p ≡ q) × (j ≡ k)
  one-turn p q j k x u v one two first second =
      runs.rx-once i h run p q j k x
      (turn-arrived rx_own run.queues run.received.queues.turns p j u one
      ∙ ap (λ n. Some n) first)
      (turn-arrived rx_own run.queues run.received.queues.turns q k v two
      ∙ ap (λ n. Some n) second)

  -- ---- the size of the table

  abbrev size_seen : ℕ → ℕ → ℕ
  size_seen q k = run.queues_seen q k (socket_word (receive_queues i))

  abbrev after : ℕ → Settings
  after n = settings_by (initial_settings i.plan) (tries_up_to at_receive n run.tries)

  module _ (q k : ℕ) (u : Turn) (turn : nth_step (turns_of run.queues q) k ≡ Some u) where
    queue-within : q < length i.plan.queues
    queue-within =
        let less = queues.turn-within i h run.rx rx_own run.rx_lists (runs.rx-facts i h run)
        run.tries run.queues run.queues_seen run.input.hashes run.received.board
        run.received.tries_are (runs.within i h run) run.commands.answered run.received.finds
        run.received.right run.input.arrived run.received.queues q k u turn in
        let same = queues.queue-count i h run.rx rx_own run.rx_lists (runs.rx-facts i h run)
        run.tries run.queues run.queues_seen run.input.hashes run.received.board
        run.received.tries_are (runs.within i h run) run.commands.answered run.received.finds
        run.received.right run.input.arrived run.received.queues in
        omega (arith, less, same)

    size-few : size_seen q k ≤ MAX_SOCKET_SIZE
    size-few =
        (queues.fit-seen i h run.rx rx_own run.rx_lists (runs.rx-facts i h run) run.tries run.queues
        run.queues_seen run.input.hashes run.received.board run.received.tries_are
        (runs.within i h run) run.commands.answered run.received.finds run.received.right
        run.input.arrived run.received.queues q k u turn).sock

    size-after : size_seen q k ≡ (after (u.word / 2 ^ 32)).sock
    size-after =
        queues.seen-sock i h run.rx rx_own run.rx_lists (runs.rx-facts i h run) run.tries
        run.queues run.queues_seen run.input.hashes run.received.board run.received.tries_are
        (runs.within i h run) run.commands.answered run.received.finds run.received.right
        run.input.arrived run.received.queues q k u turn

    -- it is that after the commands of the choice
    size-is : (settings_at i h (commands_before run.tries run.queues q k)).sock ≡ size_seen q k
    size-is =
        let number : word_of (nth_step (turns_of run.queues q) k) / 2 ^ 32 ≡ u.word / 2 ^ 32 =
        ap (λ o. word_of o / 2 ^ 32) turn in
        ap (λ (s : Settings). s.sock)
        (hints.settings-after i h run (word_of (nth_step (turns_of run.queues q) k) / 2 ^ 32)
        ∙ ap after number)
        ∙ sym size-after

    -- and the plan's, or that of a done command
    size-kind : IsSize i h (size_seen q k)
    size-kind =
        let n : ℕ = u.word / 2 ^ 32 in
        let f = first-tries run.rx (received_sets (receive_queues i)) at_receive n run.tries
        run.received.tries_are.are in
        subst (IsSize i h) (sym size-after)
        (size_by i h run.tries run.received.tries_are.commands f.0
        (tries_up_to at_receive n run.tries) f.1
        (answered-back i h f.0 (tries_up_to at_receive n run.tries)
        (subst (AllAnswered i h) f.1 run.commands.answered)))

  -- ---- looks

  abbrev wants_of : (q : ℕ) → q < length i.plan.queues
      → HasWants i run.codes run.hint_seats run.queues q (run.queues_seen q)
  wants_of q within = run.used.wants q within

  -- what a turn wanted it looked up, or it wanted nothing
  looked : (q k : ℕ) (u : Turn) (within : q < length i.plan.queues)
      → nth_step (turns_of run.queues q) k ≡ Some u
      → WantsNothing (size_seen q k) u.chosen.choice.class (hash_at u.chosen.id)
      u.chosen.choice.want
      ⊎ IsLook run.codes i.plan.cpus (size_seen q k) (hash_at u.chosen.id)
      (wants_of q within).seat ((wants_of q within).step k) u.chosen.choice.want
  looked q k u within turn =
      looked-at run.codes i.plan.cpus (size_seen q k) u.chosen.choice.class (hash_at u.chosen.id)
      (wants_of q within).seat ((wants_of q within).step k) u.chosen.choice.want
      (size-few q k u turn) ((wants_of q within).each k u turn)

  -- a want that is set was looked up
  look-of : (q k want : ℕ) (u : Turn) (within : q < length i.plan.queues)
      → nth_step (turns_of run.queues q) k ≡ Some u → u.chosen.choice.want ≡ Some want
      → IsLook run.codes i.plan.cpus (size_seen q k) (hash_at u.chosen.id)
      (wants_of q within).seat ((wants_of q within).step k) (Some want)
  look-of q k want u within turn is =
      elim (looked q k u within turn) [
        | inl none ↦ none-some want (sym none.0 ∙ is)
        | inr look ↦
            subst (IsLook run.codes i.plan.cpus (size_seen q k) (hash_at u.chosen.id)
            (wants_of q within).seat ((wants_of q within).step k)) is look
      ]

  -- ---- wants are older

  -- this is the step with which the packet of a turn was marked
  abbrev IsMark : SeatView HintStep → (step queue turn : ℕ) → Type 0
  IsMark seat n p m =
      (inside : p < length i.plan.queues)
      → ((wants_of p inside).seat ≡ seat) × ((wants_of p inside).mark m ≡ n)

  -- a packet that is marked as steered was marked by its own turn
  marked-by : (q j x n value : ℕ) (v : Turn) (within : q < length i.plan.queues)
      (seat : SeatView HintStep) → Contains run.hint_seats seat
      → nth_step (turns_of run.queues q) j ≡ Some v → v.chosen.id ≡ x
      → nth_step seat.steps n ≡ Some (Store (run.codes.steered x) value)
      → ((wants_of q within).seat ≡ seat) × ((wants_of q within).mark j ≡ n)
  marked-by q j x n value v within seat among turn same stores =
      let known : x < length i.packets =
      subst (λ y. y < length i.packets) same (turn-known q j v turn) in
      let w = run.marks.marks seat x n value among known stores in
      let one = one-turn w.queue q w.index j x w.turn v w.is turn w.packet_is same in
      subst (λ (z : ℕ × ℕ). IsMark seat n z.0 z.1) (λ m. (one.0 m, one.1 m))
      (λ inside. subst
      (λ (l : w.queue < length i.plan.queues).
      ((wants_of w.queue l).seat ≡ seat) × ((wants_of w.queue l).mark w.index ≡ n))
      (le_prop w.within inside) (w.seat_is, w.step_is))
      within

  module _ (q k want : ℕ) (u : Turn) (within : q < length i.plan.queues)
      (turn : nth_step (turns_of run.queues q) k ≡ Some u)
      (wanted : u.chosen.choice.want ≡ Some want) where
    look : IsLook run.codes i.plan.cpus (size_seen q k) (hash_at u.chosen.id)
        (wants_of q within).seat ((wants_of q within).step k) (Some want)
    look = look-of q k want u within turn wanted

    abbrev its_write : SockWrite
    its_write = record { entry = look.place; cpu = want }

    stored : WasStored run.hint_seats at (run.codes.socket look.place) (run.codes.place want)
        (at (wants_of q within).seat.number look.number)
    stored =
        was-stored run.hint_seats run.hints_ended (wants_of q within).seat look.number
        (run.codes.socket look.place) (run.codes.place want) (wants_of q within).among
        (subst (λ v. nth_step (wants_of q within).seat.steps look.number
        ≡ Some (Load (run.codes.socket look.place) v)) look.says.1 look.loads)
        (run.codes.place_is_set want)

    write : IsMarkedWrite i h run.codes run.hint_seats run.marks.writes.reply stored.seat
        stored.step its_write
    write =
        run.marks.writes.stored stored.seat stored.step look.place want stored.among
        (let place = class-below (size_seen q k) (hash_at u.chosen.id) look.place look.here in
        let few = size-few q k u turn in omega (arith, place, few))
        stored.stores

    -- the packet of the write is of no turn from this one on
    older : (j : ℕ) (v : Turn) → k ≤ j → nth_step (turns_of run.queues q) j ≡ Some v
        → v.chosen.id ≡ write.sent.id → ⊥
    older j v le there same =
        let wants = wants_of q within in
        let mark = found-stored run.hint_seats run.hints_ended stored.seat
        (run.codes.steered write.sent.id) stored.step
        (Store (run.codes.socket look.place) (run.codes.place want)) stored.among write.marked
        stored.stores in
        let by = marked-by q j write.sent.id mark.step write.marked.value v within mark.seat
        mark.among there same mark.stores in
        let first = wants.before k j look.number v le there look.is in
        let is = by.1 in
        let later = in-turn run.hint_seats run.hints_ended mark.seat look.number mark.step
        (Store (run.codes.steered write.sent.id) write.marked.value) mark.among
        (omega (arith, first, is)) mark.stores in
        let seat : at wants.seat.number look.number ≡ at mark.seat.number look.number =
        ap (λ s. at s.number look.number) by.0 in
        let one = mark.before in
        let two = stored.before in
        omega (arith, one, two, later, seat)

    was-older : (entry : ℕ)
        × (class_of (settings_at i h (commands_before run.tries run.queues q k)).sock
        (hash_at u.chosen.id) ≡ Some entry)
        × WasWrittenBefore h run.marks.writes.reply q k entry want
    was-older = (
      look.place,
      ap (λ n. class_of n (hash_at u.chosen.id)) (size-is q k u turn) ∙ look.here,
      record {
        app = write.app;
        index = write.index;
        is = write.is;
        sent = write.sent;
        for = write.for;
        older = λ j le less same.
            (let v = turn-of q j less in
            older j v.0 le v.1 (ap (λ (c : Chosen). c.id) v.2 ∙ same));
      },
    )

  packets : WritesHavePackets i h run.marks.writes.reply
  packets = record { rise = run.marks.writes.rise; each = each }
    where
      each : (a n : ℕ) → n < length (list_at h.writes a)
          → IsWriteFor i h a n (run.marks.writes.reply a n)
      each a n less =
          let w = run.marks.writes.made_for a n less in
          record {
            write = w.write;
            sent = w.sent;
            is = w.is;
            for = w.for;
            size = w.size;
            is_size = hints.size-read i h run w.size w.read;
            entry = w.entry;
          }

  pub wants-are-older : WantsAreOlder i h (commands_before run.tries run.queues)
  wants-are-older =
      record {
        reply = run.marks.writes.reply;
        packets = packets;
        wants = λ q k want less is.
            (let u = turn-of q k less in
            subst (λ (c : Chosen).
            (entry : ℕ)
            × (class_of (settings_at i h (commands_before run.tries run.queues q k)).sock
            (hash_at c.id) ≡ Some entry)
            × WasWrittenBefore h run.marks.writes.reply q k entry want) u.2
            (was-older q k want u.0 (queue-within q k u.0 u.1) u.1
            (ap (λ (c : Chosen). c.choice.want) u.2 ∙ is)));
      }

  -- ---- wants stay set

  -- two looks at one entry, of which the first found a processor and the second none
  unset : (q j k want entry first second : ℕ) (within : q < length i.plan.queues) → j < k
      → (hash other : Option ℕ)
      → (a : IsLook run.codes i.plan.cpus first hash (wants_of q within).seat
      ((wants_of q within).step j) (Some want))
      → (b : IsLook run.codes i.plan.cpus second other (wants_of q within).seat
      ((wants_of q within).step k) None)
      → a.place ≡ entry → b.place ≡ entry → entry < MAX_SOCKET_SIZE
      → (size : ℕ) × WasDone h (give.Sock size)
  unset q j k want entry first second within less hash other a b one two few =
      let wants = wants_of q within in
      let before = wants.order j k a.number b.number less a.is b.is in
      let load : nth_step wants.seat.steps a.number
      ≡ Some (Load (run.codes.socket entry) a.value) =
      subst (λ e. nth_step wants.seat.steps a.number ≡ Some (Load (run.codes.socket e) a.value))
      one a.loads in
      let again : nth_step wants.seat.steps b.number
      ≡ Some (Load (run.codes.socket entry) b.value) =
      subst (λ e. nth_step wants.seat.steps b.number ≡ Some (Load (run.codes.socket e) b.value))
      two b.loads in
      let differ : a.value ≢ b.value = λ e. b.says want a.says.0 (sym e ∙ a.says.1) in
      elim (run.marks.entries entry b.value few
      (was-written run.hint_seats run.hints_ended wants.seat (run.codes.socket entry) a.number
      b.number a.value b.value wants.among before load again differ)) [
        | inl by ↦ absurd (b.says by.0 by.2 by.1)
        | inr done ↦ (done.0, done.2)
      ]

  pub wants-stay-set : WantsStaySet i h
  wants-stay-set q j k want entry less short wanted here there classed none =
      let u = turn-of q j (omega (arith, less, short)) in
      let v = turn-of q k short in
      by-sizes u.0 v.0 u.1 v.1 (ap (λ (c : Chosen). c.choice.want) u.2 ∙ wanted)
      (subst (λ (c : Chosen). class_of (rounded_up i.plan.sock) (hash_at c.id) ≡ Some entry)
      (sym u.2) here)
      (subst (λ (c : Chosen). class_of (rounded_up i.plan.sock) (hash_at c.id) ≡ Some entry)
      (sym v.2) there)
      (subst (λ (c : Chosen). IsSome c.choice.class) (sym v.2) classed)
      (ap (λ (c : Chosen). c.choice.want) v.2 ∙ none)
      (size-kind q j u.0 u.1) (size-kind q k v.0 v.1)
    where
      by-sizes : (u v : Turn) → nth_step (turns_of run.queues q) j ≡ Some u
          → nth_step (turns_of run.queues q) k ≡ Some v → u.chosen.choice.want ≡ Some want
          → class_of (rounded_up i.plan.sock) (hash_at u.chosen.id) ≡ Some entry
          → class_of (rounded_up i.plan.sock) (hash_at v.chosen.id) ≡ Some entry
          → IsSome v.chosen.choice.class → v.chosen.choice.want ≡ None
          → IsSize i h (size_seen q j) → IsSize i h (size_seen q k)
          → (size : ℕ) × WasDone h (give.Sock size)
      by-sizes u v one two set first second has unset-now (inr a) other = (a.0, a.2)
      by-sizes u v one two set first second has unset-now other (inr b) = (b.0, b.2)
      by-sizes u v one two set first second has unset-now (inl a) (inl b) =
          let within = queue-within q k v two in
          let look = look-of q j want u within one set in
          let at-first : class_of (size_seen q j) (hash_at u.chosen.id) ≡ Some entry =
          ap (λ n. class_of n (hash_at u.chosen.id)) a ∙ first in
          let at-second : class_of (size_seen q k) (hash_at v.chosen.id) ≡ Some entry =
          ap (λ n. class_of n (hash_at v.chosen.id)) b ∙ second in
          let few : entry < MAX_SOCKET_SIZE =
          (let place = class-below (size_seen q k) (hash_at v.chosen.id) entry at-second in
          let small = size-few q k v two in omega (arith, place, small)) in
          elim (looked q k v within two) [
            | inl (nothing, inl bare) ↦ absurd (no-class v.chosen.choice.class bare has)
            | inl (nothing, inr beyond) ↦ none-some entry (sym beyond ∙ at-second)
            | inr again ↦
                unset q j k want entry (size_seen q j) (size_seen q k) within less
                (hash_at u.chosen.id) (hash_at v.chosen.id) look
                (subst (IsLook run.codes i.plan.cpus (size_seen q k) (hash_at v.chosen.id)
                (wants_of q within).seat ((wants_of q within).step k)) unset-now again)
                (some-is look.place entry (sym look.here ∙ at-first))
                (some-is again.place entry (sym again.here ∙ at-second)) few
          ]
