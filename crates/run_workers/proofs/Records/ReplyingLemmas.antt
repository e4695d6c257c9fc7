-- An application's record of its packets and turns, after its calls and beside other actors.
use Rattle.std.specs.Prelude.{slice_get}
use Rattle.std.proofs.lemmas.List.{length-map}
use Rattle.board_api.specs.StepWords.{openings_in}
use Rattle.run_workers.specs.Hands.Servers.{KeepsHand, Replies, RepliesToHand}
use Rattle.run_workers.proofs.Names.{◌≡◌, ◌⊎◌, inl, inr, ℕ, ◌*◌, ◌<◌, true, false, List, [], ◌∷◌}
use Rattle.run_workers.proofs.Names.{◌++◌, Option, None, Some, IfSome, length, map, sym, refl, ap}
use Rattle.run_workers.proofs.Names.{◌∙◌, subst, arith, Contains, Contains-append_left, map-append}
use Rattle.run_workers.proofs.Names.{StepBy, step_by, steps_of, SeatView, grown, Arrival, Sent}
use Rattle.run_workers.proofs.Names.{HintStep, BoardSizes, BoardStep, Gate, Lane, Entered, Left}
use Rattle.run_workers.proofs.Names.{Read, Turned, OutHeld, none-some, BoardSeatView, Adds}
use Rattle.run_workers.proofs.Names.{Explained, Turn, class_of, Setup, packet_hash, oldest_first}
use Rattle.run_workers.proofs.Names.{socket_size_in, BacksOut, IsServer, LeavesInbox, Queued}
use Rattle.run_workers.proofs.Names.{TakesNext, Server, Grows, NotesGrow, Note, ◌+◌, visit_with}
use Rattle.run_workers.proofs.Hands.ServerLaws.{applications_explain}
use Rattle.run_workers.specs.Records.Growth.{held}
use Rattle.run_workers.specs.Records.Polling.{choices_in}
use Rattle.run_workers.specs.Records.Replying.{EachReplied, HasWrittenAll, HasFound, HasReadInside}
use Rattle.run_workers.specs.Records.Replying.{IsReplied, IsReplying, RepliedTurn, replied_table}
use Rattle.run_workers.specs.Records.Replying.{taken_by}
use Rattle.run_workers.specs.Records.ReplyingLaws.{ArrivalsComeLate, RepliesGoOn, RepliesOn}
use Rattle.run_workers.specs.Records.ReplyingLaws.{ServersBegin, ServersStay, TakesGoOn, TakesOn}
use Rattle.run_workers.proofs.Records.HeldLemmas.{NotedFor, came_later, came_with, found_later}
use Rattle.run_workers.proofs.Records.HeldLemmas.{queued_there, stands_there, stood_later}
use Rattle.run_workers.proofs.Records.HeldLemmas.{writes_grow, writes_later}
use Rattle.run_workers.proofs.Records.HeldLemmas.{writes_more, writes_there}
use Rattle.run_workers.proofs.Records.HintLemmas.{leaves_load, load_grow, steps_one, steps_same}
use Rattle.run_workers.proofs.Records.ListLemmas.{append_none, contains_later, get_last, grows_both}
use Rattle.run_workers.proofs.Records.ListLemmas.{grows_same, noted_more, own_turn}
use Rattle.run_workers.proofs.Records.WordLemmas.{AreRead, words_of}
use Rattle.run_workers.proofs.Hands.DeltaLemmas.{without_reasons}
use Rattle.run_workers.proofs.Hands.MapLemmas.{reads_later}
use Rattle.run_workers.proofs.Hands.WaitLemmas.{leaves_at_board}

abbrev Hint : Type 0
Hint = SeatView HintStep

-- the packets of replies
abbrev pub ids : List Sent → List ℕ
ids sents = map (λ (r : Sent). r.id) sents

-- ---- turns stay

module _ (rows start : ℕ) (given : Setup) (packets app home : ℕ) (arrivals : List Arrival) where
  module _ (ds es : List HintStep) (us vs : List BoardStep) (grow : Grows ds es)
      (tx_grow : Grows us vs) where
    replied_later : (rs : List RepliedTurn) (r : RepliedTurn)
        → IsReplied rows start given packets app home arrivals ds us rs r
        → IsReplied rows start given packets app home arrivals es vs rs r
    replied_later rs r x =
        record {
          within = x.within;
          id_is = x.id_is;
          hash = x.hash;
          cpu_reads = λ n less. reads_later us vs tx_grow (openings_in r.turn.word) n (r.words n)
              (x.cpu_reads n less);
          queue_reads = λ n less. reads_later us vs tx_grow (openings_in r.turn.word)
              (given.txs + n) (r.words (given.txs + n)) (x.queue_reads n less);
          maps = x.maps;
          count = x.count;
          cpus_are = x.cpus_are;
          queues_are = x.queues_are;
          stood = stood_later given.cpus app home ds es r.sent.cpu grow x.stood;
          came = came_later (length given.homes) arrivals ds es r.sent.id r.sent.rxq grow x.came;
          head = x.head;
          loads = x.loads;
          looked = x.looked;
          rule = x.rule;
        }

    pub all_later : (rs : List RepliedTurn)
        → EachReplied rows start given packets app home arrivals ds us rs
        → EachReplied rows start given packets app home arrivals es vs rs
    all_later [] all = all
    all_later (r ∷ rs) all = (replied_later rs r all.0, all_later rs all.1)

  replied_with : (ds : List HintStep) (us : List BoardStep) (rs : List RepliedTurn)
      (r : RepliedTurn) → IsReplied rows start given packets app home [] ds us rs r
      → IsReplied rows start given packets app home arrivals ds us rs r
  replied_with ds us rs r x =
      record {
        within = x.within;
        id_is = x.id_is;
        hash = x.hash;
        cpu_reads = x.cpu_reads;
        queue_reads = x.queue_reads;
        maps = x.maps;
        count = x.count;
        cpus_are = x.cpus_are;
        queues_are = x.queues_are;
        stood = x.stood;
        came = came_with (length given.homes) arrivals ds r.sent.id r.sent.rxq x.came;
        head = x.head;
        loads = x.loads;
        looked = x.looked;
        rule = x.rule;
      }

  all_with : (ds : List HintStep) (us : List BoardStep) (rs : List RepliedTurn)
      → EachReplied rows start given packets app home [] ds us rs
      → EachReplied rows start given packets app home arrivals ds us rs
  all_with ds us [] all = all
  all_with ds us (r ∷ rs) all = (replied_with ds us rs r all.0, all_with ds us rs all.1)

pub servers_begin : ServersBegin
servers_begin given rows start arrivals s turns noted rx tx hints hand table sent choices writes
    own own_notes =
    let none : taken_by s ≡ [] = λ i. ids (sent i) ++ held (hand i) in
    record {
      replied = [];
      own = sym own;
      replies = sent;
      choices = choices ∙ sym (ap choices_in own);
      table = table;
      found = λ k id at. none-some id (sym (ap (λ xs. slice_get xs k) none) ∙ at);
      notes =
          subst (λ xs. HasWrittenAll given s.app s.home rx hints xs
          (oldest_first (steps_of s.app noted))) (sym none) (ap oldest_first own_notes);
      writes = writes
          ∙ sym (ap (λ ns. map (λ (n : Note). n.write) (oldest_first ns)) own_notes);
      are = tt;
    }

pub servers_stay : ServersStay
servers_stay given rows start arrivals s turns more noted more_notes rx rx_after tx tx_after hints
    after same same_notes rx_grow tx_grow grow x =
    record {
      replied = x.replied;
      own = x.own ∙ sym same;
      replies = x.replies;
      choices = x.choices ∙ sym (ap choices_in same);
      table = x.table;
      found = λ k id at. found_later rx rx_after s.app k id rx_grow (x.found k id at);
      notes = subst (λ ns. HasWrittenAll given s.app s.home rx_after after (taken_by s)
          (oldest_first ns)) (sym same_notes)
          (writes_later given s.app s.home rx rx_after hints after rx_grow grow (taken_by s)
          (oldest_first (steps_of s.app noted)) x.notes);
      writes = x.writes
          ∙ sym (ap (λ ns. map (λ (n : Note). n.write) (oldest_first ns)) same_notes);
      are = all_later rows start given s.sent.room s.app s.home arrivals hints after tx tx_after
          grow tx_grow x.replied x.are;
    }

pub arrivals_come : ArrivalsComeLate
arrivals_come given rows start arrivals s turns noted rx tx hints x =
    record {
      replied = x.replied;
      own = x.own;
      replies = x.replies;
      choices = x.choices;
      table = x.table;
      found = x.found;
      notes = x.notes;
      writes = x.writes;
      are = all_with rows start given s.sent.room s.app s.home arrivals hints tx x.replied x.are;
    }

-- ---- steps that calls add

pub adds_grow : (added : List BoardStep) (old new : BoardSeatView) → Adds added old new
    → Grows old.steps new.steps
adds_grow added old new adds = (added, ap (λ (v : BoardSeatView). v.steps) adds)

pub gate_grow : (old new : BoardSeatView) → (new ≡ old) ⊎ BacksOut old new
    → Grows old.steps new.steps
gate_grow old new (inl same) =
    grows_same old.steps new.steps (ap (λ (v : BoardSeatView). v.steps) same)
gate_grow old new (inr out) = adds_grow (Gate Left ∷ Gate (Turned out.0) ∷ []) old new out.1

pub leaves_grow : (about : BoardSizes) (s t : Server) (old new : BoardSeatView)
    (hint_old hint_new : Hint) → LeavesInbox about s t old new hint_old hint_new
    → Grows old.steps new.steps × Grows hint_old.steps hint_new.steps
leaves_grow about s t old new hint_old hint_new leaves = (
  grows_both old.steps leaves.mid.steps new.steps
      (adds_grow leaves.looks.added old leaves.mid leaves.looks.adds)
      (gate_grow leaves.mid new (leaves_at_board about s t old new hint_old hint_new leaves)),
  load_grow hint_old hint_new (leaves_load about s t old new hint_old hint_new leaves),
)

-- ---- taking

module _ (about : BoardSizes) (given : Setup) (rows start : ℕ) (arrivals : List Arrival)
    (s t : Server) (turns : List (StepBy Turn)) (noted : List (StepBy Note))
    (old new : BoardSeatView) (tx : List BoardStep) (hint_old hint_new : Hint) where
  takes_nothing : LeavesInbox about s t old new hint_old hint_new
      → IsReplying given rows start arrivals s turns noted old.steps tx hint_old.steps
      → TakesOn given rows start arrivals s t turns noted new tx hint_new
  takes_nothing leaves x =
      let grow = leaves_grow about s t old new hint_old hint_new leaves in
      record {
        more = noted;
        grow = inl (refl, ap (λ (z : Server). z.writes.items) leaves.same);
        keeps = subst (λ z. IsReplying given rows start arrivals z turns noted new.steps tx
            hint_new.steps) (sym leaves.same)
            (servers_stay given rows start arrivals s turns turns noted noted old.steps new.steps
            tx tx hint_old.steps hint_new.steps refl refl grow.0 (grows_same tx tx refl) grow.1 x);
      }

  module _ (takes : TakesNext about given s t old new hint_old hint_new)
      (x : IsReplying given rows start arrivals s turns noted old.steps tx hint_old.steps) where
    were : taken_by s ≡ ids s.sent.items
    were = ap (λ h. ids s.sent.items ++ held h) takes.empty ∙ append_none (ids s.sent.items)

    found_grow : Grows old.steps takes.mid.steps
    found_grow = adds_grow takes.peeks.added old takes.mid takes.peeks.adds

    visit_grow : Grows takes.mid.steps new.steps
    visit_grow =
        adds_grow (Gate Left ∷ Gate (Read (2 * length given.homes) takes.records.size)
        ∷ Gate (Entered takes.records.word) ∷ []) takes.mid new takes.records.adds

    rx_grow : Grows old.steps new.steps
    rx_grow = grows_both old.steps takes.mid.steps new.steps found_grow visit_grow

    hints_grow : Grows hint_old.steps hint_new.steps
    hints_grow =
        grows_both hint_old.steps takes.hint_mid.steps hint_new.steps
        (steps_one _ hint_old takes.hint_mid takes.loads)
        (writes_grow given.cpus s.app s.home _ s.writes t.writes takes.hint_mid hint_new
        takes.records.writes)

    found_now : HasFound new.steps s.app (length s.sent.items) takes.id
    found_now =
        let f = takes.peeks.found in
        record {
          word = f.word;
          found = f.found;
          held = contains_later takes.mid.steps new.steps (Lane (OutHeld s.app f.word f.found))
              visit_grow
              (subst (λ zs. Contains zs (Lane (OutHeld s.app f.word f.found)))
              (sym (ap (λ (v : BoardSeatView). v.steps) takes.peeks.adds))
              (Contains-append_left takes.peeks.added old.steps
              (Lane (OutHeld s.app f.word f.found)) f.held));
          there = f.there;
        }

    found_all : (k y : ℕ) → slice_get (ids s.sent.items ++ takes.id ∷ []) k ≡ Some y
        → HasFound new.steps s.app k y
    found_all k y at =
        elim (get_last (ids s.sent.items) takes.id k y at) [
          | inl there ↦ found_later old.steps new.steps s.app k y rx_grow
              (x.found k y (ap (λ zs. slice_get zs k) were ∙ there))
          | inr last ↦
              subst (λ (z : ℕ × ℕ). HasFound new.steps s.app z.0 z.1)
              (λ i. (
                sym (last.0 ∙ length-map s.sent.items (λ (r : Sent). r.id)) i,
                last.1 i,
              ))
              found_now
        ]

    read_now : HasReadInside new.steps (2 * length given.homes) takes.records.size
    read_now =
        record {
          newer = Gate Left ∷ [];
          older = Gate (Entered takes.records.word) ∷ takes.mid.steps;
          are = ap (λ (v : BoardSeatView). v.steps) takes.records.adds;
          in_visit = refl;
        }

    abbrev entry : Option ℕ
    entry = class_of (socket_size_in takes.records.size) (packet_hash given takes.id)

    abbrev noted_for : NotedFor given s.app s.home takes.id new.steps entry s.writes t.writes
        hint_new.steps noted
    noted_for =
        writes_there given s.app s.home takes.id new.steps entry s.writes t.writes takes.hint_mid
        hint_new noted takes.records.writes

    abbrev notes : List Note
    notes = oldest_first (steps_of s.app noted)

    written_now : HasWrittenAll given s.app s.home new.steps hint_new.steps
        (ids s.sent.items ++ takes.id ∷ []) (oldest_first (steps_of s.app noted_for.more))
    written_now =
        subst (HasWrittenAll given s.app s.home new.steps hint_new.steps
        (ids s.sent.items ++ takes.id ∷ [])) (sym noted_for.notes)
        (writes_more given s.app s.home new.steps hint_new.steps (ids s.sent.items) notes takes.id
        takes.records.size noted_for.last
        (subst (λ zs. HasWrittenAll given s.app s.home new.steps hint_new.steps zs notes) were
        (writes_later given s.app s.home old.steps new.steps hint_old.steps hint_new.steps rx_grow
        hints_grow (taken_by s) notes x.notes))
        read_now noted_for.has)

    writes_now : t.writes.items
        ≡ map (λ (n : Note). n.write) (oldest_first (steps_of s.app noted_for.more))
    writes_now =
        noted_for.journal
        ∙ (ap (λ ws. ws ++ map (λ (n : Note). n.write) noted_for.last) x.writes
        ∙ (sym (map-append (λ (n : Note). n.write) notes noted_for.last)
        ∙ sym (ap (map (λ (n : Note). n.write)) noted_for.notes)))

    notes_grow : NotesGrow s t noted noted_for.more
    notes_grow = elim noted_for.grow [
      | inl same ↦ inl same
      | inr (n, packet, journal, more) ↦ inr (
        n,
        ap (λ (z : Server). z.hand) takes.same ∙ ap (λ y. Some y) (sym packet),
        journal,
        more,
      )
    ]

    takes_one : TakesOn given rows start arrivals s t turns noted new tx hint_new
    takes_one =
        record {
          more = noted_for.more;
          grow = notes_grow;
          keeps = subst (λ z. IsReplying given rows start arrivals z turns noted_for.more new.steps
              tx hint_new.steps) (sym takes.same) (record {
                replied = x.replied;
                own = x.own;
                replies = x.replies;
                choices = x.choices;
                table = x.table;
                found = found_all;
                notes = written_now;
                writes = writes_now;
                are = all_later rows start given s.sent.room s.app s.home arrivals hint_old.steps
                    hint_new.steps tx tx hints_grow (grows_same tx tx refl) x.replied x.are;
              });
        }

pub takes_go_on : TakesGoOn
takes_go_on about given rows start arrivals s t true turns noted old new tx hint_old hint_new takes
    x =
    takes_one about given rows start arrivals s t turns noted old new tx hint_old hint_new takes x
takes_go_on about given rows start arrivals s t false turns noted old new tx hint_old hint_new takes
    x =
    takes_nothing about given rows start arrivals s t turns noted old new tx hint_old hint_new takes
    x

-- ---- replying

pub kept_grow : (queues : ℕ) (late : List Arrival) (hand : Option ℕ) (old new : Hint)
    (queue : Option ℕ) → IfSome hand (λ id. Queued queues id late old new queue)
    → (hand ≡ None → new ≡ old) → Grows old.steps new.steps
kept_grow queues late None old new queue queued none = steps_same old new (none refl)
kept_grow queues late (Some id) old new queue queued none = steps_one _ old new queued.2

module _ (given : Setup) (rows start : ℕ) (arrivals late : List Arrival) (s t : Server)
    (turns : List (StepBy Turn)) (noted : List (StepBy Note)) (rx : List BoardStep)
    (old new : BoardSeatView) (hint_old hint_new : Hint)
    (x : IsReplying given rows start arrivals s turns noted rx old.steps hint_old.steps)
    (tx_grow : Grows old.steps new.steps) where
  keeps_on : KeepsHand (length given.homes) late s t old new hint_old hint_new
      → Explained old.steps turns
      → RepliesOn given rows start arrivals s t turns noted rx new hint_new
  keeps_on keeps explained =
      record {
        more = turns;
        grow = inl refl;
        explained = applications_explain.keeps (length given.homes) late s t old new hint_old
            hint_new keeps turns explained;
        keeps = subst (λ z. IsReplying given rows start arrivals z turns noted rx new.steps
            hint_new.steps) (sym keeps.same)
            (servers_stay given rows start arrivals s turns turns noted noted rx rx old.steps
            new.steps hint_old.steps hint_new.steps refl refl (grows_same rx rx refl) tx_grow
            (kept_grow (length given.homes) late s.hand hint_old hint_new keeps.queue keeps.hint
            keeps.untouched) x);
      }

  module _ (replied : RepliesToHand given late s t old new hint_old hint_new)
      (is : IsServer given s) (known : (late ≡ []) ⊎ (late ≡ arrivals)) where
    abbrev turn : Turn
    turn = replied.turn

    abbrev sent : Sent
    sent = replied.sent

    -- the reply by the table of the turns so far
    abbrev by_table : Replies given s.app s.home sent (replied_table rows start x.replied)
        t.table turn old new replied.hint_mid hint_new
    by_table =
        subst (λ z. Replies given s.app s.home sent z t.table turn old new replied.hint_mid
        hint_new) x.table replied.replies

    abbrev words : (w : ℕ → ℕ) × ((tx : ℕ) → tx < given.txs
        → AreRead given.cpus (length given.homes) given.txs by_table.maps new.steps
        (openings_in turn.word) w tx)
    words =
        words_of given.cpus (length given.homes) given.txs by_table.maps new.steps
        (openings_in turn.word) given.txs (omega arith) by_table.reads

    abbrev replied_turn : RepliedTurn
    replied_turn = record { turn = turn; sent = sent; words = words.0 }

    queue_grow : Grows hint_old.steps replied.hint_mid.steps
    queue_grow = steps_one _ hint_old replied.hint_mid replied.queued.2

    stand_grow : Grows replied.hint_mid.steps hint_new.steps
    stand_grow = steps_one _ replied.hint_mid hint_new by_table.stands.2

    hints_more : Grows hint_old.steps hint_new.steps
    hints_more =
        grows_both hint_old.steps replied.hint_mid.steps hint_new.steps queue_grow stand_grow

    is_replied : IsReplied rows start given s.sent.room s.app s.home arrivals hint_new.steps
        new.steps x.replied replied_turn
    is_replied =
        record {
          within = subst (λ h. IfSome h (λ id. id < s.sent.room)) replied.hand is.hand;
          id_is = by_table.id_is;
          hash = by_table.hash;
          cpu_reads = λ tx less. (words.1 tx less).cpu_reads;
          queue_reads = λ tx less. (words.1 tx less).queue_reads;
          maps = by_table.maps;
          count = by_table.count;
          cpus_are = λ tx less. (words.1 tx less).cpus_are;
          queues_are = λ tx less. (words.1 tx less).queues_are;
          stood = stands_there given.cpus s.app s.home replied.hint_mid hint_new sent.cpu
              by_table.stands;
          came = came_later (length given.homes) arrivals replied.hint_mid.steps hint_new.steps
              sent.id sent.rxq stand_grow
              (queued_there (length given.homes) sent.id late arrivals hint_old replied.hint_mid
              sent.rxq known replied.queued);
          head = by_table.head;
          loads = by_table.loads;
          looked = by_table.looked;
          rule = by_table.rule;
        }

    -- the packet in hand is the last of those that were replied to
    taken_same : taken_by s ≡ ids (s.sent.items ++ sent ∷ []) ++ []
    taken_same =
        ap (λ h. ids s.sent.items ++ held h) replied.hand
        ∙ (sym (map-append (λ (r : Sent). r.id) s.sent.items (sent ∷ []))
        ∙ sym (append_none (ids (s.sent.items ++ sent ∷ []))))

    keeps_more : IsReplying given rows start arrivals (record s {
      hand = None;
      table = t.table;
      sent = grown s.sent sent;
      choices = grown s.choices turn.chosen;
      kept = t.kept;
    }) (step_by s.app turn ∷ turns) noted rx new.steps hint_new.steps
    keeps_more =
        record {
          replied = replied_turn ∷ x.replied;
          own = ap (λ us. turn ∷ us) x.own ∙ sym (own_turn s.app turn turns);
          replies = ap (λ rs. rs ++ sent ∷ []) x.replies
              ∙ sym (noted_more (λ (r : RepliedTurn). r.sent) replied_turn x.replied);
          choices = ap (λ cs. cs ++ turn.chosen ∷ []) x.choices
              ∙ (sym (noted_more (λ (u : Turn). u.chosen) turn (steps_of s.app turns))
              ∙ sym (ap choices_in (own_turn s.app turn turns)));
          table = by_table.table;
          found = λ k y at. x.found k y (ap (λ zs. slice_get zs k) taken_same ∙ at);
          notes = subst (λ zs. HasWrittenAll given s.app s.home rx hint_new.steps zs
              (oldest_first (steps_of s.app noted)))
              taken_same
              (writes_later given s.app s.home rx rx hint_old.steps hint_new.steps
              (grows_same rx rx refl) hints_more (taken_by s)
              (oldest_first (steps_of s.app noted)) x.notes);
          writes = x.writes;
          are = (
            is_replied,
            all_later rows start given s.sent.room s.app s.home arrivals hint_old.steps
                hint_new.steps old.steps new.steps hints_more tx_grow x.replied x.are,
          );
        }

    replies_on : Explained old.steps turns
        → RepliesOn given rows start arrivals s t turns noted rx new hint_new
    replies_on explained =
        record {
          more = step_by s.app turn ∷ turns;
          grow = inr (turn, refl);
          explained = applications_explain.replies given s.app s.home sent s.table t.table turn
              old new replied.hint_mid hint_new replied.replies turns explained;
          keeps = subst (λ z. IsReplying given rows start arrivals z (step_by s.app turn ∷ turns)
              noted rx new.steps hint_new.steps)
              (sym (replied.same ∙ (λ i. record s {
                hand = None;
                table = t.table;
                sent = replied.notes_sent i;
                choices = replied.notes_choice i;
                kept = t.kept;
              })))
              keeps_more;
        }

pub replies_go_on : RepliesGoOn
replies_go_on given rows start arrivals late s t true turns noted rx old new hint_old hint_new
    replied is known explained x =
    replies_on given rows start arrivals late s t turns noted rx old new hint_old hint_new x
    (adds_grow (visit_with replied.turn [] []) old new replied.replies.adds) replied is known
    explained
replies_go_on given rows start arrivals late s t false turns noted rx old new hint_old hint_new
    keeps is known explained x =
    keeps_on given rows start arrivals late s t turns noted rx old new hint_old hint_new x
    (gate_grow old new (without_reasons keeps.gate)) keeps explained
