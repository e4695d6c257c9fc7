-- What an application's seat does at the transmit board.
use Rattle.std.proofs.lemmas.List.{get_or-set_same, get_or-set_other, length-set}
use Rattle.xps_map.specs.Maps.{picked}
use Rattle.hop_rule.specs.Gates.{visit_number}
use Rattle.board_api.specs.OwnSteps.{ReadsIn}
use Rattle.board_api.specs.StepWords.{is_marked, openings_in}
use Rattle.board_api.proofs.NumberedSteps.{numbered_reads_stay, reads_are_numbered}
use Rattle.steer_model.specs.State.Setup.{flow_number_of}
use Rattle.run_workers.specs.Hands.KeptMaps.{Kept, with_map}
use Rattle.run_workers.specs.Hands.Pollers.{put_of}
use Rattle.run_workers.specs.Hands.Servers.{ChoosesLane, MapRead, MapsRead, PutsReply, ReadsMap}
use Rattle.run_workers.specs.Hands.Servers.{Replies, Sends, Stands, in_hand}
use Rattle.run_workers.proofs.Names.{◌≡◌, ◌≢◌, ◌⊎◌, inl, inr, ℕ, ◌+◌, ◌<◌, ◌==◌, true, false, arith}
use Rattle.run_workers.proofs.Names.{List, [], ◌∷◌, ◌++◌, Option, None, Some, refl, sym, ap, subst}
use Rattle.run_workers.proofs.Names.{◌∙◌, length, length-append, unwrap_or, eqb_tells}
use Rattle.run_workers.proofs.Names.{Grows}
use Rattle.run_workers.proofs.Names.{Choice, CpuMask, Put, table_after, Table, IsClassOf, weighed}
use Rattle.run_workers.proofs.Names.{Maps, no_cpus, BoardStep, Gate, Entered, Left, Read}
use Rattle.run_workers.proofs.Names.{gate_steps, closed, visit, HasOpen, IsInside, BoardSeatView}
use Rattle.run_workers.proofs.Names.{Adds, AreQuiet, Turn, visit_with, Sent, SeatView, HintStep}
use Rattle.run_workers.proofs.Names.{Journal, grown, Chosen, At, Dropped, Setup, packet_hash}
use Rattle.run_workers.proofs.Names.{cpus_in, queues_in, HasLanesBelow, IsServer, Server}
use Rattle.run_workers.proofs.Names.{quiet_steps_stay}
use Rattle.run_workers.proofs.Hands.ChoiceLemmas.{class_stays, told_below}
use Rattle.run_workers.proofs.Records.ListLemmas.{grows_both}
use Rattle.run_workers.proofs.Hands.MapLemmas.{map_later}
use Rattle.run_workers.proofs.Hands.DeltaLemmas.{adds_both, holds_both, leaves_both, quiet_both}
use Rattle.run_workers.proofs.Hands.PutLemmas.{PutMade}
use Rattle.run_workers.proofs.Hands.ServerLemmas.{quiet_place}
use Rattle.run_workers.proofs.Hands.VisitLemmas.{AreIdle, HeadSteps, head_steps, idle_both}
use Rattle.run_workers.proofs.Hands.VisitLemmas.{idle_entered, idle_left, loads_if}

-- ---- the put

pub puts_reply : (given : Setup) (packet : ℕ) (hash : Option ℕ) (choice : Choice) (answer : Put)
    (before after : Table) (old new : BoardSeatView) → hash ≡ packet_hash given packet
    → PutMade choice.lane packet hash answer old new
    → after ≡ table_after before choice.class (Some answer)
    → PutsReply given packet choice answer before after old new
puts_reply given packet hash choice answer before after old new own made table =
    let m = subst (λ (h : Option ℕ). PutMade choice.lane packet h answer old new) own made in
    record {
      early = m.early;
      quiet = m.quiet;
      holds = m.holds;
      leaves = m.leaves;
      adds = m.adds;
      table = table;
    }

-- ---- the maps

idle_map : (a b v w : ℕ) → AreIdle (Gate (Read a v) ∷ Gate (Read b w) ∷ [])
idle_map a b v w =
    record {
      holds = record { lanes = λ i own e. e; outs = λ o own e. e };
      leaves = λ i. record { hand = λ own. refl; retires = refl; deliveries = refl };
    }

module _ (given : Setup) (old : BoardSeatView) (is : IsInside old.steps) where
  abbrev this_visit : ℕ
  this_visit = visit_number (gate_steps old.steps)

  pub maps_inside : (n : ℕ) (maps : Maps) (new : BoardSeatView) → MapsRead given n maps old new
      → IsInside new.steps
  maps_inside n maps new m = quiet_place m.added old new m.quiet m.adds ∙ is

  module _ (n : ℕ) (maps : Maps) (mid new : BoardSeatView) (low : n < given.txs)
      (m : MapsRead given n maps old mid) (cpu_word queue_word : ℕ)
      (adds : Adds (Gate (Read (given.txs + n) queue_word) ∷ Gate (Read n cpu_word) ∷ []) mid new)
    where
      abbrev pair : List BoardStep
      pair = Gate (Read (given.txs + n) queue_word) ∷ Gate (Read n cpu_word) ∷ []

      abbrev now : Maps
      now = with_map given.cpus (length given.homes) maps n cpu_word queue_word

      abbrev cpu_set : CpuMask
      cpu_set = cpus_in cpu_word given.cpus

      abbrev queue_set : ℕ
      queue_set = queues_in queue_word (length given.homes)

      abbrev grow : Grows mid.steps new.steps
      grow = (pair, ap (λ (v : BoardSeatView). v.steps) adds)

      number_stays : visit_number (gate_steps mid.steps) ≡ this_visit
      number_stays =
          ap (λ (v : BoardSeatView). visit_number (gate_steps v.steps)) m.adds
          ∙ (quiet_steps_stay m.added old.steps m.quiet.visits).number

      -- a setting that the two steps read is one that was read in a visit of this number
      read_now : (setting value : ℕ)
          → ReadsIn (pair ++ mid.steps) (visit_number (gate_steps mid.steps)) setting value
          → ReadsIn new.steps this_visit setting value
      read_now setting value =
          subst (λ (z : List BoardStep × ℕ). ReadsIn z.0 z.1 setting value)
          (λ j. (sym grow.1 j, number_stays j))

      this_read : MapRead given.cpus (length given.homes) given.txs n now new.steps this_visit
      this_read =
          record {
            cpu_word = cpu_word;
            queue_word = queue_word;
            reads_cpus = read_now n cpu_word
                (numbered_reads_stay (Gate (Read (given.txs + n) queue_word) ∷ [])
                (Gate (Read n cpu_word) ∷ mid.steps) (visit_number (gate_steps mid.steps)) n
                cpu_word (reads_are_numbered mid.steps n cpu_word (maps_inside n maps mid m)));
            reads_queues = read_now (given.txs + n) queue_word
                (reads_are_numbered (Gate (Read n cpu_word) ∷ mid.steps) (given.txs + n)
                queue_word (maps_inside n maps mid m));
            cpus_are = get_or-set_same maps.cpus n cpu_set no_cpus
                (subst (λ (k : ℕ). n < k) (sym m.has.cpu_sets) low);
            queues_are = get_or-set_same maps.queues n queue_set 0
                (subst (λ (k : ℕ). n < k) (sym m.has.queue_sets) low);
          }

      other_read : (tx : ℕ) → tx ≢ n → tx < n
          → MapRead given.cpus (length given.homes) given.txs tx now new.steps this_visit
      other_read tx apart less =
          let r = map_later mid.steps new.steps grow given.cpus (length given.homes) given.txs tx
          this_visit maps (m.has.reads tx less) in
          record {
            cpu_word = r.cpu_word;
            queue_word = r.queue_word;
            reads_cpus = r.reads_cpus;
            reads_queues = r.reads_queues;
            cpus_are = get_or-set_other maps.cpus n tx cpu_set no_cpus apart ∙ r.cpus_are;
            queues_are = get_or-set_other maps.queues n tx queue_set 0 apart ∙ r.queues_are;
          }

      by_number : (tx : ℕ) → tx < n + 1
          → (((tx == n) ≡ true) × (tx ≡ n)) ⊎ (((tx == n) ≡ false) × (tx ≢ n))
          → MapRead given.cpus (length given.homes) given.txs tx now new.steps this_visit
      by_number tx less (inl (t, same)) =
          subst (λ (k : ℕ). MapRead given.cpus (length given.homes) given.txs k now new.steps
          this_visit) (sym same) this_read
      by_number tx less (inr (t, apart)) =
          other_read tx apart (below tx less apart)
        where
          below : (k : ℕ) → k < n + 1 → k ≢ n → k < n
          below k low' apart' = omega (arith, low', apart')

      -- one more was read
      maps_more : MapsRead given (n + 1) now old new
      maps_more =
          record {
            added = pair ++ m.added;
            adds = adds_both old mid new pair m.added m.adds adds;
            quiet = quiet_both pair m.added (record { puts = refl; visits = refl }) m.quiet;
            holds = holds_both pair m.added
                (idle_map (given.txs + n) n queue_word cpu_word).holds m.holds;
            leaves = λ l. leaves_both l pair m.added
                ((idle_map (given.txs + n) n queue_word cpu_word).leaves l) (m.leaves l);
            has = record {
              reads = λ tx less. by_number tx less (eqb_tells tx n);
              count = m.has.count;
              cpu_sets = length-set maps.cpus n cpu_set ∙ m.has.cpu_sets;
              queue_sets = length-set maps.queues n queue_set ∙ m.has.queue_sets;
            };
          }

  pub maps_next : (n : ℕ) (maps after : Maps) (mid new : BoardSeatView) → n < given.txs
      → MapsRead given n maps old mid → ReadsMap given n maps after mid new
      → MapsRead given (n + 1) after old new
  maps_next n maps after mid new low m r =
      subst (λ (x : Maps). MapsRead given (n + 1) x old new) (sym r.3)
      (maps_more n maps mid new low m r.0 r.1 r.2)

-- ---- the choice

pub chooses_inside : (flow pick : ℕ) (before after : Table) (choice : Choice)
    (old new : BoardSeatView) → ChoosesLane flow pick before after choice old new
    → IsInside old.steps → IsInside new.steps
chooses_inside flow pick before after choice old new c is =
    let h = head_steps before (Some flow) c.head old new c.loads in
    quiet_place h.added old new h.quiet h.adds ∙ is

-- ---- what an application keeps

told_rows : (table : Table) (class : Option ℕ) (answer : Put)
    → length (table_after table class (Some answer)).rows ≡ length table.rows
told_rows table None answer = refl
told_rows table (Some k) (At position) = length-set table.rows k _
told_rows table (Some k) (Dropped number accepted pulled cause) = refl

module _ {X : Type 0} (j : Journal X) (x : X) where
  one_longer : length (grown j x).items ≡ length j.items + 1
  one_longer = length-append j.items (x ∷ [])

-- a packet in hand was replied to: a is the table after the choice, and b after the put
replied_is : (given : Setup) (s : Server) (id : ℕ) (a b : Table) (class : Option ℕ)
    (answer : Put) (sent : Sent) (chosen : Chosen) → IsServer given s → s.hand ≡ Some id
    → IsClassOf a class → HasLanesBelow given.txs a → length a.rows ≡ length s.table.rows
    → b ≡ table_after a class (Some answer)
    → IsServer given (record s {
      hand = None;
      table = b;
      sent = grown s.sent sent;
      choices = grown s.choices chosen;
    })
replied_is given s id a b class answer sent chosen is hand inside below rows told =
    let one : in_hand s.hand ≡ 1 = ap in_hand hand in
    let space = is.room in
    let few = is.writes in
    let same = is.choices in
    let replies : length (grown s.sent sent).items ≡ length s.sent.items + 1 =
    one_longer s.sent sent in
    let choices : length (grown s.choices chosen).items ≡ length s.choices.items + 1 =
    one_longer s.choices chosen in
    let kept : length b.rows ≡ length s.table.rows =
    ap (λ (t : Table). length t.rows) told ∙ (told_rows a class answer ∙ rows) in
    record {
      app = is.app;
      few = is.few;
      choice_room = is.choice_room;
      write_room = is.write_room;
      hand = tt;
      room = omega (arith, space, one, replies);
      choices = omega (arith, same, replies, choices);
      writes = omega (arith, few, one, replies);
      classes = λ x low. subst (λ (n : ℕ). flow_number_of given x < n) (sym kept)
          (is.classes x low);
      lanes = subst (HasLanesBelow given.txs) (sym told)
          (told_below given.txs a class answer inside below);
    }

-- an application that keeps other maps
pub keeps_maps : (given : Setup) (s : Server) (kept : Kept) → IsServer given s
    → IsServer given (record s { kept = kept })
keeps_maps given s kept is =
    record {
      app = is.app;
      few = is.few;
      choice_room = is.choice_room;
      write_room = is.write_room;
      hand = is.hand;
      room = is.room;
      choices = is.choices;
      writes = is.writes;
      classes = is.classes;
      lanes = is.lanes;
    }

-- a is the application after the choice, and p after the put
pub replied_from : (given : Setup) (s a p : Server) (id : ℕ) (class : Option ℕ) (answer : Put)
    (sent : Sent) (chosen : Chosen) (sents : Journal Sent) (choices : Journal Chosen)
    → IsServer given s → s.hand ≡ Some id → IsClassOf a.table class
    → HasLanesBelow given.txs a.table → length a.table.rows ≡ length s.table.rows
    → p.table ≡ table_after a.table class (Some answer) → a ≡ record s { table = a.table }
    → p ≡ record a { table = p.table } → sents ≡ grown p.sent sent
    → choices ≡ grown p.choices chosen
    → IsServer given (record p { hand = None; sent = sents; choices = choices })
replied_from given s a p id class answer sent chosen sents choices is hand inside below rows told
    asame psame sends chose =
    let whole : p ≡ record s { table = p.table } =
    psame ∙ ap (λ (x : Server). record x { table = p.table }) asame in
    let sents_are : sents ≡ grown s.sent sent =
    sends ∙ ap (λ (x : Server). grown x.sent sent) whole in
    let choices_are : choices ≡ grown s.choices chosen =
    chose ∙ ap (λ (x : Server). grown x.choices chosen) whole in
    subst (λ (x : Server). IsServer given
    (record x { hand = None; sent = sents; choices = choices })) (sym whole)
    (subst (λ (j : Journal Sent). IsServer given
    (record s { hand = None; table = p.table; sent = j; choices = choices })) (sym sents_are)
    (subst (λ (j : Journal Chosen). IsServer given
    (record s { hand = None; table = p.table; sent = grown s.sent sent; choices = j }))
    (sym choices_are)
    (replied_is given s id a.table p.table class answer sent chosen is hand inside below rows
    told)))

-- ---- a visit

-- what the seat did after it knew the maps
pub put_grows : (given : Setup) (flow pick id : ℕ) (before between after : Table) (choice : Choice)
    (answer : Put) (read mid new : BoardSeatView)
    → ChoosesLane flow pick before between choice read mid
    → PutsReply given id choice answer between after mid new → Grows read.steps new.steps
put_grows given flow pick id before between after choice answer read mid new c p =
    let h = head_steps before (Some flow) c.head read mid c.loads in
    let put = put_of given choice.lane id answer in (
      (put ∷ p.early) ++ h.added,
      ap (λ (v : BoardSeatView). v.steps)
          (adds_both read mid new (put ∷ p.early) h.added h.adds p.adds),
    )

module _ (given : Setup) (sent : Sent) (choice : Choice) (before after : Table)
    (old new : BoardSeatView) (s : Sends given sent choice before after old new) where
  abbrev flow : ℕ
  flow = flow_number_of given sent.id

  abbrev pick : ℕ
  pick = picked s.maps sent.rxq sent.cpu (packet_hash given sent.id)

  pub head : HeadSteps before (Some flow) s.chooses.head s.read s.mid
  head = head_steps before (Some flow) s.chooses.head s.read s.mid s.chooses.loads

  abbrev put : BoardStep
  put = put_of given choice.lane sent.id s.answer

  abbrev early : List BoardStep
  early = s.puts.early ++ (head.added ++ s.reads.added)

  quiet : AreQuiet early
  quiet = quiet_both s.puts.early (head.added ++ s.reads.added) s.puts.quiet
      (quiet_both head.added s.reads.added head.quiet s.reads.quiet)

  idle : AreIdle (put ∷ early)
  idle = idle_both (put ∷ s.puts.early) (head.added ++ s.reads.added)
      (record { holds = s.puts.holds; leaves = s.puts.leaves })
      (idle_both head.added s.reads.added head.idle
      (record { holds = s.reads.holds; leaves = s.reads.leaves }))

  adds : Adds (put ∷ early) old new
  adds = adds_both old s.mid new (put ∷ s.puts.early) (head.added ++ s.reads.added)
      (adds_both old s.read s.mid head.added s.reads.added s.reads.adds head.adds) s.puts.adds

  pub sends_inside : IsInside old.steps → IsInside new.steps
  sends_inside is =
      ap (λ (v : BoardSeatView). visit (gate_steps v.steps)) adds
      ∙ ((quiet_steps_stay (put ∷ early) old.steps quiet.visits).place ∙ is)

  pub sends_open : HasOpen old.steps → HasOpen new.steps
  sends_open is =
      ap (λ (v : BoardSeatView). closed (gate_steps v.steps)) adds
      ∙ ((quiet_steps_stay (put ∷ early) old.steps quiet.visits).gate ∙ is)

  same_class : choice.class ≡ Some flow
  same_class =
      ap (λ (c : Choice). c.class) s.chooses.rule
      ∙ class_stays (Some flow) (Some pick) pick before (λ _. unwrap_or s.chooses.head 0)
      (λ _. true)

  told : after ≡ table_after (weighed before choice.class choice) choice.class (Some s.answer)
  told =
      s.puts.table
      ∙ ap (λ (t : Table). table_after t choice.class (Some s.answer))
      (s.chooses.table ∙ ap (λ (k : Option ℕ). weighed before k choice) (sym same_class))

  -- the turn of a visit whose entry found this word
  abbrev pub reply_turn : ℕ → Turn
  reply_turn w =
      record {
        chosen = record { id = sent.id; choice = choice };
        word = w;
        early = early;
        hash = packet_hash given sent.id;
        answer = s.answer;
      }

  module _ (app home : ℕ) (hint_old hint_new : SeatView HintStep)
      (stands : Stands given.cpus app home hint_old hint_new sent.cpu)
      (first last : BoardSeatView) (w : ℕ) (unmarked : is_marked w ≡ false)
      (enters : Adds (Gate (Entered w) ∷ []) first old) (leaves : Adds (Gate Left ∷ []) new last)
    where
      all : AreIdle (visit_with (reply_turn w) [] [])
      all = idle_both (Gate Left ∷ []) ((put ∷ early) ++ Gate (Entered w) ∷ []) idle_left
          (idle_both (put ∷ early) (Gate (Entered w) ∷ []) idle (idle_entered w))

      number_is : visit_number (gate_steps old.steps) ≡ openings_in w
      number_is = ap (λ (v : BoardSeatView). visit_number (gate_steps v.steps)) enters

      read_grow : Grows s.read.steps last.steps
      read_grow = grows_both s.read.steps new.steps last.steps
          (put_grows given flow pick sent.id before s.between after choice s.answer s.read s.mid
          new s.chooses s.puts)
          (Gate Left ∷ [], ap (λ (v : BoardSeatView). v.steps) leaves)

      pub replies : Replies given app home sent before after (reply_turn w) first last hint_old
          hint_new
      replies =
          record {
            adds = adds_both first new last (Gate Left ∷ [])
                ((put ∷ early) ++ Gate (Entered w) ∷ [])
                (adds_both first old new (put ∷ early) (Gate (Entered w) ∷ []) enters adds) leaves;
            gate = unmarked;
            quiet = quiet;
            holds = all.holds;
            leaves = all.leaves;
            id_is = refl;
            hash = refl;
            maps = s.maps;
            count = s.reads.has.count;
            reads = λ tx low. subst (MapRead given.cpus (length given.homes) given.txs tx s.maps
                last.steps) number_is
                (map_later s.read.steps last.steps read_grow given.cpus (length given.homes)
                given.txs tx (visit_number (gate_steps old.steps)) s.maps
                (s.reads.has.reads tx low));
            stands = stands;
            head = s.chooses.head;
            loads = loads_if before (Some flow) s.chooses.head s.puts.early head.added
                s.reads.added head.loads;
            looked = s.chooses.looked;
            rule = s.chooses.rule;
            table = told;
          }
