-- What was stored at the hint words was for a turn, a mark or a note.
use Rattle.std.proofs.lemmas.List.{append_cancel_left}
use mathlib.Core.Logic.{dite}
use native.Mathlib.Decide.{ℕ_discrete}
use Rattle.linearization.proofs.ListLemmas.{if_other}
use Rattle.hint_words.specs.Steps.{value_written}
use Rattle.hint_words.specs.declared.step.HintStep.TheVariants.{Store}
use Rattle.hop_rule.proofs.Moments.{nth-first}
use Rattle.run_words.specs.HintViews.{after_step}
use Rattle.run_words.specs.Numbers.{hint_number}
use Rattle.run_words.specs.Values.{filter_word, place_word}
use Rattle.run_words.specs.declared.hint_word.HintWord.TheVariants as hint
use Rattle.run_words.specs.declared.hint_word.TheConstants.{FILTER_WORDS, STAND_WORDS}
use Rattle.run_words.specs.declared.values.TheConstants.{STEERED}
use Rattle.run_workers.specs.Records.Storing.{ApplicationsStoreWrites, IsFor}
use Rattle.run_workers.specs.Records.Words.{FoundBefore}
use Rattle.run_workers.proofs.Names.{◌≡◌, ◌≢◌, inl, inr, ℕ, ◌+◌, Bool, true, false, List, [], ◌∷◌}
use Rattle.run_workers.proofs.Names.{◌++◌, Option, None, Some, IfSome, sym, refl, ap, ◌∙◌, subst}
use Rattle.run_workers.proofs.Names.{arith, length, length-append, Contains, StepBy, step_by}
use Rattle.run_workers.proofs.Names.{SeatView, if_same, filter_place, class_of, Journal, Filter}
use Rattle.run_workers.proofs.Names.{Put, At, Dropped, Table, Arrival, SockWrite, HintStep, Load}
use Rattle.run_workers.proofs.Names.{nth_step, BoardSizes, none-some, some-is, BoardSeatView, Turn}
use Rattle.run_workers.proofs.Names.{Setup, packet_hash, filter_for, socket_size_in, AsksFilter}
use Rattle.run_workers.proofs.Names.{LoadsQueue, LooksUp, StoresFilter, Visits, Queued}
use Rattle.run_workers.proofs.Names.{RepliesOrKeeps, TakesNext, TakesOrLeaves, Writes, Server}
use Rattle.run_workers.proofs.Names.{Grows, NotesGrow, StoresAreFor, Mark, Note}
use Rattle.run_workers.proofs.Records.HintLemmas.{AtMostLoads, found_set, found_stays}
use Rattle.run_workers.proofs.Records.HintLemmas.{leaves_load, looks_stay, steps_one}
use Rattle.run_workers.proofs.Records.ListLemmas.{contains_first, contains_later, grows_both}
use Rattle.run_workers.proofs.Records.ListLemmas.{grows_same}

abbrev Hint : Type 0
Hint = SeatView HintStep

-- ---- steps

-- a store writes this value at this word
store_is : (at n word value : ℕ) → value_written word (Store at n) ≡ Some value
    → (word ≡ at) × (value ≡ n)
store_is at n word value is = dite (ℕ_discrete at word)
    (λ e. (sym e, some-is value n (sym is ∙ if_same at word (Some n) None e)))
    (λ ne. none-some value (sym (if_other at word (Some n) None ne) ∙ is))

module _ (given : Setup) (filters : ℕ) (turns : List (StepBy Turn)) (marks : List (StepBy Mark))
    (noted : List (StepBy Note)) where
  for_later : (ds es : List HintStep) (n word value : ℕ) → Grows ds es
      → IsFor given filters turns marks noted ds n word value
      → IsFor given filters turns marks noted es n word value
  for_later ds es n word value grow (inl (e, there, is, found)) =
      inl (e, there, is, found_stays ds es _ n grow found)
  for_later ds es n word value grow (inr (inl mark)) = inr (inl mark)
  for_later ds es n word value grow (inr (inr (e, there, is, found))) =
      inr (inr (e, there, is, found_stays ds es _ n grow found))

  same_stores : (old new : Hint) → new ≡ old
      → StoresAreFor given filters turns marks noted old.steps
      → StoresAreFor given filters turns marks noted new.steps
  same_stores old new same =
      subst (StoresAreFor given filters turns marks noted)
      (sym (ap (λ (h : Hint). h.steps) same))

  -- one step more, which is for one of these if it writes
  step_stores : (d : HintStep) (old new : Hint) → new ≡ after_step d old
      → ((word value : ℕ) → value_written word d ≡ Some value
      → IsFor given filters turns marks noted new.steps (length old.steps) word value)
      → StoresAreFor given filters turns marks noted old.steps
      → StoresAreFor given filters turns marks noted new.steps
  step_stores d old new is this before n word value e at writes =
      elim (nth-first d old.steps n e (sym (ap (λ (h : Hint). nth_step h.steps n) is) ∙ at)) [
        | inl earlier ↦ for_later old.steps new.steps n word value (steps_one d old new is)
            (before n word value e earlier writes)
        | inr (same, last) ↦
            subst (λ m. IsFor given filters turns marks noted new.steps m word value) (sym last)
            (this word value (ap (value_written word) same ∙ writes))
      ]

  pub load_stores : (a b : ℕ) (old new : Hint) → new ≡ after_step (Load a b) old
      → StoresAreFor given filters turns marks noted old.steps
      → StoresAreFor given filters turns marks noted new.steps
  load_stores a b old new is =
      step_stores (Load a b) old new is (λ word value writes. none-some value writes)

  pub at_most_stores : (old new : Hint) → AtMostLoads old new
      → StoresAreFor given filters turns marks noted old.steps
      → StoresAreFor given filters turns marks noted new.steps
  at_most_stores old new (inl same) = same_stores old new same
  at_most_stores old new (inr (word, value, is)) = load_stores word value old new is

  looks_store : (cpus : ℕ) (entry : Option ℕ) (old new : Hint) (want : Option ℕ)
      → LooksUp cpus entry old new want → StoresAreFor given filters turns marks noted old.steps
      → StoresAreFor given filters turns marks noted new.steps
  looks_store cpus None old new want is = same_stores old new is.1
  looks_store cpus (Some e) old new want is = load_stores e is.0 old new is.2

-- the same steps, with more turns, marks and notes
more_stores : (given : Setup) (filters : ℕ) (turns more : List (StepBy Turn))
    (marks more_marks : List (StepBy Mark)) (noted more_notes : List (StepBy Note))
    (hints : List HintStep) → Grows turns more → Grows marks more_marks → Grows noted more_notes
    → StoresAreFor given filters turns marks noted hints
    → StoresAreFor given filters more more_marks more_notes hints
more_stores given filters turns more marks more_marks noted more_notes hints all all_marks
    all_notes before n word value d at writes =
    elim (before n word value d at writes) [
      | inl (e, there, is, found) ↦ inl (e, contains_later turns more e all there, is, found)
      | inr (inl (e, there, is)) ↦
          inr (inl (e, contains_later marks more_marks e all_marks there, is))
      | inr (inr (e, there, is, found)) ↦
          inr (inr (e, contains_later noted more_notes e all_notes there, is, found))
    ]

-- ---- a visit

module _ (given : Setup) (filters q : ℕ) (turn : Turn) (turns : List (StepBy Turn))
    (marks : List (StepBy Mark)) (noted : List (StepBy Note)) where
  filter_stores : (place : Option ℕ) (filter : Option Filter) (position : ℕ) (old new : Hint)
      → turn.answer ≡ At position
      → filter_place filters (packet_hash given turn.chosen.id) ≡ place
      → filter_for given.homes filters turn.chosen.choice position ≡ filter
      → FoundBefore old.steps (hint_number (hint.Queue turn.chosen.id)) (length old.steps)
      → StoresFilter place filter old new
      → StoresAreFor given filters (step_by q turn ∷ turns) marks noted old.steps
      → StoresAreFor given filters (step_by q turn ∷ turns) marks noted new.steps
  filter_stores (Some place) (Some filter) position old new accepted there asked found is =
      step_stores given filters (step_by q turn ∷ turns) marks noted
      (Store (FILTER_WORDS + place) (filter_word filter)) old new is
      (λ word value writes.
      let w = store_is (FILTER_WORDS + place) (filter_word filter) word value writes in inl (
        step_by q turn,
        contains_first (step_by q turn) turns,
        record {
          place = place;
          filter = filter;
          position = position;
          accepted = accepted;
          there = there;
          asked = asked;
          word_is = w.0;
          value_is = w.1;
        },
        found_stays old.steps new.steps _ (length old.steps) (steps_one _ old new is) found,
      ))
  filter_stores (Some place) None position old new accepted there asked found is =
      same_stores given filters (step_by q turn ∷ turns) marks noted old new is
  filter_stores None filter position old new accepted there asked found is =
      same_stores given filters (step_by q turn ∷ turns) marks noted old new is

  asks_store : (answer : Put) (old new : Hint) → turn.answer ≡ answer
      → FoundBefore old.steps (hint_number (hint.Queue turn.chosen.id)) (length old.steps)
      → AsksFilter given filters turn.chosen.id turn.chosen.choice answer old new
      → StoresAreFor given filters (step_by q turn ∷ turns) marks noted old.steps
      → StoresAreFor given filters (step_by q turn ∷ turns) marks noted new.steps
  asks_store (At position) old new is found asks =
      filter_stores (filter_place filters (packet_hash given turn.chosen.id))
      (filter_for given.homes filters turn.chosen.choice position) position old new is refl refl
      found asks
  asks_store (Dropped number accepted pulled cause) old new is found asks =
      same_stores given filters (step_by q turn ∷ turns) marks noted old new asks

mark_store : (given : Setup) (filters q id : ℕ) (turns : List (StepBy Turn))
    (marks : List (StepBy Mark)) (noted : List (StepBy Note)) (mark : Mark) (old new : Hint)
    → mark ≡ record { packet = id; number = length old.steps }
    → new ≡ after_step (Store (hint_number (hint.Steered id)) STEERED) old
    → StoresAreFor given filters turns (step_by q mark ∷ marks) noted old.steps
    → StoresAreFor given filters turns (step_by q mark ∷ marks) noted new.steps
mark_store given filters q id turns marks noted mark old new mark_is is =
    step_stores given filters turns (step_by q mark ∷ marks) noted
    (Store (hint_number (hint.Steered id)) STEERED) old new is
    (λ word value writes.
    let w = store_is (hint_number (hint.Steered id)) STEERED word value writes in inr (inl (
      step_by q mark,
      contains_first (step_by q mark) marks,
      (
        sym (ap (λ (m : Mark). m.number) mark_is),
        w.0 ∙ sym (ap (λ (m : Mark). hint_number (hint.Steered m.packet)) mark_is),
        w.1,
      ),
    )))

-- a visit for a packet that was found announced stores its mark, and the filter of its turn
pub visit_stores : (given : Setup) (filters q flows seen : ℕ) (before after : Table)
    (count_old count_new : ℕ) (turn : Turn) (old new : BoardSeatView)
    (hint_old hint_mid hint_new : Hint) (value : ℕ)
    → LoadsQueue turn.chosen.id value hint_old hint_mid → value ≢ 0
    → (v : Visits given filters q flows seen before after count_old count_new turn old new hint_mid
    hint_new)
    → (turns : List (StepBy Turn)) (marks : List (StepBy Mark)) (noted : List (StepBy Note))
    → StoresAreFor given filters turns marks noted hint_old.steps
    → StoresAreFor given filters (step_by q turn ∷ turns)
    (step_by q (record { packet = turn.chosen.id; number = length v.hint_mid.steps }) ∷ marks)
    noted hint_new.steps
visit_stores given filters q flows seen before after count_old count_new turn old new hint_old
    hint_mid hint_new value loads set v turns marks noted are =
    let mark : Mark = record { packet = turn.chosen.id; number = length v.hint_mid.steps } in
    let more : List (StepBy Turn) = step_by q turn ∷ turns in
    let more_marks : List (StepBy Mark) = step_by q mark ∷ marks in
    asks_store given filters q turn turns more_marks noted turn.answer v.hint_marked hint_new refl
    (found_set _ value hint_old hint_mid v.hint_marked loads set
    (grows_both hint_mid.steps v.hint_mid.steps v.hint_marked.steps
    (looks_stay given.cpus _ hint_mid v.hint_mid v.want v.looks)
    (steps_one _ v.hint_mid v.hint_marked v.marks)))
    v.asks
    (mark_store given filters q turn.chosen.id more marks noted mark v.hint_mid v.hint_marked refl
    v.marks
    (looks_store given filters more more_marks noted given.cpus _ hint_mid v.hint_mid v.want
    v.looks
    (load_stores given filters more more_marks noted _ value hint_old hint_mid loads
    (more_stores given filters turns more marks more_marks noted noted hint_old.steps
    (step_by q turn ∷ [], refl) (step_by q mark ∷ [], refl) ([], refl) are))))

-- ---- an application

longer : {A : Type 0} (xs : List A) (x : A) → xs ++ x ∷ [] ≡ xs → ⊥
longer xs x e = let n = length-append xs (x ∷ []) in let m = ap length e in omega arith

abbrev first_or : {A : Type 0} → A → List A → A
first_or x [] = x
first_or x (y ∷ ys) = y

same_last : {A : Type 0} (xs : List A) (x y : A) → xs ++ x ∷ [] ≡ xs ++ y ∷ [] → x ≡ y
same_last xs x y e = ap (first_or x) (append_cancel_left xs (x ∷ []) (y ∷ []) e)

-- the note of a write that was made, for the packet in hand
its_note : (s t : Server) (noted more : List (StepBy Note)) (id : ℕ) (w : SockWrite)
    → NotesGrow s t noted more → t.hand ≡ Some id → t.writes.items ≡ s.writes.items ++ w ∷ []
    → (e : StepBy Note) × Contains more e × (e.step.packet ≡ id) × (e.step.write ≡ w)
its_note s t noted more id w (inl (same, none)) hand wrote =
    absurd (longer s.writes.items w (sym wrote ∙ none))
its_note s t noted more id w (inr (n, packet, note, is)) hand wrote = (
  step_by s.app n,
  subst (λ ns. Contains ns (step_by s.app n)) (sym is) (contains_first (step_by s.app n) noted),
  some-is n.packet id (sym packet ∙ hand),
  same_last s.writes.items n.write w (sym note ∙ wrote),
)

notes_grow : (s t : Server) (noted more : List (StepBy Note)) → NotesGrow s t noted more
    → Grows noted more
notes_grow s t noted more (inl (same, none)) = grows_same noted more same
notes_grow s t noted more (inr (n, packet, note, is)) = (step_by s.app n ∷ [], is)

module _ (given : Setup) (filters : ℕ) (s t : Server) (turns : List (StepBy Turn))
    (marks : List (StepBy Mark)) (noted more : List (StepBy Note))
    (grow : NotesGrow s t noted more) where
  writes_store : (cpus app home id : ℕ) (entry : Option ℕ) (old new : Hint)
      → t.hand ≡ Some id → Writes cpus app home entry s.writes t.writes old new
      → ((later : Hint) → Grows old.steps later.steps
      → FoundBefore later.steps (hint_number (hint.Steered id)) (length later.steps))
      → StoresAreFor given filters turns marks more old.steps
      → StoresAreFor given filters turns marks more new.steps
  writes_store cpus app home id None old new hand (same, kept) found are =
      same_stores given filters turns marks more old new kept are
  writes_store cpus app home id (Some entry) old new hand (cpu, mid, stands, store, note) found
      are =
      step_stores given filters turns marks more (Store entry (place_word cpu)) mid new store
      (λ word value writes.
      let w = store_is entry (place_word cpu) word value writes in
      let n = its_note s t noted more id (record { entry = entry; cpu = cpu }) grow hand
      (ap (λ (j : Journal SockWrite). j.items) note) in inr (inr (
        n.0,
        n.1,
        (
          w.0 ∙ sym (ap (λ (x : SockWrite). x.entry) n.3),
          w.1 ∙ sym (ap (λ (x : SockWrite). place_word x.cpu) n.3),
        ),
        subst (λ x. FoundBefore new.steps (hint_number (hint.Steered x)) (length mid.steps))
            (sym n.2)
            (found_stays mid.steps new.steps _ (length mid.steps) (steps_one _ mid new store)
            (found mid (steps_one _ old mid stands.2))),
      )))
      (load_stores given filters turns marks more (STAND_WORDS + app) stands.0 old mid stands.2 are)

  takes_next : (about : BoardSizes) (old new : BoardSeatView) (hint_old hint_new : Hint)
      → TakesNext about given s t old new hint_old hint_new
      → StoresAreFor given filters turns marks more hint_old.steps
      → StoresAreFor given filters turns marks more hint_new.steps
  takes_next about old new hint_old hint_new x are =
      writes_store given.cpus s.app s.home x.id
      (class_of (socket_size_in x.records.size) (packet_hash given x.id)) x.hint_mid hint_new
      (ap (λ (z : Server). z.hand) x.same) x.records.writes
      (λ later stay. found_set _ x.word hint_old x.hint_mid later x.loads x.marked stay)
      (load_stores given filters turns marks more _ x.word hint_old x.hint_mid x.loads are)

takes_store : (about : BoardSizes) (given : Setup) (filters : ℕ) (s t : Server) (took : Bool)
    (turns : List (StepBy Turn)) (marks : List (StepBy Mark)) (noted more : List (StepBy Note))
    (old new : BoardSeatView) (hint_old hint_new : Hint)
    → TakesOrLeaves about given s t old new hint_old hint_new took → NotesGrow s t noted more
    → StoresAreFor given filters turns marks noted hint_old.steps
    → StoresAreFor given filters turns marks more hint_new.steps
takes_store about given filters s t took turns marks noted more old new hint_old hint_new x grow
    are =
    by_case took x
    (more_stores given filters turns turns marks marks noted more hint_old.steps ([], refl)
    ([], refl) (notes_grow s t noted more grow) are)
  where
    by_case : (b : Bool) → TakesOrLeaves about given s t old new hint_old hint_new b
        → StoresAreFor given filters turns marks more hint_old.steps
        → StoresAreFor given filters turns marks more hint_new.steps
    by_case true takes =
        takes_next given filters s t turns marks noted more grow about old new hint_old hint_new
        takes
    by_case false leaves =
        at_most_stores given filters turns marks more hint_old hint_new
        (leaves_load about s t old new hint_old hint_new leaves)

kept_stores : (given : Setup) (filters : ℕ) (turns : List (StepBy Turn))
    (marks : List (StepBy Mark)) (noted : List (StepBy Note)) (queues : ℕ) (late : List Arrival)
    (hand : Option ℕ) (old new : Hint) (queue : Option ℕ)
    → IfSome hand (λ id. Queued queues id late old new queue) → (hand ≡ None → new ≡ old)
    → StoresAreFor given filters turns marks noted old.steps
    → StoresAreFor given filters turns marks noted new.steps
kept_stores given filters turns marks noted queues late None old new queue queued none =
    same_stores given filters turns marks noted old new (none refl)
kept_stores given filters turns marks noted queues late (Some id) old new queue queued none =
    load_stores given filters turns marks noted (hint_number (hint.Queue id)) queued.0 old new
    queued.2

replies_store : (given : Setup) (filters : ℕ) (late : List Arrival) (s t : Server) (sent : Bool)
    (turns : List (StepBy Turn)) (marks : List (StepBy Mark)) (noted : List (StepBy Note))
    (old new : BoardSeatView) (hint_old hint_new : Hint)
    → RepliesOrKeeps given late s t old new hint_old hint_new sent
    → StoresAreFor given filters turns marks noted hint_old.steps
    → StoresAreFor given filters turns marks noted hint_new.steps
replies_store given filters late s t true turns marks noted old new hint_old hint_new x are =
    load_stores given filters turns marks noted (STAND_WORDS + s.app) x.replies.stands.0 x.hint_mid
    hint_new x.replies.stands.2
    (load_stores given filters turns marks noted (hint_number (hint.Queue x.sent.id)) x.queued.0
    hint_old x.hint_mid x.queued.2 are)
replies_store given filters late s t false turns marks noted old new hint_old hint_new x are =
    kept_stores given filters turns marks noted (length given.homes) late s.hand hint_old hint_new
    x.queue x.hint x.untouched are

pub applications_store : ApplicationsStoreWrites
applications_store = record { takes = takes_store; replies = replies_store }
