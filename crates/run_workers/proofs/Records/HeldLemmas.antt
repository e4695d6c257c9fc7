-- What an application has held, read, loaded and written stays while its seats go on.
use Rattle.run_words.specs.Values.{place_in}
use Rattle.run_words.specs.Numbers.{hint_number}
use Rattle.run_words.specs.declared.hint_word.HintWord.TheVariants as hint
use Rattle.run_words.specs.declared.hint_word.TheConstants.{STAND_WORDS}
use Rattle.run_workers.specs.Hands.Servers.{Stands, queue_by}
use Rattle.run_workers.specs.Records.Replying.{HasWrittenAll, HasCome, HasFound, HasReadInside}
use Rattle.run_workers.specs.Records.Replying.{HasStood, HasWritten}
use Rattle.run_workers.proofs.Names.{◌≡◌, ◌⊎◌, inl, inr, ℕ, ◌*◌, List, [], ◌∷◌, ◌++◌, Option, None}
use Rattle.run_workers.proofs.Names.{Some, ◌+◌, length, map, sym, refl, ap, ◌∙◌, subst}
use Rattle.run_workers.proofs.Names.{append_assoc, StepBy, step_by, steps_of, SeatView, class_of}
use Rattle.run_workers.proofs.Names.{Journal, Arrival, SockWrite, HintStep, Load, BoardStep}
use Rattle.run_workers.proofs.Names.{none-some, Setup, packet_hash, socket_size_in, oldest_first}
use Rattle.run_workers.proofs.Names.{Queued, Writes, Grows, Note}
use Rattle.run_workers.proofs.Records.ListLemmas.{append_none, contains_first, contains_later}
use Rattle.run_workers.proofs.Records.ListLemmas.{grows_both, own_turn}
use Rattle.run_workers.proofs.Records.HintLemmas.{steps_one, steps_same}

abbrev Hint : Type 0
Hint = SeatView HintStep

-- ---- loads

pub stood_later : (cpus app home : ℕ) (ds es : List HintStep) (cpu : ℕ) → Grows ds es
    → HasStood cpus app home ds cpu → HasStood cpus app home es cpu
stood_later cpus app home ds es cpu grow (word, is, has) = (
  word,
  is,
  contains_later ds es (Load (STAND_WORDS + app) word) grow has,
)

pub came_later : (queues : ℕ) (arrivals : List Arrival) (ds es : List HintStep) (id rxq : ℕ)
    → Grows ds es → HasCome queues arrivals ds id rxq → HasCome queues arrivals es id rxq
came_later queues arrivals ds es id rxq grow (word, is, has) = (
  word,
  is,
  contains_later ds es (Load (hint_number (hint.Queue id)) word) grow has,
)

pub stands_there : (cpus app home : ℕ) (old new : Hint) (cpu : ℕ)
    → Stands cpus app home old new cpu → HasStood cpus app home new.steps cpu
stands_there cpus app home old new cpu (word, is, steps) = (
  word,
  is,
  contains_later (Load (STAND_WORDS + app) word ∷ old.steps) new.steps
      (Load (STAND_WORDS + app) word) ([], ap (λ (h : Hint). h.steps) steps)
      (contains_first (Load (STAND_WORDS + app) word) old.steps),
)

-- a queue that is known without the arrivals is the same with them
known_queue : (queue : Option ℕ) (arrivals : List Arrival) (id rxq : ℕ)
    → queue_by queue [] id ≡ Some rxq → queue_by queue arrivals id ≡ Some rxq
known_queue (Some q) arrivals id rxq is = is
known_queue None arrivals id rxq is = none-some rxq is

pub came_with : (queues : ℕ) (arrivals : List Arrival) (ds : List HintStep) (id rxq : ℕ)
    → HasCome queues [] ds id rxq → HasCome queues arrivals ds id rxq
came_with queues arrivals ds id rxq (word, is, has) = (
  word,
  known_queue (place_in word queues) arrivals id rxq is,
  has,
)

queued_by : (queues id : ℕ) (late : List Arrival) (old new : Hint) (rxq : ℕ)
    → Queued queues id late old new (Some rxq) → HasCome queues late new.steps id rxq
queued_by queues id late old new rxq (word, is, steps) = (
  word,
  sym is,
  contains_later (Load (hint_number (hint.Queue id)) word ∷ old.steps) new.steps
      (Load (hint_number (hint.Queue id)) word) ([], ap (λ (h : Hint). h.steps) steps)
      (contains_first (Load (hint_number (hint.Queue id)) word) old.steps),
)

pub queued_there : (queues id : ℕ) (late arrivals : List Arrival) (old new : Hint) (rxq : ℕ)
    → (late ≡ []) ⊎ (late ≡ arrivals) → Queued queues id late old new (Some rxq)
    → HasCome queues arrivals new.steps id rxq
queued_there queues id late arrivals old new rxq (inl none) is =
    came_with queues arrivals new.steps id rxq
    (subst (λ a. HasCome queues a new.steps id rxq) none (queued_by queues id late old new rxq is))
queued_there queues id late arrivals old new rxq (inr all) is =
    subst (λ a. HasCome queues a new.steps id rxq) all (queued_by queues id late old new rxq is)

-- ---- the inbox and settings

pub found_later : (ds es : List BoardStep) (o k id : ℕ) → Grows ds es → HasFound ds o k id
    → HasFound es o k id
found_later ds es o k id grow x =
    record {
      word = x.word;
      found = x.found;
      held = contains_later ds es _ grow x.held;
      there = x.there;
    }

read_later : (ds es : List BoardStep) (setting value : ℕ) → Grows ds es
    → HasReadInside ds setting value → HasReadInside es setting value
read_later ds es setting value (more, is) x =
    record {
      newer = more ++ x.newer;
      older = x.older;
      are = is ∙ (ap (λ zs. more ++ zs) x.are ∙ sym (append_assoc more x.newer _));
      in_visit = x.in_visit;
    }

-- ---- writes

module _ (given : Setup) (app home : ℕ) (rx es : List BoardStep) (hints fs : List HintStep)
    (rx_grow : Grows rx es) (grow : Grows hints fs) where
  written_later : (id : ℕ) (entry : Option ℕ) (rest notes : List Note)
      → HasWritten given app home rx hints id entry rest notes
      → HasWritten given app home es fs id entry rest notes
  written_later id None rest notes is = is
  written_later id (Some entry) rest notes (cpu, stood, is) = (
    cpu,
    stood_later given.cpus app home hints fs cpu grow stood,
    is,
  )

  pub writes_later : (ids : List ℕ) (notes : List Note)
      → HasWrittenAll given app home rx hints ids notes
      → HasWrittenAll given app home es fs ids notes
  writes_later [] notes is = is
  writes_later (id ∷ ids) notes (size, rest, read, one, more) = (
    size,
    rest,
    read_later rx es _ size rx_grow read,
    written_later id _ rest notes one,
    writes_later ids rest more,
  )

module _ (given : Setup) (app home : ℕ) (rx : List BoardStep) (hints : List HintStep) where
  one_more : (id : ℕ) (entry : Option ℕ) (rest notes last : List Note)
      → HasWritten given app home rx hints id entry rest notes
      → HasWritten given app home rx hints id entry (rest ++ last) (notes ++ last)
  one_more id None rest notes last is = ap (λ ns. ns ++ last) is
  one_more id (Some entry) rest notes last (cpu, stood, is) = (
    cpu,
    stood,
    ap (λ ns. ns ++ last) is,
  )

  -- what was written for packets, and then for one more
  pub writes_more : (ids : List ℕ) (notes : List Note) (id size : ℕ) (last : List Note)
      → HasWrittenAll given app home rx hints ids notes
      → HasReadInside rx (2 * length given.homes) size
      → HasWritten given app home rx hints id
      (class_of (socket_size_in size) (packet_hash given id)) [] last
      → HasWrittenAll given app home rx hints (ids ++ id ∷ []) (notes ++ last)
  writes_more [] notes id size last is read one = (
    size,
    [],
    read,
    subst (λ ns. HasWritten given app home rx hints id
        (class_of (socket_size_in size) (packet_hash given id)) [] (ns ++ last)) (sym is) one,
    refl,
  )
  writes_more (x ∷ ids) notes id size last (n, rest, before, first, more) read one = (
    n,
    rest ++ last,
    before,
    one_more x _ rest notes last first,
    writes_more ids rest id size last more read one,
  )

-- ---- the write of a call

-- The notes of a seat with what a call wrote for this packet, if it wrote: these last ones.
pub record NotedFor (given : Setup) (app home id : ℕ) (rx : List BoardStep) (entry : Option ℕ)
    (before after : Journal SockWrite) (hints : List HintStep) (noted : List (StepBy Note))
    : Type 0 where
  pub more : List (StepBy Note)
  pub last : List Note
  pub has : HasWritten given app home rx hints id entry [] last
  pub journal : after.items ≡ before.items ++ map (λ (n : Note). n.write) last
  pub notes : oldest_first (steps_of app more) ≡ oldest_first (steps_of app noted) ++ last
  pub grow : ((more ≡ noted) × (after.items ≡ before.items))
      ⊎ ((n : Note) × (n.packet ≡ id) × (after.items ≡ before.items ++ n.write ∷ [])
      × (more ≡ step_by app n ∷ noted))

pub writes_there : (given : Setup) (app home id : ℕ) (rx : List BoardStep) (entry : Option ℕ)
    (before after : Journal SockWrite) (old new : Hint) (noted : List (StepBy Note))
    → Writes given.cpus app home entry before after old new
    → NotedFor given app home id rx entry before after new.steps noted
writes_there given app home id rx None before after old new noted (same, kept) =
    let journal = ap (λ (j : Journal SockWrite). j.items) same in
    record {
      more = noted;
      last = [];
      has = refl;
      journal = journal ∙ sym (append_none before.items);
      notes = sym (append_none (oldest_first (steps_of app noted)));
      grow = inl (refl, journal);
    }
writes_there given app home id rx (Some entry) before after old new noted
    (cpu, mid, stands, store, note) =
    let n : Note = record { packet = id; write = record { entry = entry; cpu = cpu } } in
    record {
      more = step_by app n ∷ noted;
      last = n ∷ [];
      has = (
        cpu,
        stood_later given.cpus app home mid.steps new.steps cpu (steps_one _ mid new store)
            (stands_there given.cpus app home old mid cpu stands),
        refl,
      );
      journal = ap (λ (j : Journal SockWrite). j.items) note;
      notes = ap oldest_first (own_turn app n noted);
      grow = inr (n, refl, ap (λ (j : Journal SockWrite). j.items) note, refl);
    }

pub writes_grow : (cpus app home : ℕ) (entry : Option ℕ) (before after : Journal SockWrite)
    (old new : Hint) → Writes cpus app home entry before after old new
    → Grows old.steps new.steps
writes_grow cpus app home None before after old new (same, kept) = steps_same old new kept
writes_grow cpus app home (Some entry) before after old new (cpu, mid, stands, store, note) =
    grows_both old.steps mid.steps new.steps (steps_one _ old mid stands.2)
    (steps_one _ mid new store)
