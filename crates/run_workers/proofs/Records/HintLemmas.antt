-- The steps of a seat at the hint words stay while its actors go on.
use Rattle.hop_rule.proofs.Moments.{nth-last}
use Rattle.run_words.specs.HintViews.{after_step}
use Rattle.run_workers.specs.Hands.Servers.{LoadsMark}
use Rattle.run_workers.specs.Records.Polling.{HasLookedUp}
use Rattle.run_workers.specs.Records.Words.{FoundBefore}
use Rattle.run_workers.proofs.Names.{◌≡◌, ◌⊎◌, inl, inr, ℕ, ◌<◌, List, [], ◌∷◌, Option, None, Some}
use Rattle.run_workers.proofs.Names.{◌≢◌, IfSome, length, refl, sym, ap, ◌∙◌, subst, arith}
use Rattle.run_workers.proofs.Names.{SeatView, filter_place, Choice, Filter, Put, At, Dropped}
use Rattle.run_workers.proofs.Names.{HintStep, Load, nth_step, BoardSizes, nth-inside}
use Rattle.run_workers.proofs.Names.{BoardSeatView, Setup, packet_hash, filter_for, AsksFilter}
use Rattle.run_workers.proofs.Names.{FindsClosed, LoadsQueue, LooksUp, Polls, SteersHand}
use Rattle.run_workers.proofs.Names.{StoresFilter, Waits, BacksOut, HasNoNext, LeavesInbox, Peeks}
use Rattle.run_workers.proofs.Names.{Poller, Server, Grows}
use Rattle.run_workers.proofs.Records.ListLemmas.{grown_length, grows_both, nth_later}

abbrev Hint : Type 0
Hint = SeatView HintStep

pub steps_same : (old new : Hint) → new ≡ old → Grows old.steps new.steps
steps_same old new same = ([], ap (λ (h : Hint). h.steps) same)

pub steps_one : (d : HintStep) (old new : Hint) → new ≡ record old { steps = d ∷ old.steps }
    → Grows old.steps new.steps
steps_one d old new is = (d ∷ [], ap (λ (h : Hint). h.steps) is)

-- ---- words that were found set

-- the step that a seat did last
pub done_last : (d : HintStep) (old new : Hint) → new ≡ after_step d old
    → nth_step new.steps (length old.steps) ≡ Some d
done_last d old new is =
    ap (λ (h : Hint). nth_step h.steps (length old.steps)) is ∙ nth-last d old.steps

-- a word that was found set before all later steps
pub found_set : (word value : ℕ) (old mid new : Hint) → mid ≡ after_step (Load word value) old
    → value ≢ 0 → Grows mid.steps new.steps → FoundBefore new.steps word (length new.steps)
found_set word value old mid new is set grow =
    record {
      step = length old.steps;
      earlier =
          let l = grown_length mid.steps new.steps grow in
          let m = ap (λ (h : Hint). length h.steps) is in
          omega arith;
      value = value;
      loads = nth_later mid.steps new.steps (length old.steps) (Load word value) grow
          (done_last (Load word value) old mid is);
      set = set;
    }

pub found_stays : (ds es : List HintStep) (word n : ℕ) → Grows ds es → FoundBefore ds word n
    → FoundBefore es word n
found_stays ds es word n grow f =
    record {
      step = f.step;
      earlier = f.earlier;
      value = f.value;
      loads = nth_later ds es f.step (Load word f.value) grow f.loads;
      set = f.set;
    }

-- ---- calls that only load

-- nothing was done at the words, or one was loaded
abbrev pub AtMostLoads : Hint → Hint → Type 0
AtMostLoads old new =
    (new ≡ old) ⊎ ((word : ℕ) × (value : ℕ) × (new ≡ after_step (Load word value) old))

pub load_grow : (old new : Hint) → AtMostLoads old new → Grows old.steps new.steps
load_grow old new (inl same) = steps_same old new same
load_grow old new (inr (word, value, is)) = steps_one _ old new is

pub waits_load : (p q : Poller) (old new : BoardSeatView) (hint_old hint_new : Hint)
    → Waits p q old new hint_old hint_new → AtMostLoads hint_old hint_new
waits_load p q old new hint_old hint_new waits = by_case waits.steps
  where
    by_case : ((p.hand ≡ None) × (hint_new ≡ hint_old) × (new ≡ old))
        ⊎ ((id : ℕ) × (p.hand ≡ Some id) × LoadsQueue id 0 hint_old hint_new × (new ≡ old))
        ⊎ ((id : ℕ) × (value : ℕ) × (p.hand ≡ Some id) × LoadsQueue id value hint_old hint_new
        × (value ≢ 0) × FindsClosed old new)
        → AtMostLoads hint_old hint_new
    by_case (inl (hand, same, board)) = inl same
    by_case (inr (inl (id, hand, loads, board))) = inr (_, 0, loads)
    by_case (inr (inr (id, value, hand, loads, set, closed))) = inr (_, value, loads)

pub leaves_load : (about : BoardSizes) (s t : Server) (old new : BoardSeatView)
    (hint_old hint_new : Hint) → LeavesInbox about s t old new hint_old hint_new
    → AtMostLoads hint_old hint_new
leaves_load about s t old new hint_old hint_new leaves = by_case leaves.gate
  where
    by_case : (HasNoNext about s old leaves.mid × (hint_new ≡ hint_old) × (new ≡ leaves.mid))
        ⊎ ((id : ℕ) × (word : ℕ)
        × Peeks about s.app (length s.sent.items) (Some id) old leaves.mid
        × LoadsMark id word hint_old hint_new
        × (((word ≡ 0) × (new ≡ leaves.mid)) ⊎ ((word ≢ 0) × BacksOut leaves.mid new)))
        → AtMostLoads hint_old hint_new
    by_case (inl (none, same, board)) = inl same
    by_case (inr (id, word, peeks, loads, by_mark)) = inr (_, word, loads)

-- ---- a poll

pub looks_stay : (cpus : ℕ) (entry : Option ℕ) (old new : Hint) (want : Option ℕ)
    → LooksUp cpus entry old new want → Grows old.steps new.steps
looks_stay cpus None old new want is = steps_same old new is.1
looks_stay cpus (Some e) old new want is = steps_one _ old new is.2

stores_stay : (place : Option ℕ) (filter : Option Filter) (old new : Hint)
    → StoresFilter place filter old new → Grows old.steps new.steps
stores_stay (Some place) (Some filter) old new is = steps_one _ old new is
stores_stay (Some place) None old new is = steps_same old new is
stores_stay None filter old new is = steps_same old new is

pub asks_stay : (given : Setup) (filters id : ℕ) (choice : Choice) (answer : Put) (old new : Hint)
    → AsksFilter given filters id choice answer old new → Grows old.steps new.steps
asks_stay given filters id choice (At position) old new is =
    stores_stay (filter_place filters (packet_hash given id))
    (filter_for given.homes filters choice position) old new is
asks_stay given filters id choice (Dropped number accepted pulled cause) old new is =
    steps_same old new is

-- the step of a look at this entry, after so many steps
abbrev pub look_at : Option ℕ → ℕ → Option ℕ
look_at None n = None
look_at (Some entry) n = Some n

pub looked_up : (cpus : ℕ) (entry : Option ℕ) (old mid : Hint) (want : Option ℕ)
    → LooksUp cpus entry old mid want
    → HasLookedUp cpus entry mid.steps (look_at entry (length old.steps)) want
looked_up cpus None old mid want is = (refl, is.0)
looked_up cpus (Some e) old mid want (word, wanted, is) = (
  length old.steps,
  word,
  refl,
  done_last (Load e word) old mid is,
  wanted,
)

pub looked_stays : (cpus : ℕ) (entry : Option ℕ) (ds es : List HintStep) (look want : Option ℕ)
    → Grows ds es → HasLookedUp cpus entry ds look want → HasLookedUp cpus entry es look want
looked_stays cpus None ds es look want stay is = is
looked_stays cpus (Some e) ds es look want grow (n, word, at, loads, wanted) = (
  n,
  word,
  at,
  nth_later ds es n (Load e word) grow loads,
  wanted,
)

-- a look was one of the steps
pub look_below : (cpus : ℕ) (entry : Option ℕ) (ds : List HintStep) (look want : Option ℕ)
    → HasLookedUp cpus entry ds look want → IfSome look (λ n. n < length ds)
look_below cpus None ds look want is =
    subst (λ o. IfSome o (λ n. n < length ds)) (sym is.0) tt
look_below cpus (Some e) ds look want (n, word, at, loads, wanted) =
    subst (λ o. IfSome o (λ n. n < length ds)) (sym at)
    (nth-inside ds n (Load e word) loads)

pub polls_keep_hints : (given : Setup) (filters : ℕ) (p q : Poller) (old new : BoardSeatView)
    (hint_old hint_new : Hint) → Polls given filters p q old new hint_old hint_new
    → Grows hint_old.steps hint_new.steps
polls_keep_hints given filters p q old new hint_old hint_new polls = by_case polls.steers
  where
    by_case : Waits polls.mid q old new hint_old hint_new
        ⊎ ((id : ℕ) × (polls.mid.hand ≡ Some id)
        × SteersHand given filters id polls.mid q old new hint_old hint_new)
        → Grows hint_old.steps hint_new.steps
    by_case (inl waits) =
        load_grow hint_old hint_new (waits_load polls.mid q old new hint_old hint_new waits)
    by_case (inr (id, hand, steers)) =
        let v = steers.visit in
        grows_both hint_old.steps steers.hint_mid.steps hint_new.steps
        (steps_one _ hint_old steers.hint_mid steers.loads)
        (grows_both steers.hint_mid.steps v.hint_mid.steps hint_new.steps
        (looks_stay given.cpus _ steers.hint_mid v.hint_mid v.want v.looks)
        (grows_both v.hint_mid.steps v.hint_marked.steps hint_new.steps
        (steps_one _ v.hint_mid v.hint_marked v.marks)
        (asks_stay given filters steers.turn.chosen.id steers.turn.chosen.choice
        steers.turn.answer v.hint_marked hint_new v.asks)))
