-- What a poll leaves as it was.
use Rattle.std.proofs.lemmas.List.{length-append}
use Rattle.run_workers.specs.Hands.Laws.{PollsStay, Stays}
use Rattle.run_workers.proofs.Names.{◌≡◌, ◌⊎◌, inl, inr, ℕ, ◌+◌, ◌≤◌, [], ◌∷◌, ◌++◌, Option, None}
use Rattle.run_workers.proofs.Names.{Some, ap, ◌∙◌, length, arith, SeatView, Choice, Filter, Put}
use Rattle.run_workers.proofs.Names.{At, Dropped, HintStep, BoardSeatView, filter_place, Setup}
use Rattle.run_workers.proofs.Names.{packet_hash, filter_for, AsksFilter, FindsClosed, LooksUp}
use Rattle.run_workers.proofs.Names.{Polls, SteersHand, StoresFilter, Waits, count_after}
use Rattle.run_workers.proofs.Names.{dropped_by, Poller}
use Rattle.run_workers.proofs.Hands.WaitLemmas.{waits_at_board, waits_there}

abbrev Hint : Type 0
Hint = SeatView HintStep

looks_there : (cpus : ℕ) (entry : Option ℕ) (old new : Hint) (want : Option ℕ)
    → LooksUp cpus entry old new want → new.table ≡ old.table
looks_there cpus None old new want is = ap (λ (s : Hint). s.table) is.1
looks_there cpus (Some e) old new want is = ap (λ (s : Hint). s.table) is.2

stores_there : (place : Option ℕ) (filter : Option Filter) (old new : Hint)
    → StoresFilter place filter old new → new.table ≡ old.table
stores_there (Some place) (Some filter) old new is = ap (λ (s : Hint). s.table) is
stores_there (Some place) None old new is = ap (λ (s : Hint). s.table) is
stores_there None filter old new is = ap (λ (s : Hint). s.table) is

asks_there : (given : Setup) (filters id : ℕ) (choice : Choice) (answer : Put) (old new : Hint)
    → AsksFilter given filters id choice answer old new → new.table ≡ old.table
asks_there given filters id choice (At position) old new is =
    stores_there (filter_place filters (packet_hash given id))
    (filter_for given.homes filters choice position) old new is
asks_there given filters id choice (Dropped number accepted pulled cause) old new is =
    ap (λ (s : Hint). s.table) is

pub polls_stay : PollsStay
polls_stay given filters p q old new hint_old hint_new polls = by_case polls.steers
  where
    waited_table : (new ≡ old) ⊎ FindsClosed old new → new.table ≡ old.table
    waited_table (inl same) = ap (λ (s : BoardSeatView). s.table) same
    waited_table (inr (word, adds)) = ap (λ (s : BoardSeatView). s.table) adds

    waited_number : (new ≡ old) ⊎ FindsClosed old new → new.number ≡ old.number
    waited_number (inl same) = ap (λ (s : BoardSeatView). s.number) same
    waited_number (inr (word, adds)) = ap (λ (s : BoardSeatView). s.number) adds

    by_case : Waits polls.mid q old new hint_old hint_new
        ⊎ ((id : ℕ) × (polls.mid.hand ≡ Some id)
        × SteersHand given filters id polls.mid q old new hint_old hint_new)
        → Stays p q old new hint_old hint_new
    by_case (inl waits) =
        let from = waits.same in
        let at_board = waits_at_board polls.mid q old new hint_old hint_new waits in
        record {
          queue = ap (λ (x : Poller). x.queue) from ∙ ap (λ (x : Poller). x.queue) polls.same;
          room = ap (λ (x : Poller). x.choices.room) from
              ∙ ap (λ (x : Poller). x.choices.room) polls.same;
          table = waited_table at_board;
          number = waited_number at_board;
          hint_table = waits_there polls.mid q old new hint_old hint_new waits;
        }
    by_case (inr (id, hand, steers)) =
        let v = steers.visit in
        record {
          queue = ap (λ (x : Poller). x.queue) steers.same
              ∙ ap (λ (x : Poller). x.queue) polls.same;
          room = ap (λ j. j.room) steers.choices
              ∙ ap (λ (x : Poller). x.choices.room) polls.same;
          table = ap (λ (s : BoardSeatView). s.table) v.adds;
          number = ap (λ (s : BoardSeatView). s.number) v.adds;
          hint_table =
              asks_there given filters steers.turn.chosen.id steers.turn.chosen.choice
              steers.turn.answer v.hint_marked hint_new v.asks
              ∙ (ap (λ (s : Hint). s.table) v.marks
              ∙ (looks_there given.cpus _ steers.hint_mid v.hint_mid v.want v.looks
              ∙ ap (λ (s : Hint). s.table) steers.loads));
        }

-- ---- drops

count_by_one : (count : ℕ) (answer : Put) → count_after count answer ≤ count + 1
count_by_one count (At position) = omega arith
count_by_one count (Dropped number accepted pulled cause) = omega arith

-- a poll leaves the poller with no fewer drops
pub polls_drop : (given : Setup) (filters : ℕ) (p q : Poller) (old new : BoardSeatView)
    (hint_old hint_new : Hint) → Polls given filters p q old new hint_old hint_new
    → dropped_by p ≤ dropped_by q
polls_drop given filters p q old new hint_old hint_new polls = by_case polls.steers
  where
    taken : dropped_by polls.mid ≡ dropped_by p
    taken = ap dropped_by polls.same

    by_case : Waits polls.mid q old new hint_old hint_new
        ⊎ ((id : ℕ) × (polls.mid.hand ≡ Some id)
        × SteersHand given filters id polls.mid q old new hint_old hint_new)
        → dropped_by p ≤ dropped_by q
    by_case (inl waits) =
        let same = ap dropped_by waits.same in
        let before = taken in
        omega (arith, same, before)
    by_case (inr (id, hand, steers)) =
        let before = taken in
        let items = polls.mid.choices.items in
        let longer = length-append items (steers.turn.chosen ∷ []) in
        let after : length q.choices.items ≡ length (items ++ steers.turn.chosen ∷ []) =
        ap (λ j. length j.items) steers.choices in
        let count = steers.visit.count in
        let one = count_by_one polls.mid.accepted steers.turn.answer in
        omega (arith, before, longer, after, count, one)
