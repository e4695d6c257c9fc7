-- A board before any step has its words and slots.
use Rattle.std.proofs.lemmas.List.{append_assoc, get_or_append_left, get_or-append_right}
use Rattle.std.proofs.lemmas.List.{reverse-append}
use Rattle.std.proofs.lemmas.List.Elements.{All-nil, All-cons}
use Rattle.std.proofs.lemmas.List.FromFn.{get_or-map-range_with_len}
use lib.ListN.{get_or-replicate, length-replicate}
use Rattle.atomic_table.specs.Table.{opening}
use Rattle.atomic_table.proofs.Lists.{at_index, at_map}
use Rattle.linearization.specs.Views.{all_hands}
use Rattle.linearization.specs.Seats.{new_seats}
use Rattle.linearization.proofs.ViewLemmas.{views_open}
use Rattle.board_api.specs.declared.held_lane.LaneId.TheVariants as id
use Rattle.hop_board.specs.Made.{apart_of, head_words, lane_slots, lane_words, line_of, lines_of}
use Rattle.hop_board.specs.Made.{new_middles, new_outs, new_slots, new_words}
use Rattle.hop_board.specs.Tables.{HomesAre, WordsAre, lines, slots}
use Rattle.hop_board.specs.declared.places.TheConstants.{WORDS_PER_LINE}
use Rattle.hop_board.specs.declared.places.Word.TheVariants as kind
use Rattle.hop_board.proofs.Names.{◌≡◌, ℕ, zero, suc, ◌+◌, ◌-◌, ◌*◌, ◌<◌, false, List, [], ◌∷◌}
use Rattle.hop_board.proofs.Names.{◌++◌, All, None, Some, get_or, length, map, replicate, reverse}
use Rattle.hop_board.proofs.Names.{sym, refl, ap, ◌∙◌, subst, arith, length-append, All-head}
use Rattle.hop_board.proofs.Names.{All-tail, length-map-range_with_len, dite, some, ℕ_discrete}
use Rattle.hop_board.proofs.Names.{TableId, Ordered, SeatView, seat_view, BoardSizes, BoardStep}
use Rattle.hop_board.proofs.Names.{FitsLane, BoardSeatView, LaneId, new_middle, spaced, HasNoSteps}
use Rattle.hop_board.proofs.Names.{board_seat, HasBoard, InSlot, all_slots, content, home_of}
use Rattle.hop_board.proofs.Names.{slot_of, width, SLOTS_PER_LANE}

-- ---- lines, and the first words of each

line_long : (n : ℕ) → length (line_of n) ≡ WORDS_PER_LINE
line_long n = refl

lines_long : (n count : ℕ) → length (lines_of n count) ≡ WORDS_PER_LINE * count
lines_long n zero = refl
lines_long n (suc count) = let a = lines_long n count in
    length-append (lines_of n count) (line_of n) ∙ omega arith

line_at : (n count i : ℕ) → i < count → get_or (lines_of n count) (WORDS_PER_LINE * i) 0 ≡ n
line_at n zero i less = absurd (omega arith)
line_at n (suc count) i less = let a = lines_long n count in
    dite (ℕ_discrete i count)
    (λ last. let index : WORDS_PER_LINE * i - WORDS_PER_LINE * count ≡ 0 = omega arith in
    get_or-append_right (lines_of n count) (line_of n) (WORDS_PER_LINE * count)
    (WORDS_PER_LINE * i) 0 a (omega arith) ∙ ap (λ k. get_or (line_of n) k 0) index)
    (λ earlier. let before : i < count = omega arith in
    get_or_append_left (lines_of n count) (line_of n) 0 (WORDS_PER_LINE * i) (omega arith)
    ∙ line_at n count i before)

-- ---- slots with empty ones behind them

spaced_long : (xs : List InSlot) → length (spaced xs) ≡ SLOTS_PER_LANE * length xs
spaced_long [] = refl
spaced_long (x ∷ xs) = let a = spaced_long xs in
    length-append (apart_of x) (spaced xs) ∙ omega arith

spaced_at : (xs : List InSlot) (i : ℕ) (d : InSlot)
    → get_or (spaced xs) (SLOTS_PER_LANE * i) d ≡ get_or xs i d
spaced_at [] i d = refl
spaced_at (x ∷ xs) zero d = refl
spaced_at (x ∷ xs) (suc i) d =
    let index : SLOTS_PER_LANE * suc i - SLOTS_PER_LANE ≡ SLOTS_PER_LANE * i = omega arith in
    get_or-append_right (apart_of x) (spaced xs) SLOTS_PER_LANE (SLOTS_PER_LANE * suc i) d refl
    (omega arith)
    ∙ (ap (λ k. get_or (spaced xs) k d) index ∙ spaced_at xs i d)

spaced_append : (xs ys : List InSlot) → spaced (xs ++ ys) ≡ spaced xs ++ spaced ys
spaced_append [] ys = refl
spaced_append (x ∷ xs) ys = ap (λ zs. apart_of x ++ zs) (spaced_append xs ys)

-- the last slot, pushed behind those that lie behind it in the end
pub spaced_back : (xs all now : List InSlot) (x : InSlot)
    → now ≡ all ++ replicate (SLOTS_PER_LANE - 1) None ++ x ∷ []
    → spaced xs ++ reverse now ≡ spaced (xs ++ x ∷ []) ++ reverse all
spaced_back xs all now x is =
    let empty : List InSlot = replicate (SLOTS_PER_LANE - 1) None in
    let back : reverse now ≡ apart_of x ++ reverse all = ap reverse is
    ∙ (reverse-append (all ++ empty) (x ∷ []) ∙ ap (λ l. x ∷ l) (reverse-append all empty)) in
    ap (λ l. spaced xs ++ l) back
    ∙ sym (ap (λ l. l ++ reverse all) (spaced_append xs (x ∷ []))
    ∙ append_assoc (spaced xs) (apart_of x) (reverse all))

module _ (about : BoardSizes) where
  lanes_long : length (lane_words about) ≡ WORDS_PER_LINE * (about.lanes + about.outs)
  lanes_long = lines_long (2 * (about.start + 0)) (about.lanes + about.outs)

  heads_long : length (head_words about) ≡ WORDS_PER_LINE * about.lanes
  heads_long = lines_long about.start about.lanes

  -- the lines of the lanes and the heads, and those with the gate's
  abbrev front : List ℕ
  front = lane_words about ++ head_words about

  abbrev own_lines : List ℕ
  own_lines = front ++ lines_of 0 1

  front_long : length front ≡ WORDS_PER_LINE * (about.lanes + about.outs + about.lanes)
  front_long = let a = lanes_long in let b = heads_long in
      length-append (lane_words about) (head_words about) ∙ omega arith

  own_long : length own_lines ≡ WORDS_PER_LINE * lines about
  own_long = let a = front_long in length-append front (lines_of 0 1) ∙ omega arith

  pub words_long : length (new_words about) ≡ width about
  words_long = let a = own_long in length-append own_lines about.settings ∙ omega arith

  -- a word below the settings, below the gate, and among those of the lanes
  below_settings : (i : ℕ) → i < WORDS_PER_LINE * lines about
      → get_or (new_words about) i 0 ≡ get_or own_lines i 0
  below_settings i less = let a = own_long in
      get_or_append_left own_lines about.settings 0 i (omega arith)

  below_gate : (i : ℕ) → i < WORDS_PER_LINE * (about.lanes + about.outs + about.lanes)
      → get_or (new_words about) i 0 ≡ get_or front i 0
  below_gate i less = let a = front_long in
      below_settings i (omega arith) ∙ get_or_append_left front (lines_of 0 1) 0 i (omega arith)

  lane_word : (i : ℕ) → i < about.lanes + about.outs
      → get_or (new_words about) (WORDS_PER_LINE * i) 0 ≡ 2 * (about.start + 0) + 0
  lane_word i less = let a = lanes_long in
      below_gate (WORDS_PER_LINE * i) (omega arith)
      ∙ (get_or_append_left (lane_words about) (head_words about) 0 (WORDS_PER_LINE * i)
      (omega arith)
      ∙ (line_at (2 * (about.start + 0)) (about.lanes + about.outs) i less ∙ omega arith))

  first_words_are : WordsAre about [] (new_words about)
  first_words_are (kind.Lane (id.Middle l)) inside = lane_word l (omega arith)
  first_words_are (kind.Lane (id.Out o)) inside = lane_word (about.lanes + o) (omega arith)
  first_words_are (kind.Head l) inside =
      let n : ℕ = WORDS_PER_LINE * (about.lanes + about.outs) in
      let i : ℕ = WORDS_PER_LINE * (about.lanes + about.outs + l) in
      let index : i - n ≡ WORDS_PER_LINE * l = omega arith in
      below_gate i (omega arith)
      ∙ (get_or-append_right (lane_words about) (head_words about) n i 0 lanes_long (omega arith)
      ∙ (ap (λ k. get_or (head_words about) k 0) index
      ∙ (line_at about.start about.lanes l inside ∙ omega arith)))
  first_words_are kind.Gate inside =
      let n : ℕ = WORDS_PER_LINE * (about.lanes + about.outs + about.lanes) in
      let index : n - n ≡ 0 = omega arith in
      below_settings n (omega arith)
      ∙ (get_or-append_right front (lines_of 0 1) n n 0 front_long (omega arith)
      ∙ ap (λ k. get_or (lines_of 0 1) k 0) index)
  first_words_are (kind.Setting i) inside =
      let n : ℕ = WORDS_PER_LINE * lines about in
      let index : n + i - n ≡ i = omega arith in
      get_or-append_right own_lines about.settings n (n + i) 0 own_long (omega arith)
      ∙ ap (λ k. get_or about.settings k 0) index

  middles_long : length (new_middles about) ≡ about.lanes
  middles_long = length-map-range_with_len (new_middle about) 0 about.lanes

  lanes_slots_long : length (lane_slots about) ≡ slots about
  lanes_slots_long = let a = middles_long in
      let d : InSlot = Some (content about [] (id.Out 0)) in
      let b : length (new_outs about) ≡ about.outs = length-replicate about.outs d in
      length-append (new_middles about) (new_outs about) ∙ omega arith

  pub slots_long : length (new_slots about) ≡ all_slots about
  slots_long = let a = lanes_slots_long in spaced_long (lane_slots about) ∙ omega arith

  lane_slot : (x : LaneId) → FitsLane about x
      → Some (content about [] x) ≡ get_or (lane_slots about) (slot_of about x)
      (Some (content about [] x))
  lane_slot (id.Middle l) inside =
      let a = middles_long in let d : InSlot = Some (content about [] (id.Middle l)) in
      sym (get_or_append_left (new_middles about) (new_outs about) d l (omega arith)
      ∙ get_or-map-range_with_len (new_middle about) 0 about.lanes l l d inside (omega arith))
  lane_slot (id.Out o) inside =
      let d : InSlot = Some (content about [] (id.Out o)) in
      let index : about.lanes + o - about.lanes ≡ o = omega arith in
      sym (get_or-append_right (new_middles about) (new_outs about) about.lanes
      (about.lanes + o) d middles_long (omega arith)
      ∙ (ap (λ i. get_or (new_outs about) i d) index ∙ get_or-replicate about.outs o d d inside))

  first_slot : (x : LaneId) → FitsLane about x
      → Some (content about [] x) ≡ get_or (new_slots about) (home_of about x)
      (Some (content about [] x))
  first_slot x inside = lane_slot x inside
      ∙ sym (spaced_at (lane_slots about) (slot_of about x) (Some (content about [] x)))

  first_inside : (x : LaneId) → FitsLane about x → home_of about x < length (new_slots about)
  first_inside (id.Middle l) inside = let a = slots_long in omega arith
  first_inside (id.Out o) inside = let a = slots_long in omega arith

  first_homes : HomesAre about [] (map some (new_slots about))
  first_homes (id.Middle l) inside = let x = id.Middle l in
      at_map some (new_slots about) (home_of about x) (Some (content about [] x))
      (at_index (new_slots about) (home_of about x) (Some (content about [] x))
      (first_inside x inside) (first_slot x inside))
  first_homes (id.Out o) inside = let x = id.Out o in
      at_map some (new_slots about) (home_of about x) (Some (content about [] x))
      (at_index (new_slots about) (home_of about x) (Some (content about [] x))
      (first_inside x inside) (first_slot x inside))

  pub begins : (words : List ℕ) (xs : List InSlot) → words ≡ new_words about → xs ≡ new_slots about
      → Ordered about.seats (HasBoard about) (opening words xs (all_hands about.seats))
  begins words xs words_are slots_are =
      subst (λ (z : List ℕ × List InSlot). Ordered about.seats (HasBoard about)
      (opening z.0 z.1 (all_hands about.seats)))
      (λ i. (sym words_are i, sym slots_are i))
      record {
        order = [];
        lawfully = record {
          lawful = tt;
          counted = words_long;
          words_are = first_words_are;
          homes_are = first_homes;
        };
        views_are = views_open about.seats;
      }

-- ---- the seats

pub new_fresh : (z : TableId) (n k : ℕ) → All HasNoSteps (new_seats z n k)
new_fresh z n zero = All-nil HasNoSteps
new_fresh z n (suc k) = All-cons HasNoSteps (seat_view z n []) (new_seats z (n + 1) k) refl
    (new_fresh z (n + 1) k)

pub tables_at_board : (z : TableId) (xs : List (SeatView BoardStep))
    → All (λ (s : SeatView BoardStep). s.table ≡ z) xs
    → All (λ (s : BoardSeatView). s.table ≡ z) (map (λ s. board_seat s false) xs)
tables_at_board z [] all = All-nil (λ (s : BoardSeatView). s.table ≡ z)
tables_at_board z (x ∷ xs) all =
    All-cons (λ (s : BoardSeatView). s.table ≡ z) (board_seat x false)
    (map (λ s. board_seat s false) xs)
    (All-head (λ (s : SeatView BoardStep). s.table ≡ z) x xs all)
    (tables_at_board z xs (All-tail (λ (s : SeatView BoardStep). s.table ≡ z) x xs all))
