-- Each word and each slot of a board has a place of its own.
use Rattle.std.proofs.Common.{◌/◌, inl, inr}
use Rattle.std.proofs.lemmas.Bool.{cases_order}
use Rattle.board_api.specs.declared.held_lane.LaneId.TheVariants as id
use Rattle.hop_board.specs.CacheLines.{AreALineApart, ContendedWordsLieApart, IsContended}
use Rattle.hop_board.specs.declared.places.TheConstants.{WORDS_PER_LINE}
use Rattle.hop_board.specs.declared.places.Word.TheVariants as kind
use Rattle.hop_board.specs.Tables.{slot_at, slots}
use Rattle.hop_board.proofs.Names.{◌≡◌, ◌≢◌, ℕ, ◌+◌, ◌*◌, ◌<◌, ◌≤◌, refl, sym, ap, ◌∙◌, arith}
use Rattle.hop_board.proofs.Names.{BoardSizes, FitsLane, LaneId, SLOTS_PER_LANE, Word, all_slots}
use Rattle.hop_board.proofs.Names.{home_at, home_of, slot_of, place, width, IsWord}

module _ (about : BoardSizes) where
  pub slot_inside : (x : LaneId) → FitsLane about x → slot_of about x < slots about
  slot_inside (id.Middle l) f = omega arith
  slot_inside (id.Out o) f = omega arith

  pub same_lane : (x y : LaneId) → FitsLane about x → FitsLane about y
      → slot_of about x ≡ slot_of about y → x ≡ y
  same_lane (id.Middle l1) (id.Middle l2) f g e = ap (λ z. id.Middle z) e
  same_lane (id.Middle l1) (id.Out o2) f g e = absurd (omega arith)
  same_lane (id.Out o1) (id.Middle l2) f g e = absurd (omega arith)
  same_lane (id.Out o1) (id.Out o2) f g e =
      let same : o1 ≡ o2 = omega arith in ap (λ z. id.Out z) same

  -- the slot of a lane, by the place of its word
  pub slot_is_at : (x : LaneId) → slot_of about x ≡ slot_at (place about (kind.Lane x))
  slot_is_at (id.Middle l) = omega arith
  slot_is_at (id.Out o) = omega arith

  -- the place of a lane's slot, by that of its word
  pub home_is_at : (x : LaneId) → home_of about x ≡ home_at (place about (kind.Lane x))
  home_is_at x = ap (λ k. SLOTS_PER_LANE * k) (slot_is_at x)

  pub home_inside : (x : LaneId) → FitsLane about x → home_of about x < all_slots about
  home_inside x f = let a = slot_inside x f in omega arith

  pub place_inside : (w : Word) → IsWord about w → place about w < width about
  place_inside (kind.Lane (id.Middle l)) f = omega arith
  place_inside (kind.Lane (id.Out o)) f = omega arith
  place_inside (kind.Head l) f = omega arith
  place_inside kind.Gate f = omega arith
  place_inside (kind.Setting i) f = omega arith

  pub same_word : (v w : Word) → IsWord about v → IsWord about w
      → place about v ≡ place about w → v ≡ w
  same_word (kind.Lane (id.Middle l1)) (kind.Lane (id.Middle l2)) f g e =
      let same : l1 ≡ l2 = omega arith in ap (λ z. kind.Lane (id.Middle z)) same
  same_word (kind.Lane (id.Middle l1)) (kind.Lane (id.Out o2)) f g e = absurd (omega arith)
  same_word (kind.Lane (id.Middle l1)) (kind.Head l2) f g e = absurd (omega arith)
  same_word (kind.Lane (id.Middle l1)) kind.Gate f g e = absurd (omega arith)
  same_word (kind.Lane (id.Middle l1)) (kind.Setting i2) f g e = absurd (omega arith)
  same_word (kind.Lane (id.Out o1)) (kind.Lane (id.Middle l2)) f g e = absurd (omega arith)
  same_word (kind.Lane (id.Out o1)) (kind.Lane (id.Out o2)) f g e =
      let same : o1 ≡ o2 = omega arith in ap (λ z. kind.Lane (id.Out z)) same
  same_word (kind.Lane (id.Out o1)) (kind.Head l2) f g e = absurd (omega arith)
  same_word (kind.Lane (id.Out o1)) kind.Gate f g e = absurd (omega arith)
  same_word (kind.Lane (id.Out o1)) (kind.Setting i2) f g e = absurd (omega arith)
  same_word (kind.Head l1) (kind.Lane (id.Middle l2)) f g e = absurd (omega arith)
  same_word (kind.Head l1) (kind.Lane (id.Out o2)) f g e = absurd (omega arith)
  same_word (kind.Head l1) (kind.Head l2) f g e =
      let same : l1 ≡ l2 = omega arith in ap (λ z. kind.Head z) same
  same_word (kind.Head l1) kind.Gate f g e = absurd (omega arith)
  same_word (kind.Head l1) (kind.Setting i2) f g e = absurd (omega arith)
  same_word kind.Gate (kind.Lane (id.Middle l2)) f g e = absurd (omega arith)
  same_word kind.Gate (kind.Lane (id.Out o2)) f g e = absurd (omega arith)
  same_word kind.Gate (kind.Head l2) f g e = absurd (omega arith)
  same_word kind.Gate kind.Gate f g e = refl
  same_word kind.Gate (kind.Setting i2) f g e = absurd (omega arith)
  same_word (kind.Setting i1) (kind.Lane (id.Middle l2)) f g e = absurd (omega arith)
  same_word (kind.Setting i1) (kind.Lane (id.Out o2)) f g e = absurd (omega arith)
  same_word (kind.Setting i1) (kind.Head l2) f g e = absurd (omega arith)
  same_word (kind.Setting i1) kind.Gate f g e = absurd (omega arith)
  same_word (kind.Setting i1) (kind.Setting i2) f g e =
      let same : i1 ≡ i2 = omega arith in ap (λ z. kind.Setting z) same

  -- ---- cache lines

  -- the number of the line of a contended word
  abbrev line_number : Word → ℕ
  line_number w = place about w / WORDS_PER_LINE

  line_begins : (w : Word) → IsContended w → place about w ≡ WORDS_PER_LINE * line_number w
  line_begins (kind.Lane (id.Middle l)) c = omega arith
  line_begins (kind.Lane (id.Out o)) c = omega arith
  line_begins (kind.Head l) c = omega arith
  line_begins kind.Gate c = omega arith
  line_begins (kind.Setting i) c = absurd c

  before_settings : (w : Word) (i : ℕ) → IsWord about w → IsContended w
      → place about w + WORDS_PER_LINE ≤ place about (kind.Setting i)
  before_settings (kind.Lane (id.Middle l)) i f c = omega arith
  before_settings (kind.Lane (id.Out o)) i f c = omega arith
  before_settings (kind.Head l) i f c = omega arith
  before_settings kind.Gate i f c = omega arith
  before_settings (kind.Setting k) i f c = absurd c

  both_contended : (v w : Word) → IsWord about v → IsWord about w → IsContended v → IsContended w
      → v ≢ w → AreALineApart (place about v) (place about w)
  both_contended v w f g c d ne =
      let a = line_begins v c in let b = line_begins w d in
      elim (cases_order (line_number v) (line_number w)) [
        | inl same ↦ absurd (ne (same_word v w f g (a ∙ (ap (λ k. WORDS_PER_LINE * k) same
            ∙ sym b))))
        | inr other ↦ elim other [
          | inl below ↦ inl (omega arith)
          | inr above ↦ inr (omega arith)
        ]
      ]

  pub lie_apart : ContendedWordsLieApart about
  lie_apart v (kind.Lane x) f g c ne = both_contended v (kind.Lane x) f g c tt ne
  lie_apart v (kind.Head l) f g c ne = both_contended v (kind.Head l) f g c tt ne
  lie_apart v kind.Gate f g c ne = both_contended v kind.Gate f g c tt ne
  lie_apart v (kind.Setting i) f g c ne = let a = before_settings v i f c in inl (omega arith)
