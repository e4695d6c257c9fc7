-- One of many lanes or lists was changed, seen in the lists of them all.
use Rattle.std.proofs.Common.{ℕ, ◌+◌, ◌<◌, ◌≡◌, List, [], ◌∷◌, ◌++◌, length, refl, ap, ◌∙◌}
use Rattle.std.proofs.Common.{arith, get_or, set, map, replicate, inl, inr}
use Rattle.std.proofs.Math.Seq.{map-set, get_or-append_seam}
use Rattle.std.proofs.Math.ListN.{length-set, get_or-append}
use Rattle.std.proofs.lemmas.List.{get_or-map, get_or-set_same, get_or-set_other, length-append}
use Rattle.std.proofs.lemmas.List.{map-append, replicate-append-replicate}
use Rattle.std.proofs.lemmas.Bool.{cases_eq}
use Rattle.steer_base.specs.Lanes.{LaneLists}
use Rattle.steer_base.specs.Sets.{has}
use Rattle.steer_base.specs.declared.cpu_mask.CpuMask.{CpuMask}
use Rattle.backlog.specs.Puts.{SameShape, new_lane}
use Rattle.hop_core.specs.LaneTable.{AreShaped, LaneTable, lane_at, with_lane}

-- the lanes by the lists of each
abbrev pub table_of : List LaneLists → ℕ → ℕ → ℕ → CpuMask → LaneTable
table_of ls limit room start limited =
    record {
      accepted = map (λ l. l.accepted) ls;
      offers = map (λ l. l.offers) ls;
      drops = map (λ l. l.drops) ls;
      pulled = map (λ l. l.pulled) ls;
      limit = limit;
      room = room;
      start = start;
      limited = limited;
    }

pub lane_at-table_of : (ls : List LaneLists) (limit room start : ℕ) (limited : CpuMask) (i : ℕ)
    (l : LaneLists) → i < length ls
    → l ≡ get_or ls i l → AreShaped limit room start limited ls
    → lane_at (table_of ls limit room start limited) i ≡ l
lane_at-table_of ls limit room start limited i l below at shaped =
    let s = shaped i l below in
    let a : l.limit ≡ limit = ap (λ l. l.limit) at ∙ s.limit in
    let b : l.room ≡ room = ap (λ l. l.room) at ∙ s.room in
    let c : l.start ≡ start = ap (λ l. l.start) at ∙ s.start in
    let d : l.limited ≡ has limited i = ap (λ l. l.limited) at ∙ s.limited in
    rw (
      get_or-map (λ l. l.accepted) ls i l [] below,
      get_or-map (λ l. l.offers) ls i l [] below,
      get_or-map (λ l. l.drops) ls i l [] below,
      get_or-map (λ l. l.pulled) ls i l 0 below,
      ← at,
      ← a,
      ← b,
      ← c,
      ← d,
    ) refl

pub with_lane-table_of : (ls : List LaneLists) (limit room start : ℕ) (limited : CpuMask) (i : ℕ)
    (l : LaneLists)
    → table_of (set ls i l) limit room start limited ≡ with_lane
    (table_of ls limit room start limited) i l
with_lane-table_of ls limit room start limited i l =
    rw (
      map-set (λ l. l.accepted) ls i l,
      map-set (λ l. l.offers) ls i l,
      map-set (λ l. l.drops) ls i l,
      map-set (λ l. l.pulled) ls i l,
    ) refl

-- a lane of the same shape is put in the place of one
pub AreShaped-set : (ls : List LaneLists) (limit room start : ℕ) (limited : CpuMask) (i : ℕ)
    (old new : LaneLists) → i < length ls
    → old ≡ get_or ls i old → SameShape old new → AreShaped limit room start limited ls
    → AreShaped limit room start limited (set ls i new)
AreShaped-set ls limit room start limited i old new below at same shaped c d inside =
    let n : c < length ls = rw length-set at inside in
    let was = shaped i old below in
    elim (cases_eq c i) [
      | inl e ↦ rw (e, get_or-set_same ls i new d below) (record {
        limit = same.limit ∙ ap (λ l. l.limit) at ∙ was.limit;
        room = same.room ∙ ap (λ l. l.room) at ∙ was.room;
        start = same.start ∙ ap (λ l. l.start) at ∙ was.start;
        limited = same.limited ∙ ap (λ l. l.limited) at ∙ was.limited;
      })
      | inr ne ↦ rw (get_or-set_other ls i c new d ne) (shaped c d n)
    ]

-- one lane more
pub AreShaped-push : (ls : List LaneLists) (limit room start : ℕ) (limited : CpuMask)
    (l : LaneLists)
    → l ≡ new_lane limit room start (has limited (length ls))
    → AreShaped limit room start limited ls → AreShaped limit room start limited (ls ++ l ∷ [])
AreShaped-push ls limit room start limited l is shaped c d inside =
    let n : c < length ls + 1 = rw length-append at inside in
    elim (cases_eq c (length ls)) [
      | inl e ↦ rw (e, get_or-append_seam ls l [] d, is) (record {
        limit = refl;
        room = refl;
        start = refl;
        limited = refl;
      })
      | inr ne ↦ (let lt : c < length ls = omega arith in rw (get_or-append ls (l ∷ []) d c lt)
          (shaped c d lt))
    ]

-- one more value, whose list is that of all the others
pub map-replicate_more : {V X : Type 0} (f : V → X) (vs more : List V) (v : V) (x : X) (n : ℕ)
    → more ≡ vs ++ v ∷ [] → map f vs ≡ replicate n x
    → f v ≡ x → map f more ≡ replicate (n + 1) x
map-replicate_more f vs more v x n m e h = rw (m, map-append f vs (v ∷ []), e, h)
    (replicate-append-replicate n 1 x)
