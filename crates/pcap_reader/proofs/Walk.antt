-- The walk over records as a function: the records that are found are the only ones.
use Rattle.std.proofs.Common.{◌≡◌, ◌≤◌, ◌⊎◌, inl, inr, ℕ, zero, suc, ◌+◌, Bool, true, false, cond}
use Rattle.std.proofs.Common.{leb, List, [], ◌∷◌, length, take, drop, refl, sym, ap, subst, ◌∙◌}
use Rattle.std.proofs.Common.{arith}
use Rattle.std.proofs.lemmas.List.{drop_at}
use Rattle.std.proofs.lemmas.Bool.Decides.{leb_tells}
use Rattle.pcap_reader.specs.declared.record.PcapRecord.{PcapRecord}
use Rattle.pcap_reader.specs.Captures.{frame_len, IsWhole, IsRecord, Joins, BeginsNoRecord}
use Rattle.pcap_reader.proofs.Pieces.{pieces_are, short_begins_none, cut_begins_none}
use Rattle.pcap_reader.proofs.Pieces.{long_begins_none, whole_here, split_front}

-- the length of the frame at the front, as its header tells it
abbrev pub front_len : (ℕ → List ℕ → ℕ) → List ℕ → ℕ
front_len number bytes = frame_len number (take 16 bytes)

-- whether a whole record begins these bytes
begins_record : (ℕ → List ℕ → ℕ) → List ℕ → Bool
begins_record number bytes =
    cond (leb 16 (length bytes)) (cond (leb (front_len number bytes) 262144)
    (leb (front_len number bytes) (length (drop 16 bytes))) false) false

front_cases : (number : ℕ → List ℕ → ℕ) (bytes : List ℕ)
    → ((begins_record number bytes ≡ true) × IsWhole number (take 16 bytes)
    (take (front_len number bytes) (drop 16 bytes)))
    ⊎ ((begins_record number bytes ≡ false) × BeginsNoRecord number bytes)
unfolding begins_record
front_cases number bytes =
    let len = front_len number bytes in
    elim (leb_tells 16 (length bytes)) [
      | inl a ↦ elim (leb_tells len 262144) [
        | inl b ↦ elim (leb_tells len (length (drop 16 bytes))) [
          | inl d ↦ inl (rw (a.0, b.0, d.0) refl, whole_here number bytes len a.1 refl b.1 d.1)
          | inr d ↦ inr (rw (a.0, b.0, d.0) refl, cut_begins_none number bytes d.1)
        ]
        | inr b ↦ inr (rw (a.0, b.0) refl, long_begins_none number bytes b.1)
      ]
      | inr a ↦ inr (rw a.0 refl, short_begins_none number bytes a.1)
    ]

-- the record of a header
record_of : (ℕ → List ℕ → ℕ) → ℕ → List ℕ → PcapRecord
record_of number place header = record {
  sec = number 4 header;
  frac = number 4 (drop 4 header);
  start = place + 16;
  len = frame_len number header;
  orig = number 4 (drop 12 header);
}

is_record_of : (number : ℕ → List ℕ → ℕ) (place : ℕ) (header frame : List ℕ)
    → IsWhole number header frame
    → IsRecord number place header frame (record_of number place header)
unfolding record_of
is_record_of number place header frame whole =
    record {
      whole = whole;
      seconds = refl;
      fraction = refl;
      length_told = refl;
      original = refl;
      frame_place = refl;
    }

record_is : (number : ℕ → List ℕ → ℕ) (place : ℕ) (header frame : List ℕ) (r : PcapRecord)
    → IsRecord number place header frame r
    → record_of number place header ≡ r
unfolding record_of
record_is number place header frame r is =
    let make : ℕ → ℕ → ℕ → ℕ → ℕ → PcapRecord = λ a b d e f. record {
      sec = a;
      frac = b;
      start = d;
      len = e;
      orig = f;
    } in
    let same : make r.sec r.frac r.start r.len r.orig ≡ make (number 4 header)
    (number 4 (drop 4 header)) (place + 16) (frame_len number header)
    (number 4 (drop 12 header)) =
    rw (is.seconds, is.fraction, is.frame_place, is.length_told, is.original) refl in
    sym same

-- at most so many records from the front, and what follows them
pub walk : (ℕ → List ℕ → ℕ) → ℕ → ℕ → List ℕ → List PcapRecord × List ℕ
walk number zero place bytes = ([], bytes)
walk number (suc n) place bytes =
    let next = walk number n (place + (16 + front_len number bytes)) (drop (front_len number bytes)
    (drop 16 bytes)) in
    cond (begins_record number bytes) (record_of number place (take 16 bytes) ∷ next.0, next.1)
    ([], bytes)

walk-zero : (number : ℕ → List ℕ → ℕ) (place : ℕ) (bytes : List ℕ)
    → walk number zero place bytes ≡ ([], bytes)
unfolding walk
walk-zero number place bytes = refl

walk-true : (number : ℕ → List ℕ → ℕ) (n place : ℕ) (bytes : List ℕ)
    → begins_record number bytes ≡ true
    → let next = walk number n (place + (16 + front_len number bytes))
    (drop (front_len number bytes) (drop 16 bytes)) in
    walk number (suc n) place bytes ≡ (record_of number place (take 16 bytes) ∷ next.0, next.1)
unfolding walk
walk-true number n place bytes h = rw h refl

walk-false : (number : ℕ → List ℕ → ℕ) (n place : ℕ) (bytes : List ℕ)
    → begins_record number bytes ≡ false → walk number (suc n) place bytes ≡ ([], bytes)
unfolding walk
walk-false number n place bytes h = rw h refl

-- at most so many records join to the bytes with a rest, and there are so many or no other begins
-- the rest
pub record Walks (number : ℕ → List ℕ → ℕ) (n place : ℕ) (bytes : List ℕ)
    (records : List PcapRecord) (rest : List ℕ) : Type 0 where
  pub joined : Joins number place bytes records rest
  pub few : length records ≤ n
  pub stops : BeginsNoRecord number rest ⊎ (length records ≡ n)

-- what the function finds is such a walk
pub walk_walks : (number : ℕ → List ℕ → ℕ) (n place : ℕ) (bytes : List ℕ)
    → Walks number n place bytes (walk number n place bytes).0 (walk number n place bytes).1
unfolding walk record_of
walk_walks number zero place bytes = record { joined = refl; few = omega arith; stops = inr refl }
walk_walks number (suc n) place bytes =
    let len = front_len number bytes in
    let rest = walk number n (place + (16 + len)) (drop len (drop 16 bytes)) in
    let next = walk_walks number n (place + (16 + len)) (drop len (drop 16 bytes)) in
    let P : List PcapRecord × List ℕ → Type 0 = λ w. Walks number (suc n) place bytes w.0 w.1 in
    elim (front_cases number bytes) [
      | inl whole ↦
          let one = is_record_of number place (take 16 bytes) (take len (drop 16 bytes)) whole.1 in
          subst P (sym (walk-true number n place bytes whole.0)) (record {
            joined = (
              take 16 bytes,
              take len (drop 16 bytes),
              drop len (drop 16 bytes),
              split_front bytes len,
              one,
              next.joined,
            );
            few = omega (arith, next.few);
            stops = elim next.stops [ inl ends ↦ inl ends | inr all ↦ inr (omega (arith, all)) ];
          })
      | inr none ↦ subst P (sym (walk-false number n place bytes none.0))
          (record { joined = refl; few = omega arith; stops = inl none.1 })
    ]

-- and every such walk is what the function finds
pub walk_is : (number : ℕ → List ℕ → ℕ) (n place : ℕ) (bytes : List ℕ) (records : List PcapRecord)
    (rest : List ℕ)
    → Walks number n place bytes records rest → walk number n place bytes ≡ (records, rest)
walk_is number zero place bytes [] rest w = walk-zero number place bytes
    ∙ ap (λ l. ([], l)) w.joined
walk_is number zero place bytes (r ∷ rs) rest w = absurd (omega (arith, w.few))
walk_is number (suc n) place bytes [] rest w =
    elim w.stops [
      | inl ends ↦ elim (front_cases number bytes) [
        | inl whole ↦ absurd (ends (take 16 bytes) (take (front_len number bytes) (drop 16 bytes))
            (drop (front_len number bytes) (drop 16 bytes))
            (sym w.joined ∙ split_front bytes (front_len number bytes)) whole.1)
        | inr none ↦ walk-false number n place bytes none.0 ∙ ap (λ l. ([], l)) w.joined
      ]
      | inr all ↦ absurd (omega (arith, all))
    ]
walk_is number (suc n) place bytes (r ∷ rs) rest w =
    let (header, frame, more, is, one, joined) = w.joined in
    let p = pieces_are number bytes header frame more is one.whole in
    let len_is : front_len number bytes ≡ r.len =
    sym (one.length_told ∙ ap (frame_len number) (sym p.0)) in
    let size : length frame ≡ r.len = p.2 ∙ len_is in
    let more_is : drop r.len (drop 16 bytes) ≡ more = ap (drop r.len) p.1
    ∙ drop_at frame more r.len size in
    let record_same : record_of number place (take 16 bytes) ≡ r = ap (record_of number place) p.0
    ∙ record_is number place header frame r one in
    let after = walk_is number n (place + (16 + r.len)) more rs rest (record {
      joined = joined;
      few = omega (arith, w.few);
      stops = elim w.stops [ inl ends ↦ inl ends | inr all ↦ inr (omega (arith, all)) ];
    }) in
    let next : walk number n (place + (16 + front_len number bytes)) (drop (front_len number bytes)
    (drop 16 bytes)) ≡ (rs, rest) =
    ap (λ k. walk number n (place + (16 + k)) (drop k (drop 16 bytes))) len_is
    ∙ ap (walk number n (place + (16 + r.len))) more_is ∙ after in
    elim (front_cases number bytes) [
      | inl whole ↦ walk-true number n place bytes whole.0
          ∙ ap (λ w. (record_of number place (take 16 bytes) ∷ w.0, w.1)) next
          ∙ ap (λ x. (x ∷ rs, rest)) record_same
      | inr none ↦ absurd (none.1 header frame more is one.whole)
    ]
