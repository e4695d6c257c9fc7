-- The records behind a header as a function of the bytes, with which each answer about them agrees.
use Rattle.std.proofs.Common.{◌≡◌, ◌≤◌, ◌<◌, inl, inr, ℕ, true, false, cond, leb, eqb, List, []}
use Rattle.std.proofs.Common.{length, Option, Some, None, Result, Ok, Err, MatchResult, refl, sym}
use Rattle.std.proofs.Common.{ap, subst, ◌∙◌, arith}
use Rattle.std.proofs.lemmas.List.{nil_from_length}
use Rattle.std.proofs.lemmas.Bool.Decides.{leb_tells, eqb_tells, nat_tests}
use Rattle.pcap_reader.specs.declared.record.PcapRecord.{PcapRecord}
use Rattle.pcap_reader.specs.declared.fault.CaptureFault.{CaptureFault}
use Rattle.pcap_reader.specs.declared.fault.CaptureFault.TheVariants as fault
use Rattle.pcap_reader.specs.Captures.{BeginsNoRecord, HasRecords}
use Rattle.pcap_reader.specs.Faults.{RecordsHaveFault}
use Rattle.pcap_reader.proofs.Pieces.{short_begins_none, long_begins_none}
use Rattle.pcap_reader.proofs.Walk.{front_len, walk, Walks, walk_walks, walk_is}

-- records and a cut, or a fault
abbrev pub Answer : Type 0
Answer = Result (List PcapRecord × Option ℕ) CaptureFault

-- the answer where these are all the records that are found
answer_of : (ℕ → List ℕ → ℕ) → List PcapRecord → List ℕ → Answer
answer_of number records rest =
    cond (eqb (length rest) 0) (Ok (records, None))
    (cond (eqb (length records) 262144) (Err fault.TooManyPackets)
    (cond (leb 16 (length rest))
    (cond (leb 262145 (front_len number rest))
    (Err (fault.RecordTooLong (length records) (front_len number rest)))
    (Ok (records, Some (length rest))))
    (Ok (records, Some (length rest)))))

pub records_answer : (ℕ → List ℕ → ℕ) → List ℕ → Answer
records_answer number body =
    let found = walk number 262144 24 body in answer_of number found.0 found.1

answer_from : (number : ℕ → List ℕ → ℕ) (body : List ℕ) (records : List PcapRecord) (rest : List ℕ)
    → Walks number 262144 24 body records rest
    → records_answer number body ≡ answer_of number records rest
unfolding records_answer
answer_from number body records rest w = ap (λ found. answer_of number found.0 found.1)
    (walk_is number 262144 24 body records rest w)

-- the answer by what stands behind the records
answer-end : (number : ℕ → List ℕ → ℕ) (records : List PcapRecord) (rest : List ℕ) → rest ≡ []
    → answer_of number records rest ≡ Ok (records, None)
unfolding answer_of
answer-end number records rest e = rw e refl

answer-many : (number : ℕ → List ℕ → ℕ) (records : List PcapRecord) (rest : List ℕ)
    → 0 < length rest → length records ≡ 262144
    → answer_of number records rest ≡ Err fault.TooManyPackets
unfolding answer_of
answer-many number records rest some many =
    let a : eqb (length rest) 0 ≡ false = grind (arith, nat_tests) in
    let b : eqb (length records) 262144 ≡ true = grind (arith, nat_tests) in
    rw (a, b) refl

answer-long : (number : ℕ → List ℕ → ℕ) (records : List PcapRecord) (rest : List ℕ)
    → 16 ≤ length rest → length records < 262144
    → 262144 < front_len number rest → answer_of number records rest ≡ Err
    (fault.RecordTooLong (length records) (front_len number rest))
unfolding answer_of
answer-long number records rest whole few long =
    let a : eqb (length rest) 0 ≡ false = grind (arith, nat_tests) in
    let b : eqb (length records) 262144 ≡ false = grind (arith, nat_tests) in
    let d : leb 16 (length rest) ≡ true = grind (arith, nat_tests) in
    let e : leb 262145 (front_len number rest) ≡ true = grind (arith, nat_tests) in
    rw (a, b, d, e) refl

answer-cut : (number : ℕ → List ℕ → ℕ) (records : List PcapRecord) (rest : List ℕ) → 0 < length rest
    → length records < 262144
    → (16 ≤ length rest → front_len number rest ≤ 262144) → answer_of number records rest ≡ Ok
    (records, Some (length rest))
unfolding answer_of
answer-cut number records rest some few small =
    let a : eqb (length rest) 0 ≡ false = grind (arith, nat_tests) in
    let b : eqb (length records) 262144 ≡ false = grind (arith, nat_tests) in
    elim (leb_tells 16 (length rest)) [
      | inl d ↦ elim (leb_tells 262145 (front_len number rest)) [
        | inl e ↦ absurd (omega (arith, e.1, small d.1))
        | inr e ↦ rw (a, b, d.0, e.0) refl
      ]
      | inr d ↦ rw (a, b, d.0) refl
    ]

-- records that bytes have are the answer
pub records_agree : (number : ℕ → List ℕ → ℕ) (body : List ℕ) (records : List PcapRecord)
    (cut : Option ℕ) → HasRecords number body records cut
    → records_answer number body ≡ Ok (records, cut)
records_agree number body records None h =
    let none = short_begins_none number h.rest (omega (arith, ap length h.end)) in
    answer_from number body records h.rest (record {
      joined = h.joined;
      few = h.few;
      stops = inl none;
    }) ∙ answer-end number records h.rest h.end
records_agree number body records (Some cut) h =
    answer_from number body records h.rest (record {
      joined = h.joined;
      few = h.few;
      stops = inl h.end.0.no_record;
    })
    ∙ answer-cut number records h.rest h.end.0.some h.end.2 h.end.0.small
    ∙ ap (λ n. Ok (records, Some n)) (sym h.end.1)

-- and so is a fault
pub records_fault_agrees : (number : ℕ → List ℕ → ℕ) (body : List ℕ) (f : CaptureFault)
    → RecordsHaveFault number body f → records_answer number body ≡ Err f
records_fault_agrees number body (fault.ShortHeader len) h = absurd h
records_fault_agrees number body (fault.BadMagic magic) h = absurd h
records_fault_agrees number body (fault.BadVersion major minor) h = absurd h
records_fault_agrees number body (fault.BadLink link) h = absurd h
records_fault_agrees number body fault.OutOfMemory h = absurd h
records_fault_agrees number body (fault.RecordTooLong at len) (
  records,
  rest,
  joined,
  is,
  few,
  tells,
) =
    let long : 262144 < front_len number rest = omega (arith, tells.told, tells.long) in
    answer_from number body records rest (record {
      joined = joined;
      few = omega (arith, is, few);
      stops = inl (long_begins_none number rest long);
    })
    ∙ answer-long number records rest tells.whole (omega (arith, is, few)) long
    ∙ ap (λ n. Err (fault.RecordTooLong n (front_len number rest))) (sym is)
    ∙ ap (λ n. Err (fault.RecordTooLong at n)) (sym tells.told)
records_fault_agrees number body fault.TooManyPackets (records, rest, joined, many, some) =
    answer_from number body records rest (record {
      joined = joined;
      few = omega (arith, many);
      stops = inr many;
    }) ∙ answer-many number records rest some many

-- what an answer says of the bytes
abbrev pub Says : (ℕ → List ℕ → ℕ) → List ℕ → Answer → Type 0
Says number body answer = MatchResult answer (λ found. HasRecords number body found.0 found.1)
    (λ f. RecordsHaveFault number body f)

says_all : (number : ℕ → List ℕ → ℕ) (body : List ℕ) (records : List PcapRecord) (rest : List ℕ)
    → Walks number 262144 24 body records rest
    → Says number body (answer_of number records rest)
says_all number body records rest w =
    let P : Answer → Type 0 = Says number body in
    elim (eqb_tells (length rest) 0) [
      | inl a ↦
          let e = nil_from_length rest a.1 in
          subst P (sym (answer-end number records rest e)) (record {
            rest = rest;
            joined = w.joined;
            few = w.few;
            end = e;
          })
      | inr a ↦ elim (eqb_tells (length records) 262144) [
        | inl b ↦ subst P (sym (answer-many number records rest (omega (arith, a.1)) b.1))
            (records, rest, w.joined, b.1, omega (arith, a.1))
        | inr b ↦
            let few : length records < 262144 = omega (arith, b.1, w.few) in
            let some : 0 < length rest = omega (arith, a.1) in
            let none : BeginsNoRecord number rest = elim w.stops [
              | inl ends ↦ ends
              | inr all ↦ absurd (b.1 all)
            ] in
            let cut : (16 ≤ length rest → front_len number rest ≤ 262144)
            → P (answer_of number records rest) = λ small.
            subst P (sym (answer-cut number records rest some few small)) (record {
              rest = rest;
              joined = w.joined;
              few = w.few;
              end = (record { some = some; no_record = none; small = small }, refl, few);
            }) in
            elim (leb_tells 16 (length rest)) [
              | inl d ↦ elim (leb_tells 262145 (front_len number rest)) [
                | inl e ↦ subst P
                    (sym (answer-long number records rest d.1 few (omega (arith, e.1)))) (
                      records,
                      rest,
                      w.joined,
                      refl,
                      few,
                      record {
                        whole = d.1;
                        told = refl;
                        long = omega (arith, e.1);
                      },
                    )
                | inr e ↦ cut (λ _. omega (arith, e.1))
              ]
              | inr d ↦ cut (λ whole. absurd (omega (arith, d.1, whole)))
            ]
      ]
    ]

-- the function tells the truth, so all bytes have records or a fault of records
pub records_answer_says : (number : ℕ → List ℕ → ℕ) (body : List ℕ) → Says number body
    (records_answer number body)
unfolding records_answer
records_answer_says number body =
    let found = walk number 262144 24 body in
    says_all number body found.0 found.1 (walk_walks number 262144 24 body)
