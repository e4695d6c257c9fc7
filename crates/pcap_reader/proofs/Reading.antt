-- A file as a function of its bytes, with which each capture and each fault agrees.
use Rattle.std.proofs.Common.{◌≡◌, ◌≢◌, ◌⊎◌, inl, inr, ℕ, ◌%◌, ◌^◌, Bool, true, false, cond, eqb}
use Rattle.std.proofs.Common.{List, drop, Option, Some, None, Ok, Err, MatchResult, refl, sym, ap}
use Rattle.std.proofs.Common.{subst, ◌∙◌, arith}
use Rattle.std.proofs.lemmas.Bool.Decides.{eqb_tells, nat_tests}
use Rattle.std.proofs.lemmas.Slice.Eq.{bytes_eq-Decides}
use Rattle.std.specs.Str.{bytes_eq}
use Rattle.pcap_reader.specs.declared.fault.CaptureFault.{CaptureFault}
use Rattle.pcap_reader.specs.declared.fault.CaptureFault.TheVariants as fault
use Rattle.pcap_reader.specs.Numbers.{bytes_of, magic_of}
use Rattle.pcap_reader.specs.Captures.{IsVersion, link_of, IsEthernet, HasRecords}
use Rattle.pcap_reader.specs.Faults.{HeaderHasFault, PartsHaveFault}
use Rattle.pcap_reader.proofs.Bodies.{Answer, records_answer, records_fault_agrees, Says}
use Rattle.pcap_reader.proofs.Bodies.{records_answer_says}

-- the answer behind the magic number
bad_version : (ℕ → List ℕ → ℕ) → List ℕ → Answer
bad_version number header =
    Err (fault.BadVersion (number 2 (drop 4 header)) (number 2 (drop 6 header)))

pub parts_answer : (ℕ → List ℕ → ℕ) → List ℕ → List ℕ → Answer
parts_answer number header body =
    cond (eqb (number 2 (drop 4 header)) 2)
    (cond (eqb (number 2 (drop 6 header)) 4)
    (cond (eqb (link_of number header % 2 ^ 16) 1) (records_answer number body)
    (Err (fault.BadLink (link_of number header))))
    (bad_version number header))
    (bad_version number header)

pub parts-ethernet : (number : ℕ → List ℕ → ℕ) (header body : List ℕ) → IsEthernet number header
    → parts_answer number header body ≡ records_answer number body
unfolding parts_answer
parts-ethernet number header body is =
    let a : eqb (number 2 (drop 4 header)) 2 ≡ true = grind (arith, nat_tests, is.version.0) in
    let b : eqb (number 2 (drop 6 header)) 4 ≡ true = grind (arith, nat_tests, is.version.1) in
    let d : eqb (link_of number header % 2 ^ 16) 1 ≡ true = grind (arith, nat_tests, is.link) in
    rw (a, b, d) refl

parts-link : (number : ℕ → List ℕ → ℕ) (header body : List ℕ) → IsVersion number header 2 4
    → (link_of number header % 2 ^ 16 ≡ 1 → ⊥)
    → parts_answer number header body ≡ Err (fault.BadLink (link_of number header))
unfolding parts_answer
parts-link number header body version bad =
    let a : eqb (number 2 (drop 4 header)) 2 ≡ true = grind (arith, nat_tests, version.0) in
    let b : eqb (number 2 (drop 6 header)) 4 ≡ true = grind (arith, nat_tests, version.1) in
    elim (eqb_tells (link_of number header % 2 ^ 16) 1) [
      | inl d ↦ absurd (bad d.1)
      | inr d ↦ rw (a, b, d.0) refl
    ]

parts-version : (number : ℕ → List ℕ → ℕ) (header body : List ℕ) → (IsVersion number header 2 4 → ⊥)
    → parts_answer number header body ≡ Err (fault.BadVersion (number 2 (drop 4 header))
    (number 2 (drop 6 header)))
unfolding parts_answer bad_version
parts-version number header body bad =
    elim (eqb_tells (number 2 (drop 4 header)) 2) [
      | inl a ↦ elim (eqb_tells (number 2 (drop 6 header)) 4) [
        | inl b ↦ absurd (bad (sym a.1, sym b.1))
        | inr b ↦ rw (a.0, b.0) refl
      ]
      | inr a ↦ rw a.0 refl
    ]

header_fault_agrees : (number : ℕ → List ℕ → ℕ) (header body : List ℕ) (f : CaptureFault)
    → HeaderHasFault number header f → parts_answer number header body ≡ Err f
header_fault_agrees number header body (fault.ShortHeader len) h = absurd h
header_fault_agrees number header body (fault.BadMagic magic) h = absurd h
header_fault_agrees number header body (fault.BadVersion major minor) h =
    parts-version number header body h.1
    ∙ ap (λ n. Err (fault.BadVersion n (number 2 (drop 6 header)))) (sym h.0.0)
    ∙ ap (λ n. Err (fault.BadVersion major n)) (sym h.0.1)
header_fault_agrees number header body (fault.BadLink link) h =
    let bad : link_of number header % 2 ^ 16 ≡ 1 → ⊥ =
    λ one. h.2 (ap (λ n. n % 2 ^ 16) h.1 ∙ one) in
    parts-link number header body h.0 bad ∙ ap (λ n. Err (fault.BadLink n)) (sym h.1)
header_fault_agrees number header body (fault.RecordTooLong at len) h = absurd h
header_fault_agrees number header body fault.TooManyPackets h = absurd h
header_fault_agrees number header body fault.OutOfMemory h = absurd h

pub parts_fault_agrees : (number : ℕ → List ℕ → ℕ) (header body : List ℕ) (f : CaptureFault)
    → PartsHaveFault number header body f → parts_answer number header body ≡ Err f
parts_fault_agrees number header body f h = elim h [
  | inl early ↦ header_fault_agrees number header body f early
  | inr late ↦ parts-ethernet number header body late.0 ∙ records_fault_agrees number body f late.1
]

-- what an answer says of the bytes behind the magic number
abbrev pub SaysParts : (ℕ → List ℕ → ℕ) → List ℕ → List ℕ → Answer → Type 0
SaysParts number header body answer =
    MatchResult answer (λ found. IsEthernet number header × HasRecords number body found.0 found.1)
    (λ f. PartsHaveFault number header body f)

says_behind : (number : ℕ → List ℕ → ℕ) (header body : List ℕ) (answer : Answer)
    → IsEthernet number header → Says number body answer → SaysParts number header body answer
says_behind number header body (Ok found) is says = (is, says)
says_behind number header body (Err f) is says = inr (is, says)

pub parts_answer_says : (number : ℕ → List ℕ → ℕ) (header body : List ℕ)
    → SaysParts number header body (parts_answer number header body)
parts_answer_says number header body =
    let P : Answer → Type 0 = SaysParts number header body in
    let wrong : (IsVersion number header 2 4 → ⊥) → P (parts_answer number header body) = λ bad.
    subst P (sym (parts-version number header body bad)) (inl ((refl, refl), bad)) in
    elim (eqb_tells (number 2 (drop 4 header)) 2) [
      | inl a ↦ elim (eqb_tells (number 2 (drop 6 header)) 4) [
        | inl b ↦
            let version : IsVersion number header 2 4 = (sym a.1, sym b.1) in
            elim (eqb_tells (link_of number header % 2 ^ 16) 1) [
              | inl d ↦
                  let is : IsEthernet number header = record { version = version; link = d.1 } in
                  subst P (sym (parts-ethernet number header body is))
                  (says_behind number header body (records_answer number body) is
                  (records_answer_says number body))
              | inr d ↦ subst P (sym (parts-link number header body version d.1))
                  (inl (version, refl, d.1))
            ]
        | inr b ↦ wrong (λ version. b.1 (sym version.1))
      ]
      | inr a ↦ wrong (λ version. a.1 (sym version.0))
    ]

-- the byte order and the unit of time that four bytes tell
pub magic_in : List ℕ → Option (Bool × Bool)
magic_in four =
    cond (bytes_eq four (bytes_of false (magic_of false))) (Some (false, false))
    (cond (bytes_eq four (bytes_of false (magic_of true))) (Some (false, true))
    (cond (bytes_eq four (bytes_of true (magic_of false))) (Some (true, false))
    (cond (bytes_eq four (bytes_of true (magic_of true))) (Some (true, true)) None)))

pub magic_agrees : (four : List ℕ) (big nano : Bool) → four ≡ bytes_of big (magic_of nano)
    → magic_in four ≡ Some (big, nano)
unfolding magic_in
magic_agrees four false false h = ap magic_in h
magic_agrees four false true h = ap magic_in h
magic_agrees four true false h = ap magic_in h
magic_agrees four true true h = ap magic_in h

abbrev pub MagicSays : List ℕ → Option (Bool × Bool) → Type 0
MagicSays four None = (big nano : Bool) → four ≡ bytes_of big (magic_of nano) → ⊥
MagicSays four (Some m) = four ≡ bytes_of m.0 (magic_of m.1)

same_bytes : (xs ys : List ℕ) → ((bytes_eq xs ys ≡ true) × (xs ≡ ys)) ⊎ ((bytes_eq xs ys ≡ false)
    × (xs ≢ ys))
same_bytes xs ys = tells (bytes_eq xs ys) refl
  where
    tells : (b : Bool) → bytes_eq xs ys ≡ b → ((bytes_eq xs ys ≡ true) × (xs ≡ ys))
        ⊎ ((bytes_eq xs ys ≡ false) × (xs ≢ ys))
    tells true h = inl (h, (bytes_eq-Decides xs ys).0 h)
    tells false h = inr (h, λ same. let other = (bytes_eq-Decides xs ys).1 same in cc)

pub magic_in_says : (four : List ℕ) → MagicSays four (magic_in four)
unfolding magic_in
magic_in_says four =
    elim (same_bytes four (bytes_of false (magic_of false))) [
      | inl a ↦ rw a.0 a.1
      | inr a ↦ elim (same_bytes four (bytes_of false (magic_of true))) [
        | inl b ↦ rw (a.0, b.0) b.1
        | inr b ↦ elim (same_bytes four (bytes_of true (magic_of false))) [
          | inl d ↦ rw (a.0, b.0, d.0) d.1
          | inr d ↦ elim (same_bytes four (bytes_of true (magic_of true))) [
            | inl e ↦ rw (a.0, b.0, d.0, e.0) e.1
            | inr e ↦ rw (a.0, b.0, d.0, e.0) (none a.1 b.1 d.1 e.1)
          ]
        ]
      ]
    ]
  where
    none : four ≢ bytes_of false (magic_of false) → four ≢ bytes_of false (magic_of true)
        → four ≢ bytes_of true (magic_of false)
        → four ≢ bytes_of true (magic_of true) → (big nano : Bool) → four ≡ bytes_of big
        (magic_of nano) → ⊥
    none a b d e false false h = a h
    none a b d e false true h = b h
    none a b d e true false h = d h
    none a b d e true true h = e h
