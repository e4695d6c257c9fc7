-- Bytes have one capture or one fault, and never two of these.
use Rattle.std.proofs.Common.{◌≡◌, ◌≢◌, ◌≤◌, ◌<◌, ◌⊎◌, inl, inr, ℕ, Bool, true, false, cond, leb}
use Rattle.std.proofs.Common.{List, length, take, drop, Option, Some, None, Result, Ok, Err}
use Rattle.std.proofs.Common.{MatchResult, IfOk, IfErr, IsErrAnd, refl, sym, ap, subst, ◌∙◌, arith}
use Rattle.std.proofs.lemmas.Bool.Decides.{leb_tells, nat_tests}
use Rattle.byteorder.specs.Endian.{little_number}
use Rattle.pcap_reader.specs.declared.capture.Capture.{Capture}
use Rattle.pcap_reader.specs.declared.fault.CaptureFault.{CaptureFault}
use Rattle.pcap_reader.specs.declared.fault.CaptureFault.TheVariants as fault
use Rattle.pcap_reader.specs.Numbers.{number_of, HasMagic}
use Rattle.pcap_reader.specs.Captures.{Opens, HasCapture}
use Rattle.pcap_reader.specs.Faults.{OpensWithFault, HasFault}
use Rattle.pcap_reader.specs.Laws.{HasOneCapture, HasOneFault, HasNotBoth, HasOneOfBoth}
use Rattle.pcap_reader.proofs.Openings.{opens_here, opens_are, later_fault}
use Rattle.pcap_reader.proofs.Bodies.{Answer, records_agree}
use Rattle.pcap_reader.proofs.Reading.{parts_answer, parts_fault_agrees, parts-ethernet, SaysParts}
use Rattle.pcap_reader.proofs.Reading.{parts_answer_says, magic_in, magic_agrees, MagicSays}
use Rattle.pcap_reader.proofs.Reading.{magic_in_says}

abbrev pub Verdict : Type 0
Verdict = Result Capture CaptureFault

-- the verdict of an answer in a byte order and a unit of time
abbrev verdict_of : Bool → Bool → Answer → Verdict
verdict_of big nano (Ok found) =
    Ok (record { big = big; nano = nano; records = found.0; cut = found.1 })
verdict_of big nano (Err f) = Err f

abbrev magic_verdict : List ℕ → Option (Bool × Bool) → Verdict
magic_verdict bytes None = Err (fault.BadMagic (little_number 4 bytes))
magic_verdict bytes (Some m) = verdict_of m.0 m.1 (parts_answer (number_of m.0) (take 24 bytes)
    (drop 24 bytes))

pub verdict : List ℕ → Verdict
verdict bytes = cond (leb 24 (length bytes)) (magic_verdict bytes (magic_in (take 4 bytes)))
    (Err (fault.ShortHeader (length bytes)))

verdict-short : (bytes : List ℕ) → length bytes < 24 → verdict bytes ≡ Err
    (fault.ShortHeader (length bytes))
unfolding verdict
verdict-short bytes short = let a : leb 24 (length bytes) ≡ false = grind (arith, nat_tests) in
    rw a refl

verdict-whole : (bytes : List ℕ) → 24 ≤ length bytes → verdict bytes ≡ magic_verdict bytes
    (magic_in (take 4 bytes))
unfolding verdict
verdict-whole bytes whole = let a : leb 24 (length bytes) ≡ true = grind (arith, nat_tests) in
    rw a refl

-- the verdict where the magic number is known
verdict-opens : (bytes : List ℕ) (big nano : Bool) (header body : List ℕ)
    → Opens bytes big nano header body
    → verdict bytes ≡ verdict_of big nano (parts_answer (number_of big) header body)
verdict-opens bytes big nano header body opens =
    let at = opens_are bytes big nano header body opens in
    verdict-whole bytes at.2 ∙ ap (magic_verdict bytes) (magic_agrees (take 4 bytes) big nano at.3)
    ∙ ap (λ l. verdict_of big nano (parts_answer (number_of big) l (drop 24 bytes))) (sym at.0)
    ∙ ap (λ l. verdict_of big nano (parts_answer (number_of big) header l)) (sym at.1)

-- a capture that bytes have is the verdict
pub capture_agrees : (bytes : List ℕ) (capture : Capture) → HasCapture bytes capture
    → verdict bytes ≡ Ok capture
capture_agrees bytes capture h =
    let number = number_of capture.big in
    verdict-opens bytes capture.big capture.nano h.header h.body h.opens
    ∙ ap (verdict_of capture.big capture.nano)
    (parts-ethernet number h.header h.body h.ethernet
    ∙ records_agree number h.body capture.records capture.cut h.records)

-- and so is a fault
opened_fault_agrees : (bytes : List ℕ) (f : CaptureFault) → OpensWithFault bytes f
    → verdict bytes ≡ Err f
opened_fault_agrees bytes f h =
    verdict-opens bytes h.big h.nano h.header h.body h.opens
    ∙ ap (verdict_of h.big h.nano) (parts_fault_agrees (number_of h.big) h.header h.body f h.parts)

no_magic_agrees : (bytes : List ℕ) (m : Option (Bool × Bool)) → MagicSays (take 4 bytes) m
    → ((big nano : Bool) → HasMagic big nano bytes → ⊥) → magic_verdict bytes m ≡ Err
    (fault.BadMagic (little_number 4 bytes))
no_magic_agrees bytes None says none = refl
no_magic_agrees bytes (Some m) says none = absurd (none m.0 m.1 says)

pub fault_agrees : (bytes : List ℕ) (f : CaptureFault) → HasFault bytes f → verdict bytes ≡ Err f
fault_agrees bytes (fault.ShortHeader len) h =
    verdict-short bytes (omega (arith, h.0, h.1)) ∙ ap (λ n. Err (fault.ShortHeader n)) (sym h.0)
fault_agrees bytes (fault.BadMagic magic) h =
    verdict-whole bytes h.0 ∙ no_magic_agrees bytes (magic_in (take 4 bytes))
    (magic_in_says (take 4 bytes)) h.2
    ∙ ap (λ n. Err (fault.BadMagic n)) (sym h.1)
fault_agrees bytes (fault.BadVersion major minor) h =
    opened_fault_agrees bytes (fault.BadVersion major minor) h
fault_agrees bytes (fault.BadLink link) h = opened_fault_agrees bytes (fault.BadLink link) h
fault_agrees bytes (fault.RecordTooLong at len) h =
    opened_fault_agrees bytes (fault.RecordTooLong at len) h
fault_agrees bytes fault.TooManyPackets h = opened_fault_agrees bytes fault.TooManyPackets h
fault_agrees bytes fault.OutOfMemory h = absurd h

-- the verdict tells the truth
abbrev SaysFile : List ℕ → Verdict → Type 0
SaysFile bytes verdict = MatchResult verdict (HasCapture bytes) (HasFault bytes)

opened_says : (bytes : List ℕ) (big nano : Bool) (answer : Answer) → Opens bytes big nano
    (take 24 bytes) (drop 24 bytes)
    → SaysParts (number_of big) (take 24 bytes) (drop 24 bytes) answer → SaysFile bytes
    (verdict_of big nano answer)
opened_says bytes big nano (Ok found) opens says =
    record {
      header = take 24 bytes;
      body = drop 24 bytes;
      opens = opens;
      ethernet = says.0;
      records = says.1;
    }
opened_says bytes big nano (Err f) opens says =
    later_fault bytes f (record {
      big = big;
      nano = nano;
      header = take 24 bytes;
      body = drop 24 bytes;
      opens = opens;
      parts = says;
    })

magic_says : (bytes : List ℕ) (m : Option (Bool × Bool)) → 24 ≤ length bytes → MagicSays
    (take 4 bytes) m → SaysFile bytes (magic_verdict bytes m)
magic_says bytes None whole says = (whole, refl, says)
magic_says bytes (Some m) whole says =
    opened_says bytes m.0 m.1 (parts_answer (number_of m.0) (take 24 bytes) (drop 24 bytes))
    (opens_here bytes m.0 m.1 whole says)
    (parts_answer_says (number_of m.0) (take 24 bytes) (drop 24 bytes))

verdict_says : (bytes : List ℕ) → SaysFile bytes (verdict bytes)
verdict_says bytes = elim (leb_tells 24 (length bytes)) [
  | inl a ↦ subst (SaysFile bytes) (sym (verdict-whole bytes a.1))
      (magic_says bytes (magic_in (take 4 bytes)) a.1 (magic_in_says (take 4 bytes)))
  | inr a ↦ subst (SaysFile bytes) (sym (verdict-short bytes a.1)) (refl, a.1)
]

-- the four laws
pub one_capture : HasOneCapture
one_capture bytes a b of_a of_b =
    let e = sym (capture_agrees bytes a of_a) ∙ capture_agrees bytes b of_b in cc

pub one_fault : HasOneFault
one_fault bytes a b of_a of_b =
    let e = sym (fault_agrees bytes a of_a) ∙ fault_agrees bytes b of_b in cc

pub not_both : HasNotBoth
not_both bytes capture f of_capture of_fault = let e = sym (capture_agrees bytes capture of_capture)
    ∙ fault_agrees bytes f of_fault in cc

either_says : (bytes : List ℕ) (v : Verdict) → SaysFile bytes v
    → ((capture : Capture) × HasCapture bytes capture) ⊎ ((f : CaptureFault) × HasFault bytes f)
either_says bytes (Ok capture) says = inl (capture, says)
either_says bytes (Err f) says = inr (f, says)

pub one_of_both : HasOneOfBoth
one_of_both bytes = either_says bytes (verdict bytes) (verdict_says bytes)

-- want of memory, or a fault of the bytes
memory_or : (f : CaptureFault) → (f ≡ fault.OutOfMemory) ⊎ (f ≢ fault.OutOfMemory)
memory_or (fault.ShortHeader len) = inr (λ e. cc)
memory_or (fault.BadMagic magic) = inr (λ e. cc)
memory_or (fault.BadVersion major minor) = inr (λ e. cc)
memory_or (fault.BadLink link) = inr (λ e. cc)
memory_or (fault.RecordTooLong at len) = inr (λ e. cc)
memory_or fault.TooManyPackets = inr (λ e. cc)
memory_or fault.OutOfMemory = inl refl

-- a true result is that of the bytes, or want of memory
pub complete_result : (bytes : List ℕ) (result : Verdict) → IfOk result (HasCapture bytes)
    → IfErr result (λ e. e ≢ fault.OutOfMemory → HasFault bytes e)
    → (capture : Capture) → HasCapture bytes capture → MatchResult result (λ c. c ≡ capture)
    (λ e. e ≡ fault.OutOfMemory)
complete_result bytes (Ok found) is_found is_fault capture h =
    one_capture bytes found capture is_found h
complete_result bytes (Err e) is_found is_fault capture h = elim (memory_or e) [
  | inl memory ↦ memory
  | inr numbered ↦ absurd (not_both bytes capture e h (is_fault numbered))
]

pub exact_result : (bytes : List ℕ) (result : Verdict) → IfOk result (HasCapture bytes)
    → IfErr result (λ e. e ≢ fault.OutOfMemory → HasFault bytes e)
    → (f : CaptureFault) → HasFault bytes f → IsErrAnd result (λ e. (e ≡ f)
    ⊎ (e ≡ fault.OutOfMemory))
exact_result bytes (Ok found) is_found is_fault f h = absurd (not_both bytes found f is_found h)
exact_result bytes (Err e) is_found is_fault f h = elim (memory_or e) [
  | inl memory ↦ inr memory
  | inr numbered ↦ inl (one_fault bytes e f (is_fault numbered) h)
]
