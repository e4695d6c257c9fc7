-- The lines of packets, one after another.
use Rattle.std.proofs.Common.{◌≡◌, ◌<◌, ℕ, ◌+◌, List, [], ◌∷◌, ◌++◌, length, take}
use Rattle.std.proofs.Common.{get_or, append_assoc, append-nil, refl, arith, sym, ap, ◌∙◌}
use Rattle.std.proofs.Common.{◌≤◌, zero, suc, inl, inr, Option}
use Rattle.std.proofs.lemmas.Bool.{cases_lt}
use Rattle.std.proofs.lemmas.List.{take_more, length-take-le, take_all}
use Rattle.pcap_reader.specs.Captures.{frame_of}
use Rattle.pcap_reader.specs.declared.capture.Capture.{Capture}
use Rattle.pcap_reader.specs.declared.record.PcapRecord.{PcapRecord}
use Rattle.steer_top.specs.HashText.{all_lines, count_line, numbered_lines, numbered_text}
use Rattle.steer_top.specs.HashText.{packet_lines}

module _ (line : ℕ → List ℕ) where
  -- the lines so far, and the line of the next packet
  pub numbered_lines-next : (n : ℕ)
      → numbered_lines line (n + 1) ≡ numbered_lines line n ++ line n
  unfolding numbered_lines
  numbered_lines-next n = let e : n + 1 ≡ suc n = omega arith in rw e refl

  -- the lines so far, the line of the next packet, and those behind it
  pub numbered_lines-split : (n count : ℕ) → n < count → (rest : List ℕ)
      × (numbered_lines line count ≡ (numbered_lines line n ++ line n) ++ rest)
  unfolding numbered_lines
  numbered_lines-split n zero within = absurd (omega (arith, within))
  numbered_lines-split n (suc count) within =
      elim (cases_lt n count) [
        | inl before ↦ (
            let (rest, split) = numbered_lines-split n count before in (
              rest ++ line count,
              ap (λ t. t ++ line count) split
                  ∙ append_assoc (numbered_lines line n ++ line n) rest (line count),
            ))
        | inr over ↦ (
            let here : count ≡ n = omega (arith, within, over) in
            ([], rw here (sym (append-nil (numbered_lines line n ++ line n)))))
      ]

module _ (line : ℕ → List ℕ → List ℕ) (bytes : List ℕ) where
  pub packet_lines-append : (number : ℕ) (rs more : List PcapRecord)
      → packet_lines line bytes number (rs ++ more)
      ≡ packet_lines line bytes number rs ++ packet_lines line bytes (number + length rs) more
  unfolding packet_lines
  packet_lines-append number [] more = let e : number + 0 ≡ number = omega arith in rw e refl
  packet_lines-append number (r ∷ rs) more =
      let e : number + length (r ∷ rs) ≡ number + 1 + length rs = omega arith in
      rw (e, packet_lines-append (number + 1) rs more)
      (sym (append_assoc (line number (frame_of bytes r))
      (packet_lines line bytes (number + 1) rs)
      (packet_lines line bytes (number + 1 + length rs) more)))

  -- the lines so far, and the line of the next packet
  pub packet_lines-next : (n : ℕ) (rs : List PcapRecord) (d : PcapRecord) → n < length rs
      → packet_lines line bytes 0 (take (n + 1) rs)
      ≡ packet_lines line bytes 0 (take n rs) ++ line n (frame_of bytes (get_or rs n d))
  unfolding packet_lines
  packet_lines-next n rs d h =
      let len : 0 + length (take n rs) ≡ n =
      omega (arith, length-take-le n rs (omega (arith, h))) in
      rw (take_more rs n d h, packet_lines-append 0 (take n rs) (get_or rs n d ∷ []), len)
      (ap (λ t. packet_lines line bytes 0 (take n rs) ++ t) (append-nil _))

  -- lines of numbers are the lines of these records where each is that of the record's frame
  pub numbered_lines-are : (own : ℕ → List ℕ) (rs : List PcapRecord) (d : PcapRecord)
      → ((n : ℕ) → n < length rs → own n ≡ line n (frame_of bytes (get_or rs n d)))
      → (count : ℕ) → count ≤ length rs
      → numbered_lines own count ≡ packet_lines line bytes 0 (take count rs)
  unfolding numbered_lines packet_lines
  numbered_lines-are own rs d same zero within = refl
  numbered_lines-are own rs d same (suc count) within =
      let h : count < length rs = omega (arith, within) in
      let before : count ≤ length rs = omega (arith, within) in
      let next : count + 1 ≡ suc count = omega arith in
      ap (λ t. t ++ own count) (numbered_lines-are own rs d same count before)
      ∙ ap (λ t. packet_lines line bytes 0 (take count rs) ++ t) (same count h)
      ∙ sym (packet_lines-next count rs d h)
      ∙ ap (λ k. packet_lines line bytes 0 (take k rs)) next

  -- a text of numbers is that of a capture
  pub numbered_text-is : (own : ℕ → List ℕ) (capture : Capture) (count : ℕ) (cut : Option ℕ)
      (d : PcapRecord) → ((n : ℕ) → n < length capture.records
      → own n ≡ line n (frame_of bytes (get_or capture.records n d)))
      → count ≡ length capture.records → cut ≡ capture.cut
      → numbered_text own count cut ≡ all_lines line bytes capture
  unfolding numbered_text all_lines
  numbered_text-is own capture count cut d same counts cuts =
      let rs = capture.records in
      let lines : numbered_lines own (length rs) ≡ packet_lines line bytes 0 rs =
      numbered_lines-are own rs d same (length rs) (omega arith)
      ∙ ap (packet_lines line bytes 0) (take_all (length rs) rs (omega arith)) in
      ap (λ n. numbered_lines own n ++ count_line n cut) counts
      ∙ ap (λ t. t ++ count_line (length rs) cut) lines
      ∙ ap (λ k. packet_lines line bytes 0 rs ++ count_line (length rs) k) cuts
