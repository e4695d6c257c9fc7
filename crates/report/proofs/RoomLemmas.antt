-- A text behind the first bytes of a room.
use Rattle.std.proofs.Common.{ℕ, ◌≤◌, ◌≡◌, ◌+◌, ◌-◌, List, ◌++◌, ◌∙◌, ap, arith, drop}
use Rattle.std.proofs.Common.{append_assoc, drop_at, length, length-take-le, sym, take}
use Rattle.std.proofs.Common.{take_all, take_at, take-add, take-append-drop, take-take}
use Rattle.std.proofs.lemmas.List.{length-drop}

-- the first bytes, up to some of a text behind them
take-behind : (at n : ℕ) (a text : List ℕ) → at ≤ length a → take (at + n) (take at a ++ text)
    ≡ take at a ++ take n text
take-behind at n a text within =
    let front = length-take-le at a within in
    take-add at n (take at a ++ text)
    ∙ (λ k. take_at (take at a) text at front k ++ take n (drop_at (take at a) text at front k))

-- a text laid down by its first and its last bytes, these over those
pub ends-placed : (a b c text : List ℕ) (at half : ℕ) → at ≤ length a → half ≤ length text
    → length text ≤ half + half → take (at + half) b ≡ take at a ++ take half text
    → take (at + (length text - half) + half) c
    ≡ take (at + (length text - half)) b ++ take half (drop (length text - half) text)
    → take (at + length text) c ≡ take at a ++ text
ends-placed a b c text at half within fits covers first second =
    let last = length text - half in
    let all : at + last + half ≡ at + length text = omega arith in
    let front : take (at + last) b ≡ take at a ++ take last text =
    sym (take-take (at + last) (at + half) b (omega arith)) ∙ ap (take (at + last)) first
    ∙ take-behind at last a (take half text) within
    ∙ ap (λ r. take at a ++ r) (take-take last half text (omega arith)) in
    let rest = take_all half (drop last text) (omega (arith, length-drop last text)) in
    rw all at second
    ∙ ap (λ r. r ++ take half (drop last text)) front
    ∙ append_assoc (take at a) (take last text) (take half (drop last text))
    ∙ ap (λ r. take at a ++ (take last text ++ r)) rest
    ∙ ap (λ r. take at a ++ r) (take-append-drop last text)
