-- What a loop over the pieces of a list has written so far, and what is left.
use Rattle.std.proofs.Common.{◌≡◌, ℕ, ◌+◌, ◌-◌, List, ◌++◌, length, take, drop, sym, ap, subst, ◌∙◌}
use Rattle.std.proofs.Common.{take-append-drop, drop-drop}
use Rattle.std.specs.declared.option.Option.{Option}
use Rattle.std.specs.Io.KnownBytes.{Appends, Keeps, append_known}
use Rattle.std.proofs.KnownBytes.{Appends-trans, Keeps-trans, append_known-moved}
use Rattle.std.proofs.lemmas.List.{take_rest}
use Rattle.std.proofs.Math.Seq.{take-add}

-- the first `done` bytes are written, and then `count` more of the rest
pub Appends-next : (a b c : Option (List ℕ)) (bytes : List ℕ) (done count : ℕ) → Appends a b
    (take done bytes)
    → Appends b c (take count (take (length bytes - done) (drop done bytes))) → Appends a c
    (take (done + count) bytes)
Appends-next a b c bytes done count first next =
    let joined : take done bytes ++ take count (take (length bytes - done) (drop done bytes)) ≡ take
    (done + count) bytes =
    rw (take_rest bytes done) (sym (take-add done count bytes)) in
    subst (Appends a c) joined (Appends-trans a b c _ _ first next)

-- of the bytes behind the first `done`, which were kept so far, `count` more are passed on
pub Keeps-next : (a b c : Option (List ℕ)) (bytes seen : List ℕ) (done count : ℕ)
    → seen ≡ bytes → Keeps a (append_known b (drop done bytes))
    → Appends b c (take count (take (length seen - done) (drop done seen)))
    → Keeps a (append_known c (drop (done + count) bytes))
Keeps-next a b c bytes seen done count same kept more =
    let rest = drop done bytes in
    let piece : take count (take (length seen - done) (drop done seen)) ≡ take count rest =
    ap (take count) (take_rest seen done ∙ ap (drop done) same) in
    let split : rest ≡ take count rest ++ drop (done + count) bytes =
    sym (take-append-drop count rest)
    ∙ ap (λ l. take count rest ++ l) (drop-drop count done bytes) in
    Keeps-trans a (append_known b rest) (append_known c (drop (done + count) bytes)) kept
    (append_known-moved b c (take count rest) (drop (done + count) bytes) rest
    (subst (Appends b c) piece more) split)
