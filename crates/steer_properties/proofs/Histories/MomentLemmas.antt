-- How many commands each choice was made after, as choices and commands become more.
use Rattle.std.proofs.Common.{ℕ, zero, suc, ◌+◌, ◌≤◌, ◌<◌, ◌≡◌, ◌||◌, Bool, true, false, cond, List}
use Rattle.std.proofs.Common.{[], ◌∷◌, ◌++◌, length, take, drop, refl, ap, ◌∙◌, sym, arith}
use Rattle.std.specs.Prelude.{nat_lt}
use Rattle.std.specs.List.{list_any}
use Rattle.std.proofs.Math.ListN.{drop_of_length-le}
use Rattle.std.proofs.Math.Seq.{take-length}
use Rattle.std.proofs.lemmas.Bool.{le-ltb, lt-ltb}
use Rattle.std.proofs.lemmas.List.{drop-append-le, length-take-le, length_push, take_all}
use Rattle.std.proofs.lemmas.List.Folds.{list_any-append}
use Rattle.history.specs.declared.commanded.Commanded.{Commanded}
use Rattle.steer_model.specs.Steps.Commands.{is_done}
use Rattle.steer_model.specs.Good.Inputs.{is_resize, settings_after, since_at}
use Rattle.steer_model.specs.State.Settings.{Settings, changed}
use Rattle.steer_properties.proofs.Histories.ExtendLemmas.{Extends, extends-push, extends-take}

-- ---- settings

pub settings-longer : (s : Settings) (cs ds : List Commanded) (n : ℕ) → Extends cs ds
    → n ≤ length cs → settings_after s (take n ds) ≡ settings_after s (take n cs)
settings-longer s cs ds n e le = ap (settings_after s) (extends-take cs ds n e le)

pub settings-all : (s : Settings) (cs : List Commanded)
    → settings_after s (take (length cs) cs) ≡ settings_after s cs
settings-all s cs = ap (settings_after s) (take-length cs)

pub settings-pushed : (cs : List Commanded) (s : Settings) (c : Commanded)
    → settings_after s (cs ++ c ∷ [])
    ≡ cond (is_done c.answer) (changed (settings_after s cs) c.command) (settings_after s cs)
settings-pushed [] s c = refl
settings-pushed (d ∷ ds) s c =
    settings-pushed ds (cond (is_done d.answer) (changed s d.command) s) c

-- ---- the numbers of commands, with those of a new choice

-- as before for the first n choices, and then this number
abbrev pub then_at : ℕ → ℕ → (ℕ → ℕ) → ℕ → ℕ
then_at n now at k = cond (nat_lt k n) (at k) now

pub then-before : (n now : ℕ) (at : ℕ → ℕ) (k : ℕ) → k < n → then_at n now at k ≡ at k
then-before n now at k lt = rw (lt-ltb k n lt) refl

pub then-from : (n now : ℕ) (at : ℕ → ℕ) (k : ℕ) → n ≤ k → then_at n now at k ≡ now
then-from n now at k le = rw (le-ltb k n le) refl

-- ---- the first choice since the last resize

-- it depends on the numbers up to the choice alone
pub since-agree : (cs : List Commanded) (q : ℕ) (at bt : ℕ → ℕ) (k : ℕ)
    → ((j : ℕ) → j ≤ k → at j ≡ bt j) → since_at cs q at k ≡ since_at cs q bt k
since-agree cs q at bt zero same = refl
since-agree cs q at bt (suc k) same =
    let now : at (suc k) ≡ bt (suc k) = same (suc k) (omega arith) in
    let last : at k ≡ bt k = same k (omega arith) in
    let rest = since-agree cs q at bt k (λ j le. same j (omega (arith, le))) in
    λ i. cond (list_any (is_resize q) (drop (last i) (take (now i) cs))) (suc k) (rest i)

-- and on the commands that they count
pub since-longer : (cs ds : List Commanded) (q : ℕ) (at : ℕ → ℕ) (k : ℕ) → Extends cs ds
    → ((j : ℕ) → j ≤ k → at j ≤ length cs) → since_at ds q at k ≡ since_at cs q at k
since-longer cs ds q at zero e within = refl
since-longer cs ds q at (suc k) e within =
    let front = extends-take cs ds (at (suc k)) e (within (suc k) (omega arith)) in
    let rest = since-longer cs ds q at k e (λ j le. within j (omega (arith, le))) in
    λ i. cond (list_any (is_resize q) (drop (at k) (front i))) (suc k) (rest i)

-- two choices after the same commands have no resize between them
pub since-chosen : (cs : List Commanded) (q n now : ℕ) (at : ℕ → ℕ) → now ≤ length cs
    → since_at cs q (then_at (suc n) now (then_at n now at)) (suc n)
    ≡ since_at cs q (then_at n now at) n
since-chosen cs q n now at within =
    let a : ℕ → ℕ = then_at n now at in
    let b : ℕ → ℕ = then_at (suc n) now a in
    let last : b n ≡ now =
    then-before (suc n) now a n (omega arith) ∙ then-from n now at n (omega arith) in
    let next : b (suc n) ≡ now = then-from (suc n) now a (suc n) (omega arith) in
    let long : length (take now cs) ≡ now = length-take-le now cs within in
    let none : drop now (take now cs) ≡ [] =
    drop_of_length-le (take now cs) (omega (arith, long)) in
    let rest : since_at cs q b n ≡ since_at cs q a n =
    since-agree cs q b a n (λ j le. then-before (suc n) now a j (omega (arith, le))) in
    (λ i. cond (list_any (is_resize q) (drop (last i) (take (next i) cs))) (suc n) (rest i))
    ∙ ap (λ l. cond (list_any (is_resize q) l) (suc n) (since_at cs q a n)) none

-- a test of the commands since the last choice, with one command more
later : (b r : Bool) (n s : ℕ) → cond (b || (r || false)) n s ≡ cond r n (cond b n s)
later true true n s = refl
later true false n s = refl
later false true n s = refl
later false false n s = refl

same-either : (b : Bool) (n : ℕ) → n ≡ cond b n n
same-either true n = refl
same-either false n = refl

-- after a command more the recent choices begin here where it was a resize, else where they did
pub since-given : (cs : List Commanded) (x : Commanded) (q n : ℕ) (at : ℕ → ℕ)
    → ((j : ℕ) → j < n → at j ≤ length cs)
    → since_at (cs ++ x ∷ []) q (then_at n (length cs + 1) at) n
    ≡ cond (is_resize q x) n (since_at cs q (then_at n (length cs) at) n)
since-given cs x q zero at within = same-either (is_resize q x) 0
since-given cs x q (suc j) at within =
    let len : ℕ = length cs in
    let ds : List Commanded = cs ++ x ∷ [] in
    let a : ℕ → ℕ = then_at (suc j) len at in
    let b : ℕ → ℕ = then_at (suc j) (len + 1) at in
    let here : at j ≤ len = within j (omega arith) in
    let a-last : a j ≡ at j = then-before (suc j) len at j (omega arith) in
    let b-last : b j ≡ at j = then-before (suc j) (len + 1) at j (omega arith) in
    let a-next : a (suc j) ≡ len = then-from (suc j) len at (suc j) (omega arith) in
    let b-next : b (suc j) ≡ len + 1 = then-from (suc j) (len + 1) at (suc j) (omega arith) in
    let long = length_push cs x in
    let all : take (len + 1) ds ≡ ds = take_all (len + 1) ds (omega (arith, long)) in
    let tail : drop (at j) ds ≡ drop (at j) cs ++ x ∷ [] = drop-append-le (at j) cs (x ∷ []) here in
    let old : take len cs ≡ cs = take-length cs in
    let rest : since_at ds q b j ≡ since_at cs q a j =
    since-agree ds q b at j (λ k le. then-before (suc j) (len + 1) at k (omega (arith, le)))
    ∙ since-longer cs ds q at j (extends-push cs x) (λ k le. within k (omega (arith, le)))
    ∙ since-agree cs q at a j
    (λ k le. sym (then-before (suc j) len at k (omega (arith, le)))) in
    let any : list_any (is_resize q) (drop (at j) ds)
    ≡ (list_any (is_resize q) (drop (at j) cs) || (is_resize q x || false)) =
    ap (list_any (is_resize q)) tail
    ∙ list_any-append (is_resize q) (drop (at j) cs) (x ∷ []) in
    let before : since_at cs q a (suc j)
    ≡ cond (list_any (is_resize q) (drop (at j) cs)) (suc j) (since_at cs q a j) =
    (λ i. cond (list_any (is_resize q) (drop (a-last i) (take (a-next i) cs))) (suc j)
    (since_at cs q a j))
    ∙ ap (λ l. cond (list_any (is_resize q) (drop (at j) l)) (suc j) (since_at cs q a j)) old in
    (λ i. cond (list_any (is_resize q) (drop (b-last i) (take (b-next i) ds))) (suc j) (rest i))
    ∙ ap (λ l. cond (list_any (is_resize q) (drop (at j) l)) (suc j) (since_at cs q a j)) all
    ∙ ap (λ t. cond t (suc j) (since_at cs q a j)) any
    ∙ later (list_any (is_resize q) (drop (at j) cs)) (is_resize q x) (suc j)
    (since_at cs q a j)
    ∙ ap (cond (is_resize q x) (suc j)) (sym before)
