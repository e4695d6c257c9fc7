-- The writes of each application, among those of all; and lists that are made one by one.
use Rattle.std.proofs.Common.{ℕ, zero, suc, ◌+◌, ◌<◌, ◌≡◌, ◌≢◌, List, [], ◌∷◌, ◌++◌, Some, None}
use Rattle.std.proofs.Common.{map, length, refl, ap, ◌∙◌, sym, arith, ap₂, append-nil}
use Rattle.std.specs.List.{cons_option, filter_map, range_with_len}
use Rattle.std.proofs.lemmas.Bool.{eq-eqb, ne_eqb}
use Rattle.std.proofs.lemmas.List.{ext_get_or}
use Rattle.std.proofs.lemmas.List.FromFn.{get_or-map-range_with_len, length-map-range_with_len}
use Rattle.history.specs.Lists.{list_at}
use Rattle.history.specs.declared.sock_write.SockWrite.{SockWrite}
use Rattle.history.proofs.SamePlaces.{same_lists}
use Rattle.report_reader.specs.Parts.{writes_from}
use Rattle.report_reader.specs.declared.sums.AppWrite.{AppWrite}
use Rattle.report_history.specs.Shown.{own_write}
use Rattle.report_history.proofs.PickedLemmas.{picked-append}

-- the same lists, each made from one
pub map-lists : {A B : Type 0} (f : List A → List B) (xs : List (List A)) (ys : List (List B))
    → length xs ≡ length ys → ((a : ℕ) → f (list_at xs a) ≡ list_at ys a) → map f xs ≡ ys
map-lists f [] [] e h = refl
map-lists f [] (y ∷ ys) e h = absurd (omega (arith, e))
map-lists f (x ∷ xs) [] e h = absurd (omega (arith, e))
map-lists f (x ∷ xs) (y ∷ ys) e h =
    ap₂ (λ z zs. z ∷ zs) (h 0) (map-lists f xs ys (omega (arith, e)) (λ a. h (suc a)))

-- the writes of one application
abbrev of_app : ℕ → List SockWrite → List AppWrite
of_app app = map (λ w. record { app = app; write = w })

own-writes : (app other : ℕ) (writes : List SockWrite) → app ≡ other
    → filter_map (own_write app) (of_app other writes) ≡ writes
own-writes app other [] e = refl
own-writes app other (w ∷ ws) e =
    let here : own_write app (record { app = other; write = w }) ≡ Some w =
    rw (eq-eqb other app (sym e)) refl in
    ap₂ cons_option here (own-writes app other ws e)

other-writes : (app other : ℕ) (writes : List SockWrite) → app ≢ other
    → filter_map (own_write app) (of_app other writes) ≡ []
other-writes app other [] ne = refl
other-writes app other (w ∷ ws) ne =
    let here : own_write app (record { app = other; write = w }) ≡ None =
    rw (ne_eqb other app (λ e. ne (sym e))) refl in
    ap₂ cons_option here (other-writes app other ws ne)

later-writes : (app from : ℕ) (lists : List (List SockWrite)) → app < from
    → filter_map (own_write app) (writes_from from lists) ≡ []
later-writes app from [] l = refl
later-writes app from (ws ∷ rest) l =
    picked-append (own_write app) (of_app from ws) (writes_from (suc from) rest)
    ∙ ap₂ (λ xs ys. xs ++ ys) (other-writes app from ws (λ e. omega (arith, l, e)))
    (later-writes app (suc from) rest (omega (arith, l)))

app-writes : (from a : ℕ) (lists : List (List SockWrite))
    → filter_map (own_write (from + a)) (writes_from from lists) ≡ list_at lists a
app-writes from a [] = refl
app-writes from zero (ws ∷ rest) =
    picked-append (own_write (from + 0)) (of_app from ws) (writes_from (suc from) rest)
    ∙ ap₂ (λ xs ys. xs ++ ys) (own-writes (from + 0) from ws (omega arith))
    (later-writes (from + 0) (suc from) rest (omega arith))
    ∙ append-nil ws
app-writes from (suc a) (ws ∷ rest) =
    let n : from + suc a ≡ suc from + a = omega arith in
    picked-append (own_write (from + suc a)) (of_app from ws) (writes_from (suc from) rest)
    ∙ ap₂ (λ xs ys. xs ++ ys) (other-writes (from + suc a) from ws (λ e. omega (arith, e)))
    (ap (λ k. filter_map (own_write k) (writes_from (suc from) rest)) n
    ∙ app-writes (suc from) a rest)

-- the writes of all applications are found again
pub writes-shown : (apps : ℕ) (lists : List (List SockWrite)) → length lists ≡ apps
    → map (λ a. filter_map (own_write a) (writes_from 0 lists)) (range_with_len 0 apps) ≡ lists
writes-shown apps lists e =
    let f = λ (a : ℕ). filter_map (own_write a) (writes_from 0 lists) in
    let long : length (map f (range_with_len 0 apps)) ≡ apps = length-map-range_with_len f 0 apps in
    same_lists [] (map f (range_with_len 0 apps)) lists (long ∙ sym e) (λ a l.
    let k : a < apps = omega (arith, l, long) in
    let n : a ≡ 0 + a = omega arith in
    get_or-map-range_with_len f 0 apps a a [] k (omega arith)
    ∙ ap (λ b. filter_map (own_write b) (writes_from 0 lists)) n ∙ app-writes 0 a lists)

-- the lists are the writes of each application, if each is that of its own
pub lists-are : (writes : List AppWrite) (apps : ℕ) (built : List (List SockWrite))
    → length built ≡ apps
    → ((a : ℕ) → a < apps → list_at built a ≡ filter_map (own_write a) writes)
    → built ≡ map (λ a. filter_map (own_write a) writes) (range_with_len 0 apps)
lists-are writes apps built long each =
    ext_get_or [] built (map own (range_with_len 0 apps))
    (long ∙ sym (length-map-range_with_len own 0 apps)) (λ a l.
    let n : a < apps = omega (arith, l, long) in
    each a n ∙ sym (get_or-map-range_with_len own 0 apps a a [] n (omega arith)))
  where
    own : ℕ → List SockWrite
    own a = filter_map (own_write a) writes
