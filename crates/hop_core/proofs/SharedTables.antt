-- What each producer sees of flow tables with a shared one before them.
use Rattle.std.proofs.Common.{ℕ, suc, zero, ◌+◌, ◌<◌, ◌≡◌, ◌≢◌, true, false, cond, List, []}
use Rattle.std.proofs.Common.{◌∷◌, Option, Some, None, length, refl, ap, ◌∙◌, sym, arith, inl, inr}
use Rattle.std.proofs.Common.{get_or, set, map, replicate, ltb}
use Rattle.std.proofs.lemmas.Bool.{and_cases, and_parts, eqb-true, eq-eqb, ltb-true}
use Rattle.std.proofs.lemmas.Bool.{ltb-false, ne_eqb}
use Rattle.std.proofs.Math.ListN.{get_or-eq_default}
use Rattle.steer_base.specs.declared.choice.Entry.{Entry}
use Rattle.dev_flow_table.specs.Tables.{Table, cleared}
use Rattle.hop_core.specs.SharedTable.{entry_of, free, is_for, is_of, is_owner, may_own, overlaid}
use Rattle.hop_core.specs.SharedTable.{owned, rows_from, takes}
use Rattle.hop_core.specs.declared.shared.Owned.{Owned}

-- an entry that a producer may take belongs to no other
owner-apart : (w q : ℕ) (owner : Option ℕ) → may_own w owner ≡ true → q ≢ w
    → is_owner q owner ≡ false
owner-apart w q None may ne = refl
owner-apart w q (Some owner) may ne =
    let e : owner ≡ w = eqb-true owner w may in
    ne_eqb owner q (λ s. ne (sym s ∙ e))

-- an entry that a producer may not take is not its own
owner-not : (p : ℕ) (owner : Option ℕ) → may_own p owner ≡ false → is_owner p owner ≡ false
owner-not p None may = refl
owner-not p (Some owner) may = may

-- what the shared table does not take is not its producer's
takes-not : (ss : List Owned) (p k : ℕ) → takes ss p k ≡ false
    → is_of p (get_or ss k free) ≡ false
takes-not ss p k e =
    elim (and_cases (ltb k (length ss)) (is_for p (get_or ss k free)) e) [
      | inl over ↦ ap (is_of p) (get_or-eq_default ss free (ltb-false k (length ss) over))
      | inr other ↦ owner-not p (get_or ss k free).owner other
    ]

pub length-overlaid : (ss : List Owned) (p : ℕ) (rs : List Entry)
    → length (overlaid ss p rs) ≡ length rs
length-overlaid [] p rs = refl
length-overlaid (s ∷ ss) p [] = refl
length-overlaid (s ∷ ss) p (r ∷ rs) = ap suc (length-overlaid ss p rs)

-- the entry of a class is the shared one, if that is the producer's
pub overlaid-shared : (ss : List Owned) (p : ℕ) (rs : List Entry) (k : ℕ) (d : Entry)
    → k < length rs → is_of p (get_or ss k free) ≡ true
    → get_or (overlaid ss p rs) k d ≡ entry_of (get_or ss k free)
overlaid-shared [] p rs k d within y = absurd (cc)
overlaid-shared (s ∷ ss) p [] k d within y = absurd (omega arith)
overlaid-shared (s ∷ ss) p (r ∷ rs) zero d within y = rw y refl
overlaid-shared (s ∷ ss) p (r ∷ rs) (suc k) d within y =
    overlaid-shared ss p rs k d (omega arith) y

-- otherwise it is that of the producer's own table
pub overlaid-own : (ss : List Owned) (p : ℕ) (rs : List Entry) (k : ℕ) (d : Entry)
    → is_of p (get_or ss k free) ≡ false
    → get_or (overlaid ss p rs) k d ≡ get_or rs k d
overlaid-own [] p rs k d n = refl
overlaid-own (s ∷ ss) p [] k d n = refl
overlaid-own (s ∷ ss) p (r ∷ rs) zero d n = rw n refl
overlaid-own (s ∷ ss) p (r ∷ rs) (suc k) d n = overlaid-own ss p rs k d n

-- a shared entry is written
overlaid-put : (ss : List Owned) (p : ℕ) (rs : List Entry) (k : ℕ) (e : Entry) → k < length ss
    → overlaid (set ss k (owned p e)) p rs ≡ set (overlaid ss p rs) k e
overlaid-put [] p rs k e within = absurd (omega arith)
overlaid-put (s ∷ ss) p [] zero e within = refl
overlaid-put (s ∷ ss) p [] (suc k) e within = refl
overlaid-put (s ∷ ss) p (r ∷ rs) zero e within = rw (eq-eqb p p refl) refl
overlaid-put (s ∷ ss) p (r ∷ rs) (suc k) e within =
    ap (λ es. cond (is_of p s) (entry_of s) r ∷ es) (overlaid-put ss p rs k e (omega arith))

-- no other producer sees it
overlaid-apart : (ss : List Owned) (w q : ℕ) (rs : List Entry) (k : ℕ) (e : Entry)
    → is_for w (get_or ss k free) ≡ true → q ≢ w
    → overlaid (set ss k (owned w e)) q rs ≡ overlaid ss q rs
overlaid-apart [] w q rs k e may ne = refl
overlaid-apart (s ∷ ss) w q [] zero e may ne = refl
overlaid-apart (s ∷ ss) w q [] (suc k) e may ne = refl
overlaid-apart (s ∷ ss) w q (r ∷ rs) zero e may ne =
    rw (ne_eqb w q (λ s. ne (sym s)), owner-apart w q s.owner may ne) refl
overlaid-apart (s ∷ ss) w q (r ∷ rs) (suc k) e may ne =
    ap (λ es. cond (is_of q s) (entry_of s) r ∷ es) (overlaid-apart ss w q rs k e may ne)

-- an entry of the producer's own table is written
overlaid-set : (ss : List Owned) (p : ℕ) (rs : List Entry) (k : ℕ) (e : Entry)
    → is_of p (get_or ss k free) ≡ false
    → overlaid ss p (set rs k e) ≡ set (overlaid ss p rs) k e
overlaid-set [] p rs k e n = refl
overlaid-set (s ∷ ss) p [] zero e n = refl
overlaid-set (s ∷ ss) p [] (suc k) e n = refl
overlaid-set (s ∷ ss) p (r ∷ rs) zero e n = rw n refl
overlaid-set (s ∷ ss) p (r ∷ rs) (suc k) e n =
    ap (λ es. cond (is_of p s) (entry_of s) r ∷ es) (overlaid-set ss p rs k e n)

overlaid-free : (n p : ℕ) (rs : List Entry) → overlaid (replicate n free) p rs ≡ rs
overlaid-free zero p rs = refl
overlaid-free (suc n) p [] = refl
overlaid-free (suc n) p (r ∷ rs) = ap (λ es. r ∷ es) (overlaid-free n p rs)

-- ---- the tables of all producers

pub length-rows_from : (ss : List Owned) (b : ℕ) (ts : List Table)
    → length (rows_from ss b ts) ≡ length ts
length-rows_from ss b [] = refl
length-rows_from ss b (t ∷ ts) = ap suc (length-rows_from ss (suc b) ts)

pub rows_from-at : (ss : List Owned) (b w : ℕ) (ts : List Table) (p : ℕ) (d : Table)
    → p < length ts → w ≡ b + p
    → get_or (rows_from ss b ts) p [] ≡ overlaid ss w (get_or ts p d).rows
rows_from-at ss b w [] p d within is = absurd (omega arith)
rows_from-at ss b w (t ∷ ts) zero d within is =
    ap (λ q. overlaid ss q t.rows) (let e : w ≡ b = omega arith in sym e)
rows_from-at ss b w (t ∷ ts) (suc p) d within is =
    rows_from-at ss (suc b) w ts p d (omega arith) (omega arith)

-- a producer's own table is another
pub rows_from-set : (ss : List Owned) (b w : ℕ) (ts : List Table) (p : ℕ) (t : Table) → w ≡ b + p
    → rows_from ss b (set ts p t) ≡ set (rows_from ss b ts) p (overlaid ss w t.rows)
rows_from-set ss b w [] p new is = refl
rows_from-set ss b w (t ∷ ts) zero new is =
    ap (λ q. overlaid ss q new.rows ∷ rows_from ss (suc b) ts)
    (let e : w ≡ b = omega arith in sym e)
rows_from-set ss b w (t ∷ ts) (suc p) new is =
    ap (λ es. overlaid ss b t.rows ∷ es) (rows_from-set ss (suc b) w ts p new (omega arith))

rows_from-apart : (ss : List Owned) (w b : ℕ) (ts : List Table) (k : ℕ) (e : Entry)
    → is_for w (get_or ss k free) ≡ true → w < b
    → rows_from (set ss k (owned w e)) b ts ≡ rows_from ss b ts
rows_from-apart ss w b [] k e may below = refl
rows_from-apart ss w b (t ∷ ts) k e may below =
    ap (λ es. es ∷ rows_from (set ss k (owned w e)) (suc b) ts)
    (overlaid-apart ss w b t.rows k e may (λ same. absurd (omega arith)))
    ∙ ap (λ es. overlaid ss b t.rows ∷ es) (rows_from-apart ss w (suc b) ts k e may (omega arith))

-- a shared entry is written
rows_from-put : (ss : List Owned) (b w : ℕ) (ts : List Table) (p : ℕ) (d : Table) (k : ℕ)
    (e : Entry) → p < length ts → w ≡ b + p → k < length ss
    → is_for w (get_or ss k free) ≡ true
    → rows_from (set ss k (owned w e)) b ts
    ≡ set (rows_from ss b ts) p (set (overlaid ss w (get_or ts p d).rows) k e)
rows_from-put ss b w [] p d k e within is inside may = absurd (omega arith)
rows_from-put ss b w (t ∷ ts) zero d k e within is inside may =
    let same : w ≡ b = omega arith in
    ap (λ q. overlaid (set ss k (owned w e)) q t.rows
    ∷ rows_from (set ss k (owned w e)) (suc b) ts) (sym same)
    ∙ ap (λ es. es ∷ rows_from (set ss k (owned w e)) (suc b) ts)
    (overlaid-put ss w t.rows k e inside)
    ∙ ap (λ es. set (overlaid ss w t.rows) k e ∷ es)
    (rows_from-apart ss w (suc b) ts k e may (omega arith))
rows_from-put ss b w (t ∷ ts) (suc p) d k e within is inside may =
    ap (λ es. es ∷ rows_from (set ss k (owned w e)) (suc b) ts)
    (overlaid-apart ss w b t.rows k e may (λ same. absurd (omega arith)))
    ∙ ap (λ es. overlaid ss b t.rows ∷ es)
    (rows_from-put ss (suc b) w ts p d k e (omega arith) (omega arith) inside may)

-- no entry of the shared table belongs to anybody
pub rows_from-free : (n b : ℕ) (ts : List Table)
    → rows_from (replicate n free) b ts ≡ map (λ t. t.rows) ts
rows_from-free n b [] = refl
rows_from-free n b (t ∷ ts) =
    ap (λ es. es ∷ rows_from (replicate n free) (suc b) ts) (overlaid-free n b t.rows)
    ∙ ap (λ es. t.rows ∷ es) (rows_from-free n (suc b) ts)

-- ---- an entry of a producer is written

-- the shared table takes it
pub rows-taken : (ss : List Owned) (ts : List Table) (p k : ℕ) (e : Entry)
    → p < length ts → takes ss p k ≡ true
    → rows_from (set ss k (owned p e)) 0 ts
    ≡ set (rows_from ss 0 ts) p (set (get_or (rows_from ss 0 ts) p []) k e)
rows-taken ss ts p k e within y =
    let d : Table = cleared 0 0 false in
    let parts = and_parts (ltb k (length ss)) (is_for p (get_or ss k free)) y in
    rows_from-put ss 0 p ts p d k e within (omega arith) (ltb-true k (length ss) parts.0) parts.1
    ∙ ap (λ es. set (rows_from ss 0 ts) p (set es k e))
    (sym (rows_from-at ss 0 p ts p d within (omega arith)))

-- the producer's own table has it
pub rows-kept : (ss : List Owned) (ts : List Table) (p : ℕ) (old new : Table) (k : ℕ) (e : Entry)
    → p < length ts → old ≡ get_or ts p old → new.rows ≡ set old.rows k e → takes ss p k ≡ false
    → rows_from ss 0 (set ts p new)
    ≡ set (rows_from ss 0 ts) p (set (get_or (rows_from ss 0 ts) p []) k e)
rows-kept ss ts p old new k e within at is n =
    rows_from-set ss 0 p ts p new (omega arith)
    ∙ ap (λ es. set (rows_from ss 0 ts) p (overlaid ss p es)) is
    ∙ ap (set (rows_from ss 0 ts) p) (overlaid-set ss p old.rows k e (takes-not ss p k n))
    ∙ ap (λ t. set (rows_from ss 0 ts) p (set (overlaid ss p t.rows) k e)) at
    ∙ ap (λ es. set (rows_from ss 0 ts) p (set es k e))
    (sym (rows_from-at ss 0 p ts p old within (omega arith)))

-- ---- what a producer sees

-- a producer has a table if it has entries
pub has_table : (ss : List Owned) (ts : List Table) (p : ℕ) → p < length (rows_from ss 0 ts)
    → p < length ts
has_table ss ts p within = rw length-rows_from at within

-- as many entries as its own table has
pub rows-long : (ss : List Owned) (ts : List Table) (p : ℕ) (t : Table) → p < length ts
    → t ≡ get_or ts p t
    → length (get_or (rows_from ss 0 ts) p []) ≡ length t.rows
rows-long ss ts p t within at =
    ap length (rows_from-at ss 0 p ts p t within (omega arith))
    ∙ length-overlaid ss p (get_or ts p t).rows ∙ ap (λ x. length x.rows) (sym at)

pub entry-shared : (ss : List Owned) (ts : List Table) (p k : ℕ) (d : Entry) → p < length ts
    → k < length (get_or (rows_from ss 0 ts) p []) → is_of p (get_or ss k free) ≡ true
    → get_or (get_or (rows_from ss 0 ts) p []) k d ≡ entry_of (get_or ss k free)
entry-shared ss ts p k d within inside y =
    let t : Table = get_or ts p (cleared 0 0 false) in
    let is = rows_from-at ss 0 p ts p (cleared 0 0 false) within (omega arith) in
    let long : k < length t.rows = rw (is, length-overlaid) at inside in
    ap (λ es. get_or es k d) is ∙ overlaid-shared ss p t.rows k d long y

pub entry-own : (ss : List Owned) (ts : List Table) (p : ℕ) (t : Table) (k : ℕ) (d : Entry)
    → p < length ts → t ≡ get_or ts p t → is_of p (get_or ss k free) ≡ false
    → get_or (get_or (rows_from ss 0 ts) p []) k d ≡ get_or t.rows k d
entry-own ss ts p t k d within at n =
    ap (λ es. get_or es k d) (rows_from-at ss 0 p ts p t within (omega arith))
    ∙ overlaid-own ss p (get_or ts p t).rows k d n
    ∙ ap (λ x. get_or x.rows k d) (sym at)

-- without a shared table a producer's own table is another
pub rows-cleared : (ss : List Owned) (ts : List Table) (p : ℕ) (new : Table) (rows : List Entry)
    → ss ≡ [] → new.rows ≡ rows
    → rows_from ss 0 (set ts p new) ≡ set (rows_from ss 0 ts) p rows
rows-cleared ss ts p new rows none is =
    rows_from-set ss 0 p ts p new (omega arith)
    ∙ ap (λ shared. set (rows_from ss 0 ts) p (overlaid shared p new.rows)) none
    ∙ ap (set (rows_from ss 0 ts) p) is
