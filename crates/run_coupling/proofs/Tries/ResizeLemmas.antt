-- A resize lies between two openings exactly where the words of a queue's flow count differ.
use Rattle.std.proofs.Common.{◌||◌, not, eq-eqb, ne_eqb}
use Rattle.std.specs.List.{list_any}
use Rattle.std.proofs.lemmas.List.Folds.{list_any-append}
use Rattle.steer_base.specs.declared.command.Command.TheVariants as give
use Rattle.dev_flow_table.specs.Walks.{since_resize}
use Rattle.steer_model.specs.Good.Inputs.{is_flows, is_resize, since_at}
use Rattle.run_coupling.proofs.Names.{◌≡◌, ◌≢◌, ℕ, zero, suc, ◌+◌, ◌*◌, ◌^◌, ◌<◌, ◌==◌, ◌&&◌, Bool}
use Rattle.run_coupling.proofs.Names.{true, false, List, [], ◌∷◌, ◌++◌, take, drop, if◌then◌else◌}
use Rattle.run_coupling.proofs.Names.{sym, refl, ap, ◌∙◌, arith, slice_index, get_or-set_other}
use Rattle.run_coupling.proofs.Names.{Command, rounded_up, Commanded, is_done, Settings, changed}
use Rattle.run_coupling.proofs.Names.{Try, settings_by}
use Rattle.run_coupling.proofs.Tries.TryLemmas.{given_by}

-- how often these tries have resized the flow table of a queue
abbrev pub resizes_by : ℕ → List Try → ℕ
resizes_by p [] = 0
resizes_by p (t ∷ ts) = if is_resize p t.given then suc (resizes_by p ts) else resizes_by p ts

pub resizes-append : (p : ℕ) (xs ys : List Try)
    → resizes_by p (xs ++ ys) ≡ resizes_by p xs + resizes_by p ys
resizes-append p [] ys = omega arith
resizes-append p (t ∷ ts) ys = by_head (resizes-append p ts ys) (is_resize p t.given)
  where
    by_head : resizes_by p (ts ++ ys) ≡ resizes_by p ts + resizes_by p ys → (b : Bool)
        → (if b then suc (resizes_by p (ts ++ ys)) else resizes_by p (ts ++ ys))
        ≡ (if b then suc (resizes_by p ts) else resizes_by p ts) + resizes_by p ys
    by_head before true = omega arith
    by_head before false = before

-- ---- no resize leaves the count

counts-changed : (p : ℕ) (s : Settings) (c : Command) → is_flows p c ≡ false
    → slice_index (changed s c).counts p ≡ slice_index s.counts p
counts-changed p s (give.Flows r n) other =
    get_or-set_other s.counts r p (rounded_up n) 0 (apart p r other)
  where
    apart : (p r : ℕ) → (p == r) ≡ false → p ≢ r
    apart p r differ e = is-not (sym (eq-eqb p r e) ∙ differ)
      where
        is-not : true ≡ false → ⊥
        is-not eq =
            let n : suc zero ≡ zero = ap (λ (b : Bool). if b then suc zero else zero) eq in
            absurd (omega (arith, n))
counts-changed p s c other = refl

and-false : (b : Bool) → (b && false) ≡ false
and-false true = refl
and-false false = refl

-- one try more, that does not resize
stay-more : (p : ℕ) (now : Settings) (t : Try) (n was : ℕ) → slice_index now.counts p ≡ was
    → (if is_resize p t.given then suc n else n) ≡ 0 → (d : Bool) → is_done t.given.answer ≡ d
    → slice_index (if d then changed now t.given.command else now).counts p ≡ was
stay-more p now t n was before none false is = before
stay-more p now t n was before none true is = by_flows (is_flows p t.given.command) refl
  where
    by_flows : (b : Bool) → is_flows p t.given.command ≡ b
        → slice_index (changed now t.given.command).counts p ≡ was
    by_flows true flows =
        let both : is_resize p t.given ≡ true = (λ i. flows i && is i) in
        let more : (if is_resize p t.given then suc n else n) ≡ suc n =
        ap (λ b. if b then suc n else n) both in
        absurd (omega arith)
    by_flows false flows = counts-changed p now t.given.command flows ∙ before

fewer : (b : Bool) (n : ℕ) → (if b then suc n else n) ≡ 0 → n ≡ 0
fewer true n e = absurd (omega arith)
fewer false n e = e

pub counts-stay : (p : ℕ) (s : Settings) (more ts : List Try) → resizes_by p more ≡ 0
    → slice_index (settings_by s (more ++ ts)).counts p ≡ slice_index (settings_by s ts).counts p
counts-stay p s [] ts none = refl
counts-stay p s (t ∷ more) ts none =
    stay-more p (settings_by s (more ++ ts)) t (resizes_by p more)
    (slice_index (settings_by s ts).counts p)
    (counts-stay p s more ts (fewer (is_resize p t.given) (resizes_by p more) none)) none
    (is_done t.given.answer) refl

-- ---- the test among commands

abbrev positive : ℕ → Bool
positive zero = false
positive (suc n) = true

any-resizes : (p : ℕ) (ts : List Try) → list_any (is_resize p) (given_by ts)
    ≡ positive (resizes_by p ts)
any-resizes p [] = refl
any-resizes p (t ∷ ts) =
    list_any-append (is_resize p) (given_by ts) (t.given ∷ [])
    ∙ (ap (λ b. b || (is_resize p t.given || false)) (any-resizes p ts)
    ∙ by_head (resizes_by p ts) (is_resize p t.given))
  where
    by_head : (n : ℕ) (b : Bool) → (positive n || (b || false)) ≡ positive (if b then suc n else n)
    by_head zero true = refl
    by_head zero false = refl
    by_head (suc n) true = refl
    by_head (suc n) false = refl

-- the flow word of a queue after these tries
abbrev pub flow_word : Settings → ℕ → List Try → ℕ
flow_word s p ts = slice_index (settings_by s ts).counts p + 2 ^ 32 * resizes_by p ts

pub resized_between : (s : Settings) (p : ℕ) (more ts : List Try)
    → slice_index (settings_by s (more ++ ts)).counts p < 2 ^ 32
    → slice_index (settings_by s ts).counts p < 2 ^ 32 → list_any (is_resize p) (given_by more)
    ≡ not (flow_word s p ts == flow_word s p (more ++ ts))
resized_between s p more ts small small_old =
    any-resizes p more ∙ by_number (resizes_by p more) refl
  where
    by_number : (n : ℕ) → resizes_by p more ≡ n
        → positive n ≡ not (flow_word s p ts == flow_word s p (more ++ ts))
    by_number zero none =
        let sum = resizes-append p more ts in
        let same = counts-stay p s more ts none in
        let e : flow_word s p ts ≡ flow_word s p (more ++ ts) = omega arith in
        sym (ap not (eq-eqb (flow_word s p ts) (flow_word s p (more ++ ts)) e))
    by_number (suc n) some =
        let sum = resizes-append p more ts in
        let ne : flow_word s p ts ≢ flow_word s p (more ++ ts) = λ e. absurd (omega arith) in
        sym (ap not (ne_eqb (flow_word s p ts) (flow_word s p (more ++ ts)) ne))

-- ---- the last resize before a choice

pub since_same : (size : ℕ → ℕ) (cs : List Commanded) (p : ℕ) (at : ℕ → ℕ) (k : ℕ)
    → ((j : ℕ) → j < k
    → list_any (is_resize p) (drop (at j) (take (at (suc j)) cs)) ≡ not (size j == size (suc j)))
    → since_resize size k ≡ since_at cs p at k
unfolding since_resize
since_same size cs p at zero between = refl
since_same size cs p at (suc k) between =
    let before = since_same size cs p at k (λ j less. between j (omega arith)) in
    by_equal (size k == size (suc k))
    ∙ ((λ i. if not (size k == size (suc k)) then suc k else before i)
    ∙ (λ i. if sym (between k (omega arith)) i then suc k else since_at cs p at k))
  where
    by_equal : (b : Bool) → (if b then since_resize size k else suc k)
        ≡ (if not b then suc k else since_resize size k)
    by_equal true = refl
    by_equal false = refl
