-- The settings of a board at its n-th opening are those of the tries up to it.
use Rattle.std.proofs.Common.{append_assoc}
use Rattle.std.proofs.lemmas.List.{map-append}
use Rattle.std.proofs.lemmas.List.Elements.{filter_map-append}
use Rattle.std.proofs.Math.Seq.{take-append_seam, drop-append_seam}
use Rattle.hop_rule.specs.Boards.{gate_in}
use Rattle.hop_rule.specs.Gates.{openings}
use Rattle.hop_rule.specs.declared.step.GateStep.{GateStep}
use Rattle.run_coupling.specs.Coupling.Tries.{SetsByAnswer, openings_by, set_or_opening}
use Rattle.run_coupling.proofs.Names.{◌≡◌, ◌≢◌, ◌⊎◌, inl, inr, ℕ, suc, ◌+◌, ◌≤◌, ◌==◌, true, false}
use Rattle.run_coupling.proofs.Names.{List, [], ◌∷◌, ◌++◌, length, map, take, drop, if◌then◌else◌}
use Rattle.run_coupling.proofs.Names.{sym, refl, ap, ◌∙◌, arith, length-append, filter_map, dite}
use Rattle.run_coupling.proofs.Names.{ℕ_discrete, if_same, if_other, Command, Commanded, gate_steps}
use Rattle.run_coupling.proofs.Names.{opened, own_settings, with_setting, BoardSizes, BoardStep}
use Rattle.run_coupling.proofs.Names.{Opened, Set, SettingChange, is_done, settings_after, Settings}
use Rattle.run_coupling.proofs.Names.{changed, AllSetByAnswer, Try, oldest_first, sets_and_openings}
use Rattle.run_coupling.proofs.Names.{settings_by, steps_of_tries, tries_up_to, words_after}

-- ---- lists the other way round

pub turned-append : {A : Type 0} (xs ys : List A) → oldest_first (xs ++ ys)
    ≡ oldest_first ys ++ oldest_first xs
turned-append [] ys = sym (append-none (oldest_first ys))
  where
    append-none : {A : Type 0} (zs : List A) → zs ++ [] ≡ zs
    append-none [] = refl
    append-none (z ∷ zs) = ap (λ r. z ∷ r) (append-none zs)
turned-append (x ∷ xs) ys =
    ap (λ z. z ++ x ∷ []) (turned-append xs ys)
    ∙ append_assoc (oldest_first ys) (oldest_first xs) (x ∷ [])

pub length-turned : {A : Type 0} (xs : List A) → length (oldest_first xs) ≡ length xs
length-turned [] = refl
length-turned (x ∷ xs) =
    let n = length-append (oldest_first xs) (x ∷ []) in let m = length-turned xs in omega arith

-- ---- what is set and opened, apart from all other steps

pub own-makings : (about : BoardSizes) (gs : List GateStep)
    → own_settings about gs ≡ own_settings about (filter_map set_or_opening gs)
own-makings about [] = refl
own-makings about (Set i v ∷ gs) = ap (λ s. with_setting s i v) (own-makings about gs)
own-makings about (g ∷ gs) = own-makings about gs

pub openings-makings : (gs : List GateStep) → openings gs ≡ openings (filter_map set_or_opening gs)
openings-makings [] = refl
openings-makings (Opened ∷ gs) = ap (λ n. n + 1) (openings-makings gs)
openings-makings (g ∷ gs) = openings-makings gs

pub opened-makings : (about : BoardSizes) (n : ℕ) (gs : List GateStep)
    → own_settings about (opened n gs)
    ≡ own_settings about (opened n (filter_map set_or_opening gs))
opened-makings about n [] = refl
opened-makings about n (Set i v ∷ gs) = opened-makings about n gs
opened-makings about n (Opened ∷ gs) =
    let ms : List GateStep = filter_map set_or_opening gs in
    let same = openings-makings gs in
    dite (ℕ_discrete (openings gs + 1) n)
    (λ e.
    ap (own_settings about) (if_same (openings gs + 1) n (Opened ∷ gs) (opened n gs) e)
    ∙ (own-makings about gs
    ∙ sym (ap (own_settings about)
    (if_same (openings ms + 1) n (Opened ∷ ms) (opened n ms) (ap (λ k. k + 1) (sym same) ∙ e)))))
    (λ ne.
    ap (own_settings about) (if_other (openings gs + 1) n (Opened ∷ gs) (opened n gs) ne)
    ∙ (opened-makings about n gs
    ∙ sym (ap (own_settings about)
    (if_other (openings ms + 1) n (Opened ∷ ms) (opened n ms)
    (λ e. ne (ap (λ k. k + 1) same ∙ e))))))
opened-makings about n (g ∷ gs) = opened-makings about n gs

pub makings-append : (xs ys : List BoardStep) → sets_and_openings (xs ++ ys)
    ≡ sets_and_openings xs ++ sets_and_openings ys
makings-append xs ys =
    ap (filter_map set_or_opening) (filter_map-append gate_in xs ys)
    ∙ filter_map-append set_or_opening (gate_steps xs) (gate_steps ys)

-- ---- the tries

-- what a try sets and opens, in three forms
pub data Form (words : ℕ → ℕ) (sets : (ℕ → ℕ) → Command → List SettingChange) (c : Commanded)
    (gs : List GateStep) : Type 0 where
  sets_one : (m : SettingChange) → is_done c.answer ≡ true → sets words c.command ≡ m ∷ []
      → gs ≡ Opened ∷ Set m.word m.value ∷ [] → Form words sets c gs
  opens : is_done c.answer ≡ false → gs ≡ Opened ∷ [] → Form words sets c gs
  makes_none : (is_done c.answer ≡ false)
      ⊎ ((is_done c.answer ≡ true) × (sets words c.command ≡ [])) → gs ≡ [] → Form words sets c gs

pub form : (words : ℕ → ℕ) (sets : (ℕ → ℕ) → Command → List SettingChange) (c : Commanded)
    (gs : List GateStep) → SetsByAnswer words sets c gs → Form words sets c gs
form words sets c gs (inl a) = sets_one a.1 a.0 a.2 a.3
form words sets c gs (inr (inl b)) = makes_none (inr (b.0, b.1)) b.2
form words sets c gs (inr (inr (fails, inl none))) = makes_none (inl fails) none
form words sets c gs (inr (inr (fails, inr one))) = opens fails one

module _ (about : BoardSizes) (sets : (ℕ → ℕ) → Command → List SettingChange)
    (f : Try → List BoardStep)
  where
    abbrev words : List Try → ℕ → ℕ
    words ts = words_after about sets f ts

    abbrev made : List Try → List GateStep
    made ts = sets_and_openings (steps_of_tries f ts)

    pub words-made : (ts : List Try) → words ts ≡ own_settings about (made ts)
    words-made ts = own-makings about (gate_steps (steps_of_tries f ts))

    pub made-more : (t : Try) (ts : List Try) → made (t ∷ ts) ≡ sets_and_openings (f t) ++ made ts
    made-more t ts = makings-append (f t) (steps_of_tries f ts)

    abbrev count : List Try → ℕ
    count ts = openings_by f ts

    -- a try that does not open is passed over
    to-old : (n : ℕ) (t : Try) (ts : List Try) → count (t ∷ ts) ≡ count ts
        → tries_up_to f n (t ∷ ts) ≡ tries_up_to f n ts
    to-old n t ts same =
        dite (ℕ_discrete (count (t ∷ ts)) n)
        (λ e.
        if_same (count (t ∷ ts)) n (if count ts == n then tries_up_to f n ts else t ∷ ts)
        (tries_up_to f n ts) e
        ∙ if_same (count ts) n (tries_up_to f n ts) (t ∷ ts) (sym same ∙ e))
        (λ ne.
        if_other (count (t ∷ ts)) n (if count ts == n then tries_up_to f n ts else t ∷ ts)
        (tries_up_to f n ts) ne)

    -- one that opens is the last for its number
    to-new : (n : ℕ) (t : Try) (ts : List Try) → count (t ∷ ts) ≡ count ts + 1
        → count (t ∷ ts) ≡ n → tries_up_to f n (t ∷ ts) ≡ t ∷ ts
    to-new n t ts more e =
        if_same (count (t ∷ ts)) n (if count ts == n then tries_up_to f n ts else t ∷ ts)
        (tries_up_to f n ts) e
        ∙ if_other (count ts) n (tries_up_to f n ts) (t ∷ ts) (λ z. absurd (omega arith))

    to-other : (n : ℕ) (t : Try) (ts : List Try) → count (t ∷ ts) ≢ n
        → tries_up_to f n (t ∷ ts) ≡ tries_up_to f n ts
    to-other n t ts ne =
        if_other (count (t ∷ ts)) n (if count ts == n then tries_up_to f n ts else t ∷ ts)
        (tries_up_to f n ts) ne

    -- what comes before an opening has no other
    pub count-opens : (t : Try) (ts : List Try) (rest : List GateStep) → sets_and_openings (f t)
        ≡ Opened ∷ rest → openings (rest ++ made ts) ≡ count ts → count (t ∷ ts) ≡ count ts + 1
    count-opens t ts rest is none =
        ap openings (made-more t ts ∙ ap (λ gs. gs ++ made ts) is) ∙ ap (λ n. n + 1) none

    pub count-none : (t : Try) (ts : List Try) → sets_and_openings (f t) ≡ [] → count (t ∷ ts)
        ≡ count ts
    count-none t ts is = ap openings (made-more t ts ∙ ap (λ gs. gs ++ made ts) is)

    abbrev Same : ℕ → List Try → Type 0
    Same n ts = own_settings about (opened n (made ts)) ≡ words (tries_up_to f n ts)

    same-opens : (n : ℕ) (t : Try) (ts : List Try) (rest : List GateStep)
        → sets_and_openings (f t) ≡ Opened ∷ rest → openings (rest ++ made ts) ≡ count ts
        → own_settings about (opened n (rest ++ made ts)) ≡ own_settings about (opened n (made ts))
        → Same n ts → Same n (t ∷ ts)
    same-opens n t ts rest is none skip before =
        let gs : List GateStep = rest ++ made ts in
        let whole : made (t ∷ ts) ≡ Opened ∷ gs = made-more t ts ∙ ap (λ z. z ++ made ts) is in
        let size = count-opens t ts rest is none in
        dite (ℕ_discrete (openings gs + 1) n)
        (λ e.
        ap (λ z. own_settings about (opened n z)) whole
        ∙ (ap (own_settings about) (if_same (openings gs + 1) n (Opened ∷ gs) (opened n gs) e)
        ∙ (ap (own_settings about) (sym whole)
        ∙ (sym (words-made (t ∷ ts))
        ∙ ap words (sym (to-new n t ts size (size ∙ (ap (λ k. k + 1) (sym none) ∙ e))))))))
        (λ ne.
        ap (λ z. own_settings about (opened n z)) whole
        ∙ (ap (own_settings about) (if_other (openings gs + 1) n (Opened ∷ gs) (opened n gs) ne)
        ∙ (skip
        ∙ (before
        ∙ ap words
        (sym (to-other n t ts (λ e. ne (ap (λ k. k + 1) none ∙ (sym size ∙ e)))))))))

    same-none : (n : ℕ) (t : Try) (ts : List Try) → sets_and_openings (f t) ≡ [] → Same n ts
        → Same n (t ∷ ts)
    same-none n t ts is before =
        ap (λ z. own_settings about (opened n z)) (made-more t ts ∙ ap (λ z. z ++ made ts) is)
        ∙ (before ∙ ap words (sym (to-old n t ts (count-none t ts is))))

    same_by : (n : ℕ) (t : Try) (ts : List Try)
        → Form (words ts) sets t.given (sets_and_openings (f t)) → Same n ts → Same n (t ∷ ts)
    same_by n t ts (sets_one m done one is) before =
        same-opens n t ts (Set m.word m.value ∷ []) is refl refl before
    same_by n t ts (opens fails is) before = same-opens n t ts [] is refl refl before
    same_by n t ts (makes_none why is) before = same-none n t ts is before

    same_settings : (n : ℕ) (ts : List Try) → AllSetByAnswer about sets f ts → Same n ts
    same_settings n [] are = refl
    same_settings n (t ∷ ts) are =
        same_by n t ts (form (words ts) sets t.given (sets_and_openings (f t)) are.0)
        (same_settings n ts are.1)

    -- the settings at the n-th opening are those after the tries up to it
    pub settings_opened : (n : ℕ) (ts : List Try) → AllSetByAnswer about sets f ts
        → own_settings about (opened n (gate_steps (steps_of_tries f ts)))
        ≡ words (tries_up_to f n ts)
    settings_opened n ts are =
        opened-makings about n (gate_steps (steps_of_tries f ts)) ∙ same_settings n ts are

    -- ---- the tries up to an opening are the first ones

    pub count-steps : (t : Try) (ts : List Try)
        → Form (words ts) sets t.given (sets_and_openings (f t))
        → (count (t ∷ ts) ≡ count ts) ⊎ (count (t ∷ ts) ≡ count ts + 1)
    count-steps t ts (sets_one m done one is) =
        inr (count-opens t ts (Set m.word m.value ∷ []) is refl)
    count-steps t ts (opens fails is) = inr (count-opens t ts [] is refl)
    count-steps t ts (makes_none why is) = inl (count-none t ts is)

    pub first-tries : (n : ℕ) (ts : List Try) → AllSetByAnswer about sets f ts
        → (more : List Try) × (ts ≡ more ++ tries_up_to f n ts)
    first-tries n [] are = ([], refl)
    first-tries n (t ∷ ts) are =
        let b = first-tries n ts are.1 in
        let skipped : tries_up_to f n (t ∷ ts) ≡ tries_up_to f n ts
        → (more : List Try) × (t ∷ ts ≡ more ++ tries_up_to f n (t ∷ ts)) =
        λ is. (t ∷ b.0, ap (λ z. t ∷ z) b.1 ∙ ap (λ z. (t ∷ b.0) ++ z) (sym is)) in
        elim (count-steps t ts (form (words ts) sets t.given (sets_and_openings (f t)) are.0)) [
          | inl same ↦ skipped (to-old n t ts same)
          | inr more ↦
              dite (ℕ_discrete (count (t ∷ ts)) n)
              (λ e. ([], sym (to-new n t ts more e)))
              (λ ne. skipped (to-other n t ts ne))
        ]

    -- of two openings the earlier has the first ones of the tries of the later
    pub tries-grow : (m n : ℕ) (ts : List Try) → AllSetByAnswer about sets f ts → m ≤ n → n
        ≤ count ts → (more : List Try) × (tries_up_to f n ts ≡ more ++ tries_up_to f m ts)
    tries-grow m n [] are le within = ([], refl)
    tries-grow m n (t ∷ ts) are le within =
        let old : tries_up_to f n (t ∷ ts) ≡ tries_up_to f n ts → tries_up_to f m (t ∷ ts)
        ≡ tries_up_to f m ts → n ≤ count ts → (more : List Try)
        × (tries_up_to f n (t ∷ ts) ≡ more ++ tries_up_to f m (t ∷ ts)) =
        λ a b small. (let r = tries-grow m n ts are.1 le small in
        (r.0, a ∙ (r.1 ∙ ap (λ z. r.0 ++ z) (sym b)))) in
        elim (count-steps t ts (form (words ts) sets t.given (sets_and_openings (f t)) are.0)) [
          | inl same ↦ old (to-old n t ts same) (to-old m t ts same) (omega arith)
          | inr more ↦
              dite (ℕ_discrete (count (t ∷ ts)) n)
              (λ e.
              dite (ℕ_discrete (count (t ∷ ts)) m)
              (λ e2. ([], to-new n t ts more e ∙ sym (to-new m t ts more e2)))
              (λ ne2.
              let first = first-tries m ts are.1 in (
                t ∷ first.0,
                to-new n t ts more e
                    ∙ (ap (λ z. t ∷ z) first.1
                    ∙ ap (λ z. (t ∷ first.0) ++ z) (sym (to-other m t ts ne2))),
              )))
              (λ ne. old (to-other n t ts ne) (to-other m t ts (λ e. absurd (omega arith)))
              (omega arith))
        ]

-- ---- the settings of a history after these tries

abbrev pub given_by : List Try → List Commanded
given_by ts = oldest_first (map (λ t. t.given) ts)

settings-append : (s : Settings) (cs ds : List Commanded)
    → settings_after s (cs ++ ds) ≡ settings_after (settings_after s cs) ds
settings-append s [] ds = refl
settings-append s (c ∷ cs) ds =
    settings-append (if is_done c.answer then changed s c.command else s) cs ds

pub settings-given : (s : Settings) (ts : List Try)
    → settings_by s ts ≡ settings_after s (given_by ts)
settings-given s [] = refl
settings-given s (t ∷ ts) =
    ap (λ (z : Settings). if is_done t.given.answer then changed z t.given.command else z)
    (settings-given s ts)
    ∙ sym (settings-append s (given_by ts) (t.given ∷ []))

pub length-given : (ts : List Try) → length (given_by ts) ≡ length ts
length-given ts = length-turned (map (λ t. t.given) ts) ∙ length-map-given ts
  where
    length-map-given : (ts : List Try) → length (map (λ (t : Try). t.given) ts) ≡ length ts
    length-map-given [] = refl
    length-map-given (t ∷ ts) = ap suc (length-map-given ts)

pub given-append : (xs ys : List Try) → given_by (xs ++ ys) ≡ given_by ys ++ given_by xs
given-append xs ys =
    ap oldest_first (map-append (λ (t : Try). t.given) xs ys)
    ∙ turned-append (map (λ (t : Try). t.given) xs) (map (λ (t : Try). t.given) ys)

-- the first commands of a history are those of the first tries
pub take-given : (more ts : List Try) → take (length ts) (given_by (more ++ ts)) ≡ given_by ts
take-given more ts =
    ap (take (length ts)) (given-append more ts)
    ∙ (ap (λ n. take n (given_by ts ++ given_by more)) (sym (length-given ts))
    ∙ take-append_seam (given_by ts) (given_by more))

pub drop-given : (more ts : List Try) → drop (length ts) (given_by (more ++ ts)) ≡ given_by more
drop-given more ts =
    ap (drop (length ts)) (given-append more ts)
    ∙ (ap (λ n. drop n (given_by ts ++ given_by more)) (sym (length-given ts))
    ∙ drop-append_seam (given_by ts) (given_by more))
