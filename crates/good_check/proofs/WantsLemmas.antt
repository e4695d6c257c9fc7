-- Wants that are written, as a set of writes decides it.
use Rattle.std.proofs.Common.{ℕ, suc, ◌≡◌, ◌<◌, Bool, true, List, [], ◌∷◌, Option}
use Rattle.std.proofs.Common.{Some, None, length, refl, ap, ◌∙◌, sym, arith, inl, inr, subst}
use Rattle.std.proofs.Common.{get_or, take}
use Rattle.std.specs.Prelude.{◌||◌}
use Rattle.std.specs.List.{list_all, list_any}
use Rattle.std.proofs.Math.ListN.{get_or-eq_default}
use Rattle.std.proofs.lemmas.Bool.{and_parts, cases_Bool, cases_lt, eq-eqb, eqb-true}
use Rattle.std.proofs.lemmas.List.Folds.{list_any_at}
use Rattle.std.proofs.lemmas.List.Sums.{AllPass-from_list_all, list_all-from_AllPass}
use Rattle.std.proofs.lemmas.Option.{get_or_from_slice_get, slice_get-get_or, slice_get_within}
use Rattle.std.proofs.lemmas.List.{get_or_default}
use Rattle.steer_base.specs.Choices.{class_of}
use Rattle.steer_base.specs.declared.choice.Chosen.{Chosen}
use Rattle.hop_model.specs.Hop.{chosen_at, nobody}
use Rattle.history.specs.Lists.{list_at}
use Rattle.history.specs.declared.history.History.{History}
use Rattle.history.specs.declared.sock_write.SockWrite.{SockWrite}
use Rattle.steer_model.specs.Good.Choices.{WantsAreWritten, WasWritten}
use Rattle.steer_model.specs.Good.GoodHistory.{never}
use Rattle.steer_model.specs.Good.Inputs.{Input, settings_after, settings_at, setup_in}
use Rattle.steer_model.specs.State.Start.{initial_settings}
use Rattle.steer_model.specs.State.Setup.{packet_hash}
use Rattle.good_check.specs.Wants.{hash_is_in, is_at, is_write_of, want_is_in, was_written}

-- what passes a test that some of a list pass
pub any-at : {A : Type 0} (test : A → Bool) (d : A) (xs : List A) → list_any test xs ≡ true
    → (k : ℕ) × (k < length xs) × (test (get_or xs k d) ≡ true)
any-at test d [] e = absurd (cc)
any-at test d (x ∷ xs) e = elim (cases_Bool (test x)) [
  | inl t ↦ (0, omega arith, t)
  | inr f ↦
      let w = any-at test d xs (sym (ap (λ b. b || list_any test xs) f) ∙ e) in
      (suc w.0, omega (arith, w.1), w.2)
]

abbrev no_write : SockWrite
no_write = record { entry = 0; cpu = 0 }

same-write : (place cpu : ℕ) (w : SockWrite) → is_write_of place cpu w ≡ true
    → w ≡ record { entry = place; cpu = cpu }
same-write place cpu w e =
    let both = and_parts _ _ e in
    let p : w.entry ≡ place = eqb-true w.entry place both.0 in
    let c : w.cpu ≡ cpu = eqb-true w.cpu cpu both.1 in
    λ k. record { entry = p k; cpu = c k }

pub written-to : (h : History) (place cpu : ℕ) → was_written place cpu h.writes ≡ true
    → WasWritten h (record { entry = place; cpu = cpu })
written-to h place cpu e =
    let w = any-at (λ ws. list_any (is_write_of place cpu) ws) [] h.writes e in
    let v = any-at (is_write_of place cpu) no_write (list_at h.writes w.0) w.2 in (
      w.0,
      v.0,
      slice_get-get_or (list_at h.writes w.0) v.0 no_write v.1
          ∙ ap (λ x. Some x)
          (same-write place cpu (get_or (list_at h.writes w.0) v.0 no_write) v.2),
    )

pub within-lists : {A : Type 0} (lists : List (List A)) (a j : ℕ) → j < length (list_at lists a)
    → a < length lists
within-lists lists a j l = elim (cases_lt a (length lists)) [
  | inl k ↦ k
  | inr k ↦ let n : length (list_at lists a) ≡ 0 = ap length (get_or-eq_default lists [] k) in
      absurd (omega (arith, n, l))
]

pub written-from : (h : History) (place cpu : ℕ)
    → WasWritten h (record { entry = place; cpu = cpu })
    → was_written place cpu h.writes ≡ true
written-from h place cpu w =
    let l : w.1 < length (list_at h.writes w.0) =
    slice_get_within (list_at h.writes w.0) w.1 (record { entry = place; cpu = cpu }) w.2 in
    let is : get_or (list_at h.writes w.0) w.1 no_write ≡ record { entry = place; cpu = cpu } =
    get_or_from_slice_get (list_at h.writes w.0) w.1 (record { entry = place; cpu = cpu }) no_write
    w.2 in
    let t : is_write_of place cpu (record { entry = place; cpu = cpu }) ≡ true =
    rw (eq-eqb place place refl, eq-eqb cpu cpu refl) refl in
    list_any_at (λ ws. list_any (is_write_of place cpu) ws) h.writes w.0 []
    (within-lists h.writes w.0 w.1 l)
    (list_any_at (is_write_of place cpu) (list_at h.writes w.0) w.1 no_write l
    (ap (is_write_of place cpu) is ∙ t))

-- without commands the settings are the plan's
pub settings-now : (i : Input) (h : History) → h.commands ≡ []
    → settings_at i h 0 ≡ initial_settings i.plan
settings-now i h none = ap (λ cs. settings_after (initial_settings i.plan) (take 0 cs)) none

module _ (i : Input) (h : History) (none : h.commands ≡ []) (set : ℕ → ℕ → Bool)
    (is : (n m : ℕ) → set n m ≡ was_written n m h.writes) where
  abbrev size : ℕ
  size = (initial_settings i.plan).sock

  abbrev wanted : Chosen → Bool
  wanted c = want_is_in (setup_in i) size set c

  size-is : (settings_at i h 0).sock ≡ size
  size-is = ap (λ s. s.sock) (settings-now i h none)

  is_at-to : (cpu : ℕ) (o : Option ℕ) → is_at set cpu o ≡ true
      → (place : ℕ) × (o ≡ Some place) × WasWritten h (record { entry = place; cpu = cpu })
  is_at-to cpu None e = absurd (cc)
  is_at-to cpu (Some place) e =
      (place, refl, written-to h place cpu (sym (is place cpu) ∙ e))

  one-to : (c : Chosen) (want : ℕ) → c.choice.want ≡ Some want → wanted c ≡ true
      → (place : ℕ) × (class_of (settings_at i h 0).sock (packet_hash (setup_in i) c.id)
      ≡ Some place) × WasWritten h (record { entry = place; cpu = want })
  one-to c want e t =
      let at : is_at set want (class_of size (packet_hash (setup_in i) c.id)) ≡ true =
      sym (ap (λ o. hash_is_in size set o (packet_hash (setup_in i) c.id)) e) ∙ t in
      let w = is_at-to want (class_of size (packet_hash (setup_in i) c.id)) at in
      (w.0, ap (λ n. class_of n (packet_hash (setup_in i) c.id)) size-is ∙ w.1, w.2)

  one-from : (c : Chosen) (o : Option ℕ) → c.choice.want ≡ o
      → ((want : ℕ) → c.choice.want ≡ Some want
      → (place : ℕ) × (class_of (settings_at i h 0).sock (packet_hash (setup_in i) c.id)
      ≡ Some place) × WasWritten h (record { entry = place; cpu = want }))
      → wanted c ≡ true
  one-from c None e h' = ap (λ o. hash_is_in size set o (packet_hash (setup_in i) c.id)) e
  one-from c (Some want) e h' =
      let w = h' want e in
      let place : class_of size (packet_hash (setup_in i) c.id) ≡ Some w.0 =
      ap (λ n. class_of n (packet_hash (setup_in i) c.id)) (sym size-is) ∙ w.1 in
      ap (λ o. hash_is_in size set o (packet_hash (setup_in i) c.id)) e
      ∙ ap (is_at set want) place ∙ is w.0 want ∙ written-from h w.0 want w.2

  pub wants-to : list_all (list_all wanted) h.choices ≡ true → WantsAreWritten i h never
  wants-to all q k want l e =
      let of-q : list_all wanted (list_at h.choices q) ≡ true =
      AllPass-from_list_all (list_all wanted) h.choices all q []
      (within-lists h.choices q k l) in
      one-to (chosen_at (list_at h.choices q) k) want e
      (AllPass-from_list_all wanted (list_at h.choices q) of-q k nobody l)

  pub wants-from : WantsAreWritten i h never → list_all (list_all wanted) h.choices ≡ true
  wants-from w =
      list_all-from_AllPass (list_all wanted) h.choices (λ q d lq.
      subst (λ cs. list_all wanted cs ≡ true) (get_or_default h.choices q [] d lq)
      (list_all-from_AllPass wanted (list_at h.choices q) (λ k e lk.
      subst (λ c. wanted c ≡ true) (get_or_default (list_at h.choices q) k nobody e lk)
      (one-from (chosen_at (list_at h.choices q) k)
      (chosen_at (list_at h.choices q) k).choice.want refl
      (λ want f. w q k want lk f)))))
