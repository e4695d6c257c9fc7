-- The files of a call are accepted, or refused for one reason.
use Rattle.std.proofs.Common.{◌≡◌, ◌⊎◌, ℕ, Bool, true, false, List, [], ◌∷◌, length, take, Result}
use Rattle.std.proofs.Common.{Ok, Err, inl, inr, refl, sym, ap, ◌∙◌, arith}
use Rattle.std.specs.Prelude.{bytes_eq}
use Rattle.std.specs.Bool.{Decides}
use Rattle.std.proofs.lemmas.Bool.{cases_lt, false≢true}
use Rattle.std.proofs.lemmas.Slice.Eq.{bytes_eq-Decides}
use Rattle.pcap_reader.specs.Laws as pcap
use Rattle.pcapng_reader.specs.Laws as pcapng
use Rattle.pcapng_reader.specs.Captures.{BeginsNg}
use Rattle.plan_reader.specs.PlanTexts.{plan_of}
use Rattle.plan_reader.specs.Settings.{PlanSettings}
use Rattle.plan_reader.specs.declared.plan_fault.PlanFault.{PlanFault}
use Rattle.ntuple_rules.specs.Readings.{rules_of}
use Rattle.ntuple_rules.specs.declared.rules.Rules.{Rules}
use Rattle.steer_top.specs.Files.{limit_of, IsRead, IsNot, IsGood, IsBad, IsDecided, IsRefusedOnce}
use Rattle.steer_top.specs.Files.{IsNotBoth}
use Rattle.steer_top.specs.declared.ending.Role.{Role}
use Rattle.steer_top.specs.declared.ending.Role.TheVariants as role
use Rattle.steer_top.specs.declared.ending.Refusal.{Refusal}
use Rattle.steer_top.specs.declared.ending.Refusal.TheVariants as refusal

-- bytes begin as a pcapng file does, or not
begins : (bytes : List ℕ) → BeginsNg bytes ⊎ (BeginsNg bytes → ⊥)
begins bytes = by (bytes_eq (take 4 bytes) (0x0a ∷ 0x0d ∷ 0x0d ∷ 0x0a ∷ []))
    (bytes_eq-Decides (take 4 bytes) (0x0a ∷ 0x0d ∷ 0x0d ∷ 0x0a ∷ []))
  where
    by : (b : Bool) → Decides b (BeginsNg bytes) → BeginsNg bytes ⊎ (BeginsNg bytes → ⊥)
    by true is = inl (is.0 refl)
    by false is = inr (λ begin. absurd (false≢true (is.1 begin)))

-- what the readers of captures say of all bytes
pub record OneCapture : Type 0 where
  pub one : pcap.HasOneFault
  pub apart : pcap.HasNotBoth
  pub either : pcap.HasOneOfBoth
  pub ng_one : pcapng.HasOneNgFault
  pub ng_apart : pcapng.HasNotBothNg
  pub ng_either : pcapng.HasOneOfBothNg

module _ (law : OneCapture) where
  is_either : (r : Role) (bytes : List ℕ)
      → IsRead r bytes ⊎ ((reason : Refusal) × IsNot r bytes reason)
  is_either role.Plan bytes = by (plan_of bytes) refl
    where
      by : (read : Result PlanSettings PlanFault) → plan_of bytes ≡ read
          → IsRead role.Plan bytes ⊎ ((reason : Refusal) × IsNot role.Plan bytes reason)
      by (Ok plan) is = inl (plan, is)
      by (Err fault) is = inr (refusal.Plan fault, is)
  is_either role.Rules bytes = by (rules_of bytes) refl
    where
      by : (read : Result Rules PlanFault) → rules_of bytes ≡ read
          → IsRead role.Rules bytes ⊎ ((reason : Refusal) × IsNot role.Rules bytes reason)
      by (Ok rules) is = inl (rules, is)
      by (Err fault) is = inr (refusal.Rules fault, is)
  is_either role.Capture bytes = elim (begins bytes) [
    | inl ng ↦ elim (law.ng_either bytes ng) [
      | inl (capture, has) ↦ inl (capture, inl has)
      | inr
          (fault, is) ↦ inr (refusal.Pcapng fault, is)
    ]
    | inr other ↦ elim (law.either bytes) [
      | inl (capture, has) ↦ inl
          (capture, inr (other, has))
      | inr (fault, is) ↦ inr (refusal.Capture fault, (other, is))
    ]
  ]
  is_either role.Report bytes = inl tt

  not_both : (r : Role) (bytes : List ℕ) (reason : Refusal) → IsRead r bytes → IsNot r bytes reason
      → ⊥
  not_both role.Capture bytes (refusal.Capture fault) (capture, inl has) (other, is) =
      other has.begins
  not_both role.Capture bytes (refusal.Capture fault) (capture, inr (other, has)) (also, is) =
      law.apart bytes capture fault has is
  not_both role.Capture bytes (refusal.Pcapng fault) (capture, inl has) is =
      law.ng_apart bytes capture fault has is
  not_both role.Capture bytes (refusal.Pcapng fault) (capture, inr (other, has)) is =
      other is.begins
  not_both role.Capture bytes (refusal.TooLong other) good is = is
  not_both role.Capture bytes (refusal.Plan fault) good is = is
  not_both role.Capture bytes (refusal.Rules fault) good is = is
  not_both role.Plan bytes (refusal.Plan fault) (plan, has) is =
      let both : Ok plan ≡ Err fault = sym has ∙ is in cc
  not_both role.Plan bytes (refusal.TooLong other) good is = is
  not_both role.Plan bytes (refusal.Rules fault) good is = is
  not_both role.Plan bytes (refusal.Capture fault) good is = is
  not_both role.Plan bytes (refusal.Pcapng fault) good is = is
  not_both role.Rules bytes (refusal.Rules fault) (rules, has) is =
      let both : Ok rules ≡ Err fault = sym has ∙ is in cc
  not_both role.Rules bytes (refusal.TooLong other) good is = is
  not_both role.Rules bytes (refusal.Plan fault) good is = is
  not_both role.Rules bytes (refusal.Capture fault) good is = is
  not_both role.Rules bytes (refusal.Pcapng fault) good is = is
  not_both role.Report bytes (refusal.TooLong other) good is = is
  not_both role.Report bytes (refusal.Plan fault) good is = is
  not_both role.Report bytes (refusal.Rules fault) good is = is
  not_both role.Report bytes (refusal.Capture fault) good is = is
  not_both role.Report bytes (refusal.Pcapng fault) good is = is

  is_one : (r : Role) (bytes : List ℕ) (a b : Refusal) → IsNot r bytes a → IsNot r bytes b → a ≡ b
  is_one role.Capture bytes (refusal.Capture f) (refusal.Capture g) is was =
      ap refusal.Capture (law.one bytes f g is.1 was.1)
  is_one role.Capture bytes (refusal.Pcapng f) (refusal.Pcapng g) is was =
      ap refusal.Pcapng (law.ng_one bytes f g is was)
  is_one role.Capture bytes (refusal.Capture f) (refusal.Pcapng g) is was = absurd (is.0 was.begins)
  is_one role.Capture bytes (refusal.Pcapng f) (refusal.Capture g) is was = absurd (was.0 is.begins)
  is_one role.Rules bytes (refusal.Rules f) (refusal.Rules g) is was =
      let both : Err f ≡ Err g = sym is ∙ was in let same : f ≡ g = cc in ap refusal.Rules same
  is_one role.Plan bytes (refusal.Plan f) (refusal.Plan g) is was =
      let both : Err f ≡ Err g = sym is ∙ was in let same : f ≡ g = cc in ap refusal.Plan same
  is_one role.Plan bytes (refusal.Plan f) (refusal.TooLong other) is was = absurd was
  is_one role.Plan bytes (refusal.Plan f) (refusal.Rules g) is was = absurd was
  is_one role.Plan bytes (refusal.Plan f) (refusal.Capture g) is was = absurd was
  is_one role.Plan bytes (refusal.Plan f) (refusal.Pcapng g) is was = absurd was
  is_one role.Plan bytes (refusal.TooLong other) b is was = absurd is
  is_one role.Plan bytes (refusal.Rules f) b is was = absurd is
  is_one role.Plan bytes (refusal.Capture f) b is was = absurd is
  is_one role.Plan bytes (refusal.Pcapng f) b is was = absurd is
  is_one role.Rules bytes (refusal.Rules f) (refusal.TooLong other) is was = absurd was
  is_one role.Rules bytes (refusal.Rules f) (refusal.Plan g) is was = absurd was
  is_one role.Rules bytes (refusal.Plan f) b is was = absurd is
  is_one role.Rules bytes (refusal.Rules f) (refusal.Capture g) is was = absurd was
  is_one role.Rules bytes (refusal.Rules f) (refusal.Pcapng g) is was = absurd was
  is_one role.Rules bytes (refusal.TooLong other) b is was = absurd is
  is_one role.Rules bytes (refusal.Capture f) b is was = absurd is
  is_one role.Rules bytes (refusal.Pcapng f) b is was = absurd is
  is_one role.Capture bytes (refusal.Plan f) b is was = absurd is
  is_one role.Capture bytes (refusal.Rules f) b is was = absurd is
  is_one role.Capture bytes (refusal.Capture f) (refusal.Plan g) is was = absurd was
  is_one role.Capture bytes (refusal.Pcapng f) (refusal.Plan g) is was = absurd was
  is_one role.Capture bytes (refusal.Capture f) (refusal.Rules g) is was = absurd was
  is_one role.Capture bytes (refusal.Pcapng f) (refusal.Rules g) is was = absurd was
  is_one role.Capture bytes (refusal.TooLong other) b is was = absurd is
  is_one role.Capture bytes (refusal.Capture f) (refusal.TooLong other) is was = absurd was
  is_one role.Capture bytes (refusal.Pcapng f) (refusal.TooLong other) is was = absurd was
  is_one role.Report bytes (refusal.TooLong other) b is was = absurd is
  is_one role.Report bytes (refusal.Plan f) b is was = absurd is
  is_one role.Report bytes (refusal.Rules f) b is was = absurd is
  is_one role.Report bytes (refusal.Capture f) b is was = absurd is
  is_one role.Report bytes (refusal.Pcapng f) b is was = absurd is

  good_or_bad : (r : Role) (bytes : List ℕ)
      → IsGood r bytes ⊎ ((reason : Refusal) × IsBad r bytes reason)
  good_or_bad r bytes = elim (cases_lt (limit_of r) (length bytes)) [
    | inl long ↦ inr (refusal.TooLong r, inl (long, refl))
    | inr short ↦ elim (is_either r bytes) [
      | inl good ↦ inl (short, good)
      | inr (reason, is) ↦ inr
          (reason, inr (short, is))
    ]
  ]

  good_not_bad : (r : Role) (bytes : List ℕ) (reason : Refusal) → IsGood r bytes
      → IsBad r bytes reason → ⊥
  good_not_bad r bytes reason (short, good) (inl (long, is)) = omega (arith, short, long)
  good_not_bad r bytes reason (short, good) (inr (few, is)) = not_both r bytes reason good is

  bad_once : (r : Role) (bytes : List ℕ) (a b : Refusal) → IsBad r bytes a → IsBad r bytes b → a ≡ b
  bad_once r bytes a b (inl (long, is)) (inl (more, was)) = is ∙ sym was
  bad_once r bytes a b (inl (long, is)) (inr (few, was)) = absurd (omega (arith, long, few))
  bad_once r bytes a b (inr (few, is)) (inl (long, was)) = absurd (omega (arith, long, few))
  bad_once r bytes a b (inr (few, is)) (inr (less, was)) = is_one r bytes a b is was

  pub is_decided : IsDecided
  is_decided [] files = inl tt
  is_decided (r ∷ roles) files = elim (good_or_bad r (files r)) [
    | inl good ↦ elim (is_decided roles files) [
      | inl all ↦ inl (good, all)
      | inr
          (reason, later) ↦ inr (reason, inr (good, later))
    ]
    | inr (reason, bad) ↦ inr (reason, inl bad)
  ]

  pub is_refused_once : IsRefusedOnce
  is_refused_once [] files a b is was = absurd is
  is_refused_once (r ∷ roles) files a b (inl bad) (inl worse) = bad_once r (files r) a b bad worse
  is_refused_once (r ∷ roles) files a b (inl bad) (inr (good, later)) =
      absurd (good_not_bad r (files r) a good bad)
  is_refused_once (r ∷ roles) files a b (inr (good, later)) (inl bad) =
      absurd (good_not_bad r (files r) b good bad)
  is_refused_once (r ∷ roles) files a b (inr (good, later)) (inr (fine, last)) =
      is_refused_once roles files a b later last

  pub is_not_both : IsNotBoth
  is_not_both [] files reason all is = is
  is_not_both (r ∷ roles) files reason (good, all) (inl bad) =
      good_not_bad r (files r) reason good bad
  is_not_both (r ∷ roles) files reason (good, all) (inr (fine, later)) =
      is_not_both roles files reason all later
