-- What the gate answers.
use Rattle.std.proofs.Common.{ℕ, ◌≡◌, ◌≢◌, ◌+◌, Bool, true, false, cond, refl, ◌∙◌, arith, inl, inr}
use Rattle.std.specs.Prelude.{◌==◌}
use Rattle.std.proofs.lemmas.Bool.{cases_Bool, ne_eqb}
use Rattle.steer_base.specs.declared.idle.Idle.TheVariants as idle
use Rattle.hop_model.specs.declared.event.HopAnswer.TheVariants as answer
use Rattle.hop_model.specs.declared.event.HopEvent.TheVariants as event
use Rattle.hop_model.specs.Hop.{HopState, inside_of, with_visit}
use Rattle.hop_model.specs.Events.{Outcome, happens, idles}
use Rattle.hop_core.specs.Laws.{ClosedIsExact, InsideIsExact}
use Rattle.hop_core.proofs.GateSteps.{count_some}

close_by : (s : HopState) (n : ℕ) (b : Bool) → (s.bare.inside == 0) ≡ b
    → (happens s event.Close).1 ≡ answer.Inside n → (s.bare.inside ≡ n) × (n ≢ 0)
close_by s n true e is = absurd (let f : (happens s event.Close).1 ≡ answer.Done = rw e refl in cc)
close_by s n false e is =
    let f : (happens s event.Close).1 ≡ answer.Inside s.bare.inside = rw e refl in
    let same : s.bare.inside ≡ n = cc in (
      same,
      λ none. absurd (let zero : s.bare.inside ≡ 0 = same ∙ none in
          let g : (s.bare.inside == 0) ≡ true = rw zero refl in cc),
    )

pub inside_is_exact : InsideIsExact
inside_is_exact s = (
  λ n is. close_by s n (s.bare.inside == 0) refl is,
  λ some. rw
      (ne_eqb s.bare.inside 0 some) refl,
)

closed_by : (in' shut : Bool) (x y z : Outcome) → x.1 ≢ answer.Closed → z.1 ≢ answer.Closed
    → (cond in' x (cond shut y z)).1 ≡ answer.Closed → shut ≡ true
closed_by true shut x y z nx nz is = absurd (nx is)
closed_by false true x y z nx nz is = refl
closed_by false false x y z nx nz is = absurd (nz is)

pub closed_is_exact : ClosedIsExact
closed_is_exact s a h =
    let in' : Outcome = (with_visit s a true (s.bare.inside + 1), answer.Done) in (
      λ is. closed_by (inside_of s a) s.bare.closed (idles s idle.AlreadyInside)
          (s, answer.Closed) in' (λ e. cc) (λ e. cc) is,
      λ shut. elim (cases_Bool (inside_of s a)) [
        | inl e ↦ absurd (let some = count_some s.visits a e in let none = h.gate.shut shut in
            let g = h.gate.inside in omega arith)
        | inr e ↦ rw (e, shut) refl
      ],
    )
