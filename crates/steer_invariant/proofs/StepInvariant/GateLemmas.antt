-- A gated command that is done found nobody inside, and its lanes empty.
use Rattle.std.proofs.Common.{ℕ, ◌≤◌, ◌<◌, ◌≡◌, Bool, true, [], Option, None, Some, length, refl}
use Rattle.std.proofs.Common.{ap, arith, inl, inr}
use Rattle.std.specs.Prelude.{◌==◌, Result, Ok, Err, IsOk}
use Rattle.std.proofs.Math.ListN.{get_or-eq_default}
use Rattle.std.proofs.lemmas.Bool.{cases_lt, eqb-true}
use Rattle.steer_base.specs.declared.command.Answer.{Answer}
use Rattle.steer_base.specs.declared.command.Answer.TheVariants as says
use Rattle.steer_base.specs.declared.command.Busy.{Busy}
use Rattle.steer_base.specs.declared.command.Busy.TheVariants as busy
use Rattle.steer_base.specs.declared.command.Refused.{Refused}
use Rattle.steer_base.specs.declared.command.Refused.TheVariants as refused
use Rattle.hop_model.specs.Emptied.{emptied_of}
use Rattle.hop_model.specs.Events.{IsEmptied}
use Rattle.hop_model.specs.Hop.{HopState, accepted_at, choices_of, placed_of, retired_at}
use Rattle.hop_model.specs.Sound.{Sound}
use Rattle.hop_core.proofs.Empties.{emptied_is_exact}
use Rattle.hop_core.proofs.GateSteps.{nobody_weighs}
use Rattle.steer_model.specs.Steps.Commands.{gate_answer, gated, is_done, refused_or}
use Rattle.steer_invariant.proofs.EitherLemmas.{either}

-- nobody is inside, and each lane that was asked for is empty
pub record Passed (s : HopState) (asked : ℕ → Bool) : Type 0 where
  pub alone : s.bare.inside ≡ 0
  pub empty : (c : ℕ) → c < length s.bare.accepted → asked c ≡ true → IsEmptied s.bare c

-- what a done answer of a gate says
record IsThrough (s : HopState) (empty : Result (Unit {0}) Busy) : Type 0 where
  alone : s.bare.inside ≡ 0
  ok : IsOk empty

through : (s : HopState) (empty : Result (Unit {0}) Busy) → is_done (gate_answer s empty) ≡ true
    → IsThrough s empty
through s (Ok nothing) =
    either (λ a. is_done a ≡ true → IsThrough s (Ok nothing)) (s.bare.inside == 0) says.Done
    (says.Busy (busy.Inside s.bare.inside))
    (λ alone done. record { alone = eqb-true s.bare.inside 0 alone; ok = refl })
    (λ some done. absurd (cc))
through s (Err why) =
    either (λ a. is_done a ≡ true → IsThrough s (Err why)) (s.bare.inside == 0) (says.Busy why)
    (says.Busy (busy.Inside s.bare.inside)) (λ alone done. absurd (cc)) (λ some done. absurd (cc))

pub gate_passed : (s : HopState) (asked : ℕ → Bool) → is_done (gated s asked) ≡ true
    → Passed s asked
gate_passed s asked done =
    let t = through s (emptied_of s asked) done in
    record { alone = t.alone; empty = λ c lt named. (emptied_is_exact s asked).0 t.ok c lt named }

-- a command that is done was not refused
pub not-refused : (why : Option Refused) (a : Answer) → is_done (refused_or why a) ≡ true
    → (why ≡ None) × (is_done a ≡ true)
not-refused None a e = (refl, e)
not-refused (Some (refused.CpuInUse who)) a e = absurd (cc)
not-refused (Some refused.CpuOffline) a e = absurd (cc)
not-refused (Some refused.AlreadyOnline) a e = absurd (cc)

-- with nobody inside no packet is between its choice and its put
pub no_hands : (s : HopState) → Sound s → s.bare.inside ≡ 0 → (p : ℕ)
    → length (choices_of s p) ≤ placed_of s p
no_hands s h alone p = let e = nobody_weighs s h alone p in omega (arith, e)

-- a lane that is empty where there is one: beyond the lanes nothing was accepted
pub emptied_by : (s : HopState) (c : ℕ) → (c < length s.bare.accepted → IsEmptied s.bare c)
    → length (accepted_at s.bare c) ≤ retired_at s.bare c
emptied_by s c empty =
    elim (cases_lt c (length s.bare.accepted)) [
      | inl lt ↦ (let e = empty lt in omega (arith, e))
      | inr le ↦ (
          let e : accepted_at s.bare c ≡ [] = get_or-eq_default s.bare.accepted [] le in
          let n : length (accepted_at s.bare c) ≡ 0 = ap length e in omega (arith, n))
    ]
