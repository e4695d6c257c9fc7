-- What the five events of a reply do to the hand of their application in the transmit hop.
use Rattle.std.proofs.Common.{ℕ, ◌+◌, ◌<◌, ◌≤◌, ◌≡◌, true, false, not, [], ◌∷◌, ◌++◌}
use Rattle.std.proofs.Common.{Option, length}
use Rattle.std.proofs.Common.{ap, ◌∙◌, sym, arith}
use Rattle.std.specs.Prelude.{nat_lt}
use Rattle.std.proofs.lemmas.Bool.{ltb-false, ltb-true}
use Rattle.std.proofs.lemmas.List.{get_or-set_same}
use Rattle.steer_base.specs.declared.choice.Chosen.{Chosen}
use Rattle.steer_base.specs.declared.cpu_mask.CpuMask.{CpuMask}
use Rattle.steer_base.specs.declared.idle.Idle.TheVariants as idle
use Rattle.hop_model.specs.declared.event.HopAnswer.TheVariants as answer
use Rattle.hop_model.specs.declared.event.HopEvent.TheVariants as event
use Rattle.hop_model.specs.Events.{Outcome, happens, idles}
use Rattle.hop_model.specs.Hop.{HopState, arrivals_of, choice_of, choices_of, chose}
use Rattle.hop_model.specs.Hop.{inside_of}
use Rattle.hop_model.specs.Hop.{next_of, placed_of, put_one, taken_of, took, with_visit}
use Rattle.hop_core.proofs.Lists.{length-push}
use Rattle.steer_invariant.proofs.EitherLemmas.{either}

-- an open gate lets an actor in, if it is not inside
pub enters : (s : HopState) (a : ℕ) → a < length s.visits → s.bare.closed ≡ false
    → inside_of (happens s (event.Enter a)).0 a ≡ true
enters s a named opened =
    either (λ (o : Outcome). inside_of o.0 a ≡ true) (inside_of s a) (idles s idle.AlreadyInside) _
    (λ in'. in')
    (λ out. either (λ (o : Outcome). inside_of o.0 a ≡ true) s.bare.closed (s, answer.Closed)
    (with_visit s a true (s.bare.inside + 1), answer.Done)
    (λ shut. absurd (let e : false ≡ true = sym opened ∙ shut in cc))
    (λ free. get_or-set_same s.visits a true false named))

-- a packet that arrives for an empty hand is taken up
pub takes : (s : HopState) (a : ℕ) → a < length s.taken → taken_of s a ≤ placed_of s a
    → taken_of s a < length (arrivals_of s a) → taken_of (happens s (event.Take a)).0 a ≡ taken_of s
    a + 1
takes s a named empty more =
    either (λ (o : Outcome). taken_of o.0 a ≡ taken_of s a + 1)
    (nat_lt (placed_of s a) (taken_of s a))
    (idles s idle.HandFull) _
    (λ full. absurd (let f = ltb-true _ _ full in omega (arith, f, empty)))
    (λ free. either (λ (o : Outcome). taken_of o.0 a ≡ taken_of s a + 1)
    (nat_lt (taken_of s a) (length (arrivals_of s a))) (took s a, _) (idles s idle.RingEmpty)
    (λ some. get_or-set_same s.taken a (taken_of s a + 1) 0 named)
    (λ none. absurd (let f = ltb-false _ _ none in omega (arith, f, more))))

-- with a packet in hand there is a choice to put after the weighing
pub weighs : (s : HopState) (a : ℕ) (class want : Option ℕ) (desired : ℕ) (online : CpuMask)
    → a < length s.choices
    → inside_of s a ≡ true → placed_of s a ≤ length (choices_of s a) → placed_of s a < taken_of s a
    → placed_of s a < length (choices_of (happens s (event.Weigh a class want desired online)).0 a)
weighs s a class want desired online named in' upto more =
    let Q : Outcome → Type 0 = λ o. placed_of s a < length (choices_of o.0 a) in
    either Q (not (inside_of s a)) (idles s idle.NotInside) _
    (λ out. absurd (let e : not true ≡ true = ap not (sym in') ∙ out in cc))
    (λ inside. either Q (nat_lt (length (choices_of s a)) (taken_of s a))
    (chose s a (choice_of s a class want desired online), _) (idles s idle.WrongStage)
    (λ some. (
    let c : Chosen =
    record { id = next_of s a; choice = choice_of s a class want desired online } in
    let e : choices_of (chose s a c.choice) a ≡ choices_of s a ++ c ∷ [] =
    get_or-set_same s.choices a (choices_of s a ++ c ∷ []) [] named in
    let l : length (choices_of (chose s a c.choice) a) ≡ length (choices_of s a) + 1 =
    ap length e ∙ length-push (choices_of s a) c in
    omega (arith, l, upto)))
    (λ none. (let f = ltb-false _ _ none in omega (arith, f, more))))

-- and then it is put
pub puts : (s : HopState) (a : ℕ) (hash : Option ℕ) → a < length s.placed → inside_of s a ≡ true
    → placed_of s a < length (choices_of s a) → placed_of
    (happens s (event.Put a hash)).0 a ≡ placed_of s a + 1
puts s a hash named in' more =
    let Q : Outcome → Type 0 = λ o. placed_of o.0 a ≡ placed_of s a + 1 in
    either Q (not (inside_of s a)) (idles s idle.NotInside) _
    (λ out. absurd (let e : not true ≡ true = ap not (sym in') ∙ out in cc))
    (λ inside. either Q (nat_lt (placed_of s a) (length (choices_of s a))) (put_one s a hash, _)
    (idles s idle.WrongStage)
    (λ some. get_or-set_same s.placed a (placed_of s a + 1) 0 named)
    (λ none. absurd (let f = ltb-false _ _ none in omega (arith, f, more))))
