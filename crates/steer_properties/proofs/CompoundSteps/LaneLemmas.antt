-- A pull, a delivery and a retire of a lane with a packet that is not retired retire one packet.
use Rattle.std.proofs.Common.{ℕ, ◌+◌, ◌<◌, ◌≤◌, ◌≡◌, Bool, cond, List, length, ap, ◌∙◌}
use Rattle.std.proofs.Common.{refl, sym, subst, arith}
use Rattle.std.specs.Prelude.{nat_lt, slice_index, slice_set}
use Rattle.std.proofs.lemmas.Bool.{ltb-false, ltb-true}
use Rattle.std.proofs.lemmas.List.{get_or-set_same}
use Rattle.steer_base.specs.declared.idle.Idle.TheVariants as idle
use Rattle.hop_model.specs.declared.event.HopAnswer.TheVariants as answer
use Rattle.hop_model.specs.declared.event.HopEvent.TheVariants as event
use Rattle.hop_model.specs.Events.{Outcome, happens, idles}
use Rattle.hop_model.specs.Hop.{HopState, accepted_at, deliver_at, delivered_at, out_at, pull_at}
use Rattle.hop_model.specs.Hop.{pulled_at, retire_at, retired_at, with_bare}
use Rattle.hop_core.specs.Leaves.{Field}
use Rattle.hop_model.specs.Sound.{Sound}
use Rattle.hop_core.proofs.Leaves.{each_leaves}
use Rattle.steer_invariant.proofs.EitherLemmas.{either}
use Rattle.steer_properties.specs.CompoundSteps.{RetiresOne}

-- a count that rose by one
raised : (ns : List ℕ) (c : ℕ) → c < length ns
    → slice_index (slice_set ns c (slice_index ns c + 1)) c ≡ slice_index ns c + 1
raised ns c lt = get_or-set_same ns c (slice_index ns c + 1) 0 lt

-- after a pull there is a packet in hand
pull-fills : (s : HopState) (c : ℕ) → Sound s → c < length s.bare.accepted
    → retired_at s.bare c < length (accepted_at s.bare c)
    → retired_at s.bare c < pulled_at (happens s (event.Pull c)).0.bare c
pull-fills s c h in' left =
    let w = h.wide in
    let low : retired_at s.bare c ≤ pulled_at s.bare c =
    (let a = h.counts.retired_first c in let b = h.counts.delivered_first c in omega (arith, a, b))
    in
    let one : pulled_at (pull_at s.bare c) c ≡ pulled_at s.bare c + 1 =
    raised s.bare.pulled c (omega (arith, in', w.pulled)) in
    let pulls : Outcome = (
      with_bare s (pull_at s.bare c),
      answer.Took (slice_index (accepted_at s.bare c) (pulled_at s.bare c)),
    ) in
    let more : Bool = nat_lt (pulled_at s.bare c) (length (accepted_at s.bare c)) in
    either (λ (o : Outcome). retired_at s.bare c < pulled_at o.0.bare c)
    (nat_lt (retired_at s.bare c) (pulled_at s.bare c)) (idles s idle.HandFull)
    (cond more pulls (idles s idle.NothingWaiting))
    (λ full. ltb-true _ _ full)
    (λ free. either (λ (o : Outcome). retired_at s.bare c < pulled_at o.0.bare c) more pulls
    (idles s idle.NothingWaiting)
    (λ waits. omega (arith, low, one))
    (λ none. absurd (let a = ltb-false _ _ free in let b = ltb-false _ _ none in
    omega (arith, a, b, left))))

-- after a delivery the packet in hand is delivered
deliver-gives : (s : HopState) (c o : ℕ) → Sound s → c < length s.bare.accepted
    → retired_at s.bare c < pulled_at s.bare c
    → retired_at s.bare c < delivered_at (happens s (event.Deliver c o)).0.bare c
deliver-gives s c o h in' full =
    let w = h.wide in
    let low = h.counts.retired_first c in
    let one : delivered_at (deliver_at s.bare c o) c ≡ delivered_at s.bare c + 1 =
    raised s.bare.delivered c (omega (arith, in', w.delivered)) in
    let gives : Outcome =
    (with_bare s (deliver_at s.bare c o), answer.Position (length (out_at s.bare o) + 1)) in
    let done : Bool = nat_lt (retired_at s.bare c) (delivered_at s.bare c) in
    either (λ (r : Outcome). retired_at s.bare c < delivered_at r.0.bare c)
    (nat_lt (delivered_at s.bare c) (pulled_at s.bare c)) gives
    (cond done (idles s idle.AlreadyDelivered) (idles s idle.HandEmpty))
    (λ has. omega (arith, low, one))
    (λ not'. either (λ (r : Outcome). retired_at s.bare c < delivered_at r.0.bare c) done
    (idles s idle.AlreadyDelivered) (idles s idle.HandEmpty)
    (λ was. ltb-true _ _ was)
    (λ none. absurd (let a = ltb-false _ _ not' in let b = ltb-false _ _ none in
    omega (arith, a, b, full))))

-- a retire of a delivered packet raises the head by one
retire-raises : (s : HopState) (c : ℕ) → Sound s → c < length s.bare.accepted
    → retired_at s.bare c < delivered_at s.bare c
    → retired_at (happens s (event.Retire c)).0.bare c ≡ retired_at s.bare c + 1
retire-raises s c h in' given =
    let w = h.wide in
    let one : retired_at (retire_at s.bare c) c ≡ retired_at s.bare c + 1 =
    raised s.bare.retired c (omega (arith, in', w.retired)) in
    let retires : Outcome = (with_bare s (retire_at s.bare c), answer.Done) in
    either (λ (o : Outcome). retired_at o.0.bare c ≡ retired_at s.bare c + 1)
    (nat_lt (retired_at s.bare c) (delivered_at s.bare c)) retires
    (cond (nat_lt (delivered_at s.bare c) (pulled_at s.bare c)) (idles s idle.NotDelivered)
    (idles s idle.HandEmpty))
    (λ _. one)
    (λ none. absurd (let a = ltb-false _ _ none in omega (arith, a, given)))

-- ---- the three in a row

abbrev pub after_pull : HopState → ℕ → HopState
after_pull s c = (happens s (event.Pull c)).0

abbrev pub after_delivery : HopState → ℕ → ℕ → HopState
after_delivery s c o = (happens (after_pull s c) (event.Deliver c o)).0

abbrev pub after_round : HopState → ℕ → ℕ → HopState
after_round s c o = (happens (after_delivery s c o) (event.Retire c)).0

pub round-retires : (s : HopState) (c o : ℕ) → Sound s → Sound (after_pull s c)
    → Sound (after_delivery s c o) → c < length s.bare.accepted
    → retired_at s.bare c < length (accepted_at s.bare c)
    → RetiresOne s.bare (after_round s c o).bare c
round-retires s c o h ht hu in' left =
    let t : HopState = after_pull s c in
    let u : HopState = after_delivery s c o in
    let at : List ℕ → ℕ = λ ns. slice_index ns c in
    let acc-t : t.bare.accepted ≡ s.bare.accepted =
    each_leaves s (event.Pull c) Field.accepted refl in
    let acc-u : u.bare.accepted ≡ t.bare.accepted =
    each_leaves t (event.Deliver c o) Field.accepted refl in
    let acc-v : (after_round s c o).bare.accepted ≡ u.bare.accepted =
    each_leaves u (event.Retire c) Field.accepted refl in
    let ret-t : retired_at t.bare c ≡ retired_at s.bare c =
    ap at (each_leaves s (event.Pull c) Field.retired refl) in
    let ret-u : retired_at u.bare c ≡ retired_at t.bare c =
    ap at (each_leaves t (event.Deliver c o) Field.retired refl) in
    let in-t : c < length t.bare.accepted =
    subst (λ (l : List (List ℕ)). c < length l) (sym acc-t) in' in
    let in-u : c < length u.bare.accepted =
    subst (λ (l : List (List ℕ)). c < length l) (sym acc-u) in-t in
    let fills = pull-fills s c h in' left in
    let gives = deliver-gives t c o ht in-t (omega (arith, fills, ret-t)) in
    let raises = retire-raises u c hu in-u (omega (arith, gives, ret-u)) in
    record {
      accepted = acc-v ∙ acc-u ∙ acc-t;
      retired = omega (arith, raises, ret-u, ret-t);
    }
