-- Lists of events that are joined, and the round of a lane.
use Rattle.std.proofs.Common.{ℕ, ◌+◌, ◌<◌, ◌≡◌, [], ◌∷◌, ◌++◌, length, refl, ap, ◌∙◌, sym, subst}
use Rattle.std.proofs.Common.{arith}
use Rattle.std.specs.Prelude.{slice_index}
use Rattle.std.proofs.lemmas.Bool.{le-ltb, lt-ltb}
use Rattle.hop_model.specs.declared.event.HopEvent.TheVariants as event
use Rattle.hop_model.specs.Hop.{HopState, accepted_at, delivered_at, pulled_at, retired_at, out_at}
use Rattle.hop_model.specs.Hop.{next_out, pull_at, deliver_at, retire_at, with_bare}
use Rattle.hop_model.specs.Events.{happens, run}
use Rattle.hop_core.specs.Rounds.{AsksAreJoined, RoundMayBeAsked, RoundRetiresOne, RunsAreJoined}
use Rattle.hop_core.specs.Rounds.{WentThrough, round_of}
use Rattle.hop_core.proofs.Lists.{Changed-set}
use Rattle.hop_core.proofs.Sizes.{Sizes-happens}

pub runs_are_joined : RunsAreJoined
runs_are_joined [] fs s = refl
runs_are_joined (e ∷ es) fs s = runs_are_joined es fs (happens s e).0

pub asks_are_joined : AsksAreJoined
asks_are_joined [] fs s = (λ all. (tt, all), λ both. both.1)
asks_are_joined (e ∷ es) fs s =
    let rest = asks_are_joined es fs (happens s e).0 in (
      λ all. ((all.0, (rest.0 all.1).0), (rest.0 all.1).1),
      λ both. (both.0.0, rest.1 (both.0.1, both.1)),
    )

-- ---- a round

pulled-is : (s : HopState) (c : ℕ) → pulled_at s.bare c ≡ retired_at s.bare c
    → retired_at s.bare c < length (accepted_at s.bare c)
    → (happens s (event.Pull c)).0 ≡ with_bare s (pull_at s.bare c)
pulled-is s c free more =
    rw (
      le-ltb (retired_at s.bare c) (pulled_at s.bare c) (omega arith),
      lt-ltb (pulled_at s.bare c) (length (accepted_at s.bare c)) (omega arith),
    ) refl

delivered-is : (s : HopState) (c o : ℕ) → delivered_at s.bare c < pulled_at s.bare c
    → (happens s (event.Deliver c o)).0 ≡ with_bare s (deliver_at s.bare c o)
delivered-is s c o more = rw (lt-ltb (delivered_at s.bare c) (pulled_at s.bare c) more) refl

retired-is : (s : HopState) (c : ℕ) → retired_at s.bare c < delivered_at s.bare c
    → (happens s (event.Retire c)).0 ≡ with_bare s (retire_at s.bare c)
retired-is s c more = rw (lt-ltb (retired_at s.bare c) (delivered_at s.bare c) more) refl

pub round_may_be_asked : RoundMayBeAsked
round_may_be_asked s c o lane out =
    let t : HopState = (happens s (event.Pull c)).0 in
    let a = Sizes-happens s (event.Pull c) in
    let b = Sizes-happens t (event.Deliver c o) in (
      lane,
      (
        record { lane = rw a.lanes lane; out = rw a.outs out },
        (rw (b.lanes, a.lanes) lane, tt),
      ),
    )

-- the state after a round
abbrev rounded : HopState → ℕ → ℕ → HopState
rounded s c o = with_bare s (retire_at (deliver_at (pull_at s.bare c) c o) c)

pub round_retires_one : RoundRetiresOne
round_retires_one s c o h lane out free more =
    let w = h.wide in
    let a = h.counts.retired_first c in let b = h.counts.delivered_first c in
    let held : delivered_at s.bare c ≡ retired_at s.bare c = omega arith in
    let s1 : HopState = with_bare s (pull_at s.bare c) in
    let s2 : HopState = with_bare s1 (deliver_at s1.bare c o) in
    let pulled = Changed-set s.bare.pulled c (pulled_at s.bare c + 1) 0 (omega arith) in
    let delivered = Changed-set s.bare.delivered c (delivered_at s.bare c + 1) 0 (omega arith) in
    let retired = Changed-set s.bare.retired c (retired_at s.bare c + 1) 0 (omega arith) in
    let outs = Changed-set s.bare.outs o (out_at s.bare o ++ next_out s.bare c ∷ []) [] out in
    let in_hand : delivered_at s1.bare c < pulled_at s1.bare c = rw pulled.here (omega arith) in
    let gone : retired_at s2.bare c < delivered_at s2.bare c = rw delivered.here (omega arith) in
    let is : run (round_of c o) s ≡ rounded s c o =
    ap (λ t. (happens (happens t (event.Deliver c o)).0 (event.Retire c)).0)
    (pulled-is s c free more)
    ∙ ap (λ t. (happens t (event.Retire c)).0) (delivered-is s1 c o in_hand)
    ∙ retired-is s2 c gone in
    subst (λ t. WentThrough s t c o) (sym is)
    (assumption (
      pulled.here ∙ ap (λ n. n + 1) free ∙ sym retired.here,
      outs.here ∙ ap (λ n. out_at s.bare o ++ slice_index (accepted_at s.bare c) n ∷ []) held,
    ))
