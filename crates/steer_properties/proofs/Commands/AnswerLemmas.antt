-- How each command was answered, as it stays through every step.
use Rattle.std.proofs.Common.{ℕ, ◌≤◌, ◌<◌, ◌≡◌, ◌≢◌, ◌⊎◌, Bool, true, false}
use Rattle.std.proofs.Common.{not, List, [], ◌∷◌, Option, Some, None, length, refl, ap}
use Rattle.std.proofs.Common.{◌∙◌, sym, subst, arith, inl, inr}
use Rattle.std.specs.Prelude.{◌==◌}
use Rattle.std.specs.List.{All}
use Rattle.std.proofs.lemmas.Bool.{and_parts, eq-eqb}
use Rattle.std.proofs.lemmas.List.Elements.{All-head}
use Rattle.std.proofs.lemmas.List.Sums.{count_by-le-length, length-filter}
use Rattle.steer_base.specs.Commands.{refusal}
use Rattle.steer_base.specs.Counters.{number}
use Rattle.steer_base.specs.declared.command.Answer.{Answer}
use Rattle.steer_base.specs.declared.command.Answer.TheVariants as says
use Rattle.steer_base.specs.declared.command.Busy.{Busy}
use Rattle.steer_base.specs.declared.command.Busy.TheVariants as busy
use Rattle.steer_base.specs.declared.command.Command.{Command}
use Rattle.steer_base.specs.declared.command.Command.TheVariants as give
use Rattle.steer_base.specs.declared.command.Refused.{Refused}
use Rattle.steer_base.proofs.SetsLemmas.{those_below-below, those_below-passes}
use Rattle.hop_model.specs.Emptied.{emptied_of, first_busy, is_waiting, waiting}
use Rattle.hop_model.specs.Hop.{HopState, accepted_at, head_at, retired_at, tail_at}
use Rattle.hop_model.specs.Sound.{Sound}
use Rattle.steer_model.specs.Steps.Commands.{affects, answer_to, by_gate, emptied_answer}
use Rattle.steer_model.specs.Steps.Commands.{gated, gone, may_go, refused_answer, refused_or}
use Rattle.steer_model.specs.Good.Commands.{refused_with}
use Rattle.steer_model.specs.Good.Inputs.{Input, setup_in}
use Rattle.steer_model.specs.State.Machine.{Machine}
use Rattle.steer_model.specs.State.Settings.{Settings}
use Rattle.steer_model.specs.State.Setup.{Setup}
use Rattle.steer_invariant.specs.StepInvariant.{StepInvariant}
use Rattle.steer_invariant.proofs.EitherLemmas.{either}
use Rattle.steer_properties.proofs.Histories.ExtendLemmas.{extends-length}
use Rattle.steer_properties.proofs.Histories.LastingLemmas.{Lasts}
use Rattle.steer_properties.proofs.Histories.HopGrowthLemmas.{Stays}

-- ---- how a command ends

-- a lane that had to be empty was not, by counts that the lane has reached
pub record Waits (p : Setup) (c : Command) (s : HopState) (lane head tail : ℕ) : Type 0 where
  pub within : lane < length s.bare.accepted
  pub asked : affects p c lane ≡ true
  pub retired : ℕ
  pub accepted : ℕ
  pub head_is : head ≡ number s.fixed.start retired
  pub tail_is : tail ≡ number s.fixed.start accepted
  pub less : retired < accepted
  pub gone_by : retired ≤ retired_at s.bare lane
  pub here_by : accepted ≤ length (accepted_at s.bare lane)

abbrev pub IsBusyAt : Setup → Command → HopState → Busy → Type 0
IsBusyAt p c s (busy.Inside n) = 1 ≤ n
IsBusyAt p c s (busy.NotEmpty lane head tail) = Waits p c s lane head tail

-- at a gate: done, or busy
abbrev pub IsGated : Setup → Command → HopState → Answer → Type 0
IsGated p c s a =
    (a ≡ says.Done) ⊎ ((why : Busy) × (a ≡ says.Busy why) × IsBusyAt p c s why)

abbrev pub Ends : Machine → Command → Answer → Type 0
Ends m (give.Mask q mask) a = IsGated m.setup (give.Mask q mask) m.rx a
Ends m (give.Flows q count) a = IsGated m.setup (give.Flows q count) m.rx a
Ends m (give.Sock size) a = IsGated m.setup (give.Sock size) m.rx a
Ends m (give.Offline cpu) a = IsGated m.setup (give.Offline cpu) m.rx a
Ends m (give.Online cpu) a = IsGated m.setup (give.Online cpu) m.rx a
Ends m (give.XCpus tx mask) a = IsGated m.setup (give.XCpus tx mask) m.tx a
Ends m (give.XQueues tx queues) a = IsGated m.setup (give.XQueues tx queues) m.tx a
Ends m (give.Reta place q) a = a ≡ says.Done
Ends m (give.Stand app cpu) a = a ≡ says.Done
Ends m give.Expire a = (n : ℕ) × (a ≡ says.Expired n) × (n ≤ length m.filters)

-- why it may not be given, else how it ends
abbrev pub AnswersBy : Machine → Command → Option Refused → Answer → Type 0
AnswersBy m c (Some why) a = a ≡ refused_answer why
AnswersBy m c None a = Ends m c a

-- ---- it stays so

waits-last : (p q : Setup) (c : Command) (s t : HopState) (lane head tail : ℕ) → q ≡ p
    → Stays s t → Waits p c s lane head tail → Waits q c t lane head tail
waits-last p q c s t lane head tail same stays w =
    let start : s.fixed.start ≡ t.fixed.start = ap (λ f. f.start) (sym stays.fixed) in
    let b = w.within in let g = w.gone_by in let h = w.here_by in
    record {
      within = (let e = stays.lanes in omega (arith, b, e));
      asked = ap (λ (r : Setup). affects r c lane) same ∙ w.asked;
      retired = w.retired;
      accepted = w.accepted;
      head_is = w.head_is ∙ ap (λ n. number n w.retired) start;
      tail_is = w.tail_is ∙ ap (λ n. number n w.accepted) start;
      less = w.less;
      gone_by = (let e = stays.retired lane in omega (arith, g, e));
      here_by = (
          let e = extends-length (accepted_at s.bare lane) (accepted_at t.bare lane)
          (stays.accepted lane) in
          omega (arith, h, e));
    }

busy-lasts : (p q : Setup) (c : Command) (s t : HopState) (why : Busy) → q ≡ p → Stays s t
    → IsBusyAt p c s why → IsBusyAt q c t why
busy-lasts p q c s t (busy.Inside n) same stays b = b
busy-lasts p q c s t (busy.NotEmpty lane head tail) same stays b =
    waits-last p q c s t lane head tail same stays b

gated-lasts : (p q : Setup) (c : Command) (s t : HopState) (a : Answer) → q ≡ p → Stays s t
    → IsGated p c s a → IsGated q c t a
gated-lasts p q c s t a same stays (inl done) = inl done
gated-lasts p q c s t a same stays (inr b) =
    inr (b.0, b.1, busy-lasts p q c s t b.0 same stays b.2)

ends-last : (m n : Machine) (c : Command) (a : Answer) → Lasts m n → Ends m c a → Ends n c a
ends-last m n (give.Mask q mask) a l e =
    gated-lasts m.setup n.setup (give.Mask q mask) m.rx n.rx a l.setup l.rx e
ends-last m n (give.Flows q count) a l e =
    gated-lasts m.setup n.setup (give.Flows q count) m.rx n.rx a l.setup l.rx e
ends-last m n (give.Sock size) a l e =
    gated-lasts m.setup n.setup (give.Sock size) m.rx n.rx a l.setup l.rx e
ends-last m n (give.Offline cpu) a l e =
    gated-lasts m.setup n.setup (give.Offline cpu) m.rx n.rx a l.setup l.rx e
ends-last m n (give.Online cpu) a l e =
    gated-lasts m.setup n.setup (give.Online cpu) m.rx n.rx a l.setup l.rx e
ends-last m n (give.XCpus tx mask) a l e =
    gated-lasts m.setup n.setup (give.XCpus tx mask) m.tx n.tx a l.setup l.tx e
ends-last m n (give.XQueues tx queues) a l e =
    gated-lasts m.setup n.setup (give.XQueues tx queues) m.tx n.tx a l.setup l.tx e
ends-last m n (give.Reta place q) a l e = e
ends-last m n (give.Stand app cpu) a l e = e
ends-last m n give.Expire a l e =
    (e.0, e.1, (let b = e.2 in let f = l.filters in omega (arith, b, f)))

pub answers-last : (m n : Machine) (c : Command) (why : Option Refused) (a : Answer) → Lasts m n
    → AnswersBy m c why a → AnswersBy n c why a
answers-last m n c (Some why) a l e = e
answers-last m n c None a l e = ends-last m n c a l e

-- ---- a new answer

busy-new : (p : Setup) (c : Command) (s : HopState) (xs : List ℕ) → Sound s
    → waiting s (affects p c) ≡ xs → IsGated p c s (emptied_answer (first_busy s xs))
busy-new p c s [] h e = inl refl
busy-new p c s (lane ∷ rest) h e =
    let asked : ℕ → Bool = affects p c in
    let many : ℕ = length s.bare.accepted in
    let test : is_waiting s asked lane ≡ true =
    All-head (λ i. is_waiting s asked i ≡ true) lane rest
    (subst (All (λ i. is_waiting s asked i ≡ true)) e
    (those_below-passes many (is_waiting s asked))) in
    let below : lane < many =
    All-head (λ i. i < many) lane rest
    (subst (All (λ i. i < many)) e (those_below-below many (is_waiting s asked))) in
    let both = and_parts (asked lane)
    (not (retired_at s.bare lane == length (accepted_at s.bare lane))) test in
    let other : retired_at s.bare lane ≢ length (accepted_at s.bare lane) =
    λ same. (
    let f = eq-eqb (retired_at s.bare lane) (length (accepted_at s.bare lane)) same in
    let g : false ≡ true = rw f at both.1 in cc) in
    let a = h.counts.retired_first lane in let b = h.counts.delivered_first lane in
    let d = h.counts.pulled_first lane in
    inr (
      busy.NotEmpty lane (head_at s.fixed.start s.bare lane) (tail_at s.fixed.start s.bare lane),
      refl,
      record {
        within = below;
        asked = both.0;
        retired = retired_at s.bare lane;
        accepted = length (accepted_at s.bare lane);
        head_is = refl;
        tail_is = refl;
        less = omega (arith, a, b, d, other);
        gone_by = omega arith;
        here_by = omega arith;
      },
    )

gated-new : (p : Setup) (c : Command) (s : HopState) → Sound s
    → IsGated p c s (gated s (affects p c))
gated-new p c s h =
    either (IsGated p c s) (s.bare.inside == 0)
    (emptied_answer (emptied_of s (affects p c))) (says.Busy (busy.Inside s.bare.inside))
    (λ alone. busy-new p c s (waiting s (affects p c)) h refl)
    (λ some. inr (
      busy.Inside s.bare.inside,
      refl,
      (let ne : s.bare.inside ≢ 0 = λ same. (
          let f = eq-eqb s.bare.inside 0 same in
          let g : true ≡ false = sym f ∙ some in cc) in
          omega (arith, ne)),
    ))

ends-new : (m : Machine) (c : Command) → StepInvariant m → Ends m c (by_gate m c)
ends-new m (give.Mask q mask) k = gated-new m.setup (give.Mask q mask) m.rx k.rx.sound
ends-new m (give.Flows q count) k = gated-new m.setup (give.Flows q count) m.rx k.rx.sound
ends-new m (give.Sock size) k = gated-new m.setup (give.Sock size) m.rx k.rx.sound
ends-new m (give.Offline cpu) k = gated-new m.setup (give.Offline cpu) m.rx k.rx.sound
ends-new m (give.Online cpu) k = gated-new m.setup (give.Online cpu) m.rx k.rx.sound
ends-new m (give.XCpus tx mask) k = gated-new m.setup (give.XCpus tx mask) m.tx k.tx.sound
ends-new m (give.XQueues tx queues) k =
    gated-new m.setup (give.XQueues tx queues) m.tx k.tx.sound
ends-new m (give.Reta place q) k = refl
ends-new m (give.Stand app cpu) k = refl
ends-new m give.Expire k =
    let few = count_by-le-length (may_go m) m.filters in
    let is = length-filter (may_go m) m.filters in
    (gone m, refl, omega (arith, few, is))

answers-by : (m : Machine) (c : Command) (why : Option Refused) → StepInvariant m
    → AnswersBy m c why (refused_or why (by_gate m c))
answers-by m c (Some why) k = refl
answers-by m c None k = ends-new m c k

-- with other settings that are the same ones
pub answers-new : (i : Input) (m : Machine) (s : Settings) (c : Command) → StepInvariant m
    → m.setup ≡ setup_in i → m.settings ≡ s → AnswersBy m c (refused_with i s c) (answer_to m c)
answers-new i m s c k setup settings =
    subst
    (λ (p : Setup). AnswersBy m c (refusal s.online c p.homes s.stands) (answer_to m c)) setup
    (subst
    (λ (t : Settings). AnswersBy m c (refusal t.online c m.setup.homes t.stands) (answer_to m c))
    settings
    (answers-by m c (refusal m.settings.online c m.setup.homes m.settings.stands) k))
