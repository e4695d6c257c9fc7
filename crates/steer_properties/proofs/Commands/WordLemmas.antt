-- How each command was answered, in the words of a history.
use Rattle.std.proofs.Common.{ℕ, ◌≤◌, ◌≡◌, ◌⊎◌, List, Option, Some, None, length, refl, ap}
use Rattle.std.proofs.Common.{◌∙◌, sym, arith, inl, inr}
use Rattle.history.specs.Lists.{lane_at}
use Rattle.history.specs.declared.commanded.Commanded.{Commanded}
use Rattle.history.specs.declared.lane_list.LaneList.{LaneList}
use Rattle.hop_model.specs.Hop.{HopState, accepted_at, retired_at}
use Rattle.hop_model.specs.Sound.{Sound}
use Rattle.hop_core.proofs.Fits.{fits_room}
use Rattle.steer_base.specs.Counters.{distance, number}
use Rattle.steer_base.specs.declared.command.Answer.{Answer}
use Rattle.steer_base.specs.declared.command.Answer.TheVariants as says
use Rattle.steer_base.specs.declared.command.Busy.{Busy}
use Rattle.steer_base.specs.declared.command.Busy.TheVariants as busy
use Rattle.steer_base.specs.declared.command.Command.{Command}
use Rattle.steer_base.specs.declared.command.Command.TheVariants as give
use Rattle.steer_base.specs.declared.command.Refused.{Refused}
use Rattle.steer_model.specs.Steps.Commands.{affects}
use Rattle.steer_model.specs.Good.Commands.{IsAnswer, IsEnd, MayBeBusy, gate_lanes, refused_with}
use Rattle.steer_model.specs.Good.Inputs.{Input, settings_at, setup_in}
use Rattle.steer_model.specs.State.Machine.{Machine, history_of, history_lanes}
use Rattle.steer_model.specs.State.Settings.{Settings}
use Rattle.steer_model.specs.State.Setup.{Setup}
use Rattle.steer_invariant.specs.StepInvariant.{StepInvariant}
use Rattle.steer_invariant.proofs.LaneLemmas.{lane-is, lists-long}
use Rattle.steer_properties.specs.Commands.Answered.{AreAnswered, IsInside}
use Rattle.steer_properties.proofs.Commands.AnswerLemmas.{AnswersBy, Ends, IsBusyAt, IsGated, Waits}
use Rattle.steer_properties.proofs.Commands.StepLemmas.{Commanding}
use Rattle.steer_properties.proofs.Choices.HeadLemmas.{distance-is}
use Rattle.steer_properties.proofs.Choices.ReplyRuleLemmas.{SameStart}

module _ (i : Input) (m : Machine) (setup : m.setup ≡ setup_in i) (start : SameStart m)
    (rows : length m.filters ≡ i.plan.filters) (k : StepInvariant m) where
  -- a lane that had to be empty was not
  busy-lane : (c : Command) (s : HopState) (lane head tail : ℕ) → Sound s
      → s.fixed.start ≡ m.rx.fixed.start → Waits m.setup c s lane head tail
      → MayBeBusy i (history_of m) (history_lanes s.bare) c (busy.NotEmpty lane head tail)
  busy-lane c s lane head tail h same w =
      let first = m.rx.fixed.start in
      let few = (fits_room s h).puts lane in let room = h.small.room in
      let in' = w.within in let gone = w.gone_by in let here = w.here_by in let less = w.less in
      let r : ℕ = w.retired in let t : ℕ = w.accepted in
      let a = h.counts.retired_first lane in let b = h.counts.delivered_first lane in
      let d = h.counts.pulled_first lane in
      let z = h.small.start in
      let head-is : distance head first ≡ r =
      ap (λ x. distance x first) w.head_is ∙ ap (distance (number s.fixed.start r)) (sym same)
      ∙ distance-is s.fixed.start r z (omega (arith, gone, a, b, d, few, room)) in
      let tail-is : distance tail first ≡ t =
      ap (λ x. distance x first) w.tail_is ∙ ap (distance (number s.fixed.start t)) (sym same)
      ∙ distance-is s.fixed.start t z (omega (arith, here, few, room)) in
      let long = lists-long s h in
      let retired : (lane_at (history_lanes s.bare) lane).retired ≡ retired_at s.bare lane =
      ap (λ (l : LaneList). l.retired) (lane-is s h lane) in
      let accepted : length (lane_at (history_lanes s.bare) lane).accepted
      ≡ length (accepted_at s.bare lane) =
      ap (λ (l : LaneList). length l.accepted) (lane-is s h lane) in (
        omega (arith, in', long),
        ap (λ (p : Setup). affects p c lane) (sym setup) ∙ w.asked,
        omega (arith, head-is, tail-is, less),
        omega (arith, head-is, retired, gone),
        omega (arith, tail-is, accepted, here),
      )

  -- somebody was inside
  abbrev Inside : Command → Answer → Type 0
  Inside c a =
      (number : ℕ) × (a ≡ says.Busy (busy.Inside number)) × (1 ≤ number)
      × (lanes : List LaneList) × (gate_lanes (history_of m) c ≡ Some lanes)

  -- an end, or busy as the clause on commands says
  abbrev Allowed : Command → Answer → Type 0
  Allowed c a = IsAnswer i (history_of m) c None a ⊎ Inside c a

  busy-allowed : (c : Command) (s : HopState) (a : Answer) (why : Busy) → Sound s
      → s.fixed.start ≡ m.rx.fixed.start
      → gate_lanes (history_of m) c ≡ Some (history_lanes s.bare) → a ≡ says.Busy why
      → IsBusyAt m.setup c s why → Allowed c a
  busy-allowed c s a (busy.Inside number) h same gate is some =
      inr (number, is, some, history_lanes s.bare, gate)
  busy-allowed c s a (busy.NotEmpty lane head tail) h same gate is w =
      inl
      (inr (
        history_lanes s.bare,
        busy.NotEmpty lane head tail,
        gate,
        is,
        busy-lane c s lane head tail h same w,
      ))

  gated-allowed : (c : Command) (s : HopState) (a : Answer) → Sound s
      → s.fixed.start ≡ m.rx.fixed.start
      → gate_lanes (history_of m) c ≡ Some (history_lanes s.bare)
      → (a ≡ says.Done → IsEnd i c a) → IsGated m.setup c s a → Allowed c a
  gated-allowed c s a h same gate end (inl done) = inl (inl (end done))
  gated-allowed c s a h same gate end (inr b) = busy-allowed c s a b.0 h same gate b.1 b.2

  ends-allowed : (c : Command) (a : Answer) → Ends m c a → Allowed c a
  ends-allowed (give.Mask q mask) a e =
      gated-allowed (give.Mask q mask) m.rx a k.rx.sound refl refl (λ d. d) e
  ends-allowed (give.Flows q count) a e =
      gated-allowed (give.Flows q count) m.rx a k.rx.sound refl refl (λ d. d) e
  ends-allowed (give.Sock size) a e =
      gated-allowed (give.Sock size) m.rx a k.rx.sound refl refl (λ d. d) e
  ends-allowed (give.Offline cpu) a e =
      gated-allowed (give.Offline cpu) m.rx a k.rx.sound refl refl (λ d. d) e
  ends-allowed (give.Online cpu) a e =
      gated-allowed (give.Online cpu) m.rx a k.rx.sound refl refl (λ d. d) e
  ends-allowed (give.XCpus tx mask) a e =
      gated-allowed (give.XCpus tx mask) m.tx a k.tx.sound start refl (λ d. d) e
  ends-allowed (give.XQueues tx queues) a e =
      gated-allowed (give.XQueues tx queues) m.tx a k.tx.sound start refl (λ d. d) e
  ends-allowed (give.Reta place q) a e = inl (inl e)
  ends-allowed (give.Stand app cpu) a e = inl (inl e)
  ends-allowed give.Expire a e =
      inl (inl (e.0, e.1, (let few = e.2 in omega (arith, few, rows))))

  by-refusal : (s : Settings) (c : Commanded) (why : Option Refused)
      → refused_with i s c.command ≡ why → AnswersBy m c.command why c.answer
      → IsAnswer i (history_of m) c.command why c.answer ⊎ IsInside i (history_of m) s c
  by-refusal s c (Some why) is e = inl e
  by-refusal s c None is e =
      elim (ends-allowed c.command c.answer e) [
        | inl allowed ↦ inl allowed
        | inr w ↦ inr (record {
          number = w.0;
          answer = w.1;
          some = w.2;
          allowed = is;
          lanes = w.3;
          gate = w.4;
        })
      ]

  pub commands-answered : Commanding i m → AreAnswered i (history_of m)
  commands-answered w j c is =
      let s : Settings = settings_at i (history_of m) j in
      by-refusal s c (refused_with i s c.command) refl (w.answered j c is)
