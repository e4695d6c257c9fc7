-- What another flow count keeps: the gate closes, the queue's entries are cleared, the gate opens.
use Rattle.std.proofs.Common.{ℕ, ◌≤◌, ◌<◌, ◌≡◌, ◌≢◌, true, List, [], ◌∷◌, length, refl, ap, ◌∙◌}
use Rattle.std.proofs.Common.{sym, subst, arith}
use Rattle.std.specs.Prelude.{slice_set}
use Rattle.std.proofs.lemmas.Bool.{lt-ltb}
use Rattle.std.proofs.lemmas.List.{get_or-set_other}
use Rattle.steer_base.specs.Choices.{class_of}
use Rattle.steer_base.specs.Counters.{rounded_up}
use Rattle.steer_base.specs.declared.command.Command.TheVariants as give
use Rattle.hop_model.specs.declared.event.HopEvent.{HopEvent}
use Rattle.hop_model.specs.declared.event.HopEvent.TheVariants as event
use Rattle.hop_model.specs.Events.{AllMayAsk, IsEmptied, MayAsk, happens, run}
use Rattle.hop_model.specs.Hop.{HopState, arrivals_of, out_at}
use Rattle.hop_core.specs.Leaves.{Field}
use Rattle.hop_core.specs.NothingLost.{NothingLost}
use Rattle.hop_core.specs.Settled.{SettledIn}
use Rattle.hop_model.specs.Sound.{Sound}
use Rattle.hop_core.proofs.AllSteps.{Sound-happens}
use Rattle.hop_core.proofs.Leaves.{each_leaves}
use Rattle.hop_core.proofs.NothingLost.{each_loses_nothing}
use Rattle.hop_core.proofs.Settled.{each_keeps_settled, resize_settles}
use Rattle.hop_core.proofs.Sizes.{Sizes-happens}
use Rattle.history.specs.Lists.{list_at}
use Rattle.steer_model.specs.Steps.Commands.{affects, answer_to, is_done, set_by}
use Rattle.steer_model.specs.State.Machine.{Machine}
use Rattle.steer_model.specs.State.Settings.{Settings, changed, class_at, plain_lane}
use Rattle.steer_model.specs.State.Setup.{Setup, packet_hash}
use Rattle.steer_invariant.specs.StepInvariant.{StepInvariant}
use Rattle.steer_invariant.specs.HopInvariants.{AreNoted, Manned, RxSizes}
use Rattle.steer_invariant.specs.ListInvariants.{Came, Replied}
use Rattle.steer_invariant.proofs.StepInvariant.FrameLemmas.{came-leaves, manned-leaves}
use Rattle.steer_invariant.proofs.StepInvariant.FrameLemmas.{noted-leaves, replied-inbox}
use Rattle.steer_invariant.proofs.StepInvariant.FrameLemmas.{rx-sizes}
use Rattle.steer_invariant.proofs.StepInvariant.GateLemmas.{Passed, gate_passed}

-- ---- the receive hop while its gate may be closed

record Calm (m : Machine) (now : Settings) (s : HopState) : Type 0 where
  sound : Sound s
  lossless : NothingLost s
  sizes : RxSizes m.setup s
  settled : SettledIn (class_at m.setup now) (plain_lane m.setup now) s
  manned : Manned m.setup m.settings s
  noted : AreNoted m.notes s
  came : Came m.setup.packets m.arrivals (arrivals_of s)
  replied : Replied (list_at m.sent) (out_at s.bare) (arrivals_of m.tx)

calm-kept : (m : Machine) → StepInvariant m → Calm m m.settings m.rx
calm-kept m k =
    assumption

calm-close : (m : Machine) (now : Settings) (s : HopState) → MayAsk s event.Close → Calm m now s
    → Calm m now (happens s event.Close).0
calm-close m now s may c =
    record {
      sound = Sound-happens s event.Close may c.sound;
      lossless = each_loses_nothing s event.Close may c.sound c.lossless;
      sizes = rx-sizes m.setup s (happens s event.Close).0 (Sizes-happens s event.Close) c.sizes;
      settled = each_keeps_settled (class_at m.setup now)
          (plain_lane m.setup now) s event.Close may c.sound tt c.settled;
      manned = manned-leaves m.setup m.settings s event.Close refl refl refl refl c.manned;
      noted = noted-leaves m.notes s event.Close refl refl refl c.noted;
      came = came-leaves m.setup.packets m.arrivals s event.Close refl c.came;
      replied = replied-inbox (list_at m.sent) (arrivals_of m.tx) s event.Close refl c.replied;
    }

calm-reopen : (m : Machine) (now : Settings) (s : HopState) → MayAsk s event.Reopen → Calm m now s
    → Calm m now (happens s event.Reopen).0
calm-reopen m now s may c =
    record {
      sound = Sound-happens s event.Reopen may c.sound;
      lossless = each_loses_nothing s event.Reopen may c.sound c.lossless;
      sizes = rx-sizes m.setup s (happens s event.Reopen).0 (Sizes-happens s event.Reopen) c.sizes;
      settled = each_keeps_settled (class_at m.setup now)
          (plain_lane m.setup now) s event.Reopen may c.sound tt c.settled;
      manned = manned-leaves m.setup m.settings s event.Reopen refl refl refl refl c.manned;
      noted = noted-leaves m.notes s event.Reopen refl refl refl c.noted;
      came = came-leaves m.setup.packets m.arrivals s event.Reopen refl c.came;
      replied = replied-inbox (list_at m.sent) (arrivals_of m.tx) s event.Reopen refl c.replied;
    }

-- only the queue whose flow count changes gives its packets other classes
other-class : (p : Setup) (now : Settings) (q count r x : ℕ) → r ≢ q
    → class_at p (changed now (give.Flows q count)) r x ≡ class_at p now r x
other-class p now q count r x ne =
    ap (λ n. class_of n (packet_hash p x)) (get_or-set_other now.counts q r (rounded_up count) 0 ne)

calm-resize : (m : Machine) (s : HopState) (q count : ℕ) → MayAsk s (event.Resize q count)
    → Calm m m.settings s
    → Calm m (changed m.settings (give.Flows q count)) (happens s (event.Resize q count)).0
calm-resize m s q count may c =
    let e : HopEvent = event.Resize q count in
    let now : Settings = changed m.settings (give.Flows q count) in
    record {
      sound = Sound-happens s e may c.sound;
      lossless = each_loses_nothing s e may c.sound c.lossless;
      sizes = rx-sizes m.setup s (happens s e).0 (Sizes-happens s e) c.sizes;
      settled = resize_settles (class_at m.setup m.settings) (class_at m.setup now)
          (plain_lane m.setup m.settings)
          s q count may c.sound (λ r x ne. other-class m.setup m.settings q count r x ne) c.settled;
      manned = manned-leaves m.setup m.settings s e refl refl refl refl c.manned;
      noted = noted-leaves m.notes s e refl refl refl c.noted;
      came = came-leaves m.setup.packets m.arrivals s e refl c.came;
      replied = replied-inbox (list_at m.sent) (arrivals_of m.tx) s e refl c.replied;
    }

-- ---- what may be asked

closes : (s : HopState) → s.bare.inside ≡ 0 → (happens s event.Close).0.bare.closed ≡ true
closes s alone = rw alone refl

emptied-same : (s t : HopState) (c : ℕ) → t.bare.accepted ≡ s.bare.accepted
    → t.bare.retired ≡ s.bare.retired → IsEmptied s.bare c → IsEmptied t.bare c
emptied-same s t c a r e = rw (a, r) e

may_resize : (m : Machine) (q count : ℕ) → q < length m.setup.homes → count ≤ 32768
    → Passed m.rx (affects m.setup (give.Flows q count)) → StepInvariant m
    → MayAsk (happens m.rx event.Close).0 (event.Resize q count)
may_resize m q count named within passed k =
    let s : HopState = (happens m.rx event.Close).0 in
    let z = rx-sizes m.setup m.rx s (Sizes-happens m.rx event.Close) k.rx.sizes in
    let old = k.rx.sizes in
    let same = Sizes-happens m.rx event.Close in
    record {
      producer = (let n = z.queues in omega (arith, named, n));
      within = within;
      rounded = z.rounded;
      closed = closes m.rx passed.alone;
      drained = λ c lt.
          (let n = same.lanes in let cpus = old.cpus in
          let there : c < length m.rx.bare.accepted = omega (arith, lt, n) in
          emptied-same m.rx s c (each_leaves m.rx event.Close Field.accepted refl)
          (each_leaves m.rx event.Close Field.retired refl)
          (passed.empty c there (lt-ltb c m.setup.cpus (omega (arith, there, cpus)))));
    }

-- the three events of another flow count
pub may_flows : (m : Machine) (q count : ℕ) → q < length m.setup.homes → count ≤ 32768
    → is_done (answer_to m (give.Flows q count)) ≡ true → StepInvariant m
    → AllMayAsk (event.Close ∷ event.Resize q count ∷ event.Reopen ∷ []) m.rx
may_flows m q count named within done k =
    let passed = gate_passed m.rx (affects m.setup (give.Flows q count)) done in
    (k.rx.opened, (may_resize m q count named within passed k, (closes m.rx passed.alone, tt)))

-- ---- what it keeps

kept-flows : (m : Machine) (q count : ℕ) → q < length m.setup.homes → count ≤ 32768
    → is_done (answer_to m (give.Flows q count)) ≡ true → StepInvariant m
    → StepInvariant (set_by m (give.Flows q count))
kept-flows m q count named within done k =
    let may = may_flows m q count named within done k in
    let now : Settings = changed m.settings (give.Flows q count) in
    let s : HopState = (happens m.rx event.Close).0 in
    let t : HopState = (happens s (event.Resize q count)).0 in
    let c = calm-reopen m now t may.1.1.0
    (calm-resize m s q count may.1.0 (calm-close m m.settings m.rx may.0 (calm-kept m k))) in
    let y = k.sizes in let w = c.manned in
    assumption (
    ap (λ (l : List ℕ). slice_set l q (rounded_up count)) (k.by.counts ∙ sym (each_leaves m.rx
    event.Close Field.counts refl)))

-- the code knows the hop by its three steps
pub kept_flows : (m : Machine) (q count : ℕ) (t u v : HopState) → q < length m.setup.homes
    → count ≤ 32768 → is_done (answer_to m (give.Flows q count)) ≡ true
    → t ≡ (happens m.rx event.Close).0 → u ≡ (happens t (event.Resize q count)).0
    → v ≡ (happens u event.Reopen).0 → StepInvariant m
    → StepInvariant (record m { settings = changed m.settings (give.Flows q count); rx = v })
kept_flows m q count t u v named within done first second third k =
    let one : u ≡ (happens (happens m.rx event.Close).0 (event.Resize q count)).0 =
    second ∙ ap (λ (s : HopState). (happens s (event.Resize q count)).0) first in
    let is : v ≡ run (event.Close ∷ event.Resize q count ∷ event.Reopen ∷ []) m.rx =
    third ∙ ap (λ (s : HopState). (happens s event.Reopen).0) one in
    subst (λ (s : HopState). StepInvariant
    (record m { settings = changed m.settings (give.Flows q count); rx = s })) (sym is)
    (kept-flows m q count named within done k)
