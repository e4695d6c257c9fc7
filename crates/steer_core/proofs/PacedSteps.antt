-- Every step is paced: it lets the lists of writes and of commands grow by one at most.
use Rattle.std.proofs.Common.{ℕ, ◌+◌, ◌<◌, ◌≤◌, ◌≡◌, Bool, true, false, List, [], ◌∷◌, ◌++◌}
use Rattle.std.proofs.Common.{length}
use Rattle.std.proofs.Common.{refl, ap, ◌∙◌, sym, subst, arith, zero, suc}
use Rattle.std.proofs.lemmas.Bool.{ltb-true}
use Rattle.steer_base.specs.declared.command.Answer.{Answer}
use Rattle.steer_base.specs.declared.command.Command.{Command}
use Rattle.steer_base.specs.declared.command.Command.TheVariants as give
use Rattle.steer_base.specs.declared.step.Step.{Step}
use Rattle.steer_base.specs.declared.step.Step.TheVariants as act
use Rattle.hop_model.specs.Hop.{HopState, placed_of}
use Rattle.hop_core.proofs.Lists.{length-push}
use Rattle.history.specs.Lists.{list_at}
use Rattle.history.specs.declared.commanded.Commanded.{Commanded}
use Rattle.steer_model.specs.Steps.Commands.{answer_to, given, is_done, listed, set_by}
use Rattle.steer_model.specs.State.Machine.{Machine}
use Rattle.steer_model.specs.State.Setup.{Setup, flow_hash, flow_number_of}
use Rattle.steer_model.specs.Steps.SingleSteps.{simple}
use Rattle.steer_model.specs.Steps.CompoundSteps.{Progress, drain, for_each, one_round}
use Rattle.steer_model.specs.Steps.CompoundSteps.{poll, rounds, serve, ship, step, tried}
use Rattle.steer_invariant.specs.Invariant.{Invariant}
use Rattle.steer_invariant.specs.StepInvariant.{IsNamed}
use Rattle.steer_invariant.proofs.EitherLemmas.{either}
use Rattle.steer_invariant.proofs.Invariant.StepLemmas.{held-simple}
use Rattle.steer_invariant.proofs.StepInvariant.StepLemmas.{flow_small}
use Rattle.steer_invariant.proofs.StepInvariant.SingleStepLemmas.{goes-simple}
use Rattle.steer_invariant.proofs.TurnLiftLemmas.{IsTried, arrive-keeps, drains-keep, polls-keep}
use Rattle.steer_invariant.proofs.TurnLiftLemmas.{round-keeps, serve-keeps}
use Rattle.steer_core.proofs.Paced.{Paced, paced-listed, paced-more, paced-refl, paced-trans}
use Rattle.steer_core.proofs.Paced.{quiet-paced}
use Rattle.steer_core.proofs.QuietLemmas.{is_quiet, quiet-simple}
use Rattle.steer_core.proofs.QuietTurns.{quiet-arrive, quiet-drain, quiet-each, quiet-poll}
use Rattle.steer_core.proofs.QuietTurns.{quiet-reply, quiet-ship}
use Rattle.steer_core.proofs.RecordLemmas.{record-paced}
use Rattle.steer_core.proofs.ServeLemmas.{serve-paced}

-- a machine of this setup that is held
record Stands (p : Setup) (t : Progress) : Type 0 where
  setup : t.0.setup ≡ p
  held : Invariant t.0

module _ (m : Machine) (h : Invariant m) where
  flows : (x : ℕ) → flow_number_of m.setup x < 262144
  flows x = flow_small m.setup x h.kept.given

  stands-tried : (t : Progress) (s : Step) → IsTried m.setup s → Stands m.setup t → Stands m.setup
      (tried t s)
  stands-tried t s is k =
      let named : IsNamed t.0.setup s = subst (λ (q : Setup). IsNamed q s) (sym k.setup) is.named in
      let held = k.held in
      record {
        setup = (goes-simple t.0 held.kept s named).setup ∙ k.setup;
        held = held-simple t.0 s named held;
      }

  -- ---- turns of applications

  record Going (t : Progress) : Type 0 where
    stands : Stands m.setup t
    paced : Paced 0 0 m t.0

  serves : (n : ℕ) (t : Progress) → n ≤ m.setup.apps → Going t → Going (for_each n serve t)
  unfolding for_each
  serves zero t few g = g
  serves (suc n) t few g =
      let u : Progress = for_each n serve t in
      let before : Going u = serves n t (omega (arith, few)) g in
      let s = before.stands in
      let named : n < u.0.setup.apps = subst (λ (q : Setup). n < q.apps) (sym s.setup)
      (omega (arith, few)) in
      record {
        stands = serve-keeps m.setup (Stands m.setup) (λ t k. k.setup) flows stands-tried n u
            (omega (arith, few)) s;
        paced = paced-trans m u.0 (serve n u).0 before.paced (serve-paced n u named s.held);
      }

  start : (w : Bool) → Going (m, w)
  start w = record { stands = record { setup = refl; held = h }; paced = paced-refl m }

  pub serves-paced : (n : ℕ) (w : Bool) → n ≤ m.setup.apps → Paced 0 0 m (for_each n serve (m, w)).0
  serves-paced n w few = (serves n (m, w) few (start w)).paced

  -- ---- rounds

  round-goes : (w : Bool) → Going (one_round (m, w))
  round-goes w =
      let arrived : Progress = tried (m, w) act.Arrive in
      let polled : Progress = for_each (length m.setup.homes) poll arrived in
      let drained : Progress = for_each m.setup.cpus drain polled in
      let served : Progress = for_each m.setup.apps serve drained in
      let sa = arrive-keeps m.setup (Stands m.setup) (λ t k. k.setup) flows stands-tried (m, w)
      (start w).stands in
      let sp = polls-keep m.setup (Stands m.setup) (λ t k. k.setup) flows stands-tried
      (length m.setup.homes) arrived refl sa in
      let sd = drains-keep m.setup (Stands m.setup) (λ t k. k.setup) flows stands-tried m.setup.cpus
      polled refl sp in
      let a = quiet-paced m arrived.0 (quiet-arrive (m, w)) in
      let b = paced-trans m arrived.0 polled.0 a
      (quiet-paced arrived.0 polled.0 (quiet-each (length m.setup.homes) poll quiet-poll arrived))
      in
      let c = paced-trans m polled.0 drained.0 b
      (quiet-paced polled.0 drained.0 (quiet-each m.setup.cpus drain quiet-drain polled)) in
      let d = serves m.setup.apps drained (omega arith) (record { stands = sd; paced = c }) in
      record {
        stands = round-keeps m.setup (Stands m.setup) (λ t k. k.setup) flows stands-tried (m, w)
            (start w).stands;
        paced = paced-trans m served.0 (one_round (m, w)).0 d.paced
            (quiet-paced served.0 (one_round (m, w)).0
            (quiet-each m.setup.txs ship quiet-ship served));
      }

rounds-paced : (k : ℕ) (t : Progress) → Invariant t.0 → Paced 0 0 t.0 (rounds k t).0
unfolding rounds
rounds-paced zero t h = paced-refl t.0
rounds-paced (suc k) t h =
    let u : Progress = one_round (t.0, false) in
    let g = round-goes t.0 h false in
    let s = g.stands in
    either (λ (v : Progress). Paced 0 0 t.0 v.0) u.1 (rounds k (u.0, true)) (u.0, t.1)
    (λ more. paced-trans t.0 u.0 (rounds k (u.0, true)).0 g.paced
    (rounds-paced k (u.0, true) s.held))
    (λ none. g.paced)

-- ---- commands

same-lists : (m n : Machine) → n.setup ≡ m.setup → n.writes ≡ m.writes → n.tx ≡ m.tx
    → length n.commands ≤ length m.commands + 1 → Paced 1 1 m n
same-lists m n s w t l =
    record {
      setup = s;
      written = λ a. (
          let x = ap (λ ls. length (list_at ls a)) w in
          let y = ap (λ (s : HopState). placed_of s a) t in omega (arith, x, y));
      listed = l;
    }

one-command : (xs : List Commanded) (c : Commanded) → length (xs ++ c ∷ []) ≤ length xs + 1
one-command xs c = let l = length-push xs c in omega (arith, l)

changed-paced : (m : Machine) (c : Command) (a : Answer) → Paced 1 1 m (listed (set_by m c) c a)
changed-paced m (give.Mask q mask) a = same-lists m _ refl refl refl (one-command m.commands _)
changed-paced m (give.Flows q count) a = same-lists m _ refl refl refl (one-command m.commands _)
changed-paced m (give.Sock size) a = same-lists m _ refl refl refl (one-command m.commands _)
changed-paced m (give.Offline cpu) a = same-lists m _ refl refl refl (one-command m.commands _)
changed-paced m (give.Online cpu) a = same-lists m _ refl refl refl (one-command m.commands _)
changed-paced m (give.XCpus tx mask) a = same-lists m _ refl refl refl (one-command m.commands _)
changed-paced m (give.XQueues tx queues) a = same-lists m _ refl refl refl
    (one-command m.commands _)
changed-paced m (give.Reta place q) a = same-lists m _ refl refl refl (one-command m.commands _)
changed-paced m (give.Stand app cpu) a = same-lists m _ refl refl refl (one-command m.commands _)
changed-paced m give.Expire a = same-lists m _ refl refl refl (one-command m.commands _)

given-paced : (m : Machine) (c : Command) → Paced 1 1 m (given m c).0
given-paced m c =
    either (λ (n : Machine). Paced 1 1 m (listed n c (answer_to m c))) (is_done (answer_to m c))
    (set_by m c) m
    (λ done. changed-paced m c (answer_to m c))
    (λ refused. same-lists m _ refl refl refl (one-command m.commands _))

-- ---- every step

quietly : (m : Machine) (s : Step) → is_quiet s ≡ true → Paced 1 1 m (simple m s).0
quietly m s quiet = paced-more 1 1 m (simple m s).0 (quiet-paced m (simple m s).0
    (quiet-simple m s quiet))

pub step-paced : (m : Machine) (s : Step) → IsNamed m.setup s → Invariant m → Paced 1 1 m
    (step m s).0
step-paced m (act.Poll q) named h = paced-more 1 1 m _ (quiet-paced m _ (quiet-poll q (m, false)))
step-paced m (act.Drain c) named h = paced-more 1 1 m _ (quiet-paced m _ (quiet-drain c (m, false)))
step-paced m (act.Reply a) named h = paced-more 1 1 m _ (quiet-paced m _ (quiet-reply a (m, false)))
step-paced m (act.Serve a) named h =
    paced-more 1 1 m _ (serve-paced a (m, false) (ltb-true _ _ named) h)
step-paced m (act.Ship x) named h = paced-more 1 1 m _ (quiet-paced m _ (quiet-ship x (m, false)))
step-paced m act.Sweep named h = paced-more 1 1 m _ (rounds-paced _ (m, false) h)
step-paced m (act.Record flow) named h = paced-listed m _ (record-paced m (flow_hash m.setup flow))
step-paced m (act.Give c) named h = given-paced m c
step-paced m act.Arrive named h = quietly m act.Arrive refl
step-paced m (act.Take q) named h = quietly m (act.Take q) refl
step-paced m (act.Enter q) named h = quietly m (act.Enter q) refl
step-paced m (act.Look q) named h = quietly m (act.Look q) refl
step-paced m (act.Weigh q) named h = quietly m (act.Weigh q) refl
step-paced m (act.Put q) named h = quietly m (act.Put q) refl
step-paced m (act.Ask q) named h = quietly m (act.Ask q) refl
step-paced m (act.Leave q) named h = quietly m (act.Leave q) refl
step-paced m (act.Pull c) named h = quietly m (act.Pull c) refl
step-paced m (act.Deliver c) named h = quietly m (act.Deliver c) refl
step-paced m (act.Retire c) named h = quietly m (act.Retire c) refl
step-paced m (act.Send a) named h = quietly m (act.Send a) refl
step-paced m (act.TEnter a) named h = quietly m (act.TEnter a) refl
step-paced m (act.TLeave a) named h = quietly m (act.TLeave a) refl
step-paced m (act.TWeigh a) named h = quietly m (act.TWeigh a) refl
step-paced m (act.TPut a) named h = quietly m (act.TPut a) refl
step-paced m (act.TPull x) named h = quietly m (act.TPull x) refl
step-paced m (act.TDeliver x) named h = quietly m (act.TDeliver x) refl
step-paced m (act.TRetire x) named h = quietly m (act.TRetire x) refl
