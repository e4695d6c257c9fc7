-- What each command that is done keeps, by the values that the code has: the settings after it, and
-- each other part that it changes.
use Rattle.std.proofs.Common.{ℕ, ◌≡◌, true, List, Option, refl, ap, ◌∙◌, sym, subst, map}
use Rattle.steer_base.specs.Counters.{rounded_up}
use Rattle.steer_base.specs.declared.command.Command.{Command}
use Rattle.steer_base.specs.declared.command.Command.TheVariants as give
use Rattle.steer_base.specs.declared.filter.Filter.{Filter}
use Rattle.hop_model.specs.declared.event.HopEvent.TheVariants as event
use Rattle.hop_model.specs.Events.{happens}
use Rattle.hop_model.specs.Hop.{HopState}
use Rattle.sock_flow_table.specs.Sockets as sockets
use Rattle.steer_model.specs.Steps.Commands.{answer_to, is_done, kept_filter, set_by, with_settings}
use Rattle.steer_model.specs.State.Machine.{Machine}
use Rattle.steer_model.specs.State.Settings.{Settings, changed}
use Rattle.steer_invariant.specs.Invariant.{Invariant}
use Rattle.steer_invariant.specs.StepInvariant.{IsCommandNamed}
use Rattle.steer_invariant.proofs.StepInvariant.SingleStepLemmas.{kept-done}
use Rattle.steer_invariant.proofs.Ranges.RangeLemmas.{ranged-set}
use Rattle.steer_invariant.proofs.Recorded.CommandLemmas.{recorded-set}

-- any command that is done
pub held_set : (m : Machine) (c : Command) → IsCommandNamed m.setup c
    → is_done (answer_to m c) ≡ true → Invariant m → Invariant (set_by m c)
held_set m c named done h =
    record {
      kept = kept-done m h.kept c named done;
      ranged = ranged-set m c named h.ranged;
      recorded = recorded-set m c h.recorded;
    }

-- ---- commands that change a setting alone

-- a command that changes neither a hop nor a table
abbrev pub SetsAlone : Command → Type 0
SetsAlone (give.Mask q mask) = Unit {0}
SetsAlone (give.Flows q count) = ⊥
SetsAlone (give.Sock size) = ⊥
SetsAlone (give.Offline cpu) = Unit {0}
SetsAlone (give.Online cpu) = Unit {0}
SetsAlone (give.XCpus tx mask) = Unit {0}
SetsAlone (give.XQueues tx queues) = Unit {0}
SetsAlone (give.Reta place q) = Unit {0}
SetsAlone (give.Stand app cpu) = Unit {0}
SetsAlone give.Expire = ⊥

sets-alone : (m : Machine) (c : Command) → SetsAlone c → set_by m c ≡ with_settings m c
sets-alone m (give.Mask q mask) alone = refl
sets-alone m (give.Flows q count) alone = absurd alone
sets-alone m (give.Sock size) alone = absurd alone
sets-alone m (give.Offline cpu) alone = refl
sets-alone m (give.Online cpu) alone = refl
sets-alone m (give.XCpus tx mask) alone = refl
sets-alone m (give.XQueues tx queues) alone = refl
sets-alone m (give.Reta place q) alone = refl
sets-alone m (give.Stand app cpu) alone = refl
sets-alone m give.Expire alone = absurd alone

pub held_settings : (m : Machine) (c : Command) (now : Settings) → SetsAlone c
    → IsCommandNamed m.setup c → is_done (answer_to m c) ≡ true → now ≡ changed m.settings c
    → Invariant m → Invariant (record m { settings = now })
held_settings m c now alone named done is h =
    subst (λ (s : Settings). Invariant (record m { settings = s })) (sym is)
    (subst Invariant (sets-alone m c alone) (held_set m c named done h))

-- ---- the others

pub held_flows : (m : Machine) (q count : ℕ) (now : Settings) (t u v : HopState)
    → IsCommandNamed m.setup (give.Flows q count)
    → is_done (answer_to m (give.Flows q count)) ≡ true
    → now ≡ changed m.settings (give.Flows q count)
    → t ≡ (happens m.rx event.Close).0 → u ≡ (happens t (event.Resize q count)).0
    → v ≡ (happens u event.Reopen).0 → Invariant m → Invariant (record m { settings = now; rx = v })
held_flows m q count now t u v named done is closed changed' opened h =
    let then' : v ≡ (happens (happens (happens m.rx event.Close).0 (event.Resize q count)).0
    event.Reopen).0 =
    opened ∙ ap (λ (s : HopState). (happens s event.Reopen).0) changed'
    ∙ ap (λ (s : HopState). (happens (happens s (event.Resize q count)).0 event.Reopen).0) closed in
    subst (λ (s : Settings). Invariant (record m { settings = s; rx = v })) (sym is)
    (subst (λ (s : HopState). Invariant (record m {
      settings = changed m.settings (give.Flows q count);
      rx = s;
    })) (sym then') (held_set m (give.Flows q count) named done h))

pub held_sock : (m : Machine) (size : ℕ) (now : Settings) (socket : List (Option ℕ))
    → IsCommandNamed m.setup (give.Sock size) → is_done (answer_to m (give.Sock size)) ≡ true
    → now ≡ changed m.settings (give.Sock size) → socket ≡ sockets.unset (rounded_up size)
    → Invariant m → Invariant (record m { settings = now; socket = socket })
held_sock m size now socket named done is cleared h =
    subst (λ (s : Settings). Invariant (record m { settings = s; socket = socket })) (sym is)
    (subst (λ (s : List (Option ℕ)). Invariant (record m {
      settings = changed m.settings
          (give.Sock size);
      socket = s;
    })) (sym cleared) (held_set m (give.Sock size) named done h))

pub held_expire : (m : Machine) (filters : List (Option Filter))
    → is_done (answer_to m give.Expire) ≡ true → filters ≡ map (kept_filter m) m.filters
    → Invariant m → Invariant (record m { filters = filters })
held_expire m filters done gone h =
    subst (λ (fs : List (Option Filter)). Invariant (record m { filters = fs })) (sym gone)
    (held_set m give.Expire refl done h)
