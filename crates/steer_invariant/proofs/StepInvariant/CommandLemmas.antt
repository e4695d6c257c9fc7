-- What the commands keep that are done, but for those of a processor going offline or online.
use Rattle.std.proofs.Common.{ℕ, ◌<◌, ◌≡◌, Bool, true, List, None, length, refl, ap, ◌∙◌, sym}
use Rattle.std.proofs.Common.{arith, inr}
use Rattle.std.specs.Prelude.{slice_index, slice_set}
use Rattle.std.proofs.Math.ListN.{length-replicate, length-set}
use Rattle.std.proofs.lemmas.Bool.{lt-ltb}
use Rattle.std.proofs.lemmas.List.Elements.{All-set}
use Rattle.steer_base.specs.Choices.{class_of}
use Rattle.steer_base.specs.Counters.{rounded_up}
use Rattle.steer_base.specs.declared.command.Answer.{Answer}
use Rattle.steer_base.specs.declared.command.Command.{Command}
use Rattle.steer_base.specs.declared.command.Command.TheVariants as give
use Rattle.steer_base.specs.declared.cpu_mask.CpuMask.{CpuMask}
use Rattle.hop_model.specs.Hop.{HopState, choices_of, chosen_at}
use Rattle.hop_core.specs.Settled.{SettledIn}
use Rattle.hop_model.specs.Sound.{Sound}
use Rattle.hop_core.proofs.Settled.{reset_settles}
use Rattle.xps_map.specs.Maps.{Maps}
use Rattle.steer_model.specs.Steps.Commands.{affects, answer_to, is_done, listed, set_by}
use Rattle.steer_model.specs.State.Machine.{Machine}
use Rattle.steer_model.specs.State.Settings.{Settings, changed, class_at, plain_lane}
use Rattle.steer_model.specs.State.Setup.{Setup, packet_hash}
use Rattle.steer_invariant.specs.StepInvariant.{IsCommandNamed, StepInvariant}
use Rattle.steer_invariant.proofs.BelowLemmas.{both-below}
use Rattle.steer_invariant.proofs.StepInvariant.GateLemmas.{Passed, emptied_by, gate_passed}
use Rattle.steer_invariant.proofs.StepInvariant.GateLemmas.{no_hands}
use Rattle.steer_invariant.proofs.StepInvariant.RouteLemmas.{expired-below}

-- a command that changes neither flow counts nor the processors that are online
abbrev pub IsPlain : Command → Type 0
IsPlain (give.Flows q count) = ⊥
IsPlain (give.Offline cpu) = ⊥
IsPlain (give.Online cpu) = ⊥
IsPlain _ = Unit {0}

-- a command is listed
pub StepInvariant-listed : (m : Machine) (c : Command) (a : Answer) → StepInvariant m
    → StepInvariant (listed m c a)
StepInvariant-listed m c a k =
    assumption

-- ---- masks

-- packets without a class may be sent anywhere where all lanes are empty and no hand was weighed
settled-anywhere : (s : HopState) (p : Setup) (old now : Settings) (asked : ℕ → Bool) → Sound s
    → Passed s asked → ((c : ℕ) → c < length s.bare.accepted → asked c ≡ true)
    → now.counts ≡ old.counts → SettledIn (class_at p old) (plain_lane p old) s
    → SettledIn (class_at p now) (plain_lane p now) s
settled-anywhere s p old now asked h passed all same g =
    reset_settles (class_at p old) (class_at p now) (plain_lane p old) (plain_lane p now) s h
    (record {
      hands = λ q lt. no_hands s h passed.alone q;
      classes = λ q i lt a b.
          ap (λ (counts : List ℕ). class_of (slice_index counts q)
          (packet_hash p (chosen_at (choices_of s q) i).id)) same;
      lanes = λ q x lt.
          inr (emptied_by s (plain_lane p old q x)
          (λ there. passed.empty (plain_lane p old q x) there (all (plain_lane p old q x) there)));
    }) g

kept-mask : (m : Machine) (q : ℕ) (mask : CpuMask)
    → Passed m.rx (affects m.setup (give.Mask q mask)) → StepInvariant m → StepInvariant
    (set_by m (give.Mask q mask))
kept-mask m q mask passed k =
    let z = k.rx.sizes in let y = k.sizes in let b = k.by in let w = b.manned in
    assumption (
      settled-anywhere m.rx m.setup m.settings (changed m.settings (give.Mask q mask)) (affects
          m.setup (give.Mask q mask)) k.rx.sound passed (λ c lt. lt-ltb c m.setup.cpus (omega
          (arith, lt, z.cpus))) refl b.settled,
      length-set m.settings.masks q mask ∙ y.masks,
    )

-- ---- settings that the receive hop does not read

kept-maps : (m : Machine) (maps : Maps) (stands : List ℕ) → maps.count ≡ m.settings.maps.count
    → length stands ≡ length m.settings.stands → StepInvariant m
    → StepInvariant (record m { settings = record m.settings { maps = maps; stands = stands } })
kept-maps m maps stands count long k =
    let y = k.sizes in let b = k.by in let w = b.manned in
    assumption (long ∙ y.stands, count ∙ y.maps)

kept-reta : (m : Machine) (place q : ℕ) → q < length m.setup.homes → StepInvariant m
    → StepInvariant (set_by m (give.Reta place q))
kept-reta m place q named k =
    let y = k.sizes in let b = k.by in let w = b.manned in let r = k.routes in let t = r.table in
    assumption (
      length-set m.settings.reta.entries place q ∙ t.size,
      All-set (λ queue. queue < m.settings.reta.queues) m.settings.reta.entries place q (omega
          (arith, named, r.queues)) t.below,
    )

kept-sock : (m : Machine) (size : ℕ) → StepInvariant m → StepInvariant (set_by m (give.Sock size))
kept-sock m size k =
    let y = k.sizes in let b = k.by in let w = b.manned in
    record {
      given = k.given;
      rx = k.rx;
      tx = k.tx;
      taken = k.taken;
      by = record {
        counts = b.counts;
        settled = b.settled;
        manned = record { homes = w.homes; within = w.within; empty = w.empty; hand = w.hand };
      };
      noted = k.noted;
      lists = k.lists;
      sizes = record {
        masks = y.masks;
        stands = y.stands;
        maps = y.maps;
        sock = sym (length-replicate (rounded_up size) None);
      };
      routes = k.routes;
      came = k.came;
      replied = k.replied;
    }

kept-expire : (m : Machine) → StepInvariant m → StepInvariant (set_by m give.Expire)
kept-expire m k =
    let r = k.routes in
    assumption (expired-below m (length m.setup.homes) r.set)

-- ---- all but three

pub kept_set : (m : Machine) (c : Command) → IsPlain c → IsCommandNamed m.setup c
    → is_done (answer_to m c) ≡ true → StepInvariant m → StepInvariant (set_by m c)
kept_set m (give.Mask q mask) plain named done k =
    kept-mask m q mask (gate_passed m.rx (affects m.setup (give.Mask q mask)) done) k
kept_set m (give.Sock size) plain named done k = kept-sock m size k
kept_set m (give.XCpus tx mask) plain named done k =
    kept-maps m
    (record m.settings.maps { cpus = slice_set m.settings.maps.cpus tx mask }) m.settings.stands
    refl refl k
kept_set m (give.XQueues tx queues) plain named done k =
    kept-maps m
    (record m.settings.maps { queues = slice_set m.settings.maps.queues tx queues })
    m.settings.stands
    refl refl k
kept_set m (give.Reta place q) plain named done k =
    kept-reta m place q (both-below place 128 q (length m.setup.homes) named).1 k
kept_set m (give.Stand app cpu) plain named done k =
    kept-maps m m.settings.maps (slice_set m.settings.stands app cpu) refl
    (length-set m.settings.stands app cpu) k
kept_set m give.Expire plain named done k = kept-expire m k
kept_set m (give.Flows q count) plain named done k = absurd plain
kept_set m (give.Offline cpu) plain named done k = absurd plain
kept_set m (give.Online cpu) plain named done k = absurd plain
