-- What a command does that is given.
use Rattle.std.proofs.Common.{ℕ, ◌<◌, ◌≡◌, ◌⊎◌, Bool, true, false, cond, List, [], ◌∷◌}
use Rattle.std.proofs.Common.{◌++◌, Option, length, refl, ap, ◌∙◌, sym, arith, inl, inr, get_or}
use Rattle.std.proofs.Common.{set}
use Rattle.std.specs.Prelude.{◌==◌, ◌&&◌}
use Rattle.std.proofs.lemmas.Bool.{cases_Bool, cases_eq, eq-eqb, ne_eqb}
use Rattle.std.proofs.lemmas.List.{get_or-set_other, get_or-set_same, length-map}
use Rattle.steer_base.specs.Commands.{refusal}
use Rattle.steer_base.specs.declared.command.Answer.{Answer}
use Rattle.steer_base.specs.declared.command.Command.{Command}
use Rattle.steer_base.specs.declared.command.Command.TheVariants as give
use Rattle.hop_model.specs.declared.event.HopEvent.{HopEvent}
use Rattle.hop_model.specs.declared.event.HopEvent.TheVariants as event
use Rattle.hop_model.specs.Events.{happens, run}
use Rattle.hop_model.specs.Hop.{HopState, choices_of, since_of}
use Rattle.hop_core.specs.Leaves.{Field}
use Rattle.hop_core.proofs.Leaves.{each_leaves}
use Rattle.steer_model.specs.Steps.Commands.{affects, answer_to, by_gate, given, is_done}
use Rattle.steer_model.specs.Steps.Commands.{kept_filter}
use Rattle.steer_model.specs.Steps.Commands.{listed, set_by}
use Rattle.steer_model.specs.Good.Inputs.{is_flows}
use Rattle.steer_model.specs.State.Machine.{Machine}
use Rattle.steer_model.specs.State.Settings.{changed}
use Rattle.steer_model.specs.declared.note.Note.TheVariants as note
use Rattle.steer_invariant.specs.StepInvariant.{IsCommandNamed, StepInvariant}
use Rattle.steer_invariant.proofs.BelowLemmas.{both-below}
use Rattle.steer_invariant.proofs.Invariant.EventPremiseLemmas.{asks_rx}
use Rattle.steer_invariant.proofs.StepInvariant.GateLemmas.{gate_passed, not-refused}
use Rattle.steer_properties.proofs.Histories.ExtendLemmas.{extends-more, extends-push}
use Rattle.steer_properties.proofs.Histories.LastingLemmas.{Given, Lasts, lasts-self, same_turns}
use Rattle.steer_properties.proofs.Histories.HopGrowthLemmas.{stays-run}

-- ---- another flow count

abbrev resizing : ℕ → ℕ → List HopEvent
resizing q count = event.Close ∷ event.Resize q count ∷ event.Reopen ∷ []

module _ (s : HopState) (r count : ℕ) where
  abbrev closed : HopState
  closed = (happens s event.Close).0

  resize-choices : (run (resizing r count) s).choices ≡ s.choices
  resize-choices = each_leaves s event.Close Field.choices refl

  resize-visits : (run (resizing r count) s).visits ≡ s.visits
  resize-visits = each_leaves s event.Close Field.visits refl

  resize-since : (run (resizing r count) s).since ≡ set s.since r (length (choices_of s r))
  resize-since =
      ap (λ (l : List ℕ). set l r (length (choices_of closed r)))
      (each_leaves s event.Close Field.since refl)
      ∙ ap (λ l. set s.since r (length (get_or l r [])))
      (each_leaves s event.Close Field.choices refl)

  -- where each producer's recent choices begin
  pub resized-since : (q : ℕ) → r < length s.since
      → since_of (run (resizing r count) s) q
      ≡ cond (q == r) (length (choices_of s q)) (since_of s q)
  resized-since q lt =
      ap (λ l. get_or l q 0) resize-since
      ∙ elim (cases_eq q r) [
        | inl e ↦ rw (e, eq-eqb r r refl) (get_or-set_same s.since r (length (choices_of s r)) 0 lt)
        | inr ne ↦
            rw (ne_eqb q r ne) (get_or-set_other s.since r q (length (choices_of s r)) 0 ne)
      ]

-- ---- a command that is done, before it is listed

record Sets (m : Machine) (c : Command) (k : Machine) : Type 0 where
  lasts : Lasts m k
  commands : k.commands ≡ m.commands
  settings : k.settings ≡ changed m.settings c
  choices : k.rx.choices ≡ m.rx.choices
  since : (q : ℕ)
      → since_of k.rx q ≡ cond (is_flows q c) (length (choices_of m.rx q)) (since_of m.rx q)
  visits : k.rx.visits ≡ m.rx.visits
  tx : k.tx ≡ m.tx
  notes : k.notes ≡ m.notes
  arrivals : k.arrivals ≡ m.arrivals
  sent : k.sent ≡ m.sent
  writes : k.writes ≡ m.writes
  sock : (k.settings.sock ≡ m.settings.sock) ⊎ (m.rx.bare.inside ≡ 0)

-- other settings, and another socket flow table
sets-settings : (m : Machine) (c : Command) (socket : List (Option ℕ))
    → ((q : ℕ) → is_flows q c ≡ false)
    → ((changed m.settings c).sock ≡ m.settings.sock) ⊎ (m.rx.bare.inside ≡ 0)
    → Sets m c (record m { settings = changed m.settings c; socket = socket })
sets-settings m c socket none sock =
    let l = lasts-self m in
    record {
      lasts = assumption;
      commands = refl;
      settings = refl;
      choices = refl;
      since = λ q. rw (none q) refl;
      visits = refl;
      tx = refl;
      notes = refl;
      arrivals = refl;
      sent = refl;
      writes = refl;
      sock = sock;
    }

sets-expire : (m : Machine) → Sets m give.Expire (set_by m give.Expire)
sets-expire m =
    let l = lasts-self m in
    record {
      lasts = assumption (length-map m.filters (kept_filter m));
      commands = refl;
      settings = refl;
      choices = refl;
      since = λ q. refl;
      visits = refl;
      tx = refl;
      notes = refl;
      arrivals = refl;
      sent = refl;
      writes = refl;
      sock = inl refl;
    }

module _ (m : Machine) (k : StepInvariant m) where
  -- a done command found nobody inside its gate
  sock-alone : (size : ℕ) → is_done (answer_to m (give.Sock size)) ≡ true
      → m.rx.bare.inside ≡ 0
  sock-alone size done =
      let c : Command = give.Sock size in
      let w = not-refused (refusal m.settings.online c m.setup.homes m.settings.stands)
      (by_gate m c) done in
      let g = gate_passed m.rx (affects m.setup c) w.1 in
      g.alone

  sets-flows : (q count : ℕ) → IsCommandNamed m.setup (give.Flows q count)
      → is_done (answer_to m (give.Flows q count)) ≡ true
      → Sets m (give.Flows q count) (set_by m (give.Flows q count))
  sets-flows q count named done =
      let w = both-below q (length m.setup.homes) count 32769 named in
      let below = w.0 in let few = w.1 in
      let z = k.rx.sizes in let wide = k.rx.sound.wide in
      let asks = asks_rx m k in
      let l = lasts-self m in
      record {
        lasts = assumption (
            stays-run (resizing q count) m.rx (asks.flows q count below (omega (arith, few))
            done) k.rx.sound);
        commands = refl;
        settings = refl;
        choices = resize-choices m.rx q count;
        since = λ r. resized-since m.rx q count r (omega (arith, below, z.queues, wide.since));
        visits = resize-visits m.rx q count;
        tx = refl;
        notes = refl;
        arrivals = refl;
        sent = refl;
        writes = refl;
        sock = inl refl;
      }

  sets-done : (c : Command) → IsCommandNamed m.setup c → is_done (answer_to m c) ≡ true
      → Sets m c (set_by m c)
  sets-done (give.Flows q count) named done = sets-flows q count named done
  sets-done (give.Sock size) named done =
      sets-settings m (give.Sock size) (set_by m (give.Sock size)).socket (λ q. refl)
      (inr (sock-alone size done))
  sets-done give.Expire named done = sets-expire m
  sets-done (give.Mask q mask) named done =
      sets-settings m (give.Mask q mask) m.socket (λ r. refl) (inl refl)
  sets-done (give.Offline cpu) named done =
      sets-settings m (give.Offline cpu) m.socket (λ r. refl) (inl refl)
  sets-done (give.Online cpu) named done =
      sets-settings m (give.Online cpu) m.socket (λ r. refl) (inl refl)
  sets-done (give.XCpus tx mask) named done =
      sets-settings m (give.XCpus tx mask) m.socket (λ r. refl) (inl refl)
  sets-done (give.XQueues tx queues) named done =
      sets-settings m (give.XQueues tx queues) m.socket (λ r. refl) (inl refl)
  sets-done (give.Reta place q) named done =
      sets-settings m (give.Reta place q) m.socket (λ r. refl) (inl refl)
  sets-done (give.Stand app cpu) named done =
      sets-settings m (give.Stand app cpu) m.socket (λ r. refl) (inl refl)

-- ---- its listing

when-done : (b d : Bool) (x y : ℕ) → d ≡ true → cond (b && d) x y ≡ cond b x y
when-done true d x y e = rw e refl
when-done false d x y e = refl

when-refused : (b d : Bool) (x y : ℕ) → d ≡ false → cond (b && d) x y ≡ y
when-refused true d x y e = rw e refl
when-refused false d x y e = refl

-- a machine that only grew, and then one command more is listed
lasts-listed : (m k : Machine) (c : Command) (a : Answer) → Lasts m k → Lasts m (listed k c a)
lasts-listed m k c a l =
    assumption (
    extends-more m.commands k.commands (k.commands ++ record { command = c; answer = a } ∷ [])
    l.commands (extends-push k.commands (record { command = c; answer = a })))

given-done : (m k : Machine) (c : Command) (a : Answer) → is_done a ≡ true → Sets m c k
    → Given m c a (listed k c a)
given-done m k c a done s =
    record {
      lasts = lasts-listed m k c a s.lasts;
      commands = ap (λ l. l ++ record { command = c; answer = a } ∷ []) s.commands;
      settings = rw done s.settings;
      choices = s.choices;
      since = λ q. s.since q
          ∙ sym (when-done (is_flows q c) (is_done a) (length (choices_of m.rx q))
          (since_of m.rx q) done);
      tx = record {
        choices = ap (λ (t : HopState). t.choices) s.tx;
        since = ap (λ (t : HopState). t.since) s.tx;
      };
      arrivals = s.arrivals;
      sent = s.sent;
      writes = s.writes;
      looked = λ q want is. (
        ap (λ l. get_or l q note.Nothing) (sym s.notes) ∙ is,
        λ in'. ap (λ l. get_or l q false) s.visits ∙ in',
      );
      sock = s.sock;
    }

given-refused : (m : Machine) (c : Command) (a : Answer) → is_done a ≡ false
    → Given m c a (listed m c a)
given-refused m c a refused =
    record {
      lasts = lasts-listed m m c a (lasts-self m);
      commands = refl;
      settings = rw refused refl;
      choices = refl;
      since = λ q. sym (when-refused (is_flows q c) (is_done a) (length (choices_of m.rx q))
          (since_of m.rx q) refused);
      tx = same_turns m.tx;
      arrivals = refl;
      sent = refl;
      writes = refl;
      looked = λ q want is. (is, λ in'. in');
      sock = inl refl;
    }

pub given-is : (m : Machine) (c : Command) → StepInvariant m → IsCommandNamed m.setup c
    → Given m c (answer_to m c) (given m c).0
given-is m c k named =
    elim (cases_Bool (is_done (answer_to m c))) [
      | inl done ↦
          rw done
          (given-done m (set_by m c) c (answer_to m c) done (sets-done m k c named done))
      | inr refused ↦ rw refused (given-refused m c (answer_to m c) refused)
    ]
