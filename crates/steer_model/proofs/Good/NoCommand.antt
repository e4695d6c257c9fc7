-- Where no command was given, every prefix is empty, and each clause stands by itself.
use Rattle.std.proofs.Common.{ℕ, ◌≡◌, [], Some, refl, ap, ◌∙◌, sym}
use Rattle.std.proofs.Common.{subst, arith, suc, zero, take, drop}
use Rattle.history.specs.Lists.{list_at}
use Rattle.history.specs.declared.commanded.Commanded.{Commanded}
use Rattle.history.specs.declared.history.History.{History}
use Rattle.hop_model.specs.Hop.{chosen_at}
use Rattle.steer_base.specs.Choices.{class_of}
use Rattle.steer_model.specs.Good.GoodHistory.{Good, Clause, never}
use Rattle.steer_model.specs.Good.Choices.{AreByRule, ChoicesAreByRule, IsByRule, WantsAreWritten}
use Rattle.steer_model.specs.Good.Replies.{IsReplyByRule, RepliesAreByRule}
use Rattle.steer_model.specs.Good.Inputs.{Input, Prefixes, settings_after, settings_at, setup_in}
use Rattle.steer_model.specs.Good.Inputs.{since_at}
use Rattle.steer_model.specs.State.Setup.{packet_hash}
use Rattle.steer_model.specs.State.Start.{initial_settings}

take_nil : (n : ℕ) → take {A = Commanded} n [] ≡ []
take_nil zero = refl
take_nil (suc n) = refl

drop_nil : (n : ℕ) → drop {A = Commanded} n [] ≡ []
drop_nil zero = refl
drop_nil (suc n) = refl

since_none : (q : ℕ) (at : ℕ → ℕ) (k : ℕ) → since_at [] q at k ≡ 0
since_none q at zero = refl
since_none q at (suc k) = rw (take_nil (at (suc k)), drop_nil (at k)) (since_none q at k)

since_is : (h : History) → h.commands ≡ [] → (q : ℕ) (at : ℕ → ℕ) (k : ℕ)
    → since_at h.commands q at k ≡ 0
since_is h none q at k = ap (λ cs. since_at cs q at k) none ∙ since_none q at k

settings_is : (i : Input) (h : History) → h.commands ≡ [] → (n : ℕ)
    → settings_at i h n ≡ initial_settings i.plan
settings_is i h none n =
    ap (λ cs. settings_after (initial_settings i.plan) (take n cs)) none
    ∙ ap (settings_after (initial_settings i.plan)) (take_nil n)

no_prefixes : (many count : ℕ) → Prefixes many count (λ k. 0)
no_prefixes many count = record { within = λ k lt. omega arith; grow = λ k lt. omega arith }

pub by_rule_alone : (i : Input) (h : History) (at : ℕ → ℕ → ℕ) → h.commands ≡ []
    → AreByRule i h at → AreByRule i h never
by_rule_alone i h at none g =
    record {
      prefixes = λ q. no_prefixes _ _;
      each = λ q k lt. (
          let a : settings_at i h (at q k) ≡ settings_at i h 0 = settings_is i h none (at q k)
          ∙ sym (settings_is i h none 0) in
          let b : since_at h.commands q (at q) k ≡ since_at h.commands q (never q) k =
          since_is h none q (at q) k ∙ sym (since_is h none q (never q) k) in
          subst (λ n. IsByRule i h q k (settings_at i h 0) n) b
          (subst (λ s. IsByRule i h q k s (since_at h.commands q (at q) k)) a (g.each q k lt)));
    }

choices_alone : (i : Input) (h : History) (at : ℕ → ℕ → ℕ) → h.commands ≡ []
    → ChoicesAreByRule i h at → ChoicesAreByRule i h never
choices_alone i h at none g =
    record { all = g.all; by_rule = by_rule_alone i h at none g.by_rule }

pub wants_alone : (i : Input) (h : History) (at : ℕ → ℕ → ℕ) → h.commands ≡ []
    → WantsAreWritten i h at → WantsAreWritten i h never
wants_alone i h at none g q k want lt is =
    let w = g q k want lt is in
    let e : settings_at i h (at q k) ≡ settings_at i h 0 = settings_is i h none (at q k)
    ∙ sym (settings_is i h none 0) in (
      w.0,
      subst (λ s. class_of s.sock
          (packet_hash (setup_in i) (chosen_at (list_at h.choices q) k).id) ≡ Some w.0) e w.1,
      w.2,
    )

pub replies_alone : (i : Input) (h : History) (at : ℕ → ℕ → ℕ) → h.commands ≡ []
    → RepliesAreByRule i h at → RepliesAreByRule i h never
replies_alone i h at none g =
    record {
      sent = g.sent;
      prefixes = λ a. no_prefixes _ _;
      each = λ a k lt. (
          let e : settings_at i h (at a k) ≡ settings_at i h 0 = settings_is i h none (at a k)
          ∙ sym (settings_is i h none 0) in
          subst (λ s. IsReplyByRule i h a k s) e (g.each a k lt));
      places = g.places;
      leave = g.leave;
    }

pub good_clauses : (i : Input) (h : History) → h.commands ≡ [] → Good i h → (n : ℕ) → Clause n i h
good_clauses i h none g n =
    record {
      arrived = λ _. g.arrived;
      queues = λ _. g.queues;
      choices = λ _. choices_alone i h g.at none g.choices;
      wants = λ _. wants_alone i h g.at none g.wants;
      heads = λ _. g.heads;
      drops = λ _. g.drops;
      steered = λ _. g.steered;
      swept = λ _. g.swept;
      writes = λ _. g.writes;
      commands = λ _. g.commands;
      replies = λ _. replies_alone i h g.tx_at none g.replies;
    }

pub clauses_good : (i : Input) (h : History) → ((n : ℕ) → Clause n i h) → Good i h
clauses_good i h c =
    record {
      at = never;
      tx_at = never;
      arrived = (c 1).arrived refl;
      queues = (c 2).queues refl;
      choices = (c 3).choices refl;
      wants = (c 4).wants refl;
      heads = (c 5).heads refl;
      drops = (c 6).drops refl;
      steered = (c 7).steered refl;
      swept = (c 8).swept refl;
      writes = (c 9).writes refl;
      commands = (c 10).commands refl;
      replies = (c 11).replies refl;
    }
