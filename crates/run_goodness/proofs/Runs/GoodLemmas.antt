-- A run is good: the eleven clauses together.
use Rattle.steer_base.specs.declared.command.Answer.{Answer}
use Rattle.steer_base.specs.declared.command.Answer.TheVariants as says
use Rattle.steer_base.specs.declared.command.Command.TheVariants as give
use Rattle.steer_base.specs.declared.command.Refused.TheVariants as refused
use Rattle.history.specs.Regular.{AreMatched, AreReplies, Regular, has_text}
use Rattle.steer_model.specs.Good.Commands.{IsAnswer, IsEnd}
use Rattle.steer_model.specs.Good.Deliveries.{IsSteered}
use Rattle.steer_model.specs.Good.GoodHistory.{Good}
use Rattle.steer_model.specs.Good.Replies.{RepliesAreByRule}
use Rattle.run_goodness.specs.Laws.{RunsAreGood}
use Rattle.run_goodness.proofs.Names.{◌≡◌, inl, inr, ℕ, true, List, [], ◌∷◌, ◌++◌, Option, Some}
use Rattle.run_goodness.proofs.Names.{None, length, All, map, sym, refl, ap, ◌∙◌, get_or}
use Rattle.run_goodness.proofs.Names.{All-from_get_or, slice_get-get_or, Command, Refused, Chosen}
use Rattle.run_goodness.proofs.Names.{list_at, Commanded, History, BoardStep, own_in, refused_with}
use Rattle.run_goodness.proofs.Names.{Input, settings_at, commands_before, RepliesAreBy}
use Rattle.run_goodness.proofs.Names.{commands_before_reply, IsRun}
use Rattle.run_goodness.proofs.Runs.HintLemmas as hints
use Rattle.run_goodness.proofs.Runs.ReceiveLemmas as receives
use Rattle.run_goodness.proofs.Runs.RunLemmas as runs
use Rattle.run_goodness.proofs.Runs.TransmitLemmas as transmits

-- each answer has a text
end-text : (i : Input) (c : Command) (a : Answer) → IsEnd i c a → has_text a ≡ true
end-text i give.Expire a (n, is, few) = ap has_text is
end-text i (give.Mask q mask) a is = ap has_text is
end-text i (give.Flows q count) a is = ap has_text is
end-text i (give.Sock size) a is = ap has_text is
end-text i (give.Offline cpu) a is = ap has_text is
end-text i (give.Online cpu) a is = ap has_text is
end-text i (give.XCpus tx mask) a is = ap has_text is
end-text i (give.XQueues tx queues) a is = ap has_text is
end-text i (give.Reta place q) a is = ap has_text is
end-text i (give.Stand app cpu) a is = ap has_text is

answer-text : (i : Input) (h : History) (c : Command) (o : Option Refused) (a : Answer)
    → IsAnswer i h c o a → has_text a ≡ true
answer-text i h c (Some (refused.CpuInUse user)) a is = ap has_text is
answer-text i h c (Some refused.CpuOffline) a is = ap has_text is
answer-text i h c (Some refused.AlreadyOnline) a is = ap has_text is
answer-text i h c None a (inl end) = end-text i c a end
answer-text i h c None a (inr (lanes, why, gate, is, may)) = ap has_text is

module _ (i : Input) (h : History) (run : IsRun i h) where
  abbrev rx_own : ℕ → List BoardStep
  rx_own = own_in run.rx_seats

  abbrev tx_own : ℕ → List BoardStep
  tx_own = own_in run.tx_seats

  answers-have-texts : All (λ (c : Commanded). has_text c.answer ≡ true) h.commands
  answers-have-texts =
      All-from_get_or (λ (c : Commanded). has_text c.answer ≡ true) h.commands
      (record { command = give.Expire; answer = says.Done })
      (λ k less.
      (let c : Commanded = get_or h.commands k
      (record { command = give.Expire; answer = says.Done }) in
      answer-text i h c.command (refused_with i (settings_at i h k) c.command) c.answer
      ((runs.commands i h run).answers k c
      (slice_get-get_or h.commands k (record { command = give.Expire; answer = says.Done }) less))))

  matched : AreMatched (length i.plan.apps) h
  matched = record {
    choices = run.received.queues.choice_lists ∙ sym run.received.queues.taken_lists;
    inboxes =
        ap length run.received.board.inboxes
        ∙ ((runs.rx-facts i h run).counted.outs ∙ run.received.board.out_count);
    sent = run.sent.applications.sent_lists;
    tx_choices = run.sent.applications.choice_lists;
    writes = run.sent.applications.write_lists;
  }

  replies : AreReplies i.packets h
  replies = record {
    sent =
        transmits.front i h run.rx rx_own run.rx_lists (runs.rx-facts i h run)
        run.received.board.inboxes (runs.inboxes-stand i h run) run.tx tx_own run.tx_lists
        (runs.tx-facts i h run) run.tries run.applications run.maps_seen (runs.within i h run)
        run.sent;
    queue = hints.queues-of-replies i h run;
    chosen = λ a. (
      [],
      append-none (map (λ (c : Chosen). c.id) (list_at h.tx_choices a))
          ∙ transmits.all-chosen i h run.rx rx_own run.rx_lists (runs.rx-facts i h run)
          run.received.board.inboxes (runs.inboxes-stand i h run) run.tx tx_own run.tx_lists
          (runs.tx-facts i h run) run.tries run.applications run.maps_seen
          (runs.within i h run)
          run.sent a,
    );
    class =
        transmits.classes i h run.rx rx_own run.rx_lists (runs.rx-facts i h run)
        run.received.board.inboxes (runs.inboxes-stand i h run) run.tx tx_own run.tx_lists
        (runs.tx-facts i h run) run.tries run.applications run.maps_seen (runs.within i h run)
        run.sent;
    want =
        transmits.wants i h run.rx rx_own run.rx_lists (runs.rx-facts i h run)
        run.received.board.inboxes (runs.inboxes-stand i h run) run.tx tx_own run.tx_lists
        (runs.tx-facts i h run) run.tries run.applications run.maps_seen (runs.within i h run)
        run.sent;
  }
    where
      append-none : {A : Type 0} (xs : List A) → xs ++ [] ≡ xs
      append-none [] = refl
      append-none (x ∷ xs) = ap (λ r. x ∷ r) (append-none xs)

  steered : Rattle.history.specs.Regular.AreSteered h
  steered =
      receives.are-steered i h run.rx rx_own run.rx_lists (runs.rx-facts i h run) run.tries
      run.queues run.queues_seen run.input run.commands run.received

  delivered : Rattle.history.specs.Regular.AreDelivered i.packets (length i.plan.apps) h
  delivered =
      receives.are-delivered i h run.rx rx_own run.rx_lists (runs.rx-facts i h run) run.tries
      run.queues run.queues_seen run.input run.commands run.received

  regular : Regular i.packets (length i.plan.apps) h
  regular = record {
    matched = matched;
    arrived =
        receives.have-arrived i h run.rx rx_own run.rx_lists (runs.rx-facts i h run) run.tries
        run.queues run.queues_seen run.input run.commands run.received;
    steered = steered;
    delivered = delivered;
    replies = replies;
    shipped =
        transmits.are-shipped i h run.rx rx_own run.rx_lists (runs.rx-facts i h run)
        run.received.board.inboxes (runs.inboxes-stand i h run) run.tx tx_own run.tx_lists
        (runs.tx-facts i h run) run.tries run.applications run.maps_seen (runs.within i h run)
        run.sent;
    answers = answers-have-texts;
  }

  is-steered : IsSteered i h
  is-steered = record {
    regular = regular;
    places =
        receives.one-place i h run.rx rx_own run.rx_lists (runs.rx-facts i h run) run.tries
        run.queues run.queues_seen run.input run.commands run.received;
    order =
        receives.in-order i h run.rx rx_own run.rx_lists (runs.rx-facts i h run) run.tries
        run.queues run.queues_seen run.input run.commands run.received;
  }

  by-rule : RepliesAreBy i h (commands_before_reply run.tries run.applications)
  by-rule =
      transmits.by-rule i h run.rx rx_own run.rx_lists (runs.rx-facts i h run)
      run.received.board.inboxes (runs.inboxes-stand i h run) run.tx tx_own run.tx_lists
      (runs.tx-facts i h run) run.tries run.applications run.maps_seen (runs.within i h run)
      run.sent

  replies-by-rule : RepliesAreByRule i h (commands_before_reply run.tries run.applications)
  replies-by-rule = record {
    sent = λ a. (record {
      first = replies.sent a;
      queue = hints.queues-of-replies i h run a;
      stood = hints.stood-of-replies i h run a;
    });
    prefixes = by-rule.prefixes;
    each = by-rule.each;
    places =
        transmits.one-place i h run.rx rx_own run.rx_lists (runs.rx-facts i h run)
        run.received.board.inboxes (runs.inboxes-stand i h run) run.tx tx_own run.tx_lists
        (runs.tx-facts i h run) run.tries run.applications run.maps_seen (runs.within i h run)
        run.sent;
    leave = runs.leave i h run;
  }

  good : Good i h
  good = record {
    at = commands_before run.tries run.queues;
    tx_at = commands_before_reply run.tries run.applications;
    arrived = runs.has-arrived-all i h run;
    queues = hints.queues-are-seen i h run;
    choices =
        receives.choices-by-rule i h run.rx rx_own run.rx_lists (runs.rx-facts i h run) run.tries
        run.queues run.queues_seen run.input run.commands run.received;
    wants = hints.wants-are-written i h run;
    heads = runs.heads i h run;
    drops = runs.drops i h run;
    steered = is-steered;
    swept = runs.swept i h run;
    writes = hints.writes-are-right i h run;
    commands = runs.commands i h run;
    replies = replies-by-rule;
  }

pub runs_are_good : RunsAreGood
runs_are_good i h run = good i h run
