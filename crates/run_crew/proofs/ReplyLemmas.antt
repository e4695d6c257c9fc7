-- The coupling invariants of the applications, from their records.
use Rattle.run_workers.specs.Hands.Servers.{HasFlowsBelow}
use Rattle.run_coupling.specs.Coupling.Hints.{AreRecorded, CameBy, Stands}
use Rattle.run_crew.specs.ApplicationCoupling.{IsApplicationCoupled, maps_seen}
use Rattle.run_crew.specs.ReplyLaws.{ApplicationsKeepCoupling, ApplicationsCoupled}
use Rattle.run_crew.proofs.Names.{◌≡◌, ℕ, ◌%◌, ◌<◌, ◌≤◌, List, [], Some, All, length, map, sym}
use Rattle.run_crew.proofs.Names.{refl, ap, ◌∙◌, subst, arith, slice_get, Contains, get_or_past}
use Rattle.run_crew.proofs.Names.{All-nil, SeatView, HintStep, list_at, History, Sent, nth_step}
use Rattle.run_crew.proofs.Names.{BoardStep, none-some, Execution, turns_of, Turn, Input, setup_in}
use Rattle.run_crew.proofs.Names.{AreShared, HintCodes, ApplicationsAreCoupled, IsReplying, Each}
use Rattle.run_crew.proofs.Names.{StageView, IsPlayed, servers_of, Seated, TransmitEnds, SeatTurns}
use Rattle.run_crew.proofs.Names.{reply_execution}
use Rattle.run_crew.proofs.ChoiceFunctions.{chosen}
use Rattle.run_crew.proofs.ReplyTurnLemmas.{all-chosen, app-is, board-turns, has, keeps-server}
use Rattle.run_crew.proofs.ExecutionLemmas.{keep-turns, none-beyond}

module _ (law : ApplicationsAreCoupled) (i : Input) (h : History) (t : StageView)
    (crew : List Seated) (turns : ℕ → SeatTurns) (rx_own own : ℕ → List BoardStep) (c : HintCodes)
    (seats : List (SeatView HintStep)) (e : TransmitEnds i h t crew turns rx_own own)
    (codes : AreShared c) (among : Each (λ w x. Contains seats x.seats.hint) crew) where
  abbrev W : ℕ
  W = length crew

  abbrev A : ℕ
  A = length i.plan.apps

  abbrev execution : Execution
  execution =
      reply_execution crew turns h.tx_choices (λ a. map (λ (s : Sent). s.id) (list_at h.sent a))

  -- what the turns of an application have seen, and the replies of its writes
  abbrev Seen : Type 0
  Seen = (ℕ → ℕ → ℕ) × (ℕ → ℕ)

  -- the coupling invariants of application a at the seat that plays it
  abbrev IsCoupled : ℕ → Seen → Type 0
  IsCoupled a z =
      IsApplicationCoupled i h rx_own t.tx.sizes (own (a % W)) c seats execution a
      (turns (a % W)).noted (list_at h.sent a) (list_at h.writes a) z.0 z.1

  module _ (a : ℕ) (less : a < A) where
    abbrev p : IsPlayed crew servers_of a
    p = e.work.servers a less

    coupled : (z : Seen) × IsCoupled a z
    coupled =
        let y = has i h t crew turns rx_own own e (a % W) p.by p.worker in
        let k = keeps-server i h t crew turns rx_own own e a p in
        let same = app-is i h t crew turns rx_own own e a p in
        let j = e.journals a less p in
        let rx_is = e.rx_lists (a % W) p.by p.worker in
        let tx_is = e.lists (a % W) p.by p.worker in
        let x : IsReplying (setup_in i) y.is.rows t.tx.sizes.start h.arrivals p.actor
        (turns (p.actor.app % W)).replied (turns (p.actor.app % W)).noted (rx_own (a % W))
        (own (p.actor.app % W)) p.by.seats.hint.steps =
        subst (λ g. IsReplying g y.is.rows t.tx.sizes.start h.arrivals p.actor
        (turns (p.actor.app % W)).replied (turns (p.actor.app % W)).noted (rx_own (a % W))
        (own (p.actor.app % W)) p.by.seats.hint.steps) e.given
        (subst (λ late. IsReplying t.shared.given y.is.rows t.tx.sizes.start late p.actor
        (turns (p.actor.app % W)).replied (turns (p.actor.app % W)).noted (rx_own (a % W))
        (own (p.actor.app % W)) p.by.seats.hint.steps) e.late
        (subst (λ n. IsReplying t.shared.given y.is.rows t.tx.sizes.start t.late p.actor
        (turns (n % W)).replied (turns (n % W)).noted (rx_own (a % W)) (own (n % W))
        p.by.seats.hint.steps) (sym same)
        (subst (λ ts. IsReplying t.shared.given y.is.rows t.tx.sizes.start t.late p.actor ts
        (turns (a % W)).noted (rx_own (a % W)) (own (a % W)) p.by.seats.hint.steps) y.replied
        (subst (λ ns. IsReplying t.shared.given y.is.rows t.tx.sizes.start t.late p.actor
        y.is.replies ns (rx_own (a % W)) (own (a % W)) p.by.seats.hint.steps) y.noted
        (subst (λ (ds : List BoardStep × List BoardStep). IsReplying t.shared.given y.is.rows
        t.tx.sizes.start t.late p.actor y.is.replies y.is.noted ds.0 ds.1 p.by.seats.hint.steps)
        (λ k'. (sym rx_is k', sym tx_is k')) k.keeps))))) in
        let flows : HasFlowsBelow (setup_in i) p.actor.sent.room y.is.rows =
        subst (λ g. HasFlowsBelow g p.actor.sent.room y.is.rows) e.given
        (subst (λ n. HasFlowsBelow t.shared.given n y.is.rows) (sym k.room) y.is.flows) in
        let home : slice_get i.plan.apps p.actor.app ≡ Some p.actor.home =
        ap (slice_get i.plan.apps) same ∙ j.home in
        let z =
        law i h rx_own (a % W) t.tx.sizes (own (p.actor.app % W)) c seats p.by.seats.hint
        execution y.is.rows p.actor (turns (p.actor.app % W)).noted x e.arrived flows home codes
        (among (a % W) p.by p.worker) j.hand in (
          (maps_seen x.replied, z.0),
          subst (λ n. IsApplicationCoupled i h rx_own t.tx.sizes (own (n % W)) c seats execution n
              (turns (n % W)).noted (list_at h.sent a) (list_at h.writes a) (maps_seen x.replied)
              z.0) same
              (subst (λ ws. IsApplicationCoupled i h rx_own t.tx.sizes (own (p.actor.app % W)) c
              seats execution p.actor.app (turns (p.actor.app % W)).noted (list_at h.sent a) ws
              (maps_seen x.replied) z.0) (sym j.writes)
              (subst (λ ss. IsApplicationCoupled i h rx_own t.tx.sizes (own (p.actor.app % W)) c
              seats execution p.actor.app (turns (p.actor.app % W)).noted ss p.actor.writes.items
              (maps_seen x.replied) z.0) (sym j.sent) z.1)),
        )

  -- without replies there is nothing to coupling
  uncoupled : (a : ℕ) → A ≤ a → IsCoupled a (λ k w. 0, λ n. 0)
  uncoupled a more =
      record {
        found = λ k s at. nothing k s at;
        knows = λ k u at. no-turn k u at;
        picks = λ k u s at. no-turn k u at;
        by_table = λ k u at. no-turn k u at;
        queues =
            subst (λ ss. All (λ (s : Sent). CameBy i h c seats s.id s.rxq) ss) (sym none)
            (All-nil (λ (s : Sent). CameBy i h c seats s.id s.rxq));
        stands =
            subst (λ ss. All (λ (s : Sent). Stands i h c seats a s.cpu) ss) (sym none)
            (All-nil (λ (s : Sent). Stands i h c seats a s.cpu));
        writes_are =
            subst (λ ss. AreRecorded i h c seats rx_own a (map (λ (s : Sent). s.id) ss)
            (list_at h.writes a)) (sym none) unwritten;
        made = λ less. absurd (omega (arith, more, less));
      }
    where
      none : list_at h.sent a ≡ []
      none = let count = e.sent_count in get_or_past h.sent a [] (omega (arith, more, count))

      unwritten : list_at h.writes a ≡ []
      unwritten =
          let count = e.write_count in get_or_past h.writes a [] (omega (arith, more, count))

      nothing : {B : Type 0} (k : ℕ) (s : Sent) → slice_get (list_at h.sent a) k ≡ Some s → B
      nothing k s at = none-some s (sym (ap (λ ss. slice_get ss k) none) ∙ at)

      no-turn : {B : Type 0} (k : ℕ) (u : Turn) → nth_step (turns_of execution a) k ≡ Some u → B
      no-turn k u at =
          none-some u
          (sym (ap (λ us. nth_step us k) (none-beyond W A own (λ w. (turns w).replied)
          h.tx_choices (board-turns i h t crew turns rx_own own e) a more))
          ∙ at)

  all-coupled : (seen : ℕ → Seen) × ((a : ℕ) → IsCoupled a (seen a))
  all-coupled = chosen IsCoupled A (λ k w. 0, λ n. 0) coupled uncoupled

  keep-coupling : ApplicationsCoupled i h t crew turns rx_own own c seats execution
  keep-coupling =
      let y = all-coupled in
      record {
        seen = λ a. (y.0 a).0;
        keeps = record {
          turns = keep-turns W A own (λ w. (turns w).replied) h.tx_choices
              (board-turns i h t crew turns rx_own own e) _
              (all-chosen i h t crew turns rx_own own e);
          sent_lists = e.sent_count;
          choice_lists = e.choice_count;
          write_lists = e.write_count;
          replies = λ a. refl;
          choices = λ a. refl;
          found = λ a. (y.1 a).found;
          knows = λ a. (y.1 a).knows;
          picks = λ a. (y.1 a).picks;
          by_table = λ a. (y.1 a).by_table;
        };
        queues = λ a. (y.1 a).queues;
        stands = λ a. (y.1 a).stands;
        writes = λ a. (y.1 a).writes_are;
        reply = λ a. (y.0 a).1;
        made = λ a. (y.1 a).made;
      }

pub applications_keep_coupling : ApplicationsAreCoupled → ApplicationsKeepCoupling
applications_keep_coupling law i h t crew turns rx_own own c seats e codes among =
    keep-coupling law i h t crew turns rx_own own c seats e codes among
