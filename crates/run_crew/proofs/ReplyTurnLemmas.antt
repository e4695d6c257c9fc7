-- The turns of the applications explain the workers' lists, and are those of their journals.
use Rattle.run_workers.specs.declared.server.Server.{Server}
use Rattle.run_workers.specs.Records.Replying.{EachReplied, RepliedTurn, replies_in, reply_turns}
use Rattle.run_workers.specs.Actors.{KeepsServer}
use Rattle.run_crew.proofs.Names.{◌≡◌, ◌⊎◌, inl, inr, ℕ, ◌/◌, ◌%◌, ◌<◌, ◌≤◌, List, [], ◌∷◌, ◌++◌}
use Rattle.run_crew.proofs.Names.{Some, length, map, sym, refl, ap, ◌∙◌, subst, arith, slice_get}
use Rattle.run_crew.proofs.Names.{cases_lt, get_or_past, map-append, StepBy, steps_of, Chosen}
use Rattle.run_crew.proofs.Names.{HintStep, list_at, Arrival, History, Sent, BoardStep, Turn, Input}
use Rattle.run_crew.proofs.Names.{Setup, oldest_first, choices_in, IsReplying, Note, Each}
use Rattle.run_crew.proofs.Names.{StageView, IsPlayed, servers_of, Seated, TransmitEnds, HasTurns}
use Rattle.run_crew.proofs.Names.{SeatTurns}
use Rattle.run_crew.proofs.ExecutionLemmas.{AreBoardTurns, IsSeatOf, played-choices, played-number}
use Rattle.run_crew.proofs.ExecutionLemmas.{seat-of, turns-of-board}

-- ---- each choice is for the packet of its reply

module _ (rows start : ℕ) (given : Setup) (packets app home : ℕ) (arrivals : List Arrival)
    (hints : List HintStep) (tx : List BoardStep) where
  ids-same : (rs : List RepliedTurn)
      → EachReplied rows start given packets app home arrivals hints tx rs
      → map (λ (c : Chosen). c.id) (choices_in (reply_turns rs))
      ≡ map (λ (s : Sent). s.id) (replies_in rs)
  ids-same [] each = refl
  ids-same (r ∷ rs) (is, each) =
      ap (map (λ (c : Chosen). c.id))
      (map-append (λ (u : Turn). u.chosen) (oldest_first (reply_turns rs)) (r.turn ∷ []))
      ∙ (map-append (λ (c : Chosen). c.id) (choices_in (reply_turns rs)) (r.turn.chosen ∷ [])
      ∙ (both (ids-same rs each) is.id_is
      ∙ (sym (map-append (λ (s : Sent). s.id) (replies_in rs) (r.sent ∷ []))
      ∙ sym (ap (map (λ (s : Sent). s.id))
      (map-append (λ (x : RepliedTurn). x.sent) (oldest_first rs) (r ∷ []))))))
    where
      both : {xs ys : List ℕ} {x y : ℕ} → xs ≡ ys → x ≡ y → xs ++ x ∷ [] ≡ ys ++ y ∷ []
      both {xs} {ys} {x} {y} same is_same =
          ap (λ zs. zs ++ x ∷ []) same ∙ ap (λ z. ys ++ z ∷ []) is_same

pub replies-chosen : (given : Setup) (rows start : ℕ) (arrivals : List Arrival) (s : Server)
    (turns : List (StepBy Turn)) (noted : List (StepBy Note)) (rx tx : List BoardStep)
    (hints : List HintStep) → IsReplying given rows start arrivals s turns noted rx tx hints
    → map (λ (c : Chosen). c.id) s.choices.items ≡ map (λ (r : Sent). r.id) s.sent.items
replies-chosen given rows start arrivals s turns noted rx tx hints x =
    ap (map (λ (c : Chosen). c.id)) (x.choices ∙ ap choices_in (sym x.own))
    ∙ (ids-same rows start given s.sent.room s.app s.home arrivals hints tx x.replied x.are
    ∙ sym (ap (map (λ (r : Sent). r.id)) x.replies))

module _ (i : Input) (h : History) (t : StageView) (crew : List Seated) (turns : ℕ → SeatTurns)
    (rx_own own : ℕ → List BoardStep) (e : TransmitEnds i h t crew turns rx_own own) where
  abbrev W : ℕ
  W = length crew

  abbrev A : ℕ
  A = length i.plan.apps

  -- a worker's record, with its turns
  pub has : (w : ℕ) (x : Seated) → slice_get crew w ≡ Some x → HasTurns t x (turns w)
  has = e.turns_are.workers

  -- ---- the record of an application

  pub keeps-server : (a : ℕ) (p : IsPlayed crew servers_of a)
      → KeepsServer t p.by.seats (has (a % W) p.by p.worker).is.rows
      (has (a % W) p.by p.worker).is.replies (has (a % W) p.by p.worker).is.noted (a / W) p.actor
  keeps-server a p = (has (a % W) p.by p.worker).is.servers (a / W) p.actor p.is

  pub app-is : (a : ℕ) (p : IsPlayed crew servers_of a) → p.actor.app ≡ a
  app-is a p =
      played-number t.tx.sizes W a p.actor.app p.by.seats.tx.number e.work.tx_count e.work.some
      (keeps-server a p).own (e.work.tx_numbers (a % W) p.by p.worker)

  journal-is : (a : ℕ) → a < A → list_at h.tx_choices a
      ≡ choices_in (steps_of a (turns (a % W)).replied)
  journal-is a less =
      let p = e.work.servers a less in
      let y = has (a % W) p.by p.worker in
      (e.journals a less p).choices
      ∙ ((keeps-server a p).keeps.choices
      ∙ played-choices p.actor.app a y.is.replies (turns (a % W)).replied (app-is a p) y.replied)

  seat : Each (λ w x. IsSeatOf t.tx.sizes A w (own w) (turns w).replied) crew
  seat w x there =
      let y = has w x there in
      let count = e.out_count in
      seat-of t.tx.sizes A x.worker.servers.items (λ (v : Server). v.app) x.seats.tx.number w
      x.seats.tx.steps (own w) y.is.replies (turns w).replied (e.work.tx_numbers w x there)
      (e.lists w x there) y.replied y.is.replied y.is.by_servers
      (λ k v got. (let keeps = y.is.servers k v got in
      (keeps.own, subst (λ n. v.app < n) count keeps.within)))

  pub board-turns : AreBoardTurns W A own (λ w. (turns w).replied) h.tx_choices
  board-turns =
      turns-of-board t.tx.sizes crew A own (λ w. (turns w).replied) h.tx_choices e.work.some
      e.work.tx_count seat (λ w more. ap (λ s. s.replied) (e.turns_are.others w more)) e.others
      e.choice_count journal-is

  -- each application has chosen for the packets of its replies
  pub all-chosen : (a : ℕ) → map (λ (c : Chosen). c.id) (list_at h.tx_choices a)
      ≡ map (λ (s : Sent). s.id) (list_at h.sent a)
  all-chosen a = at (cases_lt a A)
    where
      at : (a < A) ⊎ (A ≤ a) → map (λ (c : Chosen). c.id) (list_at h.tx_choices a)
          ≡ map (λ (s : Sent). s.id) (list_at h.sent a)
      at (inl less) =
          let p = e.work.servers a less in
          let y = has (a % W) p.by p.worker in
          let j = e.journals a less p in
          ap (map (λ (c : Chosen). c.id)) j.choices
          ∙ (replies-chosen t.shared.given y.is.rows t.tx.sizes.start t.late p.actor y.is.replies
          y.is.noted p.by.seats.rx.steps p.by.seats.tx.steps p.by.seats.hint.steps
          (keeps-server a p).keeps
          ∙ sym (ap (map (λ (s : Sent). s.id)) j.sent))
      at (inr more) =
          let chosen = e.choice_count in
          let sent = e.sent_count in
          ap (map (λ (c : Chosen). c.id))
          (get_or_past h.tx_choices a [] (omega (arith, more, chosen)))
          ∙ sym (ap (map (λ (s : Sent). s.id))
          (get_or_past h.sent a [] (omega (arith, more, sent))))
