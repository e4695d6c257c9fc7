-- What a worker keeps of its actors while another one goes on.
use Rattle.board_api.specs.Calls.Rights.{Pulls}
use Rattle.run_workers.proofs.Names.{◌≡◌, ℕ, ◌<◌, List, ap, sym, subst, refl, ◌∙◌, StepBy, steps_of}
use Rattle.run_workers.proofs.Names.{BoardSizes, BoardSeatView, Turn, Setup, IsDrain, Drain, Exit}
use Rattle.run_workers.proofs.Names.{Poller, Server, Grows, Mark, Note, KeepsDrain, KeepsPoller}
use Rattle.run_workers.proofs.Names.{KeepsServer, actor_at, StageView, Seats, length}
use Rattle.run_workers.proofs.Hands.MapLemmas.{maps_later}
use Rattle.run_workers.proofs.Hands.ReadLemmas.{kept_grown}
use Rattle.run_workers.proofs.Records.PollingLemmas.{pollers_stay}
use Rattle.run_workers.proofs.Records.ReplyingLemmas.{servers_stay}

module _ (t : StageView) (s r : Seats) where
  pub poller_stays : (first : ℕ → ℕ) (turns more : List (StepBy Turn))
      (marks more_marks : List (StepBy Mark)) (k : ℕ) (p : Poller) → r.rx.number ≡ s.rx.number
      → steps_of p.queue more ≡ steps_of p.queue turns
      → steps_of p.queue more_marks ≡ steps_of p.queue marks → Grows s.rx.steps r.rx.steps
      → Grows s.hint.steps r.hint.steps
      → KeepsPoller t s first turns marks k p → KeepsPoller t r first more more_marks k p
  poller_stays first turns more marks more_marks k p number same same_marks steps hints x =
      assumption (
        x.own ∙ ap (λ n. actor_at t.rx.sizes n k) (sym number),
        kept_grown (length t.shared.given.homes) p s.rx.steps r.rx.steps steps x.kept,
        pollers_stay t.shared.given (first p.queue) t.rx.sizes.start p turns more marks more_marks
            s.rx.steps r.rx.steps s.hint.steps r.hint.steps same same_marks steps hints x.keeps,
      )

  pub server_stays : (rows : ℕ) (replies more : List (StepBy Turn))
      (noted more_notes : List (StepBy Note)) (k : ℕ) (v : Server) → r.tx.number ≡ s.tx.number
      → steps_of v.app more ≡ steps_of v.app replies
      → steps_of v.app more_notes ≡ steps_of v.app noted
      → Grows s.rx.steps r.rx.steps → Grows s.tx.steps r.tx.steps
      → Grows s.hint.steps r.hint.steps
      → KeepsServer t s rows replies noted k v → KeepsServer t r rows more more_notes k v
  server_stays rows replies more noted more_notes k v number same same_notes steps tx_steps hints
      x =
      assumption (
        x.own ∙ ap (λ n. actor_at t.tx.sizes n k) (sym number),
        maps_later s.tx.steps r.tx.steps tx_steps t.shared.given v.kept x.maps,
        servers_stay t.shared.given rows t.tx.sizes.start t.late v replies more noted more_notes
            s.rx.steps r.rx.steps s.tx.steps r.tx.steps s.hint.steps r.hint.steps same same_notes
            steps tx_steps hints x.keeps,
      )

-- a drain with the record of its seat's steps after a call
pub drain_keeps : (about : BoardSizes) (given : Setup) (exit : Exit) (old new : BoardSeatView)
    (k : ℕ) (d e : Drain) → new.number ≡ old.number → e.lane ≡ d.lane → e.exit ≡ d.exit
    → e.start ≡ d.start → IsDrain given e new.steps → KeepsDrain about given exit old k d
    → KeepsDrain about given exit new k e
drain_keeps about given exit old new k d e number lane way start is x =
    record {
      own = lane ∙ (x.own ∙ ap (λ n. actor_at about n k) (sym number));
      within = subst (λ n. n < about.lanes) (sym lane) x.within;
      mine = subst (λ (z : ℕ × ℕ). Pulls about z.0 z.1) (λ j. (sym number j, sym lane j)) x.mine;
      exit_is = way ∙ x.exit_is;
      start = start ∙ x.start;
      is = is;
    }

-- a drain that another call has left as it was
pub drain_stays : (about : BoardSizes) (given : Setup) (exit : Exit) (old new : BoardSeatView)
    (k : ℕ) (d : Drain) → new.number ≡ old.number
    → (IsDrain given d old.steps → IsDrain given d new.steps)
    → KeepsDrain about given exit old k d → KeepsDrain about given exit new k d
drain_stays about given exit old new k d number stays x =
    drain_keeps about given exit old new k d d number refl refl refl (stays x.is) x
