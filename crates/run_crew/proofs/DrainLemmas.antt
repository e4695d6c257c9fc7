-- The coupling invariants of the lanes that the workers empty.
use Rattle.std.proofs.Common.{max}
use Rattle.hop_rule.specs.Boards.{lane_steps}
use Rattle.hop_rule.specs.Deliveries.{Delivery}
use Rattle.hop_rule.specs.Lanes.{idle, phase}
use Rattle.hop_rule.specs.Sizes.{puller}
use Rattle.board_api.specs.OwnSteps.{delivered_by, retired_by}
use Rattle.board_api.specs.Seats.{BoardSeatView}
use Rattle.steer_model.specs.State.Setup.{app_for}
use Rattle.run_workers.specs.Hands.Drains.{IsDrain, hand_phase, out_for}
use Rattle.run_workers.specs.declared.drain.Drain.{Drain}
use Rattle.run_workers.specs.declared.drain.Exit.{Exit}
use Rattle.run_workers.specs.declared.drain.Exit.TheVariants.{Inboxes, Port}
use Rattle.run_coupling.specs.Coupling.Ends.{retired_count}
use Rattle.run_workers.specs.Actors.{KeepsDrain}
use Rattle.run_crew.specs.DrainLaws.{AreDrained, DrainsAreCoupled, DrainsKeepCoupling}
use Rattle.run_crew.proofs.Names.{◌≡◌, ℕ, ◌+◌, ◌-◌, ◌/◌, ◌%◌, ◌<◌, List, Some, All, length, sym}
use Rattle.run_crew.proofs.Names.{refl, ap, ◌∙◌, subst, arith, slice_get, BoardSizes, BoardStep}
use Rattle.run_crew.proofs.Names.{Setup, actor_at, IsPlayed, drains_of, ships_of, Seated}
use Rattle.run_crew.proofs.ExecutionLemmas.{actor-back}

module _ (about : BoardSizes) (given : Setup) (exit : Exit) (crew : List Seated)
    (kind : Seated → List Drain) (seat : Seated → BoardSeatView) (own : ℕ → List BoardStep)
    (some : 0 < length crew) (count : about.seats ≡ length crew + 1)
    (lists : (w : ℕ) (x : Seated) → slice_get crew w ≡ Some x → own w ≡ (seat x).steps)
    (numbers : (w : ℕ) (x : Seated) → slice_get crew w ≡ Some x → (seat x).number ≡ w)
    (keeps : (w : ℕ) (x : Seated) → slice_get crew w ≡ Some x → (k : ℕ) (d : Drain)
    → slice_get (kind x) k ≡ Some d → KeepsDrain about given exit (seat x) k d)
    (are : AreDrained about crew kind) where
  module _ (l : ℕ) (less : l < about.lanes) where
    abbrev p : IsPlayed crew kind l
    p = are.each l less

    kept : KeepsDrain about given exit (seat p.by) (l / length crew) p.actor
    kept = keeps (l % length crew) p.by p.worker (l / length crew) p.actor p.is

    lane-is : p.actor.lane ≡ l
    lane-is =
        kept.own
        ∙ (ap (λ n. actor_at about n (l / length crew))
        (numbers (l % length crew) p.by p.worker)
        ∙ actor-back about (length crew) l count some)

    puller-is : puller about l ≡ l % length crew
    puller-is = ap (λ m. l % m) (whole count some)
      where
        whole : {s n : ℕ} → s ≡ n + 1 → 0 < n → max 1 (s - 1) ≡ n
        whole one more = omega (arith, one, more)

    -- the drain's record is over the own list of the lane's seat
    is-drain : IsDrain given p.actor (own (puller about l))
    is-drain =
        subst (λ ds. IsDrain given p.actor ds)
        (sym (ap own puller-is ∙ lists (l % length crew) p.by p.worker)) kept.is

    right-at : All (λ (g : Delivery). g.to ≡ out_for exit given g.id)
        (delivered_by l (own (puller about l)))
    right-at =
        subst (λ n. All (λ (g : Delivery). g.to ≡ out_for exit given g.id)
        (delivered_by n (own (puller about l)))) lane-is
        (subst (λ x. All (λ (g : Delivery). g.to ≡ out_for x given g.id)
        (delivered_by p.actor.lane (own (puller about l)))) kept.exit_is is-drain.right)

    empty-at : phase l (lane_steps (own (puller about l))) ≡ idle
    empty-at =
        ap (λ n. phase n (lane_steps (own (puller about l)))) (sym lane-is)
        ∙ (is-drain.hand ∙ ap hand_phase (are.hands l less))

    retired-at : retired_count about own l ≡ p.actor.retired
    retired-at =
        ap (λ n. length (retired_by n (own (puller about l)))) (sym lane-is)
        ∙ sym is-drain.retired

  coupled : (out : ℕ → ℕ) → ((id : ℕ) → out_for exit given id ≡ out id)
      → DrainsAreCoupled about crew kind out own are
  coupled out same =
      record {
        right = λ l less k d within. right-at l less k d within ∙ same _;
        empty = empty-at;
        retired = retired-at;
      }

pub drains_keep_coupling : DrainsKeepCoupling
drains_keep_coupling =
    record {
      receives = λ t crew queues apps own are work lists.
          coupled t.rx.sizes t.shared.given Inboxes crew drains_of (λ x. x.seats.rx) own work.some
          work.rx_count lists work.rx_numbers (λ w x there. (work.work w x there).drains) are
          (app_for t.shared.given) (λ id. refl);
      transmits = λ t crew queues apps own are work lists.
          coupled t.tx.sizes t.shared.given Port crew ships_of (λ x. x.seats.tx) own work.some
          work.tx_count lists work.tx_numbers (λ w x there. (work.work w x there).ships) are
          (λ id. 0) (λ id. refl);
    }
