-- What steps leave of a drain's record.
use Rattle.std.proofs.lemmas.Bool.{eq-eqb}
use Rattle.hop_rule.specs.Deliveries.{Delivery, delivery}
use Rattle.hop_rule.specs.Lanes.{Phase, gave, has_pulled}
use Rattle.hop_rule.specs.declared.step.Change.TheVariants.{Pulled}
use Rattle.hop_rule.specs.declared.step.LaneStep.TheVariants.{Given, Retired}
use Rattle.board_api.specs.Calls.Results.{DeliverTells, PullTells, RetireTells}
use Rattle.board_api.specs.OwnSteps.{delivered_by, delivered_in, retired_by, retired_in}
use Rattle.board_api.specs.declared.answers.Pull.TheVariants as pull
use Rattle.board_api.specs.declared.held_lane.HeldLane.TheVariants as held
use Rattle.board_api.specs.declared.held_lane.LaneId.TheVariants as id
use Rattle.run_workers.specs.Hands.Drains.{hand_phase, out_for}
use Rattle.run_workers.proofs.Names.{◌≡◌, ℕ, ◌+◌, ◌==◌, List, [], ◌∷◌, ◌++◌, All, None, Some, refl}
use Rattle.run_workers.proofs.Names.{sym, ap, subst, ◌∙◌, false, length, arith, Bool, All-cons}
use Rattle.run_workers.proofs.Names.{filter_map-append, LaneLists, if_same, Setup, lane_steps}
use Rattle.run_workers.proofs.Names.{out_slot, idle, holding, out_holding, phase, OutList}
use Rattle.run_workers.proofs.Names.{BoardSizes, BoardStep, Lane, LaneIn, Took, released}
use Rattle.run_workers.proofs.Names.{BoardSeatView, Adds, HeldLane, LeavesLane, OnlyServes, Serves}
use Rattle.run_workers.proofs.Names.{this_lane, IsDrain, Drain}
use Rattle.run_workers.proofs.Hands.DeltaLemmas.{adds_both, held_steps, none_either, out_held_steps}
use Rattle.run_workers.proofs.Hands.DeltaLemmas.{serves_back, serves_next}

-- the packet of a hand
abbrev packet_of : Phase → ℕ
packet_of (has_pulled packet) = packet
packet_of _ = 0

-- ---- steps that serve another lane, or none

pub stays_drain : (given : Setup) (d : Drain) (added own : List BoardStep)
    → LeavesLane d.lane added → IsDrain given d own → IsDrain given d (added ++ own)
stays_drain given d added own leaves is =
    record {
      hand = leaves.hand own ∙ is.hand;
      retired = is.retired ∙ ap length (sym (filter_map-append (retired_in d.lane) added own
          ∙ ap (λ xs. xs ++ retired_by d.lane own) leaves.retires));
      right = subst (All (λ (g : Delivery). g.to ≡ out_for d.exit given g.id))
          (sym (filter_map-append (delivered_in d.lane) added own
          ∙ ap (λ xs. xs ++ delivered_by d.lane own) leaves.deliveries)) is.right;
    }

module _ (given : Setup) (d : Drain) where
  by_adds : (a b : BoardSeatView) (added : List BoardStep) (e : Drain) → Adds added a b
      → IsDrain given e (added ++ a.steps) → IsDrain given e b.steps
  by_adds a b added e adds is =
      subst (IsDrain given e) (sym (ap (λ (s : BoardSeatView). s.steps) adds)) is

  -- a call that served nothing, whatever lane it is asked of
  pub keeps_drain : (a b : BoardSeatView) → ((served : _) → Serves served a b)
      → IsDrain given d a.steps → IsDrain given d b.steps
  keeps_drain a b serves is =
      let s = serves (λ l. false) in
      by_adds a b s.added d s.adds
      (stays_drain given d s.added a.steps (s.only.others d.lane refl) is)

  -- ---- a pull

  serve_pull : (w : ℕ) (x : LaneLists) (packet : ℕ)
      → OnlyServes (this_lane d.lane) (released d.lane (Pulled packet) ++ held_steps d.lane w x)
  serve_pull w x packet =
      record {
        quiet = record { puts = refl; visits = refl };
        holds = record {
          lanes = λ i own e. none_either (d.lane == i) (holding i (lane_steps own)) (Some x) e;
          outs = λ o own e. e;
        };
        others = λ l other. record {
          hand = λ own. rw other refl;
          retires = refl;
          deliveries = refl;
        };
      }

  module _ (about : BoardSizes) (a b c : BoardSeatView) where
    pub pulled_one : (h : HeldLane) (packet : ℕ) → Took about (id.Middle d.lane) a b h
        → PullTells about h b c (pull.Took packet) → IsDrain given d a.steps
        → IsDrain given (record d { hand = Some packet }) c.steps
        × Serves (this_lane d.lane) a c
    pulled_one (held.Middle i content) packet took told is =
        let t = took.1 in
        let back : Adds (released d.lane (Pulled packet)) b c =
        subst (λ (k : ℕ). Adds (released k (Pulled packet)) b c) took.0 told.2 in
        let added : List BoardStep =
        released d.lane (Pulled packet) ++ held_steps d.lane t.word content in
        let adds : Adds added a c =
        adds_both a b c (released d.lane (Pulled packet)) (held_steps d.lane t.word content)
        t.step back in (
          by_adds a c added (record d { hand = Some packet }) adds (record {
            hand = if_same d.lane d.lane (has_pulled packet) (phase d.lane (lane_steps a.steps))
                refl;
            retired = is.retired;
            right = is.right;
          }),
          record { added = added; only = serve_pull t.word content packet; adds = adds },
        )
    pulled_one (held.Out i content) packet took told is = absurd took

    -- nothing waited
    pub pulled_none : (served : ℕ → Bool) (h : HeldLane) → Took about (id.Middle d.lane) a b h
        → PullTells about h b c pull.Empty → Serves served a c
    pulled_none served (held.Middle i content) took told =
        serves_back served about d.lane a b c (held.Middle i content) took told.1
    pulled_none served (held.Out i content) took told = absurd took

    -- ---- a delivery with its retire

    -- the hand is as it was, while an out lane is held
    pub still_pulled : (h : HeldLane) (o packet : ℕ) → Took about (id.Out o) a b h
        → d.hand ≡ Some packet → IsDrain given d a.steps
        → phase d.lane (lane_steps b.steps) ≡ has_pulled packet
    still_pulled (held.Out i content) o packet took hand is =
        ap (λ (s : BoardSeatView). phase d.lane (lane_steps s.steps)) took.1.step
        ∙ (is.hand ∙ ap hand_phase hand)
    still_pulled (held.Middle i content) o packet took hand is = absurd took

    pub has_given : (h : HeldLane) (o place : ℕ) → Took about (id.Out o) a b h
        → DeliverTells about h d.lane b c place → phase d.lane (lane_steps c.steps) ≡ gave
    has_given (held.Out i content) o place took told =
        ap (λ (s : BoardSeatView). phase d.lane (lane_steps s.steps)) told.3
        ∙ if_same d.lane d.lane gave (phase d.lane (lane_steps b.steps)) refl
    has_given (held.Middle i content) o place took told = absurd took

  abbrev given_steps : ℕ → ℕ → ℕ → ℕ → ℕ → ℕ → OutList → List BoardStep
  given_steps head slot o packet place w x =
      Lane (Retired d.lane head) ∷ Lane (Given o d.lane packet place) ∷ LaneIn slot
      ∷ out_held_steps slot o w x

  serve_given : (head slot o packet place w : ℕ) (x : OutList)
      → OnlyServes (this_lane d.lane) (given_steps head slot o packet place w x)
  serve_given head slot o packet place w x =
      record {
        quiet = record { puts = refl; visits = refl };
        holds = record {
          lanes = λ i own e. e;
          outs = λ i own e. none_either (o == i) (out_holding i (lane_steps own)) (Some x) e;
        };
        others = λ l other. record {
          hand = λ own. rw other refl;
          retires = rw other refl;
          deliveries = rw other refl;
        };
      }

  module _ (own : List BoardStep) (head slot o packet place w : ℕ) (x : OutList) where
    one_retired : retired_by d.lane (given_steps head slot o packet place w x ++ own)
        ≡ head ∷ retired_by d.lane own
    one_retired = rw (eq-eqb d.lane d.lane refl) refl

    one_given : delivered_by d.lane (given_steps head slot o packet place w x ++ own)
        ≡ delivery o packet place ∷ delivered_by d.lane own
    one_given = rw (eq-eqb d.lane d.lane refl) refl

    given_drain : o ≡ out_for d.exit given packet → IsDrain given d own
        → IsDrain given (record d { hand = None; retired = d.retired + 1 })
        (given_steps head slot o packet place w x ++ own)
    given_drain right is =
        record {
          hand = if_same d.lane d.lane idle (phase d.lane (lane_steps
              (Lane (Given o d.lane packet place) ∷ LaneIn slot
              ∷ (out_held_steps slot o w x ++ own)))) refl;
          retired = (let k : d.retired ≡ length (retired_by d.lane own) = is.retired in
              omega (arith, k)) ∙ sym (ap length one_retired);
          right = subst (All (λ (g : Delivery). g.to ≡ out_for d.exit given g.id)) (sym one_given)
              (All-cons (λ (g : Delivery). g.to ≡ out_for d.exit given g.id)
              (delivery o packet place) (delivered_by d.lane own) right is.right);
        }

  module _ (about : BoardSizes) (a b c e : BoardSeatView) where
    pub given_one : (h : HeldLane) (o place packet : ℕ) → Took about (id.Out o) a b h
        → DeliverTells about h d.lane b c place → RetireTells d.lane c e
        → d.hand ≡ Some packet → o ≡ out_for d.exit given packet → IsDrain given d a.steps
        → IsDrain given (record d { hand = None; retired = d.retired + 1 }) e.steps
        × Serves (this_lane d.lane) a e
    given_one (held.Out i content) o place packet took told gone hand right is =
        let t = took.1 in
        let slot : ℕ = out_slot about o in
        let pulled : phase d.lane (lane_steps b.steps) ≡ has_pulled packet =
        still_pulled about a b c (held.Out i content) o packet took hand is in
        let same : told.0 ≡ packet = ap packet_of (sym told.1 ∙ pulled) in
        let ends : List BoardStep = Lane (Given o d.lane packet place) ∷ LaneIn slot ∷ [] in
        let there : Adds (Lane (Given o d.lane told.0 place) ∷ LaneIn slot ∷ []) b c =
        subst (λ (k : ℕ). Adds (Lane (Given k d.lane told.0 place)
        ∷ LaneIn (out_slot about k) ∷ []) b c) took.0 told.3 in
        let back : Adds ends b c =
        subst (λ (k : ℕ). Adds (Lane (Given o d.lane k place) ∷ LaneIn slot ∷ []) b c) same
        there in
        let top : List BoardStep = Lane (Retired d.lane gone.0) ∷ [] in
        let added : List BoardStep = given_steps gone.0 slot o packet place t.word content in
        let adds : Adds added a e =
        adds_both a c e top (ends ++ out_held_steps slot o t.word content)
        (adds_both a b c ends (out_held_steps slot o t.word content) t.step back) gone.1 in (
          by_adds a e added (record d { hand = None; retired = d.retired + 1 }) adds
              (given_drain a.steps gone.0 slot o packet place t.word content right is),
          record {
            added = added;
            only = serve_given gone.0 slot o packet place t.word content;
            adds = adds;
          },
        )
    given_one (held.Middle i content) o place packet took told gone hand right is = absurd took

-- ---- one call after another, each of the drain's lane

pub serves_on : (l k : ℕ) (a b c : BoardSeatView) → Serves (this_lane l) a b → k ≡ l
    → Serves (this_lane k) b c → Serves (this_lane l) a c
serves_on l k a b c s same t =
    serves_next (this_lane l) a b c s (subst (λ (i : ℕ). Serves (this_lane i) b c) same t)

-- ---- the calls of another drain

pub serves_leave : (given : Setup) (d : Drain) (served : ℕ → Bool) (old new : BoardSeatView)
    → Serves served old new → served d.lane ≡ false → IsDrain given d old.steps
    → IsDrain given d new.steps
serves_leave given d served old new s other is =
    subst (IsDrain given d) (sym (ap (λ (v : BoardSeatView). v.steps) s.adds))
    (stays_drain given d s.added old.steps (s.only.others d.lane other) is)
