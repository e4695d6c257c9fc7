-- A worker with no packet in a hand.
use Rattle.std.proofs.Common.{◌&&◌, is_none}
use Rattle.board_api.specs.Closings.Closings.{IsAtRest}
use Rattle.run_workers.specs.Hands.Drains.{hand_phase}
use Rattle.run_workers.specs.Laws.{FreeWorkersRest}
use Rattle.run_workers.specs.Workers.{drains_are_free, pollers_are_free, servers_are_free}
use Rattle.run_workers.proofs.Names.{◌≡◌, ◌≢◌, ◌⊎◌, inl, inr, ℕ, zero, suc, ◌<◌, ◌==◌, Bool, true}
use Rattle.run_workers.proofs.Names.{false, List, [], ◌∷◌, Option, None, Some, length, slice_get}
use Rattle.run_workers.proofs.Names.{refl, sym, ap, subst, ◌∙◌, arith, eqb_tells, none-some}
use Rattle.run_workers.proofs.Names.{some-is, lane_steps, idle, phase, BoardSizes, BoardSeatView}
use Rattle.run_workers.proofs.Names.{BoardView, Setup, Drain, Exit, Inboxes, Port, Each, IsForeign}
use Rattle.run_workers.proofs.Names.{KeepsDrain, actor_at, IsBetween}
use Rattle.run_workers.proofs.EachLemmas.{item_at}

-- ---- tests

both_true : (a b : Bool) → (a && b) ≡ true → (a ≡ true) × (b ≡ true)
both_true true true e = (refl, refl)
both_true true false e = cc
both_true false b e = cc

none_there : (o : Option ℕ) → is_none o ≡ true → o ≡ None
none_there None e = refl
none_there (Some x) e = cc

free_drain : (drains : List Drain) (k : ℕ) (d : Drain) → drains_are_free drains ≡ true
    → slice_get drains k ≡ Some d → d.hand ≡ None
free_drain [] k d free got = none-some d got
free_drain (x ∷ drains) zero d free got =
    none_there d.hand
    (ap (λ (z : Drain). is_none z.hand) (sym (some-is x d got))
    ∙ (both_true (is_none x.hand) (drains_are_free drains) free).0)
free_drain (x ∷ drains) (suc k) d free got =
    free_drain drains k d (both_true (is_none x.hand) (drains_are_free drains) free).1 got

-- ---- lanes

-- a lane is served, or foreign
own_or_foreign : (about : BoardSizes) (number count l : ℕ)
    → ((k : ℕ) × (k < count) × (l ≡ actor_at about number k)) ⊎ IsForeign about number count l
own_or_foreign about number zero l = inr (λ k less. absurd (omega (arith, less)))
own_or_foreign about number (suc n) l =
    by_cases (eqb_tells l (actor_at about number n)) (own_or_foreign about number n l)
  where
    by_cases : (((l == actor_at about number n) ≡ true) × (l ≡ actor_at about number n))
        ⊎ (((l == actor_at about number n) ≡ false) × (l ≢ actor_at about number n))
        → ((k : ℕ) × (k < n) × (l ≡ actor_at about number k)) ⊎ IsForeign about number n l
        → ((k : ℕ) × (k < suc n) × (l ≡ actor_at about number k))
        ⊎ IsForeign about number (suc n) l
    by_cases (inl (t, same)) before = inl (n, omega arith, same)
    by_cases (inr (t, apart)) (inl (k, less, same)) = inl (k, omega (arith, less), same)
    by_cases (inr (t, apart)) (inr far) = inr (λ k less. further k less (eqb_tells k n))
      where
        below : (k : ℕ) → k < suc n → k ≢ n → k < n
        below k less there = grind (arith, less, there)

        further : (k : ℕ) → k < suc n → (((k == n) ≡ true) × (k ≡ n))
            ⊎ (((k == n) ≡ false) × (k ≢ n)) → l ≢ actor_at about number k
        further k less (inl (e, here)) =
            subst (λ m. l ≢ actor_at about number m) (sym here) apart
        further k less (inr (e, there)) = far k (below k less there)

-- a seat whose drains have empty hands is at rest
rests : (board : BoardView) (given : Setup) (exit : Exit) (drains : List Drain)
    (seat : BoardSeatView) → IsBetween board (length drains) seat
    → Each (KeepsDrain board.sizes given exit seat) drains → drains_are_free drains ≡ true
    → IsAtRest board.sizes seat.steps
rests board given exit drains seat b each free =
    record {
      visit = b.outside;
      lanes = λ l within. b.lanes l;
      hands = λ l within.
          hand_of l (own_or_foreign board.sizes seat.number (length drains) l);
      outs = λ o within. b.outs o;
    }
  where
    hand_of : (l : ℕ)
        → ((k : ℕ) × (k < length drains) × (l ≡ actor_at board.sizes seat.number k))
        ⊎ IsForeign board.sizes seat.number (length drains) l
        → phase l (lane_steps seat.steps) ≡ idle
    hand_of l (inl (k, less, same)) =
        let d = item_at drains k less in
        let kept = each k d.0 d.1 in
        subst (λ n. phase n (lane_steps seat.steps) ≡ idle) (kept.own ∙ sym same)
        (kept.is.hand ∙ ap hand_phase (free_drain drains k d.0 free d.1))
    hand_of l (inr far) = b.others l far

pub free_workers_rest : FreeWorkersRest
free_workers_rest t w s x free =
    let first = both_true (pollers_are_free w.pollers.items) _ free in
    let second = both_true (drains_are_free w.drains.items) _ first.1 in
    let third =
    both_true (servers_are_free w.servers.items) (drains_are_free w.ships.items) second.1 in (
      rests t.rx t.shared.given Inboxes w.drains.items s.rx x.rx x.drains second.0,
      rests t.tx t.shared.given Port w.ships.items s.tx x.tx x.ships third.1,
    )
