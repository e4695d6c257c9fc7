-- Where a drain stops.
use Rattle.std.specs.Prelude.{IsSome}
use Rattle.std.specs.Option.{is_some}
use Rattle.hop_rule.specs.declared.step.Change.TheVariants.{Nothing}
use Rattle.board_api.specs.Calls.HeldLanes.{room_in}
use Rattle.board_api.specs.Calls.Results.{PullTells}
use Rattle.board_api.specs.declared.answers.Pull.TheVariants as pull
use Rattle.board_api.specs.declared.held_lane.HeldLane.TheVariants as held
use Rattle.board_api.specs.declared.held_lane.LaneId.TheVariants as id
use Rattle.run_workers.specs.Hands.Drains.{FindsNoRoom, FindsNone, Moves, Stops, StopsAt, StopsHere}
use Rattle.run_workers.proofs.Names.{◌≡◌, inl, inr, ℕ, ◌<◌, Bool, true, false, Option, None, Some}
use Rattle.run_workers.proofs.Names.{[], ◌∷◌, refl, sym, ap, subst, ◌∙◌, arith, ◌||◌, number}
use Rattle.run_workers.proofs.Names.{out_slot, BoardSizes, Lane, LaneIn, OutFreed, BackTells, Took}
use Rattle.run_workers.proofs.Names.{released, BoardSeatView, Adds, HeldLane, Setup, Serves}
use Rattle.run_workers.proofs.Names.{this_lane, Drain}
use Rattle.run_workers.proofs.Hands.DeltaLemmas.{serves_next}

-- ---- looks that find nothing

pub finds_none : (about : BoardSizes) (l count : ℕ) (a b c : BoardSeatView) (h : HeldLane)
    → Took about (id.Middle l) a b h → PullTells about h b c pull.Empty
    → FindsNone about l count a c
finds_none about l count a b c (held.Middle i content) took told =
    inr (inr (
      content,
      b,
      took.1,
      (
        told.0,
        subst (λ (k : ℕ). Adds (released k Nothing) b c) took.0 told.1,
      ),
    ))
finds_none about l count a b c (held.Out i content) took told = absurd took

pub finds_no_room : (about : BoardSizes) (o : ℕ) (a b c : BoardSeatView) (h : HeldLane)
    → Took about (id.Out o) a b h → room_in h ≡ 0 → BackTells about h b c → FindsNoRoom about o a c
finds_no_room about o a b c (held.Out i content) took none told =
    inr (
      content,
      b,
      omega (arith, none),
      took.1,
      subst (λ (k : ℕ). Adds (Lane (OutFreed k) ∷ LaneIn (out_slot about k) ∷ []) b c) took.0
          told,
    )
finds_no_room about o a b c (held.Middle i content) took none told = absurd took

-- ---- a drain goes no further

-- nothing was pulled
pub stops_empty : (about : BoardSizes) (given : Setup) (d e : Drain) (a b c : BoardSeatView)
    → e ≡ record d { hand = e.hand } → e.hand ≡ None → Serves (this_lane d.lane) a b
    → FindsNone about d.lane (number d.start d.retired) b c → StopsHere about given e a c
stops_empty about given d e a b c same none serves finds =
    let lane : d.lane ≡ e.lane = sym (ap (λ (z : Drain). z.lane) same) in
    let start : d.start ≡ e.start = sym (ap (λ (z : Drain). z.start) same) in
    let retired : d.retired ≡ e.retired = sym (ap (λ (z : Drain). z.retired) same) in
    record {
      mid = b;
      serves = subst (λ (l : ℕ). Serves (this_lane l) a b) lane serves;
      last = subst (λ (h : Option ℕ). StopsAt about given e h b c) (sym none)
          (subst (λ (z : ℕ × (ℕ × ℕ)). FindsNone about z.0 (number z.1.0 z.1.1) b c)
          (λ i. (lane i, (start i, retired i))) finds);
    }

-- the packet in hand was not delivered
pub stops_full : (about : BoardSizes) (given : Setup) (d : Drain) (packet : ℕ)
    (a b c : BoardSeatView) → d.hand ≡ Some packet → Serves (this_lane d.lane) a b
    → StopsAt about given d (Some packet) b c → StopsHere about given d a c
stops_full about given d packet a b c hand serves last =
    record {
      mid = b;
      serves = serves;
      last = subst (λ (h : Option ℕ). StopsAt about given d h b c) (sym hand) last;
    }

-- what the seat did before leaves where it stops
pub stops_later : (about : BoardSizes) (given : Setup) (d : Drain) (l : ℕ)
    (a b c : BoardSeatView) → d.lane ≡ l → Serves (this_lane l) a b → StopsHere about given d b c
    → StopsHere about given d a c
stops_later about given d l a b c same serves stops =
    record {
      mid = stops.mid;
      serves = serves_next (this_lane d.lane) a b stops.mid
          (subst (λ (k : ℕ). Serves (this_lane k) a b) (sym same) serves) stops.serves;
      last = stops.last;
    }

pub stopped_later : (about : BoardSizes) (given : Setup) (d : Drain) (l : ℕ)
    (a b c : BoardSeatView) → d.lane ≡ l → Serves (this_lane l) a b → Stops about given d b c
    → Stops about given d a c
stopped_later about given d l a b c same serves (inl all) = inl all
stopped_later about given d l a b c same serves (inr stops) =
    inr (stops_later about given d l a b c same serves stops)

-- ---- whether something was done

moved : (d : Drain) (h : Option ℕ) → d.hand ≡ None → Moves d (record d { hand = h }) (is_some h)
moved d None none = ap (λ (h : Option ℕ). record d { hand = h }) (sym none)
moved d (Some packet) none = inr (none, refl, refl)

-- a pull fills an empty hand or does nothing
pub pull_moves : (d e : Drain) → d.hand ≡ None → e ≡ record d { hand = e.hand }
    → Moves d e (is_some e.hand)
pull_moves d e none same =
    subst (λ (z : Drain). Moves d z (is_some e.hand)) (sym same) (moved d e.hand none)

some_none : (h : Option ℕ) → IsSome h → h ≡ None → ⊥
some_none h some none = apart (sym some ∙ ap is_some none)
  where
    apart : true ≡ false → ⊥
    apart same = absurd (cc)

pub moves_both : (a b c : Drain) (x y : Bool) → Moves a b x → Moves b c y → Moves a c (x || y)
moves_both a b c false y first next = subst (λ (z : Drain). Moves z c y) first next
moves_both a b c true false first next = subst (λ (z : Drain). Moves a z true) (sym next) first
moves_both a b c true true (inl less) (inl more) = inl (omega (arith, less, more))
moves_both a b c true true (inl less) (inr (none, some, same)) = inl (omega (arith, less, same))
moves_both a b c true true (inr (none, some, same)) (inl more) = inl (omega (arith, same, more))
moves_both a b c true true (inr (none, some, same)) (inr (empty, filled, still)) =
    absurd (some_none b.hand some empty)

-- a packet that left the hand was retired
pub delivered_more : (d e : Drain) (packet : ℕ) → d.hand ≡ Some packet → Moves d e true
    → d.retired < e.retired
delivered_more d e packet hand (inl less) = less
delivered_more d e packet hand (inr (none, some, same)) =
    absurd (some_none d.hand (ap is_some hand) none)
