-- How flows change their processor and their transmit queue, and why packets are dropped, in words
-- of the lists alone.
use Rattle.std.proofs.Common.{ℕ, ◌<◌, ◌≤◌, ◌≡◌, ◌≢◌, Bool, true, false, List, Option, Some, None}
use Rattle.std.proofs.Common.{length, refl, ap, ◌∙◌, sym, subst, inl, inr, get_or, unwrap_or}
use Rattle.std.specs.Prelude.{◌↔◌, slice_get}
use Rattle.std.proofs.Math.ListN.{get_or-eq_default}
use Rattle.std.proofs.lemmas.Bool.{cases_Bool, cases_lt}
use Rattle.std.proofs.lemmas.List.Elements.{All-get_or}
use Rattle.std.proofs.lemmas.Option.{get_or_from_slice_get, slice_get_within}
use Rattle.history.specs.Lists.{lane_at, list_at, no_lane}
use Rattle.history.specs.declared.history.History.{History}
use Rattle.history.specs.declared.lane_list.LaneList.{LaneList}
use Rattle.history.specs.declared.sent.Sent.{Sent}
use Rattle.hop_model.specs.Hop.{chosen_at, nobody}
use Rattle.steer_base.specs.Choices.{has_moved}
use Rattle.steer_base.specs.Moves.{MayLeave, MovesByThree}
use Rattle.steer_base.specs.declared.choice.Choice.{Choice}
use Rattle.steer_base.specs.declared.choice.Chosen.{Chosen}
use Rattle.steer_base.specs.declared.choice.Entry.{Entry}
use Rattle.steer_base.specs.declared.put.LaneDrop.{LaneDrop}
use Rattle.steer_properties.specs.Choices.ByTheRule.{AreChosen, AreReplied}
use Rattle.steer_model.specs.Good.Drops.{DropsAreExplained, DropsRise}
use Rattle.steer_model.specs.Good.Writes.{StoodAt}
use Rattle.steer_model.specs.Good.Inputs.{Input, settings_at, since_at}
use Rattle.headline.specs.Drops.{IsDroppedFor}
use Rattle.headline.specs.Processors.{ChangesByThree, IsChosen, ProcessorsAreChosen}
use Rattle.headline.specs.Replies.{IsSentBy, QueuesArePicked}

-- ---- a change

-- What moves just where it may leave, and then to the goal, changes its lane just there: the goal
-- is another lane than the one that it may leave.
module _ (c : Choice) (goal : ℕ) (before : Option ℕ) (May : Option ℕ → Type 0)
    (may : has_moved c.why ≡ true ↔ May before) (moved : has_moved c.why ≡ true → c.lane ≡ goal)
    (kept : has_moved c.why ≡ false → Some c.lane ≡ before)
    (other : May (Some goal) → ⊥) where
  moves-if_changed : Some c.lane ≢ before → has_moved c.why ≡ true
  moves-if_changed new =
      elim (cases_Bool (has_moved c.why)) [ inl t ↦ t | inr f ↦ absurd (new (kept f)) ]

  changed-if_may : May before → Some c.lane ≢ before
  changed-if_may can same =
      let at : Some goal ≡ before = ap (λ n. Some n) (sym (moved (may.1 can))) ∙ same in
      other (subst May (sym at) can)

  pub change-just_where : Some c.lane ≢ before ↔ May before
  change-just_where = (λ new. may.0 (moves-if_changed new), changed-if_may)

  pub change-to : Some c.lane ≢ before → c.lane ≡ goal
  change-to new = moved (moves-if_changed new)

by-three : (c : Choice) (desired : ℕ) (online : ℕ → Bool) (before : Entry)
    → MovesByThree c desired before.tail (λ lane. unwrap_or c.head 0) online before.lane
    → ChangesByThree c desired online before
by-three c desired online before said =
    let May : Option ℕ → Type 0 =
    MayLeave desired before.tail (λ lane. unwrap_or c.head 0) online in
    let other : May (Some desired) → ⊥ = λ can. can.0 refl in
    record {
      just_where = change-just_where c desired before.lane May said.may said.moved said.kept other;
      to = change-to c desired before.lane May said.may said.moved said.kept other;
    }

-- ---- choices of processors

module _ (i : Input) (h : History) (w : AreChosen i h) where
  chosen-at : (q k : ℕ) → k < length (list_at h.choices q)
      → IsChosen i h q k (chosen_at (list_at h.choices q) k) (settings_at i h (w.at q k))
      (since_at h.commands q (w.at q) k)
  chosen-at q k lt =
      let c : Chosen = chosen_at (list_at h.choices q) k in
      record {
        rule = w.choices.each q k lt;
        moves = λ class is. by-three c.choice _ _ _ (w.moves.classes q k class lt is);
        want = λ cpu is. w.wants q k cpu lt is;
      }

  pub processors-chosen : ProcessorsAreChosen i h w.at
  processors-chosen =
      record {
        moments = w.choices.prefixes;
        each = λ q k c is. (
            let cs : List Chosen = list_at h.choices q in
            subst
            (λ (d : Chosen). IsChosen i h q k d (settings_at i h (w.at q k))
            (since_at h.commands q (w.at q) k))
            (get_or_from_slice_get cs k c nobody is)
            (chosen-at q k (slice_get_within cs k c is)));
      }

-- ---- replies

module _ (i : Input) (h : History) (w : AreReplied i h) where
  sent-at : (a k : ℕ) → k < length (list_at h.tx_choices a)
      → (r : Sent) × (slice_get (list_at h.sent a) k ≡ Some r)
      × IsSentBy i h a k (chosen_at (list_at h.tx_choices a) k) r (settings_at i h (w.at a k))
  sent-at a k lt =
      let c : Chosen = chosen_at (list_at h.tx_choices a) k in
      let (r, is, same, rule) = w.replies.each a k lt in
      let sent : List Sent = list_at h.sent a in
      let here : StoodAt i h a (get_or sent k r).cpu =
      All-get_or (λ (s : Sent). StoodAt i h a s.cpu) sent k r (slice_get_within sent k r is)
      (w.replies.sent a).stood in (
        r,
        is,
        record {
          same = same;
          stood = subst (λ (s : Sent). StoodAt i h a s.cpu) (get_or_from_slice_get sent k r r is)
              here;
          rule = rule;
          changes = by-three c.choice _ _ _ (w.changes a k r lt is);
        },
      )

  pub queues-picked : QueuesArePicked i h w.at
  queues-picked =
      record {
        moments = w.replies.prefixes;
        each = λ a k c is. (
            let cs : List Chosen = list_at h.tx_choices a in
            let (r, at, by) = sent-at a k (slice_get_within cs k c is) in (
              r,
              at,
              subst (λ (d : Chosen). IsSentBy i h a k d r (settings_at i h (w.at a k)))
                  (get_or_from_slice_get cs k c nobody is) by,
            ));
      }

-- ---- drops

pub dropped-for : (i : Input) (h : History) → DropsAreExplained i h → (c j : ℕ) (d : LaneDrop)
    → slice_get (lane_at h.lanes c).drops j ≡ Some d → IsDroppedFor i h c j d
dropped-for i h w c j d is =
    elim (cases_lt c (length h.lanes)) [
      | inl lt ↦ (
          let lane : LaneList = lane_at h.lanes c in
          let rise : DropsRise lane = All-get_or DropsRise h.lanes c no_lane lt w.counts in
          let at = slice_get_within lane.drops j d is in
          let same = get_or_from_slice_get lane.drops j d d is in
          record {
            cause = w.causes c j d is;
            accepted = subst (λ (e : LaneDrop). e.accepted ≤ length lane.accepted) same
                (All-get_or (λ (e : LaneDrop). e.accepted ≤ length lane.accepted) lane.drops j d at
                rise.accepted);
            pulled = subst (λ (e : LaneDrop). e.pulled ≤ lane.pulled) same
                (All-get_or (λ (e : LaneDrop). e.pulled ≤ lane.pulled) lane.drops j d at
                rise.pulled);
          })
      | inr le ↦ absurd (
          let none : slice_get (lane_at h.lanes c).drops j ≡ None =
          ap (λ (l : LaneList). slice_get l.drops j) (get_or-eq_default h.lanes no_lane le) in
          let f : Some d ≡ None = sym is ∙ none in cc)
    ]
