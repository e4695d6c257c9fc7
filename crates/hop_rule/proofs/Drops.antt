-- The drops of a lane: their counts rise, and the offers explain them.
use Rattle.std.proofs.Common.{Bool, true}
use Rattle.std.specs.Prelude.{nat_lt, if◌then◌else◌}
use Rattle.std.proofs.lemmas.Bool.{lt-ltb}
use Rattle.steer_base.specs.Sets.{has}
use Rattle.backlog.specs.Offers.{AllExplained, AreOffers}
use Rattle.backlog.specs.Puts.{after_take, new_lane, next_waiting}
use Rattle.backlog.specs.Rising.{AreRising}
use Rattle.backlog.proofs.ExplainedLemmas.{AllExplained-put, AllExplained-take, AreOffers-put}
use Rattle.backlog.proofs.RisingLemmas.{AreRising-new, AreRising-put, AreRising-take}
use Rattle.hop_rule.specs.Lanes as lanes
use Rattle.hop_rule.specs.PutLaws.{DropCountsRise, DropsAreExplained}
use Rattle.hop_rule.proofs.Names.{◌≡◌, ℕ, ◌+◌, ◌≤◌, false, List, length, Option, Some, sym, refl}
use Rattle.hop_rule.proofs.Names.{ap, ◌∙◌, subst, lane_drop_cause, LaneLists, Put, after_put}
use Rattle.hop_rule.proofs.Names.{StepBy, IsLawful, lane_at, lanes_of, past, IsStep, IsPut}
use Rattle.hop_rule.proofs.Names.{lane_then, BoardSizes, BoardStep, Lane, Change, Nothing, Offered}
use Rattle.hop_rule.proofs.Names.{Pulled, Freed}
use Rattle.hop_rule.proofs.Boards.{lanes_past, step_lawful}
use Rattle.hop_rule.proofs.Lanes.{holds}
use Rattle.hop_rule.proofs.Lists.{get-inside}
use Rattle.hop_rule.proofs.Puts.{by_steps}

-- a pull of the next packet that waits is a take
pulled_is_take : (x : LaneLists) (id : ℕ) → next_waiting x ≡ Some id
    → lanes.lane_changed (Pulled id) x ≡ after_take x
pulled_is_take x id waits =
    let l = (get-inside x.accepted x.pulled id waits).0 in
    ap (λ b. if b then record x { pulled = x.pulled + 1 } else x)
    (sym (lt-ltb x.pulled (length x.accepted) l))

module _ (about : BoardSizes) (order : List (StepBy BoardStep)) (lawful : IsLawful about order)
  where
    -- a lane whose puts and takes keep a fact has it
    keeps : (Q : LaneLists → Type 0) (l : ℕ)
        → ((k p id : ℕ) (hash : Option ℕ) (answer : Put) → IsPut about order k p l id hash answer
        → Q (lane_then about order k l) → Q (after_put (lane_then about order k l) id hash))
        → ((x : LaneLists) → Q x → Q (after_take x))
        → Q (new_lane about.limit about.room about.start (has about.limited l))
        → Q (lane_at about order l)
    keeps Q l put take new = by_steps about order lawful Q l by_change new
      where
        by_change : (k p : ℕ) (c : Change) → IsStep order k p (Lane (Freed l c))
            → Q (lane_then about order k l) → Q (lanes.lane_changed c (lane_then about order k l))
        by_change k p Nothing is here = here
        by_change k p (Offered id hash answer) is here = put k p id hash answer is here
        by_change k p (Pulled id) is here =
            let may = (step_lawful about order k p (Lane (Freed l (Pulled id))) lawful is).1.0 in
            let same = (holds about (lanes_of (past k order)) (lanes_past about order k lawful) l p
            may.1.0 may.1.1).1 in
            let waits : next_waiting (lane_then about order k l) ≡ Some id = ap next_waiting same
            ∙ may.1.2.1 in
            subst Q (sym (pulled_is_take (lane_then about order k l) id waits))
            (take (lane_then about order k l) here)

    pub drop_counts : (l : ℕ) → AreRising (lane_at about order l)
    drop_counts l = keeps AreRising l
        (λ k p id hash answer is t. AreRising-put (lane_then about order k l) id hash t)
        AreRising-take (AreRising-new about.limit about.room about.start (has about.limited l))

    module _ (hash_of : ℕ → Option ℕ) (own : (n q l id : ℕ) (hash : Option ℕ) (answer : Put)
        → IsPut about order n q l id hash answer → hash ≡ hash_of id) where
      abbrev Both : LaneLists → Type 0
      Both x = AreOffers hash_of x × AllExplained hash_of x

      pub explained : (l : ℕ) → Both (lane_at about order l)
      explained l = keeps Both l
          (λ k p id hash answer is t. (
          let x : LaneLists = lane_then about order k l in
          subst (λ h. Both (after_put x id h)) (sym (own k p l id hash answer is)) (
            AreOffers-put hash_of x id (lane_drop_cause x (hash_of id)) t.0,
            AllExplained-put hash_of x
                id (lane_drop_cause x (hash_of id)) refl t.0 t.1,
          )))
          (λ x t. (take_offers x t.0, AllExplained-take hash_of x t.1))
          new
        where
          take_offers : (x : LaneLists) → AreOffers hash_of x → AreOffers hash_of (after_take x)
          take_offers x t = by_test (nat_lt x.pulled (length x.accepted))
            where
              by_test : (b : Bool) → AreOffers hash_of
                  (if b then record x { pulled = x.pulled + 1 } else x)
              by_test true = record { buckets = t.buckets; counts = t.counts }
              by_test false = t

          new : Both (new_lane about.limit about.room about.start (has about.limited l))
          new = (
            record {
              buckets = refl;
              counts = Rattle.std.proofs.lemmas.List.Elements.All-nil
                  (λ d. d.accepted ≤ 0);
            },
            λ k d at. Rattle.hop_rule.proofs.Lists.none-some d at,
          )

pub drop_counts_rise : DropCountsRise
drop_counts_rise about order lawful l = drop_counts about order lawful l

pub drops_are_explained : DropsAreExplained
drops_are_explained about order lawful hash_of own l = explained about order lawful hash_of own l
