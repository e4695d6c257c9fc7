-- The transmit side of a good history, from what the threads keep at the transmit board.
use Rattle.std.specs.Prelude.{IsSome, drop, nat_lt, take}
use Rattle.std.specs.Option.{option_map, unwrap_or}
use Rattle.std.proofs.lemmas.Bool.{ne_eqb}
use Rattle.steer_base.specs.Drops.{bucket_count, bucket_of, cause_by, flow_cause, lane_drop_cause}
use Rattle.steer_base.specs.Lanes.{LaneLists}
use Rattle.steer_base.specs.Orders.{Apart, IsPrefix}
use Rattle.steer_base.specs.declared.cpu_mask.CpuMask.{CpuMask}
use Rattle.steer_base.specs.declared.put.DropCause.{DropCause}
use Rattle.steer_base.proofs.MasksLemmas.{has-first_cpus}
use Rattle.steer_base.proofs.RuleLemmas.{by_entry-class}
use Rattle.backlog.specs.Puts.{put_count}
use Rattle.history.specs.Finding.{Once, is_among}
use Rattle.history.specs.Lists.{accepted_lists, packet_at}
use Rattle.history.specs.Regular.{AreShipped}
use Rattle.hop_rule.specs.declared.step.BoardStep.TheVariants.{Lane, OutCounted, LaneOut, LaneIn}
use Rattle.hop_rule.specs.declared.step.GateStep.TheVariants.{Entered, Turned, Left, NotShut, Set}
use Rattle.hop_rule.specs.declared.step.GateStep.TheVariants.{Read}
use Rattle.hop_delivery.specs.Orders.DeliveryLaw.{came_by}
use Rattle.hop_delivery.specs.Orders.Premises.{AllFindEmpty, FindsEmpty, GoesRight, MeetsPremises}
use Rattle.hop_rule.specs.declared.step.LaneStep.TheVariants.{Freed, Given, Held, Missed, OutFreed}
use Rattle.hop_rule.specs.declared.step.LaneStep.TheVariants.{OutHeld, OutMissed, Retired}
use Rattle.run_coupling.proofs.Ends.TotalLemmas.{all-by-number}
use Rattle.hop_delivery.specs.Orders.TransmitSettings.{transmit_steering}
use Rattle.hop_delivery.proofs.Orders.TransmitSettingLemmas.{transmit_steers}
use Rattle.steer_model.specs.Good.Replies.{AreInOneTxPlace, of_reply, replies_of}
use Rattle.run_coupling.specs.Coupling.Runs.{TransmitCoupling}
use Rattle.run_goodness.proofs.Names.{◌≡◌, ◌≢◌, ℕ, ◌-◌, ◌<◌, ◌≤◌, ◌==◌, ◌&&◌, Bool, true, false}
use Rattle.run_goodness.proofs.Names.{List, [], ◌∷◌, Option, Some, None, length, map, All}
use Rattle.run_goodness.proofs.Names.{if◌then◌else◌, sym, refl, ap, ◌∙◌, subst, arith, get_or}
use Rattle.run_goodness.proofs.Names.{slice_get, list_any, All-from_get_or, slice_get-get_or, entry}
use Rattle.run_goodness.proofs.Names.{Entry, since_resize, InOrder, has, Choice, Chosen, LaneDrop}
use Rattle.run_goodness.proofs.Names.{is_in, lane_at, list_at, History, LaneList, nobody, closer}
use Rattle.run_goodness.proofs.Names.{BoardSizes, BoardStep, Gate, Weighed, Counted, Shut, Opened}
use Rattle.run_goodness.proofs.Names.{none-some, some-is, BoardLists, accepted_left, Has, Steering}
use Rattle.run_goodness.proofs.Names.{Execution, Input, setup_in, flow_number_of, RepliesAreBy}
use Rattle.run_goodness.proofs.Names.{commands_before_reply, Try, StandOnce, at_in, BoardFacts}
use Rattle.run_goodness.proofs.Names.{turn-at, IsWithinPlan}
use Rattle.run_goodness.proofs.Ends.{any-is}
use Rattle.run_coupling.proofs.Lists.PlaceLemmas.{apart_from, once_from}
use Rattle.run_coupling.proofs.Runs.ApplicationLemmas as apps
use Rattle.run_coupling.proofs.Runs.StandLemmas as stand
use Rattle.run_coupling.proofs.Runs.TurnListLemmas.{turn-chosen}
use Rattle.run_goodness.proofs.Turns.ReplyLemmas.{replies_of_closing}

-- a lane that never gets full and is not limited drops nothing
none-limited : (limit waiting : ℕ) (count : Option ℕ) → flow_cause false limit waiting count ≡ None
none-limited limit waiting None = refl
none-limited limit waiting (Some count) = refl

no-cause : (limited : Bool) (limit waiting : ℕ) (count : Option ℕ) → waiting ≢ limit
    → limited ≡ false → cause_by limited limit waiting count ≡ None
no-cause limited limit waiting count ne off =
    let other : (waiting == limit) ≡ false = ne_eqb waiting limit ne in
    ap (λ b. flow_cause-or b limited limit waiting count) other
    ∙ (ap (λ l. flow_cause l limit waiting count) off ∙ none-limited limit waiting count)
  where
    flow_cause-or : Bool → Bool → ℕ → ℕ → Option ℕ → Option DropCause
    flow_cause-or b limited limit waiting count =
        if b then Some Rattle.steer_base.specs.declared.put.DropCause.TheVariants.Full
        else flow_cause limited limit waiting count

-- no change of a map asks for an empty lane
no-change-asks : (about : BoardSizes) (flow : ℕ → ℕ) (before : List BoardStep) (d : BoardStep)
    → FindsEmpty about (transmit_steering flow) before d
no-change-asks about flow before (Gate (Set w v)) = λ l less e. absurd (cc)
no-change-asks about flow before (Gate (Entered w)) = tt
no-change-asks about flow before (Gate (Turned w)) = tt
no-change-asks about flow before (Gate Left) = tt
no-change-asks about flow before (Gate (Shut w)) = tt
no-change-asks about flow before (Gate (NotShut w)) = tt
no-change-asks about flow before (Gate Opened) = tt
no-change-asks about flow before (Gate (Read w v)) = tt
no-change-asks about flow before (Lane d) = tt
no-change-asks about flow before (Weighed l w) = tt
no-change-asks about flow before (Counted l w) = tt
no-change-asks about flow before (OutCounted o w) = tt
no-change-asks about flow before (LaneOut k) = tt
no-change-asks about flow before (LaneIn k) = tt

no-changes-ask : (about : BoardSizes) (flow : ℕ → ℕ) (ds : List BoardStep)
    → AllFindEmpty about (transmit_steering flow) ds
no-changes-ask about flow [] = tt
no-changes-ask about flow (d ∷ ds) = (no-change-asks about flow ds d, no-changes-ask about flow ds)

module _ (i : Input) (h : History) (rx : BoardSizes) (rx_own : ℕ → List BoardStep)
    (rx_lists : BoardLists) (rx_facts : BoardFacts rx rx_own rx_lists)
    (inboxes : h.inboxes ≡ rx_lists.outs) (inboxes_stand : StandOnce rx_lists.outs)
    (about : BoardSizes) (own : ℕ → List BoardStep) (lists : BoardLists)
    (facts : BoardFacts about own lists) (tries : List Try) (t : Execution)
    (seen : ℕ → ℕ → ℕ → ℕ)
    (within : All (λ (t : Try). IsWithinPlan i.plan t.given.command) tries)
    (coupling : TransmitCoupling i h rx_own about own lists tries t seen) where
  abbrev r : Steering
  r = transmit_steering (flow_number_of (setup_in i))

  pub turns : Rattle.hop_delivery.specs.Closings.PutPlaces.AreTurnsOf own t
  turns =
      apps.are-turns i h rx rx_own rx_lists rx_facts inboxes inboxes_stand about own lists facts
      tries t seen within coupling

  pub once : (p q j k x : ℕ) → slice_get (t.arrivals p) j ≡ Some x
      → slice_get (t.arrivals q) k ≡ Some x → (p ≡ q) × (j ≡ k)
  once =
      apps.reply-once i h rx rx_own rx_lists rx_facts inboxes inboxes_stand about own lists facts
      tries t seen within coupling

  pub front : (a : ℕ) → IsPrefix (replies_of h a) (list_at h.inboxes a)
  front =
      apps.replies-front i h rx rx_own rx_lists rx_facts inboxes inboxes_stand about own lists facts
      tries t seen within coupling

  pub replies : Rattle.run_coupling.specs.Laws.Replies.RepliesHaveTurns i h about own lists t
  replies =
      apps.replies-have-turns i h rx rx_own rx_lists rx_facts inboxes inboxes_stand about own lists
      facts tries t seen within coupling

  pub by-rule : RepliesAreBy i h (commands_before_reply tries t)
  by-rule =
      replies_of_closing about own lists facts.visits i h tries t coupling.board coupling.tries_are
      (apps.all_name_maps i tries within) replies

  goes-right : (q k : ℕ) (d : BoardStep) → Has (own q) k d → GoesRight r d
  goes-right q k (Lane (Given o from id place)) does =
      stand.delivered-to about own lists facts (λ id. 0) coupling.right q k o from id place does
  goes-right q k (Lane (Held l w x)) does = tt
  goes-right q k (Lane (Missed l w)) does = tt
  goes-right q k (Lane (Freed l c)) does = tt
  goes-right q k (Lane (OutHeld o w x)) does = tt
  goes-right q k (Lane (OutMissed o w)) does = tt
  goes-right q k (Lane (OutFreed o)) does = tt
  goes-right q k (Lane (Retired l w)) does = tt
  goes-right q k (Gate g) does = tt
  goes-right q k (Weighed l w) does = tt
  goes-right q k (Counted l w) does = tt
  goes-right q k (OutCounted o w) does = tt
  goes-right q k (LaneOut n) does = tt
  goes-right q k (LaneIn n) does = tt

  pub premises : MeetsPremises about own (accepted_left lists) t r
  premises = record {
    once = turns.once;
    explained = turns.explained;
    by_seat = turns.by_seat;
    arrived = turns.arrived;
    chosen = turn-chosen own t coupling.applications.turns;
    given = λ q. all-by-number (GoesRight r) (own q) (goes-right q);
    by_rule = replies.by_rule;
    emptied = no-changes-ask about (flow_number_of (setup_in i)) (own (closer about));
  }

  -- ---- the choices

  pub all-chosen : (a : ℕ) → map (λ (c : Chosen). c.id) (list_at h.tx_choices a) ≡ replies_of h a
  all-chosen a =
      ap (map (λ (c : Chosen). c.id)) (coupling.applications.choices a)
      ∙ (coupling.applications.turns.all_chosen a ∙ coupling.applications.replies a)

  class-of : (a : ℕ)
      → All (λ (c : Chosen). c.choice.class ≡ Some (packet_at i.packets c.id).flow_number)
      (t.choices a)
  class-of a =
      All-from_get_or
      (λ (c : Chosen). c.choice.class ≡ Some (packet_at i.packets c.id).flow_number)
      (t.choices a) nobody
      (λ k less.
      (let u = turn-at own t coupling.applications.turns a k (get_or (t.choices a) k nobody)
      (slice_get-get_or (t.choices a) k nobody less) in
      let b = replies.by_rule a k u.0 u.1 in
      let flow : ℕ = flow_number_of (setup_in i) u.0.chosen.id in
      let want : Option ℕ = u.0.chosen.choice.want in
      let entries : ℕ → Entry = entry about.start (accepted_left lists)
      (drop (since_resize (λ _. 0) k) (take k (t.choices a))) in
      subst (λ (c : Chosen). c.choice.class ≡ Some (packet_at i.packets c.id).flow_number) u.2
      (ap (λ (c : Choice). c.class) b.rule
      ∙ by_entry-class flow want (unwrap_or want 0) (entries flow).tail (λ _. b.head) (λ _. true)
      (entries flow).lane)))

  pub classes : (a : ℕ)
      → All (λ (c : Chosen). c.choice.class ≡ Some (packet_at i.packets c.id).flow_number)
      (list_at h.tx_choices a)
  classes a =
      subst (All (λ (c : Chosen).
      c.choice.class ≡ Some (packet_at i.packets c.id).flow_number))
      (sym (coupling.applications.choices a)) (class-of a)

  pub wants : (a : ℕ) → All (λ (c : Chosen). IsSome c.choice.want) (list_at h.tx_choices a)
  wants a =
      subst (All (λ (c : Chosen). IsSome c.choice.want)) (sym (coupling.applications.choices a))
      (All-from_get_or (λ (c : Chosen). IsSome c.choice.want) (t.choices a) nobody
      (λ k less.
      (let u = turn-at own t coupling.applications.turns a k (get_or (t.choices a) k nobody)
      (slice_get-get_or (t.choices a) k nobody less) in
      let w = replies.replies a k u.0 u.1 in
      subst (λ (c : Chosen). IsSome c.choice.want) u.2
      (subst (λ (o : Option ℕ). IsSome o) (sym w.3) refl))))

  -- ---- where replies stand

  no-drop : (l : ℕ) (d : LaneDrop) → slice_get (lane_at lists.lanes l).drops 0 ≡ Some d → ⊥
  no-drop l d at =
      let w = facts.dropped l 0 d at in
      let s = facts.stand w.seat w.step l d.id w.hash w.answer w.does in
      let same : s.found ≡ w.found = some-is s.found w.found (sym s.finds ∙ w.finds) in
      let room = s.room in
      let most = facts.fit.room in
      let limit = s.lane.limit in
      let big = coupling.board.limit in
      let less : length s.found.accepted - s.found.pulled ≢ s.found.limit = apart s.found room
      most limit big in
      none-some d.cause
      (sym (no-cause s.found.limited s.found.limit (length s.found.accepted - s.found.pulled)
      (option_map (bucket_count s.found.offers) (bucket_of w.hash)) less
      (s.lane.limited ∙ (ap (λ (m : CpuMask). has m l) coupling.board.limited
      ∙ nobody-limited l))) ∙ (ap (λ (x : LaneLists). lane_drop_cause x w.hash) same ∙ w.cause))
    where
      nobody-limited : (l : ℕ) → has (record { 0 = 0 }) l ≡ false
      nobody-limited l =
          let none : nat_lt l 0 ≡ false = grind arith in has-first_cpus 0 l (omega arith) ∙ none

      apart : (x : LaneLists) → put_count x < about.room
          → about.room ≤ Rattle.hop_rule.specs.declared.sizes.TheConstants.MAX_BOARD_ROOM
          → x.limit ≡ about.limit
          → about.limit ≡ Rattle.hop_model.specs.declared.shape.TheConstants.MAX_HOP_ROOM
          → length x.accepted - x.pulled ≢ x.limit
      apart x room most limit big e = omega arith

  pub no-drops : (l : ℕ) → (lane_at h.tx_lanes l).drops ≡ []
  no-drops l =
      ap (λ ls. (lane_at ls l).drops) coupling.board.lanes
      ∙ empty (lane_at lists.lanes l).drops (λ d at. no-drop l d at)
    where
      empty : (ds : List LaneDrop) → ((d : LaneDrop) → slice_get ds 0 ≡ Some d → ⊥) → ds ≡ []
      empty [] none = refl
      empty (d ∷ ds) none = absurd (none d refl)

  port-stands : StandOnce lists.outs
  port-stands =
      stand.outs-stand about own lists facts t coupling.applications.turns turns once h.tx_choices
      coupling.applications.choices

  pub lanes-apart : Apart (accepted_lists h.tx_lanes)
  lanes-apart =
      apart_from (accepted_lists h.tx_lanes)
      (subst (λ ls. StandOnce (accepted_lists ls)) (sym coupling.board.lanes)
      (stand.accepted-stand about own lists facts t coupling.applications.turns turns once
      h.tx_choices
      coupling.applications.choices))

  pub port-once : Once h.port
  port-once =
      once_from h.port
      (λ j k x at there.
      (port-stands 0 0 j k x (ap (λ xs. slice_get xs j) (sym coupling.board.port) ∙ at)
      (ap (λ xs. slice_get xs k) (sym coupling.board.port) ∙ there)).1)

  pub are-shipped : AreShipped h
  are-shipped = record {
    accepted = λ l x is.
        stand.accepted-choice about own lists facts t coupling.applications.turns turns once
        h.tx_choices coupling.applications.choices l x
        (ap (λ ls. is_in x (lane_at ls l).accepted) (sym coupling.board.lanes) ∙ is);
    once = lanes-apart;
    no_drops = no-drops;
    port = λ x is.
        subst (λ ls. (l : ℕ) × (is_in x (lane_at ls l).accepted ≡ true)) (sym
        coupling.board.lanes)
        (stand.out-accepted about own lists facts t coupling.applications.turns turns once
        h.tx_choices coupling.applications.choices 0 x
        (ap (is_in x) (sym coupling.board.port) ∙ is));
    port_once = port-once;
  }

  pub one-place : AreInOneTxPlace h
  one-place = record {
    lanes = lanes-apart;
    once = port-once;
    delivered = λ x is.
        subst (λ ls.
        (l : ℕ) × (is_among (lane_at ls l).delivered x (lane_at ls l).accepted ≡ true))
        (sym coupling.board.lanes)
        (stand.out-among about own lists facts t coupling.applications.turns turns once
        h.tx_choices
        coupling.applications.choices 0 x (ap (is_in x) (sym coupling.board.port) ∙ is));
    no_drops = no-drops;
  }

  -- a packet on the port was replied to
  pub port-replied : (x : ℕ) → is_in x h.port ≡ true
      → (a : ℕ) × (k : ℕ) × (slice_get (t.arrivals a) k ≡ Some x)
  port-replied x is =
      let n = at_in x (list_at lists.outs 0) (ap (is_in x) (sym coupling.board.port) ∙ is) in
      let f = stand.came-from about own lists facts t coupling.applications.turns turns once
      h.tx_choices
      coupling.applications.choices 0 n.0 x n.1 in
      stand.accepted-arrived about own lists facts t coupling.applications.turns turns once
      h.tx_choices
      coupling.applications.choices f.lane f.index x f.stands_at

  pub reply-in-inbox : (a k x : ℕ) → slice_get (t.arrivals a) k ≡ Some x
      → slice_get (list_at h.inboxes a) k ≡ Some x
  reply-in-inbox =
      apps.reply-stands i h rx rx_own rx_lists rx_facts inboxes inboxes_stand about own lists facts
      tries t seen within coupling

  -- ---- order

  pub in-order : (a x : ℕ)
      → InOrder (of_reply i h a x) (replies_of h a) (map (λ lane. lane.drops) h.tx_lanes) h.port
  in-order a x =
      let f : ℕ = flow_number_of (setup_in i) x in
      let set : came_by t r a f ≡ of_reply i h a x =
      λ j y. (ap (λ b. b && (flow_number_of (setup_in i) y == f))
      (ap (λ xs. list_any (λ z. z == y) xs) (coupling.applications.replies a)
      ∙ any-is y (replies_of h a)) j) in
      subst (λ (z : ((ℕ → Bool) × List ℕ) × (List (List LaneDrop) × List ℕ)).
      InOrder z.0.0 z.0.1 z.1.0 z.1.1)
      (λ j. (
        (set j, coupling.applications.replies a j),
        (
          map (λ (lane : LaneList). lane.drops) (sym coupling.board.lanes j),
          sym coupling.board.port j,
        ),
      ))
      (facts.order t r (transmit_steers (flow_number_of (setup_in i)) about.lanes) premises a f)
