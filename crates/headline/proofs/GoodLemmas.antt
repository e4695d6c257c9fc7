-- A good history is as it should be.
use Rattle.std.proofs.Common.{ℕ, ◌<◌, ◌≡◌, Bool, true, false, List, [], ◌∷◌, Option, Some}
use Rattle.std.proofs.Common.{None, length, take, refl, ap, ◌∙◌, sym, subst, arith, inl, inr}
use Rattle.std.proofs.Common.{get_or, unwrap_or}
use Rattle.std.specs.Prelude.{if◌then◌else◌}
use Rattle.std.specs.List.{All}
use Rattle.std.proofs.Math.ListN.{get_or-eq_default}
use Rattle.std.proofs.lemmas.Bool.{cases_lt, lt-ltb}
use Rattle.std.proofs.lemmas.List.{get_or-take, get_or_default, length-take-le}
use Rattle.std.proofs.lemmas.List.Elements.{All-filter, All-get_or}
use Rattle.std.proofs.lemmas.Nat.Bits.{bit_at_ones}
use Rattle.std.proofs.lemmas.Option.{same_Some}
use Rattle.history.specs.Lists.{lane_at, list_at, no_lane}
use Rattle.history.specs.Regular.{AreQueued, route_of}
use Rattle.history.specs.declared.arrival.Arrival.{Arrival}
use Rattle.history.specs.declared.commanded.Commanded.{Commanded}
use Rattle.history.specs.declared.history.History.{History}
use Rattle.history.specs.declared.lane_list.LaneList.{LaneList}
use Rattle.history.specs.declared.sent.Sent.{Sent}
use Rattle.hop_model.specs.Hop.{chosen_at, nobody}
use Rattle.hop_core.proofs.Standing.{current_lane-in}
use Rattle.steer_base.specs.Arrivals.{IsRoute}
use Rattle.steer_base.specs.Choices.{by_entry}
use Rattle.steer_base.specs.Entries.{entry, is_class, of_class}
use Rattle.steer_base.specs.Sets.{has}
use Rattle.steer_base.specs.declared.choice.Chosen.{Chosen}
use Rattle.steer_base.specs.declared.choice.Entry.{Entry}
use Rattle.steer_base.specs.declared.command.Command.{Command}
use Rattle.steer_base.specs.declared.command.Command.TheVariants as give
use Rattle.steer_base.proofs.EntriesLemmas.{place_in-le}
use Rattle.steer_base.proofs.RuleLemmas.{by_entry-online, moves-of}
use Rattle.steer_model.specs.Good.Arrivals.{QueuesAreSeen, SeenBy}
use Rattle.steer_model.specs.Good.Choices.{accepted_in}
use Rattle.steer_model.specs.Good.Deliveries.{IsDone}
use Rattle.steer_model.specs.Good.Inputs.{Input, settings_after, settings_at, setup_in}
use Rattle.steer_model.specs.Good.Replies.{RepliesAreByRule}
use Rattle.steer_model.specs.State.Settings.{Settings, changed}
use Rattle.steer_model.specs.State.Setup.{flow_number_of, packet_hash}
use Rattle.steer_model.specs.State.Start.{initial_settings}
use Rattle.steer_model.specs.Steps.Applications.{everyone}
use Rattle.steer_model.specs.Steps.Commands.{is_done}
use Rattle.steer_properties.specs.Choices.ByTheRule.{AreChosen, AreReplied}
use Rattle.steer_properties.specs.Choices.Clear.{MovesAreClear, NothingIsOutstanding}
use Rattle.steer_properties.specs.Choices.Moves.{ChangesFlow, FlowsChangeAsSaid}
use Rattle.steer_properties.proofs.Choices.MoveLemmas.{flows_move}
use Rattle.xps_map.specs.Maps.{picked, serves_cpu, serves_queue}
use Rattle.xps_map.proofs.CandidatesLemmas.{within}
use Rattle.headline.specs.Laws.{GoodHistoriesAreRight}
use Rattle.headline.proofs.Rights.{right-of}

-- ---- arrivals

seen-queued : (i : Input) (h : History) (hash : Option ℕ) (a : Arrival) → SeenBy i h hash a
    → IsRoute hash (route_of a)
seen-queued i h None a is = (None, 0, is)
seen-queued i h (Some hash) a (inl (q, is, from)) = (None, q, is)
seen-queued i h (Some hash) a (inr (f, is, from)) = (Some f, 0, is)

-- each arrival is at the queue that its values lead to
pub queued-of : (i : Input) (h : History) → QueuesAreSeen i h → AreQueued i.packets h
queued-of i h seen k d lt =
    let a : Arrival = get_or h.arrivals k d in
    seen-queued i h (packet_hash (setup_in i) a.id) a (seen k d lt)

-- ---- picks

changed-count : (s : Settings) (c : Command) → (changed s c).maps.count ≡ s.maps.count
changed-count s (give.Mask q mask) = refl
changed-count s (give.Flows q count) = refl
changed-count s (give.Sock size) = refl
changed-count s (give.Offline cpu) = refl
changed-count s (give.Online cpu) = refl
changed-count s (give.XCpus tx mask) = refl
changed-count s (give.XQueues tx queues) = refl
changed-count s (give.Reta place q) = refl
changed-count s (give.Stand app cpu) = refl
changed-count s give.Expire = refl

done-count : (s : Settings) (c : Command) (done : Bool)
    → (if done then changed s c else s).maps.count ≡ s.maps.count
done-count s c true = changed-count s c
done-count s c false = refl

-- commands change no number of transmit queues
count-after : (s : Settings) (cs : List Commanded) → (settings_after s cs).maps.count
    ≡ s.maps.count
count-after s [] = refl
count-after s (c ∷ cs) =
    count-after (if is_done c.answer then changed s c.command else s) cs
    ∙ done-count s c.command (is_done c.answer)

-- a pick is one of the plan's transmit queues
pick-below : (i : Input) (h : History) (n rxq cpu : ℕ) (hash : Option ℕ)
    → picked (settings_at i h n).maps rxq cpu hash < 32
pick-below i h n rxq cpu hash =
    let s : Settings = settings_at i h n in
    let count : s.maps.count ≡ length i.plan.tx =
    count-after (initial_settings i.plan) (take n h.commands) in
    let txs = i.plan.within.tx_length in
    let below = within s.maps.count (serves_queue s.maps) (serves_cpu s.maps) rxq cpu hash
    (omega (arith, count, txs.at_least)) in
    omega (arith, below, count, txs.at_most)

everyone-has : (c : ℕ) → c < 32 → has everyone c ≡ true
everyone-has c lt = let bit = bit_at_ones 32 c lt in rw (lt-ltb c 32 lt, bit) refl

-- ---- replies

-- where the current lane is online, the rule chooses as if all lanes were
same-online : (k : ℕ) (want : Option ℕ) (desired tail : ℕ) (head : ℕ → ℕ) (online : ℕ → Bool)
    (current : Option ℕ) → ((lane : ℕ) → current ≡ Some lane → online lane ≡ true)
    → by_entry k want desired tail head online current
    ≡ by_entry k want desired tail head (λ lane. true) current
same-online k want desired tail head online None on = refl
same-online k want desired tail head online (Some lane) on = rw (on lane refl) refl

module _ (i : Input) (h : History) (at : ℕ → ℕ → ℕ) (w : RepliesAreByRule i h at) (a : ℕ) where
  abbrev chosen : List Chosen
  chosen = list_at h.tx_choices a

  -- each choice is of a transmit queue below 32
  lane-online : (k : ℕ) → k < length chosen
      → has everyone (chosen_at chosen k).choice.lane ≡ true
  lane-online k lt =
      let (r, is, same, rule) = w.each a k lt in
      let c : Chosen = chosen_at chosen k in
      let flow : ℕ = flow_number_of (setup_in i) r.id in
      let pick : ℕ =
      picked (settings_at i h (at a k)).maps r.rxq r.cpu (packet_hash (setup_in i) r.id) in
      let e : Entry = entry h.start (accepted_in h.tx_lanes) (take k chosen) flow in
      let online =
      everyone-has pick
      (pick-below i h (at a k) r.rxq r.cpu (packet_hash (setup_in i) r.id)) in
      ap (λ d. has everyone d.lane) rule
      ∙ by_entry-online flow (Some pick) pick e.tail (λ lane. unwrap_or c.choice.head 0)
      (has everyone) e.lane online

  current-online : (k flow lane : ℕ) → k < length chosen
      → (entry h.start (accepted_in h.tx_lanes) (take k chosen) flow).lane ≡ Some lane
      → has everyone lane ≡ true
  current-online k flow lane lt is =
      let lanes : All (λ (c : Chosen). has everyone c.choice.lane ≡ true) (take k chosen) =
      λ j d jl. (
      let long = length-take-le k chosen (omega (arith, lt)) in
      let jk : j < k = omega (arith, jl, long) in
      let same : get_or (take k chosen) j d ≡ chosen_at chosen j =
      get_or-take k chosen j d jk ∙ get_or_default chosen j d nobody (omega (arith, jk, lt)) in
      subst (λ (c : Chosen). has everyone c.choice.lane ≡ true) (sym same)
      (lane-online j (omega (arith, jk, lt)))) in
      current_lane-in (λ l. has everyone l ≡ true) (of_class flow (take k chosen))
      (All-filter (λ c. is_class flow c.choice.class)
      (λ (c : Chosen). has everyone c.choice.lane ≡ true) (take k chosen) lanes) lane is

  changes-flow : (k : ℕ) (r : Sent) → k < length chosen
      → (r' : Sent) → r' ≡ r
      → (chosen_at chosen k).choice
      ≡ by_entry (flow_number_of (setup_in i) r'.id)
      (Some (picked (settings_at i h (at a k)).maps r'.rxq r'.cpu
      (packet_hash (setup_in i) r'.id)))
      (picked (settings_at i h (at a k)).maps r'.rxq r'.cpu (packet_hash (setup_in i) r'.id))
      (entry h.start (accepted_in h.tx_lanes) (take k chosen)
      (flow_number_of (setup_in i) r'.id)).tail
      (λ lane. unwrap_or (chosen_at chosen k).choice.head 0) (has everyone)
      (entry h.start (accepted_in h.tx_lanes) (take k chosen)
      (flow_number_of (setup_in i) r'.id)).lane
      → ChangesFlow i h a k (settings_at i h (at a k)) r
  changes-flow k r lt r' same rule =
      let c : Chosen = chosen_at chosen k in
      let flow : ℕ = flow_number_of (setup_in i) r'.id in
      let pick : ℕ =
      picked (settings_at i h (at a k)).maps r'.rxq r'.cpu (packet_hash (setup_in i) r'.id) in
      let e : Entry = entry h.start (accepted_in h.tx_lanes) (take k chosen) flow in
      let head : ℕ → ℕ = λ lane. unwrap_or c.choice.head 0 in
      subst (λ (s : Sent). ChangesFlow i h a k (settings_at i h (at a k)) s) same
      (moves-of c.choice flow (Some pick) pick e.tail head (λ lane. true) e.lane
      (rule ∙ same-online flow (Some pick) pick e.tail head (has everyone) e.lane
      (λ lane is. current-online k flow lane lt is)))

flows-change : (i : Input) (h : History) (at : ℕ → ℕ → ℕ) → RepliesAreByRule i h at
    → FlowsChangeAsSaid i h at
flows-change i h at w a k r lt is =
    let (r', found, same, rule) = w.each a k lt in
    changes-flow i h at w a k r lt r' (same_Some r' r (sym found ∙ is)) rule

-- ---- what is outstanding where all is done

done-at : (lanes : List LaneList) → All IsDone lanes → (c : ℕ) → IsDone (lane_at lanes c)
done-at lanes all c =
    elim (cases_lt c (length lanes)) [
      | inl lt ↦ All-get_or IsDone lanes c no_lane lt all
      | inr le ↦
          subst IsDone (sym (get_or-eq_default lanes no_lane le))
          (record { pulled = refl; delivered = refl; retired = refl })
    ]

moves-clear : (lanes : List LaneList) (cs : List Chosen) → All IsDone lanes
    → MovesAreClear lanes cs
moves-clear lanes cs all j k class n less lt moved is of at =
    let c : Chosen = chosen_at cs j in
    let low = place_in-le c.id (accepted_in lanes c.choice.lane) n at in
    let done = (done-at lanes all c.choice.lane).retired in
    omega (arith, low.1, done)

-- ---- all of it

pub good-is-right : GoodHistoriesAreRight
good-is-right i h good =
    let chosen : AreChosen i h = record {
      at = good.at;
      choices = good.choices.by_rule;
      wants = good.wants;
      moves = flows_move i h good.at good.choices.by_rule;
    } in
    let replied : AreReplied i h = record {
      at = good.tx_at;
      replies = good.replies;
      changes = flows-change i h good.tx_at good.replies;
    } in
    let clear : NothingIsOutstanding h = record {
      rx = λ q. moves-clear h.lanes (list_at h.choices q) good.swept.lanes;
      tx = λ a. moves-clear h.tx_lanes (list_at h.tx_choices a) good.swept.tx_lanes;
    } in
    right-of i h chosen replied clear
    (record {
      steered = good.steered;
      drops = good.drops;
      places = good.replies.places;
      leave = good.replies.leave;
    })
