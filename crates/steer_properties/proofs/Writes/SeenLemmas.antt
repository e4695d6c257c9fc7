-- The queue of each arrival is that of an entry or of a filter that came from the run.
use Rattle.std.proofs.Common.{ℕ, ◌<◌, ◌≡◌, true, List, Option}
use Rattle.std.proofs.Common.{Some, None, length, refl, ap, ◌∙◌, sym, subst, arith, inl, inr}
use Rattle.std.proofs.Common.{get_or}
use Rattle.std.specs.Prelude.{slice_index, slice_index_or}
use Rattle.std.specs.List.{All}
use Rattle.std.specs.Option.{option_map}
use Rattle.std.proofs.lemmas.Bool.{cases_Bool}
use Rattle.std.proofs.lemmas.List.Elements.{All-nil, All-push}
use Rattle.std.proofs.lemmas.Nat.{mod_below}
use Rattle.std.proofs.lemmas.Option.{get_or_from_slice_get, slice_get_within}
use Rattle.accel_filter.specs.Table.{filter_of}
use Rattle.history.specs.Finding.{is_in}
use Rattle.history.specs.declared.arrival.Arrival.{Arrival}
use Rattle.history.specs.declared.lane_list.LaneList.{LaneList}
use Rattle.history.proofs.RegularLemmas.{is_in-append}
use Rattle.hop_model.specs.Hop.{accepted_at, choices_of, chosen_at, next_of, nobody}
use Rattle.hop_model.specs.Sound.{Sound}
use Rattle.rss_table.specs.Redirection.{queue_of}
use Rattle.steer_base.specs.Arrivals.{route, table_place}
use Rattle.steer_base.specs.Choices.{class_of, has_moved}
use Rattle.steer_base.specs.Filters.{filter_written, home_queue}
use Rattle.steer_base.specs.HashTables.{row_at}
use Rattle.steer_base.specs.declared.choice.Chosen.{Chosen}
use Rattle.steer_base.specs.declared.choice.Why.{Why}
use Rattle.steer_base.specs.declared.filter.Filter.{Filter}
use Rattle.steer_base.specs.declared.step.Step.{Step}
use Rattle.steer_model.specs.Steps.Applications.{sends}
use Rattle.steer_model.specs.Steps.Commands.{given}
use Rattle.step_laws.specs.Origins.FilterOrigins.{FilterIsFrom, FiltersAreFrom}
use Rattle.steer_model.specs.Good.Arrivals.{FilterFrom, QueuesAreSeen, SeenBy}
use Rattle.steer_model.specs.Good.Inputs.{Input, setup_in}
use Rattle.steer_model.specs.State.Machine.{Machine, history_of}
use Rattle.steer_model.specs.Steps.Pollers.{arrival_by, arrives, with_note, route_by, seen_by}
use Rattle.steer_model.specs.State.Setup.{Setup, packet_hash}
use Rattle.steer_model.specs.State.Start.{new_machine}
use Rattle.steer_model.specs.Steps.SingleSteps.{simple}
use Rattle.step_laws.specs.Origins.TableWrites.{filter_at}
use Rattle.steer_model.specs.declared.note.Note.{Note}
use Rattle.steer_model.specs.declared.note.Note.TheVariants as note
use Rattle.steer_invariant.specs.Invariant.{Invariant}
use Rattle.steer_invariant.specs.StepInvariant.{IsNamed}
use Rattle.steer_invariant.proofs.StepInvariant.ArrivalLemmas.{next_arrival}
use Rattle.steer_invariant.proofs.LaneLemmas.{lane-is}
use Rattle.steer_properties.proofs.Commands.StepLemmas.{Commanding}
use Rattle.steer_properties.proofs.Histories.ExtendLemmas.{Extends, extends-slice_get}
use Rattle.steer_properties.proofs.Histories.LastingLemmas.{Lasts}
use Rattle.steer_properties.proofs.Writes.OriginLemmas.{entry-from, entry-lasts}
use Rattle.steer_properties.proofs.Choices.RuleStepLemmas.{Follows}
use Rattle.steer_properties.proofs.Histories.StepKindLemmas.{lasts-noted, tx_weighed, walk, weighed}

-- ---- what was seen stays

in-longer : (x : ℕ) (xs ys : List ℕ) → Extends xs ys → is_in x xs ≡ true → is_in x ys ≡ true
in-longer x xs ys e is = subst (λ zs. is_in x zs ≡ true) e.1 (is_in-append x xs e.0 is)

module _ (i : Input) (m n : Machine) (h : Sound m.rx) (g : Sound n.rx) (l : Lasts m n) where
  filter-lasts : (hash f : ℕ) → FilterFrom i (history_of m) hash f
      → FilterFrom i (history_of n) hash f
  filter-lasts hash f w =
      let c : Chosen = w.choice in
      let lane : ℕ = c.choice.lane in
      record {
        queue = w.queue;
        choice = c;
        chosen = (
          w.chosen.0,
          extends-slice_get (choices_of m.rx w.queue) (choices_of n.rx w.queue) w.chosen.0 c
              (l.rx.choices w.queue) w.chosen.1,
        );
        moved = w.moved;
        home = w.home;
        accepted = ap (λ (k : LaneList). is_in c.id k.accepted) (lane-is n.rx g lane)
            ∙ in-longer c.id (accepted_at m.rx.bare lane) (accepted_at n.rx.bare lane)
            (l.rx.accepted lane)
            (sym (ap (λ (k : LaneList). is_in c.id k.accepted) (lane-is m.rx h lane))
            ∙ w.accepted);
        place = w.place;
        there = w.there;
        here = w.here;
      }

  seen-lasts : (hash : Option ℕ) (a : Arrival) → SeenBy i (history_of m) hash a
      → SeenBy i (history_of n) hash a
  seen-lasts None a is = is
  seen-lasts (Some hash) a (inl w) =
      inl (
        w.0,
        w.1,
        entry-lasts i (history_of m) (history_of n) (table_place hash) w.0 l.commands w.2,
      )
  seen-lasts (Some hash) a (inr w) = inr (w.0, w.1, filter-lasts hash w.0 w.2)

  queues-last : (list : List Arrival)
      → All (λ a. SeenBy i (history_of m) (packet_hash (setup_in i) a.id) a) list
      → All (λ a. SeenBy i (history_of n) (packet_hash (setup_in i) a.id) a) list
  queues-last list old k d lt =
      let a : Arrival = get_or list k d in
      seen-lasts (packet_hash (setup_in i) a.id) a (old k d lt)

-- ---- a new arrival

-- a filter is written by a choice that moved to the home of its queue
by-home : (queue : Option ℕ) (cpu mark : ℕ) (f : Filter)
    → option_map (λ q. record { queue = q; cpu = cpu; mark = mark }) queue ≡ Some f
    → queue ≡ Some f.queue
by-home None cpu mark f is = absurd (cc)
by-home (Some q) cpu mark f is =
    let g : Some q ≡ Some f.queue =
    ap (λ (o : Option Filter). option_map (λ (d : Filter). d.queue) o) is in g

written-moves : (homes : List ℕ) (why : Why) (cpu mark : ℕ) (f : Filter)
    → filter_written homes why cpu mark ≡ Some f
    → (has_moved why ≡ true) × (home_queue homes cpu ≡ Some f.queue)
written-moves homes why cpu mark f is =
    elim (cases_Bool (has_moved why)) [
      | inl moved ↦ (moved, by-home (home_queue homes cpu) cpu mark f (rw moved at is))
      | inr stays ↦ absurd (let g : None ≡ Some f = rw stays at is in cc)
    ]

filter-place : (filters : List (Option Filter)) (place : Option ℕ) (f : Filter)
    → row_at None filters place ≡ Some f
    → (p : ℕ) × (place ≡ Some p) × (slice_index_or filters p None ≡ Some f)
filter-place filters None f is = absurd (cc)
filter-place filters (Some p) f is = (p, refl, is)

module _ (i : Input) (m : Machine) (setup : m.setup ≡ setup_in i)
    (rows : length m.filters ≡ i.plan.filters) (h : Sound m.rx) (filters : FiltersAreFrom m)
    (w : Commanding i m) (follows : Follows i m) where
  -- a filter that a hash finds is from a choice
  filter-is : (hash place : ℕ) (f : Filter)
      → class_of (length m.filters) (Some hash) ≡ Some place → filter_at place m ≡ Some f
      → FilterFrom i (history_of m) hash f.queue
  filter-is hash place f here at =
      let from : FilterIsFrom m place f = filters.filters place f at in
      let c : Chosen = from.choice in
      let moves = written-moves m.setup.homes c.choice.why c.choice.lane from.position f
      from.written in
      let k = from.chosen.0 in
      let lt = slice_get_within (choices_of m.rx from.queue) k c from.chosen.1 in
      let is : chosen_at (choices_of m.rx from.queue) k ≡ c =
      get_or_from_slice_get (choices_of m.rx from.queue) k c nobody from.chosen.1 in
      let lane : c.choice.lane < length m.rx.bare.accepted =
      subst (λ (d : Chosen). d.choice.lane < length m.rx.bare.accepted) is
      (h.lanes from.queue k lt) in
      record {
        queue = from.queue;
        choice = c;
        chosen = from.chosen;
        moved = moves.0;
        home = ap (λ (p : Setup). home_queue p.homes c.choice.lane) (sym setup) ∙ moves.1;
        accepted = ap (λ (l : LaneList). is_in c.id l.accepted) (lane-is m.rx h c.choice.lane)
            ∙ from.accepted lane;
        place = place;
        there = sym (λ j. class_of (rows j) (packet_hash (setup j) c.id)) ∙ from.there;
        here = ap (λ n. class_of n (Some hash)) (sym rows) ∙ here;
      }

  -- an arrival with a hash, by the filter that it finds
  seen-filter : (x hash : ℕ) (o : Option Filter) → filter_of m.filters hash ≡ o
      → SeenBy i (history_of m) (Some hash)
      (arrival_by x
      (route (Some hash) (option_map (λ (f : Filter). f.queue) o)
      (queue_of m.settings.reta (Some hash))))
  seen-filter x hash None is =
      inl (
        slice_index m.settings.reta.entries (table_place hash),
        refl,
        entry-from i m w (table_place hash) follows
            (let k = i.plan.within in
            let low = k.reta_length.at_least in
            let lt = mod_below hash 128 (omega arith) in
            omega (arith, lt, low)),
      )
  seen-filter x hash (Some f) is =
      let p = filter-place m.filters (class_of (length m.filters) (Some hash)) f is in
      inr (f.queue, refl, filter-is hash p.0 f p.1 p.2)

  seen-route : (x : ℕ) (hash : Option ℕ)
      → SeenBy i (history_of m) hash (arrival_by x (route_by m hash))
  seen-route x None = refl
  seen-route x (Some hash) = seen-filter x hash (filter_of m.filters hash) refl

  seen-next : SeenBy i (history_of m) (packet_hash (setup_in i) (length m.arrivals))
      (next_arrival m)
  seen-next =
      subst
      (λ (p : Setup). SeenBy i (history_of m) (packet_hash p (length m.arrivals)) (next_arrival m))
      setup (seen-route (length m.arrivals) (packet_hash m.setup (length m.arrivals)))

-- ---- every step

abbrev pub AllSeen : Input → Machine → Type 0
AllSeen i m = QueuesAreSeen i (history_of m)

-- nothing arrives
seen-stay : (i : Input) (m n : Machine) → Invariant m → Invariant n → Lasts m n
    → n.arrivals ≡ m.arrivals
    → AllSeen i m → AllSeen i n
seen-stay i m n h g l same old =
    let k = h.kept in let j = g.kept in
    subst (All (λ (a : Arrival). SeenBy i (history_of n) (packet_hash (setup_in i) a.id) a))
    (sym same)
    (queues-last i m n k.rx.sound j.rx.sound l m.arrivals old)

seen-arrived : (i : Input) (m : Machine) → m.setup ≡ setup_in i
    → length m.filters ≡ i.plan.filters → FiltersAreFrom m → Commanding i m → Follows i m
    → Invariant m → Invariant (arrives m (next_arrival m)) → Lasts m (arrives m (next_arrival m))
    → AllSeen i m → AllSeen i (arrives m (next_arrival m))
seen-arrived i m setup rows filters w follows h g l old =
    let k = h.kept in let j = g.kept in
    let a : Arrival = next_arrival m in
    let n : Machine = arrives m a in
    All-push (λ (b : Arrival). SeenBy i (history_of n) (packet_hash (setup_in i) b.id) b) m.arrivals
    a
    (queues-last i m n k.rx.sound j.rx.sound l m.arrivals old)
    (seen-lasts i m n k.rx.sound j.rx.sound l (packet_hash (setup_in i) (length m.arrivals)) a
    (seen-next i m setup rows k.rx.sound filters w follows))

pub seen-simple : (i : Input) (m : Machine) (s : Step) → m.setup ≡ setup_in i
    → length m.filters ≡ i.plan.filters → FiltersAreFrom m → Commanding i m → Follows i m
    → Invariant m → Invariant (simple m s).0 → IsNamed m.setup s → AllSeen i m → AllSeen i
    (simple m s).0
seen-simple i m s setup rows filters w follows h g named old =
    walk m h (λ n. Invariant n → AllSeen i n) s
    (record {
      quiet = λ n k g. seen-stay i m n h g k.still.lasts k.arrivals old;
      arrive = λ few k g. seen-arrived i m setup rows filters w follows h g k.lasts old;
      look = λ q in' inside more g. (
          let x : Note = note.Looked (seen_by m q (next_of m.rx q)) in
          seen-stay i m (with_note m q x) h g (lasts-noted m q x) refl old);
      weigh = λ q want in' is more l g. seen-stay i m (weighed m q want) h g l refl old;
      write = λ flow hash is some k g. seen-stay i m _ h g k.lasts refl old;
      send = λ a x in' is k g. seen-stay i m (sends m a x) h g k.lasts refl old;
      tx_weigh = λ a in' more l g. seen-stay i m (tx_weighed m a) h g l refl old;
      give = λ c is in' d g. seen-stay i m (given m c).0 h g d.lasts d.arrivals old;
    }) named g

pub seen-new : (i : Input) → AllSeen i (new_machine i.plan i.packets i.cut)
seen-new i =
    let m : Machine = new_machine i.plan i.packets i.cut in
    All-nil (λ (a : Arrival). SeenBy i (history_of m) (packet_hash (setup_in i) a.id) a)
