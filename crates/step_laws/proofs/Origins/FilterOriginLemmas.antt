-- Each filter that is set is that of a choice.
use Rattle.std.proofs.Common.{ℕ, ◌≤◌, ◌≡◌, ◌⊎◌, ◌∙◌, sym, ap, refl, Bool, true, false, List, []}
use Rattle.std.proofs.Common.{◌∷◌, ◌++◌}
use Rattle.std.proofs.Common.{Option, Some, None, arith, length, subst, inl, inr, unwrap_or}
use Rattle.std.proofs.Common.{slice_get}
use Rattle.std.specs.Prelude.{if◌then◌else◌, nat_lt, not, slice_index_or, slice_set, suc, zero}
use Rattle.std.specs.Prelude.{◌-◌, ◌+◌, ◌%◌, ◌≢◌, replicate}
use Rattle.std.proofs.lemmas.Bool.{cases_Bool, cases_eq, cases_lt, eqb-true}
use Rattle.std.proofs.lemmas.List.{get_or-set_same, get_or-set_other, get_or_past, length-map}
use Rattle.std.proofs.lemmas.List.{length-set}
use Rattle.steer_base.specs.Choices.{class_of}
use Rattle.steer_base.specs.Entries.{is_class}
use Rattle.steer_base.specs.Filters.{filter_written}
use Rattle.steer_base.specs.HashTables.{place_in_rows}
use Rattle.steer_base.specs.declared.choice.Chosen.{Chosen}
use Rattle.steer_base.specs.declared.cpu_mask.CpuMask.{CpuMask}
use Rattle.steer_base.specs.declared.command.Answer.TheVariants as says
use Rattle.steer_base.specs.declared.command.Command.{Command}
use Rattle.steer_base.specs.declared.command.Command.TheVariants as give
use Rattle.steer_base.specs.declared.filter.Filter.{Filter}
use Rattle.steer_base.specs.declared.idle.Idle.TheVariants as idle
use Rattle.steer_base.specs.declared.packet.Packet.{Packet}
use Rattle.steer_base.specs.declared.step.Step.{Step}
use Rattle.steer_base.specs.declared.step.Step.TheVariants as act
use Rattle.hop_core.proofs.Leaves.{each_leaves}
use Rattle.hop_model.specs.declared.event.HopAnswer.{HopAnswer}
use Rattle.hop_model.specs.declared.event.HopEvent.{HopEvent}
use Rattle.hop_model.specs.declared.event.HopEvent.TheVariants as event
use Rattle.hop_model.specs.Events.{Outcome as HopOutcome, happens}
use Rattle.hop_model.specs.Hop.{HopState, choice_of, choices_of, chose, inside_of, nobody}
use Rattle.hop_model.specs.Hop.{placed_of}
use Rattle.hop_model.specs.Hop.{taken_of}
use Rattle.hop_core.specs.Leaves.{Field, changes}
use Rattle.hop_model.specs.Reads.{last_choice, to_weigh}
use Rattle.history.specs.declared.arrival.Arrival.{Arrival}
use Rattle.plan_reader.specs.declared.plan.Plan.{Plan}
use Rattle.steer_model.specs.Steps.Applications.{in_lane, next_in, record_by, send_by, visited}
use Rattle.steer_model.specs.Steps.Applications.{wrote}
use Rattle.steer_model.specs.Steps.Commands.{answer_to, is_done, kept_filter, may_go, set_by}
use Rattle.step_laws.specs.Origins.FilterOrigins.{FilterIsFrom, FiltersAreFrom}
use Rattle.step_laws.specs.Origins.FilterOrigins.{FiltersAreFromChoices, WasAccepted}
use Rattle.steer_model.specs.State.Machine.{Machine, last_chosen, note_of}
use Rattle.steer_model.specs.State.Notes.{asking, is_asking, is_nothing}
use Rattle.steer_model.specs.Steps.Outcomes.{StepOutcome, by_rx}
use Rattle.steer_model.specs.Steps.Pollers.{arrival_by, arrives, route_by}
use Rattle.steer_model.specs.Steps.Pollers.{ask_by, filter_for, look_by, poller_after_put, putting}
use Rattle.steer_model.specs.Steps.Pollers.{weigh_by}
use Rattle.steer_model.specs.Steps.Pollers.{weighing, with_filter}
use Rattle.steer_model.specs.State.Setup.{Setup, app_for, flow_hash, packet_hash}
use Rattle.steer_model.specs.State.Start.{new_machine, initial_settings}
use Rattle.steer_model.specs.Steps.SingleSteps.{simple}
use Rattle.step_laws.specs.Origins.TableWrites.{filter_at, if_at}
use Rattle.steer_model.specs.declared.note.Note.{Note}
use Rattle.steer_model.specs.declared.note.Note.TheVariants as note
use Rattle.step_laws.proofs.HandLemmas.{HopGrows, hop-grows, more-growth, no-growth}
use Rattle.step_laws.proofs.HandLemmas.{put-accepts}
use Rattle.step_laws.proofs.LiftLemmas.{after-keeps}
use Rattle.step_laws.proofs.Origins.SocketOriginLemmas.{get-more}
use Rattle.step_laws.proofs.Origins.TableWriteLemmas.{map-at, no-filters, row-written}

-- what follows from nothing
no-asking : (f : Filter) (n : Note) → is_asking n ≡ false → n ≡ note.Asking f → ⊥
no-asking f n quiet is = true-false (ap is_asking (sym is) ∙ quiet)
  where
    true-false : true ≡ false → ⊥
    true-false e = cc

-- a note that was written, or another one
note-in : (ns : List Note) (q : ℕ) (n : Note) (p : ℕ) (f : Filter)
    → slice_index_or (slice_set ns q n) p note.Nothing ≡ note.Asking f
    → ((p ≡ q) × (n ≡ note.Asking f))
    ⊎ ((p ≢ q) × (slice_index_or ns p note.Nothing ≡ note.Asking f))
note-in ns q n p f is =
    elim (cases_eq p q) [
      | inr other ↦ inr (other, sym (get_or-set_other ns q p n note.Nothing other) ∙ is)
      | inl same ↦ elim (cases_lt q (length ns)) [
        | inl within ↦
            inl (
              same,
              sym (get_or-set_same ns q n note.Nothing within)
                  ∙ ap (λ k. slice_index_or (slice_set ns q n) k note.Nothing) (sym same) ∙ is,
            )
        | inr past ↦
            absurd (no-asking f note.Nothing refl
            (sym (get_or_past (slice_set ns q n) p note.Nothing
            (subst (λ k. length (slice_set ns q n) ≤ k) (sym same)
            (subst (λ k. k ≤ q) (sym (length-set ns q n)) past)))
            ∙ is))
      ]
    ]

list-grows : {A : Type 0} (ls : List (List A)) (a b i : ℕ) (x y : A)
    → slice_get (slice_index_or ls b []) i ≡ Some y
    → slice_get (slice_index_or (slice_set ls a (slice_index_or ls a [] ++ x ∷ [])) b []) i ≡ Some y
list-grows [] a b i x y is = is
list-grows (l ∷ ls) zero zero i x y is = get-more l x y i is
list-grows (l ∷ ls) zero (suc b) i x y is = is
list-grows (l ∷ ls) (suc a) zero i x y is = is
list-grows (l ∷ ls) (suc a) (suc b) i x y is = list-grows ls a b i x y is

-- ---- what a filter comes from stays, while choices grow

record Grows (m n : Machine) : Type 0 where
  setup : n.setup ≡ m.setup
  rows : length n.filters ≡ length m.filters
  choices : (q k : ℕ) (c : Chosen) → slice_get (choices_of m.rx q) k ≡ Some c
      → slice_get (choices_of n.rx q) k ≡ Some c
  accepted : (c : Chosen) → WasAccepted m.rx c → WasAccepted n.rx c

grown : (m n : Machine) (place : ℕ) (f : Filter) → Grows m n → FilterIsFrom m place f
    → FilterIsFrom n place f
grown m n place f g from =
    record {
      queue = from.queue;
      choice = from.choice;
      position = from.position;
      chosen = (from.chosen.0, g.choices from.queue from.chosen.0 from.choice from.chosen.1);
      accepted = g.accepted from.choice from.accepted;
      written =
          ap (λ (p : Setup). filter_written p.homes from.choice.choice.why from.choice.choice.lane
          from.position) g.setup
          ∙ from.written;
      there =
          ap (λ k. class_of k (packet_hash n.setup from.choice.id)) g.rows
          ∙ ap (λ p. class_of (length m.filters) (packet_hash p from.choice.id)) g.setup
          ∙ from.there;
    }

record Same (m n : Machine) : Type 0 where
  setup : n.setup ≡ m.setup
  filters : n.filters ≡ m.filters
  choices : n.rx.choices ≡ m.rx.choices
  hop : HopGrows m.rx n.rx

same-grows : (m n : Machine) → Same m n → Grows m n
same-grows m n same =
    record {
      setup = same.setup;
      rows = ap (λ fs. length fs) same.filters;
      choices = λ q k c is. ap (λ cs. slice_get (slice_index_or cs q []) k) same.choices ∙ is;
      accepted = same.hop.accepted;
    }

abbrev Asked : Machine → ℕ → Filter → Type 0
Asked m q f =
    (position : ℕ)
    × (filter_for m.setup.homes (length m.filters) (last_chosen m.rx q).choice position ≡ Some f)
    × WasAccepted m.rx (last_chosen m.rx q)

-- the last choice of a list
abbrev last_in : List Chosen → Chosen
last_in cs = unwrap_or (slice_get cs (length cs - 1)) nobody

asked-same : (m n : Machine) (q : ℕ) (f : Filter) → n.setup ≡ m.setup
    → length n.filters ≡ length m.filters
    → choices_of n.rx q ≡ choices_of m.rx q → HopGrows m.rx n.rx → Asked m q f → Asked n q f
asked-same m n q f setup rows choices hop asked = (
  asked.0,
  ap (λ (p : Setup). filter_for p.homes (length n.filters) (last_chosen n.rx q).choice asked.0)
      setup
      ∙ ap (λ k. filter_for m.setup.homes k (last_chosen n.rx q).choice asked.0) rows
      ∙ ap (λ cs. filter_for m.setup.homes (length m.filters) (last_in cs).choice asked.0) choices
      ∙ asked.1,
  subst (λ cs. WasAccepted n.rx (last_in cs)) (sym choices)
      (hop.accepted (last_chosen m.rx q) asked.2),
)

-- where each note that asks did so before
from-same : (m n : Machine) → Same m n
    → ((q : ℕ) (f : Filter) → note_of n q ≡ note.Asking f → note_of m q ≡ note.Asking f)
    → FiltersAreFrom m → FiltersAreFrom n
from-same m n same notes w =
    record {
      filters = λ place f is. grown m n place f (same-grows m n same)
          (w.filters place f (ap (λ fs. slice_index_or fs place None) (sym same.filters) ∙ is));
      asking = λ q f is. asked-same m n q f same.setup (ap (λ fs. length fs) same.filters)
          (ap (λ cs. slice_index_or cs q []) same.choices) same.hop (w.asking q f (notes q f is));
      hands = same.hop.hands w.hands;
    }

quiet : (m n : Machine) → Same m n → n.notes ≡ m.notes → FiltersAreFrom m → FiltersAreFrom n
quiet m n same notes =
    from-same m n same (λ q f is. ap (λ ns. slice_index_or ns q note.Nothing) (sym notes) ∙ is)

-- a note that does not ask
silent : (m n : Machine) (q : ℕ) (x : Note) → Same m n → n.notes ≡ slice_set m.notes q x
    → is_asking x ≡ false
    → FiltersAreFrom m → FiltersAreFrom n
silent m n q x same notes still = from-same m n same before
  where
    before : (p : ℕ) (f : Filter) → note_of n p ≡ note.Asking f → note_of m p ≡ note.Asking f
    before p f is =
        elim (note-in m.notes q x p f (ap (λ ns. slice_index_or ns p note.Nothing) (sym notes)
        ∙ is)) [
          | inl new ↦ absurd (no-asking f x still new.1)
          | inr old ↦ old.1
        ]

-- ---- the hop

choices-kept : (s : HopState) (e : HopEvent) → changes e Field.choices ≡ false
    → (happens s e).0.choices ≡ s.choices
choices-kept s e keeps = each_leaves s e Field.choices keeps

-- by an event that makes no choice
by-event : (m : Machine) (e : HopEvent) → changes e Field.choices ≡ false → FiltersAreFrom m
    → FiltersAreFrom (by_rx m e).0
by-event m e keeps =
    quiet m (by_rx m e).0
    (record {
      setup = refl;
      filters = refl;
      choices = choices-kept m.rx e keeps;
      hop = hop-grows m.rx e;
    }) refl

record Weighed (q : ℕ) (s t : HopState) : Type 0 where
  others : (p : ℕ) → p ≢ q → choices_of t p ≡ choices_of s p
  more : (p k : ℕ) (c : Chosen) → slice_get (choices_of s p) k ≡ Some c → slice_get
      (choices_of t p) k ≡ Some c

unweighed : (q : ℕ) (s : HopState) → Weighed q s s
unweighed q s = record { others = λ p other. refl; more = λ p k c is. is }

weighed-if : (q : ℕ) (s : HopState) (b : Bool) (x y : HopOutcome) → Weighed q s x.0
    → Weighed q s y.0
    → Weighed q s (if b then x else y).0
weighed-if q s true x y p r = p
weighed-if q s false x y p r = r

weighed : (s : HopState) (q : ℕ) (class want : Option ℕ) (desired : ℕ) (online : CpuMask)
    → Weighed q s (happens s (event.Weigh q class want desired online)).0
weighed s q class want desired online =
    weighed-if q s (not (inside_of s q)) _ _ (unweighed q s)
    (weighed-if q s (nat_lt (length (choices_of s q)) (taken_of s q)) _ _ one-more (unweighed q s))
  where
    one-more : Weighed q s (chose s q (choice_of s q class want desired online))
    one-more =
        record {
          others = λ p other. get_or-set_other s.choices q p _ [] other;
          more = λ p k c is. list-grows s.choices q p k _ c is;
        }

-- ---- one event

from-if : (b : Bool) (x y : StepOutcome) → FiltersAreFrom x.0 → FiltersAreFrom y.0 → FiltersAreFrom
    (if b then x else y).0
from-if true x y p q = p
from-if false x y p q = q

from-arrive : (m : Machine) (a : Arrival) → FiltersAreFrom m → FiltersAreFrom (arrives m a)
from-arrive m a =
    quiet m (arrives m a)
    (record {
      setup = refl;
      filters = refl;
      choices = choices-kept m.rx
          (event.Arrive a.queue a.id) refl;
      hop = hop-grows m.rx (event.Arrive a.queue a.id);
    }) refl

from-look : (m : Machine) (q : ℕ) (x : Option ℕ) → FiltersAreFrom m → FiltersAreFrom
    (look_by m q x).0
from-look m q (Some x) =
    silent m (look_by m q (Some x)).0 q _ (record {
      setup = refl;
      filters = refl;
      choices = refl;
      hop = no-growth _;
    }) refl refl
from-look m q None = λ w. w

from-weigh : (m : Machine) (q : ℕ) (n : Note) (x : Option ℕ) → FiltersAreFrom m → FiltersAreFrom
    (weigh_by m q n x).0
from-weigh m q (note.Looked want) (Some x) w =
    record {
      filters = λ place f is. grown m (weigh_by m q (note.Looked want) (Some x)).0 place f
          (record { setup = refl; rows = refl; choices = change.more; accepted = growth.accepted })
          (w.filters place f is);
      asking = asking-still;
      hands = growth.hands w.hands;
    }
  where
    growth : HopGrows m.rx (weigh_by m q (note.Looked want) (Some x)).0.rx
    growth = hop-grows m.rx (weighing m q x want)

    change : Weighed q m.rx (weigh_by m q (note.Looked want) (Some x)).0.rx
    change = weighed m.rx q _ want _ m.settings.online

    asking-still : (p : ℕ) (f : Filter) → note_of (weigh_by m q (note.Looked want) (Some x)).0
        p ≡ note.Asking f
        → Asked (weigh_by m q (note.Looked want) (Some x)).0 p f
    asking-still p f is =
        elim (note-in m.notes q note.Nothing p f is) [
          | inl new ↦ absurd (no-asking f note.Nothing refl new.1)
          | inr old ↦
              asked-same m (weigh_by m q (note.Looked want) (Some x)).0 p f refl refl
              (change.others p old.0) growth
              (w.asking p f old.1)
        ]
from-weigh m q (note.Looked want) None w = w
from-weigh m q note.Nothing x w = w
from-weigh m q (note.Asking filter) x w = w

is-asked : (o : Option Filter) (f : Filter) → asking o ≡ note.Asking f → o ≡ Some f
is-asked (Some g) f is = cc
is-asked None f is = cc

from-put : (m : Machine) (q : ℕ) (x : Option ℕ) (a : HopAnswer)
    → ((position : ℕ) → x ≡ Some position → WasAccepted m.rx (last_chosen m.rx q))
    → FiltersAreFrom m
    → FiltersAreFrom (poller_after_put m q x a).0
from-put m q None a was w = w
from-put m q (Some position) a was w =
    record {
      filters = λ place f is. grown m (poller_after_put m q (Some position) a).0 place f
          (record { setup = refl; rows = refl; choices = λ p k c is. is; accepted = λ c is. is })
          (w.filters place f is);
      asking = asking-now;
      hands = w.hands;
    }
  where
    asking-now : (p : ℕ) (f : Filter) → note_of (poller_after_put m q (Some position) a).0
        p ≡ note.Asking f
        → Asked (poller_after_put m q (Some position) a).0 p f
    asking-now p f is =
        elim (note-in m.notes q
        (asking (filter_for m.setup.homes (length m.filters) (last_chosen m.rx q).choice position))
        p f
        is) [
          | inl new ↦ (
            position,
            ap (λ k. filter_for m.setup.homes (length m.filters)
                (last_chosen m.rx k).choice position)
                new.0
                ∙ is-asked _ f new.1,
            subst (λ k. WasAccepted m.rx (last_chosen m.rx k)) (sym new.0) (was position refl),
          )
          | inr old ↦ w.asking p f old.1
        ]

-- the filter that is asked for is that of a choice which was made
from-last : (homes : List ℕ) (filters : ℕ) (last : Option Chosen) (position : ℕ) (f : Filter)
    → filter_for homes filters (unwrap_or last nobody).choice position ≡ Some f
    → (last ≡ Some (unwrap_or last nobody))
    × (filter_written homes (unwrap_or last nobody).choice.why (unwrap_or last nobody).choice.lane
    position ≡ Some f)
from-last homes filters (Some c) position f is = (refl, by_test (nat_lt 0 filters) is)
  where
    by_test : (b : Bool) → (if b then filter_written homes c.choice.why c.choice.lane position else
        None) ≡ Some f
        → filter_written homes c.choice.why c.choice.lane position ≡ Some f
    by_test true is = is
    by_test false is = cc
from-last homes filters None position f is = absurd (by_test (nat_lt 0 filters) is)
  where
    by_test : (b : Bool)
        → (if b then filter_written homes nobody.choice.why nobody.choice.lane position else
        None) ≡ Some f → ⊥
    by_test true is = cc
    by_test false is = cc

is-there : (place : ℕ) (x : Option ℕ) → is_class place x ≡ true → x ≡ Some place
is-there place (Some k) is = ap (λ n. Some n) (sym (eqb-true place k is))
is-there place None is = cc

length-with : (filters : List (Option Filter)) (hash : Option ℕ) (f : Filter)
    → length (with_filter filters hash f) ≡ length filters
length-with filters None f = refl
length-with filters (Some hash) f =
    elim (cases_Bool (nat_lt 0 (length filters))) [
      | inl some ↦ rw some (length-set filters _ (Some f))
      | inr none ↦ rw none refl
    ]

at-with : (filters : List (Option Filter)) (hash : Option ℕ) (f : Filter) (place : ℕ)
    → slice_index_or (with_filter filters hash f) place None
    ≡ unwrap_or (if_at place filters hash (Some f)) (slice_index_or filters place None)
at-with filters None f place = refl
at-with filters (Some hash) f place = row-written filters (Some hash) f place

from-ask : (m : Machine) (q : ℕ) (n : Note) → note_of m q ≡ n → FiltersAreFrom m → FiltersAreFrom
    (ask_by m q n).0
from-ask m q note.Nothing here w = w
from-ask m q (note.Looked want) here w = w
from-ask m q (note.Asking filter) here w =
    record { filters = filters-now; asking = asking-still; hands = w.hands }
  where
    hash : Option ℕ
    hash = packet_hash m.setup (last_chosen m.rx q).id

    rows : length (with_filter m.filters hash filter) ≡ length m.filters
    rows = length-with m.filters hash filter

    grows : Grows m (ask_by m q (note.Asking filter)).0
    grows = record { setup = refl; rows = rows; choices = λ p k c is. is; accepted = λ c is. is }

    asked : Asked m q filter
    asked = w.asking q filter here

    is_one : (place : ℕ) (f : Filter) (b : Bool) → is_class place (place_in_rows m.filters hash) ≡ b
        → unwrap_or (if b then Some (Some filter) else None) (filter_at place m) ≡ Some f
        → FilterIsFrom m place f
    is_one place f true there is =
        let last = from-last m.setup.homes (length m.filters) (last_choice m.rx q) asked.0 filter
        asked.1 in
        record {
          queue = q;
          choice = last_chosen m.rx q;
          position = asked.0;
          chosen = (length (choices_of m.rx q) - 1, last.0);
          accepted = asked.2;
          written = last.1 ∙ is;
          there = is-there place (place_in_rows m.filters hash) there;
        }
    is_one place f false there is = w.filters place f is

    filters-now : (place : ℕ) (f : Filter) → filter_at place
        (ask_by m q (note.Asking filter)).0 ≡ Some f
        → FilterIsFrom (ask_by m q (note.Asking filter)).0 place f
    filters-now place f is =
        grown m (ask_by m q (note.Asking filter)).0 place f grows
        (is_one place f _ refl (sym (at-with m.filters hash filter place) ∙ is))

    asking-still : (p : ℕ) (f : Filter)
        → note_of (ask_by m q (note.Asking filter)).0 p ≡ note.Asking f
        → Asked (ask_by m q (note.Asking filter)).0 p f
    asking-still p f is =
        elim (note-in m.notes q note.Nothing p f is) [
          | inl new ↦ absurd (no-asking f note.Nothing refl new.1)
          | inr old ↦
              asked-same m (ask_by m q (note.Asking filter)).0 p f refl rows refl (no-growth m.rx)
              (w.asking p f old.1)
        ]

from-record : (m : Machine) (hash : Option (Option ℕ)) → FiltersAreFrom m → FiltersAreFrom
    (record_by m hash).0
from-record m None w = w
from-record m (Some None) w = w
from-record m (Some (Some hash)) w =
    from-if (nat_lt 0 (length m.socket)) (wrote (visited m app) app hash, says.Done)
    (m, says.Idle idle.NoTable)
    (quiet m (wrote (visited m app) app hash)
    (record { setup = refl; filters = refl; choices = kept; hop = growth }) refl w) w
  where
    app : ℕ
    app = hash % m.setup.apps

    guest : ℕ
    guest = length m.setup.homes + app

    growth : HopGrows m.rx (visited m app).rx
    growth =
        more-growth m.rx (happens m.rx (event.Enter guest)).0 (visited m app).rx
        (hop-grows m.rx (event.Enter guest)) (hop-grows (happens m.rx (event.Enter guest)).0
        (event.Leave guest))

    kept : (visited m app).rx.choices ≡ m.rx.choices
    kept =
        choices-kept (happens m.rx (event.Enter guest)).0 (event.Leave guest) refl
        ∙ choices-kept m.rx (event.Enter guest) refl

from-send : (m : Machine) (a : ℕ) (x : Option ℕ) → FiltersAreFrom m → FiltersAreFrom
    (send_by m a x).0
from-send m a (Some x) =
    quiet m (send_by m a (Some x)).0 (record {
      setup = refl;
      filters = refl;
      choices = refl;
      hop = no-growth _;
    }) refl
from-send m a None = λ w. w

from-set : (m : Machine) (c : Command) → FiltersAreFrom m → FiltersAreFrom (set_by m c)
from-set m (give.Flows q count) w =
    quiet m (set_by m (give.Flows q count)) (record {
      setup = refl;
      filters = refl;
      choices = kept;
      hop = growth;
    }) refl w
  where
    closed : HopState
    closed = (happens m.rx event.Close).0

    resized : HopState
    resized = (happens closed (event.Resize q count)).0

    growth : HopGrows m.rx (set_by m (give.Flows q count)).rx
    growth =
        more-growth m.rx closed _ (hop-grows m.rx event.Close)
        (more-growth closed resized _ (hop-grows closed (event.Resize q count))
        (hop-grows resized event.Reopen))

    kept : (set_by m (give.Flows q count)).rx.choices ≡ m.rx.choices
    kept =
        choices-kept (happens closed (event.Resize q count)).0 event.Reopen refl
        ∙ choices-kept closed (event.Resize q count) refl ∙ choices-kept m.rx event.Close refl
from-set m give.Expire w =
    record {
      filters = λ place f is. grown m (set_by m give.Expire) place f
          (record {
            setup = refl;
            rows = length-map m.filters (kept_filter m);
            choices = λ p k c is. is;
            accepted = λ c is. is;
          })
          (w.filters place f (kept (filter_at place m) f
          (sym (map-at (kept_filter m) refl m.filters place) ∙ is)));
      asking = λ q f is. asked-same m (set_by m give.Expire) q f refl
          (length-map m.filters (kept_filter m)) refl (no-growth m.rx) (w.asking q f is);
      hands = w.hands;
    }
  where
    kept : (x : Option Filter) (f : Filter) → kept_filter m x ≡ Some f → x ≡ Some f
    kept x f is = by_test (may_go m x) is
      where
        by_test : (b : Bool) → (if b then None else x) ≡ Some f → x ≡ Some f
        by_test true is = cc
        by_test false is = is
from-set m (give.Mask q mask) w =
    quiet m (set_by m (give.Mask q mask)) (record {
      setup = refl;
      filters = refl;
      choices = refl;
      hop = no-growth _;
    }) refl w
from-set m (give.Sock size) w =
    quiet m (set_by m (give.Sock size)) (record {
      setup = refl;
      filters = refl;
      choices = refl;
      hop = no-growth _;
    }) refl w
from-set m (give.Offline cpu) w =
    quiet m (set_by m (give.Offline cpu)) (record {
      setup = refl;
      filters = refl;
      choices = refl;
      hop = no-growth _;
    }) refl w
from-set m (give.Online cpu) w =
    quiet m (set_by m (give.Online cpu)) (record {
      setup = refl;
      filters = refl;
      choices = refl;
      hop = no-growth _;
    }) refl w
from-set m (give.XCpus tx mask) w =
    quiet m (set_by m (give.XCpus tx mask)) (record {
      setup = refl;
      filters = refl;
      choices = refl;
      hop = no-growth _;
    }) refl w
from-set m (give.XQueues tx queues) w =
    quiet m (set_by m (give.XQueues tx queues)) (record {
      setup = refl;
      filters = refl;
      choices = refl;
      hop = no-growth _;
    }) refl w
from-set m (give.Reta at q) w =
    quiet m (set_by m (give.Reta at q)) (record {
      setup = refl;
      filters = refl;
      choices = refl;
      hop = no-growth _;
    }) refl w
from-set m (give.Stand app cpu) w =
    quiet m (set_by m (give.Stand app cpu)) (record {
      setup = refl;
      filters = refl;
      choices = refl;
      hop = no-growth _;
    }) refl w

from-given : (m : Machine) (c : Command) (b : Bool) → FiltersAreFrom m → FiltersAreFrom
    (if b then set_by m c else m)
from-given m c true w = from-set m c w
from-given m c false w = w

from-simple : (m : Machine) (e : Step) → FiltersAreFrom m → FiltersAreFrom (simple m e).0
from-simple m act.Arrive w =
    let next : ℕ = length m.arrivals in
    from-if (nat_lt next (length m.setup.packets)) _ _
    (from-arrive m (arrival_by next (route_by m (packet_hash m.setup next))) w) w
from-simple m (act.Take q) w =
    from-if (is_asking (note_of m q)) _ _ w (by-event m (event.Take q) refl w)
from-simple m (act.Look q) w =
    from-if (not (inside_of m.rx q)) _ _ w
    (from-if (is_nothing (note_of m q)) _ _ (from-look m q (to_weigh m.rx q) w) w)
from-simple m (act.Weigh q) w =
    from-if (not (inside_of m.rx q)) _ _ w (from-weigh m q (note_of m q) (to_weigh m.rx q) w)
from-simple m (act.Put q) w =
    from-put (by_rx m (putting m q)).0 q _ _
    (put-accepts m.rx q (packet_hash m.setup (last_chosen m.rx q).id) w.hands)
    (by-event m (putting m q) refl w)
from-simple m (act.Ask q) w =
    from-if (not (inside_of m.rx q)) _ _ w (from-ask m q (note_of m q) refl w)
from-simple m (act.Leave q) w =
    from-if (not (inside_of m.rx q)) _ _ w
    (from-if (is_nothing (note_of m q)) _ _ (by-event m (event.Leave q) refl w) w)
from-simple m (act.Enter q) w = by-event m (event.Enter q) refl w
from-simple m (act.Pull c) w = by-event m (event.Pull c) refl w
from-simple m (act.Deliver c) w = by-event m (event.Deliver c (app_for m.setup (in_lane m.rx c)))
    refl w
from-simple m (act.Retire c) w = by-event m (event.Retire c) refl w
from-simple m (act.Record flow) w = from-record m (flow_hash m.setup flow) w
from-simple m (act.Send a) w =
    from-if (nat_lt (placed_of m.tx a) (taken_of m.tx a)) _ _ w (from-send m a (next_in m a) w)
from-simple m (act.Give c) w =
    let done : Bool = is_done (answer_to m c) in
    quiet (if done then set_by m c else m) _ (record {
      setup = refl;
      filters = refl;
      choices = refl;
      hop = no-growth _;
    }) refl (from-given m c done w)
from-simple m (act.TEnter a) w = quiet m _ (record {
  setup = refl;
  filters = refl;
  choices = refl;
  hop = no-growth _;
}) refl w
from-simple m (act.TLeave a) w = quiet m _ (record {
  setup = refl;
  filters = refl;
  choices = refl;
  hop = no-growth _;
}) refl w
from-simple m (act.TWeigh a) w = quiet m _ (record {
  setup = refl;
  filters = refl;
  choices = refl;
  hop = no-growth _;
}) refl w
from-simple m (act.TPut a) w = quiet m _ (record {
  setup = refl;
  filters = refl;
  choices = refl;
  hop = no-growth _;
}) refl w
from-simple m (act.TPull t) w = quiet m _ (record {
  setup = refl;
  filters = refl;
  choices = refl;
  hop = no-growth _;
}) refl w
from-simple m (act.TDeliver t) w = quiet m _ (record {
  setup = refl;
  filters = refl;
  choices = refl;
  hop = no-growth _;
}) refl w
from-simple m (act.TRetire t) w = quiet m _ (record {
  setup = refl;
  filters = refl;
  choices = refl;
  hop = no-growth _;
}) refl w
from-simple m (act.Poll q) w = w
from-simple m (act.Drain c) w = w
from-simple m (act.Reply a) w = w
from-simple m (act.Serve a) w = w
from-simple m (act.Ship t) w = w
from-simple m act.Sweep w = w

-- ---- the law

from-new : (plan : Plan) (packets : List Packet) (cut : Option ℕ) → FiltersAreFrom
    (new_machine plan packets cut)
from-new plan packets cut =
    record {
      filters = λ place f is. absurd (is-none f (sym (no-filters plan.filters place) ∙ is));
      asking = λ q f is. absurd (no-asking f note.Nothing refl
          (sym (no-notes (length plan.queues) q) ∙ is));
      hands = λ q. (
        omega (arith, ap (λ (l : List Chosen). length l) (no-choices many q)),
        omega arith,
      );
    }
  where
    many : ℕ
    many = length (initial_settings plan).counts

    none : List Chosen
    none = []

    no-choices : (n q : ℕ) → slice_index_or (replicate n none) q none ≡ none
    no-choices zero q = refl
    no-choices (suc n) zero = refl
    no-choices (suc n) (suc q) = no-choices n q

    is-none : (f : Filter) → None ≡ Some f → ⊥
    is-none f e = cc

    no-notes : (n q : ℕ) → slice_index_or (replicate n note.Nothing) q note.Nothing ≡ note.Nothing
    no-notes zero q = refl
    no-notes (suc n) zero = refl
    no-notes (suc n) (suc q) = no-notes n q

pub filters_are_from_choices : FiltersAreFromChoices
filters_are_from_choices =
    record {
      start = from-new;
      later = λ ss m w. after-keeps FiltersAreFrom from-simple ss m w;
    }
