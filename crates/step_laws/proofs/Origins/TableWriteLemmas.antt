-- What each event writes to the socket flow table and to the filters, and that the last write
-- stands.
use Rattle.std.proofs.Common.{ℕ, ◌%◌, ◌<◌, ◌≡◌, ◌∙◌, sym, ap, refl, Bool, true, false, List, []}
use Rattle.std.proofs.Common.{◌∷◌, ◌++◌}
use Rattle.std.proofs.Common.{Option, Some, None, length, inl, inr, unwrap_or, suc, zero}
use Rattle.std.specs.Prelude.{if◌then◌else◌, nat_lt, not, ◌==◌, map, slice_index_or, slice_set}
use Rattle.std.specs.List.{cons_option}
use Rattle.std.proofs.lemmas.Bool.{cases_Bool, cases_eq, eq-eqb, ltb-true, ne_eqb}
use Rattle.std.proofs.lemmas.List.{get_or-set_same, get_or-set_other}
use Rattle.std.proofs.Math.Nat.{mod-lt}
use Rattle.steer_base.specs.Counters.{rounded_up}
use Rattle.steer_base.specs.Entries.{last_or}
use Rattle.steer_base.specs.HashTables.{place_in_rows, with_row}
use Rattle.steer_base.specs.declared.command.Answer.TheVariants as says
use Rattle.steer_base.specs.declared.command.Command.{Command}
use Rattle.steer_base.specs.declared.command.Command.TheVariants as give
use Rattle.steer_base.specs.declared.idle.Idle.TheVariants as idle
use Rattle.steer_base.specs.declared.filter.Filter.{Filter}
use Rattle.steer_base.specs.declared.step.Step.{Step}
use Rattle.steer_base.specs.declared.step.Step.TheVariants as act
use Rattle.hop_model.specs.declared.event.HopAnswer.{HopAnswer}
use Rattle.hop_model.specs.Hop.{inside_of, placed_of, taken_of}
use Rattle.hop_model.specs.Reads.{to_weigh}
use Rattle.accel_filter.specs.Table.{unset as no_filter}
use Rattle.sock_flow_table.specs.Sockets.{unset}
use Rattle.steer_model.specs.Steps.Applications.{next_in, record_by, send_by, stand_of}
use Rattle.steer_model.specs.Steps.Commands.{answer_to, is_done, kept_filter, may_go, set_by}
use Rattle.steer_model.specs.State.Machine.{Machine, last_chosen, note_of}
use Rattle.steer_model.specs.State.Notes.{is_asking, is_nothing}
use Rattle.steer_model.specs.Steps.Outcomes.{StepOutcome, by_rx}
use Rattle.steer_model.specs.Steps.Pollers.{ask_by, look_by, poller_after_put, putting, weigh_by}
use Rattle.steer_model.specs.Steps.Pollers.{with_filter}
use Rattle.steer_model.specs.State.Setup.{flow_hash, packet_hash}
use Rattle.steer_model.specs.Steps.SingleSteps.{simple}
use Rattle.step_laws.specs.Origins.TableWrites.{TablesStartUnset}
use Rattle.step_laws.specs.Origins.TableWrites.{after_events, asked_at, cleared_by, expired_at}
use Rattle.step_laws.specs.Origins.TableWrites.{filter_at, filter_write}
use Rattle.step_laws.specs.Origins.TableWrites.{if_at, recorded_at, socket_at, socket_write}
use Rattle.step_laws.specs.Origins.TableWrites.{writes_of}
use Rattle.steer_model.specs.Steps.CompoundSteps.{after}
use Rattle.steer_model.specs.declared.note.Note.{Note}
use Rattle.steer_model.specs.declared.note.Note.TheVariants as note
use Rattle.step_laws.proofs.LiftLemmas.{after-keeps}

-- ---- tables

pub set-at : {A : Type 0} (xs : List (Option A)) (at i : ℕ) (v : A) → at < length xs
    → slice_index_or (slice_set xs at (Some v)) i None
    ≡ unwrap_or (if i == at then Some (Some v) else None) (slice_index_or xs i None)
set-at xs at i v lt =
    elim (cases_eq i at) [
      | inl e ↦ rw (eq-eqb i at e)
          (ap (λ k. slice_index_or (slice_set xs at (Some v)) k None) e ∙ get_or-set_same xs at
          (Some v) None lt)
      | inr ne ↦ rw (ne_eqb i at ne) (get_or-set_other xs at i (Some v) None ne)
    ]

pub row-written : {A : Type 0} (rows : List (Option A)) (hash : Option ℕ) (v : A) (place : ℕ)
    → slice_index_or (with_row rows (place_in_rows rows hash) (Some v)) place None
    ≡ unwrap_or (if_at place rows hash (Some v)) (slice_index_or rows place None)
row-written rows None v place = refl
row-written rows (Some hash) v place =
    elim (cases_Bool (nat_lt 0 (length rows))) [
      | inl some ↦
          rw some (set-at rows (hash % length rows) place v
          (mod-lt hash (ltb-true 0 (length rows) some)))
      | inr none ↦ rw none refl
    ]

pub no-rows : (n place : ℕ) → slice_index_or (unset n) place None ≡ None
no-rows zero place = refl
no-rows (suc n) zero = refl
no-rows (suc n) (suc place) = no-rows n place

pub no-filters : (n place : ℕ) → slice_index_or (no_filter n) place None ≡ None
no-filters zero place = refl
no-filters (suc n) zero = refl
no-filters (suc n) (suc place) = no-filters n place

pub map-at : {A : Type 0} (f : Option A → Option A) → f None ≡ None → (xs : List (Option A))
    (place : ℕ)
    → slice_index_or (map f xs) place None ≡ f (slice_index_or xs place None)
map-at f none [] place = sym none
map-at f none (x ∷ xs) zero = refl
map-at f none (x ∷ xs) (suc place) = map-at f none xs place

-- ---- one event

record Written (place : ℕ) (m n : Machine) (entry : Option (Option ℕ))
    (filter : Option (Option Filter)) : Type 0 where
  at_entry : socket_at place n ≡ unwrap_or entry (socket_at place m)
  at_filter : filter_at place n ≡ unwrap_or filter (filter_at place m)

module _ (place : ℕ) (m : Machine) where
  abbrev Keeps : Machine → Type 0
  Keeps n = Written place m n None None

  keeps : Keeps m
  keeps = record { at_entry = refl; at_filter = refl }

  keeps-if : (b : Bool) (x y : StepOutcome) → Keeps x.0 → Keeps y.0 → Keeps (if b then x else y).0
  keeps-if true x y p q = p
  keeps-if false x y p q = q

  keeps-look : (q : ℕ) (x : Option ℕ) → Keeps (look_by m q x).0
  keeps-look q (Some x) = record { at_entry = refl; at_filter = refl }
  keeps-look q None = keeps

  keeps-weigh : (q : ℕ) (n : Note) (x : Option ℕ) → Keeps (weigh_by m q n x).0
  keeps-weigh q (note.Looked want) (Some x) = record { at_entry = refl; at_filter = refl }
  keeps-weigh q (note.Looked want) None = keeps
  keeps-weigh q note.Nothing x = keeps
  keeps-weigh q (note.Asking filter) x = keeps

  keeps-put : (n : Machine) (q : ℕ) (x : Option ℕ) (a : HopAnswer) → Keeps n
      → Keeps (poller_after_put n q x a).0
  keeps-put n q (Some x) a kept = record { at_entry = kept.at_entry; at_filter = kept.at_filter }
  keeps-put n q None a kept = kept

  keeps-send : (a : ℕ) (x : Option ℕ) → Keeps (send_by m a x).0
  keeps-send a (Some x) = record { at_entry = refl; at_filter = refl }
  keeps-send a None = keeps

  writes-ask : (q : ℕ) (n : Note) → Written place m (ask_by m q n).0 None (asked_at place m q n)
  writes-ask q note.Nothing = keeps
  writes-ask q (note.Looked want) = keeps
  writes-ask q (note.Asking filter) =
      record { at_entry = refl; at_filter = asked (packet_hash m.setup (last_chosen m.rx q).id) }
    where
      asked : (hash : Option ℕ)
          → slice_index_or (with_filter m.filters hash filter) place None
          ≡ unwrap_or (if_at place m.filters hash (Some filter)) (filter_at place m)
      asked None = refl
      asked (Some hash) = row-written m.filters (Some hash) filter place

  writes-inside : (b : Bool) (q : ℕ)
      → Written place m (if not b then (m, says.Idle idle.NotInside) else ask_by m q
      (note_of m q)).0 None
      (if b then asked_at place m q (note_of m q) else None)
  writes-inside true q = writes-ask q (note_of m q)
  writes-inside false q = keeps

  writes-record : (hash : Option (Option ℕ)) → Written place m (record_by m hash).0
      (recorded_at place m hash) None
  writes-record None = keeps
  writes-record (Some None) = keeps
  writes-record (Some (Some hash)) =
      elim (cases_Bool (nat_lt 0 (length m.socket))) [
        | inl some ↦
            let cpu : ℕ = stand_of m (hash % m.setup.apps) in
            record {
              at_entry = rw some (set-at m.socket (hash % length m.socket) place cpu
                  (mod-lt hash (ltb-true 0 (length m.socket) some)));
              at_filter = rw some refl;
            }
        | inr none ↦ record { at_entry = rw none refl; at_filter = rw none refl }
      ]

  kept-or-gone : (x : Option Filter)
      → kept_filter m x ≡ unwrap_or (if may_go m x then Some None else None) x
  kept-or-gone x = by_test (may_go m x)
    where
      by_test : (b : Bool) → (if b then None else x) ≡ unwrap_or (if b then Some None else None) x
      by_test true = refl
      by_test false = refl

  writes-set : (c : Command) → Written place m (set_by m c) (cleared_by c) (expired_at place m c)
  writes-set (give.Mask q mask) = record { at_entry = refl; at_filter = refl }
  writes-set (give.Flows q count) = record { at_entry = refl; at_filter = refl }
  writes-set (give.Sock size) = record {
    at_entry = no-rows (rounded_up size) place;
    at_filter = refl;
  }
  writes-set (give.Offline cpu) = record { at_entry = refl; at_filter = refl }
  writes-set (give.Online cpu) = record { at_entry = refl; at_filter = refl }
  writes-set (give.XCpus tx mask) = record { at_entry = refl; at_filter = refl }
  writes-set (give.XQueues tx queues) = record { at_entry = refl; at_filter = refl }
  writes-set (give.Reta at q) = record { at_entry = refl; at_filter = refl }
  writes-set (give.Stand app cpu) = record { at_entry = refl; at_filter = refl }
  writes-set give.Expire =
      record {
        at_entry = refl;
        at_filter = map-at (kept_filter m) refl m.filters place ∙ kept-or-gone (filter_at place m);
      }

  writes-given : (c : Command) (b : Bool)
      → Written place m (if b then set_by m c else m) (if b then cleared_by c else None)
      (if b then expired_at place m c else None)
  writes-given c true = writes-set c
  writes-given c false = keeps

  writes-simple : (e : Step) → Written place m (simple m e).0 (socket_write place m e)
      (filter_write place m e)
  writes-simple act.Arrive =
      keeps-if (nat_lt (length m.arrivals) (length m.setup.packets)) _ _
      (record { at_entry = refl; at_filter = refl }) keeps
  writes-simple (act.Take q) =
      keeps-if (is_asking (note_of m q)) _ _ keeps (record { at_entry = refl; at_filter = refl })
  writes-simple (act.Enter q) = record { at_entry = refl; at_filter = refl }
  writes-simple (act.Look q) =
      keeps-if (not (inside_of m.rx q)) _ _ keeps
      (keeps-if (is_nothing (note_of m q)) _ _ (keeps-look q (to_weigh m.rx q)) keeps)
  writes-simple (act.Weigh q) =
      keeps-if (not (inside_of m.rx q)) _ _ keeps (keeps-weigh q (note_of m q) (to_weigh m.rx q))
  writes-simple (act.Put q) =
      keeps-put (by_rx m (putting m q)).0 q _ _ (record { at_entry = refl; at_filter = refl })
  writes-simple (act.Ask q) = writes-inside (inside_of m.rx q) q
  writes-simple (act.Leave q) =
      keeps-if (not (inside_of m.rx q)) _ _ keeps
      (keeps-if (is_nothing (note_of m q)) _ _ (record { at_entry = refl; at_filter = refl }) keeps)
  writes-simple (act.Pull c) = record { at_entry = refl; at_filter = refl }
  writes-simple (act.Deliver c) = record { at_entry = refl; at_filter = refl }
  writes-simple (act.Retire c) = record { at_entry = refl; at_filter = refl }
  writes-simple (act.Record flow) = writes-record (flow_hash m.setup flow)
  writes-simple (act.Send a) =
      keeps-if (nat_lt (placed_of m.tx a) (taken_of m.tx a)) _ _ keeps (keeps-send a (next_in m a))
  writes-simple (act.TEnter a) = record { at_entry = refl; at_filter = refl }
  writes-simple (act.TLeave a) = record { at_entry = refl; at_filter = refl }
  writes-simple (act.TWeigh a) = record { at_entry = refl; at_filter = refl }
  writes-simple (act.TPut a) = record { at_entry = refl; at_filter = refl }
  writes-simple (act.TPull t) = record { at_entry = refl; at_filter = refl }
  writes-simple (act.TDeliver t) = record { at_entry = refl; at_filter = refl }
  writes-simple (act.TRetire t) = record { at_entry = refl; at_filter = refl }
  writes-simple (act.Give c) =
      let w = writes-given c (is_done (answer_to m c)) in
      record { at_entry = w.at_entry; at_filter = w.at_filter }
  writes-simple (act.Poll q) = keeps
  writes-simple (act.Drain c) = keeps
  writes-simple (act.Reply a) = keeps
  writes-simple (act.Serve a) = keeps
  writes-simple (act.Ship t) = keeps
  writes-simple act.Sweep = keeps

-- ---- events in a row

last-cons : {X : Type 0} (o : Option X) (d : X) (xs : List X)
    → last_or (unwrap_or o d) xs ≡ last_or d (cons_option o xs)
last-cons (Some x) d xs = refl
last-cons None d xs = refl

pub entries_are_last_writes : (es : List Step) (m : Machine) (place : ℕ)
    → socket_at place (after_events es m)
    ≡ last_or (socket_at place m) (writes_of (socket_write place) es m)
entries_are_last_writes [] m place = refl
entries_are_last_writes (e ∷ es) m place =
    let more : List (Option ℕ) = writes_of (socket_write place) es (simple m e).0 in
    entries_are_last_writes es (simple m e).0 place
    ∙ ap (λ x. last_or x more) (writes-simple place m e).at_entry
    ∙ last-cons (socket_write place m e) (socket_at place m) more

pub filters_are_last_writes : (es : List Step) (m : Machine) (place : ℕ)
    → filter_at place (after_events es m)
    ≡ last_or (filter_at place m) (writes_of (filter_write place) es m)
filters_are_last_writes [] m place = refl
filters_are_last_writes (e ∷ es) m place =
    let more : List (Option Filter) = writes_of (filter_write place) es (simple m e).0 in
    filters_are_last_writes es (simple m e).0 place
    ∙ ap (λ x. last_or x more) (writes-simple place m e).at_filter
    ∙ last-cons (filter_write place m e) (filter_at place m) more

-- ---- any steps

events-append : (es : List Step) (m : Machine) (e : Step)
    → after_events (es ++ e ∷ []) m ≡ (simple (after_events es m) e).0
events-append [] m e = refl
events-append (x ∷ xs) m e = events-append xs (simple m x).0 e

-- a machine that some events lead to from this one
abbrev IsReached : Machine → Machine → Type 0
IsReached m n = (es : List Step) × (n ≡ after_events es m)

one-more : (m n : Machine) (e : Step) → IsReached m n → IsReached m (simple n e).0
one-more m n e r = (r.0 ++ e ∷ [], ap (λ k. (simple k e).0) r.1 ∙ sym (events-append r.0 m e))

pub steps_are_events : (ss : List Step) (m : Machine) → (es : List Step)
    × (after ss m ≡ after_events es m)
steps_are_events ss m = after-keeps (IsReached m) (one-more m) ss m ([], refl)

-- ---- the start

pub tables_start_unset : TablesStartUnset
tables_start_unset plan packets cut place =
    (no-rows (rounded_up plan.sock) place, no-filters plan.filters place)
