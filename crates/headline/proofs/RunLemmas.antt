-- A run goes on from event to event: what had its moment keeps it, and what an event does has its
-- moment there.
use Rattle.std.proofs.Common.{ℕ, ◌+◌, ◌≤◌, ◌<◌, ◌≡◌, List, [], ◌∷◌, ◌++◌, Option, Some, None}
use Rattle.std.proofs.Common.{length, take, drop, refl, ap, ◌∙◌, sym, subst, arith, zero, suc}
use Rattle.std.proofs.Math.Seq.{take-length}
use Rattle.std.proofs.lemmas.List.{length_push, take-append-le, take_all}
use Rattle.hop_model.specs.Hop.{pulled_at}
use Rattle.steer_base.specs.Entries.{last_or}
use Rattle.steer_base.specs.HashTables.{place_in_rows, row_at}
use Rattle.steer_base.specs.declared.step.Step.{Step}
use Rattle.steer_model.specs.Good.Inputs.{Input}
use Rattle.step_laws.specs.Origins.TableWrites.{after_events, socket_at, socket_write, writes_of}
use Rattle.steer_model.specs.State.Machine.{Machine}
use Rattle.steer_model.specs.State.Settings.{class_at}
use Rattle.steer_model.specs.State.Setup.{packet_hash}
use Rattle.steer_model.specs.Steps.Pollers.{seen_by, socket_seen}
use Rattle.steer_model.specs.Steps.SingleSteps.{simple}
use Rattle.step_laws.proofs.Origins.TableWriteLemmas.{entries_are_last_writes}
use Rattle.step_laws.proofs.Origins.TableWriteLemmas.{tables_start_unset}
use Rattle.steer_properties.proofs.Histories.PutKindLemmas.{pulled-rises}
use Rattle.headline.specs.Moments.{Moment, last_want, left_for, start_of, state_at}

-- ---- one event more

pub events-push : (ss : List Step) (s : Step) (m : Machine)
    → after_events (ss ++ s ∷ []) m ≡ (simple (after_events ss m) s).0
events-push [] s m = refl
events-push (t ∷ ss) s m = events-push ss s (simple m t).0

-- the run goes on by one event, from one state to the next
pub record GoesOn (i : Input) (es fs : List Step) (m n : Machine) : Type 0 where
  pub longer : length fs ≡ length es + 1
  pub prefix : (k : ℕ) → k ≤ length es → take k fs ≡ take k es
  pub here : state_at i fs (length es) ≡ m
  pub there : state_at i fs (length es + 1) ≡ n

pub comes-to : (i : Input) (es : List Step) (s : Step) (m : Machine)
    → after_events es (start_of i) ≡ m → after_events (es ++ s ∷ []) (start_of i) ≡ (simple m s).0
comes-to i es s m to = events-push es s (start_of i) ∙ ap (λ t. (simple t s).0) to

pub goes-on : (i : Input) (es : List Step) (s : Step) (m : Machine)
    → after_events es (start_of i) ≡ m → GoesOn i es (es ++ s ∷ []) m (simple m s).0
goes-on i es s m to =
    let fs : List Step = es ++ s ∷ [] in
    let long : length fs ≡ length es + 1 = length_push es s in
    let front : (k : ℕ) → k ≤ length es → take k fs ≡ take k es =
    λ k le. take-append-le k es (s ∷ []) le in
    let all : take (length es + 1) fs ≡ fs = take_all (length es + 1) fs (omega (arith, long)) in
    record {
      longer = long;
      prefix = front;
      here = ap (λ l. after_events l (start_of i))
          (front (length es) (omega arith) ∙ take-length es)
          ∙ to;
      there = ap (λ l. after_events l (start_of i)) all ∙ comes-to i es s m to;
    }

module _ (i : Input) (es fs : List Step) (m n : Machine) (go : GoesOn i es fs m n) where
  pub state-before : (k : ℕ) → k ≤ length es → state_at i fs k ≡ state_at i es k
  state-before k le = ap (λ l. after_events l (start_of i)) (go.prefix k le)

  -- what led from a state to the next still does
  pub did-before : (Did : Machine → Machine → Type 0) (k : ℕ) → k < length es
      → Did (state_at i es k) (state_at i es (k + 1))
      → Did (state_at i fs k) (state_at i fs (k + 1))
  did-before Did k lt did =
      let a : state_at i fs k ≡ state_at i es k = state-before k (omega (arith, lt)) in
      let b : state_at i fs (k + 1) ≡ state_at i es (k + 1) =
      state-before (k + 1) (omega (arith, lt)) in
      subst (λ x. Did x (state_at i fs (k + 1))) (sym a)
      (subst (λ y. Did (state_at i es k) y) (sym b) did)

  -- what the event does leads from its state to the next
  pub did-now : (Did : Machine → Machine → Type 0) → Did m n
      → Did (state_at i fs (length es)) (state_at i fs (length es + 1))
  did-now Did did =
      subst (λ x. Did x (state_at i fs (length es + 1))) (sym go.here)
      (subst (λ y. Did m y) (sym go.there) did)

  pub moment-later : (Did : Machine → Machine → Type 0) → Moment i es Did → Moment i fs Did
  moment-later Did w =
      let lt = w.within in let long = go.longer in
      record {
        before = w.before;
        within = omega (arith, lt, long);
        did = did-before Did w.before lt w.did;
      }

  pub moment-now : (Did : Machine → Machine → Type 0) → Did m n → Moment i fs Did
  moment-now Did did =
      let long = go.longer in
      record { before = length es; within = omega (arith, long); did = did-now Did did }

-- ---- the last write

-- what a packet with this class and hash sees in the table is what was last left there
left-at : (i : Input) (es : List Step) (m : Machine) → after_events es (start_of i) ≡ m
    → (class : ℕ) (place : Option ℕ) → row_at None m.socket place ≡ left_for i es (Some class) place
left-at i es m to class None = refl
left-at i es m to class (Some place) =
    ap (socket_at place) (sym to) ∙ entries_are_last_writes es (start_of i) place
    ∙ ap (λ d. last_or d (writes_of (socket_write place) es (start_of i)))
    (tables_start_unset i.plan i.packets i.cut place).0

left-is : (i : Input) (es : List Step) (m : Machine) → after_events es (start_of i) ≡ m
    → (class hash : Option ℕ)
    → socket_seen m.socket class hash ≡ left_for i es class (place_in_rows m.socket hash)
left-is i es m to (Some class) (Some hash) =
    left-at i es m to class (place_in_rows m.socket (Some hash))
left-is i es m to (Some class) None = refl
left-is i es m to None hash = refl

-- so it is with what a poller saw
pub seen-is-last : (i : Input) (es : List Step) (n q x : ℕ)
    → seen_by (state_at i es n) q x ≡ last_want i es n q x
seen-is-last i es n q x =
    let m : Machine = state_at i es n in
    left-is i (take n es) m refl (class_at m.setup m.settings q x) (packet_hash m.setup x)

-- ---- from a state of the run to its end

pub events-split : (n : ℕ) (es : List Step) (m : Machine)
    → after_events es m ≡ after_events (drop n es) (after_events (take n es) m)
events-split zero es m = refl
events-split (suc n) [] m = refl
events-split (suc n) (e ∷ es) m = events-split n es (simple m e).0

-- what a processor has pulled only rises
pub pulled-after : (es : List Step) (m : Machine) (c : ℕ)
    → pulled_at m.rx.bare c ≤ pulled_at (after_events es m).rx.bare c
pulled-after [] m c = omega arith
pulled-after (e ∷ es) m c =
    let one = pulled-rises m e c in
    let rest = pulled-after es (simple m e).0 c in
    omega (arith, one, rest)
