-- The head that a choice keeps is the only one that decides it.
use Rattle.std.proofs.Common.{ℕ, ◌≡◌, Bool, true, false, not, cond, Option, Some, None, refl, ap}
use Rattle.std.proofs.Common.{◌∙◌, sym}
use Rattle.std.specs.Prelude.{◌==◌, unwrap_or}
use Rattle.steer_base.specs.Choices.{by_entry}
use Rattle.steer_base.specs.Counters.{has_reached}
use Rattle.steer_base.specs.declared.choice.Choice.{Choice}
use Rattle.steer_base.specs.declared.choice.Why.TheVariants.{Kept, Offline, Passed, Same}
use Rattle.hop_core.specs.Laws.{KeptHeadDecides}

-- the choice of a class by whether its lane is the desired one and whether it is offline, over the
-- head of that lane
abbrev by_head : ℕ → Option ℕ → ℕ → ℕ → ℕ → Bool → Bool → ℕ → Choice
by_head k want desired tail current same off head =
    cond same (record {
      class = Some k;
      want = want;
      head = None;
      tail = Some tail;
      lane = current;
      why = Same;
    })
    (cond off (record {
      class = Some k;
      want = want;
      head = None;
      tail = Some tail;
      lane = desired;
      why = Offline;
    })
    (cond (has_reached head tail 0) (record {
      class = Some k;
      want = want;
      head = Some head;
      tail = Some tail;
      lane = desired;
      why = Passed;
    })
    (record {
      class = Some k;
      want = want;
      head = Some head;
      tail = Some tail;
      lane = current;
      why = Kept;
    })))

-- either choice keeps the head
head_kept : (k : ℕ) (want : Option ℕ) (desired tail current head : ℕ) (reached : Bool)
    → unwrap_or (cond {A = Choice} reached (record {
      class = Some k;
      want = want;
      head = Some head;
      tail = Some tail;
      lane = desired;
      why = Passed;
    })
    (record {
      class = Some k;
      want = want;
      head = Some head;
      tail = Some tail;
      lane = current;
      why = Kept;
    })).head 0 ≡ head
head_kept k want desired tail current head true = refl
head_kept k want desired tail current head false = refl

by_head-kept : (k : ℕ) (want : Option ℕ) (desired tail current : ℕ) (same off : Bool) (head : ℕ)
    → by_head k want desired tail current same off head
    ≡ by_head k want desired tail current same off
    (unwrap_or (by_head k want desired tail current same off head).head 0)
by_head-kept k want desired tail current true off head = refl
by_head-kept k want desired tail current false true head = refl
by_head-kept k want desired tail current false false head =
    sym (ap (by_head k want desired tail current false false)
    (head_kept k want desired tail current head (has_reached head tail 0)))

by_entry-kept : (k : ℕ) (want : Option ℕ) (desired tail : ℕ) (head : ℕ → ℕ) (online : ℕ → Bool)
    (lane : Option ℕ)
    → by_entry k want desired tail head online lane
    ≡ by_entry k want desired tail
    (λ l. unwrap_or (by_entry k want desired tail head online lane).head 0) online lane
by_entry-kept k want desired tail head online None = refl
by_entry-kept k want desired tail head online (Some current) =
    by_head-kept k want desired tail current (current == desired) (not (online current))
    (head current)

pub kept_head_decides : KeptHeadDecides
kept_head_decides None want desired entries head online c is = is
kept_head_decides (Some k) want desired entries head online c is =
    is ∙ by_entry-kept k want desired (entries k).tail head online (entries k).lane
    ∙ ap (λ d. by_entry k want desired (entries k).tail (λ l. unwrap_or d.head 0) online
    (entries k).lane) (sym is)
