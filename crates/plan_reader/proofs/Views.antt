-- What a list of values stands for.
use Rattle.std.proofs.Common.{◌≡◌, ℕ, suc, ◌+◌, ◌<◌, List, length, drop, get_or, refl, sym, ap, ◌∙◌}
use Rattle.std.proofs.Common.{add-one, drop-cons}
use Rattle.serde_json.proofs.Views.{items_len-items_view}
use Rattle.serde_json.specs.Data.{item}
use Rattle.serde_json.specs.View.{view, items_view}
use Rattle.serde_json.specs.declared.value.Value.{Value}

pub ruleset lens = (items_len-items_view)

-- the next value, and those that are left
pub items_view-drop : (values : List Value) (i : ℕ) (value : Value) → i < length values
    → value ≡ get_or values i value
    → items_view (drop i values) ≡ item (view value) (items_view (drop (i + 1) values))
items_view-drop values i value h e =
    ap items_view (drop-cons values i value h)
    ∙ ap (λ (v : Value). item (view v) (items_view (drop (suc i) values))) (sym e)
    ∙ (rw (add-one i) refl)
