use Rattle.std.proofs.Common.{ℕ, ◌≡◌, ◌≤◌, ◌<◌, ◌-◌, ◌∙◌, Some, None, ap, arith, length, map}
use Rattle.std.proofs.Common.{subst, sym}
use Rattle.std.specs.Prelude.{slice_set}
use Rattle.history.specs.Lists.{list_at}
use Rattle.report_reader.specs.Slots.{place_for}
use Rattle.report_reader.proofs.PlacesLemmas.{put-same, put-set}
use Rattle.report_reader.proofs.shelf.Places.put.Goals as goal

pub returns-clause-set : goal.returns-clause-set
returns-clause-set c =
    subst (λ xs. (n p : ℕ) → n < length xs → place_for n c.args.slot ≡ Some p → 0 < p
    → p ≤ length (list_at xs n)
    → list_at (map (λ list. list.items) (slice_set c.self.inside.lists.items c.from-list.result
    c.put_at.new.ids)) n ≡ slice_set (list_at xs n) (p - 1) c.args.id) c.self.view_is
    (λ n p l h a b. put-set (λ list. list.items) c.self.inside.lists.items c.from-list.result
    c.args.id c.index_mut.result.now c.put_at.new.ids c.in-Some.slot c.from-list.ensures
    (omega (arith, c.if-list-len.false, c.len.ensures)) c.index_mut.ensures.value
    c.put_at.ensures n p (ap (place_for n) (sym c.in-Some.is) ∙ h) a b)

pub returns-clause-same : goal.returns-clause-same
returns-clause-same c =
    subst (λ xs. (n : ℕ) → place_for n c.args.slot ≡ None
    → list_at (map (λ list. list.items) (slice_set c.self.inside.lists.items c.from-list.result
    c.put_at.new.ids)) n ≡ list_at xs n) c.self.view_is
    (λ n h. put-same (λ list. list.items) c.self.inside.lists.items c.from-list.result
    c.args.id c.index_mut.result.now c.put_at.new.ids c.in-Some.slot c.from-list.ensures
    (omega (arith, c.if-list-len.false, c.len.ensures)) c.index_mut.ensures.value
    c.put_at.ensures n (ap (place_for n) (sym c.in-Some.is) ∙ h))
