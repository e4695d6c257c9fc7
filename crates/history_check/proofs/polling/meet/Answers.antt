use Rattle.std.proofs.Common.{◌+◌, ◌≡◌, ◌<◌, ◌≢◌, [], ◌∙◌, ap, arith, get_or, length, set}
use Rattle.std.proofs.Common.{subst, sym}
use Rattle.std.specs.Prelude.{slice_index}
use Rattle.std.proofs.lemmas.Grind.{get_or_default_zero}
use Rattle.std.proofs.lemmas.List.{get_or-map, get_or_default, length-map}
use Rattle.history.specs.Lists.{list_at}
use Rattle.history_check.specs.Meeting.{AreMet, chosen_ids}
use Rattle.history_check.proofs.MeetingLemmas.{met-next, met-other}
use Rattle.history_check.proofs.polling.meet.Goals as goal

pub returns-then-ne-clause-no : goal.returns-then-ne-clause-no
returns-then-ne-clause-no c = λ f i at are.
    let h = c.args.h.now in
    let met = c.args.met.now.items in
    let q = c.args.queue in
    let there : q < length met = omega (arith, c.if-queue-len.false, c.len.ensures) in
    let choices : c.as_slice-choices.result.now ≡ list_at h.choices q =
    c.as_slice-choices.ensures ∙ c.get.ensures
    ∙ get_or_default h.choices q c.get.result.now [] (omega (arith, there, c.requires)) in
    let next : c.index-next.result.now ≡ slice_index met q =
    c.index-next.ensures ∙ get_or_default_zero met q c.index-next.result.now there in
    let few : slice_index met q < length (list_at h.choices q) =
    omega (arith, c.if-next-choices.false, next, ap length choices) in
    let left : slice_index met q < length (chosen_ids h q) =
    omega (arith, few, length-map (list_at h.choices q) (λ c. c.id)) in
    let is : get_or (chosen_ids h q) (slice_index met q) 0 ≡ c.index-choices-next.result.id =
    get_or-map (λ c. c.id) (list_at h.choices q) (slice_index met q) c.index-choices-next.result 0
    few
    ∙ ap (λ n. (get_or (list_at h.choices q) n c.index-choices-next.result).id) (sym next)
    ∙ ap (λ xs. (get_or xs c.index-next.result.now c.index-choices-next.result).id) (sym choices)
    ∙ ap (λ c. c.id) (sym c.index-choices-next.is) in
    let differ : get_or (chosen_ids h q) (slice_index met q) 0 ≢ c.args.id = λ e.
    let same : c.index-choices-next.result.id ≡ c.args.id = sym is ∙ e in grind arith in
    met-other h i q c.args.id met at are there (omega (arith, c.requires)) left differ

pub returns-clause-yes : goal.returns-clause-yes
returns-clause-yes c = λ t i at are.
    let h = c.args.h.now in
    let met = c.args.met.now.items in
    let q = c.args.queue in
    let there : q < length met = omega (arith, c.if-queue-len.false, c.len.ensures) in
    let choices : c.as_slice-choices.result.now ≡ list_at h.choices q =
    c.as_slice-choices.ensures ∙ c.get.ensures
    ∙ get_or_default h.choices q c.get.result.now [] (omega (arith, there, c.requires)) in
    let next : c.index-next.result.now ≡ slice_index met q =
    c.index-next.ensures ∙ get_or_default_zero met q c.index-next.result.now there in
    let few : slice_index met q < length (list_at h.choices q) =
    omega (arith, c.if-next-choices.false, next, ap length choices) in
    let left : slice_index met q < length (chosen_ids h q) =
    omega (arith, few, length-map (list_at h.choices q) (λ c. c.id)) in
    let is : get_or (chosen_ids h q) (slice_index met q) 0 ≡ c.index-choices-next.result.id =
    get_or-map (λ c. c.id) (list_at h.choices q) (slice_index met q) c.index-choices-next.result 0
    few
    ∙ ap (λ n. (get_or (list_at h.choices q) n c.index-choices-next.result).id) (sym next)
    ∙ ap (λ xs. (get_or xs c.index-next.result.now c.index-choices-next.result).id) (sym choices)
    ∙ ap (λ c. c.id) (sym c.index-choices-next.is) in
    let same : c.index-choices-next.result.id ≡ c.args.id = grind arith in
    subst (λ n. AreMet h (i + 1) (set met q (n + 1))) (sym next)
    (met-next h i q c.args.id met at are there left (is ∙ same))
