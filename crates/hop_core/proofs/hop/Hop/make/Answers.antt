use Rattle.std.proofs.Common.{map, ap, arith, ◌∙◌}
use Rattle.hop_core.specs.FlowTables.{new_tables}
use Rattle.hop_model.specs.Shape.{IsShape, classes_for}
use Rattle.hop_core.proofs.Wholes.{are_new, whole-made}
use Rattle.hop_core.proofs.hop.Hop.make.Goals as goal

pub invariant_of-result : goal.invariant_of-result
invariant_of-result c =
    let asked = c.requires in
    let is : IsShape c.args.shape = record {
      limit = asked.limit;
      room = asked.room;
      producers = asked.producers;
      few_producers = asked.few_producers;
      guests = asked.guests;
      lanes = asked.lanes;
      few_lanes = asked.few_lanes;
      outs = asked.outs;
      few_outs = asked.few_outs;
      counts = asked.counts;
      classes = asked.classes;
      start = let e = ap (λ t. t.start) (c.lanes.view_is ∙ c.in_ok-lanes.ensures) in
          let r = c.lanes.ranges in omega (arith, e, r);
    } in
    (whole-made c.args.shape is _
    (are_new c.args.shape _ _ _ _ _ _ _ _ _ _ _ _ _ _
    c.in_ok-rings.ensures.arrivals
    c.in_ok-rings.ensures.taken
    c.in_ok-rings.ensures.choices
    c.in_ok-rings.ensures.placed
    c.in_ok-rings.ensures.since
    c.in_ok-gate.ensures.visits
    (c.in_ok-counts.ensures ∙ ap (map (classes_for c.args.shape.exact)) c.deref-2.ensures.value)
    (c.in_ok-tables.ensures ∙ ap (λ counts. new_tables counts c.args.shape.start c.args.shape.exact)
    c.deref.ensures.value)
    c.in_ok-lanes.ensures
    c.in_ok-hands.ensures.delivered
    c.in_ok-hands.ensures.retired
    c.in_ok-outs.ensures
    c.in_ok-gate.ensures.inside
    c.in_ok-gate.ensures.closed)).0

pub returns : goal.returns
returns c =
    let asked = c.requires in
    let is : IsShape c.args.shape = record {
      limit = asked.limit;
      room = asked.room;
      producers = asked.producers;
      few_producers = asked.few_producers;
      guests = asked.guests;
      lanes = asked.lanes;
      few_lanes = asked.few_lanes;
      outs = asked.outs;
      few_outs = asked.few_outs;
      counts = asked.counts;
      classes = asked.classes;
      start = let e = ap (λ t. t.start) (c.lanes.view_is ∙ c.in_ok-lanes.ensures) in
          let r = c.lanes.ranges in omega (arith, e, r);
    } in
    (whole-made c.args.shape is _
    (are_new c.args.shape _ _ _ _ _ _ _ _ _ _ _ _ _ _
    c.in_ok-rings.ensures.arrivals
    c.in_ok-rings.ensures.taken
    c.in_ok-rings.ensures.choices
    c.in_ok-rings.ensures.placed
    c.in_ok-rings.ensures.since
    c.in_ok-gate.ensures.visits
    (c.in_ok-counts.ensures ∙ ap (map (classes_for c.args.shape.exact)) c.deref-2.ensures.value)
    (c.in_ok-tables.ensures ∙ ap (λ counts. new_tables counts c.args.shape.start c.args.shape.exact)
    c.deref.ensures.value)
    c.in_ok-lanes.ensures
    c.in_ok-hands.ensures.delivered
    c.in_ok-hands.ensures.retired
    c.in_ok-outs.ensures
    c.in_ok-gate.ensures.inside
    c.in_ok-gate.ensures.closed)).1
