-- Entering the levels of a packet one by one.
use Rattle.std.proofs.Common.{◌≡◌, ◌<◌, ℕ, zero, suc, ◌+◌, ◌-◌, List, Some, None, ap, ◌∙◌, arith}
use Rattle.flow_dissector.specs.Carried.{Carried}
use Rattle.flow_dissector.specs.Frame.{ip_flow}
use Rattle.tunnel_dissector.specs.declared.inner.Inner.{Inner}
use Rattle.tunnel_dissector.specs.Levels.{entered}
use Rattle.tunnel_dissector.specs.Inner.{deepest}

-- what was found so many levels below
abbrev pub deeper : ℕ → Inner → Inner
deeper depth inner = record { flow = inner.flow; depth = inner.depth + depth }

-- so many levels below, with so many left, stands what the whole packet has
pub record Entered (depth left kind : ℕ) (packet : List ℕ) (whole_kind : ℕ)
    (whole : List ℕ) : Type 0 where
  pub found : deeper depth (deepest left kind packet) ≡ deepest 4 whole_kind whole

pub entered_none : (kind : ℕ) (packet : List ℕ) → Entered 0 4 kind packet kind packet
entered_none kind packet =
    let d = deepest 4 kind packet in
    let same : d.depth + 0 ≡ d.depth = omega arith in
    record { found = ap (λ n. let i : Inner = record { flow = d.flow; depth = n } in i) same }

-- no level more is entered
pub stays : (depth left kind : ℕ) (packet : List ℕ) (whole_kind : ℕ) (whole : List ℕ)
    → Entered depth left kind packet whole_kind whole → entered kind packet ≡ None
    → (let i : Inner = record { flow = ip_flow kind packet; depth = depth } in
    i) ≡ deepest 4 whole_kind whole
unfolding deepest
stays depth zero kind packet whole_kind whole e none =
    ap (λ n. let i : Inner = record { flow = ip_flow kind packet; depth = n } in i)
    (let zero_more : depth ≡ 0 + depth = omega arith in zero_more) ∙ e.found
stays depth (suc left) kind packet whole_kind whole e none =
    ap (λ n. let i : Inner = record { flow = ip_flow kind packet; depth = n } in i)
    (let zero_more : depth ≡ 0 + depth = omega arith in zero_more)
    ∙ (rw none at e.found)

-- no level more may be entered
pub stays_here : (depth left kind : ℕ) (packet : List ℕ) (whole_kind : ℕ) (whole : List ℕ)
    → left ≡ 0 → Entered depth left kind packet whole_kind whole
    → (let i : Inner = record { flow = ip_flow kind packet; depth = depth } in
    i) ≡ deepest 4 whole_kind whole
unfolding deepest
stays_here depth zero kind packet whole_kind whole none e =
    ap (λ n. let i : Inner = record { flow = ip_flow kind packet; depth = n } in i)
    (let zero_more : depth ≡ 0 + depth = omega arith in zero_more) ∙ e.found
stays_here depth (suc left) kind packet whole_kind whole none e = absurd (omega (arith, none))

-- one level more is entered
pub enters : (depth left kind : ℕ) (packet : List ℕ) (whole_kind : ℕ) (whole : List ℕ)
    (level : Carried) → 0 < left → Entered depth left kind packet whole_kind whole
    → entered kind packet ≡ Some level → Entered (depth + 1)
    (left - 1) level.kind level.bytes whole_kind whole
unfolding deepest
enters depth zero kind packet whole_kind whole level some e is = absurd (omega arith)
enters depth (suc left) kind packet whole_kind whole level some e is =
    let d = deepest left level.kind level.bytes in
    let same : d.depth + (depth + 1) ≡ (d.depth + 1) + depth = omega arith in
    let less : suc left - 1 ≡ left = omega arith in
    rw less (record {
      found = ap (λ n. let i : Inner = record { flow = d.flow; depth = n } in
          i) same ∙ (rw is at e.found);
    })
