-- All packets of a flow have one hash, by what a capture's packets are.
use Rattle.std.specs.Option.{option_map}
use Rattle.std.specs.Prelude.{if◌then◌else◌, unwrap_or}
use Rattle.std.proofs.lemmas.Bool.{eq-eqb, ne_eqb}
use Rattle.history.specs.Finding.{found}
use Rattle.history.specs.Lists.{packet_at}
use Rattle.run_coupling.specs.Coupling.Inputs.{FlowsHaveOneHash}
use Rattle.workers.proofs.Names.{◌≡◌, ◌≢◌, ◌⊎◌, inl, inr, ℕ, zero, suc, ◌<◌, List, [], ◌∷◌, Bool}
use Rattle.workers.proofs.Names.{Option, None, Some, length, sym, refl, ap, ◌∙◌, arith, cases_eq}
use Rattle.workers.proofs.Names.{Packet, Input, AreOfFlows}

abbrev flow : Packet → ℕ
flow packet = packet.flow_number

-- the packet that is found has the flow, and is one of these
first-of : (xs : List Packet) (n : ℕ) (x : ℕ) → x < length xs → flow (packet_at xs x) ≡ n
    → (y : ℕ) × (y < length xs) × (found flow n xs ≡ Some (packet_at xs y))
    × (flow (packet_at xs y) ≡ n)
first-of [] n x less is = absurd (omega (arith, less))
first-of (p ∷ ps) n zero less is = (
  0,
  omega arith,
  ap (λ (b : Bool). if b then Some p else found flow n ps) (eq-eqb n (flow p) (sym is)),
  is,
)
first-of (p ∷ ps) n (suc x) less is =
    by-head (cases_eq n (flow p)) (first-of ps n x (omega (arith, less)) is)
  where
    by-head : (n ≡ flow p) ⊎ (n ≢ flow p)
        → (y : ℕ) × (y < length ps) × (found flow n ps ≡ Some (packet_at ps y))
        × (flow (packet_at ps y) ≡ n)
        → (y : ℕ) × (y < length (p ∷ ps)) × (found flow n (p ∷ ps) ≡ Some (packet_at (p ∷ ps) y))
        × (flow (packet_at (p ∷ ps) y) ≡ n)
    by-head (inl same) rest = (
      0,
      omega arith,
      ap (λ (b : Bool). if b then Some p else found flow n ps) (eq-eqb n (flow p) same),
      sym same,
    )
    by-head (inr ne) rest =
        let l = rest.1 in (
          suc rest.0,
          omega (arith, l),
          ap (λ (b : Bool). if b then Some p else found flow n ps) (ne_eqb n (flow p) ne)
              ∙ rest.2,
          rest.3,
        )

pub one-hash : (i : Input) → AreOfFlows i.packets → FlowsHaveOneHash i
one-hash i are x less =
    let first = first-of i.packets (flow (packet_at i.packets x)) x less refl in
    ap (λ (o : Option Packet). unwrap_or (option_map (λ (p : Packet). p.hash) o) None) first.2
    ∙ are.one_hash first.0 x first.1 less first.3
