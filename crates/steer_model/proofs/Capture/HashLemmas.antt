-- The table of the hashes of flows, packet by packet.
use Rattle.std.proofs.Common.{ℕ, ◌+◌, ◌<◌, ◌≡◌, Bool, true, false, List, [], ◌∷◌, ◌++◌, Option}
use Rattle.std.proofs.Common.{Some, None}
use Rattle.std.proofs.Common.{suc, zero, length, refl, ap, ◌∙◌, sym, subst, arith, take, get_or}
use Rattle.std.proofs.Common.{replicate, inl, inr}
use Rattle.std.specs.Prelude.{◌==◌, if◌then◌else◌}
use Rattle.std.specs.Option.{option_map}
use Rattle.std.proofs.lemmas.Bool.{cases_eq, ne_eqb, eq-eqb}
use Rattle.std.proofs.lemmas.List.{get_or-set_same, get_or-set_other, get_or_default, take_more}
use Rattle.history.specs.Lists.{no_packet}
use Rattle.steer_base.specs.declared.packet.Packet.{Packet}
use Rattle.steer_model.specs.State.Ranges.{AreFlowHashes, AreOfFlows, hash_or, with_hash}
use Rattle.steer_model.specs.State.Setup.{hash_of_flow_number}

-- the hash of a flow after a packet more, where the packet is of the flow or not
abbrev hash_after : Option (Option ℕ) → Bool → Packet → Option (Option ℕ)
hash_after (Some hash) own x = Some hash
hash_after None true x = Some x.hash
hash_after None false x = None

own-hash : (b : Bool) (x : Packet)
    → option_map (λ (p : Packet). p.hash) (if b then Some x else None) ≡ hash_after None b x
own-hash true x = refl
own-hash false x = refl

later-hash : (b own : Bool) (y x : Packet) (rest more : Option Packet)
    → option_map (λ (p : Packet). p.hash) more
    ≡ hash_after (option_map (λ (p : Packet). p.hash) rest) own x
    → option_map (λ (p : Packet). p.hash) (if b then Some y else more)
    ≡ hash_after (option_map (λ (p : Packet). p.hash) (if b then Some y else rest)) own x
later-hash true own y x rest more same = refl
later-hash false own y x rest more same = same

hash_of_flow-append : (xs : List Packet) (x : Packet) (flow : ℕ)
    → hash_of_flow_number (xs ++ x ∷ []) flow ≡ hash_after (hash_of_flow_number xs flow)
    (flow == x.flow_number) x
hash_of_flow-append [] x flow = own-hash (flow == x.flow_number) x
hash_of_flow-append (y ∷ ys) x flow =
    later-hash (flow == y.flow_number) (flow == x.flow_number) y x _ _
    (hash_of_flow-append ys x flow)

hash_after-own : (h : Option (Option ℕ)) (x : Packet) → hash_or h x.hash ≡ hash_after h true x
hash_after-own (Some hash) x = refl
hash_after-own None x = refl

hash_after-other : (h : Option (Option ℕ)) (x : Packet) → h ≡ hash_after h false x
hash_after-other (Some hash) x = refl
hash_after-other None x = refl

-- the table with the hash of a packet more
pub hashes-more : (xs : List Packet) (hashes : List (Option (Option ℕ))) (x : Packet)
    → x.flow_number < length hashes → AreFlowHashes xs hashes
    → AreFlowHashes (xs ++ x ∷ []) (with_hash hashes x)
hashes-more xs hashes x lt table flow =
    let n = x.flow_number in
    let v = hash_or (get_or hashes n None) x.hash in
    elim (cases_eq flow n) [
      | inl e ↦
          rw e
          (get_or-set_same hashes n v None lt ∙ ap (λ h. hash_or h x.hash) (table n)
          ∙ hash_after-own (hash_of_flow_number xs n) x
          ∙ ap (λ b. hash_after (hash_of_flow_number xs n) b x) (sym (eq-eqb n n refl))
          ∙ sym (hash_of_flow-append xs x n))
      | inr ne ↦
          get_or-set_other hashes n flow v None ne ∙ table flow
          ∙ hash_after-other (hash_of_flow_number xs flow) x
          ∙ ap (λ b. hash_after (hash_of_flow_number xs flow) b x) (sym (ne_eqb flow n ne))
          ∙ sym (hash_of_flow-append xs x flow)
    ]

pub hashes-next : (packets : List Packet) (i : ℕ) (d : Packet)
    (hashes new : List (Option (Option ℕ)))
    → i < length packets → length hashes ≡ length packets → AreOfFlows packets
    → AreFlowHashes (take i packets) hashes → new ≡ with_hash hashes (get_or packets i d)
    → AreFlowHashes (take (i + 1) packets) new
hashes-next packets i d hashes new lt many flows table is =
    let x : Packet = get_or packets i d in
    let same : x ≡ get_or packets i no_packet = get_or_default packets i d no_packet lt in
    let below : (get_or packets i no_packet).flow_number < length packets = flows.below i lt in
    let within : x.flow_number < length hashes =
    subst (λ (p : Packet). p.flow_number < length hashes) (sym same) (omega arith) in
    subst (λ hs. AreFlowHashes (take (i + 1) packets) hs) (sym is)
    (subst (λ xs. AreFlowHashes xs (with_hash hashes x)) (sym (take_more packets i d lt))
    (hashes-more (take i packets) hashes x within table))

-- a table of nothing, for no packets
pub hashes_none : (n : ℕ) → AreFlowHashes [] (replicate n None)
hashes_none zero flow = refl
hashes_none (suc n) zero = refl
hashes_none (suc n) (suc flow) = hashes_none n flow
