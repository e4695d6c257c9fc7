-- A poller with an empty hand has chosen for a front of what arrived at its queue.
use Rattle.std.specs.List.{cons_option}
use Rattle.std.proofs.lemmas.List.Elements.{filter_map-append}
use Rattle.rtrb.specs.Ring.{received}
use Rattle.run_workers.specs.Records.Growth.{held}
use Rattle.run_workers.specs.Records.Polling.{packet_of_number, ring_packets}
use Rattle.run_crew.specs.ThreadLaws.{FrontsAreChosen}
use Rattle.run_crew.proofs.Names.{◌≡◌, ℕ, ◌<◌, List, [], ◌∷◌, ◌++◌, Some, None, All, map, sym, refl}
use Rattle.run_crew.proofs.Names.{ap, ◌∙◌, if◌then◌else◌, lt-ltb, All-head, All-tail, Chosen}
use Rattle.run_crew.proofs.Names.{arrivals_at}

-- numbers of packets all name packets
all-named : (room : ℕ) (xs : List ℕ) → All (λ x. x < room) xs → ring_packets room xs ≡ xs
all-named room [] all = refl
all-named room (x ∷ xs) all =
    let less = All-head (λ x. x < room) x xs all in
    ap (λ b. cons_option (if b then Some x else None) (ring_packets room xs)) (lt-ltb x room less)
    ∙ ap (λ ys. x ∷ ys) (all-named room xs (All-tail (λ x. x < room) x xs all))

append-none : {A : Type 0} (xs : List A) → xs ++ [] ≡ xs
append-none [] = refl
append-none (x ∷ xs) = ap (λ ys. x ∷ ys) (append-none xs)

pub fronts_are_chosen : FrontsAreChosen
fronts_are_chosen given first start p turns marks rx hints arrivals left x hand came low = (
  ring_packets p.choices.room left,
  ap (λ xs. xs ++ ring_packets p.choices.room left)
      (sym (append-none (map (λ (c : Chosen). c.id) p.choices.items))
      ∙ (ap (λ h. map (λ (c : Chosen). c.id) p.choices.items ++ held h) (sym hand) ∙ sym x.taken))
      ∙ (sym (filter_map-append (packet_of_number p.choices.room) (received p.ring) left)
      ∙ (ap (ring_packets p.choices.room) (sym came)
      ∙ all-named p.choices.room (arrivals_at arrivals p.queue) low)),
)
