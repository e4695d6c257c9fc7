-- The last note of an entry is what a hash finds there.
use Rattle.std.proofs.Common.{ℕ, ◌<◌, ◌≡◌, ◌%◌, true, false, cond, List, [], ◌∷◌, Option, Some}
use Rattle.std.proofs.Common.{None, length, set, refl, ap, sym, ◌∙◌, inl, inr}
use Rattle.std.specs.Prelude.{nat_lt, slice_index_or, ◌==◌, map, filter}
use Rattle.std.specs.List.{fold}
use Rattle.std.proofs.lemmas.List.{length-set, length-replicate, get_or-set_same, get_or-set_other}
use Rattle.std.proofs.lemmas.List.{get_or-replicate}
use Rattle.std.proofs.lemmas.Bool.{cases_Bool, cases_eq, ne_eqb, eq-eqb, ltb-true}
use Rattle.std.proofs.Math.Nat.{mod-lt}
use Rattle.steer_base.specs.Choices.{class_of}
use Rattle.steer_base.specs.Entries.{last_or}
use Rattle.steer_base.specs.HashTables.{row_at}
use Rattle.sock_flow_table.specs.Sockets.{Note, wanted, noted, unset, after_notes, last_noted}
use Rattle.sock_flow_table.specs.Sockets.{share_entry}

length-noted : (entries : List (Option ℕ)) (hash cpu : ℕ)
    → length (noted entries hash cpu) ≡ length entries
length-noted entries hash cpu =
    elim (cases_Bool (nat_lt 0 (length entries))) [
      | inl some ↦ rw some (length-set entries (hash % length entries) (Some cpu))
      | inr none ↦ rw none refl
    ]

written : (entries : List (Option ℕ)) (i cpu j : ℕ) → j < length entries
    → slice_index_or (set entries i (Some cpu)) j None ≡ cond (i == j) (Some cpu)
    (slice_index_or entries j None)
written entries i cpu j in' =
    elim (cases_eq i j) [
      | inl e ↦ rw (eq-eqb i j e, e) (get_or-set_same entries j (Some cpu) None in')
      | inr ne ↦ rw (ne_eqb i j ne) (get_or-set_other entries i j (Some cpu) None λ e. ne (sym e))
    ]

wanted-noted : (entries : List (Option ℕ)) (a cpu b : ℕ)
    → wanted (noted entries a cpu) b ≡ cond (share_entry (length entries) a b) (Some cpu)
    (wanted entries b)
wanted-noted entries a cpu b =
    ap (λ k. row_at None (noted entries a cpu) (class_of k (Some b))) (length-noted entries a cpu)
    ∙ elim (cases_Bool (nat_lt 0 (length entries))) [
      | inl some ↦ rw some (written entries (a % length entries) cpu (b % length entries)
          (mod-lt b (ltb-true 0 (length entries) some)))
      | inr none ↦ rw none refl
    ]

found-from : (size : ℕ) (hash : ℕ) (notes : List Note) (entries : List (Option ℕ))
    → length entries ≡ size
    → wanted (fold (λ table note. noted table note.hash note.cpu) entries notes) hash
    ≡ last_or (wanted entries hash) (map (λ note. Some note.cpu)
    (filter (λ note. share_entry size note.hash hash) notes))
found-from size hash [] entries long = refl
found-from size hash (n ∷ ns) entries long =
    found-from size hash ns (noted entries n.hash n.cpu) (length-noted entries n.hash n.cpu ∙ long)
    ∙ ap (λ w. last_or w (map (λ note. Some note.cpu)
    (filter (λ note. share_entry size note.hash hash) ns)))
    (wanted-noted entries n.hash n.cpu hash)
    ∙ ap (λ k. last_or (cond (share_entry k n.hash hash) (Some n.cpu) (wanted entries hash))
    (map (λ note. Some note.cpu) (filter (λ note. share_entry size note.hash hash) ns))) long
    ∙ elim (share_entry size n.hash hash) as
    (λ b. last_or (cond b (Some n.cpu) (wanted entries hash)) (map (λ note. Some note.cpu)
    (filter (λ note. share_entry size note.hash hash) ns))
    ≡ last_or (wanted entries hash) (map (λ note. Some note.cpu)
    (cond b (n ∷ filter (λ note. share_entry size note.hash hash) ns)
    (filter (λ note. share_entry size note.hash hash) ns)))) [
      | true ↦ refl
      | false ↦ refl
    ]

wanted-unset : (size hash : ℕ) → wanted (unset size) hash ≡ None
wanted-unset size hash =
    ap (λ k. row_at None (unset size) (class_of k (Some hash))) (length-replicate size None)
    ∙ elim (cases_Bool (nat_lt 0 size)) [
      | inl some ↦ rw some (get_or-replicate size (hash % size) None None
          (mod-lt hash (ltb-true 0 size some)))
      | inr none ↦ rw none refl
    ]

pub found : (size : ℕ) (notes : List Note) (hash : ℕ)
    → wanted (after_notes size notes) hash ≡ last_noted size notes hash
found size notes hash =
    found-from size hash notes (unset size) (length-replicate size None)
    ∙ ap (λ w. last_or w (map (λ note. Some note.cpu)
    (filter (λ note. share_entry size note.hash hash) notes))) (wanted-unset size hash)
