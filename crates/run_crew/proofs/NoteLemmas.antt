-- What an application noted was for the packets that it took, in their order.
use Rattle.std.proofs.lemmas.Bool.{leb-true}
use Rattle.run_coupling.specs.Coupling.Hints.{WasRead}
use Rattle.run_workers.specs.Records.Replying.{HasReadInside, HasStood, HasWritten, HasWrittenAll}
use Rattle.run_crew.specs.ApplicationCoupling.{AreMadeFor, IsNoteFor}
use Rattle.run_crew.proofs.Names.{◌≡◌, inl, inr, ℕ, zero, suc, ◌*◌, ◌%◌, ◌<◌, ◌≤◌, List, [], ◌∷◌}
use Rattle.run_crew.proofs.Names.{Option, Some, None, length, map, sym, refl, ◌∙◌, subst, arith}
use Rattle.run_crew.proofs.Names.{nat_le, nat_lt, slice_get, unwrap_or, option_map, cases_Bool}
use Rattle.run_crew.proofs.Names.{ltb-true, slice_get-map, SeatView, class_of, MAX_SOCKET_SIZE}
use Rattle.run_crew.proofs.Names.{History, Sent, HintStep, BoardStep, none-some, some-is, Input}
use Rattle.run_crew.proofs.Names.{setup_in, packet_hash, HintCodes, place_in, socket_size_in, Note}
use Rattle.run_crew.proofs.WithinLemmas.{place-within}

-- ---- places and entries

pub class_below : (count : ℕ) (hash : Option ℕ) (k : ℕ) → class_of count hash ≡ Some k
    → k < count
class_below count None k is = none-some k is
class_below count (Some hash) k is = elim (cases_Bool (nat_lt 0 count)) [
  | inl some ↦
      let e : Some (hash % count) ≡ Some k = rw some at is in
      let n : hash % count ≡ k = some-is (hash % count) k e in
      let l = ltb-true 0 count some in
      omega (arith, n, l)
  | inr none ↦ absurd (let e : None ≡ Some k = rw none at is in cc)
]

size_within : (size : ℕ) → socket_size_in size ≤ MAX_SOCKET_SIZE
size_within size = elim (cases_Bool (nat_le size MAX_SOCKET_SIZE)) [
  | inl less ↦ rw less (leb-true size MAX_SOCKET_SIZE less)
  | inr more ↦ rw more (omega arith)
]

-- a size that is not 0 is within its range
size_in : (size : ℕ) → 0 < socket_size_in size → socket_size_in size ≡ size
size_in size some = elim (cases_Bool (nat_le size MAX_SOCKET_SIZE)) [
  | inl less ↦ rw less refl
  | inr more ↦ absurd (let none : 0 < 0 = rw more at some in omega (arith, none))
]

-- ---- the packet of each note

-- The note is of the k-th of these packets, by a size that was read.
record IsNoteOf (i : Input) (rx : List BoardStep) (ids : List ℕ) (k : ℕ) (note : Note)
    : Type 0 where
  packet : slice_get ids k ≡ Some note.packet
  size : ℕ
  read : HasReadInside rx (2 * length (setup_in i).homes) size
  entry : class_of size (packet_hash (setup_in i) note.packet) ≡ Some note.write.entry
  entry_within : note.write.entry < MAX_SOCKET_SIZE
  cpu_within : note.write.cpu < i.plan.cpus

-- Each note is of another packet, in their order.
record AreNotesOf (i : Input) (rx : List BoardStep) (ids : List ℕ) (notes : List Note)
    : Type 0 where
  place : ℕ → ℕ
  rise : (m n : ℕ) → m < n → n < length notes → place m < place n
  each : (n : ℕ) (note : Note) → slice_get notes n ≡ Some note → IsNoteOf i rx ids (place n) note

module _ (i : Input) (app home : ℕ) (rx : List BoardStep) (hints : List HintStep)
    (low : home < i.plan.cpus) where
  stood-within : (cpu : ℕ) → HasStood i.plan.cpus app home hints cpu → cpu < i.plan.cpus
  stood-within cpu (word, said, has) = at (place_in word i.plan.cpus) refl said
    where
      at : (o : Option ℕ) → place_in word i.plan.cpus ≡ o → cpu ≡ unwrap_or o home
          → cpu < i.plan.cpus
      at None none is = omega (arith, is, low)
      at (Some place) some is =
          let less = place-within word i.plan.cpus place some in omega (arith, is, less)

  later : (id : ℕ) (ids : List ℕ) (k : ℕ) (note : Note) → IsNoteOf i rx ids k note
      → IsNoteOf i rx (id ∷ ids) (suc k) note
  later id ids k note x =
      record {
        packet = x.packet;
        size = x.size;
        read = x.read;
        entry = x.entry;
        entry_within = x.entry_within;
        cpu_within = x.cpu_within;
      }

  notes-of : (ids : List ℕ) (notes : List Note)
      → HasWrittenAll (setup_in i) app home rx hints ids notes → AreNotesOf i rx ids notes
  notes-of [] notes none =
      subst (AreNotesOf i rx []) (sym none) (record {
        place = λ n. n;
        rise = λ m n less within. less;
        each = λ n note at. none-some note at;
      })
  notes-of (id ∷ ids) notes (size, rest, reads, wrote, others) =
      by-entry (class_of (socket_size_in size) (packet_hash (setup_in i) id)) refl wrote
      (notes-of ids rest others)
    where
      by-entry : (entry : Option ℕ)
          → class_of (socket_size_in size) (packet_hash (setup_in i) id) ≡ entry
          → HasWritten (setup_in i) app home rx hints id entry rest notes → AreNotesOf i rx ids rest
          → AreNotesOf i rx (id ∷ ids) notes
      by-entry None is same x =
          subst (AreNotesOf i rx (id ∷ ids)) (sym same) (record {
            place = λ n. suc (x.place n);
            rise = λ m n less within.
                (let r = x.rise m n less within in omega (arith, r));
            each = λ n note at. later id ids (x.place n) note (x.each n note at);
          })
      by-entry (Some entry) is (cpu, stood, same) x =
          subst (AreNotesOf i rx (id ∷ ids)) (sym same)
          (record { place = place; rise = rise; each = each })
        where
          place : ℕ → ℕ
          place zero = zero
          place (suc n) = suc (x.place n)

          rise : (m n : ℕ) → m < n → n < suc (length rest) → place m < place n
          rise zero zero less within = absurd (omega (arith, less))
          rise zero (suc n) less within = omega arith
          rise (suc m) zero less within = absurd (omega (arith, less))
          rise (suc m) (suc n) less within =
              let r = x.rise m n (omega (arith, less)) (omega (arith, within)) in omega (arith, r)

          first : IsNoteOf i rx (id ∷ ids) zero (record {
            packet = id;
            write = record { entry = entry; cpu = cpu };
          })
          first =
              let less = class_below (socket_size_in size) (packet_hash (setup_in i) id) entry is
              in
              let most = size_within size in
              record {
                packet = refl;
                size = size;
                read = reads;
                entry = subst (λ n. class_of n (packet_hash (setup_in i) id) ≡ Some entry)
                    (size_in size (omega (arith, less))) is;
                entry_within = omega (arith, less, most);
                cpu_within = stood-within cpu stood;
              }

          each : (n : ℕ) (note : Note)
              → slice_get (record { packet = id; write = record { entry = entry; cpu = cpu } }
              ∷ rest) n ≡ Some note → IsNoteOf i rx (id ∷ ids) (place n) note
          each zero note at =
              subst (IsNoteOf i rx (id ∷ ids) zero)
              (some-is (record { packet = id; write = record { entry = entry; cpu = cpu } }) note
              at) first
          each (suc n) note at = later id ids (x.place n) note (x.each n note at)

  -- a packet of a list of replies is that of a reply
  reply-at : (sent : List Sent) (k id : ℕ)
      → slice_get (map (λ (s : Sent). s.id) sent) k ≡ Some id
      → (s : Sent) × (slice_get sent k ≡ Some s) × (s.id ≡ id)
  reply-at sent k id at =
      by (slice_get sent k) refl (sym (slice_get-map (λ (s : Sent). s.id) sent k) ∙ at)
    where
      by : (o : Option Sent) → slice_get sent k ≡ o
          → option_map (λ (s : Sent). s.id) o ≡ Some id
          → (s : Sent) × (slice_get sent k ≡ Some s) × (s.id ≡ id)
      by None none is = none-some id is
      by (Some s) some is = (s, some, some-is s.id id is)

  -- the notes of an application were made for its replies' packets
  pub made-for : (h : History) (rx_own : ℕ → List BoardStep) (c : HintCodes)
      (seats : List (SeatView HintStep))
      → ((size : ℕ) → HasReadInside rx (2 * length (setup_in i).homes) size
      → WasRead i h c seats rx_own size)
      → (sent : List Sent) (notes : List Note)
      → HasWrittenAll (setup_in i) app home rx hints (map (λ (s : Sent). s.id) sent) notes
      → (reply : ℕ → ℕ)
      × AreMadeFor i h rx_own c seats sent (map (λ (n : Note). n.write) notes) notes reply
  made-for h rx_own c seats was-read sent notes wrote =
      let x = notes-of (map (λ (s : Sent). s.id) sent) notes wrote in (
        x.place,
        record {
          are = refl;
          rise = x.rise;
          each = λ n note at. is-for (x.place n) note (x.each n note at);
          read = λ n note at.
              (let y = x.each n note at in was-read y.size y.read);
        },
      )
    where
      is-for : (k : ℕ) (note : Note) → IsNoteOf i rx (map (λ (s : Sent). s.id) sent) k note
          → IsNoteFor i sent k note
      is-for k note y =
          let r = reply-at sent k note.packet y.packet in
          record {
            reply = r.0;
            for = r.1;
            packet = r.2;
            size = y.size;
            entry =
                subst (λ id. class_of y.size (packet_hash (setup_in i) id)
                ≡ Some note.write.entry) (sym r.2) y.entry;
            entry_within = y.entry_within;
            cpu_within = y.cpu_within;
          }
