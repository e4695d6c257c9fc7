-- What an event of a hop keeps of the machine's invariant, part by part.
use Rattle.std.proofs.Common.{ℕ, ◌≡◌, false, List, [], length, ap, ◌∙◌, sym, subst}
use Rattle.std.specs.Prelude.{slice_index, slice_index_or}
use Rattle.steer_base.specs.declared.packet.Packet.{Packet}
use Rattle.hop_model.specs.declared.event.HopEvent.{HopEvent}
use Rattle.hop_model.specs.Events.{MayAsk, happens}
use Rattle.hop_model.specs.Hop.{Fixed, HopState, arrivals_of, out_at}
use Rattle.hop_core.specs.Leaves.{Field, changes}
use Rattle.hop_core.specs.Settled.{IsBySettings}
use Rattle.hop_core.specs.Sizes.{SameSizes}
use Rattle.hop_core.proofs.AllSteps.{Sound-happens}
use Rattle.hop_core.proofs.Drops.{each_keeps_ample}
use Rattle.hop_core.proofs.Leaves.{each_leaves}
use Rattle.hop_core.proofs.NothingLost.{each_loses_nothing}
use Rattle.hop_core.proofs.Settled.{each_keeps_settled}
use Rattle.hop_core.proofs.Sizes.{Sizes-happens}
use Rattle.history.specs.declared.arrival.Arrival.{Arrival}
use Rattle.history.specs.declared.sent.Sent.{Sent}
use Rattle.steer_model.specs.State.Settings.{Settings, class_at, plain_lane}
use Rattle.steer_model.specs.State.Setup.{Setup}
use Rattle.steer_model.specs.declared.note.Note.{Note}
use Rattle.steer_model.specs.declared.note.Note.TheVariants as note
use Rattle.steer_invariant.specs.HopInvariants.{AllTaken, AreNoted, BySettings, IsNoted}
use Rattle.steer_invariant.specs.HopInvariants.{RxInvariant, TxInvariant}
use Rattle.steer_invariant.specs.HopInvariants.{Manned, RxSizes, TxSizes}
use Rattle.steer_invariant.specs.ListInvariants.{Came, Replied}

-- ---- the hops by themselves

pub rx-sizes : (p : Setup) (s t : HopState) → SameSizes s t → RxSizes p s → RxSizes p t
rx-sizes p s t same z =
    record {
      queues = same.producers ∙ z.queues;
      cpus = same.lanes ∙ z.cpus;
      apps = same.outs ∙ z.apps;
      visits = same.actors ∙ z.visits;
      room = ap (λ (f : Fixed). f.room) same.fixed ∙ z.room;
      rounded = ap (λ (f : Fixed). f.exact) same.fixed ∙ z.rounded;
    }

pub rx-happens : (p : Setup) (s : HopState) (e : HopEvent) → MayAsk s e
    → changes e Field.closed ≡ false → RxInvariant p s → RxInvariant p (happens s e).0
rx-happens p s e may still k =
    record {
      sound = Sound-happens s e may k.sound;
      lossless = each_loses_nothing s e may k.sound k.lossless;
      opened = each_leaves s e Field.closed still ∙ k.opened;
      sizes = rx-sizes p s (happens s e).0 (Sizes-happens s e) k.sizes;
    }

tx-sizes : (p : Setup) (s t : HopState) → SameSizes s t → t.counts ≡ s.counts → TxSizes p s
    → TxSizes p t
tx-sizes p s t same counts z =
    record {
      apps = same.producers ∙ z.apps;
      visits = same.actors ∙ z.visits;
      txs = same.lanes ∙ z.txs;
      port = same.outs ∙ z.port;
      room = ap (λ (f : Fixed). f.room) same.fixed ∙ z.room;
      classes = counts ∙ z.classes;
    }

pub tx-happens : (p : Setup) (s : HopState) (e : HopEvent) → MayAsk s e
    → changes e Field.closed ≡ false → changes e Field.counts ≡ false → TxInvariant p s
    → TxInvariant p (happens s e).0
tx-happens p s e may still counts k =
    record {
      sound = Sound-happens s e may k.sound;
      lossless = each_loses_nothing s e may k.sound k.lossless;
      ample = each_keeps_ample s e k.sound k.ample;
      opened = each_leaves s e Field.closed still ∙ k.opened;
      sizes = tx-sizes p s (happens s e).0 (Sizes-happens s e)
          (each_leaves s e Field.counts counts) k.sizes;
    }

-- ---- the settings in force

pub by-happens : (p : Setup) (now : Settings) (s : HopState) (e : HopEvent) → MayAsk s e
    → changes e Field.counts ≡ false → RxInvariant p s
    → IsBySettings (class_at p now) (plain_lane p now) s e → Manned p now (happens s e).0
    → BySettings p now s → BySettings p now (happens s e).0
by-happens p now s e may counts k allowed manned by =
    record {
      counts = by.counts ∙ sym (each_leaves s e Field.counts counts);
      settled = each_keeps_settled (class_at p now)
          (plain_lane p now) s e may k.sound allowed by.settled;
      manned = manned;
    }

-- the lists that say where packets wait and which were weighed are the same
record SameHands (s t : HopState) : Type 0 where
  accepted : t.bare.accepted ≡ s.bare.accepted
  retired : t.bare.retired ≡ s.bare.retired
  choices : t.choices ≡ s.choices
  placed : t.placed ≡ s.placed

manned-same : (p : Setup) (now : Settings) (s t : HopState) → SameHands s t → Manned p now s
    → Manned p now t
manned-same p now s t same k =
    record {
      homes = k.homes;
      within = k.within;
      empty = λ c lt off. rw (same.accepted, same.retired) (k.empty c (rw same.accepted at lt) off);
      hand = λ q lt. rw (same.choices, same.placed)
          (k.hand q (rw (same.choices, same.placed) at lt));
    }

-- an event that leaves these lists
pub manned-leaves : (p : Setup) (now : Settings) (s : HopState) (e : HopEvent)
    → changes e Field.accepted ≡ false → changes e Field.retired ≡ false
    → changes e Field.choices ≡ false → changes e Field.placed ≡ false → Manned p now s
    → Manned p now (happens s e).0
manned-leaves p now s e a r c d k =
    manned-same p now s (happens s e).0
    (record {
      accepted = each_leaves s e Field.accepted a;
      retired = each_leaves s e Field.retired r;
      choices = each_leaves s e Field.choices c;
      placed = each_leaves s e Field.placed d;
    }) k

-- ---- notes

note-same : (s t : HopState) (q : ℕ) (n : Note) → t.choices ≡ s.choices → t.taken ≡ s.taken
    → t.placed ≡ s.placed → IsNoted s q n → IsNoted t q n
note-same s t q note.Nothing a b c h = tt
note-same s t q (note.Looked want) a b c h = rw (a, b) h
note-same s t q (note.Asking filter) a b c h = rw (b, c) h

pub noted-leaves : (notes : List Note) (s : HopState) (e : HopEvent)
    → changes e Field.choices ≡ false → changes e Field.taken ≡ false
    → changes e Field.placed ≡ false → AreNoted notes s → AreNoted notes (happens s e).0
noted-leaves notes s e c t d h q =
    note-same s (happens s e).0 q (slice_index_or notes q note.Nothing)
    (each_leaves s e Field.choices c)
    (each_leaves s e Field.taken t) (each_leaves s e Field.placed d) (h q)

-- ---- what came and what left

pub came-leaves : (packets : List Packet) (arrivals : List Arrival) (s : HopState) (e : HopEvent)
    → changes e Field.arrivals ≡ false → Came packets arrivals (arrivals_of s)
    → Came packets arrivals (arrivals_of (happens s e).0)
came-leaves packets arrivals s e quiet k =
    let lists : List (List ℕ) → Type 0 = λ l. Came packets arrivals (λ q. slice_index_or l q []) in
    subst lists (sym (each_leaves s e Field.arrivals quiet)) k

pub replied-inbox : (sent : ℕ → List Sent) (begun : ℕ → List ℕ) (s : HopState) (e : HopEvent)
    → changes e Field.outs ≡ false → Replied sent (out_at s.bare) begun
    → Replied sent (out_at (happens s e).0.bare) begun
replied-inbox sent begun s e quiet k =
    let lists : List (List ℕ) → Type 0 = λ l. Replied sent (λ a. slice_index_or l a []) begun in
    subst lists (sym (each_leaves s e Field.outs quiet)) k

pub replied-begun : (sent : ℕ → List Sent) (inbox : ℕ → List ℕ) (s : HopState) (e : HopEvent)
    → changes e Field.arrivals ≡ false → Replied sent inbox (arrivals_of s)
    → Replied sent inbox (arrivals_of (happens s e).0)
replied-begun sent inbox s e quiet k =
    let lists : List (List ℕ) → Type 0 = λ l. Replied sent inbox (λ a. slice_index_or l a []) in
    subst lists (sym (each_leaves s e Field.arrivals quiet)) k

-- ---- what was taken up

pub taken-leaves : (s : HopState) (e : HopEvent) → changes e Field.arrivals ≡ false
    → changes e Field.taken ≡ false → AllTaken s → AllTaken (happens s e).0
taken-leaves s e a t k p =
    ap (λ (l : List ℕ). slice_index l p) (each_leaves s e Field.taken t) ∙ k p
    ∙ ap (λ (l : List (List ℕ)). length (slice_index_or l p []))
    (sym (each_leaves s e Field.arrivals a))
