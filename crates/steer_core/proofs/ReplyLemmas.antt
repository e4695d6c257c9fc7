-- An application with a packet to reply to puts one reply more.
use Rattle.std.proofs.Common.{ℕ, ◌+◌, ◌<◌, ◌≤◌, ◌≡◌, Bool, true, false, List, [], ◌∷◌, ◌++◌}
use Rattle.std.proofs.Common.{Option, Some, length}
use Rattle.std.proofs.Common.{refl, ap, ◌∙◌, sym, subst, arith}
use Rattle.std.specs.Prelude.{nat_lt, slice_index, slice_index_or}
use Rattle.std.proofs.lemmas.Bool.{ltb-false, ltb-true}
use Rattle.std.proofs.lemmas.List.{get_or-set_same}
use Rattle.steer_base.specs.declared.choice.Chosen.{Chosen}
use Rattle.steer_base.specs.declared.idle.Idle.TheVariants as idle
use Rattle.steer_base.specs.declared.step.Step.TheVariants as act
use Rattle.hop_model.specs.declared.event.HopEvent.{HopEvent}
use Rattle.hop_model.specs.declared.event.HopEvent.TheVariants as event
use Rattle.hop_model.specs.Events.{happens}
use Rattle.hop_model.specs.Hop.{HopState, arrivals_of, choices_of, inside_of, placed_of, taken_of}
use Rattle.hop_core.specs.Leaves.{Field}
use Rattle.hop_core.proofs.Leaves.{each_leaves}
use Rattle.hop_core.proofs.Lists.{length-push}
use Rattle.history.specs.declared.sent.Sent.{Sent}
use Rattle.steer_model.specs.Steps.Applications.{everyone, in_reply, next_in, pick_for, send_by}
use Rattle.steer_model.specs.Steps.Applications.{sending}
use Rattle.steer_model.specs.State.Machine.{Machine, last_chosen}
use Rattle.steer_model.specs.Steps.Outcomes.{StepOutcome, idle_step}
use Rattle.steer_model.specs.State.Setup.{flow_number_of, packet_hash}
use Rattle.steer_model.specs.Steps.SingleSteps.{simple}
use Rattle.steer_model.specs.Steps.CompoundSteps.{reply, replying}
use Rattle.steer_invariant.specs.StepInvariant.{StepInvariant}
use Rattle.steer_invariant.proofs.EitherLemmas.{either}
use Rattle.steer_core.proofs.ReplyHops.{enters, puts, takes, weighs}

-- Between two states the choices, the puts and who is inside are the same, and the second has a
-- packet in the hand of an application.
record Filled (s t : HopState) (a : ℕ) : Type 0 where
  choices : t.choices ≡ s.choices
  placed : t.placed ≡ s.placed
  visits : t.visits ≡ s.visits
  full : placed_of s a < taken_of t a

-- a packet arrives for an empty hand, and is taken up
begun : (s : HopState) (a x : ℕ) → a < length s.arrivals → a < length s.taken
    → taken_of s a ≤ placed_of s a
    → placed_of s a ≤ taken_of s a → taken_of s a ≤ length (arrivals_of s a)
    → Filled s (happens (happens s (event.Arrive a x)).0 (event.Take a)).0 a
begun s a x named long empty whole upto =
    let t : HopState = (happens s (event.Arrive a x)).0 in
    let here : arrivals_of t a ≡ arrivals_of s a ++ x ∷ [] =
    get_or-set_same s.arrivals a (arrivals_of s a ++ x ∷ []) [] named in
    let more : length (arrivals_of t a) ≡ length (arrivals_of s a) + 1 =
    ap length here ∙ length-push (arrivals_of s a) x in
    let took : taken_of (happens t (event.Take a)).0 a ≡ taken_of t a + 1 =
    takes t a long empty (omega (arith, more, upto)) in
    record {
      choices = each_leaves t (event.Take a) Field.choices refl;
      placed = each_leaves t (event.Take a) Field.placed refl;
      visits = each_leaves t (event.Take a) Field.visits refl;
      full = omega (arith, took, whole);
    }

-- so an application with a packet to reply to has one in hand after its send
sent-fills : (m : Machine) (a x : ℕ) → a < length m.tx.arrivals → a < length m.tx.taken
    → placed_of m.tx a ≤ taken_of m.tx a → taken_of m.tx a ≤ length (arrivals_of m.tx a)
    → replying m a ≡ Some x
    → Filled m.tx (simple m (act.Send a)).0.tx a
sent-fills m a x named long whole upto is =
    let Q : StepOutcome → Type 0 = λ o. Filled m.tx o.0.tx a in
    either Q (nat_lt (placed_of m.tx a) (taken_of m.tx a)) (idle_step m idle.HandFull)
    (send_by m a (next_in m a))
    (λ full. record { choices = refl; placed = refl; visits = refl; full = ltb-true _ _ full })
    (λ free. (
    let next : next_in m a ≡ Some x = rw free at is in
    let empty = ltb-false _ _ free in
    subst (λ o. Q (send_by m a o)) (sym next) (begun m.tx a x named long empty whole upto)))

-- a machine with the same hands, inboxes and replies replies to the same packet
pub replies-same : (m n : Machine) (a x : ℕ) → n.tx.placed ≡ m.tx.placed → n.tx.taken ≡ m.tx.taken
    → n.rx.bare.outs ≡ m.rx.bare.outs → n.sent ≡ m.sent → replying m a ≡ Some x
    → replying n a ≡ Some x
replies-same m n a x p t o s is = rw (p, t, o, s) is

-- ---- the five events

pub reply-puts : (m : Machine) (a x : ℕ) (w : Bool) → a < m.setup.apps → StepInvariant m
    → replying m a ≡ Some x
    → placed_of (reply a (m, w)).0.tx a ≡ placed_of m.tx a + 1
reply-puts m a x w named k is =
    let s : HopState = m.tx in
    let z = k.tx.sizes in let wide = k.tx.sound.wide in let hands = k.tx.sound.hands in
    let put : placed_of s a ≤ length (choices_of s a) = hands.put a in
    let chosen : length (choices_of s a) ≤ taken_of s a = hands.chosen a in
    let arrived : taken_of s a ≤ length (arrivals_of s a) = hands.arrived a in
    let one : Machine = (simple m (act.TEnter a)).0 in
    let placed1 : one.tx.placed ≡ s.placed = each_leaves s (event.Enter a) Field.placed refl in
    let taken1 : one.tx.taken ≡ s.taken = each_leaves s (event.Enter a) Field.taken refl in
    let choices1 : one.tx.choices ≡ s.choices = each_leaves s (event.Enter a) Field.choices refl in
    let arrivals1 : one.tx.arrivals ≡ s.arrivals =
    each_leaves s (event.Enter a) Field.arrivals refl in
    let inside1 : inside_of one.tx a ≡ true =
    enters s a (omega (arith, named, z.visits)) k.tx.opened in
    let p1 : placed_of one.tx a ≡ placed_of s a = ap (λ (l : List ℕ). slice_index l a) placed1 in
    let t1 : taken_of one.tx a ≡ taken_of s a = ap (λ (l : List ℕ). slice_index l a) taken1 in
    let c1 : choices_of one.tx a ≡ choices_of s a =
    ap (λ (l : List (List Chosen)). slice_index_or l a []) choices1 in
    let a1 : arrivals_of one.tx a ≡ arrivals_of s a =
    ap (λ (l : List (List ℕ)). slice_index_or l a []) arrivals1 in
    let n1 : length (arrivals_of one.tx a) ≡ length (arrivals_of s a) = ap length a1 in
    let l1 : length one.tx.arrivals ≡ length s.arrivals = ap length arrivals1 in
    let k1 : length one.tx.taken ≡ length s.taken = ap length taken1 in
    let two : Machine = (simple one (act.Send a)).0 in
    let f : Filled one.tx two.tx a =
    sent-fills one a x (omega (arith, named, z.apps, l1))
    (omega (arith, named, z.apps, wide.taken, k1))
    (omega (arith, p1, t1, put, chosen)) (omega (arith, t1, arrived, n1))
    (replies-same m one a x placed1 taken1 refl refl is) in
    let inside2 : inside_of two.tx a ≡ true =
    ap (λ (l : List Bool). slice_index_or l a false) f.visits ∙ inside1 in
    let p2 : placed_of two.tx a ≡ placed_of one.tx a =
    ap (λ (l : List ℕ). slice_index l a) f.placed in
    let c2 : length (choices_of two.tx a) ≡ length (choices_of one.tx a) =
    ap (λ (l : List (List Chosen)). length (slice_index_or l a [])) f.choices in
    let c1' : length (choices_of one.tx a) ≡ length (choices_of s a) = ap length c1 in
    let full = f.full in
    let h2 : length two.tx.choices ≡ length s.choices = ap length f.choices ∙ ap length choices1 in
    let q2 : length two.tx.placed ≡ length s.placed = ap length f.placed ∙ ap length placed1 in
    let reply2 : Sent = in_reply two a in
    let e : HopEvent = sending two a reply2 in
    let three : Machine = (simple two (act.TWeigh a)).0 in
    let more3 : placed_of two.tx a < length (choices_of three.tx a) =
    weighs two.tx a (Some (flow_number_of two.setup reply2.id)) (Some (pick_for two reply2))
    (pick_for two reply2) everyone
    (omega (arith, named, z.apps, wide.choices, h2)) inside2 (omega (arith, p2, p1, put, c2, c1'))
    (omega (arith, p2, full)) in
    let placed3 : three.tx.placed ≡ two.tx.placed = each_leaves two.tx e Field.placed refl in
    let visits3 : three.tx.visits ≡ two.tx.visits = each_leaves two.tx e Field.visits refl in
    let inside3 : inside_of three.tx a ≡ true =
    ap (λ (l : List Bool). slice_index_or l a false) visits3 ∙ inside2 in
    let p3 : placed_of three.tx a ≡ placed_of two.tx a =
    ap (λ (l : List ℕ). slice_index l a) placed3 in
    let q3 : length three.tx.placed ≡ length two.tx.placed = ap length placed3 in
    let hash : Option ℕ = packet_hash three.setup (last_chosen three.tx a).id in
    let four : Machine = (simple three (act.TPut a)).0 in
    let p4 : placed_of four.tx a ≡ placed_of three.tx a + 1 =
    puts three.tx a hash (omega (arith, named, z.apps, wide.placed, q2, q3)) inside3
    (omega (arith, p3, more3)) in
    let placed5 : (simple four (act.TLeave a)).0.tx.placed ≡ four.tx.placed =
    each_leaves four.tx (event.Leave a) Field.placed refl in
    ap (λ (l : List ℕ). slice_index l a) placed5 ∙ p4 ∙ ap (λ n. n + 1) (p3 ∙ p2 ∙ p1)
