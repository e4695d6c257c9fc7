-- A worker stays the same while it goes on.
use Rattle.rtrb.specs.Ring.{SameConsumer}
use Rattle.run_workers.proofs.Names.{◌≡◌, ℕ, ◌<◌, ◌≤◌, List, refl, sym, ap, subst, ◌∙◌, length, []}
use Rattle.run_workers.proofs.Names.{Some, arith, slice_get, slice_set, slice_get_within}
use Rattle.run_workers.proofs.Names.{BoardSeatView, Poller, Server, Grows, StageView, dropped_by}
use Rattle.run_workers.proofs.Names.{GoesOn, HasHomes, IsWorking, Seats, Worker}
use Rattle.run_workers.proofs.Records.ListLemmas.{grows_both}
use Rattle.run_workers.specs.Parts.{actor_count}
use Rattle.run_workers.specs.Workers.{HasDrops, HasRings, IsSame}
use Rattle.run_workers.specs.declared.worker.Part.{Part}
use Rattle.run_workers.specs.declared.worker.Part.TheVariants as part
use Rattle.run_workers.proofs.EachLemmas.{each_same, each_set, item_at, one_there}

-- ---- rings

abbrev SameRing : Poller → Poller → Type 0
SameRing p q = SameConsumer p.ring q.ring

one_ring : (p q : Poller) → p ≡ q → SameRing p q
one_ring p q same = subst (SameRing p) same ((refl, refl, refl, refl), refl)

two_rings : (p q r : Poller) → SameRing p q → SameRing q r → SameRing p r
two_rings p q r x y =
    ((y.0.0 ∙ x.0.0, y.0.1 ∙ x.0.1, y.0.2 ∙ x.0.2, y.0.3 ∙ x.0.3), y.1 ∙ x.1)

pub rings_stay : (before after : List Poller) → after ≡ before → HasRings before after
rings_stay before after same =
    each_same (λ k q. (p : Poller) → slice_get before k ≡ Some p → SameRing p q) before after same
    (λ k q got p there. one_ring p q (one_there before k p q there got))

-- one poller was set, with the ring that it had
pub rings_set : (before : List Poller) (i : ℕ) (p q : Poller) → slice_get before i ≡ Some p
    → SameConsumer p.ring q.ring → HasRings before (slice_set before i q)
rings_set before i p q there ring =
    each_set (λ k y. (x : Poller) → slice_get before k ≡ Some x → SameRing x y)
    (λ k y. slice_get before k ≡ Some y) before i q
    (λ x got. subst (λ (z : Poller). SameRing z q) (one_there before i p x there got) ring)
    (λ k y apart got x found. one_ring x y (one_there before k x y found got))
    (λ k y got. got)

rings_both : (a b c : List Poller) → length b ≡ length a → HasRings a b → HasRings b c
    → HasRings a c
rings_both a b c many first second k z got p there =
    let within = slice_get_within a k p there in
    let mid = item_at b k (subst (λ n. k < n) (sym many) within) in
    two_rings p mid.0 z (first k mid.0 mid.1 p there) (second k z got mid.0 mid.1)

-- ---- drops

pub drops_stay : (before after : List Poller) → after ≡ before → HasDrops before after
drops_stay before after same =
    each_same (λ k q. (p : Poller) → slice_get before k ≡ Some p → dropped_by p ≤ dropped_by q)
    before after same
    (λ k q got p there.
    let is = ap dropped_by (one_there before k p q there got) in omega (arith, is))

-- one poller was set, which has no fewer drops
pub drops_set : (before : List Poller) (i : ℕ) (p q : Poller) → slice_get before i ≡ Some p
    → dropped_by p ≤ dropped_by q → HasDrops before (slice_set before i q)
drops_set before i p q there more =
    each_set (λ k y. (x : Poller) → slice_get before k ≡ Some x → dropped_by x ≤ dropped_by y)
    (λ k y. slice_get before k ≡ Some y) before i q
    (λ x got. let is = ap dropped_by (one_there before i p x there got) in omega (arith, is, more))
    (λ k y apart got x found.
    let is = ap dropped_by (one_there before k x y found got) in omega (arith, is))
    (λ k y got. got)

drops_both : (a b c : List Poller) → length b ≡ length a → HasDrops a b → HasDrops b c
    → HasDrops a c
drops_both a b c many first second k z got p there =
    let within = slice_get_within a k p there in
    let mid = item_at b k (subst (λ n. k < n) (sym many) within) in
    let one = first k mid.0 mid.1 p there in
    let two = second k z got mid.0 mid.1 in
    omega (arith, one, two)

-- ---- homes

pub homes_stay : (before after : List Server) → after ≡ before → HasHomes before after
homes_stay before after same =
    each_same (λ k u. (v : Server) → slice_get before k ≡ Some v → u.home ≡ v.home) before after
    same (λ k u got v there. ap (λ (z : Server). z.home) (one_there before k u v got there))

-- one application was set, with the home that it had
pub homes_set : (before : List Server) (i : ℕ) (v u : Server) → slice_get before i ≡ Some v
    → u.home ≡ v.home → HasHomes before (slice_set before i u)
homes_set before i v u there home =
    each_set (λ k y. (x : Server) → slice_get before k ≡ Some x → y.home ≡ x.home)
    (λ k y. slice_get before k ≡ Some y) before i u
    (λ x got. home ∙ ap (λ (z : Server). z.home) (one_there before i v x there got))
    (λ k y apart got x found. ap (λ (z : Server). z.home) (one_there before k y x got found))
    (λ k y got. got)

homes_both : (a b c : List Server) → length b ≡ length a → HasHomes a b → HasHomes b c
    → HasHomes a c
homes_both a b c many first second k z got v there =
    let within = slice_get_within a k v there in
    let mid = item_at b k (subst (λ n. k < n) (sym many) within) in
    second k z got mid.0 mid.1 ∙ first k mid.0 mid.1 v there

-- ---- workers

-- a seat at a board stays the same, with more steps
pub record SameSeat (old new : BoardSeatView) : Type 0 where
  pub table : new.table ≡ old.table
  pub number : new.number ≡ old.number
  pub steps : Grows old.steps new.steps

pub seat_stays : (old new : BoardSeatView) → new ≡ old → SameSeat old new
seat_stays old new same =
    record {
      table = ap (λ (z : BoardSeatView). z.table) same;
      number = ap (λ (z : BoardSeatView). z.number) same;
      steps = ([], ap (λ (z : BoardSeatView). z.steps) same);
    }

pub is_same : (w v : Worker) (s r : Seats) → length v.pollers.items ≡ length w.pollers.items
    → length v.drains.items ≡ length w.drains.items
    → length v.servers.items ≡ length w.servers.items
    → length v.ships.items ≡ length w.ships.items → HasRings w.pollers.items v.pollers.items
    → HasDrops w.pollers.items v.pollers.items → HasHomes w.servers.items v.servers.items
    → SameSeat s.rx r.rx → SameSeat s.tx r.tx
    → r.hint.table ≡ s.hint.table → Grows s.hint.steps r.hint.steps → IsSame w v s r
is_same w v s r pollers drains servers ships rings drops homes rx tx table steps = assumption

-- the same worker at the same seats, which has made more steps at the hint words
pub same_worker : (w : Worker) (s r : Seats) → r.rx ≡ s.rx → r.tx ≡ s.tx
    → r.hint.table ≡ s.hint.table → Grows s.hint.steps r.hint.steps → IsSame w w s r
same_worker w s r rx tx =
    is_same w w s r refl refl refl refl (rings_stay w.pollers.items w.pollers.items refl)
    (drops_stay w.pollers.items w.pollers.items refl)
    (homes_stay w.servers.items w.servers.items refl) (seat_stays s.rx r.rx rx)
    (seat_stays s.tx r.tx tx)

pub goes_first : (t : StageView) (w : Worker) (s : Seats) → IsWorking t w s
    → GoesOn t w w s s
goes_first t w s x = record { is = x; same = same_worker w s s refl refl refl ([], refl) }

-- a worker has as many actors for each part of a turn
pub as_many : (p : Part) (w v : Worker) (s r : Seats) → IsSame w v s r
    → actor_count p v ≡ actor_count p w
as_many part.Poll w v s r same = v.pollers.ok.0 ∙ (same.pollers ∙ sym w.pollers.ok.0)
as_many part.Drain w v s r same = v.drains.ok.0 ∙ (same.drains ∙ sym w.drains.ok.0)
as_many part.Serve w v s r same = v.servers.ok.0 ∙ (same.servers ∙ sym w.servers.ok.0)
as_many part.Ship w v s r same = v.ships.ok.0 ∙ (same.ships ∙ sym w.ships.ok.0)

pub goes_both : (t : StageView) (a b c : Worker) (r s u : Seats) → GoesOn t a b r s
    → GoesOn t b c s u → GoesOn t a c r u
goes_both t a b c r s u first second =
    let x = first.same in
    let y = second.same in
    record {
      is = second.is;
      same = record {
        pollers = y.pollers ∙ x.pollers;
        drains = y.drains ∙ x.drains;
        servers = y.servers ∙ x.servers;
        ships = y.ships ∙ x.ships;
        rings = rings_both a.pollers.items b.pollers.items c.pollers.items x.pollers x.rings
            y.rings;
        drops = drops_both a.pollers.items b.pollers.items c.pollers.items x.pollers x.drops
            y.drops;
        homes = homes_both a.servers.items b.servers.items c.servers.items x.servers x.homes
            y.homes;
        rx_table = y.rx_table ∙ x.rx_table;
        rx_number = y.rx_number ∙ x.rx_number;
        tx_table = y.tx_table ∙ x.tx_table;
        tx_number = y.tx_number ∙ x.tx_number;
        hint_table = y.hint_table ∙ x.hint_table;
        rx_steps = grows_both r.rx.steps s.rx.steps u.rx.steps x.rx_steps y.rx_steps;
        tx_steps = grows_both r.tx.steps s.tx.steps u.tx.steps x.tx_steps y.tx_steps;
        hint_steps = grows_both r.hint.steps s.hint.steps u.hint.steps x.hint_steps y.hint_steps;
      };
    }

-- a worker that goes on, stays while its seats go on, and goes on
pub goes_on_twice : (t : StageView) (a b c : Worker) (r s l u : Seats) → GoesOn t a b r s
    → GoesOn t b b s l → GoesOn t b c l u → GoesOn t a c r u
goes_on_twice t a b c r s l u first stay second =
    goes_both t a b c r l u (goes_both t a b b r s l first stay) second
