use Rattle.std.proofs.Common.{append_assoc}
use Rattle.std.proofs.lemmas.List.{map-append}
use Rattle.workers.proofs.Names.{◌≡◌, ◌∷◌, ◌++◌, [], ap, sym, ◌∙◌, arith, length, map}
use Rattle.workers.proofs.Names.{length-append}
use Rattle.workers.proofs.EachLemmas.{each_end, each_of_none}
use Rattle.workers.proofs.posts.counters_of.Goals as goal

pub loop-number-init : goal.loop-number-init
loop-number-init c =
    let none = c.in_ok-counters.ensures.items in
    record {
      seats = ap (λ xs. map (λ c. c.seat) xs ++ c.args.seats.items) none;
      count = ap length none;
      numbers = each_of_none _ _ none;
    }

pub loop-number-preserved : goal.loop-number-preserved
loop-number-preserved c =
    let l = c.loop-number in
    let i = c.loop-number.invariant in
    let n = c.new.result in
    let pushed = c.in_ok-push.ensures.items in
    record {
      seats =
          ap (λ xs. map (λ c. c.seat) xs ++ c.next-seat.new.left.items) pushed
          ∙ (ap (λ xs. xs ++ c.next-seat.new.left.items)
          (map-append (λ c. c.seat) l.counters.items (n ∷ []))
          ∙ (append_assoc (map (λ c. c.seat) l.counters.items) (n.seat ∷ [])
          c.next-seat.new.left.items
          ∙ (ap (λ s. map (λ c. c.seat) l.counters.items ++ s ∷ c.next-seat.new.left.items)
          c.new.ensures.seat
          ∙ (ap (λ xs. map (λ c. c.seat) l.counters.items ++ xs) (sym c.next-seat.ensures)
          ∙ i.seats))));
      count =
          let more = length-append l.counters.items (n ∷ []) in
          let size = ap length pushed in
          let many = i.count in
          omega (arith, more, size, many);
      numbers =
          rw pushed
          (each_end (λ k c. c.number ≡ k) l.counters.items l.number n (sym i.count) i.numbers
          c.new.ensures.number);
    }
