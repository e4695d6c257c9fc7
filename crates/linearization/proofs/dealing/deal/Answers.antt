use Rattle.std.proofs.Common.{◌≡◌, ℕ, ◌+◌, ◌-◌, [], ◌∷◌, ◌++◌, ap, ◌∙◌}
use Rattle.std.proofs.lemmas.List.Elements.{All-same, All-push}
use Rattle.linearization.specs.Views.{fresh, hand, kept_hands, given_hands}
use Rattle.linearization.specs.Seats.{new_seats}
use Rattle.linearization.proofs.RuleLemmas.{splits}
use Rattle.linearization.proofs.ViewLemmas.{fresh_step}
use Rattle.linearization.proofs.SeatListLemmas.{dealt, seen_new}
use Rattle.linearization.proofs.dealing.deal.Goals as goal

pub split_seat-seat-requires : goal.split_seat-seat-requires
split_seat-seat-requires g c = let inv = c.loop.invariant in let k : ℕ = c.loop.counter in
    let n : ℕ = c.args.seats in let key = c.args.shared.now.key in (
      inv.0,
      c.requires.words,
      splits (g.R.StepRule.seats key) (g.R.StepRule.lawful key) c.loop.main.id c.loop.main.me.0
          (hand k []) (fresh (k + 1) (n - (k + 1))) (ap (λ m. m.0.hands) inv.1
          ∙ fresh_step k n c.loop-test.true),
    )

pub loop-preserved : goal.loop-preserved
loop-preserved g c = let inv = c.loop.invariant in let k : ℕ = c.loop.counter in
    let n : ℕ = c.args.seats in let t = c.split_seat-seat.ensures in
    let p = c.push_reserved.ensures in
    let z = c.args.shared.now.table_id in
    let hands_are = ap (λ m. m.0.hands) inv.1 ∙ fresh_step k n c.loop-test.true in
    let new_is = seen_new c.split_seat-seat.result.table_id z c.split_seat-seat.result.me.0 k
    (t.3 ∙ inv.0) (ap (λ m. m.0.hands) t.4
    ∙ ap (λ hs. (given_hands (record { hands = hs })).hands) hands_are) in (
      t.0 ∙ inv.0,
      t.2 ∙ (λ i. (kept_hands (record { hands = hands_are i }), (inv.1 i).1)),
      p.len ∙ ap (λ (m : ℕ). m + 1) inv.2,
      p.capacity ∙ inv.3,
      All-same (λ s. s.table ≡ z) c.push_reserved.new.self.items _ p.items
          (All-push (λ s. s.table ≡ z) c.loop.given.items _ inv.4 (t.3 ∙ inv.0)),
      ap (λ l. l ++ new_seats z (k + 1) (n - (k + 1))) (p.items ∙ ap (λ s. c.loop.given.items ++ s
          ∷ []) new_is) ∙ dealt z k n c.loop.given.items (new_seats z 0 n) c.loop-test.true inv.5,
    )
