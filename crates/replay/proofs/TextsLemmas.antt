-- The texts of taps by what the taps mean.
use Rattle.std.proofs.Common.{ℕ, ◌+◌, ◌≡◌, List, [], ◌∷◌, map, refl, ap, ◌∙◌, length}
use Rattle.std.specs.List.{enumerate_from}
use Rattle.history.specs.Lines.{LineLists, lines_of}
use Rattle.history.specs.declared.history.History.{History}
use Rattle.plan_reader.specs.declared.plan.Plan.{Plan}
use Rattle.steer_base.specs.declared.packet.Packet.{Packet}
use Rattle.taps.specs.Shown.{shown_to}
use Rattle.replay.specs.Meanings.{Meaning, texts_of}
use Rattle.replay.specs.Replays.{shown_lists, shown_with}

-- a function of each item with its number, of the items or of what is made of them
enumerate_map : {X Y Z : Type 0} (f : ℕ → Y → Z) (g : X → Y) (n : ℕ) (xs : List X)
    → map (λ p. f p.0 (g p.1)) (enumerate_from n xs)
    ≡ map (λ p. f p.0 p.1) (enumerate_from n (map g xs))
enumerate_map f g n [] = refl
enumerate_map f g n (x ∷ xs) = ap (λ t. f n (g x) ∷ t) (enumerate_map f g (n + 1) xs)

-- what is shown by its parts
module _ {X : Type 0} (plan : Plan) (packets : List Packet) (meaning : X → Meaning)
    (xs : List X) where
  pub shown_is : (h k : History) (lines : LineLists) (texts : List (List ℕ))
      → h ≡ k → lines ≡ lines_of packets (length plan.apps) h
      → texts ≡ map (λ p. meaning p.1 (shown_to p.0 plan.detach lines.packets))
      (enumerate_from 0 xs)
      → shown_lists h lines texts ≡ shown_with plan packets (map meaning xs) k
  shown_is h k lines texts same made told =
      let told_with : LineLists → List (List ℕ) =
      λ ls. texts_of (map meaning xs) plan.detach ls.packets in
      let text : texts ≡ told_with lines =
      told ∙ enumerate_map (λ n m. m (shown_to n plan.detach lines.packets)) meaning 0 xs in
      ap (shown_lists h lines) text ∙ ap (λ (ls : LineLists). shown_lists h ls (told_with ls)) made
      ∙ ap (shown_with plan packets (map meaning xs)) same
