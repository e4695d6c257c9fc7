-- Lines that are put together one packet after the other.
use Rattle.std.proofs.Common.{ℕ, zero, suc, min, ◌+◌, ◌≤◌, ◌<◌, ◌≡◌, List, [], ◌∷◌}
use Rattle.std.proofs.Common.{◌++◌, Option, Some, None, length, drop, take, refl, ap, ◌∙◌, sym}
use Rattle.std.proofs.Common.{arith, inl, inr, get_or, subst, ◌⊎◌}
use Rattle.std.specs.List.{cons_option, filter_map, slice_get}
use Rattle.std.proofs.lemmas.Bool.{cases_eq, eq-eqb, ne_eqb}
use Rattle.std.proofs.lemmas.List.{drop_more, drop-drop, get_or-drop, get_or-map, length-drop}
use Rattle.std.proofs.lemmas.List.{length-map, take_all, take_more}
use Rattle.report_reader.specs.declared.packets.SeenPacket.{SeenPacket}
use Rattle.report_reader.specs.declared.packets.SeenReply.{SeenReply}
use Rattle.report_reader.specs.declared.slots.Seen.{Seen}
use Rattle.report_reader.specs.Joined.{AreJoined, first_of, reply_by, seen_lines}

-- one number more
pub lines-more : (replies : List SeenReply) (packets : List SeenPacket) (numbers new : List ℕ)
    (n x : ℕ) (p : SeenPacket) → new ≡ numbers ++ n ∷ [] → length numbers ≡ x
    → x < length packets → p ≡ get_or packets x p
    → seen_lines replies packets new
    ≡ seen_lines replies packets numbers
    ++ record { packet = p; reply = reply_by replies n } ∷ []
lines-more replies packets numbers new n x p e l k is =
    ap (seen_lines replies packets) e ∙ more packets numbers x l k is
  where
    none : (ps : List SeenPacket) → seen_lines replies ps [] ≡ []
    none [] = refl
    none (q ∷ ps) = refl

    more : (ps : List SeenPacket) (ns : List ℕ) (y : ℕ) → length ns ≡ y → y < length ps
        → p ≡ get_or ps y p
        → seen_lines replies ps (ns ++ n ∷ [])
        ≡ seen_lines replies ps ns ++ record { packet = p; reply = reply_by replies n } ∷ []
    more [] ns y l k is = absurd (omega (arith, k))
    more (q ∷ ps) [] zero l k is =
        λ w. record { packet = sym is w; reply = reply_by replies n } ∷ none ps w
    more (q ∷ ps) [] (suc y) l k is = absurd (omega (arith, l))
    more (q ∷ ps) (m ∷ ns) zero l k is = absurd (omega (arith, l))
    more (q ∷ ps) (m ∷ ns) (suc y) l k is =
        ap (λ xs. record { packet = q; reply = reply_by replies m } ∷ xs)
        (more ps ns y (omega (arith, l)) (omega (arith, k)) is)

pub lines-long : (replies : List SeenReply) (packets : List SeenPacket) (numbers : List ℕ)
    → length (seen_lines replies packets numbers) ≡ min (length packets) (length numbers)
lines-long replies [] numbers = omega arith
lines-long replies (p ∷ packets) [] = omega arith
lines-long replies (p ∷ packets) (n ∷ numbers) =
    let f = lines-long replies packets numbers in omega (arith, f)

pub lines-none : (replies : List SeenReply) (packets : List SeenPacket)
    → seen_lines replies packets [] ≡ []
lines-none replies [] = refl
lines-none replies (p ∷ packets) = refl

-- the lines of a packet
pub lines-at : (replies : List SeenReply) (packets : List SeenPacket) (numbers : List ℕ) (x : ℕ)
    (p : SeenPacket) (n : ℕ) (d : Seen) → x < length packets → x < length numbers
    → get_or (seen_lines replies packets numbers) x d
    ≡ record { packet = get_or packets x p; reply = reply_by replies (get_or numbers x n) }
lines-at replies [] numbers x p n d k l = absurd (omega (arith, k))
lines-at replies (q ∷ packets) [] x p n d k l = absurd (omega (arith, l))
lines-at replies (q ∷ packets) (m ∷ numbers) zero p n d k l = refl
lines-at replies (q ∷ packets) (m ∷ numbers) (suc x) p n d k l =
    lines-at replies packets numbers x p n d (omega (arith, k)) (omega (arith, l))

item-at : {A : Type 0} (xs : List A) (i : ℕ) → i < length xs → (a : A) × (a ≡ get_or xs i a)
item-at [] i l = absurd (omega (arith, l))
item-at (x ∷ xs) zero l = (x, refl)
item-at (x ∷ xs) (suc i) l = item-at xs i (omega (arith, l))

-- The lines of the packets below x are put together, and the replies to the others are left.
pub record IsJoinedTo (x : ℕ) (lines built : List Seen) (left : List SeenReply) : Type 0 where
  pub done : built ≡ take x lines
  pub rest : left ≡ filter_map (λ s. s.reply) (drop x lines)

-- each of these replies is to the packet of its place, counted from a number on
abbrev AreOwn : ℕ → List Seen → Type 0
AreOwn n lines = (x : ℕ) (d : Seen) (r : SeenReply) → x < length lines
    → (get_or lines x d).reply ≡ Some r → r.id ≡ n + x

own-tail : (n : ℕ) (s : Seen) (lines : List Seen) → AreOwn n (s ∷ lines) → AreOwn (n + 1) lines
own-tail n s lines own x d r l e = let f = own (suc x) d r (omega (arith, l)) e in omega (arith, f)

-- what is left begins with no earlier reply
later-one : (m n : ℕ) (o : Option SeenReply) (left : List SeenReply)
    → ((r : SeenReply) → o ≡ Some r → r.id ≡ n) → m < n → first_of m left ≡ None
    → first_of m (cons_option o left) ≡ None
later-one m n None left own l e = e
later-one m n (Some r) left own l e =
    let f : r.id ≡ n = own r refl in rw (ne_eqb r.id m (λ g. omega (arith, f, g, l))) refl

later : (m n : ℕ) (lines : List Seen) → AreOwn n lines → m < n
    → first_of m (filter_map (λ s. s.reply) lines) ≡ None
later m n [] own l = refl
later m n (s ∷ lines) own l =
    later-one m n s.reply (filter_map (λ t. t.reply) lines)
    (λ r e. let f = own 0 s r (omega arith) e in omega (arith, f)) l
    (later m (n + 1) lines (own-tail n s lines own) (omega (arith, l)))

-- the next reply is that of the next packet
pub record Next (m : ℕ) (own found : Option SeenReply) (left rest : List SeenReply) : Type 0 where
  pub same : found ≡ own
  pub kept : found ≡ None → left ≡ rest
  pub gone : (r : SeenReply) → found ≡ Some r → drop 1 left ≡ rest

next-one : (n : ℕ) (o : Option SeenReply) (left : List SeenReply)
    → ((r : SeenReply) → o ≡ Some r → r.id ≡ n) → first_of n left ≡ None
    → Next n o (first_of n (cons_option o left)) (cons_option o left) left
next-one n None left own e = record {
  same = e;
  kept = λ g. refl;
  gone = λ r g. absurd (let f : None ≡ Some r = sym e ∙ g in cc);
}
next-one n (Some r) left own e =
    let f : r.id ≡ n = own r refl in
    let g : first_of n (r ∷ left) ≡ Some r = rw (eq-eqb r.id n f) refl in
    record {
      same = g;
      kept = λ h. absurd (let k : Some r ≡ None = sym g ∙ h in cc);
      gone = λ q h. refl;
    }

pub next-reply : (n : ℕ) (s : Seen) (lines : List Seen) → AreOwn n (s ∷ lines)
    → Next n s.reply (first_of n (filter_map (λ t. t.reply) (s ∷ lines)))
    (filter_map (λ t. t.reply) (s ∷ lines)) (filter_map (λ t. t.reply) lines)
next-reply n s lines own =
    next-one n s.reply (filter_map (λ t. t.reply) lines)
    (λ r e. let f = own 0 s r (omega arith) e in omega (arith, f))
    (later n (n + 1) lines (own-tail n s lines own) (omega arith))

some-or-none : {A : Type 0} (o : Option A) → ((a : A) × (o ≡ Some a)) ⊎ (o ≡ None)
some-or-none None = inr refl
some-or-none (Some a) = inl (a, refl)

-- a reply by its number
first-got : (x n : ℕ) (rs : List SeenReply) (r : SeenReply) → first_of x (drop n rs) ≡ Some r
    → slice_get rs n ≡ Some r
first-got x zero [] r e = absurd (cc)
first-got x (suc n) [] r e = absurd (cc)
first-got x zero (q ∷ rs) r e =
    elim (cases_eq q.id x) [
      | inl i ↦ let f : first_of x (q ∷ rs) ≡ Some q = rw (eq-eqb q.id x i) refl in sym f ∙ e
      | inr ne ↦
          let f : first_of x (q ∷ rs) ≡ None = rw (ne_eqb q.id x ne) refl in
          absurd (let g : None ≡ Some r = sym f ∙ e in cc)
    ]
first-got x (suc n) (q ∷ rs) r e = first-got x n rs r e

number-own : (x next n : ℕ) (reply : Option SeenReply) (rs : List SeenReply)
    → reply ≡ first_of x (drop next rs) → (reply ≡ None → n ≡ 0)
    → ((r : SeenReply) → reply ≡ Some r → n ≡ next + 1) → reply_by rs n ≡ reply
number-own x next n reply rs is none some =
    elim (some-or-none reply) [
      | inl r ↦
          let m : n ≡ suc next = let f = some r.0 r.1 in omega (arith, f) in
          ap (reply_by rs) m ∙ first-got x next rs r.0 (sym is ∙ r.1) ∙ sym r.1
      | inr z ↦ ap (reply_by rs) (none z) ∙ sym z
    ]

-- the rest of some lines is counted from its first
own-drop : (x : ℕ) (lines : List Seen)
    → ((y : ℕ) (d : Seen) (r : SeenReply) → y < length lines
    → (get_or lines y d).reply ≡ Some r → r.id ≡ y)
    → AreOwn x (drop x lines)
own-drop x lines own k d r l e =
    let at : get_or (drop x lines) k d ≡ get_or lines (x + k) d = get_or-drop x lines k d in
    let n : x + k < length lines = omega (arith, l, length-drop x lines) in
    own (x + k) d r n (sym (ap (λ s. s.reply) at) ∙ e)

module _ (packets : List SeenPacket) (replies : List SeenReply) (lines : List Seen)
    (joined : AreJoined packets replies lines) where
  pub join-none : (built : List Seen) → built ≡ [] → IsJoinedTo 0 lines built (drop 0 replies)
  join-none built e = record { done = e; rest = joined.of_replies }

  as-many : length packets ≡ length lines
  as-many = ap length joined.of_packets ∙ length-map lines (λ s. s.packet)

  -- the next packet with its reply
  pub join-step : (x next more : ℕ) (built new : List Seen) (reply : Option SeenReply)
      (p : SeenPacket) → x < length packets → IsJoinedTo x lines built (drop next replies)
      → reply ≡ first_of x (drop next replies) → (reply ≡ None → more ≡ 0)
      → ((r : SeenReply) → reply ≡ Some r → more ≡ 1) → p ≡ get_or packets x p
      → new ≡ built ++ record { packet = p; reply = reply } ∷ []
      → IsJoinedTo (x + 1) lines new (drop (next + more) replies)
  join-step x next more built new reply p l inv is none some at push =
      let n : x < length lines = omega (arith, l, as-many) in
      let v : Seen = record { packet = p; reply = reply } in
      let s : Seen = get_or lines x v in
      let front : drop x lines ≡ s ∷ drop (x + 1) lines = drop_more lines x v n in
      let own : AreOwn x (s ∷ drop (x + 1) lines) =
      subst (AreOwn x) front (own-drop x lines joined.own) in
      let next-is = next-reply x s (drop (x + 1) lines) own in
      let left : drop next replies
      ≡ filter_map (λ t. t.reply) (s ∷ drop (x + 1) lines) =
      inv.rest ∙ ap (filter_map (λ t. t.reply)) front in
      let found : reply ≡ first_of x (filter_map (λ t. t.reply) (s ∷ drop (x + 1) lines)) =
      is ∙ ap (first_of x) left in
      let of_reply : reply ≡ s.reply = found ∙ next-is.same in
      let of_packet : p ≡ s.packet =
      at ∙ ap (λ ps. get_or ps x p) joined.of_packets
      ∙ get_or-map (λ t. t.packet) lines x v p n in
      let same : v ≡ s = λ w. record { packet = of_packet w; reply = of_reply w } in
      let rest : drop (next + more) replies ≡ filter_map (λ t. t.reply) (drop (x + 1) lines) =
      elim (some-or-none reply) [
        | inl r ↦
            let m : more ≡ 1 = some r.0 r.1 in
            ap (λ k. drop (next + k) replies) m ∙ sym (drop-drop 1 next replies)
            ∙ ap (drop 1) left ∙ next-is.gone r.0 (sym found ∙ r.1)
        | inr z ↦
            let m : next + more ≡ next = omega (arith, none z) in
            ap (λ k. drop k replies) m ∙ left ∙ next-is.kept (sym found ∙ z)
      ] in
      record {
        done =
            push ∙ ap (λ xs. xs ++ v ∷ []) inv.done ∙ ap (λ t. take x lines ++ t ∷ []) same
            ∙ sym (take_more lines x v n);
        rest = rest;
      }

  -- the next packet with the number of its reply
  pub join-next : (x next more n : ℕ) (numbers new : List ℕ) (reply : Option SeenReply)
      → x < length packets → length numbers ≡ x
      → IsJoinedTo x lines (seen_lines replies packets numbers) (drop next replies)
      → reply ≡ first_of x (drop next replies) → (reply ≡ None → more ≡ 0)
      → ((r : SeenReply) → reply ≡ Some r → more ≡ 1) → (reply ≡ None → n ≡ 0)
      → ((r : SeenReply) → reply ≡ Some r → n ≡ next + 1) → new ≡ numbers ++ n ∷ []
      → IsJoinedTo (x + 1) lines (seen_lines replies packets new) (drop (next + more) replies)
  join-next x next more n numbers new reply l long inv is none some zero_is one_is push =
      let built = seen_lines replies packets numbers in
      let p = item-at packets x l in
      join-step x next more built (seen_lines replies packets new) reply p.0 l inv is none some p.1
      (lines-more replies packets numbers new n x p.0 push long l p.1
      ∙ ap (λ o. built ++ record { packet = p.0; reply = o } ∷ [])
      (number-own x next n reply replies is zero_is one_is))

  pub join-all : (x : ℕ) (built : List Seen) (left : List SeenReply) → length packets ≤ x
      → IsJoinedTo x lines built left → built ≡ lines
  join-all x built left l inv = inv.done ∙ take_all x lines (omega (arith, l, as-many))
