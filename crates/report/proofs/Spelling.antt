-- One spelling: a field of a line determines its value.
use Rattle.std.proofs.Common.{◌≡◌, ℕ, ◌<◌, ◌^◌, List, [], ◌∷◌, ◌++◌, Option, Some, None, refl, sym}
use Rattle.std.proofs.Common.{ap, ◌∙◌, arith, decimal, get_or, drop, inl, inr}
use Rattle.std.specs.Prelude.{slice_index, codes, if◌then◌else◌}
use Rattle.std.specs.Str.{bytes_eq}
use Rattle.std.specs.Option.{option_map, IfSome}
use Rattle.std.proofs.lemmas.Fmt.{decimal_injective}
use Rattle.steer_base.specs.declared.choice.Choice.{Choice}
use Rattle.steer_base.specs.declared.choice.Why.{Why}
use Rattle.steer_base.specs.declared.choice.Why.TheVariants.{Plain, Same, Unset, Offline, Passed}
use Rattle.steer_base.specs.declared.choice.Why.TheVariants.{Kept}
use Rattle.steer_base.specs.declared.put.DropCause.TheVariants.{Full, Flow}
use Rattle.steer_base.specs.declared.put.Put.{Put}
use Rattle.steer_base.specs.declared.put.Put.TheVariants.{At, Dropped as FellAs}
use Rattle.history.specs.Ranges.{FitsIn, ChoiceFits, PutFits, PacketFits, ReplyFits}
use Rattle.history.specs.Shown.{SamePacket, shown_of, without_class}
use Rattle.history.specs.declared.packet_line.PacketLine.{PacketLine}
use Rattle.history.specs.declared.packet_line.Via.{Via}
use Rattle.history.specs.declared.packet_line.Via.TheVariants.{Filter, Reta, Unhashed}
use Rattle.history.specs.declared.reply_line.ReplyLine.{ReplyLine}
use Rattle.report.specs.Lines.{or_dash, via_word, why_word, put_fields, class_in, want_in, head_in}
use Rattle.report.specs.Lines.{tail_in, lane_in, why_in, last_fields, packet_fields, reply_fields}
use Rattle.report.proofs.Digits.{no_number}

-- a field of a row, and the fields from one on
abbrev pub field : ℕ → List (List ℕ) → List ℕ
field i fs = get_or fs i []

abbrev pub after : ℕ → List (List ℕ) → List (List ℕ)
after i fs = drop i fs

abbrev some_or : {A : Type 0} → A → Option A → A
some_or d None = d
some_or d (Some a) = a

pub some_same : {A : Type 0} (a b : A) → Some a ≡ Some b → a ≡ b
some_same a b e = ap (some_or a) e

-- a number of 32 bits is found again in its text
pub number-same : (m n : ℕ) → m < 2 ^ 32 → n < 2 ^ 32 → decimal m ≡ decimal n → m ≡ n
number-same m n a b e = decimal_injective m n (omega (arith, a)) (omega (arith, b)) e

pub byte-same : (m n : ℕ) → m < 2 ^ 8 → n < 2 ^ 8 → decimal m ≡ decimal n → m ≡ n
byte-same m n a b e = decimal_injective m n (omega (arith, a)) (omega (arith, b)) e

abbrev dash : List ℕ
dash = codes "-"

pub no_dash : (n : ℕ) → n < 2 ^ 32 → decimal n ≡ dash → ⊥
no_dash n h e = no_number n dash (omega (arith, h)) (inl (omega arith)) e

-- a number, or a dash for none
pub option-same : (o p : Option ℕ) → FitsIn 32 o → FitsIn 32 p → or_dash o ≡ or_dash p → o ≡ p
option-same None None a b e = refl
option-same None (Some n) a b e = absurd (no_dash n b (sym e))
option-same (Some m) None a b e = absurd (no_dash m a e)
option-same (Some m) (Some n) a b e = ap (λ k. Some k) (number-same m n a b e)

wider : (o : Option ℕ) → FitsIn 8 o → FitsIn 32 o
wider None h = tt
wider (Some n) h = omega (arith, h)

-- words are read back
via_back : List ℕ → Via
via_back w = if bytes_eq w (codes "filter") then Filter else if bytes_eq w
    (codes "reta") then Reta else Unhashed

via_read : (v : Via) → via_back (via_word v) ≡ v
unfolding via_back
via_read Filter = refl
via_read Reta = refl
via_read Unhashed = refl

pub via-same : (v w : Via) → via_word v ≡ via_word w → v ≡ w
via-same v w e = sym (via_read v) ∙ ap via_back e ∙ via_read w

why_back : List ℕ → Option Why
why_back w =
    if bytes_eq w (codes "plain") then Some Plain else if bytes_eq w
    (codes "same") then Some Same else
    if bytes_eq w (codes "unset") then Some Unset else if bytes_eq w
    (codes "offline") then Some Offline else
    if bytes_eq w (codes "passed") then Some Passed else if bytes_eq w
    (codes "kept") then Some Kept else None

why_read : (v : Option Why) → why_back (why_word v) ≡ v
unfolding why_back
why_read None = refl
why_read (Some Plain) = refl
why_read (Some Same) = refl
why_read (Some Unset) = refl
why_read (Some Offline) = refl
why_read (Some Passed) = refl
why_read (Some Kept) = refl

pub why-same : (v w : Option Why) → why_word v ≡ why_word w → v ≡ w
why-same v w e = sym (why_read v) ∙ ap why_back e ∙ why_read w

-- the numbers of a choice
class-fits : (o : Option Choice) → IfSome o ChoiceFits → FitsIn 32 (class_in o)
class-fits None h = tt
class-fits (Some c) h = h.class

want-fits : (o : Option Choice) → IfSome o ChoiceFits → FitsIn 32 (want_in o)
want-fits None h = tt
want-fits (Some c) h = wider c.want h.want

head-fits : (o : Option Choice) → IfSome o ChoiceFits → FitsIn 32 (head_in o)
head-fits None h = tt
head-fits (Some c) h = h.head

tail-fits : (o : Option Choice) → IfSome o ChoiceFits → FitsIn 32 (tail_in o)
tail-fits None h = tt
tail-fits (Some c) h = h.tail

lane-fits : (o : Option Choice) → IfSome o ChoiceFits → FitsIn 32 (lane_in o)
lane-fits None h = tt
lane-fits (Some c) h = let l = h.lane in omega (arith, l)

-- a choice by its parts
choice-same : (o p : Option Choice) → class_in o ≡ class_in p → want_in o ≡ want_in p
    → head_in o ≡ head_in p → tail_in o ≡ tail_in p
    → lane_in o ≡ lane_in p → why_in o ≡ why_in p → o ≡ p
choice-same None None a b c d e f = refl
choice-same None (Some q) a b c d e f = absurd (cc)
choice-same (Some o) None a b c d e f = absurd (cc)
choice-same (Some o) (Some q) a b c d e f =
    let l : o.lane ≡ q.lane = some_same o.lane q.lane e in
    let w : o.why ≡ q.why = some_same o.why q.why f in
    λ i. Some (record { class = a i; want = b i; head = c i; tail = d i; lane = l i; why = w i })

unclassed-same : (o p : Option Choice) → want_in o ≡ want_in p → head_in o ≡ head_in p
    → tail_in o ≡ tail_in p → lane_in o ≡ lane_in p
    → why_in o ≡ why_in p → option_map without_class o ≡ option_map without_class p
unclassed-same None None b c d e f = refl
unclassed-same None (Some q) b c d e f = absurd (cc)
unclassed-same (Some o) None b c d e f = absurd (cc)
unclassed-same (Some o) (Some q) b c d e f =
    let l : o.lane ≡ q.lane = some_same o.lane q.lane e in
    let w : o.why ≡ q.why = some_same o.why q.why f in
    λ i. Some (record { class = None; want = b i; head = c i; tail = d i; lane = l i; why = w i })

no_flow : codes "app" ≡ codes "flow" → ⊥
no_flow e = let f : 97 ≡ 102 = ap (λ xs. slice_index xs 0) e in omega (arith, f)

no_drop : dash ≡ codes "drop" → ⊥
no_drop e = let f : 45 ≡ 100 = ap (λ xs. slice_index xs 0) e in omega (arith, f)

drop_number : (n : ℕ) → n < 2 ^ 32 → decimal n ≡ codes "drop" → ⊥
drop_number n h e = no_number n (codes "drop") (omega (arith, h)) (inr (omega arith)) e

-- what became of a packet is read from its fields, and so are the fields behind them
put-same : (o p : Option Put) (r s : List (List ℕ)) → IfSome o PutFits → IfSome p PutFits
    → put_fields o ++ (codes "app" ∷ r) ≡ put_fields p ++ (codes "app" ∷ s) → (o ≡ p) × (r ≡ s)
put-same None None r s a b e = (refl, ap (after 2) e)
put-same None (Some (At n)) r s a b e = absurd (no_dash n b (sym (ap (field 0) e)))
put-same None (Some (FellAs k x u c)) r s a b e = absurd (no_drop (ap (field 0) e))
put-same (Some (At m)) None r s a b e = absurd (no_dash m a (ap (field 0) e))
put-same (Some (At m)) (Some (At n)) r s a b e =
    let f : m ≡ n = number-same m n a b (ap (field 0) e) in ((λ i. Some (At (f i))), ap (after 2) e)
put-same (Some (At m)) (Some (FellAs k x u c)) r s a b e = absurd (drop_number m a (ap (field 0) e))
put-same (Some (FellAs k x u c)) None r s a b e = absurd (no_drop (sym (ap (field 0) e)))
put-same (Some (FellAs k x u c)) (Some (At n)) r s a b e =
    absurd (drop_number n b (sym (ap (field 0) e)))
put-same (Some (FellAs k x u Full)) (Some (FellAs l y v Full)) r s a b e =
    let f : k ≡ l = number-same k l a.0 b.0 (ap (field 1) e) in
    let g : x ≡ y = number-same x y a.1 b.1 (ap (field 2) e) in
    let h : u ≡ v = number-same u v a.2 b.2 (ap (field 3) e) in
    ((λ i. Some (FellAs (f i) (g i) (h i) Full)), ap (after 5) e)
put-same (Some (FellAs k x u (Flow m))) (Some (FellAs l y v (Flow n))) r s a b e =
    let f : k ≡ l = number-same k l a.0 b.0 (ap (field 1) e) in
    let g : x ≡ y = number-same x y a.1 b.1 (ap (field 2) e) in
    let h : u ≡ v = number-same u v a.2 b.2 (ap (field 3) e) in
    let j : m ≡ n = number-same m n a.3 b.3 (ap (field 5) e) in
    ((λ i. Some (FellAs (f i) (g i) (h i) (Flow (j i)))), ap (after 7) e)
put-same (Some (FellAs k x u Full)) (Some (FellAs l y v (Flow n))) r s a b e =
    absurd (no_flow (ap (field 4) e))
put-same (Some (FellAs k x u (Flow m))) (Some (FellAs l y v Full)) r s a b e =
    absurd (no_flow (sym (ap (field 4) e)))

-- what a packet's line shows, by its fields
pub packet-same : (l m : PacketLine) → PacketFits l → PacketFits m
    → packet_fields l ≡ packet_fields m → SamePacket l m
packet-same l m a b e =
    let put = put-same l.put m.put (after 1 (last_fields l)) (after 1 (last_fields m)) a.put b.put
    (ap (after 18) e) in
    record {
      queue = byte-same l.queue m.queue a.queue b.queue (ap (field 2) e);
      via = via-same l.via m.via (ap (field 4) e);
      choice = choice-same l.choice m.choice
          (option-same (class_in l.choice) (class_in m.choice) (class-fits l.choice a.choice)
          (class-fits m.choice b.choice) (ap (field 6) e))
          (option-same (want_in l.choice) (want_in m.choice) (want-fits l.choice a.choice)
          (want-fits m.choice b.choice) (ap (field 8) e))
          (option-same (head_in l.choice) (head_in m.choice) (head-fits l.choice a.choice)
          (head-fits m.choice b.choice) (ap (field 10) e))
          (option-same (tail_in l.choice) (tail_in m.choice) (tail-fits l.choice a.choice)
          (tail-fits m.choice b.choice) (ap (field 12) e))
          (option-same (lane_in l.choice) (lane_in m.choice) (lane-fits l.choice a.choice)
          (lane-fits m.choice b.choice) (ap (field 14) e))
          (why-same (why_in l.choice) (why_in m.choice) (ap (field 16) e));
      put = put.0;
      inbox = option-same l.inbox m.inbox a.inbox b.inbox (ap (field 2) put.1);
    }

-- what a reply's line shows, by its fields
pub reply-same : (r s : ReplyLine) → ReplyFits r → ReplyFits s → r.id ≡ s.id → r.app ≡ s.app
    → r.flow_number ≡ s.flow_number
    → reply_fields r ≡ reply_fields s → shown_of r ≡ shown_of s
reply-same r s a b i p n e =
    let q : r.rxq ≡ s.rxq = byte-same r.rxq s.rxq a.rxq b.rxq (ap (field 4) e) in
    let c : r.cpu ≡ s.cpu = byte-same r.cpu s.cpu a.cpu b.cpu (ap (field 6) e) in
    let ch = unclassed-same r.choice s.choice
    (option-same (want_in r.choice) (want_in s.choice) (want-fits r.choice a.choice)
    (want-fits s.choice b.choice) (ap (field 8) e))
    (option-same (head_in r.choice) (head_in s.choice) (head-fits r.choice a.choice)
    (head-fits s.choice b.choice) (ap (field 10) e))
    (option-same (tail_in r.choice) (tail_in s.choice) (tail-fits r.choice a.choice)
    (tail-fits s.choice b.choice) (ap (field 12) e))
    (option-same (lane_in r.choice) (lane_in s.choice) (lane-fits r.choice a.choice)
    (lane-fits s.choice b.choice) (ap (field 14) e))
    (why-same (why_in r.choice) (why_in s.choice) (ap (field 16) e)) in
    let u : r.put ≡ s.put = option-same r.put s.put a.put b.put (ap (field 18) e) in
    let o : r.port ≡ s.port = option-same r.port s.port a.port b.port (ap (field 20) e) in
    λ k. record {
      id = i k;
      app = p k;
      rxq = q k;
      cpu = c k;
      choice = ch k;
      put = u k;
      port = o k;
      flow_number = n k;
    }
