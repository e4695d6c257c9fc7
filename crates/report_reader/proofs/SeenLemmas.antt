-- What the fields of a line show.
use Rattle.std.proofs.Common.{ℕ, ◌≡◌, Option, Some, None, refl, sym}
use Rattle.steer_base.specs.declared.choice.Choice.{Choice}
use Rattle.steer_base.specs.declared.choice.Why.{Why}
use Rattle.history.specs.Ranges.{ChoiceFits, FitsIn}
use Rattle.std.specs.Option.{IfSome}
use Rattle.report.specs.Lines.{class_in, head_in, lane_in, tail_in, want_in, why_in}
use Rattle.report.proofs.Spelling.{some_same}

pub class-fits : (o : Option Choice) → IfSome o ChoiceFits → FitsIn 32 (class_in o)
class-fits None h = tt
class-fits (Some c) h = h.class

pub want-fits : (o : Option Choice) → IfSome o ChoiceFits → FitsIn 8 (want_in o)
want-fits None h = tt
want-fits (Some c) h = h.want

pub head-fits : (o : Option Choice) → IfSome o ChoiceFits → FitsIn 32 (head_in o)
head-fits None h = tt
head-fits (Some c) h = h.head

pub tail-fits : (o : Option Choice) → IfSome o ChoiceFits → FitsIn 32 (tail_in o)
tail-fits None h = tt
tail-fits (Some c) h = h.tail

pub lane-fits : (o : Option Choice) → IfSome o ChoiceFits → FitsIn 8 (lane_in o)
lane-fits None h = tt
lane-fits (Some c) h = h.lane

pub none-choice : (o : Option Choice) → lane_in o ≡ None → None ≡ o
none-choice None e = refl
none-choice (Some c) e = absurd (cc)

pub why-none : (o : Option Choice) → why_in o ≡ None → None ≡ o
why-none None e = refl
why-none (Some c) e = absurd (cc)

pub some-choice : (o : Option Choice) (class want head tail : Option ℕ) (lane : ℕ) (why : Why)
    → class_in o ≡ class → want ≡ want_in o
    → head ≡ head_in o → tail ≡ tail_in o → Some lane ≡ lane_in o → Some why ≡ why_in o
    → Some (record { class = class; head = head; tail = tail; want = want; lane = lane; why = why })
    ≡ o
some-choice None class want head tail lane why a b c d e f = absurd (cc)
some-choice (Some o) class want head tail lane why a b c d e f =
    let l : lane ≡ o.lane = some_same lane o.lane e in
    let w : why ≡ o.why = some_same why o.why f in
    let k : class ≡ o.class = sym a in
    λ i. Some (record { class = k i; head = c i; tail = d i; want = b i; lane = l i; why = w i })
