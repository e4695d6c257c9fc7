-- Every event of a run keeps the moments of arrivals and choices, and adds its own.
use Rattle.std.proofs.Common.{ℕ, ◌+◌, ◌<◌, ◌≡◌, List, [], ◌∷◌, ◌++◌, Option, Some}
use Rattle.std.proofs.Common.{None, length, refl, ap, ◌∙◌, sym, subst, arith, inl, inr, get_or}
use Rattle.std.specs.Prelude.{slice_get, slice_index}
use Rattle.std.proofs.lemmas.Bool.{cases_eq}
use Rattle.history.specs.declared.arrival.Arrival.{Arrival}
use Rattle.hop_model.specs.Hop.{arrivals_of, choices_of, next_of, taken_of}
use Rattle.hop_core.proofs.Lists.{Changed-set}
use Rattle.steer_base.specs.declared.choice.Chosen.{Chosen}
use Rattle.steer_base.specs.declared.step.Step.{Step}
use Rattle.steer_invariant.specs.HopInvariants.{IsNoted}
use Rattle.steer_invariant.specs.Invariant.{Invariant}
use Rattle.steer_invariant.specs.StepInvariant.{IsNamed}
use Rattle.steer_invariant.proofs.StepInvariant.ArrivalLemmas.{next_arrival}
use Rattle.steer_model.specs.Good.Inputs.{Input}
use Rattle.steer_model.specs.State.Machine.{Machine, note_of}
use Rattle.steer_model.specs.Steps.Commands.{given}
use Rattle.steer_model.specs.Steps.Pollers.{arrives, seen_by, with_note}
use Rattle.steer_model.specs.Steps.SingleSteps.{simple}
use Rattle.steer_model.specs.declared.note.Note.TheVariants as note
use Rattle.steer_properties.proofs.Choices.ClearLemmas.{clear-words}
use Rattle.steer_properties.proofs.Choices.ClearStepLemmas.{Clear}
use Rattle.steer_properties.proofs.Histories.ExtendLemmas.{blank-at, extends-get, get-either}
use Rattle.steer_properties.proofs.Histories.LastingLemmas.{Lasts, LookedStays, looked-in}
use Rattle.steer_properties.proofs.Histories.StepKindLemmas.{new_choice, new_tx_choice}
use Rattle.steer_properties.proofs.Histories.StepKindLemmas.{tx_weighed, walk, weighed}
use Rattle.headline.specs.Moments.{ChosenAt, HasArrivedNext, HasChosenNext, HasRepliedNext}
use Rattle.headline.specs.Moments.{Moment, start_of, state_at}
use Rattle.headline.proofs.RunLemmas.{GoesOn, did-before, did-now, moment-later, moment-now}
use Rattle.headline.proofs.RunLemmas.{seen-is-last, state-before}

-- ---- what a state says of the moments before it

-- what a poller saw in the socket flow table for the packet that it weighs next
record LookedAt (i : Input) (es : List Step) (m : Machine) (q : ℕ) (want : Option ℕ) : Type 0 where
  look : ℕ
  order : look < length es
  seen : want ≡ seen_by (state_at i es look) q (next_of m.rx q)
  noted : note_of (state_at i es (look + 1)) q ≡ note.Looked want

pub record Moments (i : Input) (es : List Step) (m : Machine) : Type 0 where
  pub arrivals : (k : ℕ) (a : Arrival) → slice_get m.arrivals k ≡ Some a
      → Moment i es (HasArrivedNext k a)
  looks : (q : ℕ) (want : Option ℕ) → note_of m q ≡ note.Looked want → LookedAt i es m q want
  pub choices : (q k : ℕ) (c : Chosen) → slice_get (choices_of m.rx q) k ≡ Some c
      → ChosenAt i es q k c
  pub replies : (a k : ℕ) (c : Chosen) → slice_get (choices_of m.tx a) k ≡ Some c
      → Moment i es (HasRepliedNext a k c)

module _ (i : Input) (es fs : List Step) (m n : Machine) (go : GoesOn i es fs m n) where
  chosen-later : (q k : ℕ) (c : Chosen) → ChosenAt i es q k c → ChosenAt i fs q k c
  chosen-later q k c w =
      let lt = w.within in let first = w.order in let long = go.longer in
      let same : state_at i fs w.look ≡ state_at i es w.look =
      state-before i es fs m n go w.look (omega (arith, first, lt)) in
      let seen : w.want ≡ seen_by (state_at i fs w.look) q c.id =
      w.seen ∙ ap (λ (t : Machine). seen_by t q c.id) (sym same) in
      record {
        look = w.look;
        weigh = w.weigh;
        order = w.order;
        within = omega (arith, lt, long);
        want = w.want;
        seen = seen;
        written = seen ∙ seen-is-last i fs w.look q c.id;
        noted = ap (λ (t : Machine). note_of t q)
            (state-before i es fs m n go (w.look + 1) (omega (arith, first, lt)))
            ∙ w.noted;
        made = did-before i es fs m n go (HasChosenNext q k c w.want) w.weigh lt w.made;
      }

  looked-later : (q : ℕ) (want : Option ℕ) → next_of n.rx q ≡ next_of m.rx q
      → LookedAt i es m q want → LookedAt i fs n q want
  looked-later q want same w =
      let lt = w.order in let long = go.longer in
      let before : state_at i fs w.look ≡ state_at i es w.look =
      state-before i es fs m n go w.look (omega (arith, lt)) in
      record {
        look = w.look;
        order = omega (arith, lt, long);
        seen = w.seen ∙ ap (λ (t : Machine). seen_by t q (next_of m.rx q)) (sym before)
            ∙ ap (seen_by (state_at i fs w.look) q) (sym same);
        noted = ap (λ (t : Machine). note_of t q)
            (state-before i es fs m n go (w.look + 1) (omega (arith, lt)))
            ∙ w.noted;
      }

  -- the next packet of a poller that looked stays, while no choice is made for its queue
  next-stays : (q : ℕ) (want : Option ℕ) → Invariant m → Lasts m n
      → choices_of n.rx q ≡ choices_of m.rx q → note_of m q ≡ note.Looked want
      → next_of n.rx q ≡ next_of m.rx q
  next-stays q want h l same is =
      let k = h.kept in
      let more : length (choices_of m.rx q) < taken_of m.rx q =
      subst (λ x. IsNoted m.rx q x) is (k.noted q) in
      let upto = k.rx.sound.hands.arrived q in
      ap (λ cs. slice_index (arrivals_of n.rx q) (length cs)) same
      ∙ extends-get (arrivals_of m.rx q) (arrivals_of n.rx q) (length (choices_of m.rx q)) 0
      (l.rx.arrivals q) (omega (arith, more, upto))

  arrived-later : Moments i es m → (k : ℕ) (a : Arrival) → slice_get m.arrivals k ≡ Some a
      → Moment i fs (HasArrivedNext k a)
  arrived-later old k a is =
      moment-later i es fs m n go (HasArrivedNext k a) (old.arrivals k a is)

  replied-later : Moments i es m → (a k : ℕ) (c : Chosen)
      → slice_get (choices_of m.tx a) k ≡ Some c → Moment i fs (HasRepliedNext a k c)
  replied-later old a k c is =
      moment-later i es fs m n go (HasRepliedNext a k c) (old.replies a k c is)

  -- a step by which no choice is made
  unchosen : Invariant m → Lasts m n → n.rx.choices ≡ m.rx.choices → n.tx.choices ≡ m.tx.choices
      → LookedStays m n
      → ((k : ℕ) (a : Arrival) → slice_get n.arrivals k ≡ Some a → Moment i fs (HasArrivedNext k a))
      → Moments i es m → Moments i fs n
  unchosen h l rx tx looked arrived old =
      record {
        arrivals = arrived;
        looks = λ q want is. (
            let w = looked q want is in
            let same : choices_of n.rx q ≡ choices_of m.rx q =
            ap (λ (cs : List (List Chosen)). get_or cs q []) rx in
            looked-later q want (next-stays q want h l same w.0) (old.looks q want w.0));
        choices = λ q k c is. chosen-later q k c (old.choices q k c
            (sym (ap (λ (cs : List (List Chosen)). slice_get (get_or cs q []) k) rx) ∙ is));
        replies = λ a k c is. replied-later old a k c
            (sym (ap (λ (cs : List (List Chosen)). slice_get (get_or cs a []) k) tx) ∙ is);
      }

  -- and nothing arrives
  still-arrived : n.arrivals ≡ m.arrivals → Moments i es m → (k : ℕ) (a : Arrival)
      → slice_get n.arrivals k ≡ Some a → Moment i fs (HasArrivedNext k a)
  still-arrived same old k a is =
      arrived-later old k a
      (sym (ap (λ (list : List Arrival). slice_get list k) same) ∙ is)

-- ---- an arrival, a look, and choices

module _ (i : Input) (es fs : List Step) (m : Machine) (h : Invariant m)
    (old : Moments i es m) where
  arrived-one : GoesOn i es fs m (arrives m (next_arrival m)) → (k : ℕ) (a : Arrival)
      → slice_get (arrives m (next_arrival m)).arrivals k ≡ Some a
      → Moment i fs (HasArrivedNext k a)
  arrived-one go k a is =
      let new : Arrival = next_arrival m in
      let n : Machine = arrives m new in
      elim (get-either m.arrivals new a k is) [
        | inl before ↦ arrived-later i es fs m n go old k a before
        | inr last ↦
            let did : HasArrivedNext (length m.arrivals) new m n =
            record { next = refl; is = refl; made = refl } in
            moment-now i es fs m n go (HasArrivedNext k a)
            (subst (λ x. HasArrivedNext k x m n) last.1
            (subst (λ j. HasArrivedNext j new m n) (sym last.0) did))
      ]

  looked-one : (q : ℕ) → q < length m.setup.homes
      → GoesOn i es fs m (with_note m q (note.Looked (seen_by m q (next_of m.rx q))))
      → Moments i fs (with_note m q (note.Looked (seen_by m q (next_of m.rx q))))
  looked-one q in' go =
      let x : Option ℕ = seen_by m q (next_of m.rx q) in
      let n : Machine = with_note m q (note.Looked x) in
      let long = go.longer in let ls = h.kept.lists in
      let ns = Changed-set m.notes q (note.Looked x) note.Nothing
      (omega (arith, in', ls.notes_long)) in
      record {
        arrivals = still-arrived i es fs m n go refl old;
        looks = λ p want is. elim (looked-in m.notes q (note.Looked x) p want is) [
          | inl new ↦
              let same : x ≡ want = (let f : note.Looked x ≡ note.Looked want = new.1 in cc) in
              let one : LookedAt i fs n q want =
              record {
                look = length es;
                order = omega (arith, long);
                seen = sym same
                    ∙ ap (λ (t : Machine). seen_by t q (next_of m.rx q)) (sym go.here);
                noted = ap (λ (t : Machine). note_of t q) go.there ∙ ns.here ∙ new.1;
              } in
              subst (λ r. LookedAt i fs n r want) (sym new.0) one
          | inr before ↦ looked-later i es fs m n go p want refl (old.looks p want before)
        ];
        choices = λ p k c is. chosen-later i es fs m n go p k c (old.choices p k c is);
        replies = replied-later i es fs m n go old;
      }

  chosen-one : (q : ℕ) (want : Option ℕ) → q < length m.setup.homes
      → note_of m q ≡ note.Looked want → GoesOn i es fs m (weighed m q want)
      → Invariant (weighed m q want) → Clear (weighed m q want) → (k : ℕ) (c : Chosen)
      → slice_get (choices_of (weighed m q want).rx q) k ≡ Some c → ChosenAt i fs q k c
  chosen-one q want in' is go g clear k c at =
      let n : Machine = weighed m q want in
      let kept = h.kept in let gk = g.kept in let long = go.longer in
      let z = kept.rx.sizes in let w = kept.rx.sound.wide in
      let new : Chosen = record { id = next_of m.rx q; choice = new_choice m q want } in
      let ch = Changed-set m.rx.choices q (choices_of m.rx q ++ new ∷ []) []
      (omega (arith, in', z.queues, w.choices)) in
      let made : choices_of n.rx q ≡ choices_of m.rx q ++ new ∷ [] = ch.here in
      let did : HasChosenNext q (length (choices_of m.rx q)) new want m n =
      record {
        next = refl;
        packet = refl;
        choice = refl;
        made = made;
        clear = clear-words n.rx gk.rx.sound clear.rx q;
      } in
      let one : ChosenAt i fs q (length (choices_of m.rx q)) new =
      (let l = old.looks q want is in
      let lt = l.order in
      let same : state_at i fs l.look ≡ state_at i es l.look =
      state-before i es fs m n go l.look (omega (arith, lt)) in
      let seen : want ≡ seen_by (state_at i fs l.look) q new.id =
      l.seen ∙ ap (λ (t : Machine). seen_by t q new.id) (sym same) in
      record {
        look = l.look;
        weigh = length es;
        order = lt;
        within = omega (arith, long);
        want = want;
        seen = seen;
        written = seen ∙ seen-is-last i fs l.look q new.id;
        noted = ap (λ (t : Machine). note_of t q)
            (state-before i es fs m n go (l.look + 1) (omega (arith, lt)))
            ∙ l.noted;
        made = did-now i es fs m n go
            (HasChosenNext q (length (choices_of m.rx q)) new want) did;
      }) in
      elim (get-either (choices_of m.rx q) new c k
      (sym (ap (λ (cs : List Chosen). slice_get cs k) made) ∙ at)) [
        | inl before ↦ chosen-later i es fs m n go q k c (old.choices q k c before)
        | inr last ↦ subst (λ d. ChosenAt i fs q k d) last.1
            (subst (λ j. ChosenAt i fs q j new) (sym last.0) one)
      ]

  weighed-one : (q : ℕ) (want : Option ℕ) → q < length m.setup.homes
      → note_of m q ≡ note.Looked want → GoesOn i es fs m (weighed m q want)
      → Invariant (weighed m q want) → Clear (weighed m q want) → Moments i fs (weighed m q want)
  weighed-one q want in' is go g clear =
      let n : Machine = weighed m q want in
      let kept = h.kept in let z = kept.rx.sizes in let w = kept.rx.sound.wide in
      let ls = kept.lists in
      let new : Chosen = record { id = next_of m.rx q; choice = new_choice m q want } in
      let ch = Changed-set m.rx.choices q (choices_of m.rx q ++ new ∷ []) []
      (omega (arith, in', z.queues, w.choices)) in
      let ns = Changed-set m.notes q note.Nothing note.Nothing
      (omega (arith, in', ls.notes_long)) in
      record {
        arrivals = still-arrived i es fs m n go refl old;
        looks = λ p other at. elim (cases_eq p q) [
          | inl e ↦ absurd (
              let f : note.Nothing ≡ note.Looked other =
              sym ns.here ∙ ap (note_of n) (sym e) ∙ at in cc)
          | inr ne ↦
              let before : note_of m p ≡ note.Looked other = sym (ns.there p ne) ∙ at in
              looked-later i es fs m n go p other
              (ap (λ cs. slice_index (arrivals_of m.rx p) (length cs)) (ch.there p ne))
              (old.looks p other before)
        ];
        choices = λ p k c at. elim (cases_eq p q) [
          | inl e ↦ subst (λ r. ChosenAt i fs r k c) (sym e)
              (chosen-one q want in' is go g clear k c
              (sym (ap (λ r. slice_get (choices_of n.rx r) k) e) ∙ at))
          | inr ne ↦ chosen-later i es fs m n go p k c (old.choices p k c
              (sym (ap (λ (cs : List Chosen). slice_get cs k) (ch.there p ne)) ∙ at))
        ];
        replies = replied-later i es fs m n go old;
      }

  replied-one : (a : ℕ) → a < m.setup.apps → GoesOn i es fs m (tx_weighed m a)
      → Invariant (tx_weighed m a) → Clear (tx_weighed m a) → (k : ℕ) (c : Chosen)
      → slice_get (choices_of (tx_weighed m a).tx a) k ≡ Some c
      → Moment i fs (HasRepliedNext a k c)
  replied-one a in' go g clear k c at =
      let n : Machine = tx_weighed m a in
      let kept = h.kept in let gk = g.kept in
      let z = kept.tx.sizes in let w = kept.tx.sound.wide in
      let new : Chosen = record { id = next_of m.tx a; choice = new_tx_choice m a } in
      let ch = Changed-set m.tx.choices a (choices_of m.tx a ++ new ∷ []) []
      (omega (arith, in', z.apps, w.choices)) in
      let made : choices_of n.tx a ≡ choices_of m.tx a ++ new ∷ [] = ch.here in
      let did : HasRepliedNext a (length (choices_of m.tx a)) new m n =
      record {
        next = refl;
        packet = refl;
        choice = refl;
        made = made;
        clear = clear-words n.tx gk.tx.sound clear.tx a;
      } in
      elim (get-either (choices_of m.tx a) new c k
      (sym (ap (λ (cs : List Chosen). slice_get cs k) made) ∙ at)) [
        | inl before ↦ replied-later i es fs m n go old a k c before
        | inr last ↦
            moment-now i es fs m n go (HasRepliedNext a k c)
            (subst (λ d. HasRepliedNext a k d m n) last.1
            (subst (λ j. HasRepliedNext a j new m n) (sym last.0) did))
      ]

  tx-weighed-one : (a : ℕ) → a < m.setup.apps → GoesOn i es fs m (tx_weighed m a)
      → Invariant (tx_weighed m a) → Clear (tx_weighed m a) → Moments i fs (tx_weighed m a)
  tx-weighed-one a in' go g clear =
      let n : Machine = tx_weighed m a in
      let kept = h.kept in let z = kept.tx.sizes in let w = kept.tx.sound.wide in
      let new : Chosen = record { id = next_of m.tx a; choice = new_tx_choice m a } in
      let ch = Changed-set m.tx.choices a (choices_of m.tx a ++ new ∷ []) []
      (omega (arith, in', z.apps, w.choices)) in
      record {
        arrivals = still-arrived i es fs m n go refl old;
        looks = λ q want at. looked-later i es fs m n go q want refl (old.looks q want at);
        choices = λ q k c at. chosen-later i es fs m n go q k c (old.choices q k c at);
        replies = λ b k c at. elim (cases_eq b a) [
          | inl e ↦ subst (λ r. Moment i fs (HasRepliedNext r k c)) (sym e)
              (replied-one a in' go g clear k c
              (sym (ap (λ r. slice_get (choices_of n.tx r) k) e) ∙ at))
          | inr ne ↦ replied-later i es fs m n go old b k c
              (sym (ap (λ (cs : List Chosen). slice_get cs k) (ch.there b ne)) ∙ at)
        ];
      }

-- ---- every step

pub moments-simple : (i : Input) (es fs : List Step) (m : Machine) (s : Step) → Invariant m
    → IsNamed m.setup s → GoesOn i es fs m (simple m s).0 → Invariant (simple m s).0
    → Clear (simple m s).0 → Moments i es m → Moments i fs (simple m s).0
moments-simple i es fs m s h named go held clear old =
    walk m h (λ n. GoesOn i es fs m n → Invariant n → Clear n → Moments i fs n) s
    (record {
      quiet = λ n k g inv cl. (let t = k.still in
          unchosen i es fs m n g h t.lasts t.rx.choices t.tx.choices t.looked
          (still-arrived i es fs m n g k.arrivals old) old);
      arrive = λ few k g inv cl.
          unchosen i es fs m _ g h k.lasts k.rx.choices k.tx.choices k.looked
          (arrived-one i es fs m h old g) old;
      look = λ q in' inside more g inv cl. looked-one i es fs m h old q in' g;
      weigh = λ q want in' is more l g inv cl. weighed-one i es fs m h old q want in' is g inv cl;
      write = λ flow hash is some k g inv cl.
          unchosen i es fs m _ g h k.lasts k.rx.choices k.tx.choices k.looked
          (still-arrived i es fs m _ g refl old) old;
      send = λ a x in' is k g inv cl.
          unchosen i es fs m _ g h k.lasts k.rx.choices k.tx.choices k.looked
          (still-arrived i es fs m _ g refl old) old;
      tx_weigh = λ a in' more l g inv cl. tx-weighed-one i es fs m h old a in' g inv cl;
      give = λ c is in' d g inv cl.
          unchosen i es fs m (given m c).0 g h d.lasts d.choices d.tx.choices d.looked
          (still-arrived i es fs m (given m c).0 g d.arrivals old) old;
    }) named go held clear

-- ---- a new machine

pub moments-new : (i : Input) → Moments i [] (start_of i)
moments-new i =
    let m : Machine = start_of i in
    record {
      arrivals = λ k a is. absurd (cc);
      looks = λ q want is. absurd (
          let quiet : note_of m q ≡ note.Nothing =
          blank-at (length i.plan.queues) q note.Nothing in
          let f : note.Nothing ≡ note.Looked want = sym quiet ∙ is in cc);
      choices = λ q k c is. absurd (
          let none : choices_of m.rx q ≡ [] = blank-at (length m.rx.counts) q [] in
          let f : None ≡ Some c =
          sym (ap (λ (cs : List Chosen). slice_get cs k) none) ∙ is in cc);
      replies = λ a k c is. absurd (
          let none : choices_of m.tx a ≡ [] = blank-at (length m.tx.counts) a [] in
          let f : None ≡ Some c =
          sym (ap (λ (cs : List Chosen). slice_get cs k) none) ∙ is in cc);
    }
