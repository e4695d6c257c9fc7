-- Every step keeps each choice of each receive queue by the rule.
use Rattle.std.proofs.Common.{ℕ, ◌+◌, ◌<◌, ◌≡◌, cond, List, [], ◌∷◌, ◌++◌, Option}
use Rattle.std.proofs.Common.{length, ap, ◌∙◌, sym, subst, arith, inl, inr, get_or}
use Rattle.std.proofs.lemmas.Bool.{cases_eq}
use Rattle.std.proofs.lemmas.List.{length_push}
use Rattle.hop_model.specs.Hop.{HopState, choices_of, since_of}
use Rattle.hop_core.proofs.Lists.{Changed-set}
use Rattle.history.specs.declared.commanded.Commanded.{Commanded}
use Rattle.steer_base.specs.declared.choice.Chosen.{Chosen}
use Rattle.steer_base.specs.declared.command.Command.{Command}
use Rattle.steer_base.specs.declared.step.Step.{Step}
use Rattle.hop_model.specs.Hop.{next_of}
use Rattle.steer_model.specs.Steps.Commands.{answer_to, given, is_done}
use Rattle.steer_model.specs.Good.Inputs.{Input, is_resize, settings_after, setup_in, since_at}
use Rattle.steer_model.specs.State.Machine.{Machine}
use Rattle.steer_model.specs.State.Settings.{Settings, changed}
use Rattle.steer_model.specs.State.Start.{new_machine, initial_settings}
use Rattle.steer_model.specs.Steps.SingleSteps.{simple}
use Rattle.steer_model.specs.declared.note.Note.{Note}
use Rattle.steer_invariant.specs.Invariant.{Invariant}
use Rattle.steer_invariant.specs.StepInvariant.{IsNamed}
use Rattle.steer_properties.proofs.Histories.ExtendLemmas.{blank-at}
use Rattle.steer_properties.proofs.Histories.LastingLemmas.{Given, Lasts, Still}
use Rattle.steer_properties.proofs.Choices.LookLemmas.{Looking, LooksAt}
use Rattle.steer_properties.proofs.Histories.MomentLemmas.{settings-pushed, since-given, then_at}
use Rattle.steer_properties.proofs.Choices.RuleLemmas.{Ruled, Rules, ruled-chosen, ruled-stays}
use Rattle.steer_properties.proofs.Histories.StepKindLemmas.{new_choice, walk, weighed}

-- ---- the settings in force are those after all commands

abbrev pub Follows : Input → Machine → Type 0
Follows i m = m.settings ≡ settings_after (initial_settings i.plan) m.commands

follows-still : (i : Input) (m n : Machine) → Still m n → Follows i m → Follows i n
follows-still i m n s f =
    s.settings ∙ f ∙ ap (settings_after (initial_settings i.plan)) (sym s.commands)

follows-given : (i : Input) (m n : Machine) (c : Command)
    → Given m c (answer_to m c) n → Follows i m → Follows i n
follows-given i m n c g f =
    let s : Settings = initial_settings i.plan in
    let x : Commanded = record { command = c; answer = answer_to m c } in
    g.settings
    ∙ ap (λ t. cond (is_done (answer_to m c)) (changed t c) t) f
    ∙ sym (settings-pushed m.commands s x)
    ∙ ap (settings_after s) (sym g.commands)

pub follows-simple : (i : Input) (m : Machine) (s : Step) → Invariant m → IsNamed m.setup s
    → Follows i m → Follows i (simple m s).0
follows-simple i m s h named f =
    walk m h (Follows i) s
    (record {
      quiet = λ n k. follows-still i m n k.still f;
      arrive = λ few k. f;
      look = λ q in' inside more. f;
      weigh = λ q want in' is more l. f;
      write = λ flow hash is some k. f;
      send = λ a x in' is k. f;
      tx_weigh = λ a in' more l. f;
      give = λ c is in' g. follows-given i m (given m c).0 c g f;
    }) named

-- ---- the rule

rules-still : (i : Input) (m n : Machine) → Invariant m → Invariant n → Still m n → Rules i m
    → Rules i n
rules-still i m n h g s old q =
    let k = h.kept in let l = g.kept in
    let at = (old q).0 in let r = (old q).1 in
    let since : since_of n.rx q ≡ since_of m.rx q = ap (λ l. get_or l q 0) s.rx.since in (
      at,
      ruled-stays i m n k.rx.sound l.rx.sound s.lasts q at r
          (ap (λ (l : List (List Chosen)). get_or l q []) s.rx.choices)
          (since ∙ r.since
          ∙ ap
          (λ cs. since_at cs q (then_at (length (choices_of m.rx q)) (length cs) at)
          (length (choices_of m.rx q))) (sym s.commands)),
    )

-- other notes, and another transmit hop
rules-beside : (i : Input) (m : Machine) (notes : List Note) (t : HopState) → Rules i m
    → Rules i (record m { notes = notes; tx = t })
rules-beside i m notes t old q =
    let r = (old q).1 in
    ((old q).0, record { prefixes = r.prefixes; each = r.each; wants = r.wants; since = r.since })

rules-given : (i : Input) (m n : Machine) (c : Command) → Invariant m → Invariant n
    → Given m c (answer_to m c) n → Rules i m → Rules i n
rules-given i m n c h g d old q =
    let k = h.kept in let l = g.kept in
    let at = (old q).0 in let r = (old q).1 in
    let len : ℕ = length (choices_of m.rx q) in
    let x : Commanded = record { command = c; answer = answer_to m c } in
    let cs : List Commanded = m.commands ++ x ∷ [] in
    let long : length m.commands + 1 ≡ length cs = sym (length_push m.commands x) in
    let since : since_of n.rx q ≡ since_at cs q (then_at len (length cs) at) len =
    d.since q ∙ ap (cond (is_resize q x) len) r.since
    ∙ sym (since-given m.commands x q len at (λ j lt. r.prefixes.within j lt))
    ∙ ap (λ t. since_at cs q (then_at len t at) len) long in (
      at,
      ruled-stays i m n k.rx.sound l.rx.sound d.lasts q at r
          (ap (λ (l : List (List Chosen)). get_or l q []) d.choices)
          (since ∙ ap (λ t. since_at t q (then_at len (length t) at) len) (sym d.commands)),
    )

rules-weighed : (i : Input) (m : Machine) (q : ℕ) (want : Option ℕ) → m.setup ≡ setup_in i
    → Follows i m → Invariant m → Invariant (weighed m q want) → q < length m.setup.homes
    → LooksAt m q want → Lasts m (weighed m q want) → Rules i m → Rules i (weighed m q want)
rules-weighed i m q want setup follows h g in' looks l old p =
    let k = h.kept in let j = g.kept in
    let z = k.rx.sizes in let w = k.rx.sound.wide in
    let long : q < length m.rx.choices = omega (arith, in', z.queues, w.choices) in
    elim (cases_eq p q) [
      | inl e ↦
          let at = (old q).0 in let r = (old q).1 in
          let one : (bt : ℕ → ℕ) × Ruled i (weighed m q want) q bt = (
            then_at (length (choices_of m.rx q)) (length m.commands) at,
            ruled-chosen i m q want setup follows k.rx.sound j.rx.sound long looks.from at l r,
          ) in
          subst (λ n. (bt : ℕ → ℕ) × Ruled i (weighed m q want) n bt) (sym e) one
      | inr ne ↦
          let at = (old p).0 in let r = (old p).1 in
          let new : Chosen = record { id = next_of m.rx q; choice = new_choice m q want } in
          let ch = Changed-set m.rx.choices q (choices_of m.rx q ++ new ∷ []) [] long in (
            at,
            ruled-stays i m (weighed m q want) k.rx.sound j.rx.sound l p at r (ch.there p ne)
                r.since,
          )
    ]

pub rules-simple : (i : Input) (m : Machine) (s : Step) → m.setup ≡ setup_in i → Follows i m
    → Looking m → Invariant m → Invariant (simple m s).0 → IsNamed m.setup s → Rules i m
    → Rules i (simple m s).0
rules-simple i m s setup follows looks h g named old =
    walk m h (λ n. Invariant n → Rules i n) s
    (record {
      quiet = λ n k g. rules-still i m n h g k.still old;
      arrive = λ few k g. rules-still i m _ h g k old;
      look = λ q in' inside more g. rules-beside i m _ m.tx old;
      weigh = λ q want in' is more l g.
          rules-weighed i m q want setup follows h g in' (looks q want is) l old;
      write = λ flow hash is some k g. rules-still i m _ h g k old;
      send = λ a x in' is k g. rules-still i m _ h g k old;
      tx_weigh = λ a in' more l g. rules-beside i m m.notes _ old;
      give = λ c is in' d g. rules-given i m (given m c).0 c h g d old;
    }) named g

-- ---- a new machine

pub rules-new : (i : Input) → Rules i (new_machine i.plan i.packets i.cut)
rules-new i q =
    let m : Machine = new_machine i.plan i.packets i.cut in
    let many : ℕ = length (initial_settings i.plan).counts in
    let none : choices_of m.rx q ≡ [] = blank-at many q [] in
    let long : length (choices_of m.rx q) ≡ 0 = ap length none in (
      λ k. 0,
      record {
        prefixes = record {
          within = λ k lt. omega arith;
          grow = λ k lt. omega arith;
        };
        each = λ k lt. absurd (omega (arith, lt, long));
        wants = λ k want lt. absurd (omega (arith, lt, long));
        since = blank-at many q 0
            ∙ ap (λ n. since_at [] q (then_at n 0 (λ k. 0)) n) (sym long);
      },
    )
