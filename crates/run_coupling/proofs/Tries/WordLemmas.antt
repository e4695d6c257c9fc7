-- The words of a receive board after tries are the settings after their commands.
use Rattle.std.proofs.lemmas.List.{get_or-set_same, length-set}
use Rattle.steer_base.specs.Sets.{with_cpu, without_cpu}
use Rattle.steer_base.specs.declared.command.Command.TheVariants as give
use Rattle.hop_delivery.specs.Orders.Commands.{next_flows}
use Rattle.steer_model.specs.Good.Inputs.{is_flows}
use Rattle.run_coupling.proofs.Names.{◌≡◌, inl, inr, ℕ, suc, ◌+◌, ◌*◌, ◌/◌, ◌^◌, ◌<◌, ◌==◌, ◌&&◌}
use Rattle.run_coupling.proofs.Names.{Bool, true, false, List, [], ◌∷◌, ◌++◌, length, All}
use Rattle.run_coupling.proofs.Names.{if◌then◌else◌, sym, refl, ap, ◌∙◌, subst, arith, slice_index}
use Rattle.run_coupling.proofs.Names.{slice_index_or, slice_set, get_or-set_other, All-head}
use Rattle.run_coupling.proofs.Names.{All-tail, dite, ℕ_discrete, if_same, if_other, rounded_up}
use Rattle.run_coupling.proofs.Names.{Command, CpuMask, own_settings, with_setting, BoardSizes}
use Rattle.run_coupling.proofs.Names.{BoardStep, SettingChange, received_sets, Queues, queues}
use Rattle.run_coupling.proofs.Names.{is_done, Settings, changed, AreReceiveWords}
use Rattle.run_coupling.proofs.Names.{NamesReceiveQueues, AllSetByAnswer, Try, sets_and_openings}
use Rattle.run_coupling.proofs.Names.{settings_by, steps_of_tries, words_after}
use Rattle.run_coupling.proofs.Tries.TryLemmas.{Form, sets_one, opens, makes_none, form, made-more}
use Rattle.run_coupling.proofs.Tries.TryLemmas.{words-made}
use Rattle.run_coupling.proofs.Tries.ResizeLemmas.{resizes_by}

abbrev first_made : List SettingChange → SettingChange
first_made [] = record { word = 0; value = 0 }
first_made (m ∷ ms) = m

-- the generations after a command that was done
abbrev pub gens_after : Command → (ℕ → ℕ) → ℕ → ℕ
gens_after c g p = if is_flows p c then suc (g p) else g p

module _ (q : Queues) (s : Settings) (g : ℕ → ℕ) (w : ℕ → ℕ) (a : AreReceiveWords q s g w) where
  abbrev Q : ℕ
  Q = queues q

  abbrev After : Command → Type 0
  After c =
      let m : SettingChange = first_made (received_sets q w c) in
      AreReceiveWords q (changed s c) (gens_after c g) (with_setting w m.word m.value)

  after-mask : (r : ℕ) (mask : CpuMask) → r < Q → After (give.Mask r mask)
  after-mask r mask within =
      record {
        masks = length-set s.masks r mask ∙ a.masks;
        counts = a.counts;
        mask = λ p lt.
            dite (ℕ_discrete r p)
            (λ e.
            if_same r p mask.0 (w p) e
            ∙ sym (ap (λ (z : CpuMask). z.0)
            (ap (λ k. slice_index_or (slice_set s.masks r mask) k (record { 0 = 0 })) (sym e)
            ∙ get_or-set_same s.masks r mask (record { 0 = 0 })
            (subst (λ n. r < n) (sym a.masks) within))))
            (λ ne.
            if_other r p mask.0 (w p) ne
            ∙ (a.mask p lt
            ∙ sym (ap (λ (z : CpuMask). z.0)
            (get_or-set_other s.masks r p mask (record { 0 = 0 }) (λ e. ne (sym e))))));
        flows = λ p lt. if_other r (Q + p) mask.0 (w (Q + p)) (λ e. absurd (omega arith))
            ∙ a.flows p lt;
        small = a.small;
        sock = if_other r (2 * Q) mask.0 (w (2 * Q)) (λ e. absurd (omega arith)) ∙ a.sock;
        online = if_other r (2 * Q + 1) mask.0 (w (2 * Q + 1)) (λ e. absurd (omega arith))
            ∙ a.online;
      }

  after-flows : (r n : ℕ) → r < Q → rounded_up n < 2 ^ 32 → After (give.Flows r n)
  after-flows r n within small =
      let old : ℕ = w (Q + r) in
      let value : ℕ = next_flows old n in
      let inside : r < length s.counts = subst (λ n. r < n) (sym a.counts) within in
      record {
        masks = a.masks;
        counts = length-set s.counts r (rounded_up n) ∙ a.counts;
        mask = λ p lt. if_other (Q + r) p value (w p) (λ e. absurd (omega arith)) ∙ a.mask p lt;
        flows = λ p lt.
            dite (ℕ_discrete r p)
            (λ e.
            if_same (Q + r) (Q + p) value (w (Q + p)) (ap (λ k. Q + k) e)
            ∙ sym (ap2 (ap (λ k. slice_index (slice_set s.counts r (rounded_up n)) k) (sym e)
            ∙ get_or-set_same s.counts r (rounded_up n) 0 inside)
            (ap (λ k. if k == r then suc (g k) else g k) (sym e)
            ∙ (if_same r r (suc (g r)) (g r) refl ∙ gen r within))))
            (λ ne.
            if_other (Q + r) (Q + p) value (w (Q + p)) (λ e. absurd (omega arith))
            ∙ (a.flows p lt
            ∙ sym (ap2 (get_or-set_other s.counts r p (rounded_up n) 0 (λ e. ne (sym e)))
            (if_other p r (suc (g p)) (g p) (λ e. ne (sym e))))));
        small = λ p lt.
            dite (ℕ_discrete r p)
            (λ e.
            subst (λ z. z < 2 ^ 32)
            (sym (ap (λ k. slice_index (slice_set s.counts r (rounded_up n)) k) (sym e)
            ∙ get_or-set_same s.counts r (rounded_up n) 0 inside)) small)
            (λ ne.
            subst (λ z. z < 2 ^ 32)
            (sym (get_or-set_other s.counts r p (rounded_up n) 0 (λ e. ne (sym e))))
            (a.small p lt));
        sock = if_other (Q + r) (2 * Q) value (w (2 * Q)) (λ e. absurd (omega arith)) ∙ a.sock;
        online =
            if_other (Q + r) (2 * Q + 1) value (w (2 * Q + 1)) (λ e. absurd (omega arith))
            ∙ a.online;
      }
    where
      ap2 : {x y u v : ℕ} → x ≡ y → u ≡ v → x + 2 ^ 32 * u ≡ y + 2 ^ 32 * v
      ap2 e d = λ i. e i + 2 ^ 32 * d i

      gen : (r : ℕ) → r < queues q → suc (g r) ≡ w (queues q + r) / 2 ^ 32 + 1
      gen r lt = let is = a.flows r lt in let small = a.small r lt in omega arith

  after-sock : (n : ℕ) → After (give.Sock n)
  after-sock n =
      record {
        masks = a.masks;
        counts = a.counts;
        mask = λ p lt.
            if_other (2 * Q) p (rounded_up n) (w p) (λ e. absurd (omega arith)) ∙ a.mask p lt;
        flows = λ p lt.
            if_other (2 * Q) (Q + p) (rounded_up n) (w (Q + p)) (λ e. absurd (omega arith))
            ∙ a.flows p lt;
        small = a.small;
        sock = if_same (2 * Q) (2 * Q) (rounded_up n) (w (2 * Q)) refl;
        online =
            if_other (2 * Q) (2 * Q + 1) (rounded_up n) (w (2 * Q + 1)) (λ e. absurd (omega arith))
            ∙ a.online;
      }

  -- a change of the online mask
  after-online : (mask : CpuMask) → AreReceiveWords q (record s { online = mask }) g
      (with_setting w (2 * Q + 1) mask.0)
  after-online mask =
      record {
        masks = a.masks;
        counts = a.counts;
        mask = λ p lt.
            if_other (2 * Q + 1) p mask.0 (w p) (λ e. absurd (omega arith)) ∙ a.mask p lt;
        flows = λ p lt.
            if_other (2 * Q + 1) (Q + p) mask.0 (w (Q + p)) (λ e. absurd (omega arith))
            ∙ a.flows p lt;
        small = a.small;
        sock = if_other (2 * Q + 1) (2 * Q) mask.0 (w (2 * Q)) (λ e. absurd (omega arith)) ∙ a.sock;
        online = if_same (2 * Q + 1) (2 * Q + 1) mask.0 (w (2 * Q + 1)) refl;
      }

-- settings that differ only where no word of the receive board is
same_words : (q : Queues) (s z : Settings) (g : ℕ → ℕ) (w : ℕ → ℕ) → z.masks ≡ s.masks
    → z.counts ≡ s.counts → z.sock ≡ s.sock → z.online ≡ s.online → AreReceiveWords q s g w
    → AreReceiveWords q z g w
same_words q s z g w masks counts sock online a =
    record {
      masks = ap length masks ∙ a.masks;
      counts = ap length counts ∙ a.counts;
      mask = λ p lt.
          a.mask p lt
          ∙ sym (ap (λ (ms : List CpuMask).
          (slice_index_or {A = CpuMask} ms p (record { 0 = 0 })).0) masks);
      flows = λ p lt.
          a.flows p lt ∙ sym (ap (λ ns. slice_index ns p + 2 ^ 32 * g p) counts);
      small = λ p lt. subst (λ ns. slice_index ns p < 2 ^ 32) (sym counts) (a.small p lt);
      sock = a.sock ∙ sym sock;
      online = a.online ∙ sym (ap (λ (m : CpuMask). m.0) online);
    }

-- a done command that makes a setting
changes_with : (q : Queues) (s : Settings) (g : ℕ → ℕ) (w : ℕ → ℕ) (c : Command)
    → NamesReceiveQueues (queues q) c → 0 < length (received_sets q w c) → AreReceiveWords q s g w
    → (let m : SettingChange = first_made (received_sets q w c) in
    AreReceiveWords q (changed s c) (gens_after c g) (with_setting w m.word m.value))
changes_with q s g w (give.Mask r mask) fits some a = after-mask q s g w a r mask fits
changes_with q s g w (give.Flows r n) fits some a = after-flows q s g w a r n fits.0 fits.1
changes_with q s g w (give.Sock n) fits some a = after-sock q s g w a n
changes_with q s g w (give.Offline cpu) fits some a =
    subst (λ n.
    AreReceiveWords q (changed s (give.Offline cpu)) g
    (with_setting w (2 * queues q + 1) (without_cpu (record { 0 = n }) cpu).0))
    (sym a.online) (after-online q s g w a (without_cpu s.online cpu))
changes_with q s g w (give.Online cpu) fits some a =
    subst (λ n.
    AreReceiveWords q (changed s (give.Online cpu)) g
    (with_setting w (2 * queues q + 1) (with_cpu (record { 0 = n }) cpu).0))
    (sym a.online) (after-online q s g w a (with_cpu s.online cpu))
changes_with q s g w c fits some a = absurd (omega arith)

-- a done command that makes none
changes_none : (q : Queues) (s : Settings) (g : ℕ → ℕ) (w : ℕ → ℕ) (c : Command)
    → length (received_sets q w c) ≡ 0 → AreReceiveWords q s g w
    → AreReceiveWords q (changed s c) (gens_after c g) w
changes_none q s g w (give.Mask r mask) none a = absurd (omega arith)
changes_none q s g w (give.Flows r n) none a = absurd (omega arith)
changes_none q s g w (give.Sock n) none a = absurd (omega arith)
changes_none q s g w (give.Offline cpu) none a = absurd (omega arith)
changes_none q s g w (give.Online cpu) none a = absurd (omega arith)
changes_none q s g w c none a = same_words q s _ g w refl refl refl refl a

-- a resize is a done command for the flow count
gens-done : (t : Try) (ts : List Try) (p : ℕ) → is_done t.given.answer ≡ true
    → gens_after t.given.command (λ r. resizes_by r ts) p ≡ resizes_by p (t ∷ ts)
gens-done t ts p done =
    let n : ℕ = resizes_by p ts in
    sym (ap (λ b. if b then suc n else n)
    (ap (λ b. is_flows p t.given.command && b) done ∙ and-true (is_flows p t.given.command)))
  where
    and-true : (b : Bool) → (b && true) ≡ b
    and-true true = refl
    and-true false = refl

gens-not : (t : Try) (ts : List Try) (p : ℕ) → is_done t.given.answer ≡ false
    → resizes_by p ts ≡ resizes_by p (t ∷ ts)
gens-not t ts p fails =
    let n : ℕ = resizes_by p ts in
    sym (ap (λ b. if b then suc n else n)
    (ap (λ b. is_flows p t.given.command && b) fails ∙ and-false (is_flows p t.given.command)))
  where
    and-false : (b : Bool) → (b && false) ≡ false
    and-false true = refl
    and-false false = refl

module _ (about : BoardSizes) (q : Queues) (s : Settings) (f : Try → List BoardStep)
    (first : AreReceiveWords q s (λ p. 0) (own_settings about [])) where
  abbrev sets : (ℕ → ℕ) → Command → List SettingChange
  sets = received_sets q

  abbrev Good : List Try → Type 0
  Good ts = AreReceiveWords q (settings_by s ts) (λ p. resizes_by p ts)
      (words_after about sets f ts)

  more_words : (t : Try) (ts : List Try) → NamesReceiveQueues (queues q) t.given.command
      → Form (words_after about sets f ts) sets t.given (sets_and_openings (f t)) → Good ts
      → Good (t ∷ ts)
  more_words t ts fits (sets_one m done one is) a =
      let w : ℕ → ℕ = words_after about sets f ts in
      let c : Command = t.given.command in
      let some : 0 < length (sets w c) = subst (λ (ms : List SettingChange). 0 < length ms)
      (sym one) (omega arith) in
      let b = changes_with q (settings_by s ts) (λ p. resizes_by p ts) w c fits some a in
      let is_m : first_made (sets w c) ≡ m = ap first_made one in
      let word : with_setting w (first_made (sets w c)).word (first_made (sets w c)).value
      ≡ words_after about sets f (t ∷ ts) =
      ap (λ (z : SettingChange). with_setting w z.word z.value) is_m
      ∙ (ap (λ z. with_setting z m.word m.value) (words-made about sets f ts)
      ∙ sym (words-made about sets f (t ∷ ts)
      ∙ ap (own_settings about)
      (made-more about sets f t ts ∙ ap (λ z. z ++ sets_and_openings (steps_of_tries f ts)) is))) in
      let now : changed (settings_by s ts) c ≡ settings_by s (t ∷ ts) =
      sym (ap (λ (z : Bool). if z then changed (settings_by s ts) c else settings_by s ts) done) in
      subst (λ (z : Settings × ((ℕ → ℕ) × (ℕ → ℕ))). AreReceiveWords q z.0 z.1.0 z.1.1)
      (λ i. (now i, ((λ p. gens-done t ts p done i), word i))) b
  more_words t ts fits (opens fails is) a =
      let word : words_after about sets f ts ≡ words_after about sets f (t ∷ ts) =
      words-made about sets f ts
      ∙ sym (words-made about sets f (t ∷ ts)
      ∙ ap (own_settings about)
      (made-more about sets f t ts ∙ ap (λ z. z ++ sets_and_openings (steps_of_tries f ts)) is)) in
      let now : settings_by s ts ≡ settings_by s (t ∷ ts) =
      sym (ap (λ (z : Bool). if z then changed (settings_by s ts) t.given.command
      else settings_by s ts) fails) in
      subst (λ (z : Settings × ((ℕ → ℕ) × (ℕ → ℕ))). AreReceiveWords q z.0 z.1.0 z.1.1)
      (λ i. (now i, ((λ p. gens-not t ts p fails i), word i))) a
  more_words t ts fits (makes_none why is) a =
      let word : words_after about sets f ts ≡ words_after about sets f (t ∷ ts) =
      words-made about sets f ts
      ∙ sym (words-made about sets f (t ∷ ts)
      ∙ ap (own_settings about)
      (made-more about sets f t ts ∙ ap (λ z. z ++ sets_and_openings (steps_of_tries f ts)) is)) in
      elim why [
        | inl fails ↦
            subst (λ (z : Settings × ((ℕ → ℕ) × (ℕ → ℕ))). AreReceiveWords q z.0 z.1.0 z.1.1)
            (λ i. (
              sym (ap (λ (z : Bool). if z then changed (settings_by s ts) t.given.command
                  else settings_by s ts) fails) i,
              ((λ p. gens-not t ts p fails i), word i),
            )) a
        | inr done ↦
            subst (λ (z : Settings × ((ℕ → ℕ) × (ℕ → ℕ))). AreReceiveWords q z.0 z.1.0 z.1.1)
            (λ i. (
              sym (ap (λ (z : Bool). if z then changed (settings_by s ts) t.given.command
                  else settings_by s ts) done.0) i,
              ((λ p. gens-done t ts p done.0 i), word i),
            ))
            (changes_none q (settings_by s ts) (λ p. resizes_by p ts) (words_after about sets f ts)
            t.given.command (ap length done.1) a)
      ]

  pub words_are : (ts : List Try)
      → All (λ (t : Try). NamesReceiveQueues (queues q) t.given.command) ts
      → AllSetByAnswer about sets f ts → Good ts
  words_are [] fits are = first
  words_are (t ∷ ts) fits are =
      more_words t ts (All-head (λ (t : Try). NamesReceiveQueues (queues q) t.given.command) t ts
      fits)
      (form (words_after about sets f ts) sets t.given (sets_and_openings (f t)) are.0)
      (words_are ts (All-tail (λ (t : Try). NamesReceiveQueues (queues q) t.given.command) t ts
      fits) are.1)
