-- Each transmit choice of an application is by the rule with the pick of the maps that were in
-- force after the commands before it.
use Rattle.std.proofs.Common.{ℕ, suc, ◌+◌, ◌≤◌, ◌<◌, ◌≡◌, [], ◌∷◌, ◌++◌, Some, length}
use Rattle.std.proofs.Common.{take, drop, refl, ap, ◌∙◌, sym, subst, arith, inl, inr, unwrap_or}
use Rattle.std.proofs.Math.ListN.{length-map}
use Rattle.std.proofs.Math.Seq.{take-append_seam}
use Rattle.std.proofs.lemmas.Bool.{cases_lt}
use Rattle.std.proofs.lemmas.Option.{slice_get-get_or}
use Rattle.steer_base.specs.Choices.{migrate}
use Rattle.steer_base.specs.Entries.{entry}
use Rattle.steer_base.specs.Sets.{has}
use Rattle.steer_base.specs.declared.choice.Choice.{Choice}
use Rattle.steer_base.specs.declared.choice.Chosen.{Chosen}
use Rattle.steer_base.specs.declared.choice.Entry.{Entry}
use Rattle.hop_model.specs.Hop.{HopState, accepted_at, choices_of, chosen_at, head_at, next_of}
use Rattle.hop_model.specs.Hop.{nobody, recent, since_of, taken_of}
use Rattle.hop_model.specs.Sound.{Sound}
use Rattle.hop_core.proofs.KeptHeads.{kept_head_decides}
use Rattle.hop_core.proofs.Lists.{Changed-set, chosen-push_last, length-push}
use Rattle.history.specs.Lists.{list_at}
use Rattle.history.specs.declared.sent.Sent.{Sent}
use Rattle.xps_map.specs.Maps.{picked}
use Rattle.steer_model.specs.Steps.Applications.{everyone, in_reply, nothing_sent, sent_of}
use Rattle.steer_model.specs.Good.Choices.{accepted_in}
use Rattle.steer_model.specs.Good.Replies.{IsReplyByRule}
use Rattle.steer_model.specs.Good.Inputs.{Input, Prefixes, settings_after, settings_at, setup_in}
use Rattle.steer_model.specs.State.Machine.{Machine, history_of, history_lanes}
use Rattle.steer_model.specs.State.Settings.{Settings}
use Rattle.steer_model.specs.State.Setup.{Setup, flow_number_of, packet_hash}
use Rattle.steer_model.specs.State.Start.{initial_settings}
use Rattle.steer_invariant.specs.StepInvariant.{StepInvariant}
use Rattle.steer_invariant.proofs.Recorded.RowLemmas.{in_reply-is}
use Rattle.steer_properties.proofs.Histories.ExtendLemmas.{extends-get, extends-length}
use Rattle.steer_properties.proofs.Histories.ExtendLemmas.{extends-slice_get}
use Rattle.steer_properties.proofs.Histories.LastingLemmas.{Lasts}
use Rattle.steer_properties.proofs.Histories.MomentLemmas.{settings-all, settings-longer}
use Rattle.steer_properties.proofs.Histories.MomentLemmas.{then-before, then-from, then_at}
use Rattle.steer_properties.proofs.Choices.RuleLemmas.{entries-are, entries-stay}
use Rattle.steer_properties.proofs.Histories.StepKindLemmas.{new_tx_choice, tx_weighed}

-- the rule for the choice of a reply, over these entries
abbrev tx_ruled : Setup → Settings → Sent → Choice → (ℕ → Entry) → Choice
tx_ruled p s r c entries =
    let pick = picked s.maps r.rxq r.cpu (packet_hash p r.id) in
    migrate (Some (flow_number_of p r.id)) (Some pick) pick entries (λ lane. unwrap_or c.head 0)
    (has everyone)

-- both hops number from one start
abbrev pub SameStart : Machine → Type 0
SameStart m = m.tx.fixed.start ≡ m.rx.fixed.start

-- Of an application, for each of its transmit choices the number of commands that it was made
-- after; and each choice is by the rule.
pub record TxRuled (i : Input) (m : Machine) (a : ℕ) (at : ℕ → ℕ) : Type 0 where
  pub prefixes : Prefixes (length (choices_of m.tx a)) (length m.commands) at
  pub each : (k : ℕ) → k < length (choices_of m.tx a)
      → IsReplyByRule i (history_of m) a k (settings_at i (history_of m) (at k))

-- the same of each, none of which was ever resized
pub record TxRules (i : Input) (m : Machine) : Type 0 where
  pub each : (a : ℕ) → (at : ℕ → ℕ) × TxRuled i m a at
  pub unsized : (a : ℕ) → since_of m.tx a ≡ 0

-- ---- the choices that were made stay by the rule

module _ (i : Input) (m n : Machine) (h : Sound m.tx) (g : Sound n.tx) (l : Lasts m n)
    (start : SameStart m) (start' : SameStart n) (a : ℕ) where
  tx-entries-stay : (k : ℕ) → k < length (choices_of m.tx a)
      → entry n.rx.fixed.start (accepted_in (history_lanes n.tx.bare)) (take k (choices_of n.tx a))
      ≡ entry m.rx.fixed.start (accepted_in (history_lanes m.tx.bare)) (take k (choices_of m.tx a))
  tx-entries-stay k lt =
      ap
      (λ z. entry z (accepted_in (history_lanes n.tx.bare)) (take k (choices_of n.tx a)))
      (sym start')
      ∙ entries-stay m.tx n.tx h g l.tx a 0 k lt
      ∙ ap
      (λ z. entry z (accepted_in (history_lanes m.tx.bare)) (take k (choices_of m.tx a))) start

  reply-stays : (k : ℕ) (st : Settings) → k < length (choices_of m.tx a)
      → IsReplyByRule i (history_of m) a k st → IsReplyByRule i (history_of n) a k st
  reply-stays k st lt old =
      let r : Sent = old.0 in
      let here : chosen_at (choices_of n.tx a) k ≡ chosen_at (choices_of m.tx a) k =
      extends-get (choices_of m.tx a) (choices_of n.tx a) k nobody (l.tx.choices a) lt in
      let back : chosen_at (choices_of m.tx a) k ≡ chosen_at (choices_of n.tx a) k = sym here in
      let same = sym (tx-entries-stay k lt) in (
        r,
        extends-slice_get (list_at m.sent a) (list_at n.sent a) k r (l.sent a) old.1,
        ap (λ c. c.id) here ∙ old.2,
        ap (λ c. c.choice) here ∙ old.3
            ∙ (λ j. tx_ruled (setup_in i) st r (back j).choice (same j)),
      )

  tx-each-stays : (at : ℕ → ℕ) → TxRuled i m a at → (k : ℕ) → k < length (choices_of m.tx a)
      → IsReplyByRule i (history_of n) a k (settings_at i (history_of n) (at k))
  tx-each-stays at r k lt =
      let settings : settings_at i (history_of m) (at k) ≡ settings_at i (history_of n) (at k) =
      sym (settings-longer (initial_settings i.plan) m.commands n.commands (at k) l.commands
      (r.prefixes.within k lt)) in
      subst (λ st. IsReplyByRule i (history_of n) a k st) settings
      (reply-stays k (settings_at i (history_of m) (at k)) lt (r.each k lt))

  -- where no choice is added
  pub tx-ruled-stays : (at : ℕ → ℕ) → TxRuled i m a at → choices_of n.tx a ≡ choices_of m.tx a
      → TxRuled i n a at
  tx-ruled-stays at r same =
      let long : length (choices_of n.tx a) ≡ length (choices_of m.tx a) = ap length same in
      let far = extends-length m.commands n.commands l.commands in
      record {
        prefixes = record {
          within = λ k lt. (
              let b = r.prefixes.within k (omega (arith, lt, long)) in omega (arith, b, far));
          grow = λ k lt. r.prefixes.grow k (omega (arith, lt, long));
        };
        each = λ k lt. tx-each-stays at r k (omega (arith, lt, long));
      }

-- ---- a new choice

module _ (i : Input) (m : Machine) (a : ℕ) (setup : m.setup ≡ setup_in i)
    (follows : m.settings ≡ settings_after (initial_settings i.plan) m.commands)
    (k : StepInvariant m)
    (g : Sound (tx_weighed m a).tx) (in' : a < length m.tx.choices)
    (more : length (choices_of m.tx a) < taken_of m.tx a) (l : Lasts m (tx_weighed m a))
    (start : SameStart m) (unsized : since_of m.tx a ≡ 0) (at : ℕ → ℕ) (r : TxRuled i m a at)
  where
    abbrev len : ℕ
    len = length (choices_of m.tx a)

    abbrev now : ℕ
    now = length m.commands

    abbrev bt : ℕ → ℕ
    bt = then_at len now at

    abbrev newest : Chosen
    newest = record { id = next_of m.tx a; choice = new_tx_choice m a }

    abbrev then' : Machine
    then' = tx_weighed m a

    grown : choices_of then'.tx a ≡ choices_of m.tx a ++ newest ∷ []
    grown = (Changed-set m.tx.choices a (choices_of m.tx a ++ newest ∷ []) [] in').here

    long : length (choices_of then'.tx a) ≡ suc len
    long =
        ap length grown
        ∙ (let e = length-push (choices_of m.tx a) newest in
        let f : length (choices_of m.tx a ++ newest ∷ []) ≡ suc len = omega (arith, e) in f)

    -- there is a reply for it
    sent-more : len < length (sent_of m a)
    sent-more =
        let came = k.replied.came a in
        let upto = k.tx.sound.hands.arrived a in
        let n = ap length came ∙ length-map (sent_of m a) (λ s. s.id) in
        omega (arith, more, upto, n)

    -- it is by the rule with the settings in force
    new-reply : IsReplyByRule i (history_of then') a len m.settings
    new-reply =
        let s : HopState = m.tx in
        let t : HopState = then'.tx in
        let reply : Sent = in_reply m a in
        let entries : ℕ → Entry = entry s.fixed.start (accepted_at s.bare) (recent s a) in
        let mine : chosen_at (choices_of t a) len ≡ newest =
        ap (λ cs. chosen_at cs len) grown ∙ chosen-push_last (choices_of s a) newest nobody in
        let back : newest ≡ chosen_at (choices_of t a) len = sym mine in
        let front : take len (choices_of t a) ≡ choices_of s a =
        ap (take len) grown ∙ take-append_seam (choices_of s a) (newest ∷ []) in
        let same : entries
        ≡ entry m.rx.fixed.start (accepted_in (history_lanes t.bare)) (take len (choices_of t a)) =
        ap (λ from. entry s.fixed.start (accepted_at s.bare) (drop from (choices_of s a))) unsized
        ∙ sym
        (ap
        (λ z. entry z (accepted_in (history_lanes t.bare)) (take len (choices_of t a))) (sym start)
        ∙ entries-are t g a 0 len
        ∙ ap (λ cs. entry s.fixed.start (accepted_at s.bare) cs) front) in
        let by_rule : newest.choice ≡ tx_ruled m.setup m.settings reply newest.choice entries =
        kept_head_decides (Some (flow_number_of m.setup reply.id))
        (Some (picked m.settings.maps reply.rxq reply.cpu (packet_hash m.setup reply.id)))
        (picked m.settings.maps reply.rxq reply.cpu (packet_hash m.setup reply.id)) entries
        (head_at s.fixed.start s.bare) (has everyone) newest.choice refl in (
          reply,
          slice_get-get_or (sent_of m a) len nothing_sent sent-more,
          ap (λ c. c.id) mine ∙ in_reply-is m a more k,
          ap (λ c. c.choice) mine ∙ by_rule
              ∙ (λ j. tx_ruled (setup j) m.settings reply (back j).choice (same j)),
        )

    pub tx-ruled-chosen : TxRuled i then' a bt
    tx-ruled-chosen =
        record { prefixes = record { within = below; grow = grow }; each = each }
      where
        old-at : (j : ℕ) → j < len → bt j ≡ at j
        old-at j lt = then-before len now at j lt

        below : (j : ℕ) → j < length (choices_of then'.tx a) → bt j ≤ now
        below j lt =
            elim (cases_lt j len) [
              | inl early ↦ (
                  let x = old-at j early in let y = r.prefixes.within j early in
                  omega (arith, x, y))
              | inr late ↦ (let x = then-from len now at j late in omega (arith, x))
            ]

        grow : (j : ℕ) → j + 1 < length (choices_of then'.tx a) → bt j ≤ bt (j + 1)
        grow j lt =
            let here : j < len = omega (arith, lt, long) in
            let x = old-at j here in
            elim (cases_lt (j + 1) len) [
              | inl early ↦ (
                  let y = old-at (j + 1) early in let z = r.prefixes.grow j early in
                  omega (arith, x, y, z))
              | inr late ↦ (
                  let y = then-from len now at (j + 1) late in
                  let z = r.prefixes.within j here in omega (arith, x, y, z))
            ]

        each : (j : ℕ) → j < length (choices_of then'.tx a)
            → IsReplyByRule i (history_of then') a j (settings_at i (history_of then') (bt j))
        each j lt =
            elim (cases_lt j len) [
              | inl early ↦
                  subst
                  (λ n. IsReplyByRule i (history_of then') a j (settings_at i (history_of then') n))
                  (sym (old-at j early))
                  (tx-each-stays i m then' k.tx.sound g l start start a at r j early)
              | inr late ↦
                  let e : len ≡ j = omega (arith, lt, late, long) in
                  let last : bt len ≡ now = then-from len now at len (omega arith) in
                  let settings : m.settings ≡ settings_at i (history_of then') (bt len) =
                  follows ∙ sym (settings-all (initial_settings i.plan) m.commands)
                  ∙ ap (λ n. settings_after (initial_settings i.plan) (take n m.commands))
                  (sym last) in
                  subst
                  (λ n. IsReplyByRule i (history_of then') a n
                  (settings_at i (history_of then') (bt n))) e
                  (subst (λ st. IsReplyByRule i (history_of then') a len st) settings new-reply)
            ]
