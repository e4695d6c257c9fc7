-- The words of a transmit board after any tries are the maps of the settings after them.
use Rattle.std.specs.Prelude.{unwrap_or}
use Rattle.std.proofs.lemmas.List.{get_or-set_same, length-set}
use Rattle.steer_base.specs.Sends.{first_filled, pick_of}
use Rattle.steer_base.specs.Sets.{at_hash, has_queue, those_below}
use Rattle.steer_base.specs.declared.command.Command.TheVariants as give
use Rattle.steer_base.proofs.SetsLemmas.{those_below-same}
use Rattle.xps_map.specs.Maps.{Maps, no_cpus, picked, serves_cpu, serves_queue}
use Rattle.hop_delivery.specs.Orders.ReceiveSettings.{mask}
use Rattle.hop_delivery.specs.Orders.TransmitSettings.{pick_by}
use Rattle.run_coupling.proofs.Names.{◌≡◌, inl, inr, ℕ, ◌+◌, ◌<◌, Bool, true, List, [], ◌∷◌, ◌++◌}
use Rattle.run_coupling.proofs.Names.{Option, length, All, if◌then◌else◌, sym, refl, ap, ◌∙◌, subst}
use Rattle.run_coupling.proofs.Names.{arith, slice_index, slice_index_or, slice_set}
use Rattle.run_coupling.proofs.Names.{get_or-set_other, All-head, All-tail, dite, ℕ_discrete}
use Rattle.run_coupling.proofs.Names.{if_same, if_other, has, Command, CpuMask, own_settings}
use Rattle.run_coupling.proofs.Names.{with_setting, BoardSizes, BoardStep, SettingChange, sent_sets}
use Rattle.run_coupling.proofs.Names.{Settings, changed, AreTransmitWords, NamesTransmitQueues}
use Rattle.run_coupling.proofs.Names.{AllSetByAnswer, Try, sets_and_openings, settings_by}
use Rattle.run_coupling.proofs.Names.{steps_of_tries, words_after}
use Rattle.run_coupling.proofs.Tries.TryLemmas.{Form, sets_one, opens, makes_none, form, made-more}
use Rattle.run_coupling.proofs.Tries.TryLemmas.{words-made}

abbrev first_made : List SettingChange → SettingChange
first_made [] = record { word = 0; value = 0 }
first_made (m ∷ ms) = m

map_with : (count : ℕ) (s : Settings) (w : ℕ → ℕ) (c : Command) → NamesTransmitQueues count c
    → 0 < length (sent_sets count c) → AreTransmitWords count s w
    → (let m : SettingChange = first_made (sent_sets count c) in
    AreTransmitWords count (changed s c) (with_setting w m.word m.value))
map_with count s w (give.XCpus tx cpus) within some a =
    record {
      many = a.many;
      cpu_maps = length-set s.maps.cpus tx cpus ∙ a.cpu_maps;
      queue_maps = a.queue_maps;
      cpus = λ y lt.
          dite (ℕ_discrete tx y)
          (λ e.
          if_same tx y cpus.0 (w y) e
          ∙ sym (ap (λ (z : CpuMask). z.0)
          (ap (λ k. slice_index_or (slice_set s.maps.cpus tx cpus) k no_cpus) (sym e)
          ∙ get_or-set_same s.maps.cpus tx cpus no_cpus
          (subst (λ n. tx < n) (sym a.cpu_maps) within))))
          (λ ne.
          if_other tx y cpus.0 (w y) ne
          ∙ (a.cpus y lt
          ∙ sym (ap (λ (z : CpuMask). z.0)
          (get_or-set_other s.maps.cpus tx y cpus no_cpus (λ e. ne (sym e))))));
      queues = λ y lt.
          if_other tx (count + y) cpus.0 (w (count + y)) (λ e. absurd (omega arith))
          ∙ a.queues y lt;
    }
map_with count s w (give.XQueues tx rxqs) within some a =
    record {
      many = a.many;
      cpu_maps = a.cpu_maps;
      queue_maps = length-set s.maps.queues tx rxqs ∙ a.queue_maps;
      cpus = λ y lt.
          if_other (count + tx) y rxqs (w y) (λ e. absurd (omega arith)) ∙ a.cpus y lt;
      queues = λ y lt.
          dite (ℕ_discrete tx y)
          (λ e.
          if_same (count + tx) (count + y) rxqs (w (count + y)) (ap (λ k. count + k) e)
          ∙ sym (ap (λ k. slice_index (slice_set s.maps.queues tx rxqs) k) (sym e)
          ∙ get_or-set_same s.maps.queues tx rxqs 0
          (subst (λ n. tx < n) (sym a.queue_maps) within)))
          (λ ne.
          if_other (count + tx) (count + y) rxqs (w (count + y)) (λ e. absurd (omega arith))
          ∙ (a.queues y lt
          ∙ sym (get_or-set_other s.maps.queues tx y rxqs 0 (λ e. ne (sym e)))));
    }
map_with count s w c within some a = absurd (omega arith)

same_maps : (count : ℕ) (s z : Settings) (w : ℕ → ℕ) → z.maps ≡ s.maps → AreTransmitWords count s w
    → AreTransmitWords count z w
same_maps count s z w same a =
    record {
      many = ap (λ (m : Maps). m.count) same ∙ a.many;
      cpu_maps = ap (λ (m : Maps). length m.cpus) same ∙ a.cpu_maps;
      queue_maps = ap (λ (m : Maps). length m.queues) same ∙ a.queue_maps;
      cpus = λ tx lt.
          a.cpus tx lt
          ∙ sym (ap (λ (m : Maps). (slice_index_or {A = CpuMask} m.cpus tx no_cpus).0) same);
      queues = λ tx lt. a.queues tx lt ∙ sym (ap (λ (m : Maps). slice_index m.queues tx) same);
    }

map_none : (count : ℕ) (s : Settings) (w : ℕ → ℕ) (c : Command) → length (sent_sets count c) ≡ 0
    → AreTransmitWords count s w → AreTransmitWords count (changed s c) w
map_none count s w (give.XCpus tx cpus) none a = absurd (omega arith)
map_none count s w (give.XQueues tx rxqs) none a = absurd (omega arith)
map_none count s w c none a = same_maps count s _ w refl a

module _ (about : BoardSizes) (count : ℕ) (s : Settings) (f : Try → List BoardStep)
    (first : AreTransmitWords count s (own_settings about [])) where
  abbrev sets : (ℕ → ℕ) → Command → List SettingChange
  sets w c = sent_sets count c

  abbrev Fit : List Try → Type 0
  Fit ts = AreTransmitWords count (settings_by s ts) (words_after about sets f ts)

  more_maps : (t : Try) (ts : List Try) → NamesTransmitQueues count t.given.command
      → Form (words_after about sets f ts) sets t.given (sets_and_openings (f t)) → Fit ts
      → Fit (t ∷ ts)
  more_maps t ts fits (sets_one m done one is) a =
      let w : ℕ → ℕ = words_after about sets f ts in
      let c : Command = t.given.command in
      let some : 0 < length (sent_sets count c) =
      subst (λ (ms : List SettingChange). 0 < length ms) (sym one) (omega arith) in
      let b = map_with count (settings_by s ts) w c fits some a in
      let word : with_setting w (first_made (sent_sets count c)).word
      (first_made (sent_sets count c)).value ≡ words_after about sets f (t ∷ ts) =
      ap (λ (z : SettingChange). with_setting w z.word z.value) (ap first_made one)
      ∙ (ap (λ z. with_setting z m.word m.value) (words-made about sets f ts)
      ∙ sym (words-made about sets f (t ∷ ts)
      ∙ ap (own_settings about)
      (made-more about sets f t ts ∙ ap (λ z. z ++ sets_and_openings (steps_of_tries f ts)) is))) in
      let now : changed (settings_by s ts) c ≡ settings_by s (t ∷ ts) =
      sym (ap (λ (z : Bool). if z then changed (settings_by s ts) c else settings_by s ts) done) in
      subst (λ (z : Settings × (ℕ → ℕ)). AreTransmitWords count z.0 z.1) (λ i. (now i, word i)) b
  more_maps t ts fits (opens fails is) a =
      let word : words_after about sets f ts ≡ words_after about sets f (t ∷ ts) =
      words-made about sets f ts
      ∙ sym (words-made about sets f (t ∷ ts)
      ∙ ap (own_settings about)
      (made-more about sets f t ts ∙ ap (λ z. z ++ sets_and_openings (steps_of_tries f ts)) is)) in
      let now : settings_by s ts ≡ settings_by s (t ∷ ts) =
      sym (ap (λ (z : Bool). if z then changed (settings_by s ts) t.given.command
      else settings_by s ts) fails) in
      subst (λ (z : Settings × (ℕ → ℕ)). AreTransmitWords count z.0 z.1) (λ i. (now i, word i)) a
  more_maps t ts fits (makes_none why is) a =
      let word : words_after about sets f ts ≡ words_after about sets f (t ∷ ts) =
      words-made about sets f ts
      ∙ sym (words-made about sets f (t ∷ ts)
      ∙ ap (own_settings about)
      (made-more about sets f t ts ∙ ap (λ z. z ++ sets_and_openings (steps_of_tries f ts)) is)) in
      elim why [
        | inl fails ↦
            subst (λ (z : Settings × (ℕ → ℕ)). AreTransmitWords count z.0 z.1)
            (λ i. (
              sym (ap (λ (z : Bool). if z then changed (settings_by s ts) t.given.command
                  else settings_by s ts) fails) i,
              word i,
            )) a
        | inr done ↦
            subst (λ (z : Settings × (ℕ → ℕ)). AreTransmitWords count z.0 z.1)
            (λ i. (
              sym (ap (λ (z : Bool). if z then changed (settings_by s ts) t.given.command
                  else settings_by s ts) done.0) i,
              word i,
            ))
            (map_none count (settings_by s ts) (words_after about sets f ts) t.given.command
            (ap length done.1) a)
      ]

  pub maps_are : (ts : List Try) → All (λ (t : Try). NamesTransmitQueues count t.given.command) ts
      → AllSetByAnswer about sets f ts → Fit ts
  maps_are [] fits are = first
  maps_are (t ∷ ts) fits are =
      more_maps t ts (All-head (λ (t : Try). NamesTransmitQueues count t.given.command) t ts fits)
      (form (words_after about sets f ts) sets t.given (sets_and_openings (f t)) are.0)
      (maps_are ts (All-tail (λ (t : Try). NamesTransmitQueues count t.given.command) t ts fits)
      are.1)

-- the queue that is picked by such words
pub pick-is : (count : ℕ) (s : Settings) (w : ℕ → ℕ) (rxq cpu : ℕ) (hash : Option ℕ)
    → AreTransmitWords count s w → pick_by count w rxq cpu hash ≡ picked s.maps rxq cpu hash
pick-is count s w rxq cpu hash a =
    let by_queue = those_below-same count (λ tx. has_queue (w (count + tx)) rxq)
    (λ tx. serves_queue s.maps tx rxq) (λ tx lt. ap (λ n. has_queue n rxq) (a.queues tx lt)) in
    let by_cpu = those_below-same count (λ tx. has (mask (w tx)) cpu)
    (λ tx. serves_cpu s.maps tx cpu) (λ tx lt. ap (λ n. has (mask n) cpu) (a.cpus tx lt)) in
    (λ k.
    at_hash (first_filled (by_queue k) (by_cpu k) (those_below count (λ tx. true)))
    (unwrap_or hash 0))
    ∙ ap (λ n. pick_of n (serves_queue s.maps) (serves_cpu s.maps) rxq cpu hash) (sym a.many)
