-- The first values stand at the numbers of their settings.
use Rattle.std.proofs.Common.{◌≡◌, ℕ, zero, suc, ◌+◌, ◌*◌, ◌<◌, List, [], ◌∷◌, ◌++◌, length, map}
use Rattle.std.proofs.Common.{refl, ap, ◌∙◌, arith}
use Rattle.std.specs.List.{slice_get}
use Rattle.std.proofs.lemmas.Option.{slice_get-map}
use Rattle.std.proofs.lemmas.List.{length-map}
use Rattle.steer_base.specs.Counters.{rounded_up}
use Rattle.steer_base.specs.Sets.{first_cpus}
use Rattle.plan_reader.specs.declared.plan.Plan.{Plan}
use Rattle.plan_reader.specs.declared.plan.QueuePlan.{QueuePlan}
use Rattle.plan_reader.specs.declared.plan.TxPlan.{TxPlan}
use Rattle.run_words.specs.First.{FirstValuesStand, first_receive_settings, receive_value}
use Rattle.run_words.specs.First.{first_transmit_settings, transmit_value}
use Rattle.run_words.specs.Numbers.{IsReceiveSetting, IsTransmitSetting, receive_number}
use Rattle.run_words.specs.Numbers.{transmit_number}
use Rattle.run_words.specs.Values.{cpus_word, flows_word, queues_word, socket_size_word}
use Rattle.run_words.specs.declared.setting.ReceiveSetting.{ReceiveSetting}
use Rattle.run_words.specs.declared.setting.ReceiveSetting.TheVariants as receive
use Rattle.run_words.specs.declared.setting.TransmitSetting.{TransmitSetting}
use Rattle.run_words.specs.declared.setting.TransmitSetting.TheVariants as transmit

get-front : {A : Type 0} (xs ys : List A) (k : ℕ) → k < length xs
    → slice_get (xs ++ ys) k ≡ slice_get xs k
get-front [] ys k lt = absurd (omega arith)
get-front (x ∷ xs) ys zero lt = refl
get-front (x ∷ xs) ys (suc k) lt = get-front xs ys k (omega arith)

get-back : {A : Type 0} (xs ys : List A) (k n : ℕ) → n ≡ length xs + k
    → slice_get (xs ++ ys) n ≡ slice_get ys k
get-back [] ys k n is = ap (slice_get ys) (omega (arith, is))
get-back (x ∷ xs) ys k zero is = absurd (omega arith)
get-back (x ∷ xs) ys k (suc n) is = get-back xs ys k n (omega arith)

module _ (plan : Plan) where
  abbrev masks : List ℕ
  masks = map (λ (queue : QueuePlan). cpus_word queue.mask) plan.queues

  abbrev flows : List ℕ
  flows = map (λ (queue : QueuePlan). flows_word (rounded_up queue.flows) 0) plan.queues

  abbrev last : List ℕ
  last = socket_size_word (rounded_up plan.sock) ∷ cpus_word (first_cpus plan.cpus) ∷ []

  masks_count : length masks ≡ length plan.queues
  masks_count = length-map plan.queues (λ (queue : QueuePlan). cpus_word queue.mask)

  flows_count : length flows ≡ length plan.queues
  flows_count =
      length-map plan.queues (λ (queue : QueuePlan). flows_word (rounded_up queue.flows) 0)

  receive_stands : (s : ReceiveSetting) → IsReceiveSetting (length plan.queues) s
      → slice_get (first_receive_settings plan) (receive_number (length plan.queues) s)
      ≡ receive_value plan s
  receive_stands (receive.Cpus q) lt =
      let n = masks_count in
      get-front masks (flows ++ last) q (omega (arith, n))
      ∙ slice_get-map (λ (queue : QueuePlan). cpus_word queue.mask) plan.queues q
  receive_stands (receive.Flows q) lt =
      let n = masks_count in let m = flows_count in
      get-back masks (flows ++ last) q (length plan.queues + q) (omega (arith, n))
      ∙ (get-front flows last q (omega (arith, m))
      ∙ slice_get-map (λ (queue : QueuePlan). flows_word (rounded_up queue.flows) 0)
      plan.queues q)
  receive_stands receive.SocketSize lt =
      let n = masks_count in let m = flows_count in
      get-back masks (flows ++ last) (length plan.queues) (2 * length plan.queues)
      (omega (arith, n))
      ∙ get-back flows last 0 (length plan.queues) (omega (arith, m))
  receive_stands receive.Online lt =
      let n = masks_count in let m = flows_count in
      get-back masks (flows ++ last) (length plan.queues + 1) (2 * length plan.queues + 1)
      (omega (arith, n))
      ∙ get-back flows last 1 (length plan.queues + 1) (omega (arith, m))

  abbrev tx_cpus : List ℕ
  tx_cpus = map (λ (tx : TxPlan). cpus_word tx.cpus) plan.tx

  abbrev tx_queues : List ℕ
  tx_queues = map (λ (tx : TxPlan). queues_word tx.queues) plan.tx

  cpus_count : length tx_cpus ≡ length plan.tx
  cpus_count = length-map plan.tx (λ (tx : TxPlan). cpus_word tx.cpus)

  transmit_stands : (s : TransmitSetting) → IsTransmitSetting (length plan.tx) s
      → slice_get (first_transmit_settings plan) (transmit_number (length plan.tx) s)
      ≡ transmit_value plan s
  transmit_stands (transmit.Cpus q) lt =
      let n = cpus_count in
      get-front tx_cpus tx_queues q (omega (arith, n))
      ∙ slice_get-map (λ (tx : TxPlan). cpus_word tx.cpus) plan.tx q
  transmit_stands (transmit.Queues q) lt =
      let n = cpus_count in
      get-back tx_cpus tx_queues q (length plan.tx + q) (omega (arith, n))
      ∙ slice_get-map (λ (tx : TxPlan). queues_word tx.queues) plan.tx q

  pub first_values_stand : FirstValuesStand plan
  first_values_stand = record { receive = receive_stands; transmit = transmit_stands }
