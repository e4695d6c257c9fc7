-- Values in force are those of the last done commands for them.
use Rattle.std.proofs.Common.{ℕ, ◌<◌, ◌≡◌, Bool, true, false, List, [], ◌∷◌, Option, Some, None}
use Rattle.std.proofs.Common.{length}
use Rattle.std.proofs.Common.{refl, ap, ◌∙◌, sym, subst, arith, inl, inr, unwrap_or, suc}
use Rattle.std.specs.Prelude.{◌==◌, ◌&&◌, ◌||◌, not, nat_lt, if◌then◌else◌, slice_index}
use Rattle.std.specs.Prelude.{slice_index_or, slice_set}
use Rattle.std.specs.List.{All, cons_option, filter_map}
use Rattle.std.proofs.lemmas.Bool.{cases_eq, eq-eqb, lt-ltb, ne_eqb}
use Rattle.std.proofs.lemmas.List.{get_or-set_same, get_or-set_other, length-set}
use Rattle.steer_base.proofs.MasksLemmas.{has-with_cpu, has-without_cpu}
use Rattle.steer_base.specs.Counters.{rounded_up}
use Rattle.steer_base.specs.Entries.{last_or}
use Rattle.steer_base.specs.Sets.{has}
use Rattle.steer_base.specs.declared.command.Command.{Command}
use Rattle.steer_base.specs.declared.command.Command.TheVariants as give
use Rattle.history.specs.declared.commanded.Commanded.{Commanded}
use Rattle.xps_map.specs.Maps.{no_cpus}
use Rattle.steer_model.specs.Steps.Commands.{is_done}
use Rattle.steer_model.specs.Good.Inputs.{settings_after}
use Rattle.step_laws.specs.Origins.SettingWrites.{AreLastWrites, NamesCpu, count_for, entry_for}
use Rattle.step_laws.specs.Origins.SettingWrites.{if_done, last_write}
use Rattle.step_laws.specs.Origins.SettingWrites.{mask_for, online_for, sock_for, stand_for}
use Rattle.step_laws.specs.Origins.SettingWrites.{tx_cpus_for, tx_queues_for}
use Rattle.steer_model.specs.State.Settings.{Settings, changed, mask_of}

last-cons : {X : Type 0} (o : Option X) (d : X) (xs : List X)
    → last_or d (cons_option o xs) ≡ last_or (unwrap_or o d) xs
last-cons (Some x) d xs = refl
last-cons None d xs = refl

-- a reading that each command changes as it says, where the settings have what is read
module _ {X : Type 0} (read : Settings → X) (value : Command → Option X) (Has : Settings → Type 0)
    (keeps : (s : Settings) (c : Command) → Has s → Has (changed s c))
    (writes : (s : Settings) (c : Command) → NamesCpu c → Has s
    → read (changed s c) ≡ unwrap_or (value c) (read s)) where
  written-once : (s : Settings) (c : Command) (done : Bool) → NamesCpu c → Has s
      → read (if done then changed s c else s) ≡ unwrap_or (if done then value c else None) (read s)
  written-once s c true named have = writes s c named have
  written-once s c false named have = refl

  kept-once : (s : Settings) (c : Command) (done : Bool) → Has s
      → Has (if done then changed s c else s)
  kept-once s c true have = keeps s c have
  kept-once s c false have = have

  last-written : (s : Settings) (cs : List Commanded) → All (λ c. NamesCpu c.command) cs → Has s
      → read (settings_after s cs) ≡ last_write value (read s) cs
  last-written s [] named have = refl
  last-written s (c ∷ cs) named have =
      let done : Bool = is_done c.answer in
      let head : NamesCpu c.command = named 0 c (omega arith) in
      last-written (if done then changed s c.command else s) cs
      (λ k d lt. named (suc k) d (omega arith)) (kept-once s c.command done have)
      ∙ ap (λ x. last_write value x cs) (written-once s c.command done head have)
      ∙ sym (last-cons (if_done value c) (read s) (filter_map (if_done value) cs))

set-read : {A : Type 0} (xs : List A) (at i : ℕ) (v d : A) → i < length xs
    → slice_index_or (slice_set xs at v) i d
    ≡ unwrap_or (if i == at then Some v else None) (slice_index_or xs i d)
set-read xs at i v d lt =
    elim (cases_eq i at) [
      | inl e ↦ rw (eq-eqb i at e)
          (ap (λ k. slice_index_or (slice_set xs at v) k d) e
          ∙ get_or-set_same xs at v d (subst (λ k. k < length xs) e lt))
      | inr ne ↦ rw (ne_eqb i at ne) (get_or-set_other xs at i v d ne)
    ]

cleared : (i cpu : ℕ) (b : Bool)
    → (b && not (cpu == i)) ≡ unwrap_or (if i == cpu then Some false else None) b
cleared i cpu b =
    elim (cases_eq i cpu) [
      | inl e ↦ rw (eq-eqb i cpu e, eq-eqb cpu i (sym e)) (none-of b)
      | inr ne ↦ rw (ne_eqb i cpu ne, ne_eqb cpu i (λ e. ne (sym e))) (all-of b)
    ]
  where
    none-of : (b : Bool) → (b && not true) ≡ false
    none-of true = refl
    none-of false = refl

    all-of : (b : Bool) → (b && not false) ≡ b
    all-of true = refl
    all-of false = refl

joined : (i cpu : ℕ) (b : Bool) → i < 32
    → (b || (nat_lt i 32 && cpu == i)) ≡ unwrap_or (if i == cpu then Some true else None) b
joined i cpu b small =
    elim (cases_eq i cpu) [
      | inl e ↦ rw (lt-ltb i 32 small, eq-eqb i cpu e, eq-eqb cpu i (sym e)) (one-of b)
      | inr ne ↦ rw (lt-ltb i 32 small, ne_eqb i cpu ne, ne_eqb cpu i (λ e. ne (sym e))) (same-of b)
    ]
  where
    one-of : (b : Bool) → (b || (true && true)) ≡ true
    one-of true = refl
    one-of false = refl

    same-of : (b : Bool) → (b || (true && false)) ≡ b
    same-of true = refl
    same-of false = refl

-- ---- the processors of a receive queue

mask-keeps : (i : ℕ) (s : Settings) (c : Command) → i < length s.masks → i < length
    (changed s c).masks
mask-keeps i s (give.Mask q mask) lt = subst (λ n. i < n) (sym (length-set s.masks q mask)) lt
mask-keeps i s (give.Flows q count) lt = lt
mask-keeps i s (give.Sock size) lt = lt
mask-keeps i s (give.Offline cpu) lt = lt
mask-keeps i s (give.Online cpu) lt = lt
mask-keeps i s (give.XCpus tx mask) lt = lt
mask-keeps i s (give.XQueues tx queues) lt = lt
mask-keeps i s (give.Reta place q) lt = lt
mask-keeps i s (give.Stand app cpu) lt = lt
mask-keeps i s give.Expire lt = lt

mask-writes : (i : ℕ) (s : Settings) (c : Command) → NamesCpu c → i < length s.masks
    → mask_of (changed s c) i ≡ unwrap_or (mask_for i c) (mask_of s i)
mask-writes i s (give.Mask q mask) named lt = set-read s.masks q i mask (record { 0 = 0 }) lt
mask-writes i s (give.Flows q count) named lt = refl
mask-writes i s (give.Sock size) named lt = refl
mask-writes i s (give.Offline cpu) named lt = refl
mask-writes i s (give.Online cpu) named lt = refl
mask-writes i s (give.XCpus tx mask) named lt = refl
mask-writes i s (give.XQueues tx queues) named lt = refl
mask-writes i s (give.Reta place q) named lt = refl
mask-writes i s (give.Stand app cpu) named lt = refl
mask-writes i s give.Expire named lt = refl

-- ---- the flow count of a receive queue

count-keeps : (i : ℕ) (s : Settings) (c : Command) → i < length s.counts → i < length
    (changed s c).counts
count-keeps i s (give.Mask q mask) lt = lt
count-keeps i s (give.Flows q count) lt =
    subst (λ n. i < n) (sym (length-set s.counts q (rounded_up count))) lt
count-keeps i s (give.Sock size) lt = lt
count-keeps i s (give.Offline cpu) lt = lt
count-keeps i s (give.Online cpu) lt = lt
count-keeps i s (give.XCpus tx mask) lt = lt
count-keeps i s (give.XQueues tx queues) lt = lt
count-keeps i s (give.Reta place q) lt = lt
count-keeps i s (give.Stand app cpu) lt = lt
count-keeps i s give.Expire lt = lt

count-writes : (i : ℕ) (s : Settings) (c : Command) → NamesCpu c → i < length s.counts
    → slice_index (changed s c).counts i ≡ unwrap_or (count_for i c) (slice_index s.counts i)
count-writes i s (give.Mask q mask) named lt = refl
count-writes i s (give.Flows q count) named lt = set-read s.counts q i (rounded_up count) 0 lt
count-writes i s (give.Sock size) named lt = refl
count-writes i s (give.Offline cpu) named lt = refl
count-writes i s (give.Online cpu) named lt = refl
count-writes i s (give.XCpus tx mask) named lt = refl
count-writes i s (give.XQueues tx queues) named lt = refl
count-writes i s (give.Reta place q) named lt = refl
count-writes i s (give.Stand app cpu) named lt = refl
count-writes i s give.Expire named lt = refl

-- ---- the processors of a transmit queue

tx_cpus-keeps : (i : ℕ) (s : Settings) (c : Command) → i < length s.maps.cpus → i < length
    (changed s c).maps.cpus
tx_cpus-keeps i s (give.Mask q mask) lt = lt
tx_cpus-keeps i s (give.Flows q count) lt = lt
tx_cpus-keeps i s (give.Sock size) lt = lt
tx_cpus-keeps i s (give.Offline cpu) lt = lt
tx_cpus-keeps i s (give.Online cpu) lt = lt
tx_cpus-keeps i s (give.XCpus tx mask) lt =
    subst (λ n. i < n) (sym (length-set s.maps.cpus tx mask)) lt
tx_cpus-keeps i s (give.XQueues tx queues) lt = lt
tx_cpus-keeps i s (give.Reta place q) lt = lt
tx_cpus-keeps i s (give.Stand app cpu) lt = lt
tx_cpus-keeps i s give.Expire lt = lt

tx_cpus-writes : (i : ℕ) (s : Settings) (c : Command) → NamesCpu c → i < length s.maps.cpus
    → slice_index_or (changed s c).maps.cpus i no_cpus ≡ unwrap_or (tx_cpus_for i c)
    (slice_index_or s.maps.cpus i no_cpus)
tx_cpus-writes i s (give.Mask q mask) named lt = refl
tx_cpus-writes i s (give.Flows q count) named lt = refl
tx_cpus-writes i s (give.Sock size) named lt = refl
tx_cpus-writes i s (give.Offline cpu) named lt = refl
tx_cpus-writes i s (give.Online cpu) named lt = refl
tx_cpus-writes i s (give.XCpus tx mask) named lt = set-read s.maps.cpus tx i mask no_cpus lt
tx_cpus-writes i s (give.XQueues tx queues) named lt = refl
tx_cpus-writes i s (give.Reta place q) named lt = refl
tx_cpus-writes i s (give.Stand app cpu) named lt = refl
tx_cpus-writes i s give.Expire named lt = refl

-- ---- the receive queues of a transmit queue

tx_queues-keeps : (i : ℕ) (s : Settings) (c : Command) → i < length s.maps.queues → i < length
    (changed s c).maps.queues
tx_queues-keeps i s (give.Mask q mask) lt = lt
tx_queues-keeps i s (give.Flows q count) lt = lt
tx_queues-keeps i s (give.Sock size) lt = lt
tx_queues-keeps i s (give.Offline cpu) lt = lt
tx_queues-keeps i s (give.Online cpu) lt = lt
tx_queues-keeps i s (give.XCpus tx mask) lt = lt
tx_queues-keeps i s (give.XQueues tx queues) lt =
    subst (λ n. i < n) (sym (length-set s.maps.queues tx queues)) lt
tx_queues-keeps i s (give.Reta place q) lt = lt
tx_queues-keeps i s (give.Stand app cpu) lt = lt
tx_queues-keeps i s give.Expire lt = lt

tx_queues-writes : (i : ℕ) (s : Settings) (c : Command) → NamesCpu c → i < length s.maps.queues
    → slice_index (changed s c).maps.queues i ≡ unwrap_or (tx_queues_for i c)
    (slice_index s.maps.queues i)
tx_queues-writes i s (give.Mask q mask) named lt = refl
tx_queues-writes i s (give.Flows q count) named lt = refl
tx_queues-writes i s (give.Sock size) named lt = refl
tx_queues-writes i s (give.Offline cpu) named lt = refl
tx_queues-writes i s (give.Online cpu) named lt = refl
tx_queues-writes i s (give.XCpus tx mask) named lt = refl
tx_queues-writes i s (give.XQueues tx queues) named lt = set-read s.maps.queues tx i queues 0 lt
tx_queues-writes i s (give.Reta place q) named lt = refl
tx_queues-writes i s (give.Stand app cpu) named lt = refl
tx_queues-writes i s give.Expire named lt = refl

-- ---- an entry of the redirection table

entry-keeps : (i : ℕ) (s : Settings) (c : Command) → i < length s.reta.entries → i < length
    (changed s c).reta.entries
entry-keeps i s (give.Mask q mask) lt = lt
entry-keeps i s (give.Flows q count) lt = lt
entry-keeps i s (give.Sock size) lt = lt
entry-keeps i s (give.Offline cpu) lt = lt
entry-keeps i s (give.Online cpu) lt = lt
entry-keeps i s (give.XCpus tx mask) lt = lt
entry-keeps i s (give.XQueues tx queues) lt = lt
entry-keeps i s (give.Reta place q) lt =
    subst (λ n. i < n) (sym (length-set s.reta.entries place q)) lt
entry-keeps i s (give.Stand app cpu) lt = lt
entry-keeps i s give.Expire lt = lt

entry-writes : (i : ℕ) (s : Settings) (c : Command) → NamesCpu c → i < length s.reta.entries
    → slice_index (changed s c).reta.entries i ≡ unwrap_or (entry_for i c)
    (slice_index s.reta.entries i)
entry-writes i s (give.Mask q mask) named lt = refl
entry-writes i s (give.Flows q count) named lt = refl
entry-writes i s (give.Sock size) named lt = refl
entry-writes i s (give.Offline cpu) named lt = refl
entry-writes i s (give.Online cpu) named lt = refl
entry-writes i s (give.XCpus tx mask) named lt = refl
entry-writes i s (give.XQueues tx queues) named lt = refl
entry-writes i s (give.Reta place q) named lt = set-read s.reta.entries place i q 0 lt
entry-writes i s (give.Stand app cpu) named lt = refl
entry-writes i s give.Expire named lt = refl

-- ---- where an application stands

stand-keeps : (i : ℕ) (s : Settings) (c : Command) → i < length s.stands → i < length
    (changed s c).stands
stand-keeps i s (give.Mask q mask) lt = lt
stand-keeps i s (give.Flows q count) lt = lt
stand-keeps i s (give.Sock size) lt = lt
stand-keeps i s (give.Offline cpu) lt = lt
stand-keeps i s (give.Online cpu) lt = lt
stand-keeps i s (give.XCpus tx mask) lt = lt
stand-keeps i s (give.XQueues tx queues) lt = lt
stand-keeps i s (give.Reta place q) lt = lt
stand-keeps i s (give.Stand app cpu) lt = subst (λ n. i < n) (sym (length-set s.stands app cpu)) lt
stand-keeps i s give.Expire lt = lt

stand-writes : (i : ℕ) (s : Settings) (c : Command) → NamesCpu c → i < length s.stands
    → slice_index (changed s c).stands i ≡ unwrap_or (stand_for i c) (slice_index s.stands i)
stand-writes i s (give.Mask q mask) named lt = refl
stand-writes i s (give.Flows q count) named lt = refl
stand-writes i s (give.Sock size) named lt = refl
stand-writes i s (give.Offline cpu) named lt = refl
stand-writes i s (give.Online cpu) named lt = refl
stand-writes i s (give.XCpus tx mask) named lt = refl
stand-writes i s (give.XQueues tx queues) named lt = refl
stand-writes i s (give.Reta place q) named lt = refl
stand-writes i s (give.Stand app cpu) named lt = set-read s.stands app i cpu 0 lt
stand-writes i s give.Expire named lt = refl

-- ---- the size of the socket flow table

sock-writes : (s : Settings) (c : Command) → NamesCpu c → Unit {0}
    → (changed s c).sock ≡ unwrap_or (sock_for c) s.sock
sock-writes s (give.Mask q mask) named have = refl
sock-writes s (give.Flows q count) named have = refl
sock-writes s (give.Sock size) named have = refl
sock-writes s (give.Offline cpu) named have = refl
sock-writes s (give.Online cpu) named have = refl
sock-writes s (give.XCpus tx mask) named have = refl
sock-writes s (give.XQueues tx queues) named have = refl
sock-writes s (give.Reta place q) named have = refl
sock-writes s (give.Stand app cpu) named have = refl
sock-writes s give.Expire named have = refl

-- ---- whether a processor is online

online-writes : (i : ℕ) → i < 32 → (s : Settings) (c : Command) → NamesCpu c → Unit {0}
    → has (changed s c).online i ≡ unwrap_or (online_for i c) (has s.online i)
online-writes i small s (give.Mask q mask) named have = refl
online-writes i small s (give.Flows q count) named have = refl
online-writes i small s (give.Sock size) named have = refl
online-writes i small s (give.Offline cpu) named have =
    has-without_cpu s.online cpu i named ∙ cleared i cpu (has s.online i)
online-writes i small s (give.Online cpu) named have =
    has-with_cpu s.online cpu i named ∙ joined i cpu (has s.online i) small
online-writes i small s (give.XCpus tx mask) named have = refl
online-writes i small s (give.XQueues tx queues) named have = refl
online-writes i small s (give.Reta place q) named have = refl
online-writes i small s (give.Stand app cpu) named have = refl
online-writes i small s give.Expire named have = refl

pub values_are_last_writes : (s : Settings) (cs : List Commanded) → All (λ c. NamesCpu c.command) cs
    → AreLastWrites s cs
values_are_last_writes s cs named =
    record {
      masks = λ i lt. last-written (λ t. mask_of t i) (mask_for i) (λ t. i < length t.masks)
          (mask-keeps i) (mask-writes i) s cs named lt;
      counts = λ i lt. last-written (λ t. slice_index t.counts i) (count_for i)
          (λ t. i < length t.counts) (count-keeps i) (count-writes i) s cs named lt;
      sock = last-written (λ t. t.sock) sock_for (λ t. Unit {0}) (λ t c u. u) sock-writes s cs named
          tt;
      online = λ i lt. last-written (λ t. has t.online i) (online_for i) (λ t. Unit {0})
          (λ t c u. u) (online-writes i lt) s cs named tt;
      tx_cpus = λ i lt. last-written (λ t. slice_index_or t.maps.cpus i no_cpus) (tx_cpus_for i)
          (λ t. i < length t.maps.cpus) (tx_cpus-keeps i) (tx_cpus-writes i) s cs named lt;
      tx_queues = λ i lt. last-written (λ t. slice_index t.maps.queues i) (tx_queues_for i)
          (λ t. i < length t.maps.queues) (tx_queues-keeps i) (tx_queues-writes i) s cs named lt;
      entries = λ i lt. last-written (λ t. slice_index t.reta.entries i) (entry_for i)
          (λ t. i < length t.reta.entries) (entry-keeps i) (entry-writes i) s cs named lt;
      stands = λ i lt. last-written (λ t. slice_index t.stands i) (stand_for i)
          (λ t. i < length t.stands) (stand-keeps i) (stand-writes i) s cs named lt;
    }
