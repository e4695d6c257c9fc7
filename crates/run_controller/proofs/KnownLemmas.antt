-- What the controller knows stays in its ranges.
use Rattle.std.specs.Prelude.{replicate, slice_index, slice_set}
use Rattle.std.proofs.lemmas.List.{get_or-set_same, get_or-set_other, length-set}
use mathlib.Core.Logic.{dite}
use native.Mathlib.Decide.{ℕ_discrete}
use Rattle.steer_base.specs.Counters.{rounded_up}
use Rattle.steer_base.specs.declared.command.Command.TheVariants as give
use Rattle.steer_model.specs.State.Settings.{changed}
use Rattle.steer_model.specs.State.Start.{setup_of}
use Rattle.run_controller.specs.Journals.{known_by}
use Rattle.run_controller.specs.Settings.{generations_after, known_after}
use Rattle.run_controller.proofs.Names.{◌≡◌, ℕ, zero, suc, ◌+◌, ◌<◌, ◌≤◌, Bool, true, false, List}
use Rattle.run_controller.proofs.Names.{length, if◌then◌else◌, refl, sym, ap, subst, ◌∙◌, arith}
use Rattle.run_controller.proofs.Names.{length-map, Command, Commanded, Plan, QueuePlan, Settings}
use Rattle.run_controller.proofs.Names.{Setup, is_done, IsKnown, KnownSettings, first_known}
use Rattle.run_controller.proofs.Names.{IsNamed}

-- ---- a done command

pub generations-size : (gs : List ℕ) (c : Command) → length (generations_after gs c) ≡ length gs
generations-size gs (give.Flows q count) = length-set gs q (slice_index gs q + 1)
generations-size gs (give.Mask q mask) = refl
generations-size gs (give.Sock size) = refl
generations-size gs (give.Offline cpu) = refl
generations-size gs (give.Online cpu) = refl
generations-size gs (give.XCpus tx mask) = refl
generations-size gs (give.XQueues tx rxqs) = refl
generations-size gs (give.Reta entry q) = refl
generations-size gs (give.Stand app cpu) = refl
generations-size gs give.Expire = refl

-- one more at one place
raised : (gs : List ℕ) (q p most : ℕ) → q < length gs → ((p : ℕ) → slice_index gs p ≤ most)
    → slice_index (slice_set gs q (slice_index gs q + 1)) p ≤ most + 1
raised gs q p most within few =
    let at = few q in
    let other = few p in
    dite (ℕ_discrete q p)
    (λ e.
    let is : slice_index (slice_set gs q (slice_index gs q + 1)) p ≡ slice_index gs q + 1 =
    ap (λ n. slice_index (slice_set gs q (slice_index gs q + 1)) n) (sym e)
    ∙ get_or-set_same gs q (slice_index gs q + 1) 0 within in omega (arith, is, at))
    (λ ne.
    let is : slice_index (slice_set gs q (slice_index gs q + 1)) p ≡ slice_index gs p =
    get_or-set_other gs q p (slice_index gs q + 1) 0 (λ e. ne (sym e)) in omega (arith, is, other))

generations-few : (given : Setup) (gs : List ℕ) (most : ℕ) (c : Command)
    → length gs ≡ length given.homes → IsNamed given c → ((p : ℕ) → slice_index gs p ≤ most)
    → (p : ℕ) → slice_index (generations_after gs c) p ≤ most + 1
generations-few given gs most (give.Flows q count) size named few p =
    raised gs q p most (subst (λ n. q < n) (sym size) named.0) few
generations-few given gs most (give.Mask q mask) size named few p =
    let z = few p in omega (arith, z)
generations-few given gs most (give.Sock n) size named few p = let z = few p in omega (arith, z)
generations-few given gs most (give.Offline cpu) size named few p =
    let z = few p in omega (arith, z)
generations-few given gs most (give.Online cpu) size named few p =
    let z = few p in omega (arith, z)
generations-few given gs most (give.XCpus tx mask) size named few p =
    let z = few p in omega (arith, z)
generations-few given gs most (give.XQueues tx rxqs) size named few p =
    let z = few p in omega (arith, z)
generations-few given gs most (give.Reta entry q) size named few p =
    let z = few p in omega (arith, z)
generations-few given gs most (give.Stand app cpu) size named few p =
    let z = few p in omega (arith, z)
generations-few given gs most give.Expire size named few p = let z = few p in omega (arith, z)

-- the sizes of settings
record Sizes (given : Setup) (s : Settings) : Type 0 where
  masks : length s.masks ≡ length given.homes
  counts : length s.counts ≡ length given.homes
  maps : s.maps.count ≡ given.txs
  reta : s.reta.queues ≡ length given.homes
  stands : length s.stands ≡ given.apps

sizes_stay : (given : Setup) (s : Settings) (c : Command) → Sizes given s
    → Sizes given (changed s c)
sizes_stay given s (give.Mask q mask) is = assumption (length-set s.masks q mask ∙ is.masks)
sizes_stay given s (give.Flows q count) is =
    assumption (length-set s.counts q (rounded_up count) ∙ is.counts)
sizes_stay given s (give.Stand app cpu) is = assumption (length-set s.stands app cpu ∙ is.stands)
sizes_stay given s (give.Sock size) is = assumption
sizes_stay given s (give.Offline cpu) is = assumption
sizes_stay given s (give.Online cpu) is = assumption
sizes_stay given s (give.XCpus tx mask) is = assumption
sizes_stay given s (give.XQueues tx rxqs) is = assumption
sizes_stay given s (give.Reta entry q) is = assumption
sizes_stay given s give.Expire is = is

pub known_done : (given : Setup) (most : ℕ) (k : KnownSettings) (c : Command) → IsNamed given c
    → IsKnown given most k → IsKnown given (most + 1) (known_after k c)
known_done given most k c named is =
    let before : Sizes given k.settings = assumption in
    let sizes = sizes_stay given k.settings c before in
    assumption (
      generations-size k.generations c ∙ is.generations,
      generations-few given k.generations most c is.generations named is.few,
    )

pub known_later : (given : Setup) (most more : ℕ) (k : KnownSettings) → most ≤ more
    → IsKnown given most k → IsKnown given more k
known_later given most more k least is =
    let few : (q : ℕ) → slice_index k.generations q ≤ more =
    λ q. (let z = is.few q in omega (arith, z, least)) in
    assumption few

-- a try more
pub known_more : (given : Setup) (most : ℕ) (k : KnownSettings) (g : Commanded)
    → IsNamed given g.command → IsKnown given most k → IsKnown given (most + 1) (known_by k g)
known_more given most k g named is = by_done (is_done g.answer)
  where
    by_done : (b : Bool) → IsKnown given (most + 1) (if b then known_after k g.command else k)
    by_done true = known_done given most k g.command named is
    by_done false = known_later given most (most + 1) k (omega arith) is

-- ---- the start

zeros : (n p : ℕ) → slice_index (replicate n 0) p ≤ 0
zeros zero p = omega arith
zeros (suc n) zero = omega arith
zeros (suc n) (suc p) = zeros n p

pub length-zeros : (n : ℕ) → length {A = ℕ} (replicate n 0) ≡ n
length-zeros zero = refl
length-zeros (suc n) = ap suc (length-zeros n)

pub first_is_known : (plan : Plan) (given : Setup) → given ≡ setup_of plan given.packets given.cut
    → IsKnown given 0 (first_known plan)
first_is_known plan given is =
    let homes : length given.homes ≡ length plan.queues =
    ap (λ (p : Setup). length p.homes) is ∙ length-map plan.queues (λ (q : QueuePlan). q.home) in
    record {
      masks = length-map plan.queues _ ∙ sym homes;
      counts = length-map plan.queues _ ∙ sym homes;
      maps = sym (ap (λ (p : Setup). p.txs) is);
      reta = sym homes;
      stands = sym (ap (λ (p : Setup). p.apps) is);
      generations = length-zeros (length plan.queues) ∙ sym homes;
      few = zeros (length plan.queues);
    }
