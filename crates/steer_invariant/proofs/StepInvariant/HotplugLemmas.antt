-- What a processor that goes offline or comes online keeps.
use Rattle.std.proofs.Common.{ℕ, ◌≤◌, ◌<◌, ◌≡◌, ◌≢◌, ◌⊎◌, Bool, true, false, cond, List, Option}
use Rattle.std.proofs.Common.{Some, None, length, refl, ap, ◌∙◌, sym, subst, arith, inl, inr}
use Rattle.std.specs.Prelude.{◌==◌, ◌&&◌, ◌||◌, nat_lt, not, slice_index}
use Rattle.std.specs.List.{list_any, position, position_or_len}
use Rattle.std.proofs.lemmas.List.Folds.{list_any_at}
use Rattle.std.proofs.lemmas.List.Sums.{fails_before_first}
use Rattle.std.specs.Option.{option_map}
use Rattle.std.proofs.lemmas.Bool.{cases_Bool, cases_eq, cases_lt, eq-eqb, lt-ltb, ne_eqb}
use Rattle.steer_base.specs.Choices.{online_or, rps_choice_of}
use Rattle.steer_base.specs.Commands.{queue_or_app, refusal, user_of}
use Rattle.steer_base.specs.Sets.{at_hash, has, is_empty, those_below, with_cpu, without_cpu}
use Rattle.steer_base.specs.declared.command.Command.{Command}
use Rattle.steer_base.specs.declared.command.Command.TheVariants as give
use Rattle.steer_base.specs.declared.command.Refused.{Refused}
use Rattle.steer_base.specs.declared.command.Refused.TheVariants as refused
use Rattle.steer_base.specs.declared.command.User.{User}
use Rattle.steer_base.specs.declared.command.User.TheVariants as user
use Rattle.steer_base.specs.declared.cpu_mask.CpuMask.{CpuMask}
use Rattle.steer_base.proofs.MasksLemmas.{has-with_cpu, has-without_cpu}
use Rattle.hop_model.specs.Hop.{accepted_at, retired_at}
use Rattle.hop_core.proofs.Settled.{reset_settles}
use Rattle.steer_model.specs.Steps.Commands.{affects, answer_to, by_gate, is_done, set_by}
use Rattle.steer_model.specs.State.Machine.{Machine}
use Rattle.steer_model.specs.State.Settings.{Settings, class_at, mask_of, plain_lane}
use Rattle.steer_model.specs.State.Setup.{packet_hash}
use Rattle.steer_invariant.specs.StepInvariant.{StepInvariant}
use Rattle.steer_invariant.specs.HopInvariants.{Manned}
use Rattle.steer_invariant.proofs.StepInvariant.GateLemmas.{emptied_by, gate_passed, no_hands}
use Rattle.steer_invariant.proofs.StepInvariant.GateLemmas.{not-refused}

-- ---- a set with a processor more or less

with-same : (mask : CpuMask) (cpu : ℕ) → cpu < 32 → has (with_cpu mask cpu) cpu ≡ true
with-same mask cpu small =
    let or-true : (b : Bool) → (b || true) ≡ true =
    λ b. elim (cases_Bool b) [ inl e ↦ rw e refl | inr e ↦ rw e refl ] in
    has-with_cpu mask cpu cpu small
    ∙ ap (λ b. has mask cpu || (b && cpu == cpu)) (lt-ltb cpu 32 small)
    ∙ ap (λ b. has mask cpu || b) (eq-eqb cpu cpu refl) ∙ or-true (has mask cpu)

with-other : (mask : CpuMask) (cpu c : ℕ) → cpu < 32 → c ≢ cpu
    → has (with_cpu mask cpu) c ≡ has mask c
with-other mask cpu c small ne =
    let and-false : (b : Bool) → (b && false) ≡ false =
    λ b. elim (cases_Bool b) [ inl e ↦ rw e refl | inr e ↦ rw e refl ] in
    let or-false : (b : Bool) → (b || false) ≡ b =
    λ b. elim (cases_Bool b) [ inl e ↦ rw e refl | inr e ↦ rw e refl ] in
    has-with_cpu mask cpu c small
    ∙ ap (λ b. has mask c || (nat_lt c 32 && b)) (ne_eqb cpu c (λ e. ne (sym e)))
    ∙ ap (λ b. has mask c || b) (and-false (nat_lt c 32)) ∙ or-false (has mask c)

without-same : (mask : CpuMask) (cpu : ℕ) → cpu < 32 → has (without_cpu mask cpu) cpu ≡ false
without-same mask cpu small =
    let and-false : (b : Bool) → (b && false) ≡ false =
    λ b. elim (cases_Bool b) [ inl e ↦ rw e refl | inr e ↦ rw e refl ] in
    has-without_cpu mask cpu cpu small
    ∙ ap (λ b. has mask cpu && not b) (eq-eqb cpu cpu refl) ∙ and-false (has mask cpu)

without-other : (mask : CpuMask) (cpu c : ℕ) → cpu < 32 → c ≢ cpu
    → has (without_cpu mask cpu) c ≡ has mask c
without-other mask cpu c small ne =
    let and-true : (b : Bool) → (b && true) ≡ b =
    λ b. elim (cases_Bool b) [ inl e ↦ rw e refl | inr e ↦ rw e refl ] in
    has-without_cpu mask cpu c small
    ∙ ap (λ b. has mask c && not b) (ne_eqb cpu c (λ e. ne (sym e))) ∙ and-true (has mask c)

-- ---- where packets without a class go

-- the processor that a hash chooses is used as before, or it is the one that changed
chosen-cases : (old new : CpuMask) (home cpu chosen : ℕ)
    → ((c : ℕ) → c ≢ cpu → has new c ≡ has old c)
    → (online_or new chosen home ≡ online_or old chosen home)
    ⊎ (online_or old chosen home ≡ online_or old cpu home)
chosen-cases old new home cpu chosen same =
    elim (cases_eq chosen cpu) [
      | inl e ↦ inr (ap (λ c. online_or old c home) e)
      | inr ne ↦ inl (ap (λ b. cond b chosen home) (same chosen ne))
    ]

filled-cases : (empty : Bool) (old new : CpuMask) (home cpu chosen : ℕ)
    → ((c : ℕ) → c ≢ cpu → has new c ≡ has old c)
    → (cond empty home (online_or new chosen home) ≡ cond empty home (online_or old chosen home))
    ⊎ (cond empty home (online_or old chosen home) ≡ online_or old cpu home)
filled-cases true old new home cpu chosen same = inl refl
filled-cases false old new home cpu chosen same = chosen-cases old new home cpu chosen same

-- the RPS choice is as before, or it was the one for the processor that changed
plain-cases : (mask : CpuMask) (hash : Option ℕ) (old new : CpuMask) (home cpu : ℕ)
    → ((c : ℕ) → c ≢ cpu → has new c ≡ has old c)
    → (rps_choice_of mask hash new home ≡ rps_choice_of mask hash old home)
    ⊎ (rps_choice_of mask hash old home ≡ online_or old cpu home)
plain-cases mask None old new home cpu same = inl refl
plain-cases mask (Some hash) old new home cpu same =
    filled-cases (is_empty (those_below 32 (has mask))) old new home cpu
    (at_hash (those_below 32 (has mask)) hash) same

-- ---- what a refusal would have said

no_user : (queue app : Option ℕ) → queue_or_app queue app ≡ None → queue ≡ None
no_user None app e = refl
no_user (Some q) app e =
    absurd (let f : queue_or_app (Some q) app ≡ Some (user.Queue q) = refl in cc)

none_mapped : (who : Option User) → option_map (λ u. refused.CpuInUse u) who ≡ None → who ≡ None
none_mapped None e = refl
none_mapped (Some u) e = absurd (cc)

position_found : (homes : List ℕ) (cpu q : ℕ) → q < length homes
    → (slice_index homes q == cpu) ≡ true
    → (i : ℕ) × (position (λ home. home == cpu) homes ≡ Some i)
position_found homes cpu q lt e =
    let n : ℕ = position_or_len (λ home. home == cpu) homes in
    elim (cases_lt n (length homes)) [
      | inl l ↦ (n, ap (λ b. cond b (Some n) None) (lt-ltb n (length homes) l))
      | inr le ↦ absurd (
          let f : (slice_index homes q == cpu) ≡ false =
          fails_before_first (λ home. home == cpu) homes q 0 (omega (arith, lt, le)) in cc)
    ]

no_home : (homes : List ℕ) (cpu : ℕ) → position (λ home. home == cpu) homes ≡ None
    → (q : ℕ) → q < length homes → slice_index homes q ≢ cpu
no_home homes cpu none q lt e =
    let w = position_found homes cpu q lt (eq-eqb (slice_index homes q) cpu e) in
    let f : Some w.0 ≡ None = sym w.1 ∙ none in cc

-- a processor that goes offline was online, and home to no queue
offline-fits : (online : CpuMask) (cpu : ℕ) (homes stands : List ℕ)
    → refusal online (give.Offline cpu) homes stands ≡ None
    → (has online cpu ≡ true) × ((q : ℕ) → q < length homes → slice_index homes q ≢ cpu)
offline-fits online cpu homes stands e =
    let used : Option Refused = option_map (λ u. refused.CpuInUse u) (user_of homes stands cpu) in
    elim (cases_Bool (has online cpu)) [
      | inl on ↦ (
          let f : used ≡ None = sym (ap (λ b. cond b used (Some refused.CpuOffline)) on) ∙ e in (
            on,
            no_home homes cpu
                (no_user (position (λ home. home == cpu) homes)
                (position (λ stand. stand == cpu) stands)
                (none_mapped (user_of homes stands cpu) f)),
          ))
      | inr off ↦ absurd (
          let f : Some refused.CpuOffline ≡ None =
          sym (ap (λ b. cond b used (Some refused.CpuOffline)) off) ∙ e in cc)
    ]

-- one that comes online was offline
online-fits : (online : CpuMask) (cpu : ℕ) (homes stands : List ℕ)
    → refusal online (give.Online cpu) homes stands ≡ None → has online cpu ≡ false
online-fits online cpu homes stands e =
    elim (cases_Bool (has online cpu)) [
      | inl on ↦ absurd (
          let f : Some refused.AlreadyOnline ≡ None =
          sym (ap (λ b. cond b (Some refused.AlreadyOnline) None) on) ∙ e in cc)
      | inr off ↦ off
    ]

-- the home of a queue is one of the homes
home-named : (homes : List ℕ) (q : ℕ) → q < length homes
    → list_any (λ home. home == slice_index homes q) homes ≡ true
home-named homes q lt =
    list_any_at (λ home. home == slice_index homes q) homes q 0 lt
    (eq-eqb (slice_index homes q) (slice_index homes q) refl)

-- ---- both commands

-- one processor changes: the lane where packets went that would move is empty
kept-changed : (m : Machine) (online : CpuMask) (cpu : ℕ)
    → ((c : ℕ) → c ≢ cpu → has online c ≡ has m.settings.online c)
    → Manned m.setup (record m.settings { online = online }) m.rx → m.rx.bare.inside ≡ 0
    → ((q : ℕ) → q < length m.setup.homes
    → length
    (accepted_at m.rx.bare
    (online_or m.settings.online cpu (slice_index m.setup.homes q))) ≤ retired_at m.rx.bare
    (online_or m.settings.online cpu (slice_index m.setup.homes q)))
    → StepInvariant m → StepInvariant
    (record m { settings = record m.settings { online = online } })
kept-changed m online cpu same manned alone dry k =
    let z = k.rx.sizes in let y = k.sizes in let h = k.rx.sound in
    let now : Settings = record m.settings { online = online } in
    assumption (
      reset_settles (class_at m.setup m.settings) (class_at m.setup now) (plain_lane m.setup
          m.settings) (plain_lane m.setup now) m.rx h (record {
            hands = λ q lt. no_hands m.rx h
                alone q;
            classes = λ q i lt a b. refl;
            lanes = λ q x lt. elim (plain-cases (mask_of
                m.settings q) (packet_hash m.setup x) m.settings.online online
                (slice_index m.setup.homes q)
                cpu same) [
                  | inl e ↦ inl e
                  | inr e ↦ inr (subst (λ lane. length (accepted_at m.rx.bare
                      lane) ≤ retired_at m.rx.bare lane) (sym e)
                      (dry q (omega (arith, lt, z.queues))))
                ];
          })
          k.by.settled,
      manned,
    )

pub kept_offline : (m : Machine) (cpu : ℕ) → cpu < m.setup.cpus
    → is_done (answer_to m (give.Offline cpu)) ≡ true → StepInvariant m → StepInvariant
    (set_by m (give.Offline cpu))
kept_offline m cpu named done k =
    let few = k.given.few_cpus in let w = k.by.manned in
    let c : Command = give.Offline cpu in
    let small : cpu < 32 = omega (arith, named, few) in
    let free =
    not-refused (refusal m.settings.online c m.setup.homes m.settings.stands) (by_gate m c) done in
    let fits = offline-fits m.settings.online cpu m.setup.homes m.settings.stands free.0 in
    let passed = gate_passed m.rx (affects m.setup c) free.1 in
    let online : CpuMask = without_cpu m.settings.online cpu in
    let gone : has online cpu ≡ false = without-same m.settings.online cpu small in
    let other : (d : ℕ) → d ≢ cpu → has online d ≡ has m.settings.online d =
    λ d ne. without-other m.settings.online cpu d small ne in
    let here : length (accepted_at m.rx.bare cpu) ≤ retired_at m.rx.bare cpu =
    emptied_by m.rx cpu (λ lt. passed.empty cpu lt (eq-eqb cpu cpu refl)) in
    kept-changed m online cpu other
    (record {
      homes = λ q lt. other (slice_index m.setup.homes q) (fits.1 q lt) ∙ w.homes q lt;
      within = λ d on. elim (cases_eq d cpu) [
        | inl e ↦ absurd (let f : has online cpu ≡ true = ap (has online) (sym e) ∙ on in
            let g : true ≡ false = sym f ∙ gone in cc)
        | inr ne ↦ w.within d (sym (other d ne) ∙ on)
      ];
      empty = λ d lt off. elim (cases_eq d cpu) [
        | inl e ↦ passed.empty d lt (eq-eqb d cpu e)
        | inr ne ↦ w.empty d lt (sym (other d ne) ∙ off)
      ];
      hand = λ q lt. absurd (let o = no_hands m.rx k.rx.sound passed.alone q in
          omega (arith, lt, o));
    }) passed.alone
    (λ q lt.
    subst (λ lane. length (accepted_at m.rx.bare lane) ≤ retired_at m.rx.bare lane)
    (sym (ap (λ b. cond b cpu (slice_index m.setup.homes q)) fits.0)) here) k

pub kept_online : (m : Machine) (cpu : ℕ) → cpu < m.setup.cpus
    → is_done (answer_to m (give.Online cpu)) ≡ true → StepInvariant m → StepInvariant
    (set_by m (give.Online cpu))
kept_online m cpu named done k =
    let few = k.given.few_cpus in let w = k.by.manned in
    let c : Command = give.Online cpu in
    let small : cpu < 32 = omega (arith, named, few) in
    let free =
    not-refused (refusal m.settings.online c m.setup.homes m.settings.stands) (by_gate m c) done in
    let off : has m.settings.online cpu ≡ false =
    online-fits m.settings.online cpu m.setup.homes m.settings.stands free.0 in
    let passed = gate_passed m.rx (affects m.setup c) free.1 in
    let online : CpuMask = with_cpu m.settings.online cpu in
    let there : has online cpu ≡ true = with-same m.settings.online cpu small in
    let other : (d : ℕ) → d ≢ cpu → has online d ≡ has m.settings.online d =
    λ d ne. with-other m.settings.online cpu d small ne in
    kept-changed m online cpu other
    (record {
      homes = λ q lt. elim (cases_eq (slice_index m.setup.homes q) cpu) [
        | inl e ↦ ap (has online) e ∙ there
        | inr ne ↦ other (slice_index m.setup.homes q) ne ∙ w.homes q lt
      ];
      within = λ d on. elim (cases_eq d cpu) [
        | inl e ↦ omega (arith, e, named)
        | inr ne ↦ w.within d (sym (other d ne) ∙ on)
      ];
      empty = λ d lt gone. elim (cases_eq d cpu) [
        | inl e ↦ absurd (let f : has online cpu ≡ false = ap (has online) (sym e) ∙ gone in
            let g : true ≡ false = sym there ∙ f in cc)
        | inr ne ↦ w.empty d lt (sym (other d ne) ∙ gone)
      ];
      hand = λ q lt. absurd (let o = no_hands m.rx k.rx.sound passed.alone q in
          omega (arith, lt, o));
    }) passed.alone
    (λ q lt.
    subst (λ lane. length (accepted_at m.rx.bare lane) ≤ retired_at m.rx.bare lane)
    (sym (ap (λ b. cond b cpu (slice_index m.setup.homes q)) off))
    (emptied_by m.rx (slice_index m.setup.homes q)
    (λ in'. passed.empty (slice_index m.setup.homes q) in' (home-named m.setup.homes q lt)))) k
