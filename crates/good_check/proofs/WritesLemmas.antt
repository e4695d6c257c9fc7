-- The writes of an application, if no command was given.
use Rattle.std.proofs.Common.{ℕ, ◌≡◌, List, [], ◌∷◌, Option, Some, None}
use Rattle.std.proofs.Common.{refl, ap, ◌∙◌, sym, arith, inl, inr}
use Rattle.std.specs.Prelude.{◌%◌, nat_lt, slice_get, true}
use Rattle.std.proofs.lemmas.Bool.{cases_lt}
use Rattle.std.specs.List.{cons_option}
use Rattle.std.specs.Option.{option_map}
use Rattle.steer_base.specs.Choices.{class_of}
use Rattle.steer_base.specs.Counters.{rounded_up}
use Rattle.steer_base.specs.declared.command.Command.{Command}
use Rattle.history.specs.declared.history.History.{History}
use Rattle.history.specs.declared.sock_write.SockWrite.{SockWrite}
use Rattle.steer_model.specs.Good.Inputs.{Input, WasDone, setup_in}
use Rattle.steer_model.specs.Good.Writes.{AreWrites, IsSize, IsWrite, StoodAt}
use Rattle.steer_model.specs.State.Setup.{packet_hash}
use Rattle.good_check.specs.Writes.{write_for, writes_for}

-- without commands none was done
pub none-done : (h : History) (command : Command) → h.commands ≡ [] → WasDone h command → ⊥
none-done h command none done =
    let e : slice_get [] done.0 ≡ slice_get h.commands done.0 =
    ap (λ cs. slice_get cs done.0) (sym none) in
    let f : slice_get [] done.0 ≡ Some (record { command = command; answer = _ }) = e ∙ done.1 in
    absurd (cc)

module _ (i : Input) (h : History) (a cpu : ℕ) (none : h.commands ≡ [])
    (stands : slice_get i.plan.apps a ≡ Some cpu) where
  abbrev size : ℕ
  size = rounded_up i.plan.sock

  abbrev wanted : List ℕ → List SockWrite
  wanted xs = writes_for (setup_in i) size cpu xs

  size-is : (s : ℕ) → IsSize i h s → s ≡ size
  size-is s (inl e) = e
  size-is s (inr done) = absurd (none-done h _ none done.2)

  cpu-is : (c : ℕ) → StoodAt i h a c → c ≡ cpu
  cpu-is c (inl e) = let f : Some c ≡ Some cpu = sym e ∙ stands in cc
  cpu-is c (inr done) = absurd (none-done h _ none done)

  same-write : (w : SockWrite) (place : ℕ) → Some place ≡ Some w.entry → w.cpu ≡ cpu
      → record { entry = place; cpu = cpu } ≡ w
  same-write w place e c = let f : place ≡ w.entry = cc in rw (f, ← c) refl

  write-is : (x hash : ℕ) (w : SockWrite) → packet_hash (setup_in i) x ≡ Some hash
      → IsWrite i h a hash w → write_for (setup_in i) size cpu x ≡ Some w
  write-is x hash w e is =
      let s : is.size ≡ size = size-is is.size is.is_size in
      let c : w.cpu ≡ cpu = cpu-is w.cpu is.stood in
      let at : class_of size (packet_hash (setup_in i) x) ≡ Some w.entry =
      ap (class_of size) e ∙ ap (λ n. class_of n (Some hash)) (sym s) ∙ is.at in
      ap (option_map (λ place. record { entry = place; cpu = cpu })) at
      ∙ ap (λ d. Some (record { entry = w.entry; cpu = d })) (sym c)

  none-without : (x : ℕ) → packet_hash (setup_in i) x ≡ None
      → write_for (setup_in i) size cpu x ≡ None
  none-without x e =
      ap (λ o. option_map (λ place. record { entry = place; cpu = cpu }) (class_of size o)) e

  none-of : (x hash : ℕ) → 0 ≡ size → write_for (setup_in i) size cpu x ≡ None
  none-of x hash z =
      let f : (o : Option ℕ) → class_of 0 o ≡ None = λ o. elim o as (λ o. class_of 0 o ≡ None) [
        | None ↦ refl
        | Some k ↦ refl
      ] in
      ap (λ n. option_map (λ place. record { entry = place; cpu = cpu })
      (class_of n (packet_hash (setup_in i) x))) (sym z)
      ∙ ap (option_map (λ place. record { entry = place; cpu = cpu }))
      (f (packet_hash (setup_in i) x))

  -- the writes that the clause asks for are exactly those
  pub writes-to : (xs : List ℕ) (ws : List SockWrite) → AreWrites i h a xs ws → ws ≡ wanted xs
  writes-to [] ws e = e
  writes-to (x ∷ xs) ws (inl u) =
      writes-to xs ws u.1 ∙ sym (ap (λ o. cons_option o (wanted xs)) (none-without x u.0))
  writes-to (x ∷ xs) ws (inr (inl u)) =
      u.4 ∙ ap (λ l. u.1 ∷ l) (writes-to xs u.2 u.6)
      ∙ sym (ap (λ o. cons_option o (wanted xs)) (write-is x u.0 u.1 u.3 u.5))
  writes-to (x ∷ xs) ws (inr (inr u)) =
      writes-to xs ws u.3
      ∙ sym (ap (λ o. cons_option o (wanted xs)) (none-of x u.0 (size-is 0 u.2)))

  from-hash : (x : ℕ) (xs : List ℕ) (ws : List SockWrite) (o : Option ℕ)
      → packet_hash (setup_in i) x ≡ o
      → ((vs : List SockWrite) → vs ≡ wanted xs → AreWrites i h a xs vs)
      → ws ≡ cons_option (option_map (λ place. record { entry = place; cpu = cpu })
      (class_of size o)) (wanted xs)
      → AreWrites i h a (x ∷ xs) ws
  from-hash x xs ws None e rest w = inl (e, rest ws w)
  from-hash x xs ws (Some hash) e rest w = elim (cases_lt 0 size) [
    | inl l ↦
        let t : class_of size (Some hash) ≡ Some (hash % size) = let b : nat_lt 0 size ≡ true =
        grind arith in rw b refl in
        let v : ws ≡ record { entry = hash % size; cpu = cpu } ∷ wanted xs =
        w ∙ ap (λ o. cons_option (option_map (λ place. record { entry = place; cpu = cpu }) o)
        (wanted xs)) t in
        inr (inl (
          hash,
          record { entry = hash % size; cpu = cpu },
          wanted xs,
          e,
          v,
          record { size = size; is_size = inl refl; at = t; stood = inl stands },
          rest (wanted xs) refl,
        ))
    | inr l ↦
        let z : 0 ≡ size = omega (arith, l) in
        let t : class_of size (Some hash) ≡ None = rw (← z) refl in
        let v : ws ≡ wanted xs =
        w ∙ ap (λ o. cons_option (option_map (λ place. record { entry = place; cpu = cpu }) o)
        (wanted xs)) t in
        inr (inr (hash, e, inl z, rest ws v))
  ]

  pub writes-from : (xs : List ℕ) (ws : List SockWrite) → ws ≡ wanted xs → AreWrites i h a xs ws
  writes-from [] ws e = e
  writes-from (x ∷ xs) ws e =
      from-hash x xs ws (packet_hash (setup_in i) x) refl (λ vs f. writes-from xs vs f) e
