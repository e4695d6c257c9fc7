-- What an application's seat does at its inbox.
use Rattle.hop_rule.specs.declared.step.BoardStep.TheVariants.{LaneOut, OutCounted}
use Rattle.hop_rule.specs.declared.step.LaneStep.TheVariants.{OutMissed}
use Rattle.board_api.specs.Calls.Results.{ReadTells, TailTells}
use Rattle.board_api.specs.StepWords.{is_odd}
use Rattle.board_api.specs.declared.held_lane.HeldLane.TheVariants as held
use Rattle.board_api.specs.declared.held_lane.LaneId.TheVariants as id
use Rattle.run_workers.specs.Hands.Servers.{FoundAt, LooksInVain, Notes, in_hand}
use Rattle.run_workers.proofs.Names.{◌≡◌, inl, inr, ℕ, ◌+◌, ◌≤◌, ◌<◌, true, List, [], ◌∷◌, ◌++◌}
use Rattle.run_workers.proofs.Names.{Option, None, Some, IfSome, refl, sym, ap, subst, ◌∙◌, length}
use Rattle.run_workers.proofs.Names.{length-append, arith, Contains-append_left}
use Rattle.run_workers.proofs.Names.{Contains-append_right, Contains-push, SeatView, number}
use Rattle.run_workers.proofs.Names.{Journal, SockWrite, HintStep, gate_steps, out_slot, closed}
use Rattle.run_workers.proofs.Names.{visit, OutList, BoardSizes, BoardStep, Lane, LaneIn, OutFreed}
use Rattle.run_workers.proofs.Names.{OutHeld, BackTells, Took, BoardSeatView, Adds, HeldLane}
use Rattle.run_workers.proofs.Names.{quiet_steps_stay, AreQuiet, Setup, OnlyServes, Serves, no_lane}
use Rattle.run_workers.proofs.Names.{IsServer, Peeks, Writes, Server}
use Rattle.run_workers.proofs.Hands.DeltaLemmas.{adds_both, leaves_each, out_held_steps, serve_both}
use Rattle.run_workers.proofs.Hands.DeltaLemmas.{serve_out_back, serve_out_missed, stays}

-- ---- a look at the inbox

serve_out_counted : (o w : ℕ) → OnlyServes no_lane (OutCounted o w ∷ [])
serve_out_counted o w =
    record {
      quiet = record { puts = refl; visits = refl };
      holds = record { lanes = λ i own e. e; outs = λ i own e. e };
      others = leaves_each (OutCounted o w ∷ []) (λ i own. refl) (λ i. refl) (λ i. refl) no_lane;
    }

module _ (about : BoardSizes) (o n : ℕ) (a b : BoardSeatView) (tail : ℕ)
    (counts : TailTells (id.Out o) a b tail) where
  -- nothing waits
  pub peeks_none : Peeks about o n None a b
  peeks_none =
      record {
        added = OutCounted o counts.0 ∷ [];
        only = serve_out_counted o counts.0;
        adds = counts.2;
        found = tt;
      }

  -- another seat holds the inbox
  pub peeks_held : (c : BoardSeatView) (word : ℕ) → Adds (Lane (OutMissed o word) ∷ []) b c
      → Peeks about o n None a c
  peeks_held c word missed =
      record {
        added = Lane (OutMissed o word) ∷ OutCounted o counts.0 ∷ [];
        only = serve_both no_lane (Lane (OutMissed o word) ∷ []) (OutCounted o counts.0 ∷ [])
            (serve_out_missed no_lane o word) (serve_out_counted o counts.0);
        adds = adds_both a b c (Lane (OutMissed o word) ∷ []) (OutCounted o counts.0 ∷ [])
            counts.2 missed;
        found = tt;
      }

  found_there : (word : ℕ) (content : OutList) (answer : Option ℕ)
      → ReadTells about (held.Out o content) n answer
      → IfSome answer (λ id. FoundAt about o n id
      (Lane (OutFreed o) ∷ LaneIn (out_slot about o) ∷ LaneOut (out_slot about o)
      ∷ Lane (OutHeld o word content) ∷ OutCounted o counts.0 ∷ []))
  found_there word content None told = tt
  found_there word content (Some id) told =
      record {
        word = word;
        found = content;
        held = Contains-append_right (Lane (OutFreed o) ∷ LaneIn (out_slot about o)
            ∷ LaneOut (out_slot about o) ∷ [])
            (Lane (OutHeld o word content) ∷ OutCounted o counts.0 ∷ [])
            (Lane (OutHeld o word content))
            (Contains-append_left (Lane (OutHeld o word content) ∷ []) (OutCounted o counts.0 ∷ [])
            (Lane (OutHeld o word content)) (Contains-push [] (Lane (OutHeld o word content))));
        there = told.0;
        within = told.1;
      }

  -- the inbox was held, read and given back
  pub peeks_read : (c d : BoardSeatView) (h : HeldLane) (answer : Option ℕ)
      → Took about (id.Out o) b c h → BackTells about h c d → ReadTells about h n answer
      → Peeks about o n answer a d
  peeks_read c d (held.Middle i content) answer took back told = absurd took
  peeks_read c d (held.Out i content) answer took back told =
      let slot : ℕ = out_slot about o in
      let t = took.1 in
      let ends : List BoardStep = Lane (OutFreed o) ∷ LaneIn slot ∷ [] in
      let gives : Adds ends c d =
      subst (λ (k : ℕ). Adds (Lane (OutFreed k) ∷ LaneIn (out_slot about k) ∷ []) c d) took.0
      back in
      let holds : List BoardStep = out_held_steps slot o t.word content in
      record {
        added = ends ++ (holds ++ OutCounted o counts.0 ∷ []);
        only = serve_both no_lane (ends ++ holds) (OutCounted o counts.0 ∷ [])
            (serve_out_back no_lane slot o t.word content) (serve_out_counted o counts.0);
        adds = adds_both a b d (ends ++ holds) (OutCounted o counts.0 ∷ []) counts.2
            (adds_both b c d ends holds t.step gives);
        found = found_there t.word content answer told;
      }

-- a look serves no lane
pub peeks_serve : (about : BoardSizes) (o n : ℕ) (answer : Option ℕ) (a b : BoardSeatView)
    → Peeks about o n answer a b → Serves no_lane a b
peeks_serve about o n answer a b p = record { added = p.added; only = p.only; adds = p.adds }

-- ---- a look in vain

module _ (about : BoardSizes) (o start n : ℕ) (a b : BoardSeatView) (tail : ℕ)
    (counts : TailTells (id.Out o) a b tail) where
  counted : Serves no_lane a b
  counted =
      record {
        added = OutCounted o counts.0 ∷ [];
        only = serve_out_counted o counts.0;
        adds = counts.2;
      }

  -- the lane had no more packets
  pub vain_none : tail ≡ number start n → LooksInVain about o start n a b
  vain_none same = (a, stays no_lane a, inl (counts.0, sym counts.1 ∙ same, counts.2))

  -- another seat held the lane
  pub vain_held : (c : BoardSeatView) (word : ℕ) → is_odd word ≡ true
      → Adds (Lane (OutMissed o word) ∷ []) b c → LooksInVain about o start n a c
  vain_held c word odd missed = (b, counted, inr (inl (word, odd, missed)))

  -- the lane was held and had no such packet
  pub vain_read : (c d : BoardSeatView) (h : HeldLane) (answer : Option ℕ)
      → Took about (id.Out o) b c h → BackTells about h c d → ReadTells about h n answer
      → answer ≡ None → LooksInVain about o start n a d
  vain_read c d (held.Middle i content) answer took back told none = absurd took
  vain_read c d (held.Out i content) answer took back told none = (
    b,
    counted,
    inr (inr (
      content,
      c,
      subst (ReadTells about (held.Out i content) n) none told,
      took.1,
      subst (λ (k : ℕ). Adds (Lane (OutFreed k) ∷ LaneIn (out_slot about k) ∷ []) c d) took.0
          back,
    )),
  )

-- ---- at the gate

module _ (added : List BoardStep) (old new : BoardSeatView) (quiet : AreQuiet added)
    (adds : Adds added old new) where
  pub quiet_place : visit (gate_steps new.steps) ≡ visit (gate_steps old.steps)
  quiet_place =
      ap (λ (v : BoardSeatView). visit (gate_steps v.steps)) adds
      ∙ (quiet_steps_stay added old.steps quiet.visits).place

  pub quiet_gate : closed (gate_steps new.steps) ≡ closed (gate_steps old.steps)
  quiet_gate =
      ap (λ (v : BoardSeatView). closed (gate_steps v.steps)) adds
      ∙ (quiet_steps_stay added old.steps quiet.visits).gate

-- ---- what an application keeps

module _ (given : Setup) (id app home : ℕ) (before after : Journal SockWrite) where
  one_more : (cpus : ℕ) (entry : Option ℕ) (old new : SeatView HintStep)
      → Writes cpus app home entry before after old new
      → (after.room ≡ before.room) × (length after.items ≤ length before.items + 1)
  one_more cpus None old new w = (
    ap (λ (j : Journal SockWrite). j.room) w.0,
    (let same : length after.items ≡ length before.items =
        ap (λ (j : Journal SockWrite). length j.items) w.0 in
        omega (arith, same)),
  )
  one_more cpus (Some entry) old new w = (
    ap (λ (j : Journal SockWrite). j.room) w.4,
    (let longer : length after.items ≡ length before.items + 1 =
        ap (λ (j : Journal SockWrite). length j.items) w.4
        ∙ length-append before.items (record { entry = entry; cpu = w.0 } ∷ []) in
        omega (arith, longer)),
  )

-- a packet was taken and recorded
pub taken_is : (given : Setup) (s : Server) (id : ℕ) (writes : Journal SockWrite)
    (old new : BoardSeatView) (hint_old hint_new : SeatView HintStep) → IsServer given s
    → s.hand ≡ None → length s.sent.items < s.sent.room → id < s.sent.room
    → Notes given id s.app s.home s.writes writes old new hint_old hint_new
    → IsServer given (record s { hand = Some id; writes = writes })
taken_is given s id writes old new hint_old hint_new is empty space low notes =
    let more = one_more given id s.app s.home s.writes writes given.cpus _ hint_old hint_new
    notes.2 in
    let none : in_hand s.hand ≡ 0 = ap in_hand empty in
    let few = is.writes in
    let longer = more.1 in
    record {
      app = is.app;
      few = is.few;
      choice_room = is.choice_room;
      write_room = more.0 ∙ is.write_room;
      hand = low;
      room = omega (arith, space);
      choices = is.choices;
      writes = omega (arith, few, none, longer);
      classes = is.classes;
      lanes = is.lanes;
    }
