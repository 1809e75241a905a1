-- One thing that happens at one member of a cluster: which entries stay, and that all it handed out goes out of durable
-- entries.
use Rattle.std.proofs.Common.{◌≡◌, ◌⊎◌, inl, inr, ℕ, zero, suc, ◌+◌, ◌<◌, ◌≤◌, List, [], ◌∷◌, ◌++◌, length, take, min}
use Rattle.std.proofs.Common.{max, Some, refl, ap, sym, ◌∙◌, subst, arith, length-append, length-take}
use Rattle.std.specs.Prelude.{slice_get}
use Rattle.std.proofs.lemmas.Bool.{cases_lt}
use Rattle.reg_base.specs.declared.memory.Op.{Op}
use Rattle.reg_base.specs.Order.{In}
use Rattle.reg_base.proofs.Lists.{in_cases}
use Rattle.reg_frames.specs.declared.puts.Put.{Put}
use Rattle.reg_front.specs.declared.starts.Start.{Start}
use Rattle.reg_process.specs.declared.steps.Step.{Step}
use Rattle.reg_process.specs.Process.{State}
use Rattle.reg_records.specs.declared.entries.LogEntry.{LogEntry}
use Rattle.reg_node.specs.declared.faults.NodeFault.{NodeFault}
use Rattle.reg_node.specs.declared.faults.NodeFault.TheVariants.{Full, NoRoom, Refused}
use Rattle.reg_node.specs.Logs.{Outgoing, outputs_of, output_of, state_after}
use Rattle.reg_node.specs.Nodes.{NodeState, LogsNothing, Lives, Past, marked}
use Rattle.reg_node.specs.Clusters.{Member, LogsStep, RefusesStep, MarksDurable, HandsOutNext, CrashesAndOpens}
use Rattle.reg_node.specs.Clusters.{IsNewMember}
use Rattle.reg_node.proofs.Crashing.{got_left, given_at}
use Rattle.reg_node.proofs.Living.{lives_logs, lives_logs_nothing, lives_marked, lives_gives}
use Rattle.reg_node.proofs.Steps.{outputs_push, outputs_take}
use Rattle.reg_node.proofs.Supported.{Share, IsKept}

abbrev pub share : (Op → ℕ → Start) → State → Member → Share
share start first m = record { log = m.past.log; outputs = outputs_of start first m.past.log; durable = m.node.durable }

-- this output goes out of a durable entry
pub record IsSafe (start : Op → ℕ → Start) (first : State) (m : Member) (output : Outgoing) : Type 0 where
  pub place : ℕ
  pub stands : slice_get (outputs_of start first m.past.log) place ≡ Some output
  pub safe : place < m.node.durable

-- what holds of each member
pub record Works (start : Op → ℕ → Start) (first : State) (m : Member) : Type 0 where
  pub lives : Lives start first m.past m.node
  pub handed : (o : Outgoing) (x : Put) → In o m.handed → In x o.frames → IsSafe start first m o

-- and goes on to hold, with so many first entries kept
pub record Changed (start : Op → ℕ → Start) (first : State) (kept : ℕ) (was now : Member) : Type 0 where
  pub works : Works start first now
  pub is : IsKept kept (share start first was) (share start first now)

got_last : {X : Type 0} (xs : List X) (x : X) → slice_get (xs ++ x ∷ []) (length xs) ≡ Some x
got_last [] x = refl
got_last (y ∷ ys) x = got_last ys x

got_take : {X : Type 0} (k : ℕ) (xs : List X) (i : ℕ) (x : X) → i < k → slice_get xs i ≡ Some x
    → slice_get (take k xs) i ≡ Some x
got_take zero xs i x lt h = absurd (omega (arith, lt))
got_take (suc k) [] i x lt h = absurd (let bad : ⊥ = cc in bad)
got_take (suc k) (y ∷ ys) zero x lt h = h
got_take (suc k) (y ∷ ys) (suc i) x lt h = got_take k ys i x (omega (arith, lt)) h

-- a refusal leaves as many entries durable
nothing_durable : (start : Op → ℕ → Start) (old new : NodeState) (e : Step) (fault : NodeFault)
    → LogsNothing start old e fault new → new.durable ≡ old.durable
nothing_durable start old new e Full h = ap (λ (n : NodeState). n.durable) h.1
nothing_durable start old new e NoRoom h = ap (λ (n : NodeState). n.durable) h.1
nothing_durable start old new e (Refused fault) h = ap (λ (n : NodeState). n.durable) h.2

module _ (start : Op → ℕ → Start) (first : State) where
  pub new_works : (m : Member) → IsNewMember start first m → Works start first m
  new_works m is = record {
    lives = subst (λ (past : Past). Lives start first past m.node) (sym is.past) is.lives;
    handed = λ o x h f. absurd (subst (λ (os : List Outgoing). In o os) is.handed h);
  }

  module _ (was now : Member) (works : Works start first was) (lives : Lives start first now.past now.node) where
    -- what was safe stays so, if it has a frame
    safe_kept : (kept : ℕ) → IsKept kept (share start first was) (share start first now) → (o : Outgoing) (x : Put) → In x o.frames → IsSafe start first was o → IsSafe start first now o
    safe_kept kept is o x f s =
        let low = s.safe in
        let within = is.safe s.place o x low s.stands f in
        let more = is.durable in
        record {
          place = s.place;
          stands = is.outputs s.place o within s.stands;
          safe = omega (arith, low, within, more);
        }

    changed : (kept : ℕ) → IsKept kept (share start first was) (share start first now) → ((o : Outgoing) → In o now.handed → In o was.handed ⊎ IsSafe start first now o) → Changed start first kept was now
    changed kept is handed = record { works = record { lives = lives; handed = λ o x h f. by o x f (handed o h) }; is = is }
      where
        by : (o : Outgoing) (x : Put) → In x o.frames → In o was.handed ⊎ IsSafe start first now o → IsSafe start first now o
        by o x f (inl h) = safe_kept kept is o x f (works.handed o x h f)
        by o x f (inr s) = s

    -- the log stays as it is
    same_kept : now.past.log ≡ was.past.log → was.node.durable ≤ now.node.durable → IsKept (length was.past.log) (share start first was) (share start first now)
    same_kept log more =
        let within = works.lives.within in
        let logged = works.lives.logged in
        record {
          entries = λ k e lt at. subst (λ (es : List LogEntry). slice_get es k ≡ Some e) (sym log) at;
          outputs = λ k o lt at. subst (λ (es : List LogEntry). slice_get (outputs_of start first es) k ≡ Some o) (sym log) at;
          safe = λ k o x lt at f. omega (arith, lt, within, logged);
          durable = omega (arith, more);
        }

    same_changed : now.past.log ≡ was.past.log → was.node.durable ≤ now.node.durable → ((o : Outgoing) → In o now.handed → In o was.handed ⊎ IsSafe start first now o)
        → (kept : ℕ) × Changed start first kept was now × (length now.past.log ≡ min kept (length was.past.log))
    same_changed log more handed = (
      length was.past.log,
      changed (length was.past.log) (same_kept log more) handed,
      let e : length now.past.log ≡ length was.past.log = ap length log in omega (arith, e),
    )

    -- it was handed out before
    before : now.handed ≡ was.handed → (o : Outgoing) → In o now.handed → In o was.handed ⊎ IsSafe start first now o
    before same o h = inl (subst (λ (os : List Outgoing). In o os) same h)

  pub log_changed : (cluster : List Member) (p : ℕ) (was now : Member) (l : LogsStep start cluster p was now)
      → Works start first was
      → Changed start first (length was.past.log) was now × (length now.past.log ≡ length was.past.log + 1) × (slice_get now.past.log (length was.past.log) ≡ Some l.entry)
  log_changed cluster p was now l works = (
    changed was now works lives (length was.past.log) is (before was now works lives l.handed),
    (let more = length-append was.past.log (l.entry ∷ []) in let e : length now.past.log ≡ length (was.past.log ++ l.entry ∷ []) = ap length log in omega (arith, more, e)),
    subst (λ (es : List LogEntry). slice_get es (length was.past.log) ≡ Some l.entry) (sym log) (got_last was.past.log l.entry),
  )
    where
      log : now.past.log ≡ was.past.log ++ l.entry ∷ []
      log = ap (λ (past : Past). past.log) l.past

      lives : Lives start first now.past now.node
      lives = subst (λ (past : Past). Lives start first past now.node) (sym l.past) (lives_logs start first was.past was.node now.node l.step l.entry l.logs works.lives)

      is : IsKept (length was.past.log) (share start first was) (share start first now)
      is =
          let within = works.lives.within in
          let logged = works.lives.logged in
          let same : now.node.durable ≡ was.node.durable = ap (λ (n : NodeState). n.durable) l.logs.rest in
          let output = output_of start (state_after start first was.past.log) l.entry.step in
          record {
            entries = λ k e lt at. subst (λ (es : List LogEntry). slice_get es k ≡ Some e) (sym log) (got_left was.past.log (l.entry ∷ []) k e at);
            outputs = λ k o lt at. subst (λ (es : List LogEntry). slice_get (outputs_of start first es) k ≡ Some o) (sym log)
                (subst (λ (os : List Outgoing). slice_get os k ≡ Some o) (sym (outputs_push start first was.past.log l.entry)) (got_left (outputs_of start first was.past.log) (output ∷ []) k o at));
            safe = λ k o x lt at f. omega (arith, lt, within, logged);
            durable = omega (arith, same);
          }

  pub refuse_changed : (was now : Member) → RefusesStep start was now → Works start first was
      → (kept : ℕ) × Changed start first kept was now × (length now.past.log ≡ min kept (length was.past.log))
  refuse_changed was now r works =
      let lives : Lives start first now.past now.node = subst (λ (past : Past). Lives start first past now.node) (sym r.past) (lives_logs_nothing start first was.past was.node now.node r.step r.fault r.refuses works.lives) in
      let same = nothing_durable start was.node now.node r.step r.fault r.refuses in
      same_changed was now works lives (ap (λ (past : Past). past.log) r.past) (omega (arith, same)) (before was now works lives r.handed)

  pub mark_changed : (was now : Member) → MarksDurable was now → Works start first was
      → (kept : ℕ) × Changed start first kept was now × (length now.past.log ≡ min kept (length was.past.log))
  mark_changed was now m works =
      let lives : Lives start first now.past now.node = subst (λ (x : Member). Lives start first x.past x.node) (sym m.rest) (lives_marked start first was.past was.node (marked was.node m.count) m.count m.within refl works.lives) in
      let more : now.node.durable ≡ max was.node.durable m.count = ap (λ (x : Member). x.node.durable) m.rest in
      same_changed was now works lives (ap (λ (x : Member). x.past.log) m.rest) (omega (arith, more)) (before was now works lives (ap (λ (x : Member). x.handed) m.rest))

  pub hand_changed : (was now : Member) → HandsOutNext was now → Works start first was
      → (kept : ℕ) × Changed start first kept was now × (length now.past.log ≡ min kept (length was.past.log))
  hand_changed was now h works = same_changed was now works lives (ap (λ (past : Past). past.log) h.past) (let same : now.node.durable ≡ was.node.durable = ap (λ (n : NodeState). n.durable) h.hands_out.rest in omega (arith, same)) handed
    where
      lives : Lives start first now.past now.node
      lives = subst (λ (past : Past). Lives start first past now.node) (sym h.past) (lives_gives start first was.past was.node now.node h.output h.hands_out.due h.hands_out.held h.hands_out.rest works.lives)

      last : IsSafe start first now h.output
      last =
          let given : slice_get now.past.given (length was.past.given) ≡ Some h.output = ap (λ (past : Past). slice_get past.given (length was.past.given)) h.past ∙ got_last was.past.given h.output in
          let at = given_at start first now.past now.node (length was.past.given) h.output lives given in
          record { place = now.past.opened + length was.past.given; stands = at.1; safe = at.0 }

      by : (o : Outgoing) → In o was.handed ⊎ In o (h.output ∷ []) → In o was.handed ⊎ IsSafe start first now o
      by o (inl old) = inl old
      by o (inr (inl e)) = inr (subst (λ (x : Outgoing). IsSafe start first now x) (sym e) last)
      by o (inr (inr none)) = absurd none

      handed : (o : Outgoing) → In o now.handed → In o was.handed ⊎ IsSafe start first now o
      handed o there = by o (in_cases o was.handed (h.output ∷ []) (subst (λ (os : List Outgoing). In o os) h.handed there))

  pub crash_changed : (was now : Member) → CrashesAndOpens start first was now → Works start first was
      → (kept : ℕ) × Changed start first kept was now × (length now.past.log ≡ min kept (length was.past.log))
  crash_changed was now c works = (
    c.kept,
    changed was now works c.lives c.kept is (before was now works c.lives c.handed),
    ap length log ∙ length-take c.kept was.past.log,
  )
    where
      log : now.past.log ≡ take c.kept was.past.log
      log = ap (λ (past : Past). past.log) c.past

      -- what is lost of the durable entries puts no frame
      stays : (k : ℕ) (o : Outgoing) (x : Put) → k < was.node.durable → slice_get (outputs_of start first was.past.log) k ≡ Some o → In x o.frames → (k < c.kept) ⊎ (c.kept ≤ k) → k < c.kept
      stays k o x lt at f (inl less) = less
      stays k o x lt at f (inr behind) = absurd (subst (λ (xs : List Put). In x xs) (c.keeps k o behind lt at) f)

      is : IsKept c.kept (share start first was) (share start first now)
      is =
          let within = works.lives.within in
          let logged = works.lives.logged in
          let ahead = c.lives.write_ahead in
          let opened : now.past.opened ≡ length (take c.kept was.past.log) = ap (λ (past : Past). past.opened) c.past in
          let many = length-take c.kept was.past.log in
          record {
            entries = λ k e lt at. subst (λ (es : List LogEntry). slice_get es k ≡ Some e) (sym log) (got_take c.kept was.past.log k e lt at);
            outputs = λ k o lt at. subst (λ (es : List LogEntry). slice_get (outputs_of start first es) k ≡ Some o) (sym log)
                (subst (λ (os : List Outgoing). slice_get os k ≡ Some o) (sym (outputs_take start c.kept first was.past.log)) (got_take c.kept (outputs_of start first was.past.log) k o lt at));
            safe = λ k o x lt at f. stays k o x lt at f (cases_lt k c.kept);
            durable = omega (arith, within, logged, ahead, opened, many);
          }
