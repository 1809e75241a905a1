-- What a process does in a run is decided by its own steps.
use Rattle.std.proofs.Common.{◌≡◌, ℕ, ◌-◌, Bool, true, false, List, [], ◌∷◌, ◌++◌, map, Option, Some, None, refl, sym}
use Rattle.std.proofs.Common.{ap, ◌∙◌, append_assoc}
use Rattle.std.specs.Prelude.{◌==◌, cond}
use Rattle.std.proofs.lemmas.Bool.{eqb-true}
use Rattle.std.proofs.lemmas.List.{append-nil}
use Rattle.reg_base.specs.declared.stamps.Stamp.{Stamp}
use Rattle.reg_base.specs.declared.memory.Op.{Op}
use Rattle.reg_front.specs.declared.starts.Start.{Start}
use Rattle.reg_process.specs.declared.steps.Reply.{Reply}
use Rattle.reg_process.specs.declared.steps.Step.{Step}
use Rattle.reg_process.specs.declared.steps.Step.TheVariants.{Call, Take, Tick}
use Rattle.reg_process.specs.declared.events.Event.{Event}
use Rattle.reg_process.specs.Process.{State, Outcome, step}
use Rattle.reg_world.specs.Nodes.{Node, op_in, after_step}
use Rattle.reg_world.specs.NodeParts.{nodes_after}
use Rattle.reg_world.specs.World.{World, move_of, happens, run, empty_world, whole}
use Rattle.reg_world.proofs.run.Traced.{Called, Answered, Past, Trace, called_in, answered_in, past_after, pasts_after}
use Rattle.reg_world.proofs.run.Traced.{traced}
use Rattle.reg_world.proofs.run.Along.{traced_more}
use Rattle.reg_world.proofs.lists.Members.{map_append, from_end}
use Rattle.reg_records.specs.Steps.{step_in, steps_from, steps_of}

-- a call, and an answer, with no event
pub record Asked : Type 0 where
  pub op : Op
  pub cast : Option Stamp

pub record Told : Type 0 where
  pub number : ℕ
  pub reply : Reply

abbrev pub asked : Called → Asked
asked d = record { op = d.op; cast = d.cast }

abbrev pub told : Answered → Told
told a = record { number = a.number; reply = a.reply }

-- a process, what it was asked and what it told
pub record Life : Type 0 where
  pub node : Node
  pub calls : List Asked
  pub answers : List Told

abbrev pub life_of : Node → Past → Life
life_of x h = record { node = x; calls = map asked h.calls; answers = map told h.answers }

abbrev pub life_after : (Op → ℕ → Start) → Life → Step → Life
life_after start x e = record {
  node = after_step start x.node e;
  calls = x.calls ++ map asked (called_in 0 e (step start x.node.state e).1.cast);
  answers = x.answers ++ map told (answered_in 0 ((step start x.node.state e).0.calls - 1) (op_in x.node.state e) (step start x.node.state e).1.reply);
}

abbrev pub lives : (Op → ℕ → Start) → Life → List Step → Life
lives start x [] = x
lives start x (e ∷ es) = lives start (life_after start x e) es

lives_on : (start : Op → ℕ → Start) (x : Life) (es more : List Step)
    → lives start x (es ++ more) ≡ lives start (lives start x es) more
lives_on start x [] more = refl
lives_on start x (e ∷ es) more = lives_on start (life_after start x e) es more

asked_when : (at : ℕ) (e : Step) (cast : Option Stamp)
    → map asked (called_in at e cast) ≡ map asked (called_in 0 e cast)
asked_when at (Call op) cast = refl
asked_when at (Take from frame) cast = refl
asked_when at Tick cast = refl

told_when : (at number : ℕ) (op : Op) (reply : Option Reply)
    → map told (answered_in at number op reply) ≡ map told (answered_in 0 number op reply)
told_when at number op None = refl
told_when at number op (Some reply) = refl

life_more : (start : Op → ℕ → Start) (at : ℕ) (x : Node) (h : Past) (e : Step)
    → life_of (after_step start x e) (past_after at x.state h e (step start x.state e))
    ≡ life_after start (life_of x h) e
life_more start at x h e =
    let r : State × Outcome = step start x.state e in
    let calls : map asked (h.calls ++ called_in at e r.1.cast) ≡ map asked h.calls ++ map asked (called_in 0 e r.1.cast) =
    map_append asked h.calls (called_in at e r.1.cast) ∙ ap (λ l. map asked h.calls ++ l) (asked_when at e r.1.cast) in
    let answers : map told (h.answers ++ answered_in at (r.0.calls - 1) (op_in x.state e) r.1.reply) ≡ map told h.answers ++ map told (answered_in 0 (r.0.calls - 1) (op_in x.state e) r.1.reply) =
    map_append told h.answers (answered_in at (r.0.calls - 1) (op_in x.state e) r.1.reply) ∙ ap (λ l. map told h.answers ++ l) (told_when at (r.0.calls - 1) (op_in x.state e) r.1.reply) in
    (λ i. record { node = after_step start x e; calls = calls i; answers = answers i })

abbrev pub life_in : Trace → ℕ → Life
life_in v p = life_of (v.nodes p) (v.pasts p)

-- one move of a run is one step of the life of its process, and none of another's
life_moved : (start : Op → ℕ → Start) (v : Trace) (m : Option (ℕ × Step)) (p : ℕ)
    → life_of (nodes_after start v.nodes m p) (pasts_after start v m p) ≡ lives start (life_in v p) (step_in p m)
life_moved start v None p = refl
life_moved start v (Some m) p = go (p == m.0) (λ e. eqb-true p m.0 e)
  where
    y : Node
    y = after_step start (v.nodes m.0) m.1

    h : Past
    h = past_after v.count (v.nodes m.0).state (v.pasts m.0) m.1 (step start (v.nodes m.0).state m.1)

    go : (b : Bool) → (b ≡ true → p ≡ m.0) → life_of (cond b y (v.nodes p)) (cond b h (v.pasts p)) ≡ lives start (life_in v p) (cond b (m.1 ∷ []) [])
    go true is = life_more start v.count (v.nodes m.0) (v.pasts m.0) m.1 ∙ ap (λ q. life_after start (life_in v q) m.1) (sym (is refl))
    go false is = refl

pub steps_more : (start : Op → ℕ → Start) (n registers p : ℕ) (es : List Event) (e : Event) (w : World)
    → steps_from start n registers p (es ++ e ∷ []) w
    ≡ steps_from start n registers p es w ++ step_in p (move_of n registers (run start n registers es w) e)
steps_more start n registers p [] e w = append-nil (step_in p (move_of n registers w e))
steps_more start n registers p (x ∷ es) e w =
    ap (λ l. step_in p (move_of n registers w x) ++ l) (steps_more start n registers p es e (happens start n registers w x))
    ∙ sym (append_assoc (step_in p (move_of n registers w x)) (steps_from start n registers p es (happens start n registers w x)) _)

-- the life of a process in a run is that of its steps
pub life_is : (start : Op → ℕ → Start) (n registers : ℕ) (events : List Event) (p : ℕ)
    → life_in (traced start n registers events) p
    ≡ lives start (life_in (traced start n registers []) p) (steps_of start n registers events p)
life_is start n registers events p = from_end (λ es. life_in (traced start n registers es) p ≡ lives start (life_in (traced start n registers []) p) (steps_of start n registers es p)) refl
    (λ es e h.
    let v = traced start n registers es in
    let m = move_of n registers (whole start n registers es) e in
    ap (λ t. life_in t p) (traced_more start n registers es e)
    ∙ (life_moved start v m p
    ∙ (ap (λ x. lives start x (step_in p m)) h
    ∙ (sym (lives_on start (life_in (traced start n registers []) p) (steps_of start n registers es p) (step_in p m))
    ∙ ap (lives start (life_in (traced start n registers []) p)) (sym (steps_more start n registers p es e (empty_world n registers)))))))
    events
