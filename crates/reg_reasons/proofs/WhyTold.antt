-- What an answer says of a text, by the fault that it tells and by what was read.
use Rattle.std.proofs.Common.{ℕ, ◌≡◌, Bool, true, false, List, [], ◌∷◌, ◌++◌, length, codes, inl, Result, Ok, Err, sym}
use Rattle.std.proofs.Common.{ap, subst, ◌∙◌}
use Rattle.std.specs.Prelude.{IfOk, sum_by}
use Rattle.reg_front.specs.Table.{front_name}
use Rattle.reg_history.specs.Reports.{Contents, IsReport, SpellsReport}
use Rattle.reg_inputs.specs.Loads.{Load}
use Rattle.reg_inputs.specs.Schedules.{Plan, IsPlan, Spells}
use Rattle.reg_commands.specs.Verdicts.{Judges, all_yes}
use Rattle.reg_commands.specs.declared.verdicts.Verdicts.{Verdicts}
use Rattle.reg_commands.specs.Plays.{Holds}
use Rattle.reg_commands.specs.Replays.{start_of, run_by}
use Rattle.reg_reasons.specs.FirstLines.{subject_text}
use Rattle.reg_commands.specs.Kinds.{command_of}
use Rattle.reg_reasons.specs.Tellings.{Agrees, Refuses, Tells, yes_text}
use Rattle.reg_commands.specs.declared.kinds.Kind.{Kind}
use Rattle.reg_commands.specs.declared.kinds.Kind.TheVariants.{Report, Schedule, Workload as WorkloadKind}

-- a refused text of each kind
pub tells_refused : (kind : Kind) (is_accepted : Bool) (answer text : List ℕ) → is_accepted ≡ false
    → Refuses (command_of kind) answer text → Tells kind is_accepted answer text
tells_refused Report is_accepted answer text e told = subst (λ b. Tells Report b answer text) (sym e) (inl told)
tells_refused Schedule is_accepted answer text e told = subst (λ b. Tells Schedule b answer text) (sym e) told
tells_refused WorkloadKind is_accepted answer text e told = subst (λ b. Tells WorkloadKind b answer text) (sym e) told

-- an accepted schedule
pub tells_schedule : (p : Plan) (is_accepted : Bool) (answer text : List ℕ) (processes registers : ℕ) (front : List ℕ)
    (count : ℕ)
    → IsPlan p → Spells text p → (run_by (start_of p.front) p).accepted ≡ p.events
    → processes ≡ p.shape.processes → registers ≡ p.shape.registers → front ≡ front_name p.front → count ≡ length p.events
    → answer ≡ subject_text (codes "a schedule: ") processes registers front count (codes " event") (codes " events") ++ (codes ", all accepted" ++ 10 ∷ []) → is_accepted ≡ true → Tells Schedule is_accepted answer text
tells_schedule p is_accepted answer text processes registers front count good read accepted ep er ef ec said e =
    let same : subject_text (codes "a schedule: ") processes registers front count (codes " event") (codes " events") ≡ subject_text (codes "a schedule: ") p.shape.processes p.shape.registers (front_name p.front) (length p.events) (codes " event") (codes " events") =
    λ i. subject_text (codes "a schedule: ") (ep i) (er i) (ef i) (ec i) (codes " event") (codes " events") in
    subst (λ b. Tells Schedule b answer text) (sym e) (record {
      plan = p;
      good = good;
      read = read;
      accepted = accepted;
      said = said ∙ ap (λ t. t ++ (codes ", all accepted" ++ 10 ∷ [])) same;
    })

-- what holds of an answer
pub if_ok : {T E : Type 0} (P Q : T → Type 0) (r : Result T E) → ((t : T) → P t → Q t) → IfOk r P → IfOk r Q
if_ok P Q (Ok t) f h = f t h
if_ok P Q (Err e) f h = tt

-- a workload
pub tells_load : (w : Load) (is_accepted : Bool) (answer text : List ℕ) (processes registers : ℕ) (front : List ℕ)
    (count : ℕ)
    → Holds text w
    → processes ≡ w.shape.processes → registers ≡ w.shape.registers → front ≡ front_name w.front → count ≡ sum_by length w.scripts
    → answer ≡ subject_text (codes "a workload: ") processes registers front count (codes " operation") (codes " operations") ++ 10 ∷ [] → is_accepted ≡ true → Tells WorkloadKind is_accepted answer text
tells_load w is_accepted answer text processes registers front count holds ep er ef ec said e =
    let same : subject_text (codes "a workload: ") processes registers front count (codes " operation") (codes " operations") ≡ subject_text (codes "a workload: ") w.shape.processes w.shape.registers (front_name w.front) (sum_by length w.scripts) (codes " operation") (codes " operations") =
    λ i. subject_text (codes "a workload: ") (ep i) (er i) (ef i) (ec i) (codes " operation") (codes " operations") in
    subst (λ b. Tells WorkloadKind b answer text) (sym e) (record { work = w; holds = holds; said = said ∙ ap (λ t. t ++ 10 ∷ []) same })

-- a report of which every verdict is yes
pub agrees : (r : Contents) (v : Verdicts) (answer text : List ℕ) (processes registers : ℕ) (front : List ℕ) (count : ℕ)
    (tail : List ℕ)
    → IsReport r → SpellsReport text r → Judges r v → all_yes v ≡ true
    → processes ≡ r.shape.processes → registers ≡ r.shape.registers → front ≡ r.front → count ≡ length r.entries → tail ≡ yes_text r.points
    → answer ≡ subject_text (codes "a report: ") processes registers front count (codes " entry") (codes " entries") ++ tail → Agrees answer text
agrees r v answer text processes registers front count tail good read judged all ep er ef ec et said =
    let same : subject_text (codes "a report: ") processes registers front count (codes " entry") (codes " entries") ++ tail ≡ subject_text (codes "a report: ") r.shape.processes r.shape.registers r.front (length r.entries) (codes " entry") (codes " entries") ++ yes_text r.points =
    λ i. subject_text (codes "a report: ") (ep i) (er i) (ef i) (ec i) (codes " entry") (codes " entries") ++ et i in
    record { report = r; good = good; read = read; verdicts = v; judged = judged; yes = all; said = said ∙ same }
