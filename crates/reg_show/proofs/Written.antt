-- What is told of a schedule, and what was written of it.
use Rattle.std.proofs.Common.{◌≡◌, ◌∙◌, ◌++◌, ℕ, List, ap₂, subst}
use Rattle.reg_checkers.specs.declared.entries.Entry.{Entry}
use Rattle.reg_inputs.specs.Schedules.{Plan}
use Rattle.reg_commands.specs.Replays.{start_of}
use Rattle.reg_trace.specs.Moments.{Fact}
use Rattle.reg_show.specs.Runs.{TellsRun}
use Rattle.reg_show.specs.ToldRuns.{IsTold}
use Rattle.reg_trace.specs.Traces.{title_line, trace_text}

-- the trace that was written is that of the run
pub tells_run : (title : List ℕ) (Wrote : List ℕ → Type 0) (p : Plan) (names : List (List ℕ))
    (moments facts : List Fact) (entries : List Entry)
    → IsTold (start_of p.front) p names facts entries → moments ≡ facts
    → Wrote (title_line title ++ trace_text names moments) → TellsRun title Wrote p
tells_run title Wrote p names moments facts entries told same written = record {
  accepted = told.accepted;
  written = subst (λ t. Wrote (title_line title ++ t)) (ap₂ trace_text told.named (same ∙ told.did)) written;
}
