-- What is told of reports in a row.
use Rattle.std.proofs.Common.{◌≡◌, ◌⊎◌, inl, inr, Bool, List, ℕ, sym, subst}
use Rattle.reg_history.specs.Reports.{Contents}
use Rattle.reg_commands.specs.declared.faults.Fault.{Fault}
use Rattle.reg_commands.specs.declared.faults.Fault.TheVariants.{Output, OutOfMemory}
use Rattle.reg_verify.specs.StoryTexts.{BlamesStory, SpellsReports, TellsReports, TellsStory}

pub told_of : (agrees : Bool) (Wrote : List ℕ → Type 0) (text : List ℕ) (reports items : List Contents)
    → items ≡ reports → SpellsReports text reports
    → ((others : List Contents) → SpellsReports text others → others ≡ reports) → TellsReports agrees Wrote items
    → TellsStory agrees Wrote text
told_of agrees Wrote text reports items same read only told =
    record { reports = reports; read = read; only = only; told = subst (TellsReports agrees Wrote) same told }

pub blamed_of : (text : List ℕ) (reports : List Contents) (fault : Fault) → SpellsReports text reports
    → (fault ≡ Output) ⊎ (fault ≡ OutOfMemory) → BlamesStory fault text
blamed_of text reports fault read (inl e) = subst (λ (f : Fault). BlamesStory f text) (sym e) (reports, read)
blamed_of text reports fault read (inr e) = subst (λ (f : Fault). BlamesStory f text) (sym e) tt
