-- What is within the limits of any version is within those of version 3.
use Rattle.std.proofs.Common.{ℕ, ◌≡◌, inl, inr, List, ◌∷◌, ◌++◌, [], Option, None, Some, arith, refl, sym, ap, get_or}
use Rattle.std.proofs.Common.{append-nil, ◌∙◌}
use Rattle.reg_base.specs.declared.memory.OpId.{OpId}
use Rattle.reg_checkers.specs.declared.entries.Entry.{Entry}
use Rattle.reg_checkers.specs.declared.entries.Entry.TheVariants.{Called, Answered}
use Rattle.reg_checkers.specs.declared.entries.Point.{Point}
use Rattle.reg_history.specs.declared.versions.Version.{Version}
use Rattle.reg_history.specs.declared.versions.Version.TheVariants.{One, Two, Three}
use Rattle.reg_history.proofs.Fewer.{few_processes, few_registers}
use Rattle.reg_history.specs.EntryLines.{EntryFits, ColumnsFit}
use Rattle.reg_history.specs.IdLines.{IdFits}
use Rattle.reg_history.specs.Reports.{Contents, IsReport, IsReportIn, IsTextOf, PointsFit, text_in}

columns_fit : (version : Version) (at process number : ℕ) → ColumnsFit version at process number
    → ColumnsFit Three at process number
columns_fit version at process number f = record { at_fits = f.at_fits; process_fits = omega (arith, f.process_fits, few_processes version); number_fits = f.number_fits }

entry_fits : (version : Version) (names : List (List ℕ)) (e : Entry) → EntryFits version names e
    → EntryFits Three names e
entry_fits version names (Called at id op) f = (columns_fit version at id.process id.number f.0, f.1, refl)
entry_fits version names (Answered at id answer) f = (columns_fit version at id.process id.number f.0, f.1, refl)

id_fits : (version : Version) (id : OpId) → IdFits version id → IdFits Three id
id_fits version id f = (omega (arith, f.0, few_processes version), f.1)

points_fit : (version : Version) (points : Option (List Point)) → PointsFit version points → PointsFit Three points
points_fit version None f = tt
points_fit version (Some points) f = (λ k p e. (id_fits version p.id (f.0 k p e).0, (f.0 k p e).1), f.1)

pub widened : (version : Version) (r : Contents) → IsReportIn version r → IsReport r
widened version r ok = record {
  front = ok.front;
  names = ok.names;
  few_names = omega (arith, ok.few_names, few_registers version);
  some_process = ok.some_process;
  processes = omega (arith, ok.processes, few_processes version);
  registers = ok.registers;
  history = ok.history;
  entries = λ k e h. entry_fits version r.names e (ok.entries k e h);
  range = record { few_entries = ok.range.few_entries; ids = λ k id h. id_fits version id (ok.range.ids k id h); few_ids = ok.range.few_ids; points_fit = points_fit version r.points ok.range.points_fit };
}

-- the digit of a version
abbrev digit : Version → ℕ
digit One = 49
digit Two = 50
digit Three = 51

digits_differ : (v w : Version) → (v ≡ w → ⊥) → digit v ≡ digit w → ⊥
digits_differ One One other e = other refl
digits_differ Two Two other e = other refl
digits_differ Three Three other e = other refl
digits_differ One Two other e = let z : ⊥ = omega (arith, e) in z
digits_differ One Three other e = let z : ⊥ = omega (arith, e) in z
digits_differ Two One other e = let z : ⊥ = omega (arith, e) in z
digits_differ Two Three other e = let z : ⊥ = omega (arith, e) in z
digits_differ Three One other e = let z : ⊥ = omega (arith, e) in z
digits_differ Three Two other e = let z : ⊥ = omega (arith, e) in z

-- it stands in the first line
stands : (v : Version) (r : Contents) (more : List ℕ) → get_or (text_in v r ++ more) 13 0 ≡ digit v
stands One r more = refl
stands Two r more = refl
stands Three r more = refl

-- a text that is the one and the other, or would be with more behind it
apart : (v w : Version) (r s : Contents) (more last : List ℕ) → (v ≡ w → ⊥) → text_in v r ++ more ≡ text_in w s ++ last
    → ⊥
apart v w r s more last other e =
    digits_differ v w other (sym (stands v r more) ∙ ap (λ l. get_or l 13 0) e ∙ stands w s last)

pub not_two : (text : List ℕ) (v w : Version) (r s : Contents) → (v ≡ w → ⊥) → IsTextOf text (text_in v r)
    → IsTextOf text (text_in w s) → ⊥
not_two text v w r s other (inl e) (inl f) = apart v w r s [] [] other (ap (λ l. l ++ []) (sym e ∙ f))
not_two text v w r s other (inr e) (inr f) = apart v w r s [] [] other (ap (λ l. l ++ []) (sym e ∙ f))
not_two text v w r s other (inl e) (inr f) =
    apart v w r s (10 ∷ []) [] other (ap (λ l. l ++ 10 ∷ []) (sym e) ∙ f ∙ sym (append-nil (text_in w s)))
not_two text v w r s other (inr e) (inl f) =
    apart v w r s [] (10 ∷ []) other (append-nil (text_in v r) ∙ sym e ∙ ap (λ l. l ++ 10 ∷ []) f)
