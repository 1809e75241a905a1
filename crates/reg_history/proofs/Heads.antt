-- The head of a report up to its first wrong line.
use Rattle.std.proofs.Common.{ℕ, ◌≡◌, ◌⊎◌, inl, inr, ◌≤◌, true, List, [], ◌∷◌, ◌++◌, length, map, codes, Option, None}
use Rattle.std.proofs.Common.{Some, Result, Err, refl, sym, ap, ◌∙◌, append_assoc}
use Rattle.std.specs.Fmt.{decimal}
use Rattle.reg_base.specs.Names.{names_fault}
use Rattle.reg_text.specs.Words.{names_text, AreWords, HasWords, IsNamesWhy}
use Rattle.reg_text.specs.Lines.{Rest, IsAsked}
use Rattle.reg_text.specs.declared.faults.Why.{Why}
use Rattle.reg_text.specs.declared.faults.Why.TheVariants.{Form as TextForm, End as TextEnd}
use Rattle.reg_text.specs.declared.faults.TextFault.{TextFault}
use Rattle.reg_text.specs.declared.faults.TextFault.TheVariants.{Line as TextLine, OutOfMemory as TextOutOfMemory}
use Rattle.reg_history.specs.ReadFaults.{read_fault, why_of}
use Rattle.reg_history.specs.Reports.{head_lines, is_front}
use Rattle.reg_history.specs.Refusals.{IsNoCount, IsNoFront, IsNoVersion, IsWrongCounted, IsWrongHead, IsWrongItem}
use Rattle.reg_history.specs.Refusals.{IsWrongNames}
use Rattle.reg_history.specs.Stops.{IsFailure, IsFirst}
use Rattle.reg_history.specs.declared.report_faults.ReadWhy.{ReadWhy}
use Rattle.reg_history.specs.declared.versions.Version.{Version}
use Rattle.reg_history.specs.declared.versions.Version.TheVariants.{One, Two, Three}
use Rattle.reg_history.specs.Versions.{most_processes, most_registers, version_line}
use Rattle.reg_history.proofs.Stopping.{stops_now, same_why, told_why}

-- the first line of a part with a count is wrong, or one after it
pub counted_first : {X : Type 0} (mark : List ℕ) (least limit : ℕ) (line_of : X → List ℕ) (Fits : List X → X → Type 0)
    (IsNone : List X → List ℕ → ReadWhy → Type 0) (before : List (List ℕ)) (next : Option (List ℕ)) (why : ReadWhy)
    → IsFirst (IsNoCount mark least limit) before next why → IsWrongCounted mark least limit line_of Fits IsNone before next why
counted_first mark least limit line_of Fits IsNone [] next why w = w.1
counted_first mark least limit line_of Fits IsNone (line ∷ lines) next why w = absurd (cc)

pub counted_more : {X : Type 0} (mark : List ℕ) (least limit : ℕ) (line_of : X → List ℕ) (Fits : List X → X → Type 0)
    (IsNone : List X → List ℕ → ReadWhy → Type 0) (count : ℕ)
    → least ≤ count → count ≤ limit
    → (before : List (List ℕ)) (next : Option (List ℕ)) (why : ReadWhy) → IsWrongItem line_of Fits IsNone count before next why → IsWrongCounted mark least limit line_of Fits IsNone ((mark ++ decimal count) ∷ before) next why
counted_more mark least limit line_of Fits IsNone count some few before next why w = (count, some, few, refl, w)

pub first_wrong : (before : List (List ℕ)) (next : Option (List ℕ)) (why : ReadWhy)
    → IsFirst IsNoVersion before next why → IsWrongHead before next why
first_wrong [] next why w = w.1
first_wrong (line ∷ lines) next why w = absurd (cc)

pub second_wrong : (version : Version) (before : List (List ℕ)) (next : Option (List ℕ)) (why : ReadWhy)
    → IsFirst IsNoFront before next why → IsWrongHead (version_line version ∷ before) next why
second_wrong version [] next why w = (version, refl, w.1)
second_wrong version (line ∷ lines) next why w = absurd (cc)

pub third_wrong : (version : Version) (front : List ℕ) → is_front front ≡ true
    → (before : List (List ℕ)) (next : Option (List ℕ)) (why : ReadWhy)
    → IsFirst (IsNoCount (codes "processes ") 1 (most_processes version)) before next why → IsWrongHead (version_line version ∷ (codes "front " ++ front) ∷ before) next why
third_wrong version front ok [] next why w = (version, refl, (front, ok, refl), w.1)
third_wrong version front ok (line ∷ lines) next why w = absurd (cc)

pub fourth_wrong : (version : Version) (front : List ℕ) (processes : ℕ) → is_front front ≡ true → 1 ≤ processes
    → processes ≤ most_processes version → (before : List (List ℕ)) (next : Option (List ℕ)) (why : ReadWhy)
    → IsWrongNames version before next why → IsWrongHead (version_line version ∷ (codes "front " ++ front) ∷ (codes "processes " ++ decimal processes) ∷ before) next why
fourth_wrong version front processes ok some few before next why w =
    (version, refl, (front, ok, refl), (processes, some, few, refl), w)

-- the lines of a head, and others after them
pub head_behind : (version : Version) (front : List ℕ) (processes : ℕ) (names rest : List (List ℕ))
    → head_lines version front processes names rest ≡ head_lines version front processes names [] ++ rest
head_behind One front processes names rest = refl
head_behind Two front processes names rest =
    ap (λ l. codes "awreg report 2" ∷ (codes "front " ++ front) ∷ (codes "processes " ++ decimal processes) ∷ (codes "registers " ++ decimal (length names)) ∷ l) (sym (append_assoc (map (λ name. name) names) [] rest))
head_behind Three front processes names rest =
    ap (λ l. codes "awreg report 3" ∷ (codes "front " ++ front) ∷ (codes "processes " ++ decimal processes) ∷ (codes "registers " ++ decimal (length names)) ∷ l) (sym (append_assoc (map (λ name. name) names) [] rest))

no_memory : {A : Type 0} (n : ℕ) (a : Why) → TextLine n a ≡ TextOutOfMemory → A
no_memory n a e = absurd (cc)

module _ (n : ℕ) (f : TextFault) (why : Why) (is : f ≡ TextLine n why) where
  told_form : (f ≡ TextOutOfMemory) ⊎ (f ≡ TextLine n TextForm) → why_of why ≡ why_of TextForm
  told_form (inl e) = no_memory n why (sym is ∙ e)
  told_form (inr e) = ap why_of (same_why n why TextForm (sym is ∙ e))

  told_names : (limit : ℕ) (ws : List (List ℕ)) → (f ≡ TextOutOfMemory) ⊎ ((w : Why) × IsNamesWhy limit ws w × (f ≡ TextLine n w)) → (told : Why) × IsNamesWhy limit ws told × (why_of why ≡ why_of told)
  told_names limit ws (inl e) = no_memory n why (sym is ∙ e)
  told_names limit ws (inr (w, names, e)) = (w, names, ap why_of (same_why n why w (sym is ∙ e)))

-- the fault of a line that has no names
pub names_fail : {A : Type 0} (old new : Rest) (f : TextFault) → IsAsked old new
    → (old.left ≡ [] → (let r : Result A TextFault = Err f in r ≡ Err (TextLine new.number TextEnd)))
    → ((ws : List (List ℕ)) (rest : List (List ℕ)) → AreWords ws → old.left ≡ (codes "registers" ++ names_text ws) ∷ rest → (f ≡ TextOutOfMemory) ⊎ ((w : Why) × IsNamesWhy (most_registers One) ws w × (f ≡ TextLine new.number w)))
    → ((line : List ℕ) (rest : List (List ℕ)) → old.left ≡ line ∷ rest → ((text : List ℕ) → HasWords text → ¬ (line ≡ codes "registers" ++ text)) → (f ≡ TextOutOfMemory) ⊎ (f ≡ TextLine new.number TextForm))
    → ((names : List (List ℕ)) (rest : List (List ℕ)) → names_fault names ≡ None → length names ≤ most_registers One → old.left ≡ (codes "registers" ++ names_text names) ∷ rest → f ≡ TextOutOfMemory)
    → (f ≡ TextOutOfMemory) ⊎ ((why : Why) × (f ≡ TextLine new.number why)) → IsFailure (IsWrongNames One) old (read_fault f)
names_fail old new f asked end words form whole (inl memory) = inl (ap read_fault memory)
names_fail {A = A} old new f asked end words form whole (inr (why, is)) = go old.left refl
  where
    go : (left : List (List ℕ)) → old.left ≡ left → IsFailure (IsWrongNames One) old (read_fault f)
    go [] e = stops_now (IsWrongNames One) old new (read_fault f) (why_of why) None (ap read_fault is) asked e (refl, ap why_of (told_why {A = A} new.number f why TextEnd is (end e)))
    go (line ∷ rest) e =
        stops_now (IsWrongNames One) old new (read_fault f) (why_of why) (Some line) (ap read_fault is) asked (rest, e) (
          refl,
          record {
            none = λ names spelt few same. no_memory new.number why (sym is ∙ whole names rest spelt few (e ∙ ap (λ l. l ∷ rest) same));
            words = λ ws are same. told_names new.number f why is (most_registers One) ws (words ws rest are (e ∙ ap (λ l. l ∷ rest) same));
            form = λ none. told_form new.number f why is (form line rest e none);
          },
        )
