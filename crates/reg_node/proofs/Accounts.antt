-- Where and why the reader of a record stops, after its header lines and in a text.
use Rattle.std.proofs.Common.{ℕ, suc, ◌≡◌, ◌⊎◌, inl, inr, ◌-◌, ◌<◌, ◌≤◌, ◌^◌, false, List, [], ◌∷◌, ◌++◌, length, map}
use Rattle.std.proofs.Common.{get_or, drop, None, Some, Result, Ok, Err, refl, sym, ap, ◌∙◌, subst, arith, append_assoc}
use Rattle.std.proofs.Common.{append-nil}
use Rattle.std.specs.Prelude.{slice_get, IfErr}
use Rattle.reg_base.specs.Names.{names_fault}
use Rattle.reg_base.specs.declared.limits.TheConstants.{MOST_PROCESSES, MOST_EVENTS}
use Rattle.reg_front.specs.declared.named.Front.{Front}
use Rattle.reg_text.specs.Reading.{GoesOn}
use Rattle.reg_text.specs.Lines.{lines_of, AllFit, Rest}
use Rattle.reg_text.specs.declared.faults.TextFault.{TextFault}
use Rattle.reg_text.specs.declared.faults.TextFault.TheVariants.{Line, OutOfMemory}
use Rattle.reg_text.specs.declared.faults.Why.{Why}
use Rattle.reg_text.proofs.Numbered.{starts, few_lines, stopped_behind, stopped_numbered}
use Rattle.reg_node.specs.declared.transcripts.recorded.Recorded.{Recorded}
use Rattle.reg_node.specs.RecordLines.{Account, IsAccount, RecordedFits, account_lines, head_lines, recorded_text}
use Rattle.reg_node.specs.Refusals.{IsBegun, RefusesAccount}
use Rattle.reg_node.specs.Stops.{IsWrongStep, StopsFirst}
use Rattle.reg_node.proofs.Heads.{first_line, front_line, processes_line, registers_line}

-- after the lines of these steps the next one is that of a step
find : (f : Recorded → List ℕ) (F : Recorded → Type 0) (line : List ℕ) (more : List (List ℕ))
    (before es : List Recorded)
    → map f es ≡ map f before ++ line ∷ more → ((k : ℕ) (e : Recorded) → slice_get es k ≡ Some e → F e)
    → (e : Recorded) × F e × (line ≡ f e) × (length before < length es)
find f F line more [] [] same fit = absurd (cc)
find f F line more [] (e ∷ es) same fit = (e, fit 0 e refl, sym (ap (λ l. get_or l 0 []) same), omega arith)
find f F line more (b ∷ before) [] same fit = absurd (cc)
find f F line more (b ∷ before) (e ∷ es) same fit =
    let found = find f F line more before es (ap (drop 1) same) (λ k x h. fit (suc k) x h) in
    let few = found.3 in
    (found.0, found.1, found.2, omega (arith, few))

abbrev head : Front → ℕ → List (List ℕ) → List (List ℕ)
head front processes names = first_line ∷ front_line front ∷ processes_line processes ∷ registers_line names ∷ []

-- the header lines of two records that begin alike
same_head : (old left more : List (List ℕ)) (n m : ℕ) (names others : List (List ℕ)) (front other : Front)
    (steps : List Recorded) (rest : List (List ℕ))
    → old ≡ head_lines front n names left
    → head_lines other m others (map (recorded_text others) steps) ≡ (head front n names ++ rest) ++ more → old ≡ head_lines other m others left
same_head old left more n m names others front other steps rest read e =
    read ∙ ap (λ l. first_line ∷ l ∷ processes_line n ∷ registers_line names ∷ left) (sym (ap (λ l. get_or l 1 []) e))
    ∙ ap (λ l. first_line ∷ front_line other ∷ l ∷ registers_line names ∷ left) (sym (ap (λ l. get_or l 2 []) e))
    ∙ ap (λ l. first_line ∷ front_line other ∷ processes_line m ∷ l ∷ left) (sym (ap (λ l. get_or l 3 []) e))

module _ (old mid new : Rest) (front : Front) (processes : ℕ) (names : List (List ℕ)) (why : Why) (some : 0 < processes) (few : processes ≤ MOST_PROCESSES) (spelt : names_fault names ≡ None)
    (read : old.left ≡ head_lines front processes names mid.left)
    (alone : (other : Front) (m : ℕ) (others rest : List (List ℕ)) → 0 < m → m ≤ MOST_PROCESSES → names_fault others ≡ None → old.left ≡ head_lines other m others rest → names ≡ others)
    (w : IsWrongStep names mid new why) where
  abbrev account : Account
  account = record { front = front; shape = record { processes = processes; registers = length names }; names = names; steps = w.before }

  good : IsAccount account
  good = record { names = spelt; some_process = some; processes = few; registers = refl; steps = w.fit; few = w.few }

  none_further : (es : List Recorded) → AllFit (λ _ e. RecordedFits names e) es → length es ≤ MOST_EVENTS → (more : List (List ℕ)) → map (recorded_text names) es ≡ map (recorded_text names) w.before ++ w.line ∷ more → ⊥
  none_further es fit short more same =
      let found = find (recorded_text names) (RecordedFits names) w.line more w.before es same fit in
      let further = found.3 in
      w.none (omega (arith, further, short)) (found.0, found.1, found.2)

  not_begun : ¬ IsBegun ((head front processes names ++ map (recorded_text names) w.before) ++ w.line ∷ [])
  not_begun (q, fits, more, e) =
      let same : names ≡ q.names = alone q.front q.shape.processes q.names mid.left fits.some_process fits.processes fits.names
      (same_head old.left mid.left (w.line ∷ [] ++ more) processes q.shape.processes names q.names front q.front q.steps (map (recorded_text names) w.before) read (e ∙ append_assoc (head front processes names ++ map (recorded_text names) w.before) (w.line ∷ []) more)) in
      let lines : map (recorded_text q.names) q.steps ≡ map (recorded_text names) w.before ++ w.line ∷ more = ap (drop 4) e ∙ append_assoc (map (recorded_text names) w.before) (w.line ∷ []) more in
      none_further q.steps (subst (λ (ns : List (List ℕ)). AllFit (λ _ x. RecordedFits ns x) q.steps) (sym same) fits.steps) fits.few more
      (subst (λ (ns : List (List ℕ)). map (recorded_text ns) q.steps ≡ map (recorded_text names) w.before ++ w.line ∷ more) (sym same) lines)

  -- a step is refused: the lines before it are those of a record
  pub steps_stopped : GoesOn old mid → StopsFirst old new why
  steps_stopped on = record {
    before = head front processes names ++ map (recorded_text names) w.before;
    next = Some w.line;
    stopped = stopped_behind (head front processes names) (map (recorded_text names) w.before) (Some w.line) old mid new read on w.stopped;
    first = record {
      begun = (account, good, [], sym (append-nil (account_lines account)));
      wrong = (not_begun, record { account = account; good = good; read = refl; form = w.form; further = w.further });
    };
  }

-- the line of the text at which the reader stops
one_line : (text : List ℕ) (old new : Rest) (f : TextFault) → length text < 2 ^ 64 - 1 → old.left ≡ lines_of text
    → old.all ≡ lines_of text → old.number ≡ 0 → old.skips ≡ false
    → (f ≡ OutOfMemory) ⊎ ((why : Why) × (f ≡ Line new.number why) × StopsFirst old new why) → (f ≡ OutOfMemory) ⊎ ((number : ℕ) × (why : Why) × (f ≡ Line number why) × RefusesAccount number why text)
one_line text old new f few left all number skips (inl memory) = inl memory
one_line text old new f few left all number skips (inr (why, is, s)) =
    let short = few_lines text in
    inr (
      new.number,
      why,
      is,
      record {
        before = s.before;
        next = s.next;
        numbered = stopped_numbered false (lines_of text) s.before old new left (starts false (lines_of text) old all number left skips (omega (arith, short, few))) s.next s.stopped;
        first = s.first;
      },
    )

pub text_line : {A : Type 0} (text : List ℕ) (old new : Rest) (r : Result A TextFault) → length text < 2 ^ 64 - 1
    → old.left ≡ lines_of text → old.all ≡ lines_of text → old.number ≡ 0 → old.skips ≡ false
    → IfErr r (λ f. (f ≡ OutOfMemory) ⊎ ((why : Why) × (f ≡ Line new.number why) × StopsFirst old new why)) → IfErr r (λ f. (f ≡ OutOfMemory) ⊎ ((number : ℕ) × (why : Why) × (f ≡ Line number why) × RefusesAccount number why text))
text_line text old new (Ok x) few left all number skips s = tt
text_line text old new (Err f) few left all number skips s = one_line text old new f few left all number skips s
