-- The lines of a report after its head, up to its first wrong line.
use Rattle.std.proofs.Common.{nat_eq, nat_lt, cond, ℕ, ◌≡◌, ◌+◌, ◌⊎◌, ◌-◌, ◌^◌, inl, inr, ◌<◌, ◌≤◌, true, false, List}
use Rattle.std.proofs.Common.{[], ◌∷◌, ◌++◌, length, map, codes, Option, None, Some, Result, Ok, Err, refl, sym, ap}
use Rattle.std.proofs.Common.{◌∙◌, subst, arith, append-nil, append_assoc}
use Rattle.std.specs.Prelude.{IfErr}
use Rattle.std.specs.Fmt.{decimal}
use Rattle.reg_base.specs.Names.{names_fault}
use Rattle.std.proofs.lemmas.Bool.Decides.{nat_tests}
use Rattle.reg_base.specs.Shape.{Extent, shape_of}
use Rattle.reg_base.specs.declared.limits.TheConstants.{MOST_PROCESSES, MOST_REGISTERS}
use Rattle.reg_base.specs.declared.shapes.ShapeFault.{ShapeFault}
use Rattle.reg_base.specs.declared.shapes.ShapeFault.TheVariants.{NoProcess, TooManyProcesses, NoRegister}
use Rattle.reg_base.specs.declared.shapes.ShapeFault.TheVariants.{TooManyRegisters}
use Rattle.reg_base.specs.declared.memory.OpId.{OpId}
use Rattle.reg_checkers.specs.declared.entries.Entry.{Entry}
use Rattle.reg_checkers.specs.declared.entries.Point.{Point}
use Rattle.reg_text.specs.Reading.{IsBlock, IsNext}
use Rattle.reg_text.specs.Lines.{lines_of, IsNumbered, Rest, IsAsked}
use Rattle.reg_text.specs.declared.faults.Why.{Why}
use Rattle.reg_text.specs.declared.faults.Why.TheVariants.{Form as TextForm, End as TextEnd}
use Rattle.reg_text.specs.declared.faults.TextFault.{TextFault}
use Rattle.reg_text.specs.declared.faults.TextFault.TheVariants.{Line as TextLine}
use Rattle.reg_text.proofs.Numbered.{few_lines, starts}
use Rattle.reg_history.specs.EntryLines.{entry_text}
use Rattle.reg_history.specs.IdLines.{id_text, IdFits, point_text, PointFits}
use Rattle.reg_history.specs.LineForms.{Follows, IsCounted}
use Rattle.reg_history.specs.ReadFaults.{read_fault, why_of}
use Rattle.reg_history.specs.Reports.{head_lines, is_front}
use Rattle.reg_history.specs.Refusals.{IsFirstWrong, IsNoNextEntry, IsWrongBody, IsWrongCounted, IsWrongItem}
use Rattle.reg_history.specs.Refusals.{IsWrongLists, IsWrongTail, RefusesReportLine}
use Rattle.reg_history.specs.Stops.{IsFailure, IsFurther, IsWrongEnd, IsWrongPoints}
use Rattle.reg_history.specs.declared.report_faults.ReadFault.{ReadFault}
use Rattle.reg_history.specs.declared.report_faults.ReadFault.TheVariants.{Line, OutOfMemory}
use Rattle.reg_history.specs.declared.report_faults.ReadWhy.{ReadWhy}
use Rattle.reg_history.specs.declared.report_limits.TheConstants.{MOST_ENTRIES, MOST_IDS}
use Rattle.reg_history.specs.declared.versions.Version.{Version}
use Rattle.reg_history.specs.Versions.{most_processes, most_registers}
use Rattle.reg_history.proofs.Heads.{counted_more, head_behind}
use Rattle.reg_history.proofs.Stopping.{stops_now, told_why}

-- the fault of a line that is not the last one
pub end_fails : {A : Type 0} (old new : Rest) (f : TextFault) (why : Why) → f ≡ TextLine new.number why
    → IsAsked old new
    → (old.left ≡ [] → (let r : Result A TextFault = Err f in r ≡ Err (TextLine new.number TextEnd)))
    → ((line : List ℕ) (rest : List (List ℕ)) → old.left ≡ line ∷ rest → ¬ (line ≡ codes "end") → (let r : Result A TextFault = Err f in r ≡ Err (TextLine new.number TextForm)))
    → ((rest : List (List ℕ)) → old.left ≡ codes "end" ∷ rest → ⊥)
    → IsFailure IsWrongEnd old (read_fault f)
end_fails {A = A} old new f why is asked end form whole = go old.left refl
  where
    go : (left : List (List ℕ)) → old.left ≡ left → IsFailure IsWrongEnd old (read_fault f)
    go [] e = stops_now IsWrongEnd old new (read_fault f) (why_of why) None (ap read_fault is) asked e (inl (refl, ap why_of (told_why {A = A} new.number f why TextEnd is (end e))))
    go (line ∷ rest) e =
        let other : ¬ (line ≡ codes "end") = λ same. whole rest (e ∙ ap (λ l. l ∷ rest) same) in
        stops_now IsWrongEnd old new (read_fault f) (why_of why) (Some line) (ap read_fault is) asked (rest, e) (inl (refl, (other, ap why_of (told_why {A = A} new.number f why TextForm is (form line rest e other)))))

pub end_further : (before : List (List ℕ)) (next : Option (List ℕ)) (why : ReadWhy) → IsFurther before next why
    → IsWrongEnd (codes "end" ∷ before) next why
end_further before next why w = inr (ap (λ l. codes "end" ∷ l) w.0, w.1, w.2, w.3)

pub tail_further : (version : Version) (before : List (List ℕ)) (next : Option (List ℕ)) (why : ReadWhy)
    → IsFurther before next why → IsWrongTail version (codes "end" ∷ before) next why
tail_further version before next why w = inr (inr (inr (None, tt, ap (λ l. codes "end" ∷ l) w.0, w.1, w.2, w.3)))

pub points_end : (version : Version) (count : ℕ) (points : List Point) (old rest : List (List ℕ))
    → IsBlock point_text (λ _ p. PointFits version p) count old rest points
    → (before : List (List ℕ)) (next : Option (List ℕ)) (why : ReadWhy) → IsWrongEnd before next why → IsWrongPoints version count (map point_text points ++ before) next why
points_end version count points old rest b before next why w =
    inr (points, before, record { lines = refl; fit = b.fit; count = b.count }, w)

marked : (count : ℕ) (points : List Point) (before last lines : List (List ℕ)) → before ≡ map point_text points ++ last
    → last ≡ lines → length points ≡ count
    → (codes "points " ++ decimal count) ∷ before ≡ (codes "points " ++ decimal (length points)) ∷ (map point_text points ++ lines)
marked count points before last lines e f size = ap (λ n. (codes "points " ++ decimal n) ∷ before) (sym size) ∙ ap (λ l. (codes "points " ++ decimal (length points)) ∷ l) (e ∙ ap (λ l. map point_text points ++ l) f)

pub tail_points : (version : Version) (count : ℕ) → count ≤ MOST_IDS
    → (before : List (List ℕ)) (next : Option (List ℕ)) (why : ReadWhy) → IsWrongPoints version count before next why
    → IsWrongTail version ((codes "points " ++ decimal count) ∷ before) next why
tail_points version count few before next why (inl item) = inr (inl (count, few, before, refl, item))
tail_points version count few before next why (inr (points, last, b, inl w)) = inr (inr (inl (points, (b.fit, omega (arith, b.count, few)), marked count points before last [] b.lines w.0 b.count, w.1)))
tail_points version count few before next why (inr (points, last, b, inr w)) = inr (inr (inr (Some points, (b.fit, omega (arith, b.count, few)), marked count points before last (codes "end" ∷ []) b.lines w.0 b.count, w.1, w.2, w.3)))

pub lists_tail : (version : Version) (order : List OpId) (old rest : List (List ℕ))
    → IsCounted (codes "order ") id_text (λ _ id. IdFits version id) MOST_IDS old rest order
    → (before : List (List ℕ)) (next : Option (List ℕ)) (why : ReadWhy) → IsWrongTail version before next why
    → IsWrongLists version (((codes "order " ++ decimal (length order)) ∷ map id_text order) ++ before) next why
lists_tail version order old rest c before next why w =
    inr (order, before, record { lines = refl; fit = c.fit; few = c.few }, w)

-- an entry is wrong, at a shape that is the history's
pub history_item : (version : Version) (names : List (List ℕ)) (shape s : Extent) (count : ℕ) → s ≡ shape
    → count ≤ MOST_ENTRIES → (before : List (List ℕ)) (next : Option (List ℕ)) (why : ReadWhy)
    → IsWrongItem (entry_text names) (Follows version names s) (IsNoNextEntry version names s) count before next why
    → IsWrongCounted (codes "history ") 0 MOST_ENTRIES (entry_text names) (Follows version names shape) (IsNoNextEntry version names shape) ((codes "history " ++ decimal count) ∷ before) next why
history_item version names shape s count same few before next why w =
    counted_more (codes "history ") 0 MOST_ENTRIES (entry_text names) (Follows version names shape) (IsNoNextEntry version names shape) count (omega arith) few before next why
    (subst (λ (x : Extent). IsWrongItem (entry_text names) (Follows version names x) (IsNoNextEntry version names x) count before next why) same w)

-- of a history, its first wrong line
abbrev pub history_wrong : Version → List (List ℕ) → Extent → List (List ℕ) → Option (List ℕ) → ReadWhy → Type 0
history_wrong version names shape = IsWrongCounted (codes "history ") 0 MOST_ENTRIES (entry_text names) (Follows version names shape) (IsNoNextEntry version names shape)

pub behind : (head part now rest : List (List ℕ)) → now ≡ part ++ rest → head ++ now ≡ (head ++ part) ++ rest
behind head part now rest e = ap (λ l. head ++ l) e ∙ sym (append_assoc head part rest)

module _ (version : Version) (front : List ℕ) (processes : ℕ) (names : List (List ℕ)) (shape : Extent) (front_is : is_front front ≡ true) (some : 0 < processes) (few : processes ≤ most_processes version)
    (spelt : names_fault names ≡ None) (few_names : length names ≤ most_registers version) (is : shape ≡ record { processes = processes; registers = length names }) where
  pub body_wrong : (before : List (List ℕ)) (next : Option (List ℕ)) (why : ReadWhy)
      → IsWrongBody version names shape before next why
      → IsFirstWrong (head_lines version front processes names [] ++ before) next why
  body_wrong before next why w = inr (record {
    version = version;
    front = front;
    front_is = front_is;
    processes = processes;
    some = omega (arith, some);
    few = few;
    names = names;
    spelt = spelt;
    few_names = few_names;
    body = before;
    are = sym (head_behind version front processes names before);
    wrong = subst (λ (s : Extent). IsWrongBody version names s before next why) is w;
  })

  pub lists_wrong : (entries : List Entry) (old rest : List (List ℕ))
      → IsCounted (codes "history ") (entry_text names) (Follows version names shape) MOST_ENTRIES old rest entries
      → (before : List (List ℕ)) (next : Option (List ℕ)) (why : ReadWhy) → IsWrongLists version before next why
      → IsFirstWrong ((head_lines version front processes names [] ++ ((codes "history " ++ decimal (length entries)) ∷ map (entry_text names) entries)) ++ before) next why
  lists_wrong entries old rest c before next why w =
      subst (λ (l : List (List ℕ)). IsFirstWrong l next why) (sym (append_assoc (head_lines version front processes names []) ((codes "history " ++ decimal (length entries)) ∷ map (entry_text names) entries) before))
      (body_wrong (((codes "history " ++ decimal (length entries)) ∷ map (entry_text names) entries) ++ before) next why
      (inr (entries, before, record { lines = refl; fit = c.fit; few = c.few }, w)))

-- a shape within the limits is one
pub shape_made : (res : Result Extent ShapeFault) (p n : ℕ) → res ≡ shape_of p n → 0 < p → p ≤ MOST_PROCESSES → 0 < n
    → n ≤ MOST_REGISTERS → res ≡ Ok (record { processes = p; registers = n })
shape_made res p n is some few one least =
    let a : nat_eq p 0 ≡ false = grind (arith, nat_tests) in
    let b : nat_lt MOST_PROCESSES p ≡ false = grind (arith, nat_tests) in
    let d : nat_eq n 0 ≡ false = grind (arith, nat_tests) in
    let e : nat_lt MOST_REGISTERS n ≡ false = grind (arith, nat_tests) in
    let shape : Result Extent ShapeFault = Ok (record { processes = p; registers = n }) in
    is
    ∙ ap (λ x. cond x (Err NoProcess) (cond (nat_lt MOST_PROCESSES p) (Err TooManyProcesses) (cond (nat_eq n 0) (Err NoRegister) (cond (nat_lt MOST_REGISTERS n) (Err TooManyRegisters) shape)))) a
    ∙ ap (λ x. cond x (Err TooManyProcesses) (cond (nat_eq n 0) (Err NoRegister) (cond (nat_lt MOST_REGISTERS n) (Err TooManyRegisters) shape))) b
    ∙ ap (λ x. cond x (Err NoRegister) (cond (nat_lt MOST_REGISTERS n) (Err TooManyRegisters) shape)) d
    ∙ ap (λ x. cond x (Err TooManyRegisters) shape) e

-- the line of the text
numbered : (whole before middle : List (List ℕ)) (number : ℕ) (next : Option (List ℕ)) → whole ≡ before ++ middle
    → IsNext middle next → number ≡ length before + 1 → IsNumbered false whole number before next
numbered whole before middle number None read comes n =
    let same : whole ≡ before = read ∙ ap (λ l. before ++ l) comes ∙ append-nil before in
    (same, n ∙ ap (λ l. length l + 1) (sym same))
numbered whole before middle number (Some line) read comes n =
    (before, comes.0, read ∙ ap (λ l. before ++ l) comes.1, refl, refl, n)

pub text_line : {T : Type 0} (text : List ℕ) (old : Rest) (r : Result T ReadFault) → length text < 2 ^ 64 - 1
    → old.left ≡ lines_of text → old.all ≡ lines_of text → old.number ≡ 0 → old.skips ≡ false
    → IfErr r (IsFailure IsFirstWrong old) → IfErr r (λ f. (f ≡ OutOfMemory) ⊎ ((number : ℕ) × (why : ReadWhy) × (f ≡ Line number why) × RefusesReportLine number why text))
text_line text old (Ok x) few left all number skips w = tt
text_line text old (Err f) few left all number skips (inl memory) = inl memory
text_line text old (Err f) few left all number skips (inr s) =
    let short = few_lines text in
    let stands = starts false (lines_of text) old all number left skips (omega (arith, short, few)) in
    let n = s.placed.number_is (lines_of text) stands in
    inr (
      s.number,
      s.why,
      s.told,
      record {
        before = s.before;
        next = s.next;
        numbered = numbered (lines_of text) s.before s.placed.middle s.number s.next (sym left ∙ s.placed.read) s.placed.comes (omega (arith, n, number));
        first = s.wrong;
      },
    )
