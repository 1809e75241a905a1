-- Where and why the reader of the header lines stops.
use Rattle.std.proofs.Common.{ℕ, ◌≡◌, ◌⊎◌, inl, inr, ◌<◌, ◌≤◌, true, false, List, [], ◌∷◌, ◌++◌, length, get_or, drop}
use Rattle.std.proofs.Common.{codes, Option, None, Some, Result, Err, refl, sym, ap, ◌∙◌, subst, lit<, lit≤}
use Rattle.std.specs.Fmt.{decimal}
use Rattle.reg_base.specs.Names.{names_fault}
use Rattle.reg_base.specs.declared.limits.TheConstants.{MOST_PROCESSES, MOST_REGISTERS}
use Rattle.reg_front.specs.declared.named.Front.{Front}
use Rattle.reg_front.specs.declared.named.Front.TheVariants.{Linear}
use Rattle.reg_front.specs.Table.{front_name}
use Rattle.reg_text.specs.Forms.{is_numeral}
use Rattle.reg_text.specs.Reading.{IsNext}
use Rattle.reg_text.specs.Words.{names_text, AreWords, HasWords, IsNamesWhy}
use Rattle.reg_text.specs.declared.faults.TextFault.{TextFault}
use Rattle.reg_text.specs.declared.faults.TextFault.TheVariants.{Line, OutOfMemory}
use Rattle.reg_text.specs.declared.faults.Why.{Why}
use Rattle.reg_text.specs.declared.faults.Why.TheVariants.{Form, Range, Name, End}
use Rattle.reg_inputs.specs.LineForms.{is_front_form}
use Rattle.reg_inputs.specs.Refusals.{IsBegun, IsFirstWrong}
use Rattle.reg_inputs.specs.Schedules.{Plan, IsPlan, plan_lines}

-- a plan with no events
abbrev plan_of : ℕ → List (List ℕ) → Front → Plan
plan_of processes names front = record { shape = record { processes = processes; registers = length names }; names = names; front = front; events = [] }

is_plan : (processes : ℕ) (names : List (List ℕ)) (front : Front) → 0 < processes → processes ≤ MOST_PROCESSES
    → names_fault names ≡ None → IsPlan (plan_of processes names front)
is_plan processes names front some few spelt = record {
  names = spelt;
  some_process = some;
  processes = few;
  registers = refl;
  events = λ k e h. absurd (cc);
  few = lit≤ tt;
}

abbrev one_name : List (List ℕ)
one_name = codes "x" ∷ []

one_is_spelt : names_fault one_name ≡ None
one_is_spelt = refl

-- the lines of the processes and of the names
abbrev pub processes_line : ℕ → List ℕ
processes_line processes = codes "processes " ++ decimal processes

abbrev pub registers_line : List (List ℕ) → List ℕ
registers_line names = codes "registers" ++ names_text names

-- some schedule begins with so many header lines
none_begun : IsBegun []
none_begun = (plan_of 1 one_name Linear, is_plan 1 one_name Linear (lit< tt) (lit≤ tt) one_is_spelt, plan_lines (plan_of 1 one_name Linear), refl)

module _ (processes : ℕ) (some : 0 < processes) (few : processes ≤ MOST_PROCESSES) where
  one_begun : IsBegun (processes_line processes ∷ [])
  one_begun = (plan_of processes one_name Linear, is_plan processes one_name Linear some few one_is_spelt, drop 1 (plan_lines (plan_of processes one_name Linear)), refl)

  two_begun : (names : List (List ℕ)) → names_fault names ≡ None → IsBegun (processes_line processes ∷ registers_line names ∷ [])
  two_begun names spelt = (plan_of processes names Linear, is_plan processes names Linear some few spelt, drop 2 (plan_lines (plan_of processes names Linear)), refl)

pub same_why : (n : ℕ) (a b : Why) → Line n a ≡ Line n b → a ≡ b
same_why n a b e = cc

pub no_memory : {A : Type 0} (n : ℕ) (a : Why) → Line n a ≡ OutOfMemory → A
no_memory n a e = absurd (cc)

-- the line that a reader stops at, with the reason
abbrev pub Refused : List (List ℕ) → List (List ℕ) → Why → Type 0
Refused before left why = (next : Option (List ℕ)) × IsNext left next × IsFirstWrong before next why

module _ (n : ℕ) (f : TextFault) (why : Why) (is : f ≡ Line n why) where
  told : (w : Why) → f ≡ Line n w → why ≡ w
  told w e = same_why n why w (sym is ∙ e)

  failed : {A : Type 0} (w : Why) → (let r : Result A TextFault = Err f in r ≡ Err (Line n w)) → why ≡ w
  failed w e = told w (cc)

  of_words : (w : Why) → (f ≡ OutOfMemory) ⊎ (f ≡ Line n w) → why ≡ w
  of_words w (inl e) = no_memory n why (sym is ∙ e)
  of_words w (inr e) = told w e

  of_names : (limit : ℕ) (ws : List (List ℕ)) → (f ≡ OutOfMemory) ⊎ ((w : Why) × IsNamesWhy limit ws w × (f ≡ Line n w)) → IsNamesWhy limit ws why
  of_names limit ws (inl e) = no_memory n why (sym is ∙ e)
  of_names limit ws (inr (w, names, e)) = subst (IsNamesWhy limit ws) (sym (told w e)) names

  pub first_refused : {A : Type 0} (left : List (List ℕ))
      → (left ≡ [] → (let r : Result A TextFault = Err f in r ≡ Err (Line n End)))
      → ((digits : List ℕ) (rest : List (List ℕ)) → is_numeral digits ≡ true → left ≡ (codes "processes " ++ digits) ∷ rest → f ≡ Line n Range)
      → ((line : List ℕ) (rest : List (List ℕ)) → left ≡ line ∷ rest → ((digits : List ℕ) → line ≡ codes "processes " ++ digits → is_numeral digits ≡ false) → (let r : Result A TextFault = Err f in r ≡ Err (Line n Form)))
      → ((k : ℕ) (rest : List (List ℕ)) → 0 < k → k ≤ MOST_PROCESSES → left ≡ processes_line k ∷ rest → ⊥)
      → Refused [] left why
  first_refused [] end range form whole = (None, refl, record { begun = none_begun; wrong = (lit< tt, failed End (end refl)) })
  first_refused (line ∷ rest) end range form whole = (
    Some line,
    (rest, refl),
    record {
      begun = none_begun;
      wrong = (
        λ (p, good, more, e). whole p.shape.processes rest good.some_process good.processes (ap (λ l. l ∷ rest) (sym (ap (λ l. get_or l 0 []) e))),
        record {
          range = λ digits ok e. told Range (range digits rest ok (ap (λ l. l ∷ rest) e));
          form = λ none. failed Form (form line rest refl none);
        },
      );
    },
  )

  pub second_refused : {A : Type 0} (left : List (List ℕ)) (processes : ℕ) → 0 < processes → processes ≤ MOST_PROCESSES
      → (left ≡ [] → (let r : Result A TextFault = Err f in r ≡ Err (Line n End)))
      → ((ws : List (List ℕ)) (rest : List (List ℕ)) → AreWords ws → left ≡ registers_line ws ∷ rest → (f ≡ OutOfMemory) ⊎ ((w : Why) × IsNamesWhy MOST_REGISTERS ws w × (f ≡ Line n w)))
      → ((line : List ℕ) (rest : List (List ℕ)) → left ≡ line ∷ rest → ((text : List ℕ) → HasWords text → ¬ (line ≡ codes "registers" ++ text)) → (f ≡ OutOfMemory) ⊎ (f ≡ Line n Form))
      → ((names : List (List ℕ)) (rest : List (List ℕ)) → names_fault names ≡ None → left ≡ registers_line names ∷ rest → f ≡ OutOfMemory)
      → Refused (processes_line processes ∷ []) left why
  second_refused [] processes some few end words form whole = (None, refl, record { begun = one_begun processes some few; wrong = (lit< tt, failed End (end refl)) })
  second_refused (line ∷ rest) processes some few end words form whole = (
    Some line,
    (rest, refl),
    record {
      begun = one_begun processes some few;
      wrong = (
        λ (p, good, more, e). no_memory n why (sym is ∙ whole p.names rest good.names (ap (λ l. l ∷ rest) (sym (ap (λ l. get_or l 1 []) e)))),
        record {
          words = λ ws are e. of_names MOST_REGISTERS ws (words ws rest are (ap (λ l. l ∷ rest) e));
          form = λ none. of_words Form (form line rest refl none);
        },
      );
    },
  )

  pub third_refused : {A : Type 0} (left : List (List ℕ)) (processes : ℕ) (names : List (List ℕ)) → 0 < processes
      → processes ≤ MOST_PROCESSES → names_fault names ≡ None
      → (left ≡ [] → (let r : Result A TextFault = Err f in r ≡ Err (Line n End)))
      → ((word : List ℕ) (rest : List (List ℕ)) → is_front_form word ≡ true → left ≡ (codes "front " ++ word) ∷ rest → f ≡ Line n Name)
      → ((line : List ℕ) (rest : List (List ℕ)) → left ≡ line ∷ rest → ((word : List ℕ) → line ≡ codes "front " ++ word → is_front_form word ≡ false) → (let r : Result A TextFault = Err f in r ≡ Err (Line n Form)))
      → ((front : Front) (rest : List (List ℕ)) → left ≡ (codes "front " ++ front_name front) ∷ rest → ⊥)
      → Refused (processes_line processes ∷ registers_line names ∷ []) left why
  third_refused [] processes names some few spelt end name form whole = (None, refl, record { begun = two_begun processes some few names spelt; wrong = (lit< tt, failed End (end refl)) })
  third_refused (line ∷ rest) processes names some few spelt end name form whole = (
    Some line,
    (rest, refl),
    record {
      begun = two_begun processes some few names spelt;
      wrong = (
        λ (p, good, more, e). whole p.front rest (ap (λ l. l ∷ rest) (sym (ap (λ l. get_or l 2 []) e))),
        record {
          name = λ word ok e. told Name (name word rest ok (ap (λ l. l ∷ rest) e));
          form = λ none. failed Form (form line rest refl none);
        },
      );
    },
  )
