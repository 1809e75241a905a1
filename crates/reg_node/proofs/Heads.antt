-- Where and why the reader of the header lines stops.
use Rattle.std.proofs.Common.{ℕ, ◌≡◌, ◌≢◌, ◌⊎◌, inl, inr, ◌<◌, ◌≤◌, true, false, List, [], ◌∷◌, ◌++◌, length, get_or}
use Rattle.std.proofs.Common.{drop, codes, Option, None, Some, Result, Err, refl, sym, ap, ◌∙◌, subst, lit<, lit≤}
use Rattle.std.specs.Fmt.{decimal}
use Rattle.reg_base.specs.Names.{names_fault}
use Rattle.reg_base.specs.declared.limits.TheConstants.{MOST_PROCESSES, MOST_REGISTERS}
use Rattle.reg_front.specs.declared.named.Front.{Front}
use Rattle.reg_front.specs.declared.named.Front.TheVariants.{Linear}
use Rattle.reg_front.specs.Table.{front_name}
use Rattle.reg_text.specs.Forms.{is_numeral}
use Rattle.reg_text.specs.Reading.{IsNext}
use Rattle.reg_text.specs.Words.{names_text, AreWords, HasWords, IsNamesWhy}
use Rattle.reg_text.specs.declared.faults.TextFault.{TextFault}
use Rattle.reg_text.specs.declared.faults.TextFault.TheVariants.{Line, OutOfMemory}
use Rattle.reg_text.specs.declared.faults.Why.{Why}
use Rattle.reg_text.specs.declared.faults.Why.TheVariants.{Form, Range, Name, End}
use Rattle.reg_inputs.specs.LineForms.{is_front_form}
use Rattle.reg_node.specs.RecordLines.{Account, IsAccount, account_lines}
use Rattle.reg_node.specs.Refusals.{IsBegun, IsFirstWrong}
use Rattle.reg_inputs.proofs.Heads.{no_memory, same_why}

-- a record with no steps
abbrev account_of : Front → ℕ → List (List ℕ) → Account
account_of front processes names = record { front = front; shape = record { processes = processes; registers = length names }; names = names; steps = [] }

is_account : (front : Front) (processes : ℕ) (names : List (List ℕ)) → 0 < processes → processes ≤ MOST_PROCESSES
    → names_fault names ≡ None → IsAccount (account_of front processes names)
is_account front processes names some few spelt = record {
  names = spelt;
  some_process = some;
  processes = few;
  registers = refl;
  steps = λ k e h. absurd (cc);
  few = lit≤ tt;
}

abbrev one_name : List (List ℕ)
one_name = codes "x" ∷ []

one_is_spelt : names_fault one_name ≡ None
one_is_spelt = refl

-- the header lines
abbrev pub first_line : List ℕ
first_line = codes "tellwydar record 1"

abbrev pub front_line : Front → List ℕ
front_line front = codes "front " ++ front_name front

abbrev pub processes_line : ℕ → List ℕ
processes_line processes = codes "processes " ++ decimal processes

abbrev pub registers_line : List (List ℕ) → List ℕ
registers_line names = codes "registers" ++ names_text names

-- some record begins with so many header lines
begun : (front : Front) (processes n : ℕ) (names : List (List ℕ)) → 0 < processes → processes ≤ MOST_PROCESSES
    → names_fault names ≡ None → (before : List (List ℕ))
    → account_lines (account_of front processes names)
    ≡ before ++ drop n (account_lines (account_of front processes names))
    → IsBegun before
begun front processes n names some few spelt before e = (account_of front processes names, is_account front processes names some few spelt, drop n (account_lines (account_of front processes names)), e)

none_begun : IsBegun []
none_begun = begun Linear 1 0 one_name (lit< tt) (lit≤ tt) one_is_spelt [] refl

one_begun : IsBegun (first_line ∷ [])
one_begun = begun Linear 1 1 one_name (lit< tt) (lit≤ tt) one_is_spelt (first_line ∷ []) refl

two_begun : (front : Front) → IsBegun (first_line ∷ front_line front ∷ [])
two_begun front = begun front 1 2 one_name (lit< tt) (lit≤ tt) one_is_spelt (first_line ∷ front_line front ∷ []) refl

three_begun : (front : Front) (processes : ℕ) → 0 < processes → processes ≤ MOST_PROCESSES
    → IsBegun (first_line ∷ front_line front ∷ processes_line processes ∷ [])
three_begun front processes some few = begun front processes 3 one_name some few one_is_spelt (first_line ∷ front_line front ∷ processes_line processes ∷ []) refl

-- the line that a reader stops at, with the reason
abbrev pub Refused : List (List ℕ) → List (List ℕ) → Why → Type 0
Refused before left why = (next : Option (List ℕ)) × IsNext left next × IsFirstWrong before next why

module _ (n : ℕ) (f : TextFault) (why : Why) (is : f ≡ Line n why) where
  told : (w : Why) → f ≡ Line n w → why ≡ w
  told w e = same_why n why w (sym is ∙ e)

  failed : {A : Type 0} (w : Why) → (let r : Result A TextFault = Err f in r ≡ Err (Line n w)) → why ≡ w
  failed w e = told w (cc)

  of_words : (w : Why) → (f ≡ OutOfMemory) ⊎ (f ≡ Line n w) → why ≡ w
  of_words w (inl e) = no_memory n why (sym is ∙ e)
  of_words w (inr e) = told w e

  of_names : (limit : ℕ) (ws : List (List ℕ)) → (f ≡ OutOfMemory) ⊎ ((w : Why) × IsNamesWhy limit ws w × (f ≡ Line n w)) → IsNamesWhy limit ws why
  of_names limit ws (inl e) = no_memory n why (sym is ∙ e)
  of_names limit ws (inr (w, names, e)) = subst (IsNamesWhy limit ws) (sym (told w e)) names

  pub first_refused : {A : Type 0} (left : List (List ℕ))
      → (left ≡ [] → (let r : Result A TextFault = Err f in r ≡ Err (Line n End)))
      → ((line : List ℕ) (rest : List (List ℕ)) → left ≡ line ∷ rest → line ≢ first_line → (let r : Result A TextFault = Err f in r ≡ Err (Line n Form)))
      → ((rest : List (List ℕ)) → left ≡ first_line ∷ rest → ⊥)
      → Refused [] left why
  first_refused [] end form whole = (None, refl, record { begun = none_begun; wrong = (lit< tt, failed End (end refl)) })
  first_refused (line ∷ rest) end form whole = (
    Some line,
    (rest, refl),
    record {
      begun = none_begun;
      wrong = (
        λ (a, good, more, e). whole rest (ap (λ l. l ∷ rest) (sym (ap (λ l. get_or l 0 []) e))),
        failed Form (form line rest refl (λ e. whole rest (ap (λ l. l ∷ rest) e))),
      );
    },
  )

  pub second_refused : {A : Type 0} (left : List (List ℕ))
      → (left ≡ [] → (let r : Result A TextFault = Err f in r ≡ Err (Line n End)))
      → ((word : List ℕ) (rest : List (List ℕ)) → is_front_form word ≡ true → left ≡ (codes "front " ++ word) ∷ rest → f ≡ Line n Name)
      → ((line : List ℕ) (rest : List (List ℕ)) → left ≡ line ∷ rest → ((word : List ℕ) → line ≡ codes "front " ++ word → is_front_form word ≡ false) → (let r : Result A TextFault = Err f in r ≡ Err (Line n Form)))
      → ((front : Front) (rest : List (List ℕ)) → left ≡ front_line front ∷ rest → ⊥)
      → Refused (first_line ∷ []) left why
  second_refused [] end name form whole = (None, refl, record { begun = one_begun; wrong = (lit< tt, failed End (end refl)) })
  second_refused (line ∷ rest) end name form whole = (
    Some line,
    (rest, refl),
    record {
      begun = one_begun;
      wrong = (
        λ (a, good, more, e). whole a.front rest (ap (λ l. l ∷ rest) (sym (ap (λ l. get_or l 1 []) e))),
        record {
          name = λ word ok e. told Name (name word rest ok (ap (λ l. l ∷ rest) e));
          form = λ none. failed Form (form line rest refl none);
        },
      );
    },
  )

  pub third_refused : {A : Type 0} (left : List (List ℕ)) (front : Front)
      → (left ≡ [] → (let r : Result A TextFault = Err f in r ≡ Err (Line n End)))
      → ((digits : List ℕ) (rest : List (List ℕ)) → is_numeral digits ≡ true → left ≡ (codes "processes " ++ digits) ∷ rest → f ≡ Line n Range)
      → ((line : List ℕ) (rest : List (List ℕ)) → left ≡ line ∷ rest → ((digits : List ℕ) → line ≡ codes "processes " ++ digits → is_numeral digits ≡ false) → (let r : Result A TextFault = Err f in r ≡ Err (Line n Form)))
      → ((k : ℕ) (rest : List (List ℕ)) → 0 < k → k ≤ MOST_PROCESSES → left ≡ processes_line k ∷ rest → ⊥)
      → Refused (first_line ∷ front_line front ∷ []) left why
  third_refused [] front end range form whole = (None, refl, record { begun = two_begun front; wrong = (lit< tt, failed End (end refl)) })
  third_refused (line ∷ rest) front end range form whole = (
    Some line,
    (rest, refl),
    record {
      begun = two_begun front;
      wrong = (
        λ (a, good, more, e). whole a.shape.processes rest good.some_process good.processes (ap (λ l. l ∷ rest) (sym (ap (λ l. get_or l 2 []) e))),
        record {
          range = λ digits ok e. told Range (range digits rest ok (ap (λ l. l ∷ rest) e));
          form = λ none. failed Form (form line rest refl none);
        },
      );
    },
  )

  pub fourth_refused : {A : Type 0} (left : List (List ℕ)) (front : Front) (processes : ℕ) → 0 < processes
      → processes ≤ MOST_PROCESSES
      → (left ≡ [] → (let r : Result A TextFault = Err f in r ≡ Err (Line n End)))
      → ((ws : List (List ℕ)) (rest : List (List ℕ)) → AreWords ws → left ≡ registers_line ws ∷ rest → (f ≡ OutOfMemory) ⊎ ((w : Why) × IsNamesWhy MOST_REGISTERS ws w × (f ≡ Line n w)))
      → ((line : List ℕ) (rest : List (List ℕ)) → left ≡ line ∷ rest → ((text : List ℕ) → HasWords text → ¬ (line ≡ codes "registers" ++ text)) → (f ≡ OutOfMemory) ⊎ (f ≡ Line n Form))
      → ((names : List (List ℕ)) (rest : List (List ℕ)) → names_fault names ≡ None → left ≡ registers_line names ∷ rest → f ≡ OutOfMemory)
      → Refused (first_line ∷ front_line front ∷ processes_line processes ∷ []) left why
  fourth_refused [] front processes some few end words form whole = (None, refl, record { begun = three_begun front processes some few; wrong = (lit< tt, failed End (end refl)) })
  fourth_refused (line ∷ rest) front processes some few end words form whole = (
    Some line,
    (rest, refl),
    record {
      begun = three_begun front processes some few;
      wrong = (
        λ (a, good, more, e). no_memory n why (sym is ∙ whole a.names rest good.names (ap (λ l. l ∷ rest) (sym (ap (λ l. get_or l 3 []) e)))),
        record {
          words = λ ws are e. of_names MOST_REGISTERS ws (words ws rest are (ap (λ l. l ∷ rest) e));
          form = λ none. of_words Form (form line rest refl none);
        },
      );
    },
  )
