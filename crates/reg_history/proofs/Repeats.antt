-- The first of well spelt names that stands earlier too.
use Rattle.std.proofs.Common.{ℕ, zero, suc, ◌≡◌, ◌+◌, ◌⊎◌, inl, inr, ◌<◌, ◌≤◌, ◌^◌, ◌||◌, not, nat_lt, nat_eq, true}
use Rattle.std.proofs.Common.{false, cond, List, [], ◌∷◌, ◌++◌, length, Option, None, Some, slice_get, refl, sym, ap}
use Rattle.std.proofs.Common.{◌∙◌, subst, arith, rules, length-append, append_assoc, append-nil}
use Rattle.std.specs.List.{list_any, position_from}
use Rattle.std.specs.Str.{bytes_eq}
use Rattle.std.proofs.lemmas.Slice.Eq.{bytes_eq-Decides}
use Rattle.std.proofs.lemmas.Option.{same_Some}
use Rattle.reg_base.specs.Names.{is_name, names_fault, first_bad, first_repeat, repeat_after, worst_place}
use Rattle.reg_base.specs.declared.limits.TheConstants.{MOST_REGISTERS}
use Rattle.reg_base.specs.declared.naming.NamesFault.{NamesFault}
use Rattle.reg_base.specs.declared.naming.NamesFault.TheVariants.{NoName, TooManyNames, BadName, SameName}
use Rattle.reg_text.specs.Reading.{GoesOn, IsNext}
use Rattle.reg_text.specs.Lines.{AllFit, Rest, IsAsked}
use Rattle.reg_text.proofs.Turns.{Gathered, gathers, gathers_one, all_gathered, Taken}
use Rattle.reg_history.specs.Refusals.{IsAmong, IsNewName, IsNoNewName, IsWrongItem, IsWrongNext}
use Rattle.reg_history.specs.Stops.{IsFailure, IsNoName, IsPlaced, IsWrongName}
use Rattle.reg_history.specs.declared.report_faults.ReadFault.{ReadFault}
use Rattle.reg_history.specs.declared.report_faults.ReadFault.TheVariants.{Line, OutOfMemory}
use Rattle.reg_history.specs.declared.report_faults.ReadWhy.{ReadWhy}
use Rattle.reg_history.specs.declared.report_faults.ReadWhy.TheVariants.{Name}
use Rattle.reg_history.proofs.Listed.{map_same}
use Rattle.reg_history.proofs.Stopping.{placed_behind, placed_now, total}

abbrev pub AreSpelt : List (List ℕ) → Type 0
AreSpelt names = AllFit (λ _ n. is_name n ≡ true) names

among_here : (n : List ℕ) (earlier : List (List ℕ)) → list_any (bytes_eq n) earlier ≡ true → IsAmong n earlier
among_here n [] h = absurd (cc)
among_here n (m ∷ ms) h =
    elim (bytes_eq n m) as (λ b. bytes_eq n m ≡ b → (b || list_any (bytes_eq n) ms) ≡ true → IsAmong n (m ∷ ms)) [
      | true ↦ λ e k. (0, ap Some (sym ((bytes_eq-Decides n m).0 e)))
      | false ↦ λ e k. let r = among_here n ms k in (suc r.0, r.1)
    ] refl h

none_among : (n : List ℕ) (earlier : List (List ℕ)) (k : ℕ) → list_any (bytes_eq n) earlier ≡ false
    → slice_get earlier k ≡ Some n → ⊥
none_among n [] k h e = absurd (cc)
none_among n (m ∷ ms) zero h e =
    let same : bytes_eq n m ≡ true = (bytes_eq-Decides n m).1 (sym (same_Some m n e)) in
    let bad : true ≡ false = sym (ap (λ b. b || list_any (bytes_eq n) ms) same) ∙ h in
    absurd (cc)
none_among n (m ∷ ms) (suc k) h e =
    elim (bytes_eq n m) as (λ b. (b || list_any (bytes_eq n) ms) ≡ false → ⊥) [
      | true ↦ λ f. absurd (cc)
      | false ↦ λ f. none_among n ms k f e
    ] h

tail_spelt : (n : List ℕ) (ns : List (List ℕ)) → AreSpelt (n ∷ ns) → AreSpelt ns
tail_spelt n ns h = λ k x e. h (suc k) x e

-- one more name that does not stand earlier
grown : (old earlier : List (List ℕ)) (n : List ℕ) (ns : List (List ℕ)) (i : ℕ)
    → Gathered (λ n. n) IsNewName old (n ∷ ns) earlier i → is_name n ≡ true → list_any (bytes_eq n) earlier ≡ false
    → Gathered (λ n. n) IsNewName old ns (earlier ++ n ∷ []) (i + 1)
grown old earlier n ns i t ok none = gathers_one (λ n. n) IsNewName old (n ∷ ns) earlier i t n ns n refl refl (ok, λ a. none_among n earlier a.0 none a.1) (λ y fits e. e)

-- where none stands earlier, each is new
all_new : (old earlier names : List (List ℕ)) (i : ℕ) → Gathered (λ n. n) IsNewName old names earlier i → AreSpelt names
    → repeat_after earlier names ≡ None → AllFit IsNewName old
all_new old earlier [] i t spelt h =
    let same = (all_gathered (λ n. n) IsNewName old [] earlier i t refl).0 ∙ map_same earlier in
    subst (λ (l : List (List ℕ)). AllFit IsNewName l) (sym same) t.fit
all_new old earlier (n ∷ ns) i t spelt h =
    elim (list_any (bytes_eq n) earlier) as (λ b. list_any (bytes_eq n) earlier ≡ b → cond b (Some (length earlier)) (repeat_after (earlier ++ n ∷ []) ns) ≡ None → AllFit IsNewName old) [
      | true ↦ λ e k. absurd (cc)
      | false ↦ λ e k. all_new old (earlier ++ n ∷ []) ns (i + 1) (grown old earlier n ns i t (spelt 0 n refl) e) (tail_spelt n ns spelt) k
    ] refl h

-- the first that stands earlier, after names that are new
pub record Repeat (names : List (List ℕ)) (place : ℕ) : Type 0 where
  pub before : List (List ℕ)
  pub name : List ℕ
  pub rest : List (List ℕ)
  pub are : names ≡ before ++ name ∷ rest
  pub place_is : length before ≡ place
  pub fit : AllFit IsNewName before
  pub spelt : is_name name ≡ true
  pub among : IsAmong name before

first_among : (old earlier names : List (List ℕ)) (i place : ℕ) → Gathered (λ n. n) IsNewName old names earlier i
    → AreSpelt names → repeat_after earlier names ≡ Some place → Repeat old place
first_among old earlier [] i place t spelt h = absurd (cc)
first_among old earlier (n ∷ ns) i place t spelt h =
    elim (list_any (bytes_eq n) earlier) as (λ b. list_any (bytes_eq n) earlier ≡ b → cond b (Some (length earlier)) (repeat_after (earlier ++ n ∷ []) ns) ≡ Some place → Repeat old place) [
      | true ↦ λ e k. record { before = earlier; name = n; rest = ns; are = t.lines ∙ ap (λ l. l ++ n ∷ ns) (map_same earlier); place_is = same_Some (length earlier) place k; fit = t.fit; spelt = spelt 0 n refl; among = among_here n earlier e }
      | false ↦ λ e k. first_among old (earlier ++ n ∷ []) ns (i + 1) place (grown old earlier n ns i t (spelt 0 n refl) e) (tail_spelt n ns spelt) k
    ] refl h

none_bad : (k : ℕ) (ns : List (List ℕ)) → AreSpelt ns → position_from (λ n. not (is_name n)) k ns ≡ None
none_bad k [] spelt = refl
none_bad k (n ∷ ns) spelt = ap (λ b. cond (not b) (Some k) (position_from (λ m. not (is_name m)) (k + 1) ns)) (spelt 0 n refl) ∙ none_bad (k + 1) ns (tail_spelt n ns spelt)

not_over : (a b : ℕ) → b ≤ a → nat_lt a b ≡ false
not_over a b h = search (rules, h)

not_zero : (k : ℕ) → nat_eq (suc k) 0 ≡ false
not_zero k = search rules

-- of well spelt names, some and not too many, the fault is that of the first that stands earlier
fault_is : (n : List ℕ) (ns : List (List ℕ)) → AreSpelt (n ∷ ns) → length (n ∷ ns) ≤ MOST_REGISTERS
    → names_fault (n ∷ ns) ≡ worst_place None (first_repeat (n ∷ ns))
fault_is n ns spelt few =
    ap (λ b. cond b (Some NoName) (cond (nat_lt MOST_REGISTERS (length (n ∷ ns))) (Some TooManyNames) (worst_place (first_bad (n ∷ ns)) (first_repeat (n ∷ ns))))) (not_zero (length ns))
    ∙ ap (λ b. cond b (Some TooManyNames) (worst_place (first_bad (n ∷ ns)) (first_repeat (n ∷ ns)))) (not_over MOST_REGISTERS (length (n ∷ ns)) few)
    ∙ ap (λ p. worst_place p (first_repeat (n ∷ ns))) (none_bad 0 (n ∷ ns) spelt)

same_fault : (q : Option ℕ) (fault : NamesFault) → worst_place None q ≡ Some fault
    → (place : ℕ) × (fault ≡ SameName place) × (q ≡ Some place)
same_fault None fault h = absurd (cc)
same_fault (Some i) fault h = (i, sym (same_Some (SameName i) fault h), refl)

no_fault : (q : Option ℕ) → ((place : ℕ) → ¬ (worst_place None q ≡ Some (SameName place))) → q ≡ None
no_fault None none = refl
no_fault (Some i) none = absurd (none i refl)

pub repeated : (names : List (List ℕ)) (fault : NamesFault) → AreSpelt names → 0 < length names
    → length names ≤ MOST_REGISTERS → names_fault names ≡ Some fault
    → (place : ℕ) × (fault ≡ SameName place) × Repeat names place
repeated [] fault spelt some few h = absurd (omega (arith, some))
repeated (n ∷ ns) fault spelt some few h =
    let told = same_fault (first_repeat (n ∷ ns)) fault (sym (fault_is n ns spelt few) ∙ h) in
    (told.0, told.1, first_among (n ∷ ns) [] (n ∷ ns) 0 told.0 (gathers (λ n. n) IsNewName (n ∷ ns)) spelt told.2)

same_repeated : (names : List (List ℕ)) (i : ℕ) → AreSpelt names → length names ≤ MOST_REGISTERS
    → names_fault names ≡ Some (SameName i) → Repeat names i
same_repeated [] i spelt few h = let bad : Some NoName ≡ Some (SameName i) = h in absurd (cc)
same_repeated (n ∷ ns) i spelt few h =
    let told = repeated (n ∷ ns) (SameName i) spelt (omega arith) few h in
    let same : i ≡ told.0 = (let e = told.1 in cc) in
    subst (λ (k : ℕ). Repeat (n ∷ ns) k) (sym same) told.2

pub all_differ : (names : List (List ℕ)) → AreSpelt names → length names ≤ MOST_REGISTERS
    → ((place : ℕ) → ¬ (names_fault names ≡ Some (SameName place))) → AllFit IsNewName names
all_differ [] spelt few none = λ k x e. absurd (cc)
all_differ (n ∷ ns) spelt few none =
    all_new (n ∷ ns) [] (n ∷ ns) 0 (gathers (λ n. n) IsNewName (n ∷ ns)) spelt (no_fault (first_repeat (n ∷ ns)) (λ place e. none place (fault_is n ns spelt few ∙ e)))

-- the line of a name that stands earlier is told
pub repeat_fails : (old : Rest) (names left : List (List ℕ)) (count place number : ℕ) (fault : ReadFault)
    → old.left ≡ names ++ left → length names ≤ count → fault ≡ Line number Name
    → (old.number + place + 1 < 2 ^ 64 → number ≡ old.number + place + 1) → Repeat names place → IsFailure (IsWrongItem (λ n. n) IsNewName IsNoNewName count) old fault
repeat_fails old names left count place number fault read short told number_is r =
    let all = ap length r.are ∙ length-append r.before (r.name ∷ r.rest) in
    inr (record {
      number = number;
      why = Name;
      told = told;
      before = r.before;
      next = Some r.name;
      placed = record {
        middle = r.name ∷ (r.rest ++ left);
        read = read ∙ ap (λ l. l ++ left) r.are ∙ append_assoc r.before (r.name ∷ r.rest) left;
        comes = (r.rest ++ left, refl);
        number_is = λ whole s.
            let sum = total whole old s in
            let lines = ap length read ∙ length-append names left in
            let n = number_is (omega (arith, sum, lines, all, r.place_is, s.few)) in
            omega (arith, n, r.place_is);
      };
      wrong = record { items = r.before; are = sym (map_same r.before); fit = r.fit; fewer = omega (arith, all, short); wrong = inr (r.spelt, r.among, refl) };
    })

no_name : (names : List (List ℕ)) (next : Option (List ℕ)) (why : ReadWhy) → IsWrongNext IsNoName next why
    → IsWrongNext (IsNoNewName names) next why
no_name names None why w = w
no_name names (Some line) why w = inl w

no_memory : (number : ℕ) (why : ReadWhy) (f : ReadFault) → f ≡ Line number why → f ≡ OutOfMemory → ⊥
no_memory number why f told e = let bad : Line number why ≡ OutOfMemory = sym told ∙ e in absurd (cc)

-- the line after these names is none
pub wrong_name : (count : ℕ) (old now new : Rest) (names : List (List ℕ)) (i : ℕ) → i < count
    → Taken (λ n. n) (λ _ n. is_name n ≡ true) count old.left now.left names i → GoesOn old now
    → (fault : ReadFault) (why : ReadWhy) (next : Option (List ℕ)) → fault ≡ Line new.number why → IsAsked now new → IsNext now.left next → IsWrongNext IsNoName next why → (fault ≡ OutOfMemory) ⊎ IsWrongName count old names fault
wrong_name count old now new names i less t on fault why next told asked comes wrong =
    let at = placed_behind names [] old now new.number next (t.lines ∙ ap (λ l. l ++ now.left) (map_same names)) on (placed_now now new next asked comes) in
    inr (record {
      number = new.number;
      why = why;
      told = told;
      next = next;
      placed = subst (λ (l : List (List ℕ)). IsPlaced old new.number l next) (append-nil names) at;
      fit = t.fit;
      fewer = omega (arith, t.count, less);
      wrong = wrong;
    })

-- the reading stopped: at a name that was read, where one stands earlier, and else where it stopped
pub spelt_fails : (old : Rest) (names : List (List ℕ)) (count : ℕ) (stop fault : ReadFault) → count ≤ MOST_REGISTERS
    → (stop ≡ OutOfMemory → fault ≡ OutOfMemory)
    → ((place : ℕ) → (stop ≡ OutOfMemory → ⊥) → names_fault names ≡ Some (SameName place) → (number : ℕ) × (fault ≡ Line number Name) × (old.number + place + 1 < 2 ^ 64 → number ≡ old.number + place + 1))
    → (((place : ℕ) → ¬ (names_fault names ≡ Some (SameName place))) → fault ≡ stop)
    → (stop ≡ OutOfMemory) ⊎ IsWrongName count old names stop → IsFailure (IsWrongItem (λ n. n) IsNewName IsNoNewName count) old fault
spelt_fails old names count stop fault few memory same other (inl e) = inl (memory e)
spelt_fails old names count stop fault few memory same other (inr w) = go (names_fault names) refl
  where
    none_else : ((place : ℕ) → ¬ (names_fault names ≡ Some (SameName place))) → IsFailure (IsWrongItem (λ n. n) IsNewName IsNoNewName count) old fault
    none_else none = inr (record {
      number = w.number;
      why = w.why;
      told = other none ∙ w.told;
      before = names;
      next = w.next;
      placed = w.placed;
      wrong = record { items = names; are = sym (map_same names); fit = all_differ names w.fit (omega (arith, w.fewer, few)) none; fewer = w.fewer; wrong = no_name names w.next w.why w.wrong };
    })

    go : (f : Option NamesFault) → names_fault names ≡ f → IsFailure (IsWrongItem (λ n. n) IsNewName IsNoNewName count) old fault
    go None e = none_else (λ place s. let bad : None ≡ Some (SameName place) = sym e ∙ s in absurd (cc))
    go (Some NoName) e = none_else (λ place s. let bad : Some NoName ≡ Some (SameName place) = sym e ∙ s in absurd (cc))
    go (Some TooManyNames) e = none_else (λ place s. let bad : Some TooManyNames ≡ Some (SameName place) = sym e ∙ s in absurd (cc))
    go (Some (BadName i)) e = none_else (λ place s. let bad : Some (BadName i) ≡ Some (SameName place) = sym e ∙ s in absurd (cc))
    go (Some (SameName i)) e =
        let told = same i (no_memory w.number w.why stop w.told) e in
        repeat_fails old names w.placed.middle count i told.0 fault w.placed.read (omega (arith, w.fewer)) told.1 told.2 (same_repeated names i w.fit (omega (arith, w.fewer, few)) e)
