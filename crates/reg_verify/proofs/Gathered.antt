-- Logs that are gathered.
use Rattle.std.proofs.Common.{ℕ, zero, suc, ◌≡◌, ◌+◌, ◌-◌, ◌<◌, ◌≤◌, ◌==◌, ◌⊎◌, inl, inr, not, ◌&&◌, ◌||◌, true, false}
use Rattle.std.proofs.Common.{List, [], ◌∷◌, ◌++◌, length, map, take, drop, get_or, Option, Some, None, refl, sym, ap}
use Rattle.std.proofs.Common.{ap₂, ◌∙◌, subst, arith, append_assoc, append-nil}
use Rattle.std.specs.Prelude.{MatchOption, is_some}
use Rattle.std.specs.List.{list_all, list_any}
use Rattle.std.proofs.Math.Seq.{drop-append_seam, take-length}
use Rattle.std.proofs.lemmas.Bool.{cases_eq}
use Rattle.std.proofs.lemmas.List.{length-append, length-drop, length-map, take_more}
use Rattle.std.proofs.lemmas.Option.{same_Some, slice_get-get_or}
use Rattle.reg_base.specs.Shape.{Extent}
use Rattle.reg_front.specs.declared.named.Front.{Front}
use Rattle.reg_commands.specs.Replays.{start_of}
use Rattle.reg_checkers.specs.History.{IsAt}
use Rattle.reg_checkers.proofs.Places.{IsAt-map, get_push_other, get_push_same, same_at}
use Rattle.reg_text.specs.Lines.{AllFit}
use Rattle.reg_text.specs.Parts.{Lacks}
use Rattle.reg_node.specs.declared.transcripts.logs.LogFault.{LogFault}
use Rattle.reg_node.specs.declared.transcripts.logs.LogFault.TheVariants as logs
use Rattle.reg_verify.specs.declared.faults.VerifyFault.{VerifyFault}
use Rattle.reg_verify.specs.declared.faults.VerifyFault.TheVariants as verdicts
use Rattle.reg_verify.specs.declared.gathering.LogsFault.{LogsFault}
use Rattle.reg_verify.specs.declared.gathering.LogsFault.TheVariants.{Unfaithful}
use Rattle.reg_node.specs.declared.transcripts.recorded.Recorded.{Recorded}
use Rattle.reg_node.specs.LogTexts.{IsJournal, Journal, SpellsLog, log_text, recorded_by}
use Rattle.reg_node.specs.RecordLines.{Account, RecordedFits}
use Rattle.reg_verify.specs.Gathers.{Agree, AreGathered, HasLogOf, IsEntryAt, IsGatherFault, IsLogsFault, IsUnread}
use Rattle.reg_verify.specs.Gathers.{MergesLogs, joined, steps_of}
use Rattle.reg_verify.specs.Gathering.{NoneBefore, told_unread}
use Rattle.reg_verify.specs.Laying.{BlamesOrder}
use Rattle.reg_verify.proofs.Merged.{fits_ordered}

-- The text of a log, and what stands behind it

any_else : (x : ℕ) (s : List ℕ) → list_all (λ b. not (b == x)) s ≡ not (list_any (λ b. b == x) s)
any_else x [] = refl
any_else x (b ∷ s) =
    elim (b == x) as (λ t. (not t && list_all (λ c. not (c == x)) s) ≡ not (t || list_any (λ c. c == x) s)) [
      | true ↦ refl
      | false ↦ any_else x s
    ]

pub lacks : (x : ℕ) (s t : List ℕ) → s ≡ t → list_any (λ b. b == x) s ≡ false → Lacks x t
lacks x s t same none = ap (list_all (λ b. not (b == x))) (sym same) ∙ any_else x s ∙ ap not none

pub has : (x : ℕ) (s t : List ℕ) → s ≡ t → list_any (λ b. b == x) s ≡ true → ¬ Lacks x t
has x s t same some all =
    let e : true ≡ false = sym all ∙ ap (list_all (λ b. not (b == x))) (sym same) ∙ any_else x s ∙ ap not some in
    absurd (cc)

pub behind : (text : List ℕ) (j : Journal) (tail : List ℕ) (whole : ℕ) → SpellsLog text j tail
    → whole ≡ length (log_text j) → drop whole text ≡ tail
behind text j tail whole s is = ap₂ drop is s.all ∙ drop-append_seam (log_text j) tail

pub rest_is : (s : List ℕ) (n : ℕ) → take (length s - n) (drop n s) ≡ drop n s
rest_is s n = ap (λ k. take k (drop n s)) (sym (length-drop n s)) ∙ take-length (drop n s)

-- Logs, one by one

pub each_more : {X : Type 0} (P : ℕ → X → Type 0) (xs ys : List X) (x : X) (n : ℕ) → length xs ≡ n → ys ≡ xs ++ x ∷ []
    → ((k : ℕ) (y : X) → IsAt xs k y → P k y) → P n x → (k : ℕ) (y : X) → IsAt ys k y → P k y
each_more {X} P xs ys x n long is each here k y at =
    by (cases_eq k (length xs)) (subst (λ (l : List X). IsAt l k y) is at)
  where
    by : (k ≡ length xs) ⊎ (k ≡ length xs → ⊥) → IsAt (xs ++ x ∷ []) k y → P k y
    by (inl e) there =
        let same : x ≡ y = same_Some x y (sym (get_push_same xs k x (sym e)) ∙ there) in
        subst (λ (z : X). P k z) same (subst (λ (i : ℕ). P i x) (sym (e ∙ long)) here)
    by (inr off) there = each k y (sym (get_push_other xs k x off) ∙ there)

pub text_at : {X : Type 0} (now : X → List ℕ) (xs : List X) (k : ℕ) (d : X) → k < length xs
    → IsAt (map now xs) k (now (get_or xs k d))
text_at now xs k d lt = IsAt-map now xs k (get_or xs k d) (slice_get-get_or xs k d lt)

-- what is told of a text that is no log
pub unread_is : (texts : List (List ℕ)) (log : ℕ) (text : List ℕ) (fault : LogFault) (told : LogsFault)
    → told ≡ told_unread log fault → IsAt texts log text → IsUnread text fault → IsLogsFault texts told
unread_is texts log text (logs.Line n why) told is at why_not = subst (IsLogsFault texts) (sym is) (text, at, why_not)
unread_is texts log text logs.NoProcess told is at why_not = subst (IsLogsFault texts) (sym is) (text, at, why_not)
unread_is texts log text (logs.Foreign place) told is at why_not =
    subst (IsLogsFault texts) (sym is) (text, at, why_not)
unread_is texts log text (logs.Damaged place) told is at why_not =
    subst (IsLogsFault texts) (sym is) (text, at, why_not)
unread_is texts log text logs.OutOfMemory told is at why_not = subst (IsLogsFault texts) (sym is) tt

pub at_index : {X : Type 0} (xs : List X) (k : ℕ) (x : X) → k < length xs → x ≡ get_or xs k x → IsAt xs k x
at_index xs k x lt is = slice_get-get_or xs k x lt ∙ ap Some (sym is)

-- the next log agrees with the first one too
pub agree_more : (js : List Journal) (n : ℕ) (a b : Journal) → IsAt js 0 a → IsAt js n b → Agree a b
    → ((first : Journal) → IsAt js 0 first → (k : ℕ) (j : Journal) → k < n → IsAt js k j → Agree first j)
    → (first : Journal) → IsAt js 0 first → (k : ℕ) (j : Journal) → k < n + 1 → IsAt js k j → Agree first j
agree_more js n a b begins here same before first at_first k j lt at = by (cases_eq k n)
  where
    by : (k ≡ n) ⊎ (k ≡ n → ⊥) → Agree first j
    by (inl e) =
        let one : a ≡ first = same_at js 0 a first begins at_first in
        let other : b ≡ j = same_at js n b j here (subst (λ (i : ℕ). IsAt js i j) e at) in
        subst (λ (x : Journal). Agree x j) one (subst (λ (x : Journal). Agree a x) other same)
    by (inr off) = before first at_first k j (omega (arith, lt, off)) at

pub found : (js : List Journal) (p n : ℕ) (r : Option ℕ) → is_some r ≡ true
    → MatchOption r (NoneBefore js n p) (λ k. (k < n) × ((j : Journal) × IsAt js k j × (j.id.process ≡ p)))
    → HasLogOf p js
found js p n None is m = absurd (cc)
found js p n (Some k) is m = (k, m.1.0, m.1.1, m.1.2)

-- and the next process has a log too
pub all_more : (js : List Journal) (n : ℕ) → ((p : ℕ) → p < n → HasLogOf p js) → HasLogOf n js → (p : ℕ) → p < n + 1
    → HasLogOf p js
all_more js n before here p lt = by (cases_eq p n)
  where
    by : (p ≡ n) ⊎ (p ≡ n → ⊥) → HasLogOf p js
    by (inl e) = subst (λ (q : ℕ). HasLogOf q js) (sym e) here
    by (inr off) = before p (omega (arith, lt, off))

-- Their steps

joined_append : (xs ys : List Journal) → joined (xs ++ ys) ≡ joined xs ++ joined ys
joined_append [] ys = refl
joined_append (x ∷ xs) ys =
    ap (λ l. steps_of x ++ l) (joined_append xs ys) ∙ sym (append_assoc (steps_of x) (joined xs) (joined ys))

pub joined_more : (js : List Journal) (k : ℕ) (j : Journal) → k < length js → j ≡ get_or js k j
    → joined (take (k + 1) js) ≡ joined (take k js) ++ steps_of j
joined_more js k j lt is =
    ap joined (take_more js k j lt) ∙ (ap (λ x. joined (take k js ++ x ∷ [])) (sym is) ∙ (joined_append (take k js) (j ∷ []) ∙ ap (λ l. joined (take k js) ++ l) (append-nil (steps_of j))))

pub count_more : (js : List Journal) (k : ℕ) (j : Journal) → k < length js → j ≡ get_or js k j
    → length (joined (take (k + 1) js)) ≡ length (joined (take k js)) + length j.entries
count_more js k j lt is =
    ap length (joined_more js k j lt is) ∙ (length-append (joined (take k js)) (steps_of j) ∙ ap (λ n. length (joined (take k js)) + n) (length-map j.entries (recorded_by j.id.process)))

first_joined : (js : List Journal) (k : ℕ) → length (joined (take k js)) ≤ length (joined js)
first_joined js zero = omega arith
first_joined [] (suc k) = omega arith
first_joined (j ∷ js) (suc k) =
    let less = first_joined js k in
    let a = length-append (steps_of j) (joined (take k js)) in
    let b = length-append (steps_of j) (joined js) in
    omega (arith, less, a, b)

-- so many are too many
pub too_many : (js : List Journal) (k most : ℕ) (j : Journal) → k < length js → j ≡ get_or js k j
    → most < length (joined (take k js)) + length j.entries → most < length (joined js)
too_many js k most j lt is many =
    let more = count_more js k j lt is in
    let less = first_joined js (k + 1) in
    omega (arith, many, more, less)

pub all_joined : (js : List Journal) (k : ℕ) → k ≡ length js → joined (take k js) ≡ joined js
all_joined js k end = ap (λ n. joined (take n js)) end ∙ ap joined (take-length js)

-- Fitting steps

in_append : {X : Type 0} (xs ys : List X) (k : ℕ) (x : X) → IsAt (xs ++ ys) k x → IsAt xs k x ⊎ ((i : ℕ) × IsAt ys i x)
in_append [] ys k x at = inr (k, at)
in_append (y ∷ xs) ys zero x at = inl at
in_append (y ∷ xs) ys (suc k) x at = in_append xs ys k x at

fits_joined : (names : List (List ℕ)) (js : List Journal)
    → ((k : ℕ) (j : Journal) → IsAt js k j → AllFit (λ _ r. RecordedFits names r) (steps_of j))
    → AllFit (λ _ r. RecordedFits names r) (joined js)
fits_joined names [] each k r at = absurd (cc)
fits_joined names (j ∷ js) each k r at = by (λ (i : ℕ) (there : IsAt (joined js) i r). fits_joined names js (λ m x h. each (suc m) x h) i r there) (in_append (steps_of j) (joined js) k r at)
  where
    by : ((i : ℕ) → IsAt (joined js) i r → RecordedFits names r) → IsAt (steps_of j) k r ⊎ ((i : ℕ) × IsAt (joined js) i r) → RecordedFits names r
    by rest (inl here) = each 0 j refl k r here
    by rest (inr (i, there)) = rest i there

-- the steps of logs that agree fit where those of each do
pub merged_fits : (texts : List (List ℕ)) (r : Account) → MergesLogs texts r
    → AllFit (λ _ x. RecordedFits r.names x) r.steps
merged_fits texts r m =
    let names = m.first.names in
    let each : (k : ℕ) (j : Journal) → IsAt m.journals k j → AllFit (λ _ x. RecordedFits m.first.names x) (steps_of j) =
    λ k j at.
    let good : IsJournal j = (m.spelled.each k j at).2.good in
    let same : m.first.names ≡ j.names = (m.gathered.agree m.first m.gathered.begins k j at).registers in
    subst (λ (n : List (List ℕ)). AllFit (λ _ x. RecordedFits n x) (steps_of j)) (sym same) good.account.steps in
    let fits = fits_ordered m.first.names (joined m.journals) r.steps m.shown.orders.same (fits_joined m.first.names m.journals each) in
    subst (λ (n : List (List ℕ)). AllFit (λ _ x. RecordedFits n x) r.steps) (sym m.shown.names) fits

-- the step that is in no run is told by its log and its entry
pub stuck_is : (first : Journal) (js : List Journal) (told : LogsFault) (front : Front) (shape : Extent)
    (steps : List Recorded) (fault : VerifyFault) (line : ℕ)
    → AreGathered first js → front ≡ first.front → shape ≡ first.shape → steps ≡ joined js
    → fault ≡ verdicts.Unfaithful line → BlamesOrder (start_of front) shape steps fault → (log : ℕ) × (entry : ℕ) × (told ≡ Unfaithful log entry) × IsEntryAt js log entry (line - 5) → IsGatherFault js told
stuck_is first js told front shape steps fault line gathered same_front same_shape same_steps is blames (log, entry, told_is, there) =
    let b = rw (is, same_front, same_shape, same_steps) at blames in
    let behind_head = b.1 in
    let place : line - 5 ≡ b.0 = omega (arith, behind_head) in
    subst (IsGatherFault js) (sym told_is) (record { first = first; gathered = gathered; place = b.0; entry_is = subst (λ (p : ℕ). IsEntryAt js log entry p) place there; stuck = b.2 })
