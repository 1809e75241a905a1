-- What is kept beside a history, after one more entry.
use Rattle.std.proofs.Common.{◌≡◌, ℕ, ◌+◌, ◌<◌, ◌≤◌, ◌⊎◌, inl, inr, List, [], ◌∷◌, ◌++◌, set, length, get_or, slice_get}
use Rattle.std.proofs.Common.{Option, Some, None, refl, ap, sym, ◌∙◌, subst, arith, length-set}
use Rattle.std.proofs.lemmas.Option.{same_Some, slice_get-get_or}
use Rattle.std.proofs.lemmas.Bool.{cases_eq}
use Rattle.reg_base.specs.declared.memory.OpId.{OpId}
use Rattle.reg_base.specs.declared.memory.Op.{Op}
use Rattle.reg_base.specs.declared.memory.Answer.{Answer}
use Rattle.reg_checkers.specs.declared.entries.Entry.{Entry}
use Rattle.reg_checkers.specs.declared.entries.Entry.TheVariants.{Called, Answered}
use Rattle.reg_checkers.specs.History.{IsAt, IsInPlace, IsHistory, MayCall, MayAnswer}
use Rattle.reg_checkers.specs.declared.place.Progress.{Progress}
use Rattle.reg_checkers.specs.declared.place.Running.{Running}
use Rattle.reg_checkers.specs.Progress.{IsState, IsProgressOf, IsKept, IsNumbered, id_of, progress_after}
use Rattle.reg_checkers.proofs.Places.{get_set_same, get_set_other}
use Rattle.reg_checkers.proofs.Placing.{next_is}
use Rattle.reg_checkers.proofs.Pushing.{history_more}
use Rattle.reg_checkers.proofs.OneMore.{pushed}
use Rattle.reg_checkers.proofs.Adding.{after_call, after_answer, call_elsewhere, answer_elsewhere}

pub progress_at : (count registers : ℕ) (es : List Entry) (ps : List Progress) (i p : ℕ) (d : Progress)
    → IsKept count registers es ps → i < length ps → i ≡ p → IsProgressOf es p (get_or ps i d)
progress_at count registers es ps i p d kept lt same =
    subst (λ (q : ℕ). IsProgressOf es q (get_or ps i d)) same (kept.each i (get_or ps i d) (slice_get-get_or ps i d lt))

-- an answer in place is of a process of the shape
pub answer_within : (count registers : ℕ) (es : List Entry) (at : ℕ) (id : OpId) (a : Answer)
    → IsHistory count registers es → MayAnswer es at id a → id.process < count
answer_within count registers es at id a good may =
    (good may.called.0 (Called may.called_at id may.op) may.called.1).process

pub entry_within : (count registers : ℕ) (es : List Entry) (ps : List Progress) (e : Entry)
    → IsKept count registers es ps → IsInPlace count registers es e → (id_of e).process < length ps
entry_within count registers es ps (Called at id op) kept may =
    let l = kept.kept_each in let m = may.process in omega arith
entry_within count registers es ps (Answered at id a) kept may =
    let l = kept.kept_each in let m = answer_within count registers es at id a kept.history may in omega arith

-- an answer of a process past the last is out of place
pub answer_past : (count registers : ℕ) (es : List Entry) (ps : List Progress) (e : Entry) (at : ℕ) (id : OpId)
    (a : Answer) (i : ℕ)
    → IsKept count registers es ps → e ≡ Answered at id a → length ps ≤ i → i ≡ id.process
    → IsInPlace count registers es e → ⊥
answer_past count registers es ps e at id a i kept is past same may =
    let within : (id_of e).process < length ps = entry_within count registers es ps e kept may in
    let own : (id_of e).process ≡ id.process = ap (λ (x : Entry). (id_of x).process) is in
    omega arith

pub is_numbered : (count registers : ℕ) (es : List Entry) (e : Entry) → IsInPlace count registers es e → IsNumbered e
is_numbered count registers es (Called at id op) may = may.fits
is_numbered count registers es (Answered at id a) may = tt

module _ (count registers : ℕ) (es : List Entry) (ps : List Progress) (i : ℕ) (d : Progress) (kept : IsKept count registers es ps) (inside : i < length ps) where
  here : (p : ℕ) → i ≡ p → IsProgressOf es p (get_or ps i d)
  here p same = progress_at count registers es ps i p d kept inside same

  -- the process after its entry, when the others stay
  each_more : (ys : List Entry) (v : Progress) → IsProgressOf ys i v → ((q : ℕ) (g : Progress) → (q ≡ i → ⊥) → IsProgressOf es q g → IsProgressOf ys q g)
      → (q : ℕ) (g : Progress) → IsAt (set ps i v) q g → IsProgressOf ys q g
  each_more ys v own others q g at = go (cases_eq q i)
    where
      go : (q ≡ i) ⊎ (q ≡ i → ⊥) → IsProgressOf ys q g
      go (inl e) =
          let same : v ≡ g = same_Some v g (sym (get_set_same ps i v inside) ∙ (ap (λ (j : ℕ). slice_get (set ps i v) j) (sym e) ∙ at)) in
          subst (λ (j : ℕ). IsProgressOf ys j g) (sym e) (subst (λ (w : Progress). IsProgressOf ys i w) same own)
      go (inr away) = others q g away (kept.each q g (sym (get_set_other ps i q v away) ∙ at))

  length_more : (v : Progress) → length (set ps i v) ≡ count
  length_more v = length-set ps i v ∙ kept.kept_each

  own_call : (at : ℕ) (id : OpId) (op : Op) → i ≡ id.process → MayCall count registers es at id op → IsProgressOf (es ++ Called at id op ∷ []) i (record { next = id.number + 1; running = Some (record { at = at; op = op }) })
  own_call at id op same may =
      let own : IsProgressOf es i (get_or ps i d) = here i refl in
      let next : id.number ≡ (get_or ps i d).next = next_is es id (get_or ps i d) (here id.process same) may.next in
      subst (λ (n : ℕ). IsProgressOf (es ++ Called at id op ∷ []) i (record { next = n + 1; running = Some (record { at = at; op = op }) })) (sym next)
      (after_call count registers es (es ++ Called at id op ∷ []) i (get_or ps i d) kept.history own at id op same may (sym next) (pushed es (Called at id op)))

  own_answer : (at : ℕ) (id : OpId) (a : Answer) → i ≡ id.process → MayAnswer es at id a → IsProgressOf (es ++ Answered at id a ∷ []) i (record { next = (get_or ps i d).next; running = None })
  own_answer at id a same may = go (get_or ps i d).running refl
    where
      own : IsProgressOf es i (get_or ps i d)
      own = here i refl

      go : (o : Option Running) → (get_or ps i d).running ≡ o → IsProgressOf (es ++ Answered at id a ∷ []) i (record { next = (get_or ps i d).next; running = None })
      go None e =
          let idle = subst (λ (o : Option Running). IsState es i (get_or ps i d).next o) e own.state in
          absurd (may.running (idle id (sym same) (may.called_at, may.op, may.called)))
      go (Some run) e = after_answer count registers es (es ++ Answered at id a ∷ []) i (get_or ps i d) kept.history own at id a same run e may (pushed es (Answered at id a))

  pub kept_more : (e : Entry) → i ≡ (id_of e).process → IsInPlace count registers es e
      → IsKept count registers (es ++ e ∷ []) (set ps i (progress_after (get_or ps i d) e))
  kept_more (Called at id op) same may = record {
    history = history_more count registers es (Called at id op) kept.history may;
    kept_each = length_more (progress_after (get_or ps i d) (Called at id op));
    each = each_more (es ++ Called at id op ∷ []) (progress_after (get_or ps i d) (Called at id op)) (own_call at id op same may)
        (λ q g away own. call_elsewhere es (es ++ Called at id op ∷ []) q g at id op (λ e. away (e ∙ sym same)) own (pushed es (Called at id op)));
  }
  kept_more (Answered at id a) same may = record {
    history = history_more count registers es (Answered at id a) kept.history may;
    kept_each = length_more (progress_after (get_or ps i d) (Answered at id a));
    each = each_more (es ++ Answered at id a ∷ []) (progress_after (get_or ps i d) (Answered at id a)) (own_answer at id a same may)
        (λ q g away own. answer_elsewhere es (es ++ Answered at id a ∷ []) q g at id a (λ e. away (e ∙ sym same)) own (pushed es (Answered at id a)));
  }
