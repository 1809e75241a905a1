-- A look at all links of a station, one after another.
use Rattle.std.proofs.Common.{◌≡◌, ◌∙◌, ◌<◌, ◌≤◌, ◌+◌, ◌⊎◌, inl, inr, ℕ, Bool, true, false, List, length, min, Option}
use Rattle.std.proofs.Common.{Some, refl, sym, ap, subst, arith}
use Rattle.std.specs.Prelude.{slice_get, slice_set, ◌||◌}
use Rattle.std.proofs.lemmas.Bool.{cases_order}
use Rattle.std.proofs.lemmas.List.{length-set}
use Rattle.std.proofs.lemmas.Option.{slice_get_within}
use Rattle.reg_base.specs.declared.limits.TheConstants.{MOST_PROCESSES}
use Rattle.reg_checkers.proofs.Places.{get_set_same, get_set_other}
use Rattle.reg_links.specs.declared.beats.Beat.{Beat}
use Rattle.reg_links.specs.Beats.{watched, ticks_at}
use Rattle.reg_live.specs.Beats.{IsLooked, AreLooked}

-- one of the links makes a tick
abbrev pub IsCause : (ℕ → Option ℕ) → List Beat → Type 0
IsCause firsts old = (p : ℕ) × (before : Beat) × (mail : Bool) × (slice_get old p ≡ Some before) × (ticks_at before (firsts p) mail ≡ true)

-- the links below n were looked at, and the others are as they were
pub record LookedBelow (firsts : ℕ → Option ℕ) (old now : List Beat) (n : ℕ) (due : Bool) : Type 0 where
  pub each : (p : ℕ) (before : Beat) → p < n → slice_get old p ≡ Some before
      → (after : Beat) × (slice_get now p ≡ Some after) × IsLooked (firsts p) before after due
  pub rest : (p : ℕ) → n ≤ p → slice_get now p ≡ slice_get old p
  pub len : length now ≡ length old
  pub cause : due ≡ true → IsCause firsts old

or_left : (a b : Bool) → a ≡ true → (a || b) ≡ true
or_left true b is = refl
or_left false b is = absurd (let bad : ⊥ = cc in bad)

or_right : (a b : Bool) → b ≡ true → (a || b) ≡ true
or_right true b is = refl
or_right false b is = is

or_either : (a b : Bool) → (a || b) ≡ true → (a ≡ true) ⊎ (b ≡ true)
or_either true b is = inl refl
or_either false b is = inr is

same_beat : (a b : Beat) → Some a ≡ Some b → a ≡ b
same_beat a b e = cc

-- one more link
pub looked_more : (firsts : ℕ → Option ℕ) (old now : List Beat) (n : ℕ) (due ticks mail : Bool) (b c : Beat)
    → LookedBelow firsts old now n due → slice_get now n ≡ Some b → c ≡ watched b (firsts n) mail
    → ticks ≡ ticks_at b (firsts n) mail → LookedBelow firsts old (slice_set now n c) (n + 1) (due || ticks)
looked_more firsts old now n due ticks mail b c so at is tick =
    record { each = each; rest = rest; len = length-set now n c ∙ so.len; cause = cause }
  where
    within : n < length now
    within = slice_get_within now n b at

    here : (before : Beat) → slice_get old n ≡ Some before → b ≡ before
    here before was = same_beat b before (sym at ∙ (so.rest n (omega arith) ∙ was))

    each : (p : ℕ) (before : Beat) → p < n + 1 → slice_get old p ≡ Some before → (after : Beat) × (slice_get (slice_set now n c) p ≡ Some after) × IsLooked (firsts p) before after (due || ticks)
    each p before lt was = go (cases_order p n)
      where
        go : (p ≡ n) ⊎ ((p < n) ⊎ (n < p)) → (after : Beat) × (slice_get (slice_set now n c) p ≡ Some after) × IsLooked (firsts p) before after (due || ticks)
        go (inl e) =
            subst (λ (q : ℕ). (slice_get old q ≡ Some before) → (after : Beat) × (slice_get (slice_set now n c) q ≡ Some after) × IsLooked (firsts q) before after (due || ticks)) (sym e)
            (λ there. (
              c,
              get_set_same now n c within,
              record {
                mail = mail;
                beat = subst (λ (x : Beat). c ≡ watched x (firsts n) mail) (here before there) is;
                tick = λ t. or_right due ticks (tick ∙ subst (λ (x : Beat). ticks_at x (firsts n) mail ≡ true) (sym (here before there)) t);
              },
            ))
            was
        go (inr (inl less)) =
            let (after, there, looked) = so.each p before less was in
            (after, get_set_other now n p c (λ e. omega (arith, e)) ∙ there, record { mail = looked.mail; beat = looked.beat; tick = λ t. or_left due ticks (looked.tick t) })
        go (inr (inr gt)) = absurd (omega arith)

    rest : (p : ℕ) → n + 1 ≤ p → slice_get (slice_set now n c) p ≡ slice_get old p
    rest p le = get_set_other now n p c (λ e. omega (arith, e)) ∙ so.rest p (omega arith)

    cause : (due || ticks) ≡ true → IsCause firsts old
    cause more = go (or_either due ticks more)
      where
        go : (due ≡ true) ⊎ (ticks ≡ true) → IsCause firsts old
        go (inl before) = so.cause before
        go (inr now_due) = (n, b, mail, sym (so.rest n (omega arith)) ∙ at, sym tick ∙ now_due)

-- the same, where the first frame is told by another name
pub looked_next : (firsts : ℕ → Option ℕ) (old now : List Beat) (n : ℕ) (due ticks mail : Bool) (first : Option ℕ)
    (b c : Beat)
    → LookedBelow firsts old now n due → first ≡ firsts n → slice_get now n ≡ Some b
    → c ≡ watched b first mail → ticks ≡ ticks_at b first mail → LookedBelow firsts old (slice_set now n c) (n + 1) (due || ticks)
looked_next firsts old now n due ticks mail first b c so same at is tick =
    looked_more firsts old now n due ticks mail b c so at (is ∙ ap (λ (f : Option ℕ). watched b f mail) same) (tick ∙ ap (λ (f : Option ℕ). ticks_at b f mail) same)

-- all of them
pub looked_all : (firsts : ℕ → Option ℕ) (old now : List Beat) (n : ℕ) (due : Bool) → LookedBelow firsts old now n due
    → min (length old) MOST_PROCESSES ≤ n → AreLooked firsts old now due
looked_all firsts old now n due so all = record {
  each = λ p before lt at. so.each p before (let l = slice_get_within old p before at in omega arith) at;
  cause = so.cause;
}
