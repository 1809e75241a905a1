-- Entries that were added, one part after another.
use Rattle.std.proofs.Common.{◌⊎◌, inl, inr, ℕ, List, Result, Ok, Err}
use Rattle.std.specs.Prelude.{IfErr, OnOk}
use Rattle.std.proofs.lemmas.Result.{on_ok_weaker}
use Rattle.reg_outcomes.specs.declared.faults.InterleavingFault.{InterleavingFault}
use Rattle.reg_outcomes.specs.declared.faults.InterleavingFault.TheVariants.{TooManyStages, OutOfMemory}
use Rattle.reg_outcomes.specs.Layers.{Adds, Refuses}

module _ {Key : Type 0} where
  pub adds_none : (P : Key × List ℕ → Type 0) (old : List (Key × List ℕ)) → ((f : Key × List ℕ) → P f → ⊥)
      → Adds P old old
  adds_none P old none = record { kept = λ f h. h; only = λ f h. inl h; added = λ f p. absurd (none f p) }

  -- first those of P, and then those of Q
  pub adds_then : (P Q R : Key × List ℕ → Type 0) (a b c : List (Key × List ℕ)) → ((f : Key × List ℕ) → P f ⊎ Q f → R f)
      → ((f : Key × List ℕ) → R f → P f ⊎ Q f) → Adds P a b → Adds Q b c → Adds R a c
  adds_then P Q R a b c to from first second = record {
    kept = λ f h. second.kept f (first.kept f h);
    only = λ f h. elim (second.only f h) [ inl old ↦ elim (first.only f old) [ inl o ↦ inl o | inr p ↦ inr (to f (inl p)) ] | inr q ↦ inr (to f (inr q)) ];
    added = λ f r. elim (from f r) [ inl p ↦ let g = first.added f p in (g.0, second.kept g.0 g.1, g.2) | inr q ↦ second.added f q ];
  }

  pub refuses_then : (limit : ℕ) (P Q R : Key × List ℕ → Type 0) (a b : List (Key × List ℕ)) (fault : InterleavingFault)
      → ((f : Key × List ℕ) → P f ⊎ Q f → R f) → Adds P a b → Refuses limit Q b fault → Refuses limit R a fault
  refuses_then limit P Q R a b TooManyStages to first over = record {
    found = over.found;
    more = over.more;
    apart = over.apart;
    only = λ f h. elim (over.only f h) [ inl old ↦ elim (first.only f old) [ inl o ↦ inl o | inr p ↦ inr (to f (inl p)) ] | inr q ↦ inr (to f (inr q)) ];
  }
  refuses_then limit P Q R a b OutOfMemory to first over = tt

  -- what holds of the same entries
  pub adds_as : (P R : Key × List ℕ → Type 0) (a b : List (Key × List ℕ)) → ((f : Key × List ℕ) → P f → R f)
      → ((f : Key × List ℕ) → R f → P f) → Adds P a b → Adds R a b
  adds_as P R a b to from adds = record {
    kept = adds.kept;
    only = λ f h. elim (adds.only f h) [ inl o ↦ inl o | inr p ↦ inr (to f p) ];
    added = λ f r. adds.added f (from f r);
  }

  pub refuses_as : (limit : ℕ) (P R : Key × List ℕ → Type 0) (a : List (Key × List ℕ)) (fault : InterleavingFault)
      → ((f : Key × List ℕ) → P f → R f) → Refuses limit P a fault → Refuses limit R a fault
  refuses_as limit P R a TooManyStages to over = record {
    found = over.found;
    more = over.more;
    apart = over.apart;
    only = λ f h. elim (over.only f h) [ inl o ↦ inl o | inr p ↦ inr (to f p) ];
  }
  refuses_as limit P R a OutOfMemory to over = tt

  -- the same of a call
  pub call_adds : (P R : Key × List ℕ → Type 0) (a b : List (Key × List ℕ)) (r : Result (Unit {0}) InterleavingFault)
      → ((f : Key × List ℕ) → P f → R f) → ((f : Key × List ℕ) → R f → P f) → OnOk r (Adds P a b) → OnOk r (Adds R a b)
  call_adds P R a b r to from h = on_ok_weaker r (adds_as P R a b to from) h

  pub call_refuses : (limit : ℕ) (P R : Key × List ℕ → Type 0) (a : List (Key × List ℕ))
      (r : Result (Unit {0}) InterleavingFault)
      → ((f : Key × List ℕ) → P f → R f) → IfErr r (Refuses limit P a) → IfErr r (Refuses limit R a)
  call_refuses limit P R a (Ok x) to h = tt
  call_refuses limit P R a (Err fault) to h = refuses_as limit P R a fault to h
