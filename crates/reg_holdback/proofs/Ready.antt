-- What the first held cast is where it is clear, and what holds where it isn't.
use Rattle.std.proofs.Common.{◌≡◌, Bool, true, false, cond, List, [], ◌∷◌, length, Option, Some, None, refl, subst, inl}
use Rattle.std.proofs.Common.{inr, arith}
use Rattle.std.specs.Prelude.{slice_index, option_map, IfSome, IfNone}
use Rattle.std.specs.Bool.{Decides}
use Rattle.reg_base.specs.declared.stamps.Stamp.{Stamp}
use Rattle.reg_base.specs.declared.stamps.Delivered.{Delivered}
use Rattle.reg_base.specs.declared.memory.Op.{Op}
use Rattle.reg_base.specs.Order.{In, Below, AtMost, Rising, IsClear, is_clear}
use Rattle.reg_base.proofs.Orders.{Decides-clear, clear_below}
use Rattle.reg_holdback.specs.Waiting.{Waiting, IsReady, NoneClear, ready_in, ready_of, cast_of}

-- clear, for the process whose queue it is
abbrev Clear : Waiting → Stamp → Type 0
Clear w stamp = IsClear w.me (slice_index w.seen) (length w.seen) stamp

abbrev test : Waiting → Stamp → Bool
test w stamp = is_clear w.me (slice_index w.seen) (length w.seen) stamp

decides : (w : Waiting) (stamp : Stamp) → Decides (test w stamp) (Clear w stamp)
decides w stamp = Decides-clear w.me (slice_index w.seen) (length w.seen) stamp

at_most_of : (a b : Stamp) → Below a b → AtMost a b
at_most_of a b (inl h) = inl h
at_most_of a b (inr h) = inr (h.0, omega (arith, h.1))

at_most_self : (c d : Delivered) → c ≡ d → AtMost d.stamp c.stamp
at_most_self c d e = subst (λ (x : Delivered). AtMost x.stamp c.stamp) e (inr (refl, omega arith))

-- the first of a rising list is least
first_least : (c : Delivered) (cs : List Delivered) → Rising (c ∷ cs) → (d : Delivered) → In d (c ∷ cs)
    → AtMost c.stamp d.stamp
first_least c cs r d (inl e) = at_most_self d c e
first_least c cs r d (inr i) = at_most_of c.stamp d.stamp (r.0 d i)

-- by the list that is held, whether its first is clear
ready : (w : Waiting) (held : List Delivered) → held ≡ w.held → Rising held → (c : Delivered)
    → Some c ≡ ready_in w.me w.seen held → IsReady w c
ready w [] h r c e = absurd (cc)
ready w (x ∷ xs) h r c e = by_test (test w x.stamp) refl e
  where
    is_ready : test w x.stamp ≡ true → IsReady w x
    is_ready t = record {
      waits = subst (In x) h (inl refl);
      clear = (decides w x.stamp).0 t;
      least = subst (λ l. (d : Delivered) → In d l → AtMost x.stamp d.stamp) h (first_least x xs r);
    }

    by_test : (b : Bool) → test w x.stamp ≡ b → Some c ≡ cond b (Some x) None → IsReady w c
    by_test true t q = let same : x ≡ c = cc in subst (IsReady w) same (is_ready t)
    by_test false t q = absurd (cc)

none : (w : Waiting) (held : List Delivered) → held ≡ w.held → Rising held → None ≡ ready_in w.me w.seen held
    → NoneClear w
none w held h r e = subst (λ l. (c : Delivered) → In c l → Clear w c.stamp → ⊥) h (each held r e)
  where
    first_not : (x : Delivered) (b : Bool) → test w x.stamp ≡ b → None ≡ cond b (Some x) None → Clear w x.stamp → ⊥
    first_not x true t q k = cc
    first_not x false t q k = let s = (decides w x.stamp).1 k in cc

    each : (l : List Delivered) → Rising l → None ≡ ready_in w.me w.seen l → (c : Delivered) → In c l → Clear w c.stamp → ⊥
    each [] s q c i k = i
    each (x ∷ xs) s q c (inl i) k = first_not x (test w x.stamp) refl q (subst (λ (d : Delivered). Clear w d.stamp) i k)
    each (x ∷ xs) s q c (inr i) k = first_not x (test w x.stamp) refl q (clear_below w.me (slice_index w.seen) (length w.seen) x.stamp c.stamp (s.0 c i) k)

pub ready_where_some : (w : Waiting) (r : Option (Stamp × Op)) → option_map cast_of r ≡ ready_of w → Rising w.held
    → IfSome r (λ e. IsReady w (cast_of e))
ready_where_some w None h s = tt
ready_where_some w (Some e) h s = ready w w.held refl s (cast_of e) h

pub none_where_none : (w : Waiting) (r : Option (Stamp × Op)) → option_map cast_of r ≡ ready_of w → Rising w.held
    → IfNone r (NoneClear w)
none_where_none w None h s = none w w.held refl s h
none_where_none w (Some e) h s = tt
