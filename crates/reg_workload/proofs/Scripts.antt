-- What the steps of a player keep.
use Rattle.std.proofs.Common.{length-set, ◌≡◌, ℕ, suc, ◌+◌, ◌<◌, ◌≤◌, Bool, true, false, List, [], ◌∷◌, ◌++◌, length}
use Rattle.std.proofs.Common.{take, map, refl, sym, ap, subst, ◌∙◌, inl, inr, arith, replicate, get_or-set_same}
use Rattle.std.proofs.Common.{get_or-set_other}
use Rattle.std.specs.Prelude.{None, ◌↔◌, cond, slice_index_or, slice_set}
use Rattle.std.proofs.lemmas.List.{append-nil, length-map, length-replicate, length-take-le, get_or-map, get_or_default}
use Rattle.std.proofs.Math.Seq.{take-suc, take-length}
use Rattle.std.proofs.lemmas.Bool.{cases_eq, ne_eqb, eq-eqb}
use Rattle.std.proofs.lemmas.Grind.{flat_map-append}
use Rattle.reg_base.specs.declared.limits.TheConstants.{MOST_PROCESSES, MOST_OPERATIONS}
use Rattle.reg_base.specs.declared.memory.Op.{Op}
use Rattle.reg_base.specs.declared.memory.Op.TheVariants.{Read}
use Rattle.reg_base.specs.Shape.{Extent}
use Rattle.reg_process.specs.declared.events.Event.{Event}
use Rattle.reg_process.specs.declared.events.Event.TheVariants.{Call}
use Rattle.reg_world.specs.Worlds.{Made, new_world, with_event}
use Rattle.reg_front.specs.declared.starts.Start.{Start}
use Rattle.reg_front.specs.Fronts.{KeepsLaws}
use Rattle.reg_world.specs.Laws.{IsQuiescent}
use Rattle.reg_world.specs.Worlds.{run_in}
use Rattle.reg_process.proofs.Again.{replicate_at}
use Rattle.reg_world.proofs.witness.Promised.{settled}
use Rattle.reg_world.proofs.one_order.Settled.{none_on_link}
use Rattle.reg_workload.specs.Plays.{call_at, calls_of, script_of, Playing, next_at, next_op, calls_next, makes}
use Rattle.reg_workload.specs.Plays.{IsFinished, IsPlay, FollowsScript}
use Rattle.reg_workload.specs.PlayParts.{Follows, IsPlayable, ArePlayable, IsPlaying, AllStill}
use Rattle.reg_workload.specs.FairParts.{AtRest}

-- one event more
pub calls_more : (p : ℕ) (es : List Event) (e : Event) → calls_of p (es ++ e ∷ []) ≡ calls_of p es ++ call_at p e
calls_more p es e = flat_map-append (call_at p) es (e ∷ []) ∙ ap (λ l. calls_of p es ++ l) (append-nil (call_at p e))

pub begins : (shape : Extent) (m : Made) (scripts : List (List Op)) (next : List ℕ) (n : ℕ) (cursors : List (List ℕ))
    → m ≡ new_world shape → shape.processes ≤ MOST_PROCESSES → length scripts ≡ shape.processes → n ≡ shape.processes
    → next ≡ replicate n 0 → length cursors ≡ n → ArePlayable shape.registers scripts
    → IsPlaying (record { made = m; scripts = scripts; next = next; cursors = cursors })
begins shape m scripts next n cursors e few s c z k fit =
    let a : m.processes ≡ shape.processes = ap Made.processes e in
    let b : m.accepted ≡ [] = ap Made.accepted e in
    let l : length next ≡ n = ap length z ∙ length-replicate n 0 in
    record {
      few = omega (arith, a, few);
      scripts = s ∙ sym a;
      next = l ∙ c ∙ sym a;
      senders = k ∙ c ∙ sym a;
      follows = λ p _.
          let at : slice_index_or next p 0 ≡ 0 = ap (λ (xs : List ℕ). slice_index_or xs p 0) z ∙ replicate_at n p 0 in
          record {
            calls = ap (calls_of p) b ∙ sym (ap (λ k. take k (script_of scripts p)) at);
            within = omega (arith, at);
          };
      playable = λ p l. subst (λ r. IsPlayable r (script_of scripts p)) (sym (ap Made.registers e)) (fit p l);
    }

-- a world that has the same events
pub same : (s : Playing) (m : Made) → IsPlaying s → m.processes ≡ s.made.processes → m.registers ≡ s.made.registers
    → m.accepted ≡ s.made.accepted → IsPlaying (record s { made = m })
same s m good e r a = record {
  few = let f = good.few in omega (arith, e, f);
  scripts = good.scripts ∙ sym e;
  next = good.next ∙ sym e;
  senders = good.senders ∙ sym e;
  follows = λ p l.
      let f = good.follows p (omega (arith, e, l)) in
      record { calls = ap (calls_of p) a ∙ f.calls; within = f.within };
  playable = λ p l. subst (λ k. IsPlayable k (script_of s.scripts p)) (sym r) (good.playable p l);
}

-- an event that is no call
pub passes : (start : Op → ℕ → Start) (s : Playing) (m : Made) (e : Event) → IsPlaying s → m ≡ with_event start s.made e
    → ((p : ℕ) → call_at p e ≡ []) → IsPlaying (record s { made = m })
passes start s m e good is none =
    let a : m.processes ≡ s.made.processes = ap Made.processes is in
    let b : m.accepted ≡ s.made.accepted ++ e ∷ [] = ap Made.accepted is in
    record {
      few = let f = good.few in omega (arith, a, f);
      scripts = good.scripts ∙ sym a;
      next = good.next ∙ sym a;
      senders = good.senders ∙ sym a;
      follows = λ p l.
          let f = good.follows p (omega (arith, a, l)) in
          record {
            calls = ap (calls_of p) b ∙ calls_more p s.made.accepted e ∙ ap (λ x. calls_of p s.made.accepted ++ x) (none p) ∙ append-nil (calls_of p s.made.accepted) ∙ f.calls;
            within = f.within;
          };
      playable = λ p l. subst (λ r. IsPlayable r (script_of s.scripts p)) (sym (ap Made.registers is)) (good.playable p l);
    }

pub is_made : (start : Op → ℕ → Start) (s t : Playing) (e : Event) (m : Made) → m ≡ with_event start s.made e → s ≡ t
    → record s { made = m } ≡ makes start t e
is_made start s t e m is same = rw is (ap (λ r. makes start r e) same)

call_same : (p : ℕ) (op : Op) → call_at p (Call p op) ≡ op ∷ []
call_same p op = ap (λ b. cond b (op ∷ []) []) (eq-eqb p p refl)

call_other : (p q : ℕ) (op : Op) → (q ≡ p → ⊥) → call_at p (Call q op) ≡ []
call_other p q op ne = ap (λ b. cond b (op ∷ []) []) (ne_eqb q p ne)

-- the next call of a script
one_call : (start : Op → ℕ → Start) (s : Playing) (m : Made) (q n : ℕ) (op d : Op) → IsPlaying s
    → m ≡ with_event start s.made (Call q op) → q < s.made.processes → n ≡ next_at s q
    → n < length (script_of s.scripts q) → op ≡ slice_index_or (script_of s.scripts q) n d
    → IsPlaying (record s { made = m; next = slice_set s.next q (n + 1) })
one_call start s m q n op d good is l at k o =
    let a : m.processes ≡ s.made.processes = ap Made.processes is in
    let b : m.accepted ≡ s.made.accepted ++ Call q op ∷ [] = ap Made.accepted is in
    record {
      few = let f = good.few in omega (arith, a, f);
      scripts = good.scripts ∙ sym a;
      next = length-set s.next q (n + 1) ∙ good.next ∙ sym a;
      senders = good.senders ∙ sym a;
      follows = λ p lp. elim (cases_eq p q) [
        | inl e ↦ subst (λ z. Follows (record s { made = m; next = slice_set s.next q (n + 1) }) z) (sym e) (own b)
        | inr ne ↦ other b p (omega (arith, a, lp)) ne
      ];
      playable = λ p lp. subst (λ r. IsPlayable r (script_of s.scripts p)) (sym (ap Made.registers is)) (good.playable p lp);
    }
  where
    t : Playing
    t = record s { made = m; next = slice_set s.next q (n + 1) }

    own : m.accepted ≡ s.made.accepted ++ Call q op ∷ [] → Follows t q
    own b =
        let f = good.follows q l in
        let z : q < length s.next = let g = good.next in omega (arith, g, l) in
        let x : next_at t q ≡ n + 1 = get_or-set_same s.next q (n + 1) 0 z in
        let y : n + 1 ≡ suc n = omega arith in
        record {
          calls = ap (calls_of q) b ∙ calls_more q s.made.accepted (Call q op) ∙ ap (λ c. calls_of q s.made.accepted ++ c) (call_same q op)
              ∙ ap (λ c. c ++ op ∷ []) (f.calls ∙ ap (λ j. take j (script_of s.scripts q)) (sym at))
              ∙ ap (λ c. take n (script_of s.scripts q) ++ c ∷ []) o
              ∙ sym (take-suc (script_of s.scripts q) n d k)
              ∙ ap (λ j. take j (script_of s.scripts q)) (sym y ∙ sym x);
          within = omega (arith, x, k);
        }

    other : m.accepted ≡ s.made.accepted ++ Call q op ∷ [] → (p : ℕ) → p < s.made.processes → (p ≡ q → ⊥) → Follows t p
    other b p lp ne =
        let f = good.follows p lp in
        let x : next_at t p ≡ next_at s p = get_or-set_other s.next q p (n + 1) 0 ne in
        record {
          calls = ap (calls_of p) b ∙ calls_more p s.made.accepted (Call q op) ∙ ap (λ c. calls_of p s.made.accepted ++ c) (call_other p q op (λ e. ne (sym e)))
              ∙ append-nil (calls_of p s.made.accepted) ∙ f.calls ∙ ap (λ j. take j (script_of s.scripts p)) (sym x);
          within = let w = f.within in omega (arith, x, w);
        }

pub calls : (start : Op → ℕ → Start) (s : Playing) (m : Made) (q place n : ℕ) (op d : Op) (script : List Op)
    → IsPlaying s → m ≡ with_event start s.made (Call q op) → q < s.made.processes → place ≡ q
    → n ≡ slice_index_or s.next place 0 → script ≡ script_of s.scripts q → next_at s q < length (script_of s.scripts q)
    → op ≡ slice_index_or script n d → IsPlaying (record s { made = m; next = slice_set s.next place (n + 1) })
calls start s m q place n op d script good is l e at r k o =
    let a : n ≡ next_at s q = at ∙ ap (λ i. slice_index_or s.next i 0) e in
    subst (λ i. IsPlaying (record s { made = m; next = slice_set s.next i (n + 1) })) (sym e)
    (one_call start s m q n op d good is l a (omega (arith, a, k)) (o ∙ ap (λ x. slice_index_or x n d) r))

-- the same, over a list of vectors
pub calls_in : {V : Type 0} (start : Op → ℕ → Start) (items : V → List Op) (vs : List V) (s : Playing) (m : Made)
    (q place n dn : ℕ) (dv : V) (op d : Op)
    → s.scripts ≡ map items vs → IsPlaying s → m ≡ with_event start s.made (Call q op) → q < s.made.processes
    → place ≡ q
    → n ≡ slice_index_or s.next place dn → next_at s q < length (script_of s.scripts q) → op ≡ slice_index_or (items (slice_index_or vs place dv)) n d → IsPlaying (record s { made = m; next = slice_set s.next place (n + 1) })
calls_in start items vs s m q place n dn dv op d e good is l p b k o =
    let z : length s.scripts ≡ length vs = ap length e ∙ length-map vs items in
    let g = good.scripts in let h = good.next in
    let lv : place < length vs = omega (arith, z, g, l, p) in
    let ln : place < length s.next = omega (arith, h, l, p) in
    let script : items (slice_index_or vs place dv) ≡ script_of s.scripts q =
    sym (get_or-map items vs place dv [] lv) ∙ ap (λ (xs : List (List Op)). slice_index_or xs place []) (sym e) ∙ ap (λ i. slice_index_or s.scripts i []) p in
    calls start s m q place n op d (items (slice_index_or vs place dv)) good is l p (b ∙ get_or_default s.next place dn 0 ln) script k o

-- the operation that is called next
pub next_in : {V : Type 0} (items : V → List Op) (vs : List V) (s : Playing) (q place n dn : ℕ) (dv : V) (op d : Op)
    → s.scripts ≡ map items vs → IsPlaying s → q < s.made.processes → place ≡ q
    → n ≡ slice_index_or s.next place dn → next_at s q < length (script_of s.scripts q) → op ≡ slice_index_or (items (slice_index_or vs place dv)) n d → (n ≡ next_at s q) × (op ≡ next_op s q)
next_in items vs s q place n dn dv op d e good l p b k o =
    let z : length s.scripts ≡ length vs = ap length e ∙ length-map vs items in
    let g = good.scripts in let h = good.next in
    let lv : place < length vs = omega (arith, z, g, l, p) in
    let ln : place < length s.next = omega (arith, h, l, p) in
    let script : items (slice_index_or vs place dv) ≡ script_of s.scripts q =
    sym (get_or-map items vs place dv [] lv) ∙ ap (λ (xs : List (List Op)). slice_index_or xs place []) (sym e) ∙ ap (λ i. slice_index_or s.scripts i []) p in
    let at : n ≡ next_at s q = b ∙ get_or_default s.next place dn 0 ln ∙ ap (λ i. slice_index_or s.next i 0) p in
    (at, o ∙ ap (λ x. slice_index_or x n d) script ∙ ap (λ i. slice_index_or (script_of s.scripts q) i d) at ∙ get_or_default (script_of s.scripts q) (next_at s q) d (Read 0) k)

-- how many operations a process has called, and how many its script has
pub left_in : {V : Type 0} (items : V → List Op) (vs : List V) (s : Playing) (q place n dn : ℕ) (dv : V)
    → s.scripts ≡ map items vs → IsPlaying s → q < s.made.processes → place ≡ q
    → n ≡ slice_index_or s.next place dn → (n ≡ next_at s q) × (length (items (slice_index_or vs place dv)) ≡ length (script_of s.scripts q))
left_in items vs s q place n dn dv e good l p b =
    let z : length s.scripts ≡ length vs = ap length e ∙ length-map vs items in
    let g = good.scripts in let h = good.next in
    let lv : place < length vs = omega (arith, z, g, l, p) in
    let ln : place < length s.next = omega (arith, h, l, p) in
    let script : items (slice_index_or vs place dv) ≡ script_of s.scripts q =
    sym (get_or-map items vs place dv [] lv) ∙ ap (λ (xs : List (List Op)). slice_index_or xs place []) (sym e) ∙ ap (λ i. slice_index_or s.scripts i []) p in
    (b ∙ get_or_default s.next place dn 0 ln ∙ ap (λ i. slice_index_or s.next i 0) p, ap length script)

-- the number of that operation is within the script
pub number_in : {V : Type 0} (items : V → List Op) (vs : List V) (s : Playing) (q place n dn : ℕ) (dv : V)
    → s.scripts ≡ map items vs → IsPlaying s → q < s.made.processes → place ≡ q
    → n ≡ slice_index_or s.next place dn → next_at s q < length (script_of s.scripts q) → n < length (items (slice_index_or vs place dv))
number_in items vs s q place n dn dv e good l p b k =
    let (at, same) = left_in items vs s q place n dn dv e good l p b in
    omega (arith, at, same, k)

pub number_few : (s : Playing) (q place n dn : ℕ) → IsPlaying s → q < s.made.processes → place ≡ q
    → n ≡ slice_index_or s.next place dn → next_at s q < length (script_of s.scripts q) → n < MOST_OPERATIONS
number_few s q place n dn good l p b k =
    let g = good.scripts in let h = good.next in
    let ln : place < length s.next = omega (arith, h, l, p) in
    let at : n ≡ next_at s q = b ∙ get_or_default s.next place dn 0 ln ∙ ap (λ i. slice_index_or s.next i 0) p in
    let few = (good.playable q (omega (arith, g, l))).few in
    omega (arith, at, few, k)

-- the play after that call
pub is_next : (start : Op → ℕ → Start) (s t : Playing) (q place n : ℕ) (op : Op) (m : Made) → n ≡ next_at s q
    → op ≡ next_op s q → place ≡ q → m ≡ with_event start s.made (Call q op) → s ≡ t
    → record s { made = m; next = slice_set s.next place (n + 1) } ≡ calls_next start t q
is_next start s t q place n op m a b p is e = rw (is, a, b, p) (ap (λ r. calls_next start r q) e)

-- where nothing is left of its script, a process has called all of it
pub all_called : (s : Playing) (p : ℕ) → Follows s p → (next_at s p < length (script_of s.scripts p) → ⊥)
    → calls_of p s.made.accepted ≡ script_of s.scripts p
all_called s p f none =
    let w = f.within in
    let e : next_at s p ≡ length (script_of s.scripts p) = go (next_at s p) (length (script_of s.scripts p)) w none in
    f.calls ∙ ap (λ k. take k (script_of s.scripts p)) e ∙ take-length (script_of s.scripts p)
  where
    go : (a b : ℕ) → a ≤ b → (a < b → ⊥) → a ≡ b
    go a b = grind arith

pub none_left : (s : Playing) (p : ℕ) → Follows s p → calls_of p s.made.accepted ≡ script_of s.scripts p
    → next_at s p < length (script_of s.scripts p) → ⊥
none_left s p f e l =
    let a = ap length (sym f.calls ∙ e) in
    let b = length-take-le (next_at s p) (script_of s.scripts p) f.within in
    absurd (omega (arith, a, b, l))

-- where no process may call and nothing is pending, all is done
pub rest_done : (start : Op → ℕ → Start) → KeepsLaws start → (s : Playing) → IsPlaying s → AtRest start s
    → IsFinished start s.scripts s.made
rest_done start laws s good rest = λ p l.
    let k : p < s.made.processes = let e = good.scripts in omega (arith, e, l) in
    let idle : ((run_in start s.made).nodes p).state.running ≡ None = quiet.idle p k in
    record { calls = all_called s p (good.follows p k) (λ left. rest.no_call p k (record { idle = idle; left = left })); idle = idle }
  where
    quiet : IsQuiescent s.made.processes (run_in start s.made).nodes
    quiet = settled start s.made.processes s.made.registers laws s.made.accepted rest.nothing_pending

-- where no process has a frame to put again, nothing is pending
pub still_rests : (start : Op → ℕ → Start) (s : Playing) → AllStill start s → AtRest start s
still_rests start s still = record {
  no_call = λ p l. (still p l).no_call;
  nothing_pending = λ p q l _ _. none_on_link ((run_in start s.made).nodes p).state.peers q (still p l).nothing_pending;
}

pub follows_script : (s : Playing) (p : ℕ) → Follows s p → FollowsScript s.scripts s.made.accepted p
follows_script s p f =
    let e : length (calls_of p s.made.accepted) ≡ next_at s p = ap length f.calls ∙ length-take-le (next_at s p) (script_of s.scripts p) f.within in
    f.calls ∙ ap (λ k. take k (script_of s.scripts p)) (sym e)

pub is_play : (start : Op → ℕ → Start) (shape : Extent) (s : Playing) (is_finished : Bool) → IsPlaying s
    → s.made.failed ≡ false → ((is_finished ≡ true) ↔ IsFinished start s.scripts s.made) → (budget : ℕ)
    → s.made.processes ≡ shape.processes → s.made.registers ≡ shape.registers → length s.made.accepted ≤ budget
    → IsPlay start shape s.scripts budget s.made is_finished
is_play start shape s b good going f budget p r l = record {
  going = going;
  processes = p;
  registers = r;
  few = l;
  scripts = λ q k. follows_script s q (good.follows q (let e = good.scripts in omega (arith, e, k)));
  finished = f;
}

-- a play that did not end before all turns were used up has as many events as turns
pub ended_or_full : {P : Type 0} (ended : Bool) (events budget : ℕ) → (ended ≡ true → P)
    → (ended ≡ false → events ≡ budget) → events < budget → P
ended_or_full true events budget yes_it_did full less = yes_it_did refl
ended_or_full false events budget yes_it_did full less = let e = full refl in absurd (omega (arith, e, less))
