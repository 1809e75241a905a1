-- What a tick puts again.
use Rattle.std.proofs.Common.{◌≡◌, ◌≢◌, inl, inr, Bool, true, false, ℕ, zero, suc, ◌+◌, ◌<◌, ◌≤◌, List, [], ◌∷◌, ◌++◌}
use Rattle.std.proofs.Common.{length, take, map, Option, Some, None, Result, Ok, Err, refl, sym, ap, ◌∙◌, arith}
use Rattle.std.proofs.Common.{add-one, append_assoc, replicate}
use Rattle.std.proofs.lemmas.List.{length-replicate}
use Rattle.std.specs.Prelude.{OnErr, ◌==◌, cond, slice_get, slice_index_or, option_map}
use Rattle.std.proofs.lemmas.Bool.{eq-eqb, ne_eqb, cases_lt}
use Rattle.reg_frames.specs.declared.bodies.Body.{Body}
use Rattle.reg_frames.specs.declared.bodies.Frame.{Frame}
use Rattle.reg_frames.specs.declared.bodies.Frame.TheVariants.{Numbered}
use Rattle.reg_process.specs.Process.{State, numbered_from, peer_at, resent}
use Rattle.reg_base.specs.declared.limits.TheConstants.{MOST_RESENT, MOST_PROCESSES}
use Rattle.reg_links.specs.Link.{Unacknowledged, next_of}
use Rattle.reg_frames.specs.declared.puts.Put.{Put}
use Rattle.reg_process.specs.Parts.{Parts, state_of, nothing, first_parts}
use Rattle.reg_process.specs.Bounds.{Good}
use Rattle.reg_holdback.specs.Waiting.{Waiting}
use Rattle.reg_process.specs.Puts.{puts, put_to}
use Rattle.reg_process.specs.Queued.{again_at, again_frames}
use Rattle.reg_process.proofs.Deliveries.{length-merged}
use Rattle.reg_process.proofs.Sending.{puts_same}
use Rattle.reg_process.proofs.Acks.{merged_out_at}

one_more : (first i : ℕ) (xs : List Body) (b : Body) → slice_get xs i ≡ Some b
    → numbered_from first (take (suc i) xs) ≡ numbered_from first (take i xs) ++ Numbered (first + i) b ∷ []
one_more first i [] b h = absurd (cc)
one_more first zero (x ∷ xs) b h =
    let e : x ≡ b = cc in let z : first ≡ first + 0 = omega arith in
    ap (λ c. Numbered first c ∷ []) e ∙ ap (λ k. Numbered k b ∷ []) z
one_more first (suc i) (x ∷ xs) b h =
    let z : first + 1 + i ≡ first + suc i = omega arith in
    ap (λ l. Numbered first x ∷ l) (one_more (first + 1) i xs b h ∙ ap (λ k. numbered_from (first + 1) (take i xs) ++ Numbered k b ∷ []) z)

pub stops : (i n : ℕ) (xs : List Body) → slice_get xs i ≡ None → i ≤ n → take n xs ≡ take i xs
stops zero zero [] h l = refl
stops zero (suc n) [] h l = refl
stops (suc i) zero [] h l = refl
stops (suc i) (suc n) [] h l = refl
stops zero n (x ∷ xs) h l = absurd (cc)
stops (suc i) zero (x ∷ xs) h l = absurd (omega arith)
stops (suc i) (suc n) (x ∷ xs) h l = ap (λ t. x ∷ t) (stops i n xs h (omega arith))

pub map_append : (r : ℕ) (xs ys : List Frame) → map (put_to r) (xs ++ ys) ≡ map (put_to r) xs ++ map (put_to r) ys
map_append r [] ys = refl
map_append r (x ∷ xs) ys = ap (λ l. put_to r x ∷ l) (map_append r xs ys)

some_body : (o : Option Body) (k : ℕ) (f : Frame) → Some f ≡ option_map (λ b. Numbered k b) o
    → (b : Body) × (o ≡ Some b) × (f ≡ Numbered k b)
some_body None k f h = absurd (cc)
some_body (Some b) k f h = (b, refl, cc)

none_body : (o : Option Body) (k : ℕ) → None ≡ option_map (λ b. Numbered k b) o → o ≡ None
none_body None k h = refl
none_body (Some b) k h = absurd (cc)

-- one more frame of the outbox
pub resend_more : (out : Unacknowledged) (to i : ℕ) (f : Frame) (old fs gs : List Put)
    → Some f ≡ option_map (λ b. Numbered (out.first + i) b) (slice_get out.pending i)
    → fs ≡ old ++ map (put_to to) (numbered_from out.first (take i out.pending)) → gs ≡ fs ++ put_to to f ∷ []
    → gs ≡ old ++ map (put_to to) (numbered_from out.first (take (i + 1) out.pending))
resend_more out to i f old fs gs h e g =
    let r = some_body (slice_get out.pending i) (out.first + i) f h in
    let m : numbered_from out.first (take (i + 1) out.pending) ≡ numbered_from out.first (take i out.pending) ++ f ∷ [] =
    ap (λ k. numbered_from out.first (take k out.pending)) (add-one i) ∙ one_more out.first i out.pending r.0 r.1 ∙ ap (λ x. numbered_from out.first (take i out.pending) ++ x ∷ []) (sym r.2) in
    g ∙ ap (λ l. l ++ put_to to f ∷ []) e
    ∙ append_assoc old (map (put_to to) (numbered_from out.first (take i out.pending))) (put_to to f ∷ [])
    ∙ ap (λ l. old ++ l) (sym (map_append to (numbered_from out.first (take i out.pending)) (f ∷ [])))
    ∙ ap (λ l. old ++ map (put_to to) l) (sym m)

pub resend_end : (out : Unacknowledged) (me to i : ℕ) (old fs : List Put) → (to ≡ me → ⊥)
    → None ≡ option_map (λ b. Numbered (out.first + i) b) (slice_get out.pending i) → i ≤ MOST_RESENT
    → fs ≡ old ++ map (put_to to) (numbered_from out.first (take i out.pending))
    → fs ≡ old ++ map (put_to to) (again_at me to out)
resend_end out me to i old fs ne h l e =
    e ∙ ap (λ xs. old ++ map (put_to to) (numbered_from out.first xs)) (sym (stops i MOST_RESENT out.pending (none_body (slice_get out.pending i) (out.first + i) h) l))
    ∙ ap (λ b. old ++ map (put_to to) (cond b [] (numbered_from out.first (take MOST_RESENT out.pending)))) (sym (ne_eqb to me ne))

pub resend_full : (out : Unacknowledged) (me to i : ℕ) (old fs : List Put) → (to ≡ me → ⊥) → i ≡ MOST_RESENT
    → fs ≡ old ++ map (put_to to) (numbered_from out.first (take i out.pending))
    → fs ≡ old ++ map (put_to to) (again_at me to out)
resend_full out me to i old fs ne l e =
    e ∙ ap (λ k. old ++ map (put_to to) (numbered_from out.first (take k out.pending))) l
    ∙ ap (λ b. old ++ map (put_to to) (cond b [] (numbered_from out.first (take MOST_RESENT out.pending)))) (sym (ne_eqb to me ne))

-- what is put again is some frame where the outbox has a body
pub resends_some : (out : Unacknowledged) (me to i : ℕ) (f : Frame) → (to ≡ me → ⊥)
    → Some f ≡ option_map (λ b. Numbered (out.first + i) b) (slice_get out.pending i) → again_at me to out ≢ []
resends_some out me to i f ne h none =
    let r = some_body (slice_get out.pending i) (out.first + i) f h in
    let here : again_at me to out ≡ numbered_from out.first (take MOST_RESENT out.pending) = ap (λ b. cond b [] (numbered_from out.first (take MOST_RESENT out.pending))) (ne_eqb to me ne) in
    go out.pending i r.0 r.1 (sym here ∙ none)
  where
    go : (xs : List Body) (k : ℕ) (b : Body) → slice_get xs k ≡ Some b → numbered_from out.first (take MOST_RESENT xs) ≡ [] → ⊥
    go [] k b at e = absurd (cc)
    go (x ∷ xs) k b at e = absurd (cc)

append_some : (xs ys : List Put) → ys ≢ [] → xs ++ ys ≢ []
append_some [] ys some e = some e
append_some (x ∷ xs) ys some e = absurd (cc)

map_some : (r : ℕ) (fs : List Frame) → fs ≢ [] → map (put_to r) fs ≢ []
map_some r [] some e = absurd (some refl)
map_some r (f ∷ fs) some e = absurd (cc)

append_first : (xs ys : List Put) → xs ≢ [] → xs ++ ys ≢ []
append_first [] ys some e = absurd (some refl)
append_first (x ∷ xs) ys some e = absurd (cc)

-- a frame for one process is put
pub puts_some : (frames : ℕ → List Frame) (r n : ℕ) → r < n → frames r ≢ [] → puts frames n ≢ []
puts_some frames r zero l some = absurd (omega arith)
puts_some frames r (suc n) l some = elim (cases_lt r n) [
  | inl less ↦ append_first (puts frames n) (map (put_to n) (frames n)) (puts_some frames r n less some)
  | inr not_less ↦
      let same : r ≡ n = omega (arith, l, not_less) in
      append_some (puts frames n) (map (put_to n) (frames n)) (map_some n (frames n) (λ e. some (ap frames same ∙ e)))
]

pub on_err : {A E : Type 0} (r : Result A E) (P : Type 0) → P → OnErr r P
on_err (Ok x) P p = tt
on_err (Err e) P p = p

pub resent_at : (p : Parts) → Good p → (r : ℕ) → again_frames p.me p.outs r ≡ resent (state_of p) r
resent_at p good r = ap (again_at p.me r) (merged_out_at p.waiting.seen p.expected p.outs r good.ins good.out)

pub again_is : (p : Parts) → Good p
    → puts (again_frames p.me p.outs) (length p.outs) ≡ puts (resent (state_of p)) (length (state_of p).peers)
again_is p good =
    puts_same (again_frames p.me p.outs) (resent (state_of p)) (length p.outs) (resent_at p good)
    ∙ ap (puts (resent (state_of p))) (good.out ∙ sym (length-merged p.waiting.seen p.expected p.outs good.ins good.out))

pub replicate_at : {X : Type 0} (n i : ℕ) (x : X) → slice_index_or (replicate n x) i x ≡ x
replicate_at zero i x = refl
replicate_at (suc n) zero x = refl
replicate_at (suc n) (suc i) x = replicate_at n i x

pub replicate_more : {X : Type 0} (n : ℕ) (x : X) → replicate n x ++ x ∷ [] ≡ replicate (suc n) x
replicate_more zero x = refl
replicate_more (suc n) x = ap (λ l. x ∷ l) (replicate_more n x)

abbrev zeros : ℕ → List ℕ
zeros n = replicate n 0

pub first_good : (me processes registers : ℕ) → me < processes → processes ≤ MOST_PROCESSES
    → Good (first_parts me processes registers)
first_good me processes registers m n =
    let a : length (zeros processes) ≡ processes = length-replicate processes 0 in
    let b : length (replicate processes nothing) ≡ processes = length-replicate processes nothing in
    record {
      same = refl;
      me = omega (arith, a, m);
      processes = omega (arith, a, n);
      ins = refl;
      out = b ∙ sym a;
      unsettled = refl;
      few = omega arith;
      calls = omega arith;
      clock = omega arith;
      counted = omega arith;
      held = λ c i. absurd i;
      runs = tt;
      numbers = λ i. let e : next_of (slice_index_or (replicate processes nothing) i nothing) ≡ 0 = ap next_of (replicate_at processes i nothing) in omega (arith, e);
      counts = λ i. let z : ℕ = 0 in let e : slice_index_or (zeros processes) i z ≡ z = replicate_at processes i z in omega (arith, e);
    }

-- the parts that the code made
pub same_parts : (me processes registers clock : ℕ) (w : Waiting) (es : List ℕ) (os : List Unacknowledged) (m : List ℕ)
    → clock ≡ 0 → w ≡ record { me = me; seen = replicate processes 0; held = [] } → es ≡ replicate processes 0
    → os ≡ replicate processes nothing → m ≡ replicate registers 0 →
    first_parts me processes registers ≡ record (first_parts me processes registers) { clock = clock; waiting = w; expected = es; outs = os; copy = m }
same_parts me processes registers clock w es os m c a b d f =
    ap (λ x. record (first_parts me processes registers) { clock = x }) (sym c)
    ∙ ap (λ (x : Waiting). record (first_parts me processes registers) { clock = clock; waiting = x }) (sym a)
    ∙ ap (λ (x : List ℕ). record (first_parts me processes registers) { clock = clock; waiting = w; expected = x }) (sym b)
    ∙ ap (λ (x : List Unacknowledged). record (first_parts me processes registers) { clock = clock; waiting = w; expected = es; outs = x }) (sym d)
    ∙ ap (λ (x : List ℕ). record (first_parts me processes registers) { clock = clock; waiting = w; expected = es; outs = os; copy = x }) (sym f)

-- a frame that is put again, by its place
numbered_get : (first i : ℕ) (xs : List Body)
    → slice_get (numbered_from first xs) i ≡ option_map (λ b. Numbered (first + i) b) (slice_get xs i)
numbered_get first i [] = refl
numbered_get first zero (x ∷ xs) = let z : first ≡ first + 0 = omega arith in ap (λ k. Some (Numbered k x)) z
numbered_get first (suc i) (x ∷ xs) = let z : first + 1 + i ≡ first + suc i = omega arith in numbered_get (first + 1) i xs ∙ ap (λ k. option_map (λ b. Numbered k b) (slice_get xs i)) z

take_get : (n i : ℕ) (xs : List Body) → i < n → slice_get (take n xs) i ≡ slice_get xs i
take_get zero i xs l = absurd (omega arith)
take_get (suc n) i [] l = refl
take_get (suc n) zero (x ∷ xs) l = refl
take_get (suc n) (suc i) (x ∷ xs) l = take_get n i xs (omega arith)

take_none : (n i : ℕ) (xs : List Body) → n ≤ i → slice_get (take n xs) i ≡ None
take_none zero i xs l = refl
take_none (suc n) i [] l = refl
take_none (suc n) zero (x ∷ xs) l = absurd (omega arith)
take_none (suc n) (suc i) (x ∷ xs) l = take_none n i xs (omega arith)

pub again_get : (me to i : ℕ) (out : Unacknowledged) → (to ≡ me → ⊥) → i < MOST_RESENT
    → slice_get (again_at me to out) i ≡ option_map (λ b. Numbered (out.first + i) b) (slice_get out.pending i)
again_get me to i out ne l =
    ap (λ b. slice_get (cond b [] (numbered_from out.first (take MOST_RESENT out.pending))) i) (ne_eqb to me ne)
    ∙ numbered_get out.first i (take MOST_RESENT out.pending)
    ∙ ap (option_map (λ b. Numbered (out.first + i) b)) (take_get MOST_RESENT i out.pending l)

-- none to oneself, none to no process, and none past the most
pub again_own : (me to i : ℕ) (out : Unacknowledged) → to ≡ me → slice_get (again_at me to out) i ≡ None
again_own me to i out e =
    ap (λ b. slice_get (cond b [] (numbered_from out.first (take MOST_RESENT out.pending))) i) (eq-eqb to me e)

pub again_past : (me to i : ℕ) (out : Unacknowledged) → MOST_RESENT ≤ i → slice_get (again_at me to out) i ≡ None
again_past me to i out l = go (to == me)
  where
    go : (b : Bool) → slice_get (cond b [] (numbered_from out.first (take MOST_RESENT out.pending))) i ≡ None
    go true = refl
    go false = numbered_get out.first i (take MOST_RESENT out.pending) ∙ ap (option_map (λ b. Numbered (out.first + i) b)) (take_none MOST_RESENT i out.pending l)

pub again_nowhere : (me to i : ℕ) (outs : List Unacknowledged) → length outs ≤ to
    → slice_get (again_at me to (slice_index_or outs to nothing)) i ≡ None
again_nowhere me to i outs l = ap (λ out. slice_get (again_at me to out) i) (beyond outs to l) ∙ go (to == me)
  where
    beyond : (outs : List Unacknowledged) (k : ℕ) → length outs ≤ k → slice_index_or outs k nothing ≡ nothing
    beyond [] k l = refl
    beyond (o ∷ outs) zero l = absurd (omega arith)
    beyond (o ∷ outs) (suc k) l = beyond outs k (omega arith)

    go : (b : Bool) → slice_get (cond b [] (numbered_from 0 (take MOST_RESENT []))) i ≡ None
    go true = refl
    go false = refl

-- a tick puts at most so many frames again for a process
pub resent_few : (s : State) (r n : ℕ) → MOST_RESENT ≤ n → take n (resent s r) ≡ resent s r
resent_few s r n l = go (r == s.me)
  where
    few : (first k m : ℕ) (xs : List Body) → k ≤ m → take m (numbered_from first (take k xs)) ≡ numbered_from first (take k xs)
    few first zero zero xs l = refl
    few first zero (suc m) xs l = refl
    few first (suc k) zero xs l = absurd (omega arith)
    few first (suc k) (suc m) [] l = refl
    few first (suc k) (suc m) (x ∷ xs) l = ap (λ t. Numbered first x ∷ t) (few (first + 1) k m xs (omega arith))

    none_taken : (n : ℕ) (fs : List Frame) → length fs ≤ 0 → take n fs ≡ fs
    none_taken zero [] l = refl
    none_taken (suc n) [] l = refl
    none_taken n (f ∷ fs) l = absurd (omega arith)

    again : List Frame
    again = numbered_from (peer_at s r).first (take MOST_RESENT (peer_at s r).pending)

    go : (b : Bool) → take n (cond b [] again) ≡ cond b [] again
    go true = none_taken n [] (omega arith)
    go false = few (peer_at s r).first MOST_RESENT n (peer_at s r).pending l
