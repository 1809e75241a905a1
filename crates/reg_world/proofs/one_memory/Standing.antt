-- An answer stands at its place of the list of deliveries.
use Rattle.std.proofs.Common.{◌≡◌, ℕ, zero, suc, ◌+◌, ◌-◌, ◌<◌, ◌≤◌, Bool, true, false, not, List, [], ◌∷◌, ◌++◌}
use Rattle.std.proofs.Common.{length, take, Option, Some, None, refl, sym, ap, ◌∙◌, subst, inl, inr, arith}
use Rattle.std.proofs.Common.{append_assoc, length-append}
use Rattle.std.specs.Prelude.{cond, ◌==◌, ◌&&◌, count_by, slice_get}
use Rattle.std.specs.List.{filter, list_any}
use Rattle.std.proofs.lemmas.Bool.{cond_both, cases_Bool, eqb-true, eq-eqb, and_from, and_parts, not-true, false≢true}
use Rattle.std.proofs.lemmas.List.{take_at, take-append-le}
use Rattle.reg_base.specs.declared.stamps.Stamp.{Stamp}
use Rattle.reg_base.specs.declared.memory.Op.{Op}
use Rattle.reg_base.specs.declared.stamps.Delivered.{Delivered}
use Rattle.reg_process.specs.declared.steps.Reply.{Reply}
use Rattle.reg_base.specs.Order.{Below, AtMost, below, at_most, In, Rising}
use Rattle.reg_process.specs.Process.{State, Running, Own, Held, is_clear, is_own, clear_casts, casts_before, up_to_own}
use Rattle.reg_process.specs.Process.{reply_after, reply_of, called, delivered_state, unsettled}
use Rattle.reg_world.specs.Nodes.{running_op}
use Rattle.reg_world.proofs.run.Traced.{Called, Answered, Past, cast_of, Stands}
use Rattle.reg_base.proofs.Orders.{Decides-below, Decides-at_most, below_irrefl}
use Rattle.reg_base.proofs.Lists.{in_left, in_right, in_cases, in_filter, filter_in, rising_filter, front_filter}
use Rattle.reg_world.proofs.lists.Bodies.{place_first, place_split, place_within}
use Rattle.reg_world.proofs.one_memory.Replicas.{before_down, own_down}
use Rattle.reg_world.proofs.one_order.Settled.{Runs, count_parts}
use Rattle.reg_process.proofs.Deliver.{any_found, any_finds, count_cons}

-- what runs is the last call
abbrev pub RunsAs : ℕ → List Called → Option Running → Type 0
RunsAs k calls None = Unit {0}
RunsAs k calls (Some (Own stamp op)) =
    (0 < k) × ((at : ℕ) × (slice_get calls (k - 1) ≡ Some (record { op = op; at = at; cast = Some stamp })))
RunsAs k calls (Some (Held op)) =
    (0 < k) × ((at : ℕ) × (slice_get calls (k - 1) ≡ Some (record { op = op; at = at; cast = None })))

abbrev pub AnswerOk : List Delivered → List Called → Answered → Type 0
AnswerOk deliveries calls a = (a.reply.place ≤ length deliveries) × ((d : Called) × (slice_get calls a.number ≡ Some d) × (d.op ≡ a.op) × Stands deliveries calls a.number a.reply.place d d.cast)

pub record PastOk (p : ℕ) (s : State) (deliveries : List Delivered) (h : Past) : Type 0 where
  pub count : length h.calls ≡ s.calls
  pub running : RunsAs s.calls h.calls s.running
  pub casts : (i : ℕ) (d : Called) (stamp : Stamp) → slice_get h.calls i ≡ Some d → d.cast ≡ Some stamp
      → (stamp.process ≡ p) × In (cast_of stamp d.op) (deliveries ++ s.held)
  pub rises : (i j : ℕ) (d e : Called) (a b : Stamp) → slice_get h.calls i ≡ Some d → slice_get h.calls j ≡ Some e
      → d.cast ≡ Some a → e.cast ≡ Some b → i < j → a.time < b.time
  pub past : (i : ℕ) (d : Called) (stamp : Stamp) → slice_get h.calls i ≡ Some d → d.cast ≡ Some stamp
      → stamp.time ≤ s.clock
  pub answers : (a : Answered) → In a h.answers → AnswerOk deliveries h.calls a

-- the list of deliveries grows
pub stands_later : (deliveries ds : List Delivered) (calls : List Called) (number place : ℕ) (d : Called)
    (o : Option Stamp)
    → place ≤ length deliveries → Stands deliveries calls number place d o
    → Stands (deliveries ++ ds) calls number place d o
stands_later deliveries ds calls number place d (Some stamp) l (inl f) = inl f
stands_later deliveries ds calls number place d (Some stamp) l (inr e) = inr (place_first deliveries ds place _ e)
stands_later deliveries ds calls number place d None l h = λ j e stamp at c.
    let r = h j e stamp at c in
    let same = take-append-le place deliveries ds l in
    ((λ m. subst (In (cast_of stamp e.op)) (sym same) (r.0 m)), (λ m i. r.1 m (subst (In (cast_of stamp e.op)) same i)))

pub answer_later : (deliveries ds : List Delivered) (calls : List Called) (a : Answered) → AnswerOk deliveries calls a
    → AnswerOk (deliveries ++ ds) calls a
answer_later deliveries ds calls a h = ((let z = h.0 in let v = length-append deliveries ds in omega (arith, z, v)), (h.1.0, h.1.1, h.1.2, stands_later deliveries ds calls a.number a.reply.place h.1.0 h.1.0.cast h.0 h.1.3))

pub in_take : (c : Delivered) (k : ℕ) (xs : List Delivered) → In c (take k xs) → In c xs
in_take c zero [] h = h
in_take c zero (x ∷ xs) h = absurd h
in_take c (suc k) [] h = h
in_take c (suc k) (x ∷ xs) (inl e) = inl e
in_take c (suc k) (x ∷ xs) (inr i) = inr (in_take c k xs i)

-- one more call
pub stands_call : (deliveries : List Delivered) (calls : List Called) (new : Called) (number place : ℕ) (d : Called)
    (o : Option Stamp)
    → number < length calls
    → ((stamp : Stamp) → new.cast ≡ Some stamp → (c : Delivered) → In c deliveries → c.stamp.time < stamp.time)
    → Stands deliveries calls number place d o → Stands deliveries (calls ++ new ∷ []) number place d o
stands_call deliveries calls new number place d (Some stamp) l late h = h
stands_call deliveries calls new number place d None l late h =
    λ j e stamp at c. elim (place_split calls (new ∷ []) j e at) [
      | inl k ↦ h j e stamp k c
      | inr k ↦
          let same : e ≡ new = elim k.1 [ inl q ↦ q | inr f ↦ absurd f ] in (
            (λ m. let z = k.0 in absurd (omega (arith, z))),
            (λ m i. let t = late stamp (ap (λ (x : Called). x.cast) (sym same) ∙ c) (cast_of stamp e.op) (in_take _ place deliveries i) in omega (arith, t)),
          )
    ]

pub answer_call : (deliveries : List Delivered) (calls : List Called) (new : Called) (a : Answered)
    → ((stamp : Stamp) → new.cast ≡ Some stamp → (c : Delivered) → In c deliveries → c.stamp.time < stamp.time)
    → AnswerOk deliveries calls a → AnswerOk deliveries (calls ++ new ∷ []) a
answer_call deliveries calls new a late h = (h.0, (h.1.0, place_first calls (new ∷ []) a.number h.1.0 h.1.1, h.1.2, stands_call deliveries calls new a.number a.reply.place h.1.0 h.1.0.cast (place_within calls a.number h.1.0 h.1.1) late h.1.3))

-- the head of what is not below is the cast itself
pub head_is : (c : Delivered) (rest : List Delivered) → Rising rest → In c rest
    → ((d : Delivered) → In d rest → Below d.stamp c.stamp → ⊥) → (tail : List Delivered) × (rest ≡ c ∷ tail)
head_is c [] r h n = absurd h
head_is c (x ∷ rest) r (inl e) n = (rest, ap (λ z. z ∷ rest) (sym e))
head_is c (x ∷ rest) r (inr i) n = absurd (n x (inl refl) (r.0 c i))

pub place_seam : (xs ys zs : List Delivered) (c : Delivered)
    → slice_get (xs ++ (ys ++ c ∷ zs)) (length xs + length ys) ≡ Some c
place_seam [] [] zs c = refl
place_seam [] (y ∷ ys) zs c = ap (slice_get ((y ∷ ys) ++ c ∷ zs)) (let e : 0 + length (y ∷ ys) ≡ suc (0 + length ys) = omega arith in e) ∙ place_seam [] ys zs c
place_seam (x ∷ xs) ys zs c = ap (slice_get ((x ∷ xs) ++ (ys ++ c ∷ zs))) (let e : length (x ∷ xs) + length ys ≡ suc (length xs + length ys) = omega arith in e) ∙ place_seam xs ys zs c

-- no own cast among those that count none
pub none_counted : (f : Delivered → Bool) (c : Delivered) (xs : List Delivered) → count_by f xs ≡ 0 → In c xs
    → f c ≡ true → ⊥
none_counted f c [] e i t = i
none_counted f c (x ∷ xs) e (inl q) t =
    let a = count_cons f x xs in
    let b = ap {B = ℕ} (λ v. cond v 1 0) (ap f (sym q) ∙ t) in
    omega (arith, a, b, e)
none_counted f c (x ∷ xs) e (inr i) t = none_counted f c xs (let a = count_cons f x xs in omega (arith, a, e)) i t

-- the reply of delivery stands
abbrev pub ReplyStands : ℕ → List Delivered → List Called → ℕ → Op → Option Reply → Type 0
ReplyStands p deliveries calls number op None = Unit {0}
ReplyStands p deliveries calls number op (Some r) =
    AnswerOk deliveries calls (record { number = number; at = p; op = op; reply = r })

-- an own cast that is delivered stands at the place of its reply
pub own_placed : (s : State) (deliveries : List Delivered) → s.delivered ≡ length deliveries → Rising (clear_casts s)
    → (stamp : Stamp) (op : Op) → In (cast_of stamp op) s.held
    → list_any (λ c. (c.stamp.time == stamp.time) && (c.stamp.process == stamp.process)) (clear_casts s) ≡ true
    → slice_get (deliveries ++ clear_casts s) (s.delivered + length (casts_before stamp (clear_casts s)))
    ≡ Some (cast_of stamp op)
own_placed s deliveries count rising_ds stamp op held t =
    let own = cast_of stamp op in
    let f = any_found (λ c. (c.stamp.time == stamp.time) && (c.stamp.process == stamp.process)) (clear_casts s) t in
    let parts = and_parts (f.0.stamp.time == stamp.time) (f.0.stamp.process == stamp.process) f.2 in
    let same : f.0.stamp ≡ stamp = (λ i. record { time = eqb-true _ _ parts.0 i; process = eqb-true _ _ parts.1 i }) in
    let clear : is_clear s stamp ≡ true = ap (is_clear s) (sym same) ∙ (in_filter f.0 (λ c. is_clear s c.stamp) s.held f.1).1 in
    let in_ds : In own (clear_casts s) = filter_in own (λ c. is_clear s c.stamp) s.held held clear in
    let test = λ (c : Delivered). below c.stamp stamp in
    let rest = filter (λ c. not (test c)) (clear_casts s) in
    let parted = front_filter test (clear_casts s) rising_ds (before_down stamp (clear_casts s)) in
    let not_below : test own ≡ false = elim (cases_Bool (test own)) [ inl q ↦ absurd (below_irrefl stamp ((Decides-below stamp stamp).0 q)) | inr q ↦ q ] in
    let in_rest : In own rest = filter_in own (λ c. not (test c)) (clear_casts s) in_ds (ap not not_below) in
    let head = head_is own rest (rising_filter (λ c. not (test c)) (clear_casts s) rising_ds) in_rest
    (λ d i b. false≢true (sym (not-true _ (in_filter d (λ c. not (test c)) (clear_casts s) i).1) ∙ (Decides-below d.stamp stamp).1 b)) in
    let all : deliveries ++ clear_casts s ≡ deliveries ++ (casts_before stamp (clear_casts s) ++ own ∷ head.0) = ap (λ l. deliveries ++ l) (sym parted ∙ ap (λ l. casts_before stamp (clear_casts s) ++ l) head.1) in
    let at : s.delivered + length (casts_before stamp (clear_casts s)) ≡ length deliveries + length (casts_before stamp (clear_casts s)) = omega (arith, count) in
    ap (λ l. slice_get l (s.delivered + length (casts_before stamp (clear_casts s)))) all ∙ (ap (slice_get (deliveries ++ (casts_before stamp (clear_casts s) ++ own ∷ head.0))) at ∙ place_seam deliveries (casts_before stamp (clear_casts s)) head.0 own)

module _ (p : ℕ) (s : State) (deliveries : List Delivered) (h : Past) (me : s.me ≡ p) (count : s.delivered ≡ length deliveries) (rising_ds : Rising (clear_casts s)) (P : PastOk p s deliveries h) where
  own_stands : (stamp : Stamp) (op : Op) → RunsAs s.calls h.calls (Some (Own stamp op)) → In (cast_of stamp op) s.held → list_any (λ c. (c.stamp.time == stamp.time) && (c.stamp.process == stamp.process)) (clear_casts s) ≡ true → AnswerOk (deliveries ++ clear_casts s) h.calls (record { number = s.calls - 1; at = p; op = op; reply = reply_after s (casts_before stamp (clear_casts s)) op })
  own_stands stamp op runs held t =
      let own = cast_of stamp op in
      let place = own_placed s deliveries count rising_ds stamp op held t in
      ((let z = place_within (deliveries ++ clear_casts s) _ own place in omega (arith, z)), (record { op = op; at = runs.1.0; cast = Some stamp }, runs.1.1, refl, inr place))

  held_stands : (op : Op) → RunsAs s.calls h.calls (Some (Held op)) → (count_by (is_own s) (clear_casts s) == unsettled s) ≡ true → AnswerOk (deliveries ++ clear_casts s) h.calls (record { number = s.calls - 1; at = p; op = op; reply = reply_after s (up_to_own s (clear_casts s)) op })
  held_stands op runs t =
      let cs = up_to_own s (clear_casts s) in
      let test = λ (c : Delivered). list_any (λ d. is_own s d && at_most c.stamp d.stamp) (clear_casts s) in
      let rest = filter (λ c. not (test c)) (clear_casts s) in
      let parted : cs ++ rest ≡ clear_casts s = front_filter test (clear_casts s) rising_ds (own_down s (clear_casts s)) in
      let all : deliveries ++ clear_casts s ≡ (deliveries ++ cs) ++ rest = ap (λ l. deliveries ++ l) (sym parted) ∙ sym (append_assoc deliveries cs rest) in
      let place : length (deliveries ++ cs) ≡ s.delivered + length cs = let z = length-append deliveries cs in omega (arith, z, count) in
      let taken : take (s.delivered + length cs) (deliveries ++ clear_casts s) ≡ deliveries ++ cs = ap (take (s.delivered + length cs)) all ∙ take_at (deliveries ++ cs) rest (s.delivered + length cs) place in
      let left : count_by (is_own s) (delivered_state s).held ≡ 0 = let z = count_parts (is_own s) (λ c. is_clear s c.stamp) s.held in let e = eqb-true _ _ t in omega (arith, z, e) in (
        (let z = ap length all in let v = length-append (deliveries ++ cs) rest in omega (arith, z, v, place)),
        (
          record { op = op; at = runs.1.0; cast = None },
          runs.1.1,
          refl,
          λ j e stamp at c.
              let r = P.casts j e stamp at c in
              let own : is_own s (cast_of stamp e.op) ≡ true = eq-eqb stamp.process s.me (r.0 ∙ sym me) in (
                (λ m. subst (In (cast_of stamp e.op)) (sym taken) (elim (in_cases _ deliveries s.held r.1) [
                  | inl i ↦ in_left _ deliveries cs i
                  | inr i ↦ elim (cases_Bool (is_clear s stamp)) [
                    | inl q ↦ in_right _ deliveries cs (filter_in _ test (clear_casts s) (filter_in _ (λ c. is_clear s c.stamp) s.held i q)
                        (any_finds (λ d. is_own s d && at_most stamp d.stamp) (cast_of stamp e.op) (clear_casts s) (filter_in _ (λ c. is_clear s c.stamp) s.held i q) (and_from _ _ own ((Decides-at_most stamp stamp).1 (same_at_most stamp)))))
                    | inr q ↦ absurd (none_counted (is_own s) (cast_of stamp e.op) (delivered_state s).held left (filter_in _ (λ c. not (is_clear s c.stamp)) s.held i (ap not q)) own)
                  ]
                ])),
                (λ m _. let z = place_within h.calls j e at in let v = P.count in let u = runs.0 in omega (arith, z, v, m, u)),
              ),
        ),
      )
    where
      same_at_most : (a : Stamp) → AtMost a a
      same_at_most a = grind arith

  pub reply_stands : (running : Option Running) → RunsAs s.calls h.calls running → Runs s running
      → ReplyStands p (deliveries ++ clear_casts s) h.calls (s.calls - 1) (running_op running)
      (reply_of s (clear_casts s) running)
  reply_stands None called runs = tt
  reply_stands (Some (Own stamp op)) called runs =
      cond_both (list_any (λ c. (c.stamp.time == stamp.time) && (c.stamp.process == stamp.process)) (clear_casts s)) (Some (reply_after s (casts_before stamp (clear_casts s)) op)) None (ReplyStands p (deliveries ++ clear_casts s) h.calls (s.calls - 1) op)
      (λ t. own_stands stamp op called runs t) (λ _. tt)
  reply_stands (Some (Held op)) called runs =
      cond_both (count_by (is_own s) (clear_casts s) == unsettled s) (Some (reply_after s (up_to_own s (clear_casts s)) op)) None (ReplyStands p (deliveries ++ clear_casts s) h.calls (s.calls - 1) op)
      (λ t. held_stands op called t) (λ _. tt)
