-- What an event adds to what a world tells.
use Rattle.std.proofs.Common.{◌≡◌, ℕ, ◌+◌, ◌-◌, ◌<◌, ◌≤◌, Bool, true, false, cond, List, [], ◌∷◌, ◌++◌, map, length}
use Rattle.std.proofs.Common.{drop, get_or, Option, refl, sym, ap, ◌∙◌, subst, arith, Vec, Some, None, slice_set}
use Rattle.std.proofs.Common.{append-nil}
use Rattle.std.specs.Prelude.{vec_len, vec_capacity}
use Rattle.std.specs.List.{filter}
use Rattle.std.proofs.lemmas.List.{append_assoc, drop_more, take_at, take-append-le, get_or_default}
use Rattle.reg_base.specs.declared.stamps.Stamp.{Stamp}
use Rattle.reg_base.specs.declared.stamps.Delivered.{Delivered}
use Rattle.reg_base.specs.Order.{In}
use Rattle.reg_world.proofs.lists.Members.{in_drop}
use Rattle.reg_checkers.specs.declared.entries.Entry.{Entry}
use Rattle.reg_checkers.specs.declared.faults.HistoryFault.{HistoryFault}
use Rattle.reg_checkers.specs.declared.faults.HistoryFault.TheVariants.{OutOfPlace, OutOfMemory}
use Rattle.reg_checkers.specs.History.{IsAt, IsHistory, IsInPlace}
use Rattle.reg_checkers.specs.Log.{Log, Refuses}
use Rattle.reg_world.specs.declared.order.First.{First}
use Rattle.reg_world.specs.Tallies.{Tally, no_calls}
use Rattle.reg_world.specs.Witnesses.{is_after}
use Rattle.reg_base.specs.declared.memory.OpId.{OpId}
use Rattle.reg_base.specs.Shape.{Extent}
use Rattle.reg_process.specs.declared.steps.Step.{Step}
use Rattle.reg_process.specs.declared.steps.Step.TheVariants.{Call, Take, Tick}
use Rattle.reg_process.specs.declared.events.Event.{Event}
use Rattle.reg_world.specs.declared.callers.Note.{Note}
use Rattle.reg_world.specs.declared.order.CopyRead.{CopyRead}
use Rattle.reg_process.specs.declared.steps.Reply.{Reply}
use Rattle.reg_world.specs.World.{op_id, calls_in, answers_in}
use Rattle.reg_world.specs.Pages.{Pages, calls_after, entries_after, entered, passed, CallsNothing, first_in, firsts_in}
use Rattle.reg_world.specs.Pages.{tally_at, TimesDiffer}
use Rattle.reg_world.proofs.lists.Bodies.{place_last, place_first, place_within}
use Rattle.reg_world.proofs.code.Noted.{at_index}

pub not_refused : (h : Log) (e : Entry) (fault : HistoryFault) → 1 ≤ h.room
    → IsHistory h.shape.processes h.shape.registers (h.entries ++ e ∷ []) → Refuses h e fault → ⊥
not_refused h e OutOfPlace room good no_place =
    no_place (subst (λ l. IsInPlace h.shape.processes h.shape.registers l e) (take_at h.entries (e ∷ []) (length h.entries) refl) (good (length h.entries) e (place_last h.entries e)))
not_refused h e OutOfMemory room good none = let z = none.1 in omega (arith, room, z)

-- an element in the form that indexing gives
pub at_default : (ts : List Tally) (p : ℕ) (t : Tally) → p < length ts → t ≡ get_or ts p t → t ≡ tally_at ts p
at_default ts p t l e = e ∙ get_or_default ts p t no_calls l

pub tally_in : (ts : List Tally) (p : ℕ) → p < length ts → IsAt ts p (tally_at ts p)
tally_in ts p l = at_index ts p (tally_at ts p) l (get_or_default ts p no_calls (tally_at ts p) l)

-- so many deliveries were looked at; what is left decides
pub record IsSoFar {A : Type 0} (at : ℕ) (last : Option Stamp) (ds : List Delivered) (before : List First) (ts now : List Tally) (i : ℕ) (order : Vec First A) : Type 0 where
  pub same : now ≡ ts
  pub left : order.items ++ firsts_in ts at last (drop i ds) ≡ before ++ firsts_in ts at last ds
  pub room : vec_len order + (length ds - i) ≤ vec_capacity order

pub caster_at : (ds : List Delivered) (i : ℕ) (d : Delivered) (now ts : List Tally)
    → ((d : Delivered) → In d ds → d.stamp.process < length ts) → now ≡ ts → i < length ds
    → (get_or ds i d).stamp.process < length now
caster_at ds i d now ts all same l =
    let h = all (get_or ds i d) (in_drop i ds (get_or ds i d) d l refl) in let e = ap length same in omega (arith, h, e)

pub differ_at : (ds : List Delivered) (i : ℕ) (d : Delivered) (now ts : List Tally)
    → ((d : Delivered) → In d ds → d.stamp.process < length ts)
    → ((p : ℕ) (t : Tally) → IsAt ts p t → TimesDiffer t.casts) → now ≡ ts → i < length ds
    → TimesDiffer (tally_at now (get_or ds i d).stamp.process).casts
differ_at ds i d now ts all differ same l =
    let p = (get_or ds i d).stamp.process in
    let h = all (get_or ds i d) (in_drop i ds (get_or ds i d) d l refl) in
    subst (λ z. TimesDiffer (tally_at z p).casts) (sym same) (differ p (tally_at ts p) (tally_in ts p h))

pub first_more : {A : Type 0} (at : ℕ) (last : Option Stamp) (ds : List Delivered) (before : List First)
    (ts now now1 : List Tally) (i : ℕ) (d : Delivered) (order order1 : Vec First A)
    → i < length ds → IsSoFar at last ds before ts now i order
    → now1 ≡ ts → order1.items ≡ order.items ++ cond (is_after last (get_or ds i d).stamp) (first_in now at (get_or ds i d) ∷ []) [] → vec_len order1 + (length ds - (i + 1)) ≤ vec_capacity order1 → IsSoFar at last ds before ts now1 (i + 1) order1
first_more at last ds before ts now now1 i d order order1 l S same more room =
    let x = get_or ds i d in
    let step : (b : Bool) → is_after last x.stamp ≡ b → cond b (first_in ts at x ∷ []) [] ++ firsts_in ts at last (drop (i + 1) ds) ≡ firsts_in ts at last (x ∷ drop (i + 1) ds) = one in
    record {
      same = same;
      left =
          ap (λ l. l ++ firsts_in ts at last (drop (i + 1) ds)) (more ∙ ap (λ z. order.items ++ cond (is_after last x.stamp) (first_in z at x ∷ []) []) S.same)
          ∙ (append_assoc order.items (cond (is_after last x.stamp) (first_in ts at x ∷ []) []) (firsts_in ts at last (drop (i + 1) ds))
          ∙ (ap (λ l. order.items ++ l) (step (is_after last x.stamp) refl ∙ ap (firsts_in ts at last) (sym (drop_more ds i d l)))
          ∙ S.left));
      room = room;
    }
  where
    one : (b : Bool) → is_after last (get_or ds i d).stamp ≡ b → cond b (first_in ts at (get_or ds i d) ∷ []) [] ++ firsts_in ts at last (drop (i + 1) ds) ≡ firsts_in ts at last (get_or ds i d ∷ drop (i + 1) ds)
    one true e = ap (λ b. map (first_in ts at) (cond b (get_or ds i d ∷ filter (λ (d : Delivered). is_after last d.stamp) (drop (i + 1) ds)) (filter (λ (d : Delivered). is_after last d.stamp) (drop (i + 1) ds)))) (sym e)
    one false e = ap (λ b. map (first_in ts at) (cond b (get_or ds i d ∷ filter (λ (d : Delivered). is_after last d.stamp) (drop (i + 1) ds)) (filter (λ (d : Delivered). is_after last d.stamp) (drop (i + 1) ds)))) (sym e)

-- the beginning of a history is a history
pub history_front : (n registers : ℕ) (xs ys : List Entry) → IsHistory n registers (xs ++ ys) → IsHistory n registers xs
history_front n registers xs ys good k e at =
    let l = place_within xs k e at in
    subst (λ z. IsInPlace n registers z e) (take-append-le k xs ys (omega (arith, l))) (good k e (place_first xs ys k e at))

module _ (b : Pages) (p : ℕ) (step : Step) (reply : Option Reply) (good : IsHistory b.shape.processes b.shape.registers (entries_after b.entries (length b.accepted) p (tally_at b.tallies p) step reply)) where
  pub call_good : (shape : Extent) (entries : List Entry) (at : ℕ) (id : OpId) → shape ≡ b.shape → entries ≡ b.entries
      → at ≡ length b.accepted → id ≡ op_id p (tally_at b.tallies p).calls
      → IsHistory shape.processes shape.registers (entries ++ calls_in at id step)
  call_good shape entries at id es ee ea ei =
      let at0 = length b.accepted in
      let id0 = op_id p (tally_at b.tallies p).calls in
      let deliveries = history_front b.shape.processes b.shape.registers (b.entries ++ calls_in at0 id0 step) (answers_in at0 (op_id p (calls_after step (tally_at b.tallies p).calls - 1)) reply) good in
      subst (λ (z : Extent). IsHistory z.processes z.registers (entries ++ calls_in at id step)) (sym es)
      (subst (λ z. IsHistory b.shape.processes b.shape.registers (z ++ calls_in at id step)) (sym ee)
      (subst (λ z. IsHistory b.shape.processes b.shape.registers (b.entries ++ calls_in z id step)) (sym ea)
      (subst (λ z. IsHistory b.shape.processes b.shape.registers (b.entries ++ calls_in at0 z step)) (sym ei) deliveries)))

  pub answer_good : (shape : Extent) (entries : List Entry) (at : ℕ) (called answered : OpId) → shape ≡ b.shape
      → entries ≡ b.entries ++ calls_in at called step → at ≡ length b.accepted
      → called ≡ op_id p (tally_at b.tallies p).calls
      → answered ≡ op_id p (calls_after step (tally_at b.tallies p).calls - 1)
      → IsHistory shape.processes shape.registers (entries ++ answers_in at answered reply)
  answer_good shape entries at called answered es ee ea ec ei =
      let at0 = length b.accepted in
      let id0 = op_id p (tally_at b.tallies p).calls in
      let grown : entries ≡ b.entries ++ calls_in at0 id0 step = ee ∙ (ap (λ z. b.entries ++ calls_in z called step) ea ∙ ap (λ z. b.entries ++ calls_in at0 z step) ec) in
      subst (λ (z : Extent). IsHistory z.processes z.registers (entries ++ answers_in at answered reply)) (sym es)
      (subst (λ z. IsHistory b.shape.processes b.shape.registers (z ++ answers_in at answered reply)) (sym grown)
      (subst (λ z. IsHistory b.shape.processes b.shape.registers ((b.entries ++ calls_in at0 id0 step) ++ answers_in z answered reply)) (sym ea)
      (subst (λ z. IsHistory b.shape.processes b.shape.registers ((b.entries ++ calls_in at0 id0 step) ++ answers_in at0 z reply)) (sym ei) good)))

-- the pages after an event in which nothing is told, with these lists
abbrev pages_with : Pages → Event → ℕ → Bool → List Entry → List First → List CopyRead → List Note → Pages
pages_with b e p runs entries order reads casts = record (passed b e p runs) {
  entries = entries;
  order = order;
  reads = reads;
  tallies = slice_set b.tallies p (record (tally_at b.tallies p) { runs = runs; casts = casts });
}

silent_pages : (b : Pages) (e : Event) (p : ℕ) (runs : Bool)
    → pages_with b e p runs ((b.entries ++ []) ++ []) (b.order ++ []) (b.reads ++ [])
    ((tally_at b.tallies p).casts ++ [])
    ≡ passed b e p runs
silent_pages b e p runs =
    let casts = (tally_at b.tallies p).casts in
    ap (λ (l : List Entry). pages_with b e p runs l (b.order ++ []) (b.reads ++ []) (casts ++ [])) (append-nil (b.entries ++ []) ∙ append-nil b.entries)
    ∙ (ap (λ (l : List First). pages_with b e p runs b.entries l (b.reads ++ []) (casts ++ [])) (append-nil b.order)
    ∙ (ap (λ (l : List CopyRead). pages_with b e p runs b.entries b.order l (casts ++ [])) (append-nil b.reads)
    ∙ ap (λ (l : List Note). pages_with b e p runs b.entries b.order b.reads l) (append-nil casts)))

-- what an event adds in which nothing is told
pub passed_is_entered : (b : Pages) (e : Event) (p : ℕ) (step : Step) (runs : Bool) (cast : Option Stamp)
    → CallsNothing step → entered b e p step runs cast [] None ≡ passed b e p runs
passed_is_entered b e p (Call op) runs cast calls = absurd calls
passed_is_entered b e p (Take from frame) runs cast calls = silent_pages b e p runs
passed_is_entered b e p Tick runs cast calls = silent_pages b e p runs
