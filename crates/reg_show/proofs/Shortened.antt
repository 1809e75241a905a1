-- Events tried one after another, and what the shorter list keeps.
use Rattle.std.proofs.Common.{ℕ, zero, suc, ◌≡◌, ◌+◌, ◌-◌, ◌<◌, ◌≤◌, ◌↔◌, IsTrue, Bool, true, false, not, List, [], ◌∷◌}
use Rattle.std.proofs.Common.{◌++◌, length, max, remove, take, drop, Option, Some, Result, Ok, Err, IfOk, refl, sym, ap}
use Rattle.std.proofs.Common.{◌∙◌, subst, inl, inr, arith, append_assoc, append-nil, take-append-drop}
use Rattle.std.proofs.lemmas.Bool.{false≢true}
use Rattle.std.proofs.lemmas.List.{drop_all}
use Rattle.std.proofs.lemmas.List.Edits.{length-remove}
use Rattle.std.proofs.lemmas.Option.{same_Some}
use Rattle.std.specs.Option.{is_some}
use Rattle.std.specs.Prelude.{slice_get}
use Rattle.reg_base.specs.declared.memory.Op.{Op}
use Rattle.reg_base.specs.Shape.{Extent}
use Rattle.reg_commands.specs.Replays.{IsFirstRefused, run_by}
use Rattle.reg_front.specs.declared.starts.Start.{Start}
use Rattle.reg_checkers.specs.declared.entries.Entry.{Entry}
use Rattle.reg_inputs.specs.Schedules.{Plan}
use Rattle.reg_process.specs.declared.events.Event.{Event}
use Rattle.reg_process.specs.declared.steps.Step.{Step}
use Rattle.reg_trace.proofs.Moving.{first_moved}
use Rattle.reg_world.proofs.one_memory.Refusals.{refused_by_fault}
use Rattle.reg_world.proofs.run.Along.{run_parts}
use Rattle.reg_world.specs.World.{World, empty_world, move_of, run, whole, world_fault}
use Rattle.reg_world.specs.declared.faults.WorldFault.{WorldFault}
use Rattle.reg_show.specs.declared.shortening.Finished.{Finished}
use Rattle.reg_show.specs.Shorts.{HaveSameAnswers, IsTried, KeepsAnswers, Shortens, finished_by, finished_from}
use Rattle.reg_show.specs.Shorts.{last_after, up_to_answer, up_to_last_answer}

-- ---- what is finished, entry by entry

-- one more entry is looked at, and none or one is finished by it
pub finished_next : (p : ℕ) (last next : Option Op) (h rest : List Entry) (e : Entry) (done now all : List Finished)
    → next ≡ last_after p last e → now ≡ done ++ finished_by p last e → h ≡ e ∷ rest
    → done ++ finished_from p last h ≡ all → now ++ finished_from p next rest ≡ all
finished_next p last next h rest e done now all called is split so =
    let F = finished_from p (last_after p last e) rest in
    let joined : now ++ F ≡ all = ap (λ (l : List Finished). l ++ F) is ∙ (append_assoc done (finished_by p last e) F ∙ (ap (λ (l : List Entry). done ++ finished_from p last l) (sym split) ∙ so)) in
    subst (λ (o : Option Op). now ++ finished_from p o rest ≡ all) (sym called) joined

-- and all entries were
pub finished_all : (p : ℕ) (last : Option Op) (h : List Entry) (i : ℕ) (done all : List Finished) → length h ≤ i
    → done ++ finished_from p last (drop i h) ≡ all → done ≡ all
finished_all p last h i done all le so =
    sym (append-nil done) ∙ (ap (λ (l : List Entry). done ++ finished_from p last l) (sym (drop_all i h le)) ∙ so)

-- ---- how many events there are up to the last answer

pub counted_next : (count next i all : ℕ) (xs : List Entry) (e : Entry) → next ≡ max (up_to_answer e) count
    → drop i xs ≡ e ∷ drop (i + 1) xs → max count (up_to_last_answer (drop i xs)) ≡ all
    → max next (up_to_last_answer (drop (i + 1) xs)) ≡ all
counted_next count next i all xs e is split so =
    let parts : up_to_last_answer (drop i xs) ≡ max (up_to_answer e) (up_to_last_answer (drop (i + 1) xs)) = ap (λ (l : List Entry). up_to_last_answer l) split in
    omega (arith, is, parts, so)

pub counted_all : (count i all : ℕ) (xs : List Entry) → length xs ≤ i → max count (up_to_last_answer (drop i xs)) ≡ all
    → count ≡ all
counted_all count i all xs le so =
    let none : up_to_last_answer (drop i xs) ≡ 0 = ap (λ (l : List Entry). up_to_last_answer l) (drop_all i xs le) in
    omega (arith, none, so)

-- ---- a list of events that isn't accepted

drop_from : {X : Type 0} (xs : List X) (k : ℕ) (x : X) → slice_get xs k ≡ Some x → drop k xs ≡ x ∷ drop (suc k) xs
drop_from [] k x h = absurd (cc)
drop_from (y ∷ ys) zero x h = ap (λ z. z ∷ ys) (same_Some y x h)
drop_from (y ∷ ys) (suc k) x h = drop_from ys k x h

moves_or_fails : (m : Option (ℕ × Step)) (f : Option WorldFault) (s : ℕ × Step) (fault : WorldFault) → m ≡ Some s
    → f ≡ Some fault → is_some m ≡ not (is_some f) → ⊥
moves_or_fails m f s fault is fails h = false≢true (sym (sym (ap (λ (o : Option (ℕ × Step)). is_some o) is) ∙ (h ∙ ap (λ (o : Option WorldFault). not (is_some o)) fails)))

-- where one is refused, not all are accepted
pub not_accepted : (start : Op → ℕ → Start) (p : Plan) (at : ℕ) (fault : WorldFault) → IsFirstRefused start p at fault
    → (run_by start p).accepted ≡ p.events → ⊥
not_accepted start p at fault first all =
    let n = p.shape.processes in
    let r = p.shape.registers in
    let e = first.event in
    let es = take at p.events in
    let rest = drop (suc at) p.events in
    let w : World = whole start n r es in
    let cut : p.events ≡ es ++ e ∷ rest = sym (take-append-drop at p.events) ∙ ap (λ (l : List Event). es ++ l) (drop_from p.events at e first.here) in
    let parts : whole start n r p.events ≡ run start n r (e ∷ rest) w = ap (λ (l : List Event). whole start n r l) cut ∙ run_parts start n r es (e ∷ rest) (empty_world n r) in
    let joined : (run start n r (e ∷ rest) w).accepted ≡ w.accepted ++ e ∷ rest = sym (ap (λ (v : World). v.accepted) parts) ∙ (all ∙ (cut ∙ ap (λ (l : List Event). l ++ e ∷ rest) (sym first.before))) in
    let moved = first_moved start n r e rest w (move_of n r w e) refl joined in
    moves_or_fails (move_of n r w e) (world_fault n r w e) moved.0 fault moved.1 first.refused (refused_by_fault n r w e)

-- ---- a list that is tried

keeps_as : (start : Op → ℕ → Start) (shape : Extent) (given h : List Entry) (events : List Event) (n : ℕ) (same : Bool)
    → (whole start shape.processes shape.registers events).accepted ≡ events
    → h ≡ (whole start shape.processes shape.registers events).history → n ≡ shape.processes → IsTrue same ↔ HaveSameAnswers n h given → IsTrue same ↔ KeepsAnswers start shape given events
keeps_as start shape given h events n same accepted is count tells = (
  λ t. record { accepted = accepted; answers = subst (λ (l : List Entry). HaveSameAnswers shape.processes l given) is (subst (λ (k : ℕ). HaveSameAnswers k h given) count (tells.0 t)) },
  λ keeps. tells.1 (subst (λ (k : ℕ). HaveSameAnswers k h given) (sym count) (subst (λ (l : List Entry). HaveSameAnswers shape.processes l given) (sym is) keeps.answers)),
)

pub answers_keep : {E : Type 0} (start : Op → ℕ → Start) (shape : Extent) (given h : List Entry) (events : List Event)
    (n : ℕ) (r : Result Bool E)
    → (whole start shape.processes shape.registers events).accepted ≡ events
    → h ≡ (whole start shape.processes shape.registers events).history → n ≡ shape.processes → IfOk r (λ same. IsTrue same ↔ HaveSameAnswers n h given) → IfOk r (λ keeps. IsTrue keeps ↔ KeepsAnswers start shape given events)
answers_keep start shape given h events n (Ok same) accepted is count tells =
    keeps_as start shape given h events n same accepted is count tells
answers_keep start shape given h events n (Err e) accepted is count tells = tt

module _ (Keeps : List Event → Type 0) where
  -- one more is tried
  pub tried_next : (left place : ℕ) (list next : List Event) (G : List Event → Type 0) → left ≡ place + 1
      → IsTried Keeps list place next → ((short : List Event) → Shortens Keeps left list short → G short)
      → (short : List Event) → Shortens Keeps place next short → G short
  tried_next left place list next G count tried before short rest =
      let here : left ≡ suc place = omega (arith, count) in
      before short (subst (λ (k : ℕ). Shortens Keeps k list short) (sym here) (next, tried, rest))

  -- the list is as long as are left to try
  pub tried_long : (place : ℕ) (list next : List Event) → place < length list → IsTried Keeps list place next
      → place ≤ length next
  tried_long place list next lt (inl gone) =
      let l = length-remove list place lt in
      let same : length next ≡ length (remove list place) = ap length gone.1 in
      omega (arith, l, same, lt)
  tried_long place list next lt (inr stays) = let same : length next ≡ length list = ap length stays.1 in omega (arith, same, lt)

  kept_by : (list next : List Event) (k : ℕ) → Keeps list → IsTried Keeps list k next → Keeps next
  kept_by list next k keeps (inl gone) = subst Keeps (sym gone.1) gone.0
  kept_by list next k keeps (inr stays) = subst Keeps (sym stays.1) keeps

  -- what is to be kept is kept
  pub all_kept : (k : ℕ) (list short : List Event) → Keeps list → Shortens Keeps k list short → Keeps short
  all_kept zero list short keeps same = subst Keeps (sym same) keeps
  all_kept (suc k) list short keeps shortens = all_kept k shortens.0 short (kept_by list shortens.0 k keeps shortens.1) shortens.2

  -- an event goes or stays
  pub tried_gone : (list others next : List Event) (k : ℕ) → others ≡ remove list k → Keeps others
      → next ≡ remove list k → IsTried Keeps list k next
  tried_gone list others next k is keeps gone = inl (subst Keeps is keeps, gone)

  pub tried_stays : (list others next : List Event) (k : ℕ) → others ≡ remove list k → (Keeps others → ⊥) → next ≡ list
      → IsTried Keeps list k next
  tried_stays list others next k is needs same = inr (λ h. needs (subst Keeps (sym is) h), same)

  -- all events of a list, from the last to the first
  pub none_tried : (all : ℕ) (list events : List Event) → list ≡ events → (short : List Event)
      → Shortens Keeps (all - 0) list short → Shortens Keeps all events short
  none_tried all list events is short rest =
      let here : all - 0 ≡ all = omega arith in
      subst (λ (l : List Event). Shortens Keeps all l short) is (subst (λ (k : ℕ). Shortens Keeps k list short) here rest)

  pub next_tried : (all tried place : ℕ) (list next : List Event) (G : List Event → Type 0) → tried < all
      → place ≡ all - tried - 1 → IsTried Keeps list place next
      → ((short : List Event) → Shortens Keeps (all - tried) list short → G short)
      → (short : List Event) → Shortens Keeps (all - (tried + 1)) next short → G short
  next_tried all tried place list next G lt at is before short rest =
      let left : all - (tried + 1) ≡ place = omega (arith, lt, at) in
      tried_next (all - tried) place list next G (omega (arith, lt, at)) is before short (subst (λ (k : ℕ). Shortens Keeps k next short) left rest)

  pub next_there : (all tried place : ℕ) (list next : List Event) → tried < all → place ≡ all - tried - 1
      → all - tried ≤ length list → IsTried Keeps list place next → all - (tried + 1) ≤ length next
  next_there all tried place list next lt at there is =
      let long = tried_long place list next (omega (arith, lt, at, there)) is in
      omega (arith, lt, at, long)

  pub all_tried : (all tried : ℕ) (list : List Event) (G : List Event → Type 0) → all ≤ tried
      → ((short : List Event) → Shortens Keeps (all - tried) list short → G short) → G list
  all_tried all tried list G le before =
      let none : 0 ≡ all - tried = omega (arith, le) in
      before list (subst (λ (k : ℕ). Shortens Keeps k list list) none refl)
