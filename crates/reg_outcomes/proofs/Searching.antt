-- A search for an order: what each turn leaves as it was, and that it ends.
use Rattle.std.proofs.Common.{◌≡◌, inl, inr, ℕ, zero, suc, ◌+◌, ◌-◌, ◌*◌, ◌<◌, ◌≤◌, List, [], ◌∷◌, ◌++◌, length, refl}
use Rattle.std.proofs.Common.{ap, sym, ◌∙◌, subst, arith, length-append}
use Rattle.std.proofs.Math.Nat.{mul-le-mul_right, suc-mul}
use Rattle.std.specs.Prelude.{slice_index}
use Rattle.std.specs.Int.{bit_at}
use Rattle.std.specs.BTreeMap.{BTreeMap}
use Rattle.std.proofs.lemmas.List.{length-map}
use Rattle.std.proofs.lemmas.Nat.Bits.{bit_at-zero}
use Rattle.reg_base.specs.declared.memory.OpId.{OpId}
use Rattle.reg_base.specs.Memory.{register_of}
use Rattle.reg_checkers.specs.declared.entries.Entry.{Entry}
use Rattle.reg_checkers.specs.History.{IsAt, IsHistory}
use Rattle.reg_checkers.specs.Progress.{op_of}
use Rattle.reg_outcomes.specs.declared.faults.InterleavingFault.{InterleavingFault}
use Rattle.reg_outcomes.specs.declared.faults.InterleavingFault.TheVariants.{TooManyStages, OutOfMemory}
use Rattle.reg_outcomes.specs.declared.interleavings.stages.Stage.{Stage as Held}
use Rattle.reg_outcomes.specs.declared.orders.choices.Choice.{Choice}
use Rattle.reg_outcomes.specs.declared.orders.failed.Failed.{Failed}
use Rattle.reg_outcomes.specs.declared.orders.finding.Turn.TheVariants.{On}
use Rattle.reg_outcomes.specs.declared.orders.kinds.OrderKind.{OrderKind}
use Rattle.reg_outcomes.specs.declared.orders.walk.Step.{Step}
use Rattle.reg_outcomes.specs.declared.orders.walk.Walk.{Walk}
use Rattle.reg_outcomes.specs.Finding.{IsFindFault, Places, placed_after}
use Rattle.reg_outcomes.specs.Interleavings.{Stage, first_stage}
use Rattle.reg_outcomes.specs.Layers.{stage_of}
use Rattle.reg_outcomes.specs.Placing.{HasRoomFor, IsComplete, IsOrder}
use Rattle.reg_outcomes.specs.Searching.{IsNextChoice, IsSearch, IsTurned, left, left_of, weight}
use Rattle.reg_outcomes.specs.Sought.{Sought}
use Rattle.reg_outcomes.specs.Walking.{AreTried, FitsIn, Goes, HasFailed, IsNoted, IsPath, Layers, Longer, NotesNone}
use Rattle.reg_outcomes.specs.Walking.{Overfills, Start, ids_of, stage_before, step_of}
use Rattle.reg_outcomes.proofs.Numbering.{behind, different_of, in_at, once_of, stages_of}
use Rattle.reg_outcomes.proofs.Placed.{in_bounds, room}
use Rattle.reg_outcomes.proofs.Serial.{serial_is, time_of}
use Rattle.reg_outcomes.proofs.Walking.{back_of, longer, places_of, short, told_none}

heavy : (d : ℕ) → 0 < weight d
heavy zero = omega arith
heavy (suc d) = let more = heavy d in omega (arith, more)

-- one choice more counts for more than what is new after it
fewer : (d a b : ℕ) → a < b → a * weight (suc d) + 18446744073709551617 * weight d < b * weight (suc d)
fewer d a b less =
    let most : suc a * weight (suc d) ≤ b * weight (suc d) = mul-le-mul_right (weight (suc d)) less in
    let one : suc a * weight (suc d) ≡ a * weight (suc d) + weight (suc d) = suc-mul a (weight (suc d)) in
    let some = heavy d in
    omega (arith, most, one, some)

pub left_more : (d : ℕ) (steps : List Step) (x : Step) (tried : ℕ) → length steps < d → tried < x.tried
    → x.tried ≤ 18446744073709551616 → left d (steps ++ x ∷ []) 0 < left d steps tried
left_more zero steps x tried inside less top = absurd (omega (arith, inside))
left_more (suc d) [] x tried inside less top =
    let e : suc d - 1 ≡ d = omega arith in
    subst (λ (k : ℕ). (18446744073709551616 - x.tried + 1) * weight (suc d) + 18446744073709551617 * weight k < (18446744073709551616 - tried + 1) * weight (suc d)) (sym e) (fewer d (18446744073709551616 - x.tried + 1) (18446744073709551616 - tried + 1) (omega (arith, less, top)))
left_more (suc d) (y ∷ steps) x tried inside less top =
    let e : suc d - 1 ≡ d = omega arith in
    let rest = subst (λ (k : ℕ). left k (steps ++ x ∷ []) 0 < left k steps tried) (sym e) (left_more d steps x tried (omega (arith, inside)) less top) in
    omega (arith, rest)

some_left : (d tried : ℕ) → 0 < (18446744073709551616 - tried + 1) * weight d
some_left d tried =
    let most : 1 * weight d ≤ (18446744073709551616 - tried + 1) * weight d = mul-le-mul_right (weight d) (omega arith) in
    let some = heavy d in
    omega (arith, most, some)

pub left_back : (d : ℕ) (steps : List Step) (x : Step) (tried : ℕ)
    → left d steps x.tried < left d (steps ++ x ∷ []) tried
left_back d [] x tried = let some = some_left (d - 1) tried in omega (arith, some)
left_back d (y ∷ steps) x tried = let rest = left_back (d - 1) steps x tried in omega (arith, rest)

start_is : (kind : OrderKind) (n registers : ℕ) (h : List Entry) (steps : List Step) (t : Stage)
    → IsPath kind n registers h steps t → steps ≡ [] → t ≡ first_stage n registers
start_is kind n registers h steps t Start e = refl
start_is kind n registers h steps t (Longer {steps = old} {s = from} c path known placed tried) e =
    let l = length-append old (step_of c from ∷ []) in let none = ap length e in absurd (omega (arith, l, none))

module _ (s : Sought) where
  abbrev n : ℕ
  n = s.shape.processes

  abbrev registers : ℕ
  registers = s.shape.registers

  module _ {A : Type 0} where
    -- a search at its start
    pub starts : (walk : Walk A) (failed : Failed A) → stage_of walk.stage ≡ first_stage n registers → walk.tried ≡ 0 → walk.path.items ≡ [] → failed.layers.items ≡ [] → failed.limit ≡ s.limit → IsSearch s walk failed
    starts walk failed stage tried path none limit = record {
      path = subst (λ (t : Stage). IsPath s.kind n registers s.entries walk.path.items t) (sym stage) (subst (λ (l : List Step). IsPath s.kind n registers s.entries l (first_stage n registers)) (sym path) Start);
      tried = λ q t bit step go. let zero_bit = bit_at-zero q in let bit0 : bit_at 0 q ≡ 1 = ap (λ (m : ℕ). bit_at m q) (sym tried) ∙ bit in omega (arith, zero_bit, bit0);
      fails = λ k f has. absurd (nothing k has.0 (subst (λ (l : Layers A). IsAt l k has.0) none has.2));
      limit = limit;
    }
      where
        nothing : (k : ℕ) (layer : BTreeMap (Held A) (Unit {0})) → IsAt [] k layer → ⊥
        nothing k layer at = cc

    -- where no stage more is kept, it stands where it stood
    pub keeps : (walk : Walk A) (old new : Failed A) → IsSearch s walk old → NotesNone old.layers.items new.layers.items → new.limit ≡ old.limit → IsSearch s walk new
    keeps walk old new is none limit = record { path = is.path; tried = is.tried; fails = λ k f has. is.fails k f (none k f has); limit = limit ∙ is.limit }

    module _ (good : IsHistory n registers s.entries) (walk : Walk A) (failed : Failed A) (is : IsSearch s walk failed) where
      abbrev here : Stage
      here = stage_of walk.stage

      abbrev ids : List OpId
      ids = ids_of walk.path.items

      places : Places s.kind n registers s.entries ids here
      places = places_of s.kind n registers s.entries walk.path.items here is.path

      pub has_room : HasRoomFor n registers here
      has_room = room s.kind n registers s.entries ids here places

      -- what can be placed
      pub may_place : (c : Choice) → IsNextChoice s walk c → (c.process < length walk.stage.next.items) × (register_of c.op < length walk.stage.memory.items) × (slice_index walk.stage.next.items c.process < 4294967295) × (walk.stage.told.items ≡ [])
      may_place c next =
          let sizes = has_room in
          let bounds = in_bounds s.kind n registers s.entries good (op_of c.process (slice_index here.next c.process)) next.placed.at next.placed.op next.placed.called in
          let process = next.process in
          let register = next.register in
          let size = sizes.next in
          let values = sizes.memory in
          let number = bounds.2 in
          (omega (arith, process, size), omega (arith, register, values), omega (arith, number), told_none s.kind n registers s.entries good walk.path.items here is.path)

      -- and the search goes on there
      pub goes_on : (c : Choice) (new : Walk A) → IsNextChoice s walk c → stage_of new.stage ≡ placed_after c.process c.op here → new.tried ≡ 0 → new.path.items ≡ walk.path.items ++ step_of c here ∷ [] → IsTurned s walk new failed On
      goes_on c new next stage tried path =
          let longer_path = longer s.kind n registers s.entries good walk.path.items here walk.tried c is.path is.tried next in
          let whole : IsPath s.kind n registers s.entries new.path.items (stage_of new.stage) = subst (λ (t : Stage). IsPath s.kind n registers s.entries new.path.items t) (sym stage) (subst (λ (l : List Step). IsPath s.kind n registers s.entries l (placed_after c.process c.op here)) (sym path) longer_path) in
          let most = short s.kind n registers s.entries good (walk.path.items ++ step_of c here ∷ []) (placed_after c.process c.op here) longer_path in
          let long = length-append walk.path.items (step_of c here ∷ []) in
          let less = left_more (length s.entries) walk.path.items (step_of c here) walk.tried (omega (arith, most, long)) next.more (let top = next.top in omega (arith, top)) in (
            record {
              path = whole;
              tried = λ q t bit step go. let zero_bit = bit_at-zero q in let bit0 : bit_at 0 q ≡ 1 = ap (λ (m : ℕ). bit_at m q) (sym tried) ∙ bit in omega (arith, zero_bit, bit0);
              fails = is.fails;
              limit = is.limit;
            },
            subst (λ (l : List Step). left (length s.entries) l new.tried < left_of s walk) (sym path) (subst (λ (m : ℕ). left (length s.entries) (walk.path.items ++ step_of c here ∷ []) m < left_of s walk) (sym tried) less),
          )

      -- a stage that is known to fail
      pub known : (placed : ℕ) → placed ≡ length walk.path.items → HasFailed failed.layers.items placed here → ¬ Goes s.kind s.entries here
      known placed same has = (is.fails placed here has).0

      -- one stage more is kept
      pub noted : (new : Failed A) (placed : ℕ) (t : Stage) → placed ≡ length walk.path.items → t ≡ here → (¬ Goes s.kind s.entries here) → IsNoted placed t failed.layers.items new.layers.items → new.limit ≡ failed.limit → IsSearch s walk new
      noted new placed t same stage none is_noted limit = record {
        path = is.path;
        tried = is.tried;
        fails = λ k f has. elim (is_noted k f has) [
          | inl old ↦ is.fails k f old
          | inr (at, e) ↦ (
            λ go. none (subst (λ (x : Stage). Goes s.kind s.entries x) (e ∙ stage) go),
            (ids, subst (λ (x : Stage). Places s.kind n registers s.entries ids x) (sym (e ∙ stage)) places, length-map walk.path.items (λ (x : Step). x.id) ∙ sym (at ∙ same)),
          )
        ];
        limit = limit ∙ is.limit;
      }

      -- or there are too many
      pub over_full : (placed : ℕ) (t : Stage) (fault : InterleavingFault) → placed ≡ length walk.path.items → t ≡ here → Overfills failed.limit placed t failed.layers.items fault → IsFindFault s.kind n registers s.entries s.limit fault
      over_full placed t TooManyStages same stage (layer, at, over) = record {
        placed = placed;
        stages = stages_of over.found;
        more = (let l = length-map over.found (λ f. f.0) in let m = over.more in let k = is.limit in omega (arith, l, m, k));
        once = once_of (stages_of over.found) (different_of over.found over.apart);
        led = λ i x here_at. (
            let there = behind over.found x (in_at (stages_of over.found) i x here_at) in
            let f : Stage × List ℕ = there.0 in
            elim (over.only f there.1) [
              | inl old ↦ (is.fails placed x (layer, f, at, old, there.2)).1
              | inr new ↦
                  let e : x ≡ here = sym there.2 ∙ ap (λ (g : Stage × List ℕ). g.0) new ∙ stage in
                  (ids, subst (λ (y : Stage). Places s.kind n registers s.entries ids y) (sym e) places, length-map walk.path.items (λ (y : Step). y.id) ∙ sym same)
            ]
            );
      }
      over_full placed t OutOfMemory same stage over = tt

      -- the last operation fits
      pub fits : (steps : List Step) (x : Step) → walk.path.items ≡ steps ++ x ∷ [] → FitsIn x here
      fits steps x e = (back_of s.kind n registers s.entries good steps walk.path.items x here e is.path).fits

      -- it is taken back
      pub goes_back : (x : Step) (new : Walk A) → (¬ Goes s.kind s.entries here) → walk.path.items ≡ new.path.items ++ x ∷ [] → stage_of new.stage ≡ stage_before x here → new.tried ≡ x.tried → IsTurned s walk new failed On
      goes_back x new none path stage tried =
          let back = back_of s.kind n registers s.entries good new.path.items walk.path.items x here path is.path in
          let less = left_back (length s.entries) new.path.items x walk.tried in (
            record {
              path = subst (λ (t : Stage). IsPath s.kind n registers s.entries new.path.items t) (sym stage) back.path;
              tried = subst (λ (t : Stage). AreTried s.kind s.entries t new.tried) (sym stage) (subst (λ (m : ℕ). AreTried s.kind s.entries (stage_before x here) m) (sym tried) (back.tried none));
              fails = is.fails;
              limit = is.limit;
            },
            subst (λ (m : ℕ). left (length s.entries) new.path.items m < left_of s walk) (sym tried) (subst (λ (l : List Step). left (length s.entries) new.path.items x.tried < left (length s.entries) l walk.tried) (sym path) less),
          )

      -- or there is none
      pub over : walk.path.items ≡ [] → (¬ Goes s.kind s.entries here) → ¬ Goes s.kind s.entries (first_stage n registers)
      over path none go = none (subst (λ (t : Stage). Goes s.kind s.entries t) (sym (start_is s.kind n registers s.entries walk.path.items here is.path path)) go)

      -- all finished operations are placed
      pub order_is : (found : List OpId) → found ≡ ids → IsComplete s.entries walk.stage.next.items → IsOrder s.kind registers s.entries found
      order_is found same complete = subst (λ (l : List OpId). IsOrder s.kind registers s.entries l) (sym same) (record {
        serial = serial_is s.kind n registers s.entries good ids here places complete;
        time = time_of n registers s.entries good s.kind ids here places;
      })
