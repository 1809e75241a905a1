use Rattle.std.proofs.Common.{◌≡◌, ◌∙◌, ◌≤◌, ℕ, List, [], ap, slice_index_or, map, length, replicate, refl, arith}
use Rattle.std.specs.List.{each_same}
use Rattle.std.proofs.lemmas.List.{length-map, length-replicate}
use Rattle.reg_base.specs.declared.limits.TheConstants.{MOST_PROCESSES}
use Rattle.reg_base.specs.declared.memory.Op.{Op}
use Rattle.reg_base.specs.Shape.{Extent}
use Rattle.reg_world.specs.Worlds.{Made, new_world}
use Rattle.reg_workload.specs.Plays.{new_play}
use Rattle.reg_workload.proofs.Scripts.{begins}
use Rattle.reg_workload.proofs.Fairness.{none_behind}
use Rattle.reg_workload.proofs.playing.Player.new.Goals as goal

rows_counted : (cursors : List (List ℕ)) (n : ℕ) → cursors ≡ replicate n (replicate MOST_PROCESSES 0)
    → length cursors ≡ n
rows_counted cursors n rows = ap length rows ∙ length-replicate n (replicate MOST_PROCESSES 0)

scripts_counted : {V : Type 0} (items : V → List Op) (vs : List V) (n : ℕ) → length vs ≡ n → length (map items vs) ≡ n
scripts_counted items vs n count = length-map vs items ∙ count

new_is : (shape : Extent) (scripts : List (List Op)) (n : ℕ) (m : Made) (next : List ℕ) (cursors : List (List ℕ))
    → n ≡ shape.processes → m ≡ new_world shape → next ≡ replicate n 0
    → cursors ≡ replicate n (replicate MOST_PROCESSES 0)
    → record { made = m; scripts = scripts; next = next; cursors = cursors } ≡ new_play shape scripts
new_is shape scripts n m next cursors e w a b = rw (w, a, b, e) refl

none_yet : (cursors : List (List ℕ)) (n m a b : ℕ) → cursors ≡ replicate n (replicate m 0)
    → slice_index_or (slice_index_or cursors a []) b 0 ≡ 0
none_yet cursors n m a b rows =
    ap (λ (z : List (List ℕ)). slice_index_or (slice_index_or z a []) b 0) rows ∙ none_behind n m a b

pub invariant_of-result : goal.invariant_of-result
invariant_of-result g c =
    let count : c.processes-count.result ≡ c.args.shape.processes = c.processes-count.ensures.value in
    let few : c.args.shape.processes ≤ MOST_PROCESSES = let b = c.processes-count.ensures.in_range in omega (arith, count, b) in
    let next : c.in_ok-next.next.items ≡ replicate c.processes-count.result 0 = c.in_ok-next.ensures.items_if_clones_equal (λ y h. h) in
    let rows : c.in_ok-cursors.cursors.items ≡ replicate c.processes-count.result (replicate MOST_PROCESSES 0) = c.in_ok-cursors.ensures.items_if_clones_equal (λ y h. each_same (replicate MOST_PROCESSES 0) y h.whole) in
    let senders : length c.in_ok-cursors.cursors.items ≡ c.processes-count.result = rows_counted c.in_ok-cursors.cursors.items c.processes-count.result rows in
    let scripts : length (map (λ v. v.items) c.args.scripts.now) ≡ c.args.shape.processes = scripts_counted (λ v. v.items) c.args.scripts.now c.args.shape.processes c.requires.count in
    begins c.args.shape c.in_ok-world.world (map (λ v. v.items) c.args.scripts.now) c.in_ok-next.next.items c.processes-count.result c.in_ok-cursors.cursors.items c.in_ok-world.ensures few scripts count next senders c.requires.playable

pub returns-clause-cursors : goal.returns-clause-cursors
returns-clause-cursors g c = λ a b. none_yet c.in_ok-cursors.cursors.items c.processes-count.result MOST_PROCESSES a b (c.in_ok-cursors.ensures.items_if_clones_equal (λ y h. each_same (replicate MOST_PROCESSES 0) y h.whole))

pub returns-clause-value : goal.returns-clause-value
returns-clause-value g c =
    let rows : c.in_ok-cursors.cursors.items ≡ replicate c.processes-count.result (replicate MOST_PROCESSES 0) = c.in_ok-cursors.ensures.items_if_clones_equal (λ y h. each_same (replicate MOST_PROCESSES 0) y h.whole) in
    let next : c.in_ok-next.next.items ≡ replicate c.processes-count.result 0 = c.in_ok-next.ensures.items_if_clones_equal (λ y h. h) in
    new_is c.args.shape (map (λ v. v.items) c.args.scripts.now) c.processes-count.result c.in_ok-world.world c.in_ok-next.next.items c.in_ok-cursors.cursors.items c.processes-count.ensures.value c.in_ok-world.ensures next rows
