use Rattle.std.proofs.Common.{ℕ, ◌≡◌, ◌+◌, ◌*◌, ◌≤◌, ◌∙◌, ap, sym, subst, map, Bool, List, length, arith}
use Rattle.std.proofs.lemmas.List.{length-map}
use Rattle.reg_base.specs.declared.memory.Op.{Op}
use Rattle.reg_base.specs.Shape.{Extent}
use Rattle.reg_front.specs.declared.starts.Start.{Start}
use Rattle.reg_world.specs.Worlds.{Made}
use Rattle.reg_workload.specs.Plays.{Playing, IsPlay, cursor_at, new_play}
use Rattle.reg_workload.specs.Rounds.{rounds, fair_play}
use Rattle.reg_world.specs.Worlds.{run_in}
use Rattle.reg_workload.specs.Fair.{TakesInOrder, most_for_call, most_fair_events}
use Rattle.reg_workload.specs.FairParts.{left_in, IsFair}
use Rattle.reg_workload.proofs.Load.{calls_in, few_events}
use Rattle.reg_workload.proofs.InOrder.{in_order}
use Rattle.reg_workload.proofs.Fairness.{begins_fair}
use Rattle.reg_workload.proofs.fair.play_fair.Goals as goal

played : (start : Op → ℕ → Start) (shape : Extent) (scripts : List (List Op)) (budget : ℕ) (first last : Playing)
    (w : Made)
    → w ≡ last.made → last ≡ rounds start budget budget first → first ≡ new_play shape scripts
    → w ≡ (fair_play start shape scripts budget).made
played start shape scripts budget first last w made went new =
    made ∙ ap Playing.made (went ∙ ap (rounds start budget budget) new)

pub play_rounds-requires-clause-fair : goal.play_rounds-requires-clause-fair
play_rounds-requires-clause-fair g c = begins_fair g.F.FrontEnd.start c.args.shape c.in_ok-player.player c.in_ok-player.ensures.made c.in_ok-player.ensures.cursors

pub returns-clause-play : goal.returns-clause-play
returns-clause-play g c =
    let went = c.in_ok-play_rounds.ensures.on in
    let same : c.play_rounds.new.player.scripts ≡ map (λ v. v.items) c.args.scripts.now = went.same ∙ c.in_ok-player.ensures.scripts in
    subst (λ (s : List (List Op)). IsPlay g.F.FrontEnd.start c.args.shape s c.args.budget c.end.result.world c.end.result.finished) same (c.end.ensures.play c.args.shape c.args.budget (went.processes ∙ ap (λ (m : Made). m.processes) c.in_ok-player.ensures.made) (went.registers ∙ ap (λ (m : Made). m.registers) c.in_ok-player.ensures.made) went.few)

pub returns-clause-in_order : goal.returns-clause-in_order
returns-clause-in_order g c =
    subst TakesInOrder (sym (ap (λ (m : Made). m.accepted) c.end.ensures.world)) (in_order g.F.FrontEnd.start c.play_rounds.new.player c.in_ok-play_rounds.ensures.fair)

pub returns-clause-finished : goal.returns-clause-finished
returns-clause-finished g c = λ less.
    let w = ap (λ (m : Made). length m.accepted) c.end.ensures.world in
    c.end.ensures.rest (c.in_ok-play_rounds.ensures.rest (omega (arith, w, less)))

pub new-requires-clause-playable : goal.new-requires-clause-playable
new-requires-clause-playable g c = c.requires.playable

pub play_rounds-requires-clause-going : goal.play_rounds-requires-clause-going
play_rounds-requires-clause-going g c = ap Made.failed c.in_ok-player.ensures.made

pub play_rounds-requires-clause-few : goal.play_rounds-requires-clause-few
play_rounds-requires-clause-few g c =
    let none = ap (λ (m : Made). length m.accepted) c.in_ok-player.ensures.made in omega (arith, none)

pub returns-clause-rounds : goal.returns-clause-rounds
returns-clause-rounds g c = played g.F.FrontEnd.start c.args.shape (map (λ v. v.items) c.args.scripts.now) c.args.budget c.in_ok-player.player c.play_rounds.new.player c.end.result.world c.end.ensures.world c.in_ok-play_rounds.ensures.value c.in_ok-player.ensures.value

-- no play has more events than its scripts can bring about
bounded : (start : Op → ℕ → Start) (shape : Extent) (scripts : List (List Op)) (budget : ℕ) (last : Playing) (w : Made)
    (finished : Bool)
    → length scripts ≡ shape.processes → IsPlay start shape scripts budget w finished → w ≡ last.made
    → IsFair start last → length w.accepted ≤ most_fair_events shape.processes scripts
bounded start shape scripts budget last w finished count P made F =
    let spent = subst (λ (m : Made). length m.accepted + left_in m.processes (run_in start m).nodes (cursor_at last) ≤ calls_in m.processes m.accepted * most_for_call m.processes) (sym made) F.spent in
    let here = subst (λ n. length w.accepted + left_in n (run_in start w).nodes (cursor_at last) ≤ calls_in n w.accepted * most_for_call n) P.processes spent in
    few_events shape.processes scripts w.accepted (length w.accepted) (left_in shape.processes (run_in start w).nodes (cursor_at last)) count P.scripts here

mapped : {X Y : Type 0} (f : X → Y) (xs : List X) (n : ℕ) → length xs ≡ n → length (map f xs) ≡ n
mapped f xs n e = length-map xs f ∙ e

pub returns-clause-few : goal.returns-clause-few
returns-clause-few g c =
    bounded g.F.FrontEnd.start c.args.shape (map (λ v. v.items) c.args.scripts.now) c.args.budget c.play_rounds.new.player c.end.result.world c.end.result.finished (mapped _ c.args.scripts.now _ c.requires.count) (returns-clause-play g c) c.end.ensures.world c.in_ok-play_rounds.ensures.fair

pub returns-clause-enough : goal.returns-clause-enough
returns-clause-enough g c =
    λ less. let few = returns-clause-few g c in returns-clause-finished g c (omega (arith, few, less))
