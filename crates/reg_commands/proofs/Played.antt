-- The report of a play, by what its player and its world answer.
use Rattle.std.proofs.Common.{◌≡◌, ◌<◌, ℕ, Bool, true, false, List, length, Option, Result, Ok, Err, refl, sym, ◌∙◌}
use Rattle.std.proofs.Common.{subst}
use Rattle.std.specs.Prelude.{IfOk}
use Rattle.rand_core.specs.Pcg32Seed.{pcg32_seed}
use Rattle.rand_pcg.specs.Lcg.{Lcg}
use Rattle.rand_pcg.specs.Pcg.{pcg32, pcg32_of_seed}
use Rattle.reg_base.specs.declared.memory.Op.{Op}
use Rattle.reg_front.specs.declared.named.Front.{Front}
use Rattle.reg_front.specs.declared.starts.Start.{Start}
use Rattle.reg_checkers.specs.declared.entries.Point.{Point}
use Rattle.reg_history.specs.Reports.{Contents}
use Rattle.reg_world.specs.Worlds.{Made}
use Rattle.reg_inputs.specs.Loads.{Load}
use Rattle.reg_inputs.specs.Schedules.{Plan}
use Rattle.reg_workload.specs.Plays.{IsPlay}
use Rattle.reg_workload.specs.Fair.{TakesInOrder}
use Rattle.reg_workload.specs.Rounds.{fair_play}
use Rattle.reg_workload.specs.Seeded.{seeded_play}
use Rattle.reg_commands.specs.Replays.{plan_in, start_of, Shows, PointsOf}
use Rattle.reg_commands.specs.Plays.{PlaysAs, play_made, IsPlayBy, plan_of, ShowsPlay, IsReportOfPlay}

module _ {P E : Type 0} (world : P → Made) (is_finished : P → Bool) (fair : Bool) (start : Op → ℕ → Start) (work : Load) where
  by_player : (which : Bool) → fair ≡ which → (answer : Result P E) → IfOk answer (λ p. world p ≡ play_made which start work)
      → IfOk answer (λ p. IsPlay start work.shape work.scripts work.budget (world p) (is_finished p)) → IfOk answer (λ p. PlaysAs which work (world p) (is_finished p))
      → IfOk answer (λ p. IsPlayBy fair start work (world p) (is_finished p))
  by_player which is (Ok p) same play player = record {
    same = subst (λ (f : Bool). world p ≡ play_made f start work) (sym is) same;
    play = play;
    player = subst (λ (f : Bool). PlaysAs f work (world p) (is_finished p)) (sym is) player;
  }
  by_player which is (Err e) same play player = tt

  both : (answer : Result P E) → IfOk answer (λ p. TakesInOrder (world p).accepted) → IfOk answer (λ p. length (world p).accepted < work.budget → is_finished p ≡ true)
      → IfOk answer (λ p. PlaysAs true work (world p) (is_finished p))
  both (Ok p) order done = (order, done)
  both (Err e) order done = tt

  pub by_fair : fair ≡ true → (answer : Result P E)
      → IfOk answer (λ p. world p ≡ (fair_play start work.shape work.scripts work.budget).made)
      → IfOk answer (λ p. IsPlay start work.shape work.scripts work.budget (world p) (is_finished p)) → IfOk answer (λ p. TakesInOrder (world p).accepted)
      → IfOk answer (λ p. length (world p).accepted < work.budget → is_finished p ≡ true) → IfOk answer (λ p. IsPlayBy fair start work (world p) (is_finished p))
  unfolding play_made
  by_fair is answer same play order done = by_player true is answer same play (both answer order done)

  pub by_seed : fair ≡ false → (words : Lcg) → words ≡ pcg32_of_seed (pcg32_seed 16 work.seed) → (answer : Result P E)
      → IfOk answer (λ p. world p ≡ (seeded_play start pcg32 work.shape work.scripts work.loss work.repeat work.budget words).0.made)
      → IfOk answer (λ p. IsPlay start work.shape work.scripts work.budget (world p) (is_finished p))
      → IfOk answer (λ p. PlaysAs false work (world p) (is_finished p)) → IfOk answer (λ p. IsPlayBy fair start work (world p) (is_finished p))
  unfolding play_made
  by_seed is words seeded answer same play done =
      by_player false is answer (subst (λ (w : Lcg). IfOk answer (λ p. world p ≡ (seeded_play start pcg32 work.shape work.scripts work.loss work.repeat work.budget w).0.made)) seeded same) play done

as_plan : (work : Load) (front : Front) (names : List (List ℕ)) (made : Made) → front ≡ work.front → names ≡ work.names
    → plan_in front names made ≡ plan_of work made
as_plan work front names made same_front same_names = rw (same_front, same_names) refl

pub play_shown : {E : Type 0} (fair : Bool) (start : Op → ℕ → Start) (work : Load) (front : Front)
    (names : List (List ℕ)) (made : Made) (is_finished : Bool) (AreSo : Plan → Option (List Point) → Type 0)
    (report : Result Contents E)
    → front ≡ work.front → names ≡ work.names → IsPlayBy fair start work made is_finished → IfOk report (λ r. Shows start (plan_in front names made) r) → IfOk report (λ r. AreSo (plan_in front names made) r.points)
    → IfOk report (λ r. ShowsPlay fair start work AreSo r)
play_shown fair start work front names made is_finished AreSo (Ok r) same_front same_names played shows points =
    let same : plan_in front names made ≡ plan_of work made = as_plan work front names made same_front same_names in
    record {
      made = made;
      is_finished = is_finished;
      played = played;
      shows = subst (λ (p : Plan). Shows start p r) same shows;
      points = subst (λ (p : Plan). AreSo p r.points) same points;
    }
play_shown fair start work front names made is_finished AreSo (Err e) same_front same_names played shows points = tt

-- the report of a play, by the front end that the workload has
pub shown_by : {E : Type 0} (fair : Bool) (front kept : Front) (work : Load) (report : Result Contents E)
    → kept ≡ work.front → kept ≡ front → IfOk report (λ r. ShowsPlay fair (start_of front) work (PointsOf front) r)
    → IfOk report (λ r. IsReportOfPlay fair work r)
shown_by fair front kept work report same is shown =
    subst (λ (f : Front). IfOk report (λ r. ShowsPlay fair (start_of f) work (PointsOf f) r)) (sym is ∙ same) shown
