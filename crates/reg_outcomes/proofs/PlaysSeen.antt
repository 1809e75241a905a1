-- What is known of the plays so far.
use Rattle.std.proofs.Common.{◌≡◌, ◌↔◌, inl, inr, ℕ, ◌+◌, ◌<◌, Bool, true, false, List, [], ◌∷◌, ◌++◌, length, None}
use Rattle.std.proofs.Common.{Result, Ok, Err, refl, ap, ap₂, sym, ◌∙◌, subst, arith, length-append}
use Rattle.std.specs.Prelude.{OnOk, ◌^◌, ◌-◌}
use Rattle.std.specs.BTreeMap.{BTreeMap}
use Rattle.std.proofs.lemmas.Bool.{cases_eq, false≢true}
use Rattle.rand_core.specs.Pcg32Seed.{pcg32_seed}
use Rattle.rand_pcg.specs.Lcg.{Lcg}
use Rattle.rand_pcg.specs.Pcg.{pcg32, pcg32_of_seed}
use Rattle.reg_base.specs.Shape.{Extent}
use Rattle.reg_base.specs.declared.memory.Op.{Op}
use Rattle.reg_base.specs.declared.memory.OpId.{OpId}
use Rattle.reg_front.specs.declared.starts.Start.{Start}
use Rattle.reg_front.specs.Fronts.{KeepsLaws}
use Rattle.reg_checkers.specs.declared.entries.Entry.{Entry}
use Rattle.reg_checkers.specs.History.{IsAt}
use Rattle.reg_checkers.proofs.Places.{get_push_other, same_at}
use Rattle.reg_outcomes.specs.declared.told.ToldAnswer.{ToldAnswer}
use Rattle.reg_outcomes.specs.declared.tables.tallies.Tally.{Tally}
use Rattle.reg_outcomes.specs.Told.{outcome_of}
use Rattle.reg_outcomes.specs.PlayTables.{Seen}
use Rattle.reg_outcomes.specs.Counts.{IsCounted}
use Rattle.reg_outcomes.proofs.Those.{at_new, those_few}
use Rattle.reg_inputs.specs.Loads.{Load}
use Rattle.reg_workload.specs.Plays.{IsPlay, calls_of, script_of}
use Rattle.reg_workload.specs.Seeded.{seeded_play}
use Rattle.reg_world.specs.Worlds.{Made, run_in}
use Rattle.reg_world.specs.Keys.{IsWitness}
use Rattle.reg_world.specs.RealTime.{KeepsRealTime}
use Rattle.reg_world.specs.World.{run_of, whole}
use Rattle.reg_outcomes.specs.declared.faults.InterleavingFault.{InterleavingFault}
use Rattle.reg_outcomes.specs.declared.faults.InterleavingFault.TheVariants.{TooManyStages, OutOfMemory}
use Rattle.reg_outcomes.specs.declared.orders.kinds.OrderKind.TheVariants.{Points}
use Rattle.reg_outcomes.specs.declared.interleavings.outcomes.TheConstants.{MOST_STAGES}
use Rattle.reg_outcomes.specs.Finishing.{AllAnswered}
use Rattle.reg_outcomes.proofs.Answering.{used_where_answered}
use Rattle.reg_outcomes.specs.Finding.{IsFindFault, IsWiderSearch}
use Rattle.reg_outcomes.specs.Outcomes.{AreSeen, HasLateWitness, IsLinearizable, IsPlayFault, IsPlaysFault, IsSeen}
use Rattle.reg_outcomes.specs.Outcomes.{play_from, seed_at}
use Rattle.reg_outcomes.specs.Timing.{IsSeenIn}

pub on_ok : {T E : Type 0} {P Q : Type 0} (r : Result T E) → (P → Q) → OnOk r P → OnOk r Q
on_ok (Ok x) f p = f p
on_ok (Err e) f p = tt

-- the play by these words is the one from their seed
pub is_play_from : (start : Op → ℕ → Start) (work : Load) (seed : ℕ) (made : Made) (words : Lcg)
    → made ≡ (seeded_play start pcg32 work.shape work.scripts work.loss work.repeat work.budget words).0.made
    → words ≡ pcg32_of_seed (pcg32_seed 16 seed) → made ≡ play_from start work seed
unfolding play_from
is_play_from start work seed made words is from = is ∙ ap (λ (w : Lcg). (seeded_play start pcg32 work.shape work.scripts work.loss work.repeat work.budget w).0.made) from

pub told_by : (shape : Extent) (made : Made) (entries : List Entry) (outcome : List ToldAnswer)
    → outcome ≡ outcome_of shape.processes entries → shape.processes ≡ made.processes → entries ≡ made.history
    → outcome ≡ outcome_of made.processes made.history
told_by shape made entries outcome is p h = is ∙ ap₂ outcome_of p h

-- whether it is linearizable, and why that was not found, by other names of its shape and its history
pub linear_by : (shape : Extent) (made : Made) (entries : List Entry) (b : Bool) → shape.registers ≡ made.registers
    → entries ≡ made.history → (b ≡ true) ↔ IsLinearizable shape.registers entries
    → (b ≡ true) ↔ IsLinearizable made.registers made.history
linear_by shape made entries b r h told = subst (λ (n : ℕ). (b ≡ true) ↔ IsLinearizable n made.history) r (subst (λ (es : List Entry). (b ≡ true) ↔ IsLinearizable shape.registers es) h told)

-- a play is finished where each operation of its scripts is answered
module _ (start : Op → ℕ → Start) (laws : KeepsLaws start) (shape : Extent) (scripts : List (List Op)) (budget : ℕ) (made : Made) (done : Bool) (play : IsPlay start shape scripts budget made done) where
  abbrev IsDoneAmong : ℕ → Type 0
  IsDoneAmong n = (p : ℕ) → p < length scripts → (calls_of p made.accepted ≡ script_of scripts p) × (((whole start n made.registers made.accepted).nodes p).state.running ≡ None)

  abbrev Agrees : ℕ → Type 0
  Agrees n = (whole start n made.registers made.accepted).accepted ≡ made.accepted → IsDoneAmong n ↔ AllAnswered scripts (whole start n made.registers made.accepted).history

  agrees : Agrees (length scripts)
  agrees accepted =
      let law = used_where_answered start scripts made.registers made.accepted laws accepted play.scripts in
      (λ all. law.0 (record { accepted = accepted; called = λ p lt. (all p lt).0; idle = λ p lt. (all p lt).1 }), λ answered p lt. let used = law.1 answered in (used.called p lt, used.idle p lt))

  pub finished_where_answered : shape.processes ≡ length scripts → (run_in start made).accepted ≡ made.accepted
      → made.history ≡ (run_in start made).history → (done ≡ true) ↔ AllAnswered scripts made.history
  finished_where_answered many accepted history =
      let both = subst Agrees (sym (play.processes ∙ many)) agrees accepted in (
        λ e. subst (λ (h : List Entry). AllAnswered scripts h) (sym history) (both.0 (λ p lt. let own = play.finished.0 e p lt in (own.calls, own.idle))),
        λ answered. play.finished.1 (λ p lt. let own = both.1 (subst (λ (h : List Entry). AllAnswered scripts h) history answered) p lt in record { calls = own.0; idle = own.1 }),
      )

module _ (start : Op → ℕ → Start) (work : Load) (seed : ℕ) (made : Made) (is : made ≡ play_from start work seed) where
  moved : (P : Made → Type 0) → P made → P (play_from start work seed)
  moved P h = subst P is h

  outcome_here : (outcome : List ToldAnswer) (done : Bool) → IsPlay start work.shape work.scripts work.budget made done → outcome ≡ outcome_of made.processes made.history → outcome ≡ outcome_of work.shape.processes (play_from start work seed).history
  outcome_here outcome done play told = moved (λ m. outcome ≡ outcome_of work.shape.processes m.history) (told ∙ ap (λ n. outcome_of n made.history) play.processes)

  time_here : (s : Seen) (done : Bool) → IsPlay start work.shape work.scripts work.budget made done → (s.linearizable ≡ true) ↔ IsLinearizable made.registers made.history → (s.linearizable ≡ true) ↔ IsLinearizable work.shape.registers (play_from start work seed).history
  time_here s done play told =
      moved (λ m. (s.linearizable ≡ true) ↔ IsLinearizable work.shape.registers m.history) (subst (λ (n : ℕ). (s.linearizable ≡ true) ↔ IsLinearizable n made.history) play.registers told)

  -- it is finished where each operation is answered
  abbrev IsAnswered : Bool → Type 0
  IsAnswered done = (done ≡ true) ↔ AllAnswered work.scripts made.history

  answered_here : (done : Bool) → IsAnswered done → (done ≡ true) ↔ AllAnswered work.scripts (play_from start work seed).history
  answered_here done answered = moved (λ m. (done ≡ true) ↔ AllAnswered work.scripts m.history) answered

  -- a finished play
  pub seen_finished : (s : Seen) (done : Bool) → done ≡ true
      → IsPlay start work.shape work.scripts work.budget made done → IsAnswered done → IsSeenIn made seed s
      → IsSeen start work seed s
  seen_finished s done all play answered seen = record {
    seeded = seen.seeded;
    finished = moved (λ m. IsPlay start work.shape work.scripts work.budget m s.is_finished) (subst (λ (b : Bool). IsPlay start work.shape work.scripts work.budget made b) (all ∙ sym seen.finished) play);
    answered = subst (λ (b : Bool). (b ≡ true) ↔ AllAnswered work.scripts (play_from start work seed).history) (all ∙ sym seen.finished) (answered_here done answered);
    events = moved (λ m. s.events ≡ length m.accepted) seen.events;
    outcome = outcome_here s.outcome done play seen.outcome;
    time = λ _. time_here s done play seen.time;
  }

  -- one that is not
  unfinished_play : Seen
  unfinished_play = record { seed = seed; is_finished = false; events = length made.accepted; outcome = outcome_of made.processes made.history; linearizable = false }

  pub seen_unfinished : (done : Bool) → done ≡ false → IsPlay start work.shape work.scripts work.budget made done
      → IsAnswered done → (s : Seen) × IsSeen start work seed s × (s.is_finished ≡ false)
  unfolding unfinished_play
  seen_unfinished done open_still play answered = (
    unfinished_play,
    record {
      seeded = refl;
      finished = moved (λ m. IsPlay start work.shape work.scripts work.budget m false) (subst (λ (b : Bool). IsPlay start work.shape work.scripts work.budget made b) open_still play);
      answered = subst (λ (b : Bool). (b ≡ true) ↔ AllAnswered work.scripts (play_from start work seed).history) open_still (answered_here done answered);
      events = moved (λ m. length made.accepted ≡ length m.accepted) refl;
      outcome = outcome_here (outcome_of made.processes made.history) done play refl;
      time = λ e. absurd (false≢true e);
    },
    refl,
  )

  -- one whose search is too wide
  pub play_fault : (done : Bool) → done ≡ true → IsPlay start work.shape work.scripts work.budget made done
      → (fault : InterleavingFault) → IsFindFault Points made.processes made.registers made.history MOST_STAGES fault
      → (fault ≡ TooManyStages → HasLateWitness start made) → IsPlayFault start work seed fault
  play_fault done all play TooManyStages wide late = record {
    finished = moved (λ m. IsPlay start work.shape work.scripts work.budget m true) (subst (λ (b : Bool). IsPlay start work.shape work.scripts work.budget made b) all play);
    late = moved (HasLateWitness start) (late refl);
    wider = moved (λ m. IsWiderSearch Points work.shape.processes work.shape.registers m.history MOST_STAGES)
        (subst (λ (n : ℕ). IsWiderSearch Points work.shape.processes n made.history MOST_STAGES) play.registers (subst (λ (n : ℕ). IsWiderSearch Points n made.registers made.history MOST_STAGES) play.processes wide));
  }
  play_fault done all play OutOfMemory h late = tt

-- why it isn't found whether a run is linearizable, of its history and its witness
pub late_fault : (start : Op → ℕ → Start) (made : Made) (shape : Extent) (h : List Entry) (ids order : List OpId)
    (fault : InterleavingFault)
    → shape ≡ record { processes = made.processes; registers = made.registers } → h ≡ made.history
    → IsWitness (run_of made.registers (run_in start made)) ids → order ≡ ids
    → IsFindFault Points shape.processes shape.registers h MOST_STAGES fault → (fault ≡ TooManyStages → ¬ KeepsRealTime h order)
    → IsFindFault Points made.processes made.registers made.history MOST_STAGES fault × (fault ≡ TooManyStages → HasLateWitness start made)
late_fault start made shape h ids order fault shaped told witness same why late = (
  subst (λ (es : List Entry). IsFindFault Points made.processes made.registers es MOST_STAGES fault) told (subst (λ (e : Extent). IsFindFault Points e.processes e.registers h MOST_STAGES fault) shaped why),
  λ wide. (ids, witness, λ keeps. late wide (subst (λ (es : List Entry). KeepsRealTime es order) (sym told) (subst (λ (l : List OpId). KeepsRealTime made.history l) (sym same) keeps))),
)

-- the fault of one of so many plays is theirs
pub plays_fault : (start : Op → ℕ → Start) (work : Load) (plays k : ℕ) → k < plays → (fault : InterleavingFault)
    → IsPlayFault start work (seed_at work k) fault → IsPlaysFault start work plays fault
plays_fault start work plays k lt TooManyStages wider = (k, lt, wider)
plays_fault start work plays k lt OutOfMemory h = tt

-- one play more
pub seen_next : (start : Op → ℕ → Start) (work : Load) (n : ℕ) (seen : List Seen) (s : Seen) → AreSeen start work n seen
    → IsSeen start work (seed_at work n) s → AreSeen start work (n + 1) (seen ++ s ∷ [])
seen_next start work n seen s known here = record {
  count = (let c = known.count in let l = length-append seen (s ∷ []) in omega (arith, c, l));
  each = λ k x h. elim (cases_eq k (length seen)) [
    | inl e ↦
        let same : s ≡ x = same_at (seen ++ s ∷ []) k s x (subst (λ (j : ℕ). IsAt (seen ++ s ∷ []) j s) (sym e) (at_new seen s)) h in
        subst (λ (y : Seen). IsSeen start work (seed_at work k) y) same (subst (λ (j : ℕ). IsSeen start work (seed_at work j) s) (sym (e ∙ known.count)) here)
    | inr ne ↦ known.each k x (sym (get_push_other seen k s ne) ∙ h)
  ];
}

pub unfinished_few : {K : Type 0} (items : K → List ToldAnswer) (seen : List Seen) (told : BTreeMap K Tally)
    (unfinished n : ℕ)
    → IsCounted items seen told unfinished → length seen ≡ n → n < 1000000 → unfinished < 2 ^ 32 - 1
unfinished_few items seen told unfinished n counted many few =
    let others = counted.others in
    let l = those_few others.1 in
    let e = others.2 in
    omega (arith, l, e, many, few)
