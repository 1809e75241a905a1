-- Entries placed one after another.
use Rattle.std.proofs.Common.{◌≡◌, ℕ, zero, suc, ◌+◌, ◌<◌, ◌≤◌, List, [], ◌∷◌, ◌++◌, length, take, get_or, Option, Some}
use Rattle.std.proofs.Common.{None, refl, ap, sym, ◌∙◌, subst, arith, length-append}
use Rattle.std.proofs.Math.Seq.{take-length}
use Rattle.std.specs.Prelude.{slice_index}
use Rattle.std.proofs.lemmas.Option.{same_Some, slice_get-get_or}
use Rattle.std.proofs.lemmas.List.{take-append-le}
use Rattle.reg_base.specs.declared.limits.TheConstants.{MOST_EVENTS}
use Rattle.reg_base.specs.declared.memory.Op.{Op}
use Rattle.reg_base.specs.Shape.{Extent}
use Rattle.reg_front.specs.declared.starts.Start.{Start}
use Rattle.reg_process.specs.declared.events.Event.{Event}
use Rattle.reg_checkers.proofs.Places.{get_push_same}
use Rattle.reg_world.specs.Worlds.{Made, run_in, with_event, new_world}
use Rattle.reg_records.specs.declared.entries.LogEntry.{LogEntry}
use Rattle.reg_records.specs.Playing.{AreTallied, IsEntry, IsEventOf}
use Rattle.reg_records.specs.Records.{Turn, Plays, entry_of, mentions}
use Rattle.reg_records.specs.Merges.{IsRun, IsGreatest, IsBlocked, IsFull}
use Rattle.reg_records.specs.Placing.{Stand, IsPlacing, IsNew, GoesOnBy, CannotGo, NoEntry, shape_of}
use Rattle.reg_records.proofs.Alone.{at_front, few_mentions}
use Rattle.reg_records.proofs.Further.{none_has_more, none_passes}
use Rattle.reg_records.proofs.MergeVerdicts.{has_log}

-- a run of mentions is one of a longer list too
plays_more : (start : Op → ℕ → Start) (shape : Extent) (logs : List (List LogEntry)) (order more : List ℕ) (k : ℕ)
    (w : Made)
    → k ≤ length order → Plays start shape order logs k w → Plays start shape (order ++ more) logs k w
plays_more start shape logs order more zero w le plays = plays
plays_more start shape logs order more (suc k) w le (before, plays, t) = (
  before,
  plays_more start shape logs order more k before (omega arith) plays,
  record {
    process = t.process;
    entry = t.entry;
    event = t.event;
    mention = at_front order more k t.process t.mention;
    stands = subst (λ (xs : List ℕ). entry_of logs t.process (mentions t.process xs) ≡ Some t.entry) (sym (take-append-le k order more (omega arith))) t.stands;
    move = t.move;
    reply = t.reply;
    then = t.then;
  },
)

-- with one entry more it is a run still
pub run_more : (start : Op → ℕ → Start) (logs : List (List LogEntry)) (order : List ℕ) (w : Made) (p : ℕ)
    (entry : LogEntry) (e : Event)
    → IsRun start (shape_of w) logs order w → entry_of logs p (mentions p order) ≡ Some entry
    → IsEntry start w p entry e
    → IsRun start (shape_of w) logs (order ++ p ∷ []) (with_event start w e)
run_more start logs order w p entry e runs stands is =
    let len : suc (length order) ≡ length (order ++ p ∷ []) = let l = length-append order (p ∷ []) in omega (arith, l) in
    let front : take (length order) (order ++ p ∷ []) ≡ order = take-append-le (length order) order (p ∷ []) (omega arith) ∙ take-length order in
    let turn : Turn start (order ++ p ∷ []) logs (length order) w (with_event start w e) = record {
      process = p;
      entry = entry;
      event = e;
      mention = get_push_same order (length order) p refl;
      stands = subst (λ (xs : List ℕ). entry_of logs p (mentions p xs) ≡ Some entry) (sym front) stands;
      move = is.move;
      reply = is.reply;
      then = refl;
    } in
    subst (λ (k : ℕ). Plays start (shape_of w) (order ++ p ∷ []) logs k (with_event start w e)) len (w, plays_more start (shape_of w) logs order (p ∷ []) (length order) w (omega arith) runs, turn)

-- how many entries of a log are placed
pub count_is : (counts order : List ℕ) (p : ℕ) → AreTallied counts order (length order) → p < length counts
    → slice_index counts p ≡ mentions p order
count_is counts order p tallied lt = tallied p lt ∙ ap (mentions p) (take-length order)

pub is_new : (shape : Extent) (s : Stand) → s.order ≡ [] → s.world ≡ new_world shape
    → ((p : ℕ) → slice_index s.counts p ≡ 0) → length s.counts ≡ shape.processes → IsNew shape s
is_new shape s none world zeros len = record {
  shape_is = ap shape_of world;
  none = λ start logs many. record {
    runs = subst (λ (order : List ℕ). IsRun start (shape_of s.world) logs order s.world) (sym none) (world ∙ ap new_world (sym (ap shape_of world)));
    going = ap (λ (w : Made). w.failed) world;
    tallied = λ p lt. subst (λ (order : List ℕ). slice_index s.counts p ≡ mentions p (take (length order) order)) (sym none) (zeros p);
    len = len ∙ sym many;
  };
}

-- an entry was placed
pub placed : (start : Op → ℕ → Start) (logs : List (List LogEntry)) (old new : Stand) (p : ℕ) (entry : LogEntry)
    (e : Event)
    → IsPlacing start logs old → entry_of logs p (mentions p old.order) ≡ Some entry → IsEntry start old.world p entry e
    → new.order ≡ old.order ++ p ∷ [] → new.world ≡ with_event start old.world e → AreTallied new.counts new.order (length new.order) → length new.counts ≡ length old.counts → GoesOnBy 1 start logs old new
placed start logs old new p entry e is stands goes order world tallied len = record {
  placing = record {
    runs = subst (λ (xs : List ℕ). IsRun start (shape_of new.world) logs xs new.world) (sym order) (subst (λ (w : Made). IsRun start (shape_of w) logs (old.order ++ p ∷ []) w) (sym world) (run_more start logs old.order old.world p entry e is.runs stands goes));
    going = ap (λ (w : Made). w.failed) world ∙ is.going;
    tallied = tallied;
    len = len ∙ is.len;
  };
  shape = ap shape_of world;
  longer = let l = length-append old.order (p ∷ []) in let m : length new.order ≡ length (old.order ++ p ∷ []) = ap length order in omega (arith, l, m);
}

pub goes_on_refl : (start : Op → ℕ → Start) (logs : List (List LogEntry)) (s : Stand) → IsPlacing start logs s
    → GoesOnBy 0 start logs s s
goes_on_refl start logs s is = record { placing = is; shape = refl; longer = omega arith }

pub goes_on_then : (j k n : ℕ) (start : Op → ℕ → Start) (logs : List (List LogEntry)) (a b c : Stand) → n ≤ j + k
    → GoesOnBy j start logs a b → GoesOnBy k start logs b c → GoesOnBy n start logs a c
goes_on_then j k n start logs a b c le x y = record { placing = y.placing; shape = y.shape ∙ x.shape; longer = let l = x.longer in let m = y.longer in omega (arith, l, m) }

-- what is placed is greatest where nothing goes on
pub greatest : (start : Op → ℕ → Start) (shape : Extent) (logs : List (List LogEntry)) (s : Stand)
    → shape_of s.world ≡ shape → IsPlacing start logs s → ((p : ℕ) → p < length logs → CannotGo start logs s p)
    → IsGreatest start shape logs s.order
greatest start shape logs s same is cannot = subst (λ (x : Extent). IsGreatest start x logs s.order) same record {
  world = s.world;
  runs = is.runs;
  most = none_has_more start (shape_of s.world) logs s.order s.world is.runs no;
}
  where
    no : (q : ℕ) (entry : LogEntry) → entry_of logs q (mentions q s.order) ≡ Some entry → (length s.order < MOST_EVENTS) × NoEntry start s.world q entry
    no q entry stands = cannot q (has_log logs q (mentions q s.order) entry stands) entry stands

-- an entry that is another one blocks its log
pub blocks : (start : Op → ℕ → Start) (logs : List (List LogEntry)) (s : Stand) (p place : ℕ) (entry : LogEntry)
    (e : Event)
    → IsPlacing start logs s → place ≡ mentions p s.order → entry_of logs p (mentions p s.order) ≡ Some entry
    → length s.order < MOST_EVENTS → IsEventOf (run_in start s.world).nodes p entry.step e → NoEntry start s.world p entry → IsBlocked start (shape_of s.world) logs p place
blocks start logs s p place entry e is here stands room event none =
    subst (λ (k : ℕ). IsBlocked start (shape_of s.world) logs p k) (sym here) record {
      order = s.order;
      world = s.world;
      runs = is.runs;
      here = refl;
      entry = entry;
      stands = stands;
      most = none_passes start (shape_of s.world) logs s.order s.world is.runs p entry e stands event none room;
    }

any_default : (xs : List ℕ) (i d e : ℕ) → i < length xs → get_or xs i d ≡ get_or xs i e
any_default xs i d e lt =
    same_Some (get_or xs i d) (get_or xs i e) (sym (slice_get-get_or xs i d lt) ∙ slice_get-get_or xs i e lt)

-- The next entry of p, at this place of its log, where so much is placed.
module _ (start : Op → ℕ → Start) (logs : List (List LogEntry)) (s : Stand) (order counts : List ℕ) (w : Made) (view : record { order = order; counts = counts; world = w } ≡ s) (is : IsPlacing start logs s)
    (p place i : ℕ) (lt : p < length logs) (process : i ≡ p) (at : place ≡ get_or counts i place) where
  placing : IsPlacing start logs (record { order = order; counts = counts; world = w })
  placing = subst (λ (x : Stand). IsPlacing start logs x) (sym view) is

  pub here : place ≡ mentions p order
  here =
      let len = placing.len in
      let within : i < length counts = omega arith in
      at ∙ (any_default counts i place 0 within ∙ (ap (λ (q : ℕ). get_or counts q 0) process ∙ count_is counts order p placing.tallied (omega arith)))

  pub stands_here : (o : Option LogEntry) (j : ℕ) → j ≡ p → o ≡ entry_of logs j place
      → entry_of logs p (mentions p order) ≡ o
  stands_here o j same e = ap (λ (k : ℕ). entry_of logs p k) (sym here) ∙ (ap (λ (q : ℕ). entry_of logs q place) (sym same) ∙ sym e)

  module _ (j : ℕ) (same : j ≡ p) where
    pub one_done : None ≡ entry_of logs j place → CannotGo start logs s p
    one_done none = subst (λ (x : Stand). CannotGo start logs x p) view done
      where
        done : CannotGo start logs (record { order = order; counts = counts; world = w }) p
        done entry stands = let nothing = stands_here None j same none in absurd cc

    module _ (entry : LogEntry) (next : Some entry ≡ entry_of logs j place) where
      pub one_full : MOST_EVENTS ≤ length order → IsFull start (shape_of s.world) logs
      one_full many = subst (λ (x : Stand). IsFull start (shape_of x.world) logs) view record {
        order = order;
        world = w;
        runs = placing.runs;
        full = let few = few_mentions start (shape_of w) logs order (length order) w placing.runs in omega (arith, few, many);
        process = p;
        entry = entry;
        left = stands_here (Some entry) j same next;
      }

      module _ (room : length order < MOST_EVENTS) where
        pub one_waits : NoEntry start w p entry → CannotGo start logs s p
        one_waits none = subst (λ (x : Stand). CannotGo start logs x p) view waits
          where
            waits : CannotGo start logs (record { order = order; counts = counts; world = w }) p
            waits other stands =
                let one : entry ≡ other = same_Some entry other (sym (stands_here (Some entry) j same next) ∙ stands) in
                (room, subst (λ (x : LogEntry). NoEntry start w p x) one none)

        pub one_other : (e : Event) → IsEventOf (run_in start w).nodes p entry.step e → NoEntry start w p entry → IsBlocked start (shape_of s.world) logs p place
        one_other e event none = subst (λ (x : Stand). IsBlocked start (shape_of x.world) logs p place) view
            (blocks start logs record { order = order; counts = counts; world = w } p place entry e placing here (stands_here (Some entry) j same next) room event none)

      pub one_made : (new : Stand) (e : Event) → IsEntry start w p entry e → new.order ≡ order ++ p ∷ [] → new.world ≡ with_event start w e → AreTallied new.counts new.order (length new.order) → length new.counts ≡ length counts → GoesOnBy 1 start logs s new
      one_made new e goes more then tallied len = subst (λ (x : Stand). GoesOnBy 1 start logs x new) view
          (placed start logs record { order = order; counts = counts; world = w } new p entry e placing (stands_here (Some entry) j same next) goes more then tallied len)
