use Rattle.std.proofs.Common.{ℕ, ◌≡◌, ◌+◌, ◌<◌, List, [], ◌++◌, length, drop, get_or, Option, None, Some, refl, sym, ap}
use Rattle.std.proofs.Common.{◌∙◌, append_assoc, append-nil, arith}
use Rattle.std.specs.BTreeMap.{get}
use Rattle.std.proofs.lemmas.List.{at_drop_more, at_drop_all}
use Rattle.reg_process.specs.declared.events.Event.{Event}
use Rattle.reg_process.specs.declared.events.Event.TheVariants.{Call, Take, Tick}
use Rattle.reg_trace.specs.declared.figures.Arrow.{Arrow}
use Rattle.reg_trace.specs.Figures.{arrow_from, arrow_of, arrows_in, arrows_of, putter}
use Rattle.reg_trace.specs.Moments.{Fact}
use Rattle.reg_trace.specs.Putters.{wire_place_cmp}
use Rattle.reg_trace.proofs.figures.arrows.Goals as goal
use Rattle.reg_trace.proofs.figures.arrows.Goals.{in-Take+in-Some+in_ok-push, in-Take+in_default-putter_of, in_default}

-- after one more moment
one_more : (all : List Fact) (k : ℕ) (f : Fact) (old new added : List Arrow) → k < length all → f ≡ get_or all k f
    → arrow_of all k f.event ≡ added → new ≡ old ++ added → old ++ arrows_in all k (drop k all) ≡ arrows_of all
    → new ++ arrows_in all (k + 1) (drop (k + 1) all) ≡ arrows_of all
one_more all k f old new added l is own grown h =
    let rest : List Arrow = arrows_in all (k + 1) (drop (k + 1) all) in
    let step : arrows_in all k (drop k all) ≡ added ++ rest = at_drop_more (arrows_in all k) all k f l ∙ ap (λ (x : Fact). arrow_of all k x.event ++ rest) (sym is) ∙ ap (λ a. a ++ rest) own in
    ap (λ a. a ++ rest) grown ∙ append_assoc old added rest ∙ ap (λ a. old ++ a) (sym step) ∙ h

taken : (all : List Fact) (k : ℕ) (e : Event) (from to place : ℕ) (found o : Option ℕ) → e ≡ Take from to place
    → found ≡ putter from to place all → found ≡ o → arrow_of all k e ≡ arrow_from k from to place o
taken all k e from to place found o is finds was =
    ap (arrow_of all k) is ∙ ap (arrow_from k from to place) (sym finds ∙ was)

no_take : (all : List Fact) (k : ℕ) (e : Event) → ((from to place : ℕ) → e ≡ Take from to place → ⊥)
    → arrow_of all k e ≡ []
no_take all k (Call p op) h = refl
no_take all k (Take from to place) h = absurd (h from to place refl)
no_take all k (Tick p) h = refl

pub loop-takes-preserved : goal.loop-takes-preserved
loop-takes-preserved g c =
    let all : List Fact = c.args.moments.now in
    let k : ℕ = c.loop-takes.takes in
    let f : Fact = c.index-moments-takes.result in
    let old : List Arrow = c.loop-takes.arrows.items in
    let new : List Arrow = c.match-moment.arrows.items in
    let put : (from to place : ℕ) → get wire_place_cmp c.in_ok-putters.putters (record { from = from; to = to; place = place }) ≡ putter from to place all = λ from to place. c.in_ok-putters.ensures (record { from = from; to = to; place = place }) in
    let same : f.event ≡ c.moment.inside.event = ap (λ (x : Fact). x.event) (sym c.moment.view_is) in
    elim c.match-moment.branch [
      | in-Take+in-Some+in_ok-push w ↦
          let t = w.in-Take in
          one_more all k f old new (arrow_from k t.from t.to t.number (Some w.in-Some.puts)) c.loop-takes-test.true c.index-moments-takes.is
          (taken all k f.event t.from t.to t.number w.putter_of.result (Some w.in-Some.puts) (same ∙ t.is) (w.putter_of.ensures ∙ put t.from t.to t.number) w.in-Some.is)
          (ap (λ v. v.items) w.arrows-is ∙ w.in_ok-push.ensures.items) c.loop-takes.invariant
      | in-Take+in_default-putter_of w ↦
          let t = w.in-Take in
          one_more all k f old new [] c.loop-takes-test.true c.index-moments-takes.is
          (taken all k f.event t.from t.to t.number w.putter_of.result None (same ∙ t.is) (w.putter_of.ensures ∙ put t.from t.to t.number) w.in_default-putter_of.is)
          (ap (λ v. v.items) w.arrows-is ∙ sym (append-nil old)) c.loop-takes.invariant
      | in_default w ↦
          one_more all k f old new [] c.loop-takes-test.true c.index-moments-takes.is
          (no_take all k f.event (λ from to place h. w.in_default.not-Take from to place (sym same ∙ h)))
          (ap (λ v. v.items) w.arrows-is ∙ sym (append-nil old)) c.loop-takes.invariant
    ]

pub loop-takes-init : goal.loop-takes-init
loop-takes-init g c = ap (λ a. a ++ arrows_of c.args.moments.now) c.new-arrows.ensures.items

pub returns : goal.returns
returns g c =
    let all : List Fact = c.args.moments.now in
    let k : ℕ = c.loop-takes.takes in
    let none : arrows_in all k (drop k all) ≡ [] = at_drop_all (arrows_in all k) all k (omega arith) in
    sym (append-nil c.loop-takes.arrows.items) ∙ ap (λ a. c.loop-takes.arrows.items ++ a) (sym none) ∙ c.loop-takes.invariant
