-- Which event put each frame.
use Rattle.std.proofs.Common.{ℕ, ◌≡◌, ◌+◌, ◌<◌, Bool, true, false, List, length, take, drop, get_or, Some, refl, sym}
use Rattle.std.proofs.Common.{ap, ◌∙◌}
use Rattle.std.specs.Prelude.{cond, ◌==◌, ◌&&◌, ◌||◌}
use Rattle.std.specs.Ordering.{nat_cmp}
use Rattle.std.specs.Cmp.{both_tied, unsigned_ties}
use Rattle.std.specs.BTreeMap.{BTreeMap, Updates, get, is_at}
use Rattle.std.specs.List.{list_any, position_from}
use Rattle.std.proofs.lemmas.List.{at_drop_more}
use Rattle.std.proofs.lemmas.List.Folds.{list_any_more}
use Rattle.reg_trace.specs.declared.moments.Sent.{Sent}
use Rattle.reg_trace.specs.declared.putters.WirePlace.{WirePlace}
use Rattle.reg_trace.specs.Moments.{Fact}
use Rattle.reg_trace.specs.Putters.{puts_at, wire_place_cmp}

abbrev pub Putters : Type 0
Putters = BTreeMap WirePlace ℕ

-- a place compares as equal with the one of the same processes and the same number
is_there : (a q : WirePlace)
    → is_at (wire_place_cmp a) q ≡ ((a.from == q.from) && ((a.to == q.to) && (a.place == q.place)))
is_there a q = sym (both_tied (a.from == q.from) ((a.to == q.to) && (a.place == q.place)) (nat_cmp a.from q.from) _ (unsigned_ties a.from q.from) (both_tied (a.to == q.to) (a.place == q.place) (nat_cmp a.to q.to) (nat_cmp a.place q.place) (unsigned_ties a.to q.to) (unsigned_ties a.place q.place)))

-- whether a frame was put for this place's receiver there
abbrev pub is_for : WirePlace → Sent → Bool
is_for q s = (s.to == q.to) && (s.place == q.place)

-- one more of the frames that a process put
more : {X : Type 0} (ours this before : Bool) (new old : X)
    → cond (ours && this) new (cond (ours && before) new old) ≡ cond (ours && (before || this)) new old
more false this before new old = refl
more true false false new old = refl
more true false true new old = refl
more true true false new old = refl
more true true true new old = refl

pub one_put : (from ours puts j : ℕ) (sent all : List Sent) (d : Sent) (old before after : Putters) → ours ≡ from
    → sent ≡ all → j < length sent →
    Updates wire_place_cmp before after (record { from = ours; to = (get_or sent j d).to; place = (get_or sent j d).place }) (Some puts) →
    ((q : WirePlace) → get wire_place_cmp before q ≡ cond ((from == q.from) && list_any (is_for q) (take j all)) (Some puts) (get wire_place_cmp old q)) →
    (q : WirePlace) → get wire_place_cmp after q ≡ cond ((from == q.from) && list_any (is_for q) (take (j + 1) all)) (Some puts) (get wire_place_cmp old q)
one_put from ours puts j sent all d old before after own same lt updates known q =
    let s : Sent = get_or sent j d in
    let so_far : List Sent → Bool = λ l. list_any (is_for q) (take j l) in
    let there : is_at (wire_place_cmp (record { from = ours; to = s.to; place = s.place })) q ≡ ((from == q.from) && is_for q s) = is_there (record { from = ours; to = s.to; place = s.place }) q ∙ ap (λ n. (n == q.from) && is_for q s) own in
    let longer : list_any (is_for q) (take (j + 1) all) ≡ (so_far all || is_for q s) = ap (λ (l : List Sent). list_any (is_for q) (take (j + 1) l)) (sym same) ∙ list_any_more (is_for q) sent j d lt ∙ ap (λ (l : List Sent). so_far l || is_for q s) same in
    updates.0 q ∙ ap (λ b. cond b (Some puts) (get wire_place_cmp before q)) there
    ∙ ap (λ o. cond ((from == q.from) && is_for q s) (Some puts) o) (known q)
    ∙ more (from == q.from) (is_for q s) (so_far all) (Some puts) (get wire_place_cmp old q)
    ∙ ap (λ b. cond ((from == q.from) && b) (Some puts) (get wire_place_cmp old q)) (sym longer)

-- one event before those whose frames are noted
pub one_before : (facts : List Fact) (k : ℕ) (f d : Fact) (before after : Putters) → k < length facts
    → get_or facts k d ≡ f →
    ((q : WirePlace) → get wire_place_cmp after q ≡ cond (puts_at q f) (Some k) (get wire_place_cmp before q)) →
    ((q : WirePlace) → get wire_place_cmp before q ≡ position_from (puts_at q) (k + 1) (drop (k + 1) facts)) →
    (q : WirePlace) → get wire_place_cmp after q ≡ position_from (puts_at q) k (drop k facts)
one_before facts k f d before after lt is noted known q =
    noted q ∙ ap (λ o. cond (puts_at q f) (Some k) o) (known q)
    ∙ sym (at_drop_more (position_from (puts_at q) k) facts k d lt ∙ ap (λ (x : Fact). cond (puts_at q x) (Some k) (position_from (puts_at q) (k + 1) (drop (k + 1) facts))) is)
