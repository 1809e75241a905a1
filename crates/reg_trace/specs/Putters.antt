-- Which event put each frame.
use Rattle.std.specs.Prelude.{ℕ, ◌≡◌, Bool, List}
use Rattle.std.specs.Ordering.{nat_cmp, ordering_then}
use Rattle.std.specs.BTreeMap.{BTreeMap, get}
use Rattle.std.specs.declared.cmp.Ordering.{Ordering}
use Rattle.reg_trace.specs.declared.putters.WirePlace.{WirePlace}
use Rattle.reg_trace.specs.Figures.{is_put, putter}
use Rattle.reg_trace.specs.Moments.{Fact}

-- places compare by sender, then by receiver, then by place
abbrev pub wire_place_cmp : WirePlace → WirePlace → Ordering
wire_place_cmp a b = ordering_then (nat_cmp a.from b.from) (ordering_then (nat_cmp a.to b.to) (nat_cmp a.place b.place))

-- whether the event put the frame at this place
abbrev pub puts_at : WirePlace → Fact → Bool
puts_at q f = is_put q.from q.to q.place f

-- the map has for each place the number of the first of these events that put its frame
abbrev pub ArePutters : List Fact → BTreeMap WirePlace ℕ → Type 0
ArePutters facts m = (q : WirePlace) → get wire_place_cmp m q ≡ putter q.from q.to q.place facts
