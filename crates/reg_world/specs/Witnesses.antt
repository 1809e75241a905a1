-- The order and the points of a run as lists, from what is kept of it. They carry a proof: no promise speaks of them.
use Rattle.std.specs.Prelude.{ℕ, ◌≡◌, ◌+◌, ◌-◌, slice_get, Bool, true, ◌||◌, ◌&&◌, nat_lt, nat_le, cond, List, [], ◌∷◌}
use Rattle.std.specs.Prelude.{◌++◌, map, length, Option, Some, None}
use Rattle.std.specs.List.{filter}
use Rattle.std.specs.List.Sorted.{IsSorted, IsStable}
use Rattle.std.specs.Ordering.{nat_cmp, ordering_then}
use Rattle.std.specs.declared.cmp.Ordering.{Ordering}
use Rattle.reg_base.specs.declared.memory.OpId.{OpId}
use Rattle.reg_base.specs.declared.stamps.Stamp.{Stamp}
use Rattle.reg_base.specs.Memory.{updates}
use Rattle.reg_base.specs.Order.{below}
use Rattle.reg_checkers.specs.declared.entries.Point.{Point}
use Rattle.reg_world.specs.declared.order.First.{First}
use Rattle.reg_world.specs.declared.order.CopyRead.{CopyRead}
use Rattle.reg_world.specs.declared.callers.Note.{Note}
use Rattle.reg_world.specs.declared.witnesses.Ranked.{Ranked}
use Rattle.reg_world.specs.Keys.{Keyed, key}
use Rattle.reg_world.specs.Tallies.{Tally, finished, is_done}

-- whether a delivered cast stands in the order
abbrev pub is_kept : List Tally → First → Bool
is_kept tallies c = updates c.op || is_done tallies c.id

abbrev pub point_of : First → Point
point_of c = record { id = c.id; at = c.at }

abbrev pub ranked_read : CopyRead → Ranked
ranked_read q = record { rank = q.place; id = q.id }

-- by process, and then by number
abbrev pub id_cmp : OpId → OpId → Ordering
id_cmp a b = ordering_then (nat_cmp a.process b.process) (nat_cmp a.number b.number)

abbrev pub ranked_cmp : Ranked → Ranked → Ordering
ranked_cmp a b = ordering_then (nat_cmp a.rank b.rank) (id_cmp a.id b.id)

-- ys are the xs, sorted
pub record IsSortedFrom (xs ys : List Ranked) : Type 0 where
  pub sorted : IsSorted ranked_cmp ys
  pub stable : IsStable ranked_cmp xs ys

-- the stamp of the last cast that was delivered
abbrev pub stamp_in : Option First → Option Stamp
stamp_in None = None
stamp_in (Some c) = Some c.stamp

abbrev pub last_stamp : List First → Option Stamp
last_stamp order = stamp_in (slice_get order (length order - 1))

abbrev pub is_after : Option Stamp → Stamp → Bool
is_after None stamp = true
is_after (Some last) stamp = below last stamp

abbrev pub ranked_note : ℕ → Note → Ranked
ranked_note p note = record { rank = note.time; id = record { process = p; number = note.number } }

abbrev pub is_lost : Option Stamp → ℕ → Tally → Note → Bool
is_lost last p t note = nat_lt note.number (finished t) && is_after last (record { time = note.time; process = p })

-- the finished casts that come after the last one that was delivered: of the process p, and of all from p on
abbrev pub lost_of : Option Stamp → ℕ → Tally → List Ranked
lost_of last p t = map (ranked_note p) (filter (is_lost last p t) t.casts)

abbrev pub lost_from : Option Stamp → ℕ → List Tally → List Ranked
lost_from last p [] = []
lost_from last p (t ∷ ts) = lost_of last p t ++ lost_from last (p + 1) ts

-- the first ones with a rank of at most k, and the others
abbrev pub upto : ℕ → List Ranked → List Ranked
upto k [] = []
upto k (q ∷ qs) = cond (nat_le q.rank k) (q ∷ upto k qs) []

abbrev pub later : ℕ → List Ranked → List Ranked
later k [] = []
later k (q ∷ qs) = cond (nat_le q.rank k) (later k qs) (q ∷ qs)

abbrev pub keyed_read : Ranked → Keyed
keyed_read q = record { id = q.id; key = key q.rank 0 q.id.process q.id.number }

abbrev pub keyed_cast : ℕ → First → Keyed
keyed_cast k c = record { id = c.id; key = key k 1 0 0 }

abbrev pub keyed_lost : ℕ → Ranked → Keyed
keyed_lost all q = record { id = q.id; key = key all 2 q.rank q.id.process }

abbrev pub kept_one : (First → Bool) → ℕ → First → List Keyed
kept_one kept k c = cond (kept c) (keyed_cast k c ∷ []) []

-- the sorted reads and the kept casts by their keys, k being the place of the first cast
abbrev pub merge : (First → Bool) → ℕ → List Ranked → List First → List Keyed
merge kept k reads [] = map keyed_read reads
merge kept k reads (c ∷ cs) =
    map keyed_read (upto k reads) ++ (kept_one kept k c ++ merge kept (k + 1) (later k reads) cs)

abbrev pub ids_of : List Keyed → List OpId
ids_of es = map (λ (e : Keyed). e.id) es

-- all that has a key, by the lists that it comes from
abbrev pub all_keyed : (First → Bool) → List Ranked → List First → List Ranked → List Keyed
all_keyed kept reads order lost = merge kept 0 reads order ++ map (keyed_lost (length order)) lost

-- ids are the operations of these sorted reads, of the kept casts, and of these lost casts, by their keys
pub record IsMerged (order : List First) (reads : List CopyRead) (tallies : List Tally) (ids : List OpId) : Type 0 where
  pub sorted : List Ranked
  pub lost : List Ranked
  pub reads_sorted : IsSortedFrom (map ranked_read reads) sorted
  pub lost_sorted : IsSortedFrom (lost_from (last_stamp order) 0 tallies) lost
  pub merged : ids ≡ ids_of (all_keyed (is_kept tallies) sorted order lost)
