-- When frames are put again: a pure function of what was seen of a link. Promises cite it.
use Rattle.std.specs.Prelude.{ℕ, Bool, false, ◌==◌, ◌&&◌, ◌||◌, ◌+◌, not, Option, Some, None, nat_le, nat_lt}
use Rattle.std.specs.Prelude.{if◌then◌else◌}
use Rattle.reg_links.specs.declared.beats.Beat.{Beat}

-- a link that was never looked at
abbrev pub new_beat : Beat
new_beat = record { first = None; silent = 0 }

-- the looks at a silent link that make a tick: the first, then after 2, 4, .. 64 more looks, and from there on after
-- each 100
abbrev pub is_due : ℕ → Bool
is_due k = (k == 1) || (k == 3) || (k == 7) || (k == 15) || (k == 31) || (k == 63) || (k == 127) || (k == 227)

-- the number of the next look at a silent link: the last hundred are counted again and again
abbrev pub next_look : ℕ → ℕ
next_look k = if nat_lt k 227 then k + 1 else 128

-- whether the first frame that isn't acknowledged is the one that was seen before
abbrev pub is_same : Option ℕ → Option ℕ → Bool
is_same None now = false
is_same (Some n) None = false
is_same (Some n) (Some m) = n == m

-- What is known of a link after a look. Where no frame is unacknowledged, or another is the first, counting begins
-- anew; mail that waits at one of the link's ends leaves what is known as it is.
abbrev pub watched : Beat → Option ℕ → Bool → Beat
watched b first mail =
    if is_same b.first first then (if mail then b else record { first = first; silent = next_look b.silent }) else
    record { first = first; silent = 0 }

-- whether the look makes a tick
abbrev pub ticks_at : Beat → Option ℕ → Bool → Bool
ticks_at b first mail = is_same b.first first && (not mail && is_due (next_look b.silent))

-- silent for so many looks that the pauses don't grow any more
abbrev pub is_long : Beat → Bool
is_long b = nat_le 127 b.silent

-- after something came: where the link was silent for long, counting begins anew with the same frame
abbrev pub woken : Beat → Beat
woken b = if is_long b then record { first = b.first; silent = 0 } else b
