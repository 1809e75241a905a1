use Rattle.std.proofs.Common.{◌-◌, ◌≤◌, ◌==◌, length, slice_index}
use Rattle.core.specs.Slice.Scan.{HoldsNowhere}
use Rattle.reg_text.proofs.feeds.line_feed.Given as goal

abbrev pub invariant-loop-place : goal.invariant-loop-place
invariant-loop-place l = (l.place ≤ length l.text) × HoldsNowhere (λ k. (slice_index l.text k == 10)) 0 l.place

abbrev pub decreases-loop-place : goal.decreases-loop-place
decreases-loop-place l = length l.text - l.place

abbrev pub invariant-loop-place-2 : goal.invariant-loop-place-2
invariant-loop-place-2 l = (l.place ≤ length l.text) × HoldsNowhere (λ k. (slice_index l.text k == 10)) 0 l.place

abbrev pub decreases-loop-place-2 : goal.decreases-loop-place-2
decreases-loop-place-2 l = length l.text - l.place
