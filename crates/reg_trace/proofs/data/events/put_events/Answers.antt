use Rattle.std.proofs.Common.{◌<◌, ◌≤◌, ◌∙◌, [], length, ap, ap₂, arith, List, ℕ}
use Rattle.reg_trace.specs.Moments.{Fact}
use Rattle.reg_trace.specs.Noted.{Noted, noted}
use Rattle.reg_trace.specs.Parts.{moment_part}
use Rattle.reg_trace.proofs.LookedBehind.{◌▸◌, as_text}
use Rattle.reg_trace.proofs.Joined.{line_by, puts_part, puts_lines}
use Rattle.reg_trace.proofs.Noting.{length-noted, noted_at}
use Rattle.reg_trace.proofs.data.events.put_events.Goals as goal

pub loop-place-preserved : goal.loop-place-preserved
loop-place-preserved g c =
    let f = line_by (moment_part c.args.names.now) in
    let facts : List Fact = c.args.moments.now in
    let notes : List (List ℕ) = c.args.notes.now.notes in
    let told : Noted = record { fact = c.index-moments-place.result; note = [] } in
    let within : c.loop-place.place < length (noted facts notes) = omega (arith, length-noted facts notes) in
    let lt : c.loop-place.place < length facts = omega arith in
    let is = ap₂ (λ (x : Fact) (n : List ℕ). f (record { fact = x; note = n })) c.index-moments-place.is c.note.ensures ∙ ap f (noted_at facts notes c.loop-place.place c.index-moments-place.result told lt) in
    puts_part g.W.Write.contents c.put.new.self c.loop-place.sink c.put_comma.new.sink c.put-in-loop-place.new.self f (noted facts notes) c.loop-place.place told within c.loop-place.invariant c.put_comma.ensures
    (as_text is (c.put_moment.ensures ▸ c.put-in-loop-place.ensures))

pub returns : goal.returns
returns g c =
    let facts : List Fact = c.args.moments.now in
    let notes : List (List ℕ) = c.args.notes.now.notes in
    let all : length (noted facts notes) ≤ c.loop-place.place = omega (arith, length-noted facts notes) in
    puts_lines g.W.Write.contents c.args.sink.now c.put.new.self c.loop-place.sink c.put-2.new.self (moment_part c.args.names.now) (noted facts notes) c.loop-place.place all c.put.ensures c.loop-place.invariant c.put-2.ensures
