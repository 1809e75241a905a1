use Rattle.std.proofs.Common.{refl, sym, ◌∙◌, arith}
use Rattle.std.proofs.lemmas.Option.{slice_get_within, get_or_from_slice_get}
use Rattle.reg_base.specs.declared.memory.Op.TheVariants.{Read}
use Rattle.reg_checkers.specs.declared.entries.Entry.{Entry}
use Rattle.reg_checkers.specs.declared.entries.Entry.TheVariants.{Called}
use Rattle.reg_checkers.proofs.Noting.{read_at}
use Rattle.reg_verify.proofs.Opened.{opening_more, same_opening}
use Rattle.reg_verify.proofs.stories.openings.are_of_opening.Goals as goal
use Rattle.reg_verify.proofs.stories.openings.are_of_opening.Goals.{in-Called+else-not-is_of_opening, in_default}

-- what a read past the end would give
blank_entry : Entry
blank_entry = Called 0 (record { process = 0; number = 0 }) (Read 0)

pub returns-then-not-is_of_opening : goal.returns-then-not-is_of_opening
unfolding blank_entry
returns-then-not-is_of_opening c =
    let here = read_at c.args.entries.now c.loop-at.at blank_entry _ c.in-Called.is c.loop-at-test.true in
    (λ yes. absurd (cc), λ all. c.if-not-is_of_opening.ensures.1 (all c.in-Called.id c.in-Called.at c.in-Called.op (c.loop-at.at, here)))

pub loop-at-preserved : goal.loop-at-preserved
unfolding blank_entry
loop-at-preserved c =
    let es = c.args.entries.now in
    let n = c.loop-at.at in
    let writes = c.args.writes.now in
    opening_more writes es n c.loop-at.invariant
    (λ t x o at.
    let read = get_or_from_slice_get es n _ blank_entry at in
    elim c.match-entries-at.branch [
      | in-Called+else-not-is_of_opening w ↦ same_opening writes w.in-Called.at t w.in-Called.id x w.in-Called.op o (w.is_of_opening.ensures.0 w.if-not-is_of_opening.false) (sym w.in-Called.is ∙ read)
      | in_default w ↦ absurd (w.in_default.not-Called t x o read)
    ])

pub returns : goal.returns
returns c = (
  λ yes id at op called.
      let inside = slice_get_within c.args.entries.now called.0 _ called.1 in
      c.loop-at.invariant called.0 at id op (omega (arith, inside, c.loop-at-test.false)) called.1,
  λ all. refl,
)
