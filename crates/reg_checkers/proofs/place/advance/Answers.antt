use Rattle.std.proofs.Common.{◌≡◌, ℕ, set, get_or, ap, ◌∙◌, subst, arith}
use Rattle.reg_checkers.specs.Progress.{id_of}
use Rattle.reg_checkers.proofs.place.advance.Goals as goal

pub index-before-requires : goal.index-before-requires
index-before-requires g c =
    let p : c.from-process.result ≡ (id_of c.args.entry).process = c.from-process.ensures ∙ ap (λ x. x.process) c.id_of.ensures in
    omega (arith, p, c.requires.within)

pub index_mut-requires : goal.index_mut-requires
index_mut-requires g c =
    let p : c.from-process.result ≡ (id_of c.args.entry).process = c.from-process.ensures ∙ ap (λ x. x.process) c.id_of.ensures in
    omega (arith, p, c.requires.within)

pub returns : goal.returns
returns g c =
    let ps = c.args.progress.now.items in
    let before = c.index-before.result.now in
    let p : c.from-process.result ≡ (id_of c.args.entry).process = c.from-process.ensures ∙ ap (λ x. x.process) c.id_of.ensures in
    (before, subst (λ (k : ℕ). before ≡ get_or ps k before) p c.index-before.ensures, ap (λ (k : ℕ). set ps k c.after_entry.result) p ∙ ap (λ v. set ps (id_of c.args.entry).process v) c.after_entry.ensures)
