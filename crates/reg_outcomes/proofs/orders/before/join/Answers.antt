use Rattle.std.proofs.Common.{◌+◌, ◌≤◌, arith}
use Rattle.reg_outcomes.specs.Forced.{AreForced}
use Rattle.reg_outcomes.proofs.Known.{comes_with_own}
use Rattle.reg_outcomes.proofs.Raising.{joined_forced}
use Rattle.reg_outcomes.proofs.orders.before.join.Goals as goal

pub returns-then-raise_all : goal.returns-then-raise_all
returns-then-raise_all g c =
    let s = c.args.finder.now in
    let most : c.saturating_add.result ≤ c.args.earlier.number + 1 = omega (arith, c.saturating_add.ensures) in
    let first : AreForced s c.raise-news.new.self = c.raise-news.ensures s c.requires.forced (comes_with_own s c.args.earlier c.args.later c.saturating_add.result c.requires.finished c.requires.comes most) in
    joined_forced s c.raise-news.new.self c.raise_all.new.self c.args.earlier c.args.later c.raise_all.ensures c.requires.finished c.requires.comes first

pub returns-else-raise_all : goal.returns-else-raise_all
returns-else-raise_all g c =
    let s = c.args.finder.now in
    let most : c.saturating_add.result ≤ c.args.earlier.number + 1 = omega (arith, c.saturating_add.ensures) in
    let first : AreForced s c.raise-news.new.self = c.raise-news.ensures s c.requires.forced (comes_with_own s c.args.earlier c.args.later c.saturating_add.result c.requires.finished c.requires.comes most) in
    joined_forced s c.raise-news.new.self c.raise_all.new.self c.args.earlier c.args.later c.raise_all.ensures c.requires.finished c.requires.comes first
