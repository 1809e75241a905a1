use Rattle.std.proofs.Common.{◌<◌, length, rules, ◌∙◌}
use Rattle.reg_base.specs.declared.limits.TheConstants.{LONGEST_INPUT}
use Rattle.reg_commands.proofs.Gathered.{all_read, of_each, too_long, one_more}
use Rattle.reg_commands.proofs.input.read_all.Goals as goal

pub returns-in-Ok-eq0-clause-all : goal.returns-in-Ok-eq0-clause-all
returns-in-Ok-eq0-clause-all g c =
    all_read _ _ _ _ c.read.new.buf c.in-Ok-eq0.field-0 c.loop.invariant.1 c.in-Ok-eq0.ensures.bytes.0 c.in-Ok-eq0.field-0-test (λ e. c.in-Ok-eq0.ensures.bytes.1 e (search rules))

pub returns-then-count-len-clause-why : goal.returns-then-count-len-clause-why
returns-then-count-len-clause-why g c =
    of_each _ (λ ys. LONGEST_INPUT < length ys) _ (too_long _ _ _ _ _ c.in-Ok.count _ c.loop.invariant.1 c.in-Ok.ensures.bytes.0 c.in-Ok.ensures.bound.1 (search rules))

pub loop-preserved : goal.loop-preserved
loop-preserved g c =
    one_more _ _ _ _ _ c.read.new.buf c.in-Ok.count _ c.loop.invariant c.in-Ok.ensures.bytes.0 c.in-Ok.ensures.bound.1 (search rules) (c.in-Ok-extend_from_slice.ensures.items ∙ search rules)
