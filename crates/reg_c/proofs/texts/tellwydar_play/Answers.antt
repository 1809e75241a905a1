use Rattle.std.proofs.Common.{false, sym, subst}
use Rattle.reg_commands.specs.declared.command.Command.TheVariants.{Play}
use Rattle.reg_c.specs.Texts.{IsAnswer}
use Rattle.reg_c.proofs.texts.tellwydar_play.Goals as goal

pub returns : goal.returns
returns c =
    let text = c.args.text.now in
    let answer = c.tell.result.answer.items in
    let line = c.tell.result.line.items in
    let told : IsAnswer c.over.result.command text c.tell.result.status answer line = c.tell.ensures in
    record {
      answer = answer;
      told = line;
      is_so = subst (λ status. IsAnswer (Play false) text status answer line) (sym c.put.ensures.status) (subst (λ command. IsAnswer command text c.tell.result.status answer line) c.over.ensures.same told);
      output = c.put.ensures.output;
      errors = c.put.ensures.errors;
      many = c.put.ensures.many;
      few = c.put.ensures.few;
    }
