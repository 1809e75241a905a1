use Rattle.std.proofs.Common.{refl, sym}
use Rattle.reg_judge.specs.Answers.{answer_text}
use Rattle.reg_observed.proofs.command.judged.Goals as goal

pub returns : goal.returns
returns c =
    let read = c.in_ok-heard.ensures.read in
    record {
      told = read.0;
      tells = read.1;
      heard = c.judge.new.heard;
      events = c.in_ok-verdict.ensures.told read.0 read.2;
      processes = c.count_distinct.ensures.distinct;
      keys = c.count_distinct-2.ensures.distinct;
      values = c.count_distinct-3.ensures.distinct;
      verdict = c.in_ok-verdict.verdict;
      judged = c.in_ok-verdict.ensures.judged;
      says = sym c.has_points-found.ensures;
      written = (answer_text c.in_ok-answer.answer, c.in_ok-answer.ensures, refl);
    }
