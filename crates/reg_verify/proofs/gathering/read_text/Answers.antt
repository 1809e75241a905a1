use Rattle.std.proofs.Common.{◌≡◌, ◌==◌, length, ap, sym, ◌∙◌, arith, drop}
use Rattle.std.specs.List.{list_any}
use Rattle.std.specs.Vec.{vec_len}
use Rattle.reg_node.specs.LogTexts.{Journal}
use Rattle.reg_verify.proofs.Gathered.{behind, has, lacks, rest_is}
use Rattle.reg_verify.proofs.gathering.read_text.Goals as goal

pub returns-then-contains-clause-fault : goal.returns-then-contains-clause-fault
returns-then-contains-clause-fault g c =
    let text = c.args.text.now in
    let read = c.in-Ok.ensures.read in
    let is : c.contains.result ≡ list_any (λ b. b == 10) (drop c.in-Ok.read.whole text) = c.contains.ensures.value ∙ ap (list_any (λ b. b == 10)) (rest_is text c.in-Ok.read.whole) in
    let entries = c.log.inside.entries in
    let long : vec_len entries ≡ length entries.items = omega (arith, entries.ok.0) in
    record {
      journal = c.in-Ok.read.log;
      tail = read.0;
      good = c.in-Ok.ensures.good.0;
      spelled = read.1;
      ends = c.len-place.ensures ∙ long ∙ ap (λ (k : Journal). length k.entries) c.log.view_is;
      further = has 10 (drop c.in-Ok.read.whole text) read.0 (behind text c.in-Ok.read.log read.0 c.in-Ok.read.whole read.1 read.2) (sym is ∙ c.if-contains.true);
    }

pub returns-clause-read : goal.returns-clause-read
returns-clause-read g c =
    let text = c.args.text.now in
    let read = c.in-Ok.ensures.read in
    let is : c.contains.result ≡ list_any (λ b. b == 10) (drop c.in-Ok.read.whole text) = c.contains.ensures.value ∙ ap (list_any (λ b. b == 10)) (rest_is text c.in-Ok.read.whole) in
    record {
      tail = read.0;
      good = c.in-Ok.ensures.good.0;
      spelled = read.1;
      torn = lacks 10 (drop c.in-Ok.read.whole text) read.0 (behind text c.in-Ok.read.log read.0 c.in-Ok.read.whole read.1 read.2) (sym is ∙ c.if-contains.false);
    }
