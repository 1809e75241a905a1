use Rattle.std.proofs.Common.{◌≡◌, ◌∷◌, ◌++◌, [], ℕ, List, Bor, length, map, not, true, ap, ◌∙◌, arith}
use Rattle.std.specs.Result.{is_ok}
use Rattle.std.proofs.lemmas.List.{length-append, length-map}
use Rattle.reg_checkers.specs.History.{IsAt}
use Rattle.reg_node.specs.LogTexts.{Journal}
use Rattle.reg_verify.specs.Gathers.{IsTextOf}
use Rattle.reg_verify.proofs.Gathered.{each_more, text_at, unread_is}
use Rattle.reg_verify.proofs.gathering.read_texts.Goals as goal

pub returns-in-Err-clause-fault : goal.returns-in-Err-clause-fault
returns-in-Err-clause-fault g c =
    let here = text_at (λ (t : Bor (List ℕ)). t.now) c.args.texts.now c.loop-at.at (record { ref_ptr = (0, 0); now = [] }) c.loop-at-test.true in
    unread_is (map (λ (t : Bor (List ℕ)). t.now) c.args.texts.now) c.loop-at.at _ c.in-Err.fault c.unread.result c.unread.ensures here c.in-Err.ensures.fault

pub loop-at-preserved : goal.loop-at-preserved
loop-at-preserved g c =
    let texts : List (List ℕ) = map (λ (t : Bor (List ℕ)). t.now) c.args.texts.now in
    let ok : is_ok c.push.result ≡ true = c.is_err.ensures.negation ∙ ap not c.if-is_err.false in
    let items : c.push.new.self.items ≡ c.loop-at.logs.items ++ c.in-Ok.log ∷ [] = rw ok at c.push.ensures.items in
    let long = ap length items in
    let more = length-append c.loop-at.logs.items (c.in-Ok.log ∷ []) in
    let here = text_at (λ (t : Bor (List ℕ)). t.now) c.args.texts.now c.loop-at.at (record { ref_ptr = (0, 0); now = [] }) c.loop-at-test.true in
    record {
      count = omega (arith, long, more, c.loop-at.invariant.count);
      each = each_more (λ (k : ℕ) (j : Journal). (text : List ℕ) × IsAt texts k text × IsTextOf text j) c.loop-at.logs.items c.push.new.self.items c.in-Ok.log c.loop-at.at c.loop-at.invariant.count items c.loop-at.invariant.each (_, here, c.in-Ok.ensures.read);
    }

pub returns-clause-read : goal.returns-clause-read
returns-clause-read g c =
    let many = length-map c.args.texts.now (λ (t : Bor (List ℕ)). t.now) in
    record {
      count = omega (arith, many, c.loop-at.invariant.count, c.loop-at-test.false);
      each = c.loop-at.invariant.each;
    }
