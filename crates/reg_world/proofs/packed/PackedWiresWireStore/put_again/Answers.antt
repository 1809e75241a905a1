use Rattle.std.proofs.Common.{◌≡◌, ◌<◌, length, map, take, ap, ◌∙◌, arith}
use Rattle.std.proofs.lemmas.List.{length-map}
use Rattle.reg_base.specs.declared.limits.TheConstants.{MOST_RESENT}
use Rattle.reg_world.specs.Packed.{frame_of}
use Rattle.reg_world.specs.Words.{data_slots}
use Rattle.reg_world.proofs.Numbering.{slots_taken, again_kept, again_says}
use Rattle.reg_world.proofs.packed.PackedWiresWireStore.put_again.Goals as goal

pub invariant_of-self-2 : goal.invariant_of-self-2
invariant_of-self-2 g c =
    let strips = c.self.inside.strips in
    let count = c.args.count in
    let l : c.from.result < length strips = (let a = ap length c.self.view_is in let b = length-map strips (map (frame_of c.self.inside.tables)) in let e = c.requires.within in let from = c.from.ensures in omega (arith, a, b, e, from)) in
    let more : take count c.numbers_from-words.result ≡ data_slots c.args.first count = ap (take count) c.numbers_from-words.ensures ∙ slots_taken c.args.first count MOST_RESENT c.requires.few in
    again_kept c.self.inside.tables strips c.push_all.new.self c.from.result c.args.first count (take count c.numbers_from-words.result) c.self.invariant l (c.has_all.ensures.there c.if-not-has_all.false) more c.in_ok-push_all.ensures.pushed

pub returns-clause-again : goal.returns-clause-again
returns-clause-again g c = λ _ bodies size on.
    let count = c.args.count in
    let more : take count c.numbers_from-words.result ≡ data_slots c.args.first count = ap (take count) c.numbers_from-words.ensures ∙ slots_taken c.args.first count MOST_RESENT c.requires.few in
    again_says c.self.inside.tables c.self.inside.strips c.push_all.new.self c.args.self.now c.from.result c.args.to c.args.first count (take count c.numbers_from-words.result) c.self.view_is c.self.invariant c.from.ensures c.requires.within (c.has_all.ensures.none c.if-not-has_all.false) more c.in_ok-push_all.ensures.pushed bodies size on
