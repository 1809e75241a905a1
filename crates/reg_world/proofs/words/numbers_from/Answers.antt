use Rattle.std.proofs.Common.{◌≡◌, ◌+◌, [], ◌∷◌, ◌++◌, take, refl, sym, ap, ◌∙◌, arith, add-one, length-set}
use Rattle.std.proofs.lemmas.List.{take_all, take_more_set}
use Rattle.reg_base.specs.declared.limits.TheConstants.{MOST_RESENT}
use Rattle.reg_world.specs.Words.{slot_of, data_slots}
use Rattle.reg_world.proofs.Numbering.{number_slot, slots_more}
use Rattle.reg_world.proofs.words.numbers_from.Goals as goal

pub loop-place-init : goal.loop-place-init
loop-place-init c = (refl, refl)

pub loop-place-preserved : goal.loop-place-preserved
loop-place-preserved c =
    let words = c.loop-place.words in
    let place = c.loop-place.place in
    let first = c.args.first in
    let slot = slot_of (first + place) in
    let I = c.loop-place.invariant in
    let size = I.0 in
    let l = c.loop-place-test.true in
    let room = c.requires in (
      length-set words place slot ∙ size,
      take_more_set words place slot (omega (arith, size, l))
          ∙ (ap (λ z. z ++ slot ∷ []) I.1
          ∙ (ap (λ s. data_slots first place ++ s ∷ []) (number_slot (first + place) (omega (arith, l, room)))
          ∙ (sym (slots_more first place) ∙ ap (data_slots first) (sym (add-one place))))),
    )

pub returns : goal.returns
returns c =
    let words = c.loop-place.words in
    let I = c.loop-place.invariant in
    let size = I.0 in
    let t = c.loop-place-test.false in
    let a = c.loop-place.auto.place-end in
    let end : c.loop-place.place ≡ MOST_RESENT = omega (arith, t, a) in
    sym (take_all MOST_RESENT words (omega (arith, size))) ∙ (ap (λ n. take n words) (sym end) ∙ (I.1 ∙ ap (data_slots c.args.first) end))
