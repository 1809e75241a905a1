use Rattle.std.proofs.Common.{◌≡◌, ◌<◌, ◌++◌, ◌∷◌, [], List, length, map, set, get_or, refl, sym, ap, ◌∙◌, subst, arith}
use Rattle.std.proofs.lemmas.List.{length-map}
use Rattle.std.proofs.lemmas.Result.{on_ok_weaker}
use Rattle.reg_frames.specs.declared.bodies.Frame.{Frame}
use Rattle.reg_world.specs.Packed.{frame_of, IsKept, frames_on}
use Rattle.reg_world.proofs.Packing.{all_kept, put_on_one, only_in, after_push}
use Rattle.reg_world.proofs.packed.PackedWiresWireStore.put.Goals as goal

pub push-requires : goal.push-requires
push-requires g c =
    let a = ap length c.self.view_is in let b = length-map c.self.inside.strips (map (frame_of c.self.inside.tables)) in let e = c.requires in let from = c.from.ensures in
    omega (arith, a, b, e, from)

pub invariant_of-self : goal.invariant_of-self
invariant_of-self g c =
    all_kept c.self.inside.tables c.slot.new.self c.self.inside.strips c.slot.ensures.grows c.self.invariant

pub invariant_of-self-2 : goal.invariant_of-self-2
invariant_of-self-2 g c =
    let strips = c.self.inside.strips in
    let l : c.from.result < length strips = (let a = ap length c.self.view_is in let b = length-map strips (map (frame_of c.self.inside.tables)) in let e = c.requires in let from = c.from.ensures in omega (arith, a, b, e, from)) in
    after_push c.push.result c.self.inside.tables c.slot.new.self strips c.push.new.self c.from.result (c.pack.result ∷ []) c.slot.ensures.grows c.self.invariant l (λ s i. subst (IsKept c.slot.new.self) (sym (only_in s c.pack.result i ∙ c.pack.ensures)) c.in_ok-slot.ensures.says.kept) c.push.ensures.pushed c.push.ensures.kept

pub returns : goal.returns
returns g c =
    let old = c.self.inside.tables in
    let new = c.slot.new.self in
    let strips = c.self.inside.strips in
    let r = c.args.to in
    let slot = c.pack.result in
    let f = c.args.frame.now in
    let from : c.from.result ≡ r = c.from.ensures in
    let l : r < length strips = (let a = ap length c.self.view_is in let b = length-map strips (map (frame_of old)) in let e = c.requires in omega (arith, a, b, e)) in
    on_ok_weaker c.push.result
    (λ pushed. ap (frames_on new) pushed
    ∙ (ap (λ k. frames_on new (set strips k (get_or strips k [] ++ slot ∷ []))) from
    ∙ subst (λ (z : List (List Frame)). frames_on new (set strips r (get_or strips r [] ++ slot ∷ [])) ≡ set z r (get_or z r [] ++ f ∷ [])) c.self.view_is
    (put_on_one old new strips r (get_or strips r [] ++ slot ∷ []) (slot ∷ []) (f ∷ []) c.slot.ensures.grows c.self.invariant l (ap (λ s. frame_of new s ∷ []) c.pack.ensures ∙ ap (λ z. z ∷ []) c.in_ok-slot.ensures.says.is) refl)))
    c.push.ensures.pushed
