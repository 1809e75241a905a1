use Rattle.std.proofs.Common.{◌≡◌, [], ◌∷◌, ◌++◌, map, take, string_bytes, ap, sym, ◌∙◌}
use Rattle.std.proofs.lemmas.List.{map-append, map_more, take_all}
use Rattle.toml.specs.View.{view}
use Rattle.reg_base.specs.Names.{texts}
use Rattle.reg_inputs.specs.Judged.{text_of}
use Rattle.reg_inputs.proofs.values.copied.Goals as goal

pub loop-value-preserved : goal.loop-value-preserved
loop-value-preserved g c =
    let text : string_bytes c.in_ok-copy.copy ≡ text_of (view c.value-item.result) = c.in_ok-copy.ensures.ok ∙ c.text_in.ensures in
    let here = ap (λ x. text_of (view x)) c.value-item.is in
    let all : texts c.push.new.self.items ≡ texts c.loop-value.copies.items ++ string_bytes c.in_ok-copy.copy ∷ [] =
    ap texts c.in_ok-push.ensures.items ∙ map-append string_bytes c.loop-value.copies.items (c.in_ok-copy.copy ∷ []) in
    all ∙ ap (λ l. l ++ string_bytes c.in_ok-copy.copy ∷ []) c.loop-value.invariant
    ∙ ap (λ t. map (λ x. text_of (view x)) (take c.loop-value.value-index c.args.values.now) ++ t ∷ []) (text ∙ here)
    ∙ sym (map_more (λ x. text_of (view x)) c.args.values.now c.loop-value.value-index c.value-item.result c.loop-value-test.true)

pub returns : goal.returns
returns g c =
    c.loop-value.invariant ∙ ap (map (λ x. text_of (view x))) (take_all c.loop-value.value-index c.args.values.now c.loop-value-test.false)
