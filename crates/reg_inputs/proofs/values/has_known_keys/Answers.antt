use Rattle.std.proofs.Common.{◌≡◌, ◌∙◌, map, string_bytes, rules, tests}
use Rattle.std.specs.List.{list_all}
use Rattle.std.proofs.lemmas.Iterator.Consumers.{YieldsList-from_rest}
use Rattle.std.proofs.lemmas.Iterator.Search.{all_from_yields_List}
use Rattle.reg_inputs.specs.Keys.{is_key}
use Rattle.reg_inputs.proofs.Known.{known_keys}
use Rattle.reg_inputs.proofs.values.has_known_keys.Goals as goal

pub returns : goal.returns
returns c =
    let listed : c.all.result ≡ list_all (λ k. is_key (string_bytes k)) (map (λ e. e.0) c.args.table.now.entries) =
    all_from_yields_List (λ k. is_key (string_bytes k)) _ _ c.all.result c.all.ensures.ran (YieldsList-from_rest (map (λ e. e.0) c.args.table.now.entries) c.keys.ensures.rest) (λ x b q k. search (rules, tests)) in
    listed ∙ known_keys c.args.table.now.entries
