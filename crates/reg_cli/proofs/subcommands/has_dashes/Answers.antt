use Rattle.std.proofs.Common.{◌≡◌, ◌∙◌, List, [], ◌∷◌, string_bytes, drop, map, refl, ap, rules, tests}
use Rattle.std.specs.List.{list_any}
use Rattle.std.proofs.lemmas.Iterator.{YieldsList-from_slice}
use Rattle.std.proofs.lemmas.Iterator.Adapters.{YieldsList-from_skip}
use Rattle.std.proofs.lemmas.Iterator.Search.{any_from_yields_List}
use Rattle.clap.proofs.WalkLemmas.{list_any-map}
use Rattle.reg_cli.specs.Subcommands.{is_dashes}
use Rattle.reg_cli.proofs.subcommands.has_dashes.Goals as goal

drop-map : {X Y : Type 0} (f : X → Y) (xs : List X) → map f (drop 1 xs) ≡ drop 1 (map f xs)
drop-map f [] = refl
drop-map f (x ∷ xs) = refl

pub returns : goal.returns
returns c =
    let words = c.args.words.now in
    any_from_yields_List (λ word. is_dashes (string_bytes word)) _ _ c.any.result c.any.ensures.ran
    (YieldsList-from_skip 1 (YieldsList-from_slice words cc) cc) (λ x b q k. search (rules, tests))
    ∙ list_any-map is_dashes string_bytes (drop 1 words) ∙ ap (list_any is_dashes) (drop-map string_bytes words)
