-- What the getters of the matches say of the subcommand that was met.
use Rattle.std.proofs.Common.{◌≡◌, ◌∙◌, Bool, true, false, cond, List, Option, Some, None, option_map, refl, sym, ap}
use Rattle.std.proofs.Common.{codes, Box}
use Rattle.std.specs.Box.{box_value}
use Rattle.std.specs.Str.{bytes_eq}
use Rattle.std.proofs.lemmas.Slice.Eq.{bytes_eq-Decides}
use Rattle.clap.specs.Words.{Row, Text, one_of, one_text, rows_of, subcommand_name_of, subcommand_rows_of}
use Rattle.clap.specs.Simple.{subcommand_rows}
use Rattle.clap.specs.declared.ArgMatches.{ArgMatches}
use Rattle.clap.specs.declared.parser.matches.ArgMatches.TheViews.{out-ArgMatches, out-SubCommand}
use Rattle.clap.specs.declared.parser.matches.Found.{Found}
use Rattle.clap.specs.declared.parser.matches.SubCommand.{SubCommand}
use Rattle.clap.proofs.WalkLemmas.{one_text-rows}
use Rattle.reg_cli.specs.Subcommands.{flag_of, met_of}

-- the name in the rows is the subcommand's
module _ {Z : Type 0} where
  named : (o : Option (Box SubCommand Z)) → option_map (λ b. (out-SubCommand (box_value b)).name.now) o ≡ option_map (λ p. p.0) (subcommand_rows o)
  named None = refl
  named (Some b) = refl

pub name_rows : (m : ArgMatches) → subcommand_name_of m ≡ option_map (λ p. p.0) (subcommand_rows_of m)
name_rows m = named (out-ArgMatches m).subcommand

pub rows_are : (o : Option (Text × List Row)) (name : Text) (rows : List Row) → Some name ≡ option_map (λ p. p.0) o
    → Some rows ≡ option_map (λ p. p.1) o → o ≡ Some (name, rows)
rows_are None name rows n r = cc
rows_are (Some p) name rows n r =
    let name_is : name ≡ p.0 = cc in
    let rows_is : rows ≡ p.1 = cc in
    sym (λ i. Some (name_is i, rows_is i))

-- what `get_flag` says
pub flag_is : (t : Option Text) (r fair : Bool) → (t ≡ None → r ≡ false) → (t ≡ Some (codes "true") → r ≡ true)
    → (t ≡ Some (codes "false") → r ≡ false)
    → flag_of t ≡ Some fair → r ≡ fair
flag_is None r fair none on off e =
    let is : r ≡ false = none refl in
    cc
flag_is (Some text) r fair none on off e = go (bytes_eq text (codes "true")) (bytes_eq text (codes "false")) refl refl e
  where
    go : (a b : Bool) → bytes_eq text (codes "true") ≡ a → bytes_eq text (codes "false") ≡ b → cond a (Some true) (cond b (Some false) None) ≡ Some fair → r ≡ fair
    go true b is other e =
        let text_is : r ≡ true = on (ap Some ((bytes_eq-Decides text (codes "true")).0 is)) in
        cc
    go false true other is e =
        let text_is : r ≡ false = off (ap Some ((bytes_eq-Decides text (codes "false")).0 is)) in
        cc
    go false false a b e = cc

pub some_parts : {X Y : Type 0} (a b : X) (c d : Y) → ◌≡◌ {A = Option (X × Y)} (Some (a, c)) (Some (b, d))
    → (a ≡ b) × (c ≡ d)
some_parts {X} {Y} a b c d e =
    let same : ◌≡◌ {A = X × Y} (a, c) (b, d) = cc in
    (ap (λ p. p.0) same, ap (λ p. p.1) same)

-- the name and the flag, as the getters read them
pub seen_is : (m : ArgMatches) (inner : Found) (n : Text) (r : Bool) → Some n ≡ subcommand_name_of m
    → Some (rows_of inner) ≡ option_map (λ p. p.1) (subcommand_rows_of m)
    → (one_text inner (codes "fair") ≡ None → r ≡ false) → (one_text inner (codes "fair") ≡ Some (codes "true") → r ≡ true)
    → (one_text inner (codes "fair") ≡ Some (codes "false") → r ≡ false) → (name : Text) (fair : Bool) → met_of (subcommand_rows_of m) ≡ Some (name, Some fair)
    → ◌≡◌ {A = Option (Text × Bool)} (Some (n, r)) (Some (name, fair))
seen_is m inner n r named rows none on off name fair e =
    let is = rows_are (subcommand_rows_of m) n (rows_of inner) (named ∙ name_rows m) rows in
    let met = some_parts n name (flag_of (one_of (codes "fair") (rows_of inner))) (Some fair) (sym (ap met_of is) ∙ e) in
    let read = one_text-rows inner (codes "fair") in
    let flag = flag_is (one_of (codes "fair") (rows_of inner)) r fair (λ h. none (read ∙ h)) (λ h. on (read ∙ h)) (λ h. off (read ∙ h)) met.1 in
    λ i. Some (met.0 i, flag i)
