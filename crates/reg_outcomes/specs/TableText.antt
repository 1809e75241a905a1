-- The text of a table. To be believed: promises speak of it.
use Rattle.std.specs.Prelude.{ℕ, List, [], ◌∷◌, ◌++◌, length, map, codes, Option, Some, None}
use Rattle.std.specs.List.{flat_map}
use Rattle.std.specs.Fmt.{decimal}
use Rattle.reg_text.specs.Columns.{to_right}
use Rattle.reg_text.specs.Lines.{text_of}
use Rattle.reg_outcomes.specs.AllText.{told_text}
use Rattle.reg_outcomes.specs.declared.tables.tallies.Tally.{Tally}
use Rattle.reg_outcomes.specs.PlayTables.{Line}

-- `late` where no play is linearizable
abbrev pub time_text : Option ℕ → List ℕ
time_text None = codes "late     "
time_text (Some seed) = codes "real time"

-- a seed, or that there is none
abbrev pub seed_text : Option ℕ → List ℕ
seed_text None = codes "-"
seed_text (Some seed) = decimal seed

-- the first play that is linearizable, and the first that is not
abbrev pub firsts_text : Tally → List ℕ
firsts_text t = (codes "  linearizable " ++ seed_text t.in_time) ++ (codes "  not linearizable " ++ seed_text t.late)

-- the shortest play
abbrev pub shortest_text : Tally → List ℕ
shortest_text t = to_right 5 (decimal t.events) ++ (codes " events  seed " ++ decimal t.seed)

-- whether some play is linearizable, and which plays to look at
abbrev pub play_text : Tally → List ℕ
play_text t = time_text t.in_time ++ (codes "  " ++ (shortest_text t ++ firsts_text t))

-- the line of an outcome
abbrev pub line_text : Line → List ℕ
line_text l = to_right 8 (decimal l.tally.count) ++ (codes "  " ++ (flat_map told_text l.outcome ++ play_text l.tally))

-- the line of how many outcomes no play had, where they were counted
abbrev pub undrawn_lines : Option ℕ → List (List ℕ)
undrawn_lines None = []
undrawn_lines (Some n) = (codes "never drawn " ++ decimal n) ∷ []

-- the lines of a table
abbrev pub table_lines : ℕ → List Line → ℕ → Option ℕ → List (List ℕ)
table_lines plays lines unfinished undrawn =
    (codes "plays " ++ decimal plays) ∷ (codes "outcomes " ++ decimal (length lines))
    ∷ (map line_text lines ++ (codes "unfinished " ++ decimal unfinished) ∷ undrawn_lines undrawn)

abbrev pub table_text : ℕ → List Line → ℕ → Option ℕ → List ℕ
table_text plays lines unfinished undrawn = text_of (table_lines plays lines unfinished undrawn)
