-- Which words ask for what.
use Rattle.std.specs.Prelude.{ℕ, ◌≡◌, ◌≤◌, ◌⊎◌, ⊤, Bool, true, false, List, [], ◌∷◌, ◌++◌, codes, Option, Some, None}
use Rattle.std.specs.Prelude.{option_copied}
use Rattle.std.specs.Fmt.{decimal}
use Rattle.reg_cli.specs.Subcommands.{Text}
use Rattle.reg_outcomes.specs.declared.tables.plays.TheConstants.{MOST_PLAYS}
use Rattle.reg_commands.specs.declared.command.Command.{Command}
use Rattle.reg_commands.specs.declared.command.Command.TheVariants.{Check, Play, Replay}
use Rattle.reg_show.specs.declared.showing.Form.{Form}
use Rattle.reg_show.specs.declared.showing.Form.TheVariants.{Short, Whole}
use Rattle.reg_show.specs.declared.showing.View.{View}
use Rattle.reg_show.specs.declared.Showing.{Showing}
use Rattle.reg_show.specs.declared.Showing.TheVariants.{Data, Draw, DrawLarge, Page, Rest, Trace}
use Rattle.reg_show.specs.Seeds.{IsSeed, seed_of}
use Rattle.reg_show.specs.declared.Player.{Player}
use Rattle.reg_show.specs.declared.Player.TheVariants.{Fair, Seeded}
use Rattle.reg_outcomes.specs.declared.orders.kinds.OrderKind.{OrderKind}
use Rattle.reg_outcomes.specs.declared.orders.kinds.OrderKind.TheVariants.{Serial, Points}
use Rattle.reg_show_cli.specs.declared.asking.TheConstants.{LAST_OUTCOME}
use Rattle.reg_show_cli.specs.declared.flags.TheConstants.{USUAL_PLAYS}
use Rattle.reg_show_cli.specs.Topics.{topic_name}
use Rattle.reg_show_cli.specs.declared.topics.Topic.{Topic}
use Rattle.reg_show_cli.specs.declared.words.Asked.{Asked}
use Rattle.reg_show_cli.specs.declared.words.Asked.TheVariants.{AllOutcomes, Find, Help, Judge, Merge, Outcome}
use Rattle.reg_show_cli.specs.declared.words.Asked.TheVariants.{Outcomes, Schedule, ShortSchedule, Show, Story}
use Rattle.reg_show_cli.specs.declared.words.Asked.TheVariants.{Text as OfText, Verify, Version, Why}

-- the words that ask to show this: its name, and what a large drawing has behind it
abbrev pub show_words : Showing → List Text
show_words Trace = codes "trace" ∷ []
show_words Draw = codes "draw" ∷ []
show_words DrawLarge = codes "draw" ∷ codes "--large" ∷ []
show_words Data = codes "data" ∷ []
show_words Page = codes "page" ∷ []
show_words Rest = codes "rest" ∷ []

-- the flag by which a picture shows a form of a play: none for the short one
abbrev pub IsPictureFlag : Form → List Text → Type 0
IsPictureFlag Short flags = flags ≡ []
IsPictureFlag Whole flags = flags ≡ codes "--whole" ∷ []

-- the flag by which something is shown in a form: what isn't a picture is of the whole play, and has no flag
abbrev pub IsFormFlag : Showing → Form → List Text → Type 0
IsFormFlag Trace form flags = IsPictureFlag form flags
IsFormFlag Draw form flags = IsPictureFlag form flags
IsFormFlag DrawLarge form flags = IsPictureFlag form flags
IsFormFlag Page form flags = IsPictureFlag form flags
IsFormFlag Data form flags = (form ≡ Whole) × (flags ≡ [])
IsFormFlag Rest form flags = (form ≡ Whole) × (flags ≡ [])

-- the words after the program's name ask for this
abbrev pub IsShowLine : List Text → View → Type 0
IsShowLine line view =
    (flags : List Text) × (line ≡ show_words view.showing ++ flags) × IsFormFlag view.showing view.form flags

-- the words after the program's name that ask for a command of awreg
abbrev pub text_line : Command → List Text
text_line Replay = codes "replay" ∷ []
text_line Check = codes "check" ∷ []
text_line (Play false) = codes "play" ∷ []
text_line (Play true) = codes "play" ∷ codes "--fair" ∷ []

-- the words for a seed, where there is one
abbrev pub seed_words : Option ℕ → List Text
seed_words None = []
seed_words (Some seed) = codes "--seed" ∷ decimal seed ∷ []

-- these words are those for a seed that a workload can have, or for none
abbrev pub SaysSeed : List Text → Option ℕ → Type 0
SaysSeed flags seed = (flags ≡ seed_words seed) × IsSeed seed

-- the words for a player
abbrev pub player_words : Player → List Text
player_words Fair = codes "--fair" ∷ []
player_words (Seeded seed) = seed_words seed

-- these words are those for a player, whose seed a workload can have
abbrev pub SaysPlayer : List Text → Player → Type 0
SaysPlayer flags player = (flags ≡ player_words player) × IsSeed (seed_of player)

-- the words ask for the schedule of this player's play
abbrev pub IsScheduleLine : List Text → Player → Type 0
IsScheduleLine line player = (line ≡ codes "schedule" ∷ player_words player) × IsSeed (seed_of player)

-- the words for a short form
abbrev pub short_words : List Text
short_words = codes "--short" ∷ []

-- these words are those for a short form and those for a player, whose seed a workload can have: the one and then the
-- other, in either order
abbrev pub SaysShort : List Text → Player → Type 0
SaysShort flags player =
    ((flags ≡ short_words ++ player_words player) ⊎ (flags ≡ player_words player ++ short_words))
    × IsSeed (seed_of player)

-- the words ask for the schedule of the short form of this player's play
abbrev pub IsShortLine : List Text → Player → Type 0
IsShortLine line player = (flags : List Text) × (line ≡ codes "schedule" ∷ flags) × SaysShort flags player

-- the words for this number of plays
abbrev pub plays_words : ℕ → List Text
plays_words plays = codes "--plays" ∷ decimal plays ∷ []

-- these words are those for this number of plays, within the limits, and for a seed: the one and then the other, in
-- either order; or for a seed alone, and then the plays are as many as is usual
abbrev pub SaysPlays : List Text → ℕ → Option ℕ → Type 0
SaysPlays flags plays seed =
    ((plays ≡ USUAL_PLAYS) × (flags ≡ seed_words seed))
    ⊎ ((1 ≤ plays) × (plays ≤ MOST_PLAYS)
    × ((flags ≡ plays_words plays ++ seed_words seed) ⊎ (flags ≡ seed_words seed ++ plays_words plays)))

-- the words ask to count what this number of plays tells, from this seed on where there is one
abbrev pub IsOutcomesLine : List Text → ℕ → Option ℕ → Type 0
IsOutcomesLine line plays seed =
    (flags : List Text) × (line ≡ codes "outcomes" ∷ flags) × SaysPlays flags plays seed × IsSeed seed

-- the words ask what is wrong with a text
abbrev pub IsWhyLine : List Text → Type 0
IsWhyLine line = line ≡ codes "why" ∷ []

-- the words ask to judge a record
abbrev pub IsVerifyLine : List Text → Type 0
IsVerifyLine line = line ≡ codes "verify" ∷ []

abbrev pub IsMergeLine : List Text → Type 0
IsMergeLine line = line ≡ codes "merge" ∷ []

-- the words ask whether reports are one story
abbrev pub IsStoryLine : List Text → Type 0
IsStoryLine line = line ≡ codes "story" ∷ []

-- the words for a first value, where there is one
abbrev pub first_words : Option Text → List Text
first_words None = []
first_words (Some value) = codes "--first" ∷ value ∷ []

-- the words for a report, or for none
abbrev pub report_words : Bool → List Text
report_words false = []
report_words true = codes "--report" ∷ []

-- these words are those for a first value and those for a report: the one and then the other, in either order
abbrev pub SaysJudge : List Text → Option Text → Bool → Type 0
SaysJudge flags first report =
    (flags ≡ first_words first ++ report_words report) ⊎ (flags ≡ report_words report ++ first_words first)

-- the words ask to judge a history, of registers with this first value where there is one, and whether for a report
abbrev pub IsJudgeLine : List Text → Option Text → Bool → Type 0
IsJudgeLine line first report = (flags : List Text) × (line ≡ codes "judge" ∷ flags) × SaysJudge flags first report

-- the words ask for the version
abbrev pub IsVersionLine : List Text → Type 0
IsVersionLine line = line ≡ codes "--version" ∷ []

-- the words ask for all outcomes
abbrev pub IsAllLine : List Text → Type 0
IsAllLine line = line ≡ codes "outcomes" ∷ codes "--all" ∷ []

-- the words ask for a run with the outcome of this number, from 1 on
abbrev pub IsOneOutcomeLine : List Text → ℕ → Type 0
IsOneOutcomeLine line number =
    (line ≡ codes "outcomes" ∷ codes "--all" ∷ decimal number ∷ []) × (1 ≤ number) × (number ≤ LAST_OUTCOME)

-- the word for an order
abbrev pub order_word : OrderKind → Text
order_word Serial = codes "serial"
order_word Points = codes "points"

-- the words ask to find an order of this kind
abbrev pub IsFindLine : List Text → OrderKind → Type 0
IsFindLine line kind = line ≡ codes "find" ∷ order_word kind ∷ []

-- the words ask for help with the command of this name
abbrev pub IsHelpWith : List Text → Text → Type 0
IsHelpWith line name =
    (line ≡ codes "help" ∷ name ∷ []) ⊎ ((line ≡ name ∷ codes "-h" ∷ []) ⊎ (line ≡ name ∷ codes "--help" ∷ []))

-- the words ask for help, with a command or with none
abbrev pub IsHelpLine : List Text → Option Topic → Type 0
IsHelpLine line None = (line ≡ codes "help" ∷ []) ⊎ ((line ≡ codes "-h" ∷ []) ⊎ (line ≡ codes "--help" ∷ []))
IsHelpLine line (Some topic) = IsHelpWith line (topic_name topic)

-- the words ask for just this
abbrev pub IsLineOf : Asked → List Text → Type 0
IsLineOf (OfText command) line = line ≡ text_line command
IsLineOf (Show view) line = IsShowLine line view
IsLineOf (Schedule player) line = IsScheduleLine line player
IsLineOf (ShortSchedule player) line = IsShortLine line player
IsLineOf (Outcomes plays seed) line = IsOutcomesLine line plays seed
IsLineOf AllOutcomes line = IsAllLine line
IsLineOf (Outcome number) line = IsOneOutcomeLine line number
IsLineOf (Find kind) line = IsFindLine line kind
IsLineOf Why line = IsWhyLine line
IsLineOf Verify line = IsVerifyLine line
IsLineOf Merge line = IsMergeLine line
IsLineOf Story line = IsStoryLine line
IsLineOf (Judge flags) line = IsJudgeLine line (option_copied flags.first) flags.report
IsLineOf (Help topic) line = IsHelpLine line topic
IsLineOf Version line = IsVersionLine line

-- what is asked for has no more plays than can be counted, a seed that a workload can have, and the outcome a number
-- from 1 on
abbrev pub NumbersFit : Asked → Type 0
NumbersFit (Schedule player) = IsSeed (seed_of player)
NumbersFit (ShortSchedule player) = IsSeed (seed_of player)
NumbersFit (Outcomes plays seed) = (plays ≤ MOST_PLAYS) × IsSeed seed
NumbersFit (Outcome number) = 1 ≤ number
NumbersFit _ = ⊤

-- the line for words that ask for nothing, with its line feed
abbrev pub refused_line : List ℕ
refused_line = codes "usage: awshow COMMAND [FLAGS] < TEXT, and awshow help lists the commands" ++ 10 ∷ []
