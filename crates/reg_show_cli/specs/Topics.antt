-- The commands, as help tells of them.
use Rattle.std.specs.Prelude.{ℕ, List, [], ◌∷◌, ◌++◌, codes, Option, Some, None}
use Rattle.std.specs.List.{flat_map}
use Rattle.reg_cli.specs.Subcommands.{Text}
use Rattle.reg_show_cli.specs.declared.topics.Topic.{Topic}
use Rattle.reg_show_cli.specs.declared.topics.Topic.TheVariants.{Replay, Check, Play, Schedule, Outcomes, Find, Trace}
use Rattle.reg_show_cli.specs.declared.topics.Topic.TheVariants.{Draw, Page, Data, Rest, Why, Verify, Merge, Story}
use Rattle.reg_show_cli.specs.declared.topics.Topic.TheVariants.{Judge}
use Rattle.reg_show_cli.specs.declared.topics.TheConstants.{REPLAY, CHECK, PLAY, SCHEDULE, OUTCOMES, FIND, TRACE, DRAW}
use Rattle.reg_show_cli.specs.declared.topics.TheConstants.{PAGE, DATA, REST, WHY, VERIFY, MERGE, STORY, JUDGE}
use Rattle.reg_show_cli.specs.declared.words.TheConstants.{HELP_BEGIN, HELP_END}

abbrev pub topic_name : Topic → Text
topic_name Replay = codes "replay"
topic_name Check = codes "check"
topic_name Play = codes "play"
topic_name Schedule = codes "schedule"
topic_name Outcomes = codes "outcomes"
topic_name Find = codes "find"
topic_name Trace = codes "trace"
topic_name Draw = codes "draw"
topic_name Page = codes "page"
topic_name Data = codes "data"
topic_name Rest = codes "rest"
topic_name Why = codes "why"
topic_name Verify = codes "verify"
topic_name Merge = codes "merge"
topic_name Story = codes "story"
topic_name Judge = codes "judge"

-- what help tells of a command
abbrev pub topic_lines : Topic → List ℕ
topic_lines Replay = REPLAY.now
topic_lines Check = CHECK.now
topic_lines Play = PLAY.now
topic_lines Schedule = SCHEDULE.now
topic_lines Outcomes = OUTCOMES.now
topic_lines Find = FIND.now
topic_lines Trace = TRACE.now
topic_lines Draw = DRAW.now
topic_lines Page = PAGE.now
topic_lines Data = DATA.now
topic_lines Rest = REST.now
topic_lines Why = WHY.now
topic_lines Verify = VERIFY.now
topic_lines Merge = MERGE.now
topic_lines Story = STORY.now
topic_lines Judge = JUDGE.now

-- all commands
abbrev pub topics : List Topic
topics =
    Replay ∷ Check ∷ Play ∷ Schedule ∷ Outcomes ∷ Find ∷ Trace ∷ Draw ∷ Page ∷ Data ∷ Rest ∷ Why ∷ Verify ∷ Merge
    ∷ Story ∷ Judge ∷ []

-- the help with a command, or with all
abbrev pub help_text : Option Topic → List ℕ
help_text None = HELP_BEGIN.now ++ (flat_map topic_lines topics ++ HELP_END.now)
help_text (Some topic) = topic_lines topic
