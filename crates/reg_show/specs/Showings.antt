-- What is shown of a text, and what a fault says of it.
use Rattle.std.specs.Prelude.{ℕ, ◌≡◌, ◌<◌, ◌⊎◌, ⊤, Bool, false, List, [], ◌∷◌, length}
use Rattle.reg_commands.specs.declared.command.Command.TheVariants.{Replay}
use Rattle.reg_commands.specs.declared.faults.Fault.{Fault}
use Rattle.reg_commands.specs.declared.faults.Fault.TheVariants.{OutOfMemory}
use Rattle.reg_commands.specs.Answers.{Blames as BlamesCommand}
use Rattle.reg_commands.specs.Plays.{IsPlayBy, plan_of}
use Rattle.reg_commands.specs.Replays.{start_of}
use Rattle.reg_commands.specs.Works.{BlamesDocument, OfDocument}
use Rattle.reg_trace.specs.Notes.{Notes, no_notes, notes_of, titled}
use Rattle.reg_inputs.specs.Loads.{Load}
use Rattle.reg_inputs.specs.Schedules.{Plan, IsPlan, Spells}
use Rattle.reg_show.specs.declared.commands.TheConstants.{MOST_DRAWN}
use Rattle.reg_show.specs.declared.paging.TheConstants.{MOST_TOLD}
use Rattle.reg_show.specs.declared.faults.ShowFault.{ShowFault}
use Rattle.reg_show.specs.declared.faults.ShowFault.TheVariants.{Command, TooManyToDraw, TooManyToRest}
use Rattle.reg_show.specs.declared.showing.Form.{Form}
use Rattle.reg_show.specs.declared.showing.Form.TheVariants.{Short, Whole}
use Rattle.reg_show.specs.declared.showing.Showing.{Showing}
use Rattle.reg_show.specs.declared.showing.Showing.TheVariants.{Trace, Draw, DrawLarge, Data, Page, Rest}
use Rattle.reg_show.specs.declared.showing.TheConstants.{SHORT_FORM}
use Rattle.reg_show.specs.declared.showing.View.{View}
use Rattle.reg_show.specs.declared.page_head.TheConstants.{PAGE_HEAD}
use Rattle.reg_show.specs.declared.page_tail.TheConstants.{PAGE_TAIL}
use Rattle.reg_show.specs.Pages.{ShowsData}
use Rattle.reg_show.specs.Rests.{LacksRoom, WritesRest}
use Rattle.reg_show.specs.Runs.{DrawsRun, StopsRun, TellsRun}
use Rattle.reg_show.specs.Shorts.{IsLongPlay, IsShortPlay, plan_with}
use Rattle.reg_world.specs.Worlds.{Made}
use Rattle.reg_base.specs.declared.memory.Op.{Op}
use Rattle.reg_process.specs.declared.events.Event.{Event}
use Rattle.reg_front.specs.declared.starts.Start.{Start}

-- what was written of a plan's run, with these notes: `Wrote` says how a text was
abbrev pub ShowsPlan : Showing → Notes → (List ℕ → Type 0) → Plan → Type 0
ShowsPlan Trace notes Wrote p = TellsRun notes.title Wrote p
ShowsPlan Draw notes Wrote p = DrawsRun Wrote p
ShowsPlan DrawLarge notes Wrote p = DrawsRun Wrote p
ShowsPlan Data notes Wrote p = ShowsData [] (10 ∷ []) notes Wrote p
ShowsPlan Page notes Wrote p = ShowsData PAGE_HEAD.now PAGE_TAIL.now notes Wrote p
ShowsPlan Rest notes Wrote p = WritesRest (start_of p.front) Wrote p

-- why nothing is written of a plan's run
abbrev pub StopsShowing : Showing → Plan → ShowFault → Type 0
StopsShowing showing p (Command fault) = StopsRun (start_of p.front) p fault
StopsShowing Draw p TooManyToDraw = MOST_DRAWN < length p.events
StopsShowing DrawLarge p TooManyToDraw = MOST_DRAWN < length p.events
StopsShowing Data p TooManyToDraw = MOST_TOLD < length p.events
StopsShowing Page p TooManyToDraw = MOST_TOLD < length p.events
StopsShowing Rest p TooManyToRest = LacksRoom (start_of p.front) p
StopsShowing showing p _ = ⊥

-- the notes that are shown of a text
abbrev pub notes_for : Showing → List ℕ → Notes
notes_for Data text = notes_of text
notes_for Page text = notes_of text
notes_for showing text = no_notes

-- The text is that of a plan, and of its run this was written, with the notes of the text.
pub record ShowsText (showing : Showing) (Wrote : List ℕ → Type 0) (text : List ℕ) : Type 0 where
  pub plan : Plan
  pub good : IsPlan plan
  pub read : Spells text plan
  pub shown : ShowsPlan showing (notes_for showing text) Wrote plan

-- what a fault says of the text: what the replay of a schedule says by it, or it is that of a plan of whose run nothing
-- is written for this reason
abbrev pub BlamesText : Showing → ShowFault → List ℕ → Type 0
BlamesText showing f text =
    ((fault : Fault) × (f ≡ Command fault) × BlamesCommand Replay fault text)
    ⊎ ((p : Plan) × IsPlan p × Spells text p × StopsShowing showing p f)

-- the plan is what the workload's seeded play made
abbrev pub IsPlayOf : (Op → ℕ → Start) → Load → Plan → Type 0
IsPlayOf start work p =
    (made : Made) × (is_finished : Bool) × IsPlayBy false start work made is_finished × (p ≡ plan_of work made)
    × IsPlan p

-- the plan has the events of the short form of the workload's seeded play
abbrev pub IsShortOf : (Op → ℕ → Start) → Load → Plan → Type 0
IsShortOf start work p =
    (short : List Event) × IsShortPlay false start work short × (p ≡ plan_with work short) × IsPlan p

-- The plan and the notes are what is shown of the workload's seeded play: all of it, and no note; or its short form,
-- with a title that says so, but where the play has too many events to be shortened all of it.
abbrev pub IsShownPlay : Form → (Op → ℕ → Start) → Load → Plan → Notes → Type 0
IsShownPlay Whole start work p notes = IsPlayOf start work p × (notes ≡ no_notes)
IsShownPlay Short start work p notes =
    (IsShortOf start work p × (notes ≡ titled SHORT_FORM.now))
    ⊎ (IsLongPlay false start work × IsPlayOf start work p × (notes ≡ no_notes))

-- of the run of the workload's seeded play this was written, in this form
pub record ShowsPlay (view : View) (Wrote : List ℕ → Type 0) (work : Load) : Type 0 where
  pub plan : Plan
  pub notes : Notes
  pub played : IsShownPlay view.form (start_of work.front) work plan notes
  pub shown : ShowsPlan view.showing notes Wrote plan

-- why nothing is written of the run of the workload's seeded play: memory was refused, or for this reason
abbrev pub StopsPlay : View → Load → ShowFault → Type 0
StopsPlay view work fault =
    (fault ≡ Command OutOfMemory)
    ⊎ ((p : Plan) × (notes : Notes) × IsShownPlay view.form (start_of work.front) work p notes
    × StopsShowing view.showing p fault)

-- what is shown of the text of a schedule, or of a document that says a workload
abbrev pub Shows : View → (List ℕ → Type 0) → List ℕ → Type 0
Shows view Wrote text = ShowsText view.showing Wrote text ⊎ OfDocument (ShowsPlay view) Wrote text

-- what a fault says of such a text
abbrev pub Blames : View → ShowFault → List ℕ → Type 0
Blames view f text =
    BlamesText view.showing f text ⊎ BlamesDocument (λ fault. Command fault) (λ f work. StopsPlay view work f) f text
