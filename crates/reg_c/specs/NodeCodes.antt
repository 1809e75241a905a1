-- What a node refuses, and why no log is read or opened, as numbers.
use Rattle.std.specs.Prelude.{ℕ, Option, None, Some}
use Rattle.reg_process.specs.declared.faults.ProcessFault.TheVariants as refusals
use Rattle.reg_node.specs.declared.transcripts.logs.LogFault.{LogFault}
use Rattle.reg_node.specs.declared.transcripts.logs.LogFault.TheVariants as logs
use Rattle.reg_node.specs.Logs.{Outgoing}
use Rattle.reg_node.specs.declared.faults.HelloFault.{HelloFault}
use Rattle.reg_node.specs.declared.faults.HelloFault.TheVariants as hellos
use Rattle.reg_node.specs.declared.faults.LoggedFault.{LoggedFault}
use Rattle.reg_node.specs.declared.faults.LoggedFault.TheVariants.{Stopped, Unspelled, OfMeeting}
use Rattle.reg_node.specs.declared.faults.MeetingFault.{MeetingFault}
use Rattle.reg_node.specs.declared.faults.MeetingFault.TheVariants.{LogLost, Unheard, OfNode}
use Rattle.reg_node.specs.declared.faults.NodeFault.{NodeFault}
use Rattle.reg_node.specs.declared.faults.NodeFault.TheVariants.{Full, NoRoom, Refused}
use Rattle.reg_node.specs.declared.faults.OpenFault.{OpenFault}
use Rattle.reg_node.specs.declared.faults.OpenFault.TheVariants.{NoProcess, TooLong, NoStep, OutOfMemory}
use Rattle.reg_c.specs.Events.{refusal_code, reply_code}

-- a node that makes no step: as a process tells it, where the process refuses the step

abbrev pub log_full : ℕ
log_full = 68

abbrev pub node_code : NodeFault → ℕ
node_code Full = log_full
node_code NoRoom = 69
node_code (Refused fault) = refusal_code fault

abbrev pub log_lost : ℕ
log_lost = 66

abbrev pub meeting_code : MeetingFault → ℕ
meeting_code LogLost = log_lost
meeting_code Unheard = 67
meeting_code (OfNode fault) = node_code fault

abbrev pub logged_code : LoggedFault → ℕ
logged_code Stopped = 64
logged_code Unspelled = 65
logged_code (OfMeeting fault) = meeting_code fault

-- a node that doesn't hear another process
abbrev pub hello_code : HelloFault → ℕ
hello_code hellos.LogLost = log_lost
hello_code hellos.NoPeer = refusal_code refusals.NoProcess

-- fewer entries were logged than are said to be durable
abbrev pub not_logged : ℕ
not_logged = 70

-- what is handed out, with its reply's number; or nothing is due
abbrev pub handed_code : Option Outgoing → ℕ
handed_code None = 71
handed_code (Some output) = reply_code output.reply

-- bytes that are read as no log, with the line or the entry that is told
abbrev pub log_code : LogFault → ℕ
log_code (logs.Line line why) = 72
log_code logs.NoProcess = refusal_code refusals.NoProcess
log_code (logs.Foreign place) = 75
log_code (logs.Damaged place) = 73
log_code logs.OutOfMemory = refusal_code refusals.OutOfMemory

abbrev pub log_place : LogFault → ℕ
log_place (logs.Line line why) = line
log_place logs.NoProcess = 0
log_place (logs.Foreign place) = place
log_place (logs.Damaged place) = place
log_place logs.OutOfMemory = 0

-- a log with which no node is opened, with the entry that is told
abbrev pub open_code : OpenFault → ℕ
open_code NoProcess = refusal_code refusals.NoProcess
open_code TooLong = log_full
open_code (NoStep place) = 74
open_code OutOfMemory = refusal_code refusals.OutOfMemory

abbrev pub open_place : OpenFault → ℕ
open_place (NoStep place) = place
open_place NoProcess = 0
open_place TooLong = 0
open_place OutOfMemory = 0

-- words that are no names of registers
abbrev pub bad_names : ℕ
bad_names = 76

-- the number of the chapter is too great for a message
abbrev pub no_chapter : ℕ
no_chapter = 84

-- bytes that are no greeting
abbrev pub no_greeting : ℕ
no_greeting = 85
