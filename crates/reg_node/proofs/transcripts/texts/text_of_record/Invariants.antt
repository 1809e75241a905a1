use Rattle.std.proofs.Common.{◌≡◌, map, take}
use Rattle.reg_text.specs.Lines.{text_of}
use Rattle.reg_node.specs.RecordLines.{head_lines, recorded_text}
use Rattle.reg_node.proofs.transcripts.texts.text_of_record.Given as goal

-- the head and the steps so far
abbrev pub invariant-loop-step : goal.invariant-loop-step
invariant-loop-step g l = l.text.items ≡ text_of (head_lines l.account.front l.account.shape.processes l.account.names (map (recorded_text l.account.names) (take l.step-index l.account.steps)))
