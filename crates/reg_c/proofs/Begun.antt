-- A log that begins, as its numbers and names say.
use Rattle.std.proofs.Common.{◌≡◌, ◌<◌, ◌≤◌, ◌^◌, ℕ, List, Some, None, length, refl, ap, ◌∙◌, arith}
use Rattle.reg_base.specs.Names.{names_fault}
use Rattle.reg_base.specs.Shape.{Extent}
use Rattle.reg_base.specs.declared.limits.TheConstants.{MOST_PROCESSES}
use Rattle.reg_front.specs.declared.named.Front.{Front}
use Rattle.reg_node.specs.declared.transcripts.logs.LogId.{LogId}
use Rattle.reg_node.specs.LogTexts.{begun_with, log_lines, log_text}
use Rattle.reg_node.specs.Seals.{IsSealed}
use Rattle.reg_c.specs.declared.beginning.LogRow.{LogRow}
use Rattle.reg_c.specs.Beginning.{BeginsLog, SaysNames, id_in}
use Rattle.reg_c.specs.Fronts.{front_at}

-- it is within the limits of a log
pub begins : (row : LogRow) (text bytes : List ℕ) (crc : ℕ) (front : Front) (names : List (List ℕ)) (shape : Extent)
    (id : LogId)
    → front_at row.front ≡ Some front → SaysNames text names → names_fault names ≡ None
    → shape ≡ record { processes = row.processes; registers = length names } → 0 < row.processes → row.processes ≤ MOST_PROCESSES → row.process < row.processes
    → id ≡ id_in row → row.cluster < 2 ^ 64 → row.chapter < 2 ^ 64 → row.begun < 2 ^ 64
    → IsSealed bytes crc (log_lines (begun_with id front shape names)) → BeginsLog row text bytes
begins row text bytes crc front names shape id is_front says good shape_is some few within id_is cluster chapter begun sealed = record {
  front = front;
  names = names;
  is_front = is_front;
  says = says;
  good = record {
    account = record { names = good; some_process = some; processes = few; registers = refl; steps = λ k x h. absurd (let bad : ⊥ = cc in bad); few = omega arith };
    process = within;
    cluster = cluster;
    chapter = chapter;
    begun = begun;
  };
  is = sealed.text ∙ (ap (λ (i : LogId). log_text (begun_with i front shape names)) id_is ∙ ap (λ (s : Extent). log_text (begun_with (id_in row) front s names)) shape_is);
}
