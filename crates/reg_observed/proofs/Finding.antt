-- Steps of what is found out.
use Rattle.std.proofs.Common.{ℕ, ◌≡◌, List, Some, codes, slice_get, if◌then◌else◌}
use Rattle.std.specs.List.{list_any}
use Rattle.reg_observed.specs.declared.events.Event.{Event}
use Rattle.reg_observed.specs.Heard.{Extends}
use Rattle.reg_observed.specs.Rows.{speaks_of}
use Rattle.reg_observed.specs.Verdicts.{IsUsualFirst}
use Rattle.reg_observed.proofs.Hearing.{kept_word}

pub usual_first : (middle values : List (List ℕ)) (events : List Event) (null zero_ first : ℕ)
    → slice_get middle null ≡ Some (codes "null") → Extends middle values → slice_get values zero_ ≡ Some (codes "0")
    → first ≡ (if list_any (speaks_of null) events then null else zero_) → IsUsualFirst values events first
usual_first middle values events null zero_ first here wider at is =
    (null, zero_, kept_word middle values null (codes "null") wider here, at, is)
