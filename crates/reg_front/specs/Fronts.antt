-- What a front end has to keep.
use Rattle.std.specs.Prelude.{◌≡◌, ℕ, ◌<◌, false}
use Rattle.reg_base.specs.declared.memory.Op.{Op}
use Rattle.reg_base.specs.declared.memory.Answer.TheVariants.{Done}
use Rattle.reg_front.specs.declared.starts.Start.{Start}
use Rattle.reg_front.specs.declared.starts.Start.TheVariants.{Cast as Casts, CastAndAnswer as CastsAndAnswers}
use Rattle.reg_front.specs.declared.starts.Start.TheVariants.{Look as Looks, Hold as Holds}
use Rattle.reg_base.specs.Memory.{Memory, answer_of, updates, IsUpdate, IsBlind}

-- how an operation may start
abbrev pub MayStart : Op → ℕ → Start → Type 0
MayStart op unsettled Casts = Unit {0}
-- what answers Done whatever the memory
MayStart op unsettled CastsAndAnswers = (m : Memory) → answer_of op m ≡ Done
-- what changes nothing, with no own cast on its way, and with one
MayStart op unsettled Looks = (updates op ≡ false) × (unsettled ≡ 0)
MayStart op unsettled Holds = (updates op ≡ false) × (0 < unsettled)

abbrev pub KeepsLaws : (Op → ℕ → Start) → Type 0
KeepsLaws start = (op : Op) (unsettled : ℕ) → MayStart op unsettled (start op unsettled)

-- an operation that may change the memory, and whose answer tells of it, is cast and runs until its delivery
abbrev pub CastsWhatTells : (Op → ℕ → Start) → Type 0
CastsWhatTells start = (op : Op) (unsettled : ℕ) → IsUpdate op → ¬ (IsBlind op) → start op unsettled ≡ Casts

-- every operation is cast
abbrev pub CastsAll : (Op → ℕ → Start) → Type 0
CastsAll start = (op : Op) (unsettled : ℕ) → start op unsettled ≡ Casts
