-- Which operations the order of a run holds, and where: by a key for each.
use Rattle.std.specs.Prelude.{ℕ, ◌≡◌, ◌<◌, ◌⊎◌, List, [], ◌∷◌, map, length}
use Rattle.reg_base.specs.declared.memory.OpId.{OpId}
use Rattle.reg_world.specs.declared.order.First.{First}
use Rattle.reg_world.specs.declared.order.CopyRead.{CopyRead}
use Rattle.reg_checkers.specs.declared.entries.Point.{Point}
use Rattle.reg_base.specs.Memory.{IsUpdate}
use Rattle.reg_checkers.specs.History.{IsAt, IsFinished}
use Rattle.reg_world.specs.Runs.{Run, Cast, IsWaiting}

-- four numbers, of which the first decides, then the second, and so on
pub record Key : Type 0 where
  pub place : ℕ
  pub kind : ℕ
  pub major : ℕ
  pub minor : ℕ

abbrev pub IsBelow : Key → Key → Type 0
IsBelow a b =
    (a.place < b.place)
    ⊎ ((a.place ≡ b.place)
    × ((a.kind < b.kind) ⊎ ((a.kind ≡ b.kind) × ((a.major < b.major) ⊎ ((a.major ≡ b.major) × (a.minor < b.minor))))))

abbrev pub key : ℕ → ℕ → ℕ → ℕ → Key
key place kind major minor = record { place = place; kind = kind; major = major; minor = minor }

-- the cast has changed the memory, or its caller has the answer
abbrev pub IsKept : Run → First → Type 0
IsKept r c = IsUpdate c.op ⊎ IsFinished r.history c.id

-- The operations that have a key.
-- Read: a finished read answered from a copy has the place of its answer, and stands before the cast at that place.
-- Delivered: a cast that was delivered, if it is an update or finished, has its place in the order.
-- Lost: a finished cast that was delivered nowhere stands after all others, by its stamp.
pub data HasKey (r : Run) (id : OpId) (k : Key) : Type 0 where
  Copied : (q : CopyRead) → ((k : ℕ) × IsAt r.reads k q) → q.id ≡ id → k ≡ key q.place 0 id.process id.number
      → HasKey r id k
  Delivered : (place : ℕ) (c : First) → IsAt r.order place c → c.id ≡ id → IsKept r c → k ≡ key place 1 0 0
      → HasKey r id k
  Lost : (d : Cast) → ((k : ℕ) × IsAt r.casts k d) → d.id ≡ id → IsWaiting r id → IsFinished r.history id
      → k ≡ key (length r.order) 2 d.stamp.time d.stamp.process → HasKey r id k

pub record Keyed : Type 0 where
  pub id : OpId
  pub key : Key

-- the operations that have a key, by rising key
pub record IsByKeys (r : Run) (w : List Keyed) : Type 0 where
  pub each : (i : ℕ) (e : Keyed) → IsAt w i e → HasKey r e.id e.key
  pub all : (e : Keyed) → HasKey r e.id e.key → (i : ℕ) × IsAt w i e
  pub rising : (i j : ℕ) (a b : Keyed) → IsAt w i a → IsAt w j b → i < j → IsBelow a.key b.key

abbrev pub IsWitness : Run → List OpId → Type 0
IsWitness r ids = (w : List Keyed) × IsByKeys r w × (ids ≡ map (λ e. e.id) w)

-- ys are the xs of which P holds, in their order
pub data Keeps {X : Type 0} (P : X → Type 0) : List X → List X → Type 0 where
  Nothing : Keeps P [] []
  Takes : {x : X} {xs ys : List X} → P x → Keeps P xs ys → Keeps P (x ∷ xs) (x ∷ ys)
  Leaves : {x : X} {xs ys : List X} → (P x → ⊥) → Keeps P xs ys → Keeps P (x ∷ xs) ys

-- the casts that are updates or finished, each at its first delivery
abbrev pub ArePoints : Run → List Point → Type 0
ArePoints r ps = (cs : List First) × Keeps (IsKept r) r.order cs × (ps ≡ map (λ c. record { id = c.id; at = c.at }) cs)
