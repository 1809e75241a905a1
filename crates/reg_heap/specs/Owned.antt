-- What pieces of memory, piles of them and blocks own.
use Rattle.std.specs.Prelude.{ℕ, zero, suc}
use mir.Syntax.{Ty, ty_ptr}
use prog.Memory.{size}
use base.Fraction.{full_share}
use base.Fml.{Fml, ffalse, ftrue, fsep, fex, fwand, fat, froom}
use denote.RawPtr.{Ptr, block_ptr, null_ptr, ptr_val, room_for}
use Rattle.linked_list_allocator.specs.Ownership.{bytes_at}
use Rattle.reg_heap.specs.Blocks.{IsBlockSize}

-- `count` pieces of n bytes, the first at p: each begins with the place of the next
abbrev pub pile : ℕ → ℕ → Ptr → Fml
pile n zero p = ftrue
pile n (suc count) null_ptr = ffalse
pile n (suc count) (block_ptr b o) =
    fex Ptr
    (λ next. fsep
    (fsep (fat full_share ty_ptr b o (ptr_val next)) (fwand (froom ty_ptr b o) (bytes_at (block_ptr b o) n)))
    (pile n count next))

-- the right to give the block for a τ at p back to its heap
abbrev pub block_token : Ty → Ptr → Fml
block_token τ p = fex ℕ (λ n. fex (IsBlockSize (size τ) n) (λ _. fwand (room_for τ p) (bytes_at p n)))
