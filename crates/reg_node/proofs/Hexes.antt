-- Frames, their bytes, and the digits of these.
use Rattle.std.proofs.Common.{ℕ, zero, suc, ◌≡◌, ◌+◌, ◌*◌, ◌%◌, ◌<◌, ◌⊎◌, inl, inr, List, [], ◌∷◌, ◌++◌, length, Ok}
use Rattle.std.proofs.Common.{refl, ap, ◌∙◌, arith}
use Rattle.std.specs.Int.{bytes_high_first, byte_at}
use Rattle.hex.specs.Hex.{IsBytes, decode_sized, lower_digits}
use Rattle.hex.proofs.HexLemmas.{decode_sized-encode_lower, length-encode_with}
use Rattle.reg_base.specs.declared.memory.Op.{Op}
use Rattle.reg_base.specs.declared.memory.Op.TheVariants.{Read, Write, Swap, CompareAndSwap}
use Rattle.reg_frames.specs.declared.bodies.Body.{Body}
use Rattle.reg_frames.specs.declared.bodies.Body.TheVariants.{Cast, Ack}
use Rattle.reg_frames.specs.declared.bodies.Frame.{Frame}
use Rattle.reg_frames.specs.declared.bodies.Frame.TheVariants.{Numbered, Got}
use Rattle.reg_frames.specs.Spelling.{body_bytes, op_bytes, op_version, payload, spelling, version_of}
use Rattle.reg_node.specs.RecordLines.{frame_text}

none : IsBytes []
none i = omega arith

one_more : (b : ℕ) (bytes : List ℕ) → b < 256 → IsBytes bytes → IsBytes (b ∷ bytes)
one_more b bytes small rest zero = small
one_more b bytes small rest (suc i) = rest i

joined : (xs ys : List ℕ) → IsBytes xs → IsBytes ys → IsBytes (xs ++ ys)
joined [] ys h k = k
joined (x ∷ xs) ys h k = one_more x (xs ++ ys) (h 0) (joined xs ys (λ i. h (suc i)) k)

small : (n : ℕ) → n % 256 < 256
small n = omega arith

byte_small : (k n : ℕ) → byte_at k n < 256
byte_small zero n = small n
byte_small (suc k) n = small _

high : (k n : ℕ) → IsBytes (bytes_high_first k n)
high zero n = none
high (suc k) n = one_more (byte_at k n) (bytes_high_first k n) (byte_small k n) (high k n)

valued : (r v : ℕ) → IsBytes (bytes_high_first 2 r ++ bytes_high_first 8 v)
valued r v = joined (bytes_high_first 2 r) (bytes_high_first 8 v) (high 2 r) (high 8 v)

of_op : (op : Op) → IsBytes (op_bytes op)
of_op (Read r) = one_more 1 (bytes_high_first 2 r) (omega arith) (high 2 r)
of_op (Write r v) = one_more 2 (bytes_high_first 2 r ++ bytes_high_first 8 v) (omega arith) (valued r v)
of_op (Swap r v) = one_more 3 (bytes_high_first 2 r ++ bytes_high_first 8 v) (omega arith) (valued r v)
of_op (CompareAndSwap r e v) = one_more 4 (bytes_high_first 2 r ++ (bytes_high_first 8 e ++ bytes_high_first 8 v)) (omega arith) (joined (bytes_high_first 2 r) (bytes_high_first 8 e ++ bytes_high_first 8 v) (high 2 r) (joined (bytes_high_first 8 e) (bytes_high_first 8 v) (high 8 e) (high 8 v)))

of_body : (body : Body) → IsBytes (body_bytes body)
of_body (Cast time op) = one_more 1 (bytes_high_first 8 time ++ op_bytes op) (omega arith) (joined (bytes_high_first 8 time) (op_bytes op) (high 8 time) (of_op op))
of_body (Ack time) = one_more 2 (bytes_high_first 8 time) (omega arith) (high 8 time)

of_payload : (frame : Frame) → IsBytes (payload frame)
of_payload (Numbered number body) = one_more 1 (bytes_high_first 8 number ++ body_bytes body) (omega arith) (joined (bytes_high_first 8 number) (body_bytes body) (high 8 number) (of_body body))
of_payload (Got count) = one_more 2 (bytes_high_first 8 count) (omega arith) (high 8 count)

op_small : (op : Op) → op_version op < 256
op_small (Read r) = omega arith
op_small (Write r v) = omega arith
op_small (Swap r v) = omega arith
op_small (CompareAndSwap r e v) = omega arith

version_small : (frame : Frame) → version_of frame < 256
version_small (Numbered number (Cast time op)) = op_small op
version_small (Numbered number (Ack time)) = omega arith
version_small (Got count) = omega arith

-- a spelling is of bytes
are_bytes : (frame : Frame) → IsBytes (spelling frame)
are_bytes frame = joined (bytes_high_first 2 (length (payload frame) + 1)) (version_of frame ∷ payload frame) (high 2 (length (payload frame) + 1)) (one_more (version_of frame) (payload frame) (version_small frame) (of_payload frame))

-- what is read of the digits of a frame
pub read_back : (frame : Frame) (text : List ℕ) (n : ℕ) → length (spelling frame) ≡ n → text ≡ frame_text frame
    → decode_sized text n ≡ Ok (spelling frame)
read_back frame text n long is =
    ap (λ t. decode_sized t n) is ∙ decode_sized-encode_lower (spelling frame) n long (are_bytes frame)

-- how many digits a frame has
pub digits : (frame : Frame) (text : List ℕ) → text ≡ frame_text frame → length text ≡ 2 * length (spelling frame)
digits frame text is = ap length is ∙ length-encode_with lower_digits (spelling frame)

-- the sizes of frames
pub sizes : (frame : Frame)
    → (length (spelling frame) ≡ 12)
    ⊎ ((length (spelling frame) ≡ 21)
    ⊎ ((length (spelling frame) ≡ 24) ⊎ ((length (spelling frame) ≡ 32) ⊎ (length (spelling frame) ≡ 40))))
sizes (Got count) = inl refl
sizes (Numbered number (Ack time)) = inr (inl refl)
sizes (Numbered number (Cast time (Read r))) = inr (inr (inl refl))
sizes (Numbered number (Cast time (Write r v))) = inr (inr (inr (inl refl)))
sizes (Numbered number (Cast time (Swap r v))) = inr (inr (inr (inl refl)))
sizes (Numbered number (Cast time (CompareAndSwap r e v))) = inr (inr (inr (inr refl)))
