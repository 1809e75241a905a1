-- What is read is spelled so, and what is spelled so is read.
use Rattle.std.proofs.Common.{◌≡◌, ℕ, ◌+◌, ◌-◌, ◌^◌, ◌<◌, ◌≤◌, Bool, true, false, cond, ◌⊎◌, inl, inr, ◌&&◌, ◌==◌}
use Rattle.std.proofs.Common.{nat_lt, nat_le, List, [], ◌∷◌, ◌++◌, length, get_or, drop, Result, Ok, Err, refl, sym, ap}
use Rattle.std.proofs.Common.{ap₂, ◌∙◌, subst, arith, length-drop, append-nil}
use Rattle.std.specs.Prelude.{IfOk}
use Rattle.std.specs.Int.{w16, w64, to_be_bytes}
use Rattle.std.proofs.lemmas.Bool.{ltb-false, eqb-true}
use Rattle.std.proofs.lemmas.Bool.Decides.{nat_tests}
use Rattle.reg_base.specs.declared.limits.TheConstants.{MOST_REGISTERS, LAST_TIME, FRAME_NUMBERS}
use Rattle.reg_base.specs.declared.memory.Op.{Op}
use Rattle.reg_base.specs.declared.memory.Op.TheVariants.{Read, Write, Swap, CompareAndSwap}
use Rattle.reg_base.specs.Memory.{register_of}
use Rattle.reg_frames.specs.declared.bodies.Body.TheVariants.{Cast, Ack}
use Rattle.reg_frames.specs.declared.bodies.Frame.{Frame}
use Rattle.reg_frames.specs.declared.bodies.Frame.TheVariants.{Numbered, Got}
use Rattle.reg_frames.specs.declared.faults.FrameFault.{FrameFault}
use Rattle.reg_frames.specs.declared.faults.FrameFault.TheVariants as faults
use Rattle.reg_frames.specs.Spelling.{op_bytes, body_bytes, payload, version_of, spelling, OpFits, TimeFits, Fits}
use Rattle.reg_frames.specs.Spelling.{Spells}
use Rattle.reg_frames.specs.Reading.{number_at, is_time, body_fits, frame_fits, in_range, sized, cast_at, cast_of}
use Rattle.reg_frames.specs.Reading.{data_of, plain_of, swap_at, compare_and_swap_at, lone_cast_of, lone_data_of}
use Rattle.reg_frames.specs.Reading.{lone_of, frame_of}
use Rattle.reg_frames.specs.Narrow.{OpIsNarrow, IsNarrow}
use Rattle.reg_frames.proofs.Fields.{IsBytes, chosen, wide16, wide64, number_there, number_below, byte_there, none_left}

and_true : (a b : Bool) → (a && b) ≡ true → (a ≡ true) × (b ≡ true)
and_true true b h = (refl, h)
and_true false b h = absurd cc

time_fits : (time : ℕ) → is_time time ≡ true → TimeFits time
time_fits time h = let p = and_true (nat_lt 0 time) (nat_le time LAST_TIME) h in let a = p.0 in let b = p.1 in (grind (arith, nat_tests), grind (arith, nat_tests))

op_fits : (op : Op) → OpIsNarrow op → nat_lt (register_of op) MOST_REGISTERS ≡ true → OpFits op
op_fits (Read register) narrow h = grind (arith, nat_tests)
op_fits (Write register value) narrow h = (grind (arith, nat_tests), narrow)
op_fits (Swap register value) narrow h = (grind (arith, nat_tests), narrow)
op_fits (CompareAndSwap register expected value) narrow h = (grind (arith, nat_tests), narrow.0, narrow.1)

pub fits_from : (frame : Frame) → IsNarrow frame → frame_fits frame ≡ true → Fits frame
fits_from (Got count) narrow h = grind (arith, nat_tests)
fits_from (Numbered number (Ack time)) narrow h = let p = and_true (nat_lt number FRAME_NUMBERS) (is_time time) h in let a = p.0 in (grind (arith, nat_tests), time_fits time p.1)
fits_from (Numbered number (Cast time op)) narrow h =
    let p = and_true (nat_lt number FRAME_NUMBERS) (body_fits (Cast time op)) h in
    let q = and_true (is_time time) (nat_lt (register_of op) MOST_REGISTERS) p.1 in
    let a = p.0 in
    (grind (arith, nat_tests), (time_fits time q.0, op_fits op narrow q.1))

both_true : (a b : Bool) → a ≡ true → b ≡ true → (a && b) ≡ true
both_true true b h k = k
both_true false b h k = absurd cc

time_back : (time : ℕ) → TimeFits time → is_time time ≡ true
time_back time h = let a = h.0 in let b = h.1 in both_true (nat_lt 0 time) (nat_le time LAST_TIME) (grind (arith, nat_tests)) (grind (arith, nat_tests))

op_back : (op : Op) → OpFits op → nat_lt (register_of op) MOST_REGISTERS ≡ true
op_back (Read register) h = grind (arith, nat_tests)
op_back (Write register value) h = let a = h.0 in grind (arith, nat_tests)
op_back (Swap register value) h = let a = h.0 in grind (arith, nat_tests)
op_back (CompareAndSwap register expected value) h = let a = h.0 in grind (arith, nat_tests)

pub fits_back : (frame : Frame) → Fits frame → frame_fits frame ≡ true
fits_back (Got count) h = grind (arith, nat_tests)
fits_back (Numbered number (Ack time)) h = let a = h.0 in both_true (nat_lt number FRAME_NUMBERS) (is_time time) (grind (arith, nat_tests)) (time_back time h.1)
fits_back (Numbered number (Cast time op)) h =
    let a = h.0 in
    both_true (nat_lt number FRAME_NUMBERS) (body_fits (Cast time op)) (grind (arith, nat_tests))
    (both_true (is_time time) (nat_lt (register_of op) MOST_REGISTERS) (time_back time h.1.0) (op_back op h.1.1))

abbrev pub done : Frame → Result Frame FrameFault
done frame = Ok frame

abbrev pub failed : FrameFault → Result Frame FrameFault
failed fault = Err fault

pub same_frame : (a b : Frame) → done a ≡ done b → a ≡ b
same_frame a b e = cc

none_failed : (fault : FrameFault) (f : Frame) → failed fault ≡ done f → ⊥
none_failed fault f e = let bad : ⊥ = cc in bad

-- a test that has to fail, and one that has to hold
guard : (b : Bool) (fault : FrameFault) (rest : Result Frame FrameFault) (f : Frame)
    → cond b (failed fault) rest ≡ done f → (b ≡ false) × (rest ≡ done f)
guard true fault rest f e = absurd (none_failed fault f e)
guard false fault rest f e = (refl, e)

wanted : (b : Bool) (fault : FrameFault) (rest : Result Frame FrameFault) (f : Frame)
    → cond b rest (failed fault) ≡ done f → (b ≡ true) × (rest ≡ done f)
wanted true fault rest f e = (refl, e)
wanted false fault rest f e = absurd (none_failed fault f e)

-- a frame in range
pub ranged : (frame f : Frame) → in_range frame ≡ Ok f → (frame_fits frame ≡ true) × (frame ≡ f)
ranged frame f e = go (chosen (frame_fits frame) (done frame) (failed faults.Range) (done f) e)
  where
    go : ((frame_fits frame ≡ true) × (done frame ≡ done f)) ⊎ ((frame_fits frame ≡ false) × (failed faults.Range ≡ done f)) → (frame_fits frame ≡ true) × (frame ≡ f)
    go (inl (h, e)) = (h, same_frame frame f e)
    go (inr (h, e)) = absurd (none_failed faults.Range f e)

pub sized_is : (size : ℕ) (bytes : List ℕ) (frame f : Frame) → sized size bytes frame ≡ Ok f
    → (length bytes ≡ size) × (frame_fits frame ≡ true) × (frame ≡ f)
sized_is size bytes frame f e = go (chosen (length bytes == size) (in_range frame) (failed faults.Size) (done f) e)
  where
    go : (((length bytes == size) ≡ true) × (in_range frame ≡ done f)) ⊎ (((length bytes == size) ≡ false) × (failed faults.Size ≡ done f)) → (length bytes ≡ size) × (frame_fits frame ≡ true) × (frame ≡ f)
    go (inl (h, e)) = let r = ranged frame f e in (eqb-true (length bytes) size h, r.0, r.1)
    go (inr (h, e)) = absurd (none_failed faults.Size f e)

module _ (bytes : List ℕ) (fits : IsBytes bytes) where
  -- what stands before the payload's fields
  head : (v kind : ℕ) (rest : List ℕ) → 12 ≤ length bytes → number_at w16 0 bytes ≡ length bytes - 2 → get_or bytes 2 0 ≡ v → get_or bytes 3 0 ≡ kind → drop 4 bytes ≡ rest → bytes ≡ to_be_bytes w16 (length (kind ∷ rest) + 1) ++ v ∷ kind ∷ rest
  head v kind rest long len version kind_is rest_is =
      let size : length bytes - 2 ≡ length (kind ∷ rest) + 1 = omega (arith, length-drop 4 bytes, ap length rest_is) in
      let a = number_there bytes fits w16 (2 ^ 16) wide16 0 2 refl (omega arith) in
      let b = byte_there bytes fits 2 v (omega arith) version in
      let c = byte_there bytes fits 3 kind (omega arith) kind_is in
      a ∙ (ap (λ (n : ℕ). to_be_bytes w16 n ++ drop 2 bytes) (len ∙ size) ∙ ap (λ (xs : List ℕ). to_be_bytes w16 (length (kind ∷ rest) + 1) ++ xs) (b ∙ (ap (λ (xs : List ℕ). v ∷ xs) (c ∙ ap (λ (xs : List ℕ). kind ∷ xs) rest_is))))

  got_form : length bytes ≡ 12 → drop 4 bytes ≡ to_be_bytes w64 (number_at w64 4 bytes)
  got_form size =
      number_there bytes fits w64 (2 ^ 64) wide64 4 12 refl (omega arith) ∙ (ap (λ (xs : List ℕ). to_be_bytes w64 (number_at w64 4 bytes) ++ xs) (none_left bytes 12 size) ∙ append-nil (to_be_bytes w64 (number_at w64 4 bytes)))

  -- a data frame up to its time
  data_form : (kind : ℕ) (rest : List ℕ) → 21 ≤ length bytes → get_or bytes 12 0 ≡ kind → drop 21 bytes ≡ rest
      → drop 4 bytes ≡ to_be_bytes w64 (number_at w64 4 bytes) ++ kind ∷ (to_be_bytes w64 (number_at w64 13 bytes) ++ rest)
  data_form kind rest long kind_is rest_is =
      let a = number_there bytes fits w64 (2 ^ 64) wide64 4 12 refl (omega arith) in
      let b = byte_there bytes fits 12 kind (omega arith) kind_is in
      let c = number_there bytes fits w64 (2 ^ 64) wide64 13 21 refl long in
      a ∙ ap (λ (xs : List ℕ). to_be_bytes w64 (number_at w64 4 bytes) ++ xs) (b ∙ ap (λ (xs : List ℕ). kind ∷ xs) (c ∙ ap (λ (xs : List ℕ). to_be_bytes w64 (number_at w64 13 bytes) ++ xs) rest_is))

  read_form : length bytes ≡ 24 → get_or bytes 21 0 ≡ 1 → drop 21 bytes ≡ op_bytes (Read (number_at w16 22 bytes))
  read_form size is =
      byte_there bytes fits 21 1 (omega arith) is ∙ ap (λ (xs : List ℕ). 1 ∷ xs)
      (number_there bytes fits w16 (2 ^ 16) wide16 22 24 refl (omega arith) ∙ (ap (λ (xs : List ℕ). to_be_bytes w16 (number_at w16 22 bytes) ++ xs) (none_left bytes 24 size) ∙ append-nil (to_be_bytes w16 (number_at w16 22 bytes))))

  -- a write, or a swap, by its operation's byte
  valued_form : (kind : ℕ) → length bytes ≡ 32 → get_or bytes 21 0 ≡ kind → drop 21 bytes ≡ kind ∷ (to_be_bytes w16 (number_at w16 22 bytes) ++ to_be_bytes w64 (number_at w64 24 bytes))
  valued_form kind size is =
      byte_there bytes fits 21 kind (omega arith) is ∙ ap (λ (xs : List ℕ). kind ∷ xs)
      (number_there bytes fits w16 (2 ^ 16) wide16 22 24 refl (omega arith) ∙ ap (λ (xs : List ℕ). to_be_bytes w16 (number_at w16 22 bytes) ++ xs)
      (number_there bytes fits w64 (2 ^ 64) wide64 24 32 refl (omega arith) ∙ (ap (λ (xs : List ℕ). to_be_bytes w64 (number_at w64 24 bytes) ++ xs) (none_left bytes 32 size) ∙ append-nil (to_be_bytes w64 (number_at w64 24 bytes)))))

  -- a compare-and-swap
  compared_form : length bytes ≡ 40 → get_or bytes 21 0 ≡ 4 → drop 21 bytes ≡ op_bytes (CompareAndSwap (number_at w16 22 bytes) (number_at w64 24 bytes) (number_at w64 32 bytes))
  compared_form size is =
      byte_there bytes fits 21 4 (omega arith) is ∙ ap (λ (xs : List ℕ). 4 ∷ xs)
      (number_there bytes fits w16 (2 ^ 16) wide16 22 24 refl (omega arith) ∙ ap (λ (xs : List ℕ). to_be_bytes w16 (number_at w16 22 bytes) ++ xs)
      (number_there bytes fits w64 (2 ^ 64) wide64 24 32 refl (omega arith) ∙ ap (λ (xs : List ℕ). to_be_bytes w64 (number_at w64 24 bytes) ++ xs)
      (number_there bytes fits w64 (2 ^ 64) wide64 32 40 refl (omega arith) ∙ (ap (λ (xs : List ℕ). to_be_bytes w64 (number_at w64 32 bytes) ++ xs) (none_left bytes 40 size) ∙ append-nil (to_be_bytes w64 (number_at w64 32 bytes))))))

  ack_form : length bytes ≡ 21 → get_or bytes 12 0 ≡ 2 → drop 4 bytes ≡ to_be_bytes w64 (number_at w64 4 bytes) ++ body_bytes (Ack (number_at w64 13 bytes))
  ack_form size body =
      data_form 2 [] (omega arith) body (none_left bytes 21 size) ∙ ap (λ (xs : List ℕ). to_be_bytes w64 (number_at w64 4 bytes) ++ 2 ∷ xs) (append-nil (to_be_bytes w64 (number_at w64 13 bytes)))

  -- a frame of the right size, whose fields the bytes spell
  spelt : (v size kind : ℕ) (rest : List ℕ) (frame f : Frame) → 12 ≤ length bytes → number_at w16 0 bytes ≡ length bytes - 2 → get_or bytes 2 0 ≡ v → get_or bytes 3 0 ≡ kind → IsNarrow frame
      → (length bytes ≡ size → drop 4 bytes ≡ rest) → v ≡ version_of frame → kind ∷ rest ≡ payload frame → sized size bytes frame ≡ Ok f → Spells f bytes
  spelt v size kind rest frame f long len version kind_is narrow form versed same e =
      let s = sized_is size bytes frame f e in
      let whole = head v kind rest long len version kind_is (form s.0) in
      let bytes_are : bytes ≡ spelling frame = whole ∙ ap₂ (λ (w : ℕ) (p : List ℕ). to_be_bytes w16 (length p + 1) ++ w ∷ p) versed same in
      subst (λ (x : Frame). Spells x bytes) s.2 (fits_from frame narrow s.1, bytes_are)

  -- the numbers that are read fit their widths
  below64 : (at : ℕ) → number_at w64 at bytes < 2 ^ 64
  below64 at = number_below bytes fits w64 (2 ^ 64) wide64 at

  abbrev a_read : Frame
  a_read = cast_at bytes (Read (number_at w16 22 bytes))

  abbrev a_write : Frame
  a_write = cast_at bytes (Write (number_at w16 22 bytes) (number_at w64 24 bytes))

  abbrev a_swap : Frame
  a_swap = cast_at bytes (Swap (number_at w16 22 bytes) (number_at w64 24 bytes))

  abbrev a_compare_and_swap : Frame
  a_compare_and_swap = cast_at bytes (CompareAndSwap (number_at w16 22 bytes) (number_at w64 24 bytes) (number_at w64 32 bytes))

  abbrev an_ack : Frame
  an_ack = Numbered (number_at w64 4 bytes) (Ack (number_at w64 13 bytes))

  module _ (f : Frame) (long : 12 ≤ length bytes) (len : number_at w16 0 bytes ≡ length bytes - 2) (version : get_or bytes 2 0 ≡ 1) where
    cast_takes : get_or bytes 3 0 ≡ 1 → get_or bytes 12 0 ≡ 1 → cast_of bytes ≡ done f → Spells f bytes
    cast_takes kind body e =
        let g = guard (nat_lt (length bytes) 22) faults.Size (cond (get_or bytes 21 0 == 1) (sized 24 bytes a_read) (cond (get_or bytes 21 0 == 2) (sized 32 bytes a_write) (failed faults.Op))) f e in
        go (chosen (get_or bytes 21 0 == 1) (sized 24 bytes a_read) (cond (get_or bytes 21 0 == 2) (sized 32 bytes a_write) (failed faults.Op)) (done f) g.1)
      where
        go : (((get_or bytes 21 0 == 1) ≡ true) × (sized 24 bytes a_read ≡ done f)) ⊎ (((get_or bytes 21 0 == 1) ≡ false) × (cond (get_or bytes 21 0 == 2) (sized 32 bytes a_write) (failed faults.Op) ≡ done f)) → Spells f bytes
        go (inl (is, h)) = spelt 1 24 1 (to_be_bytes w64 (number_at w64 4 bytes) ++ body_bytes (Cast (number_at w64 13 bytes) (Read (number_at w16 22 bytes)))) a_read f long len version kind tt
            (λ size. data_form 1 (op_bytes (Read (number_at w16 22 bytes))) (omega arith) body (read_form size (eqb-true (get_or bytes 21 0) 1 is))) refl refl h
        go (inr (not, h)) =
            let w = wanted (get_or bytes 21 0 == 2) faults.Op (sized 32 bytes a_write) f h in
            spelt 1 32 1 (to_be_bytes w64 (number_at w64 4 bytes) ++ body_bytes (Cast (number_at w64 13 bytes) (Write (number_at w16 22 bytes) (number_at w64 24 bytes)))) a_write f long len version kind (below64 24)
            (λ size. data_form 1 (op_bytes (Write (number_at w16 22 bytes) (number_at w64 24 bytes))) (omega arith) body (valued_form 2 size (eqb-true (get_or bytes 21 0) 2 w.0))) refl refl w.1

    data_takes : get_or bytes 3 0 ≡ 1 → data_of bytes ≡ done f → Spells f bytes
    data_takes kind e =
        let g = guard (nat_lt (length bytes) 13) faults.Size (cond (get_or bytes 12 0 == 1) (cast_of bytes) (cond (get_or bytes 12 0 == 2) (sized 21 bytes an_ack) (failed faults.Body))) f e in
        go (chosen (get_or bytes 12 0 == 1) (cast_of bytes) (cond (get_or bytes 12 0 == 2) (sized 21 bytes an_ack) (failed faults.Body)) (done f) g.1)
      where
        go : (((get_or bytes 12 0 == 1) ≡ true) × (cast_of bytes ≡ done f)) ⊎ (((get_or bytes 12 0 == 1) ≡ false) × (cond (get_or bytes 12 0 == 2) (sized 21 bytes an_ack) (failed faults.Body) ≡ done f)) → Spells f bytes
        go (inl (is, h)) = cast_takes kind (eqb-true (get_or bytes 12 0) 1 is) h
        go (inr (not, h)) =
            let w = wanted (get_or bytes 12 0 == 2) faults.Body (sized 21 bytes an_ack) f h in
            spelt 1 21 1 (to_be_bytes w64 (number_at w64 4 bytes) ++ body_bytes (Ack (number_at w64 13 bytes))) an_ack f long len version kind tt
            (λ size. ack_form size (eqb-true (get_or bytes 12 0) 2 w.0)) refl refl w.1

    plain_takes : plain_of bytes ≡ done f → Spells f bytes
    plain_takes e = go (chosen (get_or bytes 3 0 == 1) (data_of bytes) (cond (get_or bytes 3 0 == 2) (sized 12 bytes (Got (number_at w64 4 bytes))) (failed faults.Kind)) (done f) e)
      where
        go : (((get_or bytes 3 0 == 1) ≡ true) × (data_of bytes ≡ done f)) ⊎ (((get_or bytes 3 0 == 1) ≡ false) × (cond (get_or bytes 3 0 == 2) (sized 12 bytes (Got (number_at w64 4 bytes))) (failed faults.Kind) ≡ done f)) → Spells f bytes
        go (inl (is, h)) = data_takes (eqb-true (get_or bytes 3 0) 1 is) h
        go (inr (not, h)) =
            let w = wanted (get_or bytes 3 0 == 2) faults.Kind (sized 12 bytes (Got (number_at w64 4 bytes))) f h in
            spelt 1 12 2 (to_be_bytes w64 (number_at w64 4 bytes)) (Got (number_at w64 4 bytes)) f long len version (eqb-true (get_or bytes 3 0) 2 w.0) tt got_form refl refl w.1

  -- the cast of one operation alone
  record IsLone (kind : ℕ) (f : Frame) : Type 0 where
    data_is : get_or bytes 3 0 ≡ 1
    cast_is : get_or bytes 12 0 ≡ 1
    kind_is : get_or bytes 21 0 ≡ kind
    cast : cond (kind == 3) (swap_at bytes) (compare_and_swap_at bytes) ≡ done f

  lone_takes : (kind : ℕ) (f : Frame) → lone_of kind bytes ≡ done f → IsLone kind f
  lone_takes kind f e =
      let a = wanted (get_or bytes 3 0 == 1) faults.Kind (lone_data_of kind bytes) f e in
      let b = guard (nat_lt (length bytes) 13) faults.Size (cond (get_or bytes 12 0 == 1) (lone_cast_of kind bytes) (failed faults.Body)) f a.1 in
      let c = wanted (get_or bytes 12 0 == 1) faults.Body (lone_cast_of kind bytes) f b.1 in
      let cast : Result Frame FrameFault = cond (kind == 3) (swap_at bytes) (compare_and_swap_at bytes) in
      let d = guard (nat_lt (length bytes) 22) faults.Size (cond (get_or bytes 21 0 == kind) cast (failed faults.Op)) f c.1 in
      let w = wanted (get_or bytes 21 0 == kind) faults.Op cast f d.1 in
      record { data_is = eqb-true (get_or bytes 3 0) 1 a.0; cast_is = eqb-true (get_or bytes 12 0) 1 c.0; kind_is = eqb-true (get_or bytes 21 0) kind w.0; cast = w.1 }

  module _ (f : Frame) (long : 12 ≤ length bytes) (len : number_at w16 0 bytes ≡ length bytes - 2) where
    swap_takes : get_or bytes 2 0 ≡ 2 → lone_of 3 bytes ≡ done f → Spells f bytes
    swap_takes version e =
        let l = lone_takes 3 f e in
        spelt 2 32 1 (to_be_bytes w64 (number_at w64 4 bytes) ++ body_bytes (Cast (number_at w64 13 bytes) (Swap (number_at w16 22 bytes) (number_at w64 24 bytes)))) a_swap f long len version l.data_is (below64 24)
        (λ size. data_form 1 (op_bytes (Swap (number_at w16 22 bytes) (number_at w64 24 bytes))) (omega arith) l.cast_is (valued_form 3 size l.kind_is)) refl refl l.cast

    compare_and_swap_takes : get_or bytes 2 0 ≡ 4 → lone_of 4 bytes ≡ done f → Spells f bytes
    compare_and_swap_takes version e =
        let l = lone_takes 4 f e in
        spelt 4 40 1 (to_be_bytes w64 (number_at w64 4 bytes) ++ body_bytes (Cast (number_at w64 13 bytes) (CompareAndSwap (number_at w16 22 bytes) (number_at w64 24 bytes) (number_at w64 32 bytes)))) a_compare_and_swap f long len version l.data_is (below64 24, below64 32)
        (λ size. data_form 1 (op_bytes (CompareAndSwap (number_at w16 22 bytes) (number_at w64 24 bytes) (number_at w64 32 bytes))) (omega arith) l.cast_is (compared_form size l.kind_is)) refl refl l.cast

-- a frame of a later version
abbrev later : List ℕ → Result Frame FrameFault
later bytes = cond (get_or bytes 2 0 == 2) (lone_of 3 bytes) (cond (get_or bytes 2 0 == 4) (lone_of 4 bytes) (failed faults.Version))

later_takes : (bytes : List ℕ) (fits : IsBytes bytes) (f : Frame) → 12 ≤ length bytes
    → number_at w16 0 bytes ≡ length bytes - 2 → later bytes ≡ done f → Spells f bytes
later_takes bytes fits f long len e = go (chosen (get_or bytes 2 0 == 2) (lone_of 3 bytes) (cond (get_or bytes 2 0 == 4) (lone_of 4 bytes) (failed faults.Version)) (done f) e)
  where
    go : (((get_or bytes 2 0 == 2) ≡ true) × (lone_of 3 bytes ≡ done f)) ⊎ (((get_or bytes 2 0 == 2) ≡ false) × (cond (get_or bytes 2 0 == 4) (lone_of 4 bytes) (failed faults.Version) ≡ done f)) → Spells f bytes
    go (inl (is, h)) = swap_takes bytes fits f long len (eqb-true (get_or bytes 2 0) 2 is) h
    go (inr (not, h)) =
        let w = wanted (get_or bytes 2 0 == 4) faults.Version (lone_of 4 bytes) f h in
        compare_and_swap_takes bytes fits f long len (eqb-true (get_or bytes 2 0) 4 w.0) w.1

-- what is read is spelled so
pub takes : (bytes : List ℕ) (f : Frame) → IsBytes bytes → frame_of bytes ≡ Ok f → Spells f bytes
takes bytes f fits e =
    let versions : Result Frame FrameFault = cond (get_or bytes 2 0 == 1) (plain_of bytes) (later bytes) in
    let a = guard (nat_lt (length bytes) 12) faults.Short (cond (number_at w16 0 bytes == length bytes - 2) versions (failed faults.Length)) f e in
    let b = wanted (number_at w16 0 bytes == length bytes - 2) faults.Length versions f a.1 in
    go (ltb-false (length bytes) 12 a.0) (eqb-true (number_at w16 0 bytes) (length bytes - 2) b.0) (chosen (get_or bytes 2 0 == 1) (plain_of bytes) (later bytes) (done f) b.1)
  where
    go : 12 ≤ length bytes → number_at w16 0 bytes ≡ length bytes - 2
        → (((get_or bytes 2 0 == 1) ≡ true) × (plain_of bytes ≡ done f)) ⊎ (((get_or bytes 2 0 == 1) ≡ false) × (later bytes ≡ done f)) → Spells f bytes
    go long len (inl (is, h)) = plain_takes bytes fits f long len (eqb-true (get_or bytes 2 0) 1 is) h
    go long len (inr (not, h)) = later_takes bytes fits f long len h

in_range_is : (frame : Frame) → Fits frame → in_range frame ≡ Ok frame
in_range_is frame fits = ap (λ (b : Bool). cond b (done frame) (failed faults.Range)) (fits_back frame fits)

-- what is spelled so is read
pub again : (f : Frame) → Fits f → frame_of (spelling f) ≡ Ok f
again (Got count) fits =
    let c : count < 2 ^ 64 = omega arith in
    ap (λ (n : ℕ). in_range (Got n)) (wide64.again count c) ∙ in_range_is (Got count) fits
again (Numbered number (Ack time)) fits =
    let n : number < 2 ^ 64 = (let a = fits.0 in omega arith) in
    let t : time < 2 ^ 64 = (let a = fits.1.1 in omega arith) in
    ap₂ (λ (n t : ℕ). in_range (Numbered n (Ack t))) (wide64.again number n) (wide64.again time t) ∙ in_range_is (Numbered number (Ack time)) fits
again (Numbered number (Cast time (Read register))) fits =
    let n : number < 2 ^ 64 = (let a = fits.0 in omega arith) in
    let t : time < 2 ^ 64 = (let a = fits.1.0.1 in omega arith) in
    let r : register < 2 ^ 16 = (let a = fits.1.1 in omega arith) in
    ap₂ (λ (n t : ℕ). in_range (Numbered n (Cast t (Read (number_at w16 0 (to_be_bytes w16 register)))))) (wide64.again number n) (wide64.again time t)
    ∙ (ap (λ (k : ℕ). in_range (Numbered number (Cast time (Read k)))) (wide16.again register r) ∙ in_range_is (Numbered number (Cast time (Read register))) fits)
again (Numbered number (Cast time (Write register value))) fits =
    let n : number < 2 ^ 64 = (let a = fits.0 in omega arith) in
    let t : time < 2 ^ 64 = (let a = fits.1.0.1 in omega arith) in
    let r : register < 2 ^ 16 = (let a = fits.1.1.0 in omega arith) in
    ap₂ (λ (n t : ℕ). in_range (Numbered n (Cast t (Write (number_at w16 0 (to_be_bytes w16 register)) (number_at w64 0 (to_be_bytes w64 value)))))) (wide64.again number n) (wide64.again time t)
    ∙ (ap₂ (λ (k v : ℕ). in_range (Numbered number (Cast time (Write k v)))) (wide16.again register r) (wide64.again value fits.1.1.1) ∙ in_range_is (Numbered number (Cast time (Write register value))) fits)
again (Numbered number (Cast time (Swap register value))) fits =
    let n : number < 2 ^ 64 = (let a = fits.0 in omega arith) in
    let t : time < 2 ^ 64 = (let a = fits.1.0.1 in omega arith) in
    let r : register < 2 ^ 16 = (let a = fits.1.1.0 in omega arith) in
    ap₂ (λ (n t : ℕ). in_range (Numbered n (Cast t (Swap (number_at w16 0 (to_be_bytes w16 register)) (number_at w64 0 (to_be_bytes w64 value)))))) (wide64.again number n) (wide64.again time t)
    ∙ (ap₂ (λ (k v : ℕ). in_range (Numbered number (Cast time (Swap k v)))) (wide16.again register r) (wide64.again value fits.1.1.1) ∙ in_range_is (Numbered number (Cast time (Swap register value))) fits)
again (Numbered number (Cast time (CompareAndSwap register expected value))) fits =
    let n : number < 2 ^ 64 = (let a = fits.0 in omega arith) in
    let t : time < 2 ^ 64 = (let a = fits.1.0.1 in omega arith) in
    let r : register < 2 ^ 16 = (let a = fits.1.1.0 in omega arith) in
    let op : ℕ → ℕ → ℕ → Op = λ k x v. CompareAndSwap k x v in
    ap₂ (λ (n t : ℕ). in_range (Numbered n (Cast t (op (number_at w16 0 (to_be_bytes w16 register)) (number_at w64 0 (to_be_bytes w64 expected)) (number_at w64 0 (to_be_bytes w64 value)))))) (wide64.again number n) (wide64.again time t)
    ∙ (ap₂ (λ (k x : ℕ). in_range (Numbered number (Cast time (op k x (number_at w64 0 (to_be_bytes w64 value)))))) (wide16.again register r) (wide64.again expected fits.1.1.1)
    ∙ (ap (λ (v : ℕ). in_range (Numbered number (Cast time (op register expected v)))) (wide64.again value fits.1.1.2) ∙ in_range_is (Numbered number (Cast time (op register expected value))) fits))

pub spelt_by : (frame : Frame) (bytes : List ℕ) → IsNarrow frame → frame_fits frame ≡ true → bytes ≡ spelling frame
    → Spells frame bytes
spelt_by frame bytes narrow fits is = (fits_from frame narrow fits, is)

pub is_found : (bytes : List ℕ) (r : Result Frame FrameFault) → IsBytes bytes → r ≡ frame_of bytes
    → IfOk r (λ f. Spells f bytes)
is_found bytes (Ok f) fits e = takes bytes f fits (sym e)
is_found bytes (Err fault) fits e = tt
