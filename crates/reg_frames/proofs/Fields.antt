-- A field that is read is the field that was written.
use Rattle.std.proofs.Common.{◌≡◌, ℕ, suc, ◌+◌, ◌^◌, ◌<◌, ◌≤◌, Bool, true, false, cond, ◌⊎◌, inl, inr, List, [], ◌∷◌}
use Rattle.std.proofs.Common.{◌++◌, length, get_or, take, drop, refl, sym, ap, ◌∙◌, arith, drop-drop, drop-cons}
use Rattle.std.proofs.Common.{take-append-drop, length-take, length-drop}
use Rattle.std.specs.Int.{Width, w16, w64, byte_len, from_be_bytes, to_be_bytes}
use Rattle.std.proofs.lemmas.Bool.{cases_lt}
use Rattle.std.proofs.lemmas.List.{get_or-drop, get_or-take, get_or_past, nil_from_length}
use Rattle.std.proofs.lemmas.Nat.{be_bytes_2, be_bytes_8, from_be_bytes-to_be_bytes_2, from_be_bytes-to_be_bytes_8}
use Rattle.reg_frames.specs.Reading.{number_at}

abbrev pub IsBytes : List ℕ → Type 0
IsBytes bytes = (i : ℕ) → get_or bytes i 0 < 256

IsBytes-drop : (n : ℕ) (bytes : List ℕ) → IsBytes bytes → IsBytes (drop n bytes)
IsBytes-drop n bytes h i = rw get_or-drop (h (n + i))

IsBytes-take : (n : ℕ) (bytes : List ℕ) → IsBytes bytes → IsBytes (take n bytes)
IsBytes-take n bytes h i =
    elim (cases_lt i n) [
      | inl lt ↦ rw (get_or-take n bytes i 0 lt) (h i)
      | inr le ↦ rw (get_or_past (take n bytes) i 0 (omega (arith, length-take n bytes))) (omega arith)
    ]

-- which way a test went
pub chosen : {A : Type 0} (b : Bool) (x y z : A) → cond b x y ≡ z → ((b ≡ true) × (x ≡ z)) ⊎ ((b ≡ false) × (y ≡ z))
chosen true x y z e = inl (refl, e)
chosen false x y z e = inr (refl, e)

pub record IsWide (w : Width) (limit : ℕ) : Type 0 where
  pub back : (bytes : List ℕ) → length bytes ≡ byte_len w → IsBytes bytes
      → to_be_bytes w (from_be_bytes w bytes) ≡ bytes
  pub again : (n : ℕ) → n < limit → from_be_bytes w (to_be_bytes w n) ≡ n
  pub below : (bytes : List ℕ) → IsBytes bytes → from_be_bytes w bytes < limit

pub wide16 : IsWide w16 (2 ^ 16)
wide16 = record {
  back = λ bytes len fits. be_bytes_2 bytes _ len fits refl;
  again = λ n lt. from_be_bytes-to_be_bytes_2 n lt;
  below = λ bytes fits. omega (arith, fits 0, fits 1);
}

pub wide64 : IsWide w64 (2 ^ 64)
wide64 = record {
  back = λ bytes len fits. be_bytes_8 bytes _ len fits refl;
  again = λ n lt. from_be_bytes-to_be_bytes_8 n lt;
  below = λ bytes fits. omega (arith, fits 0, fits 1, fits 2, fits 3, fits 4, fits 5, fits 6, fits 7);
}

module _ (bytes : List ℕ) (fits : IsBytes bytes) where
  -- a number, and what stands after it
  pub number_there : (w : Width) (limit : ℕ) → IsWide w limit → (at next : ℕ) → at + byte_len w ≡ next
      → next ≤ length bytes → drop at bytes ≡ to_be_bytes w (number_at w at bytes) ++ drop next bytes
  number_there w limit wide at next e le =
      let len : length (take (byte_len w) (drop at bytes)) ≡ byte_len w = omega (arith, length-take (byte_len w) (drop at bytes), length-drop at bytes) in
      let front = wide.back (take (byte_len w) (drop at bytes)) len (IsBytes-take (byte_len w) (drop at bytes) (IsBytes-drop at bytes fits)) in
      let back : drop (byte_len w) (drop at bytes) ≡ drop next bytes = drop-drop (byte_len w) at bytes ∙ ap (λ (k : ℕ). drop k bytes) e in
      sym (take-append-drop (byte_len w) (drop at bytes)) ∙ (ap (λ (xs : List ℕ). xs ++ drop (byte_len w) (drop at bytes)) (sym front) ∙ ap (λ (xs : List ℕ). to_be_bytes w (number_at w at bytes) ++ xs) back)

  pub number_below : (w : Width) (limit : ℕ) → IsWide w limit → (at : ℕ) → number_at w at bytes < limit
  number_below w limit wide at = wide.below (take (byte_len w) (drop at bytes)) (IsBytes-take (byte_len w) (drop at bytes) (IsBytes-drop at bytes fits))

  -- a byte, and what stands after it
  pub byte_there : (at b : ℕ) → at < length bytes → get_or bytes at 0 ≡ b → drop at bytes ≡ b ∷ drop (suc at) bytes
  byte_there at b lt is = drop-cons bytes at 0 lt ∙ ap (λ (x : ℕ). x ∷ drop (suc at) bytes) is

pub none_left : (bytes : List ℕ) (n : ℕ) → length bytes ≡ n → drop n bytes ≡ []
none_left bytes n e = nil_from_length (drop n bytes) (omega (arith, length-drop n bytes))
