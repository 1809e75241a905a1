use Rattle.std.proofs.Common.{◌≡◌, ℕ, List, [], ◌∷◌, ◌++◌, ◌∙◌, ap, ap₂, append_assoc}
use Rattle.reg_frames.proofs.spelling.put_valued.Goals as goal

three : (old a b c x y low high : List ℕ) (kind : ℕ) → a ≡ old ++ kind ∷ [] → b ≡ a ++ x → c ≡ b ++ y → x ≡ low
    → y ≡ high → c ≡ old ++ kind ∷ (low ++ high)
three old a b c x y low high kind first second third is_low is_high =
    let parts : c ≡ ((old ++ kind ∷ []) ++ x) ++ y = third ∙ ap (λ (t : List ℕ). t ++ y) (second ∙ ap (λ (t : List ℕ). t ++ x) first) in
    let joined : ((old ++ kind ∷ []) ++ x) ++ y ≡ old ++ kind ∷ (x ++ y) = append_assoc (old ++ kind ∷ []) x y ∙ append_assoc old (kind ∷ []) (x ++ y) in
    parts ∙ (joined ∙ ap₂ (λ (s t : List ℕ). old ++ kind ∷ (s ++ t)) is_low is_high)

pub returns : goal.returns
returns g c =
    three c.args.bytes.now.items c.push.new.self.items c.extend_from_slice.new.self.items c.extend_from_slice-2.new.self.items c.to_be_bytes.result c.to_be_bytes-2.result _ _ c.args.kind
    c.in_ok-push.ensures.items c.in_ok-extend_from_slice.ensures.items c.in_ok-extend_from_slice-2.ensures.items c.to_be_bytes.ensures c.to_be_bytes-2.ensures
