-- Bytes that go out one part after another.
use Rattle.std.proofs.Common.{ℕ, Bool, true, false, ◌≡◌, List, [], ◌++◌, Option, Some, None, Result, Ok, Err, sym, ap}
use Rattle.std.proofs.Common.{◌∙◌, append_assoc, append-nil, subst, take, drop}
use Rattle.std.specs.Prelude.{MatchResult}
use Rattle.std.specs.Io.KnownBytes.{Appends, Keeps}
use Rattle.std.proofs.lemmas.List.{take-append-drop}
use Rattle.reg_text.specs.declared.writing.Sink.{Sink}
use Rattle.reg_text.specs.Writing.{AppendsPart, Sends, Puts}

pub appends_two : (a b c : Option (List ℕ)) (xs ys : List ℕ) → Appends a b xs → Appends b c ys → Appends a c (xs ++ ys)
appends_two None b c xs ys h k = tt
appends_two (Some x) None c xs ys h k = absurd h
appends_two (Some x) (Some y) None xs ys h k = absurd k
appends_two (Some x) (Some y) (Some z) xs ys h k = k ∙ ap (λ l. l ++ ys) h ∙ append_assoc x xs ys

pub appends_kept : (a b c : Option (List ℕ)) (xs : List ℕ) → Appends a b xs → Keeps b c → Appends a c xs
appends_kept None b c xs h k = tt
appends_kept (Some x) None c xs h k = absurd h
appends_kept (Some x) (Some y) None xs h k = absurd k
appends_kept (Some x) (Some y) (Some z) xs h k = k ∙ h

-- what went out, and what is left
abbrev pub Sent : Option (List ℕ) → Option (List ℕ) → List ℕ → List ℕ → Type 0
Sent old new rest bytes = (sent : List ℕ) × (sent ++ rest ≡ bytes) × Appends old new sent

pub more_sent : (a b c : Option (List ℕ)) (n : ℕ) (rest left bytes : List ℕ) → Sent a b rest bytes
    → Appends b c (take n rest) → left ≡ drop n rest → Sent a c left bytes
more_sent a b c n rest left bytes s h l =
    (s.0 ++ take n rest, append_assoc s.0 (take n rest) left ∙ ap (λ r. s.0 ++ (take n rest ++ r)) l ∙ ap (λ r. s.0 ++ r) (take-append-drop n rest) ∙ s.1, appends_two a b c s.0 (take n rest) s.2 h)

-- all of it is a first part too
pub all_or_part : {E : Type 0} (old new : Option (List ℕ)) (bs : List ℕ) (r : Result Unit E)
    → MatchResult r (λ _. Appends old new bs) (λ _. AppendsPart old new bs) → AppendsPart old new bs
all_or_part old new bs (Ok x) m = (bs, [], append-nil bs, m)
all_or_part old new bs (Err e) m = m

-- a first part of the first of two is one of both
pub part_of_first : (a b : Option (List ℕ)) (xs ys : List ℕ) → AppendsPart a b xs → AppendsPart a b (xs ++ ys)
part_of_first a b xs ys p = (p.0, p.1 ++ ys, sym (append_assoc p.0 p.1 ys) ∙ ap (λ l. l ++ ys) p.2, p.3)

-- after the first of two, a first part of the second
pub part_behind : (a b c : Option (List ℕ)) (xs ys : List ℕ) → Appends a b xs → AppendsPart b c ys
    → AppendsPart a c (xs ++ ys)
part_behind a b c xs ys h p =
    (xs ++ p.0, p.1, append_assoc xs p.0 p.1 ∙ ap (λ l. xs ++ l) p.2, appends_two a b c xs p.0 h p.3)

keeps_two : (a b c : Option (List ℕ)) → Keeps a b → Keeps b c → Keeps a c
keeps_two None b c h k = tt
keeps_two (Some x) None c h k = absurd h
keeps_two (Some x) (Some y) None h k = absurd k
keeps_two (Some x) (Some y) (Some z) h k = k ∙ h

sends_two : (f g h : Bool) (a b c : Option (List ℕ)) (xs ys : List ℕ) → Sends f g a b xs → Sends g h b c ys
    → Sends f h a c (xs ++ ys)
sends_two false false false a b c xs ys s t = appends_two a b c xs ys s t
sends_two false false true a b c xs ys s t = part_behind a b c xs ys s t
sends_two false true false a b c xs ys s t = absurd t
sends_two false true true a b c xs ys s t =
    let p = part_of_first a b xs ys s in (p.0, p.1, p.2, appends_kept a b c p.0 p.3 t)
sends_two true false h a b c xs ys s t = absurd s
sends_two true true false a b c xs ys s t = absurd t
sends_two true true true a b c xs ys s t = keeps_two a b c s t

-- one thing was put after another
pub puts_two : {X : Type 0} (contents : X → Option (List ℕ)) (a b c : Sink X) (xs ys : List ℕ) → Puts contents a b xs
    → Puts contents b c ys → Puts contents a c (xs ++ ys)
puts_two contents a b c xs ys p q = record {
  same = q.same ∙ p.same;
  sent = sends_two a.failed b.failed c.failed (contents a.writer.now) (contents b.writer.now) (contents c.writer.now) xs ys p.sent q.sent;
}

-- the same, in other words
pub puts_as : {X : Type 0} (contents : X → Option (List ℕ)) (a b : Sink X) (xs ys : List ℕ) → xs ≡ ys
    → Puts contents a b xs → Puts contents a b ys
puts_as contents a b xs ys e p = subst (λ bs. Puts contents a b bs) e p

-- after a first write that took n bytes, the rest was put
pub puts_rest : {S : Type 0} (held : S → Option (List ℕ)) (a b c : Sink S) (n : ℕ) (bs : List ℕ) → a.failed ≡ false
    → b.failed ≡ false → b.writer.ghost_name ≡ a.writer.ghost_name
    → Appends (held a.writer.now) (held b.writer.now) (take n bs) → Puts held b c (drop n bs) → Puts held a c bs
puts_rest held a b c n bs begun going same first p =
    let sent : Sends a.failed b.failed (held a.writer.now) (held b.writer.now) (take n bs) = rw (begun, going) first in
    puts_as held a c (take n bs ++ drop n bs) bs (take-append-drop n bs) (puts_two held a b c (take n bs) (drop n bs) (record { same = same; sent = sent }) p)

-- several things were put, one after another
pub puts_three : {S : Type 0} (held : S → Option (List ℕ)) (a b c d : Sink S) (xs ys zs : List ℕ) → Puts held a b xs
    → Puts held b c ys → Puts held c d zs → Puts held a d (xs ++ (ys ++ zs))
puts_three held a b c d xs ys zs p q r = puts_two held a b d xs (ys ++ zs) p (puts_two held b c d ys zs q r)

pub puts_four : {S : Type 0} (held : S → Option (List ℕ)) (a b c d e : Sink S) (ws xs ys zs : List ℕ) → Puts held a b ws
    → Puts held b c xs → Puts held c d ys → Puts held d e zs → Puts held a e (ws ++ (xs ++ (ys ++ zs)))
puts_four held a b c d e ws xs ys zs p q r s =
    puts_two held a b e ws (xs ++ (ys ++ zs)) p (puts_three held b c d e xs ys zs q r s)

sent_from : {S : Type 0} (held : S → Option (List ℕ)) (a b : Sink S) (old : S) (bs : List ℕ) → a.failed ≡ false
    → a.writer.now ≡ old → Puts held a b bs → Sends false b.failed (held old) (held b.writer.now) bs
sent_from held a b old bs begun from p = rw (begun, from) at p.sent

-- what was put into a new sink went out, all of it or, where the writer failed, a first part
pub all_out : {S : Type 0} (held : S → Option (List ℕ)) (a b : Sink S) (old new : S) (bs : List ℕ) → a.failed ≡ false
    → a.writer.now ≡ old → b.failed ≡ false → b.writer.now ≡ new → Puts held a b bs → Appends (held old) (held new) bs
all_out held a b old new bs begun from going to p = subst (λ s. Appends (held old) (held s) bs) to (subst (λ f. Sends false f (held old) (held b.writer.now) bs) going (sent_from held a b old bs begun from p))

pub part_out : {S : Type 0} (held : S → Option (List ℕ)) (a b : Sink S) (old new : S) (bs : List ℕ) → a.failed ≡ false
    → a.writer.now ≡ old → b.failed ≡ true → b.writer.now ≡ new → Puts held a b bs
    → AppendsPart (held old) (held new) bs
part_out held a b old new bs begun from failed to p = subst (λ s. AppendsPart (held old) (held s) bs) to (subst (λ f. Sends false f (held old) (held b.writer.now) bs) failed (sent_from held a b old bs begun from p))

-- the same of what a sink tells when it is finished
pub went_out : {S E : Type 0} (held : S → Option (List ℕ)) (a b : Sink S) (old new : S) (bs : List ℕ)
    (r : Result Unit E)
    → a.failed ≡ false → a.writer.now ≡ old → b.writer.now ≡ new → Puts held a b bs
    → MatchResult r (λ _. b.failed ≡ false) (λ _. b.failed ≡ true) → MatchResult r (λ _. Appends (held old) (held new) bs) (λ _. AppendsPart (held old) (held new) bs)
went_out held a b old new bs (Ok x) begun from to p h = all_out held a b old new bs begun from h to p
went_out held a b old new bs (Err e) begun from to p h = part_out held a b old new bs begun from h to p
