use Rattle.std.proofs.Common.{ℕ, ◌≡◌, ◌<◌, ◌∙◌, ◌++◌, ◌∷◌, [], List, length, take, ap, subst, sym, refl}
use Rattle.reg_base.specs.Shape.{Extent}
use Rattle.reg_checkers.specs.declared.entries.Entry.{Entry}
use Rattle.reg_checkers.specs.declared.entries.Entry.TheVariants.{Answered}
use Rattle.reg_checkers.specs.History.{IsAt, IsHistory}
use Rattle.reg_checkers.proofs.Noting.{read_at}
use Rattle.reg_judge.proofs.Replacing.{is_possible, not_in_place, not_possible}
use Rattle.reg_judge.proofs.possible.explains.Goals as goal

pub returns-in-Err-OutOfPlace : goal.returns-in-Err-OutOfPlace
returns-in-Err-OutOfPlace g c =
    let h = c.args.history.now in
    let good : IsHistory h.shape.processes 1 h.entries = subst (λ (r : ℕ). IsHistory h.shape.processes r h.entries) c.requires.one c.entries.ensures.in_place in
    let answered = Answered c.in-Answered.at c.in-Answered.id c.in-Answered.answer in
    let here : IsAt h.entries c.args.place answered = subst (λ (l : List Entry). IsAt l c.args.place answered) c.entries.ensures.value (read_at c.entries.result.now c.args.place _ answered c.in-Answered.is (subst (λ (l : List Entry). c.args.place < length l) (sym c.entries.ensures.value) c.requires.inside)) in
    let refused = rw c.in-Err-OutOfPlace.field-0-is at c.in-Err-OutOfPlace.ensures in
    (λ bad. absurd cc, λ possible. absurd (not_in_place h.shape.processes h.entries good c.args.place c.in-Answered.at c.in-Answered.id c.in-Answered.answer here c.args.answer c.in_ok-part.part.entries c.in_ok-part.ensures.entries refused.0 possible))

pub returns-in-Order : goal.returns-in-Order
returns-in-Order g c =
    let h = c.args.history.now in
    let good : IsHistory h.shape.processes 1 h.entries = subst (λ (r : ℕ). IsHistory h.shape.processes r h.entries) c.requires.one c.entries.ensures.in_place in
    let answered = Answered c.in-Answered.at c.in-Answered.id c.in-Answered.answer in
    let here : IsAt h.entries c.args.place answered = subst (λ (l : List Entry). IsAt l c.args.place answered) c.entries.ensures.value (read_at c.entries.result.now c.args.place _ answered c.in-Answered.is (subst (λ (l : List Entry). c.args.place < length l) (sym c.entries.ensures.value) c.requires.inside)) in
    let registers : c.push.new.self.shape.registers ≡ 1 = ap (λ (x : Extent). x.registers) (c.in-Ok.ensures.shape ∙ c.in_ok-part.ensures.shape) ∙ c.requires.one in
    let more : c.push.new.self.entries ≡ take c.args.place h.entries ++ Answered c.in-Answered.at c.in-Answered.id c.args.answer ∷ [] = c.in-Ok.ensures.entries ∙ ap (λ (l : List Entry). l ++ Answered c.in-Answered.at c.in-Answered.id c.args.answer ∷ []) c.in_ok-part.ensures.entries in
    let decided = rw c.in-Order.is at c.in_ok-decide.ensures.decided in
    (λ any. is_possible h.shape.processes h.entries good c.args.place c.in-Answered.at c.in-Answered.id c.in-Answered.answer here c.args.answer c.push.new.self.shape.registers c.push.new.self.entries registers more (c.in-Order.field-0.items, decided), λ any. refl)

pub returns : goal.returns
returns g c =
    let h = c.args.history.now in
    let good : IsHistory h.shape.processes 1 h.entries = subst (λ (r : ℕ). IsHistory h.shape.processes r h.entries) c.requires.one c.entries.ensures.in_place in
    let answered = Answered c.in-Answered.at c.in-Answered.id c.in-Answered.answer in
    let here : IsAt h.entries c.args.place answered = subst (λ (l : List Entry). IsAt l c.args.place answered) c.entries.ensures.value (read_at c.entries.result.now c.args.place _ answered c.in-Answered.is (subst (λ (l : List Entry). c.args.place < length l) (sym c.entries.ensures.value) c.requires.inside)) in
    let registers : c.push.new.self.shape.registers ≡ 1 = ap (λ (x : Extent). x.registers) (c.in-Ok.ensures.shape ∙ c.in_ok-part.ensures.shape) ∙ c.requires.one in
    let more : c.push.new.self.entries ≡ take c.args.place h.entries ++ Answered c.in-Answered.at c.in-Answered.id c.args.answer ∷ [] = c.in-Ok.ensures.entries ∙ ap (λ (l : List Entry). l ++ Answered c.in-Answered.at c.in-Answered.id c.args.answer ∷ []) c.in_ok-part.ensures.entries in
    let decided = rw c.in-NoOrder.is at c.in_ok-decide.ensures.decided in
    (λ bad. absurd cc, λ possible. absurd (not_possible h.shape.processes h.entries good c.args.place c.in-Answered.at c.in-Answered.id c.in-Answered.answer here c.args.answer c.push.new.self.shape.registers c.push.new.self.entries registers more decided.1 possible))
