use Rattle.std.proofs.Common.{◌≡◌, ◌∙◌, ◌+◌, [], ◌∷◌, None, inl, inr, length, map, ap, subst, sym, length-append}
use Rattle.std.proofs.lemmas.Result.{IfOk-at_ok, on_ok_weaker}
use Rattle.reg_world.specs.Worlds.{Made, Accepts, refusal}
use Rattle.reg_workload.specs.Plays.{Playing}
use Rattle.reg_workload.proofs.Scripts.{passes, same, is_made}
use Rattle.reg_workload.proofs.playing.Player.pass.Goals as goal

pub make-requires : goal.make-requires
make-requires g c = subst (λ (m : Made). refusal g.F.FrontEnd.start m c.args.event ≡ None) (sym (ap Playing.made c.self.view_is)) c.requires.allowed

pub invariant_of-self : goal.invariant_of-self
invariant_of-self g c =
    let s : Playing = record { made = c.self.inside.world; scripts = map (λ v. v.items) c.self.inside.scripts.now; next = c.self.inside.next.items; cursors = c.self.inside.cursors.items } in
    elim c.make.ensures.kept [
      | inl ok ↦
          let made = IfOk-at_ok (λ _. Accepts g.F.FrontEnd.start c.self.inside.world c.args.event c.make.new.world) ok c.make.ensures.made in
          passes g.F.FrontEnd.start s c.make.new.world c.args.event c.self.invariant made.after c.requires.no_call
      | inr kept ↦ same s c.make.new.world c.self.invariant c.make.ensures.processes c.make.ensures.registers kept
    ]

pub returns-clause-value : goal.returns-clause-value
returns-clause-value g c =
    let s : Playing = record { made = c.self.inside.world; scripts = map (λ v. v.items) c.self.inside.scripts.now; next = c.self.inside.next.items; cursors = c.self.inside.cursors.items } in
    on_ok_weaker c.make.result (λ made. is_made g.F.FrontEnd.start s c.args.self.now c.args.event c.make.new.world made.after c.self.view_is) c.make.ensures.made

pub returns-clause-same : goal.returns-clause-same
returns-clause-same g c = ap Playing.scripts c.self.view_is

pub returns-clause-processes : goal.returns-clause-processes
returns-clause-processes g c = c.make.ensures.processes ∙ ap (λ (s : Playing). s.made.processes) c.self.view_is

pub returns-clause-registers : goal.returns-clause-registers
returns-clause-registers g c = c.make.ensures.registers ∙ ap (λ (s : Playing). s.made.registers) c.self.view_is

pub returns-clause-going : goal.returns-clause-going
returns-clause-going g c =
    on_ok_weaker c.make.result (λ made. ap Made.failed made.after ∙ (ap (λ (s : Playing). s.made.failed) c.self.view_is ∙ c.requires.going)) c.make.ensures.made

pub returns-clause-more : goal.returns-clause-more
returns-clause-more g c =
    on_ok_weaker c.make.result
    (λ made. ap (λ (m : Made). length m.accepted) made.after ∙ (length-append c.self.inside.world.accepted (c.args.event ∷ []) ∙ ap (λ (s : Playing). length s.made.accepted + 1) c.self.view_is))
    c.make.ensures.made

pub returns-clause-cursors : goal.returns-clause-cursors
returns-clause-cursors g c = on_ok_weaker c.make.result (λ made. ap Playing.cursors c.self.view_is) c.make.ensures.made

pub returns-clause-accepts : goal.returns-clause-accepts
returns-clause-accepts g c =
    on_ok_weaker c.make.result (λ made. subst (λ (m : Made). Accepts g.F.FrontEnd.start m c.args.event c.make.new.world) (ap Playing.made c.self.view_is) made) c.make.ensures.made
