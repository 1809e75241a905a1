use Rattle.std.proofs.Common.{rules, arith, ◌≡◌, ◌<◌, ◌∙◌, ◌+◌, [], ◌∷◌, false, length, length-append, slice_index_or}
use Rattle.std.proofs.Common.{map, refl, ap, sym, subst}
use Rattle.std.proofs.lemmas.List.{length-map}
use Rattle.reg_base.specs.declared.limits.TheConstants.{MOST_EVENTS}
use Rattle.reg_process.specs.declared.events.Event.TheVariants.{Call}
use Rattle.reg_world.specs.Worlds.{Made, Accepts}
use Rattle.reg_workload.specs.Plays.{Playing, next_at, script_of}
use Rattle.reg_workload.specs.PlayParts.{IsReadyToCall}
use Rattle.reg_workload.proofs.Allowed.{call_allowed}
use Rattle.reg_workload.proofs.Scripts.{calls_in, next_in, number_in, is_next, number_few, same}
use Rattle.reg_workload.proofs.playing.Player.call.Goals as goal

pub index-number-requires : goal.index-number-requires
index-number-requires g c =
    let made = ap (λ (s : Playing). s.made.processes) c.self.view_is in
    let next = c.self.invariant.next in
    let same = c.from-place.ensures in
    let process = c.requires.process in
    let count = c.self.inside.next.ok.0 in
    omega (arith, made, next, same, process, count)

pub bounds-self-inside-place : goal.bounds-self-inside-place
bounds-self-inside-place g c =
    let made = ap (λ (s : Playing). s.made.processes) c.self.view_is in
    let scripts = c.self.invariant.scripts in
    let same = c.from-place.ensures in
    let process = c.requires.process in
    let count = length-map c.self.inside.scripts.now (λ v. v.items) in
    omega (arith, made, scripts, same, process, count)

pub index-op-requires : goal.index-op-requires
index-op-requires g c =
    let s : Playing = record { made = c.self.inside.world; scripts = map (λ v. v.items) c.self.inside.scripts.now; next = c.self.inside.next.items; cursors = c.self.inside.cursors.items } in
    let within : c.args.process < s.made.processes = let e = ap (λ (t : Playing). t.made.processes) c.self.view_is in let l = c.requires.process in omega (arith, e, l) in
    let left : next_at s c.args.process < length (script_of s.scripts c.args.process) = subst (λ (t : Playing). next_at t c.args.process < length (script_of t.scripts c.args.process)) (sym c.self.view_is) c.requires.may.left in
    let below = number_in (λ v. v.items) c.self.inside.scripts.now s c.args.process c.from-place.result c.index-number.result.now c.index-number.result.now c.index-self-place.result refl c.self.invariant within c.from-place.ensures c.index-number.ensures left in
    let count = (slice_index_or c.self.inside.scripts.now c.from-place.result c.index-self-place.result).ok.0 in
    omega (arith, below, count)

pub make-requires : goal.make-requires
make-requires g c =
    let s : Playing = record { made = c.self.inside.world; scripts = map (λ v. v.items) c.self.inside.scripts.now; next = c.self.inside.next.items; cursors = c.self.inside.cursors.items } in
    let within : c.args.process < s.made.processes = let e = ap (λ (t : Playing). t.made.processes) c.self.view_is in let l = c.requires.process in omega (arith, e, l) in
    let left : next_at s c.args.process < length (script_of s.scripts c.args.process) = subst (λ (t : Playing). next_at t c.args.process < length (script_of t.scripts c.args.process)) (sym c.self.view_is) c.requires.may.left in
    let at = next_in (λ v. v.items) c.self.inside.scripts.now s c.args.process c.from-place.result c.index-number.result.now c.index-number.result.now c.index-self-place.result c.index-op.result.now c.index-op.result.now refl c.self.invariant within c.from-place.ensures c.index-number.ensures left c.index-op.ensures in
    let going : s.made.failed ≡ false = ap (λ (t : Playing). t.made.failed) c.self.view_is ∙ c.requires.going in
    let room : length s.made.accepted < MOST_EVENTS = let e = ap (λ (t : Playing). length t.made.accepted) c.self.view_is in let l = c.requires.room in omega (arith, e, l) in
    let may : IsReadyToCall g.F.FrontEnd.start s c.args.process = subst (λ (t : Playing). IsReadyToCall g.F.FrontEnd.start t c.args.process) (sym c.self.view_is) c.requires.may in
    call_allowed g.F.FrontEnd.start s c.args.process c.index-op.result.now c.self.invariant going room within may at.1

pub overflow_add-number : goal.overflow_add-number
overflow_add-number g c =
    let s : Playing = record { made = c.self.inside.world; scripts = map (λ v. v.items) c.self.inside.scripts.now; next = c.self.inside.next.items; cursors = c.self.inside.cursors.items } in
    let within : c.args.process < s.made.processes = let e = ap (λ (t : Playing). t.made.processes) c.self.view_is in let l = c.requires.process in omega (arith, e, l) in
    let left : next_at s c.args.process < length (script_of s.scripts c.args.process) = subst (λ (t : Playing). next_at t c.args.process < length (script_of t.scripts c.args.process)) (sym c.self.view_is) c.requires.may.left in
    let few = number_few s c.args.process c.from-place.result c.index-number.result.now c.index-number.result.now c.self.invariant within c.from-place.ensures c.index-number.ensures left in
    omega (arith, few)

pub index_mut-requires : goal.index_mut-requires
index_mut-requires g c =
    let made = ap (λ (s : Playing). s.made.processes) c.self.view_is in
    let next = c.self.invariant.next in
    let same = c.from-place.ensures in
    let process = c.requires.process in
    let count = c.self.inside.next.ok.0 in
    omega (arith, made, next, same, process, count)

pub invariant_of-self : goal.invariant_of-self
invariant_of-self g c =
    let s : Playing = record { made = c.self.inside.world; scripts = map (λ v. v.items) c.self.inside.scripts.now; next = c.self.inside.next.items; cursors = c.self.inside.cursors.items } in
    same s c.make.new.world c.self.invariant c.in_err-make.ensures.processes c.in_err-make.ensures.registers (search rules)

pub invariant_of-self-2 : goal.invariant_of-self-2
invariant_of-self-2 g c =
    let s : Playing = record { made = c.self.inside.world; scripts = map (λ v. v.items) c.self.inside.scripts.now; next = c.self.inside.next.items; cursors = c.self.inside.cursors.items } in
    let within : c.args.process < s.made.processes = let e = ap (λ (t : Playing). t.made.processes) c.self.view_is in let l = c.requires.process in omega (arith, e, l) in
    let left : next_at s c.args.process < length (script_of s.scripts c.args.process) = subst (λ (t : Playing). next_at t c.args.process < length (script_of t.scripts c.args.process)) (sym c.self.view_is) c.requires.may.left in
    calls_in g.F.FrontEnd.start (λ v. v.items) c.self.inside.scripts.now s c.make.new.world c.args.process c.from-place.result c.index-number.result.now c.index-number.result.now c.index-self-place.result c.index-op.result.now c.index-op.result.now refl c.self.invariant c.in_ok-make.ensures.made.after within c.from-place.ensures c.index-number.ensures left c.index-op.ensures

pub returns-clause-value : goal.returns-clause-value
returns-clause-value g c =
    let s : Playing = record { made = c.self.inside.world; scripts = map (λ v. v.items) c.self.inside.scripts.now; next = c.self.inside.next.items; cursors = c.self.inside.cursors.items } in
    let within : c.args.process < s.made.processes = let e = ap (λ (t : Playing). t.made.processes) c.self.view_is in let l = c.requires.process in omega (arith, e, l) in
    let left : next_at s c.args.process < length (script_of s.scripts c.args.process) = subst (λ (t : Playing). next_at t c.args.process < length (script_of t.scripts c.args.process)) (sym c.self.view_is) c.requires.may.left in
    let at = next_in (λ v. v.items) c.self.inside.scripts.now s c.args.process c.from-place.result c.index-number.result.now c.index-number.result.now c.index-self-place.result c.index-op.result.now c.index-op.result.now refl c.self.invariant within c.from-place.ensures c.index-number.ensures left c.index-op.ensures in
    is_next g.F.FrontEnd.start s c.args.self.now c.args.process c.from-place.result c.index-number.result.now c.index-op.result.now c.make.new.world at.0 at.1 c.from-place.ensures c.in_ok-make.ensures.made.after c.self.view_is

pub returns-clause-accepts : goal.returns-clause-accepts
returns-clause-accepts g c = (c.index-op.result.now, subst (λ (m : Made). Accepts g.F.FrontEnd.start m (Call c.args.process c.index-op.result.now) c.make.new.world) (ap Playing.made c.self.view_is) c.in_ok-make.ensures.made)

pub returns-in_err-make-clause-same : goal.returns-in_err-make-clause-same
returns-in_err-make-clause-same g c = ap Playing.scripts c.self.view_is

pub returns-in_err-make-clause-processes : goal.returns-in_err-make-clause-processes
returns-in_err-make-clause-processes g c =
    c.in_err-make.ensures.processes ∙ ap (λ (s : Playing). s.made.processes) c.self.view_is

pub returns-in_err-make-clause-registers : goal.returns-in_err-make-clause-registers
returns-in_err-make-clause-registers g c =
    c.in_err-make.ensures.registers ∙ ap (λ (s : Playing). s.made.registers) c.self.view_is

pub returns-clause-same : goal.returns-clause-same
returns-clause-same g c = ap Playing.scripts c.self.view_is

pub returns-clause-processes : goal.returns-clause-processes
returns-clause-processes g c = c.in_ok-make.ensures.processes ∙ ap (λ (s : Playing). s.made.processes) c.self.view_is

pub returns-clause-registers : goal.returns-clause-registers
returns-clause-registers g c = c.in_ok-make.ensures.registers ∙ ap (λ (s : Playing). s.made.registers) c.self.view_is

pub returns-clause-going : goal.returns-clause-going
returns-clause-going g c = ap Made.failed c.in_ok-make.ensures.made.after ∙ (ap (λ (s : Playing). s.made.failed) c.self.view_is ∙ c.requires.going)

pub returns-clause-more : goal.returns-clause-more
returns-clause-more g c =
    ap (λ (m : Made). length m.accepted) c.in_ok-make.ensures.made.after
    ∙ (length-append c.self.inside.world.accepted (Call c.args.process c.index-op.result.now ∷ []) ∙ ap (λ (s : Playing). length s.made.accepted + 1) c.self.view_is)

pub returns-clause-cursors : goal.returns-clause-cursors
returns-clause-cursors g c = ap Playing.cursors c.self.view_is
