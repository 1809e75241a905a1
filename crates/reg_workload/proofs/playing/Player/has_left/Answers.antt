use Rattle.std.proofs.Common.{◌≡◌, ◌<◌, ◌∙◌, ℕ, ltb, true, length, slice_index_or, map, refl, ap, sym, subst, arith}
use Rattle.std.specs.Prelude.{vec_len}
use Rattle.std.proofs.lemmas.Bool.Decides.{Decides-ltb}
use Rattle.reg_workload.specs.Plays.{Playing, next_at, script_of}
use Rattle.reg_workload.proofs.Scripts.{left_in}
use Rattle.reg_workload.proofs.playing.Player.has_left.Goals as goal

pub index-requires : goal.index-requires
index-requires g c =
    let made = ap (λ (s : Playing). s.made.processes) c.self.view_is in
    let next = c.self.invariant.next in
    let same = c.from.ensures in
    let count = c.self.inside.next.ok.0 in
    let process = c.requires in
    omega (arith, made, next, same, process, count)

pub returns : goal.returns
returns g c =
    let s : Playing = record { made = c.self.inside.world; scripts = map (λ v. v.items) c.self.inside.scripts.now; next = c.self.inside.next.items; cursors = c.self.inside.cursors.items } in
    let p = c.args.process in
    let d = c.index-self-from.result in
    let within : p < s.made.processes = let e = ap (λ (t : Playing). t.made.processes) c.self.view_is in let l = c.requires in omega (arith, e, l) in
    let (at, same) = left_in (λ v. v.items) c.self.inside.scripts.now s p c.from.result c.index.result.now c.index.result.now d refl c.self.invariant within c.from.ensures c.index.ensures in
    let len : c.len.result ≡ vec_len (slice_index_or c.self.inside.scripts.now c.from.result d) = c.len.ensures ∙ ap (λ (i : ℕ). vec_len (slice_index_or c.self.inside.scripts.now i d)) (c.from-2.ensures ∙ sym c.from.ensures) in
    let count = (slice_index_or c.self.inside.scripts.now c.from.result d).ok.0 in
    let tells = Decides-ltb c.index.result.now c.len.result in
    subst (λ (t : Playing). (ltb c.index.result.now c.len.result ≡ true → next_at t p < length (script_of t.scripts p)) × (next_at t p < length (script_of t.scripts p) → ltb c.index.result.now c.len.result ≡ true)) c.self.view_is
    (λ is. let l = tells.0 is in omega (arith, l, at, same, len, count), λ l. tells.1 (omega (arith, l, at, same, len, count)))
