use Rattle.std.proofs.Common.{◌∙◌, ap, sym, refl, false}
use Rattle.std.proofs.lemmas.Result.{err_from_is_err_and}
use Rattle.reg_world.specs.Worlds.{stopped}
use Rattle.reg_world.specs.WorldParts.{found, made_of}
use Rattle.reg_world.proofs.code.Stepping.{refuses_is, move_found, none_is, accepts_is}
use Rattle.reg_world.proofs.advancing.step_parts.Goals as goal

pub returns-in_err-moved : goal.returns-in_err-moved
returns-in_err-moved g c =
    let b = c.args.book.now in
    let p = err_from_is_err_and c.from_residual.result c.from_residual.ensures.1 in
    rw (p.1, p.2) record {
      made = (
        made_of false b,
        refuses_is g.F.FrontEnd.start false b c.args.members.now.items c.requires refl c.args.event (made_of false b) refl c.in_err-moved.field-0.0
            (ap (λ l. found l b c.args.event) (sym c.deref.ensures.value) ∙ (sym c.found.ensures ∙ c.in_err-moved.was)),
      );
    }

pub advance-requires-clause-moves : goal.advance-requires-clause-moves
advance-requires-clause-moves g c =
    let b = c.args.book.now in
    move_found g.F.FrontEnd.start false b c.args.members.now.items c.requires refl c.args.event (made_of false b) refl c.in_ok-moved.moved
    (ap (λ l. found l b c.args.event) (sym c.deref.ensures.value) ∙ (sym c.found.ensures ∙ c.in_ok-moved.was))

pub returns-in-Ok : goal.returns-in-Ok
returns-in-Ok g c =
    let b = c.args.book.now in
    record {
      made = record {
        world = c.in-Ok.ensures.made.world;
        accepts = (accepts_is g.F.FrontEnd.start false b c.args.members.now.items c.requires refl c.args.event (made_of false b) refl c.in_ok-moved.moved
            (ap (λ l. found l b c.args.event) (sym c.deref.ensures.value) ∙ (sym c.found.ensures ∙ c.in_ok-moved.was)) c.in-Ok.field-0 c.advance.new.members.items c.advance.new.book c.in-Ok.ensures.made).0;
        ahead = c.in-Ok.ensures.ahead;
      };
    }

pub returns-in-Err : goal.returns-in-Err
returns-in-Err g c =
    let b = c.args.book.now in
    let none = none_is g.F.FrontEnd.start false b c.args.members.now.items c.requires refl c.args.event (made_of false b) refl c.in_ok-moved.moved
    (ap (λ l. found l b c.args.event) (sym c.deref.ensures.value) ∙ (sym c.found.ensures ∙ c.in_ok-moved.was)) in
    record { made = (stopped (made_of false b), (none, refl)) }
