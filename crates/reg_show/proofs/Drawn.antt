-- Why no drawing is written, of either size.
use Rattle.std.proofs.Common.{Result, Ok, Err}
use Rattle.std.specs.Prelude.{IfErr}
use Rattle.reg_inputs.specs.Schedules.{Plan}
use Rattle.reg_show.specs.declared.faults.ShowFault.{ShowFault}
use Rattle.reg_show.specs.declared.faults.ShowFault.TheVariants.{Command, NoSuchOutcome, TooManyEvents, TooManyStages}
use Rattle.reg_show.specs.declared.faults.ShowFault.TheVariants.{TooManyToDraw, TooManyToRest, TooManyToShorten}
use Rattle.reg_show.specs.declared.showing.Showing.TheVariants.{Draw, DrawLarge}
use Rattle.reg_show.specs.Showings.{StopsShowing}

alike : (p : Plan) (f : ShowFault) → StopsShowing Draw p f → StopsShowing DrawLarge p f
alike p (Command fault) h = h
alike p TooManyToDraw h = h
alike p TooManyToRest h = h
alike p TooManyToShorten h = h
alike p TooManyEvents h = h
alike p TooManyStages h = h
alike p NoSuchOutcome h = h

pub stops_large : {T : Type 0} (p : Plan) (r : Result T ShowFault) → IfErr r (StopsShowing Draw p)
    → IfErr r (StopsShowing DrawLarge p)
stops_large p (Ok t) h = tt
stops_large p (Err f) h = alike p f h
