use Rattle.std.proofs.Common.{List, ◌≡◌, ◌-◌, ◌<◌, length, ap, arith, refl}
use Rattle.reg_process.specs.declared.events.Event.{Event}
use Rattle.reg_show.specs.Shorts.{KeepsAnswers, Shortens}
use Rattle.reg_show.proofs.Shortened.{all_tried, next_there, next_tried, none_tried}
use Rattle.reg_show.proofs.shortening.shorten.Goals as goal

pub loop-tried-init : goal.loop-tried-init
loop-tried-init g c =
    let K = KeepsAnswers g.F.FrontEnd.start c.args.shape c.args.entries.now in
    let same : length c.in_ok-short.short.items ≡ length c.args.events.now = ap length c.in_ok-short.ensures.items in
    record {
      there = omega (arith, same);
      so = none_tried K (length c.args.events.now) c.in_ok-short.short.items c.args.events.now c.in_ok-short.ensures.items;
    }

pub loop-tried-preserved : goal.loop-tried-preserved
loop-tried-preserved g c =
    let K = KeepsAnswers g.F.FrontEnd.start c.args.shape c.args.entries.now in
    let all = length c.args.events.now in
    let tried = c.loop-tried.tried in
    let lt : tried < all = omega arith in
    let at = all - tried - 1 in
    record {
      there = next_there K all tried at c.loop-tried.short.items c.try_without.new.events.items lt refl c.loop-tried.invariant.there c.in_ok-try_without.ensures;
      so = next_tried K all tried at c.loop-tried.short.items c.try_without.new.events.items (λ (v : List Event). Shortens K all c.args.events.now v) lt refl c.in_ok-try_without.ensures c.loop-tried.invariant.so;
    }

pub returns : goal.returns
returns g c =
    let K = KeepsAnswers g.F.FrontEnd.start c.args.shape c.args.entries.now in
    let all = length c.args.events.now in
    all_tried K all c.loop-tried.tried c.loop-tried.short.items (λ (v : List Event). Shortens K all c.args.events.now v) (omega arith) c.loop-tried.invariant.so
