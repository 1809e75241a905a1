use Rattle.std.proofs.Common.{◌≡◌, ◌≤◌, take}
use Rattle.reg_verify.specs.StoryTexts.{line_feeds}
use Rattle.reg_verify.proofs.stories.reading.line_feeds.Given as goal

-- the line feeds so far are counted
abbrev pub invariant-loop-at : goal.invariant-loop-at
invariant-loop-at l = record {
  counted : l.count ≡ line_feeds (take l.at l.text);
  few : l.count ≤ l.at;
}
