use Rattle.reg_verify.proofs.OneStory.{one_memory}
use Rattle.reg_verify.proofs.laws.a_story_is_one_memory.Goals as goal

pub returns : goal.returns
returns c = one_memory
