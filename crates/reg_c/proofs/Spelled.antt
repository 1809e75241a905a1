-- Frames spelled one after another.
use Rattle.std.proofs.Common.{◌≡◌, ◌<◌, ◌++◌, [], ℕ, ◌+◌, List, take, length, get_or, sym, ap, ◌∙◌}
use Rattle.std.proofs.lemmas.List.{take_more, flat_map_more}
use Rattle.std.proofs.lemmas.List.Elements.{All-more}
use Rattle.reg_frames.specs.Spelling.{Fits}
use Rattle.reg_frames.specs.declared.puts.Put.{Put}
use Rattle.reg_c.specs.Processes.{AllFit, all_bytes, put_bytes}

-- the frame at this place is spelled too
pub spelled_more : (puts : List Put) (k : ℕ) (d : Put) (old new : List ℕ) → k < length puts
    → AllFit (take k puts) × (old ≡ all_bytes (take k puts))
    → Fits (get_or puts k d).frame × (new ≡ old ++ put_bytes (get_or puts k d)) → AllFit (take (k + 1) puts) × (new ≡ all_bytes (take (k + 1) puts))
spelled_more puts k d old new lt (fit, is) (fits, more) = (
  All-more (λ (p : Put). Fits p.frame) puts k d lt fit fits,
  more ∙ ap (λ (l : List ℕ). l ++ put_bytes (get_or puts k d)) is ∙ flat_map_more put_bytes [] (take k puts) (get_or puts k d) ∙ ap (λ (l : List Put). all_bytes l) (sym (take_more puts k d lt)),
)
