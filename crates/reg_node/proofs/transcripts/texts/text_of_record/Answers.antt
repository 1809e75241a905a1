use Rattle.std.proofs.Common.{◌≡◌, ◌<◌, ◌+◌, ℕ, List, [], ◌∷◌, ◌++◌, length, map, take, get_or, sym, ap, ◌∙◌, subst}
use Rattle.std.proofs.Common.{append-nil}
use Rattle.std.proofs.lemmas.Grind.{flat_map-append}
use Rattle.std.proofs.lemmas.List.{map-append, take_more}
use Rattle.std.proofs.lemmas.Option.{slice_get-get_or}
use Rattle.reg_front.specs.declared.named.Front.{Front}
use Rattle.reg_text.specs.Lines.{text_of}
use Rattle.reg_node.specs.declared.transcripts.recorded.Recorded.{Recorded}
use Rattle.reg_node.specs.declared.transcripts.writing.LineFault.{LineFault}
use Rattle.reg_node.specs.declared.transcripts.writing.LineFault.TheVariants.{OutOfMemory, Unfit}
use Rattle.reg_node.specs.LineFaults.{IsEntryFault, IsRecordFault}
use Rattle.reg_node.specs.RecordLines.{Account, head_lines, recorded_text}
use Rattle.reg_node.proofs.transcripts.texts.text_of_record.Goals as goal

-- a step that has no line is one of the record's
unfit : (a : Account) (k : ℕ) (d : Recorded) (f : LineFault) → k < length a.steps
    → IsEntryFault a.names (get_or a.steps k d) f → IsRecordFault a f
unfit a k d Unfit lt no_line = λ fits. no_line (fits k (get_or a.steps k d) (slice_get-get_or a.steps k d lt))
unfit a k d OutOfMemory lt no_line = tt

-- one line more
line_more : (front : Front) (n : ℕ) (names : List (List ℕ)) (steps : List Recorded) (k : ℕ) (d : Recorded)
    → k < length steps
    → text_of (head_lines front n names (map (recorded_text names) (take (k + 1) steps))) ≡ text_of (head_lines front n names (map (recorded_text names) (take k steps))) ++ (recorded_text names (get_or steps k d) ++ 10 ∷ [])
line_more front n names steps k d lt =
    ap (λ (rs : List Recorded). text_of (head_lines front n names (map (recorded_text names) rs))) (take_more steps k d lt)
    ∙ (ap (λ (ls : List (List ℕ)). text_of (head_lines front n names ls)) (map-append (recorded_text names) (take k steps) (get_or steps k d ∷ []))
    ∙ (flat_map-append (λ line. line ++ 10 ∷ []) (head_lines front n names (map (recorded_text names) (take k steps))) (recorded_text names (get_or steps k d) ∷ [])
    ∙ ap (λ (l : List ℕ). text_of (head_lines front n names (map (recorded_text names) (take k steps))) ++ l) (append-nil (recorded_text names (get_or steps k d) ++ 10 ∷ []))))

module _ (a : Account) (inside : Account) (view : inside ≡ a) (shown : List Recorded) (same : shown ≡ inside.steps) (k : ℕ) (lt : k < length shown) where
  within : k < length a.steps
  within = subst (λ (x : Account). k < length x.steps) view (rw same at lt)

  pub unfit_here : (d : Recorded) (f : LineFault) → IsEntryFault inside.names (get_or shown k d) f → IsRecordFault a f
  unfit_here d f no_line = unfit a k d f within
      (subst (λ (x : Account). IsEntryFault x.names (get_or x.steps k d) f) view (subst (λ (steps : List Recorded). IsEntryFault inside.names (get_or steps k d) f) same no_line))

  pub line_here : (d : Recorded) (text new line bytes : List ℕ)
      → text ≡ text_of (head_lines a.front a.shape.processes a.names (map (recorded_text a.names) (take k a.steps)))
      → new ≡ text ++ (bytes ++ 10 ∷ []) → bytes ≡ line → line ≡ recorded_text inside.names (get_or shown k d)
      → new ≡ text_of (head_lines a.front a.shape.processes a.names (map (recorded_text a.names) (take (k + 1) a.steps)))
  line_here d text new line bytes so_far added are is =
      let whole : bytes ≡ recorded_text a.names (get_or a.steps k d) =
      are ∙ (is ∙ (ap (λ (steps : List Recorded). recorded_text inside.names (get_or steps k d)) same ∙ ap (λ (x : Account). recorded_text x.names (get_or x.steps k d)) view)) in
      added ∙ (ap (λ (t : List ℕ). t ++ (bytes ++ 10 ∷ [])) so_far
      ∙ (ap (λ (l : List ℕ). text_of (head_lines a.front a.shape.processes a.names (map (recorded_text a.names) (take k a.steps))) ++ (l ++ 10 ∷ [])) whole
      ∙ sym (line_more a.front a.shape.processes a.names a.steps k d within)))

pub returns-in-Err-clause-fault : goal.returns-in-Err-clause-fault
returns-in-Err-clause-fault g c =
    unfit_here c.args.account.now (record { front = c.account.inside.front; shape = c.account.inside.shape; names = c.account.inside.names; steps = c.account.inside.steps.items }) c.account.view_is c.deref-step-items.result.now c.deref-step-items.ensures.value c.loop-step.step-index c.loop-step-test.true
    _ c.in-Err.fault c.in-Err.ensures.fault

pub loop-step-preserved : goal.loop-step-preserved
loop-step-preserved g c =
    line_here c.args.account.now (record { front = c.account.inside.front; shape = c.account.inside.shape; names = c.account.inside.names; steps = c.account.inside.steps.items }) c.account.view_is c.deref-step-items.result.now c.deref-step-items.ensures.value c.loop-step.step-index c.loop-step-test.true
    _ c.loop-step.text.items c.add_line.new.text.items _ c.as_bytes.result.now c.loop-step.invariant c.in_ok-add_line-in-Ok.ensures c.as_bytes.ensures.value c.in-Ok.ensures.line.0
