-- `step_sheet` is a step with the input and the settings of the rules.
use Rattle.std.proofs.Common.{[], refl, ap, ◌∙◌}
use Rattle.recenter_call.specs.Recentered.{check_of}
use Rattle.recenter_call.proofs.Runs.{lent-step}
use Rattle.recenter_call.proofs.run.step_sheet.Goals as goal

pub returns-clause-value : goal.returns-clause-value
returns-clause-value c =
    c.check_of.ensures ∙ ap check_of (lent-step c.args.sheet.now _ [] [] [] (c.center_words-words.ensures, refl, refl, refl) _ c.settings_of-s.ensures c.args.ticks c.step-answer.result _ _ _ c.step-answer.ensures).0

pub returns-clause-sheet_after : goal.returns-clause-sheet_after
returns-clause-sheet_after c = (lent-step c.args.sheet.now _ [] [] [] (c.center_words-words.ensures, refl, refl, refl) _ c.settings_of-s.ensures c.args.ticks c.step-answer.result _ _ _ c.step-answer.ensures).1
