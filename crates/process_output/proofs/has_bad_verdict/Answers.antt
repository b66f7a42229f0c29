use Rattle.std.proofs.Common.{rules, tests}
use mathlib.Core.Path.{◌∙◌}
use Rattle.std.proofs.lemmas.Iterator.{YieldsList-from_slice}
use Rattle.std.proofs.lemmas.Iterator.Search.{any_from_yields_List}
use Rattle.process_output.specs.Refusals.{no_verdict}
use Rattle.process_output.proofs.SomeLaws.{some_any}
use Rattle.process_output.proofs.has_bad_verdict.Goals as goal

pub returns : goal.returns
returns c =
    let xs = c.args.verdicts.now in
    any_from_yields_List no_verdict _ _ _ c.any.ensures.ran (YieldsList-from_slice xs cc) (λ x b q k. search (rules, tests)) ∙ some_any no_verdict xs
