use Rattle.std.proofs.Common.{rules, tests}
use mathlib.Core.Path.{◌∙◌}
use Rattle.std.proofs.lemmas.Iterator.{YieldsList-from_slice}
use Rattle.std.proofs.lemmas.Iterator.Search.{any_from_yields_List}
use Rattle.commit.specs.Tally.{entries_of, is_fresh}
use Rattle.commit.proofs.TurnLaws.{fresh_any}
use Rattle.commit.proofs.tally.Tally.has_fresh.Goals as goal

pub returns : goal.returns
returns c =
    let xs = entries_of c.args.self.now in
    any_from_yields_List is_fresh _ _ _ c.any.ensures.ran (YieldsList-from_slice xs cc) (λ x b q k. search (rules, tests)) ∙ fresh_any xs
