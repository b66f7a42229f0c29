use mathlib.Core.Path.{ap, ◌∙◌}
use lib.ListN.{replicate}
use Rattle.due.specs.declared.DueItem.{DueItem}
use Rattle.due.proofs.DueList.empty.Goals as goal

pub returns : goal.returns
returns c =
    let e = c.empty-2.ensures ∙ ap (λ (x : DueItem). record { count = 0; items = replicate 1025 x }) c.empty.ensures in
    λ i. record { items = e i }
