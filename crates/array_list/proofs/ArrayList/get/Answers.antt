use Rattle.std.proofs.Common.{rules, tests}
use mathlib.Core.Path.{ap, ◌∙◌}
use lib.Dec.{eqb}
use Rattle.std.proofs.lemmas.Iterator.{YieldsList-from_slice}
use Rattle.std.proofs.lemmas.Iterator.Search.{find_from_yields_List}
use Rattle.lists.specs.Lists.{option_as_found}
use Rattle.array_list.specs.ArrayList.{items_in}
use Rattle.array_list.proofs.SearchLaws.{get_found}
use Rattle.array_list.proofs.ArrayList.get.Goals as goal

pub returns : goal.returns
returns g c =
    let key = g.T.Keyed.key_of in
    let xs = items_in c.args.self.now in
    ap (option_as_found (λ x. x)) (c.copied.ensures ∙ find_from_yields_List (λ x. eqb (key x) c.args.key) _ _ _ c.find.ensures.ran (YieldsList-from_slice xs cc) (λ x b q k. search (rules, tests))) ∙ get_found key c.args.key xs
