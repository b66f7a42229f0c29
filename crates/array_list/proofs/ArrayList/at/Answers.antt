use mathlib.Core.Path.{ap, ◌∙◌}
use Rattle.lists.specs.Lists.{option_as_found}
use Rattle.array_list.specs.ArrayList.{items_in}
use Rattle.array_list.proofs.SearchLaws.{item_got, at_got}
use Rattle.array_list.proofs.ArrayList.at.Goals as goal

pub returns : goal.returns
returns g c =
    let place = c.args.place in
    let e = c.get.ensures.lookup in
    let got = c.copied.ensures ∙ item_got c.as_slice.result.now place c.get.result e.0 e.1 in
    ap (option_as_found (λ x. x)) (rw c.as_slice.ensures at got) ∙ at_got (items_in c.args.self.now) place
