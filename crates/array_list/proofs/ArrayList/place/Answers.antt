use Rattle.std.proofs.Common.{rules, tests}
use native.Mathlib.Omega.{arith}
use mathlib.Core.Path.{◌≡◌, ◌∙◌}
use lib.Dec.{leb}
use lib.ListN.{length}
use Rattle.std.specs.Option.{unwrap_or}
use Rattle.std.specs.Prelude.{position}
use Rattle.std.proofs.lemmas.Iterator.{YieldsList-from_slice}
use Rattle.std.proofs.lemmas.Iterator.Search.{position_from_yields_List}
use Rattle.lists.specs.Lists.{below}
use Rattle.lists.proofs.SortedLaws.{below_le}
use Rattle.array_list.specs.ArrayList.{items_in}
use Rattle.array_list.proofs.SearchLaws.{place_found}
use Rattle.array_list.proofs.ArrayList.place.Goals as goal

pub returns : goal.returns
returns g c =
    let key = g.T.Keyed.key_of in
    let k = c.args.key in
    let xs = items_in c.args.self.now in
    let p : c.position.result ≡ position (λ x. leb k (key x)) xs = position_from_yields_List (λ x. leb k (key x)) _ _ _ c.position.ensures.ran (YieldsList-from_slice xs cc) (λ x b q k. search (rules, tests)) in
    let e : c.unwrap_or.result ≡ below key k xs = c.unwrap_or.ensures ∙ (λ i. unwrap_or (p i) (length (c.as_slice-xs.ensures i))) ∙ place_found key k xs in
    (e, omega (arith, e, below_le key k xs))
