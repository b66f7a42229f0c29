use Rattle.std.proofs.Common.{rules}
use mathlib.Core.Path.{◌≡◌, ◌∙◌}
use mathlib.Core.Bool.{false}
use lib.Dec.{eqb}
use Rattle.std.specs.Option.{option_map, option_copied, unwrap_or}
use Rattle.array_list.specs.ArrayList.{items_in}
use Rattle.array_list.proofs.SearchLaws.{item_got}
use Rattle.array_list.proofs.HasLaws.{has_got}
use Rattle.array_list.proofs.ArrayList.has.Goals as goal

pub returns : goal.returns
returns g c =
    let key = g.T.Keyed.key_of in
    let k = c.args.key in
    let l = c.get.ensures.lookup in
    let e : c.is_some_and.result ≡ unwrap_or (option_map (λ x. eqb (key x) k) (option_copied c.get.result)) false = search rules in
    let got = item_got c.as_slice.result.now c.place-at.result c.get.result l.0 l.1 in
    rw (got, c.as_slice.ensures, c.place-at.ensures.0) at e ∙ has_got key k (items_in c.args.self.now)
