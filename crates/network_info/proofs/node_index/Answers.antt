use Rattle.std.proofs.Common.{rules, tests}
use mathlib.Core.Path.{ap, ◌∙◌}
use Prim.Native.Nat.{ℕ}
use lib.Dec.{eqb}
use Rattle.std.proofs.lemmas.Iterator.{YieldsList-from_slice}
use Rattle.std.proofs.lemmas.Iterator.Search.{position_from_yields_List}
use Rattle.std.proofs.lemmas.Iterator.Adapters.{position_from-zero}
use Rattle.lists.specs.Lists.{option_as_found}
use Rattle.pub_key_map.specs.declared.Node.{Node}
use Rattle.pub_key_map.specs.PubKeyMap.{nodes_of}
use Rattle.network_info.proofs.IndexLaws.{index_position}
use Rattle.network_info.proofs.node_index.Goals as goal

pub returns : goal.returns
returns c =
    let ns = nodes_of c.args.m in
    let id = c.args.id in
    let test = λ (n : Node). eqb n.id id in
    ap (option_as_found (λ (x : ℕ). x)) (position_from_yields_List test _ _ _ c.position.ensures.ran (YieldsList-from_slice ns cc) (λ x b q k. search (rules, tests)) ∙ position_from-zero test ns) ∙ index_position ns 0 id
