use Rattle.std.proofs.Common.{rules}
use mathlib.Core.Path.{◌≡◌, sym}
use native.Mathlib.Omega.{arith}
use lib.ListN.{length}
use Rattle.bincode.specs.Sizes.{base}
use Rattle.network_info.proofs.IndexLaws.{index_within}
use Rattle.key_gen_state.proofs.CountLaws.{place_candidate, place_current, place_none}
use Rattle.key_gen_state.proofs.LentCountLaws.{few_nodes, place_there, place_past}
use Rattle.key_gen_state.proofs.sender_place.Goals as goal

pub returns-in-Some : goal.returns-in-Some
returns-in-Some c =
    (place_there base _ _ _ _ (place_candidate base _ _ _ _ (sym c.in-Some.ensures)), few_nodes c.args.current (search rules), search rules)

pub overflow_add-result : goal.overflow_add-result
overflow_add-result c =
    let m = c.args.current in
    let l : length m.nodes.items ≡ base.nodes = search rules in
    omega (arith, (index_within m.nodes.items m.nodes.count _ _ (sym c.in-Some-node_index.ensures)).0)

pub returns-in-Some-node_index : goal.returns-in-Some-node_index
returns-in-Some-node_index c =
    (place_there base _ _ _ _ (place_current base _ _ _ (sym c.in_default.ensures) _ (sym c.in-Some-node_index.ensures)), few_nodes c.args.current (search rules), search rules)

pub returns : goal.returns
returns c =
    (place_past base _ _ _ (place_none base _ _ _ (sym c.in_default.ensures) (sym c.in_default-node_index.ensures)), few_nodes c.args.current (search rules), search rules)
