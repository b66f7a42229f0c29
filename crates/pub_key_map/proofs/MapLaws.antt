-- Laws of maps: equality.
-- Assumes nothing.
use mathlib.Core.Path.{◌≡◌, refl}
use mathlib.Core.List.{List}
use mathlib.Core.Bool.{true}
use lib.Dec.{eqb}
use borrow.Author.Tests.{eq-eqb, eqb-true}
use Rattle.lists.proofs.EqLaws.{eq_slices}
use Rattle.lists.proofs.ListLaws.{and_both, eq_list_true, eq_list_refl}
use Rattle.pub_key_map.specs.declared.Node.{Node}
use Rattle.pub_key_map.specs.declared.PubKeyMap.{PubKeyMap}
use Rattle.pub_key_map.specs.contracts.NodePartialEq.TheImpl.{eq-value}
use Rattle.pub_key_map.specs.contracts.PubKeyMapPartialEq.TheImpl as map
use Rattle.pub_key_map.specs.PubKeyMap.{nodes_of, same_node, same_nodes}

-- equality of maps is equality
node_true : (a b : Node) → same_node a b ≡ true → a ≡ b
unfolding same_node
node_true a b e =
    let u = and_both (eqb a.id b.id) (eqb a.key b.key) e in
    let id = eqb-true a.id b.id u.0 in
    let key = eqb-true a.key b.key u.1 in
    λ i. record { id = id i; key = key i }

node_refl : (a : Node) → same_node a a ≡ true
unfolding same_node
node_refl a = rw (eq-eqb a.id a.id refl, eq-eqb a.key a.key refl)

pub map_true : (xs ys : List Node) → same_nodes xs ys ≡ true → xs ≡ ys
map_true = eq_list_true same_node node_true

pub map_refl : (xs : List Node) → same_nodes xs xs ≡ true
map_refl = eq_list_refl same_node node_refl

-- `==` of nodes is what the definitions call the same
pub node_eq : (a b : Node) → (eq-value).it a b ≡ same_node a b
unfolding same_node
node_eq a b = refl

-- and `==` of maps
pub map_eq : (a b : PubKeyMap) → (map.eq-value).it a b ≡ same_nodes (nodes_of a) (nodes_of b)
map_eq a b = eq_slices _ same_node node_eq (nodes_of a) (nodes_of b)
