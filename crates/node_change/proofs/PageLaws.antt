-- Single sentences of the scope document and its readings, said of the maps that `vote_to_add` and `vote_to_remove` propose.
-- Assumes nothing.
use Prim.Native.Nat.{ℕ, ◌≤◌, ◌<◌}
use mathlib.Core.Path.{◌≡◌, refl, ap, ◌∙◌}
use mathlib.Core.List.{List, [], ◌∷◌, ◌++◌}
use mathlib.Core.Bool.{true, false}
use native.Mathlib.Omega.{arith}
use lib.ListN.{length}
use borrow.Author.Tests.{lt-ltb, le-ltb, eq-eqb, ne_eqb, le-leb, lt-leb}
use Rattle.lists.specs.Lists.{filter, has_key, insert}
use Rattle.lists.proofs.FilterLaws.{filter_append}
use Rattle.lists.proofs.SortedLaws.{within_same, within_new}
use Rattle.bincode.specs.Sizes.{Sizes}
use Rattle.bincode.specs.Stands.{All}
use Rattle.pub_key_map.specs.declared.Node.{Node}
use Rattle.pub_key_map.specs.PubKeyMap.{id_of}
use Rattle.node_change.specs.NodeChange.{is_not, row13, with_node, without_node}

-- what stands before a node's place is passed over
has_behind : (k : ℕ) (before behind : List Node) → All (λ (x : Node). x.id < k) before → has_key id_of k (before ++ behind) ≡ has_key id_of k behind
unfolding has_key
has_behind k [] behind h = refl
has_behind k (x ∷ before) behind h = rw (lt-ltb x.id k h.0) (has_behind k before behind h.1)

insert_behind : (n : Node) (before behind : List Node) → All (λ (x : Node). x.id < n.id) before → insert id_of n (before ++ behind) ≡ before ++ insert id_of n behind
unfolding insert
insert_behind n [] behind h = refl
insert_behind n (x ∷ before) behind h = rw (lt-ltb x.id n.id h.0) (ap (λ (xs : List Node). x ∷ xs) (insert_behind n before behind h.1))

-- a node of the map has the id
has_here : (k : ℕ) (x : Node) (behind : List Node) → x.id ≡ k → has_key id_of k (x ∷ behind) ≡ true
unfolding has_key
has_here k x behind e = rw (le-ltb x.id k (omega arith), eq-eqb x.id k e)

-- none of those with greater ids has it
has_not : (k : ℕ) (behind : List Node) → All (λ (x : Node). k < x.id) behind → has_key id_of k behind ≡ false
unfolding has_key
has_not k [] h = refl
has_not k (x ∷ behind) h = let l = h.0 in rw (le-ltb x.id k (omega arith), ne_eqb x.id k (λ e. omega arith))

insert_first : (n : Node) (behind : List Node) → All (λ (x : Node). n.id < x.id) behind → insert id_of n behind ≡ n ∷ behind
unfolding insert
insert_first n [] h = refl
insert_first n (x ∷ behind) h = let l = h.0 in rw (le-ltb x.id n.id (omega arith), ne_eqb x.id n.id (λ e. omega arith))

-- a map that ascends, parted at an id: `before` has the lower ids
module _ (z : Sizes) (n : Node) (before behind : List Node) (lower : All (λ (x : Node). x.id < n.id) before) where
  -- "`vote_to_add` of an id in the map replaces its key and is never 13"
  module _ (x : Node) (same : x.id ≡ n.id) where
    pub node_replaced : with_node z (before ++ (x ∷ behind)) n ≡ before ++ (n ∷ behind)
    unfolding with_node insert
    node_replaced =
        within_same id_of z.nodes n (before ++ (x ∷ behind)) (has_behind n.id before (x ∷ behind) lower ∙ has_here n.id x behind same)
        ∙ insert_behind n before (x ∷ behind) lower ∙ rw (le-ltb x.id n.id (omega arith), eq-eqb x.id n.id same)

    pub never_full : row13 z (before ++ (x ∷ behind)) n.id ≡ false
    unfolding row13
    never_full = rw (has_behind n.id before (x ∷ behind) lower ∙ has_here n.id x behind same)

  -- another id stands where it belongs, so that the map stays ascending; row 13 where it "would reach 17"
  module _ (higher : All (λ (x : Node). n.id < x.id) behind) where
    absent : has_key id_of n.id (before ++ behind) ≡ false
    absent = has_behind n.id before behind lower ∙ has_not n.id behind higher

    module _ (room : length (before ++ behind) < z.nodes) where
      pub node_added : with_node z (before ++ behind) n ≡ before ++ (n ∷ behind)
      unfolding with_node
      node_added = within_new id_of z.nodes n (before ++ behind) absent room ∙ insert_behind n before behind lower ∙ ap (λ (xs : List Node). before ++ xs) (insert_first n behind higher)

      pub not_full : row13 z (before ++ behind) n.id ≡ false
      unfolding row13
      not_full = rw (absent, lt-leb z.nodes (length (before ++ behind)) room)

    pub full : z.nodes ≤ length (before ++ behind) → row13 z (before ++ behind) n.id ≡ true
    unfolding row13
    full h = rw (absent, le-leb z.nodes (length (before ++ behind)) h)

-- "`vote_to_remove` of an absent id votes for the current map"
pub absent_removed : (id : ℕ) (ns : List Node) → All (λ (x : Node). x.id ≡ id → ⊥) ns → without_node ns id ≡ ns
unfolding without_node filter
absent_removed id [] h = refl
absent_removed id (x ∷ ns) h = rw (ne_eqb x.id id h.0) (ap (λ (xs : List Node). x ∷ xs) (absent_removed id ns h.1))

-- of an id in the map, the map without that node, the others as they were
pub node_removed : (id : ℕ) (before behind : List Node) (x : Node) → x.id ≡ id → All (λ (y : Node). y.id ≡ id → ⊥) before → All (λ (y : Node). y.id ≡ id → ⊥) behind
    → without_node (before ++ (x ∷ behind)) id ≡ before ++ behind
unfolding without_node filter
node_removed id before behind x e h k =
    filter_append (is_not id) before (x ∷ behind) ∙ rw (eq-eqb x.id id e) (λ i. absent_removed id before h i ++ absent_removed id behind k i)
