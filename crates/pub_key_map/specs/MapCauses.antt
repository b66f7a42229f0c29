-- 01, rows 2 and 3 of a map, by their cause.
use Rattle.std.specs.Prelude.{ℕ, ◌<◌, ◌≡◌, List}
use Rattle.bincode.specs.Numbers.{Edition}
use Rattle.bincode.specs.Sizes.{Sizes}
use Rattle.bincode.specs.Stands.{Each}
use Rattle.bincode.specs.Causes.{not_ascending, key_zero, count_over, Wrong, Nothing, NumberWrong, Unless, NotAbove, Number, Counted}
use Rattle.pub_key_map.specs.declared.Node.{Node}
use Rattle.pub_key_map.specs.PubKeyMap.{following, node_bytes, NodeOk}

module _ (e : Edition) (v : NumberWrong) (s : List ℕ) where
  -- an id, which is above those of the nodes before it; then a key, which is not 0
  abbrev pub node_wrong : List Node → Wrong
  node_wrong before =
      Number e v s 4 λ id.
      Unless (NotAbove (λ n. n.id) before id) not_ascending
      (Number e v s 8 λ key.
      Unless (key ≡ 0) key_zero Nothing)

  -- a count, which is not over its size, and as many nodes
  abbrev pub map_wrong : Sizes → Wrong
  map_wrong z = Counted e v s (node_bytes e) (λ n. z.nodes < n) count_over (Each following NodeOk 0) node_wrong
