-- Which numbers a map refuses with, in every edition: those of its numbers, 2 and 3. And it keeps to its size.
-- Assumes nothing.
use Prim.Native.Nat.{ℕ, ◌≤◌}
use mathlib.Core.List.{List}
use lib.Dec.{ltb, eqb}
use lib.ListN.{length}
use Rattle.bincode.specs.Numbers.{Edition}
use Rattle.bincode.specs.Sizes.{Sizes}
use Rattle.bincode.proofs.RefusalLaws.{Answers, Plain, Refusing, plain_choice, plain_bind, plain_of, counted_answers}
use Rattle.pub_key_map.specs.declared.Node.{Node}
use Rattle.pub_key_map.specs.PubKeyMap.{read_node, following, read_map}

module _ {N : ℕ → Type 0} {e : Edition} {s : List ℕ} (k : Refusing N e s) where
  pub node_plain : (low at : ℕ) → Plain N (read_node e s low at)
  unfolding read_node
  node_plain low at =
      plain_bind N (e.read 4 s at) _ (k.numbers 4 at) λ id c.
      plain_choice N (ltb id low) _ _ k.two
      (plain_bind N (e.read 8 s c) _ (k.numbers 8 c) λ key d.
      plain_choice N (eqb key 0) _ _ k.two tt)

  module _ (z : Sizes) (at : ℕ) where
    pub map_answers : Answers N (λ (ns : List Node). length ns ≤ z.nodes) (read_map e z s at)
    unfolding read_map
    map_answers = counted_answers N (read_node e s) following node_plain k z.nodes 0 at

    pub map_plain : Plain N (read_map e z s at)
    map_plain = plain_of N (λ (ns : List Node). length ns ≤ z.nodes) (read_map e z s at) map_answers
