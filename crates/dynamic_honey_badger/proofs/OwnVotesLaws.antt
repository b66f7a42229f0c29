-- Laws of own votes: the rows down to the first that holds.
-- Assumes nothing.
use borrow.Author.Tests.{eq-eqb, ne_eqb}
use mathlib.Core.Bool.{true, false}
use mathlib.Core.List.{List}
use mathlib.Core.Path.{◌≡◌, sym, ap}
use Prim.Native.Nat.{ℕ}
use Rattle.lists.specs.Lists.{nothing}
use Rattle.bincode.specs.Numbers.{fixed}
use Rattle.bincode.specs.Outcome.{done, refused}
use Rattle.bincode.specs.Read.{value, refuse, whole}
use Rattle.bincode.specs.Sizes.{Sizes}
use Rattle.change.specs.Change.{ChangeOf, node_change, read_change}
use Rattle.vote_counter.specs.VoteCounter.{Signed, sign_vote_for}
use Rattle.node_change.specs.NodeChange.{row13, with_node}
use Rattle.dynamic_honey_badger.specs.OwnVotes.{voted_as, signed_in, vote_for, vote_for_bytes, vote_to_add}
use Rattle.dynamic_honey_badger.specs.State.{StateOf, nodes_in, is_validator}

module _ (z : Sizes) (s : StateOf) where
  -- a non-validator's vote does nothing, a validator's is signed
  pub vote_nothing : (c : ChangeOf) → is_validator s ≡ false → vote_for z s c ≡ voted_as s (done nothing)
  unfolding vote_for
  vote_nothing c e = rw e

  pub vote_signed : (c : ChangeOf) (r : Signed) → is_validator s ≡ true → r ≡ sign_vote_for z s.counter c → vote_for z s c ≡ signed_in s r
  unfolding vote_for
  vote_signed c r e f = rw e (ap (signed_in s) (sym f))

  -- a change that comes as bytes: refused where they are, else a vote for it
  pub bytes_refused : (bytes : List ℕ) (n : ℕ) → whole (read_change fixed z bytes) bytes ≡ refuse n → vote_for_bytes z s bytes ≡ voted_as s (refused n)
  unfolding vote_for_bytes
  bytes_refused bytes n e = rw e

  pub bytes_read : (bytes : List ℕ) (c : ChangeOf) (at : ℕ) → whole (read_change fixed z bytes) bytes ≡ value c at → vote_for_bytes z s bytes ≡ vote_for z s c
  unfolding vote_for_bytes
  bytes_read bytes c at e = rw e

  -- a vote to add a node: key 0; a non-validator; row 13; then a vote for the map with the node
  module _ (id key : ℕ) where
    pub add_key : key ≡ 0 → vote_to_add z s id key ≡ voted_as s (refused 2)
    unfolding vote_to_add
    add_key k = rw (eq-eqb key 0 k)

    module _ (k : key ≡ 0 → ⊥) where
      pub add_nothing : is_validator s ≡ false → vote_to_add z s id key ≡ voted_as s (done nothing)
      unfolding vote_to_add
      add_nothing v = rw (ne_eqb key 0 k, v)

      module _ (v : is_validator s ≡ true) where
        pub add_full : row13 z (nodes_in s) id ≡ true → vote_to_add z s id key ≡ voted_as s (refused 13)
        unfolding vote_to_add
        add_full f = rw (ne_eqb key 0 k, v, f)

        pub add_voted : row13 z (nodes_in s) id ≡ false → vote_to_add z s id key ≡ vote_for z s (node_change (with_node z (nodes_in s) (record { id = id; key = key })))
        unfolding vote_to_add
        add_voted f = rw (ne_eqb key 0 k, v, f)
