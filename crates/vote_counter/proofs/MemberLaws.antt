-- Who is in a map: a signer is, and different members are no more than its nodes, whatever the map is.
-- Assumes nothing.
use Prim.Native.Nat.{ℕ, ◌≤◌}
use mathlib.Core.Path.{◌≡◌, refl, sym, ap, ◌∙◌}
use mathlib.Core.List.{List, [], ◌∷◌, map}
use mathlib.Core.Bool.{Bool, true, false, cond}
use mathlib.Core.Logic.{◌⊎◌, inl, inr}
use native.Mathlib.Omega.{arith}
use lib.Dec.{eqb}
use lib.ListN.{length, length-map}
use borrow.Author.Tests.{eqb-true}
use Rattle.lists.specs.Lists.{Found, found, nothing}
use Rattle.lists.proofs.ListLaws.{false_true}
use Rattle.bincode.specs.Stands.{All}
use Rattle.pub_key_map.specs.declared.Node.{Node}
use Rattle.pub_key_map.specs.PubKeyMap.{id_of}
use Rattle.network_info.specs.NetworkInfo.{node_index, key_of, is_member}
use Rattle.network_info.proofs.IndexLaws.{index_found, index_nothing}
use Rattle.signed_votes.proofs.VotesLaws.{AscendsFrom}
use Rattle.winner.specs.BoardTerms.{Among, Unrepeated}
use Rattle.winner.proofs.AmongLaws.{all_follows, all_map, few_among}
use Rattle.board.proofs.HandedLaws.{ascending_apart}
use Rattle.vote_counter.specs.VoteCounter.{is_key}

-- a signature under a node's key is of a member
pub signer_member : (ns : List Node) (id sig : ℕ) → is_key sig (key_of ns id) ≡ true → is_member ns id ≡ true
signer_member ns id sig e = go (node_index ns id) refl
  where
    go : (i : Found ℕ) → node_index ns id ≡ i → is_member ns id ≡ true
    go (found i) f = (index_found ns 0 i id f).2
    go nothing f = absurd (false_true (ap (is_key sig) (sym (index_nothing ns 0 id f).1) ∙ e))

-- a member's id is one of the map's
member_among : (ns : List Node) (id : ℕ) → is_member ns id ≡ true → Among id (map id_of ns)
unfolding is_member
member_among [] id e = absurd (false_true e)
member_among (n ∷ ns) id e = go (eqb n.id id) refl e (member_among ns id)
  where
    go : (b : Bool) → eqb n.id id ≡ b → cond b true (is_member ns id) ≡ true → (is_member ns id ≡ true → Among id (map id_of ns)) → (id ≡ n.id) ⊎ Among id (map id_of ns)
    go true q e ih = inl (sym (eqb-true n.id id q))
    go false q e ih = inr (ih e)

module _ (ns : List Node) where
  -- different members are no more than the nodes
  pub few_members : (ids : List ℕ) → Unrepeated ids → All (λ (i : ℕ). is_member ns i ≡ true) ids → length ids ≤ length ns
  few_members ids u m =
      let a = few_among ids (map id_of ns) u (all_follows (λ (i : ℕ). is_member ns i ≡ true) (λ (i : ℕ). Among i (map id_of ns)) (member_among ns) ids m) in
      omega (arith, a, length-map ns id_of)

  -- so are values by ascending key, where each key is a member
  pub few_keyed : {A : Type 0} (key : A → ℕ) (low : ℕ) (xs : List A) → AscendsFrom key low xs → All (λ (x : A). is_member ns (key x) ≡ true) xs → length xs ≤ length ns
  few_keyed key low xs s m =
      let a = few_members (map key xs) (ascending_apart key low xs s) (all_map key (λ (i : ℕ). is_member ns i ≡ true) xs m) in
      omega (arith, a, length-map xs key)
