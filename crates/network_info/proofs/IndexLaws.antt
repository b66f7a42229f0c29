-- Laws of a node's index, and that membership and key go by it.
-- Assumes nothing.
use Prim.Native.Nat.{ℕ, suc, ◌+◌, ◌-◌, ◌≤◌, ◌<◌}
use mathlib.Core.Path.{◌≡◌, refl, sym, ap, ◌∙◌}
use mathlib.Core.List.{List, [], ◌∷◌}
use mathlib.Core.Bool.{Bool, true, false, cond}
use native.Mathlib.Omega.{arith}
use lib.Dec.{eqb}
use lib.ListN.{length, take, get_or, length-take}
use lib.Seq.{get_or-take}
use borrow.Author.Tests.{eqb-true}
use Rattle.std.specs.declared.option.Option.{Option}
use Rattle.std.specs.declared.option.Option.TheVariants.{Some, None}
use Rattle.std.specs.List.{position_from}
use Rattle.std.specs.Option.{is_some, option_map}
use Rattle.pub_key_map.specs.declared.Node.{Node}
use Rattle.pub_key_map.specs.PubKeyMap.{id_of, no_node}
use Rattle.lists.specs.Lists.{found, nothing, map_found, option_as_found, lookup}
use Rattle.lists.proofs.ListLaws.{not_found}
use Rattle.network_info.specs.NetworkInfo.{index_from, key_of, is_member}

-- the search answers the place of the first node with the id
pub index_position : (ns : List Node) (i id : ℕ) → option_as_found (λ (x : ℕ). x) (position_from (λ n. eqb n.id id) i ns) ≡ index_from i ns id
unfolding index_from
index_position [] i id = refl
index_position (n ∷ ns) i id = go (eqb n.id id) (index_position ns (i + 1) id)
  where
    go : (b : Bool) → option_as_found (λ (x : ℕ). x) (position_from (λ n. eqb n.id id) (i + 1) ns) ≡ index_from (i + 1) ns id
        → option_as_found (λ (x : ℕ). x) (cond b (Some i) (position_from (λ n. eqb n.id id) (i + 1) ns)) ≡ cond b (found i) (index_from (i + 1) ns id)
    go true h = refl
    go false h = h

-- a node that is found is a member, its index lies in the list, and its key stands there
pub index_found : (ns : List Node) (j i id : ℕ) → index_from j ns id ≡ found i
    → (j ≤ i) × (i < j + length ns) × (is_member ns id ≡ true) × (key_of ns id ≡ found (get_or ns (i - j) no_node).key)
unfolding index_from key_of is_member
index_found [] j i id e = absurd (not_found e)
index_found (n ∷ ns) j i id e = go (eqb n.id id) e (index_found ns (j + 1) i id)
  where
    go : (b : Bool) → cond b (found j) (index_from (j + 1) ns id) ≡ found i
        → (index_from (j + 1) ns id ≡ found i → (j + 1 ≤ i) × (i < j + 1 + length ns) × (is_member ns id ≡ true) × (key_of ns id ≡ found (get_or ns (i - (j + 1)) no_node).key))
        → (j ≤ i) × (i < j + suc (length ns)) × (cond b true (is_member ns id) ≡ true) × (cond b (found n.key) (key_of ns id) ≡ found (get_or (n ∷ ns) (i - j) no_node).key)
    go true e ih =
        let p : j ≡ i = cc in
        let z : i - j ≡ 0 = omega arith in
        (omega arith, omega arith, refl, rw z)
    go false e ih =
        let r = ih e in
        let l = r.0 in
        let z : i - j ≡ suc (i - (j + 1)) = omega arith in
        (omega arith, omega (arith, r.1), r.2, rw z r.3)

-- a node that is not found is no member and has no key
pub index_nothing : (ns : List Node) (j id : ℕ) → index_from j ns id ≡ nothing → (is_member ns id ≡ false) × (key_of ns id ≡ nothing)
unfolding index_from key_of is_member
index_nothing [] j id e = (refl, refl)
index_nothing (n ∷ ns) j id e = go (eqb n.id id) e (index_nothing ns (j + 1) id)
  where
    go : (b : Bool) → cond b (found j) (index_from (j + 1) ns id) ≡ nothing → (index_from (j + 1) ns id ≡ nothing → (is_member ns id ≡ false) × (key_of ns id ≡ nothing))
        → (cond b true (is_member ns id) ≡ false) × (cond b (found n.key) (key_of ns id) ≡ nothing)
    go true e ih = absurd (not_found (sym e))
    go false e ih = ih e

-- so membership is whether there is an index
pub member_some : (o : Option ℕ) (ns : List Node) (id : ℕ) → option_as_found (λ (x : ℕ). x) o ≡ index_from 0 ns id → is_some o ≡ is_member ns id
member_some (Some i) ns id e = sym (index_found ns 0 i id (sym e)).2
member_some None ns id e = sym (index_nothing ns 0 id (sym e)).0

-- the index of one of the first k nodes of an array is below both
pub index_within : (xs : List Node) (k i id : ℕ) → index_from 0 (take k xs) id ≡ found i
    → (i < length xs) × (key_of (take k xs) id ≡ found (get_or xs i no_node).key)
index_within xs k i id e =
    let r = index_found (take k xs) 0 i id e in
    let h : i < k = omega (arith, r.1, length-take k xs) in
    let l : i < length xs = omega (arith, r.1, length-take k xs) in
    let z : i - 0 ≡ i = omega arith in
    (l, r.3 ∙ ap found (rw (z, get_or-take k xs i no_node h)))

-- the node at the index of an id has that id
pub index_id : (ns : List Node) (j i id : ℕ) → index_from j ns id ≡ found i → (get_or ns (i - j) no_node).id ≡ id
unfolding index_from
index_id [] j i id e = absurd (not_found e)
index_id (n ∷ ns) j i id e = go (eqb n.id id) refl e (index_id ns (j + 1) i id) (λ r. (index_found ns (j + 1) i id r).0)
  where
    go : (b : Bool) → eqb n.id id ≡ b → cond b (found j) (index_from (j + 1) ns id) ≡ found i
        → (index_from (j + 1) ns id ≡ found i → (get_or ns (i - (j + 1)) no_node).id ≡ id)
        → (index_from (j + 1) ns id ≡ found i → j + 1 ≤ i) → (get_or (n ∷ ns) (i - j) no_node).id ≡ id
    go true f e ih low =
        let p : j ≡ i = cc in
        let z : i - j ≡ 0 = omega arith in
        rw z (eqb-true n.id id f)
    go false f e ih low =
        let l = low e in
        let z : i - j ≡ suc (i - (j + 1)) = omega arith in
        rw z (ih e)

-- two ids with one index are the same
pub index_unique : (ns : List Node) (j i a b : ℕ) → index_from j ns a ≡ found i → index_from j ns b ≡ found i → a ≡ b
index_unique ns j i a b e f = sym (index_id ns j i a e) ∙ index_id ns j i b f

-- a node's key is that of the first node with the id
pub key_looked_up : (ns : List Node) (id : ℕ) → map_found (λ (n : Node). n.key) (lookup id_of ns id) ≡ key_of ns id
unfolding lookup key_of
key_looked_up [] id = refl
key_looked_up (n ∷ ns) id = go (eqb n.id id) (key_looked_up ns id)
  where
    go : (b : Bool) → map_found (λ (x : Node). x.key) (lookup id_of ns id) ≡ key_of ns id
        → map_found (λ (x : Node). x.key) (cond b (found n) (lookup id_of ns id)) ≡ cond b (found n.key) (key_of ns id)
    go true h = refl
    go false h = h

-- the key of what is found
pub key_mapped : (o : Option Node) → option_as_found (λ (x : ℕ). x) (option_map (λ (n : Node). n.key) o) ≡ map_found (λ (n : Node). n.key) (option_as_found (λ (n : Node). n) o)
key_mapped (Some n) = refl
key_mapped None = refl
