-- Laws of the senders' places and counts.
-- Assumes nothing.
use Prim.Native.Nat.{ℕ, ◌+◌, ◌≤◌, ◌<◌}
use mathlib.Core.Path.{◌≡◌, refl, ap, ◌∙◌}
use mathlib.Core.List.{List}
use mathlib.Core.Logic.{◌⊎◌, inl, inr, ⊎_elim}
use mathlib.Core.Bool.{Bool, true, false, cond}
use native.Mathlib.Omega.{arith}
use lib.Dec.{ltb}
use lib.ListN.{length}
use borrow.Author.Tests.{ltb-true, le-ltb}
use Rattle.lists.specs.Lists.{Found, found, nothing}
use Rattle.bincode.specs.Sizes.{Sizes}
use Rattle.pub_key_map.specs.declared.Node.{Node}
use Rattle.network_info.specs.NetworkInfo.{node_index}
use Rattle.network_info.proofs.IndexLaws.{index_found, index_unique}
use Rattle.key_gen_state.specs.KeyGenState.{place_by, sender_place, rises, raised}

-- a sender's place goes by its index in the candidate map, then by that in the current one
module _ (z : Sizes) (cur cand : List Node) (id : ℕ) where
  -- in the candidate map
  pub place_candidate : (i : ℕ) → node_index cand id ≡ found i → found i ≡ sender_place z cur cand id
  unfolding sender_place
  place_candidate i e = rw e

  module _ (e : node_index cand id ≡ nothing) where
    -- in the current map only
    pub place_current : (j : ℕ) → node_index cur id ≡ found j → found (z.nodes + j) ≡ sender_place z cur cand id
    unfolding sender_place
    place_current j f = rw (e, f)

    -- in neither
    pub place_none : node_index cur id ≡ nothing → nothing ≡ sender_place z cur cand id
    unfolding sender_place
    place_none f = rw (e, f)

-- which of the two maps a place comes from
abbrev FromCandidate : List Node → ℕ → ℕ → Type 0
FromCandidate cand id i = node_index cand id ≡ found i

abbrev FromCurrent : Sizes → List Node → ℕ → ℕ → Type 0
FromCurrent z cur id i = (j : ℕ) × (node_index cur id ≡ found j) × (i ≡ z.nodes + j)

-- what is found is not nothing
clash : (i : ℕ) → ◌≡◌ {A = Found ℕ} nothing (found i) → ⊥
clash i e = let z : ◌≡◌ {A = ℕ} 0 1 = cc in omega arith

-- a place comes from one of the two
from : (z : Sizes) (cur cand : List Node) (id i : ℕ) → sender_place z cur cand id ≡ found i → FromCandidate cand id i ⊎ FromCurrent z cur id i
unfolding sender_place
from z cur cand id i e = go (node_index cand id) refl (node_index cur id) refl e
  where
    go : (x : Found ℕ) → node_index cand id ≡ x → (y : Found ℕ) → node_index cur id ≡ y → place_by z x y ≡ found i → FromCandidate cand id i ⊎ FromCurrent z cur id i
    go (found k) p y q e = inl (p ∙ e)
    go nothing p (found j) q e = inr (j, q, (cc))
    go nothing p nothing q e = absurd (clash i e)

-- a place is one of the counts
pub place_within : (z : Sizes) (cur cand : List Node) (id i : ℕ) → sender_place z cur cand id ≡ found i
    → length cur ≤ z.nodes → length cand ≤ z.nodes → i < z.nodes + z.nodes
place_within z cur cand id i e k l =
    ⊎_elim
    (λ p. omega (arith, (index_found cand 0 i id p).1))
    (λ p. omega (arith, (index_found cur 0 p.0 id p.1).1, p.2))
    (from z cur cand id i e)

-- two senders with one place are the same
pub same_place : (z : Sizes) (cur cand : List Node) (a b i : ℕ) → sender_place z cur cand a ≡ found i → sender_place z cur cand b ≡ found i → length cand ≤ z.nodes → a ≡ b
same_place z cur cand a b i e f l =
    ⊎_elim
    (λ p. ⊎_elim
    (λ q. index_unique cand 0 i a b p q)
    (λ q. absurd (let y : ⊥ = omega (arith, (index_found cand 0 i a p).1, q.2) in y))
    (from z cur cand b i f))
    (λ p. ⊎_elim
    (λ q. absurd (let y : ⊥ = omega (arith, (index_found cand 0 i b q).1, p.2) in y))
    (λ q. let j : p.0 ≡ q.0 = omega (arith, p.2, q.2) in index_unique cur 0 q.0 a b (p.1 ∙ ap found j) q.1)
    (from z cur cand b i f))
    (from z cur cand a i e)

-- a count of the number of nodes and two does not rise
pub stops_rising : (n c : ℕ) → n + 2 ≤ c → rises n c ≡ false
stops_rising n c h = le-ltb c (n + 2) h

-- a count never passes the number of nodes and two
pub raised_le : (n c : ℕ) → c ≤ n + 2 → raised n c ≤ n + 2
raised_le n c h = go (ltb c (n + 2)) refl
  where
    go : (b : Bool) → ltb c (n + 2) ≡ b → cond b (c + 1) c ≤ n + 2
    go true e = omega (arith, ltb-true c (n + 2) e)
    go false e = h
