-- Laws of the counts that are lent, and of a sender's place among them.
-- Assumes nothing.
use Prim.Native.Nat.{ℕ, zero, suc, ◌+◌, ◌≤◌, ◌<◌}
use mathlib.Core.Bool.{Bool, true, false, cond}
use mathlib.Core.List.{List, [], ◌∷◌}
use mathlib.Core.Path.{◌≡◌, refl, sym, ap, ◌∙◌}
use native.Mathlib.Omega.{arith}
use lib.Dec.{ltb}
use lib.ListN.{length, get_or, set, length-take}
use lib.Seq.{set_out, get_or-set_same}
use borrow.Author.Tests.{ltb-false}
use Rattle.lists.specs.Lists.{Found, found, nothing}
use Rattle.bincode.specs.Sizes.{Sizes, base}
use Rattle.pub_key_map.specs.declared.Node.{Node}
use Rattle.pub_key_map.specs.declared.PubKeyMap.{PubKeyMap}
use Rattle.pub_key_map.specs.PubKeyMap.{nodes_of}
use Rattle.key_gen.specs.KeyGen.{node_count}
use Rattle.key_gen_state.specs.KeyGenState.{KeyGenStateOf, CountedOf, raised, sender_place, counted_at, counted_by, count_messages}
use Rattle.key_gen_state.specs.LentCounts.{nodes_up_to, raised_at, count_at, CountRaised, placed, place_of}
use Rattle.key_gen_state.proofs.CountLaws.{place_within}

-- a number of nodes of any map is no higher than a map has places: it is the number itself
pub nodes_same : (z : Sizes) (n : ℕ) → n ≤ z.nodes → nodes_up_to z n ≡ n
nodes_same z n h = go (ltb n z.nodes) refl
  where
    go : (b : Bool) → ltb n z.nodes ≡ b → cond b n z.nodes ≡ n
    go true e = refl
    go false e = omega (arith, h, ltb-false n z.nodes e)

-- past the last place of a list of numbers there is 0
none_past : (xs : List ℕ) (i : ℕ) → length xs ≤ i → get_or xs i 0 ≡ 0
none_past [] i h = refl
none_past (x ∷ xs) zero h = absurd (let y : ⊥ = omega arith in y)
none_past (x ∷ xs) (suc i) h = none_past xs i (omega arith)

module _ (z : Sizes) (counts : List ℕ) (place n : ℕ) where
  -- a count that is there is raised, and found there
  pub raised_there : (k : ℕ) → k ≡ raised (nodes_up_to z n) (get_or counts place 0) → place < length counts
      → CountRaised z counts place n (set counts place k) k
  unfolding raised_at
  raised_there k e h = (ap (set counts place) e, e ∙ sym (get_or-set_same counts place _ 0 h))

  -- past the last place nothing is
  pub raised_past : length counts ≤ place → CountRaised z counts place n counts 0
  unfolding raised_at
  raised_past h =
      let e = set_out counts place (raised (nodes_up_to z n) (get_or counts place 0)) h in
      (sym e, sym (ap (λ (l : List ℕ). get_or l place 0) e ∙ none_past counts place h))

-- with a map's number of nodes, the lent counts become those of `count_messages` by value, and the answer is its answer
as_counted : (z : Sizes) (g : KeyGenStateOf) (i : ℕ) → node_count g.key_gen ≤ z.nodes → i < length g.counts
    → (raised_at z g.counts i (node_count g.key_gen) ≡ (counted_at g i).state.counts) × (count_at (raised_at z g.counts i (node_count g.key_gen)) i ≡ (counted_at g i).count)
unfolding raised_at
as_counted z g i h l =
    let e = ap (λ (n : ℕ). raised n (get_or g.counts i 0)) (nodes_same z (node_count g.key_gen) h) in
    (ap (set g.counts i) e, get_or-set_same g.counts i _ 0 l ∙ e)

-- a map has no more nodes than places
pub few_nodes : (m : PubKeyMap) → length m.nodes.items ≡ base.nodes → length (nodes_of m) ≤ base.nodes
few_nodes m l = simp length-take (omega arith)

-- a sender's place
module _ (z : Sizes) (cur : List Node) (g : KeyGenStateOf) (sender : ℕ) where
  pub place_there : (i : ℕ) → found i ≡ sender_place z cur g.key_gen.nodes sender → i ≡ place_of z cur g sender
  unfolding place_of
  place_there i e = ap (placed z) e

  pub place_past : nothing ≡ sender_place z cur g.key_gen.nodes sender → z.nodes + z.nodes ≡ place_of z cur g sender
  unfolding place_of
  place_past e = ap (placed z) e

  -- counts raised at that place are those of `count_messages` by value
  module _ (h : node_count g.key_gen ≤ z.nodes) (hc : length cur ≤ z.nodes) (l : length g.counts ≡ z.nodes + z.nodes) where
    abbrev after : ℕ → CountedOf
    after i = record { state = record { key_gen = g.key_gen; counts = raised_at z g.counts i (node_count g.key_gen) }; count = count_at (raised_at z g.counts i (node_count g.key_gen)) i }

    by_place : (x : Found ℕ) → sender_place z cur g.key_gen.nodes sender ≡ x → after (placed z x) ≡ counted_by g x
    by_place (found i) e =
        let w = as_counted z g i h (omega (arith, l, place_within z cur g.key_gen.nodes sender i e hc h)) in
        λ j. record { state = record { key_gen = g.key_gen; counts = w.0 j }; count = w.1 j }
    by_place nothing e =
        let w = raised_past z g.counts (z.nodes + z.nodes) (node_count g.key_gen) (omega (arith, l)) in
        sym {A = CountedOf} (λ j. record { state = record { key_gen = g.key_gen; counts = w.0 j }; count = w.1 j })

    pub counted_lent : (place n : ℕ) (counts : List ℕ) (k : ℕ) → place ≡ place_of z cur g sender → n ≡ node_count g.key_gen → CountRaised z g.counts place n counts k
        → record { state = record { key_gen = g.key_gen; counts = counts }; count = k } ≡ count_messages z cur g sender
    unfolding place_of count_messages
    counted_lent place n counts k ep en e =
        let a : (counts ≡ (after place).state.counts) × (k ≡ (after place).count) = rw en at e in
        let b : record { state = record { key_gen = g.key_gen; counts = counts }; count = k } ≡ after place = λ j. record { state = record { key_gen = g.key_gen; counts = a.0 j }; count = a.1 j } in
        b ∙ ap after ep ∙ by_place (sender_place z cur g.key_gen.nodes sender) refl
