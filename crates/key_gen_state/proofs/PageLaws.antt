-- Single sentences of the scope document, said of the count of each sender's messages.
-- Assumes nothing.
use Prim.Native.Nat.{ℕ, ◌+◌, ◌≤◌, ◌<◌}
use mathlib.Core.Path.{◌≡◌, refl, ap, ◌∙◌}
use mathlib.Core.List.{List}
use mathlib.Core.Bool.{Bool, true, false}
use lib.Dec.{ltb}
use lib.ListN.{length, get_or, replicate, get_or-replicate, get_or-eq_default, length-replicate}
use lib.Seq.{get_or-set_same, get_or-set_other}
use borrow.Author.Tests.{lt-ltb, le-ltb, ltb-true, ltb-false}
use Rattle.lists.specs.Lists.{found, nothing}
use Rattle.bincode.specs.Sizes.{Sizes}
use Rattle.pub_key_map.specs.declared.Node.{Node}
use Rattle.network_info.specs.NetworkInfo.{node_index}
use Rattle.key_gen.specs.KeyGen.{KeyGenOf}
use Rattle.key_gen_state.specs.KeyGenState.{KeyGenStateOf, sender_place, count_messages, fresh_state}
use Rattle.key_gen_state.proofs.CountLaws.{same_place}

module _ (z : Sizes) (cur : List Node) (g : KeyGenStateOf) (sender : ℕ) where
  -- one that is in neither map has no count: nothing changes
  pub count_of_stranger : node_index g.key_gen.nodes sender ≡ nothing → node_index cur sender ≡ nothing → count_messages z cur g sender ≡ record { state = g; count = 0 }
  unfolding count_messages sender_place
  count_of_stranger e f = rw (e, f)

  -- key generation itself is as before
  module _ (i : ℕ) (place : sender_place z cur g.key_gen.nodes sender ≡ found i) where
    pub key_gen_stays : (count_messages z cur g sender).state.key_gen ≡ g.key_gen
    unfolding count_messages
    key_gen_stays = rw place

    -- 01: a count is raised by one, and answered ..
    module _ (low : get_or g.counts i 0 < length g.key_gen.nodes + 2) where
      pub count_answered : (count_messages z cur g sender).count ≡ get_or g.counts i 0 + 1
      unfolding count_messages
      count_answered = rw (place, lt-ltb _ _ low)

      pub count_raised : i < length g.counts → get_or (count_messages z cur g sender).state.counts i 0 ≡ get_or g.counts i 0 + 1
      unfolding count_messages
      count_raised h = rw (place, lt-ltb _ _ low) (get_or-set_same g.counts i (get_or g.counts i 0 + 1) 0 h)

    -- .. "a sender's count stops rising at n+2" of the new map
    module _ (high : length g.key_gen.nodes + 2 ≤ get_or g.counts i 0) where
      pub count_stopped : (count_messages z cur g sender).count ≡ get_or g.counts i 0
      unfolding count_messages
      count_stopped = rw (place, le-ltb _ _ high)

      pub count_stays : i < length g.counts → get_or (count_messages z cur g sender).state.counts i 0 ≡ get_or g.counts i 0
      unfolding count_messages
      count_stays h = rw (place, le-ltb _ _ high) (get_or-set_same g.counts i (get_or g.counts i 0) 0 h)

    -- "raised by one at the sender" alone: every other sender's count stays
    pub others_stay : (other k : ℕ) → (other ≡ sender → ⊥) → sender_place z cur g.key_gen.nodes other ≡ found k → length g.key_gen.nodes ≤ z.nodes
        → get_or (count_messages z cur g sender).state.counts k 0 ≡ get_or g.counts k 0
    unfolding count_messages
    others_stay other k h e few =
        let apart : k ≡ i → ⊥ = λ q. h (same_place z cur g.key_gen.nodes other sender i (e ∙ ap found q) place few) in
        rw place (get_or-set_other g.counts i k _ 0 apart)

-- "Counts per sender begin anew with each fresh key generation": nobody is counted, and the key generation is the one given
module _ (z : Sizes) (g : KeyGenOf) where
  pub fresh_counts : (i : ℕ) → get_or (fresh_state z g).counts i 0 ≡ 0
  fresh_counts i = go (ltb i (z.nodes + z.nodes)) refl
    where
      go : (b : Bool) → ltb i (z.nodes + z.nodes) ≡ b → ◌≡◌ {A = ℕ} (get_or (replicate (z.nodes + z.nodes) 0) i 0) 0
      go true e = get_or-replicate (z.nodes + z.nodes) i 0 0 (ltb-true _ _ e)
      go false e = get_or-eq_default (replicate (z.nodes + z.nodes) 0) 0 (rw (length-replicate {A = ℕ} (z.nodes + z.nodes) 0) (ltb-false _ _ e))

  pub fresh_key_gen : (fresh_state z g).key_gen ≡ g
  fresh_key_gen = refl
