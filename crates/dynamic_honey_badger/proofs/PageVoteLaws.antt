-- Single sentences of the scope document and its readings, said of own votes.
-- Assumes nothing.
use Prim.Native.Nat.{ℕ, ◌+◌, ◌≤◌, ◌<◌}
use mathlib.Core.Path.{◌≡◌, refl, ap, ◌∙◌}
use mathlib.Core.List.{List, ◌∷◌, ◌++◌}
use mathlib.Core.Bool.{true, false}
use lib.ListN.{length}
use borrow.Author.Tests.{ne_eqb}
use Rattle.lists.specs.Lists.{found, nothing, lookup, insert_within}
use Rattle.bincode.specs.Sizes.{Sizes}
use Rattle.bincode.specs.Stands.{All}
use Rattle.bincode.specs.Outcome.{done, refused}
use Rattle.pub_key_map.specs.declared.Node.{Node}
use Rattle.network_info.specs.NetworkInfo.{is_member}
use Rattle.change.specs.Change.{ChangeOf, node_change}
use Rattle.votes.specs.Votes.{SignedVoteOf}
use Rattle.vote_counter.proofs.PageLaws.{own_first, own_next, own_last}
use Rattle.node_change.proofs.PageLaws.{node_replaced, never_full, node_added, not_full, full, absent_removed, node_removed}
use Rattle.node_change.specs.NodeChange.{row13, with_node, without_node}
use Rattle.dynamic_honey_badger.specs.State.{StateOf}
use Rattle.dynamic_honey_badger.specs.OwnVotes.{VotedOf, vote_for, vote_to_add, vote_to_remove}

module _ (z : Sizes) (s : StateOf) where
  -- "a non-validator's then does nothing"
  module _ (outsider : is_member s.counter.nodes s.counter.our_id ≡ false) where
    pub outsider_votes : (change : ChangeOf) → vote_for z s change ≡ record { state = s; answer = done nothing }
    unfolding vote_for
    outsider_votes change = rw outsider

    pub outsider_adds : (id key : ℕ) → (key ≡ 0 → ⊥) → vote_to_add z s id key ≡ record { state = s; answer = done nothing }
    unfolding vote_to_add
    outsider_adds id key k = rw (ne_eqb key 0 k, outsider)

    pub outsider_removes : (id : ℕ) → vote_to_remove z s id ≡ record { state = s; answer = done nothing }
    unfolding vote_to_remove vote_for
    outsider_removes id = rw outsider

  -- "`vote_to_add` with key 0 is 2, also for a non-validator and at 16 stations"
  pub key_zero : (id : ℕ) → vote_to_add z s id 0 ≡ record { state = s; answer = refused 2 }
  unfolding vote_to_add
  key_zero id = refl

  module _ (validator : is_member s.counter.nodes s.counter.our_id ≡ true) where
    -- a validator's is signed with the own key, by the own id, of the current era, and replaces the own pending one
    module _ (change : ChangeOf) where
      abbrev own : ℕ → SignedVoteOf
      own num = record { vote = record { change = change; era = s.counter.era; num = num }; voter = s.counter.our_id; sig = s.counter.our_key }

      abbrev cast : ℕ → VotedOf
      cast num =
          record {
            state = record {
              counter = record {
                our_id = s.counter.our_id;
                our_key = s.counter.our_key;
                nodes = s.counter.nodes;
                era = s.counter.era;
                pending = insert_within (λ (v : SignedVoteOf). v.voter) z.nodes (own num) s.counter.pending;
                committed = s.counter.committed;
                board = s.counter.board;
              };
              params = s.params;
              key_gen = s.key_gen;
              store = s.store;
              last = s.last;
            };
            answer = done (found (own num));
          }

      -- its number is 0 at first
      pub vote_first : lookup (λ (v : SignedVoteOf). v.voter) s.counter.pending s.counter.our_id ≡ nothing → vote_for z s change ≡ cast 0
      unfolding vote_for
      vote_first e = rw (validator, own_first z s.counter change e)

      module _ (old : SignedVoteOf) (pending : lookup (λ (v : SignedVoteOf). v.voter) s.counter.pending s.counter.our_id ≡ found old) where
        -- "The own vote's number follows the own pending vote"
        pub vote_next : (old.vote.num ≡ 18446744073709551615 → ⊥) → vote_for z s change ≡ cast (old.vote.num + 1)
        unfolding vote_for
        vote_next h = rw (validator, own_next z s.counter change old pending h)

        -- row 11
        pub vote_last : old.vote.num ≡ 18446744073709551615 → vote_for z s change ≡ record { state = s; answer = refused 11 }
        unfolding vote_for
        vote_last h = rw (validator, own_last z s.counter change old pending h)

    -- a vote to add a node, to the current map parted at its id; 13 before 11
    module _ (id key : ℕ) (k : key ≡ 0 → ⊥) (before behind : List Node) (lower : All (λ (x : Node). x.id < id) before) where
      abbrev new : Node
      new = record { id = id; key = key }

      -- "of an id in the map replaces its key and is never 13"
      pub add_replaces : (x : Node) → x.id ≡ id → s.counter.nodes ≡ before ++ (x ∷ behind) → vote_to_add z s id key ≡ vote_for z s (node_change (before ++ (new ∷ behind)))
      unfolding vote_to_add
      add_replaces x e ns =
          rw (ne_eqb key 0 k, validator, ap (λ (ys : List Node). row13 z ys id) ns ∙ never_full z new before behind lower x e, ap (λ (ys : List Node). with_node z ys new) ns ∙ node_replaced z new before behind lower x e)

      module _ (higher : All (λ (x : Node). id < x.id) behind) (ns : s.counter.nodes ≡ before ++ behind) where
        pub add_adds : length (before ++ behind) < z.nodes → vote_to_add z s id key ≡ vote_for z s (node_change (before ++ (new ∷ behind)))
        unfolding vote_to_add
        add_adds room =
            rw (ne_eqb key 0 k, validator, ap (λ (ys : List Node). row13 z ys id) ns ∙ not_full z new before behind lower higher room, ap (λ (ys : List Node). with_node z ys new) ns ∙ node_added z new before behind lower higher room)

        -- row 13: "`vote_to_add` would reach 17"
        pub add_over : z.nodes ≤ length (before ++ behind) → vote_to_add z s id key ≡ record { state = s; answer = refused 13 }
        unfolding vote_to_add
        add_over h = rw (ne_eqb key 0 k, validator, ap (λ (ys : List Node). row13 z ys id) ns ∙ full z new before behind lower higher h)

  -- "`vote_to_remove` of an absent id votes for the current map"
  module _ (id : ℕ) where
    pub remove_absent : All (λ (x : Node). x.id ≡ id → ⊥) s.counter.nodes → vote_to_remove z s id ≡ vote_for z s (node_change s.counter.nodes)
    unfolding vote_to_remove
    remove_absent h = ap (λ (ns : List Node). vote_for z s (node_change ns)) (absent_removed id s.counter.nodes h)

    -- of an id in the map, for the map without that node
    pub remove_present : (before behind : List Node) (x : Node) → s.counter.nodes ≡ before ++ (x ∷ behind) → x.id ≡ id
        → All (λ (y : Node). y.id ≡ id → ⊥) before → All (λ (y : Node). y.id ≡ id → ⊥) behind → vote_to_remove z s id ≡ vote_for z s (node_change (before ++ behind))
    unfolding vote_to_remove
    remove_present before behind x ns e h g =
        ap (λ (ys : List Node). vote_for z s (node_change (without_node ys id))) ns ∙ ap (λ (ys : List Node). vote_for z s (node_change ys)) (node_removed id before behind x e h g)
