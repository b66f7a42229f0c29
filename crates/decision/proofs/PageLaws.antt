-- Single sentences of the scope document, steps 6 to 8, said of what a batch decides: the whole state, the reported change, what is due, the recipe.
-- Assumes nothing.
use Prim.Native.Nat.{ℕ}
use mathlib.Core.Path.{◌≡◌, refl, ap, ◌∙◌}
use mathlib.Core.List.{List, [], ◌∷◌}
use mathlib.Core.Bool.{Bool, true, false}
use Rattle.lists.specs.Lists.{Found, found, nothing}
use Rattle.bincode.specs.Sizes.{Sizes}
use Rattle.pub_key_map.specs.declared.Node.{Node}
use Rattle.pub_key_map.specs.PubKeyMap.{same_nodes}
use Rattle.pub_key_map.proofs.MapLaws.{map_true, map_refl}
use Rattle.network_info.specs.NetworkInfo.{is_member}
use Rattle.honey_badger.specs.declared.EncryptionSchedule.{EncryptionSchedule}
use Rattle.change.specs.Change.{node_change, encryption_schedule, none, in_progress, complete}
use Rattle.due.specs.declared.DueKind.TheVariants.{Part}
use Rattle.vote_counter.specs.VoteCounter.{CounterOf, compute_winner, supporters_of, carried}
use Rattle.key_gen.specs.KeyGen.{ready}
use Rattle.key_gen_state.specs.KeyGenState.{KeyGenStateOf, ready_state}
use Rattle.recipe.specs.Recipe.{recipe}
use Rattle.message_store.specs.MessageStore.{from_era}
use Rattle.dynamic_honey_badger.specs.State.{StateOf, new_era, key_gen_for, candidate_nodes}
use Rattle.dynamic_honey_badger.proofs.PageEraLaws.{fresh}
use Rattle.decision.specs.Decision.{is_candidate, map_wins, schedule_wins, decide}

-- the counter of a new era, with its map: no votes, an empty board
abbrev pub emptied : ℕ → List Node → StateOf → CounterOf
emptied era ns s = record { our_id = s.counter.our_id; our_key = s.counter.our_key; nodes = ns; era = era; pending = []; committed = []; board = [] }

module _ (z : Sizes) (era : ℕ) (s : StateOf) where
  -- 01, step 6: "If ready, the candidate map takes effect, key generation ends and a new era .. begins; report `Complete`", whatever has won; the recipe stands beside it, of the
  -- key generation that ended
  pub ready_completes : (g : KeyGenStateOf) → s.key_gen ≡ found g → ready g.key_gen ≡ true
      → decide z era s
      ≡ record {
        state = record { counter = emptied era g.key_gen.nodes s; params = s.params; key_gen = nothing; store = from_era era s.store; last = s.last };
        ruling = record { change = complete (node_change g.key_gen.nodes); voters = [] };
        due = [];
        recipe = found (recipe g.key_gen);
      }
  unfolding decide new_era
  ready_completes g e r = rw (e, r)

  -- "Otherwise", where no key generation runs or the one that does is not ready: no recipe
  module _ (unready : (g : KeyGenStateOf) → s.key_gen ≡ found g → ready g.key_gen ≡ false) where
    not_ready : ready_state s.key_gen ≡ false
    not_ready = go s.key_gen unready
      where
        go : (k : Found KeyGenStateOf) → ((g : KeyGenStateOf) → k ≡ found g → ready g.key_gen ≡ false) → ready_state k ≡ false
        go (found g) h = h g refl
        go nothing h = refl

    module _ (ns : List Node) (won : compute_winner s.counter ≡ found (node_change ns)) where
      -- step 7: "equal to the candidate map, report `InProgress` and restart nothing": the votes stay
      pub candidate_wins : (g : KeyGenStateOf) → s.key_gen ≡ found g → g.key_gen.nodes ≡ ns → decide z era s ≡ record { state = s; ruling = record { change = in_progress (node_change ns); voters = supporters_of s.counter.committed (node_change ns) }; due = []; recipe = nothing }
      unfolding decide carried map_wins
      candidate_wins g e q =
          let same : is_candidate (candidate_nodes s.key_gen) ns ≡ true = ap (λ (k : Found KeyGenStateOf). is_candidate (candidate_nodes k) ns) e ∙ ap (λ (ms : List Node). same_nodes ms ns) q ∙ map_refl ns in
          rw (not_ready, won, same)

      -- "another map, new era and fresh key generation, `InProgress`": the current map stays
      module _ (another : (g : KeyGenStateOf) → s.key_gen ≡ found g → g.key_gen.nodes ≡ ns → ⊥) where
        differs : is_candidate (candidate_nodes s.key_gen) ns ≡ false
        differs = go s.key_gen another
          where
            test : (ms : List Node) → (ms ≡ ns → ⊥) → (b : Bool) → same_nodes ms ns ≡ b → same_nodes ms ns ≡ false
            test ms h true e = absurd (h (map_true ms ns e))
            test ms h false e = e

            go : (k : Found KeyGenStateOf) → ((g : KeyGenStateOf) → k ≡ found g → g.key_gen.nodes ≡ ns → ⊥) → is_candidate (candidate_nodes k) ns ≡ false
            go (found g) h = test g.key_gen.nodes (h g refl) (same_nodes g.key_gen.nodes ns) refl
            go nothing h = refl

        abbrev begun : StateOf
        begun = record { counter = emptied era s.counter.nodes s; params = s.params; key_gen = found (fresh z s.counter.our_id ns); store = from_era era s.store; last = s.last }

        -- "a part for each fresh key generation, where the candidate map holds this station", with the new era
        pub map_wins_inside : is_member ns s.counter.our_id ≡ true
            → decide z era s ≡ record { state = begun; ruling = record { change = in_progress (node_change ns); voters = supporters_of s.counter.committed (node_change ns) }; due = record { kind = Part; era = era } ∷ []; recipe = nothing }
        unfolding decide carried map_wins key_gen_for new_era
        map_wins_inside m = rw (not_ready, won, differs, m)

        pub map_wins_outside : is_member ns s.counter.our_id ≡ false → decide z era s ≡ record { state = begun; ruling = record { change = in_progress (node_change ns); voters = supporters_of s.counter.committed (node_change ns) }; due = []; recipe = nothing }
        unfolding decide carried map_wins key_gen_for new_era
        map_wins_outside m = rw (not_ready, won, differs, m)

    -- "a schedule, put into the parameters, new era, `Complete`, key generation kept", with its counts
    pub schedule_kept : (x : EncryptionSchedule) → compute_winner s.counter ≡ found (encryption_schedule x)
        → decide z era s
        ≡ record {
          state = record {
            counter = emptied era s.counter.nodes s;
            params = record {
              max_future_epochs = s.params.max_future_epochs;
              subset_handling_strategy = s.params.subset_handling_strategy;
              encryption_schedule = x;
            };
            key_gen = s.key_gen;
            store = from_era era s.store;
            last = s.last;
          };
          ruling = record { change = complete (encryption_schedule x); voters = supporters_of s.counter.committed (encryption_schedule x) };
          due = [];
          recipe = nothing;
        }
    unfolding decide carried schedule_wins new_era
    schedule_kept x e = rw (not_ready, e)

    -- step 8: "Otherwise report `None`"
    pub nothing_won : compute_winner s.counter ≡ nothing → decide z era s ≡ record { state = s; ruling = record { change = none; voters = [] }; due = []; recipe = nothing }
    unfolding decide carried
    nothing_won e = rw (not_ready, e)
