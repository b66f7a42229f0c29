-- Laws of what a batch decides: one for each way through its tests.
-- Assumes nothing.
use Prim.Native.Nat.{ℕ}
use mathlib.Core.Path.{◌≡◌, refl, ap, ◌∙◌}
use mathlib.Core.List.{List}
use mathlib.Core.Bool.{true, false}
use Rattle.std.specs.Prelude.{Some}
use Rattle.std.specs.declared.option.Option.{Option}
use Rattle.lists.specs.Lists.{Found, found, nothing}
use Rattle.lists.proofs.ListLaws.{cond_yes, cond_no}
use Rattle.bincode.specs.Sizes.{Sizes, base}
use Rattle.pub_key_map.specs.declared.Node.{Node}
use Rattle.pub_key_map.specs.declared.PubKeyMap.{PubKeyMap}
use Rattle.pub_key_map.specs.PubKeyMap.{nodes_of}
use Rattle.honey_badger.specs.declared.EncryptionSchedule.{EncryptionSchedule}
use Rattle.params.specs.declared.Params.{Params}
use Rattle.change.specs.Change.{node_change, encryption_schedule, in_progress, complete}
use Rattle.due.specs.declared.DueItem.{DueItem}
use Rattle.vote_counter.specs.declared.VoteCounter.{VoteCounter}
use Rattle.batch.specs.Batch.{RulingOf}
use Rattle.vote_counter.specs.VoteCounter.{CarriedOf, compute_winner, carried, counter_of, new_held}
use Rattle.key_gen.specs.declared.KeyGen.{KeyGen}
use Rattle.key_gen.specs.KeyGen.{key_gen_of, fresh_held}
use Rattle.key_gen.proofs.KeyGenLaws.{fresh}
use Rattle.key_gen_message.specs.KeyGenMessage.{SignedKeyGenMsgOf}
use Rattle.message_store.specs.MessageStore.{from_era}
use Rattle.key_gen_state.specs.declared.KeyGenState.{KeyGenState}
use Rattle.key_gen_state.specs.KeyGenState as running
use Rattle.recipe.specs.Recipe.{RecipeOf}
use Rattle.dynamic_honey_badger.specs.State.{StateOf, Stamp, nodes_in, with_params, new_era, fresh_key_gen, key_gen_for, part_due, candidate_nodes}
use Rattle.decision.specs.Decision.{Decided, decided_as, completed_by, is_candidate, map_wins, with_schedule, schedule_wins, elected_by, decide, decide_by, parts_of, is_empty_map, empty_wins}

-- decisions are equal where their parts are
pub same_decision : {s t : StateOf} {c d : RulingOf} {xs ys : List DueItem} {p q : Found RecipeOf}
    → s ≡ t → c ≡ d → xs ≡ ys → p ≡ q → ◌≡◌ {A = Decided} (record { state = s; ruling = c; due = xs; recipe = p }) (record { state = t; ruling = d; due = ys; recipe = q })
same_decision a b e f = λ i. record { state = a i; ruling = b i; due = e i; recipe = f i }

-- a new era as code begins it: no votes, and a store without lower eras
pub era_begun : (era : ℕ) (c v : VoteCounter) (m : PubKeyMap) (p : Params) (g : Found running.KeyGenStateOf) (st : List SignedKeyGenMsgOf) (l : Found Stamp)
    → v ≡ new_held c.our_id c.secret_key m era
    → ◌≡◌ {A = StateOf} (record { counter = counter_of v; params = p; key_gen = g; store = from_era era st; last = l })
    (new_era era (nodes_of m) (record { counter = counter_of c; params = p; key_gen = g; store = st; last = l }))
unfolding new_era
era_begun era c v m p g st l e = ap {B = StateOf} (λ (x : VoteCounter). record { counter = counter_of x; params = p; key_gen = g; store = from_era era st; last = l }) e

-- the same with a fresh key generation
pub map_begun : (era : ℕ) (c v : VoteCounter) (m : PubKeyMap) (p : Params) (k : Option KeyGenState) (h : KeyGenState) (x : KeyGen) (st : List SignedKeyGenMsgOf) (l : Found Stamp)
    → v ≡ new_held c.our_id c.secret_key c.pub_keys era → x ≡ fresh_held c.our_id m → running.running_of h ≡ running.fresh_state base (key_gen_of x)
    → parts_of p v (Some h) (from_era era st) l ≡ key_gen_for base (nodes_of m) (new_era era (nodes_of c.pub_keys) (parts_of p c k st l))
unfolding key_gen_for new_era
map_begun era c v m p k h x st l e f g =
    let begun : running.running_of h ≡ fresh_key_gen base c.our_id (nodes_of m) = g ∙ ap (running.fresh_state base) (ap key_gen_of f ∙ fresh c.our_id m) in
    λ i. record { counter = counter_of (e i); params = p; key_gen = found (begun i); store = from_era era st; last = l }

module _ (z : Sizes) (era : ℕ) (s : StateOf) where
  -- a map wins, carried by some voters
  module _ (voters : List ℕ) (ns : List Node) where
    -- the candidate map again: nothing restarts
    pub map_again : is_candidate (candidate_nodes s.key_gen) ns ≡ true → map_wins z era s voters ns ≡ decided_as s (record { change = in_progress (node_change ns); voters = voters })
    unfolding map_wins
    map_again e = cond_yes _ _ e

    -- another one: a new era and a fresh key generation
    pub map_new : is_candidate (candidate_nodes s.key_gen) ns ≡ false
        → map_wins z era s voters ns
        ≡ record {
          state = key_gen_for z ns (new_era era (nodes_in s) s);
          ruling = record { change = in_progress (node_change ns); voters = voters };
          due = part_due ns s.counter.our_id era;
          recipe = nothing;
        }
    unfolding map_wins
    map_new e = cond_no _ _ e

  -- the winner may be found before, by itself
  pub decide_by_lem : decide z era s ≡ decide_by z era s (carried s.counter)
  unfolding decide
  decide_by_lem = refl

  module _ (w : Found CarriedOf) where
    -- a ready key generation completes
    pub by_ready : running.ready_state s.key_gen ≡ true → decide_by z era s w ≡ completed_by era s s.key_gen
    by_ready e = cond_yes _ _ e

    -- otherwise it goes by the winner
    pub by_elects : running.ready_state s.key_gen ≡ false → decide_by z era s w ≡ elected_by z era s w
    by_elects e = cond_no _ _ e

-- a schedule wins
module _ (era : ℕ) (s : StateOf) (voters : List ℕ) (x : EncryptionSchedule) where
  -- the era begins with the parameters changed and all else as before
  pub schedule_won : {t : StateOf} {r : RulingOf} → t ≡ new_era era (nodes_in s) (with_params s (with_schedule s.params x))
      → r ≡ record { change = complete (encryption_schedule x); voters = voters } → decided_as t r ≡ schedule_wins era s voters x
  unfolding schedule_wins
  schedule_won a b = same_decision a b refl refl

  -- so key generation is the one before
  pub schedule_keeps : (schedule_wins era s voters x).state.key_gen ≡ s.key_gen
  unfolding schedule_wins new_era
  schedule_keeps = refl

-- row 7
module _ (s : StateOf) where
  -- not where key generation is ready
  pub empty_ready : running.ready_state s.key_gen ≡ true → empty_wins s ≡ false
  unfolding empty_wins
  empty_ready e = cond_yes _ _ e

  -- otherwise it goes by the winner
  pub empty_elects : running.ready_state s.key_gen ≡ false → empty_wins s ≡ is_empty_map (compute_winner s.counter)
  unfolding empty_wins
  empty_elects e = cond_no _ _ e
