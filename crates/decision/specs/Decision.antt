-- 01, steps 6 to 8: what a batch decides, once its votes and messages are in.
use Rattle.std.specs.Prelude.{ℕ, List, [], ◌∷◌, Bool, false, cond, None}
use Rattle.std.specs.declared.option.Option.{Option}
use Rattle.lists.specs.Lists.{Found, found, nothing, map_found, option_as_found}
use Rattle.bincode.specs.Sizes.{Sizes}
use Rattle.pub_key_map.specs.declared.Node.{Node}
use Rattle.pub_key_map.specs.PubKeyMap.{same_nodes}
use Rattle.honey_badger.specs.declared.EncryptionSchedule.{EncryptionSchedule}
use Rattle.params.specs.declared.Params.{Params}
use Rattle.change.specs.Change.{ChangeOf, change_of, node_change, encryption_schedule, none, in_progress, complete}
use Rattle.due.specs.declared.DueKind.TheVariants.{Part}
use Rattle.due.specs.declared.DueItem.{DueItem}
use Rattle.vote_counter.specs.declared.VoteCounter.{VoteCounter}
use Rattle.voters.specs.Voters.{ids_of}
use Rattle.batch.specs.declared.Ruling.{Ruling}
use Rattle.batch.specs.Batch.{RulingOf, unvoted, ruling_of}
use Rattle.vote_counter.specs.VoteCounter.{CarriedOf, compute_winner, carried, counter_of}
use Rattle.key_gen_message.specs.KeyGenMessage.{SignedKeyGenMsgOf}
use Rattle.key_gen_state.specs.declared.KeyGenState.{KeyGenState}
use Rattle.key_gen_state.specs.KeyGenState.{KeyGenStateOf, ready_state, state_of}
use Rattle.message_store.specs.MessageStore.{from_era}
use Rattle.recipe.specs.declared.Recipe.{Recipe}
use Rattle.recipe.specs.Recipe.{RecipeOf, recipe, recipe_of}
use Rattle.joining.specs.Starting.{is_empty}
use Rattle.dynamic_honey_badger.specs.State.{StateOf, Stamp, nodes_in, with_key_gen, with_params, new_era, key_gen_for, part_due, candidate_nodes}
use Rattle.decision.specs.declared.Parts.{Parts}
use Rattle.decision.specs.declared.Decision.{Decision}
use Rattle.decision.specs.declared.Carried.{Carried}

-- the state after the batch, what the report tells (the change, and who carried it), the due items that arise here, and the recipe where key generation completed
pub record Decided : Type 0 where
  pub state : StateOf
  pub ruling : RulingOf
  pub due : List DueItem
  pub recipe : Found RecipeOf

abbrev pub decided_as : StateOf → RulingOf → Decided
decided_as s r = record { state = s; ruling = r; due = []; recipe = nothing }

-- step 6: the candidate map takes effect, key generation ends, a new era begins; 02, CR 7: whoever has won, no voter is listed
abbrev pub completed_by : ℕ → StateOf → Found KeyGenStateOf → Decided
completed_by era s (found g) =
    record {
      state = new_era era g.key_gen.nodes (with_key_gen s nothing);
      ruling = unvoted (complete (node_change g.key_gen.nodes));
      due = [];
      recipe = found (recipe g.key_gen);
    }
completed_by era s nothing = decided_as s (unvoted none)

-- step 7, a map wins, carried by some voters: equal to the candidate map, nothing restarts; another one, new era and fresh key generation
abbrev pub is_candidate : Found (List Node) → List Node → Bool
is_candidate (found ms) ns = same_nodes ms ns
is_candidate nothing ns = false

unfoldable pub map_wins : Sizes → ℕ → StateOf → List ℕ → List Node → Decided
map_wins z era s voters ns =
    cond (is_candidate (candidate_nodes s.key_gen) ns)
    (decided_as s (record { change = in_progress (node_change ns); voters = voters }))
    (record {
      state = key_gen_for z ns (new_era era (nodes_in s) s);
      ruling = record { change = in_progress (node_change ns); voters = voters };
      due = part_due ns s.counter.our_id era;
      recipe = nothing;
    })

-- step 7, a schedule wins: put into the parameters, new era, key generation kept
abbrev pub with_schedule : Params → EncryptionSchedule → Params
with_schedule p x = record { max_future_epochs = p.max_future_epochs; subset_handling_strategy = p.subset_handling_strategy; encryption_schedule = x }

unfoldable pub schedule_wins : ℕ → StateOf → List ℕ → EncryptionSchedule → Decided
schedule_wins era s voters x =
    decided_as (new_era era (nodes_in s) (with_params s (with_schedule s.params x))) (record { change = complete (encryption_schedule x); voters = voters })

-- steps 7 and 8
abbrev pub won_by : Sizes → ℕ → StateOf → List ℕ → ChangeOf → Decided
won_by z era s voters (node_change ns) = map_wins z era s voters ns
won_by z era s voters (encryption_schedule x) = schedule_wins era s voters x

abbrev pub elected_by : Sizes → ℕ → StateOf → Found CarriedOf → Decided
elected_by z era s (found w) = won_by z era s w.voters w.change
elected_by z era s nothing = decided_as s (unvoted none)

-- a ready key generation comes before the winner; the era that a change begins is batch epoch + 1
unfoldable pub decide : Sizes → ℕ → StateOf → Decided
decide z era s = cond (ready_state s.key_gen) (completed_by era s s.key_gen) (elected_by z era s (carried s.counter))

-- the same where the winner is given
abbrev pub decide_by : Sizes → ℕ → StateOf → Found CarriedOf → Decided
decide_by z era s w = cond (ready_state s.key_gen) (completed_by era s s.key_gen) (elected_by z era s w)

-- as code holds it: the winner, and the recipe
abbrev pub carried_held : Carried → CarriedOf
carried_held e = record { change = change_of e.change; voters = ids_of e.voters }

abbrev pub elected_of : Option Carried → Found CarriedOf
elected_of e = option_as_found carried_held e

-- the change that has won
abbrev pub change_in : Found CarriedOf → Found ChangeOf
change_in w = map_found (λ (x : CarriedOf). x.change) w

abbrev pub said_recipe : Option Recipe → Found RecipeOf
said_recipe r = option_as_found recipe_of r

-- the state that parts make, whatever the store holds and was reported last
abbrev pub parts_of : Params → VoteCounter → Option KeyGenState → List SignedKeyGenMsgOf → Found Stamp → StateOf
parts_of p c k st l = record { counter = counter_of c; params = p; key_gen = state_of k; store = st; last = l }

abbrev pub of_parts : Parts → List SignedKeyGenMsgOf → Found Stamp → StateOf
of_parts p st l = parts_of p.params p.vote_counter p.key_gen_state st l

-- with the parts as they are left; where an era begins, the store loses what is of lower ones
abbrev pub decided_of : ℕ → List SignedKeyGenMsgOf → Found Stamp → Parts → Decision → Decided
decided_of era st l p d =
    record {
      state = of_parts p (cond d.restarted (from_era era st) st) l;
      ruling = ruling_of d.ruling;
      due = cond d.part_due (record { kind = Part; era = era } ∷ []) [];
      recipe = said_recipe d.recipe;
    }

-- the struct of a decision without a recipe
abbrev pub without_recipe : Bool → Ruling → Bool → Decision
without_recipe restarted r due = record { restarted = restarted; ruling = r; part_due = due; recipe = None }

-- row 7: the winning map is empty
abbrev pub is_empty_map : Found ChangeOf → Bool
is_empty_map (found (node_change ns)) = is_empty ns
is_empty_map (found (encryption_schedule x)) = false
is_empty_map nothing = false

unfoldable pub empty_wins : StateOf → Bool
empty_wins s = cond (ready_state s.key_gen) false (is_empty_map (compute_winner s.counter))
