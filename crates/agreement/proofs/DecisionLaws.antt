-- Steps 6 to 8 and rows 5 and 7 are the same tests on a node's state and on the reference state.
-- Assumes nothing.
use Prim.Native.Nat.{ℕ, ◌≤◌}
use mathlib.Core.Path.{◌≡◌, refl, ap, ◌∙◌}
use mathlib.Core.List.{List, [], ◌∷◌, map}
use mathlib.Core.Bool.{Bool, true, false, cond}
use lib.ListN.{length, length-map}
use Rattle.lists.specs.Lists.{Found, found, nothing, map_found, filter}
use Rattle.lists.proofs.FilterLaws.{filter_map}
use Rattle.bincode.specs.Sizes.{Sizes}
use Rattle.util.specs.MaxFaulty.{max_faulty}
use Rattle.pub_key_map.specs.declared.Node.{Node}
use Rattle.change.specs.Change.{ChangeOf, node_change, encryption_schedule, in_progress}
use Rattle.votes.specs.Votes.{SignedVoteOf}
use Rattle.vote_counter.specs.VoteCounter.{compute_winner, supporters_of, carried_by, carried}
use Rattle.key_gen.specs.KeyGen.{KeyGenOf, threshold, complete, count_complete, enough, ready}
use Rattle.key_gen_state.specs.KeyGenState.{KeyGenStateOf, ready_state}
use Rattle.internal_contrib.specs.InternalContrib.{ContribOf}
use Rattle.dynamic_honey_badger.specs.Asked.{row5}
use Rattle.dynamic_honey_badger.specs.State.{StateOf, nodes_in, new_era, key_gen_for, part_due, candidate_nodes}
use Rattle.steps.specs.Steps.{committed}
use Rattle.decision.specs.Decision.{Decided, decided_as, completed_by, is_candidate, map_wins, schedule_wins, elected_by, decide, is_empty_map, empty_wins}
use Rattle.process_output.specs.Refusals.{batch_row7}
use Rattle.reference.specs.Reference.{RefState}
use Rattle.reference.specs.Step.{RefWork, ref_complete, is_ready, ref_ready, RefDecided, decided_ref, new_era_ref, ref_completed, is_candidate_ref, ref_elected, ref_winner, ref_decide, ref_row5, wins_empty, ref_row7}
use Rattle.reference.specs.Winner.{ids_for}
use Rattle.reference.proofs.VotersLaws.{ids_are}
use Rattle.reference.proofs.EngineLaws.{winner_is}
use Rattle.agreement.specs.Shared.{part_ref, candidate_ref, ref_of}
use Rattle.agreement.proofs.StepLaws.{item_count, contribs_shared}

-- as many complete parts
count_is : (g : KeyGenOf) → length (filter (ref_complete (threshold g)) (map part_ref g.parts)) ≡ count_complete g
unfolding complete count_complete
count_is g = ap length (filter_map part_ref (ref_complete (threshold g)) g.parts) ∙ length-map (filter (complete (threshold g)) g.parts) part_ref

-- key generation is ready for both, or for neither
pub ready_is : (g : Found KeyGenStateOf) → ref_ready (map_found candidate_ref g) ≡ ready_state g
unfolding is_ready ready enough
ready_is (found g) = rw (count_is g.key_gen)
ready_is nothing = refl

-- the change with most support is the engine's winner
winner_shared : (s : StateOf) → ref_winner (ref_of s) ≡ compute_winner s.counter
unfolding compute_winner
winner_shared s = winner_is (max_faulty (length (nodes_in s))) s.counter.committed

-- a map is the candidate map for both, or for neither
candidate_is : (g : Found KeyGenStateOf) (ns : List Node) → is_candidate_ref (map_found candidate_ref g) ns ≡ is_candidate (candidate_nodes g) ns
candidate_is (found g) ns = refl
candidate_is nothing ns = refl

-- both list the same voters of a change
voters_shared : (vs : List SignedVoteOf) (x : ChangeOf) → ids_for x vs ≡ supporters_of vs x
unfolding supporters_of
voters_shared vs x = ids_are x vs

-- a decision, less what is the node's own: what the report tells of it is shared
abbrev pub ref_decided : Decided → RefDecided
ref_decided d = record { state = ref_of d.state; ruling = d.ruling }

-- steps 6 to 8
pub decide_shared : (z : Sizes) (era : ℕ) (s : StateOf) → ref_decided (decide z era s) ≡ ref_decide era (ref_of s)
unfolding decide carried ref_decide map_wins schedule_wins new_era key_gen_for
decide_shared z era s = rw (ready_is s.key_gen, winner_shared s) (go (ready_state s.key_gen) s.key_gen (compute_winner s.counter))
  where
    vs : List SignedVoteOf
    vs = s.counter.committed

    wins : (ns : List Node) (ids : List ℕ) (b : Bool)
        → ref_decided
        (cond b (decided_as s (record { change = in_progress (node_change ns); voters = ids }))
        (record {
          state = key_gen_for z ns (new_era era (nodes_in s) s);
          ruling = record { change = in_progress (node_change ns); voters = ids };
          due = part_due ns s.counter.our_id era;
          recipe = nothing;
        }))
        ≡ cond b (decided_ref (ref_of s) (in_progress (node_change ns)) ids)
        (decided_ref (new_era_ref era (nodes_in s) s.params (found (record { nodes = ns; parts = [] }))) (in_progress (node_change ns)) ids)
    wins ns ids true = refl
    wins ns ids false = refl

    go : (b : Bool) (g : Found KeyGenStateOf) (x : Found ChangeOf)
        → ref_decided (cond b (completed_by era s g) (elected_by z era s (map_found (carried_by s.counter) x))) ≡ cond b (ref_completed era (ref_of s) (map_found candidate_ref g)) (ref_elected era (ref_of s) x)
    go true (found g) x = refl
    go true nothing x = refl
    go false g (found (node_change ns)) = rw (candidate_is s.key_gen ns, voters_shared vs (node_change ns)) (wins ns (supporters_of vs (node_change ns)) (is_candidate (candidate_nodes s.key_gen) ns))
    go false g (found (encryption_schedule x)) = rw (voters_shared vs (encryption_schedule x))
    go false g nothing = refl

-- row 5
pub row5_shared : (epoch : ℕ) → row5 epoch ≡ ref_row5 epoch
unfolding row5
row5_shared epoch = refl

-- row 7
empty_is : (x : Found ChangeOf) → is_empty_map x ≡ wins_empty x
empty_is (found (node_change [])) = refl
empty_is (found (node_change (n ∷ ns))) = refl
empty_is (found (encryption_schedule x)) = refl
empty_is nothing = refl

abbrev ref_empty_wins : RefState → Bool
ref_empty_wins s = cond (ref_ready s.candidate) false (wins_empty (ref_winner s))

empty_wins_lem : (s : StateOf) → empty_wins s ≡ ref_empty_wins (ref_of s)
unfolding empty_wins
empty_wins_lem s = rw (ready_is s.key_gen, winner_shared s, empty_is (compute_winner s.counter))

pub row7_shared : (z : Sizes) (s : StateOf) (verdicts : List ℕ) (cs : List ContribOf) → item_count cs ≤ z.faults → batch_row7 z s verdicts cs ≡ ref_row7 z (ref_of s) cs
unfolding batch_row7 ref_row7
row7_shared z s verdicts cs r = empty_wins_lem (committed z s verdicts cs).state ∙ ap (λ (w : RefWork). ref_empty_wins w.state) (contribs_shared z s verdicts cs r)
