-- Steps 1 and 6 to 8, and the table's rows 5 and 7, sentence by sentence: what a batch that was read leaves of the reference state, and its answer, written out.
-- Row 6 has no condition (02, CR 2).
-- Assumes nothing.
use Prim.Native.Nat.{ℕ, ◌+◌, ◌≤◌, ◌<◌}
use mathlib.Core.Path.{◌≡◌, refl}
use mathlib.Core.List.{List, [], ◌∷◌}
use mathlib.Core.Bool.{Bool, true, false, cond}
use lib.ListN.{length}
use borrow.Author.Tests.{lt-ltb, le-ltb}
use Rattle.lists.specs.Lists.{Found, found, nothing}
use Rattle.bincode.specs.Outcome.{done, refused}
use Rattle.bincode.specs.Sizes.{Sizes}
use Rattle.util.specs.MaxFaulty.{max_faulty}
use Rattle.pub_key_map.specs.declared.Node.{Node}
use Rattle.pub_key_map.specs.PubKeyMap.{same_nodes}
use Rattle.pub_key_map.proofs.MapLaws.{map_true, map_refl}
use Rattle.honey_badger.specs.declared.EncryptionSchedule.{EncryptionSchedule}
use Rattle.change.specs.Change.{ChangeOf, node_change, encryption_schedule, none, in_progress, complete}
use Rattle.internal_contrib.specs.InternalContrib.{ContribOf}
use Rattle.fault_log.specs.declared.Fault.{Fault}
use Rattle.reference.specs.Reference.{PartRef, CandidateRef, RefState}
use Rattle.reference.specs.Winner.{voters_for, Carry, Wins}
use Rattle.reference.specs.Terms.{Ready, Unready}
use Rattle.reference.specs.Step.{ref_contribs, is_candidate_ref, ref_winner, ref_decide, ref_row5, ref_row7, ref_steps, ref_batch}
use Rattle.reference.proofs.VotersLaws.{carry_is}
use Rattle.reference.proofs.WinnerLaws.{wins_first, none_first}
use Rattle.reference.proofs.ReadyLaws.{ready_true, none_ready}

-- the test of row 5
epoch_fits : (epoch : ℕ) → epoch ≤ 18446744073709551614 → ref_row5 epoch ≡ false
epoch_fits epoch h = le-ltb 18446744073709551614 epoch h

epoch_over : (epoch : ℕ) → 18446744073709551614 < epoch → ref_row5 epoch ≡ true
epoch_over epoch h = lt-ltb 18446744073709551614 epoch h

-- row 5: "batch epoch .. over 2^64-2", and "a refusal leaves it as it was"
pub row_5 : (z : Sizes) (s : RefState) (inner : ℕ) (cs : List ContribOf) → 18446744073709551614 < s.era + inner → ref_batch z s inner cs ≡ record { state = s; answer = refused 5 }
unfolding ref_batch
row_5 z s inner cs h = rw (epoch_over (s.era + inner) h)

module _ (z : Sizes) (s : RefState) (inner : ℕ) (cs : List ContribOf) (fits : s.era + inner ≤ 18446744073709551614) where
  -- the votes and key messages leave the state t and the faults fs
  module _ (t : RefState) (fs : List Fault) (committed : ref_contribs z s cs ≡ record { state = t; faults = fs }) where
    -- what is left of the tests, and who has won
    open_to_7 : ref_batch z s inner cs ≡ cond (ref_row7 z s cs) (record { state = s; answer = refused 7 }) (ref_steps z s (s.era + inner) cs)
    unfolding ref_batch
    open_to_7 = rw (epoch_fits (s.era + inner) fits)

    winner_now : (c : ChangeOf) → Wins (max_faulty (length t.nodes)) t.votes c → ref_winner t ≡ found c
    winner_now c h = wins_first (max_faulty (length t.nodes)) t.votes c h

    nobody_now : ((c : ChangeOf) → voters_for c t.votes ≤ max_faulty (length t.nodes)) → ref_winner t ≡ nothing
    nobody_now h = none_first (max_faulty (length t.nodes)) t.votes h

    -- "If ready, the candidate map takes effect, key generation ends and a new era, batch epoch + 1, begins; report `Complete`", whatever has won; 02, CR 7: nobody is listed, even if votes pass f
    pub ready_completes : (g : CandidateRef) → t.candidate ≡ found g → Ready g
        → ref_batch z s inner cs
        ≡ record {
          state = record { era = s.era + inner + 1; nodes = g.nodes; params = t.params; votes = []; candidate = nothing };
          answer =
              done (record {
                batch = record { epoch = s.era + inner; era = s.era; change = complete (node_change g.nodes); keys = g.nodes; params = t.params; voters = [] };
                faults = fs;
              });
        }
    unfolding ref_row7 ref_steps ref_decide
    ready_completes g e r = rw (open_to_7, committed, e, ready_true g r)

    -- "Otherwise": no key generation runs, or it is not ready
    module _ (unready : (g : CandidateRef) → t.candidate ≡ found g → Unready g) where
      -- row 7, behind row 5: "winning map empty"
      pub row_7 : Wins (max_faulty (length t.nodes)) t.votes (node_change []) → ref_batch z s inner cs ≡ record { state = s; answer = refused 7 }
      unfolding ref_row7
      row_7 h = rw (open_to_7, committed, none_ready t.candidate unready, winner_now (node_change []) h)

      -- 02, CR 7: the ids are those of "all voters then supporting" the winner, from the votes behind the batch's own and before a new era, in the order of the votes
      -- "if some change wins: equal to the candidate map, report `InProgress` and restart nothing"
      pub candidate_again : (n : Node) (ns : List Node) (ps : List PartRef) → Wins (max_faulty (length t.nodes)) t.votes (node_change (n ∷ ns)) → t.candidate ≡ found (record { nodes = n ∷ ns; parts = ps })
          → (ids : List ℕ) → Carry (node_change (n ∷ ns)) t.votes ids
          → ref_batch z s inner cs
          ≡ record {
            state = record { era = t.era; nodes = t.nodes; params = t.params; votes = t.votes; candidate = t.candidate };
            answer =
                done (record {
                  batch = record { epoch = s.era + inner; era = s.era; change = in_progress (node_change (n ∷ ns)); keys = t.nodes; params = t.params; voters = ids };
                  faults = fs;
                });
          }
      unfolding ref_row7 ref_steps ref_decide
      candidate_again n ns ps h e ids k = rw (open_to_7, committed, none_ready t.candidate unready, winner_now (node_change (n ∷ ns)) h, e, map_refl (n ∷ ns), ← carry_is (node_change (n ∷ ns)) k)

      -- "another map, new era and fresh key generation, `InProgress`": the current map and the parameters stay
      pub map_begins : (n : Node) (ns : List Node) → Wins (max_faulty (length t.nodes)) t.votes (node_change (n ∷ ns))
          → ((g : CandidateRef) → t.candidate ≡ found g → g.nodes ≡ n ∷ ns → ⊥)
          → (ids : List ℕ) → Carry (node_change (n ∷ ns)) t.votes ids
          → ref_batch z s inner cs
          ≡ record {
            state = record { era = s.era + inner + 1; nodes = t.nodes; params = t.params; votes = []; candidate = found (record { nodes = n ∷ ns; parts = [] }) };
            answer =
                done (record {
                  batch = record { epoch = s.era + inner; era = s.era; change = in_progress (node_change (n ∷ ns)); keys = t.nodes; params = t.params; voters = ids };
                  faults = fs;
                });
          }
      unfolding ref_row7 ref_steps ref_decide
      map_begins n ns h k ids c =
          rw (open_to_7, committed, none_ready t.candidate unready, winner_now (node_change (n ∷ ns)) h, another t.candidate k, ← carry_is (node_change (n ∷ ns)) c)
        where
          differs : (g : CandidateRef) (b : Bool) → same_nodes g.nodes (n ∷ ns) ≡ b → (g.nodes ≡ n ∷ ns → ⊥) → b ≡ false
          differs g true e k = absurd (k (map_true g.nodes (n ∷ ns) e))
          differs g false e k = refl

          another : (f : Found CandidateRef) → ((g : CandidateRef) → f ≡ found g → g.nodes ≡ n ∷ ns → ⊥) → is_candidate_ref f (n ∷ ns) ≡ false
          another (found g) k = differs g (same_nodes g.nodes (n ∷ ns)) refl (k g refl)
          another nothing k = refl

      -- "a schedule, put into the parameters, new era, `Complete`, key generation kept": the other two parameters stay
      pub schedule_completes : (x : EncryptionSchedule) → Wins (max_faulty (length t.nodes)) t.votes (encryption_schedule x)
          → (ids : List ℕ) → Carry (encryption_schedule x) t.votes ids
          → ref_batch z s inner cs
          ≡ record {
            state = record {
              era = s.era + inner + 1;
              nodes = t.nodes;
              params = record { max_future_epochs = t.params.max_future_epochs; subset_handling_strategy = t.params.subset_handling_strategy; encryption_schedule = x };
              votes = [];
              candidate = t.candidate;
            };
            answer =
                done (record {
                  batch = record {
                    epoch = s.era + inner;
                    era = s.era;
                    change = complete (encryption_schedule x);
                    keys = t.nodes;
                    params = record { max_future_epochs = t.params.max_future_epochs; subset_handling_strategy = t.params.subset_handling_strategy; encryption_schedule = x };
                    voters = ids;
                  };
                  faults = fs;
                });
          }
      unfolding ref_row7 ref_steps ref_decide
      schedule_completes x h ids k = rw (open_to_7, committed, none_ready t.candidate unready, winner_now (encryption_schedule x) h, ← carry_is (encryption_schedule x) k)

      -- "Otherwise report `None`", and nobody, even if there are votes: nothing but the votes and key messages has changed the state
      pub nothing_wins : ((c : ChangeOf) → voters_for c t.votes ≤ max_faulty (length t.nodes))
          → ref_batch z s inner cs
          ≡ record {
            state = record { era = t.era; nodes = t.nodes; params = t.params; votes = t.votes; candidate = t.candidate };
            answer =
                done (record {
                  batch = record { epoch = s.era + inner; era = s.era; change = none; keys = t.nodes; params = t.params; voters = [] };
                  faults = fs;
                });
          }
      unfolding ref_row7 ref_steps ref_decide
      nothing_wins h = rw (open_to_7, committed, none_ready t.candidate unready, nobody_now h)
