-- 02, CR 7 and CR 8: "In a counter as in CR 3", so in every reachable state: who is listed in a report, and that the change has most support. And two nodes that agree list the same voters.
-- Assumes nothing.
use Prim.Native.Nat.{ℕ}
use mathlib.Core.Path.{◌≡◌, refl, sym, ap, subst, ◌∙◌}
use mathlib.Core.List.{List, [], ◌∷◌}
use mathlib.Core.Bool.{Bool, true, false}
use mathlib.Core.Logic.{⊎_elim}
use Rattle.lists.specs.Lists.{Found, found, nothing, map_found}
use Rattle.lists.proofs.ListLaws.{false_true}
use Rattle.bincode.specs.Read.{value}
use Rattle.bincode.specs.Outcome.{done}
use Rattle.bincode.specs.Sizes.{Sizes}
use Rattle.bincode.specs.Items.{foldl}
use Rattle.change.specs.Change.{ChangeOf, none}
use Rattle.votes.specs.Votes.{SignedVoteOf}
use Rattle.vote_counter.specs.VoteCounter as counter
use Rattle.vote_counter.specs.VoteCounter.{CounterOf, add_committed, compute_winner, carried_by, carried}
use Rattle.vote_counter.specs.Carried.{Carries}
use Rattle.vote_counter.proofs.CarriedLaws.{kept_carries}
use Rattle.vote_counter.proofs.MostLaws.{kept_most}
use Rattle.key_gen_state.specs.KeyGenState.{ready_state}
use Rattle.internal_contrib.specs.InternalContrib.{ContribOf, read_batch}
use Rattle.dynamic_honey_badger.specs.State.{StateOf, nodes_in}
use Rattle.steps.specs.Steps.{WorkOf, begun, voted_as, committed_vote, committed_contrib, committed}
use Rattle.steps.proofs.KeepLaws.{messages_counter}
use Rattle.process_output.specs.Process.{BatchCall, ReportOf, processed}
use Rattle.process_output.proofs.CarriedLaws.{winner_listed, none_listed, ready_listed, empty_listed}
use Rattle.agreement.specs.Shared.{shared_answer}
use Rattle.agreement.specs.Calls.{Call, run, Start, start_state}
use Rattle.agreement.specs.Claim.{told_voters, VotersListed}
use Rattle.agreement.proofs.BoardLaws.{Boarded, contribs_boarded, run_boarded, start_boarded}

module _ (z : Sizes) where
  -- steps 2 to 5 keep the map
  vote_nodes : (p : ℕ) (w : WorkOf) (v : SignedVoteOf) → (committed_vote z p w v).state.counter.nodes ≡ w.state.counter.nodes
  unfolding committed_vote add_committed
  vote_nodes p w v = go (counter.committed_effect w.state.counter v)
    where
      go : (e : counter.VoteEffect) → (voted_as z p w (counter.after_committed z w.state.counter v e)).state.counter.nodes ≡ w.state.counter.nodes
      go counter.stored = refl
      go counter.nothing_new = refl
      go (counter.fault f) = refl

  votes_nodes : (p : ℕ) (vs : List SignedVoteOf) (w : WorkOf) → (foldl (committed_vote z p) w vs).state.counter.nodes ≡ w.state.counter.nodes
  votes_nodes p [] w = refl
  votes_nodes p (v ∷ vs) w = votes_nodes p vs (committed_vote z p w v) ∙ vote_nodes p w v

  contribs_nodes : (cs : List ContribOf) (w : WorkOf) → (foldl (committed_contrib z) w cs).state.counter.nodes ≡ w.state.counter.nodes
  unfolding committed_contrib
  contribs_nodes [] w = refl
  contribs_nodes (c ∷ cs) w =
      contribs_nodes cs (committed_contrib z w c)
      ∙ ap (λ (x : CounterOf). x.nodes) (messages_counter z c.id c.messages (foldl (committed_vote z c.id) w c.votes))
      ∙ votes_nodes c.id c.votes w

  -- a batch of a state whose counter is as in CR 3
  module _ (s : StateOf) (k : Boarded s) (b : BatchCall) (r : ReportOf) (answered : (processed z s b).answer ≡ done r) (cs : List ContribOf) (c : ℕ) (read : read_batch z b.bytes ≡ value cs c) where
    abbrev counted : StateOf
    counted = (committed z s b.verdicts cs).state

    counted_kept : Boarded counted
    unfolding committed
    counted_kept = contribs_boarded z cs (begun s b.verdicts) k

    counted_map : counted.counter.nodes ≡ nodes_in s
    unfolding committed
    counted_map = contribs_nodes cs (begun s b.verdicts)

    -- where the list is not empty
    pub listed_carried : (r.batch.voters ≡ [] → ⊥) → VotersListed s counted r.batch
    unfolding carried
    listed_carried some = go (ready_state counted.key_gen) refl (compute_winner counted.counter) refl
      where
        won : (x : ChangeOf) → compute_winner counted.counter ≡ found x → carried counted.counter ≡ found (carried_by counted.counter x)
        won x e = ap (map_found (carried_by counted.counter)) e

        go : (q : Bool) → ready_state counted.key_gen ≡ q → (w : Found ChangeOf) → compute_winner counted.counter ≡ w → VotersListed s counted r.batch
        go true q w e = absurd (some (ready_listed z s b r answered cs c read q))
        go false q nothing e = absurd (some (none_listed z s b r answered cs c read q e).0)
        go false q (found x) e =
            let l = winner_listed z s b r answered cs c read q x e in
            record {
              same_map = counted_map;
              won = x;
              told = l.1;
              carries =
                  subst (λ (ids : List ℕ). Carries counted.counter (record { change = x; voters = ids })) (sym l.0)
                  (kept_carries counted.counter (carried_by counted.counter x) (won x e) counted_kept);
              by_most = ((kept_most counted.counter counted_kept).by_most x).0 e;
            }

    -- where a winner was taken: no key generation was ready, and the report is not `None`
    pub winner_carried : ready_state counted.key_gen ≡ false → (r.batch.change ≡ none → ⊥) → VotersListed s counted r.batch
    winner_carried unready some =
        listed_carried
        (λ e. ⊎_elim (λ (q : ready_state counted.key_gen ≡ true). false_true (sym unready ∙ q)) some ((empty_listed z s b r answered cs c read).0 e))

  -- from an accepted start on, after every list of calls
  pub reports_carried : (start : Start) (s : StateOf) → start_state z start ≡ done s → (calls : List Call) (b : BatchCall) (r : ReportOf) → (processed z (run z s calls) b).answer ≡ done r
      → (cs : List ContribOf) (c : ℕ) → read_batch z b.bytes ≡ value cs c → (r.batch.voters ≡ [] → ⊥) → VotersListed (run z s calls) (committed z (run z s calls) b.verdicts cs).state r.batch
  reports_carried start s e calls b r = listed_carried (run z s calls) (run_boarded z calls s (start_boarded z start s e)) b r

  pub winners_carried : (start : Start) (s : StateOf) → start_state z start ≡ done s → (calls : List Call) (b : BatchCall) (r : ReportOf) → (processed z (run z s calls) b).answer ≡ done r
      → (cs : List ContribOf) (c : ℕ) → read_batch z b.bytes ≡ value cs c → ready_state (committed z (run z s calls) b.verdicts cs).state.key_gen ≡ false → (r.batch.change ≡ none → ⊥)
      → VotersListed (run z s calls) (committed z (run z s calls) b.verdicts cs).state r.batch
  winners_carried start s e calls b r = winner_carried (run z s calls) (run_boarded z calls s (start_boarded z start s e)) b r

-- "The list is part of what two boxes hold in common": what is shared of an answer has the list of the report
pub shared_voters : (r : ReportOf) → told_voters (shared_answer (done r)) ≡ r.batch.voters
shared_voters r = refl

-- so reports with which two nodes answered alike list the same voters
pub alike_voters : (r q : ReportOf) → shared_answer (done r) ≡ shared_answer (done q) → r.batch.voters ≡ q.batch.voters
alike_voters r q e = ap told_voters e
