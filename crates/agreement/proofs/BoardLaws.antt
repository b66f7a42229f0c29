-- 02, CR 3: from an accepted start on, by any list of calls, the board is in step with the committed votes; so replicas that agree have one board.
-- Assumes nothing.
use Prim.Native.Nat.{ℕ, ◌+◌}
use mathlib.Core.Path.{◌≡◌, sym, ap, ◌∙◌, subst}
use mathlib.Core.List.{List, [], ◌∷◌}
use mathlib.Core.Bool.{Bool, true, false, cond}
use Rattle.lists.specs.Lists.{Found, found, nothing, map_found}
use Rattle.bincode.specs.Outcome.{Outcome, done, refused}
use Rattle.bincode.specs.Stands.{All}
use Rattle.bincode.specs.Sizes.{Sizes}
use Rattle.bincode.specs.Items.{foldl}
use Rattle.bincode.proofs.ReadLaws.{done_refused}
use Rattle.pub_key_map.specs.declared.Node.{Node}
use Rattle.network_info.specs.NetworkInfo.{is_member}
use Rattle.change.specs.Change.{ChangeOf, node_change, encryption_schedule, ChangeStateOf, none, in_progress, complete}
use Rattle.votes.specs.Votes.{SignedVoteOf}
use Rattle.signed_votes.specs.SignedVotes.{voter_of}
use Rattle.signed_votes.proofs.VotesLaws.{AscendsFrom}
use Rattle.board.specs.Board.{worked_out, standing_at}
use Rattle.vote_counter.specs.VoteCounter as counter
use Rattle.vote_counter.specs.VoteCounter.{add_committed, compute_winner, supporters_of, carried_by, carried, board_row}
use Rattle.vote_counter.specs.Calls.{InStep}
use Rattle.vote_counter.proofs.BoardKept.{Kept, new_kept, committed_kept, kept_in_step}
use Rattle.key_gen_state.specs.KeyGenState.{KeyGenStateOf, ready_state}
use Rattle.join_plan.specs.JoinPlan.{PlanOf}
use Rattle.joining.specs.Starting.{StartOf, start_checked, join_checked}
use Rattle.internal_contrib.specs.InternalContrib.{ContribOf}
use Rattle.dynamic_honey_badger.specs.State.{StateOf, nodes_in, candidate_nodes, key_gen_for, new_era, part_due, opened, started_from, started, joined_by, joined_with, joined_from, joined}
use Rattle.steps.specs.Steps.{WorkOf, begun, voted_as, committed_vote, committed_contrib, committed}
use Rattle.steps.proofs.KeepLaws.{messages_counter}
use Rattle.decision.specs.Decision.{Decided, decided_as, is_candidate, map_wins, schedule_wins, completed_by, elected_by, decide}
use Rattle.process_output.specs.Process.{BatchCall, processed}
use Rattle.process_output.proofs.CallLaws.{batch_cases}
use Rattle.reference.specs.Reference.{RefState}
use Rattle.agreement.specs.Shared.{ref_of}
use Rattle.agreement.specs.Claim.{OneBoard}
use Rattle.agreement.specs.Calls.{Call, batch_call, vote_call, add_call, remove_call, message_call, due_call, after, run, Start, new_start, join_start, start_state, joined_state}
use Rattle.agreement.proofs.OwnCalls.{Keeps, vote_for_kept, vote_to_add_kept, vote_to_remove_kept, message_kept, due_kept}

-- the board of a state's counter is the one worked out, and voters ascend
abbrev pub Boarded : StateOf → Type 0
Boarded s = Kept s.counter

-- a call that keeps shared part and board keeps that
keeps_boarded : (s t : StateOf) → Keeps s t → Boarded s → Boarded t
keeps_boarded s t k b =
    let votes : t.counter.committed ≡ s.counter.committed = ap (λ (r : RefState). r.votes) k.0 in
    record {
      by_board = k.2 ∙ b.by_board ∙ ap worked_out (sym votes);
      ascend = subst (AscendsFrom voter_of 0) (sym votes) b.ascend;
      members =
          subst (λ (r : RefState). All (λ (v : SignedVoteOf). is_member r.nodes (voter_of v) ≡ true) r.votes) (sym k.0) b.members;
    }

module _ (z : Sizes) where
  -- steps 2 to 5: votes by the counter's own call, messages leave the counter
  vote_boarded : (p : ℕ) (w : WorkOf) (v : SignedVoteOf) → Boarded w.state → Boarded (committed_vote z p w v).state
  unfolding committed_vote
  vote_boarded p w v b = go (add_committed z w.state.counter v).effect (committed_kept z w.state.counter b v)
    where
      go : (e : counter.VoteEffect) → Kept (add_committed z w.state.counter v).counter
          → Boarded (voted_as z p w (record { counter = (add_committed z w.state.counter v).counter; effect = e })).state
      go counter.stored k = k
      go counter.nothing_new k = k
      go (counter.fault f) k = k

  votes_boarded : (p : ℕ) (vs : List SignedVoteOf) (w : WorkOf) → Boarded w.state → Boarded (foldl (committed_vote z p) w vs).state
  votes_boarded p [] w b = b
  votes_boarded p (v ∷ vs) w b = votes_boarded p vs (committed_vote z p w v) (vote_boarded p w v b)

  pub contribs_boarded : (cs : List ContribOf) (w : WorkOf) → Boarded w.state → Boarded (foldl (committed_contrib z) w cs).state
  unfolding committed_contrib
  contribs_boarded [] w b = b
  contribs_boarded (c ∷ cs) w b =
      contribs_boarded cs (committed_contrib z w c)
      (subst Kept (sym (messages_counter z c.id c.messages (foldl (committed_vote z c.id) w c.votes))) (votes_boarded c.id c.votes w b))

  -- steps 6 to 8: the same counter, or a new one
  map_wins_boarded : (era : ℕ) (s : StateOf) (voters : List ℕ) (ns : List Node) → Boarded s → Boarded (map_wins z era s voters ns).state
  unfolding map_wins key_gen_for new_era
  map_wins_boarded era s voters ns b = go (is_candidate (candidate_nodes s.key_gen) ns)
    where
      go : (q : Bool)
          → Boarded
          (cond {A = Decided} q (decided_as s (record { change = in_progress (node_change ns); voters = voters }))
          (record {
            state = key_gen_for z ns (new_era era (nodes_in s) s);
            ruling = record { change = in_progress (node_change ns); voters = voters };
            due = part_due ns s.counter.our_id era;
            recipe = nothing;
          })).state
      go true = b
      go false = new_kept s.counter.our_id s.counter.our_key (nodes_in s) era

  decided_boarded : (era : ℕ) (s : StateOf) → Boarded s → Boarded (decide z era s).state
  unfolding decide carried schedule_wins new_era
  decided_boarded era s b = go (ready_state s.key_gen) s.key_gen (compute_winner s.counter)
    where
      go : (q : Bool) (g : Found KeyGenStateOf) (x : Found ChangeOf) → Boarded (cond {A = Decided} q (completed_by era s g) (elected_by z era s (map_found (carried_by s.counter) x))).state
      go true (found g) x = new_kept s.counter.our_id s.counter.our_key g.key_gen.nodes era
      go true nothing x = b
      go false g (found (node_change ns)) = map_wins_boarded era s (supporters_of s.counter.committed (node_change ns)) ns b
      go false g (found (encryption_schedule x)) = new_kept s.counter.our_id s.counter.our_key (nodes_in s) era
      go false g nothing = b

  pub batch_boarded : (s : StateOf) (b : BatchCall) → Boarded s → Boarded (processed z s b).state
  unfolding committed
  batch_boarded s b k =
      batch_cases z s b (λ p. Boarded p.state) (λ w. k)
      (λ cs c t. decided_boarded (s.counter.era + b.inner + 1) (committed z s b.verdicts cs).state (contribs_boarded cs (begun s b.verdicts) k))

  call_boarded : (s : StateOf) (c : Call) → Boarded s → Boarded (after z s c)
  call_boarded s (batch_call b) k = batch_boarded s b k
  call_boarded s (vote_call bytes) k = keeps_boarded s (after z s (vote_call bytes)) (vote_for_kept z s bytes) k
  call_boarded s (add_call id key) k = keeps_boarded s (after z s (add_call id key)) (vote_to_add_kept z s id key) k
  call_boarded s (remove_call id) k = keeps_boarded s (after z s (remove_call id)) (vote_to_remove_kept z s id) k
  call_boarded s (message_call sender bytes) k = keeps_boarded s (after z s (message_call sender bytes)) (message_kept z s sender bytes) k
  call_boarded s (due_call bytes) k = keeps_boarded s (after z s (due_call bytes)) (due_kept z s bytes) k

  pub run_boarded : (cs : List Call) (s : StateOf) → Boarded s → Boarded (run z s cs)
  unfolding run
  run_boarded [] s k = k
  run_boarded (c ∷ cs) s k = run_boarded cs (after z s c) (call_boarded s c k)

  -- an accepted start has an empty board: `new`, and joining
  new_boarded : (id key era : ℕ) (map params : List ℕ) (s : StateOf) → started z id key era map params ≡ done s → Boarded s
  unfolding started
  new_boarded id key era map params s = go (start_checked z key map params)
    where
      go : (x : Outcome StartOf) → started_from id key era x ≡ done s → Boarded s
      go (refused n) e = absurd (done_refused e)
      go (done x) e = let q : opened id key era x.keys x.params ≡ s = cc in subst Boarded q (new_kept id key x.keys era)

  joined_boarded : (id key : ℕ) (p : PlanOf) → Boarded (joined_with z id key p).state
  unfolding joined_with key_gen_for
  joined_boarded id key p = go p.change
    where
      go : (c : ChangeStateOf) → Boarded (joined_by z id p.era c (opened id key p.era p.keys p.params)).state
      go (in_progress (node_change ns)) = new_kept id key p.keys p.era
      go (in_progress (encryption_schedule x)) = new_kept id key p.keys p.era
      go (complete c) = new_kept id key p.keys p.era
      go none = new_kept id key p.keys p.era

  pub start_boarded : (start : Start) (s : StateOf) → start_state z start ≡ done s → Boarded s
  unfolding joined
  start_boarded (new_start id key era map params) s e = new_boarded id key era map params s e
  start_boarded (join_start places id key plan) s e = go (join_checked z places id key plan) e
    where
      go : (x : Outcome PlanOf) → joined_state (joined_from z id key x) ≡ done s → Boarded s
      go (refused n) g = absurd (done_refused g)
      go (done p) g = let q : (joined_with z id key p).state ≡ s = cc in subst Boarded q (joined_boarded id key p)

  -- from an accepted start on, after every list of calls
  pub start_in_step : (start : Start) (s : StateOf) → start_state z start ≡ done s → (cs : List Call) → InStep (run z s cs).counter
  start_in_step start s e cs = kept_in_step (run z s cs).counter (run_boarded cs s (start_boarded start s e))

-- states with one shared part have one board, kept and handed out
pub one_board : (s t : StateOf) → Boarded s → Boarded t → ref_of s ≡ ref_of t → OneBoard s t
unfolding board_row
one_board s t b d e =
    let votes : s.counter.committed ≡ t.counter.committed = ap (λ (r : RefState). r.votes) e in
    let rows : s.counter.board ≡ t.counter.board = b.by_board ∙ ap worked_out votes ∙ sym d.by_board in
    (rows, λ n i. standing_at n (rows i) (votes i))
