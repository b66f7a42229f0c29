-- A batch call leaves a formed state formed.
-- Assumes nothing.
use Prim.Native.Nat.{ℕ, ◌+◌, ◌^◌, ◌<◌}
use mathlib.Core.Path.{◌≡◌, refl, sym, ap, ◌∙◌}
use mathlib.Core.List.{List, [], ◌∷◌, map}
use mathlib.Core.Bool.{Bool, true, false, cond}
use native.Mathlib.Omega.{arith}
use lib.Dec.{eqb}
use lib.ListN.{length}
use borrow.Author.Tests.{ltb-false}
use Rattle.lists.specs.Lists.{Found, found, nothing, map_found, takes_place}
use Rattle.lists.proofs.SortedLaws.{within_left}
use Rattle.lists.proofs.ListLaws.{false_true}
use Rattle.bincode.specs.Sizes.{Sizes}
use Rattle.bincode.specs.Items.{foldl}
use Rattle.bincode.specs.Stands.{Bytes, Each, All}
use Rattle.pub_key_map.specs.declared.Node.{Node}
use Rattle.pub_key_map.specs.PubKeyMap.{MapOk}
use Rattle.network_info.specs.NetworkInfo.{key_of}
use Rattle.util.specs.MaxFaulty.{max_faulty}
use Rattle.fault_log.specs.declared.FaultKind.TheVariants.{InvalidCommittedVote, InvalidKeyGenMessageSignature, InvalidKeyGenMessageEra}
use Rattle.honey_badger.specs.declared.EncryptionSchedule.{EncryptionSchedule}
use Rattle.params.specs.Params.{ParamsOk}
use Rattle.change.specs.Change.{ChangeOf, node_change, encryption_schedule, in_progress, same_change, ChangeOk}
use Rattle.votes.specs.Votes.{SignedVoteOf, SignedVoteOk}
use Rattle.board.specs.Board.{cast_of}
use Rattle.vote_counter.specs.VoteCounter as counter
use Rattle.signed_votes.specs.SignedVotes.{voter_of}
use Rattle.vote_counter.proofs.BoardKept.{board_kept}
use Rattle.vote_counter.specs.VoteCounter.{obsolete, is_key, valid_vote, vote_effect, after_committed, add_committed, compute_winner, supporters_of, carried_by, carried}
use Rattle.key_gen_state.specs.KeyGenState.{KeyGenStateOf, ready_state}
use Rattle.key_gen_message.specs.KeyGenMessage.{SignedKeyGenMsgOf, SignedOk}
use Rattle.message_store.specs.MessageStore.{is_other, without}
use Rattle.joining.specs.Starting.{is_empty}
use Rattle.internal_contrib.specs.declared.Budget.{Budget}
use Rattle.internal_contrib.specs.InternalContrib.{ContribOf, spending, opening, ContribOk}
use Rattle.internal_contrib.proofs.ContribCodes.{batch_one_encoding}
use Rattle.dynamic_honey_badger.specs.Asked.{row5}
use Rattle.dynamic_honey_badger.specs.State.{StateOf, era_of, nodes_in, with_key_gen, with_store, with_params, candidate_nodes, valid_under, new_era, fresh_key_gen, key_gen_for, part_due}
use Rattle.steps.specs.Steps as steps
use Rattle.steps.specs.Steps.{WorkOf, with_state, voted_as as countedAs, committed_vote, Told, owed, blamed_proposer, blamed_signer, MessageDoneOf, done_as, by_key_gen, message_done, applied, first_verdict, judged, committed_message, committed_contrib, begun, committed}
use Rattle.decision.specs.Decision.{Decided, decided_as, completed_by, is_candidate, map_wins, with_schedule, schedule_wins, elected_by, decide, is_empty_map, empty_wins}
use Rattle.process_output.specs.Refusals.{batch_row7}
use Rattle.process_output.specs.Process.{BatchCall, finished, processed}
use Rattle.process_output.proofs.CallLaws.{IsTaken, batch_cases}
use Rattle.vote_counter.proofs.MemberLaws.{signer_member}
use Rattle.agreement.specs.Formed.{MapFormed, RunningFormed, Formed}
use Rattle.agreement.proofs.Sound.{FoundOk, winner_ok}
use Rattle.lists.proofs.FilterLaws.{filter_length}
use Rattle.winner.specs.Support.{Cast}
use Rattle.winner.proofs.AmongLaws.{all_filter, all_map}
use Rattle.agreement.proofs.AllLaws.{all_then, fold_keeps}
use Rattle.agreement.proofs.FormedParts.{vote_more}
use Rattle.agreement.proofs.FormedKeyGen.{fresh_formed, handled_formed}
use Rattle.agreement.proofs.FormedChanges.{with_committed_lem, with_key_gen_lem, with_params_lem, with_store_lem, with_last_lem, new_era_formed}

-- votes and key messages of a contribution, of the kind that bytes are read as
abbrev ItemsOk : Sizes → ContribOf → Type 0
ItemsOk z c = All (SignedVoteOk z) c.votes × All (SignedOk z) c.messages

-- steps 2 to 5 of a batch: the state stays formed, and the era is the same
module _ (z : Sizes) (era : ℕ) where
  abbrev Working : WorkOf → Type 0
  Working w = Formed z w.state × (era_of w.state ≡ era)

  -- a committed vote
  vote_works : (p : ℕ) (w : WorkOf) (v : SignedVoteOf) → SignedVoteOk z v → Working w → Working (committed_vote z p w v)
  unfolding committed_vote add_committed vote_effect valid_vote
  vote_works p w v o f =
      go (eqb v.vote.era (era_of w.state)) (is_key v.sig (key_of (nodes_in w.state) v.voter)) (obsolete w.state.counter.committed v) refl
    where
      go : (a b c : Bool) → is_key v.sig (key_of (nodes_in w.state) v.voter) ≡ b
          → Working
          (countedAs z p w (after_committed z w.state.counter v (cond a (cond b (cond c counter.nothing_new counter.stored) (counter.fault InvalidCommittedVote)) (counter.fault InvalidCommittedVote))))
      go true true false e = (
        with_committed_lem z w.state f.0 _ _
            (vote_more z (nodes_in w.state) v w.state.counter.committed (signer_member (nodes_in w.state) v.voter v.sig e) o f.0.committed_formed)
            (board_kept (takes_place voter_of z.nodes v.voter w.state.counter.committed) w.state.counter.committed _ w.state.counter.board
            (within_left voter_of z.nodes v w.state.counter.committed) f.0.board_worked),
        f.1,
      )
      go true true true e = f
      go true false c e = f
      go false b c e = f

  -- what becomes of key generation
  done_formed : (own now : ℕ) (ns : List Node) (g : Found KeyGenStateOf) (m : SignedKeyGenMsgOf) (v : ℕ) → SignedOk z m → RunningFormed z own g
      → RunningFormed z own (message_done now ns g m v).key_gen
  unfolding message_done
  done_formed own now ns g m v o f = go (eqb m.era now) (valid_under ns (candidate_nodes g) m.id m.sig) g f
    where
      go : (a b : Bool) (h : Found KeyGenStateOf) → RunningFormed z own h
          → RunningFormed z own
          (cond {A = MessageDoneOf} a (cond b (by_key_gen m v h) (done_as h (blamed_proposer InvalidKeyGenMessageSignature))) (done_as h (blamed_proposer InvalidKeyGenMessageEra))).key_gen
      go true true (found h) k = handled_formed z own h.key_gen h.counts k m.message o.message_ok v m.id
      go true true nothing k = tt
      go true false h k = k
      go false b h k = k

  -- what is told changes faults and due items only
  told_works : (p id : ℕ) (t : Told) (w : WorkOf) → Working w → Working (applied z p id t w)
  told_works p id steps.quiet w f = f
  told_works p id (owed i) w f = f
  told_works p id (blamed_proposer k) w f = f
  told_works p id (blamed_signer k) w f = f

  -- a committed key message
  message_works : (p : ℕ) (w : WorkOf) (m : SignedKeyGenMsgOf) → SignedOk z m → Working w → Working (committed_message z p w m)
  unfolding committed_message without
  message_works p w m o f =
      let s : StateOf = w.state in
      let d : MessageDoneOf = message_done (era_of s) (nodes_in s) s.key_gen m (first_verdict w.verdicts) in
      let g : StateOf = with_key_gen s d.key_gen in
      let k : Formed z g = with_key_gen_lem z s f.0 d.key_gen (done_formed s.counter.our_id (era_of s) (nodes_in s) s.key_gen m (first_verdict w.verdicts) o f.0.key_gen_formed) in
      let h = f.0.store_within in
      told_works p m.id d.told (with_state (judged w) (with_store g (without m s.store))) (
        with_store_lem z g k (without m s.store) (all_filter (λ (x : SignedKeyGenMsgOf). x.era ≡ era_of s) (is_other m) s.store f.0.store_era)
            (all_filter (SignedOk z) (is_other m) s.store f.0.store_ok)
            (omega (arith, filter_length (is_other m) s.store)),
        f.1,
      )

  -- a contribution
  contrib_works : (w : WorkOf) (c : ContribOf) → ItemsOk z c → Working w → Working (committed_contrib z w c)
  unfolding committed_contrib
  contrib_works w c o f =
      fold_keeps Working (SignedOk z) (committed_message z c.id) (message_works c.id) (foldl (committed_vote z c.id) w c.votes) c.messages o.1
      (fold_keeps Working (SignedVoteOk z) (committed_vote z c.id) (vote_works c.id) w c.votes o.0 f)

-- all contributions of a batch
committed_works : (z : Sizes) (s : StateOf) (verdicts : List ℕ) (cs : List ContribOf) → All (ItemsOk z) cs → Formed z s
    → Working z (era_of s) (committed z s verdicts cs)
unfolding committed
committed_works z s verdicts cs o f =
    fold_keeps (Working z (era_of s)) (ItemsOk z) (committed_contrib z) (contrib_works z (era_of s)) (begun s verdicts) cs o (f, refl)

-- a map that is not empty
pub map_formed : (z : Sizes) (ns : List Node) → MapOk z ns → is_empty ns ≡ false → MapFormed z ns
map_formed z ns o e = record { map_ok = o; some = λ q. false_true (sym e ∙ ap is_empty q) }

-- steps 6 to 8, where row 7 does not refuse
module _ (z : Sizes) (era : ℕ) (fits : era < 256 ^ 8) (s : StateOf) (later : era_of s < era) (f : Formed z s) where
  -- the winner is a change that was voted for
  winner_formed : FoundOk (ChangeOk z) (compute_winner s.counter)
  unfolding compute_winner
  winner_formed =
      winner_ok (ChangeOk z) same_change (max_faulty (length (nodes_in s))) (map cast_of s.counter.committed)
      (all_map (λ (v : Cast ChangeOf). v.choice) (ChangeOk z) (map cast_of s.counter.committed)
      (all_map cast_of (λ (v : Cast ChangeOf). ChangeOk z v.choice) s.counter.committed
      (all_then (SignedVoteOk z) (λ (v : SignedVoteOf). ChangeOk z v.vote.change) (λ v o. o.vote_ok.change_ok) s.counter.committed f.committed_formed.votes_ok)))

  -- another map wins
  map_wins_formed : (voters : List ℕ) (ns : List Node) → MapFormed z ns → Formed z (map_wins z era s voters ns).state
  unfolding map_wins key_gen_for
  map_wins_formed voters ns m = go (is_candidate (candidate_nodes s.key_gen) ns)
    where
      go : (b : Bool)
          → Formed z
          (cond {A = Decided} b (decided_as s (record { change = in_progress (node_change ns); voters = voters }))
          (record {
            state = key_gen_for z ns (new_era era (nodes_in s) s);
            ruling = record { change = in_progress (node_change ns); voters = voters };
            due = part_due ns s.counter.our_id era;
            recipe = nothing;
          })).state
      go true = f
      go false = with_key_gen_lem z (new_era era (nodes_in s) s) (new_era_formed z s f era (nodes_in s) fits later f.nodes_formed) (found (fresh_key_gen z (new_era era (nodes_in s) s).counter.our_id ns)) (fresh_formed z (new_era era (nodes_in s) s).counter.our_id ns m)

  -- a schedule wins
  schedule_wins_formed : (voters : List ℕ) (x : EncryptionSchedule) → ChangeOk z (encryption_schedule x) → Formed z (schedule_wins era s voters x).state
  unfolding schedule_wins
  schedule_wins_formed voters x o =
      let p : ParamsOk (with_schedule s.params x) = record { epochs_fit = f.params_ok.epochs_fit; schedule_ok = o } in
      new_era_formed z (with_params s (with_schedule s.params x)) (with_params_lem z s f (with_schedule s.params x) p) era (nodes_in s) fits later f.nodes_formed

  decided_formed : empty_wins s ≡ false → Formed z (decide z era s).state
  unfolding decide carried empty_wins
  decided_formed = go (ready_state s.key_gen) s.key_gen f.key_gen_formed (compute_winner s.counter) winner_formed
    where
      go : (b : Bool) (g : Found KeyGenStateOf) → RunningFormed z s.counter.our_id g → (x : Found ChangeOf) → FoundOk (ChangeOk z) x → cond b false (is_empty_map x) ≡ false
          → Formed z (cond {A = Decided} b (completed_by era s g) (elected_by z era s (map_found (carried_by s.counter) x))).state
      go true (found g) k x o e = new_era_formed z (with_key_gen s nothing) (with_key_gen_lem z s f nothing tt) era g.key_gen.nodes fits later k.nodes_formed
      go true nothing k x o e = f
      go false g k (found (node_change ns)) o e = map_wins_formed (supporters_of s.counter.committed (node_change ns)) ns (map_formed z ns o e)
      go false g k (found (encryption_schedule x)) o e = schedule_wins_formed (supporters_of s.counter.committed (encryption_schedule x)) x o
      go false g k nothing o e = f

-- a batch call
module _ (z : Sizes) (s : StateOf) (f : Formed z s) (b : BatchCall) where
  -- the votes and key messages of a batch that was read
  items_read : (left : Budget) (cs : List ContribOf) → Each spending (ContribOk z) left cs → All (ItemsOk z) cs
  items_read left [] each = tt
  items_read left (c ∷ cs) each = ((each.0.votes_ok, each.0.messages_ok), items_read (spending left c) cs each.1)

  -- a batch that no row refuses
  taken_formed : (cs : List ContribOf) (c : ℕ) → IsTaken z s b cs c → All (ItemsOk z) cs → Formed z (finished z s (era_of s + b.inner) (committed z s b.verdicts cs)).state
  unfolding batch_row7 row5
  taken_formed cs c t o =
      let epoch = era_of s + b.inner in
      let w : WorkOf = committed z s b.verdicts cs in
      let k : Working z (era_of s) w = committed_works z s b.verdicts cs o f in
      let l = ltb-false 18446744073709551614 epoch t.early in
      let e = k.1 in
      with_last_lem z (decide z (epoch + 1) w.state).state (decided_formed z (epoch + 1) (omega arith) w.state (omega arith) k.0 t.not_empty)
      (found (record { epoch = epoch; era = era_of s })) (omega arith, f.era_fits)

  pub batch_formed : z.nodes < 256 ^ 8 → z.rows < 256 ^ 8 → z.user < 256 ^ 8 → Bytes b.bytes → Formed z (processed z s b).state
  batch_formed nodes-fit rows_fit user-fits are =
      batch_cases z s b (λ p. Formed z p.state) (λ w. f)
      (λ cs c t. taken_formed cs c t (items_read (opening z) cs (batch_one_encoding z nodes-fit rows_fit user-fits b.bytes cs c are t.is_own.is_read.bytes_read).1.each))
