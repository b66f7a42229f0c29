-- What a committed item does to a node is, in the shared part, what it does to the reference state, whatever the verdicts and the own id are.
-- Assumes nothing.
use Prim.Native.Nat.{ℕ, ◌+◌, ◌≤◌, ◌<◌}
use mathlib.Core.Path.{◌≡◌, refl, sym, ap, ◌∙◌}
use mathlib.Core.List.{List, [], ◌∷◌, ◌++◌, map, append-nil}
use mathlib.Core.Bool.{Bool, true, false, not, cond, ◌&&◌}
use native.Mathlib.Omega.{arith}
use lib.Dec.{eqb}
use lib.ListN.{length, take, length-append, length-take}
use Rattle.lists.specs.Lists.{Found, found, nothing, map_found, lookup, insert, insert_within, filter}
use Rattle.lists.proofs.FilterLaws.{filter_append}
use Rattle.lists.proofs.SortedLaws.{map_insert, map_lookup}
use Rattle.bincode.specs.Sizes.{Sizes}
use Rattle.network_info.specs.NetworkInfo.{node_index, key_of}
use Rattle.fault_log.specs.declared.FaultKind.{FaultKind}
use Rattle.fault_log.specs.declared.FaultKind.TheVariants.{InvalidCommittedVote, InvalidKeyGenMessageSignature, InvalidKeyGenMessageEra, UnexpectedKeyGenPart, UnexpectedKeyGenAck, SyncKeyGenPart, SyncKeyGenAck}
use Rattle.fault_log.specs.declared.PartFault.TheVariants.{RowCount, MultipleParts, DecryptRow, DeserializeRow, RowCommitment}
use Rattle.fault_log.specs.declared.AckFault.TheVariants.{ValueCount, MissingPart, DecryptValue, DeserializeValue, ValueCommitment}
use Rattle.fault_log.specs.declared.Fault.{Fault}
use Rattle.votes.specs.Votes.{SignedVoteOf}
use Rattle.signed_votes.specs.SignedVotes.{voter_of, num_of}
use Rattle.vote_counter.specs.VoteCounter as counter
use Rattle.vote_counter.specs.VoteCounter.{at_or_below, obsolete, is_key, valid_vote, vote_effect, add_committed, after_committed}
use Rattle.sync_key_gen.specs.SyncKeyGen.{PartOf, AckOf}
use Rattle.key_gen.specs.KeyGen as key_gen
use Rattle.key_gen.specs.KeyGen.{ProposalOf, KeyGenOf, Handled, handled, with_parts, observes, by_proposer, row_effect, value_effect, record_part, part_of_index, part_by, handle_part, acked, record_ack, is_here, ack_of_index, ack_by, handle_ack}
use Rattle.key_gen_state.specs.KeyGenState.{KeyGenStateOf}
use Rattle.key_gen_message.specs.KeyGenMessage.{KeyGenMessageOf, part, ack, SignedKeyGenMsgOf}
use Rattle.message_store.specs.MessageStore.{without}
use Rattle.internal_contrib.specs.InternalContrib.{ContribOf}
use Rattle.dynamic_honey_badger.specs.State as state
use Rattle.dynamic_honey_badger.specs.State.{StateOf, era_of, nodes_in, with_key_gen, with_store, candidate_nodes, valid_under}
use Rattle.due.specs.declared.DueKind.TheVariants.{Ack}
use Rattle.steps.specs.Steps.{WorkOf, with_state, blame, voted_as, committed_vote, Told, quiet, owed, blamed_proposer, blamed_signer, MessageDoneOf, told_by, done_as, handled_by, unexpected, by_key_gen, message_done, applied, settled, first_verdict, judged, committed_message, committed_contrib, begun, committed}
use Rattle.steps.proofs.PageLaws.{more}
use Rattle.reference.specs.Step as ref
use Rattle.reference.specs.Step.{RefWork, blamed, is_key_of, is_old, by_voter, votes_now, ref_vote, by_index, candidate_now, ref_part_found, is_in, ref_ack_found, ref_tracked, ref_handled, is_signed, ref_message, ref_contrib, ref_contribs}
use Rattle.agreement.specs.Shared.{part_ref, candidate_ref, ref_of, is_own_kind, is_shared, shared_faults}
use Rattle.bincode.specs.Items.{foldl}
use Rattle.agreement.proofs.FoldLaws.{total, total_one, total_none, fold_grows, fold_seen}

-- a batch in the making, less what is the node's own
abbrev pub ref_work : WorkOf → RefWork
ref_work w = record { state = ref_of w.state; faults = shared_faults w.faults }

-- a fault that has room stands last
module _ (z : Sizes) (xs : List Fault) (room : length xs < z.faults) where
  shared_kept : (f : Fault) → is_shared f ≡ true → shared_faults (take z.faults (xs ++ (f ∷ []))) ≡ shared_faults xs ++ (f ∷ [])
  unfolding filter
  shared_kept f e = ap shared_faults (more z.faults xs f room) ∙ filter_append is_shared xs (f ∷ []) ∙ ap (λ (b : Bool). shared_faults xs ++ cond b (f ∷ []) []) e

  own_kept : (f : Fault) → is_shared f ≡ false → shared_faults (take z.faults (xs ++ (f ∷ []))) ≡ shared_faults xs
  unfolding filter
  own_kept f e =
      ap shared_faults (more z.faults xs f room) ∙ filter_append is_shared xs (f ∷ []) ∙ ap (λ (b : Bool). shared_faults xs ++ cond b (f ∷ []) []) e ∙ append-nil (shared_faults xs)

-- a fault of a shared kind is the reference state's fault; one of the six kinds is none
module _ (z : Sizes) (id : ℕ) (k : FaultKind) (w : WorkOf) (room : length w.faults < z.faults) where
  pub blame_shared : is_own_kind k ≡ false → ref_work (blame z id k w) ≡ blamed id k (ref_work w)
  blame_shared e = λ t. record { state = ref_of w.state; faults = shared_kept z w.faults room (record { node_id = id; kind = k }) (ap not e) t }

  pub blame_own : is_own_kind k ≡ true → ref_work (blame z id k w) ≡ ref_work w
  blame_own e = λ t. record { state = ref_of w.state; faults = own_kept z w.faults room (record { node_id = id; kind = k }) (ap not e) t }

-- the reference state's tests are the node's
pub key_is : (sig : ℕ) (k : Found ℕ) → is_key_of sig k ≡ is_key sig k
key_is sig (found x) = refl
key_is sig nothing = refl

old_is : (v : SignedVoteOf) (f : Found SignedVoteOf) → is_old v f ≡ at_or_below (num_of v) (map_found num_of f)
old_is v (found x) = refl
old_is v nothing = refl

-- a committed vote
pub vote_shared : (z : Sizes) (p : ℕ) (w : WorkOf) (v : SignedVoteOf) → length w.faults < z.faults → ref_work (committed_vote z p w v) ≡ ref_vote z p (ref_work w) v
unfolding committed_vote add_committed vote_effect obsolete valid_vote ref_vote
vote_shared z p w v room =
    rw (old_is v (lookup by_voter w.state.counter.committed v.voter), key_is v.sig (key_of w.state.counter.nodes v.voter))
    (go (eqb v.vote.era w.state.counter.era) (is_key v.sig (key_of w.state.counter.nodes v.voter))
    (at_or_below (num_of v) (map_found num_of (lookup voter_of w.state.counter.committed v.voter))))
  where
    go : (a b c : Bool)
        → ref_work (voted_as z p w (after_committed z w.state.counter v (cond a (cond b (cond c counter.nothing_new counter.stored) (counter.fault InvalidCommittedVote)) (counter.fault InvalidCommittedVote))))
        ≡ cond (a && b)
        (cond c (ref_work w)
        (record { state = votes_now (ref_of w.state) (insert_within by_voter z.nodes v w.state.counter.committed); faults = shared_faults w.faults }))
        (blamed p InvalidCommittedVote (ref_work w))
    go true true true = refl
    go true true false = refl
    go true false c = blame_shared z p InvalidCommittedVote w room refl
    go false b c = blame_shared z p InvalidCommittedVote w room refl

-- the signature of a key message: current key or candidate key
candidate_key_is : (g : Found KeyGenStateOf) (id sig : ℕ) → ref.is_candidate_key (map_found candidate_ref g) id sig ≡ state.is_candidate_key (candidate_nodes g) id sig
candidate_key_is (found g) id sig = key_is sig (key_of g.key_gen.nodes id)
candidate_key_is nothing id sig = refl

signed_is : (s : StateOf) (m : SignedKeyGenMsgOf) → is_signed (ref_of s) m ≡ valid_under (nodes_in s) (candidate_nodes s.key_gen) m.id m.sig
unfolding is_signed valid_under
signed_is s m = rw (key_is m.sig (key_of (nodes_in s) m.id), candidate_key_is s.key_gen m.id m.sig)

-- a new ack counts, whatever its verdict is
ack_counts : (q : ProposalOf) (j : ℕ) (good : Bool) → (part_ref (acked q j good)).acks ≡ insert (λ i. i) j (part_ref q).acks
unfolding acked
ack_counts q j good = refl

here_is : (f : Found ℕ) → is_in f ≡ is_here f
here_is (found x) = refl
here_is nothing = refl

-- the work that a committed key message leaves, by what becomes of key generation
abbrev message_left : WorkOf → SignedKeyGenMsgOf → Found KeyGenStateOf → WorkOf
message_left w m g = with_state (judged w) (with_store (with_key_gen w.state g) (without m w.state.store))

abbrev ref_left : WorkOf → Found KeyGenStateOf → RefWork
ref_left w g = ref_work (with_state w (with_key_gen w.state g))

-- a committed key message
module _ (z : Sizes) (p : ℕ) (w : WorkOf) (m : SignedKeyGenMsgOf) (room : length w.faults < z.faults) where
  module _ (g : KeyGenStateOf) where
    abbrev key_gen_left : KeyGenOf → Found KeyGenStateOf
    key_gen_left k = found (record { key_gen = k; counts = g.counts })

    abbrev seen : Handled → RefWork
    seen h = ref_work (applied z p m.id (told_by h.effect) (message_left w m (key_gen_left h.key_gen)))

    -- what a verdict on the own row does is the node's own
    row_own : (k : KeyGenOf) (i v : ℕ) (observer : Bool) → seen (handled k (cond observer key_gen.quiet (row_effect i v))) ≡ ref_left w (key_gen_left k)
    unfolding row_effect
    row_own k i v true = refl
    row_own k i v false = go (eqb v 0) (eqb v 1) (eqb v 2)
      where
        go : (a b c : Bool)
            → seen (handled k (cond a (key_gen.ack_due i) (cond b (key_gen.fault (SyncKeyGenPart DecryptRow)) (cond c (key_gen.fault (SyncKeyGenPart DeserializeRow)) (key_gen.fault (SyncKeyGenPart RowCommitment))))))
            ≡ ref_left w (key_gen_left k)
        go true b c = refl
        go false true c = blame_own z m.id (SyncKeyGenPart DecryptRow) (message_left w m (key_gen_left k)) room refl
        go false false true = blame_own z m.id (SyncKeyGenPart DeserializeRow) (message_left w m (key_gen_left k)) room refl
        go false false false = blame_own z m.id (SyncKeyGenPart RowCommitment) (message_left w m (key_gen_left k)) room refl

    -- and so is one on the own value
    value_own : (k : KeyGenOf) (v : ℕ) (observer : Bool) → seen (handled k (cond observer key_gen.quiet (value_effect v))) ≡ ref_left w (key_gen_left k)
    unfolding value_effect
    value_own k v true = refl
    value_own k v false = go (eqb v 0) (eqb v 1) (eqb v 2)
      where
        go : (a b c : Bool)
            → seen (handled k (cond a key_gen.quiet (cond b (key_gen.fault (SyncKeyGenAck DecryptValue)) (cond c (key_gen.fault (SyncKeyGenAck DeserializeValue)) (key_gen.fault (SyncKeyGenAck ValueCommitment))))))
            ≡ ref_left w (key_gen_left k)
        go true b c = refl
        go false true c = blame_own z m.id (SyncKeyGenAck DecryptValue) (message_left w m (key_gen_left k)) room refl
        go false false true = blame_own z m.id (SyncKeyGenAck DeserializeValue) (message_left w m (key_gen_left k)) room refl
        go false false false = blame_own z m.id (SyncKeyGenAck ValueCommitment) (message_left w m (key_gen_left k)) room refl

    -- a part, by its signer's index; 02, CR 2: the fault of one that has none is of a shared kind
    part_shared : (q : PartOf) (v : ℕ) (i : Found ℕ) → seen (part_by g.key_gen q v i) ≡ ref_tracked m.id (candidate_ref g) (ref_left w (found g)) (part q) i
    unfolding part_of_index record_part
    part_shared q v nothing = blame_shared z m.id UnexpectedKeyGenPart (message_left w m (found g)) room refl
    part_shared q v (found i) =
        rw (sym (map_lookup part_ref by_index g.key_gen.parts i)) (go (eqb (length q.rows) (length g.key_gen.nodes)) (lookup by_proposer g.key_gen.parts i))
      where
        again : (b : Bool)
            → seen (cond b (handled g.key_gen key_gen.quiet) (handled g.key_gen (key_gen.fault (SyncKeyGenPart MultipleParts))))
            ≡ cond b (ref_left w (found g)) (blamed m.id (SyncKeyGenPart MultipleParts) (ref_left w (found g)))
        again true = refl
        again false = blame_shared z m.id (SyncKeyGenPart MultipleParts) (message_left w m (found g)) room refl

        fresh : ProposalOf
        fresh = record { proposer = i; commit = q.commit; acks = []; good = [] }

        go : (b : Bool) (f : Found ProposalOf)
            → seen (cond b (part_of_index g.key_gen i q v f) (handled g.key_gen (key_gen.fault (SyncKeyGenPart RowCount))))
            ≡ cond b (ref_part_found m.id (candidate_ref g) (ref_left w (found g)) i q (map_found part_ref f)) (blamed m.id (SyncKeyGenPart RowCount) (ref_left w (found g)))
        go false f = blame_shared z m.id (SyncKeyGenPart RowCount) (message_left w m (found g)) room refl
        go true (found x) = again (eqb x.commit q.commit)
        go true nothing =
            row_own (with_parts g.key_gen (insert by_proposer fresh g.key_gen.parts)) i v (observes g.key_gen)
            ∙ ap (candidate_now (ref_left w (found g)) (candidate_ref g)) (map_insert part_ref by_index fresh g.key_gen.parts)

    -- an ack, likewise
    ack_shared : (a : AckOf) (v : ℕ) (j : Found ℕ) → seen (ack_by g.key_gen a v j) ≡ ref_tracked m.id (candidate_ref g) (ref_left w (found g)) (ack a) j
    unfolding ack_of_index record_ack acked
    ack_shared a v nothing = blame_shared z m.id UnexpectedKeyGenAck (message_left w m (found g)) room refl
    ack_shared a v (found j) =
        rw (sym (map_lookup part_ref by_index g.key_gen.parts a.proposer))
        (go (eqb (length a.values) (length g.key_gen.nodes)) (lookup by_proposer g.key_gen.parts a.proposer))
      where
        is_good : Bool
        is_good = not (observes g.key_gen) && eqb v 0

        among : ProposalOf → List ℕ → RefWork
        among x acks = candidate_now (ref_left w (found g)) (candidate_ref g) (insert by_index (record { proposer = x.proposer; commit = x.commit; acks = acks }) (map part_ref g.key_gen.parts))

        counts_once : (x : ProposalOf) (b : Bool)
            → seen (cond b (handled g.key_gen key_gen.quiet) (record_ack g.key_gen x j v)) ≡ cond b (ref_left w (found g)) (among x (insert (λ i. i) j (part_ref x).acks))
        counts_once x true = refl
        counts_once x false =
            value_own (with_parts g.key_gen (insert by_proposer (acked x j is_good) g.key_gen.parts)) v (observes g.key_gen)
            ∙ ap (candidate_now (ref_left w (found g)) (candidate_ref g)) (map_insert part_ref by_index (acked x j is_good) g.key_gen.parts)
            ∙ ap (among x) (ack_counts x j is_good)

        go : (b : Bool) (f : Found ProposalOf)
            → seen (cond b (ack_of_index g.key_gen j v f) (handled g.key_gen (key_gen.fault (SyncKeyGenAck ValueCount))))
            ≡ cond b (ref_ack_found m.id (candidate_ref g) (ref_left w (found g)) j (map_found part_ref f)) (blamed m.id (SyncKeyGenAck ValueCount) (ref_left w (found g)))
        go false f = blame_shared z m.id (SyncKeyGenAck ValueCount) (message_left w m (found g)) room refl
        go true (found x) = rw (here_is (lookup (λ x. x) x.acks j)) (counts_once x (is_here (lookup (λ x. x) x.acks j)))
        go true nothing = blame_shared z m.id (SyncKeyGenAck MissingPart) (message_left w m (found g)) room refl

  -- with key generation running, by the kind of message
  handled_shared : (g : KeyGenStateOf) (v : ℕ) (x : KeyGenMessageOf)
      → seen g (handled_by g.key_gen m.id x v) ≡ ref_tracked m.id (candidate_ref g) (ref_left w (found g)) x (node_index g.key_gen.nodes m.id)
  unfolding handle_part handle_ack
  handled_shared g v (part q) = part_shared g q v (node_index g.key_gen.nodes m.id)
  handled_shared g v (ack a) = ack_shared g a v (node_index g.key_gen.nodes m.id)

  -- without key generation
  unexpected_shared : (x : KeyGenMessageOf) → ref_work (blame z m.id (unexpected x) (message_left w m nothing)) ≡ blamed m.id (ref.unexpected x) (ref_left w nothing)
  unexpected_shared (part q) = blame_shared z m.id UnexpectedKeyGenPart (message_left w m nothing) room refl
  unexpected_shared (ack a) = blame_shared z m.id UnexpectedKeyGenAck (message_left w m nothing) room refl

  by_key_gen_lem : (g : Found KeyGenStateOf) (v : ℕ) → ref_work (settled z p (judged w) m (by_key_gen m v g)) ≡ ref_handled (ref_left w g) m (map_found candidate_ref g)
  by_key_gen_lem (found g) v = handled_shared g v m.message
  by_key_gen_lem nothing v = unexpected_shared m.message

  -- whatever its verdict is
  pub message_shared : ref_work (committed_message z p w m) ≡ ref_message p (ref_work w) m
  unfolding committed_message message_done ref_message
  message_shared =
      rw (signed_is w.state m)
      (go (eqb m.era (era_of w.state)) (valid_under (nodes_in w.state) (candidate_nodes w.state.key_gen) m.id m.sig) w.state.key_gen)
    where
      go : (a b : Bool) (g : Found KeyGenStateOf)
          → ref_work
          (settled z p (judged w) m
          (cond a
          (cond b (by_key_gen m (first_verdict w.verdicts) g) (done_as g (blamed_proposer InvalidKeyGenMessageSignature)))
          (done_as g (blamed_proposer InvalidKeyGenMessageEra))))
          ≡ cond a
          (cond b (ref_handled (ref_left w g) m (map_found candidate_ref g)) (blamed p InvalidKeyGenMessageSignature (ref_left w g)))
          (blamed p InvalidKeyGenMessageEra (ref_left w g))
      go true true g = by_key_gen_lem g (first_verdict w.verdicts)
      go true false g = blame_shared z p InvalidKeyGenMessageSignature (message_left w m g) room refl
      go false b g = blame_shared z p InvalidKeyGenMessageEra (message_left w m g) room refl

-- faults and due items grow by at most one for each item
module _ {A : Type 0} where
  pub one_more : (n : ℕ) (xs : List A) (x : A) → length (take n (xs ++ (x ∷ []))) ≤ length xs + 1
  one_more n xs x = simp (length-take, length-append) (omega arith)

module _ (z : Sizes) (p : ℕ) where
  pub vote_faults : (w : WorkOf) (v : SignedVoteOf) → length (committed_vote z p w v).faults ≤ length w.faults + 1
  unfolding committed_vote
  vote_faults w v = go (add_committed z w.state.counter v)
    where
      by : (c : counter.CounterOf) (e : counter.VoteEffect) → length (voted_as z p w (record { counter = c; effect = e })).faults ≤ length w.faults + 1
      by c counter.stored = omega arith
      by c counter.nothing_new = omega arith
      by c (counter.fault k) = one_more z.faults w.faults (record { node_id = p; kind = k })

      go : (a : counter.Added) → length (voted_as z p w a).faults ≤ length w.faults + 1
      go a = by a.counter a.effect

  pub vote_due : (w : WorkOf) (v : SignedVoteOf) → (committed_vote z p w v).due ≡ w.due
  unfolding committed_vote
  vote_due w v = go (add_committed z w.state.counter v)
    where
      by : (c : counter.CounterOf) (e : counter.VoteEffect) → (voted_as z p w (record { counter = c; effect = e })).due ≡ w.due
      by c counter.stored = refl
      by c counter.nothing_new = refl
      by c (counter.fault k) = refl

      go : (a : counter.Added) → (voted_as z p w a).due ≡ w.due
      go a = by a.counter a.effect

  told_faults : (w : WorkOf) (id : ℕ) (t : Told) → length (applied z p id t w).faults ≤ length w.faults + 1
  told_faults w id quiet = omega arith
  told_faults w id (owed i) = omega arith
  told_faults w id (blamed_proposer k) = one_more z.faults w.faults (record { node_id = p; kind = k })
  told_faults w id (blamed_signer k) = one_more z.faults w.faults (record { node_id = id; kind = k })

  told_due : (w : WorkOf) (id : ℕ) (t : Told) → length (applied z p id t w).due ≤ length w.due + 1
  told_due w id quiet = omega arith
  told_due w id (owed i) = one_more z.due w.due (record { kind = Ack i; era = era_of w.state })
  told_due w id (blamed_proposer k) = omega arith
  told_due w id (blamed_signer k) = omega arith

  module _ (w : WorkOf) (m : SignedKeyGenMsgOf) where
    abbrev done : MessageDoneOf
    done = message_done (era_of w.state) (nodes_in w.state) w.state.key_gen m (first_verdict w.verdicts)

    pub message_faults : length (committed_message z p w m).faults ≤ length w.faults + 1
    unfolding committed_message
    message_faults = told_faults (message_left w m done.key_gen) m.id done.told

    pub message_due : length (committed_message z p w m).due ≤ length w.due + 1
    unfolding committed_message
    message_due = told_due (message_left w m done.key_gen) m.id done.told

-- votes and key messages of a contribution, and of a batch
abbrev pub items_in : ContribOf → ℕ
items_in c = length c.votes + length c.messages

abbrev pub item_count : List ContribOf → ℕ
item_count = total items_in

abbrev fault_count : WorkOf → ℕ
fault_count w = length w.faults

abbrev due_count : WorkOf → ℕ
due_count w = length w.due

module _ (z : Sizes) where
  -- all votes of a contribution
  module _ (p : ℕ) (w : WorkOf) (vs : List SignedVoteOf) where
    pub votes_faults : length (foldl (committed_vote z p) w vs).faults ≤ length w.faults + length vs
    votes_faults = omega (arith, fold_grows (λ v. 1) fault_count (committed_vote z p) (vote_faults z p) w vs, total_one vs)

    pub votes_due : length (foldl (committed_vote z p) w vs).due ≤ length w.due
    votes_due = omega (arith, fold_grows (λ v. 0) due_count (committed_vote z p) (λ w v. rw (vote_due z p w v) (omega arith)) w vs, total_none vs)

    pub votes_shared : length w.faults + length vs ≤ z.faults → ref_work (foldl (committed_vote z p) w vs) ≡ foldl (ref_vote z p) (ref_work w) vs
    votes_shared r =
        fold_seen (λ v. 1) fault_count (committed_vote z p) (vote_faults z p) z.faults ref_work (ref_vote z p) (λ w v h. vote_shared z p w v (omega arith))
        w vs (omega (arith, total_one vs))

  -- all its key messages
  module _ (p : ℕ) (w : WorkOf) (ms : List SignedKeyGenMsgOf) where
    pub messages_faults : length (foldl (committed_message z p) w ms).faults ≤ length w.faults + length ms
    messages_faults = omega (arith, fold_grows (λ m. 1) fault_count (committed_message z p) (message_faults z p) w ms, total_one ms)

    pub messages_due : length (foldl (committed_message z p) w ms).due ≤ length w.due + length ms
    messages_due = omega (arith, fold_grows (λ m. 1) due_count (committed_message z p) (message_due z p) w ms, total_one ms)

    pub messages_shared : length w.faults + length ms ≤ z.faults → ref_work (foldl (committed_message z p) w ms) ≡ foldl (ref_message p) (ref_work w) ms
    messages_shared r =
        fold_seen (λ m. 1) fault_count (committed_message z p) (message_faults z p) z.faults ref_work (ref_message p) (λ w m h. message_shared z p w m (omega arith))
        w ms (omega (arith, total_one ms))

  -- a contribution
  module _ (w : WorkOf) (c : ContribOf) where
    abbrev voted : WorkOf
    voted = foldl (committed_vote z c.id) w c.votes

    pub contrib_faults : length (committed_contrib z w c).faults ≤ length w.faults + items_in c
    unfolding committed_contrib
    contrib_faults = omega (arith, votes_faults c.id w c.votes, messages_faults c.id voted c.messages)

    pub contrib_due : length (committed_contrib z w c).due ≤ length w.due + length c.messages
    unfolding committed_contrib
    contrib_due = omega (arith, votes_due c.id w c.votes, messages_due c.id voted c.messages)

    pub contrib_shared : length w.faults + items_in c ≤ z.faults → ref_work (committed_contrib z w c) ≡ ref_contrib z (ref_work w) c
    unfolding committed_contrib ref_contrib
    contrib_shared r =
        messages_shared c.id voted c.messages (omega (arith, votes_faults c.id w c.votes))
        ∙ ap (λ (x : RefWork). foldl (ref_message c.id) x c.messages) (votes_shared c.id w c.votes (omega arith))

  -- all contributions of a batch
  module _ (s : StateOf) (verdicts : List ℕ) (cs : List ContribOf) where
    pub contribs_faults : length (committed z s verdicts cs).faults ≤ item_count cs
    unfolding committed
    contribs_faults = omega (arith, fold_grows items_in fault_count (committed_contrib z) contrib_faults (begun s verdicts) cs)

    pub contribs_due : length (committed z s verdicts cs).due ≤ item_count cs
    unfolding committed
    contribs_due = omega (arith, fold_grows items_in due_count (committed_contrib z) (λ w c. omega (arith, contrib_due w c)) (begun s verdicts) cs)

    pub contribs_shared : item_count cs ≤ z.faults → ref_work (committed z s verdicts cs) ≡ ref_contribs z (ref_of s) cs
    unfolding committed ref_contribs filter
    contribs_shared r =
        fold_seen items_in fault_count (committed_contrib z) contrib_faults z.faults ref_work (ref_contrib z) (λ w c h. contrib_shared w c h)
        (begun s verdicts) cs (omega arith)
