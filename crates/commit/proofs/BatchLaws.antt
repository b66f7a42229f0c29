-- One contribution after the other: what is held of the work carries over its votes, then its key messages.
-- Assumes nothing.
use Prim.Native.Nat.{ℕ, ◌+◌, ◌≤◌, ◌<◌}
use mathlib.Core.Path.{◌≡◌, refl, sym, ap, ◌∙◌, subst}
use mathlib.Core.List.{List, [], ◌∷◌, map}
use native.Mathlib.Omega.{arith}
use native.Mathlib.Numerals.{add-one}
use lib.Dec.{lit<}
use lib.Seq.{drop-cons}
use lib.ListN.{length, drop, get_or}
use Rattle.std.specs.declared.option.Option.{Option}
use Rattle.bincode.specs.Items.{foldl}
use Rattle.bincode.specs.Sizes.{base}
use Rattle.bincode.specs.Stands.{Bytes}
use Rattle.due.specs.Due.{ack_item}
use Rattle.fault_log.specs.declared.FaultLog.{FaultLog}
use Rattle.fault_log.specs.FaultLog.{faults_of}
use Rattle.votes.specs.Votes.{SignedVoteOf}
use Rattle.key_gen_state.specs.declared.KeyGenState.{KeyGenState}
use Rattle.key_gen_state.specs.KeyGenState as running
use Rattle.internal_contrib.specs.declared.Contrib.{Contrib}
use Rattle.internal_contrib.specs.declared.BatchIndex.{BatchIndex}
use Rattle.internal_contrib.specs.InternalContrib.{ContribOf}
use Rattle.internal_contrib.specs.Index.{no_contrib, contribs_in, Kept, EachKept}
use Rattle.internal_contrib.proofs.KeptLaws.{kept_more, kept_length}
use Rattle.internal_contrib.proofs.PartLaws.{messages_again, votes_again, messages_within, votes_within}
use Rattle.dynamic_honey_badger.specs.State.{StateOf, era_of, nodes_in}
use Rattle.steps.specs.Steps.{WorkOf, begun, committed_vote, committed_message, committed_contrib, committed}
use Rattle.steps.proofs.BatchLaws.{contrib_in_order}
use Rattle.steps.proofs.KeepLaws.{messages_counter, votes_kept}
use Rattle.commit.specs.declared.Arisen.{Arisen}
use Rattle.commit.specs.declared.Terms.{Terms}
use Rattle.commit.specs.declared.tally.Tally.{Tally}
use Rattle.commit.specs.declared.Committed.{Committed}
use Rattle.commit.specs.Arisen.{acks_of}
use Rattle.commit.specs.Handled.{MessagesHeld, MessagesCommitted}
use Rattle.commit.specs.Terms.{nodes_by}
use Rattle.commit.specs.Votes.{VotesCommitted}
use Rattle.commit.specs.Tally.{Begun, begun_with, VotesHeld, entries_of, kept_entry}
use Rattle.commit.specs.Batch.{Holds, BatchCommitted}
use Rattle.commit.proofs.HeldLaws.{votes_start, same_counter}
use Rattle.commit.proofs.TurnLaws.{fold_more, fold_end}

-- votes leave what key messages need
votes_leave : (t : Terms) (proposer : ℕ) (w : WorkOf) (vs : List SignedVoteOf) (start : Begun) (tally : Tally) (state : Option KeyGenState) (judged : ℕ)
    → VotesHeld t.bytes.now start (foldl (committed_vote base proposer) w vs) t.era (nodes_by t) tally
    → MessagesHeld w t.era (nodes_by t) (running.state_of state) (drop judged t.verdicts.now)
    → MessagesHeld (foldl (committed_vote base proposer) w vs) t.era (nodes_by t) (running.state_of state) (drop judged t.verdicts.now)
votes_leave t proposer w vs start tally state judged v h =
    let k = votes_kept base proposer vs w in
    record { by_era = v.by_era; by_map = v.by_map; by_key_gen = ap (λ (x : StateOf). x.key_gen) k.by_state ∙ h.by_key_gen; by_verdicts = k.by_verdicts ∙ h.by_verdicts }

-- what is held of a batch, by its terms
abbrev pub HoldsBy : Terms → Begun → WorkOf → Committed → Arisen → Type 0
HoldsBy t start w d r = Holds t.bytes.now t.era (nodes_by t) t.verdicts.now start w d r

-- a contribution: its votes, then its messages, the faults of its votes put into the same log
abbrev pub Voted : Arisen → FaultLog → Arisen
Voted r log = record { faults = log; acks = r.acks }

contrib_holds : (t : Terms) → Bytes t.bytes.now → (start : Begun) (w : WorkOf) (x : ContribOf) (k : Contrib) → Kept base t.bytes.now k x
    → (d d' : Committed) (r r' : Arisen) (log : FaultLog)
    → VotesCommitted t k d.tally r.faults d'.tally log → MessagesCommitted t k d.state d.judged (Voted r log) d'.state d'.judged r'
    → HoldsBy t start w d r → HoldsBy t start (committed_contrib base w x) d' r'
contrib_holds t bytes start w x k h d d' r r' log v m o =
    let s = t.bytes.now in
    let id : k.id ≡ x.id = ap (λ (y : Contrib). y.id) h.kept in
    let again = messages_again base s h.budget h.at x h.next h.read (lit< tt) (lit< tt) bytes k h.kept in
    let u = foldl (committed_vote base k.id) w x.votes in
    let z = foldl (committed_message base k.id) u x.messages in
    let voted = v (votes_within base s h.budget h.at x h.next h.read (lit< tt) (lit< tt) bytes k h.kept) x.votes h.next
    (votes_again base s h.budget h.at x h.next h.read (lit< tt) (lit< tt) bytes k h.kept) w start (record { faults = o.faults; votes = o.votes }) in
    let handled = m (messages_within base s h.budget h.at x h.next h.read (lit< tt) (lit< tt) bytes k h.kept) x.messages again.0 again.1 u
    (record {
      faults = voted.faults;
      due = o.due ∙ sym (votes_kept base k.id x.votes w).by_due;
      messages = votes_leave t k.id w x.votes start d'.tally d.state d.judged voted.votes o.messages;
    }) in
    let same : z ≡ committed_contrib base w x = (λ j. foldl (committed_message base (id j)) (foldl (committed_vote base (id j)) w x.votes) x.messages) ∙ sym (contrib_in_order base w x) in
    subst (λ (y : WorkOf). HoldsBy t start y d' r') same
    (record {
      faults = handled.faults;
      due = handled.due;
      votes = same_counter s start t.era (nodes_by t) d'.tally u z (messages_counter base k.id x.messages u) voted.votes;
      messages = handled.messages;
    })

-- the contribution at a place of the list that a loop goes over
pub contrib_next : (ks xs : List Contrib) → ks ≡ xs → (i : ℕ) → i < length ks → drop i xs ≡ get_or ks i no_contrib ∷ drop (i + 1) xs
contrib_next ks xs e i h = ap (drop i) (sym e) ∙ drop-cons ks i no_contrib h ∙ (λ j. get_or ks i no_contrib ∷ drop (sym (add-one i) j) (e j))

-- contributions before a place were committed: those from it on are left
module _ (t : Terms) (tally : Tally) (state : Option KeyGenState) (index : BatchIndex) where
  abbrev pub BatchLeft : ℕ → Committed → Arisen → Type 0
  BatchLeft i d r =
      (st : StateOf) (cs : List ContribOf) → era_of st ≡ t.era → nodes_in st ≡ nodes_by t → st.key_gen ≡ running.state_of state
      → entries_of tally ≡ map kept_entry st.counter.committed → length (entries_of tally) ≤ base.nodes → EachKept base t.bytes.now (contribs_in index) cs
      → (w : WorkOf) × (committed base st t.verdicts.now cs ≡ foldl (committed_contrib base) w (drop i cs)) × HoldsBy t (begun_with st.counter) w d r

  pub batch_starts : (r : Arisen) → faults_of r.faults ≡ [] → acks_of r ≡ [] → BatchLeft 0 (record { tally = tally; state = state; judged = 0 }) r
  unfolding committed
  batch_starts r f a st cs e n k v b h = (
    begun st t.verdicts.now,
    refl,
    record {
      faults = f;
      due = ap (map (ack_item t.era)) a;
      votes = votes_start t.bytes.now (begun_with st.counter) t.era (nodes_by t) tally (begun st t.verdicts.now) e n refl v b;
      messages = record { by_era = e; by_map = n; by_key_gen = k; by_verdicts = refl };
    },
  )

  module _ (i : ℕ) (d : Committed) (r : Arisen) (left : BatchLeft i d r) where
    pub batch_turn : Bytes t.bytes.now → (k : Contrib) → drop i (contribs_in index) ≡ k ∷ drop (i + 1) (contribs_in index) → (d' : Committed) (r' : Arisen) (log : FaultLog)
        → VotesCommitted t k d.tally r.faults d'.tally log → MessagesCommitted t k d.state d.judged (Voted r log) d'.state d'.judged r'
        → BatchLeft (i + 1) d' r'
    batch_turn bytes k b d' r' log v m st cs x₁ x₂ x₃ x₄ x₅ h =
        let o = left st cs x₁ x₂ x₃ x₄ x₅ h in
        let x = kept_more base t.bytes.now (contribs_in index) cs h i k b in (
          committed_contrib base o.0 x.0,
          o.1 ∙ fold_more (committed_contrib base) o.0 cs i x.0 x.2 _ refl,
          contrib_holds t bytes (begun_with st.counter) o.0 x.0 k x.1 d d' r r' log v m o.2,
        )

    pub batch_ends : length (contribs_in index) ≤ i
        → BatchCommitted t.bytes.now t.era (nodes_by t) t.verdicts.now tally (running.state_of state) index d r
    batch_ends b st cs x₁ x₂ x₃ x₄ x₅ h =
        let o = left st cs x₁ x₂ x₃ x₄ x₅ h in
        let e : committed base st t.verdicts.now cs ≡ o.0 =
        o.1 ∙ fold_end (committed_contrib base) o.0 cs i (omega (arith, kept_length base t.bytes.now (contribs_in index) cs h)) in
        rw e o.2
