-- Single sentences of documents 01 (steps 2 to 5) and 02, said of one vote and one key message of a batch: whom a fault falls on, what is stored, what is due.
-- Assumes nothing.
use Prim.Native.Nat.{ℕ, ◌<◌}
use mathlib.Core.Path.{◌≡◌}
use mathlib.Core.List.{List, [], ◌∷◌, ◌++◌}
use mathlib.Core.Bool.{cond}
use native.Mathlib.Omega.{arith}
use lib.ListN.{length, take, length-append}
use lib.Seq.{take_all}
use borrow.Author.Tests.{eq-eqb, ne_eqb}
use Rattle.lists.specs.Lists.{Found, found, nothing, insert_within, takes_place}
use Rattle.bincode.specs.Sizes.{Sizes}
use Rattle.fault_log.specs.declared.FaultKind.{FaultKind}
use Rattle.fault_log.specs.declared.FaultKind.TheVariants.{InvalidCommittedVote, InvalidKeyGenMessageSignature, InvalidKeyGenMessageEra, UnexpectedKeyGenPart, UnexpectedKeyGenAck}
use Rattle.fault_log.specs.declared.Fault.{Fault}
use Rattle.network_info.specs.NetworkInfo.{node_index, key_of}
use Rattle.due.specs.declared.DueKind.TheVariants.{Ack}
use Rattle.votes.specs.Votes.{SignedVoteOf}
use Rattle.board.specs.Board.{worked_out}
use Rattle.vote_counter.proofs.PageLaws.{AtOrBelow, Newer, committed_old, committed_era, committed_signature, committed_replaces}
use Rattle.sync_key_gen.specs.SyncKeyGen.{PartOf, AckOf}
use Rattle.key_gen.specs.KeyGen as key_gen
use Rattle.key_gen.proofs.PageLaws.{part_leaving, ack_leaving}
use Rattle.key_gen_state.specs.KeyGenState.{KeyGenStateOf}
use Rattle.key_gen_message.specs.KeyGenMessage.{part, ack, SignedKeyGenMsgOf}
use Rattle.message_store.specs.MessageStore.{without}
use Rattle.dynamic_honey_badger.specs.State.{StateOf}
use Rattle.dynamic_honey_badger.proofs.PageMessageLaws.{SignedBy, signed_valid, unsigned_not}
use Rattle.steps.specs.Steps.{WorkOf, committed_vote, message_done, committed_message}

-- one more goes behind those there are, where the list has room
pub more : {A : Type 0} (n : ℕ) (xs : List A) (x : A) → length xs < n → take n (xs ++ (x ∷ [])) ≡ xs ++ (x ∷ [])
more n xs x h = take_all n (xs ++ (x ∷ [])) (simp length-append (omega arith))

-- a fault as it stands in the log
abbrev pub fault_of : ℕ → FaultKind → Fault
fault_of id k = record { node_id = id; kind = k }

-- step 3: a vote of a contribution
module _ (z : Sizes) (proposer : ℕ) (w : WorkOf) (v : SignedVoteOf) where
  -- 02, CR 6: a wrong era is `InvalidCommittedVote` on the proposer, whatever signature and number are; a wrong signature is, whatever era and number are
  module _ (room : length w.faults < z.faults) where
    pub other_era_vote : (v.vote.era ≡ w.state.counter.era → ⊥)
        → committed_vote z proposer w v ≡ record { state = w.state; faults = w.faults ++ (fault_of proposer InvalidCommittedVote ∷ []); due = w.due; verdicts = w.verdicts }
    unfolding committed_vote
    other_era_vote h = rw (committed_era z w.state.counter v h, more z.faults w.faults (fault_of proposer InvalidCommittedVote) room)

    pub unsigned_vote : (key_of w.state.counter.nodes v.voter ≡ found v.sig → ⊥)
        → committed_vote z proposer w v ≡ record { state = w.state; faults = w.faults ++ (fault_of proposer InvalidCommittedVote ∷ []); due = w.due; verdicts = w.verdicts }
    unfolding committed_vote
    unsigned_vote h = rw (committed_signature z w.state.counter v h, more z.faults w.faults (fault_of proposer InvalidCommittedVote) room)

  module _ (now : v.vote.era ≡ w.state.counter.era) (signed : key_of w.state.counter.nodes v.voter ≡ found v.sig) where
    -- "An old number on a valid vote still does nothing", and makes no fault
    pub old_vote : AtOrBelow w.state.counter.committed v → committed_vote z proposer w v ≡ w
    unfolding committed_vote
    old_vote h = rw (committed_old z w.state.counter v now signed h)

    -- "Otherwise it replaces the stored one"; where it took a place, the board is worked out from the votes then (02, CR 3)
    pub vote_replaces : Newer w.state.counter.committed v
        → committed_vote z proposer w v
        ≡ record {
          state = record {
            counter = record {
              our_id = w.state.counter.our_id;
              our_key = w.state.counter.our_key;
              nodes = w.state.counter.nodes;
              era = w.state.counter.era;
              pending = w.state.counter.pending;
              committed = insert_within (λ (x : SignedVoteOf). x.voter) z.nodes v w.state.counter.committed;
              board = cond (takes_place (λ (x : SignedVoteOf). x.voter) z.nodes v.voter w.state.counter.committed)
                  (worked_out (insert_within (λ (x : SignedVoteOf). x.voter) z.nodes v w.state.counter.committed))
                  w.state.counter.board;
            };
            params = w.state.params;
            key_gen = w.state.key_gen;
            store = w.state.store;
            last = w.state.last;
          };
          faults = w.faults;
          due = w.due;
          verdicts = w.verdicts;
        }
    unfolding committed_vote
    vote_replaces new = rw (committed_replaces z w.state.counter v now signed new)

-- steps 4 and 5: a key message of a contribution, with its verdict, the first of those left
module _ (z : Sizes) (proposer : ℕ) (w : WorkOf) (m : SignedKeyGenMsgOf) (verdict : ℕ) (verdicts : List ℕ) (judged : w.verdicts ≡ verdict ∷ verdicts) where
  -- "Stored own-side messages equal to a committed one go", whatever becomes of it; votes, map, era and parameters stay
  abbrev left : Found KeyGenStateOf → StateOf
  left g = record { counter = w.state.counter; params = w.state.params; key_gen = g; store = without m w.state.store; last = w.state.last }

  -- a fault of a node, with key generation as it was; each message uses up one verdict
  abbrev faulted : ℕ → FaultKind → WorkOf
  faulted id k = record { state = left w.state.key_gen; faults = w.faults ++ (fault_of id k ∷ []); due = w.due; verdicts = verdicts }

  module _ (room : length w.faults < z.faults) where
    -- "wrong era, .. fault the proposer"
    pub other_era : (m.era ≡ w.state.counter.era → ⊥) → committed_message z proposer w m ≡ faulted proposer InvalidKeyGenMessageEra
    unfolding committed_message message_done
    other_era h = rw (judged, ne_eqb _ _ h, more z.faults w.faults (fault_of proposer InvalidKeyGenMessageEra) room)

    -- "then bad signature (neither current nor candidate key)"
    pub unsigned : m.era ≡ w.state.counter.era → (SignedBy w.state m.id m.sig → ⊥) → committed_message z proposer w m ≡ faulted proposer InvalidKeyGenMessageSignature
    unfolding committed_message message_done
    unsigned e h = rw (judged, eq-eqb _ _ e, unsigned_not w.state m.id m.sig h, more z.faults w.faults (fault_of proposer InvalidKeyGenMessageSignature) room)

    -- "Without key generation, `UnexpectedKeyGenPart` or `UnexpectedKeyGenAck` faults the signer"
    module _ (now : m.era ≡ w.state.counter.era) (signed : SignedBy w.state m.id m.sig) (none : w.state.key_gen ≡ nothing) where
      pub part_unexpected : (p : PartOf) → m.message ≡ part p
          → committed_message z proposer w m ≡ record { state = left nothing; faults = w.faults ++ (fault_of m.id UnexpectedKeyGenPart ∷ []); due = w.due; verdicts = verdicts }
      unfolding committed_message message_done
      part_unexpected p e =
          rw (judged, eq-eqb _ _ now, signed_valid w.state m.id m.sig signed, none, e, more z.faults w.faults (fault_of m.id UnexpectedKeyGenPart) room)

      pub ack_unexpected : (a : AckOf) → m.message ≡ ack a
          → committed_message z proposer w m ≡ record { state = left nothing; faults = w.faults ++ (fault_of m.id UnexpectedKeyGenAck ∷ []); due = w.due; verdicts = verdicts }
      unfolding committed_message message_done
      ack_unexpected a e =
          rw (judged, eq-eqb _ _ now, signed_valid w.state m.id m.sig signed, none, e, more z.faults w.faults (fault_of m.id UnexpectedKeyGenAck) room)

  -- 02, CR 2: "A station being removed can still sign with its current key": right era and signature, key generation running, no index of the signer in the candidate
  -- map. "From now on it is a fault on that signer .. and processing continues": one fault, as far as the lent list reaches, whatever rows, values and verdict the message has
  module _ (now : m.era ≡ w.state.counter.era) (signed : SignedBy w.state m.id m.sig) (g : KeyGenStateOf) (runs : w.state.key_gen ≡ found g)
      (leaving : node_index g.key_gen.nodes m.id ≡ nothing) where
    -- key generation, due list and votes are as they were, the store is without equal messages, and the verdict is used up
    abbrev goes_on : FaultKind → WorkOf
    goes_on k = record { state = left w.state.key_gen; faults = take z.faults (w.faults ++ (fault_of m.id k ∷ [])); due = w.due; verdicts = verdicts }

    pub part_leaves : (p : PartOf) → m.message ≡ part p → committed_message z proposer w m ≡ goes_on UnexpectedKeyGenPart
    unfolding committed_message message_done
    part_leaves p e =
        rw (judged, eq-eqb _ _ now, signed_valid w.state m.id m.sig signed, runs, e, part_leaving g.key_gen m.id p leaving verdict)

    pub ack_leaves : (a : AckOf) → m.message ≡ ack a → committed_message z proposer w m ≡ goes_on UnexpectedKeyGenAck
    unfolding committed_message message_done
    ack_leaves a e =
        rw (judged, eq-eqb _ _ now, signed_valid w.state m.id m.sig signed, runs, e, ack_leaving g.key_gen m.id a leaving verdict)

  -- with key generation: what a part or an ack does to it under its verdict (key_gen's own laws), the counts of senders as they were
  module _ (now : m.era ≡ w.state.counter.era) (signed : SignedBy w.state m.id m.sig) (g : KeyGenStateOf) (runs : w.state.key_gen ≡ found g) (next : key_gen.KeyGenOf) where
    abbrev tracked : Found KeyGenStateOf
    tracked = found (record { key_gen = next; counts = g.counts })

    -- a part
    module _ (p : PartOf) (content : m.message ≡ part p) where
      -- "an ack for each newly recorded part with verdict 0": due for its proposer's index, in the era of the batch, behind what was due before
      pub part_owed : (i : ℕ) → key_gen.handle_part g.key_gen m.id p verdict ≡ record { key_gen = next; effect = key_gen.ack_due i } → length w.due < z.due
          → committed_message z proposer w m ≡ record { state = left tracked; faults = w.faults; due = w.due ++ (record { kind = Ack i; era = w.state.counter.era } ∷ []); verdicts = verdicts }
      unfolding committed_message message_done
      part_owed i e room =
          rw (judged, eq-eqb _ _ now, signed_valid w.state m.id m.sig signed, runs, content, e, more z.due w.due (record { kind = Ack i; era = w.state.counter.era }) room)

      -- what key generation finds at fault is the signer's, not the proposer's
      pub part_blamed : (k : FaultKind) → key_gen.handle_part g.key_gen m.id p verdict ≡ record { key_gen = next; effect = key_gen.fault k } → length w.faults < z.faults
          → committed_message z proposer w m ≡ record { state = left tracked; faults = w.faults ++ (fault_of m.id k ∷ []); due = w.due; verdicts = verdicts }
      unfolding committed_message message_done
      part_blamed k e room =
          rw (judged, eq-eqb _ _ now, signed_valid w.state m.id m.sig signed, runs, content, e, more z.faults w.faults (fault_of m.id k) room)

      pub part_quiet : key_gen.handle_part g.key_gen m.id p verdict ≡ record { key_gen = next; effect = key_gen.quiet }
          → committed_message z proposer w m ≡ record { state = left tracked; faults = w.faults; due = w.due; verdicts = verdicts }
      unfolding committed_message message_done
      part_quiet e = rw (judged, eq-eqb _ _ now, signed_valid w.state m.id m.sig signed, runs, content, e)

    -- an ack: nothing is due for it
    module _ (a : AckOf) (content : m.message ≡ ack a) where
      pub ack_blamed : (k : FaultKind) → key_gen.handle_ack g.key_gen m.id a verdict ≡ record { key_gen = next; effect = key_gen.fault k } → length w.faults < z.faults
          → committed_message z proposer w m ≡ record { state = left tracked; faults = w.faults ++ (fault_of m.id k ∷ []); due = w.due; verdicts = verdicts }
      unfolding committed_message message_done
      ack_blamed k e room =
          rw (judged, eq-eqb _ _ now, signed_valid w.state m.id m.sig signed, runs, content, e, more z.faults w.faults (fault_of m.id k) room)

      pub ack_quiet : key_gen.handle_ack g.key_gen m.id a verdict ≡ record { key_gen = next; effect = key_gen.quiet }
          → committed_message z proposer w m ≡ record { state = left tracked; faults = w.faults; due = w.due; verdicts = verdicts }
      unfolding committed_message message_done
      ack_quiet e = rw (judged, eq-eqb _ _ now, signed_valid w.state m.id m.sig signed, runs, content, e)
