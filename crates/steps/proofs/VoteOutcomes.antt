-- 02, CR 6, outcome by outcome: what a vote of a batch does, whoever proposed it, in whatever state.
-- Assumes nothing.
use Prim.Native.Nat.{ℕ, ◌<◌}
use mathlib.Core.Path.{◌≡◌, sym, ◌∙◌}
use mathlib.Core.List.{[], ◌∷◌, ◌++◌}
use mathlib.Core.Bool.{cond}
use lib.ListN.{length}
use Rattle.lists.specs.Lists.{Found, found, insert_within, takes_place}
use Rattle.bincode.specs.Sizes.{Sizes}
use Rattle.fault_log.specs.declared.FaultKind.TheVariants.{InvalidCommittedVote}
use Rattle.network_info.specs.NetworkInfo.{key_of}
use Rattle.votes.specs.Votes.{SignedVoteOf}
use Rattle.board.specs.Board.{worked_out}
use Rattle.vote_counter.proofs.PageLaws.{AtOrBelow, Newer}
use Rattle.steps.specs.Steps.{WorkOf, committed_vote}
use Rattle.steps.proofs.PageLaws.{other_era_vote, unsigned_vote, old_vote, vote_replaces}

module _ (z : Sizes) (proposer : ℕ) (w : WorkOf) (v : SignedVoteOf) where
  -- the number is old against the vote that is stored at this moment, votes of the same batch included; or it is new
  abbrev pub OldNumber : Type 0
  OldNumber = AtOrBelow w.state.counter.committed v

  abbrev pub NewNumber : Type 0
  NewNumber = Newer w.state.counter.committed v

  abbrev pub RightEra : Type 0
  RightEra = v.vote.era ≡ w.state.counter.era

  -- under the voter's key of the current map; a voter outside it has none, and a candidate key is no such key
  abbrev pub RightSignature : Type 0
  RightSignature = key_of w.state.counter.nodes v.voter ≡ found v.sig

  -- one fault more, of the proposer, at the end, where the list has room for it (of a batch that was read it always has: `few_faults` of agreement); all else stays
  abbrev pub BlamesProposer : Type 0
  BlamesProposer =
      length w.faults < z.faults → committed_vote z proposer w v
      ≡ record {
        state = w.state;
        faults = w.faults ++ (record { node_id = proposer; kind = InvalidCommittedVote } ∷ []);
        due = w.due;
        verdicts = w.verdicts;
      }

  -- the vote is put in place of the voter's stored one; where it took a place, the board is worked out from the votes then (02, CR 3)
  abbrev pub IsStored : Type 0
  IsStored =
      let votes = insert_within (λ (x : SignedVoteOf). x.voter) z.nodes v w.state.counter.committed in
      committed_vote z proposer w v
      ≡ record {
        state = record {
          counter = record {
            our_id = w.state.counter.our_id;
            our_key = w.state.counter.our_key;
            nodes = w.state.counter.nodes;
            era = w.state.counter.era;
            pending = w.state.counter.pending;
            committed = votes;
            board = cond (takes_place (λ (x : SignedVoteOf). x.voter) z.nodes v.voter w.state.counter.committed) (worked_out votes) w.state.counter.board;
          };
          params = w.state.params;
          key_gen = w.state.key_gen;
          store = w.state.store;
          last = w.state.last;
        };
        faults = w.faults;
        due = w.due;
        verdicts = w.verdicts;
      }

  pub record VoteOutcomes : Type 0 where
    -- "an old number with a wrong era now faults the proposer"
    pub old_wrong_era : OldNumber → (RightEra → ⊥) → BlamesProposer
    -- "an old number with a bad signature does too"
    pub old_wrong_signature : OldNumber → (RightSignature → ⊥) → BlamesProposer
    -- "both together give one fault"
    pub old_both_wrong : OldNumber → (RightEra → ⊥) → (RightSignature → ⊥) → BlamesProposer
    -- "An old number on a valid vote still does nothing"
    pub old_valid : OldNumber → RightEra → RightSignature → committed_vote z proposer w v ≡ w
    -- with a new number all is as it was
    pub new_wrong_era : NewNumber → (RightEra → ⊥) → BlamesProposer
    pub new_wrong_signature : NewNumber → (RightSignature → ⊥) → BlamesProposer
    pub new_valid : NewNumber → RightEra → RightSignature → IsStored
    -- a voter outside the map has no key, and any other key than the voter's in the current map, a candidate key too, is a wrong signature, whatever the number is
    pub stranger : ((key : ℕ) → key_of w.state.counter.nodes v.voter ≡ found key → ⊥) → BlamesProposer
    pub other_key : (key : ℕ) → key_of w.state.counter.nodes v.voter ≡ found key → (key ≡ v.sig → ⊥) → BlamesProposer

  pub vote_outcomes : VoteOutcomes
  vote_outcomes =
      record {
        old_wrong_era = λ o e room. other_era_vote z proposer w v room e;
        old_wrong_signature = λ o k room. unsigned_vote z proposer w v room k;
        old_both_wrong = λ o e k room. other_era_vote z proposer w v room e;
        old_valid = λ o e k. old_vote z proposer w v e k o;
        new_wrong_era = λ n e room. other_era_vote z proposer w v room e;
        new_wrong_signature = λ n k room. unsigned_vote z proposer w v room k;
        new_valid = λ n e k. vote_replaces z proposer w v e k n;
        stranger = λ h room. unsigned_vote z proposer w v room (h v.sig);
        other_key = λ key e h room. unsigned_vote z proposer w v room (λ q. h (let p : ◌≡◌ {A = Found ℕ} (found key) (found v.sig) = sym e ∙ q in cc));
      }
