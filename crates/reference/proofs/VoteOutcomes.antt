-- 02, CR 6, outcome by outcome: what a vote of a batch does to the reference state, whoever proposed it.
-- Assumes nothing.
use Prim.Native.Nat.{ℕ, ◌≤◌, ◌<◌}
use mathlib.Core.Path.{◌≡◌, sym, ◌∙◌}
use mathlib.Core.List.{[], ◌∷◌, ◌++◌}
use Rattle.lists.specs.Lists.{Found, found, lookup, insert_within}
use Rattle.bincode.specs.Sizes.{Sizes}
use Rattle.network_info.specs.NetworkInfo.{key_of}
use Rattle.votes.specs.Votes.{SignedVoteOf}
use Rattle.fault_log.specs.declared.FaultKind.TheVariants.{InvalidCommittedVote}
use Rattle.reference.specs.Step.{RefWork, ref_vote}
use Rattle.reference.proofs.VoteLaws.{vote_of_other_era, vote_unsigned, old_vote, vote_put}

module _ (z : Sizes) (proposer : ℕ) (w : RefWork) (v : SignedVoteOf) where
  -- the number is at or below that of the voter's stored vote, or it is not
  abbrev pub OldNumber : Type 0
  OldNumber = (old : SignedVoteOf) × (lookup (λ (x : SignedVoteOf). x.voter) w.state.votes v.voter ≡ found old) × (v.vote.num ≤ old.vote.num)

  abbrev pub NewNumber : Type 0
  NewNumber = (old : SignedVoteOf) → lookup (λ (x : SignedVoteOf). x.voter) w.state.votes v.voter ≡ found old → old.vote.num < v.vote.num

  abbrev pub RightEra : Type 0
  RightEra = v.vote.era ≡ w.state.era

  -- under the voter's key of the current map; a voter outside it has none, and a candidate key is no such key
  abbrev pub RightSignature : Type 0
  RightSignature = key_of w.state.nodes v.voter ≡ found v.sig

  -- one fault more, of the proposer, at the end; all else stays
  abbrev pub BlamesProposer : Type 0
  BlamesProposer = ref_vote z proposer w v ≡ record { state = w.state; faults = w.faults ++ (record { node_id = proposer; kind = InvalidCommittedVote } ∷ []) }

  -- the vote is put in place of the voter's stored one, as far as the list has a place for the voter (`vote_stored`, `vote_replaces`)
  abbrev pub IsStored : Type 0
  IsStored =
      ref_vote z proposer w v
      ≡ record {
        state = record {
          era = w.state.era;
          nodes = w.state.nodes;
          params = w.state.params;
          votes = insert_within (λ (x : SignedVoteOf). x.voter) z.nodes v w.state.votes;
          candidate = w.state.candidate;
        };
        faults = w.faults;
      }

  pub record VoteOutcomes : Type 0 where
    -- "an old number with a wrong era now faults the proposer"
    pub old_wrong_era : OldNumber → (RightEra → ⊥) → BlamesProposer
    -- "an old number with a bad signature does too"
    pub old_wrong_signature : OldNumber → (RightSignature → ⊥) → BlamesProposer
    -- "both together give one fault"
    pub old_both_wrong : OldNumber → (RightEra → ⊥) → (RightSignature → ⊥) → BlamesProposer
    -- "An old number on a valid vote still does nothing"
    pub old_valid : OldNumber → RightEra → RightSignature → ref_vote z proposer w v ≡ w
    -- with a new number all is as it was
    pub new_wrong_era : NewNumber → (RightEra → ⊥) → BlamesProposer
    pub new_wrong_signature : NewNumber → (RightSignature → ⊥) → BlamesProposer
    pub new_valid : NewNumber → RightEra → RightSignature → IsStored
    -- a voter outside the map has no key, and any other key than the voter's in the current map, a candidate key too, is a wrong signature, whatever the number is
    pub stranger : ((key : ℕ) → key_of w.state.nodes v.voter ≡ found key → ⊥) → BlamesProposer
    pub other_key : (key : ℕ) → key_of w.state.nodes v.voter ≡ found key → (key ≡ v.sig → ⊥) → BlamesProposer

  pub vote_outcomes : VoteOutcomes
  vote_outcomes =
      record {
        old_wrong_era = λ o e. vote_of_other_era z proposer w v e;
        old_wrong_signature = λ o k. vote_unsigned z proposer w v k;
        old_both_wrong = λ o e k. vote_of_other_era z proposer w v e;
        old_valid = λ o e k. old_vote z proposer w v e k o.0 o.1 o.2;
        new_wrong_era = λ n e. vote_of_other_era z proposer w v e;
        new_wrong_signature = λ n k. vote_unsigned z proposer w v k;
        new_valid = λ n e k. vote_put z proposer w v e k n;
        stranger = λ h. vote_unsigned z proposer w v (h v.sig);
        other_key = λ key e h. vote_unsigned z proposer w v (λ q. h (let p : ◌≡◌ {A = Found ℕ} (found key) (found v.sig) = sym e ∙ q in cc));
      }
