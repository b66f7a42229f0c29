-- Step 3, sentence by sentence: what a committed vote does to the reference state.
-- Assumes nothing.
use Prim.Native.Nat.{ℕ, ◌≤◌, ◌<◌}
use mathlib.Core.Path.{◌≡◌, refl, ap, ◌∙◌}
use mathlib.Core.List.{List, [], ◌∷◌, ◌++◌}
use mathlib.Core.Bool.{Bool, true, false, cond, ◌&&◌}
use mathlib.Core.Logic.{◌⊎◌, ⊎_elim}
use lib.Dec.{eqb}
use lib.ListN.{length}
use borrow.Author.Tests.{le-leb, lt-leb, lt-ltb, eq-eqb, ne_eqb}
use Rattle.lists.specs.Lists.{Found, found, nothing, lookup, insert, has_key, insert_within}
use Rattle.lists.proofs.SortedLaws.{insert_lookup, within_other}
use Rattle.bincode.specs.Sizes.{Sizes}
use Rattle.network_info.specs.NetworkInfo.{key_of}
use Rattle.votes.specs.Votes.{SignedVoteOf}
use Rattle.fault_log.specs.declared.FaultKind.TheVariants.{InvalidCommittedVote}
use Rattle.reference.specs.Step.{RefWork, blamed, is_key_of, by_voter, is_old, votes_now, ref_vote}

-- the test on the number
old_number : (v old : SignedVoteOf) → v.vote.num ≤ old.vote.num → is_old v (found old) ≡ true
old_number v old h = le-leb v.vote.num old.vote.num h

module _ (z : Sizes) (proposer : ℕ) (w : RefWork) (v : SignedVoteOf) where
  -- 02, CR 6: "the order of checks on a committed vote becomes era, signature, number". A wrong era is `InvalidCommittedVote` on the proposer, whatever signature and
  -- number are
  pub vote_of_other_era : (v.vote.era ≡ w.state.era → ⊥)
      → ref_vote z proposer w v ≡ record { state = w.state; faults = w.faults ++ (record { node_id = proposer; kind = InvalidCommittedVote } ∷ []) }
  unfolding ref_vote
  vote_of_other_era h = rw (ne_eqb v.vote.era w.state.era h)

  -- a wrong signature is, whatever era and number are: any but the voter's key in the current map
  pub vote_unsigned : (key_of w.state.nodes v.voter ≡ found v.sig → ⊥)
      → ref_vote z proposer w v ≡ record { state = w.state; faults = w.faults ++ (record { node_id = proposer; kind = InvalidCommittedVote } ∷ []) }
  unfolding ref_vote
  vote_unsigned h = go (eqb v.vote.era w.state.era) (is_key_of v.sig (key_of w.state.nodes v.voter)) _ _ (unsigned (key_of w.state.nodes v.voter) refl)
    where
      unsigned : (f : Found ℕ) → key_of w.state.nodes v.voter ≡ f → is_key_of v.sig (key_of w.state.nodes v.voter) ≡ false
      unsigned (found key) e = rw e (ne_eqb key v.sig (λ q. h (e ∙ ap found q)))
      unsigned nothing e = rw e

      go : (a b : Bool) (x y : RefWork) → b ≡ false → cond (a && b) x y ≡ y
      go true b x y e = rw e
      go false b x y e = refl

  module _ (right_era : v.vote.era ≡ w.state.era) (signed : key_of w.state.nodes v.voter ≡ found v.sig) where
    -- "An old number on a valid vote still does nothing", and makes no fault
    pub old_vote : (old : SignedVoteOf) → lookup (λ (x : SignedVoteOf). x.voter) w.state.votes v.voter ≡ found old → v.vote.num ≤ old.vote.num
        → ref_vote z proposer w v ≡ w
    unfolding ref_vote
    old_vote old e h = rw (eq-eqb v.vote.era w.state.era right_era, signed, eq-eqb v.sig v.sig refl, e, old_number v old h)

    -- "Otherwise": the voter has no stored vote, or one of a lower number
    module _ (newer : (old : SignedVoteOf) → lookup (λ (x : SignedVoteOf). x.voter) w.state.votes v.voter ≡ found old → old.vote.num < v.vote.num) where
      not_old : is_old v (lookup by_voter w.state.votes v.voter) ≡ false
      not_old = go (lookup by_voter w.state.votes v.voter) refl
        where
          go : (f : Found SignedVoteOf) → lookup by_voter w.state.votes v.voter ≡ f → is_old v f ≡ false
          go (found old) e = lt-leb v.vote.num old.vote.num (newer old e)
          go nothing e = refl

      -- "it replaces the stored one", as far as the list has a place for the voter
      pub vote_put : ref_vote z proposer w v
          ≡ record {
            state = record {
              era = w.state.era;
              nodes = w.state.nodes;
              params = w.state.params;
              votes = insert_within (λ (x : SignedVoteOf). x.voter) z.nodes v w.state.votes;
              candidate = w.state.candidate;
            };
            faults = w.faults;
          }
      unfolding ref_vote
      vote_put = rw (eq-eqb v.vote.era w.state.era right_era, signed, eq-eqb v.sig v.sig refl, not_old)

      -- which it has where it has room, or holds a vote of the voter
      module _ (room : (length w.state.votes < z.nodes) ⊎ (has_key (λ (x : SignedVoteOf). x.voter) v.voter w.state.votes ≡ true)) where
        pub vote_stored : ref_vote z proposer w v
            ≡ record {
              state = record {
                era = w.state.era;
                nodes = w.state.nodes;
                params = w.state.params;
                votes = insert (λ (x : SignedVoteOf). x.voter) v w.state.votes;
                candidate = w.state.candidate;
              };
              faults = w.faults;
            }
        unfolding insert_within
        vote_stored = vote_put ∙ ap {B = RefWork} (λ (vs : List SignedVoteOf). record { state = votes_now w.state vs; faults = w.faults }) within
          where
            within : insert_within by_voter z.nodes v w.state.votes ≡ insert by_voter v w.state.votes
            within = ⊎_elim (λ h. rw (lt-ltb (length w.state.votes) z.nodes h) (go (has_key by_voter v.voter w.state.votes))) (λ h. rw h) room
              where
                go : (b : Bool) → cond b (insert by_voter v w.state.votes) (insert by_voter v w.state.votes) ≡ insert by_voter v w.state.votes
                go true = refl
                go false = refl

        -- it is then the voter's stored vote
        pub vote_replaces : lookup (λ (x : SignedVoteOf). x.voter) (ref_vote z proposer w v).state.votes v.voter ≡ found v
        vote_replaces = rw vote_stored (insert_lookup (λ (x : SignedVoteOf). x.voter) v w.state.votes)

  -- another voter's stored vote stays, whatever becomes of this one
  pub other_voter_stays : (k : ℕ) → (v.voter ≡ k → ⊥)
      → lookup (λ (x : SignedVoteOf). x.voter) (ref_vote z proposer w v).state.votes k ≡ lookup (λ (x : SignedVoteOf). x.voter) w.state.votes k
  unfolding ref_vote
  other_voter_stays k n =
      go (eqb v.vote.era w.state.era && is_key_of v.sig (key_of w.state.nodes v.voter)) (is_old v (lookup by_voter w.state.votes v.voter))
    where
      stored : RefWork
      stored = record { state = votes_now w.state (insert_within by_voter z.nodes v w.state.votes); faults = w.faults }

      go : (a b : Bool) → lookup by_voter (cond a (cond b w stored) (blamed proposer InvalidCommittedVote w)).state.votes k ≡ lookup by_voter w.state.votes k
      go false b = refl
      go true true = refl
      go true false = within_other by_voter z.nodes v w.state.votes k n
