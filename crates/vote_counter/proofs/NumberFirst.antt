-- 02, CR 6: "Stored votes are the same in every case". The present order of checks is held to document 01's, which is kept as a definition: what is stored is the same, and
-- what a vote does differs exactly where its number is old and its era or signature is wrong.
-- Assumes nothing.
use Prim.Native.Nat.{ℕ}
use mathlib.Core.Path.{◌≡◌, refl, sym, ap, ◌∙◌}
use mathlib.Core.Logic.{◌⊎◌, inl, inr, ⊎_elim}
use mathlib.Core.List.{List, [], ◌∷◌}
use mathlib.Core.Bool.{Bool, true, false, cond}
use lib.Dec.{eqb}
use borrow.Author.Tests.{leb-true, eqb-false, ne_eqb}
use Rattle.lists.specs.Lists.{Found, found, nothing, map_found, lookup}
use Rattle.lists.proofs.ListLaws.{false_true}
use Rattle.bincode.specs.Items.{foldl}
use Rattle.bincode.specs.Sizes.{Sizes}
use Rattle.pub_key_map.specs.declared.Node.{Node}
use Rattle.network_info.specs.NetworkInfo.{key_of}
use Rattle.votes.specs.Votes.{SignedVoteOf}
use Rattle.signed_votes.specs.SignedVotes.{num_of}
use Rattle.fault_log.specs.declared.FaultKind.TheVariants.{InvalidCommittedVote}
use Rattle.vote_counter.specs.VoteCounter.{CounterOf, at_or_below, obsolete, valid_vote, VoteEffect, stored, nothing_new, fault, vote_effect, committed_by, after_committed, add_committed}
use Rattle.vote_counter.specs.NumberFirst.{number_first, added_number_first}
use Rattle.vote_counter.proofs.PageLaws.{AtOrBelow, old_obsolete, unsigned_not, invalid_unsigned, either_way}

-- the votes of which the request speaks: "an old number with a wrong era", "an old number with a bad signature"
pub record OldAndWrong (era : ℕ) (ns : List Node) (vs : List SignedVoteOf) (v : SignedVoteOf) : Type 0 where
  pub old : AtOrBelow vs v
  pub wrong : (v.vote.era ≡ era → ⊥) ⊎ (key_of ns v.voter ≡ found v.sig → ⊥)

-- what the tests say: a number that is found old is at or below the stored one's, and a signature that is not found valid is under no key of the voter
obsolete_old : (vs : List SignedVoteOf) (v : SignedVoteOf) → obsolete vs v ≡ true → AtOrBelow vs v
unfolding obsolete
obsolete_old vs v e = go (lookup (λ (x : SignedVoteOf). x.voter) vs v.voter) refl e
  where
    go : (x : Found SignedVoteOf) → lookup (λ (x : SignedVoteOf). x.voter) vs v.voter ≡ x → at_or_below v.vote.num (map_found num_of x) ≡ true → AtOrBelow vs v
    go (found old) q e = (old, q, leb-true v.vote.num old.vote.num e)
    go nothing q e = absurd (false_true e)

-- one vote
module _ (era : ℕ) (ns : List Node) (vs : List SignedVoteOf) (v : SignedVoteOf) where
  -- old and wrong: a fault now, nothing then
  pub differ_there : OldAndWrong era ns vs v → (vote_effect era ns vs v ≡ fault InvalidCommittedVote) × (number_first era ns vs v ≡ nothing_new)
  unfolding vote_effect number_first
  differ_there h = (⊎_elim (λ n. rw (ne_eqb v.vote.era era n)) (λ n. rw (unsigned_not ns v n, either_way (eqb v.vote.era era) (fault InvalidCommittedVote))) h.wrong, rw (old_obsolete vs v h.old))

  -- where they are not the same, it is such a vote; so of any other vote the two make the same
  pub same_or_there : (vote_effect era ns vs v ≡ number_first era ns vs v) ⊎ OldAndWrong era ns vs v
  unfolding vote_effect number_first
  same_or_there = go (eqb v.vote.era era) refl (valid_vote ns v) refl (obsolete vs v) refl
    where
      go : (a : Bool) → eqb v.vote.era era ≡ a → (b : Bool) → valid_vote ns v ≡ b → (c : Bool) → obsolete vs v ≡ c
          → (cond a (cond b (cond c nothing_new stored) (fault InvalidCommittedVote)) (fault InvalidCommittedVote)
          ≡ cond c nothing_new (cond a (cond b stored (fault InvalidCommittedVote)) (fault InvalidCommittedVote)))
          ⊎ OldAndWrong era ns vs v
      go true e true k true o = inl refl
      go true e true k false o = inl refl
      go true e false k true o = inr (record { old = obsolete_old vs v o; wrong = inr (invalid_unsigned ns v k) })
      go true e false k false o = inl refl
      go false e b k true o = inr (record { old = obsolete_old vs v o; wrong = inl (eqb-false v.vote.era era e) })
      go false e b k false o = inl refl

  pub same_elsewhere : (OldAndWrong era ns vs v → ⊥) → vote_effect era ns vs v ≡ number_first era ns vs v
  same_elsewhere n = ⊎_elim (λ e. e) (λ h. absurd (n h)) same_or_there

  pub only_there : (vote_effect era ns vs v ≡ number_first era ns vs v → ⊥) → OldAndWrong era ns vs v
  only_there n = ⊎_elim (λ e. absurd (n e)) (λ h. h) same_or_there

  -- what either leaves of the committed votes, whatever the vote is
  pub same_stored : (z : Sizes) → (committed_by z vs v (vote_effect era ns vs v)).votes ≡ (committed_by z vs v (number_first era ns vs v)).votes
  same_stored z = ⊎_elim (λ e. ap (λ (x : VoteEffect). (committed_by z vs v x).votes) e) (λ h. let d = differ_there h in rw (d.0, d.1)) same_or_there

-- "Stored votes are the same in every case": and the counter as a whole, for every counter and vote, and for every list of votes, of one proposer or of several
module _ (z : Sizes) where
  pub same_counter : (c : CounterOf) (v : SignedVoteOf) → (added_number_first z c v).counter ≡ (add_committed z c v).counter
  unfolding added_number_first add_committed
  same_counter c v =
      ⊎_elim (λ e. ap (λ (x : VoteEffect). (after_committed z c v x).counter) (sym e)) (λ h. let d = differ_there c.era c.nodes c.committed v h in rw (d.0, d.1))
      (same_or_there c.era c.nodes c.committed v)

  pub same_counters : (vs : List SignedVoteOf) (c : CounterOf)
      → foldl (λ (d : CounterOf) (v : SignedVoteOf). (added_number_first z d v).counter) c vs ≡ foldl (λ (d : CounterOf) (v : SignedVoteOf). (add_committed z d v).counter) c vs
  same_counters [] c = refl
  same_counters (v ∷ vs) c =
      ap (λ (d : CounterOf). foldl (λ (d : CounterOf) (v : SignedVoteOf). (added_number_first z d v).counter) d vs) (same_counter c v) ∙ same_counters vs (add_committed z c v).counter
