-- Document 01's order of checks on a vote, which is kept (NumberFirst), sentence by sentence: so that what the present order is held to is that order.
-- Assumes nothing.
use Prim.Native.Nat.{ℕ}
use mathlib.Core.Path.{◌≡◌, refl, ap}
use mathlib.Core.List.{List, ◌∷◌, ◌++◌}
use mathlib.Core.Bool.{Bool, true, false, cond}
use lib.Dec.{eqb}
use Rattle.bincode.specs.Items.{foldl}
use Rattle.bincode.specs.Sizes.{Sizes}
use Rattle.fault_log.specs.declared.FaultKind.TheVariants.{InvalidCommittedVote}
use Rattle.votes.specs.Votes.{SignedVoteOf}
use Rattle.vote_counter.specs.VoteCounter.{VoteEffect, stored, nothing_new, fault, valid_vote, vote_effect, after_committed, add_committed}
use Rattle.vote_counter.specs.NumberFirst.{number_first, added_number_first}
use Rattle.vote_counter.proofs.PageLaws.{AtOrBelow, Newer, old_obsolete, newer_not}
use Rattle.internal_contrib.specs.InternalContrib.{ContribOf}
use Rattle.dynamic_honey_badger.specs.State.{StateOf}
use Rattle.steps.specs.Steps.{WorkOf, voted_as, committed_vote, committed_message, committed_contrib, begun}
use Rattle.agreement.specs.NumberFirst.{all_marks, vote_marks, message_marks, vote_number_first, contrib_number_first, committed_number_first, contrib_marks, batch_marks}

module _ (z : Sizes) (proposer : ℕ) (w : WorkOf) (v : SignedVoteOf) where
  -- 01, step 3: "A vote numbered at or below the voter's stored one changes nothing and makes no fault", whatever its era and signature are
  pub first_old : AtOrBelow w.state.counter.committed v → vote_number_first z proposer w v ≡ w
  unfolding vote_number_first added_number_first number_first
  first_old h = rw (old_obsolete w.state.counter.committed v h)

  -- "Otherwise" it is as it is now
  pub first_newer : Newer w.state.counter.committed v → vote_number_first z proposer w v ≡ committed_vote z proposer w v
  unfolding vote_number_first added_number_first number_first committed_vote add_committed vote_effect
  first_newer h = rw (newer_not w.state.counter.committed v h) (ap (λ (e : VoteEffect). voted_as z proposer w (after_committed z w.state.counter v e)) (go (eqb v.vote.era w.state.counter.era) (valid_vote w.state.counter.nodes v)))
    where
      bad : VoteEffect
      bad = fault InvalidCommittedVote

      go : (a b : Bool) → cond a (cond b stored bad) bad ≡ cond a (cond b (cond false nothing_new stored) bad) bad
      go true true = refl
      go true false = refl
      go false b = refl

-- steps 2 to 5: "per contribution, ids ascending: the votes, then the key messages"; marks stand in the order of the faults
module _ (z : Sizes) where
  pub first_in_order : (w : WorkOf) (c : ContribOf) → contrib_number_first z w c ≡ foldl (committed_message z c.id) (foldl (vote_number_first z c.id) w c.votes) c.messages
  unfolding contrib_number_first
  first_in_order w c = refl

  pub first_more : (s : StateOf) (verdicts : List ℕ) (c : ContribOf) (cs : List ContribOf)
      → committed_number_first z s verdicts (c ∷ cs) ≡ foldl (contrib_number_first z) (contrib_number_first z (begun s verdicts) c) cs
  unfolding committed_number_first
  first_more s verdicts c cs = refl

  pub marks_in_order : (w : WorkOf) (c : ContribOf)
      → contrib_marks z w c
      ≡ all_marks (committed_vote z c.id) vote_marks w c.votes ++ all_marks (committed_message z c.id) message_marks (foldl (committed_vote z c.id) w c.votes) c.messages
  unfolding contrib_marks
  marks_in_order w c = refl

  pub marks_more : (s : StateOf) (verdicts : List ℕ) (c : ContribOf) (cs : List ContribOf)
      → batch_marks z s verdicts (c ∷ cs) ≡ contrib_marks z (begun s verdicts) c ++ all_marks (committed_contrib z) (contrib_marks z) (committed_contrib z (begun s verdicts) c) cs
  unfolding batch_marks
  marks_more s verdicts c cs = refl
