-- What is held of the votes before the first of a batch, and of work whose counter is the same.
-- Assumes nothing.
use Prim.Native.Nat.{ℕ, ◌≤◌}
use mathlib.Core.Path.{◌≡◌, sym, ap, ◌∙◌, subst}
use mathlib.Core.List.{List, map}
use lib.ListN.{length}
use Rattle.bincode.specs.Sizes.{base}
use Rattle.pub_key_map.specs.declared.Node.{Node}
use Rattle.vote_counter.specs.VoteCounter.{CounterOf, board_after}
use Rattle.steps.specs.Steps.{WorkOf}
use Rattle.commit.specs.declared.tally.Tally.{Tally}
use Rattle.commit.specs.Tally.{entries_of, kept_entry, any_fresh, Begun, begun_with, Tallied, VotesHeld}
use Rattle.commit.proofs.TallyLaws.{tallied_start, none_fresh}

module _ (s : List ℕ) (start : Begun) (era : ℕ) (ns : List Node) (t : Tally) where
  pub votes_start : (w : WorkOf) → w.state.counter.era ≡ era → w.state.counter.nodes ≡ ns → begun_with w.state.counter ≡ start
      → entries_of t ≡ map kept_entry start.votes → length (entries_of t) ≤ base.nodes → VotesHeld s start w era ns t
  votes_start w e n v h l =
      record {
        by_era = e;
        by_map = n;
        by_entry = rw (ap (λ (b : Begun). b.votes) v, h) (tallied_start s era ns 0 start.votes);
        by_board = rw (ap any_fresh h ∙ none_fresh start.votes) (ap (λ (b : Begun). b.board) v);
        room = l;
      }

  -- key messages leave the counter as it is, so what was held of the votes is held on
  pub same_counter : (w u : WorkOf) → u.state.counter ≡ w.state.counter → VotesHeld s start w era ns t → VotesHeld s start u era ns t
  same_counter w u e h =
      record {
        by_era = ap (λ (c : CounterOf). c.era) e ∙ h.by_era;
        by_map = ap (λ (c : CounterOf). c.nodes) e ∙ h.by_map;
        by_entry = subst (λ (c : CounterOf). Tallied s era ns 0 start.votes c.committed (entries_of t)) (sym e) h.by_entry;
        by_board = subst (λ (c : CounterOf). c.board ≡ board_after (any_fresh (entries_of t)) c.committed start.board) (sym e) h.by_board;
        room = h.room;
      }
