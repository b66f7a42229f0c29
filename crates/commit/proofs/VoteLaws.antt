-- What a committed vote comes to, decided on the entries: nothing, an entry more, or a fault of the proposer.
-- Assumes nothing.
use Prim.Native.Nat.{ℕ}
use mathlib.Core.Path.{◌≡◌, refl, sym, ap, ◌∙◌, subst}
use mathlib.Core.List.{List}
use mathlib.Core.Bool.{Bool, true, false, cond}
use lib.Dec.{eqb}
use borrow.Author.Tests.{eqb-true, eq-eqb}
use Rattle.std.specs.declared.option.Option.TheVariants.{Some, None}
use Rattle.lists.specs.Lists.{insert_within}
use Rattle.lists.proofs.ListLaws.{false_true}
use Rattle.bincode.specs.Sizes.{base}
use Rattle.pub_key_map.specs.declared.Node.{Node}
use Rattle.network_info.specs.NetworkInfo.{key_of}
use Rattle.fault_log.specs.declared.FaultKind.TheVariants.{InvalidCommittedVote}
use Rattle.votes.specs.declared.VoteHead.{VoteHead}
use Rattle.votes.specs.VoteHead.{head_of}
use Rattle.votes.specs.Votes.{SignedVoteOf}
use Rattle.signed_votes.specs.SignedVotes.{voter_of, num_of}
use Rattle.vote_counter.specs.VoteCounter.{CounterOf, obsolete, is_key, valid_vote, stored, nothing_new, fault, vote_effect, after_committed, add_committed}
use Rattle.dynamic_honey_badger.specs.State.{with_counter}
use Rattle.steps.specs.Steps.{WorkOf, with_state, blame, voted_as, committed_vote}
use Rattle.commit.specs.declared.tally.Entry.{Entry}
use Rattle.commit.specs.declared.tally.Tally.{Tally}
use Rattle.commit.specs.Tally.{entries_of, entry_voter, outdated, Begun, Fresh, VotesHeld}
use Rattle.commit.specs.declared.Terms.{Terms}
use Rattle.commit.specs.Terms.{nodes_by}
use Rattle.commit.specs.Votes.{good_head, VoteCommitted}
use Rattle.commit.proofs.TallyLaws.{outdated_is}
use Rattle.commit.proofs.PutLaws.{within_tallied, put_board}
use Rattle.commit.proofs.StayedLaws.{add_good}
use Rattle.commit.proofs.TurnLaws.{within_bound}

-- what a good head says
good_parts : (era : ℕ) (ns : List Node) (h : VoteHead) → good_head era ns h ≡ true → (h.era ≡ era) × (is_key h.sig (key_of ns h.voter) ≡ true)
unfolding good_head
good_parts era ns h g = go (eqb h.era era) refl g
  where
    go : (b : Bool) → eqb h.era era ≡ b → cond b (is_key h.sig (key_of ns h.voter)) false ≡ true → (h.era ≡ era) × (is_key h.sig (key_of ns h.voter) ≡ true)
    go true e k = (eqb-true h.era era e, k)
    go false e k = absurd (false_true k)

-- a vote that is not good is a fault; a good one that is obsolete changes nothing
module _ (c : CounterOf) (v : SignedVoteOf) where
  add_bad : good_head c.era c.nodes (head_of v) ≡ false → add_committed base c v ≡ record { counter = c; effect = fault InvalidCommittedVote }
  unfolding add_committed vote_effect valid_vote good_head
  add_bad g = go (eqb v.vote.era c.era) (is_key v.sig (key_of c.nodes (voter_of v))) (obsolete c.committed v) g
    where
      go : (p q o : Bool) → cond p q false ≡ false
          → after_committed base c v (cond p (cond q (cond o nothing_new stored) (fault InvalidCommittedVote)) (fault InvalidCommittedVote)) ≡ record { counter = c; effect = fault InvalidCommittedVote }
      go true true o k = absurd (false_true (sym k))
      go true false o k = refl
      go false q o k = refl

  add_old : v.vote.era ≡ c.era → is_key v.sig (key_of c.nodes (voter_of v)) ≡ true → obsolete c.committed v ≡ true → add_committed base c v ≡ record { counter = c; effect = nothing_new }
  unfolding add_committed vote_effect valid_vote
  add_old e k o = rw (eq-eqb v.vote.era c.era e, k, o)

module _ (s : List ℕ) (era : ℕ) (ns : List Node) (start : Begun) (w : WorkOf) (t : Tally) (h : VotesHeld s start w era ns t) (v : SignedVoteOf) (proposer : ℕ) where
  known : obsolete w.state.counter.committed v ≡ outdated (entries_of t) (voter_of v) (num_of v)
  known = sym (outdated_is s era ns v h.by_entry)

  vote_bad : good_head era ns (head_of v) ≡ false → committed_vote base proposer w v ≡ blame base proposer InvalidCommittedVote w
  unfolding committed_vote
  vote_bad g = ap (voted_as base proposer w) (add_bad w.state.counter v (rw (h.by_era, h.by_map) g))

  module _ (g : good_head era ns (head_of v) ≡ true) where
    vote_old : outdated (entries_of t) (voter_of v) (num_of v) ≡ true → committed_vote base proposer w v ≡ w
    unfolding committed_vote
    vote_old o =
        let p = good_parts era ns (head_of v) g in
        ap (voted_as base proposer w) (add_old w.state.counter v (p.0 ∙ sym h.by_era) (rw h.by_map p.1) (known ∙ o))

    vote_good : outdated (entries_of t) (voter_of v) (num_of v) ≡ false
        → committed_vote base proposer w v ≡ with_state w (with_counter w.state (after_committed base w.state.counter v stored).counter)
    unfolding committed_vote
    vote_good o =
        let p = good_parts era ns (head_of v) g in
        ap (voted_as base proposer w) (add_good base w.state.counter v (known ∙ o) (p.0 ∙ sym h.by_era) (rw h.by_map p.1))

-- a vote with a head, which stands at a place: one that is not good, a good one that is old, and a good new one
module _ (t : Terms) (place : ℕ) (h : VoteHead) (tally : Tally) where
  number_told : (b : Bool) → outdated (entries_of tally) h.voter h.num ≡ b → (v : SignedVoteOf) → h ≡ head_of v → outdated (entries_of tally) (voter_of v) (num_of v) ≡ b
  number_told b o v e = subst (λ (x : VoteHead). outdated (entries_of tally) x.voter x.num ≡ b) e o

  good_told : (b : Bool) → good_head t.era (nodes_by t) h ≡ b → (v : SignedVoteOf) → h ≡ head_of v → good_head t.era (nodes_by t) (head_of v) ≡ b
  good_told b g v e = subst (λ (x : VoteHead). good_head t.era (nodes_by t) x ≡ b) e g

  pub bad_vote : good_head t.era (nodes_by t) h ≡ false → VoteCommitted t place h tally tally (Some InvalidCommittedVote)
  bad_vote g v c stands same w start proposer held =
      rw (vote_bad t.bytes.now t.era (nodes_by t) start w tally held v proposer (good_told false g v same)) (
        record { by_era = held.by_era; by_map = held.by_map; by_entry = held.by_entry; by_board = held.by_board; room = held.room },
        refl,
      )

  module _ (g : good_head t.era (nodes_by t) h ≡ true) where
    pub old_vote : outdated (entries_of tally) h.voter h.num ≡ true → VoteCommitted t place h tally tally None
    old_vote o v c stands same w start proposer held =
        rw (vote_old t.bytes.now t.era (nodes_by t) start w tally held v proposer (good_told true g v same) (number_told true o v same)) (held, refl)

    abbrev put : Entry
    put = record { voter = h.voter; num = h.num; place = Some place }

    pub good_vote : outdated (entries_of tally) h.voter h.num ≡ false → (tally' : Tally) → entries_of tally' ≡ insert_within entry_voter base.nodes put (entries_of tally)
        → VoteCommitted t place h tally tally' None
    good_vote o tally' e v c stands same w start proposer held =
        let n = number_told false o v same in
        let k = good_told true g v same in
        let parts = good_parts t.era (nodes_by t) (head_of v) k in
        let fresh : Fresh t.bytes.now t.era (nodes_by t) v put =
        record {
          numbers = record { by_voter = ap (λ (x : VoteHead). x.voter) same; by_num = ap (λ (x : VoteHead). x.num) same };
          place = place;
          placed = refl;
          behind = c;
          stands = stands;
          of_era = parts.0;
          signed = parts.1;
        } in
        rw (vote_good t.bytes.now t.era (nodes_by t) start w tally held v proposer k n) (
          record {
            by_era = held.by_era;
            by_map = held.by_map;
            by_entry = rw e (within_tallied t.bytes.now t.era (nodes_by t) v put fresh base.nodes held.by_entry (known t.bytes.now t.era (nodes_by t) start w tally held v proposer ∙ n));
            by_board = rw e (put_board t.bytes.now t.era (nodes_by t) v put fresh base.nodes held.by_entry w.state.counter.board start.board held.by_board);
            room = rw e (within_bound base.nodes put (entries_of tally) held.room);
          },
          refl,
        )
