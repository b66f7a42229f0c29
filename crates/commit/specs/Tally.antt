-- The committed votes while a batch is handled, as a list of small numbers: voter, number, and of a vote of this batch where its bytes stand.
use Rattle.std.specs.Prelude.{ℕ, ◌+◌, ◌≤◌, ◌<◌, max, ◌≡◌, List, [], ◌∷◌, Bool, true, false, cond, length, replicate, Some, None, is_some}
use Rattle.std.specs.declared.option.Option.{Option}
use Rattle.lists.specs.Lists.{map_found, lookup}
use Rattle.array_list.specs.ArrayList.{items_in}
use Rattle.bincode.specs.Read.{value}
use Rattle.bincode.specs.Sizes.{base}
use Rattle.pub_key_map.specs.declared.Node.{Node}
use Rattle.network_info.specs.NetworkInfo.{key_of}
use Rattle.votes.specs.Votes.{SignedVoteOf, read_signed_vote}
use Rattle.signed_votes.specs.SignedVotes.{voter_of, num_of}
use Rattle.board.specs.declared.BoardRow.{BoardRow}
use Rattle.vote_counter.specs.VoteCounter.{CounterOf, at_or_below, obsolete, is_key, board_after}
use Rattle.steps.specs.Steps.{WorkOf}
use Rattle.commit.specs.declared.tally.Entry.{Entry}
use Rattle.commit.specs.declared.tally.Tally.{Tally}

-- the entries that count: those below the count, as far as the array reaches
abbrev pub entries_of : Tally → List Entry
entries_of t = items_in t.entries

abbrev pub entry_voter : Entry → ℕ
entry_voter e = e.voter

abbrev pub entry_num : Entry → ℕ
entry_num e = e.num

abbrev pub no_entry : Entry
no_entry = record { voter = 0; num = 0; place = None }

abbrev pub no_entries : Tally
no_entries = record { entries = record { count = 0; items = replicate base.nodes no_entry } }

-- a vote that was there before the batch
abbrev pub kept_entry : SignedVoteOf → Entry
kept_entry v = record { voter = voter_of v; num = num_of v; place = None }

-- a number is at or below that of the first entry with the voter
unfoldable pub outdated : List Entry → ℕ → ℕ → Bool
outdated es voter num = at_or_below num (map_found entry_num (lookup entry_voter es voter))

-- an entry is of this batch: it has a place
abbrev pub is_placed : Option ℕ → Bool
is_placed o = is_some o

abbrev pub is_fresh : Entry → Bool
is_fresh e = is_placed e.place

-- some entry is of this batch
unfoldable pub any_fresh : List Entry → Bool
any_fresh [] = false
any_fresh (e ∷ es) = cond (is_fresh e) true (any_fresh es)

-- an entry has the voter and the number of a vote
pub record Numbered (v : SignedVoteOf) (e : Entry) : Type 0 where
  pub by_voter : e.voter ≡ voter_of v
  pub by_num : e.num ≡ num_of v

-- a vote's voter is below that of the first of some votes
abbrev pub Before : SignedVoteOf → List SignedVoteOf → Type 0
Before v [] = Unit {0}
Before v (x ∷ xs) = voter_of v < voter_of x

module _ (s : List ℕ) (era : ℕ) (ns : List Node) where
  -- an entry stands for a vote of this batch, which is of the era and signed under its voter's key
  pub record Fresh (v : SignedVoteOf) (e : Entry) : Type 0 where
    pub numbers : Numbered v e
    pub place : ℕ
    pub placed : e.place ≡ Some place
    pub behind : ℕ
    pub stands : read_signed_vote base s place ≡ value v behind
    pub of_era : v.vote.era ≡ era
    pub signed : is_key v.sig (key_of ns (voter_of v)) ≡ true

  -- votes before the batch, votes now, and entries, in step. A vote was kept, or one of the batch stands for it or between two. Voters of the batch's votes are
  -- at least `low`, which is above every voter passed.
  pub data Tallied : ℕ → List SignedVoteOf → List SignedVoteOf → List Entry → Type 0 where
    none : {low : ℕ} → Tallied low [] [] []
    kept : {low : ℕ} {v : SignedVoteOf} {e : Entry} {xs vs : List SignedVoteOf} {es : List Entry} → e.place ≡ None → Numbered v e
        → Tallied (max low (voter_of v + 1)) xs vs es → Tallied low (v ∷ xs) (v ∷ vs) (e ∷ es)
    replaced : {low : ℕ} {x v : SignedVoteOf} {e : Entry} {xs vs : List SignedVoteOf} {es : List Entry} → Fresh v e → low ≤ voter_of v → voter_of x ≡ voter_of v
        → obsolete (x ∷ xs) v ≡ false → Tallied (voter_of v + 1) xs vs es → Tallied low (x ∷ xs) (v ∷ vs) (e ∷ es)
    added : {low : ℕ} {v : SignedVoteOf} {e : Entry} {xs vs : List SignedVoteOf} {es : List Entry} → Fresh v e → low ≤ voter_of v → Before v xs
        → obsolete xs v ≡ false → Tallied (voter_of v + 1) xs vs es → Tallied low xs (v ∷ vs) (e ∷ es)

-- the committed votes before a batch, and the board beside them
pub record Begun : Type 0 where
  pub votes : List SignedVoteOf
  pub board : List BoardRow

abbrev pub begun_with : CounterOf → Begun
begun_with c = record { votes = c.committed; board = c.board }

-- what a loop over votes holds of the work so far: era, map, and the committed votes; `start` are those before the batch. The board was worked out from the votes
-- if one of this batch took a place, else it is the one before.
pub record VotesHeld (s : List ℕ) (start : Begun) (w : WorkOf) (era : ℕ) (ns : List Node) (t : Tally) : Type 0 where
  pub by_era : w.state.counter.era ≡ era
  pub by_map : w.state.counter.nodes ≡ ns
  pub by_entry : Tallied s era ns 0 start.votes w.state.counter.committed (entries_of t)
  pub by_board : w.state.counter.board ≡ board_after (any_fresh (entries_of t)) w.state.counter.committed start.board
  pub room : length (entries_of t) ≤ base.nodes
