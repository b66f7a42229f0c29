-- What the search for a row's place comes to, and the marks that the pass over the votes makes.
use Rattle.std.specs.Prelude.{ℕ, suc, ◌+◌, ◌≤◌, ◌<◌, ◌≡◌, List, [], ◌∷◌, Bool, true, false, cond, not, length, map, take, eqb}
use Rattle.std.specs.List.{slice_index_or}
use Rattle.change.specs.Change.{ChangeOf, same_change}
use Rattle.votes.specs.Votes.{SignedVoteOf, no_signed}
use Rattle.winner.specs.Support.{support, choices}
use Rattle.winner.specs.Board.{row_for, is_before}
use Rattle.board.specs.declared.BoardRow.{BoardRow}
use Rattle.board.specs.Board.{count_in, voter_in, cast_of, kept_row}

-- how many rows stand before the first that a row stands before
unfoldable pub rank : BoardRow → List BoardRow → ℕ
rank r [] = 0
rank r (q ∷ qs) = cond (is_before count_in voter_in r q) 0 (suc (rank r qs))

-- the change that the vote at a place is for
abbrev pub choice_at : List SignedVoteOf → ℕ → ChangeOf
choice_at vs i = (slice_index_or vs i no_signed).vote.change

module _ (vs : List SignedVoteOf) where
  -- a vote begins a row unless an earlier one is for its change; then the row counts all votes for it
  abbrev pub Begins : ℕ → Bool → BoardRow → Type 0
  Begins i first row =
      (first ≡ eqb (support same_change (choice_at vs i) (take i (choices (map cast_of vs)))) 0)
      × (first ≡ true → row ≡ kept_row (row_for same_change (map cast_of vs) (choice_at vs i)))

  -- whether one of the first i votes is for the change of the vote at place k
  abbrev pub had_before : ℕ → ℕ → Bool
  had_before i k = not (eqb (support same_change (choice_at vs k) (take i (choices (map cast_of vs)))) 0)

  -- the marks before place p: of the votes from there on those for whose change an earlier one is
  abbrev pub Marked : ℕ → List Bool → Type 0
  Marked p seen = (k : ℕ) → p ≤ k → k < length vs → slice_index_or seen k false ≡ had_before p k

  -- the row that an unmarked vote begins, and the marks behind it
  abbrev pub Begun : ℕ → List Bool → BoardRow → List Bool → Type 0
  Begun p seen row after = Marked p seen → slice_index_or seen p false ≡ false → Begins p true row × Marked (p + 1) after
