-- 02, CR 3: the board as a node keeps it: the lowest voter and the count of each row, in order. The change of a row is the one that its voter's vote is for.
use Rattle.std.specs.Prelude.{ℕ, List, [], map, replicate}
use Rattle.array_list.specs.ArrayList.{items_in}
use Rattle.lists.specs.Lists.{Found, found, nothing, map_found, at_place, lookup}
use Rattle.bincode.specs.Sizes.{base}
use Rattle.change.specs.Change.{ChangeOf, node_change, change_of, same_change}
use Rattle.votes.specs.Votes.{SignedVoteOf}
use Rattle.signed_votes.specs.SignedVotes.{voter_of}
use Rattle.winner.specs.Support.{Cast}
use Rattle.winner.specs.Board.{Row, board}
use Rattle.board.specs.declared.Board.{Board}
use Rattle.board.specs.declared.BoardRow.{BoardRow}
use Rattle.board.specs.declared.Standing.{Standing}

-- the rows that count: those below the count, as far as the array reaches
abbrev pub rows_of : Board → List BoardRow
rows_of b = items_in b.rows

-- keys of a row
abbrev pub count_in : BoardRow → ℕ
count_in r = r.count

abbrev pub voter_in : BoardRow → ℕ
voter_in r = r.voter

-- no rows
abbrev pub no_row : BoardRow
no_row = record { voter = 0; count = 0 }

abbrev pub no_board : Board
no_board = record { rows = record { count = 0; items = replicate base.nodes no_row } }

-- a vote is its voter's choice
abbrev pub cast_of : SignedVoteOf → Cast ChangeOf
cast_of v = record { voter = voter_of v; choice = v.vote.change }

-- a row as it is kept
abbrev pub kept_row : Row ChangeOf → BoardRow
kept_row r = record { voter = r.lowest; count = r.count }

-- the board of votes, and as it is kept
abbrev pub board_of : List SignedVoteOf → List (Row ChangeOf)
board_of vs = board same_change (map cast_of vs)

unfoldable pub worked_out : List SignedVoteOf → List BoardRow
worked_out vs = map kept_row (board_of vs)

-- a row as it is handed out: a change and its count
pub record StandingOf : Type 0 where
  pub change : ChangeOf
  pub count : ℕ

-- of a row its change and its count are shown, not its lowest voter
abbrev pub shown_row : Row ChangeOf → StandingOf
shown_row r = record { change = r.choice; count = r.count }

-- a voter without a stored vote, of whom only an impossible counter has a row, is for this change
abbrev pub no_change : ChangeOf
no_change = node_change []

abbrev pub change_by : Found SignedVoteOf → ChangeOf
change_by (found v) = v.vote.change
change_by nothing = no_change

abbrev pub standing_of : List SignedVoteOf → BoardRow → StandingOf
standing_of vs r = record { change = change_by (lookup voter_of vs r.voter); count = r.count }

-- the row at a place of kept rows beside votes, 0 first, none past the last
unfoldable pub standing_at : ℕ → List BoardRow → List SignedVoteOf → Found StandingOf
standing_at n rs vs = map_found (standing_of vs) (at_place n rs)

-- as code says it
abbrev pub said_standing : Standing → StandingOf
said_standing r = record { change = change_of r.change; count = r.count }
