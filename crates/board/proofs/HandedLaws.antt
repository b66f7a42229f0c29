-- The board that is kept of votes by ascending voter: what its rows are, that they add up, and what is handed out by place.
-- Assumes nothing.
use Prim.Native.Nat.{ℕ, ◌+◌, ◌≤◌, ◌<◌}
use mathlib.Core.Path.{◌≡◌, refl, sym, ap, subst, ◌∙◌}
use mathlib.Core.List.{List, [], ◌∷◌, map}
use mathlib.Core.Logic.{⊎_elim}
use native.Mathlib.Omega.{arith}
use lib.ListN.{length, length-map}
use Rattle.lists.specs.Lists.{Found, found, nothing, map_found, at_place, lookup}
use Rattle.lists.proofs.PlaceLaws.{at_map}
use Rattle.lists.proofs.SortedLaws.{map_lookup}
use Rattle.bincode.specs.Stands.{All}
use Rattle.change.specs.Change.{ChangeOf, same_change}
use Rattle.change.proofs.ChangeLaws.{change_true, change_refl}
use Rattle.votes.specs.Votes.{SignedVoteOf}
use Rattle.signed_votes.specs.SignedVotes.{voter_of}
use Rattle.signed_votes.proofs.VotesLaws.{AscendsFrom}
use Rattle.winner.specs.Support.{Cast, voters}
use Rattle.winner.specs.Board.{Row, sum}
use Rattle.winner.specs.BoardTerms.{Among, Unrepeated, IsBoard}
use Rattle.winner.proofs.BoardSums.{counts_add_up, rows_few}
use Rattle.winner.proofs.BoardLaws.{board_is, row_cast}
use Rattle.board.specs.Board.{count_in, cast_of, kept_row, board_of, worked_out, StandingOf, shown_row, change_by, standing_of, standing_at}

-- the counts of the rows add up to the number of votes
pub worked_sum : (vs : List SignedVoteOf) → sum (map count_in (worked_out vs)) ≡ length vs
unfolding worked_out
worked_sum vs = ap sum (counts (board_of vs)) ∙ counts_add_up same_change change_true change_refl (map cast_of vs) ∙ length-map vs cast_of
  where
    counts : (rs : List (Row ChangeOf)) → map count_in (map kept_row rs) ≡ map (λ (r : Row ChangeOf). r.count) rs
    counts [] = refl
    counts (r ∷ rs) = ap (λ (ns : List ℕ). r.count ∷ ns) (counts rs)

-- at most as many rows as votes
pub worked_few : (vs : List SignedVoteOf) → length (worked_out vs) ≤ length vs
unfolding worked_out
worked_few vs = omega (arith, length-map (board_of vs) kept_row, rows_few same_change (map cast_of vs), length-map vs cast_of)

-- keys that ascend do not stand twice
module _ {A : Type 0} (key : A → ℕ) where
  not_behind : (low : ℕ) (xs : List A) → AscendsFrom key low xs → (n : ℕ) → n < low → Among n (map key xs) → ⊥
  not_behind low [] a n h m = m
  not_behind low (x ∷ xs) a n h m =
      ⊎_elim (λ e. let y : ⊥ = omega (arith, e, a.0) in y) (λ k. not_behind (key x + 1) xs a.1 n (omega (arith, a.0)) k) m

  pub ascending_apart : (low : ℕ) (xs : List A) → AscendsFrom key low xs → Unrepeated (map key xs)
  ascending_apart low [] a = tt
  ascending_apart low (x ∷ xs) a = (not_behind (key x + 1) xs a.1 (key x) (omega arith), ascending_apart (key x + 1) xs a.1)

voters_are : (vs : List SignedVoteOf) → map voter_of vs ≡ voters (map cast_of vs)
voters_are [] = refl
voters_are (v ∷ vs) = ap (λ (ns : List ℕ). voter_of v ∷ ns) (voters_are vs)

pub ascending_unrepeated : (low : ℕ) (vs : List SignedVoteOf) → AscendsFrom voter_of low vs → Unrepeated (voters (map cast_of vs))
ascending_unrepeated low vs a = subst Unrepeated (voters_are vs) (ascending_apart voter_of low vs a)

module _ (vs : List SignedVoteOf) (ascend : AscendsFrom voter_of 0 vs) where
  -- it is the board of the votes, as 02 says it
  pub worked_is : IsBoard same_change (map cast_of vs) (board_of vs)
  worked_is = board_is same_change change_true change_refl (map cast_of vs) (ascending_unrepeated 0 vs ascend)

  -- a row is handed out with its change
  change_found : (r : Row ChangeOf) → lookup (λ (v : Cast ChangeOf). v.voter) (map cast_of vs) r.lowest ≡ found (record { voter = r.lowest; choice = r.choice })
      → standing_of vs (kept_row r) ≡ shown_row r
  change_found r e = go (lookup voter_of vs r.lowest) (map_lookup cast_of (λ (v : Cast ChangeOf). v.voter) vs r.lowest ∙ e)
    where
      go : (f : Found SignedVoteOf) → map_found cast_of f ≡ found (record { voter = r.lowest; choice = r.choice })
          → ◌≡◌ {A = StandingOf} (record { change = change_by f; count = r.count }) (shown_row r)
      go (found v) q = let c : cast_of v ≡ record { voter = r.lowest; choice = r.choice } = cc in λ i. record { change = (c i).choice; count = r.count }
      go nothing q = absurd (let o : ◌≡◌ {A = ℕ} 0 1 = cc in let y : ⊥ = omega arith in y)

  rows_found : (rs : List (Row ChangeOf))
      → All (λ (r : Row ChangeOf). lookup (λ (v : Cast ChangeOf). v.voter) (map cast_of vs) r.lowest ≡ found (record { voter = r.lowest; choice = r.choice })) rs
      → map (standing_of vs) (map kept_row rs) ≡ map shown_row rs
  rows_found [] a = refl
  rows_found (r ∷ rs) a = λ i. change_found r a.0 i ∷ rows_found rs a.1 i

  -- by place the rows of the board, each a change with its count
  pub worked_handed : (n : ℕ) → standing_at n (worked_out vs) vs ≡ map_found shown_row (at_place n (board_of vs))
  unfolding standing_at worked_out
  worked_handed n =
      sym (at_map (standing_of vs) n (map kept_row (board_of vs)))
      ∙ ap (at_place n) (rows_found (board_of vs) (row_cast same_change change_true change_refl (map cast_of vs) (ascending_unrepeated 0 vs ascend)))
      ∙ at_map shown_row n (board_of vs)
