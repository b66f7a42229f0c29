-- Turns of the loop that lists the voters of a change.
-- Assumes nothing.
use Prim.Native.Nat.{ℕ, ◌+◌, ◌≤◌, ◌<◌}
use mathlib.Core.Path.{◌≡◌, refl, sym, ap, ◌∙◌}
use mathlib.Core.List.{List, [], ◌∷◌, ◌++◌, map, append-nil}
use mathlib.Core.Bool.{true, false, cond}
use native.Mathlib.Omega.{arith}
use lib.ListN.{length, take, get_or, length-map, length-append}
use lib.Seq.{take_all}
use Rattle.bincode.specs.Sizes.{base}
use Rattle.change.specs.Change.{ChangeOf, change_of, same_change}
use Rattle.votes.specs.declared.SignedVote.{SignedVote}
use Rattle.votes.specs.Votes.{signed_of, no_signed}
use Rattle.winner.specs.Support.{Cast, supporters}
use Rattle.winner.proofs.SupporterLaws.{next_supporter}
use Rattle.board.specs.Board.{cast_of}
use Rattle.board.proofs.BoardTurns.{vote_at, cast_at}

-- the votes as casts
module _ (xs : List SignedVote) where
  abbrev pub casts : List (Cast ChangeOf)
  casts = map cast_of (map signed_of xs)

  pub many : length casts ≡ length xs
  many = length-map (map signed_of xs) cast_of ∙ length-map xs signed_of

  pub cast_is : (i : ℕ) → i < length xs → (z : SignedVote) → get_or casts i (cast_of no_signed) ≡ cast_of (signed_of (get_or xs i z))
  cast_is i l z = cast_at (map signed_of xs) i ∙ ap cast_of (vote_at xs i (omega (arith, length-map xs signed_of)) z)

module _ (x : ChangeOf) (xs : List SignedVote) where
  -- those listed of the first votes, no more than there are
  abbrev pub Listed : ℕ → List ℕ → Type 0
  Listed i ids = (ids ≡ supporters same_change x (take i (casts xs))) × (length ids ≤ i)

  pub listed_start : Listed 0 []
  unfolding supporters
  listed_start = (refl, omega arith)

  module _ (i : ℕ) (l : i < length xs) (z : SignedVote) (ids : List ℕ) (h : Listed i ids) where
    one_more : supporters same_change x (take (i + 1) (casts xs)) ≡ ids ++ cond (same_change (change_of (get_or xs i z).vote.change) x) ((get_or xs i z).voter ∷ []) []
    one_more =
        next_supporter same_change x (casts xs) i (omega (arith, many xs)) (cast_of no_signed)
        ∙ (λ j. sym h.0 j ++ cond (same_change (cast_is xs i l z j).choice x) ((cast_is xs i l z j).voter ∷ []) [])

    -- it is for the change, and there is a place
    pub listed_yes : length xs ≤ base.nodes → same_change (change_of (get_or xs i z).vote.change) x ≡ true → Listed (i + 1) (take base.nodes (ids ++ ((get_or xs i z).voter ∷ [])))
    listed_yes few e =
        let long : length (ids ++ ((get_or xs i z).voter ∷ [])) ≡ length ids + 1 = length-append ids ((get_or xs i z).voter ∷ []) in
        let all : take base.nodes (ids ++ ((get_or xs i z).voter ∷ [])) ≡ ids ++ ((get_or xs i z).voter ∷ []) = take_all base.nodes (ids ++ ((get_or xs i z).voter ∷ [])) (omega (arith, h.1)) in
        rw all (sym (rw e at one_more), omega (arith, h.1))

    -- it is for another
    pub listed_no : same_change (change_of (get_or xs i z).vote.change) x ≡ false → Listed (i + 1) ids
    listed_no e = (sym (append-nil ids) ∙ sym (rw e at one_more), omega (arith, h.1))

  pub listed_end : (i : ℕ) → length xs ≤ i → (ids : List ℕ) → Listed i ids → ids ≡ supporters same_change x (casts xs)
  listed_end i l ids h = h.0 ∙ ap (supporters same_change x) (take_all i (casts xs) (omega (arith, many xs)))
