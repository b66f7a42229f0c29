-- What hands out the newer pending votes, and says which are newer.
-- Assumes nothing.
use Prim.Native.Nat.{ℕ, zero, suc}
use mathlib.Core.Path.{◌≡◌, refl}
use mathlib.Core.List.{List, [], ◌∷◌, map}
use mathlib.Core.Bool.{Bool, true, false, cond, not}
use lib.Dec.{leb}
use Rattle.std.specs.Prelude.{slice_get, Some, None}
use Rattle.std.specs.Prelude as std
use Rattle.std.specs.declared.option.Option.{Option}
use Rattle.std.specs.Option.{option_map, unwrap_or}
use Rattle.lists.specs.Lists.{option_as_found, at_place, filter}
use Rattle.votes.specs.declared.SignedVote.{SignedVote}
use Rattle.votes.specs.Votes.{SignedVoteOf, signed_of}
use Rattle.vote_counter.specs.VoteCounter.{obsolete, at_or_below}

-- whether a number is at or below one that there may be
pub at_or_below_some : (num : ℕ) (o : Option ℕ) → unwrap_or (option_map (λ old. leb num old) o) false ≡ at_or_below num (option_as_found (λ (x : ℕ). x) o)
at_or_below_some num (Some old) = refl
at_or_below_some num None = refl

-- newer than the vote that its voter has among these
abbrev pub newer_than : List SignedVoteOf → SignedVoteOf → Bool
newer_than cs v = cond (obsolete cs v) false true

-- the newer vote at a place
pub newer_at : (cs : List SignedVoteOf) (xs : List SignedVote) (n : ℕ)
    → option_as_found signed_of (slice_get (std.filter (λ x. not (obsolete cs (signed_of x))) xs) n) ≡ at_place n (filter (newer_than cs) (map signed_of xs))
unfolding filter at_place
newer_at cs [] n = refl
newer_at cs (x ∷ xs) n = go (obsolete cs (signed_of x)) n (newer_at cs xs)
  where
    go : (b : Bool) (n : ℕ)
        → ((k : ℕ) → option_as_found signed_of (slice_get (std.filter (λ x. not (obsolete cs (signed_of x))) xs) k) ≡ at_place k (filter (newer_than cs) (map signed_of xs)))
        → option_as_found signed_of (slice_get (cond (not b) (x ∷ std.filter (λ x. not (obsolete cs (signed_of x))) xs) (std.filter (λ x. not (obsolete cs (signed_of x))) xs)) n)
        ≡ at_place n (cond (cond b false true) (signed_of x ∷ filter (newer_than cs) (map signed_of xs)) (filter (newer_than cs) (map signed_of xs)))
    go true n h = h n
    go false zero h = refl
    go false (suc n) h = h n
