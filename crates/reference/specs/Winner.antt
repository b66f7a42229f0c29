-- 02, CR 8: of the changes with more than f voters of the current map the one with most voters wins, "and among equals the one supported by the lowest voter id".
use Rattle.std.specs.Prelude.{ℕ, ◌<◌, ◌≡◌, List, [], ◌∷◌, map, Bool, true, false, not, cond, ◌&&◌, ◌||◌, length, ltb, eqb}
use Rattle.lists.specs.Lists.{Found, found, nothing, filter}
use Rattle.change.specs.Change.{ChangeOf, same_change}
use Rattle.votes.specs.Votes.{SignedVoteOf}
use Rattle.winner.specs.BoardTerms.{Among}

abbrev pub choice_of : SignedVoteOf → ChangeOf
choice_of v = v.vote.change

-- the votes for a change: how many voters are for it, and who they are (02, CR 7)
abbrev pub votes_for : ChangeOf → List SignedVoteOf → List SignedVoteOf
votes_for c vs = filter (λ v. same_change (choice_of v) c) vs

unfoldable pub voters_for : ChangeOf → List SignedVoteOf → ℕ
voters_for c vs = length (votes_for c vs)

unfoldable pub ids_for : ChangeOf → List SignedVoteOf → List ℕ
ids_for c vs = map (λ v. v.voter) (votes_for c vs)

-- an id is lower than all of some, and one of some is lower than all of others
abbrev pub below_all : ℕ → List ℕ → Bool
below_all id [] = true
below_all id (other ∷ others) = ltb id other && below_all id others

abbrev pub has_lower : List ℕ → List ℕ → Bool
has_lower [] others = false
has_lower (id ∷ ids) others = below_all id others || has_lower ids others

-- among all votes a change beats another: more voters, or as many and a lower one than all of the other's
module _ (all : List SignedVoteOf) where
  unfoldable pub beats : ChangeOf → ChangeOf → Bool
  beats c d = ltb (voters_for d all) (voters_for c all) || (eqb (voters_for c all) (voters_for d all) && has_lower (ids_for c all) (ids_for d all))

  -- the change of one of some voters beats it
  abbrev pub beaten_by : List SignedVoteOf → ChangeOf → Bool
  beaten_by [] c = false
  beaten_by (v ∷ vs) c = beats (choice_of v) c || beaten_by vs c

  -- a change that is over f and that none beats
  unfoldable pub unbeaten : ℕ → ChangeOf → Bool
  unbeaten f c = ltb f (voters_for c all) && not (beaten_by all c)

  -- the first of some voters to have one
  unfoldable pub first_unbeaten : ℕ → List SignedVoteOf → Found ChangeOf
  first_unbeaten f [] = nothing
  first_unbeaten f (v ∷ vs) = cond (unbeaten f (choice_of v)) (found (choice_of v)) (first_unbeaten f vs)

-- the change that wins
unfoldable pub most_support : ℕ → List SignedVoteOf → Found ChangeOf
most_support f vs = first_unbeaten vs f vs

-- The same as a relation, in which the laws of a step are said: "most voters", "and among equals the one supported by the lowest voter id"
pub data Beats (vs : List SignedVoteOf) (c d : ChangeOf) : Type 0 where
  more : voters_for d vs < voters_for c vs → Beats vs c d
  lower : voters_for d vs ≡ voters_for c vs → (v : SignedVoteOf) → Among v vs → v.vote.change ≡ c
      → ((w : SignedVoteOf) → Among w vs → w.vote.change ≡ d → v.voter < w.voter) → Beats vs c d

-- a change wins: it is over f, and beats every other that a voter has
pub record Wins (f : ℕ) (vs : List SignedVoteOf) (c : ChangeOf) : Type 0 where
  pub passes : f < voters_for c vs
  pub most : (v : SignedVoteOf) → Among v vs → (v.vote.change ≡ c → ⊥) → Beats vs c v.vote.change

-- 02, CR 7, "all voters then supporting it": the ids of those whose vote is for a change, in the order of the votes
pub data Carry (c : ChangeOf) : List SignedVoteOf → List ℕ → Type 0 where
  nobody : Carry c [] []
  one : {vs : List SignedVoteOf} {ids : List ℕ} (v : SignedVoteOf) → v.vote.change ≡ c → Carry c vs ids → Carry c (v ∷ vs) (v.voter ∷ ids)
  other : {vs : List SignedVoteOf} {ids : List ℕ} (v : SignedVoteOf) → (v.vote.change ≡ c → ⊥) → Carry c vs ids → Carry c (v ∷ vs) ids
