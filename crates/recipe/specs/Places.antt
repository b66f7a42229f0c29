-- What the recipe holds place by place: of one proposal, whether it is complete and has too few good values, and its share.
use Rattle.std.specs.Prelude.{ℕ, ◌+◌, ◌-◌, List, [], ◌∷◌, Bool, true, false, cond, ◌&&◌, length, ltb, Some, None}
use Rattle.std.specs.declared.option.Option.{Option}
use Rattle.key_gen.specs.declared.Proposal.{Proposal}
use Rattle.key_gen.specs.KeyGen.{indices, complete, proposal_at}
use Rattle.recipe.specs.declared.Share.{Share}

-- the flags of the first n marked places
unfoldable pub first_marks : ℕ → List Bool → List Bool
first_marks n [] = []
first_marks n (b ∷ bs) = cond b (cond (ltb 0 n) (true ∷ first_marks (n - 1) bs) (false ∷ first_marks n bs)) (false ∷ first_marks n bs)

-- a part is complete and has fewer than t+1 good values
unfoldable pub short_at : ℕ → Proposal → Bool
short_at t p = complete t (proposal_at 0 p) && ltb (length (indices p.good)) (t + 1)

-- what stands at the place of a part that is complete: the first t+1 of the good values
abbrev pub share_with : ℕ → Proposal → Share
share_with t p = record { used = first_marks (t + 1) p.good }

unfoldable pub share_for : ℕ → Proposal → Option Share
share_for t p = cond (complete t (proposal_at 0 p)) (Some (share_with t p)) None

-- the same of a place where a part may stand
abbrev pub short_in : ℕ → Option Proposal → Bool
short_in t (Some p) = short_at t p
short_in t None = false

abbrev pub share_in : ℕ → Option Proposal → Option Share
share_in t (Some p) = share_for t p
share_in t None = None
