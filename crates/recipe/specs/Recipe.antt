-- 01: `generate` becomes a recipe: complete proposers ascending and, for each, the first t+1 acknowledgers with good values, by ascending
-- index; an observer's names proposers only; if fewer exist, the recipe says that the share is missing.
use Rattle.std.specs.Prelude.{ℕ, ◌+◌, List, [], ◌∷◌, map, Bool, false, cond, ◌||◌, length, take, ltb}
use Rattle.lists.specs.Lists.{present, filter}
use Rattle.key_gen.specs.KeyGen.{ProposalOf, KeyGenOf, by_proposer, threshold, observes, complete, indices}
use Rattle.recipe.specs.declared.Share as shares
use Rattle.recipe.specs.declared.Recipe.{Recipe}
use Rattle.recipe.specs.declared.Recipe.TheVariants.{Observer, Share, Missing}

-- a proposer with the acknowledgers whose values are used
pub record ShareOf : Type 0 where
  pub proposer : ℕ
  pub used : List ℕ

pub data RecipeOf : Type 0 where
  observer : List ℕ → RecipeOf
  share : List ShareOf → RecipeOf
  missing : List ℕ → RecipeOf

abbrev pub complete_parts : KeyGenOf → List ProposalOf
complete_parts g = filter (complete (threshold g)) g.parts

abbrev pub share_of : ℕ → ProposalOf → ShareOf
share_of t q = record { proposer = q.proposer; used = take (t + 1) q.good }

-- some complete proposer has fewer than t+1 good values
unfoldable pub some_short : ℕ → List ProposalOf → Bool
some_short t [] = false
some_short t (q ∷ qs) = ltb (length q.good) (t + 1) || some_short t qs

unfoldable pub recipe : KeyGenOf → RecipeOf
recipe g =
    cond (observes g) (observer (map by_proposer (complete_parts g)))
    (cond (some_short (threshold g) (complete_parts g))
    (missing (map by_proposer (complete_parts g)))
    (share (map (share_of (threshold g)) (complete_parts g))))

-- as code holds it: proposers by index, flags or a place for the share of each
abbrev pub share_at : ℕ → shares.Share → ShareOf
share_at i s = record { proposer = i; used = indices s.used }

abbrev pub recipe_of : Recipe → RecipeOf
recipe_of (Observer complete) = observer (indices complete)
recipe_of (Share shares) = share (present share_at 0 shares)
recipe_of (Missing complete) = missing (indices complete)
