use Rattle.std.proofs.Common.{rules}
use Rattle.recipe.proofs.RecipeLaws.{given_held}
use Rattle.recipe.proofs.Share.of_proposal.Goals as goal

pub returns : goal.returns
returns c = given_held _ _ _ (λ e. search rules) (λ p e f. search rules) (λ p e f. search rules)
