use Rattle.std.proofs.Common.{rules}
use Rattle.recipe.proofs.RecipeLaws.{short_held}
use Rattle.recipe.proofs.is_short.Goals as goal

pub returns : goal.returns
returns c = short_held _ _ _ (λ e. search rules) (λ p e. search rules)
