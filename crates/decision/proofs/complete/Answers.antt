use mathlib.Core.Path.{refl, ap, ◌∙◌}
use Rattle.lists.specs.Lists.{found, nothing}
use Rattle.change.specs.Change.{complete}
use Rattle.batch.specs.Batch.{unvoted, ruling_of}
use Rattle.decision.proofs.DecisionLaws.{same_decision, era_begun}
use Rattle.decision.proofs.complete.Goals as goal

pub returns : goal.returns
returns c =
    let a = c.args in
    λ st l. same_decision
    (era_begun a.era a.parts.now.vote_counter c.new_era-parts.result a.ended.key_gen.pub_keys a.parts.now.params nothing st l c.new_era-parts.ensures)
    (ap ruling_of c.unvoted-ruling.ensures ∙ ap unvoted (c.complete.ensures ∙ ap complete c.node_change.ensures))
    refl
    (ap found c.generate.ensures)
