use mathlib.Core.List.{List}
use mathlib.Core.Path.{sym, ap, ◌∙◌}
use Rattle.bincode.specs.Sizes.{base}
use Rattle.pub_key_map.specs.declared.Node.{Node}
use Rattle.change.specs.Change.{ChangeOf, node_change}
use Rattle.node_change.specs.NodeChange.{without_node}
use Rattle.dynamic_honey_badger.specs.OwnVotes.{vote_for, vote_to_remove}
use Rattle.dynamic_honey_badger.proofs.OwnVotesLaws.{vote_nothing}
use Rattle.dynamic_honey_badger.proofs.PartsLaws.{validator, wanted_cast}
use Rattle.dynamic_honey_badger.proofs.wanted_without.Goals as goal

pub returns : goal.returns
unfolding vote_to_remove
returns c =
    let a = c.args in
    let w = c.node_change.ensures ∙ ap node_change c.without_node-next.ensures in
    λ s m i. wanted_cast base s _ (validator s _ _ _ m i (sym c.is_member.ensures ∙ c.if-not-is_member.false)) ∙ ap (vote_for base s) (w ∙ ap {B = ChangeOf} (λ (ns : List Node). node_change (without_node ns a.id)) (sym m))

pub returns-then-not-is_member : goal.returns-then-not-is_member
unfolding vote_to_remove
returns-then-not-is_member c =
    λ s m i. sym (vote_nothing base s _ (validator s _ _ _ m i (sym c.is_member.ensures ∙ c.if-not-is_member.true)))
