use mathlib.Core.List.{List}
use mathlib.Core.Path.{sym, ap, ◌∙◌}
use Rattle.bincode.specs.Sizes.{base}
use Rattle.pub_key_map.specs.declared.Node.{Node}
use Rattle.pub_key_map.specs.PubKeyMap.{nodes_of}
use Rattle.change.specs.Change.{ChangeOf, node_change}
use Rattle.node_change.specs.NodeChange.{row13, with_node}
use Rattle.dynamic_honey_badger.specs.OwnVotes.{vote_for}
use Rattle.dynamic_honey_badger.proofs.OwnVotesLaws.{add_key, add_nothing, add_full, add_voted}
use Rattle.dynamic_honey_badger.proofs.PartsLaws.{validator, wanted_cast}
use Rattle.dynamic_honey_badger.proofs.wanted_with.Goals as goal

pub returns-then-key-eq0 : goal.returns-then-key-eq0
returns-then-key-eq0 c =
    let a = c.args in
    λ s m i. sym (add_key base s a.id a.key c.if-key-eq0.true)

pub returns-then-is_full_for : goal.returns-then-is_full_for
returns-then-is_full_for c =
    let a = c.args in
    λ s m i. sym (add_full base s a.id a.key c.if-key-eq0.false (validator s _ _ _ m i (sym c.is_member.ensures ∙ c.if-not-is_member.false)) (ap (λ (ns : List Node). row13 base ns a.id) m ∙ sym c.is_full_for.ensures ∙ c.if-is_full_for.true))

pub returns : goal.returns
returns c =
    let a = c.args in
    let w = c.node_change.ensures ∙ ap node_change (c.with_node-next.ensures ∙ ap (with_node base (nodes_of a.map)) c.new.ensures) in
    λ s m i. wanted_cast base s _ (validator s _ _ _ m i (sym c.is_member.ensures ∙ c.if-not-is_member.false)) ∙ ap (vote_for base s) (w ∙ ap {B = ChangeOf} (λ (ns : List Node). node_change (with_node base ns (record { id = a.id; key = a.key }))) (sym m)) ∙ sym (add_voted base s a.id a.key c.if-key-eq0.false (validator s _ _ _ m i (sym c.is_member.ensures ∙ c.if-not-is_member.false)) (ap (λ (ns : List Node). row13 base ns a.id) m ∙ sym c.is_full_for.ensures ∙ c.if-is_full_for.false))

pub returns-then-not-is_member : goal.returns-then-not-is_member
returns-then-not-is_member c =
    let a = c.args in
    λ s m i. sym (add_nothing base s a.id a.key c.if-key-eq0.false (validator s _ _ _ m i (sym c.is_member.ensures ∙ c.if-not-is_member.true)))
