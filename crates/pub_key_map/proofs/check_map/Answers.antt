use mathlib.Core.Path.{sym, ap, ◌∙◌}
use mathlib.Core.List.{[], ◌∷◌, ◌++◌}
use Rattle.bincode.specs.Numbers.{fixed}
use Rattle.bincode.specs.Answer.{step_of}
use Rattle.bincode.proofs.ItemLaws.{count_read, counted_start, items_turn, items_end, items_refused}
use Rattle.bincode.proofs.ReadLaws.{answer_ok}
use Rattle.bincode.proofs.AnswerLaws.{answer_exit}
use Rattle.pub_key_map.specs.declared.Node.{Node}
use Rattle.pub_key_map.specs.PubKeyMap.{read_node, read_map, following}
use Rattle.pub_key_map.proofs.check_map.Goals as goal

pub loop-init : goal.loop-init
unfolding read_map
loop-init c =
    let r = count_read _ _ _ _ c.read_count.ensures c.in_ok-count.was in
    ([], counted_start (read_node fixed _) following _ _ _ _ _ _ _ r.0 r.1)

pub returns-in_err-node : goal.returns-in_err-node
returns-in_err-node c =
    let p = answer_exit (λ (x : Node). x) _ _ (sym c.read_node.ensures ∙ c.in_err-node.was) _ c.from_residual-in_err-node.ensures.1 in
    p.2 ∙ ap step_of (sym (c.loop.invariant.1 ∙ items_refused _ _ _ _ _ _ _ _ c.loop-test.true p.1))

pub loop-preserved : goal.loop-preserved
loop-preserved c =
    let v = c.loop.invariant in
    let r = answer_ok (λ (x : Node). x) _ _ _ (sym c.read_node.ensures ∙ c.in_ok-node.was) in
    (v.0 ++ (c.in_ok-node.node ∷ []), rw (c.from-low.ensures, r.2) (v.1 ∙ items_turn _ _ _ _ _ _ _ _ _ c.loop-test.true r.1))

pub returns : goal.returns
returns c = let v = c.loop.invariant in ap step_of (sym (v.1 ∙ items_end _ _ _ _ _ _ _ c.loop-test.false))
