use mathlib.Core.Path.{◌≡◌, refl, sym, ap, ◌∙◌}
use mathlib.Core.List.{[], ◌∷◌, ◌++◌}
use native.Mathlib.Omega.{arith}
use lib.ListN.{length, length-append}
use Rattle.lists.proofs.ListLaws.{padded_set}
use Rattle.bincode.specs.Sizes.{base}
use Rattle.bincode.specs.Answer.{answer}
use Rattle.bincode.proofs.ItemLaws.{count_read, counted_start, items_turn, items_refused, items_end}
use Rattle.bincode.proofs.ReadLaws.{answer_ok}
use Rattle.bincode.proofs.AnswerLaws.{answer_exit}
use Rattle.bincode.proofs.PartLaws.{part_empty, part_turn, part_done, part_filled}
use Rattle.pub_key_map.specs.declared.Node.{Node}
use Rattle.pub_key_map.specs.PubKeyMap.{map_held, no_node, read_node, read_map, following}
use Rattle.pub_key_map.proofs.PubKeyMapDecoded.read.Goals as goal

pub loop-node-init : goal.loop-node-init
unfolding read_map
loop-node-init g c =
    let r = count_read _ _ _ _ c.read_count.ensures c.in_ok-n.was in
    ([], refl, part_empty no_node c.in_ok-n.n base.nodes r.1, counted_start (read_node g.E.IntEncoding.edition _) following _ _ _ _ _ _ _ r.0 r.1)

pub returns-in_err-e : goal.returns-in_err-e
returns-in_err-e g c =
    let few = (count_read _ _ _ _ c.read_count.ensures c.in_ok-n.was).1 in
    let h = part_turn no_node c.in_ok-n.n base.nodes few _ c.loop-node-test.true in
    let p = answer_exit (λ (x : Node). x) _ _ (sym c.read_node.ensures ∙ c.in_err-e.was) _ c.from_residual-in_err-e.ensures.1 in
    p.2 ∙ ap (answer map_held) (sym (c.loop-node.invariant.3 ∙ items_refused _ _ _ _ _ _ _ _ h p.1))

pub loop-node-preserved : goal.loop-node-preserved
loop-node-preserved g c =
    let few = (count_read _ _ _ _ c.read_count.ensures c.in_ok-n.was).1 in
    let l = c.loop-node in
    let v = l.invariant in
    let e = c.in_ok-e.e in
    let h = part_turn no_node c.in_ok-n.n base.nodes few _ c.loop-node-test.true in
    let r = answer_ok (λ (x : Node). x) _ _ _ (sym c.read_node.ensures ∙ c.in_ok-e.was) in (
      v.0 ++ (e ∷ []),
      simp length-append (omega (arith, v.1)),
      rw v.2 (padded_set c.in_ok-n.n no_node v.0 l.node-index e v.1 h),
      rw (c.from-low.ensures, r.2) (v.3 ∙ items_turn _ _ _ _ _ _ _ _ _ h r.1),
    )

pub returns : goal.returns
returns g c =
    let few = (count_read _ _ _ _ c.read_count.ensures c.in_ok-n.was).1 in
    let l = c.loop-node in
    let v = l.invariant in
    let e = part_done no_node c.in_ok-n.n base.nodes few _ c.loop-node-test.false l.auto.node-index-end in
    let d : length v.0 ≡ c.in_ok-n.n = omega (arith, e, v.1) in
    rw (v.3 ∙ items_end _ _ _ _ _ _ _ (omega arith), c.new.ensures, v.2, part_filled no_node c.in_ok-n.n base.nodes few v.0 d, d)
