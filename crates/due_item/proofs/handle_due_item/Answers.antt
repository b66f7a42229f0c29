use Rattle.due_item.proofs.handle_due_item.Goals.{in-Ok-Some, in-Ok+in-None-1, in-Err-1}
use Rattle.std.proofs.Common.{rules}
use mathlib.Core.Path.{refl}
use Rattle.bincode.specs.Sizes.{base}
use Rattle.dynamic_honey_badger.specs.Received.{returned}
use Rattle.dynamic_honey_badger.specs.State.{state_of}
use Rattle.dynamic_honey_badger.proofs.JudgedLaws.{full_by_count}
use Rattle.due_item.proofs.DueItemLaws.{done_stored, done_kept}
use Rattle.due_item.proofs.handle_due_item.Goals as goal

pub returns : goal.returns
returns c =
    let a = c.args in
    let d = a.state in
    let s = state_of d in
    let h = returned base s a.message.now in
    let f = c.fate-fated.result in
    let fated = c.fate-fated.ensures s refl refl refl (full_by_count d.store _ c.len.ensures.0) in
    elim c.match-fated.branch [
      | in-Ok-Some w ↦ done_stored base d h c.map.result _ (λ x y q. search rules) c.match-fated.state f w.in-Ok-Some.m (search rules) fated c.map.ensures.cases w.push-p.result.outcome w.push-p.result.store w.push-p.ensures.0 w.state-is
      | in-Ok+in-None-1 w ↦ done_kept base d h c.map.result _ (λ x y q. search rules) c.match-fated.state f (search rules) fated c.map.ensures.cases w.state-is
      | in-Err-1 w ↦ done_kept base d h c.map.result _ (λ x y q. search rules) c.match-fated.state f (search rules) fated c.map.ensures.cases w.state-is
    ]
