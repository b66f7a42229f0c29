use Rattle.std.proofs.Common.{rules}
use native.Mathlib.Omega.{arith}
use native.Mathlib.Nat.{sub-zero}
use mathlib.Core.Path.{◌≡◌, refl, sym, ap, ◌∙◌}
use mathlib.Core.Bool.{Bool, true, false, ◌&&◌}
use lib.Dec.{leb}
use lib.ListN.{length, get_or}
use Rattle.bincode.specs.Sizes.{base}
use Rattle.recipe.proofs.RecipeLaws.{marks_turn, marks_end}
use Rattle.recipe.proofs.first.Goals as goal
use Rattle.recipe.proofs.first.Goals.{then-flag, else-flag}

pub loop-flag-init : goal.loop-flag-init
loop-flag-init c = (rw sub-zero refl, omega arith)

pub loop-flag-preserved : goal.loop-flag-preserved
loop-flag-preserved c =
    let l = c.loop-flag in
    let places : length l.flag-items ≡ base.nodes = search rules in
    let kept : (d : Bool) → get_or l.flag-items l.flag-index false ≡ d → (d && leb l.taken c.args.t) ≡ (get_or l.flag-items l.flag-index false && leb l.taken c.args.t) =
    λ d e. ap (λ (b : Bool). b && leb l.taken c.args.t) (sym e) in
    marks_turn _ c.args.t l.taken l.flag-index l.flag-items c.if-flag.flag _ (omega arith) l.invariant
    (elim c.if-flag.branch [
      | then-flag w ↦ w.flag-is ∙ kept true w.if-flag.true
      | else-flag w ↦ w.flag-is ∙ w.if-flag.false ∙ kept false w.if-flag.false
    ])
    c.from-taken.ensures

pub returns : goal.returns
returns c =
    let l = c.loop-flag in
    let places : length l.flag-items ≡ base.nodes = search rules in
    marks_end _ c.args.t l.taken l.flag-index l.flag-items (omega arith) l.invariant
