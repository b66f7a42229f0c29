use mathlib.Core.Path.{refl, sym, ap, ◌∙◌}
use Prim.Native.Nat.{ℕ}
use mathlib.Core.List.{◌∷◌}
use lib.ListN.{get_or, drop}
use native.Mathlib.Numerals.{add-one}
use lib.Seq.{drop-cons}
use Rattle.lists.proofs.ListLaws.{rest_none}
use Rattle.bincode.specs.Items.{foldl}
use Rattle.internal_contrib.specs.Index.{no_contrib}
use Rattle.store_filter.specs.Filter.{contrib_listed}
use Rattle.store_filter.proofs.list_batch.Goals as goal

pub loop-e-init : goal.loop-e-init
loop-e-init c = λ es h. (es, h, refl)

pub loop-e-preserved : goal.loop-e-preserved
loop-e-preserved c =
    let s = c.args.s.now in
    let ks = c.as_slice-e-items.result.now in
    let l = c.loop-e in
    λ es h.
    let w = l.invariant es h in (
      contrib_listed s w.0 (get_or ks l.e-index no_contrib),
      c.list_contrib.ensures w.0 w.1,
      sym (ap (foldl (contrib_listed s) w.0) (drop-cons ks l.e-index no_contrib c.loop-e-test.true ∙ ap (λ (k : ℕ). get_or ks l.e-index no_contrib ∷ drop k ks) (sym (add-one l.e-index)))) ∙ w.2,
    )

pub returns : goal.returns
returns c =
    let s = c.args.s.now in
    let ks = c.as_slice-e-items.result.now in
    let l = c.loop-e in
    λ es h.
    let w = l.invariant es h in
    rw (sym (ap (foldl (contrib_listed s) w.0) (sym (rest_none ks l.e-index c.loop-e-test.false)) ∙ w.2 ∙ ap (foldl (contrib_listed s) es) c.as_slice-e-items.ensures)) w.1
