use mathlib.Core.Path.{sym, ap, ◌∙◌, subst}
use native.Mathlib.Omega.{arith}
use lib.Dec.{lit<}
use Rattle.bincode.specs.Outcome.{done}
use Rattle.bincode.specs.Sizes.{base}
use Rattle.bincode.proofs.AnswerLaws.{passed_on}
use Rattle.bincode.proofs.ItemLaws.{count_read}
use Rattle.internal_contrib.specs.InternalContrib.{read_batch}
use Rattle.internal_contrib.specs.Index.{indexed, Indexed}
use Rattle.internal_contrib.proofs.IndexLaws.{places_empty, places_fit, places_count, place_below, places_passed, places_filled, index_uncounted, index_start, index_left, index_done, index_count, index_passed, index_fits, index_more}
use Rattle.internal_contrib.proofs.index_batch.Goals as goal

pub loop-place-init : goal.loop-place-init
loop-place-init c =
    let r = count_read _ _ _ _ c.read_count.ensures c.in_ok-n.was in
    index_start base _ _ _ r.0 r.1 _ c.new-b.ensures _ (places_empty c.in_ok-n.n r.1 _ c.empty.ensures)

pub slice_bounds-contribs-end : goal.slice_bounds-contribs-end
slice_bounds-contribs-end c = places_fit c.in_ok-n.n (count_read _ _ _ _ c.read_count.ensures c.in_ok-n.was).1 _ c.empty.ensures

pub slice_bounds-place-items-end : goal.slice_bounds-place-items-end
slice_bounds-place-items-end c = sym (places_count c.in_ok-n.n (count_read _ _ _ _ c.read_count.ensures c.in_ok-n.was).1 _ c.empty.ensures)

pub returns-in_err-n : goal.returns-in_err-n
returns-in_err-n c =
    subst (λ r. Indexed r (read_batch base c.args.s.now)) (sym (passed_on _ _ c.from_residual.ensures.1))
    (index_uncounted base _ c.if-s-gt-BYTES.false c.read_count.ensures c.in_err-n.was)

pub returns-in_err-e : goal.returns-in_err-e
returns-in_err-e c =
    let few = (count_read _ _ _ _ c.read_count.ensures c.in_ok-n.was).1 in
    subst (λ r. Indexed r (read_batch base c.args.s.now)) (sym (passed_on _ _ c.from_residual-in_err-e.ensures.1))
    (index_passed base _ _ _ _ _ _ _ c.loop-place.invariant (place_below c.in_ok-n.n few _ c.empty.ensures _ c.loop-place-test.true)
    (lit< tt) (lit< tt) (lit< tt) (λ i. (c.type_inv.s i).fits) c.if-s-gt-BYTES.false _ (sym c.read_contrib.ensures ∙ c.in_err-e.was))

pub overflow_add-messages : goal.overflow_add-messages
overflow_add-messages c =
    let few = (count_read _ _ _ _ c.read_count.ensures c.in_ok-n.was).1 in
    let few = index_fits base _ _ _ _ _ _ _ c.loop-place.invariant (place_below c.in_ok-n.n few _ c.empty.ensures _ c.loop-place-test.true)
    (lit< tt) (lit< tt) (lit< tt) (λ i. (c.type_inv.s i).fits) _ _ (sym c.read_contrib.ensures ∙ c.in_ok-e.was) in
    omega (arith, few)

pub loop-place-preserved : goal.loop-place-preserved
loop-place-preserved c =
    let few = (count_read _ _ _ _ c.read_count.ensures c.in_ok-n.was).1 in
    index_more base _ _ _ _ _ _ _ c.loop-place.invariant (place_below c.in_ok-n.n few _ c.empty.ensures _ c.loop-place-test.true)
    (lit< tt) (lit< tt) (lit< tt) (λ i. (c.type_inv.s i).fits) _ _ (sym c.read_contrib.ensures ∙ c.in_ok-e.was) _ c.spend-b.ensures

pub returns-then-c-s : goal.returns-then-c-s
returns-then-c-s c =
    let few = (count_read _ _ _ _ c.read_count.ensures c.in_ok-n.was).1 in
    let h = places_passed c.in_ok-n.n few _ c.empty.ensures _ c.loop-place-test.false in
    ap indexed (sym (index_left base _ _ _ _ _ _ _ c.loop-place.invariant c.if-s-gt-BYTES.false h c.if-c-s.true))

pub returns : goal.returns
returns c =
    let few = (count_read _ _ _ _ c.read_count.ensures c.in_ok-n.was).1 in
    let w = c.loop-place.invariant in
    let h = places_passed c.in_ok-n.n few _ c.empty.ensures _ c.loop-place-test.false in
    let held = places_filled c.in_ok-n.n few _ c.empty.ensures _ (index_count base _ _ _ _ _ _ _ w h) in
    rw w.noted (ap done (λ t. (held t, w.tally t)))
    ∙ ap indexed (sym (index_done base _ _ _ _ _ _ _ w c.if-s-gt-BYTES.false h c.if-c-s.false))
