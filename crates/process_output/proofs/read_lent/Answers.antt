use mathlib.Core.Path.{◌≡◌, refl}
use mathlib.Core.Bool.{true}
use Rattle.bincode.specs.Sizes.{base}
use Rattle.process_output.specs.Refusals.{batch_row1}
use Rattle.process_output.proofs.OpeningLaws.{short_faults, short_dues, no_short, read_short, read_long}
use Rattle.process_output.proofs.read_lent.Goals as goal
use Rattle.process_output.proofs.read_lent.Goals.{then-places-lt-LIMIT-via-then-places-lt-LIMIT, then-places-lt-LIMIT-via-else-places-lt-LIMIT+then-places-lt-LIMIT-2}

pub returns-then-places-lt-LIMIT : goal.returns-then-places-lt-LIMIT
returns-then-places-lt-LIMIT c =
    let a = c.args in
    let row1 : batch_row1 base a.places.faults a.places.due ≡ true
    = elim c.then-places-lt-LIMIT.branch [
      | then-places-lt-LIMIT-via-then-places-lt-LIMIT w ↦ short_faults a.places.faults a.places.due w.if-places-lt-LIMIT.true
      | then-places-lt-LIMIT-via-else-places-lt-LIMIT+then-places-lt-LIMIT-2 w ↦ short_dues a.places.faults a.places.due w.if-places-lt-LIMIT.false w.if-places-lt-LIMIT-2.true
    ] in
    (read_short _ _ _ row1 refl, λ i. (c.type_inv.batch i).fits)

pub returns : goal.returns
returns c =
    let a = c.args in
    (read_long _ _ _ (no_short a.places.faults a.places.due c.if-places-lt-LIMIT.false c.if-places-lt-LIMIT-2.false) c.index_batch.ensures, λ i. (c.type_inv.batch i).fits)
