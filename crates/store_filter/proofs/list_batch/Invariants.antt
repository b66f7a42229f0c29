use mathlib.Core.Path.{◌≡◌}
use mathlib.Core.List.{List}
use lib.ListN.{drop}
use Rattle.array_list.specs.ArrayList.{items_in}
use Rattle.bincode.specs.Items.{foldl}
use Rattle.store_filter.specs.Filter.{Entry, contrib_listed, Listed}
use Rattle.store_filter.proofs.list_batch.Given as goal

abbrev pub invariant-loop-e : goal.invariant-loop-e
invariant-loop-e l =
    (es : List Entry) → Listed l.s es (items_in l.initial.places)
    → (fs : List Entry) × Listed l.s fs (items_in l.places) × (foldl (contrib_listed l.s) fs (drop l.e-index l.e-items) ≡ foldl (contrib_listed l.s) es l.e-items)
