use Prim.Native.Nat.{◌+◌, ◌-◌}
use mathlib.Core.Path.{◌≡◌}
use mathlib.Core.List.{List}
use Rattle.array_list.specs.ArrayList.{items_in}
use Rattle.bincode.specs.Items.{foldl}
use Rattle.store_filter.specs.Filter.{Entry, entries_from, listed, Listed}
use Rattle.store_filter.proofs.list_contrib.Given as goal

abbrev pub invariant-loop : goal.invariant-loop
invariant-loop l =
    (es : List Entry) → Listed l.s es (items_in l.initial.places)
    → (fs : List Entry) × Listed l.s fs (items_in l.places)
    × (foldl listed fs (entries_from l.s (l.e.messages.count - l.counter) l.c) ≡ foldl listed es (entries_from l.s l.e.messages.count (l.e.messages.at + 8)))
