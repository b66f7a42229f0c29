-- 02, CR 7: voters by their ids.
use Rattle.std.specs.Prelude.{ℕ, List, replicate}
use Rattle.array_list.specs.ArrayList.{items_in}
use Rattle.bincode.specs.Sizes.{base}
use Rattle.voters.specs.declared.Voters.{Voters}

-- the voters of any value of the struct: those below the count, as far as the array reaches
abbrev pub ids_of : Voters → List ℕ
ids_of v = items_in v.ids

abbrev pub no_voters : Voters
no_voters = record { ids = record { count = 0; items = replicate base.nodes 0 } }
