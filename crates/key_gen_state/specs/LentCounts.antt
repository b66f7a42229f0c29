-- A sender's count among those that are lent, and its place there.
use Rattle.std.specs.Prelude.{ℕ, ◌+◌, ◌≡◌, List, cond, get_or, set, ltb}
use Rattle.lists.specs.Lists.{Found, found, nothing}
use Rattle.bincode.specs.Sizes.{Sizes}
use Rattle.pub_key_map.specs.declared.Node.{Node}
use Rattle.key_gen_state.specs.KeyGenState.{KeyGenStateOf, sender_place, raised}

-- a number of nodes, no higher than a map has places
abbrev pub nodes_up_to : Sizes → ℕ → ℕ
nodes_up_to z n = cond (ltb n z.nodes) n z.nodes

-- the count at a place is raised, the others stay; past the last place nothing is
unfoldable pub raised_at : Sizes → List ℕ → ℕ → ℕ → List ℕ
raised_at z counts place n = set counts place (raised (nodes_up_to z n) (get_or counts place 0))

-- the count at a place, 0 past the last
abbrev pub count_at : List ℕ → ℕ → ℕ
count_at counts place = get_or counts place 0

-- counts before, a place, a number of nodes; counts after, and the answer
abbrev pub CountRaised : Sizes → List ℕ → ℕ → ℕ → List ℕ → ℕ → Type 0
CountRaised z counts place n after count = (after ≡ raised_at z counts place n) × (count ≡ count_at (raised_at z counts place n) place)

-- a sender's place; past the last where it has none
abbrev pub placed : Sizes → Found ℕ → ℕ
placed z (found i) = i
placed z nothing = z.nodes + z.nodes

unfoldable pub place_of : Sizes → List Node → KeyGenStateOf → ℕ → ℕ
place_of z current g sender = placed z (sender_place z current g.key_gen.nodes sender)
