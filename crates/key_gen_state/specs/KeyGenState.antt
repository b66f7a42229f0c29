-- The running key generation with its count of received messages for each sender.
use Rattle.std.specs.Prelude.{ℕ, ◌+◌, List, Bool, false, cond, get_or, set, replicate, ltb}
use Rattle.std.specs.declared.option.Option.{Option}
use Rattle.lists.specs.Lists.{Found, found, nothing, option_as_found}
use Rattle.bincode.specs.Sizes.{Sizes}
use Rattle.pub_key_map.specs.declared.Node.{Node}
use Rattle.network_info.specs.NetworkInfo.{node_index}
use Rattle.key_gen.specs.KeyGen.{KeyGenOf, node_count, ready, key_gen_of}
use Rattle.key_gen_state.specs.declared.KeyGenState.{KeyGenState}
use Rattle.key_gen_state.specs.declared.Counted.{Counted}

-- key generation, and the counts by the sender's place
pub record KeyGenStateOf : Type 0 where
  pub key_gen : KeyGenOf
  pub counts : List ℕ

-- a sender's place: its index in the candidate map; behind those, its index in the current map
abbrev pub place_by : Sizes → Found ℕ → Found ℕ → Found ℕ
place_by z (found i) j = found i
place_by z nothing (found j) = found (z.nodes + j)
place_by z nothing nothing = nothing

unfoldable pub sender_place : Sizes → List Node → List Node → ℕ → Found ℕ
sender_place z current candidate id = place_by z (node_index candidate id) (node_index current id)

-- 01: a sender's count stops rising at n+2 of the new map
abbrev pub rises : ℕ → ℕ → Bool
rises n c = ltb c (n + 2)

abbrev pub raised : ℕ → ℕ → ℕ
raised n c = cond (rises n c) (c + 1) c

pub record CountedOf : Type 0 where
  pub state : KeyGenStateOf
  pub count : ℕ

abbrev pub counted_at : KeyGenStateOf → ℕ → CountedOf
counted_at g i =
    record {
      state = record { key_gen = g.key_gen; counts = set g.counts i (raised (node_count g.key_gen) (get_or g.counts i 0)) };
      count = raised (node_count g.key_gen) (get_or g.counts i 0);
    }

-- `count_messages`: the sender's count is raised, and answered; one that is in neither map has none
abbrev pub counted_by : KeyGenStateOf → Found ℕ → CountedOf
counted_by g (found i) = counted_at g i
counted_by g nothing = record { state = g; count = 0 }

unfoldable pub count_messages : Sizes → List Node → KeyGenStateOf → ℕ → CountedOf
count_messages z current g sender = counted_by g (sender_place z current g.key_gen.nodes sender)

-- a fresh key generation has counted nobody
abbrev pub fresh_state : Sizes → KeyGenOf → KeyGenStateOf
fresh_state z g = record { key_gen = g; counts = replicate (z.nodes + z.nodes) 0 }

-- step 6, where key generation runs
abbrev pub ready_state : Found KeyGenStateOf → Bool
ready_state (found g) = ready g.key_gen
ready_state nothing = false

-- as code holds it: where there is one
abbrev pub running_of : KeyGenState → KeyGenStateOf
running_of s = record { key_gen = key_gen_of s.key_gen; counts = s.counts.counts }

abbrev pub state_of : Option KeyGenState → Found KeyGenStateOf
state_of s = option_as_found running_of s

abbrev pub counted_of : Counted → CountedOf
counted_of r = record { state = running_of r.state; count = r.count }
