-- A part and an ack of key generation: as code holds them, as they are read and written.
use Rattle.std.specs.Prelude.{ℕ, ◌^◌, ◌≤◌, ◌<◌, List, [], ◌∷◌, ◌++◌, Bool, length, eqb}
use Rattle.lists.specs.Lists.{padded, eq_list}
use Rattle.array_list.specs.ArrayList.{items_in}
use Rattle.bincode.specs.Read.{Read, value, bind}
use Rattle.bincode.specs.Numbers.{read_num, bytes_of, fixed}
use Rattle.bincode.specs.Sizes.{Sizes, base}
use Rattle.bincode.specs.Items.{counted, plain, stay}
use Rattle.bincode.specs.Stands.{concat, concat_map, All}
use Rattle.sync_key_gen.specs.declared.Handles.{Handles}
use Rattle.sync_key_gen.specs.declared.Part.{Part}
use Rattle.sync_key_gen.specs.declared.Ack.{Ack}

-- the handles of any value of the struct, and the struct that holds a list of them
abbrev pub handles_of : Handles → List ℕ
handles_of h = items_in h.values

abbrev pub handles_held : List ℕ → Handles
handles_held xs = record { values = record { count = length xs; items = padded base.rows 0 xs } }

abbrev pub same_handles : List ℕ → List ℕ → Bool
same_handles = eq_list eqb

-- 01: `Part` is a commitment and rows, `Ack` a proposer index and values
pub record PartOf : Type 0 where
  pub commit : ℕ
  pub rows : List ℕ

pub record AckOf : Type 0 where
  pub proposer : ℕ
  pub values : List ℕ

-- rows and values are a u64 count and u64 handles
unfoldable pub read_handles : Sizes → List ℕ → ℕ → Read (List ℕ)
read_handles z s at = counted (plain (read_num 8 s)) stay fixed s z.rows tt at

unfoldable pub handles_bytes : List ℕ → List ℕ
handles_bytes xs = bytes_of 8 (length xs) ++ concat_map (bytes_of 8) xs

-- a number with handles behind it, as a part and an ack both are
unfoldable pub read_headed : Sizes → List ℕ → ℕ → Read (ℕ × List ℕ)
read_headed z s at =
    bind (read_num 8 s at) λ head c.
    bind (read_handles z s c) λ xs d.
    value (head, xs) d

unfoldable pub read_part : Sizes → List ℕ → ℕ → Read PartOf
read_part z s at =
    bind (read_num 8 s at) λ commit c.
    bind (read_handles z s c) λ rows d.
    value (record { commit = commit; rows = rows }) d

-- an ack's proposer index is any u64
unfoldable pub read_ack : Sizes → List ℕ → ℕ → Read AckOf
read_ack z s at =
    bind (read_num 8 s at) λ proposer c.
    bind (read_handles z s c) λ values d.
    value (record { proposer = proposer; values = values }) d

unfoldable pub part_bytes : PartOf → List ℕ
part_bytes p = concat (bytes_of 8 p.commit ∷ handles_bytes p.rows ∷ [])

unfoldable pub ack_bytes : AckOf → List ℕ
ack_bytes a = concat (bytes_of 8 a.proposer ∷ handles_bytes a.values ∷ [])

-- the values that some bytes are read as
abbrev pub Fits : ℕ → Type 0
Fits x = x < 256 ^ 8

pub record HandlesOk (z : Sizes) (xs : List ℕ) : Type 0 where
  pub few : length xs ≤ z.rows
  pub each : All Fits xs

pub record PartOk (z : Sizes) (p : PartOf) : Type 0 where
  pub commit_fits : Fits p.commit
  pub rows_ok : HandlesOk z p.rows

pub record AckOk (z : Sizes) (a : AckOf) : Type 0 where
  pub proposer_fits : Fits a.proposer
  pub values_ok : HandlesOk z a.values

-- as code holds them
abbrev pub part_of : Part → PartOf
part_of p = record { commit = p.commit; rows = handles_of p.rows }

abbrev pub ack_of : Ack → AckOf
ack_of a = record { proposer = a.proposer; values = handles_of a.values }

abbrev pub headed_held : ℕ × List ℕ → ℕ × Handles
headed_held p = (p.0, handles_held p.1)

abbrev pub part_held : PartOf → Part
part_held p = record { commit = p.commit; rows = handles_held p.rows }

abbrev pub ack_held : AckOf → Ack
ack_held a = record { proposer = a.proposer; values = handles_held a.values }

-- what stands where there is no part, and no ack
abbrev pub no_part : PartOf
no_part = record { commit = 0; rows = [] }

abbrev pub no_ack : AckOf
no_ack = record { proposer = 0; values = [] }
