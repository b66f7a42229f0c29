-- 01, "Sizes of the group". Definitions and laws take the sizes as a parameter; code names the constant of the type that each bounds.
use Rattle.std.specs.Prelude.{ℕ}

pub record Sizes : Type 0 where
  -- nodes of a map, and contributions of a batch
  pub nodes : ℕ
  -- rows or values of a key-generation message
  pub rows : ℕ
  -- user bytes of a contribution
  pub user : ℕ
  -- votes and key-generation messages of a batch together
  pub items : ℕ
  -- bytes of a batch
  pub batch : ℕ
  -- messages held in the store
  pub store : ℕ
  -- places lent for faults
  pub faults : ℕ
  -- places lent for due items
  pub due : ℕ
  -- bytes lent for a join plan
  pub plan : ℕ
  -- 02, CR 5: bytes lent for a join plan in the variable-width edition
  pub variable_plan : ℕ

-- the sizes of 01 and 02
abbrev pub base : Sizes
base = record { nodes = 16; rows = 24; user = 4096; items = 1024; batch = 65536; store = 128; faults = 1024; due = 1025; plan = 448; variable_plan = 491 }
