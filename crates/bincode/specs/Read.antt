-- What a reader answers: a value with the position after it, or a refusal's number (01, "When the engine says no").
use Rattle.std.specs.Prelude.{ℕ, List, cond, length, ltb}

pub data Read (A : Type 0) : Type 0 where
  value : A → ℕ → Read A
  refuse : ℕ → Read A

-- a field that cannot be read ends the reading with its refusal; otherwise reading goes on behind it
module _ {A B : Type 0} where
  abbrev pub bind : Read A → (A → ℕ → Read B) → Read B
  bind (value a c) f = f a c
  bind (refuse n) f = refuse n

-- the same answer with the value seen through f
module _ {A B : Type 0} (f : A → B) where
  abbrev pub map_read : Read A → Read B
  map_read (value a c) = value (f a) c
  map_read (refuse n) = refuse n

-- a value read from the first byte on, with nothing left over (row 2), noticed behind the last field
module _ {A : Type 0} where
  unfoldable pub whole : (ℕ → Read A) → List ℕ → Read A
  whole rd s = bind (rd 0) λ a c. cond (ltb c (length s)) (refuse 2) (value a c)
