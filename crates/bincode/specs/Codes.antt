-- Reading and writing are inverse: what is claimed of every encoded value.
use Rattle.std.specs.Prelude.{ℕ, ◌+◌, ◌^◌, ◌≤◌, ◌<◌, ◌≡◌, List, length}
use Rattle.bincode.specs.Read.{Read, value}
use Rattle.bincode.specs.Numbers.{Edition}
use Rattle.bincode.specs.Stands.{Bytes, Stands}

module _ {A : Type 0} where
  -- A value is read at a position of s just where its bytes stand there and it is one of those that Ok names.
  pub record Codes (s : List ℕ) (rd : ℕ → Read A) (enc : A → List ℕ) (Ok : A → Type 0) : Type 0 where
    -- accepted bytes are the value's own bytes
    pub stands : Bytes s → (at : ℕ) (a : A) (c : ℕ) → rd at ≡ value a c → Stands s at (enc a) × (c ≡ at + length (enc a)) × Ok a
    -- the value's own bytes are accepted as the value
    pub reads : (at : ℕ) (a : A) → Stands s at (enc a) → Ok a → rd at ≡ value a (at + length (enc a))
    -- an encoding consists of bytes
    pub clean : (a : A) → Ok a → Bytes (enc a)

-- a width of up to eight bytes; no field of 01 or 02 has more
abbrev pub Width : ℕ → Type 0
Width w = (0 < w) × (w ≤ 8)

-- the same of an edition's numbers, at every width up to eight bytes
abbrev pub NumberCodes : Edition → List ℕ → Type 0
NumberCodes e s = (w : ℕ) → Width w → Codes s (e.read w s) (e.bytes w) (λ x. x < 256 ^ w)
