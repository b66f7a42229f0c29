-- 01, "When the engine says no", rows 2 and 3 by their cause, and 02's row 16 (CR 5). What is wrong is said of the bytes: which field begins at which place, by the encodings of the
-- fields before it, and what is wrong there. No reader is named, only in the claim at the end.
use Rattle.std.specs.Prelude.{ℕ, ◌+◌, ◌-◌, ◌^◌, ◌≤◌, ◌<◌, ◌≡◌, ◌⊎◌, List, [], ◌∷◌, length, take, drop, get_or}
use Rattle.bincode.specs.Read.{Read, refuse}
use Rattle.bincode.specs.Numbers.{Edition, le}
use Rattle.bincode.specs.Stands.{Bytes, Stands, concat_map}
use Rattle.bincode.specs.Codes.{Width}

pub data Cause : Type 0 where
  -- row 2: bytes cut, left over, unknown tag, ids not strictly ascending, key 0
  cut : Cause
  left_over : Cause
  unknown_tag : Cause
  not_ascending : Cause
  key_zero : Cause
  -- row 3: a count over its size, a count that takes a total over its size, the whole length
  count_over : Cause
  total_over : Cause
  too_long : Cause
  -- row 16: a marker of 254 or 255, a number that is longer than it need be, one that is too large for its field
  no_marker : Cause
  longer : Cause
  too_large : Cause

-- the number that 01 gives to each, and 02 to those of row 16
abbrev pub cause_number : Cause → ℕ
cause_number cut = 2
cause_number left_over = 2
cause_number unknown_tag = 2
cause_number not_ascending = 2
cause_number key_zero = 2
cause_number count_over = 3
cause_number total_over = 3
cause_number too_long = 3
cause_number no_marker = 16
cause_number longer = 16
cause_number too_large = 16

-- what is wrong where a value should begin: the causes at each position
abbrev pub Wrong : Type 1
Wrong = ℕ → Cause → Type 0

abbrev pub Nothing : Wrong
Nothing at c = ⊥

-- a tag that no case has
abbrev pub Unknown : Wrong
Unknown at c = c ≡ unknown_tag

-- what can be wrong with a number of w bytes is its edition's; of the fixed widths: fewer than w bytes are left
abbrev pub NumberWrong : Type 1
NumberWrong = List ℕ → ℕ → Wrong

abbrev pub Short : NumberWrong
Short s w at c = (length s - at < w) × (c ≡ cut)

-- 02, CR 5: 251, 252 and 253 with as many bytes as each announces, and the least number that needs so many
pub data Announces : ℕ → ℕ → ℕ → Type 0 where
  of_two : Announces 251 2 251
  of_four : Announces 252 4 (2 ^ 16)
  of_eight : Announces 253 8 (2 ^ 32)

-- of the variable widths: no byte is left, or a first byte of 254 or 255; where it announces others, these are not all there, or the number that they are
-- is below the least that needs them, or it is none of w bytes
pub data Garbled (s : List ℕ) (w at : ℕ) (c : Cause) : Type 0 where
  no_byte : length s ≤ at → c ≡ cut → Garbled s w at c
  beyond : at < length s → (get_or s at 0 ≡ 254) ⊎ (get_or s at 0 ≡ 255) → c ≡ no_marker → Garbled s w at c
  broken : (n least : ℕ) → at < length s → Announces (get_or s at 0) n least → length s < at + 1 + n → c ≡ cut → Garbled s w at c
  overlong : (n least : ℕ) → Announces (get_or s at 0) n least → at + 1 + n ≤ length s → le (take n (drop (at + 1) s)) < least → c ≡ longer → Garbled s w at c
  wide : (n least : ℕ) → Announces (get_or s at 0) n least → at + 1 + n ≤ length s → 256 ^ w ≤ le (take n (drop (at + 1) s)) → c ≡ too_large → Garbled s w at c

-- bytes are left over
abbrev pub Left : List ℕ → Wrong
Left s at c = (at < length s) × (c ≡ left_over)

-- a test: where P holds, that is the cause; where it does not, what follows may be wrong
pub data Unless (P : Type 0) (why : Cause) (rest : Wrong) (at : ℕ) (c : Cause) : Type 0 where
  fails : P → c ≡ why → Unless P why rest at c
  passes : (P → ⊥) → rest at c → Unless P why rest at c

-- a tag: where it is that of a case, the case may be wrong behind it; where it is not, the others are looked at
pub data Case (tag n : ℕ) (case others : Wrong) (at : ℕ) (c : Cause) : Type 0 where
  this : tag ≡ n → case at c → Case tag n case others at c
  other : (tag ≡ n → ⊥) → others at c → Case tag n case others at c

module _ (s : List ℕ) {A : Type 0} (enc : A → List ℕ) where
  -- a field and what follows: the field itself is wrong; or the bytes of a value that Ok names stand there, and something is wrong behind them
  pub data Field (Ok : A → Type 0) (itself : Wrong) (rest : A → Wrong) (at : ℕ) (c : Cause) : Type 0 where
    here : itself at c → Field Ok itself rest at c
    behind : (a : A) → Ok a → Stands s at (enc a) → rest a (at + length (enc a)) c → Field Ok itself rest at c

  -- n items: some, fewer than n, stand one after the other, and the next is wrong behind them. What is wrong with an item may depend on those before it.
  pub data Run (Fine : List A → Type 0) (item : List A → Wrong) (n at : ℕ) (c : Cause) : Type 0 where
    stops : (xs : List A) → length xs < n → Fine xs → Stands s at (concat_map enc xs) → item xs (at + length (concat_map enc xs)) c → Run Fine item n at c

  -- a whole input: a value from the first byte on, and no bytes left over behind it
  abbrev pub Whole : (A → Type 0) → Wrong → Cause → Type 0
  Whole Ok itself = Field Ok itself (λ a. Left s) 0

-- an id that does not ascend: one before it is as high, or higher
module _ {A : Type 0} (id_of : A → ℕ) where
  abbrev pub NotAbove : List A → ℕ → Type 0
  NotAbove [] id = ⊥
  NotAbove (x ∷ xs) id = (id ≤ id_of x) ⊎ NotAbove xs id

-- a number of an edition as a field
module _ (e : Edition) (v : NumberWrong) (s : List ℕ) where
  abbrev pub Number : ℕ → (ℕ → Wrong) → Wrong
  Number w rest = Field s (e.bytes w) (λ x. x < 256 ^ w) (v s w) rest

  -- a u64 count and as many items; a count over its size is found as the count is read
  module _ {A : Type 0} (enc : A → List ℕ) where
    abbrev pub Counted : (ℕ → Type 0) → Cause → (List A → Type 0) → (List A → Wrong) → Wrong
    Counted Over why Fine item = Number 8 λ n. Unless (Over n) why (Run s enc Fine item n)

-- What is claimed of an answer over the bytes s: a refusal has a cause with its number, and a cause refuses with its number.
module _ {A : Type 0} where
  pub record Caused (s : List ℕ) (x : Read A) (W : Cause → Type 0) : Type 0 where
    pub cause : Bytes s → (n : ℕ) → x ≡ refuse n → (c : Cause) × W c × (cause_number c ≡ n)
    pub refuses : (c : Cause) → W c → x ≡ refuse (cause_number c)

  -- of an encoded value, wherever it begins
  abbrev pub Causes : (s : List ℕ) → (ℕ → Read A) → Wrong → Type 0
  Causes s rd W = (at : ℕ) → Caused s (rd at) (W at)

-- of an edition's numbers, at every width up to eight bytes
abbrev pub NumberCauses : Edition → NumberWrong → List ℕ → Type 0
NumberCauses e v s = (w : ℕ) → Width w → Causes s (e.read w s) (v s w)
