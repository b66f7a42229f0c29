-- Numbers of bincode's two editions, little-endian: fixed widths, its published default (`bincode::serialize`), and variable widths (02, CR 5; `DefaultOptions`).
use Rattle.std.specs.Prelude.{ℕ, zero, suc, ◌+◌, ◌*◌, ◌/◌, ◌%◌, ◌^◌, List, [], ◌∷◌, ◌++◌, cond, length, take, drop, leb, ltb, eqb}
use Rattle.bincode.specs.Read.{Read, value, refuse, bind}

-- the number that bytes stand for, the least significant first
unfoldable pub le : List ℕ → ℕ
le [] = 0
le (b ∷ bs) = b + 256 * le bs

-- the w bytes of x
unfoldable pub bytes_of : ℕ → ℕ → List ℕ
bytes_of zero x = []
bytes_of (suc w) x = x % 256 ∷ bytes_of w (x / 256)

-- the w bytes at a position as a number; 2 where the bytes are cut
unfoldable pub read_num : ℕ → List ℕ → ℕ → Read ℕ
read_num w s at = cond (leb (at + w) (length s)) (value (le (take w (drop at s))) (at + w)) (refuse 2)

-- 02, CR 5: how many bytes a marker announces, 251 two, 252 four and 253 eight, and the least number that needs as many
abbrev pub announced : ℕ → ℕ
announced m = cond (eqb m 251) 2 (cond (eqb m 252) 4 8)

abbrev pub least : ℕ → ℕ
least m = cond (eqb m 251) 251 (cond (eqb m 252) (2 ^ 16) (2 ^ 32))

-- 02, CR 5: the number of a field of w bytes. 2 where its first byte is not there, or fewer than that announces; 16 for a first byte of 254 or 255 at once,
-- and with all bytes there for a number that is longer than it need be or too large for its field
unfoldable pub read_variable : ℕ → List ℕ → ℕ → Read ℕ
read_variable w s at =
    bind (read_num 1 s at) λ m c.
    cond (ltb m 251) (value m c)
    (cond (ltb 253 m) (refuse 16)
    (bind (read_num (announced m) s c) λ x d.
    cond (ltb x (least m)) (refuse 16)
    (cond (leb (256 ^ w) x) (refuse 16)
    (value x d))))

-- its bytes: below 251 one; else the marker and as many as it announces
unfoldable pub variable_bytes : ℕ → List ℕ
variable_bytes x =
    cond (ltb x 251) (bytes_of 1 x)
    (cond (ltb x (2 ^ 16)) (bytes_of 1 251 ++ bytes_of 2 x)
    (cond (ltb x (2 ^ 32)) (bytes_of 1 252 ++ bytes_of 4 x)
    (bytes_of 1 253 ++ bytes_of 8 x)))

-- An edition of bincode: how it reads a number of w bytes, and which bytes it writes for one.
-- Values are defined over the edition, since tags, counts and fields are all numbers of it.
pub record Edition : Type 0 where
  pub read : ℕ → List ℕ → ℕ → Read ℕ
  pub bytes : ℕ → ℕ → List ℕ

-- the published default: fixed widths
abbrev pub fixed : Edition
fixed = record { read = read_num; bytes = bytes_of }

-- 02, CR 5: variable widths; a number takes as many bytes as it needs, whatever its field's width
abbrev pub variable : Edition
variable = record { read = read_variable; bytes = λ w. variable_bytes }
