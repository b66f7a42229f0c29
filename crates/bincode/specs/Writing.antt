-- What a writer leaves in a lent buffer and what it answers.
use Rattle.std.specs.Prelude.{ℕ, ◌+◌, ◌-◌, ◌^◌, min, List, Bool, cond, length, leb}
use Rattle.std.proofs.lemmas.List.Edits.{sets}

-- n bytes have room in a buffer of a length from a position on
abbrev pub has_room : ℕ → ℕ → ℕ → Bool
has_room len at n = leb (at + n) len

-- the buffer with the bytes at the position, or as it was where they have no room
unfoldable pub written : List ℕ → ℕ → List ℕ → List ℕ
written l at bs = cond (has_room (length l) at (length bs)) (sets l at bs) l

-- the position behind the bytes, or the position given where they have no room.
-- No encoding is empty, so the position given says 'no room'.
unfoldable pub written_to : List ℕ → ℕ → List ℕ → ℕ
written_to l at bs = cond (has_room (length l) at (length bs)) (at + length bs) at

-- how many bytes there are, as far as a number of 64 bits tells it; no memory has more
abbrev pub told : ℕ → ℕ
told n = min n (2 ^ 64 - 1)

abbrev pub told_size : List ℕ → ℕ
told_size bs = told (length bs)
