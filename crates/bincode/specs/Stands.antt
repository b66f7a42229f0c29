-- Bytes that stand in a list at a position.
use Rattle.std.specs.Prelude.{ℕ, ◌<◌, ◌≡◌, List, [], ◌∷◌, ◌++◌, length, take, drop, get_or}
use Rattle.bincode.specs.Items.{stay}

-- each element is a byte
abbrev pub Bytes : List ℕ → Type 0
Bytes s = (i : ℕ) → get_or s i 0 < 256

-- the bytes bs stand in s from position at on
abbrev pub Stands : List ℕ → ℕ → List ℕ → Type 0
Stands s at bs = take (length bs) (drop at s) ≡ bs

-- fields one after the other
abbrev pub concat : List (List ℕ) → List ℕ
concat [] = []
concat (f ∷ fs) = f ++ concat fs

-- the bytes of items, one after the other
module _ {A : Type 0} (enc : A → List ℕ) where
  abbrev pub concat_map : List A → List ℕ
  concat_map [] = []
  concat_map (x ∷ xs) = enc x ++ concat_map xs

-- what is asked of each item, after those before it
module _ {S A : Type 0} (next : S → A → S) (Ok : S → A → Type 0) where
  abbrev pub Each : S → List A → Type 0
  Each st [] = Unit {0}
  Each st (x ∷ xs) = Ok st x × Each (next st x) xs

-- what is asked of each item, whatever stands before it
module _ {A : Type 0} (Ok : A → Type 0) where
  abbrev pub All : List A → Type 0
  All = Each stay (λ u. Ok) tt
