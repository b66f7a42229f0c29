-- A run of items, one after the other. What may follow can depend on what was read before, by a state.
use Rattle.std.specs.Prelude.{ℕ, zero, suc, List, [], ◌∷◌, ◌++◌, cond, ltb}
use Rattle.bincode.specs.Read.{Read, value, refuse, bind}
use Rattle.bincode.specs.Numbers.{Edition}

-- what was read before, in front of what is read from here on
module _ {A : Type 0} where
  abbrev pub after : List A → Read (List A) → Read (List A)
  after xs (value ys c) = value (xs ++ ys) c
  after xs (refuse n) = refuse n

-- a u64 count by itself; over the limit it is 3
unfoldable pub read_count : Edition → List ℕ → ℕ → ℕ → Read ℕ
read_count e s limit at = bind (e.read 8 s at) λ n c. cond (ltb limit n) (refuse 3) (value n c)

module _ {S A : Type 0} (rd : S → ℕ → Read A) (next : S → A → S) where
  -- n items from a position on
  unfoldable pub items : ℕ → S → ℕ → Read (List A)
  items zero st at = value [] at
  items (suc n) st at = bind (rd st at) (λ a c. after (a ∷ []) (items n (next st a) c))

  -- a u64 count and as many items; a count over the limit is 3 as it is read
  unfoldable pub counted : Edition → List ℕ → ℕ → S → ℕ → Read (List A)
  counted e s limit st at = bind (e.read 8 s at) λ n c. cond (ltb limit n) (refuse 3) (items n st c)

-- the same for items that do not depend on those before them
module _ {A : Type 0} where
  abbrev pub stay : Unit {0} → A → Unit {0}
  stay u a = u

module _ {A : Type 0} (rd : ℕ → Read A) where
  abbrev pub plain : Unit {0} → ℕ → Read A
  plain u at = rd at

  abbrev pub many : ℕ → ℕ → Read (List A)
  many n at = items plain stay n tt at

module _ {A B : Type 0} (f : B → A → B) where
  abbrev pub foldl : B → List A → B
  foldl b [] = b
  foldl b (x ∷ xs) = foldl (f b x) xs
