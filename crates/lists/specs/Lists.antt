-- Lists that code holds as an array with a count; equality; what is found by a key, and lists that are sorted by one.
use Rattle.std.specs.Prelude.{ℕ, zero, suc, ◌-◌, List, [], ◌∷◌, ◌++◌, Bool, true, false, cond, ◌&&◌, length, replicate, ltb, eqb, Some, None}
use Rattle.std.specs.declared.option.Option.{Option}

module _ {A : Type 0} where
  -- a list as an array of n places holds it: the places behind it are empty
  unfoldable pub padded : ℕ → A → List A → List A
  padded n none xs = xs ++ replicate (n - length xs) none

  -- two lists have equal elements, place by place
  module _ (eq : A → A → Bool) where
    unfoldable pub eq_list : List A → List A → Bool
    eq_list [] [] = true
    eq_list [] (y ∷ ys) = false
    eq_list (x ∷ xs) [] = false
    eq_list (x ∷ xs) (y ∷ ys) = eq x y && eq_list xs ys

-- what is found, or nothing
pub data Found (A : Type 0) : Type 0 where
  found : A → Found A
  nothing : Found A

-- what is handed out by place, 0 first, none past the last
module _ {A : Type 0} where
  unfoldable pub at_place : ℕ → List A → Found A
  at_place n [] = nothing
  at_place zero (x ∷ xs) = found x
  at_place (suc n) (x ∷ xs) = at_place n xs

module _ {A B : Type 0} (f : A → B) where
  abbrev pub map_found : Found A → Found B
  map_found (found a) = found (f a)
  map_found nothing = nothing

-- an `Option` as what is found, with the element seen through f
module _ {A B : Type 0} (f : A → B) where
  abbrev pub option_as_found : Option A → Found B
  option_as_found (Some a) = found (f a)
  option_as_found None = nothing

module _ {A : Type 0} (key : A → ℕ) where
  -- the first element with the key
  unfoldable pub lookup : List A → ℕ → Found A
  lookup [] k = nothing
  lookup (x ∷ xs) k = cond (eqb (key x) k) (found x) (lookup xs k)

  -- how many elements stand before the first whose key is not below k
  unfoldable pub below : ℕ → List A → ℕ
  below k [] = 0
  below k (x ∷ xs) = cond (ltb (key x) k) (suc (below k xs)) 0

  -- an element put into a list that is sorted by key: in place of the one with its key, or before the first with a greater one
  unfoldable pub insert : A → List A → List A
  insert a [] = a ∷ []
  insert a (x ∷ xs) = cond (ltb (key x) (key a)) (x ∷ insert a xs) (cond (eqb (key x) (key a)) (a ∷ xs) (a ∷ x ∷ xs))

  -- whether an element has the key, where the list is sorted
  unfoldable pub has_key : ℕ → List A → Bool
  has_key k [] = false
  has_key k (x ∷ xs) = cond (ltb (key x) k) (has_key k xs) (eqb (key x) k)

  -- the same where the list has room for a limit only: a new key has no place in a full one
  unfoldable pub insert_within : ℕ → A → List A → List A
  insert_within limit a xs = cond (has_key (key a) xs) (insert a xs) (cond (ltb (length xs) limit) (insert a xs) xs)

  -- whether an element with the key gets a place so: one with it stands there, or there is room
  unfoldable pub takes_place : ℕ → ℕ → List A → Bool
  takes_place limit k xs = cond (has_key k xs) true (ltb (length xs) limit)

-- what the marked elements of an array stand for, each with its place, from place i on
module _ {A B : Type 0} (mark : A → Bool) (view : ℕ → A → B) where
  unfoldable pub marked : ℕ → List A → List B
  marked i [] = []
  marked i (x ∷ xs) = cond (mark x) (view i x ∷ marked (suc i) xs) (marked (suc i) xs)

-- those of which a test holds
module _ {A : Type 0} (p : A → Bool) where
  unfoldable pub filter : List A → List A
  filter [] = []
  filter (x ∷ xs) = cond (p x) (x ∷ filter xs) (filter xs)

-- what the taken places of an array hold, each with its place, from place i on
module _ {A B : Type 0} (view : ℕ → A → B) where
  unfoldable pub present : ℕ → List (Option A) → List B
  present i [] = []
  present i (Some x ∷ xs) = view i x ∷ present (suc i) xs
  present i (None ∷ xs) = present (suc i) xs
