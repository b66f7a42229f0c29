-- Which numbers a reading refuses with, for every list of numbers: for a number, for fields one after the other, for a test, for a run of items and for a whole
-- input. The laws of the encoded values above are put together from these, once for every edition.
-- Assumes nothing.
use Prim.Native.Nat.{ℕ, zero, suc, ◌+◌, ◌^◌, ◌≤◌}
use mathlib.Core.Path.{◌≡◌, refl, ap, subst}
use mathlib.Core.Logic.{◌⊎◌, inl, inr}
use mathlib.Core.List.{List, [], ◌∷◌}
use mathlib.Core.Bool.{Bool, true, false, cond}
use native.Mathlib.Omega.{arith}
use lib.Dec.{ltb, leb}
use lib.ListN.{length}
use borrow.Author.Tests.{ltb-false}
use Rattle.bincode.specs.Read.{Read, value, refuse, bind, whole}
use Rattle.bincode.specs.Numbers.{read_num, announced, least, read_variable, Edition, fixed, variable}
use Rattle.bincode.specs.Items.{items, counted, after}

-- the refusals that a reading can have are numbers N
module _ (N : ℕ → Type 0) where
  module _ {A : Type 0} where
    -- a value of which P holds, or one of them
    abbrev pub Answers : (A → Type 0) → Read A → Type 0
    Answers P (value a c) = P a
    Answers P (refuse n) = N n

    -- whatever is read
    abbrev pub Plain : Read A → Type 0
    Plain = Answers (λ a. Unit {0})

  -- the numbers of an edition refuse with one of them, which 2 and 3 are
  pub record Refusing (e : Edition) (s : List ℕ) : Type 0 where
    pub two : N 2
    pub three : N 3
    pub numbers : (w at : ℕ) → Plain (e.read w s at)

module _ (N : ℕ → Type 0) where
  module _ {A : Type 0} where
    -- what was refused was refused with one of them
    pub refuses_by : (P : A → Type 0) (x : Read A) → Answers N P x → (n : ℕ) → x ≡ refuse n → N n
    refuses_by P x p n e = subst (Answers N P) e p

    pub plain_of : (P : A → Type 0) (x : Read A) → Answers N P x → Plain N x
    plain_of P (value a c) p = tt
    plain_of P (refuse n) p = p

    -- a test
    pub answers_choice : (P : A → Type 0) (b : Bool) (x y : Read A) → (b ≡ true → Answers N P x) → (b ≡ false → Answers N P y) → Answers N P (cond b x y)
    answers_choice P true x y p q = p refl
    answers_choice P false x y p q = q refl

    pub plain_choice : (b : Bool) (x y : Read A) → Plain N x → Plain N y → Plain N (cond b x y)
    plain_choice b x y p q = answers_choice (λ a. Unit {0}) b x y (λ e. p) (λ e. q)

  -- a field and what follows
  module _ {A B : Type 0} where
    pub answers_bind : (P : A → Type 0) (Q : B → Type 0) (x : Read A) (f : A → ℕ → Read B) → Answers N P x → ((a : A) (c : ℕ) → P a → Answers N Q (f a c)) → Answers N Q (bind x f)
    answers_bind P Q (value a c) f p q = q a c p
    answers_bind P Q (refuse n) f p q = p

    pub plain_bind : (x : Read A) (f : A → ℕ → Read B) → Plain N x → ((a : A) (c : ℕ) → Plain N (f a c)) → Plain N (bind x f)
    plain_bind x f p q = answers_bind (λ a. Unit {0}) (λ b. Unit {0}) x f p (λ a c u. q a c)

  -- a whole input: left-over bytes are 2
  module _ {A : Type 0} (two : N 2) where
    pub answers_whole : (P : A → Type 0) (rd : ℕ → Read A) (s : List ℕ) → Answers N P (rd 0) → Answers N P (whole rd s)
    unfolding whole
    answers_whole P rd s p = answers_bind P P (rd 0) _ p λ a c q. answers_choice P (ltb c (length s)) _ _ (λ e. two) (λ e. q)

    pub plain_whole : (rd : ℕ → Read A) (s : List ℕ) → Plain N (rd 0) → Plain N (whole rd s)
    plain_whole = answers_whole (λ a. Unit {0})

  -- a number of the fixed widths refuses with 2
  read_plain : N 2 → (w : ℕ) (s : List ℕ) (at : ℕ) → Plain N (read_num w s at)
  unfolding read_num
  read_plain two w s at = plain_choice (leb (at + w) (length s)) _ _ tt two

  -- one of the variable widths with 2 or 16
  variable_plain : N 2 → N 16 → (w : ℕ) (s : List ℕ) (at : ℕ) → Plain N (read_variable w s at)
  unfolding read_variable
  variable_plain two sixteen w s at =
      plain_bind (read_num 1 s at) _ (read_plain two 1 s at) λ m c.
      plain_choice (ltb m 251) _ _ tt
      (plain_choice (ltb 253 m) _ _ sixteen
      (plain_bind (read_num (announced m) s c) _ (read_plain two (announced m) s c) λ x d.
      plain_choice (ltb x (least m)) _ _ sixteen
      (plain_choice (leb (256 ^ w) x) _ _ sixteen
      tt)))

  -- a run of items is as long as its count; a count keeps to its limit
  module _ {S A : Type 0} (rd : S → ℕ → Read A) (next : S → A → S) (one : (st : S) (at : ℕ) → Plain N (rd st at)) where
    run_answers : (n : ℕ) (st : S) (at : ℕ) → Answers N (λ xs. length xs ≡ n) (items rd next n st at)
    unfolding items
    run_answers zero st at = refl
    run_answers (suc n) st at = answers_bind (λ a. Unit {0}) (λ xs. length xs ≡ suc n) (rd st at) _ (one st at) (λ a c u. go a (items rd next n (next st a) c) (run_answers n (next st a) c))
      where
        go : (a : A) (x : Read (List A)) → Answers N (λ xs. length xs ≡ n) x → Answers N (λ xs. length xs ≡ suc n) (after (a ∷ []) x)
        go a (value xs c) p = ap suc p
        go a (refuse k) p = p

    pub counted_answers : {e : Edition} {s : List ℕ} → Refusing N e s → (limit : ℕ) (st : S) (at : ℕ) → Answers N (λ xs. length xs ≤ limit) (counted rd next e s limit st at)
    unfolding counted
    counted_answers {e} {s} k limit st at =
        answers_bind (λ n. Unit {0}) (λ xs. length xs ≤ limit) (e.read 8 s at) _ (k.numbers 8 at) λ n c u.
        answers_choice (λ xs. length xs ≤ limit) (ltb limit n) _ _ (λ e. k.three) (λ e. go n (ltb-false limit n e) (items rd next n st c) (run_answers n st c))
      where
        go : (n : ℕ) → n ≤ limit → (x : Read (List A)) → Answers N (λ xs. length xs ≡ n) x → Answers N (λ xs. length xs ≤ limit) x
        go n h (value xs c) p = omega arith
        go n h (refuse k) p = p

  -- the old edition with 2 and 3, the new one with 16 too
  module _ (two : N 2) (three : N 3) (s : List ℕ) where
    pub fixed_refusing : Refusing N fixed s
    fixed_refusing = record { two = two; three = three; numbers = λ w at. read_plain two w s at }

    pub variable_refusing : N 16 → Refusing N variable s
    variable_refusing sixteen = record { two = two; three = three; numbers = λ w at. variable_plain two sixteen w s at }

-- the numbers that refuse a value of the old edition, and of the new one
abbrev pub OldRow : ℕ → Type 0
OldRow n = (n ≡ 2) ⊎ (n ≡ 3)

abbrev pub NewRow : ℕ → Type 0
NewRow n = (n ≡ 2) ⊎ ((n ≡ 3) ⊎ (n ≡ 16))

module _ (s : List ℕ) where
  pub old_refusing : Refusing OldRow fixed s
  old_refusing = fixed_refusing OldRow (inl refl) (inr refl) s

  pub new_refusing : Refusing NewRow variable s
  new_refusing = variable_refusing NewRow (inl refl) (inr (inl refl)) s (inr (inr refl))
