-- What `first_row` says: a number is answered exactly if a row with that number holds and none before it does; nothing, exactly if none holds. A number none of whose
-- rows can hold is never answered.
-- Assumes nothing.
use Prim.Native.Nat.{ℕ}
use mathlib.Core.Path.{◌≡◌, refl, sym, ap, ◌∙◌}
use mathlib.Core.List.{List, [], ◌∷◌, ◌++◌}
use mathlib.Core.Bool.{Bool, true, false, not, cond, ◌&&◌}
use native.Mathlib.Omega.{arith}
use lib.Dec.{eqb}
use borrow.Author.Tests.{eq-eqb}
use Rattle.lists.specs.Lists.{Found, found, nothing}
use Rattle.lists.proofs.ListLaws.{false_true, and_both}
use Rattle.bincode.specs.Stands.{All}
use Rattle.refusals.specs.Table.{Row, row, first_row}

-- none of the rows holds
abbrev pub NoneHold : List Row → Type 0
NoneHold = All (λ (r : Row). r.holds ≡ false)

-- rows that do not hold, a row with the number that holds, and a rest
pub record First (n : ℕ) (rs : List Row) : Type 0 where
  pub before : List Row
  pub rest : List Row
  pub splits : rs ≡ before ++ (row n true ∷ rest)
  pub passed : NoneHold before

-- not both a number and none
pub never : {n : ℕ} → ◌≡◌ {A = Found ℕ} nothing (found n) → ⊥
never e = let z : ◌≡◌ {A = ℕ} 0 1 = cc in omega arith

-- a number that is answered is that of the first row that holds
pub first_splits : (n : ℕ) (rs : List Row) → first_row rs ≡ found n → First n rs
unfolding first_row
first_splits n [] e = absurd (never e)
first_splits n (r ∷ rs) e = go r.holds refl e (first_splits n rs)
  where
    head : (b : Bool) → r.holds ≡ b → r.number ≡ n → r ∷ rs ≡ row n b ∷ rs
    head b q p = λ t. record { number = p t; holds = q t } ∷ rs

    go : (b : Bool) → r.holds ≡ b → cond b (found r.number) (first_row rs) ≡ found n → (first_row rs ≡ found n → First n rs) → First n (r ∷ rs)
    go true q p ih = record { before = []; rest = rs; splits = head true q cc; passed = tt }
    go false q p ih = let f = ih p in record { before = r ∷ f.before; rest = f.rest; splits = ap (λ (xs : List Row). r ∷ xs) f.splits; passed = (q, f.passed) }

-- and the first row that holds is answered
pub splits_first : (n : ℕ) (rs : List Row) → First n rs → first_row rs ≡ found n
unfolding first_row
splits_first n rs f = rw f.splits (go f.before f.passed)
  where
    go : (xs : List Row) → NoneHold xs → first_row (xs ++ (row n true ∷ f.rest)) ≡ found n
    go [] h = refl
    go (x ∷ xs) h = rw h.0 (go xs h.1)

-- no row with this number holds
unfoldable pub unanswered : ℕ → List Row → Bool
unanswered n [] = true
unanswered n (r ∷ rs) = not (eqb r.number n && r.holds) && unanswered n rs

-- and then the number is not answered, whatever the other rows are
pub unanswered_never : (n : ℕ) (rs : List Row) → unanswered n rs ≡ true → first_row rs ≡ found n → ⊥
unfolding first_row unanswered
unanswered_never n [] h e = never e
unanswered_never n (r ∷ rs) h e =
    let both = and_both (not (eqb r.number n && r.holds)) (unanswered n rs) h in
    go r.holds both.0 (unanswered_never n rs both.1) e
  where
    go : (b : Bool) → not (eqb r.number n && b) ≡ true → (first_row rs ≡ found n → ⊥) → cond b (found r.number) (first_row rs) ≡ found n → ⊥
    go true q rest p =
        let k : r.number ≡ n = cc in
        false_true (sym (ap (λ (t : Bool). not (t && true)) (eq-eqb r.number n k)) ∙ q)
    go false q rest p = rest p

-- nothing is answered where no row holds, and only there
pub none_first : (rs : List Row) → NoneHold rs → first_row rs ≡ nothing
unfolding first_row
none_first [] h = refl
none_first (r ∷ rs) h = rw h.0 (none_first rs h.1)

pub first_none : (rs : List Row) → first_row rs ≡ nothing → NoneHold rs
unfolding first_row
first_none [] e = tt
first_none (r ∷ rs) e = go r.holds e (first_none rs)
  where
    go : (b : Bool) → cond b (found r.number) (first_row rs) ≡ nothing → (first_row rs ≡ nothing → NoneHold rs) → (b ≡ false) × NoneHold rs
    go true p ih = absurd (never (sym p))
    go false p ih = (refl, ih p)
