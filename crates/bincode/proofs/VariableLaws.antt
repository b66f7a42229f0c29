-- Laws of the numbers of variable widths (02, CR 5): how many bytes they take, what a reading goes by, and that reading and writing are inverse.
-- Assumes nothing.
use Prim.Native.Nat.{ℕ, suc, ◌+◌, ◌^◌, ◌≤◌, ◌<◌}
use mathlib.Core.Path.{◌≡◌, refl, sym, ap, ◌∙◌}
use mathlib.Core.List.{List, ◌++◌}
use mathlib.Core.Bool.{Bool, true, false, cond}
use mathlib.Core.Logic.{◌⊎◌, inl, inr, ⊎_elim}
use native.Mathlib.Omega.{arith}
use native.Mathlib.Nat.{add_assoc, pow-le-pow_right}
use lib.Dec.{lit<, leb, ltb, eqb}
use lib.ListN.{length, get_or, take, drop, length-append}
use lib.Seq.{drop-cons}
use borrow.Author.Tests.{eqb-true, eqb-false, ltb-false, lt-ltb, le-ltb, leb-false, lt-leb}
use Rattle.std.proofs.lemmas.Bool.{cases_lt}
use Rattle.bincode.specs.Read.{value, refuse, bind}
use Rattle.bincode.specs.Numbers.{le, bytes_of, read_num, announced, least, read_variable, variable_bytes, variable}
use Rattle.bincode.specs.Stands.{Bytes, Stands}
use Rattle.bincode.specs.Codes.{Width, NumberCodes}
use Rattle.bincode.specs.Causes.{Announces, of_two, of_four, of_eight}
use Rattle.bincode.proofs.NumberLaws.{length_bytes_of, bytes_bytes_of, read_cut, read_whole}
use Rattle.bincode.proofs.ReadLaws.{clash, same_next, same_value, bind_value, cond_value}
use Rattle.bincode.proofs.StandLaws.{stands_left, stands_right, stands_both, bytes_append}
use Rattle.bincode.proofs.CodeLaws.{fixed_codes}

-- how many bytes a marker takes with the number behind it
pub length_marked : (m w x : ℕ) → length (bytes_of 1 m ++ bytes_of w x) ≡ suc w
length_marked m w x = simp (length-append, length_bytes_of) (omega arith)

-- the bytes of a number: its own, or a marker and as many as that announces
single_bytes : (x : ℕ) → x < 251 → variable_bytes x ≡ bytes_of 1 x
unfolding variable_bytes
single_bytes x h = rw (lt-ltb x 251 h)

marked_bytes : {m n low : ℕ} → Announces m n low → (x : ℕ) → low ≤ x → x < 256 ^ n → variable_bytes x ≡ bytes_of 1 m ++ bytes_of n x
unfolding variable_bytes
marked_bytes of_two x a b = rw (le-ltb x 251 a, lt-ltb x (2 ^ 16) b)
marked_bytes of_four x a b = rw (le-ltb x 251 (omega arith), le-ltb x (2 ^ 16) a, lt-ltb x (2 ^ 32) b)
marked_bytes of_eight x a b = rw (le-ltb x 251 (omega arith), le-ltb x (2 ^ 16) (omega arith), le-ltb x (2 ^ 32) a)

-- a number below 251 takes one byte, one of four bytes at most five, and any at most nine
pub variable_one : (x : ℕ) → x < 251 → length (variable_bytes x) ≡ 1
variable_one x h = rw (single_bytes x h, length_bytes_of)

pub variable_four : (x : ℕ) → x < 256 ^ 4 → length (variable_bytes x) ≤ 5
unfolding variable_bytes
variable_four x h = grind (arith, length_bytes_of, length_marked)

pub variable_eight : (x : ℕ) → length (variable_bytes x) ≤ 9
unfolding variable_bytes
variable_eight x = grind (arith, length_bytes_of, length_marked)

-- a number with a marker, and that each number has one of the two forms
abbrev Marked : ℕ → Type 0
Marked x = (m : ℕ) × (n : ℕ) × (low : ℕ) × Announces m n low × (low ≤ x) × (x < 256 ^ n)

single_or_marked : (x : ℕ) → x < 256 ^ 8 → (x < 251) ⊎ Marked x
single_or_marked x h =
    ⊎_elim inl (λ a. inr (
    ⊎_elim (λ b. (251, 2, 251, of_two, a, b)) (λ b.
    ⊎_elim (λ c. (252, 4, 2 ^ 16, of_four, b, c)) (λ c. (253, 8, 2 ^ 32, of_eight, c, h))
    (cases_lt x (2 ^ 32)))
    (cases_lt x (2 ^ 16))))
    (cases_lt x 251)

-- 251, 252 and 253 announce, and no other first byte does
announces_width : {m n low : ℕ} → Announces m n low → (250 < m) × (m < 254) × Width n
announces_width of_two = (lit< tt, lit< tt, (lit< tt, omega arith))
announces_width of_four = (lit< tt, lit< tt, (lit< tt, omega arith))
announces_width of_eight = (lit< tt, lit< tt, (lit< tt, omega arith))

pub announces : (m : ℕ) → 250 < m → m < 254 → Announces m (announced m) (least m)
announces m a b = by_test (eqb m 251) refl (eqb m 252) refl
  where
    by_test : (p : Bool) → eqb m 251 ≡ p → (q : Bool) → eqb m 252 ≡ q → Announces m (cond p 2 (cond q 4 8)) (cond p 251 (cond q (2 ^ 16) (2 ^ 32)))
    by_test true e q f = rw (eqb-true m 251 e) of_two
    by_test false e true f = rw (eqb-true m 252 f) of_four
    by_test false e false f =
        let d : m ≡ 253 = omega (arith, eqb-false m 251 e, eqb-false m 252 f) in
        rw d of_eight

-- the first byte
pub first_byte : (s : List ℕ) (at : ℕ) → at < length s → read_num 1 s at ≡ value (get_or s at 0) (at + 1)
unfolding le
first_byte s at h =
    let e : le (take 1 (drop at s)) ≡ get_or s at 0 = rw (drop-cons s at 0) (omega arith) in
    read_whole 1 s at (omega arith) ∙ ap (λ (x : ℕ). value x (at + 1)) e

-- what a reading goes by: whether a first byte is there, and which
module _ (w : ℕ) (s : List ℕ) (at : ℕ) where
  pub no_first : length s ≤ at → read_variable w s at ≡ refuse 2
  unfolding read_variable
  no_first h = rw (read_cut 1 s at (omega arith))

  pub small_first : (m c : ℕ) → read_num 1 s at ≡ value m c → m < 251 → read_variable w s at ≡ value m c
  unfolding read_variable
  small_first m c e h = rw (e, lt-ltb m 251 h)

  pub large_first : (m c : ℕ) → read_num 1 s at ≡ value m c → 253 < m → read_variable w s at ≡ refuse 16
  unfolding read_variable
  large_first m c e h = rw (e, le-ltb m 251 (omega arith), lt-ltb 253 m h)

  pub marked_first : {m n low : ℕ} → Announces m n low → (c : ℕ) → read_num 1 s at ≡ value m c
      → read_variable w s at ≡ bind (read_num n s c) (λ x d. cond (ltb x low) (refuse 16) (cond (leb (256 ^ w) x) (refuse 16) (value x d)))
  unfolding read_variable
  marked_first of_two c e = rw e
  marked_first of_four c e = rw e
  marked_first of_eight c e = rw e

-- what an accepted reading says of the bytes
module _ (w : ℕ) (s : List ℕ) (at x c : ℕ) where
  -- the number is its own byte, or it stands behind a marker, needs as many bytes as that announces, and fits its field
  abbrev Read_as : ℕ → Type 0
  Read_as m =
      ((m < 251) × (x ≡ m) × (c ≡ at + 1))
      ⊎ ((n : ℕ) × (low : ℕ) × Announces m n low × (read_num n s (at + 1) ≡ value x c) × (low ≤ x) × (x < 256 ^ w))

  module _ (p : read_variable w s at ≡ value x c) where
    behind_marker : {m n low : ℕ} → Announces m n low → read_num 1 s at ≡ value m (at + 1) → Read_as m
    behind_marker {m} {n} {low} a e =
        let y = bind_value (read_num n s (at + 1)) _ (sym (marked_first w s at a (at + 1) e) ∙ p) in
        let t = cond_value _ (ltb y.0 low) 16 y.3 in
        let u = cond_value (value y.0 y.1) (leb (256 ^ w) y.0) 16 t.1 in
        let i : y.0 ≡ x = cc in
        let k : y.1 ≡ c = cc in
        inr (n, low, a, rw (i, k) at y.2, rw i at (ltb-false y.0 low t.0), rw i at (leb-false (256 ^ w) y.0 u.0))

    variable_read : (at < length s) × Read_as (get_or s at 0)
    variable_read =
        ⊎_elim (λ l.
        let e = first_byte s at l in (
          l,
          ⊎_elim (λ h. let q = small_first w s at _ (at + 1) e h in inl (h, same_value _ p q, same_next _ p q)) (λ g.
              ⊎_elim (λ h. behind_marker (announces (get_or s at 0) g h) e) (λ h. absurd (clash _ p (large_first w s at _ (at + 1) e h)))
              (cases_lt (get_or s at 0) 254))
              (cases_lt (get_or s at 0) 251),
        ))
        (λ l. absurd (clash _ p (no_first w s at l)))
        (cases_lt at (length s))

-- reading and writing are inverse
pub variable_codes : (s : List ℕ) → NumberCodes variable s
variable_codes s w h = record { stands = stand; reads = read; clean = clean }
  where
    one : Width 1
    one = (lit< tt, omega arith)

    small : 256 ≤ 256 ^ w
    small = pow-le-pow_right (lit< tt) {i = 1} h.0

    large : 256 ^ w ≤ 256 ^ 8
    large = pow-le-pow_right (lit< tt) h.1

    stand : Bytes s → (at x c : ℕ) → read_variable w s at ≡ value x c → Stands s at (variable_bytes x) × (c ≡ at + length (variable_bytes x)) × (x < 256 ^ w)
    stand b at x c p =
        let u = variable_read w s at x c p in
        go (get_or s at 0) ((fixed_codes s 1 one).stands b at _ (at + 1) (first_byte s at u.0)) u.1
      where
        go : (m : ℕ) → Stands s at (bytes_of 1 m) × (at + 1 ≡ at + length (bytes_of 1 m)) × (m < 256 ^ 1) → Read_as w s at x c m
            → Stands s at (variable_bytes x) × (c ≡ at + length (variable_bytes x)) × (x < 256 ^ w)
        go m f (inl q) = let e = single_bytes m q.0 in rw (q.1, q.2, e) (f.0, f.1, omega (arith, q.0, small))
        go m f (inr q) =
            let r = (fixed_codes s q.0 (announces_width q.2).2).stands b (at + 1) x c q.3 in
            let e = marked_bytes q.2 x q.4 r.2 in
            rw e (stands_both s at (bytes_of 1 m) (bytes_of q.0 x) f.0 (rw f.1 at r.0), simp length-append (omega (arith, f.1, r.1)), q.5)

    read : (at x : ℕ) → Stands s at (variable_bytes x) → x < 256 ^ w → read_variable w s at ≡ value x (at + length (variable_bytes x))
    read at x p o = go (single_or_marked x (omega (arith, large)))
      where
        go : (x < 251) ⊎ Marked x → read_variable w s at ≡ value x (at + length (variable_bytes x))
        go (inl l) =
            let e = single_bytes x l in
            let r = (fixed_codes s 1 one).reads at x (rw e at p) (omega arith) in
            rw e (small_first w s at x _ r l)
        go (inr (m, n, low, a, l, k)) =
            let e = marked_bytes a x l k in
            let q : Stands s at (bytes_of 1 m ++ bytes_of n x) = rw e at p in
            let v = announces_width a in
            let f = (fixed_codes s 1 one).reads at m (stands_left s at (bytes_of 1 m) (bytes_of n x) q) (omega arith) in
            let r = (fixed_codes s n v.2).reads (at + length (bytes_of 1 m)) x (stands_right s at (bytes_of 1 m) (bytes_of n x) q) k in
            rw (e, marked_first w s at a _ f, r, le-ltb x low l, lt-leb (256 ^ w) x o, length-append, add_assoc)

    clean : (x : ℕ) → x < 256 ^ w → Bytes (variable_bytes x)
    clean x o = go (single_or_marked x (omega (arith, large)))
      where
        go : (x < 251) ⊎ Marked x → Bytes (variable_bytes x)
        go (inl l) = rw (single_bytes x l) (bytes_bytes_of 1 x)
        go (inr q) = rw (marked_bytes q.3 x q.4 q.5) (bytes_append (bytes_of 1 q.0) (bytes_of q.1 x) (bytes_bytes_of 1 q.0) (bytes_bytes_of q.1 x))
