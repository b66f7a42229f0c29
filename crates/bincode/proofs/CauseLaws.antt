-- Which cause refuses what: for a number, for fields one after the other, for a test, for a choice by tag, for a run of items and for a whole input. The laws of
-- the encoded values above are put together from these. What stands before a field is told by its inverse law.
-- Assumes nothing.
use Prim.Native.Nat.{ℕ, ◌+◌, ◌-◌}
use mathlib.Core.Path.{◌≡◌, refl, sym, ap, ◌∙◌, subst}
use mathlib.Core.List.{List}
use mathlib.Core.Bool.{Bool, true, false, cond}
use native.Mathlib.Omega.{arith}
use lib.Dec.{ltb, eqb}
use lib.ListN.{length}
use borrow.Author.Tests.{eqb-true, eqb-false, ltb-true, ltb-false}
use Rattle.bincode.specs.Read.{Read, value, refuse, bind, whole}
use Rattle.bincode.specs.Numbers.{read_num, fixed}
use Rattle.bincode.specs.Stands.{Bytes}
use Rattle.bincode.specs.Codes.{Codes}
use Rattle.bincode.specs.Causes.{Cause, cut, left_over, unknown_tag, cause_number, Wrong, Unknown, Short, Unless, fails, passes, Case, this, other, Field, here, behind, Whole, Caused, Causes, NumberCauses}
use Rattle.bincode.proofs.NumberLaws.{read_cut, read_whole}
use Rattle.bincode.proofs.ReadLaws.{clash}

module _ {s : List ℕ} {A : Type 0} where
  -- a value is no refusal
  pub accepted : (a : A) (d : ℕ) → Caused s (value a d) (λ c. ⊥)
  accepted a d = record { cause = λ b n e. absurd (clash (value a d) refl e); refuses = λ c w. absurd w }

  -- a refusal with the number of a cause
  pub refused : (why : Cause) (n : ℕ) → cause_number why ≡ n → Caused {A = A} s (refuse n) (λ c. c ≡ why)
  refused why n q =
      record {
        cause = λ b k e. let m : n ≡ k = cc in (why, refl, q ∙ m);
        refuses = λ c w. ap refuse (sym q ∙ ap cause_number (sym w));
      }

  -- bytes have causes of one number only
  pub one_number : (x : Read A) {W : Cause → Type 0} → Caused s x W → (c d : Cause) → W c → W d → cause_number c ≡ cause_number d
  one_number x k c d v w = let p = k.refuses c v in let q = k.refuses d w in cc

  -- other words for the same causes
  pub reword : {x : Read A} {W X : Cause → Type 0} → ((c : Cause) → W c → X c) → ((c : Cause) → X c → W c) → Caused s x W → Caused s x X
  reword to from k =
      record {
        cause = λ b n e. let r = k.cause b n e in (r.0, to r.0 r.1, r.2);
        refuses = λ c w. k.refuses c (from c w);
      }

  -- a test that refuses
  pub tested : {rd : ℕ → Read A} {P : Type 0} {rest : Wrong} (t : Bool) (why : Cause) (n : ℕ) → cause_number why ≡ n
      → (t ≡ true → P) → (t ≡ false → P → ⊥) → (t ≡ false → Causes s rd rest) → Causes s (λ at. cond t (refuse n) (rd at)) (Unless P why rest)
  tested {rd} {P} {rest} true why n q met unmet k at = reword (λ c e. fails (met refl) e) from (refused why n q)
    where
      from : (c : Cause) → Unless P why rest at c → c ≡ why
      from c (fails p e) = e
      from c (passes p w) = absurd (p (met refl))
  tested {rd} {P} {rest} false why n q met unmet k at = reword (λ c w. passes (unmet refl) w) from (k refl at)
    where
      from : (c : Cause) → Unless P why rest at c → rest at c
      from c (fails p e) = absurd (unmet refl p)
      from c (passes p w) = w

  -- a test behind the last field
  pub tested_last : {P : Type 0} (t : Bool) (why : Cause) (n : ℕ) → cause_number why ≡ n
      → (t ≡ true → P) → (t ≡ false → P → ⊥) → (a : A) (d : ℕ) → Caused s (cond t (refuse n) (value a d)) (λ c. P × (c ≡ why))
  tested_last true why n q met unmet a d = reword (λ c e. (met refl, e)) (λ c w. w.1) (refused why n q)
  tested_last false why n q met unmet a d = reword (λ c w. absurd w) (λ c w. unmet refl w.0) (accepted a d)

  -- a choice by a tag that was read
  pub cases : {rd or : ℕ → Read A} {case others : Wrong} (t n : ℕ)
      → Causes s rd case → Causes s or others → Causes s (λ at. cond (eqb t n) (rd at) (or at)) (Case t n case others)
  cases {rd} {or} {case} {others} t n left right at = go (eqb t n) refl
    where
      same : t ≡ n → (c : Cause) → Case t n case others at c → case at c
      same q c (this p w) = w
      same q c (other p w) = absurd (p q)

      differs : (t ≡ n → ⊥) → (c : Cause) → Case t n case others at c → others at c
      differs q c (this p w) = absurd (q p)
      differs q c (other p w) = w

      go : (b : Bool) → eqb t n ≡ b → Caused s (cond b (rd at) (or at)) (Case t n case others at)
      go true e = reword (λ c w. this (eqb-true t n e) w) (same (eqb-true t n e)) (left at)
      go false e = reword (λ c w. other (eqb-false t n e) w) (differs (eqb-false t n e)) (right at)

  -- no case has the tag
  pub unknown : (n : ℕ) → cause_number unknown_tag ≡ n → Causes {A = A} s (λ at. refuse n) Unknown
  unknown n q at = refused unknown_tag n q

-- a field and what follows it
module _ {s : List ℕ} {A B : Type 0} {enc : A → List ℕ} {Ok : A → Type 0} {ra : ℕ → Read A} {itself : Wrong} where
  -- what follows may count on what is asked of the field
  pub field_ok : {k : A → ℕ → Read B} {rest : A → Wrong} → Codes s ra enc Ok → Causes s ra itself → ((a : A) → Ok a → Causes s (k a) (rest a))
      → Causes s (λ at. bind (ra at) k) (Field s enc Ok itself rest)
  field_ok {k} {rest} codes first then at = record { cause = λ b n. caused b n (ra at) refl; refuses = refusal }
    where
      caused : Bytes s → (n : ℕ) (x : Read A) → ra at ≡ x → bind x k ≡ refuse n → (c : Cause) × Field s enc Ok itself rest at c × (cause_number c ≡ n)
      caused b n (value a d) e p =
          let u = codes.stands b at a d e in
          let r = (then a u.2 d).cause b n p in
          (r.0, behind a u.2 u.0 (subst (λ (i : ℕ). rest a i r.0) u.1 r.1), r.2)
      caused b n (refuse m) e p =
          let q : m ≡ n = cc in
          let r = (first at).cause b n (e ∙ ap refuse q) in
          (r.0, here r.1, r.2)

      refusal : (c : Cause) → Field s enc Ok itself rest at c → bind (ra at) k ≡ refuse (cause_number c)
      refusal c (here w) = rw ((first at).refuses c w)
      refusal c (behind a o p w) = rw (codes.reads at a p o) ((then a o (at + length (enc a))).refuses c w)

  pub field : {k : A → ℕ → Read B} {rest : A → Wrong} → Codes s ra enc Ok → Causes s ra itself → ((a : A) → Causes s (k a) (rest a))
      → Causes s (λ at. bind (ra at) k) (Field s enc Ok itself rest)
  field codes first then = field_ok codes first (λ a o. then a)

-- the last field: what follows only puts the value together
module _ {s : List ℕ} {A B : Type 0} {rd : ℕ → Read A} {W : Wrong} (into : A → B) where
  pub last : Causes s rd W → Causes s (λ at. bind (rd at) λ a d. value (into a) d) W
  last k at = record { cause = λ b n. caused b n (rd at) refl; refuses = λ c w. rw ((k at).refuses c w) }
    where
      caused : Bytes s → (n : ℕ) (x : Read A) → rd at ≡ x → bind x (λ a d. value (into a) d) ≡ refuse n → (c : Cause) × W at c × (cause_number c ≡ n)
      caused b n (value a d) e p = absurd (clash (value (into a) d) refl p)
      caused b n (refuse m) e p = let q : m ≡ n = cc in (k at).cause b n (e ∙ ap refuse q)

-- a number of the fixed widths is cut, and nothing else is wrong with it
pub fixed_causes : (s : List ℕ) → NumberCauses fixed Short s
fixed_causes s w h at = record { cause = λ b n. caused b n (ltb (length s - at) w) refl; refuses = λ c v. rw v.1 (read_cut w s at (omega (arith, v.0))) }
  where
    caused : Bytes s → (n : ℕ) (t : Bool) → ltb (length s - at) w ≡ t → read_num w s at ≡ refuse n → (c : Cause) × Short s w at c × (cause_number c ≡ n)
    caused b n true e p = let l = ltb-true (length s - at) w e in (cut, (l, refl), let q = sym (read_cut w s at (omega arith)) ∙ p in cc)
    caused b n false e p = let l = ltb-false (length s - at) w e in absurd (clash (read_num w s at) (read_whole w s at (omega arith)) p)

-- a whole input: bytes that are left over are found behind the last field
module _ {s : List ℕ} {A : Type 0} {rd : ℕ → Read A} {enc : A → List ℕ} {Ok : A → Type 0} {itself : Wrong} where
  pub whole_causes : Codes s rd enc Ok → Causes s rd itself → Caused s (whole rd s) (Whole s enc Ok itself)
  unfolding whole
  whole_causes codes k =
      field codes k
      (λ a at.
      tested_last (ltb at (length s)) left_over 2 refl (ltb-true at (length s)) (λ t l. let m = ltb-false at (length s) t in omega arith) a at) 0
