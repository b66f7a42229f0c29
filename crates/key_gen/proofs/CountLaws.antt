-- What counts of voters, acknowledgers and complete parts say, for every number of nodes; only `quorums_meet` needs n = 3t + 1.
-- Assumes nothing.
use Prim.Native.Nat.{ℕ, suc, ◌+◌, ◌-◌, ◌*◌, ◌≤◌, ◌<◌}
use mathlib.Core.Path.{◌≡◌, refl}
use mathlib.Core.List.{List, [], ◌∷◌, Memᴰ}
use mathlib.Core.Bool.{Bool, true, false, cond, ◌&&◌}
use native.Mathlib.Omega.{arith}
use lib.ListN.{length}
use borrow.Author.Tests.{ltb-true, ltb-false}
use Rattle.lists.specs.Lists.{filter}
use Rattle.lists.proofs.ListLaws.{and_both}
use Rattle.key_gen.specs.KeyGen.{ProposalOf, KeyGenOf, threshold, complete, count_complete, enough, ready}

module _ {A : Type 0} where
  -- an element of which a test does not hold
  pub record Without (test : A → Bool) (xs : List A) : Type 0 where
    pub one : A
    pub among : Memᴰ one xs
    pub fails : test one ≡ false

  not_all : (test : A → Bool) (xs : List A) → length (filter test xs) < length xs → Without test xs
  unfolding filter
  not_all test [] h = absurd (let z : ⊥ = omega arith in z)
  not_all test (x ∷ xs) h = go (test x) refl h (not_all test xs)
    where
      go : (b : Bool) → test x ≡ b → length (cond b (x ∷ filter test xs) (filter test xs)) < suc (length xs) → (length (filter test xs) < length xs → Without test xs) → Without test (x ∷ xs)
      go true e h ih = let w = ih (omega arith) in record { one = w.one; among = Memᴰ.tail w.among; fails = w.fails }
      go false e h ih = record { one = x; among = Memᴰ.head refl; fails = e }

  -- among more than f voters is a correct one, where at most f of them are faulty
  pub quorum_correct : (faulty : A → Bool) (f : ℕ) (voters : List A) → length (filter faulty voters) ≤ f → f < length voters → Without faulty voters
  quorum_correct faulty f voters few many = not_all faulty voters (omega arith)

  -- two sets out of n elements and their common part: what `quorums_meet` asks of its counts
  pub common_part : (p q : A → Bool) (xs : List A) → length (filter p xs) + length (filter q xs) - length (filter (λ x. p x && q x) xs) ≤ length xs
  unfolding filter
  common_part p q [] = omega arith
  common_part p q (x ∷ xs) = go (p x) (q x) (common_part p q xs)
    where
      go : (a b : Bool) → length (filter p xs) + length (filter q xs) - length (filter (λ y. p y && q y) xs) ≤ length xs
          → length (cond a (x ∷ filter p xs) (filter p xs)) + length (cond b (x ∷ filter q xs) (filter q xs)) - length (cond (a && b) (x ∷ filter (λ y. p y && q y) xs) (filter (λ y. p y && q y) xs)) ≤ suc (length xs)
      go true true h = omega arith
      go true false h = omega arith
      go false true h = omega arith
      go false false h = omega arith

-- a complete part has more than 2t acknowledgers, and any other has no more than that
pub complete_quorum : (t : ℕ) (q : ProposalOf) → (complete t q ≡ true → 2 * t < length q.acks) × (complete t q ≡ false → length q.acks ≤ 2 * t)
unfolding complete
complete_quorum t q = (λ e. omega (arith, ltb-true), λ e. omega (arith, ltb-false))

-- sets of a and of b acknowledgers, each more than 2t out of n, have c in common
module _ (n t a b c : ℕ) (left : 2 * t < a) (right : 2 * t < b) (within : a + b - c ≤ n) where
  -- whatever n is
  pub quorums_overlap : 4 * t + 2 ≤ n + c
  quorums_overlap = omega arith

  -- more than t; this needs n = 3t + 1: n = 3t + 2 and n = 3t + 3 have the same t, and of six nodes two disjoint sets of three are quorums
  pub quorums_meet : n ≡ 3 * t + 1 → t < c
  quorums_meet e = omega (arith, quorums_overlap)

-- where key generation is ready there are more complete parts than there can be faulty nodes
pub ready_enough : (g : KeyGenOf) → ready g ≡ true → threshold g < count_complete g
unfolding ready enough
ready_enough g r = ltb-true (threshold g) (count_complete g) (and_both _ _ r).0

-- hence, where at most t proposers are faulty, a complete part is a correct node's
pub ready_correct : (g : KeyGenOf) → ready g ≡ true → (faulty : ProposalOf → Bool) → let parts = filter (complete (threshold g)) g.parts in
    length (filter faulty parts) ≤ threshold g → Without faulty parts
unfolding count_complete
ready_correct g r faulty few = quorum_correct faulty (threshold g) (filter (complete (threshold g)) g.parts) few (ready_enough g r)
