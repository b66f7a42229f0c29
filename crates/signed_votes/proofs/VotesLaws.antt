-- Laws of votes that are sorted by voter.
-- Assumes nothing.
use Prim.Native.Nat.{ℕ, ◌+◌, ◌≤◌}
use mathlib.Core.Path.{◌≡◌, refl, ap, ◌∙◌}
use mathlib.Core.List.{List, [], ◌∷◌}
use mathlib.Core.Bool.{Bool, true, false, cond}
use native.Mathlib.Omega.{arith}
use lib.ListN.{length}
use lib.Dec.{ltb, eqb}
use borrow.Author.Tests.{ltb-true, ltb-false, eqb-true, eqb-false}
use Rattle.bincode.specs.Stands.{Each, All}
use Rattle.lists.specs.Lists.{Found, found, nothing, map_found, lookup, insert, has_key, insert_within}
use Rattle.lists.proofs.SortedLaws.{map_lookup}
use Rattle.votes.specs.declared.SignedVote.{SignedVote}
use Rattle.votes.specs.Votes.{signed_of, voter_in}
use Rattle.signed_votes.specs.declared.SignedVotes.{SignedVotes}
use Rattle.signed_votes.specs.SignedVotes.{held, votes_of, voter_of, num_of}

-- the number that a look-up among the structs finds
pub held_num : (t : SignedVotes) (k : ℕ)
    → map_found (λ (x : SignedVote). x.vote.num) (lookup voter_in (held t) k) ≡ map_found num_of (lookup voter_of (votes_of t) k)
held_num t k = go (lookup voter_in (held t) k) ∙ ap (map_found num_of) (map_lookup signed_of voter_of (held t) k)
  where
    go : (f : Found SignedVote) → map_found (λ (x : SignedVote). x.vote.num) f ≡ map_found num_of (map_found signed_of f)
    go (found x) = refl
    go nothing = refl

-- what an insertion does to a list that is sorted
module _ {A : Type 0} (key : A → ℕ) where
  -- keys strictly ascend: the first is at least `low`, each other one at least that before it plus one
  abbrev pub AscendsFrom : ℕ → List A → Type 0
  AscendsFrom = Each (λ low x. key x + 1) (λ low x. low ≤ key x)

  abbrev pub Ascends : List A → Type 0
  Ascends = AscendsFrom 0

  insert_ascends_from : (a : A) (xs : List A) (low : ℕ) → low ≤ key a → AscendsFrom low xs → AscendsFrom low (insert key a xs)
  unfolding insert
  insert_ascends_from a [] low h s = (h, tt)
  insert_ascends_from a (x ∷ xs) low h s = go (ltb (key x) (key a)) refl (eqb (key x) (key a)) refl (insert_ascends_from a xs (key x + 1))
    where
      go : (p : Bool) → ltb (key x) (key a) ≡ p → (q : Bool) → eqb (key x) (key a) ≡ q
          → (key x + 1 ≤ key a → AscendsFrom (key x + 1) xs → AscendsFrom (key x + 1) (insert key a xs))
          → AscendsFrom low (cond p (x ∷ insert key a xs) (cond q (a ∷ xs) (a ∷ x ∷ xs)))
      go true e q f ih = (s.0, ih (omega (arith, ltb-true (key x) (key a) e)) s.1)
      go false e true f ih = let g : key x ≡ key a = eqb-true (key x) (key a) f in (h, rw g at s.1)
      go false e false f ih =
          let g : key x ≡ key a → ⊥ = eqb-false (key x) (key a) f in
          (h, (omega (arith, ltb-false (key x) (key a) e), s.1))

  -- a list that is sorted stays so
  pub insert_ascends : (a : A) (xs : List A) → Ascends xs → Ascends (insert key a xs)
  insert_ascends a xs s = insert_ascends_from a xs 0 (omega arith) s

  -- the same where there is room for a limit only
  pub within_ascends : (limit : ℕ) (a : A) (xs : List A) → Ascends xs → Ascends (insert_within key limit a xs)
  unfolding insert_within
  within_ascends limit a xs s = go (has_key key (key a) xs) (ltb (length xs) limit)
    where
      go : (p q : Bool) → Ascends (cond p (insert key a xs) (cond q (insert key a xs) xs))
      go true q = insert_ascends a xs s
      go false true = insert_ascends a xs s
      go false false = s

-- what holds of each element holds of each after one is put in
module _ {A : Type 0} (P : A → Type 0) (key : A → ℕ) (a : A) (p : P a) where
  pub all_insert : (xs : List A) → All P xs → All P (insert key a xs)
  unfolding insert
  all_insert [] ps = (p, tt)
  all_insert (x ∷ xs) ps = go (ltb (key x) (key a)) (eqb (key x) (key a)) (all_insert xs ps.1)
    where
      go : (b c : Bool) → All P (insert key a xs) → All P (cond b (x ∷ insert key a xs) (cond c (a ∷ xs) (a ∷ x ∷ xs)))
      go true c qs = (ps.0, qs)
      go false true qs = (p, ps.1)
      go false false qs = (p, ps)

  pub all_within : (limit : ℕ) (xs : List A) → All P xs → All P (insert_within key limit a xs)
  unfolding insert_within
  all_within limit xs ps = go (has_key key (key a) xs) (ltb (length xs) limit)
    where
      go : (b c : Bool) → All P (cond b (insert key a xs) (cond c (insert key a xs) xs))
      go true c = all_insert xs ps
      go false true = all_insert xs ps
      go false false = ps
