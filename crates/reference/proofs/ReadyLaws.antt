-- Step 6: when key generation is ready, in the document's words.
-- Assumes nothing.
use Prim.Native.Nat.{ℕ, suc, ◌*◌, ◌≤◌}
use mathlib.Core.Path.{◌≡◌, refl, ap}
use mathlib.Core.List.{List, [], ◌∷◌}
use mathlib.Core.Bool.{Bool, true, false, cond, ◌&&◌}
use mathlib.Core.Logic.{◌⊎◌, inl, inr}
use native.Mathlib.Omega.{arith}
use lib.Dec.{ltb}
use lib.ListN.{length}
use borrow.Author.Tests.{ltb-true, ltb-false, lt-ltb, le-ltb}
use Rattle.lists.specs.Lists.{Found, found, nothing, filter}
use Rattle.util.specs.MaxFaulty.{max_faulty}
use Rattle.reference.specs.Reference.{PartRef, CandidateRef}
use Rattle.reference.specs.Terms.{Counted, none, one, other, Complete, Ready, Unready}
use Rattle.reference.specs.Step.{ref_complete, complete_count, is_ready, ref_ready}

-- two tests in a row
and_true : (a b : Bool) → a ≡ true → b ≡ true → (a && b) ≡ true
and_true a b e h = rw (e, h)

left_false : (a b : Bool) → a ≡ false → (a && b) ≡ false
left_false a b e = rw e

right_false : (a b : Bool) → b ≡ false → (a && b) ≡ false
right_false true b e = e
right_false false b e = refl

-- the step counts the complete parts
module _ (g : CandidateRef) where
  test_no : (q : PartRef) → (Complete g q → ⊥) → ref_complete (max_faulty (length g.nodes)) q ≡ false
  test_no q h = go (ref_complete (max_faulty (length g.nodes)) q) refl
    where
      go : (b : Bool) → ref_complete (max_faulty (length g.nodes)) q ≡ b → b ≡ false
      go true e = absurd (h (ltb-true (2 * max_faulty (length g.nodes)) (length q.acks) e))
      go false e = refl

  count_is : {ps : List PartRef} {n : ℕ} → Counted (Complete g) ps n → length (filter (ref_complete (max_faulty (length g.nodes))) ps) ≡ n
  unfolding filter
  count_is none = refl
  count_is (one q h c) = rw (lt-ltb (2 * max_faulty (length g.nodes)) (length q.acks) h) (ap suc (count_is c))
  count_is (other q h c) = rw (test_no q h) (count_is c)

  -- "Ready means complete > t and 3 x complete > 2n"
  pub ready_false : Unready g → is_ready g ≡ false
  unfolding is_ready
  ready_false r = go r.short
    where
      count : complete_count g ≡ r.complete
      count = count_is r.counted

      go : (r.complete ≤ max_faulty (length g.nodes)) ⊎ (3 * r.complete ≤ 2 * length g.nodes) → is_ready g ≡ false
      go (inl h) =
          left_false (ltb (max_faulty (length g.nodes)) (complete_count g)) (ltb (2 * length g.nodes) (3 * complete_count g))
          (le-ltb (max_faulty (length g.nodes)) (complete_count g) (rw count h))
      go (inr h) =
          right_false (ltb (max_faulty (length g.nodes)) (complete_count g)) (ltb (2 * length g.nodes) (3 * complete_count g))
          (le-ltb (2 * length g.nodes) (3 * complete_count g) (rw count h))

  pub ready_true : Ready g → is_ready g ≡ true
  unfolding is_ready
  ready_true r =
      and_true (ltb (max_faulty (length g.nodes)) (complete_count g)) (ltb (2 * length g.nodes) (3 * complete_count g))
      (lt-ltb (max_faulty (length g.nodes)) (complete_count g) (rw count r.over_t))
      (lt-ltb (2 * length g.nodes) (3 * complete_count g) (rw count r.over_n))
    where
      count : complete_count g ≡ r.complete
      count = count_is r.counted

  -- it is ready or it is not: the two cover every candidate map
  counted : (ps : List PartRef) → Counted (Complete g) ps (length (filter (ref_complete (max_faulty (length g.nodes))) ps))
  unfolding filter
  counted [] = none
  counted (q ∷ ps) = go (ref_complete (max_faulty (length g.nodes)) q) refl (counted ps)
    where
      rest : List PartRef
      rest = filter (ref_complete (max_faulty (length g.nodes))) ps

      go : (b : Bool) → ref_complete (max_faulty (length g.nodes)) q ≡ b → Counted (Complete g) ps (length rest) → Counted (Complete g) (q ∷ ps) (length (cond b (q ∷ rest) rest))
      go true e c = one q (ltb-true (2 * max_faulty (length g.nodes)) (length q.acks) e) c
      go false e c = other q (λ h. let k = ltb-false (2 * max_faulty (length g.nodes)) (length q.acks) e in omega arith) c

  pub ready_or_not : Ready g ⊎ Unready g
  ready_or_not = go (ltb (max_faulty (length g.nodes)) (complete_count g)) refl (ltb (2 * length g.nodes) (3 * complete_count g)) refl
    where
      go : (a : Bool) → ltb (max_faulty (length g.nodes)) (complete_count g) ≡ a → (b : Bool) → ltb (2 * length g.nodes) (3 * complete_count g) ≡ b → Ready g ⊎ Unready g
      go true e true h =
          inl (record {
            complete = complete_count g;
            counted = counted g.parts;
            over_t = ltb-true (max_faulty (length g.nodes)) (complete_count g) e;
            over_n = ltb-true (2 * length g.nodes) (3 * complete_count g) h;
          })
      go false e b h = inr (record { complete = complete_count g; counted = counted g.parts; short = inl (ltb-false (max_faulty (length g.nodes)) (complete_count g) e) })
      go true e false h = inr (record { complete = complete_count g; counted = counted g.parts; short = inr (ltb-false (2 * length g.nodes) (3 * complete_count g) h) })

-- without a candidate map nothing is ready
pub none_ready : (f : Found CandidateRef) → ((g : CandidateRef) → f ≡ found g → Unready g) → ref_ready f ≡ false
none_ready (found g) h = ready_false g (h g refl)
none_ready nothing h = refl
