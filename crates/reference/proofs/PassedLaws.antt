-- 02, CR 1: a batch of another era than the reference state's is passed over, an earlier or a later one: no answer, no change, wherever it stands in a list.
-- Assumes nothing.
use mathlib.Core.Path.{◌≡◌, refl, sym, ap, ◌∙◌}
use mathlib.Core.List.{List, [], ◌∷◌, ◌++◌, append-nil}
use mathlib.Core.Bool.{Bool, true, false, not}
use borrow.Author.Tests.{eq-eqb, ne_eqb}
use Rattle.bincode.specs.Outcome.{Outcome}
use Rattle.bincode.specs.Sizes.{Sizes}
use Rattle.reference.specs.Reference.{RefState}
use Rattle.reference.specs.Step.{RefReport, SharedBatch, passes_over, ref_step, unless_passed, ref_after, ref_run, ref_answers, ref_taken}

-- a batch of another era than the reference state's is passed over, one of its own era is not
pub other_era : (s : RefState) (b : SharedBatch) → (b.era ≡ s.era → ⊥) → passes_over s b ≡ true
unfolding passes_over
other_era s b e = ap not (ne_eqb b.era s.era e)

pub own_era : (s : RefState) (b : SharedBatch) → b.era ≡ s.era → passes_over s b ≡ false
unfolding passes_over
own_era s b e = ap not (eq-eqb b.era s.era e)

-- what one batch leaves
module _ (z : Sizes) (s : RefState) (b : SharedBatch) where
  pub own_after : b.era ≡ s.era → ref_after z s b ≡ (ref_step z s b).state
  own_after e = rw (own_era s b e)

  passed_after : passes_over s b ≡ true → ref_after z s b ≡ s
  passed_after p = rw p

  pub other_after : (b.era ≡ s.era → ⊥) → ref_after z s b ≡ s
  other_after e = passed_after (other_era s b e)

-- one element more or less, and then more elements
module _ {A : Type 0} where
  pub unless_more : (p : Bool) (x : A) (xs ys : List A) → unless_passed p x (xs ++ ys) ≡ unless_passed p x xs ++ ys
  unless_more true x xs ys = refl
  unless_more false x xs ys = refl

-- a batch of another era than the batches before it left: with it or without it the list leaves one state, has one list of answers and one of batches taken
module _ (z : Sizes) where
  pub other_batch : (s : RefState) (before bs : List SharedBatch) (b : SharedBatch) → (b.era ≡ (ref_run z s before).era → ⊥) → ref_run z s (before ++ (b ∷ bs)) ≡ ref_run z s (before ++ bs)
  unfolding ref_run
  other_batch s [] bs b e = ap (λ (r : RefState). ref_run z r bs) (other_after z s b e)
  other_batch s (a ∷ before) bs b e = other_batch (ref_after z s a) before bs b e

  pub other_answer : (s : RefState) (before bs : List SharedBatch) (b : SharedBatch) → (b.era ≡ (ref_run z s before).era → ⊥) → ref_answers z s (before ++ (b ∷ bs)) ≡ ref_answers z s (before ++ bs)
  unfolding ref_run ref_answers
  other_answer s [] bs b e =
      ap (λ (p : Bool). unless_passed p (ref_step z s b).answer (ref_answers z (ref_after z s b) bs)) (other_era s b e)
      ∙ ap (λ (r : RefState). ref_answers z r bs) (other_after z s b e)
  other_answer s (a ∷ before) bs b e = ap (unless_passed (passes_over s a) (ref_step z s a).answer) (other_answer (ref_after z s a) before bs b e)

  pub other_taken : (s : RefState) (before bs : List SharedBatch) (b : SharedBatch) → (b.era ≡ (ref_run z s before).era → ⊥) → ref_taken z s (before ++ (b ∷ bs)) ≡ ref_taken z s (before ++ bs)
  unfolding ref_run ref_taken
  other_taken s [] bs b e =
      ap (λ (p : Bool). unless_passed p b (ref_taken z (ref_after z s b) bs)) (other_era s b e)
      ∙ ap (λ (r : RefState). ref_taken z r bs) (other_after z s b e)
  other_taken s (a ∷ before) bs b e = ap (unless_passed (passes_over s a) a) (other_taken (ref_after z s a) before bs b e)

  -- in particular as the last one
  pub other_last : (s : RefState) (bs : List SharedBatch) (b : SharedBatch) → (b.era ≡ (ref_run z s bs).era → ⊥)
      → (ref_run z s (bs ++ (b ∷ [])) ≡ ref_run z s bs) × (ref_answers z s (bs ++ (b ∷ [])) ≡ ref_answers z s bs)
  other_last s bs b e = (other_batch s bs [] b e ∙ ap (ref_run z s) (append-nil bs), other_answer s bs [] b e ∙ ap (ref_answers z s) (append-nil bs))

-- a list less the batches that are passed over leaves the same state, has the same answers, and of it none is passed over
module _ (z : Sizes) where
  pub taken_run : (s : RefState) (bs : List SharedBatch) → ref_run z s (ref_taken z s bs) ≡ ref_run z s bs
  unfolding ref_run ref_taken
  taken_run s [] = refl
  taken_run s (b ∷ bs) = go (passes_over s b) refl (taken_run (ref_after z s b) bs)
    where
      go : (p : Bool) → passes_over s b ≡ p → ref_run z (ref_after z s b) (ref_taken z (ref_after z s b) bs) ≡ ref_run z (ref_after z s b) bs
          → ref_run z s (unless_passed p b (ref_taken z (ref_after z s b) bs)) ≡ ref_run z (ref_after z s b) bs
      go true e h = ap (λ (r : RefState). ref_run z r (ref_taken z (ref_after z s b) bs)) (sym (passed_after z s b e)) ∙ h
      go false e h = h

  pub taken_answers : (s : RefState) (bs : List SharedBatch) → ref_answers z s (ref_taken z s bs) ≡ ref_answers z s bs
  unfolding ref_answers ref_taken
  taken_answers s [] = refl
  taken_answers s (b ∷ bs) = go (passes_over s b) refl (taken_answers (ref_after z s b) bs)
    where
      x : Outcome RefReport
      x = (ref_step z s b).answer

      go : (p : Bool) → passes_over s b ≡ p → ref_answers z (ref_after z s b) (ref_taken z (ref_after z s b) bs) ≡ ref_answers z (ref_after z s b) bs
          → ref_answers z s (unless_passed p b (ref_taken z (ref_after z s b) bs)) ≡ unless_passed p x (ref_answers z (ref_after z s b) bs)
      go true e h = ap (λ (r : RefState). ref_answers z r (ref_taken z (ref_after z s b) bs)) (sym (passed_after z s b e)) ∙ h
      go false e h = ap (λ (q : Bool). unless_passed q x (ref_answers z (ref_after z s b) (ref_taken z (ref_after z s b) bs))) e ∙ ap (λ (xs : List (Outcome RefReport)). x ∷ xs) h

  pub taken_taken : (s : RefState) (bs : List SharedBatch) → ref_taken z s (ref_taken z s bs) ≡ ref_taken z s bs
  unfolding ref_taken
  taken_taken s [] = refl
  taken_taken s (b ∷ bs) = go (passes_over s b) refl (taken_taken (ref_after z s b) bs)
    where
      go : (p : Bool) → passes_over s b ≡ p → ref_taken z (ref_after z s b) (ref_taken z (ref_after z s b) bs) ≡ ref_taken z (ref_after z s b) bs
          → ref_taken z s (unless_passed p b (ref_taken z (ref_after z s b) bs)) ≡ unless_passed p b (ref_taken z (ref_after z s b) bs)
      go true e h = ap (λ (r : RefState). ref_taken z r (ref_taken z (ref_after z s b) bs)) (sym (passed_after z s b e)) ∙ h
      go false e h = ap (λ (q : Bool). unless_passed q b (ref_taken z (ref_after z s b) (ref_taken z (ref_after z s b) bs))) e ∙ ap (λ (xs : List SharedBatch). b ∷ xs) h
