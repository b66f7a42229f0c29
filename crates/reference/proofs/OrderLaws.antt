-- Step 2, and the list of shared batches: in which order votes, messages, contributions and batches are taken.
-- Assumes nothing.
use Prim.Native.Nat.{ℕ}
use mathlib.Core.Path.{◌≡◌, refl, ap, ◌∙◌}
use mathlib.Core.List.{List, [], ◌∷◌, ◌++◌}
use Rattle.bincode.specs.Items.{foldl}
use Rattle.bincode.specs.Sizes.{Sizes}
use Rattle.votes.specs.Votes.{SignedVoteOf}
use Rattle.key_gen_message.specs.KeyGenMessage.{SignedKeyGenMsgOf}
use Rattle.internal_contrib.specs.InternalContrib.{ContribOf}
use Rattle.reference.specs.Reference.{RefState}
use Rattle.reference.specs.Step.{RefWork, ref_vote, ref_message, ref_contrib, ref_contribs, SharedBatch, passes_over, ref_step, unless_passed, ref_after, ref_run, ref_answers, ref_taken}
use Rattle.reference.proofs.PassedLaws.{own_era, own_after, unless_more}

-- "Per contribution ..: the votes, then the key messages, though messages are encoded first." Each is the contribution's proposer's.
module _ (z : Sizes) (w : RefWork) (proposer : ℕ) (user : List ℕ) where
  pub vote_first : (v : SignedVoteOf) (vs : List SignedVoteOf) (ms : List SignedKeyGenMsgOf)
      → ref_contrib z w (record { id = proposer; user = user; messages = ms; votes = v ∷ vs })
      ≡ ref_contrib z (ref_vote z proposer w v) (record { id = proposer; user = user; messages = ms; votes = vs })
  unfolding ref_contrib
  vote_first v vs ms = refl

  pub then_message : (m : SignedKeyGenMsgOf) (ms : List SignedKeyGenMsgOf)
      → ref_contrib z w (record { id = proposer; user = user; messages = m ∷ ms; votes = [] })
      ≡ ref_contrib z (ref_message proposer w m) (record { id = proposer; user = user; messages = ms; votes = [] })
  unfolding ref_contrib
  then_message m ms = refl

  pub contribution_ends : ref_contrib z w (record { id = proposer; user = user; messages = []; votes = [] }) ≡ w
  unfolding ref_contrib
  contribution_ends = refl

-- what is folded over one more element at the end
module _ {A B : Type 0} (f : B → A → B) where
  fold_last : (b : B) (xs : List A) (x : A) → foldl f b (xs ++ (x ∷ [])) ≡ f (foldl f b xs) x
  fold_last b [] x = refl
  fold_last b (y ∷ ys) x = fold_last (f b y) ys x

-- "Per contribution, ids ascending": none leaves the state with no fault, and each goes on where the one before it left off
module _ (z : Sizes) (s : RefState) where
  pub no_contribution : ref_contribs z s [] ≡ record { state = s; faults = [] }
  unfolding ref_contribs
  no_contribution = refl

  pub next_contribution : (cs : List ContribOf) (c : ContribOf) → ref_contribs z s (cs ++ (c ∷ [])) ≡ ref_contrib z (ref_contribs z s cs) c
  unfolding ref_contribs
  next_contribution cs c = fold_last (ref_contrib z) (record { state = s; faults = [] }) cs c

-- "The book is fed the start .. and those batches": none leaves it at the start, and each batch of the era that those before it left meets the state that they left,
-- and is answered there
module _ (z : Sizes) where
  pub no_batch : (s : RefState) → ref_run z s [] ≡ s
  unfolding ref_run
  no_batch s = refl

  pub next_batch : (s : RefState) (bs : List SharedBatch) (b : SharedBatch) → b.era ≡ (ref_run z s bs).era → ref_run z s (bs ++ (b ∷ [])) ≡ (ref_step z (ref_run z s bs) b).state
  unfolding ref_run
  next_batch s [] b e = own_after z s b e
  next_batch s (a ∷ bs) b e = next_batch (ref_after z s a) bs b e

  pub no_answer : (s : RefState) → ref_answers z s [] ≡ []
  unfolding ref_answers
  no_answer s = refl

  pub next_answer : (s : RefState) (bs : List SharedBatch) (b : SharedBatch) → b.era ≡ (ref_run z s bs).era
      → ref_answers z s (bs ++ (b ∷ [])) ≡ ref_answers z s bs ++ ((ref_step z (ref_run z s bs) b).answer ∷ [])
  unfolding ref_run ref_answers
  next_answer s [] b e = rw (own_era s b e)
  next_answer s (a ∷ bs) b e =
      ap (unless_passed (passes_over s a) (ref_step z s a).answer) (next_answer (ref_after z s a) bs b e)
      ∙ unless_more (passes_over s a) (ref_step z s a).answer (ref_answers z (ref_after z s a) bs) ((ref_step z (ref_run z (ref_after z s a) bs) b).answer ∷ [])

  -- 02, CR 1: and of a list are taken those that are answered
  pub none_taken : (s : RefState) → ref_taken z s [] ≡ []
  unfolding ref_taken
  none_taken s = refl

  pub next_taken : (s : RefState) (bs : List SharedBatch) (b : SharedBatch) → b.era ≡ (ref_run z s bs).era → ref_taken z s (bs ++ (b ∷ [])) ≡ ref_taken z s bs ++ (b ∷ [])
  unfolding ref_run ref_taken
  next_taken s [] b e = rw (own_era s b e)
  next_taken s (a ∷ bs) b e =
      ap (unless_passed (passes_over s a) a) (next_taken (ref_after z s a) bs b e) ∙ unless_more (passes_over s a) a (ref_taken z (ref_after z s a) bs) (b ∷ [])
