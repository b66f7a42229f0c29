-- The user's own form: a batch call is full exactly where it is not answered with 1 or 4; so of a list whose batch calls are full the shared batches are the given ones
-- less those that the reference state passes over (02, CR 1).
-- Assumes nothing.
use Prim.Native.Nat.{ℕ, ◌≤◌}
use mathlib.Core.Path.{◌≡◌, refl, sym, ap, ◌∙◌}
use mathlib.Core.Logic.{⊎_elim}
use mathlib.Core.List.{List, [], ◌∷◌}
use mathlib.Core.Bool.{Bool, true, false, not, ◌||◌}
use native.Mathlib.Omega.{arith}
use lib.Dec.{ltb, eqb}
use lib.ListN.{length, drop}
use borrow.Author.Tests.{ltb-false, le-ltb, eqb-true, eq-eqb, not-false}
use Rattle.lists.proofs.ListLaws.{false_true}
use Rattle.bincode.specs.Read.{value}
use Rattle.bincode.specs.Outcome.{refused}
use Rattle.bincode.specs.Sizes.{Sizes}
use Rattle.bincode.specs.Stands.{All}
use Rattle.bincode.proofs.ReadLaws.{same_value, or_false}
use Rattle.internal_contrib.specs.InternalContrib.{ContribOf, read_batch}
use Rattle.internal_contrib.specs.Places.{message_count}
use Rattle.dynamic_honey_badger.specs.State.{StateOf}
use Rattle.process_output.specs.Refusals.{some, batch_row1, no_verdict, batch_row4}
use Rattle.process_output.specs.Process.{BatchCall, processed}
use Rattle.process_output.proofs.CallLaws.{IsRead, Refusal, by_1, by_reading, by_4, by_15, by_5, by_7, number, batch_cases}
use Rattle.reference.specs.Reference.{RefState}
use Rattle.reference.specs.Step.{SharedBatch, passes_over, unless_passed, ref_after, ref_run, ref_answers, ref_taken}
use Rattle.reference.proofs.PassedLaws.{taken_run, taken_answers}
use Rattle.agreement.specs.Shared.{ref_of, is_own_refusal, is_other_era, is_passed}
use Rattle.agreement.specs.Calls.{Call, batch_call, vote_call, add_call, remove_call, message_call, due_call, after, run, as_shared, shared_batches, answers, batch_calls, given_batches}
use Rattle.agreement.specs.Hypotheses.{FullBatch, Full}
use Rattle.agreement.proofs.CountLaws.{reading_refuses}
use Rattle.agreement.proofs.PassedCalls.{not_passed}
use Rattle.agreement.proofs.OwnCalls.{vote_for_kept, vote_to_add_kept, vote_to_remove_kept, message_kept, due_kept}
use Rattle.agreement.proofs.Follow.{batch_after, follows}

-- no byte is over 3, as a test and as it is asked
none_over : (vs : List ℕ) → All (λ (v : ℕ). v ≤ 3) vs → some no_verdict vs ≡ false
unfolding some
none_over [] h = refl
none_over (v ∷ vs) h = rw (le-ltb 3 v h.0) (none_over vs h.1)

all_within : (vs : List ℕ) → some no_verdict vs ≡ false → All (λ (v : ℕ). v ≤ 3) vs
unfolding some
all_within [] e = tt
all_within (v ∷ vs) e =
    let o = or_false (no_verdict v) (some no_verdict vs) e in
    (ltb-false 3 v o.0, all_within vs o.1)

module _ (z : Sizes) (s : StateOf) (b : BatchCall) where
  -- a full batch call is not refused by 1 or 4, in any state
  pub full_shared : FullBatch z b → is_own_refusal (processed z s b).answer ≡ false
  unfolding batch_row1 batch_row4
  full_shared full = batch_cases z s b (λ p. is_own_refusal p.answer ≡ false) refusal (λ cs c t. refl)
    where
      lent_enough : batch_row1 z b.fault_places b.due_places ≡ false
      lent_enough = rw (le-ltb b.fault_places z.faults (omega (arith, full.faults_lent)), le-ltb b.due_places z.due (omega (arith, full.due_lent)))

      judged : (cs : List ContribOf) (c : ℕ) → IsRead z s b cs c → batch_row4 cs b.verdicts ≡ false
      judged cs c r =
          let v = full.verdicts_formed cs c r.bytes_read in
          rw (eq-eqb (length b.verdicts) (message_count cs) v.0) (none_over b.verdicts v.1)

      refusal : (w : Refusal z s b) → is_own_refusal (refused (number z s b w)) ≡ false
      refusal (by_1 e) = absurd (false_true (sym lent_enough ∙ e))
      refusal (by_reading n e p) =
          ⊎_elim (λ q. ap (λ (k : ℕ). eqb k 1 || eqb k 4) q) (λ q. ap (λ (k : ℕ). eqb k 1 || eqb k 4) q) (reading_refuses z b.bytes n p)
      refusal (by_4 cs c r e) = absurd (false_true (sym (judged cs c r) ∙ e))
      refusal (by_15 cs c r e o) = refl
      refusal (by_5 cs c o e) = refl
      refusal (by_7 cs c o h e) = refl

  -- what rows 1 and 4 say where they do not hold
  formed : (cs : List ContribOf) → batch_row4 cs b.verdicts ≡ false → (length b.verdicts ≡ message_count cs) × All (λ (v : ℕ). v ≤ 3) b.verdicts
  unfolding batch_row4
  formed cs e =
      let o = or_false (not (eqb (length b.verdicts) (message_count cs))) (some no_verdict b.verdicts) e in
      (eqb-true (length b.verdicts) (message_count cs) (not-false (eqb (length b.verdicts) (message_count cs)) o.0), all_within b.verdicts o.1)

  enough : batch_row1 z b.fault_places b.due_places ≡ false → (z.faults ≤ b.fault_places) × (z.due ≤ b.due_places)
  unfolding batch_row1
  enough e =
      let o = or_false (ltb b.fault_places z.faults) (ltb b.due_places z.due) e in
      (ltb-false b.fault_places z.faults o.0, ltb-false b.due_places z.due o.1)

  full_by : batch_row1 z b.fault_places b.due_places ≡ false
      → ((cs : List ContribOf) (c : ℕ) → read_batch z b.bytes ≡ value cs c → batch_row4 cs b.verdicts ≡ false) → FullBatch z b
  full_by h f =
      record {
        faults_lent = omega (arith, (enough h).0);
        due_lent = omega (arith, (enough h).1);
        verdicts_formed = λ cs c q. formed cs (f cs c q);
      }

  -- and one that is not refused by 1 or 4, in whatever state, is full: nothing more is asked
  pub shared_full : is_own_refusal (processed z s b).answer ≡ false → FullBatch z b
  shared_full = batch_cases z s b (λ p. is_own_refusal p.answer ≡ false → FullBatch z b) refusal (λ cs c t h. judged cs c t.is_own.is_read t.is_own.judged)
    where
      judged : (cs : List ContribOf) (c : ℕ) → IsRead z s b cs c → batch_row4 cs b.verdicts ≡ false → FullBatch z b
      judged cs c r e =
          full_by r.lent (λ ds d q. ap (λ (xs : List ContribOf). batch_row4 xs b.verdicts) (sym (same_value (read_batch z b.bytes) r.bytes_read q)) ∙ e)

      refusal : (w : Refusal z s b) → is_own_refusal (refused (number z s b w)) ≡ false → FullBatch z b
      refusal (by_1 e) h = absurd (false_true (sym h))
      refusal (by_reading n e p) h = full_by e (λ cs c q. absurd (let k : ◌≡◌ {A = ℕ} 0 1 = cc in omega arith))
      refusal (by_4 cs c r e) h = absurd (false_true (sym h))
      refusal (by_15 cs c r e o) h = judged cs c r e
      refusal (by_5 cs c o e) h = judged cs c o.is_read o.judged
      refusal (by_7 cs c o h5 e) h = judged cs c o.is_read o.judged

  -- by the era a node and the reference state pass over the same batches
  pub era_passed : is_other_era s b ≡ passes_over (ref_of s) (as_shared b)
  unfolding passes_over
  era_passed = refl

  -- so a full batch call is passed over exactly where the reference state passes over its batch
  pub full_passed : FullBatch z b → is_passed s b (processed z s b).answer ≡ passes_over (ref_of s) (as_shared b)
  full_passed full = ap (λ (x : Bool). is_other_era s b || x) (full_shared full) ∙ or_nothing (is_other_era s b) ∙ era_passed
    where
      or_nothing : (x : Bool) → (x || false) ≡ x
      or_nothing true = refl
      or_nothing false = refl

-- the shared batches of a list whose batch calls are full are the given ones less those that the reference state passes over
module _ (z : Sizes) (fits : z.items ≤ z.faults) where
  -- a call that leaves the shared part as it is
  same_taken : (bs : List SharedBatch) (xs : List SharedBatch) (s t : StateOf) → ref_of t ≡ ref_of s → xs ≡ ref_taken z (ref_of t) bs → xs ≡ ref_taken z (ref_of s) bs
  same_taken bs xs s t e h = h ∙ ap (λ (r : RefState). ref_taken z r bs) e

  pub full_taken : (cs : List Call) (s : StateOf) → Full z cs → shared_batches z s cs ≡ ref_taken z (ref_of s) (given_batches cs)
  unfolding shared_batches batch_calls ref_taken
  full_taken [] s full = refl
  full_taken (batch_call b ∷ cs) s full =
      let t : StateOf = (processed z s b).state in
      let r : RefState = ref_after z (ref_of s) (as_shared b) in
      let stands : ref_of t ≡ r = batch_after z s b fits (full_shared z s b full.0) in
      ap (λ (p : Bool). unless_passed p (as_shared b) (shared_batches z t cs)) (full_passed z s b full.0)
      ∙ ap (unless_passed (passes_over (ref_of s) (as_shared b)) (as_shared b)) (full_taken cs t full.1 ∙ ap (λ (x : RefState). ref_taken z x (given_batches cs)) stands)
  full_taken (vote_call bytes ∷ cs) s full =
      same_taken (given_batches cs) _ s (after z s (vote_call bytes)) (vote_for_kept z s bytes).0 (full_taken cs (after z s (vote_call bytes)) full)
  full_taken (add_call id key ∷ cs) s full =
      same_taken (given_batches cs) _ s (after z s (add_call id key)) (vote_to_add_kept z s id key).0 (full_taken cs (after z s (add_call id key)) full)
  full_taken (remove_call id ∷ cs) s full =
      same_taken (given_batches cs) _ s (after z s (remove_call id)) (vote_to_remove_kept z s id).0 (full_taken cs (after z s (remove_call id)) full)
  full_taken (message_call sender bytes ∷ cs) s full =
      same_taken (given_batches cs) _ s (after z s (message_call sender bytes)) (message_kept z s sender bytes).0 (full_taken cs (after z s (message_call sender bytes)) full)
  full_taken (due_call bytes ∷ cs) s full =
      same_taken (given_batches cs) _ s (after z s (due_call bytes)) (due_kept z s bytes).0 (full_taken cs (after z s (due_call bytes)) full)

  -- so the node follows the reference state that is fed all given batches
  pub full_follows : (cs : List Call) (s : StateOf) → Full z cs
      → (ref_of (run z s cs) ≡ ref_run z (ref_of s) (given_batches cs)) × (answers z s cs ≡ ref_answers z (ref_of s) (given_batches cs))
  full_follows cs s full = (
    (follows z fits cs s).0 ∙ ap (ref_run z (ref_of s)) (full_taken cs s full) ∙ taken_run z (ref_of s) (given_batches cs),
    (follows z fits cs s).1 ∙ ap (ref_answers z (ref_of s)) (full_taken cs s full) ∙ taken_answers z (ref_of s) (given_batches cs),
  )

  -- and two such lists whose given batches agree after that striking-out have the same shared batches
  pub same_taken_given : (cs ds : List Call) (s t : StateOf) (r : RefState) → ref_of s ≡ r → ref_of t ≡ r → Full z cs → Full z ds
      → ref_taken z r (given_batches cs) ≡ ref_taken z r (given_batches ds) → shared_batches z s cs ≡ shared_batches z t ds
  same_taken_given cs ds s t r stands stands' f g e =
      full_taken cs s f
      ∙ ap (λ (x : RefState). ref_taken z x (given_batches cs)) stands
      ∙ e
      ∙ ap (λ (x : RefState). ref_taken z x (given_batches ds)) (sym stands')
      ∙ sym (full_taken ds t g)

module _ (z : Sizes) where
  -- no list has more shared batches than given ones
  few_shared : (cs : List Call) (s : StateOf) → length (shared_batches z s cs) ≤ length (given_batches cs)
  unfolding shared_batches batch_calls
  few_shared [] s = omega arith
  few_shared (batch_call b ∷ cs) s = go (is_passed s b (processed z s b).answer) (few_shared cs (processed z s b).state)
    where
      go : (p : Bool) → length (shared_batches z (processed z s b).state cs) ≤ length (given_batches cs)
          → length (unless_passed p (as_shared b) (shared_batches z (processed z s b).state cs)) ≤ length (as_shared b ∷ given_batches cs)
      go true h = omega (arith, h)
      go false h = omega (arith, h)
  few_shared (vote_call bytes ∷ cs) s = few_shared cs (after z s (vote_call bytes))
  few_shared (add_call id key ∷ cs) s = few_shared cs (after z s (add_call id key))
  few_shared (remove_call id ∷ cs) s = few_shared cs (after z s (remove_call id))
  few_shared (message_call sender bytes ∷ cs) s = few_shared cs (after z s (message_call sender bytes))
  few_shared (due_call bytes ∷ cs) s = few_shared cs (after z s (due_call bytes))

  -- and a list all of whose batches are shared is full, whatever other calls it has: nothing more is asked
  pub all_shared_full : (cs : List Call) (s : StateOf) → shared_batches z s cs ≡ given_batches cs → Full z cs
  unfolding shared_batches batch_calls
  all_shared_full [] s e = tt
  all_shared_full (batch_call b ∷ cs) s e = go (is_passed s b (processed z s b).answer) refl (all_shared_full cs (processed z s b).state) e
    where
      go : (p : Bool) → is_passed s b (processed z s b).answer ≡ p → (shared_batches z (processed z s b).state cs ≡ given_batches cs → Full z cs)
          → unless_passed p (as_shared b) (shared_batches z (processed z s b).state cs) ≡ as_shared b ∷ given_batches cs → FullBatch z b × Full z cs
      go true q f e = absurd (let none : ⊥ = omega (arith, few_shared cs (processed z s b).state, ap length e) in none)
      go false q f e = (shared_full z s b (not_passed s b (processed z s b).answer q).1, f (ap (drop 1) e))
  all_shared_full (vote_call bytes ∷ cs) s e = all_shared_full cs (after z s (vote_call bytes)) e
  all_shared_full (add_call id key ∷ cs) s e = all_shared_full cs (after z s (add_call id key)) e
  all_shared_full (remove_call id ∷ cs) s e = all_shared_full cs (after z s (remove_call id)) e
  all_shared_full (message_call sender bytes ∷ cs) s e = all_shared_full cs (after z s (message_call sender bytes)) e
  all_shared_full (due_call bytes ∷ cs) s e = all_shared_full cs (after z s (due_call bytes)) e
