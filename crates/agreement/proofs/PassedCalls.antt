-- 02, CR 1: batch calls that are passed over, by the era or by the node's own refusals 1 and 4: they leave the state as given, and may stand in a list or not.
-- Assumes nothing.
use Prim.Native.Nat.{ℕ, ◌+◌}
use mathlib.Core.Path.{◌≡◌, refl, sym, ap, ◌∙◌}
use mathlib.Core.Logic.{inl, inr, ⊎_elim}
use mathlib.Core.List.{List, [], ◌∷◌, ◌++◌}
use mathlib.Core.Bool.{Bool, true, false, not, ◌||◌}
use native.Mathlib.Omega.{arith}
use lib.Dec.{eqb}
use borrow.Author.Tests.{eqb-true, eq-eqb, ne_eqb, not-false}
use Rattle.lists.proofs.ListLaws.{false_true}
use Rattle.bincode.specs.Outcome.{Outcome, done}
use Rattle.bincode.specs.Sizes.{Sizes}
use Rattle.bincode.proofs.ReadLaws.{or_false}
use Rattle.dynamic_honey_badger.specs.State.{StateOf, era_of}
use Rattle.steps.specs.Steps.{committed}
use Rattle.process_output.specs.Process.{BatchCall, ReportOf, ProcessedOf, denied, finished, processed}
use Rattle.process_output.proofs.CallLaws.{Refusal, by_1, by_reading, by_4, by_15, by_5, by_7, number, batch_cases}
use Rattle.reference.specs.Step.{unless_passed}
use Rattle.agreement.specs.Shared.{shared_answer, is_own_refusal, is_other_era, is_passed}
use Rattle.agreement.specs.Calls.{Call, batch_call, vote_call, add_call, remove_call, message_call, due_call, after, run, as_shared, shared_batches, answers, report_then, reports}
use Rattle.agreement.specs.Claim.{UpToEra, SameOutcome}
use Rattle.agreement.proofs.CountLaws.{reading_refuses}

-- the test, by its causes
module _ (s : StateOf) (b : BatchCall) (a : Outcome ReportOf) where
  pub other_passed : (b.era ≡ era_of s → ⊥) → is_passed s b a ≡ true
  other_passed other = ap (λ (x : Bool). not x || is_own_refusal a) (ne_eqb b.era (era_of s) other)

  pub own_passed : b.era ≡ era_of s → is_passed s b a ≡ is_own_refusal a
  own_passed own = ap (λ (x : Bool). not x || is_own_refusal a) (eq-eqb b.era (era_of s) own)

  pub not_passed : is_passed s b a ≡ false → (b.era ≡ era_of s) × (is_own_refusal a ≡ false)
  not_passed e =
      let o = or_false (is_other_era s b) (is_own_refusal a) e in
      (eqb-true b.era (era_of s) (not-false (eqb b.era (era_of s)) o.0), o.1)

module _ (z : Sizes) (s : StateOf) (b : BatchCall) where
  -- for every state and every batch call of another era: it is refused by 1, 2, 3, 4 or 15, and the state is as given
  pub other_era_denied : (b.era ≡ era_of s → ⊥) → (n : ℕ) × (processed z s b ≡ denied s n) × UpToEra n
  other_era_denied other = batch_cases z s b (λ p. (n : ℕ) × (p ≡ denied s n) × UpToEra n) refusal (λ cs c t. absurd (other t.is_own.own_era))
    where
      refusal : (w : Refusal z s b) → (n : ℕ) × (denied s (number z s b w) ≡ denied s n) × UpToEra n
      refusal (by_1 e) = (1, refl, inl refl)
      refusal (by_reading n e p) = (n, refl, ⊎_elim (λ q. inr (inl q)) (λ q. inr (inr (inl q))) (reading_refuses z b.bytes n p))
      refusal (by_4 cs c r e) = (4, refl, inr (inr (inr (inl refl))))
      refusal (by_15 cs c r e o) = (15, refl, inr (inr (inr (inr refl))))
      refusal (by_5 cs c o e) = absurd (other o.own_era)
      refusal (by_7 cs c o h e) = absurd (other o.own_era)

  pub other_era_kept : (b.era ≡ era_of s → ⊥) → (processed z s b).state ≡ s
  other_era_kept other = ap (λ (p : ProcessedOf). p.state) (other_era_denied other).1

  -- a batch call that is passed over leaves the state as given
  pub batch_passed : is_passed s b (processed z s b).answer ≡ true → (processed z s b).state ≡ s
  batch_passed =
      batch_cases z s b (λ p. is_passed s b p.answer ≡ true → p.state ≡ s) (λ w e. refl)
      (λ cs c t e. absurd (false_true (sym (own_passed s b (finished z s (era_of s + b.inner) (committed z s b.verdicts cs)).answer t.is_own.own_era) ∙ e)))

  -- one that was reported is not passed over
  pub reported_shared : (r : ReportOf) → (processed z s b).answer ≡ done r → is_passed s b (processed z s b).answer ≡ false
  reported_shared r =
      batch_cases z s b (λ p. p.answer ≡ done r → is_passed s b p.answer ≡ false)
      (λ w e. absurd (let q : ◌≡◌ {A = ℕ} 0 1 = cc in let n : ⊥ = omega arith in n))
      (λ cs c t e. own_passed s b (finished z s (era_of s + b.inner) (committed z s b.verdicts cs)).answer t.is_own.own_era)

-- a batch call of another era than the calls before it left, put anywhere into a list or left out, changes neither the state, nor the shared batches, nor the answers,
-- nor the reports
module _ (z : Sizes) where
  pub left_out : (cs ds : List Call) (s : StateOf) (b : BatchCall) → (b.era ≡ era_of (run z s cs) → ⊥) → SameOutcome z s (cs ++ (batch_call b ∷ ds)) (cs ++ ds)
  unfolding run shared_batches answers reports
  left_out [] ds s b other =
      let t : StateOf = (processed z s b).state in
      let kept : t ≡ s = other_era_kept z s b other in
      let passed : is_passed s b (processed z s b).answer ≡ true = other_passed s b (processed z s b).answer other in (
        ap (λ (x : StateOf). run z x ds) kept,
        ap (λ (p : Bool). unless_passed p (as_shared b) (shared_batches z t ds)) passed ∙ ap (λ (x : StateOf). shared_batches z x ds) kept,
        ap (λ (p : Bool). unless_passed p (shared_answer (processed z s b).answer) (answers z t ds)) passed ∙ ap (λ (x : StateOf). answers z x ds) kept,
        ap (λ (p : ProcessedOf). report_then p.answer (reports z t ds)) (other_era_denied z s b other).1 ∙ ap (λ (x : StateOf). reports z x ds) kept,
      )
  left_out (batch_call a ∷ cs) ds s b other =
      let h = left_out cs ds (processed z s a).state b other in (
        h.0,
        ap (unless_passed (is_passed s a (processed z s a).answer) (as_shared a)) h.1,
        ap (unless_passed (is_passed s a (processed z s a).answer) (shared_answer (processed z s a).answer)) h.2,
        ap (report_then (processed z s a).answer) h.3,
      )
  left_out (vote_call bytes ∷ cs) ds s b other = left_out cs ds (after z s (vote_call bytes)) b other
  left_out (add_call id key ∷ cs) ds s b other = left_out cs ds (after z s (add_call id key)) b other
  left_out (remove_call id ∷ cs) ds s b other = left_out cs ds (after z s (remove_call id)) b other
  left_out (message_call sender bytes ∷ cs) ds s b other = left_out cs ds (after z s (message_call sender bytes)) b other
  left_out (due_call bytes ∷ cs) ds s b other = left_out cs ds (after z s (due_call bytes)) b other
