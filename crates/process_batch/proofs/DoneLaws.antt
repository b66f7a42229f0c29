-- The whole batch call by what the steps came to: state, report and the lists that a host lends.
-- Assumes nothing.
use Prim.Native.Nat.{ℕ, ◌≤◌}
use mathlib.Core.Path.{◌≡◌, refl, sym, ap, subst}
use mathlib.Core.List.{List}
use native.Mathlib.Omega.{arith}
use Rattle.std.specs.declared.option.Option.{Option}
use Rattle.std.specs.declared.result.Result.{Result}
use Rattle.std.specs.declared.result.Result.TheVariants.{Ok, Err}
use Rattle.bincode.specs.Outcome.{refused}
use Rattle.bincode.specs.Rows.{row_number}
use Rattle.bincode.specs.Sizes.{base}
use Rattle.bincode.specs.declared.Refusal.{Refusal}
use Rattle.bincode.proofs.ReadLaws.{cross}
use Rattle.fault_log.specs.declared.Fault.{Fault}
use Rattle.fault_log.specs.FaultLog.{faults_of}
use Rattle.due.specs.declared.DueItem.{DueItem}
use Rattle.filled.specs.Numbers.{FaultsIn, DueIn, owed}
use Rattle.filled.proofs.FillLaws.{filled_none}
use Rattle.dynamic_honey_badger.specs.declared.DynamicHoneyBadger.{DynamicHoneyBadger}
use Rattle.dynamic_honey_badger.specs.State.{state_of}
use Rattle.commit.specs.declared.Arisen.{Arisen}
use Rattle.commit.specs.Arisen.{acks_of}
use Rattle.process_output.specs.Process.{BatchCall, ProcessedOf, processed}
use Rattle.process_batch.specs.declared.Report.{Report}
use Rattle.process_batch.specs.declared.Told.{Told}
use Rattle.process_batch.specs.Answer.{ProcessedAs, BatchRefusedKeeps}
use Rattle.process_batch.specs.Lent.{Lists, faults_in, due_in, Filled, BatchDone, lent_call}
use Rattle.process_batch.specs.Steps.{StepsDone}

-- the report is what is told, or the refusal
abbrev pub reported : Result Told Refusal → Result Report Refusal
reported (Ok t) = Ok t.report
reported (Err n) = Err n

-- what the lent lists hold at the end: what arose, or what they held
abbrev pub Written : Result Told Refusal → ℕ → Arisen → Lists → Lists → Type 0
Written (Ok t) era r l l' =
    FaultsIn (faults_of r.faults) l.fault_ids l'.fault_ids l.fault_kinds l'.fault_kinds
    × DueIn (owed era (acks_of r) t.part) l.due_kinds l'.due_kinds l.due_indices l'.due_indices l.due_eras l'.due_eras
Written (Err n) era r l l' = l' ≡ l

-- by what was put into them
pub faults_put : (fs gs : List Fault) → gs ≡ fs → (ids ids' ids'' kinds kinds' kinds'' : List ℕ) → ids'' ≡ ids' → kinds'' ≡ kinds' → FaultsIn gs ids ids' kinds kinds'
    → FaultsIn fs ids ids'' kinds kinds''
faults_put fs gs e ids ids' ids'' kinds kinds' kinds'' i k p = rw (← e, i, k) p

pub due_put : (xs ys : List ℕ) → ys ≡ xs → (era : ℕ) (part : Option ℕ) (kinds kinds' kinds'' indices indices' indices'' eras eras' eras'' : List ℕ)
    → kinds'' ≡ kinds' → indices'' ≡ indices' → eras'' ≡ eras' → DueIn (owed era ys part) kinds kinds' indices indices' eras eras'
    → DueIn (owed era xs part) kinds kinds'' indices indices'' eras eras''
due_put xs ys e era part kinds kinds' kinds'' indices indices' indices'' eras eras' eras'' k i r p = rw (← e, k, i, r) p

-- lists that stay as they are are filled with nothing
none_filled : (n : ℕ) (l l' : Lists) → l' ≡ l → Filled (refused n) l l'
none_filled n l l' e = subst (Filled (refused n) l) (sym e) ((sym (filled_none l.fault_ids), sym (filled_none l.fault_kinds)), (sym (filled_none l.due_kinds), sym (filled_none l.due_indices), sym (filled_none l.due_eras)))

module _ (s u : DynamicHoneyBadger) (era inner : ℕ) (bytes verdicts : List ℕ) (l l' : Lists) (r : Arisen) where
  pub batch_done : (o : Result Told Refusal) → StepsDone s (lent_call era inner bytes verdicts l) o u r → Written o s.vote_counter.era r l l' → (q : Result Report Refusal) → q ≡ reported o
      → BatchDone s era inner bytes verdicts l (record { state = u; outcome = q }) l'
  batch_done o h w q e = subst (λ (y : Result Report Refusal). BatchDone s era inner bytes verdicts l (record { state = u; outcome = y }) l') (sym e) (go o h w)
    where
      b : BatchCall
      b = lent_call era inner bytes verdicts l

      go : (o : Result Told Refusal) → StepsDone s (lent_call era inner bytes verdicts l) o u r → Written o s.vote_counter.era r l l'
          → BatchDone s era inner bytes verdicts l (record { state = u; outcome = reported o }) l'
      go (Ok t) h w = (
        (h.0, h.1),
        (λ n y. absurd (cross y)),
        filled_with h.2 h.3 w,
        h.4,
      )
        where
          filled_with : faults_of r.faults ≡ faults_in (processed base (state_of s) (lent_call era inner bytes verdicts l)).answer
              → owed s.vote_counter.era (acks_of r) t.part ≡ due_in (processed base (state_of s) (lent_call era inner bytes verdicts l)).answer
              → Written (Ok t) s.vote_counter.era r l l' → Filled (processed base (state_of s) (lent_call era inner bytes verdicts l)).answer l l'
          filled_with f d w = (
            subst (λ (fs : List Fault). FaultsIn fs l.fault_ids l'.fault_ids l.fault_kinds l'.fault_kinds) f w.0,
            subst (λ (ds : List DueItem). DueIn ds l.due_kinds l'.due_kinds l.due_indices l'.due_indices l.due_eras l'.due_eras) d w.1,
          )
      go (Err n) h w =
          subst (λ (x : ProcessedOf). ProcessedAs (record { state = u; outcome = Err n }) x × BatchRefusedKeeps (record { state = u; outcome = Err n }) s × Filled x.answer l l' × (0 ≤ base.faults)) (sym h.0)
          ((ap state_of h.1, refl), (λ m y. h.1), none_filled (row_number n) l l' w, omega arith)
