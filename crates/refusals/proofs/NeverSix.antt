-- 02, CR 2: no call returns 6. Each entry answers the first of its rows that holds, and in no table does a row 6 hold.
-- Assumes nothing.
use Prim.Native.Nat.{ℕ}
use mathlib.Core.Path.{◌≡◌, refl, sym, ap, ◌∙◌}
use mathlib.Core.List.{List, []}
use mathlib.Core.Bool.{true}
use mathlib.Core.Logic.{◌⊎◌, inl, inr, ⊎_elim}
use native.Mathlib.Omega.{arith}
use Rattle.lists.specs.Lists.{Found, found}
use Rattle.bincode.specs.Read.{Read, refuse}
use Rattle.bincode.specs.Outcome.{Outcome, done, refused}
use Rattle.bincode.specs.Numbers.{fixed, variable}
use Rattle.bincode.specs.Sizes.{Sizes}
use Rattle.internal_contrib.specs.InternalContrib.{ContribOf, read_batch}
use Rattle.internal_contrib.specs.Places.{user_of, contributed}
use Rattle.reference.specs.Reference.{RefState}
use Rattle.reference.specs.Step.{RefReport, SharedBatch, ref_step}
use Rattle.reference.proofs.ReportLaws.{refused_by_reading_5_or_7}
use Rattle.refusals.specs.Table.{Row, first_row, refusal_of, start_rows, join_rows, vote_rows, add_rows, remove_rows, message_rows, due_rows, batch_rows, plan_rows, plan_read_rows, plan_written_rows, convert_rows, next_rows, schedule_rows, lookup_rows}
use Rattle.refusals.specs.NeverSix.{six, NeverSix}
use Rattle.refusals.proofs.FirstRow.{never, unanswered, unanswered_never}
use Rattle.refusals.proofs.Reading.{refuses_2_or_3, whole_batch}
use Rattle.refusals.proofs.Refused.{started_rows, joined_rows, vote_rows_lem, add_rows_lem, remove_rows_lem, message_rows_lem, due_rows_lem, batch_rows_lem}
use Rattle.refusals.proofs.Asked.{plan_rows_lem, plan_read_rows_lem, plan_written_rows_lem, next_rows_lem, schedule_rows_lem, lookup_rows_lem}
use Rattle.refusals.proofs.Converted.{to_variable_rows, to_fixed_rows}

-- an entry that answers by its rows, none of which is a row 6 that holds
by_table : {x : Found ℕ} (rs : List Row) → x ≡ first_row rs → unanswered six rs ≡ true → x ≡ found six → ⊥
by_table rs r u e = unanswered_never six rs u (sym r ∙ e)

-- the look-up: reading a batch does not refuse with 6, since its companion would answer it; and where reading refuses, nothing is shown
reading_never : (z : Sizes) (bytes : List ℕ) (id n : ℕ) → read_batch z bytes ≡ refuse n → n ≡ six → ⊥
unfolding unanswered lookup_rows
reading_never z bytes id n e q =
    by_table (lookup_rows z bytes) (lookup_rows_lem z bytes id) refl (ap (λ (x : Read (List ContribOf)). refusal_of (contributed x id)) e ∙ ap found q)

pub shows_none : (x : Read (List ContribOf)) (id n : ℕ) → x ≡ refuse n → user_of x id ≡ []
shows_none x id n e = rw e

-- the reference state's rows are 2, 3, 5 and 7
pub reference_refuses : (z : Sizes) (s : RefState) (b : SharedBatch) (n : ℕ) → (ref_step z s b).answer ≡ refused n → (n ≡ 2) ⊎ ((n ≡ 3) ⊎ ((n ≡ 5) ⊎ (n ≡ 7)))
reference_refuses z s b n e = ⊎_elim by_reading (λ h. inr (inr h)) (refused_by_reading_5_or_7 z s b n e)
  where
    by_reading : read_batch z b.bytes ≡ refuse n → (n ≡ 2) ⊎ ((n ≡ 3) ⊎ ((n ≡ 5) ⊎ (n ≡ 7)))
    by_reading r = ⊎_elim (λ h. inl h) (λ h. inr (inl h)) (refuses_2_or_3 (λ (cs : List ContribOf). Unit {0}) (read_batch z b.bytes) (whole_batch b.bytes z) n r)

reference_never : (z : Sizes) (s : RefState) (b : SharedBatch) (x : Outcome RefReport) → (ref_step z s b).answer ≡ x → refusal_of x ≡ found six → ⊥
reference_never z s b (done r) p e = never e
reference_never z s b (refused n) p e =
    let q : n ≡ six = cc in
    go (reference_refuses z s b n p) q
  where
    go : (n ≡ 2) ⊎ ((n ≡ 3) ⊎ ((n ≡ 5) ⊎ (n ≡ 7))) → n ≡ six → ⊥
    go (inl h) q = omega arith
    go (inr (inl h)) q = omega arith
    go (inr (inr (inl h))) q = omega arith
    go (inr (inr (inr h))) q = omega arith

-- every entry
pub no_call_returns_6 : NeverSix
unfolding unanswered start_rows join_rows vote_rows add_rows remove_rows message_rows due_rows batch_rows plan_rows plan_read_rows plan_written_rows convert_rows next_rows schedule_rows lookup_rows
no_call_returns_6 =
    record {
      batch = λ z s b. by_table (batch_rows z s b) (batch_rows_lem z s b) refl;
      new = λ z id key era map params. by_table (start_rows z key map params) (started_rows z key map params id era) refl;
      joining = λ z places id key plan. by_table (join_rows z places id key plan) (joined_rows z places id key plan) refl;
      own_vote = λ z s change. by_table (vote_rows z s change) (vote_rows_lem z s change) refl;
      own_vote_to_add = λ z s id key. by_table (add_rows z s id key) (add_rows_lem z s id key) refl;
      own_vote_to_remove = λ z s id. by_table (remove_rows s) (remove_rows_lem z s id) refl;
      message = λ z s sender bytes. by_table (message_rows z s sender bytes) (message_rows_lem z s sender bytes) refl;
      due_item = λ z s bytes. by_table (due_rows z s bytes) (due_rows_lem z s bytes) refl;
      join_plan = λ z buffer b set. by_table (plan_rows z buffer b) (plan_rows_lem z buffer b set) refl;
      plan_read = λ z bytes. by_table (plan_read_rows z bytes) (plan_read_rows_lem z bytes) refl;
      plan_written = λ z buffer p. by_table (plan_written_rows z buffer) (plan_written_rows_lem z buffer p) refl;
      to_fixed = λ z plan buffer. by_table (convert_rows variable z.plan z plan buffer) (to_fixed_rows z plan buffer) refl;
      to_variable = λ z plan buffer. by_table (convert_rows fixed z.variable_plan z plan buffer) (to_variable_rows z plan buffer) refl;
      next_epoch = λ s inner. by_table (next_rows s inner) (next_rows_lem s inner) refl;
      schedule = λ x epoch. by_table (schedule_rows x) (schedule_rows_lem x epoch) refl;
      has_contribution = λ z bytes id. by_table (lookup_rows z bytes) (lookup_rows_lem z bytes id) refl;
      user_bytes = λ z bytes id n e. (reading_never z bytes id n e, shows_none (read_batch z bytes) id n e);
      reference = λ z s b. reference_never z s b (ref_step z s b).answer refl;
    }
