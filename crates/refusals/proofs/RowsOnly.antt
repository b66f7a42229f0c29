-- Every number that a call refuses with is a row's: each entry answers by its table, and each number of a table has a name.
-- Assumes nothing.
use Prim.Native.Nat.{ℕ, ◌≤◌}
use mathlib.Core.Path.{◌≡◌, refl, sym, ap, ◌∙◌}
use mathlib.Core.List.{List, [], ◌∷◌}
use mathlib.Core.Bool.{Bool, true, false, not, cond, ◌&&◌}
use mathlib.Core.Logic.{◌⊎◌, inl, inr}
use lib.Dec.{eqb}
use borrow.Author.Tests.{eqb-true}
use Rattle.lists.specs.Lists.{Found, found}
use Rattle.lists.proofs.ListLaws.{false_true, and_both}
use Rattle.bincode.specs.Read.{Read, value, refuse, whole}
use Rattle.bincode.specs.Numbers.{Edition, fixed, variable}
use Rattle.bincode.specs.Outcome.{Outcome, done, refused}
use Rattle.bincode.specs.Rows.{row_number}
use Rattle.bincode.specs.Rows as rows
use Rattle.bincode.specs.Sizes.{Sizes}
use Rattle.bincode.proofs.RefusalLaws as numbers
use Rattle.bincode.proofs.RefusalLaws.{Refusing, refuses_by, plain_whole, fixed_refusing, variable_refusing}
use Rattle.pub_key_map.specs.PubKeyMap.{read_node, read_map}
use Rattle.pub_key_map.proofs.MapRefusals.{node_plain, map_plain}
use Rattle.sync_key_gen.specs.SyncKeyGen.{read_handles, read_part, read_ack}
use Rattle.honey_badger.specs.EncryptionSchedule.{read_schedule}
use Rattle.honey_badger.proofs.ScheduleRefusals.{schedule_plain}
use Rattle.params.specs.Params.{read_strategy, read_params}
use Rattle.params.proofs.ParamsRefusals.{strategy_plain, params_plain}
use Rattle.change.specs.Change.{read_change, read_state}
use Rattle.change.proofs.ChangeRefusals.{change_plain, state_plain}
use Rattle.key_gen_message.specs.KeyGenMessage.{read_key_gen_message, read_signed_key_gen_msg}
use Rattle.votes.specs.Votes.{read_vote, read_signed_vote}
use Rattle.join_plan.specs.JoinPlan.{read_plan}
use Rattle.join_plan.proofs.PlanRefusals.{plan_plain}
use Rattle.message.specs.Message.{read_message}
use Rattle.internal_contrib.specs.InternalContrib.{ContribOf, read_batch, read_contrib}
use Rattle.internal_contrib.specs.Places.{contributed}
use Rattle.reference.specs.Reference.{RefState}
use Rattle.reference.specs.Step.{RefReport, SharedBatch, ref_step}
use Rattle.agreement.proofs.StepLaws.{items_in}
use Rattle.agreement.proofs.ReadingLaws.{Plain, plain_of, plain_handles, plain_part, plain_ack, plain_vote, plain_signed_vote, plain_signed_message, contrib_answers, plain_message as plain-key-message}
use Rattle.refusals.specs.Table.{Row, first_row, refusal_of, start_rows, join_rows, vote_rows, add_rows, remove_rows, message_rows, due_rows, batch_rows, plan_rows, plan_read_rows, plan_written_rows, convert_rows, next_rows, schedule_rows, lookup_rows}
use Rattle.refusals.specs.RowsOnly.{OnlyRows, ReadsRows, EditionRows, ReadersRows}
use Rattle.refusals.proofs.FirstRow.{never}
use Rattle.refusals.proofs.Reading.{refuses_2_or_3, plain_message}
use Rattle.refusals.proofs.NeverSix.{shows_none, reference_refuses}
use Rattle.refusals.proofs.Refused.{started_rows, joined_rows, vote_rows_lem, add_rows_lem, remove_rows_lem, message_rows_lem, due_rows_lem, batch_rows_lem}
use Rattle.refusals.proofs.Asked.{plan_rows_lem, plan_read_rows_lem, plan_written_rows_lem, next_rows_lem, schedule_rows_lem, lookup_rows_lem}
use Rattle.refusals.proofs.Converted.{to_variable_rows, to_fixed_rows}

-- each number of a table has a name, or its row cannot hold
unfoldable pub named : List Row → Bool
named [] = true
named (r ∷ rs) = cond (eqb (row_number (rows.row r.number)) r.number) true (not r.holds) && named rs

-- so the first row that holds has one
pub first_named : (rs : List Row) → named rs ≡ true → (n : ℕ) → first_row rs ≡ found n → row_number (rows.row n) ≡ n
unfolding first_row named
first_named [] h n e = absurd (never e)
first_named (r ∷ rs) h n e = let both = and_both _ _ h in go (eqb (row_number (rows.row r.number)) r.number) refl r.holds both.0 (first_named rs both.1 n) e
  where
    go : (k : Bool) → eqb (row_number (rows.row r.number)) r.number ≡ k → (b : Bool) → cond k true (not b) ≡ true
        → (first_row rs ≡ found n → row_number (rows.row n) ≡ n) → cond b (found r.number) (first_row rs) ≡ found n → row_number (rows.row n) ≡ n
    go true k true q next p = let m : r.number ≡ n = cc in rw m at (eqb-true _ _ k)
    go true k false q next p = next p
    go false k true q next p = absurd (false_true q)
    go false k false q next p = next p

module _ (n : ℕ) (none : row_number (rows.row n) ≡ n → ⊥) where
  -- an entry that answers by its rows
  by_rows : {x : Found ℕ} (rs : List Row) → x ≡ first_row rs → named rs ≡ true → x ≡ found n → ⊥
  by_rows rs r u e = none (first_named rs u n (sym r ∙ e))

  -- the look-up, since its companion would answer the number
  reading_only : (z : Sizes) (bytes : List ℕ) (id k : ℕ) → read_batch z bytes ≡ refuse k → k ≡ n → ⊥
  unfolding named lookup_rows
  reading_only z bytes id k e q = by_rows (lookup_rows z bytes) (lookup_rows_lem z bytes id) refl (ap (λ (x : Read (List ContribOf)). refusal_of (contributed x id)) e ∙ ap found q)

  reference_only : (z : Sizes) (s : RefState) (b : SharedBatch) (x : Outcome RefReport) → (ref_step z s b).answer ≡ x → refusal_of x ≡ found n → ⊥
  reference_only z s b (done r) p e = never e
  reference_only z s b (refused k) p e = let q : k ≡ n = cc in go (reference_refuses z s b k p) q
    where
      go : (k ≡ 2) ⊎ ((k ≡ 3) ⊎ ((k ≡ 5) ⊎ (k ≡ 7))) → k ≡ n → ⊥
      go (inl h) q = none (rw (sym q ∙ h))
      go (inr (inl h)) q = none (rw (sym q ∙ h))
      go (inr (inr (inl h))) q = none (rw (sym q ∙ h))
      go (inr (inr (inr h))) q = none (rw (sym q ∙ h))

-- every entry
pub only_rows : OnlyRows
unfolding named start_rows join_rows vote_rows add_rows remove_rows message_rows due_rows batch_rows plan_rows plan_read_rows plan_written_rows convert_rows next_rows schedule_rows lookup_rows
only_rows n none =
    record {
      batch = λ z s b. by_rows n none (batch_rows z s b) (batch_rows_lem z s b) refl;
      new = λ z id key era map params. by_rows n none (start_rows z key map params) (started_rows z key map params id era) refl;
      joining = λ z places id key plan. by_rows n none (join_rows z places id key plan) (joined_rows z places id key plan) refl;
      own_vote = λ z s change. by_rows n none (vote_rows z s change) (vote_rows_lem z s change) refl;
      own_vote_to_add = λ z s id key. by_rows n none (add_rows z s id key) (add_rows_lem z s id key) refl;
      own_vote_to_remove = λ z s id. by_rows n none (remove_rows s) (remove_rows_lem z s id) refl;
      message = λ z s sender bytes. by_rows n none (message_rows z s sender bytes) (message_rows_lem z s sender bytes) refl;
      due_item = λ z s bytes. by_rows n none (due_rows z s bytes) (due_rows_lem z s bytes) refl;
      join_plan = λ z buffer b set. by_rows n none (plan_rows z buffer b) (plan_rows_lem z buffer b set) refl;
      plan_read = λ z bytes. by_rows n none (plan_read_rows z bytes) (plan_read_rows_lem z bytes) refl;
      plan_written = λ z buffer p. by_rows n none (plan_written_rows z buffer) (plan_written_rows_lem z buffer p) refl;
      to_fixed = λ z plan buffer. by_rows n none (convert_rows variable z.plan z plan buffer) (to_fixed_rows z plan buffer) refl;
      to_variable = λ z plan buffer. by_rows n none (convert_rows fixed z.variable_plan z plan buffer) (to_variable_rows z plan buffer) refl;
      next_epoch = λ s inner. by_rows n none (next_rows s inner) (next_rows_lem s inner) refl;
      schedule = λ x epoch. by_rows n none (schedule_rows x) (schedule_rows_lem x epoch) refl;
      has_contribution = λ z bytes id. by_rows n none (lookup_rows z bytes) (lookup_rows_lem z bytes id) refl;
      user_bytes = λ z bytes id k e. (reading_only n none z bytes id k e, shows_none (read_batch z bytes) id k e);
      reference = λ z s b. reference_only n none z s b (ref_step z s b).answer refl;
    }

-- a reader that refuses by 2 or 3 only
reads_rows : {A : Type 0} (rd : ℕ → Read A) → ((at : ℕ) → Plain (rd at)) → ReadsRows rd
reads_rows rd p at n e = go (refuses_2_or_3 (λ a. Unit {0}) (rd at) (p at) n e)
  where
    go : (n ≡ 2) ⊎ (n ≡ 3) → row_number (rows.row n) ≡ n
    go (inl h) = rw h
    go (inr h) = rw h

-- a row's number
abbrev IsRow : ℕ → Type 0
IsRow n = row_number (rows.row n) ≡ n

-- a whole input: its reading's refusal, or 2 where something is left over
whole_rows : {A : Type 0} (s : List ℕ) (rd : ℕ → Read A) → ReadsRows rd → (n : ℕ) → whole rd s ≡ refuse n → IsRow n
whole_rows s rd p = refuses_by IsRow (λ a. Unit {0}) (whole rd s) (plain_whole IsRow refl rd s (go (rd 0) refl))
  where
    go : (x : Read _) → rd 0 ≡ x → numbers.Plain IsRow x
    go (value a c) r = tt
    go (refuse k) r = p 0 k r

-- the readers of an edition whose numbers refuse with a row's number
edition_rows : (e : Edition) (z : Sizes) (s : List ℕ) → Refusing IsRow e s → EditionRows e z s
edition_rows e z s k =
    record {
      number = λ w at. by_row (e.read w s at) (k.numbers w at);
      node = λ low at. by_row (read_node e s low at) (node_plain k low at);
      map = λ at. by_row (read_map e z s at) (map_plain k z at);
      schedule = λ at. by_row (read_schedule e s at) (schedule_plain k at);
      strategy = λ at. by_row (read_strategy e s at) (strategy_plain k at);
      params = λ at. by_row (read_params e s at) (params_plain k at);
      change = λ at. by_row (read_change e z s at) (change_plain k z at);
      change_state = λ at. by_row (read_state e z s at) (state_plain k z at);
      plan = λ at. by_row (read_plan e z s at) (plan_plain k z at);
    }
  where
    by_row : {A : Type 0} (x : Read A) → numbers.Plain IsRow x → (n : ℕ) → x ≡ refuse n → IsRow n
    by_row = refuses_by IsRow (λ a. Unit {0})

pub readers_rows : (z : Sizes) (s : List ℕ) → ReadersRows z s
readers_rows z s =
    record {
      old = edition_rows fixed z s (fixed_refusing IsRow refl refl s);
      new = edition_rows variable z s (variable_refusing IsRow refl refl s refl);
      handles = reads_rows (read_handles z s) (plain_handles s z);
      part = reads_rows (read_part z s) (plain_part s z);
      ack = reads_rows (read_ack z s) (plain_ack s z);
      key_gen_message = reads_rows (read_key_gen_message z s) (plain-key-message s z);
      signed_key_gen_msg = reads_rows (read_signed_key_gen_msg z s) (plain_signed_message s z);
      vote = reads_rows (read_vote z s) (plain_vote s z);
      signed_vote = reads_rows (read_signed_vote z s) (plain_signed_vote s z);
      message = reads_rows (read_message z s) (plain_message s z);
      contrib = λ b. reads_rows (read_contrib z s b) (λ at. plain_of (λ x. items_in x ≤ b.left) (read_contrib z s b at) (contrib_answers s z b at));
      whole_input = λ rd. whole_rows s rd;
    }
