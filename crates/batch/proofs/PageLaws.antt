-- Single sentences of the scope document, said of the join plan that a report gives.
-- Assumes nothing.
use Prim.Native.Nat.{ℕ, ◌+◌, ◌≤◌, ◌<◌}
use mathlib.Core.Path.{◌≡◌, refl}
use mathlib.Core.List.{List, []}
use lib.ListN.{length}
use lib.Seq.{sets}
use borrow.Author.Tests.{lt-ltb, le-ltb, ne_eqb}
use Rattle.lists.specs.Lists.{found, nothing}
use Rattle.bincode.specs.Numbers.{fixed}
use Rattle.bincode.specs.Sizes.{Sizes}
use Rattle.bincode.specs.Outcome.{done, refused}
use Rattle.pub_key_map.specs.declared.Node.{Node}
use Rattle.params.specs.declared.Params.{Params}
use Rattle.change.specs.Change.{ChangeOf, ChangeStateOf, none, in_progress, complete}
use Rattle.join_plan.specs.JoinPlan.{plan_bytes, plan_written, plan_said}
use Rattle.batch.specs.Batch.{RulingOf, unvoted, BatchOf, batch_with, plan_left, plan_answered}

module _ (z : Sizes) (l : List ℕ) (b : BatchOf) (set : ℕ) where
  -- row 1 holds also where the report has no change
  pub short_buffer : length l < z.plan → (plan_left z l b set ≡ l) × (plan_answered z l b set ≡ refused 1)
  unfolding plan_left plan_answered
  short_buffer h = (rw (lt-ltb (length l) z.plan h), rw (lt-ltb (length l) z.plan h))

  module _ (long : z.plan ≤ length l) where
    -- no plan where nothing changed
    pub nothing_changed : b.change ≡ none → (plan_left z l b set ≡ l) × (plan_answered z l b set ≡ done nothing)
    unfolding plan_left plan_answered
    nothing_changed e = (rw (le-ltb (length l) z.plan long, e), rw (le-ltb (length l) z.plan long, e))

    module _ (next : b.epoch ≡ 18446744073709551615 → ⊥) where
      -- the plan: the era behind the batch's epoch; change, map and parameters of the report; the key set that the host lends.
      -- "plan bytes past those filled are unchanged"
      abbrev Planned : ChangeStateOf → Type 0
      Planned change =
          (plan_left z l b set ≡ sets l 0 (plan_bytes fixed (record { era = b.epoch + 1; change = change; keys = b.keys; key_set = set; params = b.params })))
          × (plan_answered z l b set
          ≡ done (found (length (plan_bytes fixed (record { era = b.epoch + 1; change = change; keys = b.keys; key_set = set; params = b.params })))))

      -- a change in progress gives one
      pub progress_planned : (c : ChangeOf) → b.change ≡ in_progress c → Planned (in_progress c)
      unfolding plan_left plan_answered plan_written plan_said
      progress_planned c e =
          let last = ne_eqb b.epoch 18446744073709551615 next in
          (rw (le-ltb (length l) z.plan long, e, last), rw (le-ltb (length l) z.plan long, e, last))

      -- so does a complete one
      pub complete_planned : (c : ChangeOf) → b.change ≡ complete c → Planned (complete c)
      unfolding plan_left plan_answered plan_written plan_said
      complete_planned c e =
          let last = ne_eqb b.epoch 18446744073709551615 next in
          (rw (le-ltb (length l) z.plan long, e, last), rw (le-ltb (length l) z.plan long, e, last))

-- 02, CR 7, as R 7.3 reads it: "The join plan and its bytes are unchanged": reports that differ in their voters alone give one plan
module _ (z : Sizes) (l : List ℕ) (epoch era : ℕ) (r q : RulingOf) (same : r.change ≡ q.change) (ns : List Node) (p : Params) (set : ℕ) where
  pub voters_unplanned : plan_left z l (batch_with epoch era r ns p) set ≡ plan_left z l (batch_with epoch era q ns p) set
  unfolding plan_left
  voters_unplanned = rw same

  pub voters_unanswered : plan_answered z l (batch_with epoch era r ns p) set ≡ plan_answered z l (batch_with epoch era q ns p) set
  unfolding plan_answered
  voters_unanswered = rw same

-- no winner was taken: nobody carried the change
pub unvoted_nobody : (c : ChangeStateOf) → (unvoted c).voters ≡ []
unvoted_nobody c = refl
