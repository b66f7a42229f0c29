-- The batch call: refusals in their order, then steps 1 to 8.
use Rattle.std.specs.Prelude.{ℕ, ◌+◌, List, cond}
use Rattle.lists.specs.Lists.{Found, found}
use Rattle.bincode.specs.Items.{foldl}
use Rattle.bincode.specs.Read.{Read, value, refuse}
use Rattle.bincode.specs.Outcome.{Outcome, done, refused}
use Rattle.bincode.specs.Sizes.{Sizes}
use Rattle.fault_log.specs.declared.Fault.{Fault}
use Rattle.due.specs.declared.DueItem.{DueItem}
use Rattle.recipe.specs.Recipe.{RecipeOf}
use Rattle.batch.specs.Batch.{BatchOf, batch_with}
use Rattle.internal_contrib.specs.InternalContrib.{ContribOf, read_batch}
use Rattle.dynamic_honey_badger.specs.Asked.{row5}
use Rattle.dynamic_honey_badger.specs.State.{StateOf, Stamp, era_of, nodes_in, with_last}
use Rattle.steps.specs.Steps.{WorkOf, owe_to, committed}
use Rattle.decision.specs.Decision.{Decided, decide}
use Rattle.process_output.specs.Refusals.{batch_row1, batch_row4, batch_row15, batch_row7}

-- what a host passes with a batch: the era in which it was agreed (02, CR 1) and its inner epoch there, batch bytes, verdict bytes, and how long the two lent
-- lists are
pub record BatchCall : Type 0 where
  pub era : ℕ
  pub inner : ℕ
  pub bytes : List ℕ
  pub verdicts : List ℕ
  pub fault_places : ℕ
  pub due_places : ℕ

-- what it gets: the report, and beside it faults, due items and the recipe
pub record ReportOf : Type 0 where
  pub batch : BatchOf
  pub faults : List Fault
  pub due : List DueItem
  pub recipe : Found RecipeOf

pub record ProcessedOf : Type 0 where
  pub state : StateOf
  pub answer : Outcome ReportOf

-- a refusal gives the state as it was
abbrev pub denied : StateOf → ℕ → ProcessedOf
denied s n = record { state = s; answer = refused n }

-- 01: the report is epoch, era of the batch, change, map and parameters; map and parameters are those after the batch. 02, CR 7: and who carried the change. 02, CR 1: the state keeps the report's epoch
-- and era, so the old era where the batch began a new one.
abbrev pub reported : Sizes → StateOf → ℕ → WorkOf → Decided → ProcessedOf
reported z s epoch w d =
    record {
      state = with_last d.state (found (record { epoch = epoch; era = era_of s }));
      answer = done
          (record {
            batch = batch_with epoch (era_of s) d.ruling (nodes_in d.state) d.state.params;
            faults = w.faults;
            due = foldl (owe_to z) w.due d.due;
            recipe = d.recipe;
          });
    }

-- 02, CR 1: so the last report is this one, and a refusal leaves the one before
abbrev pub last_after : Found Stamp → Outcome ReportOf → Found Stamp
last_after l (done r) = found (record { epoch = r.batch.epoch; era = r.batch.era })
last_after l (refused n) = l

-- steps 1 to 8: batch epoch = era + inner epoch
abbrev pub finished : Sizes → StateOf → ℕ → WorkOf → ProcessedOf
finished z s epoch w = reported z s epoch w (decide z (epoch + 1) w.state)

unfoldable pub processed_contribs : Sizes → StateOf → BatchCall → List ContribOf → ProcessedOf
processed_contribs z s b cs =
    cond (batch_row4 cs b.verdicts) (denied s 4)
    (cond (batch_row15 (era_of s) b.era) (denied s 15)
    (cond (row5 (era_of s + b.inner)) (denied s 5)
    (cond (batch_row7 z s b.verdicts cs) (denied s 7)
    (finished z s (era_of s + b.inner) (committed z s b.verdicts cs)))))

abbrev pub processed_read : Sizes → StateOf → BatchCall → Read (List ContribOf) → ProcessedOf
processed_read z s b (value cs c) = processed_contribs z s b cs
processed_read z s b (refuse n) = denied s n

-- order: 1; reading, 2 and 3; 4; 15; 5; 7
unfoldable pub processed : Sizes → StateOf → BatchCall → ProcessedOf
processed z s b = cond (batch_row1 z b.fault_places b.due_places) (denied s 1) (processed_read z s b (read_batch z b.bytes))
