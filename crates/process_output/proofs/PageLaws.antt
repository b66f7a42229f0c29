-- Single sentences of documents 01 and 02, said of the report of a batch call, of what stands beside it, and of a batch of another era.
-- Assumes nothing.
use Prim.Native.Nat.{ℕ, ◌+◌, ◌≤◌}
use mathlib.Core.Path.{◌≡◌, sym, ap, ◌∙◌}
use mathlib.Core.List.{List, [], ◌∷◌, ◌++◌, append_assoc, append-nil}
use mathlib.Core.Bool.{false}
use native.Mathlib.Omega.{arith}
use lib.ListN.{length, length-append}
use lib.Seq.{take_all}
use borrow.Author.Tests.{le-ltb, eq-eqb, ne_eqb}
use Rattle.lists.specs.Lists.{found}
use Rattle.bincode.specs.Items.{foldl}
use Rattle.bincode.specs.Read.{value}
use Rattle.bincode.specs.Outcome.{done, refused}
use Rattle.bincode.specs.Sizes.{Sizes}
use Rattle.due.specs.declared.DueItem.{DueItem}
use Rattle.internal_contrib.specs.InternalContrib.{ContribOf, read_batch}
use Rattle.dynamic_honey_badger.specs.Asked.{row5}
use Rattle.dynamic_honey_badger.specs.State.{StateOf}
use Rattle.steps.specs.Steps.{WorkOf, owe_to, committed}
use Rattle.decision.specs.Decision.{Decided, decide}
use Rattle.process_output.specs.Refusals.{batch_row1, batch_row4, batch_row15, batch_row7}
use Rattle.process_output.specs.Process.{BatchCall, processed_contribs, processed}

-- the due list "in order of arising": those of the messages first, then that of the decision, where there are places for all
owed_all : (z : Sizes) (ys xs : List DueItem) → length xs + length ys ≤ z.due → foldl (owe_to z) xs ys ≡ xs ++ ys
owed_all z [] xs h = sym (append-nil xs)
owed_all z (y ∷ ys) xs h =
    let l : length (xs ++ (y ∷ [])) ≡ length xs + 1 = length-append xs (y ∷ []) in
    ap (λ (us : List DueItem). foldl (owe_to z) us ys) (take_all z.due (xs ++ (y ∷ [])) (omega arith))
    ∙ owed_all z ys (xs ++ (y ∷ [])) (omega arith)
    ∙ append_assoc xs (y ∷ []) ys

-- a batch that no row refuses: contributions `cs` were read, and come to a work `w` and a decision `d`
module _ (z : Sizes) (s : StateOf) (b : BatchCall) (cs : List ContribOf) (c : ℕ) (read : read_batch z b.bytes ≡ value cs c)
    (faults : z.faults ≤ b.fault_places) (places : z.due ≤ b.due_places)
    (judged : batch_row4 cs b.verdicts ≡ false) (now : b.era ≡ s.counter.era) (early : row5 (s.counter.era + b.inner) ≡ false)
    (full : batch_row7 z s b.verdicts cs ≡ false)
    (w : WorkOf) (work : committed z s b.verdicts cs ≡ w)
    -- 01, step 1: "Batch epoch = era + inner epoch"; step 6: the new era is "batch epoch + 1"
    (d : Decided) (decided : decide z (s.counter.era + b.inner + 1) w.state ≡ d) where
  -- "The report is epoch, era of the batch, change, map and parameters": the era is that before the batch, map and parameters are those after it. "Beside it stand the recipe and a due list".
  -- 02, CR 7: it hands on the list of the decision.
  -- 02, CR 1: the engine keeps "the era and epoch of its last report": the era is the batch's, also where the batch began another
  pub reported_as : length w.due + length d.due ≤ z.due
      → processed z s b
      ≡ record {
        state = record {
          counter = d.state.counter;
          params = d.state.params;
          key_gen = d.state.key_gen;
          store = d.state.store;
          last = found (record { epoch = s.counter.era + b.inner; era = s.counter.era });
        };
        answer = done
            (record {
              batch = record {
                epoch = s.counter.era + b.inner;
                era = s.counter.era;
                change = d.ruling.change;
                keys = d.state.counter.nodes;
                params = d.state.params;
                voters = d.ruling.voters;
              };
              faults = w.faults;
              due = w.due ++ d.due;
              recipe = d.recipe;
            });
      }
  unfolding processed processed_contribs batch_row1 batch_row15
  reported_as h =
      rw
      (le-ltb b.fault_places z.faults faults, le-ltb b.due_places z.due places, read, judged, eq-eqb b.era s.counter.era now, early, full, work, decided, owed_all z d.due w.due h)

-- 02, CR 1: "15, batch era is not the engine's, after 4 and before 5": a batch that rows 1 to 4 let pass, of an earlier or a later era, whatever its epoch would be
pub other_era : (z : Sizes) (s : StateOf) (b : BatchCall) (cs : List ContribOf) (c : ℕ) → read_batch z b.bytes ≡ value cs c → z.faults ≤ b.fault_places → z.due ≤ b.due_places
    → batch_row4 cs b.verdicts ≡ false → (b.era ≡ s.counter.era → ⊥) → processed z s b ≡ record { state = s; answer = refused 15 }
unfolding processed processed_contribs batch_row1 batch_row15
other_era z s b cs c read faults places judged other =
    rw (le-ltb b.fault_places z.faults faults, le-ltb b.due_places z.due places, read, judged, ne_eqb b.era s.counter.era other)
