-- Rows 1 to 4, 15 and 5 of a batch call, before anything is done: what they need of the state is the era.
use Rattle.std.specs.Prelude.{ℕ, ◌+◌, ◌≡◌, List, Bool, true, false, cond, Ok, Err}
use Rattle.std.specs.declared.result.Result.{Result}
use Rattle.bincode.specs.Read.{Read, value, refuse}
use Rattle.bincode.specs.Outcome.{Outcome, done, refused}
use Rattle.bincode.specs.Answer.{outcome_as_said}
use Rattle.bincode.specs.Rows.{row_number}
use Rattle.bincode.specs.Sizes.{Sizes}
use Rattle.bincode.specs.declared.Refusal.{Refusal}
use Rattle.bincode.specs.declared.Refusal.TheVariants.{ShortBuffer}
use Rattle.internal_contrib.specs.InternalContrib.{ContribOf, read_batch}
use Rattle.internal_contrib.specs.declared.BatchIndex.{BatchIndex}
use Rattle.internal_contrib.specs.Places.{message_count}
use Rattle.internal_contrib.specs.Index.{placed_in, contribs_in, Indexed}
use Rattle.dynamic_honey_badger.specs.Asked.{row5}
use Rattle.process_output.specs.declared.Agreed.{Agreed}
use Rattle.process_output.specs.declared.LentPlaces.{LentPlaces}
use Rattle.process_output.specs.Refusals.{batch_row1, batch_row4, batch_row15}
use Rattle.process_output.specs.Process.{BatchCall}

-- 4; 15; 5; else the batch's epoch
unfoldable pub opened_contribs : ℕ → BatchCall → List ContribOf → Outcome ℕ
opened_contribs era b cs =
    cond (batch_row4 cs b.verdicts) (refused 4)
    (cond (batch_row15 era b.era) (refused 15)
    (cond (row5 (era + b.inner)) (refused 5)
    (done (era + b.inner))))

abbrev pub opened_read : ℕ → BatchCall → Read (List ContribOf) → Outcome ℕ
opened_read era b (value cs c) = opened_contribs era b cs
opened_read era b (refuse n) = refused n

-- 1; 2 and 3; the others
unfoldable pub opened : Sizes → ℕ → BatchCall → Outcome ℕ
opened z era b = cond (batch_row1 z b.fault_places b.due_places) (refused 1) (opened_read era b (read_batch z b.bytes))

-- as code says it: with an epoch it notes where the contributions stand
abbrev pub OpenedAs : Result (ℕ × BatchIndex) Refusal → Outcome ℕ → Read (List ContribOf) → Type 0
OpenedAs (Ok (epoch, index)) o x = (o ≡ done epoch) × (contribs_in index ≡ placed_in x)
OpenedAs (Err n) o x = o ≡ refused (row_number n)

-- row 1 where the lent lists are short, else what reading the batch comes to
abbrev pub ReadAs : Result (BatchIndex × ℕ) Refusal → Bool → Read (List ContribOf) → Type 0
ReadAs r short x = (short ≡ true → r ≡ Err ShortBuffer) × (short ≡ false → Indexed r x)

-- the call that the parameters make
abbrev pub call_of : ℕ → ℕ → List ℕ → List ℕ → ℕ → ℕ → BatchCall
call_of era inner bytes verdicts fault_places due_places =
    record { era = era; inner = inner; bytes = bytes; verdicts = verdicts; fault_places = fault_places; due_places = due_places }

-- of a batch as it was agreed, with the places of the lent lists
abbrev pub call_by : Agreed → LentPlaces → BatchCall
call_by g places = call_of g.era g.epoch g.batch.now g.verdicts.now places.faults places.due

-- rows 4, 15 and 5, said of a batch that is read
abbrev pub EpochBy : Result ℕ Refusal → ℕ → ℕ → ℕ → List ℕ → ℕ → Type 0
EpochBy r era batch-era inner verdicts messages =
    (bytes : List ℕ) (cs : List ContribOf) (places dues : ℕ) → messages ≡ message_count cs
    → outcome_as_said (λ (epoch : ℕ). epoch) r ≡ opened_contribs era (call_of batch-era inner bytes verdicts places dues) cs
