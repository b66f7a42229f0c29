-- 01: the lent lists of a batch call, one list of numbers a field: faults as ids and kinds, due items as kinds, proposers' indices and eras, each filled from the first place on.
use Rattle.std.specs.Prelude.{ℕ, ◌≤◌, List, [], length}
use Rattle.filled.specs.Filled.{shorter}
use Rattle.filled.specs.Numbers.{FaultsIn, DueIn}
use Rattle.bincode.specs.Outcome.{Outcome, done, refused}
use Rattle.fault_log.specs.declared.Fault.{Fault}
use Rattle.due.specs.declared.DueItem.{DueItem}
use Rattle.bincode.specs.Sizes.{base}
use Rattle.dynamic_honey_badger.specs.declared.DynamicHoneyBadger.{DynamicHoneyBadger}
use Rattle.dynamic_honey_badger.specs.State.{state_of}
use Rattle.process_output.specs.Process.{BatchCall, ReportOf, processed}
use Rattle.process_batch.specs.declared.Processed.{Processed}
use Rattle.process_batch.specs.Answer.{faults_told, ProcessedAs, BatchRefusedKeeps}

-- the lists as numbers
pub record Lists : Type 0 where
  pub fault_ids : List ℕ
  pub fault_kinds : List ℕ
  pub due_kinds : List ℕ
  pub due_indices : List ℕ
  pub due_eras : List ℕ

-- a fault, or a due item, has a place where each of its lists has one
abbrev pub fault_places : Lists → ℕ
fault_places l = shorter (length l.fault_ids) (length l.fault_kinds)

abbrev pub due_places : Lists → ℕ
due_places l = shorter (shorter (length l.due_kinds) (length l.due_indices)) (length l.due_eras)

-- the call that lent lists make
abbrev pub lent_call : ℕ → ℕ → List ℕ → List ℕ → Lists → BatchCall
lent_call era inner bytes verdicts l =
    record { era = era; inner = inner; bytes = bytes; verdicts = verdicts; fault_places = fault_places l; due_places = due_places l }

-- faults and due items of an answer; a refused call has none, so it writes nothing
abbrev pub faults_in : Outcome ReportOf → List Fault
faults_in (done r) = r.faults
faults_in (refused n) = []

abbrev pub due_in : Outcome ReportOf → List DueItem
due_in (done r) = r.due
due_in (refused n) = []

-- what the lists hold at the end: each is filled from its first place on
abbrev pub Filled : Outcome ReportOf → Lists → Lists → Type 0
Filled a l l' =
    FaultsIn (faults_in a) l.fault_ids l'.fault_ids l.fault_kinds l'.fault_kinds
    × DueIn (due_in a) l.due_kinds l'.due_kinds l.due_indices l'.due_indices l.due_eras l'.due_eras

-- a batch call, whole: state and report, the very state beside a refusal, what each lent list holds at the end, and that faults are no more
-- than their places
abbrev pub BatchDone : DynamicHoneyBadger → ℕ → ℕ → List ℕ → List ℕ → Lists → Processed → Lists → Type 0
BatchDone s era inner bytes verdicts l r l' =
    let x = processed base (state_of s) (lent_call era inner bytes verdicts l) in
    ProcessedAs r x × BatchRefusedKeeps r s × Filled x.answer l l' × (faults_told r.outcome ≤ base.faults)
