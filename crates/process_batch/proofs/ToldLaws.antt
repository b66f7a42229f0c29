-- What a batch call tells, by its answer: the last report that it keeps, and the due items that it writes.
-- Assumes nothing.
use Prim.Native.Nat.{ℕ}
use mathlib.Core.Path.{◌≡◌, refl, sym, ap, ◌∙◌}
use mathlib.Core.List.{List, []}
use native.Mathlib.Omega.{arith}
use Rattle.std.specs.declared.option.Option.{Option}
use Rattle.std.specs.declared.option.Option.TheVariants.{Some}
use Rattle.std.specs.declared.result.Result.{Result}
use Rattle.std.specs.declared.result.Result.TheVariants.{Ok, Err}
use Rattle.lists.specs.Lists.{found}
use Rattle.bincode.specs.Outcome.{Outcome, done, refused}
use Rattle.bincode.specs.Sizes.{base}
use Rattle.bincode.specs.declared.Refusal.{Refusal}
use Rattle.due.specs.declared.DueItem.{DueItem}
use Rattle.filled.specs.Numbers.{owed}
use Rattle.dynamic_honey_badger.specs.declared.DynamicHoneyBadger.{DynamicHoneyBadger}
use Rattle.dynamic_honey_badger.specs.declared.ReportStamp.{ReportStamp}
use Rattle.dynamic_honey_badger.specs.State.{StateOf, state_of, stamp_held}
use Rattle.commit.specs.declared.Arisen.{Arisen}
use Rattle.commit.specs.Arisen.{acks_of}
use Rattle.process_output.specs.Process.{BatchCall, ReportOf, ProcessedOf, last_after, processed}
use Rattle.process_output.proofs.CallLaws.{processed_last}
use Rattle.process_batch.specs.declared.Report.{Report}
use Rattle.process_batch.specs.declared.Told.{Told}
use Rattle.process_batch.specs.declared.Processed.{Processed}
use Rattle.process_batch.specs.Answer.{summary, summed, held_summary, report_of, ProcessedAs}
use Rattle.process_batch.specs.Lent.{due_in}
use Rattle.process_batch.specs.Steps.{StepsDone}

-- the last report by what a call answers: its own, and beside a refusal the one before
abbrev pub last_by : Result Report Refusal → Option ReportStamp → Option ReportStamp
last_by (Ok r) l = Some (record { epoch = r.batch.epoch; era = r.batch.era })
last_by (Err n) l = l

-- it is the one that the answer says
pub last_said : (o : Result Report Refusal) (l : Option ReportStamp) (a : Outcome ReportOf) → report_of o ≡ summed a
    → stamp_held (last_by o l) ≡ last_after (stamp_held l) a
last_said (Ok r) l (done x) e = let q : held_summary r ≡ summary x = cc in λ j. found (record { epoch = (q j).batch.epoch; era = (q j).batch.era })
last_said (Ok r) l (refused n) e = absurd (let z : ◌≡◌ {A = ℕ} 0 1 = cc in let w : ⊥ = omega arith in w)
last_said (Err n) l (done x) e = absurd (let z : ◌≡◌ {A = ℕ} 0 1 = cc in let w : ⊥ = omega arith in w)
last_said (Err n) l (refused m) e = refl

-- and the one that the state keeps
pub last_kept : (s : DynamicHoneyBadger) (b : BatchCall) (r : Processed) → ProcessedAs r (processed base (state_of s) b) → stamp_held r.state.last ≡ stamp_held (last_by r.outcome s.last)
last_kept s b r h =
    ap (λ (y : StateOf). y.last) h.0 ∙ processed_last base (state_of s) b ∙ sym (last_said r.outcome s.last (processed base (state_of s) b).answer h.1)

-- the due items that are told: what is owed, and beside a refusal none
abbrev pub due_told : Result Told Refusal → ℕ → Arisen → List DueItem
due_told (Ok t) era r = owed era (acks_of r) t.part
due_told (Err n) era r = []

-- they are those of the answer
pub told_acks : (s : DynamicHoneyBadger) (b : BatchCall) (o : Result Told Refusal) (s' : DynamicHoneyBadger) (r : Arisen) → StepsDone s b o s' r
    → due_told o s.vote_counter.era r ≡ due_in (processed base (state_of s) b).answer
told_acks s b (Ok t) s' r h = h.3
told_acks s b (Err n) s' r h = ap (λ (x : ProcessedOf). due_in x.answer) (sym h.0)
