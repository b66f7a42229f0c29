-- A batch call's answer as code gives it: the parts of the state, and a report with the numbers of faults and due items, which stand in the lent lists.
use Rattle.std.specs.Prelude.{ℕ, ◌+◌, ◌≡◌, List, Bool, cond, ltb, length, Ok, Err, Some, None}
use Rattle.std.specs.declared.option.Option.{Option}
use Rattle.std.specs.declared.result.Result.{Result}
use Rattle.lists.specs.Lists.{Found}
use Rattle.bincode.specs.Outcome.{Outcome, done, refused}
use Rattle.bincode.specs.Answer.{outcome_as_said}
use Rattle.bincode.specs.Sizes.{base}
use Rattle.bincode.specs.declared.Refusal.{Refusal}
use Rattle.pub_key_map.specs.declared.PubKeyMap.{PubKeyMap}
use Rattle.change.specs.Change.{none, state_held}
use Rattle.recipe.specs.Recipe.{RecipeOf}
use Rattle.batch.specs.Batch.{BatchOf, unvoted_held, batch_held, batch_of}
use Rattle.params.specs.declared.Params.{Params}
use Rattle.key_gen_message.specs.KeyGenMessage.{SignedKeyGenMsgOf}
use Rattle.message_store.specs.MessageStore.{from_era}
use Rattle.internal_contrib.specs.declared.Contrib.{Contrib}
use Rattle.dynamic_honey_badger.specs.declared.DynamicHoneyBadger.{DynamicHoneyBadger}
use Rattle.dynamic_honey_badger.specs.State.{state_of}
use Rattle.filled.specs.Numbers.{part_in}
use Rattle.store_filter.specs.Filter.{entries_in, without_entries}
use Rattle.decision.specs.declared.Decision.{Decision}
use Rattle.decision.specs.declared.Parts.{Parts}
use Rattle.decision.specs.Decision.{said_recipe}
use Rattle.process_output.specs.Process.{ReportOf, ProcessedOf}
use Rattle.process_batch.specs.declared.Report.{Report}
use Rattle.process_batch.specs.declared.BatchTime.{BatchTime}
use Rattle.process_batch.specs.declared.Told.{Told}
use Rattle.process_batch.specs.declared.Processed.{Processed}

-- a report, with faults and due items by their numbers
pub record Summary : Type 0 where
  pub batch : BatchOf
  pub faults : ℕ
  pub due : ℕ
  pub recipe : Found RecipeOf

abbrev pub summary : ReportOf → Summary
summary x = record { batch = x.batch; faults = length x.faults; due = length x.due; recipe = x.recipe }

abbrev pub summed : Outcome ReportOf → Outcome Summary
summed (done x) = done (summary x)
summed (refused n) = refused n

-- as code gives it
abbrev pub held_summary : Report → Summary
held_summary r = record { batch = batch_of r.batch; faults = r.faults; due = r.due; recipe = said_recipe r.recipe }

abbrev pub report_of : Result Report Refusal → Outcome Summary
report_of o = outcome_as_said held_summary o

-- how many faults it tells; a refusal tells of none
abbrev pub faults_told : Result Report Refusal → ℕ
faults_told (Ok r) = r.faults
faults_told (Err n) = 0

-- a part is due behind the acks, as far as the lent list reaches
abbrev pub part_behind : ℕ → Bool → ℕ → Option ℕ
part_behind acks part era = cond part (cond (ltb acks base.due) (Some era) None) None

-- what is told of a decision that left these parts, beside so many faults and acks
abbrev pub told_of : BatchTime → Parts → Decision → ℕ → ℕ → Told
told_of t p d faults acks =
    record {
      report = record {
        batch = batch_held t.epoch t.era d.ruling p.vote_counter.pub_keys p.params;
        faults = faults;
        due = acks + length (part_in (part_behind acks d.part_due t.next_era));
        recipe = d.recipe;
      };
      begun = cond d.restarted (Some t.next_era) None;
      part = part_behind acks d.part_due t.next_era;
    }

-- and where nothing is decided
abbrev pub nothing_decided : BatchTime → PubKeyMap → Params → ℕ → ℕ → Told
nothing_decided t m p faults acks =
    record {
      report = record {
        batch = batch_held t.epoch t.era (unvoted_held (state_held none)) m p;
        faults = faults;
        due = acks;
        recipe = None;
      };
      begun = None;
      part = None;
    }

-- the store once the messages of a batch have gone, and those of lower eras where an era began
abbrev pub kept_by : List ℕ → List Contrib → Option ℕ → List SignedKeyGenMsgOf → List SignedKeyGenMsgOf
kept_by s ks (Some era) st = from_era era (without_entries (entries_in s ks) st)
kept_by s ks None st = without_entries (entries_in s ks) st

-- beside a refusal stands the very state that was given, places that do not count included
abbrev pub BatchRefusedKeeps : Processed → DynamicHoneyBadger → Type 0
BatchRefusedKeeps r s = (n : Refusal) → r.outcome ≡ Err n → r.state ≡ s

-- the whole answer
abbrev pub ProcessedAs : Processed → ProcessedOf → Type 0
ProcessedAs r x = (state_of r.state ≡ x.state) × (report_of r.outcome ≡ summed x.answer)
