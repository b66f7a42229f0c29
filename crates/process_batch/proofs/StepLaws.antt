-- A batch that all rows but 7 let pass: row 7, or what a decision makes of the state, of what is told and of the call's own lists.
-- Assumes nothing.
use borrow.Author.Tests.{ltb-true, ltb-false}
use Prim.Native.Nat.{ℕ, ◌+◌, ◌≤◌}
use mathlib.Core.Path.{◌≡◌, refl, sym, ap, ◌∙◌, subst, transport}
use mathlib.Core.List.{List, [], ◌∷◌, ◌++◌, append-nil, map}
use mathlib.Core.Bool.{Bool, true, false, cond}
use native.Mathlib.Omega.{arith}
use lib.Dec.{ltb}
use lib.ListN.{length, take, length-append, length-map}
use lib.Seq.{take_all, take_at}
use Rattle.lists.specs.Lists.{found}
use Rattle.lists.proofs.ListLaws.{cond_yes, cond_no}
use Rattle.std.specs.declared.option.Option.TheVariants.{Some, None}
use Rattle.std.specs.declared.result.Result.{Result}
use Rattle.std.specs.declared.result.Result.TheVariants.{Ok, Err}
use Rattle.bincode.specs.Items.{foldl}
use Rattle.bincode.specs.Outcome.{Outcome, done, refused}
use Rattle.bincode.specs.Rows.{row_number}
use Rattle.bincode.specs.declared.Refusal.{Refusal}
use Rattle.bincode.specs.declared.Refusal.TheVariants.{EmptyMapWins}
use Rattle.bincode.specs.Sizes.{base}
use Rattle.bincode.specs.Stands.{Bytes}
use Rattle.pub_key_map.specs.PubKeyMap.{nodes_of}
use Rattle.fault_log.specs.FaultLog.{faults_of}
use Rattle.due.specs.declared.DueKind.TheVariants.{Part}
use Rattle.due.specs.declared.DueItem.{DueItem}
use Rattle.due.specs.Due.{ack_item}
use Rattle.filled.specs.Numbers.{part_in, owed}
use Rattle.change.specs.Change.{none, state_held}
use Rattle.batch.specs.Batch.{batch_with, ruling_of, unvoted_held, batch_held}
use Rattle.message_store.specs.declared.MessageStore.{MessageStore}
use Rattle.message_store.specs.MessageStore.{store_of, from_era}
use Rattle.vote_counter.specs.VoteCounter.{counter_of}
use Rattle.key_gen_state.specs.KeyGenState as running
use Rattle.internal_contrib.specs.declared.BatchIndex.{BatchIndex}
use Rattle.internal_contrib.specs.InternalContrib.{read_batch}
use Rattle.internal_contrib.specs.Index.{contribs_in, placed_in}
use Rattle.dynamic_honey_badger.specs.declared.DynamicHoneyBadger.{DynamicHoneyBadger}
use Rattle.dynamic_honey_badger.specs.declared.ReportStamp.{ReportStamp}
use Rattle.dynamic_honey_badger.specs.State.{state_of}
use Rattle.steps.specs.Steps.{WorkOf, owe_to, committed, begun}
use Rattle.steps.proofs.KeepLaws.{batch_counter, batch_params}
use Rattle.commit.specs.declared.Arisen.{Arisen}
use Rattle.commit.specs.declared.Committed.{Committed}
use Rattle.commit.specs.declared.tally.Tally.{Tally}
use Rattle.commit.specs.Arisen.{acks_of}
use Rattle.commit.specs.Batch.{Holds}
use Rattle.commit.specs.Tally.{begun_with}
use Rattle.decision.specs.declared.Decision.{Decision}
use Rattle.decision.specs.declared.Parts.{Parts}
use Rattle.decision.specs.Decision.{Decided, decide, decided_of, said_recipe, without_recipe}
use Rattle.process_output.specs.Refusals.{batch_row7}
use Rattle.process_output.specs.Process.{BatchCall, ProcessedOf, processed, denied, reported}
use Rattle.process_output.specs.Opening.{opened}
use Rattle.process_output.proofs.OpeningLaws.{Begun}
use Rattle.process_batch.specs.declared.BatchTime.{BatchTime}
use Rattle.process_batch.specs.declared.Told.{Told}
use Rattle.process_batch.specs.Answer.{Summary, summed, held_summary, part_behind, told_of, nothing_decided, kept_by}
use Rattle.process_batch.specs.Lent.{faults_in, due_in}
use Rattle.process_batch.specs.Steps.{IsAt, BegunAs, CommittedAs, FewArisen, Quiet, WorkBy, Voids, Decides, SettledAs, StepsDone}
use Rattle.process_batch.proofs.SettleLaws.{quiet_decides}
use Rattle.process_batch.proofs.StoreLaws.{store_kept, store_none}

-- a part behind the acks, as far as the list reaches, is what owing it leaves
part_owed : (ds : List DueItem) (n era : ℕ) (part : Bool) → length ds ≡ n → n ≤ base.due
    → ds ++ part_in (part_behind n part era) ≡ foldl (owe_to base) ds (cond part (record { kind = Part; era = era } ∷ []) [])
part_owed ds n era false e h = append-nil ds
part_owed ds n era true e h = go (ltb n base.due) refl
  where
    go : (b : Bool) → ltb n base.due ≡ b → ds ++ part_in (cond b (Some era) None) ≡ take base.due (ds ++ (record { kind = Part; era = era } ∷ []))
    go true t =
        let k = ltb-true n base.due t in
        sym (take_all base.due (ds ++ (record { kind = Part; era = era } ∷ [])) (simp length-append (omega (arith, e, k))))
    go false t =
        let k = ltb-false n base.due t in
        append-nil ds ∙ sym (take_at ds (record { kind = Part; era = era } ∷ []) base.due (omega (arith, e, h, k)))

-- what the answer x of the definition says of a state's end, of what is told and of the call's own lists
abbrev DoneBy : DynamicHoneyBadger → Told → DynamicHoneyBadger → Arisen → ProcessedOf → Type 0
DoneBy s o u r x =
    (state_of u ≡ x.state) × (◌≡◌ {A = Outcome Summary} (done (held_summary o.report)) (summed x.answer)) × (faults_of r.faults ≡ faults_in x.answer)
    × (owed s.vote_counter.era (acks_of r) o.part ≡ due_in x.answer) × (o.report.faults ≤ base.faults)

-- a refusal leaves the very state
pub steps_refused : (s : DynamicHoneyBadger) (b : BatchCall) (r : Arisen) (o : Result Told Refusal) (n : Refusal) → o ≡ Err n
    → processed base (state_of s) b ≡ denied (state_of s) (row_number n) → StepsDone s b o s r
steps_refused s b r o n e q = subst (λ (y : Result Told Refusal). StepsDone s b y s r) (sym e) (q, refl)

-- what the answers of code tell
module _ (y : Result (BatchTime × BatchIndex) Refusal) (era : ℕ) (b : BatchCall) (h : BegunAs y era b) where
  pub begun_err : (n : Refusal) → y ≡ Err n → opened base era b ≡ refused (row_number n)
  begun_err n e = subst (λ (z : Result (BatchTime × BatchIndex) Refusal). BegunAs z era b) e h

  pub begun_ok : (t : BatchTime) (index : BatchIndex) → y ≡ Ok (t, index)
      → (opened base era b ≡ done t.epoch) × (contribs_in index ≡ placed_in (read_batch base b.bytes)) × IsAt t era
  begun_ok t index e = subst (λ (z : Result (BatchTime × BatchIndex) Refusal). BegunAs z era b) e h

module _ (y : Result Decision Refusal) (bytes : List ℕ) (p : Parts) (t : Tally) (era : ℕ) (p' : Parts) (h : SettledAs bytes p t era p' y) where
  pub settled_err : (n : Refusal) → y ≡ Err n → (n ≡ EmptyMapWins) × Voids bytes p t
  settled_err n e = subst (λ (z : Result Decision Refusal). SettledAs bytes p t era p' z) e h

  pub settled_ok : (d : Decision) → y ≡ Ok d → Decides bytes p t era p' d
  settled_ok d e = subst (λ (z : Result Decision Refusal). SettledAs bytes p t era p' z) e h

module _ (s : DynamicHoneyBadger) (b : BatchCall) (t : BatchTime) (at : IsAt t s.vote_counter.era) (index : BatchIndex)
    (x : Begun (state_of s) b t.epoch index) (c : Committed) (r : Arisen)
    (h : CommittedAs b.bytes b.verdicts s.vote_counter s.key_gen_state index c r) where
  abbrev pub work : WorkOf
  work = committed base (state_of s) b.verdicts x.cs

  -- the parts that come to steps 6 to 8
  abbrev pub parts : Parts
  parts = record { params = s.params; vote_counter = s.vote_counter; key_gen_state = c.state }

  held : Holds b.bytes s.vote_counter.era (nodes_of s.vote_counter.pub_keys) b.verdicts (begun_with (counter_of s.vote_counter)) work c r
  held = h (state_of s) x.cs refl refl x.kept

  by : WorkBy b.bytes parts c.tally work
  unfolding committed
  by =
      record {
        votes = held.votes;
        by_counter = batch_counter base x.cs (begun (state_of s) b.verdicts);
        by_params = batch_params base x.cs (begun (state_of s) b.verdicts);
        by_key_gen = held.messages.by_key_gen;
      }

  pub void_denied : Voids b.bytes parts c.tally → processed base (state_of s) b ≡ denied (state_of s) 7
  unfolding batch_row7
  void_denied v = x.comes ∙ cond_yes _ _ (v work by)

  module _ (p : Parts) (d : Decision) (decides : Decides b.bytes parts c.tally t.next_era p d) where
    abbrev left : Decided
    left = decided_of t.next_era work.state.store work.state.last p d

    decided_processed : processed base (state_of s) b ≡ reported base (state_of s) t.epoch work left
    unfolding batch_row7
    decided_processed =
        let e = decides work by in
        x.comes ∙ cond_no _ _ e.0 ∙ ap (reported base (state_of s) t.epoch work) (ap (λ (n : ℕ). decide base n work.state) (sym at.by_next) ∙ sym e.1)

    -- the due list: acks, and a part behind them as far as it reaches
    dues : FewArisen r → owed s.vote_counter.era (acks_of r) (part_behind (length (acks_of r)) d.part_due t.next_era) ≡ foldl (owe_to base) work.due left.due
    dues few =
        let acks = acks_of r in
        let count : length work.due ≡ length acks = sym (ap (λ (ds : List DueItem). length ds) held.due) ∙ length-map acks (ack_item s.vote_counter.era) in
        ap (λ (ds : List DueItem). ds ++ part_in (part_behind (length acks) d.part_due t.next_era)) held.due
        ∙ part_owed work.due (length acks) t.next_era d.part_due count few.1

    counted : FewArisen r → length (acks_of r) + length (part_in (part_behind (length (acks_of r)) d.part_due t.next_era)) ≡ length (foldl (owe_to base) work.due left.due)
    counted few =
        let acks = acks_of r in
        let part = part_in (part_behind (length acks) d.part_due t.next_era) in
        let all = length-append (map (ack_item s.vote_counter.era) acks) part in
        let own = length-map acks (ack_item s.vote_counter.era) in
        let count : length acks + length part ≡ length (map (ack_item s.vote_counter.era) acks ++ part) = omega (arith, all, own) in
        count ∙ ap (λ (ds : List DueItem). length ds) (dues few)

    -- at the end the state is the parts left with a store that the steps leave
    pub steps_done : FewArisen r → (k : MessageStore) → store_of k ≡ cond d.restarted (from_era t.next_era work.state.store) work.state.store
        → StepsDone s b (Ok (told_of t p d (length (faults_of r.faults)) (length (acks_of r))))
        (record { params = p.params; vote_counter = p.vote_counter; key_gen_state = p.key_gen_state; store = k; last = Some (record { epoch = t.epoch; era = t.era }) }) r
    steps_done few k stored =
        let o = told_of t p d (length (faults_of r.faults)) (length (acks_of r)) in
        let u : DynamicHoneyBadger
        = record { params = p.params; vote_counter = p.vote_counter; key_gen_state = p.key_gen_state; store = k; last = Some (record { epoch = t.epoch; era = t.era }) } in
        subst (DoneBy s o u r) (sym decided_processed) (
          (λ j. record {
            counter = counter_of p.vote_counter;
            params = p.params;
            key_gen = running.state_of p.key_gen_state;
            store = stored j;
            last = found (record { epoch = t.epoch; era = at.by_era j });
          }),
          (λ j. done (record {
            batch = batch_with t.epoch (at.by_era j) (ruling_of d.ruling) (nodes_of p.vote_counter.pub_keys) p.params;
            faults = length (held.faults j);
            due = counted few j;
            recipe = said_recipe d.recipe;
          })),
          held.faults,
          dues few,
          few.0,
        )

  -- behind the steps the state is u and o is told, both by a decision; the store and the last report are those before
  pub record Moved (u : DynamicHoneyBadger) (o : Told) : Type 0 where
    pub p : Parts
    pub d : Decision
    pub decides : Decides b.bytes parts c.tally t.next_era p d
    pub few : FewArisen r
    pub told : o ≡ told_of t p d (length (faults_of r.faults)) (length (acks_of r))
    pub moved : u ≡ record { params = p.params; vote_counter = p.vote_counter; key_gen_state = p.key_gen_state; store = s.store; last = s.last }

  pub moved_quiet : Quiet c (nodes_of s.vote_counter.pub_keys) → FewArisen r → (u : DynamicHoneyBadger)
      → u ≡ record { params = s.params; vote_counter = s.vote_counter; key_gen_state = c.state; store = s.store; last = s.last } → (o : Told)
      → o ≡ nothing_decided t s.vote_counter.pub_keys s.params (length (faults_of r.faults)) (length (acks_of r)) → Moved u o
  moved_quiet q few u e o told =
      record {
        p = parts;
        d = without_recipe false (unvoted_held (state_held none)) false;
        decides = quiet_decides b.bytes s.params s.vote_counter c q t.next_era;
        few = few;
        told = told ∙ (λ j. record {
          report = record {
            batch = batch_held t.epoch t.era (unvoted_held (state_held none)) s.vote_counter.pub_keys s.params;
            faults = length (faults_of r.faults);
            due = no_more (length (acks_of r)) j;
            recipe = None;
          };
          begun = None;
          part = None;
        });
        moved = e;
      }
    where
      no_more : (n : ℕ) → n ≡ n + 0
      no_more n = omega arith

  module _ (u : DynamicHoneyBadger) (o : Told) (m : Moved u o) where
    -- behind the store the other parts are those left, and the store is the one that the steps leave
    pub record Stored (v : DynamicHoneyBadger) : Type 0 where
      pub by_params : v.params ≡ m.p.params
      pub by_counter : v.vote_counter ≡ m.p.vote_counter
      pub by_key_gen : v.key_gen_state ≡ m.p.key_gen_state
      pub by_store : store_of v.store ≡ cond m.d.restarted (from_era t.next_era work.state.store) work.state.store

    -- the parts of a state that differs from u in its store
    same_parts : (v : DynamicHoneyBadger) (k : MessageStore) → v ≡ record { params = u.params; vote_counter = u.vote_counter; key_gen_state = u.key_gen_state; store = k; last = u.last }
        → store_of k ≡ cond m.d.restarted (from_era t.next_era work.state.store) work.state.store → Stored v
    same_parts v k e stored =
        record {
          by_params = ap (λ (y : DynamicHoneyBadger). y.params) e ∙ ap (λ (y : DynamicHoneyBadger). y.params) m.moved;
          by_counter = ap (λ (y : DynamicHoneyBadger). y.vote_counter) e ∙ ap (λ (y : DynamicHoneyBadger). y.vote_counter) m.moved;
          by_key_gen = ap (λ (y : DynamicHoneyBadger). y.key_gen_state) e ∙ ap (λ (y : DynamicHoneyBadger). y.key_gen_state) m.moved;
          by_store = ap (λ (y : DynamicHoneyBadger). store_of y.store) e ∙ stored;
        }

    pub stored_kept : Bytes b.bytes → (v : DynamicHoneyBadger) (k : MessageStore)
        → v ≡ record { params = u.params; vote_counter = u.vote_counter; key_gen_state = u.key_gen_state; store = k; last = u.last }
        → store_of k ≡ kept_by b.bytes (contribs_in index) o.begun (store_of u.store) → Stored v
    stored_kept bytes v k e kept =
        same_parts v k e
        (kept ∙ (λ j. kept_by b.bytes (contribs_in index) (m.told j).begun (store_of (m.moved j).store)) ∙ store_kept (state_of s) b t.epoch index x bytes m.d.restarted t.next_era)

    pub stored_none : Bytes b.bytes → length (store_of s.store) ≡ 0 → (v : DynamicHoneyBadger) → v ≡ u → Stored v
    stored_none bytes n v e =
        same_parts v u.store e
        (ap (λ (y : DynamicHoneyBadger). store_of y.store) m.moved ∙ store_none (state_of s) b t.epoch index x bytes n m.d.restarted t.next_era)

    -- the whole, once the last report is this one
    pub stored_done : (v : DynamicHoneyBadger) → Stored v → (y : ReportStamp) → y ≡ record { epoch = t.epoch; era = t.era }
        → StepsDone s b (Ok o) (record { params = v.params; vote_counter = v.vote_counter; key_gen_state = v.key_gen_state; store = v.store; last = Some y }) r
    stored_done v q y e =
        let told = sym m.told in
        let params = sym q.by_params in
        let counter = sym q.by_counter in
        let key_gen = sym q.by_key_gen in
        let last = sym e in
        transport
        (λ j. StepsDone s b (Ok (told j)) (record { params = params j; vote_counter = counter j; key_gen_state = key_gen j; store = v.store; last = Some (last j) }) r)
        (steps_done m.p m.d m.decides m.few v.store q.by_store)
