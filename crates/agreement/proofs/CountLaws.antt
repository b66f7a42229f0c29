-- No batch has more faults or due items than the lists lent for them: each vote and each key message makes at most one.
-- Assumes nothing.
use Prim.Native.Nat.{ℕ, ◌+◌, ◌≤◌}
use mathlib.Core.Path.{◌≡◌, subst}
use mathlib.Core.Logic.{◌⊎◌}
use mathlib.Core.List.{List, [], ◌∷◌}
use mathlib.Core.Bool.{Bool, true, false, cond}
use native.Mathlib.Omega.{arith}
use lib.ListN.{length}
use Rattle.lists.specs.Lists.{Found, found, nothing, map_found}
use Rattle.bincode.specs.Read.{value, refuse}
use Rattle.bincode.specs.Outcome.{Outcome, done, refused}
use Rattle.bincode.specs.Sizes.{Sizes}
use Rattle.bincode.specs.Items.{foldl}
use Rattle.pub_key_map.specs.declared.Node.{Node}
use Rattle.network_info.specs.NetworkInfo.{is_member}
use Rattle.change.specs.Change.{ChangeOf, node_change, encryption_schedule, in_progress}
use Rattle.due.specs.declared.DueKind.TheVariants.{Part}
use Rattle.due.specs.declared.DueItem.{DueItem}
use Rattle.batch.specs.Batch.{RulingOf}
use Rattle.vote_counter.specs.VoteCounter.{compute_winner, supporters_of, carried_by, carried}
use Rattle.key_gen_state.specs.KeyGenState.{KeyGenStateOf, ready_state}
use Rattle.internal_contrib.specs.InternalContrib.{ContribOf, read_batch}
use Rattle.dynamic_honey_badger.specs.State.{StateOf, era_of, nodes_in, new_era, key_gen_for, candidate_nodes}
use Rattle.steps.specs.Steps.{WorkOf, owe_to, committed}
use Rattle.decision.specs.Decision.{Decided, decided_as, completed_by, is_candidate, map_wins, schedule_wins, elected_by, decide}
use Rattle.process_output.specs.Process.{BatchCall, ReportOf, finished, processed}
use Rattle.process_output.proofs.CallLaws.{IsTaken, batch_cases}
use Rattle.agreement.proofs.FoldLaws.{total_one, fold_grows}
use Rattle.agreement.proofs.StepLaws.{item_count, one_more, contribs_faults, contribs_due}
use Rattle.agreement.proofs.ReadingLaws.{Answers, batch_answers}

-- a batch that is read
module _ (z : Sizes) (bytes : List ℕ) where
  -- its votes and key messages together keep to their size
  pub few_items : (cs : List ContribOf) (c : ℕ) → read_batch z bytes ≡ value cs c → item_count cs ≤ z.items
  few_items cs c p = subst (Answers (λ cs. item_count cs ≤ z.items)) p (batch_answers bytes z)

  -- reading refuses by 2 or 3 only
  pub reading_refuses : (n : ℕ) → read_batch z bytes ≡ refuse n → (n ≡ 2) ⊎ (n ≡ 3)
  reading_refuses n p = subst (Answers (λ cs. item_count cs ≤ z.items)) p (batch_answers bytes z)

  module _ (s : StateOf) (verdicts : List ℕ) (cs : List ContribOf) (c : ℕ) (p : read_batch z bytes ≡ value cs c) where
    -- its faults are no more than its size of votes and key messages
    pub few_faults : length (committed z s verdicts cs).faults ≤ z.items
    few_faults = omega (arith, contribs_faults z s verdicts cs, few_items cs c p)

    -- and so are the due items of its key messages
    pub few_due : length (committed z s verdicts cs).due ≤ z.items
    few_due = omega (arith, contribs_due z s verdicts cs, few_items cs c p)

-- a decision adds one due item at most
pub decide_due : (z : Sizes) (era : ℕ) (s : StateOf) → length (decide z era s).due ≤ 1
unfolding decide carried map_wins schedule_wins
decide_due z era s = go (ready_state s.key_gen) s.key_gen (compute_winner s.counter)
  where
    part : (r : RulingOf) (ns : List Node) (a b : Bool)
        → length (cond {A = Decided} a (decided_as s r) (record { state = key_gen_for z ns (new_era era (nodes_in s) s); ruling = r; due = cond b (record { kind = Part; era = era } ∷ []) []; recipe = nothing })).due ≤ 1
    part r ns true b = omega arith
    part r ns false true = omega arith
    part r ns false false = omega arith

    go : (b : Bool) (g : Found KeyGenStateOf) (x : Found ChangeOf) → length (cond {A = Decided} b (completed_by era s g) (elected_by z era s (map_found (carried_by s.counter) x))).due ≤ 1
    go true (found g) x = omega arith
    go true nothing x = omega arith
    go false g (found (node_change ns)) = part (record { change = in_progress (node_change ns); voters = supporters_of s.counter.committed (node_change ns) }) ns (is_candidate (candidate_nodes s.key_gen) ns) (is_member ns s.counter.our_id)
    go false g (found (encryption_schedule x)) = omega arith
    go false g nothing = omega arith

-- a report has no more faults than votes and key messages may be, and one due item more at most
abbrev Few : Sizes → Outcome ReportOf → Type 0
Few z (done r) = (length r.faults ≤ z.items) × (length r.due ≤ z.items + 1)
Few z (refused n) = Unit {0}

module _ (z : Sizes) (s : StateOf) (b : BatchCall) where
  few_owed : (due : List DueItem) (more : List DueItem) → length due ≤ z.items → length more ≤ 1 → length (foldl (owe_to z) due more) ≤ z.items + 1
  few_owed due more h k = omega (arith, fold_grows (λ d. 1) length (owe_to z) (one_more z.due) due more, total_one more)

  few_taken : (cs : List ContribOf) (c : ℕ) → IsTaken z s b cs c → Few z (finished z s (era_of s + b.inner) (committed z s b.verdicts cs)).answer
  few_taken cs c t =
      let w : WorkOf = committed z s b.verdicts cs in
      let p : read_batch z b.bytes ≡ value cs c = t.is_own.is_read.bytes_read in (
        few_faults z b.bytes s b.verdicts cs c p,
        few_owed w.due (decide z (era_of s + b.inner + 1) w.state).due (few_due z b.bytes s b.verdicts cs c p) (decide_due z (era_of s + b.inner + 1) w.state),
      )

  pub few_reported : (r : ReportOf) → (processed z s b).answer ≡ done r → (length r.faults ≤ z.items) × (length r.due ≤ z.items + 1)
  few_reported r e = subst (Few z) e (batch_cases z s b (λ p. Few z p.answer) (λ w. tt) few_taken)
