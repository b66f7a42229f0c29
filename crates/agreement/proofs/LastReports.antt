-- 02, CR 1: the last report over a whole list of calls. From any state it is the stamp of the last report that the list's batch calls returned, or the one before where
-- they returned none; from an accepted start there is none before.
-- Assumes nothing.
use Prim.Native.Nat.{ℕ}
use mathlib.Core.Path.{◌≡◌, refl, sym, ap, ◌∙◌}
use mathlib.Core.List.{List, [], ◌∷◌}
use Rattle.lists.specs.Lists.{Found, found, nothing}
use Rattle.bincode.specs.Outcome.{Outcome, done, refused}
use Rattle.bincode.specs.Sizes.{Sizes}
use Rattle.bincode.proofs.ReadLaws.{done_refused}
use Rattle.change.specs.Change.{node_change, encryption_schedule, ChangeStateOf, none, in_progress, complete}
use Rattle.join_plan.specs.JoinPlan.{PlanOf}
use Rattle.joining.specs.Starting.{StartOf, start_checked, join_checked}
use Rattle.dynamic_honey_badger.specs.Asked.{last_report}
use Rattle.dynamic_honey_badger.specs.State.{StateOf, Stamp, opened, key_gen_for, started_from, started, joined_by, joined_with, joined_from, joined}
use Rattle.process_output.specs.Process.{BatchCall, ReportOf, processed, last_after}
use Rattle.process_output.proofs.CallLaws.{processed_last}
use Rattle.agreement.specs.Calls.{Call, batch_call, vote_call, add_call, remove_call, message_call, due_call, after, run, report_then, reports, stamp_of, last_stamp, Start, new_start, join_start, joined_state, start_state}
use Rattle.agreement.proofs.OwnCalls.{vote_for_kept, vote_to_add_kept, vote_to_remove_kept, message_kept, due_kept}

-- the last of a list of reports, where l was kept before
abbrev last_from : Found Stamp → List ReportOf → Found Stamp
last_from l [] = l
last_from l (r ∷ rs) = last_from (found (stamp_of r)) rs

some_last : (l : Found Stamp) (r : ReportOf) (rs : List ReportOf) → last_from l (r ∷ rs) ≡ last_stamp (r ∷ rs)
unfolding last_stamp
some_last l r [] = refl
some_last l r (q ∷ rs) = some_last (found (stamp_of r)) q rs

none_before : (rs : List ReportOf) → last_from nothing rs ≡ last_stamp rs
unfolding last_stamp
none_before [] = refl
none_before (r ∷ rs) = some_last nothing r rs

-- what one answer adds
one_answer : (l : Found Stamp) (a : Outcome ReportOf) (rs : List ReportOf) → last_from (last_after l a) rs ≡ last_from l (report_then a rs)
one_answer l (done r) rs = refl
one_answer l (refused n) rs = refl

module _ (z : Sizes) where
  -- a call that keeps the last report, and then a list
  kept_on : (cs : List Call) (s t : StateOf) → t.last ≡ s.last → (run z t cs).last ≡ last_from t.last (reports z t cs) → (run z t cs).last ≡ last_from s.last (reports z t cs)
  kept_on cs s t e h = h ∙ ap (λ (l : Found Stamp). last_from l (reports z t cs)) e

  last_from_lem : (cs : List Call) (s : StateOf) → (run z s cs).last ≡ last_from s.last (reports z s cs)
  unfolding run reports
  last_from_lem [] s = refl
  last_from_lem (batch_call b ∷ cs) s =
      let rs = reports z (processed z s b).state cs in
      last_from_lem cs (processed z s b).state ∙ ap (λ (l : Found Stamp). last_from l rs) (processed_last z s b) ∙ one_answer s.last (processed z s b).answer rs
  last_from_lem (vote_call bytes ∷ cs) s = kept_on cs s (after z s (vote_call bytes)) (vote_for_kept z s bytes).1 (last_from_lem cs (after z s (vote_call bytes)))
  last_from_lem (add_call id key ∷ cs) s = kept_on cs s (after z s (add_call id key)) (vote_to_add_kept z s id key).1 (last_from_lem cs (after z s (add_call id key)))
  last_from_lem (remove_call id ∷ cs) s = kept_on cs s (after z s (remove_call id)) (vote_to_remove_kept z s id).1 (last_from_lem cs (after z s (remove_call id)))
  last_from_lem (message_call sender bytes ∷ cs) s =
      kept_on cs s (after z s (message_call sender bytes)) (message_kept z s sender bytes).1 (last_from_lem cs (after z s (message_call sender bytes)))
  last_from_lem (due_call bytes ∷ cs) s = kept_on cs s (after z s (due_call bytes)) (due_kept z s bytes).1 (last_from_lem cs (after z s (due_call bytes)))

  -- a refused batch call leaves it; for the other calls see OwnCalls
  pub refusal_keeps_last : (s : StateOf) (b : BatchCall) (n : ℕ) → (processed z s b).answer ≡ refused n → last_report (processed z s b).state ≡ last_report s
  refusal_keeps_last s b n e = processed_last z s b ∙ ap (last_after s.last) e

  -- an accepted start has none: `new`, and joining
  new_last : (id key era : ℕ) (map params : List ℕ) (s : StateOf) → started z id key era map params ≡ done s → s.last ≡ nothing
  unfolding started
  new_last id key era map params s = go (start_checked z key map params)
    where
      go : (x : Outcome StartOf) → started_from id key era x ≡ done s → s.last ≡ nothing
      go (refused n) e = absurd (done_refused e)
      go (done x) e = let q : opened id key era x.keys x.params ≡ s = cc in ap (λ (t : StateOf). t.last) (sym q)

  join_last : (id key : ℕ) (p : PlanOf) → (joined_with z id key p).state.last ≡ nothing
  unfolding joined_with key_gen_for
  join_last id key p = go p.change
    where
      go : (c : ChangeStateOf) → (joined_by z id p.era c (opened id key p.era p.keys p.params)).state.last ≡ nothing
      go (in_progress (node_change ns)) = refl
      go (in_progress (encryption_schedule x)) = refl
      go (complete c) = refl
      go none = refl

  pub start_last : (start : Start) (s : StateOf) → start_state z start ≡ done s → s.last ≡ nothing
  unfolding joined
  start_last (new_start id key era map params) s e = new_last id key era map params s e
  start_last (join_start places id key plan) s e = go (join_checked z places id key plan) e
    where
      go : (x : Outcome PlanOf) → joined_state (joined_from z id key x) ≡ done s → s.last ≡ nothing
      go (refused n) g = absurd (done_refused g)
      go (done p) g = let q : (joined_with z id key p).state ≡ s = cc in ap (λ (t : StateOf). t.last) (sym q) ∙ join_last id key p

  -- so from an accepted start on it is the stamp of the last report that the calls returned, none if there is none
  pub last_reported : (start : Start) (s : StateOf) → start_state z start ≡ done s → (cs : List Call) → last_report (run z s cs) ≡ last_stamp (reports z s cs)
  last_reported start s e cs = last_from_lem cs s ∙ ap (λ (l : Found Stamp). last_from l (reports z s cs)) (start_last start s e) ∙ none_before (reports z s cs)
