-- Two nodes agree: from one start, or from starts with one shared part, the same batches leave the same shared part and get the same answers, whatever the own
-- ids, keys and verdicts are, and whatever own votes, messages and due items come to either between the batches.
-- Assumes nothing.
use Prim.Native.Nat.{ℕ, ◌≤◌}
use mathlib.Core.Path.{◌≡◌, refl, sym, ap, ◌∙◌, subst}
use mathlib.Core.List.{List, []}
use mathlib.Core.Bool.{Bool, true, false, cond}
use native.Mathlib.Omega.{arith}
use Rattle.lists.specs.Lists.{found}
use Rattle.lists.proofs.ListLaws.{found_same}
use Rattle.bincode.specs.Read.{Read, value, refuse, whole}
use Rattle.bincode.specs.Outcome.{Outcome, done, refused}
use Rattle.bincode.specs.Numbers.{fixed}
use Rattle.bincode.specs.Sizes.{Sizes, base}
use Rattle.bincode.proofs.ReadLaws.{done_refused}
use Rattle.pub_key_map.specs.declared.Node.{Node}
use Rattle.pub_key_map.specs.PubKeyMap.{read_map}
use Rattle.params.specs.declared.Params.{Params}
use Rattle.params.specs.Params.{read_params}
use Rattle.change.specs.Change.{node_change, encryption_schedule, ChangeStateOf, none, in_progress, complete}
use Rattle.join_plan.specs.JoinPlan.{PlanOf, read_plan}
use Rattle.joining.specs.Starting.{reading, is_empty, key_row2, join_row1, join_row8, join_row9, join_row10, join_plan, join_checked, start_map, start_checked}
use Rattle.dynamic_honey_badger.specs.State.{StateOf, key_gen_for, opened, started_from, started, joined_by, joined_with, joined_from, joined}
use Rattle.reference.specs.Reference.{RefState, open_ref}
use Rattle.reference.specs.Step.{ref_run, ref_answers}
use Rattle.agreement.specs.Shared.{ref_of, plan_candidate, plan_ref}
use Rattle.agreement.specs.Calls.{Call, shared_batches, Start, new_start, join_start, joined_state, start_state}
use Rattle.agreement.specs.Claim.{opened_by, planned_by, ref_start, FollowsFrom, FollowsStart, Agree}
use Rattle.agreement.proofs.Follow.{follows}

-- an accepted start by `new` opens with the map and parameters that were read, whatever id and key are
new_opens : (z : Sizes) (id key era : ℕ) (map params : List ℕ) (s : StateOf) → started z id key era map params ≡ done s
    → opened_by era (whole (read_map fixed z map) map) (whole (read_params fixed params) params) ≡ found (ref_of s)
unfolding started start_checked start_map
new_opens z id key era map params s = go (whole (read_map fixed z map) map) (whole (read_params fixed params) params)
  where
    accepted : (ns : List Node) (p : Params) (a b : Bool)
        → started_from id key era (cond a (refused 2) (cond b (refused 8) (done (record { keys = ns; params = p })))) ≡ done s → open_ref era ns p ≡ ref_of s
    accepted ns p true b e = absurd (done_refused e)
    accepted ns p false true e = absurd (done_refused e)
    accepted ns p false false e = let q : opened id key era ns p ≡ s = cc in ap ref_of q

    go : (x : Read (List Node)) (y : Read Params) → started_from id key era (reading x λ ns. reading y λ p. start_map key ns p) ≡ done s → opened_by era x y ≡ found (ref_of s)
    go (refuse n) y e = absurd (done_refused e)
    go (value ns c) (refuse n) e = absurd (done_refused e)
    go (value ns c) (value p d) e = ap found (accepted ns p (key_row2 key) (is_empty ns) e)

-- a joiner starts at the reference state of its plan, whatever id and key are
joined_opens : (z : Sizes) (id key : ℕ) (p : PlanOf) → plan_ref p ≡ ref_of (joined_with z id key p).state
unfolding joined_with key_gen_for
joined_opens z id key p = go p.change
  where
    go : (c : ChangeStateOf)
        → record { era = p.era; nodes = p.keys; params = p.params; votes = []; candidate = plan_candidate c }
        ≡ ref_of (joined_by z id p.era c (opened id key p.era p.keys p.params)).state
    go (in_progress (node_change ns)) = refl
    go (in_progress (encryption_schedule x)) = refl
    go (complete c) = refl
    go none = refl

-- an accepted plan was read, and has no empty map, nor one in progress
pub accepted_plan : (z : Sizes) (places id key : ℕ) (plan : List ℕ) (p : PlanOf) → join_checked z places id key plan ≡ done p
    → (c : ℕ) × (whole (read_plan fixed z plan) plan ≡ value p c) × (join_row8 p ≡ false)
unfolding join_checked join_plan
accepted_plan z places id key plan p = go (join_row1 z places) (whole (read_plan fixed z plan) plan)
  where
    rows : (q : PlanOf) (c : ℕ) (r2 r8 : Bool) → join_row8 q ≡ r8 → (r9 r10 : Bool)
        → cond r2 (refused 2) (cond r8 (refused 8) (cond r9 (refused 9) (cond r10 (refused 10) (done q)))) ≡ done p → (d : ℕ) × (value q c ≡ value p d) × (join_row8 p ≡ false)
    rows q c true r8 h r9 r10 e = absurd (done_refused e)
    rows q c false true h r9 r10 e = absurd (done_refused e)
    rows q c false false h true r10 e = absurd (done_refused e)
    rows q c false false h false true e = absurd (done_refused e)
    rows q c false false h false false e = let t : q ≡ p = cc in (c, ap (λ (x : PlanOf). value x c) t, ap join_row8 (sym t) ∙ h)

    go : (r1 : Bool) (x : Read PlanOf) → cond r1 (refused 1) (reading x (join_plan id key)) ≡ done p → (c : ℕ) × (x ≡ value p c) × (join_row8 p ≡ false)
    go true x e = absurd (done_refused e)
    go false (refuse n) e = absurd (done_refused e)
    go false (value q c) e = rows q c (key_row2 key) (join_row8 q) refl (join_row9 id q) (join_row10 q) e

-- an accepted start opens the reference state that its shared bytes say
pub start_opens : (z : Sizes) (start : Start) (s : StateOf) → start_state z start ≡ done s → ref_start z start ≡ found (ref_of s)
unfolding ref_start joined
start_opens z (new_start id key era map params) s e = new_opens z id key era map params s e
start_opens z (join_start places id key plan) s e = go (join_checked z places id key plan) refl e
  where
    go : (x : Outcome PlanOf) → join_checked z places id key plan ≡ x → joined_state (joined_from z id key x) ≡ done s → planned_by (whole (read_plan fixed z plan) plan) ≡ found (ref_of s)
    go (refused n) f g = absurd (done_refused g)
    go (done p) f g =
        let q : (joined_with z id key p).state ≡ s = cc in
        ap planned_by (accepted_plan z places id key plan p f).1 ∙ ap found (joined_opens z id key p ∙ ap ref_of q)

-- whatever that is found to be
pub opened_stands : (z : Sizes) (start : Start) (s : StateOf) → start_state z start ≡ done s → (r : RefState) → ref_start z start ≡ found r → ref_of s ≡ r
opened_stands z start s e r opens = found_same (sym (start_opens z start s e) ∙ opens)

-- two nodes that follow one reference state, with the same shared batches, agree
pub follow_one : (z : Sizes) (r : RefState) (s : StateOf) (cs : List Call) (t : StateOf) (ds : List Call) → FollowsFrom z r s cs → FollowsFrom z r t ds
    → shared_batches z s cs ≡ shared_batches z t ds → Agree z s cs t ds
follow_one z r s cs t ds f g e = (f.0 ∙ ap (ref_run z r) e ∙ sym g.0, f.1 ∙ ap (ref_answers z r) e ∙ sym g.1)

module _ (z : Sizes) (fits : z.items ≤ z.faults) where
  -- from an accepted start on, a node follows the reference state that the start opens
  pub start_follows : (start : Start) (s : StateOf) → start_state z start ≡ done s → (cs : List Call) → FollowsStart z start s cs
  start_follows start s e cs = record { reference = ref_of s; opens = start_opens z start s e; follows = follows z fits cs s }

  -- whatever that is found to be
  pub opened_follows : (start : Start) (s : StateOf) → start_state z start ≡ done s → (r : RefState) → ref_start z start ≡ found r → (cs : List Call) → FollowsFrom z r s cs
  opened_follows start s e r opens cs =
      let a : FollowsStart z start s cs = start_follows start s e cs in
      subst (λ (x : RefState). FollowsFrom z x s cs) (found_same (sym a.opens ∙ opens)) a.follows

  -- two nodes whose starts open one reference state, with the same shared batches, agree
  pub agree : (start start' : Start) (s t : StateOf) → start_state z start ≡ done s → start_state z start' ≡ done t → ref_start z start ≡ ref_start z start'
      → (cs ds : List Call) → shared_batches z s cs ≡ shared_batches z t ds → Agree z s cs t ds
  agree start start' s t e f same cs ds =
      let a : FollowsStart z start s cs = start_follows start s e cs in
      follow_one z a.reference s cs t ds a.follows (opened_follows start' t f a.reference (sym same ∙ a.opens) ds)

  -- and so do two in any states with one shared part
  pub agree_shared : (cs ds : List Call) (s t : StateOf) → ref_of s ≡ ref_of t → shared_batches z s cs ≡ shared_batches z t ds → Agree z s cs t ds
  agree_shared cs ds s t e = follow_one z (ref_of s) s cs t ds (follows z fits cs s) (subst (λ (r : RefState). FollowsFrom z r t ds) (sym e) (follows z fits ds t))

-- the sizes of 01 have room for a fault of each vote and key message
pub base_fits : base.items ≤ base.faults
base_fits = omega arith
