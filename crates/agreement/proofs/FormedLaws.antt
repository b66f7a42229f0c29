-- An accepted start is formed, and every call leaves a formed state formed: so every state that is reached is formed.
-- Assumes nothing.
use Prim.Native.Nat.{ℕ, ◌^◌, ◌<◌}
use mathlib.Core.Path.{◌≡◌, refl, sym, subst}
use mathlib.Core.List.{List, [], ◌∷◌}
use mathlib.Core.Bool.{Bool, true, false, cond}
use native.Mathlib.Omega.{arith}
use Rattle.lists.specs.Lists.{found}
use Rattle.bincode.specs.Read.{Read, value, refuse, whole}
use Rattle.bincode.specs.Outcome.{Outcome, done, refused}
use Rattle.bincode.specs.Numbers.{fixed}
use Rattle.bincode.specs.Sizes.{Sizes}
use Rattle.bincode.specs.Stands.{Bytes, All}
use Rattle.bincode.proofs.CodeLaws.{fixed_codes, one_encoding}
use Rattle.bincode.proofs.ReadLaws.{or_false, done_refused}
use Rattle.pub_key_map.specs.declared.Node.{Node}
use Rattle.pub_key_map.specs.PubKeyMap.{read_map, map_bytes, MapOk}
use Rattle.pub_key_map.proofs.MapCodes.{map_codes}
use Rattle.params.specs.declared.Params.{Params}
use Rattle.params.specs.Params.{read_params, params_bytes, ParamsOk}
use Rattle.params.proofs.ParamsCodes.{params_codes}
use Rattle.change.specs.Change.{node_change, encryption_schedule, ChangeStateOf, none, in_progress, complete, StateOk}
use Rattle.join_plan.specs.JoinPlan.{PlanOf, PlanOk}
use Rattle.join_plan.proofs.PlanCodes.{plan_one_encoding}
use Rattle.joining.specs.Starting.{reading, is_empty, key_row2, empty_progress, join_row8, join_checked, start_map, start_checked}
use Rattle.dynamic_honey_badger.specs.State.{StateOf, fresh_key_gen, key_gen_for, opened, started_from, started, joined_by, joined_with, joined_from, joined}
use Rattle.vote_counter.proofs.BoardKept.{worked_none}
use Rattle.agreement.specs.Calls.{Call, batch_call, vote_call, add_call, remove_call, message_call, due_call, after, run, Start, new_start, join_start, joined_state, start_state}
use Rattle.agreement.specs.Formed.{MapFormed, Formed, CallFits, StartFits}
use Rattle.agreement.proofs.Agree.{accepted_plan}
use Rattle.agreement.proofs.FormedParts.{no_votes}
use Rattle.agreement.proofs.FormedKeyGen.{fresh_formed}
use Rattle.agreement.proofs.FormedChanges.{with_key_gen_lem}
use Rattle.agreement.proofs.FormedOwn.{vote_for_formed, vote_to_add_formed, vote_to_remove_formed, message_formed, due_formed}
use Rattle.agreement.proofs.FormedBatch.{map_formed, batch_formed}

module _ (z : Sizes) (nodes-fit : z.nodes < 256 ^ 8) (rows_fit : z.rows < 256 ^ 8) (user-fits : z.user < 256 ^ 8) where
  -- every call leaves a formed state formed
  pub call_formed : (s : StateOf) (c : Call) → Formed z s → CallFits c → Formed z (after z s c)
  call_formed s (batch_call b) f fits = batch_formed z s f b nodes-fit rows_fit user-fits fits.2
  call_formed s (vote_call bytes) f fits = vote_for_formed z s f nodes-fit bytes fits
  call_formed s (add_call id key) f fits = vote_to_add_formed z s f id key fits.0 fits.1
  call_formed s (remove_call id) f fits = vote_to_remove_formed z s f id
  call_formed s (message_call sender bytes) f fits = message_formed z s f nodes-fit rows_fit sender bytes fits.0 fits.1
  call_formed s (due_call bytes) f fits = due_formed z s f nodes-fit rows_fit bytes fits

  -- and so does every list of calls
  pub run_formed : (s : StateOf) (cs : List Call) → Formed z s → All CallFits cs → Formed z (run z s cs)
  unfolding run
  run_formed s [] f fits = f
  run_formed s (c ∷ cs) f fits = run_formed (after z s c) cs (call_formed s c f fits.0) fits.1

-- a state without votes, key generation and messages
opened_formed : (z : Sizes) (id key era : ℕ) (ns : List Node) (p : Params) → id < 256 ^ 4 → key < 256 ^ 8 → era < 256 ^ 8 → MapFormed z ns → ParamsOk p → Formed z (opened id key era ns p)
opened_formed z id key era ns p i k e m o =
    record {
      our_id_fits = i;
      our_key_fits = k;
      era_fits = e;
      nodes_formed = m;
      params_ok = o;
      pending_formed = no_votes z ns;
      committed_formed = no_votes z ns;
      board_worked = sym worked_none;
      key_gen_formed = tt;
      store_era = tt;
      store_ok = tt;
      store_within = omega arith;
      last_fits = tt;
    }

module _ (z : Sizes) (nodes-fit : z.nodes < 256 ^ 8) where
  -- an accepted start by `new`
  new_formed : (id key era : ℕ) (keys params : List ℕ) → id < 256 ^ 4 → key < 256 ^ 8 → era < 256 ^ 8 → Bytes keys → Bytes params
      → (s : StateOf) → started z id key era keys params ≡ done s → Formed z s
  unfolding started start_checked start_map
  new_formed id key era keys params i k e bk bp s = go (whole (read_map fixed z keys) keys) refl (whole (read_params fixed params) params) refl
    where
      accepted : (ns : List Node) (p : Params) → MapOk z ns → ParamsOk p → (a b : Bool) → is_empty ns ≡ b
          → started_from id key era (cond a (refused 2) (cond b (refused 8) (done (record { keys = ns; params = p })))) ≡ done s → Formed z s
      accepted ns p m o true b h q = absurd (done_refused q)
      accepted ns p m o false true h q = absurd (done_refused q)
      accepted ns p m o false false h q =
          let t : opened id key era ns p ≡ s = cc in
          subst (Formed z) t (opened_formed z id key era ns p i k e (map_formed z ns m h) o)

      go : (x : Read (List Node)) → whole (read_map fixed z keys) keys ≡ x → (y : Read Params) → whole (read_params fixed params) params ≡ y
          → started_from id key era (reading x λ ns. reading y λ p. start_map key ns p) ≡ done s → Formed z s
      go (refuse n) f y g q = absurd (done_refused q)
      go (value ns c) f (refuse n) g q = absurd (done_refused q)
      go (value ns c) f (value p d) g q =
          accepted ns p
          (one_encoding (read_map fixed z) (map_bytes fixed) (MapOk z) (λ l. map_codes fixed l (fixed_codes l) z nodes-fit) keys ns c bk f).1
          (one_encoding (read_params fixed) (params_bytes fixed) ParamsOk (λ l. params_codes fixed l (fixed_codes l)) params p d bp g).1
          (key_row2 key) (is_empty ns) refl q

module _ (z : Sizes) where
  -- a joiner's state, where its plan has no empty map
  plan_formed : (id key : ℕ) (p : PlanOf) → id < 256 ^ 4 → key < 256 ^ 8 → PlanOk z p → join_row8 p ≡ false → Formed z (joined_with z id key p).state
  unfolding joined_with join_row8 key_gen_for
  plan_formed id key p i k o h = go p.change o.change_ok rows.1
    where
      rows : (is_empty p.keys ≡ false) × (empty_progress p.change ≡ false)
      rows = or_false (is_empty p.keys) (empty_progress p.change) h

      s : StateOf
      s = opened id key p.era p.keys p.params

      f : Formed z s
      f = opened_formed z id key p.era p.keys p.params i k o.era_fits (map_formed z p.keys o.keys_ok rows.0) o.params_ok

      go : (c : ChangeStateOf) → StateOk z c → empty_progress c ≡ false → Formed z (joined_by z id p.era c s).state
      go (in_progress (node_change ns)) q e = with_key_gen_lem z s f (found (fresh_key_gen z id ns)) (fresh_formed z id ns (map_formed z ns q e))
      go (in_progress (encryption_schedule x)) q e = f
      go (complete c) q e = f
      go none q e = f

-- an accepted start is formed
pub start_formed : (z : Sizes) → z.nodes < 256 ^ 8 → (start : Start) → StartFits start → (s : StateOf) → start_state z start ≡ done s → Formed z s
unfolding joined
start_formed z nodes-fit (new_start id key era keys params) fits s e = new_formed z nodes-fit id key era keys params fits.0 fits.1 fits.2 fits.3 fits.4 s e
start_formed z nodes-fit (join_start places id key plan) fits s e = go (join_checked z places id key plan) refl e
  where
    go : (x : Outcome PlanOf) → join_checked z places id key plan ≡ x → joined_state (joined_from z id key x) ≡ done s → Formed z s
    go (refused n) f g = absurd (done_refused g)
    go (done p) f g =
        let q : (joined_with z id key p).state ≡ s = cc in
        let r = accepted_plan z places id key plan p f in
        subst (Formed z) q (plan_formed z id key p fits.0 fits.1 (plan_one_encoding fixed fixed_codes z nodes-fit plan p r.0 fits.2 r.1).1 r.2)

-- so every state that is reached from an accepted start is formed
pub reached_formed : (z : Sizes) → z.nodes < 256 ^ 8 → z.rows < 256 ^ 8 → z.user < 256 ^ 8
    → (start : Start) → StartFits start → (s : StateOf) → start_state z start ≡ done s → (cs : List Call) → All CallFits cs → Formed z (run z s cs)
reached_formed z nodes-fit rows_fit user-fits start fits s e cs calls = run_formed z nodes-fit rows_fit user-fits s cs (start_formed z nodes-fit start fits s e) calls
