-- What the reference state keeps was read from bytes: its maps, parameters and the changes voted for are such as some bytes are read as. So the plan of a report
-- is read back as itself.
-- Assumes nothing.
use Prim.Native.Nat.{ℕ, ◌+◌, ◌^◌, ◌<◌}
use mathlib.Core.Path.{◌≡◌, refl, subst}
use mathlib.Core.List.{List, [], ◌∷◌, map}
use mathlib.Core.Bool.{Bool, true, false, cond}
use native.Mathlib.Omega.{arith}
use lib.ListN.{length}
use borrow.Author.Tests.{ltb-false}
use Rattle.lists.specs.Lists.{Found, found, nothing, map_found}
use Rattle.lists.proofs.ListLaws.{found_same, not_found}
use Rattle.bincode.specs.Read.{Read, value, refuse, whole}
use Rattle.bincode.specs.Numbers.{fixed}
use Rattle.bincode.specs.Outcome.{done}
use Rattle.bincode.specs.Sizes.{Sizes}
use Rattle.bincode.specs.Stands.{Bytes, Each, All}
use Rattle.bincode.proofs.CodeLaws.{fixed_codes, one_encoding}
use Rattle.bincode.proofs.ReadLaws.{done_refused}
use Rattle.pub_key_map.specs.declared.Node.{Node}
use Rattle.pub_key_map.specs.PubKeyMap.{read_map, map_bytes, MapOk}
use Rattle.pub_key_map.proofs.MapCodes.{map_codes}
use Rattle.params.specs.declared.Params.{Params}
use Rattle.params.specs.Params.{read_params, params_bytes, ParamsOk}
use Rattle.params.proofs.ParamsCodes.{params_codes}
use Rattle.change.specs.Change.{ChangeOf, node_change, encryption_schedule, ChangeStateOf, none, in_progress, complete, same_change, ChangeOk, StateOk}
use Rattle.votes.specs.Votes.{SignedVoteOf, SignedVoteOk}
use Rattle.winner.specs.Support.{Cast, choices}
use Rattle.winner.specs.Winner.{winner}
use Rattle.winner.proofs.AmongLaws.{all_one}
use Rattle.winner.proofs.WinnerLaws.{winner_among}
use Rattle.util.specs.MaxFaulty.{max_faulty}
use Rattle.join_plan.specs.JoinPlan.{PlanOf, read_plan, PlanOk}
use Rattle.join_plan.proofs.PlanCodes.{plan_one_encoding}
use Rattle.batch.specs.Batch.{batch_with, plan_of_batch}
use Rattle.internal_contrib.specs.declared.Budget.{Budget}
use Rattle.internal_contrib.specs.InternalContrib.{ContribOf, read_batch, spending, opening, ContribOk}
use Rattle.internal_contrib.proofs.ContribCodes.{batch_one_encoding}
use Rattle.reference.specs.Reference.{CandidateRef, RefState}
use Rattle.reference.specs.Step.{RefDecided, decided_ref, new_era_ref, RefReport, RefAnswer, SharedBatch, ref_contribs, ref_ready, ref_completed, is_candidate_ref, ref_voters, ref_elected, ref_winner, ref_decide, ref_row5, denied_ref, ref_steps, ref_batch, ref_read, passes_over, ref_step, ref_after, ref_run}
use Rattle.reference.proofs.VotersLaws.{cast_ref, all_choices}
use Rattle.reference.proofs.EngineLaws.{winner_is}
use Rattle.reference.proofs.ReportLaws.{tests}
use Rattle.agreement.specs.Shared.{plan_candidate, plan_ref}
use Rattle.agreement.specs.Calls.{Start, new_start, join_start}
use Rattle.agreement.specs.Claim.{opened_by, planned_by, ref_start}
use Rattle.agreement.specs.Hypotheses.{StartBytes}
use Rattle.agreement.proofs.KeptLaws.{map_of, Kept, contribs_keep}

-- what is found is such as P holds of
module _ {A : Type 0} (P : A → Type 0) where
  abbrev pub FoundOk : Found A → Type 0
  FoundOk (found a) = P a
  FoundOk nothing = Unit {0}

  -- so is a winner, where it holds of all choices
  pub winner_ok : (eq : A → A → Bool) (f : ℕ) (vs : List (Cast A)) → All P (choices vs) → FoundOk (winner eq f vs)
  winner_ok eq f vs ps = go (winner eq f vs) refl
    where
      go : (r : Found A) → winner eq f vs ≡ r → FoundOk r
      go (found x) e = all_one P (choices vs) ps x (winner_among eq f vs x e)
      go nothing e = tt

module _ (z : Sizes) where
  -- a vote for a change that some bytes are read as
  abbrev pub VotesFor : SignedVoteOf → Type 0
  VotesFor v = ChangeOk z v.vote.change

  pub record RefOk (r : RefState) : Type 0 where
    pub nodes_ok : MapOk z r.nodes
    pub params_ok : ParamsOk r.params
    pub votes_ok : All VotesFor r.votes
    pub candidate_ok : FoundOk (MapOk z) (map_found map_of r.candidate)

  -- steps 2 to 5
  kept_ok : (s t : RefState) → Kept VotesFor s t → RefOk s → RefOk t
  kept_ok s t k o =
      record {
        nodes_ok = rw k.nodes o.nodes_ok;
        params_ok = rw k.params o.params_ok;
        votes_ok = k.votes o.votes_ok;
        candidate_ok = rw k.candidate o.candidate_ok;
      }

  -- steps 6 to 8
  abbrev DecidedOk : RefDecided → Type 0
  DecidedOk d = RefOk d.state × StateOk z d.ruling.change

  decide_ok : (era : ℕ) (s : RefState) → RefOk s → DecidedOk (ref_decide era s)
  unfolding ref_decide
  decide_ok era s o = go (ref_ready s.candidate) s.candidate o.candidate_ok (ref_winner s) chosen
    where
      chosen : FoundOk (ChangeOk z) (ref_winner s)
      chosen =
          rw (winner_is (max_faulty (length s.nodes)) s.votes)
          (winner_ok (ChangeOk z) same_change (max_faulty (length s.nodes)) (map cast_ref s.votes) (all_choices (ChangeOk z) s.votes o.votes_ok))

      wins : (ns : List Node) → MapOk z ns → (b : Bool)
          → DecidedOk
          (cond b (decided_ref s (in_progress (node_change ns)) (ref_voters s (node_change ns)))
          (decided_ref (new_era_ref era s.nodes s.params (found (record { nodes = ns; parts = [] }))) (in_progress (node_change ns)) (ref_voters s (node_change ns))))
      wins ns p true = (o, p)
      wins ns p false = (record { nodes_ok = o.nodes_ok; params_ok = o.params_ok; votes_ok = tt; candidate_ok = p }, p)

      go : (b : Bool) (g : Found CandidateRef) → FoundOk (MapOk z) (map_found map_of g) → (x : Found ChangeOf) → FoundOk (ChangeOk z) x
          → DecidedOk (cond b (ref_completed era s g) (ref_elected era s x))
      go true (found g) p x q = (record { nodes_ok = p; params_ok = o.params_ok; votes_ok = tt; candidate_ok = tt }, p)
      go true nothing p x q = (o, tt)
      go false g p (found (node_change ns)) q = wins ns q (is_candidate_ref s.candidate ns)
      go false g p (found (encryption_schedule x)) q = (
        record {
          nodes_ok = o.nodes_ok;
          params_ok = record { epochs_fit = o.params_ok.epochs_fit; schedule_ok = q };
          votes_ok = tt;
          candidate_ok = o.candidate_ok;
        },
        q,
      )
      go false g p nothing q = (o, tt)

  -- a shared batch: what it leaves, and the plan of its report
  abbrev pub AnswerOk : RefAnswer → Type 0
  AnswerOk a = RefOk a.state × ((x : RefReport) → a.answer ≡ done x → (set : ℕ) → set < 256 ^ 8 → PlanOk z (plan_of_batch x.batch set))

  denied_ok : (s : RefState) (n : ℕ) → RefOk s → AnswerOk (denied_ref s n)
  denied_ok s n o = (o, λ x e. absurd (done_refused e))

  -- the votes of a batch that was read
  votes_read : (b : Budget) (cs : List ContribOf) → Each spending (ContribOk z) b cs → All (λ c. All VotesFor c.votes) cs
  votes_read b [] each = tt
  votes_read b (c ∷ cs) each = (go c.votes each.0.votes_ok, votes_read (spending b c) cs each.1)
    where
      go : (vs : List SignedVoteOf) → All (SignedVoteOk z) vs → All VotesFor vs
      go [] ps = tt
      go (v ∷ vs) ps = (ps.0.vote_ok.change_ok, go vs ps.1)

  module _ (nodes-fit : z.nodes < 256 ^ 8) (rows_fit : z.rows < 256 ^ 8) (user-fits : z.user < 256 ^ 8) where
    contribs_ok : (s : RefState) (inner : ℕ) (cs : List ContribOf) → All (λ c. All VotesFor c.votes) cs → RefOk s → AnswerOk (ref_batch z s inner cs)
    unfolding ref_steps
    contribs_ok s inner cs votes o = tests z s inner cs AnswerOk (λ n i. denied_ok s n o) reported
      where
        t : RefState
        t = (ref_contribs z s cs).state

        d : RefDecided
        d = ref_decide (s.era + inner + 1) t

        d_ok : DecidedOk d
        d_ok = decide_ok (s.era + inner + 1) t (kept_ok s t (contribs_keep VotesFor z s cs votes) o)

        reported : ref_row5 (s.era + inner) ≡ false → AnswerOk (ref_steps z s (s.era + inner) cs)
        reported h = (
          d_ok.0,
          λ x e set fits.
              let q : record { batch = batch_with (s.era + inner) s.era d.ruling d.state.nodes d.state.params; faults = (ref_contribs z s cs).faults } ≡ x = cc in
              subst (λ (y : RefReport). PlanOk z (plan_of_batch y.batch set)) q
              (record {
                era_fits = omega (arith, ltb-false);
                change_ok = d_ok.1;
                keys_ok = d_ok.0.nodes_ok;
                key_set_fits = fits;
                params_ok = d_ok.0.params_ok;
              }),
        )

    pub step_ok : (s : RefState) (b : SharedBatch) → Bytes b.bytes → RefOk s → AnswerOk (ref_step z s b)
    unfolding ref_step
    step_ok s b bytes o = go (read_batch z b.bytes) refl
      where
        go : (x : Read (List ContribOf)) → read_batch z b.bytes ≡ x → AnswerOk (ref_read z s b.inner x)
        go (value cs c) e =
            contribs_ok s b.inner cs (votes_read (opening z) cs (batch_one_encoding z nodes-fit rows_fit user-fits b.bytes cs c bytes e).1.each) o
        go (refuse n) e = denied_ok s n o

    -- a list of shared batches
    pub run_ok : (s : RefState) (bs : List SharedBatch) → All (λ b. Bytes b.bytes) bs → RefOk s → RefOk (ref_run z s bs)
    unfolding ref_run
    run_ok s [] bytes o = o
    run_ok s (b ∷ bs) bytes o = run_ok (ref_after z s b) bs bytes.1 (go (passes_over s b))
      where
        go : (p : Bool) → RefOk (cond p s (ref_step z s b).state)
        go true = o
        go false = (step_ok s b bytes.0 o).0

  -- the starts: `new`, and joining
  plan_ok : (p : PlanOf) → PlanOk z p → RefOk (plan_ref p)
  plan_ok p o = record { nodes_ok = o.keys_ok; params_ok = o.params_ok; votes_ok = tt; candidate_ok = go p.change o.change_ok }
    where
      go : (c : ChangeStateOf) → StateOk z c → FoundOk (MapOk z) (map_found map_of (plan_candidate c))
      go (in_progress (node_change ns)) q = q
      go (in_progress (encryption_schedule x)) q = tt
      go (complete c) q = tt
      go none q = tt

  pub start_ok : z.nodes < 256 ^ 8 → (start : Start) → StartBytes start → (r : RefState) → ref_start z start ≡ found r → RefOk r
  unfolding ref_start
  start_ok nodes-fit (new_start id key era map params) bytes r = go (whole (read_map fixed z map) map) refl (whole (read_params fixed params) params) refl
    where
      go : (x : Read (List Node)) → whole (read_map fixed z map) map ≡ x → (y : Read Params) → whole (read_params fixed params) params ≡ y → opened_by era x y ≡ found r → RefOk r
      go (refuse n) f y g e = absurd (not_found e)
      go (value ns c) f (refuse n) g e = absurd (not_found e)
      go (value ns c) f (value p d) g e =
          let m = one_encoding (read_map fixed z) (map_bytes fixed) (MapOk z) (λ s. map_codes fixed s (fixed_codes s) z nodes-fit) map ns c bytes.0 f in
          let q = one_encoding (read_params fixed) (params_bytes fixed) ParamsOk (λ s. params_codes fixed s (fixed_codes s)) params p d bytes.1 g in
          subst RefOk (found_same e) (record { nodes_ok = m.1; params_ok = q.1; votes_ok = tt; candidate_ok = tt })
  start_ok nodes-fit (join_start places id key plan) bytes r = go (whole (read_plan fixed z plan) plan) refl
    where
      go : (x : Read PlanOf) → whole (read_plan fixed z plan) plan ≡ x → planned_by x ≡ found r → RefOk r
      go (refuse n) f e = absurd (not_found e)
      go (value p c) f e = subst RefOk (found_same e) (plan_ok p (plan_one_encoding fixed fixed_codes z nodes-fit plan p c bytes f).1)
