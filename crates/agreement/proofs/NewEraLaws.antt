-- Of every reported batch: it began a new era exactly where the era after it is another than before it, and it left an older key generation exactly where one that ran
-- before it still runs.
-- Assumes nothing.
use Prim.Native.Nat.{ℕ, ◌+◌, ◌≤◌}
use mathlib.Core.Path.{◌≡◌, refl, sym, ap, ◌∙◌}
use mathlib.Core.Logic.{◌⊎◌, inl, inr, ⊎_elim}
use mathlib.Core.List.{List, [], ◌∷◌, map}
use mathlib.Core.Bool.{Bool, true, false, cond}
use native.Mathlib.Omega.{arith}
use borrow.Author.Tests.{eqb-true, eqb-false}
use Rattle.lists.specs.Lists.{Found, found, nothing, map_found}
use Rattle.lists.proofs.ListLaws.{false_true, found_same, not_found}
use Rattle.bincode.specs.Outcome.{done}
use Rattle.bincode.specs.Sizes.{Sizes}
use Rattle.pub_key_map.specs.declared.Node.{Node}
use Rattle.pub_key_map.specs.PubKeyMap.{same_nodes}
use Rattle.pub_key_map.proofs.MapLaws.{map_true, map_refl}
use Rattle.honey_badger.specs.declared.EncryptionSchedule.{EncryptionSchedule}
use Rattle.change.specs.Change.{ChangeOf, node_change, encryption_schedule, ChangeStateOf, none, in_progress, complete}
use Rattle.key_gen.specs.KeyGen.{ProposalOf}
use Rattle.key_gen_state.specs.KeyGenState.{KeyGenStateOf}
use Rattle.batch.specs.Batch.{BatchOf}
use Rattle.dynamic_honey_badger.specs.State.{StateOf, era_of, candidate_nodes}
use Rattle.process_output.specs.Process.{BatchCall, ReportOf, processed}
use Rattle.reference.specs.Reference.{CandidateRef, RefState}
use Rattle.reference.specs.Step.{RefDecided, decided_ref, new_era_ref, ref_ready, ref_completed, is_candidate_ref, ref_voters, ref_elected, ref_winner, ref_decide, ref_step}
use Rattle.agreement.specs.Shared.{part_ref, candidate_ref, ref_of}
use Rattle.agreement.specs.Calls.{as_shared}
use Rattle.agreement.specs.Hypotheses.{began_era, left_older}
use Rattle.agreement.proofs.KeptLaws.{map_of}
use Rattle.agreement.proofs.Reported.{candidate_map, Reported, batch_reported, left_shared, maps_before, maps_after}

-- what is decided where a map wins: the candidate map again, or another
abbrev pub won_by : ℕ → RefState → List Node → Bool → RefDecided
won_by era t ns again =
    cond again (decided_ref t (in_progress (node_change ns)) (ref_voters t (node_change ns)))
    (decided_ref (new_era_ref era t.nodes t.params (found (record { nodes = ns; parts = [] }))) (in_progress (node_change ns)) (ref_voters t (node_change ns)))

-- a decision leaves the era or begins the new one
module _ (era : ℕ) (t : RefState) where
  abbrev Eras : RefDecided → Type 0
  Eras d = (d.state.era ≡ t.era) ⊎ (d.state.era ≡ era)

  decided_era : Eras (ref_decide era t)
  unfolding ref_decide
  decided_era = go (ref_ready t.candidate) t.candidate (ref_winner t)
    where
      wins : (ns : List Node) (again : Bool) → Eras (won_by era t ns again)
      wins ns true = inl refl
      wins ns false = inr refl

      go : (b : Bool) (g : Found CandidateRef) (x : Found ChangeOf) → Eras (cond b (ref_completed era t g) (ref_elected era t x))
      go true (found g) x = inr refl
      go true nothing x = inl refl
      go false g (found (node_change ns)) = wins ns (is_candidate_ref t.candidate ns)
      go false g (found (encryption_schedule x)) = inr refl
      go false g nothing = inl refl

-- by the report and the candidate map before the batch: whether a key generation that ran still runs
abbrev still_runs : ChangeStateOf → Found (List Node) → Bool
still_runs c nothing = false
still_runs none (found ms) = true
still_runs (in_progress (node_change ns)) (found ms) = same_nodes ms ns
still_runs (in_progress (encryption_schedule x)) (found ms) = true
still_runs (complete (node_change ns)) (found ms) = false
still_runs (complete (encryption_schedule x)) (found ms) = true

module _ (era : ℕ) (t : RefState) where
  -- what is claimed of a decision, where m is the candidate map before it
  abbrev Left : Found (List Node) → RefDecided → Type 0
  Left m d = left_older m (candidate_map d.state) ≡ still_runs d.ruling.change m

  decided_left : Left (candidate_map t) (ref_decide era t)
  unfolding ref_decide left_older
  decided_left = go (ref_ready t.candidate) (ref_winner t)
    where
      completed : (g : Found CandidateRef) → Left (map_found map_of g) (ref_completed era t g)
      completed (found g) = refl
      completed nothing = refl

      same : (g : CandidateRef) → t.candidate ≡ found g → (ns : List Node) (again : Bool) → same_nodes g.nodes ns ≡ again → Left (found g.nodes) (won_by era t ns again)
      same g e ns true h = ap (λ (x : Found CandidateRef). left_older (found g.nodes) (map_found map_of x)) e ∙ map_refl g.nodes ∙ sym h
      same g e ns false h = refl

      wins : (g : Found CandidateRef) → t.candidate ≡ g → (ns : List Node) → Left (map_found map_of g) (won_by era t ns (is_candidate_ref g ns))
      wins (found g) e ns = same g e ns (same_nodes g.nodes ns) refl
      wins nothing e ns = refl

      -- the candidate map stays
      kept : (g : Found CandidateRef) → left_older (map_found map_of g) (map_found map_of g) ≡ still_runs none (map_found map_of g)
      kept (found g) = map_refl g.nodes
      kept nothing = refl

      scheduled_kept : (x : EncryptionSchedule) (g : Found CandidateRef) → left_older (map_found map_of g) (map_found map_of g) ≡ still_runs (complete (encryption_schedule x)) (map_found map_of g)
      scheduled_kept x (found g) = map_refl g.nodes
      scheduled_kept x nothing = refl

      go : (b : Bool) (x : Found ChangeOf) → Left (candidate_map t) (cond b (ref_completed era t t.candidate) (ref_elected era t x))
      go true x = completed t.candidate
      go false (found (node_change ns)) = wins t.candidate refl ns
      go false (found (encryption_schedule x)) = scheduled_kept x t.candidate
      go false nothing = kept t.candidate

  -- where none older is left, one that runs after the decision has no parts
  abbrev Fresh : Found (List Node) → RefDecided → Type 0
  Fresh m d = left_older m (candidate_map d.state) ≡ false → (g : CandidateRef) → d.state.candidate ≡ found g → g.parts ≡ []

  decided_fresh : Fresh (candidate_map t) (ref_decide era t)
  unfolding ref_decide left_older
  decided_fresh = go (ref_ready t.candidate) (ref_winner t)
    where
      kept : (x : Found CandidateRef) → left_older (map_found map_of x) (map_found map_of x) ≡ false → (g : CandidateRef) → x ≡ found g → g.parts ≡ []
      kept (found y) l g q = absurd (false_true (sym l ∙ map_refl y.nodes))
      kept nothing l g q = absurd (not_found q)

      completed : (x : Found CandidateRef) → t.candidate ≡ x → Fresh (map_found map_of x) (ref_completed era t x)
      completed (found y) e l g q = absurd (not_found q)
      completed nothing e l g q = absurd (not_found (sym e ∙ q))

      same : (y : CandidateRef) → t.candidate ≡ found y → (ns : List Node) (again : Bool) → Fresh (found y.nodes) (won_by era t ns again)
      same y e ns true l g q = absurd (false_true (sym l ∙ ap (λ (x : Found CandidateRef). left_older (found y.nodes) (map_found map_of x)) e ∙ map_refl y.nodes))
      same y e ns false l g q = ap (λ (x : CandidateRef). x.parts) (sym (found_same q))

      wins : (x : Found CandidateRef) → t.candidate ≡ x → (ns : List Node) → Fresh (map_found map_of x) (won_by era t ns (is_candidate_ref x ns))
      wins (found y) e ns = same y e ns (same_nodes y.nodes ns)
      wins nothing e ns = λ l g q. ap (λ (x : CandidateRef). x.parts) (sym (found_same q))

      go : (b : Bool) (x : Found ChangeOf) → Fresh (candidate_map t) (cond b (ref_completed era t t.candidate) (ref_elected era t x))
      go true x = completed t.candidate refl
      go false (found (node_change ns)) = wins t.candidate refl ns
      go false (found (encryption_schedule x)) = kept t.candidate
      go false nothing = kept t.candidate

-- every reported batch
module _ (z : Sizes) (fits : z.items ≤ z.faults) (s : StateOf) (b : BatchCall) (r : ReportOf) (answered : (processed z s b).answer ≡ done r) where
  abbrev report : Reported (ref_of s) b.inner (ref_step z (ref_of s) (as_shared b)) r.batch
  report = batch_reported z fits s b r answered

  -- it began a new era exactly where the era after it is another than before it
  pub era_began : (began_era r.batch (era_of (processed z s b).state) ≡ true → era_of (processed z s b).state ≡ era_of s → ⊥)
      × ((era_of (processed z s b).state ≡ era_of s → ⊥) → began_era r.batch (era_of (processed z s b).state) ≡ true)
  unfolding began_era
  era_began = (
    λ e same. omega (arith, eqb-true, epoch),
    λ other. ⊎_elim (λ e. absurd (other (era ∙ e ∙ report.same_era))) (λ e. told (began_era r.batch (era_of (processed z s b).state)) refl e)
        (decided_era (era_of s + b.inner + 1) report.middle),
  )
    where
      epoch : r.batch.epoch ≡ era_of s + b.inner
      epoch = ap (λ (x : BatchOf). x.epoch) report.batch_is

      era : era_of (processed z s b).state ≡ (ref_decide (era_of s + b.inner + 1) report.middle).state.era
      era = ap (λ (x : RefState). x.era) (left_shared z fits s b r answered)

      told : (x : Bool) → began_era r.batch (era_of (processed z s b).state) ≡ x
          → (ref_decide (era_of s + b.inner + 1) report.middle).state.era ≡ era_of s + b.inner + 1 → x ≡ true
      told true q e = refl
      told false q e = absurd (let none : ⊥ = omega (arith, eqb-false, epoch, era, e) in none)

  -- whether it left an older key generation
  abbrev older : Bool
  older = left_older (candidate_nodes s.key_gen) (candidate_nodes (processed z s b).state.key_gen)

  left_by_report : older ≡ still_runs r.batch.change (candidate_nodes s.key_gen)
  left_by_report =
      (λ i. left_older (maps_before z fits s b r answered i) (maps_after z fits s b r answered i))
      ∙ decided_left (era_of s + b.inner + 1) report.middle
      ∙ (λ i. still_runs (sym report.batch_is i).change (sym (maps_before z fits s b r answered) i))

  -- a key generation ran, for the candidate map ms
  module _ (ms : List Node) (ran : candidate_nodes s.key_gen ≡ found ms) where
    -- nothing changed: it still runs
    pub none_leaves : r.batch.change ≡ none → older ≡ true
    none_leaves e = left_by_report ∙ (λ i. still_runs (e i) (ran i))

    -- its map won again: it still runs
    pub repeat_leaves : r.batch.change ≡ in_progress (node_change ms) → older ≡ true
    repeat_leaves e = left_by_report ∙ (λ i. still_runs (e i) (ran i)) ∙ map_refl ms

    -- a schedule won: it still runs
    pub schedule_leaves : (x : EncryptionSchedule) → r.batch.change ≡ complete (encryption_schedule x) → older ≡ true
    schedule_leaves x e = left_by_report ∙ (λ i. still_runs (e i) (ran i))

    -- another map won, and a fresh one runs: it does not
    pub other_leaves_none : (ns : List Node) → (ms ≡ ns → ⊥) → r.batch.change ≡ in_progress (node_change ns) → older ≡ false
    other_leaves_none ns other e = left_by_report ∙ (λ i. still_runs (e i) (ran i)) ∙ differ (same_nodes ms ns) refl
      where
        differ : (b : Bool) → same_nodes ms ns ≡ b → b ≡ false
        differ true q = absurd (other (map_true ms ns q))
        differ false q = refl

    -- it completed: it does not
    pub complete_leaves_none : (ns : List Node) → r.batch.change ≡ complete (node_change ns) → older ≡ false
    complete_leaves_none ns e = left_by_report ∙ (λ i. still_runs (e i) (ran i))

  -- none ran: none is left, whatever was reported
  pub none_left : candidate_nodes s.key_gen ≡ nothing → older ≡ false
  none_left e = left_by_report ∙ ap (still_runs r.batch.change) e

  -- and where none older is left, one that runs after it is fresh: no part of it is recorded
  pub fresh_one : older ≡ false → (g : KeyGenStateOf) → (processed z s b).state.key_gen ≡ found g → g.key_gen.parts ≡ []
  fresh_one none-older g runs =
      empty g.key_gen.parts
      (decided_fresh (era_of s + b.inner + 1) report.middle
      ((λ i. left_older (sym (maps_before z fits s b r answered) i) (sym (maps_after z fits s b r answered) i)) ∙ none-older)
      (candidate_ref g)
      (ap (λ (x : RefState). x.candidate) (sym (left_shared z fits s b r answered)) ∙ ap (map_found candidate_ref) runs))
    where
      empty : (qs : List ProposalOf) → map part_ref qs ≡ [] → qs ≡ []
      empty [] e = refl
      empty (q ∷ qs) e = absurd (let n : ◌≡◌ {A = ℕ} 0 1 = cc in omega arith)
