-- 02, CR 7, of every report that a batch call returns: "the batch report shall hand it on". The list is that of the votes after the batch's own votes and before any new era.
-- Assumes nothing.
use Prim.Native.Nat.{ℕ, ◌+◌}
use mathlib.Core.Path.{◌≡◌, sym, ap, subst, ◌∙◌}
use mathlib.Core.List.{List, []}
use mathlib.Core.Bool.{true, false}
use mathlib.Core.Logic.{◌↔◌, ◌⊎◌}
use Rattle.lists.specs.Lists.{found, nothing}
use Rattle.bincode.specs.Outcome.{Outcome, done, refused}
use Rattle.bincode.specs.Read.{value}
use Rattle.bincode.specs.Sizes.{Sizes}
use Rattle.bincode.proofs.ReadLaws.{done_refused}
use Rattle.change.specs.Change.{ChangeOf, ChangeStateOf, none}
use Rattle.batch.specs.Batch.{RulingOf, unvoted}
use Rattle.vote_counter.specs.VoteCounter.{compute_winner, supporters_of}
use Rattle.key_gen_state.specs.KeyGenState.{ready_state}
use Rattle.internal_contrib.specs.InternalContrib.{ContribOf, read_batch}
use Rattle.dynamic_honey_badger.specs.State.{StateOf, era_of}
use Rattle.steps.specs.Steps.{committed}
use Rattle.decision.specs.Decision.{decide}
use Rattle.decision.proofs.CarriedLaws as decided
use Rattle.process_output.specs.Process.{BatchCall, ReportOf, ProcessedOf, finished, processed}
use Rattle.process_output.proofs.CallLaws.{IsTaken, batch_cases}

module _ (z : Sizes) (s : StateOf) (b : BatchCall) (r : ReportOf) (answered : (processed z s b).answer ≡ done r) (cs : List ContribOf) (c : ℕ) (read : read_batch z b.bytes ≡ value cs c) where
  -- the state with the batch's own votes and key messages, in its era still
  abbrev pub counted : StateOf
  counted = (committed z s b.verdicts cs).state

  -- what that state decides, as the report tells it
  abbrev ruling : RulingOf
  ruling = (decide z (era_of s + b.inner + 1) counted).ruling

  Told : ProcessedOf → Type 0
  Told p = p.answer ≡ done r → record { change = r.batch.change; voters = r.batch.voters } ≡ ruling

  told : record { change = r.batch.change; voters = r.batch.voters } ≡ ruling
  unfolding Told
  told = batch_cases z s b Told (λ w e. absurd (done_refused e)) taken answered
    where
      decided_on : List ContribOf → RulingOf
      decided_on ds = (decide z (era_of s + b.inner + 1) (committed z s b.verdicts ds).state).ruling

      taken : (ds : List ContribOf) (d : ℕ) → IsTaken z s b ds d → Told (finished z s (era_of s + b.inner) (committed z s b.verdicts ds))
      taken ds d t e =
          let same : ds ≡ cs = let q : value ds d ≡ value cs c = sym t.is_own.is_read.bytes_read ∙ read in cc in
          let report = sym (ap ruling_in e) in
          report ∙ ap decided_on same
        where
          ruling_in : Outcome ReportOf → RulingOf
          ruling_in (done x) = record { change = x.batch.change; voters = x.batch.voters }
          ruling_in (refused n) = unvoted none

  module _ (unready : ready_state counted.key_gen ≡ false) where
    -- a winner was taken: all voters whose stored vote is then for it
    pub winner_listed : (x : ChangeOf) → compute_winner counted.counter ≡ found x
        → (r.batch.voters ≡ supporters_of counted.counter.committed x) × decided.Decides r.batch.change x
    winner_listed x e =
        let w = decided.winner_lists z (era_of s + b.inner + 1) counted unready x e in
        (ap (λ (q : RulingOf). q.voters) told ∙ w.0, subst (λ (k : ChangeStateOf). decided.Decides k x) (sym (ap (λ (q : RulingOf). q.change) told)) w.1)

    -- nobody has won: `None`, and nobody, even if there are votes
    pub none_listed : compute_winner counted.counter ≡ nothing → (r.batch.voters ≡ []) × (r.batch.change ≡ none)
    none_listed e =
        let q = told ∙ decided.none_lists_nobody z (era_of s + b.inner + 1) counted unready e in
        (ap (λ (x : RulingOf). x.voters) q, ap (λ (x : RulingOf). x.change) q)

  -- key generation was ready: nobody, even if votes pass f in the same batch
  pub ready_listed : ready_state counted.key_gen ≡ true → r.batch.voters ≡ []
  ready_listed e = ap (λ (q : RulingOf). q.voters) told ∙ decided.ready_lists_nobody z (era_of s + b.inner + 1) counted e

  -- "Where the report comes of a ready key generation or is `None`, the list is empty", and nowhere else
  pub empty_listed : (r.batch.voters ≡ []) ↔ ((ready_state counted.key_gen ≡ true) ⊎ (r.batch.change ≡ none))
  empty_listed =
      subst (λ (q : RulingOf). (q.voters ≡ []) ↔ ((ready_state counted.key_gen ≡ true) ⊎ (q.change ≡ none))) (sym told)
      (decided.empty_exactly z (era_of s + b.inner + 1) counted)
