-- 02, CR 6, of whole batch calls: "Stored votes are the same in every case". A call in document 01's order of checks leaves the state that a call in the present order
-- leaves, is refused by the same number, and has the same report, due items and recipe; its faults are those of the present order less the marked ones, in order. So two
-- logs of calls, one in each order, may be compared with just those struck out.
-- Assumes nothing.
use Prim.Native.Nat.{ℕ, ◌+◌, ◌≤◌}
use mathlib.Core.Path.{◌≡◌, refl, ap, ◌∙◌}
use mathlib.Core.List.{List, [], ◌∷◌}
use mathlib.Core.Bool.{Bool, true, false, cond}
use native.Mathlib.Omega.{arith}
use lib.ListN.{length}
use Rattle.bincode.specs.Outcome.{Outcome, done, refused}
use Rattle.bincode.specs.Read.{Read, value, refuse}
use Rattle.bincode.specs.Sizes.{Sizes}
use Rattle.bincode.specs.Stands.{All}
use Rattle.bincode.proofs.ReadLaws.{done_refused}
use Rattle.fault_log.specs.declared.Fault.{Fault}
use Rattle.votes.specs.Votes.{SignedVoteOf}
use Rattle.vote_counter.specs.VoteCounter.{VoteEffect, stored, nothing_new, fault, obsolete, committed_effect}
use Rattle.vote_counter.proofs.PageLaws.{old_obsolete}
use Rattle.vote_counter.specs.NumberFirst.{number_first}
use Rattle.vote_counter.proofs.NumberFirst.{OldAndWrong, differ_there, same_elsewhere}
use Rattle.key_gen_message.specs.KeyGenMessage.{SignedKeyGenMsgOf}
use Rattle.internal_contrib.specs.InternalContrib.{ContribOf, read_batch}
use Rattle.dynamic_honey_badger.specs.Asked.{row5}
use Rattle.dynamic_honey_badger.specs.State.{StateOf, era_of, nodes_in}
use Rattle.steps.specs.Steps.{WorkOf, Told, quiet, owed, blamed_proposer, blamed_signer, message_done, first_verdict, committed}
use Rattle.decision.specs.Decision.{empty_wins}
use Rattle.process_output.specs.Refusals.{batch_row1, batch_row4, batch_row15, batch_row7}
use Rattle.process_output.specs.Process.{BatchCall, ReportOf, ProcessedOf, denied, finished, processed_contribs, processed_read, processed}
use Rattle.process_output.proofs.CallLaws.{IsTaken, batch_cases}
use Rattle.agreement.proofs.CountLaws.{few_items}
use Rattle.agreement.specs.NumberFirst.{marked_if, vote_marks, never_marked, message_marks, batch_marks, committed_number_first, contribs_number_first, read_number_first, processed_number_first, marks_read, call_marks, struck}
use Rattle.agreement.proofs.StruckLaws.{less, Beside, batch_beside}

-- which faults are marked
module _ (w : WorkOf) where
  -- a vote's, where its number is old and its era or signature is wrong
  pub marked_there : (v : SignedVoteOf) → OldAndWrong w.state.counter.era w.state.counter.nodes w.state.counter.committed v → vote_marks w v ≡ true ∷ []
  unfolding vote_marks
  marked_there v h = rw ((differ_there _ _ _ v h).0, old_obsolete w.state.counter.committed v h.old)

  -- no other vote's
  pub marked_nowhere_else : (v : SignedVoteOf) → (OldAndWrong w.state.counter.era w.state.counter.nodes w.state.counter.committed v → ⊥) → All (λ (m : Bool). m ≡ false) (vote_marks w v)
  unfolding vote_marks number_first
  marked_nowhere_else v n = go (obsolete w.state.counter.committed v) _ (committed_effect w.state.counter v) (same_elsewhere _ _ _ v n)
    where
      go : (o : Bool) (x e : VoteEffect) → e ≡ cond o nothing_new x → All (λ (m : Bool). m ≡ false) (marked_if o e)
      go true x stored q = tt
      go true x nothing_new q = tt
      go true x (fault k) q = absurd (let y : ⊥ = cc in y)
      go false x stored q = tt
      go false x nothing_new q = tt
      go false x (fault k) q = (refl, tt)

  -- and no key message's
  pub marked_no_message : (m : SignedKeyGenMsgOf) → All (λ (m : Bool). m ≡ false) (message_marks w m)
  unfolding message_marks
  marked_no_message m = go (message_done (era_of w.state) (nodes_in w.state) w.state.key_gen m (first_verdict w.verdicts)).told
    where
      go : (t : Told) → All (λ (m : Bool). m ≡ false) (never_marked t)
      go quiet = tt
      go (owed i) = tt
      go (blamed_proposer k) = (refl, tt)
      go (blamed_signer k) = (refl, tt)

-- the faults of an answer, none of a refusal
abbrev faults_in : Outcome ReportOf → List Fault
faults_in (done r) = r.faults
faults_in (refused n) = []

module _ (z : Sizes) (fits : z.items ≤ z.faults) (s : StateOf) (b : BatchCall) where
  -- a batch that was read has no more votes and key messages than the list of faults has places
  read_beside : (cs : List ContribOf) (c : ℕ) → read_batch z b.bytes ≡ value cs c
      → Beside (batch_marks z s b.verdicts cs) (committed z s b.verdicts cs) (committed_number_first z s b.verdicts cs)
  read_beside cs c p = batch_beside z s b.verdicts cs (omega (arith, fits, few_items z b.bytes cs c p))

  -- an answer less the marked faults, with the state beside it
  abbrev without_marked : List Bool → ProcessedOf → ProcessedOf
  without_marked ms p = record { state = p.state; answer = struck ms p.answer }

  contribs_struck : (cs : List ContribOf) (c : ℕ) → read_batch z b.bytes ≡ value cs c
      → contribs_number_first z s b cs ≡ without_marked (batch_marks z s b.verdicts cs) (processed_contribs z s b cs)
  unfolding contribs_number_first processed_contribs batch_row7
  contribs_struck cs c p =
      rw (read_beside cs c p).same
      (go (batch_row4 cs b.verdicts) (batch_row15 (era_of s) b.era) (row5 (era_of s + b.inner)) (empty_wins (committed z s b.verdicts cs).state) (committed z s b.verdicts cs))
    where
      rows : Bool → Bool → Bool → Bool → WorkOf → ProcessedOf
      rows r4 r15 r5 r7 w = cond r4 (denied s 4) (cond r15 (denied s 15) (cond r5 (denied s 5) (cond r7 (denied s 7) (finished z s (era_of s + b.inner) w))))

      ms : List Bool
      ms = batch_marks z s b.verdicts cs

      go : (r4 r15 r5 r7 : Bool) (w : WorkOf) → rows r4 r15 r5 r7 (less ms w) ≡ without_marked ms (rows r4 r15 r5 r7 w)
      go true r15 r5 r7 w = refl
      go false true r5 r7 w = refl
      go false false true r7 w = refl
      go false false false true w = refl
      go false false false false w = refl

  -- "Stored votes are the same in every case": the whole state is, and the answer but for the marked faults
  pub call_struck : processed_number_first z s b ≡ record { state = (processed z s b).state; answer = struck (call_marks z s b) (processed z s b).answer }
  unfolding processed_number_first processed call_marks
  call_struck = go (batch_row1 z b.fault_places b.due_places) (read_batch z b.bytes) refl
    where
      go : (r1 : Bool) (x : Read (List ContribOf)) → read_batch z b.bytes ≡ x
          → cond r1 (denied s 1) (read_number_first z s b x) ≡ without_marked (marks_read z s b x) (cond r1 (denied s 1) (processed_read z s b x))
      go true x p = refl
      go false (refuse n) p = refl
      go false (value cs c) p = contribs_struck cs c p

  -- there is one mark for each fault of the report
  pub marks_fit : (r : ReportOf) → (processed z s b).answer ≡ done r → length (call_marks z s b) ≡ length r.faults
  unfolding call_marks
  marks_fit = batch_cases z s b (λ p. (r : ReportOf) → p.answer ≡ done r → length (call_marks z s b) ≡ length r.faults) (λ w r e. absurd (done_refused e)) taken
    where
      taken : (cs : List ContribOf) (c : ℕ) → IsTaken z s b cs c → (r : ReportOf) → (finished z s (era_of s + b.inner) (committed z s b.verdicts cs)).answer ≡ done r → length (call_marks z s b) ≡ length r.faults
      taken cs c t r e =
          let p : read_batch z b.bytes ≡ value cs c = t.is_own.is_read.bytes_read in
          ap (λ (x : Read (List ContribOf)). length (marks_read z s b x)) p ∙ (read_beside cs c p).fit ∙ ap (λ (a : Outcome ReportOf). length (faults_in a)) e
