use mathlib.Core.Path.{◌≡◌, refl, sym, ap, ◌∙◌}
use mathlib.Core.List.{[], ◌∷◌, ◌++◌}
use lib.ListN.{take}
use Rattle.bincode.specs.Items.{plain, stay, many}
use Rattle.bincode.specs.Sizes.{base}
use Rattle.bincode.proofs.ReadLaws.{answer_ok}
use Rattle.bincode.proofs.RereadLaws.{handle_refused, reread_start, reread_more, reread_end}
use Rattle.fault_log.specs.FaultLog.{faults_of}
use Rattle.votes.specs.VoteHead.{head_of}
use Rattle.votes.specs.Votes.{read_signed_vote}
use Rattle.steps.specs.Steps.{committed_vote}
use Rattle.commit.specs.Arisen.{blamed_in}
use Rattle.commit.proofs.voting.commit_votes.Goals as goal
use Rattle.commit.proofs.voting.commit_votes.Goals.{in-Some, in_default-commit_vote}

pub loop-init : goal.loop-init
loop-init c = λ w start h. (w, h, reread_start (plain (read_signed_vote base _)) stay (committed_vote base _) _ tt _ _ tt refl)

pub returns-in_default-clause-committed : goal.returns-in_default-clause-committed
returns-in_default-clause-committed c =
    λ b vs d e w start h.
    let u = c.loop.invariant w start h in
    absurd (handle_refused (read_signed_vote base _) (committed_vote base _) _ _ _ _ _ _ u.2 c.loop-test.true head_of _ c.read_vote_head.ensures _ c.in_default.is vs d
    (ap (many (read_signed_vote base _) _) (c.first_item-at.ensures.0 b) ∙ e))

pub loop-preserved : goal.loop-preserved
loop-preserved c =
    let id = c.args.c.now.id in
    let l = c.loop in
    let read = answer_ok head_of (read_signed_vote base c.args.terms.now.bytes.now l.at) c.in-Ok.h c.in-Ok.next (sym c.read_vote_head.ensures ∙ c.in-Ok.is) in
    let one = c.commit_vote in
    let more : faults_of c.match-commit_vote.faults ≡ blamed_in base id one.result (faults_of l.faults) =
    elim c.match-commit_vote.branch [
      | in-Some k ↦ ap faults_of k.faults-is ∙ k.append.ensures ∙ (λ j. take base.faults (faults_of l.faults ++ (k.new.ensures j ∷ [])))
          ∙ (λ j. blamed_in base id (sym k.in-Some.is j) (faults_of l.faults))
      | in_default-commit_vote k ↦ ap faults_of k.faults-is ∙ (λ j. blamed_in base id (sym k.in_default-commit_vote.is j) (faults_of l.faults))
    ] in
    λ w start h.
    let u = l.invariant w start h in
    let v = one.ensures read.0 _ read.1 read.2 u.0 start id u.1.votes in (
      committed_vote base id u.0 read.0,
      record { faults = more ∙ ap (blamed_in base id one.result) u.1.faults ∙ v.1; votes = v.0 },
      reread_more (plain (read_signed_vote base _)) stay (committed_vote base _) _ tt _ _ _ tt _ u.0 u.2 c.loop-test.true read.0 _ read.1 tt refl _ refl,
    )

pub returns-clause-committed : goal.returns-clause-committed
returns-clause-committed c =
    λ b vs d e w start h.
    let u = c.loop.invariant w start h in
    rw (sym (reread_end (plain (read_signed_vote base _)) stay (committed_vote base _) _ tt _ _ _ tt _ _ u.2 c.loop-test.false vs d
    (ap (many (read_signed_vote base _) _) (c.first_item-at.ensures.0 b) ∙ e))) u.1
