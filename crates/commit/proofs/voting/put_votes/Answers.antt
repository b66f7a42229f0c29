use mathlib.Core.Path.{◌≡◌, sym, ap, ◌∙◌}
use mathlib.Core.List.{◌∷◌}
use mathlib.Core.Bool.{◌||◌}
use native.Mathlib.Omega.{arith}
use native.Mathlib.Numerals.{add-one}
use lib.ListN.{drop, get_or}
use lib.Seq.{drop-cons}
use Prim.Native.Nat.{◌+◌}
use Rattle.bincode.specs.Items.{foldl}
use Rattle.bincode.specs.Sizes.{base}
use Rattle.signed_votes.specs.SignedVotes.{votes_of}
use Rattle.vote_counter.specs.VoteCounter.{counter_of, CommittedOf}
use Rattle.vote_counter.proofs.OnceLaws.{after, next_vote}
use Rattle.commit.specs.Tally.{no_entry}
use Rattle.commit.specs.Put.{put_in}
use Rattle.commit.proofs.StayedLaws.{put_none}
use Rattle.commit.proofs.TurnLaws.{fold_more, fold_end, put_unread, put_read_lem}
use Rattle.commit.proofs.voting.put_votes.Goals as goal
use Rattle.commit.proofs.voting.put_votes.Goals.{in-Some+in-Ok, in-Some+in_default-read, in_default}

pub loop-e-init : goal.loop-e-init
loop-e-init c = ap (foldl (put_in base c.args.s.now) (counter_of c.args.counter)) (sym c.as_slice-e-items.ensures)

pub loop-e-preserved : goal.loop-e-preserved
loop-e-preserved c =
    let d = counter_of c.args.counter in
    let es = c.as_slice-e-items.result.now in
    let l = c.loop-e in
    let at = after base d (votes_of l.votes) l.taken in
    let rest : drop l.e-index es ≡ get_or es l.e-index no_entry ∷ drop (l.e-index + 1) es = rw (add-one, drop-cons es l.e-index no_entry c.loop-e-test.true) in
    let more = fold_more (put_in base _) at es l.e-index _ rest in
    l.invariant ∙ more _ (elim c.match-e.branch [
      | in-Some+in-Ok k ↦ (λ j. after base d (votes_of (k.votes-is j)) (k.taken-is j)) ∙ ap (λ (q : CommittedOf). after base d q.votes (l.taken || q.taken)) k.commit_vote-a.ensures
          ∙ sym (next_vote base d (votes_of l.votes) l.taken _)
          ∙ put_read_lem _ at _ k.in-Some.place k.in-Some.is k.in-Ok.x _ (sym k.read.ensures ∙ k.in-Ok.is)
      | in-Some+in_default-read k ↦ (λ j. after base d (votes_of (k.votes-is j)) (k.taken-is j))
          ∙ put_unread _ at _ k.in-Some.place k.in-Some.is _ (sym k.read.ensures ∙ k.in_default-read.is)
      | in_default k ↦ (λ j. after base d (votes_of (k.votes-is j)) (k.taken-is j)) ∙ sym (put_none base _ at _ k.in_default.is)
    ])

pub returns : goal.returns
returns c =
    let d = counter_of c.args.counter in
    let l = c.loop-e in
    c.with_committed.ensures ∙ sym (l.invariant ∙ fold_end (put_in base _) (after base d (votes_of l.votes) l.taken) c.as_slice-e-items.result.now l.e-index (omega arith))
