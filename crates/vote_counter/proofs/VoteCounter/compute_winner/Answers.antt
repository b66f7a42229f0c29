use mathlib.Core.Path.{◌≡◌, sym, ap, ◌∙◌}
use mathlib.Core.List.{List, map}
use native.Mathlib.Omega.{arith}
use Prim.Native.Nat.{ℕ, ◌<◌}
use lib.ListN.{length}
use Rattle.lists.specs.Lists.{found, option_as_found}
use Rattle.lists.proofs.ListLaws.{found_same}
use Rattle.votes.specs.declared.SignedVote.{SignedVote}
use Rattle.votes.specs.Votes.{SignedVoteOf, signed_of}
use Rattle.signed_votes.specs.SignedVotes.{votes_of}
use Rattle.vote_counter.specs.declared.Winner.{Winner}
use Rattle.vote_counter.specs.VoteCounter.{counter_of, winner_at, supporters_of}
use Rattle.vote_counter.specs.Answers.{choice_at}
use Rattle.board.proofs.BoardTurns.{vote_at}
use Rattle.vote_counter.proofs.CounterLaws.{carried_at, carried_nowhere}
use Rattle.vote_counter.proofs.VoteCounter.compute_winner.Goals as goal

pub returns-in_err-place : goal.returns-in_err-place
returns-in_err-place c =
    let e = sym (ap (option_as_found (λ (x : ℕ). x)) c.in_err-place.was) ∙ c.winning_place.ensures.0 in
    let r = c.from_residual.ensures in
    rw r (sym (carried_nowhere (counter_of c.args.self.now) (sym e)), e, λ w q. absurd (let z : ◌≡◌ {A = ℕ} 0 1 = cc in let y : ⊥ = omega arith in y))

pub returns : goal.returns
returns c =
    let x = c.args.self.now.committed in
    let i = c.in_ok-place.place in
    let within : i < length (votes_of x) = c.winning_place.ensures.1 i c.in_ok-place.was in
    let at : found i ≡ winner_at (counter_of c.args.self.now) = sym (ap (option_as_found (λ (k : ℕ). k)) c.in_ok-place.was) ∙ c.winning_place.ensures.0 in
    let held = c.as_slice.ensures in
    let here : i < length (map signed_of c.as_slice.result.now) = rw held within in
    let change = sym (ap (λ (v : SignedVoteOf). v.vote.change) (vote_at c.as_slice.result.now i here _)) ∙ ap (λ (xs : List SignedVote). choice_at (map signed_of xs) i) held in
    let voters = c.supporters_of.ensures ∙ ap (supporters_of (votes_of x)) change in (
      (λ j. found (record { change = choice_at (votes_of x) i; voters = voters j })) ∙ sym (carried_at (counter_of c.args.self.now) i (sym at)),
      at,
      λ w q. let same : i ≡ w.place = found_same (ap (option_as_found (λ (k : Winner). k.place)) q) in omega (arith, within, same),
    )
