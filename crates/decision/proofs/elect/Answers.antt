use Rattle.std.proofs.Common.{rules}
use Prim.Native.Nat.{ℕ, ◌*◌, ◌<◌}
use mathlib.Core.Path.{◌≡◌, sym, ap, ◌∙◌}
use mathlib.Core.List.{List, map}
use native.Mathlib.Omega.{arith}
use lib.ListN.{length, length-map}
use Rattle.std.specs.declared.option.Option.{Option}
use Rattle.lists.specs.Lists.{found, option_as_found}
use Rattle.votes.specs.declared.SignedVote.{SignedVote}
use Rattle.votes.specs.Votes.{SignedVoteOf, signed_of}
use Rattle.signed_votes.specs.SignedVotes.{votes_of}
use Rattle.voters.specs.Voters.{ids_of}
use Rattle.board.proofs.BoardTurns.{vote_at}
use Rattle.vote_counter.specs.declared.Winner.{Winner}
use Rattle.vote_counter.specs.VoteCounter.{counter_of}
use Rattle.vote_counter.specs.Answers.{choice_at, carried_of}
use Rattle.vote_counter.proofs.FewLaws.{few_carried}
use Rattle.decision.specs.Decision.{elected_of}
use Rattle.decision.proofs.elect.Goals as goal

pub returns-then-len-num_faulty : goal.returns-then-len-num_faulty
returns-then-len-num_faulty c = sym (few_carried (counter_of c.args.counter.now) (omega (arith, c.len.ensures.0, c.num_faulty.ensures, c.if-len-num_faulty.true)))

pub returns-in_err-winner : goal.returns-in_err-winner
returns-in_err-winner c =
    ap elected_of c.from_residual.ensures
    ∙ sym (ap (λ (w : Option Winner). option_as_found (carried_of (votes_of c.args.counter.now.committed)) w) c.in_err-winner.was)
    ∙ c.compute_winner.ensures.0

-- the winner's place is one of the slice's
within : (xs ys : List SignedVote) (i : ℕ) → xs ≡ ys → i < length (map signed_of ys) → i < length xs
within xs ys i e h = omega (arith, ap length e, length-map ys signed_of)

pub bounds-as_slice-winner : goal.bounds-as_slice-winner
bounds-as_slice-winner c = within _ _ _ c.as_slice.ensures (c.compute_winner.ensures.2 _ c.in_ok-winner.was)

pub offset_bounds-as_slice-winner : goal.offset_bounds-as_slice-winner
offset_bounds-as_slice-winner c =
    let l : c.in_ok-winner.winner.place < length c.as_slice.result.now = within _ _ _ c.as_slice.ensures (c.compute_winner.ensures.2 _ c.in_ok-winner.was) in
    let h : c.in_ok-winner.winner.place * 304 < 18446744073709551616 = omega (arith, l, c.as_slice.type_inv.1) in
    search rules

pub returns : goal.returns
returns c =
    let w = c.in_ok-winner.winner in
    let xs = c.as_slice.result.now in
    let held = c.as_slice.ensures in
    let here : w.place < length (map signed_of xs) = rw held (c.compute_winner.ensures.2 _ c.in_ok-winner.was) in
    let change = sym (ap (λ (v : SignedVoteOf). v.vote.change) (vote_at xs w.place here _)) ∙ ap (λ (ys : List SignedVote). choice_at (map signed_of ys) w.place) held in
    (λ j. found (record { change = change j; voters = ids_of w.voters }))
    ∙ sym (ap (λ (r : Option Winner). option_as_found (carried_of (votes_of c.args.counter.now.committed)) r) c.in_ok-winner.was)
    ∙ c.compute_winner.ensures.0
