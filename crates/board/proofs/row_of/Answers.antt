use mathlib.Core.Path.{sym, ◌∙◌}
use native.Mathlib.Omega.{arith}
use Rattle.std.proofs.lemmas.List.{length_push}
use Rattle.std.proofs.lemmas.Iterator.{YieldsList-from_slice}
use Rattle.std.proofs.lemmas.Iterator.Adapters.{YieldsList-from_skip}
use Rattle.std.proofs.lemmas.Iterator.Consumers.{YieldsList-from_enumerate, YieldsList-turn, YieldsList-end}
use Prim.Native.Nat.{◌+◌}
use Rattle.board.proofs.BoardTurns.{going_start, going_yes, going_no, going_end}
use Rattle.board.proofs.row_of.Goals as goal

pub loop-j-init : goal.loop-j-init
loop-j-init c = going_start c.args.votes.now c.args.place c.args.seen.now _

pub loop-j-preserved-then-is_for : goal.loop-j-preserved-then-is_for
loop-j-preserved-then-is_for c =
    let a = c.args in
    let l = c.loop-j in
    let x = c.in-Some in
    let t = YieldsList-turn (YieldsList-from_skip (a.place + 1) (YieldsList-from_enumerate (YieldsList-from_slice a.votes.now cc) cc) cc)
    l.yielded l.j-iterator l.yielded_by c.next.result c.next.new.self (x.j, x.x) x.is c.next.ensures.steps in
    going_yes a.votes.now a.place a.seen.now _ x.j x.x.now t _ l.seen l.voter l.count _ (length_push l.yielded _) l.invariant
    (omega (arith, c.told-seen, c.requires.1)) (sym c.is_for.ensures ∙ c.if-is_for.true) _ c.min-voter.ensures

pub loop-j-preserved : goal.loop-j-preserved
loop-j-preserved c =
    let a = c.args in
    let l = c.loop-j in
    let x = c.in-Some in
    let t = YieldsList-turn (YieldsList-from_skip (a.place + 1) (YieldsList-from_enumerate (YieldsList-from_slice a.votes.now cc) cc) cc)
    l.yielded l.j-iterator l.yielded_by c.next.result c.next.new.self (x.j, x.x) x.is c.next.ensures.steps in
    going_no a.votes.now a.place a.seen.now _ x.j x.x.now t _ l.seen l.voter l.count _ (length_push l.yielded _) l.invariant (sym c.is_for.ensures ∙ c.if-is_for.false)

pub returns : goal.returns
returns c =
    let a = c.args in
    let l = c.loop-j in
    let e = YieldsList-end (YieldsList-from_skip (a.place + 1) (YieldsList-from_enumerate (YieldsList-from_slice a.votes.now cc) cc) cc)
    l.yielded l.j-iterator l.yielded_by c.next.result c.next.new.self c.in-None.is c.next.ensures.steps in
    going_end a.votes.now a.place a.seen.now _ e.1 c.requires.0 l.seen l.voter l.count l.invariant
