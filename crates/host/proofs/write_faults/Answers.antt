use mathlib.Core.Path.{sym, ap, ◌∙◌}
use lib.ListN.{length, set}
use Rattle.std.proofs.lemmas.List.{length_push}
use Rattle.std.proofs.lemmas.Iterator.{YieldsList-from_slice, YieldsList-from_zip}
use Rattle.std.proofs.lemmas.Iterator.Consumers.{YieldsList-from_enumerate, YieldsList-turn, YieldsList-end}
use Rattle.host.proofs.RecordLaws.{filled_to, filled_start, filled_turn, filled_all}
use Rattle.host.proofs.write_faults.Goals as goal

pub loop-i-init : goal.loop-i-init
loop-i-init c = filled_start c.args.ids.now c.args.kinds.now c.args.list.now

-- a turn appends one record more
pub loop-i-preserved : goal.loop-i-preserved
loop-i-preserved c =
    let a = c.args in
    let l = c.loop-i in
    let x = c.in-Some in
    let t = YieldsList-turn (YieldsList-from_enumerate (YieldsList-from_zip (YieldsList-from_slice a.ids.now cc) (YieldsList-from_slice a.kinds.now cc)) cc)
    l.yielded l.i-iterator l.yielded_by c.next.result c.next.new.self (x.i, (x.field-0-1-0, x.field-0-1-1)) x.is c.next.ensures.steps in
    c.append.ensures ∙ (λ j. set (l.invariant j) x.i (record { node_id = x.field-0-1-0.now; kind = x.field-0-1-1.now }))
    ∙ filled_turn a.ids.now a.kinds.now a.list.now (length l.yielded) (x.i, (x.field-0-1-0.now, x.field-0-1-1.now)) t
    ∙ ap (filled_to a.ids.now a.kinds.now a.list.now) (sym (length_push l.yielded _))

pub returns : goal.returns
returns c =
    let a = c.args in
    let l = c.loop-i in
    let e = YieldsList-end (YieldsList-from_enumerate (YieldsList-from_zip (YieldsList-from_slice a.ids.now cc) (YieldsList-from_slice a.kinds.now cc)) cc)
    l.yielded l.i-iterator l.yielded_by c.next.result c.next.new.self c.in-None.is c.next.ensures.steps in
    l.invariant ∙ filled_all a.ids.now a.kinds.now a.list.now (length l.yielded) e.1
