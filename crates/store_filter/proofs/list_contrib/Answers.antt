use Prim.Native.Nat.{ℕ, ◌-◌}
use mathlib.Core.Path.{◌≡◌, sym, ap, ◌∙◌}
use native.Mathlib.Omega.{arith}
use Rattle.bincode.specs.Sizes.{base}
use Rattle.bincode.specs.Items.{foldl}
use Rattle.bincode.proofs.ReadLaws.{answer_ok, answer_err}
use Rattle.key_gen_message.specs.declared.MessageHead.{MessageHead}
use Rattle.key_gen_message.specs.KeyGenMessage.{read_signed_key_gen_msg}
use Rattle.key_gen_message.specs.Head.{head_of}
use Rattle.store_filter.specs.Filter.{Entry, entries_from, listed}
use Rattle.store_filter.proofs.FilterLaws.{list_push, entries_more, entries_refused, entries_end, entries_start}
use Rattle.store_filter.proofs.list_contrib.Goals as goal

pub loop-init : goal.loop-init
loop-init c =
    let a = c.args in
    let n = a.e.now.messages.count in
    let z : n - 0 ≡ n = omega arith in
    let f = c.first_item-c in
    let start = entries_start a.s.now n a.e.now.messages.at f.result (f.ensures.0, f.ensures.1) in
    λ es h. (es, h, ap (λ (k : ℕ). foldl listed es (entries_from a.s.now k f.result)) z ∙ ap (foldl listed es) start)

pub returns-in_default : goal.returns-in_default
returns-in_default c =
    let a = c.args in
    let l = c.loop in
    let r = answer_err head_of (read_signed_key_gen_msg base a.s.now l.c) _ (sym c.read_head.ensures ∙ c.in_default.is) in
    let none = entries_refused a.s.now a.e.now.messages.count l.counter l.c c.loop-test.true r.0 r.1 in
    λ es h. let w = l.invariant es h in rw (sym (ap (foldl listed w.0) (sym none) ∙ w.2)) w.1

pub loop-preserved : goal.loop-preserved
loop-preserved c =
    let a = c.args in
    let l = c.loop in
    let read = answer_ok head_of (read_signed_key_gen_msg base a.s.now l.c) c.in-Ok.h c.in-Ok.next (sym c.read_head.ensures ∙ c.in-Ok.is) in
    let e : Entry = record { message = read.0; at = l.c } in
    λ es h.
    let w = l.invariant es h in (
      listed w.0 e,
      rw c.push.ensures.0 (list_push a.s.now w.0 _ w.1 e (_, read.1) _ (ap (λ (y : MessageHead). record { id = y.id; first = y.first; at = l.c }) read.2)),
      sym (ap (foldl listed w.0) (entries_more a.s.now a.e.now.messages.count l.counter l.c c.loop-test.true read.0 _ read.1)) ∙ w.2,
    )

pub returns : goal.returns
returns c =
    let a = c.args in
    let l = c.loop in
    let none = entries_end a.s.now a.e.now.messages.count l.counter l.c (omega arith) in
    λ es h. let w = l.invariant es h in rw (sym (ap (foldl listed w.0) (sym none) ∙ w.2)) w.1
