use native.Mathlib.Omega.{arith}
use mathlib.Core.Path.{◌≡◌, sym, ap, ◌∙◌}
use Rattle.lists.specs.Lists.{below}
use Rattle.lists.proofs.SortedLaws.{NewAt, new_last, new_between, held_same}
use Rattle.array_list.proofs.PushLaws.{put_new}
use Rattle.array_list.specs.ArrayList.{items_in}
use Rattle.array_list.proofs.ArrayList.insert.Goals as goal
use Rattle.array_list.proofs.ArrayList.insert.Goals.{else-at-n-via-then-at-n+else-key, else-at-n-via-else-at-n}

pub returns-then-key : goal.returns-then-key
returns-then-key g c =
    let l = c.args.self.now in
    let e : c.place-at.result ≡ below g.T.Keyed.key_of (g.T.Keyed.key_of c.args.x) (items_in l) = c.place-at.ensures.0 ∙ ap (λ k. below g.T.Keyed.key_of k (items_in l)) c.key.ensures in
    held_same g.T.Keyed.key_of c.args.x l.items l.count c.place-at.result e c.index-self-at.result (omega (arith, c.if-at-n.true, c.len-n.ensures.0))
    (sym c.key-then-at-n.ensures ∙ c.if-key.true ∙ c.key-then-at-n-2.ensures) g.row.N

pub returns-else-at-n : goal.returns-else-at-n
returns-else-at-n g c =
    let l = c.args.self.now in
    let e : c.place-at.result ≡ below g.T.Keyed.key_of (g.T.Keyed.key_of c.args.x) (items_in l) = c.place-at.ensures.0 ∙ ap (λ k. below g.T.Keyed.key_of k (items_in l)) c.key.ensures in
    let n : NewAt g.T.Keyed.key_of c.args.x (items_in l) c.place-at.result =
    elim c.else-at-n.branch [
      | else-at-n-via-then-at-n+else-key w ↦
          new_between g.T.Keyed.key_of c.args.x l.items l.count c.place-at.result e w.index-self-at.result (omega (arith, w.if-at-n.true, c.len-n.ensures.0))
          (λ k. w.if-key.false (w.key-then-at-n.ensures ∙ k ∙ sym w.key-then-at-n-2.ensures))
      | else-at-n-via-else-at-n w ↦ new_last g.T.Keyed.key_of c.args.x l.items l.count c.place-at.result e (omega (arith, w.if-at-n.false, c.len-n.ensures.0))
    ] in
    c.insert_at.ensures ∙ put_new g.T.Keyed.key_of c.args.x l.items l.count c.place-at.result g.row.N n c.place-at.ensures.1
