use Rattle.std.proofs.Common.{rules}
use mathlib.Core.Path.{◌≡◌}
use Prim.Native.Nat.{ℕ}
use lib.ListN.{length, set}
use Rattle.filled.proofs.DueLaws.{acks_alone, acks_and_part}
use Rattle.filled.proofs.DueLists.put.Goals as goal

pub returns-in-Some : goal.returns-in-Some
returns-in-Some c =
    let a = c.args in
    let k = c.put_each.ensures (λ (j : ℕ). 1) (λ x y p. search rules) in
    let i = c.put_each-2.ensures (λ (j : ℕ). j) (λ x y p. search rules) in
    let e = c.put_each-3.ensures (λ (j : ℕ). a.era) (λ x y p. search rules) in
    let kind : c.put.new.list ≡ set c.put_each.new.list (length a.acks.now) 0 = search rules in
    rw c.in-Some.is (acks_and_part _ _ _ _ _ _ a.era a.acks.now k i e c.in-Some.next _ _ _ kind c.put-in-Some.ensures c.put-in-Some-2.ensures)

pub returns-in_default : goal.returns-in_default
returns-in_default c =
    let a = c.args in
    let k = c.put_each.ensures (λ (j : ℕ). 1) (λ x y p. search rules) in
    let i = c.put_each-2.ensures (λ (j : ℕ). j) (λ x y p. search rules) in
    let e = c.put_each-3.ensures (λ (j : ℕ). a.era) (λ x y p. search rules) in
    rw c.in_default.is (acks_alone _ _ _ _ _ _ a.era a.acks.now k i e)
