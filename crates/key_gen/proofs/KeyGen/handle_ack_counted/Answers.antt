use native.Mathlib.Omega.{arith}
use mathlib.Core.Path.{refl, sym, ap, ◌∙◌}
use Prim.Native.Nat.{ℕ}
use borrow.Author.Tests.{eq-eqb, ne_eqb}
use Rattle.lists.specs.Lists.{lookup}
use Rattle.pub_key_map.specs.PubKeyMap.{nodes_of}
use Rattle.network_info.proofs.IndexLaws.{index_found}
use Rattle.key_gen.specs.KeyGen.{by_proposer, key_gen_of, handle_ack, ack_of_index}
use Rattle.key_gen.proofs.KeyGen.handle_ack_counted.Goals as goal

pub returns-in-None : goal.returns-in-None
unfolding handle_ack
returns-in-None c = λ a e n. rw (sym c.in-None.ensures) refl

pub ack_of_index-requires : goal.ack_of_index-requires
ack_of_index-requires c = omega (arith, (index_found (nodes_of c.args.self.now.pub_keys) 0 c.in-Some.j c.args.signer (sym c.in-Some.ensures)).1, c.len.ensures)

pub returns-in-Some : goal.returns-in-Some
unfolding handle_ack
returns-in-Some c =
    let g = key_gen_of c.args.self.now in
    λ a e n.
    c.ack_of_index.ensures ∙ ap (λ (x : ℕ). ack_of_index g c.in-Some.j c.args.verdict (lookup by_proposer g.parts x)) (sym e)
    ∙ sym (rw (sym c.in-Some.ensures, eq-eqb _ _ (n ∙ c.if-complete.true ∙ c.len.ensures.0)) refl)

pub returns-in-Some-2 : goal.returns-in-Some-2
unfolding handle_ack
returns-in-Some-2 c = λ a e n. rw (sym c.in-Some.ensures, ne_eqb _ _ (λ q. c.if-complete.false (sym n ∙ q ∙ sym c.len.ensures.0))) refl
