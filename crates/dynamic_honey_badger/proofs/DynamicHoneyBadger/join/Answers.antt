use mathlib.Core.Path.{sym, ap, ◌∙◌}
use Rattle.bincode.specs.Sizes.{base}
use Rattle.filled.specs.Numbers.{part_in}
use Rattle.pub_key_map.specs.PubKeyMap.{nodes_of}
use Rattle.dynamic_honey_badger.specs.State.{state_of, joining}
use Rattle.dynamic_honey_badger.proofs.StateLaws.{key_gen_begun, join_map, join_other, no_map, part_told}
use Rattle.dynamic_honey_badger.proofs.DynamicHoneyBadger.join.Goals as goal

pub returns-in_err-map : goal.returns-in_err-map
returns-in_err-map c =
    let a = c.args in
    let d = a.self.now in
    let v = d.vote_counter in
    ap (joining (state_of d)) c.from_residual.ensures ∙ sym (join_other base v.our_id v.era (state_of d) a.change (no_map a.change (sym c.map_in_progress.ensures ∙ c.in_err-map.was)))

pub returns : goal.returns
returns c =
    let a = c.args in
    let d = a.self.now in
    let v = d.vote_counter in
    let m = c.in_ok-map.map in
    let state = key_gen_begun d m _ c.new-2.result c.new.ensures c.new-2.ensures in
    let due = ap part_in c.then_some.ensures ∙ part_told (nodes_of m) v.our_id v.era _ c.is_member.ensures in
    (λ i. record { state = state i; due = due i }) ∙ sym (join_map base v.our_id v.era (state_of d) a.change m (sym c.map_in_progress.ensures ∙ c.in_ok-map.was))
