use Rattle.std.proofs.Common.{rules, tests}
use Rattle.std.proofs.lemmas.Iterator.{YieldsList-from_slice}
use Rattle.std.proofs.lemmas.Iterator.Search.{any_from_yields_List}
use Rattle.bincode.specs.Sizes.{base}
use Rattle.key_gen.specs.KeyGen.{complete_in}
use Rattle.recipe.specs.Places.{share_in, short_in}
use Rattle.recipe.proofs.MapLaws.{mapped}
use Rattle.recipe.proofs.RecipeLaws.{observer_held, missing_held, share_held}
use Rattle.recipe.proofs.Recipe.generate.Goals as goal

pub returns-then-observes : goal.returns-then-observes
returns-then-observes c =
    let complete =
    mapped (complete_in c.num_faulty-t.result) _ _ (λ x y q k. search (rules, tests)) c.args.g.proposals c.map-complete.result base.nodes (search rules) c.map-complete.ensures.items in
    observer_held c.args.g _ c.num_faulty-t.ensures _ _ c.observes.ensures c.if-observes.true complete

pub returns-then-any : goal.returns-then-any
returns-then-any c =
    let complete =
    mapped (complete_in c.num_faulty-t.result) _ _ (λ x y q k. search (rules, tests)) c.args.g.proposals c.map-complete.result base.nodes (search rules) c.map-complete.ensures.items in
    let short =
    any_from_yields_List (short_in c.num_faulty-t.result) _ _ c.any.result c.any.ensures.ran (YieldsList-from_slice c.args.g.proposals cc) (λ x b q k. search (rules, tests)) in
    missing_held c.args.g _ c.num_faulty-t.ensures _ _ c.observes.ensures c.if-observes.false short _ complete c.if-any.true

pub returns : goal.returns
returns c =
    let shares =
    mapped (share_in c.num_faulty-t.result) _ _ (λ x y q k. search (rules, tests)) c.args.g.proposals c.map.result base.nodes (search rules) c.map.ensures.items in
    let short =
    any_from_yields_List (short_in c.num_faulty-t.result) _ _ c.any.result c.any.ensures.ran (YieldsList-from_slice c.args.g.proposals cc) (λ x b q k. search (rules, tests)) in
    share_held c.args.g _ c.num_faulty-t.ensures _ _ c.observes.ensures c.if-observes.false short _ shares c.if-any.false
