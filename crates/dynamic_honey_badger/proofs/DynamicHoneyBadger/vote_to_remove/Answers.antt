use mathlib.Core.Path.{refl, ◌∙◌}
use Rattle.dynamic_honey_badger.specs.State.{state_of}
use Rattle.dynamic_honey_badger.proofs.PartsLaws.{vote_kept}
use Rattle.dynamic_honey_badger.proofs.DynamicHoneyBadger.vote_to_remove.Goals as goal

pub returns : goal.returns
returns c =
    let d = c.args.self in
    let r = c.cast-outcome in
    (r.ensures.0 (state_of d) refl ∙ c.wanted_without-wanted.ensures (state_of d) refl refl, vote_kept d _ _ r.ensures.1)
