use mathlib.Core.Path.{sym, ◌∙◌, subst}
use mathlib.Core.List.{List, []}
use Rattle.array_list.specs.declared.ArrayList.{ArrayList}
use Rattle.array_list.specs.ArrayList.{items_in}
use Rattle.internal_contrib.specs.Index.{contribs_in}
use Rattle.message_store.specs.MessageStore.{store_of}
use Rattle.store_filter.specs.declared.MessagePlace.{MessagePlace}
use Rattle.store_filter.specs.Filter.{entries_in, Listed}
use Rattle.store_filter.proofs.FilterLaws.{none_listed, none_stored, none_yet, as_many}
use Rattle.store_filter.proofs.without_batch.Goals as goal

pub returns-then-len-eq0 : goal.returns-then-len-eq0
returns-then-len-eq0 c = none_stored _ (store_of c.args.store) (sym c.len.ensures.0 ∙ c.if-len-eq0.true)

pub returns-then-len-eq0-2 : goal.returns-then-len-eq0-2
unfolding entries_in
returns-then-len-eq0-2 c =
    let s = c.args.s.now in
    let all = c.list_batch.ensures [] (subst (λ (l : ArrayList MessagePlace 1024). Listed s [] (items_in l)) (sym c.empty-places.ensures) (none_yet s)) in
    none_listed _ (as_many s _ _ all ∙ sym c.len-2.ensures.0 ∙ c.if-len-eq0-2.true) (store_of c.args.store)

pub returns : goal.returns
unfolding entries_in
returns c =
    let s = c.args.s.now in
    let all = c.list_batch.ensures [] (subst (λ (l : ArrayList MessagePlace 1024). Listed s [] (items_in l)) (sym c.empty-places.ensures) (none_yet s)) in
    let es = entries_in s (contribs_in c.args.index) in
    c.keep_others.ensures es (subst (λ (ps : List MessagePlace). Listed s es ps) (sym c.as_slice.ensures) all)
