use mathlib.Core.Path.{sym, ◌∙◌}
use lib.Dec.{lit<}
use Rattle.bincode.specs.Causes.{Short}
use Rattle.bincode.specs.Numbers.{fixed}
use Rattle.bincode.specs.Sizes.{base}
use Rattle.bincode.proofs.CauseLaws.{fixed_causes, whole_causes}
use Rattle.bincode.proofs.CodeLaws.{fixed_codes}
use Rattle.bincode.proofs.ReadLaws.{answer_ok}
use Rattle.pub_key_map.specs.PubKeyMap.{map_held}
use Rattle.pub_key_map.proofs.MapCauses.{map_causes}
use Rattle.pub_key_map.proofs.MapCodes.{map_codes}
use Rattle.params.specs.declared.Params.{Params}
use Rattle.params.proofs.ParamsCauses.{params_causes}
use Rattle.params.proofs.ParamsCodes.{params_codes}
use Rattle.joining.specs.Starting.{start_of}
use Rattle.joining.proofs.RowLaws.{exit_said}
use Rattle.joining.proofs.StartLaws.{start_map_refused, start_params_refused, start_done}
use Rattle.joining.proofs.check_starting.Goals as goal

pub returns-in_err-pub_keys : goal.returns-in_err-pub_keys
returns-in_err-pub_keys c =
    let s = c.args.map.now in
    let causes = whole_causes (map_codes fixed s (fixed_codes s) base (lit< tt)) (map_causes fixed Short s (fixed_codes s) (fixed_causes s) base) in
    let p = exit_said s _ causes (λ i. (c.type_inv.map i).fits) map_held _ c.read_whole.ensures start_of _ c.in_err-pub_keys.was _ c.from_residual.ensures.1 in
    p.2 ∙ sym (start_map_refused base _ s _ _ p.1)

pub returns-in_err-read : goal.returns-in_err-read
returns-in_err-read c =
    let s = c.args.map.now in
    let b = c.args.params.now in
    let m = answer_ok map_held _ _ _ (sym c.read_whole.ensures ∙ c.in_ok-pub_keys.was) in
    let causes = whole_causes (params_codes fixed b (fixed_codes b)) (params_causes fixed Short b (fixed_codes b) (fixed_causes b)) in
    let p = exit_said b _ causes (λ i. (c.type_inv.params i).fits) (λ (x : Params). x) _ c.read_whole-2.ensures start_of _ c.in_err-read.was _
    c.from_residual-in_err-read.ensures.1 in
    p.2 ∙ sym (start_params_refused base _ s b m.0 _ m.1 _ p.1)

pub returns : goal.returns
returns c =
    let a = c.args in
    let map_read = sym c.read_whole.ensures ∙ c.in_ok-pub_keys.was in
    let params_read = sym c.read_whole-2.ensures ∙ c.in_ok-read.was in
    sym (start_done a.secret_key a.map.now a.params.now _ _ _ _ map_read params_read c.if-secret_key-eq0.false (λ e. c.if-len-eq0.false (c.len.ensures.0 ∙ e)))
