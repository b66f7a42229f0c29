use Rattle.std.proofs.Common.{rules}
use mathlib.Core.Path.{◌≡◌, ◌∙◌}
use mathlib.Core.Bool.{false}
use lib.Dec.{leb}
use Rattle.std.specs.Option.{option_map, unwrap_or}
use Rattle.commit.specs.declared.tally.Entry.{Entry}
use Rattle.commit.specs.Tally.{entries_of}
use Rattle.commit.proofs.TurnLaws.{outdated_by}
use Rattle.commit.proofs.tally.Tally.is_obsolete.Goals as goal

pub returns : goal.returns
returns c =
    let a = c.args in
    let e : c.is_some_and.result ≡ unwrap_or (option_map (λ (x : Entry). leb a.num x.num) c.get.result) false = search rules in
    e ∙ outdated_by (entries_of a.self.now) a.voter a.num c.get.result c.get.ensures
