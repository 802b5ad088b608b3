-- `center_stage` is the rules' stage of Center.
use Rattle.std.proofs.Common.{◌∙◌, arith}
use Rattle.tick_columns.proofs.Staged.{centered-stages}
use Rattle.tick_stage.proofs.stage.center_stage.Goals as goal

pub returns : goal.returns
returns c t flags slots ds d l =
    let a = c.args in
    let m = c.center_all in
    centered-stages a.places.now m.new.places a.speeds.now ds flags a.x a.y a.strength t slots a.p _ c.ranged.result
    l (c.requires.2 ∙ l) m.auto.places d (omega arith) m.ensures c.ranged.ensures
