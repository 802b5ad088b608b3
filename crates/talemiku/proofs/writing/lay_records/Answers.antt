-- Particles are laid into the sheet, record after record.
use mathlib.Core.Path.{◌≡◌, ap, ◌∙◌}
use Prim.Native.Nat.{ℕ}
use native.Mathlib.Omega.{arith}
use lib.ListN.{length}
use Rattle.rules.specs.Sheet.{record_size}
use Rattle.talemiku.proofs.Laid.{lay_to, record_of, sheet-laid}
use Rattle.talemiku.proofs.writing.lay_records.Goals as goal

pub returns : goal.returns
returns c =
    let ps = c.args.particles.now in
    let s = c.args.sheet.now in
    let all : c.loop-i.i ≡ length ps = omega arith in
    c.loop-i.invariant ∙ ap (λ (i : ℕ). lay_to record_size (record_of ps) i s) all ∙ sheet-laid ps s c.requires
