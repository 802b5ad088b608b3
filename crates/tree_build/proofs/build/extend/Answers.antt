-- `extend` answers the extent with p, as the rules cover it.
use Rattle.std.proofs.Common.{sym, ap₂, ◌∙◌, subst₂, Float}
use Rattle.rules.specs.Floor.{floor}
use Rattle.rules.specs.Cover.{cover_point, nothing, extent_of}
use Rattle.tree_cells.specs.Cover.{Near, CoveredTo}
use Rattle.tree_build.proofs.AddBuild.{first_extends, extend-near, next-extends}
use Rattle.tree_build.proofs.build.extend.Goals as goal

pub returns-then-p-eq0 : goal.returns-then-p-eq0
returns-then-p-eq0 c =
    first_extends c.args.at.now c.args.q c.args.p _ c.requires c.if-p-eq0.true
    (c.first.ensures ∙ ap₂ (λ (x y : Float). extent_of (cover_point nothing (floor x) (floor y))) c.x_at-x.ensures c.y_at-y.ensures)

pub cover-requires : goal.cover-requires
cover-requires c =
    subst₂ (λ (x y : Float). Near c.args.q.extent x y) (sym c.x_at-x.ensures) (sym c.y_at-y.ensures) (extend-near c.args.at.now c.args.q c.args.p c.requires c.if-p-eq0.false)

pub returns : goal.returns
returns c =
    next-extends c.args.at.now c.args.q c.args.p c.requires c.if-p-eq0.false c.cover.result
    (subst₂ (λ (x y : Float). CoveredTo c.args.q.extent (floor x) (floor y) c.cover.result) c.x_at-x.ensures c.y_at-y.ensures c.cover.ensures)
