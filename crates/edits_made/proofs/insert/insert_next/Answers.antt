-- `insert_next` makes an insertion, or refuses it by 6 or 7.
use Rattle.std.proofs.Common.{refl, rules}
use Rattle.std.proofs.lemmas.Result.{err_from_is_err_and}
use Rattle.tree_placing.proofs.AddPlaced.{was_ok, was_err}
use Rattle.edits_made.proofs.Inserting.{insert_follows, insert-puts, insert-refused, insert-fine, insert-now}
use Rattle.edits_made.proofs.insert.insert_next.Goals as goal

pub add_next-added-requires : goal.add_next-added-requires
add_next-added-requires c =
    (_, insert_follows _ _ _ _ _ _ _ c.requires.1 c.requires.2 c.requires.3, insert-puts _ _ _ _ _ _ _ c.requires.1 c.requires.2 c.requires.3)

pub returns-in_err-more : goal.returns-in_err-more
returns-in_err-more c is x y h =
    let p = err_from_is_err_and c.from_residual.result c.from_residual.ensures.1 in
    let w = was_err _ c.add_next-added.result _ _ c.args.k c.map_err.ensures.cases c.in_err-more.was (λ e z. search rules) in
    let d = rw w.1 at (c.add_next-added.ensures is (insert-puts _ _ _ _ _ _ _ h c.requires.2 c.requires.3)) in
    rw (p.1, p.2, w.2) (insert-refused _ _ _ _ _ _ _ h c.requires.2 c.requires.3 c.args.k x y c.add_next-added.new.m c.add_next-added.auto.m _ d)

pub returns : goal.returns
returns c is x y h =
    let r = was_ok _ c.add_next-added.result _ _ c.map_err.ensures.cases c.in_ok-more.was in
    let d = rw r at (c.add_next-added.ensures is (insert-puts _ _ _ _ _ _ _ h c.requires.2 c.requires.3)) in
    (insert-fine _ _ _ _ _ _ _ h c.requires.2 c.requires.3 c.args.k x y c.add_next-added.new.m c.add_next-added.auto.m d.0, insert-now _ _ _ _ _ _ _ h c.requires.2 c.requires.3 c.args.k x y c.add_next-added.new.m c.add_next-added.auto.m _ _ _ refl _ d)
