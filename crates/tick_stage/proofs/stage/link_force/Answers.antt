-- `link_force` is the rules' stage of a Link with its slot's lists.
use Rattle.std.proofs.Common.{refl, ◌/◌, length}
use Rattle.tick_stage.proofs.EntryLists.{link_fits, link_taken, ends-lent, lists-lent}
use Rattle.tick_stage.proofs.stage.link_force.Goals as goal

pub link_stage-requires : goal.link_stage-requires
link_stage-requires c =
    let a = c.args in
    let h = link_fits (length a.places.now / 2) a.e a.numbers.now a.links.now c.requires.0 c.requires.1 in
    rw (c.split_at.ensures.front, c.split_at.ensures.back) (c.requires.2, ends-lent h, lists-lent h)

pub returns : goal.returns
returns c t flags slots l =
    let a = c.args in
    let h = link_fits (length a.places.now / 2) a.e a.numbers.now a.links.now c.requires.0 c.requires.1 in
    rw (link_taken h a.e (length flags) c.requires.0 refl refl) (rw (c.split_at.ensures.front, c.split_at.ensures.back) at (c.link_stage.ensures t flags slots l))
