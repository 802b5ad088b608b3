-- `put_refused` puts the line of a refusal.
use Rattle.std.proofs.Common.{[], ◌∷◌, ◌+◌, ◌≤◌, length, arith}
use Rattle.rules.specs.Listing.{ascii, decimal, line}
use Rattle.lister_text.proofs.Writing.{left-all, left-next, left-last}
use Rattle.lister_text.proofs.Sizes.{refused_length}
use Rattle.lister_text.proofs.lines.put_refused.Goals as goal

pub returns : goal.returns
returns c =
    let room : c.args.at + length (line (ascii "refused" ∷ decimal c.args.number ∷ [])) ≤ length c.args.out.now = omega (arith, c.requires.1, refused_length c.args.number) in
    left-last ((left-next (32 ∷ decimal c.args.number) _ ((left-next (ascii "refused") _ (left-all _ _ _ room)).after c.put_text-next.ensures)).after c.put_number-next.ensures) c.put_byte.ensures
