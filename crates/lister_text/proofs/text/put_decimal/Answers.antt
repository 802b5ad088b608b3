-- `put_decimal` puts the digits that the io library spells.
use Rattle.std.proofs.Common.{◌≡◌, ◌∙◌, take}
use Rattle.rules.specs.Listing.{decimal}
use Rattle.lister_text.proofs.Decimal.{spelt}
use Rattle.lister_text.proofs.text.put_decimal.Goals as goal

pub put_text-requires : goal.put_text-requires
put_text-requires c =
    let digits : take c.decimal-size.result c.decimal-size.new.out ≡ decimal c.args.n = c.decimal-size.ensures.digits ∙ spelt c.args.n c.decimal-size.result c.requires.0 c.decimal-size.ensures.len in
    rw digits c.requires.1

pub returns : goal.returns
returns c =
    let digits : take c.decimal-size.result c.decimal-size.new.out ≡ decimal c.args.n = c.decimal-size.ensures.digits ∙ spelt c.args.n c.decimal-size.result c.requires.0 c.decimal-size.ensures.len in
    rw (← digits) c.put_text.ensures
