-- `list_sheet` writes the listing of an input, kept or not.
use Rattle.lister_text.proofs.Inputs.{bad_input, many-input, kept-input, refused_by}
use Rattle.lister_text.proofs.input.list_sheet.Goals as goal

pub returns-then-total-ne0-clause-by_index : goal.returns-then-total-ne0-clause-by_index
returns-then-total-ne0-clause-by_index c = λ sheet n k. rw (bad_input sheet n c.if-total-ne0.true) (refused_by c.from.ensures c.put_refused.ensures)

pub returns-then-total-gt-MOST_LISTED-clause-by_index : goal.returns-then-total-gt-MOST_LISTED-clause-by_index
returns-then-total-gt-MOST_LISTED-clause-by_index c = λ sheet n k. rw (many-input sheet n c.if-total-ne0.false c.if-total-gt-MOST_LISTED.true) (refused_by c.from-then-total-gt-MOST_LISTED.ensures c.put_refused-then-total-gt-MOST_LISTED.ensures)

pub returns-clause-by_index : goal.returns-clause-by_index
returns-clause-by_index c = λ sheet n k. rw (kept-input sheet n c.if-total-ne0.false c.if-total-gt-MOST_LISTED.false _ k) c.list_records.ensures
