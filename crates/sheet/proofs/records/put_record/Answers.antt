-- `put_record` writes a record, and changes nothing else.
use Rattle.sheet.proofs.Turns.{record_put}
use Rattle.sheet.proofs.records.put_record.Goals as goal

pub returns : goal.returns
returns c =
    record_put c.args.s.now c.put_pair.new.s c.put_pair-2.new.s c.put_word.new.s c.args.at c.args.p c.put_pair.ensures c.put_pair-2.ensures c.put_word.ensures c.requires
