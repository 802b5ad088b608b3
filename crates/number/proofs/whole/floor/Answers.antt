-- `floor` answers the rules' floor of a number that is in range: its cast, or one less.
use Rattle.number.proofs.Cut.{asked, sub-fits, floor-less, floor-same}
use Rattle.number.proofs.whole.floor.Goals as goal

pub truncating_f64_to_i64-cut-requires : goal.truncating_f64_to_i64-cut-requires
truncating_f64_to_i64-cut-requires c = let a = asked c.args.x c.requires in record { lower_bound = a.0; upper_bound = a.1 }

pub overflow_sub-result : goal.overflow_sub-result
overflow_sub-result c = sub-fits c.args.x c.truncating_f64_to_i64-cut.result c.requires c.truncating_f64_to_i64-cut.ensures

pub returns-then-x-nearest_i64_to_f64 : goal.returns-then-x-nearest_i64_to_f64
returns-then-x-nearest_i64_to_f64 c =
    floor-less c.args.x c.truncating_f64_to_i64-cut.result c.requires c.truncating_f64_to_i64-cut.ensures c.nearest_i64_to_f64.result c.nearest_i64_to_f64.ensures c.if-x-nearest_i64_to_f64.true

pub returns : goal.returns
returns c =
    floor-same c.args.x c.truncating_f64_to_i64-cut.result c.requires c.truncating_f64_to_i64-cut.ensures c.nearest_i64_to_f64.result c.nearest_i64_to_f64.ensures c.if-x-nearest_i64_to_f64.false
