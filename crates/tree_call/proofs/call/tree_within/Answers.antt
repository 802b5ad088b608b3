-- `tree_within` answers the first check that refuses, and otherwise the tree that was built.
use mathlib.Core.Path.{sym, ◌∙◌}
use Rattle.rules.specs.Calls.{input_check, tree_lengths}
use Rattle.rules.proofs.OutcomeLaws.{ok_fine, err_refused}
use Rattle.tree_call.specs.Tree.{lent}
use Rattle.tree_call.proofs.TreeChecks.{stops_at, goes_on, passed}
use Rattle.tree_call.proofs.TreeCalled.{ends_refused}
use Rattle.tree_call.proofs.call.tree_within.Goals as goal

pub returns-in-Err : goal.returns-in-Err
returns-in-Err c =
    let a = c.args in
    let l = lent a.records.now a.rows.now a.chains.now a.work.now in
    let e = err_refused (input_check a.most (tree_lengths l) l.sheet) _ (sym c.input_check.ensures ∙ c.in-Err.is) in
    ends_refused (stops_at a.most l _ e) c.refuse.ensures.0 c.refuse.ensures.1

pub tree_passed-requires : goal.tree_passed-requires
tree_passed-requires c =
    let a = c.args in
    let l = lent a.records.now a.rows.now a.chains.now a.work.now in
    passed a.most l (ok_fine (input_check a.most (tree_lengths l) l.sheet) _ (sym c.input_check.ensures ∙ c.in-Ok.is)) c.requires

pub returns-in-Ok : goal.returns-in-Ok
returns-in-Ok c =
    let a = c.args in
    let l = lent a.records.now a.rows.now a.chains.now a.work.now in
    rw (goes_on a.most l (ok_fine (input_check a.most (tree_lengths l) l.sheet) _ (sym c.input_check.ensures ∙ c.in-Ok.is))) c.tree_passed.ensures
