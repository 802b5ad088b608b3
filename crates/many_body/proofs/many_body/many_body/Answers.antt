-- What the force answers where the tree is refused, and where it stands.
use Rattle.std.proofs.Common.{◌/◌, length, refl, ap, ◌∙◌}
use Rattle.std.proofs.lemmas.Result.{err_from_is_err_and}
use Rattle.rules.specs.Calls.{slots_of, slot_words}
use Rattle.force.specs.Ran.{flow_at}
use Rattle.tree_build.proofs.Told.{told_refused, told-fine}
use Rattle.many_body.proofs.ManyBodyRun.{refused_runs, stands_runs}
use Rattle.many_body.proofs.many_body.many_body.Goals as goal

pub returns-in_err-q-clause-runs : goal.returns-in_err-q-clause-runs
returns-in_err-q-clause-runs c =
    let a = c.args in
    let l = c.requires.at_len in
    let e = err_from_is_err_and c.from_residual.result c.from_residual.ensures.1 in
    rw (e.1, e.2)
    (refused_runs a.t a.at.now a.strengths.now a.p.alpha (slots_of a.m.now) (flow_at a.vs.now a.draws.now a.p) a.vs.now a.draws.now a.p _
    (told_refused a.at.now (length a.strengths.now) c.build.new.m c.build.new.next (slots_of a.m.now) _ l.0 (ap (λ n. n / slot_words) c.build.auto.m) c.in_err-q.ensures refl))

pub returns-clause-runs : goal.returns-clause-runs
returns-clause-runs c =
    let a = c.args in
    let l = c.requires.at_len in
    let r = c.many_body_on.ensures.runs in
    record {
      is = r.is
          ∙ stands_runs a.t a.at.now a.strengths.now a.p.alpha (slots_of a.m.now) (flow_at a.vs.now a.draws.now a.p)
          (told-fine a.at.now (length a.strengths.now) c.build.new.m c.build.new.next (slots_of a.m.now) _ l.0 (ap (λ n. n / slot_words) c.build.auto.m) c.in_ok-q.ensures refl);
      onward = r.onward;
      late = r.late;
    }
