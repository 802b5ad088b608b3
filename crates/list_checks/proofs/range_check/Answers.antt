-- `range_check`: the first number that fails the test comes after as many as pass before it.
use Rattle.std.proofs.Common.{rules, tests, ◌≡◌, true, false, ℕ, length, nat_eq, refl, ap, sym, arith, ◌∙◌}
use Rattle.std.proofs.lemmas.Iterator.{YieldsList-from_slice, IsFirst-from_position, index_from_first}
use Rattle.std.specs.List.{prefix_len}
use Rattle.rules.specs.Outcome.{require, result_of}
use Rattle.list_checks.proofs.Scans.{prefix_decides}
use Rattle.list_checks.proofs.range_check.Goals as goal

pub returns : goal.returns
returns g c = λ ok fits.
    let l = c.args.l.now in
    let at = IsFirst-from_position _ _ _ (λ x. ok x ≡ false) (λ x. ok x ≡ true) c.position.ensures.ran (YieldsList-from_slice l c.iter.ensures.rest) (λ x q k. search (rules, tests)) (λ x q k. search (rules, tests)) in
    let first : c.unwrap_or-first.result ≡ prefix_len ok l = c.unwrap_or-first.ensures ∙ sym (index_from_first (prefix_len ok) (λ x. ok x ≡ false) (λ x. ok x ≡ true) refl (λ x xs h. rw h) (λ x xs h. rw h (omega arith)) l c.position.result at) in
    c.require.ensures ∙ ap (λ (n : ℕ). result_of (require (nat_eq n (length l)) 5 n)) first ∙ ap result_of (sym (prefix_decides ok 5 l))
