-- A leaf's charge is its first particle's place with the strength of its chain.
use Rattle.many_body_charge.proofs.ChargeLaws.{leaf_charge_lem}
use Rattle.many_body_charge.proofs.leaf_charge.Goals as goal

pub returns : goal.returns
returns c = λ h. leaf_charge_lem h _ _ _ (c.chain_strength.ensures h)
