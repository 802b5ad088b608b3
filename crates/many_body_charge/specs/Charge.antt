-- A node's charge as its value words hold it. Definitions only.
use Rattle.std.specs.Prelude.{List, ℕ, length, Float}
use Rattle.rules.specs.ManyBody as Rule
use Rattle.rules.specs.ManyBody.{charge, leaf_charge, node_charge}
use Rattle.tree_slots.specs.declared.Quadtree.{Quadtree}
use Rattle.tree_slots.specs.Trees.{value, put_value}
use Rattle.tree_walk.specs.WalkAfter.{Valued}
use Rattle.many_body_charge.specs.declared.Charge.{Charge}
use Rattle.many_body_charge.specs.declared.Sums.{Sums}

-- ---- the code's structs

abbrev pub charge_of : Charge → Rule.Charge
charge_of q = charge q.x q.y q.strength

abbrev pub sums_of : Sums → Rule.Sums
sums_of s = record { x = s.x; y = s.y; strength = s.strength; weight = s.weight }

-- ---- value words

-- words 0, 1 and 2: x, y and strength
abbrev pub read_charge : List ℕ → ℕ → Rule.Charge
read_charge m s = charge (value m s 0) (value m s 1) (value m s 2)

abbrev pub put_charge : List ℕ → ℕ → Rule.Charge → List ℕ
put_charge m s q = put_value (put_value (put_value m s 0 q.x) s 1 q.y) s 2 q.strength

-- ---- the tree with its charges

-- the slots hold the tree of these places, and at each node the rules' charge
abbrev pub Charged : List Float → List Float → List ℕ → List ℕ → Quadtree → Type 0
Charged at strengths m next q = Valued read_charge (leaf_charge at strengths) node_charge at (length strengths) m next q
