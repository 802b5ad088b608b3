-- What listing a tree asks for and what it writes. Definitions only.
use Rattle.std.specs.Prelude.{◌≡◌, List, ℕ, ◌+◌, ◌*◌, ◌≤◌, length}
use Rattle.rules.specs.declared.Extent.{Extent}
use Rattle.rules.specs.Plain.{overwritten}
use Rattle.rules.specs.Tree.{Tree, depth, nodes, Row, flat, chains_of, greatest_level, row_numbers}
use Rattle.rules.specs.Refusal.{most_particles}
use Rattle.tree_slots.specs.Trees.{Trails, Leads, Lays, Below, SlotsLent}
use Rattle.tree_slots.specs.declared.Quadtree.{Quadtree}
use Rattle.tree_rows.specs.declared.Cursor.{Cursor}

-- the number p leads to this chain, and there is room for it behind the first `at` of the chains
pub record ListableChain (next : List ℕ) (p chains at : ℕ) (is : List ℕ) : Type 0 where
  pub trails : Trails next p is
  pub below : Below (length next) is
  pub room : at + length is ≤ chains

-- it is a leaf's, and there is room for the leaf's row too
pub record ListableLeaf (next : List ℕ) (p rows chains : ℕ) (at : Cursor) (is : List ℕ) : Type 0 where
  pub chain : ListableChain next p chains at.chained is
  pub room : (at.nodes + 1) * row_numbers ≤ rows
  pub few : chains ≤ most_particles

-- the number p leads to this tree, its root at this level, in slots and of particles that are there
pub record StandsAt (m next : List ℕ) (p level : ℕ) (t : Tree ℕ) : Type 0 where
  pub leads : Leads m next p t
  pub levels : depth t + level ≤ greatest_level + 1
  pub slots : SlotsLent m t
  pub below : Below (length next) (chains_of t)

-- and there is room for its rows and chains
pub record Listable (m next : List ℕ) (p level rows chains : ℕ) (at : Cursor) (t : Tree ℕ) : Type 0 where
  pub stands : StandsAt m next p level t
  pub room : (at.nodes + nodes t) * row_numbers ≤ rows
  pub space : at.chained + length (chains_of t) ≤ chains
  pub few : (length next ≤ most_particles) × (chains ≤ most_particles)

-- these rows and particles stand behind what was listed, and nothing else has changed
pub record RowsWritten (rows chains : List ℕ) (at : Cursor) (rs : List Row) (is : List ℕ) (rows' chains' : List ℕ) (r : Cursor) : Type 0 where
  pub listed : rows' ≡ overwritten rows (at.nodes * row_numbers) (flat rs)
  pub chained : chains' ≡ overwritten chains at.chained is
  pub nodes : r.nodes ≡ at.nodes + length rs
  pub reach : r.chained ≡ at.chained + length is

-- the slots hold the tree t, whose particles have links, and there is room for its rows and chains
pub record Whole (t : Tree Extent) (m next : List ℕ) (q : Quadtree) (rows chains : ℕ) : Type 0 where
  pub stands : Lays t m next q
  pub below : Below (length next) (chains_of t)
  pub space : length (chains_of t) ≤ chains
  pub few : (length next ≤ most_particles) × (chains ≤ most_particles)
  pub room : q.nodes * row_numbers ≤ rows
