-- A walk parent first by what waits, over the rules' walk: what holds at every turn, and what each kind of turn does to that. Said once for every walk. Assumes nothing.
use mathlib.Core.Path.{◌≡◌, refl, sym, ap, ◌∙◌}
use mathlib.Core.List.{List, [], ◌∷◌}
use Prim.Native.Nat.{ℕ, zero, suc, ◌+◌, ◌*◌, ◌-◌, ◌≤◌, ◌<◌, max}
use native.Mathlib.Numerals.{add-one}
use native.Mathlib.Omega.{arith}
use lib.Dec.{eqb}
use lib.ListN.{length}
use borrow.Author.Tests.{ne_eqb}
use Rattle.rules.specs.declared.Extent.{Extent}
use Rattle.rules.specs.declared.Refusal.{Refusal}
use Rattle.rules.specs.declared.Visit.{Visit}
use Rattle.rules.specs.declared.Visit.TheVariants.{Continue, Skip}
use Rattle.rules.specs.Plain.{branch}
use Rattle.rules.specs.Outcome.{Outcome, done, refused, ◌>>=◌}
use Rattle.rules.specs.Cell.{quarter}
use Rattle.rules.specs.Tree.{Tree, none, leaf, node, nodes, depth}
use Rattle.rules.specs.Walk.{Entry, internal, tip, Counted, counted, After, after, walk}
use Rattle.rules.proofs.OutcomeLaws.{bind_cong, bind_assoc}
use Rattle.tree_slots.specs.Trees.{word, kid, LeafIn, InternalIn, Follows, Leads, ChainFrom, InSlots, SlotsLent}
use Rattle.tree_walk.specs.Walk.{Waiting, most_waiting, lay, lay_kids, seen, EachChain}

-- ---- what follows what was done

bind_four : {A : Type 0} (o : Outcome A) (f g h k : A → Outcome A) → (o >>= f >>= g >>= h >>= k) ≡ (o >>= λ a. f a >>= λ a. g a >>= λ a. h a >>= k)
bind_four (refused r) f g h k = refl
bind_four (done a) f g h k = bind_assoc (f a >>= g) h k ∙ bind_assoc (f a) g (λ a. h a >>= k)

-- ---- what is seen

pub nodes-seen : {A : Type 0} (look : ℕ → Extent → A) (c : Extent) (t : Tree ℕ) → nodes (seen look c t) ≡ nodes t
nodes-seen look c none = refl
nodes-seen look c (leaf s is) = refl
nodes-seen look c (node s t0 t1 t2 t3) =
    rw (nodes-seen look (quarter 0 c) t0, nodes-seen look (quarter 1 c) t1, nodes-seen look (quarter 2 c) t2, nodes-seen look (quarter 3 c) t3)

-- the nodes of several trees
abbrev pub nodes_all : List (Tree ℕ) → ℕ
nodes_all [] = 0
nodes_all (t ∷ ts) = nodes t + nodes_all ts

module _ (P : List ℕ → Type 0) (m next : List ℕ) where
  -- a number leads to a tree all of whose slots are lent, and whose chains are good
  abbrev pub Walkable : ℕ → Tree ℕ → Type 0
  Walkable p t = Leads m next p t × SlotsLent m t × EachChain P t

  -- What waits, top first, stands for these trees. One with n below it is so low that its children find room.
  abbrev pub Stand : List Waiting → List (Tree ℕ) → Type 0
  Stand [] [] = Unit {0}
  Stand [] (t ∷ ts) = ⊥
  Stand (e ∷ es) [] = ⊥
  Stand (e ∷ es) (t ∷ ts) = Walkable (e.slot + 1) t × (length es + 3 * depth t ≤ most_waiting + 2) × Stand es ts

  -- never more than 193 wait
  stand_low : (es : List Waiting) (ts : List (Tree ℕ)) → Stand es ts → length es ≤ most_waiting
  stand_low [] ts s = omega arith
  stand_low (e ∷ es) [] s = absurd s
  stand_low (e ∷ es) (none ∷ ts) s = absurd (omega (arith, s.0.0))
  stand_low (e ∷ es) (leaf i is ∷ ts) s = omega (arith, s.1)
  stand_low (e ∷ es) (node i t0 t1 t2 t3 ∷ ts) s = omega (arith, s.1)

-- ---- how many nodes are found from what waits: it falls at each turn

-- from a number, within k levels
unfoldable pub under : List ℕ → ℕ → ℕ → ℕ
under m zero p = 0
under m (suc k) zero = 0
under m (suc k) (suc s) = branch (eqb (word m s 0) 0) (λ _. 1 + under m k (kid m s 0) + under m k (kid m s 1) + under m k (kid m s 2) + under m k (kid m s 3)) (λ _. 1)

-- 65 levels hold every tree
abbrev pub left : List ℕ → List Waiting → ℕ
left m [] = 0
left m (e ∷ es) = under m 65 (e.slot + 1) + left m es

module _ (m next : List ℕ) where
  under-zero : (k : ℕ) → under m k 0 ≡ 0
  unfolding under
  under-zero zero = refl
  under-zero (suc k) = refl

  under_leaf : (k s : ℕ) (is : List ℕ) → LeafIn m s is → under m (suc k) (s + 1) ≡ 1
  unfolding under
  under_leaf k s is h = rw (add-one s, ne_eqb (word m s 0) 0 (λ z. omega (arith, h.tag)))

  under_node : (k s : ℕ) → InternalIn m s → under m (suc k) (s + 1) ≡ 1 + under m k (kid m s 0) + under m k (kid m s 1) + under m k (kid m s 2) + under m k (kid m s 3)
  unfolding under
  under_node k s z = rw (add-one s, z)

  pub under-nodes : (k p : ℕ) (t : Tree ℕ) → Leads m next p t → depth t ≤ k → under m k p ≡ nodes t
  under-nodes k p none l d = ap (under m k) l ∙ under-zero k
  under-nodes zero p (leaf s is) l d = absurd (omega arith)
  under-nodes (suc k) p (leaf s is) l d = ap (under m (suc k)) l.0 ∙ under_leaf k s is l.1
  under-nodes zero p (node s t0 t1 t2 t3) l d = absurd (omega arith)
  under-nodes (suc k) p (node s t0 t1 t2 t3) l d =
      ap (under m (suc k)) l.0 ∙ under_node k s l.1.tag
      ∙ rw (under-nodes k (kid m s 0) t0 l.2 (omega arith), under-nodes k (kid m s 1) t1 l.3 (omega arith), under-nodes k (kid m s 2) t2 l.4 (omega arith), under-nodes k (kid m s 3) t3 l.5 (omega arith))

  left-nodes : (P : List ℕ → Type 0) (es : List Waiting) (ts : List (Tree ℕ)) → Stand P m next es ts → left m es ≡ nodes_all ts
  left-nodes P [] [] s = refl
  left-nodes P [] (t ∷ ts) s = absurd s
  left-nodes P (e ∷ es) [] s = absurd s
  left-nodes P (e ∷ es) (t ∷ ts) s = rw (under-nodes 65 (e.slot + 1) t s.0.0 (omega (arith, s.1)), left-nodes P es ts s.2)

module _ {A S : Type 0} (step : Entry A → S → Outcome (After S)) (look : ℕ → Extent → A) (P : List ℕ → Type 0) (m next : List ℕ) where
  -- the rules' walk over each of the trees, top first
  abbrev pub walks : List Waiting → List (Tree ℕ) → Counted S → Outcome (Counted S)
  walks [] [] n = done n
  walks [] (t ∷ ts) n = done n
  walks (e ∷ es) [] n = done n
  walks (e ∷ es) (t ∷ ts) n = walk step (seen look e.extent t) n >>= λ n. walks es ts n

  -- A walk over T from `begun`, in which `es` wait and the state and the count are `now`: walking what waits from `now` gives what walking T from `begun` gives.
  pub record Going (T : Tree A) (begun : Counted S) (es : List Waiting) (now : Counted S) : Type 0 where
    pub trees : List (Tree ℕ)
    pub stands : Stand P m next es trees
    pub same : walks es trees now ≡ walk step T begun
    pub few : now.visits + nodes_all trees ≤ begun.visits + nodes T

  -- ---- a number laid

  record Laid (p : ℕ) (c : Extent) (t : Tree ℕ) (es : List Waiting) (ts : List (Tree ℕ)) : Type 0 where
    trees : List (Tree ℕ)
    stands : Stand P m next (lay p c es) trees
    same : (n : Counted S) → walks (lay p c es) trees n ≡ (walk step (seen look c t) n >>= λ n. walks es ts n)
    sum : nodes_all trees ≡ nodes t + nodes_all ts
    short : length (lay p c es) ≤ length es + 1

  laid : (p : ℕ) (c : Extent) (t : Tree ℕ) (es : List Waiting) (ts : List (Tree ℕ)) → Walkable P m next p t → length es + 3 * depth t ≤ most_waiting + 2 → Stand P m next es ts → Laid p c t es ts
  laid zero c none es ts f d s = record { trees = ts; stands = s; same = λ n. refl; sum = omega arith; short = omega arith }
  laid zero c (leaf i is) es ts f d s = absurd (omega (arith, f.0.0))
  laid zero c (node i t0 t1 t2 t3) es ts f d s = absurd (omega (arith, f.0.0))
  laid (suc p) c none es ts f d s = absurd (omega (arith, f.0))
  laid (suc p) c (leaf i is) es ts f d s =
      record { trees = leaf i is ∷ ts; stands = (rw (add-one p) f, d, s); same = λ n. refl; sum = refl; short = omega arith }
  laid (suc p) c (node i t0 t1 t2 t3) es ts f d s =
      record { trees = node i t0 t1 t2 t3 ∷ ts; stands = (rw (add-one p) f, d, s); same = λ n. refl; sum = refl; short = omega arith }

  -- the children of a node laid in its place
  record Opened (s : ℕ) (c : Extent) (t0 t1 t2 t3 : Tree ℕ) (es : List Waiting) (ts : List (Tree ℕ)) : Type 0 where
    trees : List (Tree ℕ)
    stands : Stand P m next (lay_kids m s c es) trees
    same : (n : Counted S) → walks (lay_kids m s c es) trees n
        ≡ (walk step (seen look (quarter 0 c) t0) n >>= λ n. walk step (seen look (quarter 1 c) t1) n >>= λ n. walk step (seen look (quarter 2 c) t2) n
        >>= λ n. walk step (seen look (quarter 3 c) t3) n >>= λ n. walks es ts n)
    sum : nodes_all trees ≡ nodes t0 + nodes t1 + nodes t2 + nodes t3 + nodes_all ts

  opened_by : (s : ℕ) (c : Extent) (t0 t1 t2 t3 : Tree ℕ) (es : List Waiting) (ts : List (Tree ℕ))
      (l3 : Laid (kid m s 3) (quarter 3 c) t3 es ts) (l2 : Laid (kid m s 2) (quarter 2 c) t2 (lay (kid m s 3) (quarter 3 c) es) l3.trees)
      (l1 : Laid (kid m s 1) (quarter 1 c) t1 (lay (kid m s 2) (quarter 2 c) (lay (kid m s 3) (quarter 3 c) es)) l2.trees)
      (l0 : Laid (kid m s 0) (quarter 0 c) t0 (lay (kid m s 1) (quarter 1 c) (lay (kid m s 2) (quarter 2 c) (lay (kid m s 3) (quarter 3 c) es))) l1.trees) → Opened s c t0 t1 t2 t3 es ts
  opened_by s c t0 t1 t2 t3 es ts l3 l2 l1 l0 =
      record {
        trees = l0.trees;
        stands = l0.stands;
        same = λ n. l0.same n
            ∙ bind_cong (walk step (seen look (quarter 0 c) t0) n) (λ n. l1.same n
            ∙ bind_cong (walk step (seen look (quarter 1 c) t1) n) (λ n. l2.same n
            ∙ bind_cong (walk step (seen look (quarter 2 c) t2) n) (λ n. l3.same n)));
        sum = total _ _ _ _ _ _ _ _ _ l0.sum l1.sum l2.sum l3.sum;
      }
    where
      total : (n0 n1 n2 n3 a0 a1 a2 a3 a : ℕ) → a0 ≡ n0 + a1 → a1 ≡ n1 + a2 → a2 ≡ n2 + a3 → a3 ≡ n3 + a → a0 ≡ n0 + n1 + n2 + n3 + a
      total n0 n1 n2 n3 a0 a1 a2 a3 a h0 h1 h2 h3 = omega arith

  opened : (s : ℕ) (c : Extent) (t0 t1 t2 t3 : Tree ℕ) (es : List Waiting) (ts : List (Tree ℕ))
      → Walkable P m next (kid m s 0) t0 → Walkable P m next (kid m s 1) t1 → Walkable P m next (kid m s 2) t2 → Walkable P m next (kid m s 3) t3
      → length es + 3 * suc (max (max (depth t0) (depth t1)) (max (depth t2) (depth t3))) ≤ most_waiting + 2 → Stand P m next es ts → Opened s c t0 t1 t2 t3 es ts
  opened s c t0 t1 t2 t3 es ts f0 f1 f2 f3 d w =
      let e3 = lay (kid m s 3) (quarter 3 c) es in
      let e2 = lay (kid m s 2) (quarter 2 c) e3 in
      let e1 = lay (kid m s 1) (quarter 1 c) e2 in
      let l3 = laid (kid m s 3) (quarter 3 c) t3 es ts f3 (omega arith) w in
      let l2 = laid (kid m s 2) (quarter 2 c) t2 e3 l3.trees f2 (omega (arith, l3.short)) l3.stands in
      let l1 = laid (kid m s 1) (quarter 1 c) t1 e2 l2.trees f1 (omega (arith, l3.short, l2.short)) l2.stands in
      let l0 = laid (kid m s 0) (quarter 0 c) t0 e1 l1.trees f0 (omega (arith, l3.short, l2.short, l1.short)) l1.stands in
      opened_by s c t0 t1 t2 t3 es ts l3 l2 l1 l0

  -- ---- how a walk begins and ends

  pub start : (p : ℕ) (c : Extent) (t : Tree ℕ) (begun : Counted S) → Walkable P m next p t → depth t ≤ 65 → Going (seen look c t) begun (lay p c []) begun
  start p c t begun f d =
      let l = laid p c t [] [] f (omega arith) tt in
      record {
        trees = l.trees;
        stands = l.stands;
        same = l.same begun ∙ stop (walk step (seen look c t) begun);
        few = omega (arith, l.sum, nodes-seen look c t);
      }
    where
      stop : (o : Outcome (Counted S)) → (o >>= λ n. done n) ≡ o
      stop (done n) = refl
      stop (refused r) = refl

  pub finish : (T : Tree A) (begun now : Counted S) → Going T begun [] now → walk step T begun ≡ done now
  finish T begun now g = go g.trees g.stands g.same
    where
      go : (ts : List (Tree ℕ)) → Stand P m next [] ts → walks [] ts now ≡ walk step T begun → walk step T begun ≡ done now
      go [] s q = sym q
      go (t ∷ ts) s q = absurd s

  pub low : (T : Tree A) (begun now : Counted S) (es : List Waiting) → Going T begun es now → length es ≤ most_waiting
  low T begun now es g = stand_low P m next es g.trees g.stands

  -- ---- a turn

  module _ (T : Tree A) (begun : Counted S) (e : Waiting) (es : List Waiting) (now : Counted S) (g : Going T begun (e ∷ es) now) where
    -- what waits on top is lent, and is handed out for the first time
    pub reach : InSlots e.slot m × (now.visits < begun.visits + nodes T)
    reach = go g.trees g.stands g.few
      where
        go : (ts : List (Tree ℕ)) → Stand P m next (e ∷ es) ts → now.visits + nodes_all ts ≤ begun.visits + nodes T → InSlots e.slot m × (now.visits < begun.visits + nodes T)
        go [] s b = absurd s
        go (none ∷ ts) s b = absurd (omega (arith, s.0.0))
        go (leaf i is ∷ ts) s b = (omega (arith, s.0.0.0, s.0.1), omega arith)
        go (node i t0 t1 t2 t3 ∷ ts) s b = (omega (arith, s.0.0.0, s.0.1.0), omega arith)

    -- fewer are left with the top taken off
    pub falls : left m es < left m (e ∷ es)
    falls = go g.trees g.stands
      where
        go : (ts : List (Tree ℕ)) → Stand P m next (e ∷ es) ts → left m es < left m (e ∷ es)
        go [] s = absurd s
        go (none ∷ ts) s = absurd (omega (arith, s.0.0))
        go (leaf i is ∷ ts) s = omega (arith, left-nodes m next P es ts s.2, left-nodes m next P (e ∷ es) (leaf i is ∷ ts) s)
        go (node i t0 t1 t2 t3 ∷ ts) s = omega (arith, left-nodes m next P es ts s.2, left-nodes m next P (e ∷ es) (node i t0 t1 t2 t3 ∷ ts) s)

    module _ (z : InternalIn m e.slot) where
      -- where it is an internal node, its children stand in its place
      record Inside : Type 0 where
        t0 : Tree ℕ
        t1 : Tree ℕ
        t2 : Tree ℕ
        t3 : Tree ℕ
        rest : List (Tree ℕ)
        beneath : Stand P m next es rest
        all : left m (e ∷ es) ≡ 1 + nodes t0 + nodes t1 + nodes t2 + nodes t3 + nodes_all rest
        open' : Opened e.slot e.extent t0 t1 t2 t3 es rest
        same : (walk step (node (look e.slot e.extent) (seen look (quarter 0 e.extent) t0) (seen look (quarter 1 e.extent) t1) (seen look (quarter 2 e.extent) t2) (seen look (quarter 3 e.extent) t3)) now
            >>= λ n. walks es rest n) ≡ walk step T begun
        few : now.visits + 1 + nodes t0 + nodes t1 + nodes t2 + nodes t3 + nodes_all rest ≤ begun.visits + nodes T

      inside-node : (i : ℕ) (t0 t1 t2 t3 : Tree ℕ) (ts : List (Tree ℕ)) → i ≡ e.slot → Stand P m next (e ∷ es) (node i t0 t1 t2 t3 ∷ ts)
          → walks (e ∷ es) (node i t0 t1 t2 t3 ∷ ts) now ≡ walk step T begun → now.visits + nodes_all (node i t0 t1 t2 t3 ∷ ts) ≤ begun.visits + nodes T → Inside
      inside-node i t0 t1 t2 t3 ts q s b l =
          let f = s.0 in
          record {
            t0 = t0;
            t1 = t1;
            t2 = t2;
            t3 = t3;
            rest = ts;
            beneath = s.2;
            all = left-nodes m next P (e ∷ es) (node i t0 t1 t2 t3 ∷ ts) s;
            open' = opened e.slot e.extent t0 t1 t2 t3 es ts
                (rw q at f.0.2, f.1.1, f.2.0) (rw q at f.0.3, f.1.2, f.2.1) (rw q at f.0.4, f.1.3, f.2.2) (rw q at f.0.5, f.1.4, f.2.3) s.1 s.2;
            same = rw q at b;
            few = omega arith;
          }

      inside : Inside
      inside = go g.trees g.stands g.same g.few
        where
          go : (ts : List (Tree ℕ)) → Stand P m next (e ∷ es) ts → walks (e ∷ es) ts now ≡ walk step T begun → now.visits + nodes_all ts ≤ begun.visits + nodes T → Inside
          go [] s q b = absurd s
          go (none ∷ ts) s q b = absurd (omega (arith, s.0.0))
          go (leaf i is ∷ ts) s q b =
              let i≡ : i ≡ e.slot = omega (arith, s.0.0.0) in
              absurd (omega (arith, z, rw i≡ at s.0.0.1.tag))
          go (node i t0 t1 t2 t3 ∷ ts) s q b = inside-node i t0 t1 t2 t3 ts (omega (arith, s.0.0.0)) s q b

      -- its children find room
      pub room : length (lay_kids m e.slot e.extent es) ≤ most_waiting
      room = stand_low P m next (lay_kids m e.slot e.extent es) inside.open'.trees inside.open'.stands

      -- fewer are left with its children in its place
      pub falls_down : left m (lay_kids m e.slot e.extent es) < left m (e ∷ es)
      falls_down =
          let i = inside in
          omega (arith, i.all, left-nodes m next P (lay_kids m e.slot e.extent es) i.open'.trees i.open'.stands, i.open'.sum)

      -- what lies below is left out
      pub skip : (σ : S) → step (internal (look e.slot e.extent)) now.state ≡ done (after σ Skip) → Going T begun es (counted σ (now.visits + 1))
      skip σ h =
          let i = inside in
          record { trees = i.rest; stands = i.beneath; same = rw h at i.same; few = omega (arith, i.few) }

      -- its children are walked next
      pub down : (σ : S) → step (internal (look e.slot e.extent)) now.state ≡ done (after σ Continue)
          → Going T begun (lay_kids m e.slot e.extent es) (counted σ (now.visits + 1))
      down σ h =
          let i = inside in
          let c = e.extent in
          let n = counted σ (now.visits + 1) in
          record {
            trees = i.open'.trees;
            stands = i.open'.stands;
            same = i.open'.same n
                ∙ sym (bind_four (walk step (seen look (quarter 0 c) i.t0) n) (λ n. walk step (seen look (quarter 1 c) i.t1) n) (λ n. walk step (seen look (quarter 2 c) i.t2) n)
                (λ n. walk step (seen look (quarter 3 c) i.t3) n) (λ n. walks es i.rest n))
                ∙ rw h at i.same;
            few = omega (arith, i.few, i.open'.sum);
          }

      -- the walk is refused
      pub refuse : (r : Refusal) → step (internal (look e.slot e.extent)) now.state ≡ refused r → walk step T begun ≡ refused r
      refuse r h = sym (rw h at inside.same)

    module _ (z : InternalIn m e.slot → ⊥) where
      -- where it is a leaf, its chain follows from it
      record Tip : Type 0 where
        members : List ℕ
        follows : Follows next members
        held : LeafIn m e.slot members
        good : P members
        rest : List (Tree ℕ)
        beneath : Stand P m next es rest
        same : (walk step (leaf (look e.slot e.extent) members) now >>= λ n. walks es rest n) ≡ walk step T begun
        few : now.visits + 1 + nodes_all rest ≤ begun.visits + nodes T

      tip-of : Tip
      tip-of = go g.trees g.stands g.same g.few
        where
          go : (ts : List (Tree ℕ)) → Stand P m next (e ∷ es) ts → walks (e ∷ es) ts now ≡ walk step T begun → now.visits + nodes_all ts ≤ begun.visits + nodes T → Tip
          go [] s q b = absurd s
          go (none ∷ ts) s q b = absurd (omega (arith, s.0.0))
          go (node i t0 t1 t2 t3 ∷ ts) s q b =
              let i≡ : i ≡ e.slot = omega (arith, s.0.0.0) in
              absurd (z (rw i≡ at s.0.0.1.tag))
          go (leaf i is ∷ ts) s q b =
              let i≡ : i ≡ e.slot = omega (arith, s.0.0.0) in
              record { members = is; follows = s.0.0.2; held = rw i≡ at s.0.0.1; good = s.0.2; rest = ts; beneath = s.2; same = rw i≡ at q; few = omega arith }

      pub chain : ChainFrom next P (word m e.slot 0 - 1)
      chain = let t = tip-of in record { members = t.members; follows = t.follows; starts = omega (arith, t.held.tag); good = t.good }

      -- what the step does with the chain
      abbrev pub AtLeaf : S → Outcome (After S) → Type 0
      AtLeaf σ o = (is : List ℕ) → Follows next is → LeafIn m e.slot is → P is → step (tip (look e.slot e.extent) is) σ ≡ o

      pub hand : (σ : S) (v : Visit) → AtLeaf now.state (done (after σ v)) → Going T begun es (counted σ (now.visits + 1))
      hand σ v h =
          let t = tip-of in
          record {
            trees = t.rest;
            stands = t.beneath;
            same = at v (rw (h t.members t.follows t.held t.good) at t.same);
            few = omega (arith, t.few);
          }
        where
          at : (v : Visit) → (Rattle.rules.specs.Walk.unless_skip v (counted σ (now.visits + 1)) (λ n. done n) >>= λ n. walks es tip-of.rest n) ≡ walk step T begun
              → walks es tip-of.rest (counted σ (now.visits + 1)) ≡ walk step T begun
          at Continue q = q
          at Skip q = q

      pub refuse-leaf : (r : Refusal) → AtLeaf now.state (refused r) → walk step T begun ≡ refused r
      refuse-leaf r h = let t = tip-of in sym (rw (h t.members t.follows t.held t.good) at t.same)
