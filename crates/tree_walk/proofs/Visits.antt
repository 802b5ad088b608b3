-- What holds of a loop that walks parent first, at each of its turns: the laws of a turn over what waits. Assumes nothing.
use mathlib.Core.Path.{◌≡◌, subst}
use mathlib.Core.List.{List, [], ◌∷◌}
use Prim.Native.Nat.{ℕ, ◌+◌, ◌-◌, ◌≤◌, ◌<◌}
use native.Mathlib.Omega.{arith}
use lib.ListN.{length}
use Rattle.rules.specs.declared.Extent.{Extent}
use Rattle.rules.specs.declared.Refusal.{Refusal}
use Rattle.rules.specs.declared.Visit.{Visit}
use Rattle.rules.specs.declared.Visit.TheVariants.{Continue, Skip}
use Rattle.rules.specs.Outcome.{Outcome, done, refused}
use Rattle.rules.specs.Tree.{Tree, nodes, depth}
use Rattle.rules.specs.Walk.{Entry, internal, tip, Counted, counted, After, after, walk}
use Rattle.tree_slots.specs.Trees.{word, LeafIn, InternalIn, Follows, ChainFrom, InSlots}
use Rattle.tree_walk.specs.Walk.{Waiting, most_waiting, lay, lay_kids, seen}
use Rattle.tree_walk.proofs.WalkTurns as turns

-- A walk of the rules' `step` over T from `begun`, in which `waits` wait, and the state and the count are `now`. `look` is what is read at a slot whose cell is given; P holds of each chain.
abbrev pub Visiting : {A S : Type 0} (step : Entry A → S → Outcome (After S)) (look : ℕ → Extent → A) (P : List ℕ → Type 0) (m next : List ℕ) (T : Tree A) (begun : Counted S) (waits : List Waiting) (now : Counted S) → Type 0
Visiting step look P m next T begun waits now = turns.Going step look P m next T begun waits now

-- a turn of its loop, in which e was on top, and `rest` still wait
pub record Visited {A S : Type 0} (step : Entry A → S → Outcome (After S)) (look : ℕ → Extent → A) (P : List ℕ → Type 0) (m next : List ℕ) (T : Tree A) (begun : Counted S) (waits : List Waiting) (now : Counted S) (e : Waiting) (rest : List Waiting) : Type 0 where
  pub visiting : Visiting step look P m next T begun waits now
  pub popped : waits ≡ e ∷ rest

-- how many nodes are left to walk: the measure of the loop
abbrev pub left_of : List ℕ → List Waiting → ℕ
left_of m waits = turns.left m waits

module _ {A S : Type 0} (step : Entry A → S → Outcome (After S)) (look : ℕ → Extent → A) (P : List ℕ → Type 0) (m next : List ℕ) where
  -- a walk begins with its root waiting
  pub start : (p : ℕ) (c : Extent) (t : Tree ℕ) (T : Tree A) (begun : Counted S) {waits : List Waiting} → turns.Walkable P m next p t → depth t ≤ 65 → seen look c t ≡ T
      → waits ≡ lay p c [] → Visiting step look P m next T begun waits begun
  start p c t T begun {waits} f d e r =
      rw r (subst (λ (U : Tree A). turns.Going step look P m next U begun (lay p c []) begun) e (turns.start step look P m next p c t begun f d))

module _ {A S : Type 0} {step : Entry A → S → Outcome (After S)} {look : ℕ → Extent → A} {P : List ℕ → Type 0} {m next : List ℕ} {T : Tree A} {begun : Counted S} {waits : List Waiting} {now : Counted S}
    (inv : Visiting step look P m next T begun waits now) where
  -- with nothing waiting the walk has come to its end
  pub finish : waits ≡ [] → walk step T begun ≡ done now
  finish h = turns.finish step look P m next T begun now (rw h at inv)

  -- no more nodes are handed out than there are
  pub few : now.visits ≤ begun.visits + nodes T
  few = omega (arith, inv.few)

  -- never more than 193 wait
  pub low : length waits ≤ most_waiting
  low = turns.low step look P m next T begun now waits inv

module _ {A S : Type 0} {step : Entry A → S → Outcome (After S)} {look : ℕ → Extent → A} {P : List ℕ → Type 0} {m next : List ℕ} {T : Tree A} {begun : Counted S} {waits : List Waiting} {now : Counted S} {e : Waiting} {rest : List Waiting}
    (t : Visited step look P m next T begun waits now e rest) where
  on_top : Visiting step look P m next T begun (e ∷ rest) now
  on_top = rw t.popped at t.visiting

  -- its slot is lent, and it is counted for the first time
  pub reach : InSlots e.slot m × (now.visits < begun.visits + nodes T)
  reach = turns.reach step look P m next T begun e rest now on_top

  -- fewer nodes are left
  pub falls : left_of m rest < left_of m waits
  falls = rw t.popped (turns.falls step look P m next T begun e rest now on_top)

  -- ---- an internal node

  module _ (z : InternalIn m e.slot) where
    -- its children find room
    pub room : length (lay_kids m e.slot e.extent rest) ≤ most_waiting
    room = turns.room step look P m next T begun e rest now on_top z

    -- nothing below it is handed out
    pub turn-skip : {σ : S} → step (internal (look e.slot e.extent)) now.state ≡ done (after σ Skip) → Visiting step look P m next T begun rest (counted σ (now.visits + 1))
    turn-skip {σ} s = turns.skip step look P m next T begun e rest now on_top z σ s

    -- its children wait now
    pub turn-down : {σ : S} {below : List Waiting} → step (internal (look e.slot e.extent)) now.state ≡ done (after σ Continue) → below ≡ lay_kids m e.slot e.extent rest
        → Visiting step look P m next T begun below (counted σ (now.visits + 1))
    turn-down {σ} s b = rw b (turns.down step look P m next T begun e rest now on_top z σ s)

    -- and fewer nodes are left
    pub falls_down : {below : List Waiting} → below ≡ lay_kids m e.slot e.extent rest → left_of m below < left_of m waits
    falls_down b = rw (b, t.popped) (turns.falls_down step look P m next T begun e rest now on_top z)

    -- the step refuses
    pub turn-refused : {r : Refusal} → step (internal (look e.slot e.extent)) now.state ≡ refused r → walk step T begun ≡ refused r
    turn-refused {r} s = turns.refuse step look P m next T begun e rest now on_top z r s

  -- ---- a leaf

  module _ (z : InternalIn m e.slot → ⊥) where
    -- its chain, from its first particle
    pub chain : ChainFrom next P (word m e.slot 0 - 1)
    chain = turns.chain step look P m next T begun e rest now on_top z

    -- whatever the step answers, nothing lies below
    pub turn-leaf : {σ : S} (v : Visit) → ((is : List ℕ) → Follows next is → LeafIn m e.slot is → P is → step (tip (look e.slot e.extent) is) now.state ≡ done (after σ v))
        → Visiting step look P m next T begun rest (counted σ (now.visits + 1))
    turn-leaf {σ} v s = turns.hand step look P m next T begun e rest now on_top z σ v s

    -- the step refuses
    pub turn-refused-leaf : {r : Refusal} → ((is : List ℕ) → Follows next is → LeafIn m e.slot is → P is → step (tip (look e.slot e.extent) is) now.state ≡ refused r)
        → walk step T begun ≡ refused r
    turn-refused-leaf {r} s = turns.refuse-leaf step look P m next T begun e rest now on_top z r s
