-- Theorems on the two walks, for a reader: what is handed out, in which order, how much, and how many wait. Assumes nothing.
use mathlib.Core.Path.{◌≡◌, refl, sym, ap, ◌∙◌}
use mathlib.Core.Logic.{◌⊎◌, inl, inr, ⊎_elim}
use mathlib.Core.List.Permᴰ
use mathlib.Core.List.Sublistᴰ
use mathlib.Core.List.{List, [], ◌∷◌, ◌++◌, append-nil, append_assoc, Sublistᴰ, Permᴰ}
use Prim.Native.Nat.{ℕ, ◌+◌, ◌≤◌}
use native.Mathlib.Omega.{arith}
use lib.ListN.{length, length-append}
use Rattle.rules.specs.declared.Extent.{Extent}
use Rattle.rules.specs.declared.Visit.{Visit}
use Rattle.rules.specs.declared.Visit.TheVariants.{Continue, Skip}
use Rattle.rules.specs.Outcome.{Outcome, done, refused, ◌>>=◌, if_done}
use Rattle.rules.specs.Tree.{Tree, none, leaf, node, nodes}
use Rattle.rules.specs.Walk.{Entry, internal, tip, Counted, counted, After, after, unless_skip, walk, parent_last}
use Rattle.tree_walk.specs.Walk.{Waiting, most_waiting}
use Rattle.tree_walk.proofs.Visits as visits
use Rattle.tree_walk.proofs.WalkAfter as later

-- ---- the nodes of a tree, parent first, children 0, 1, 2, 3

abbrev pub parent_first : {A : Type 0} → Tree A → List (Entry A)
parent_first none = []
parent_first (leaf a is) = tip a is ∷ []
parent_first (node a t0 t1 t2 t3) = internal a ∷ (parent_first t0 ++ parent_first t1 ++ parent_first t2 ++ parent_first t3)

-- each node stands there once
pub length-first : {A : Type 0} (t : Tree A) → length (parent_first t) ≡ nodes t
length-first none = refl
length-first (leaf a is) = refl
length-first (node a t0 t1 t2 t3) =
    rw (
      length-append (parent_first t0 ++ parent_first t1 ++ parent_first t2) (parent_first t3),
      length-append (parent_first t0 ++ parent_first t1) (parent_first t2),
      length-append (parent_first t0) (parent_first t1),
      length-first t0,
      length-first t1,
      length-first t2,
      length-first t3,
    )
    (omega arith)

-- ---- parent first

-- where something followed, both were done
pub record Both {A B : Type 0} (o : Outcome A) (f : A → Outcome B) (b : B) : Type 0 where
  pub first : A
  pub was : o ≡ done first
  pub then' : f first ≡ done b

never : {A B : Type 0} {a : A} (r : _) → ◌≡◌ {A = Outcome A} (refused r) (done a) → B
never r e = absurd (let z : ◌≡◌ {A = ℕ} 0 1 = cc in omega arith)

both : {A B : Type 0} (o : Outcome A) (f : A → Outcome B) (b : B) → (o >>= f) ≡ done b → Both o f b
both (done a) f b e = record { first = a; was = refl; then' = e }
both (refused r) f b e = never r e

done_same : {A : Type 0} {a b : A} → ◌≡◌ {A = Outcome A} (done a) (done b) → a ≡ b
done_same {a = a} e = ap (λ (o : Outcome _). if_done o (λ x. x) a) e

module _ {A S : Type 0} (step : Entry A → S → Outcome (After S)) where
  -- the same step, which also notes what is handed out
  abbrev pub noting : Entry A → S × List (Entry A) → Outcome (After (S × List (Entry A)))
  noting e σ = step e σ.0 >>= λ r. done (after (r.state, σ.1 ++ (e ∷ [])) r.visit)

  -- what a walk has noted: some of the tree's nodes, parent first, none twice, and as many as it counted
  pub record Noted (t : Tree A) (n k : Counted (S × List (Entry A))) : Type 0 where
    pub new : List (Entry A)
    pub notes : k.state.1 ≡ n.state.1 ++ new
    pub among : Sublistᴰ new (parent_first t)
    pub count : k.visits ≡ n.visits + length new

  -- one node was handed out, and what lies below it was walked or left out
  opened : (x : Entry A) (n k : Counted (S × List (Entry A))) (below : Counted (S × List (Entry A)) → Outcome (Counted (S × List (Entry A))))
      → (noting x n.state >>= λ r. unless_skip r.visit (counted r.state (n.visits + 1)) below) ≡ done k
      → (σ : S) × ((counted (σ, n.state.1 ++ (x ∷ [])) (n.visits + 1) ≡ k) ⊎ (below (counted (σ, n.state.1 ++ (x ∷ [])) (n.visits + 1)) ≡ done k))
  opened x n k below e = go (step x n.state.0) e
    where
      at : (σ : S) (v : Visit) → unless_skip v (counted (σ, n.state.1 ++ (x ∷ [])) (n.visits + 1)) below ≡ done k
          → (counted (σ, n.state.1 ++ (x ∷ [])) (n.visits + 1) ≡ k) ⊎ (below (counted (σ, n.state.1 ++ (x ∷ [])) (n.visits + 1)) ≡ done k)
      at σ Continue e = inr e
      at σ Skip e = inl (done_same e)

      go : (o : Outcome (After S))
          → ((o >>= λ r. done (after (r.state, n.state.1 ++ (x ∷ [])) r.visit)) >>= λ r. unless_skip r.visit (counted r.state (n.visits + 1)) below) ≡ done k
          → (σ : S) × ((counted (σ, n.state.1 ++ (x ∷ [])) (n.visits + 1) ≡ k) ⊎ (below (counted (σ, n.state.1 ++ (x ∷ [])) (n.visits + 1)) ≡ done k))
      go (done r) e = (r.state, at r.state r.visit e)
      go (refused r) e = never r e

  one : (x : Entry A) (t : Tree A) (n k : Counted (S × List (Entry A))) (σ : S) → Sublistᴰ (x ∷ []) (parent_first t)
      → counted (σ, n.state.1 ++ (x ∷ [])) (n.visits + 1) ≡ k → Noted t n k
  one x t n k σ s q =
      record { new = x ∷ []; notes = sym (ap (λ (c : Counted (S × List (Entry A))). c.state.1) q); among = s; count = sym (ap (λ (c : Counted (S × List (Entry A))). c.visits) q) }

  four : (a : A) (t0 t1 t2 t3 : Tree A) (n k0 k1 k2 k : Counted (S × List (Entry A))) (σ : S) → Noted t0 (counted (σ, n.state.1 ++ (internal a ∷ [])) (n.visits + 1)) k0
      → Noted t1 k0 k1 → Noted t2 k1 k2 → Noted t3 k2 k → Noted (node a t0 t1 t2 t3) n k
  four a t0 t1 t2 t3 n k0 k1 k2 k σ h0 h1 h2 h3 =
      record {
        new = internal a ∷ (h0.new ++ h1.new ++ h2.new ++ h3.new);
        notes = rw (h3.notes, h2.notes, h1.notes, h0.notes) (simp append_assoc);
        among = Sublistᴰ.cons-cons refl (Sublistᴰ.append (Sublistᴰ.append (Sublistᴰ.append h0.among h1.among) h2.among) h3.among);
        count = omega (arith, h0.count, h1.count, h2.count, h3.count, length-append (h0.new ++ h1.new ++ h2.new) h3.new, length-append (h0.new ++ h1.new) h2.new, length-append h0.new h1.new);
      }

  -- Whatever the step is, a walk hands out each node at most once, parent first.
  pub hands_out : (t : Tree A) (n k : Counted (S × List (Entry A))) → walk noting t n ≡ done k → Noted t n k
  hands_out none n k e =
      record {
        new = [];
        notes = sym (ap (λ (c : Counted (S × List (Entry A))). c.state.1) (done_same e)) ∙ sym (append-nil n.state.1);
        among = Sublistᴰ.slnil;
        count = let q = ap (λ (c : Counted (S × List (Entry A))). c.visits) (done_same e) in omega (arith, q);
      }
  hands_out (leaf a is) n k e =
      let o = opened (tip a is) n k (λ n. done n) e in
      one (tip a is) (leaf a is) n k o.0 (Sublistᴰ.cons-cons refl Sublistᴰ.slnil) (⊎_elim (λ q. q) (λ q. done_same q) o.1)
  hands_out (node a t0 t1 t2 t3) n k e =
      let o = opened (internal a) n k (λ n. walk noting t0 n >>= (λ n. walk noting t1 n) >>= (λ n. walk noting t2 n) >>= λ n. walk noting t3 n) e in
      ⊎_elim (λ q. one (internal a) (node a t0 t1 t2 t3) n k o.0 (Sublistᴰ.cons-cons refl (Sublistᴰ.nil-sublist _)) q)
      (λ q.
      let b2 = both (walk noting t0 (counted (o.0, n.state.1 ++ (internal a ∷ [])) (n.visits + 1)) >>= (λ n. walk noting t1 n) >>= (λ n. walk noting t2 n)) (λ n. walk noting t3 n) k q in
      let b1 = both (walk noting t0 (counted (o.0, n.state.1 ++ (internal a ∷ [])) (n.visits + 1)) >>= (λ n. walk noting t1 n)) (λ n. walk noting t2 n) b2.first b2.was in
      let b0 = both (walk noting t0 (counted (o.0, n.state.1 ++ (internal a ∷ [])) (n.visits + 1))) (λ n. walk noting t1 n) b1.first b1.was in
      four a t0 t1 t2 t3 n b0.first b1.first b2.first k o.0
      (hands_out t0 _ b0.first b0.was) (hands_out t1 b0.first b1.first b0.then') (hands_out t2 b1.first b2.first b1.then') (hands_out t3 b2.first k b2.then'))
      o.1

  -- ---- and noting changes nothing else

  abbrev forget : Counted (S × List (Entry A)) → Counted S
  forget n = counted n.state.0 n.visits

  abbrev pub forgotten : Outcome (Counted (S × List (Entry A))) → Outcome (Counted S)
  forgotten (done n) = done (forget n)
  forgotten (refused r) = refused r

  forget_bind : (o : Outcome (Counted (S × List (Entry A)))) (f : Counted (S × List (Entry A)) → Outcome (Counted (S × List (Entry A)))) (g : Counted S → Outcome (Counted S))
      → ((n : Counted (S × List (Entry A))) → forgotten (f n) ≡ g (forget n)) → forgotten (o >>= f) ≡ (forgotten o >>= g)
  forget_bind (done n) f g h = h n
  forget_bind (refused r) f g h = refl

  forget_handed : (x : Entry A) (n : Counted (S × List (Entry A))) (f : Counted (S × List (Entry A)) → Outcome (Counted (S × List (Entry A)))) (g : Counted S → Outcome (Counted S))
      → ((n : Counted (S × List (Entry A))) → forgotten (f n) ≡ g (forget n))
      → forgotten (noting x n.state >>= λ r. unless_skip r.visit (counted r.state (n.visits + 1)) f) ≡ (step x n.state.0 >>= λ r. unless_skip r.visit (counted r.state (n.visits + 1)) g)
  forget_handed x n f g h = go (step x n.state.0)
    where
      at : (σ : S) (v : Visit) → forgotten (unless_skip v (counted (σ, n.state.1 ++ (x ∷ [])) (n.visits + 1)) f) ≡ unless_skip v (counted σ (n.visits + 1)) g
      at σ Continue = h (counted (σ, n.state.1 ++ (x ∷ [])) (n.visits + 1))
      at σ Skip = refl

      go : (o : Outcome (After S))
          → forgotten ((o >>= λ r. done (after (r.state, n.state.1 ++ (x ∷ [])) r.visit)) >>= λ r. unless_skip r.visit (counted r.state (n.visits + 1)) f)
          ≡ (o >>= λ r. unless_skip r.visit (counted r.state (n.visits + 1)) g)
      go (done r) = at r.state r.visit
      go (refused r) = refl

  pub noting-same : (t : Tree A) (n : Counted (S × List (Entry A))) → forgotten (walk noting t n) ≡ walk step t (forget n)
  noting-same none n = refl
  noting-same (leaf a is) n = forget_handed (tip a is) n (λ n. done n) (λ n. done n) (λ n. refl)
  noting-same (node a t0 t1 t2 t3) n =
      forget_handed (internal a) n (λ n. walk noting t0 n >>= (λ n. walk noting t1 n) >>= (λ n. walk noting t2 n) >>= λ n. walk noting t3 n)
      (λ n. walk step t0 n >>= (λ n. walk step t1 n) >>= (λ n. walk step t2 n) >>= λ n. walk step t3 n)
      (λ n. forget_bind (walk noting t0 n >>= (λ n. walk noting t1 n) >>= (λ n. walk noting t2 n)) (λ n. walk noting t3 n) (λ n. walk step t3 n) (noting-same t3)
      ∙ ap (λ (o : Outcome (Counted S)). o >>= λ n. walk step t3 n) (forget_bind (walk noting t0 n >>= (λ n. walk noting t1 n)) (λ n. walk noting t2 n) (λ n. walk step t2 n) (noting-same t2)
      ∙ ap (λ (o : Outcome (Counted S)). o >>= λ n. walk step t2 n) (forget_bind (walk noting t0 n) (λ n. walk noting t1 n) (λ n. walk step t1 n) (noting-same t1)
      ∙ ap (λ (o : Outcome (Counted S)). o >>= λ n. walk step t1 n) (noting-same t0 n))))

  -- ---- how much is handed out

  sublist_length : {B : Type 0} {k l : List B} → Sublistᴰ k l → length k ≤ length l
  sublist_length Sublistᴰ.slnil = omega arith
  sublist_length (Sublistᴰ.cons s) = let h = sublist_length s in omega arith
  sublist_length (Sublistᴰ.cons-cons e s) = let h = sublist_length s in omega arith

  -- A walk that is done has counted no more nodes than the tree has.
  pub counts-few : (t : Tree A) (n k : Counted S) → walk step t n ≡ done k → k.visits ≤ n.visits + nodes t
  counts-few t n k e = go (walk noting t (counted (n.state, []) n.visits)) refl (noting-same t (counted (n.state, []) n.visits) ∙ e)
    where
      go : (o : Outcome (Counted (S × List (Entry A)))) → walk noting t (counted (n.state, []) n.visits) ≡ o → forgotten o ≡ done k → k.visits ≤ n.visits + nodes t
      go (done j) w f =
          let h = hands_out t (counted (n.state, []) n.visits) j w in
          let v = ap (λ (c : Counted S). c.visits) (done_same f) in
          omega (arith, h.count, sublist_length h.among, length-first t, v)
      go (refused r) w f = never r f

-- ---- what waits

-- At most 193 wait at any turn.
pub waits_few : {A S : Type 0} {step : Entry A → S → Outcome (After S)} {look : ℕ → Extent → A} {P : List ℕ → Type 0} {m next : List ℕ} {T : Tree A} {begun : Counted S} {waits : List Waiting} {now : Counted S}
    → visits.Visiting step look P m next T begun waits now → length waits ≤ most_waiting
waits_few w = visits.low w

-- ---- parent last

-- Parent last hands out as many entries as there are nodes,
pub last-count : {A : Type 0} (t : Tree A) → length (parent_last t) ≡ nodes t
last-count t = later.length_last t

perm_append : {A : Type 0} {k l m n : List A} → Permᴰ k l → Permᴰ m n → Permᴰ (k ++ m) (l ++ n)
perm_append {l = l} {m = m} p q = Permᴰ.trans (Permᴰ.append_right m p) (Permᴰ.append_left l q)

-- the same as parent first, each as often,
pub last-first : {A : Type 0} (t : Tree A) → Permᴰ (parent_last t) (parent_first t)
last-first none = Permᴰ.refl []
last-first (leaf a is) = Permᴰ.refl (tip a is ∷ [])
last-first (node a t0 t1 t2 t3) =
    up (internal a) (perm_append (perm_append (perm_append (last-first t0) (last-first t1)) (last-first t2)) (last-first t3))
  where
    up : {A : Type 0} (a : A) {k l : List A} → Permᴰ k l → Permᴰ (k ++ (a ∷ [])) (a ∷ l)
    up a {k} p = Permᴰ.trans (Permᴰ.middle a k []) (Permᴰ.cons refl (Permᴰ.trans (Permᴰ.append-nil k) p))

-- and a node after all that lies below it.
pub last_of_node : {A : Type 0} (a : A) (t0 t1 t2 t3 : Tree A) → parent_last (node a t0 t1 t2 t3) ≡ parent_last t0 ++ parent_last t1 ++ parent_last t2 ++ parent_last t3 ++ (internal a ∷ [])
last_of_node a t0 t1 t2 t3 = refl
