-- The closing move: one particle, and particles by columns.
use mathlib.Core.Path.{◌≡◌, refl, sym, ap}
use mathlib.Core.Bool.{true}
use mathlib.Core.List.{List, [], ◌∷◌, ◌++◌, map, append-nil}
use Prim.Native.Nat.{ℕ, zero, suc, ◌+◌, ◌-◌, ◌*◌, ◌≤◌, ◌<◌}
use native.Mathlib.Numerals.{add-one}
use native.Mathlib.Omega.{arith}
use lib.ListN.{length, get_or, set, take, drop, drop_of_length-le}
use lib.Seq.{take_all, drop-cons}
use lib.Ieee.{Float, nan}
use Rattle.rules.specs.declared.Particle.{Particle}
use Rattle.rules.specs.Plain.{count_from, up_to}
use Rattle.rules.specs.Number.{0·, x_at, y_at}
use Rattle.rules.specs.Sheet.{particle, places_of, speeds_of}
use Rattle.rules.specs.Particle.{holds_x, moved_axis, moved, closing}
use Rattle.sheet.specs.Columns.{flags_of}
use Rattle.closing.specs.Columns.{particle_at, particles_from}
use Rattle.sheet.proofs.PairLists.{pair-off, pair_put, same_first, same_second}

-- ---- particles from columns

module _ (f : ℕ → Particle) where
  places-left : (l : List Float) (i k : ℕ) → length l ≡ (i + k) * 2 → ((j : ℕ) → (f j).x ≡ x_at l j) → ((j : ℕ) → (f j).y ≡ y_at l j)
      → places_of (map f (count_from i k)) ≡ drop (i * 2) l
  places-left l i zero e hx hy = sym (drop_of_length-le l {i = i * 2} (omega arith))
  places-left l i (suc k) e hx hy = rw (pair-off l i nan (omega arith), hx i, hy i, places-left l (i + 1) k (omega arith) hx hy)

  speeds-left : (l : List Float) (i k : ℕ) → length l ≡ (i + k) * 2 → ((j : ℕ) → (f j).vx ≡ x_at l j) → ((j : ℕ) → (f j).vy ≡ y_at l j)
      → speeds_of (map f (count_from i k)) ≡ drop (i * 2) l
  speeds-left l i zero e hx hy = sym (drop_of_length-le l {i = i * 2} (omega arith))
  speeds-left l i (suc k) e hx hy = rw (pair-off l i nan (omega arith), hx i, hy i, speeds-left l (i + 1) k (omega arith) hx hy)

  flags_left : (l : List ℕ) (i k : ℕ) → length l ≡ i + k → ((j : ℕ) → (f j).flags ≡ get_or l j 0) → flags_of (map f (count_from i k)) ≡ drop i l
  flags_left l i zero e h = sym (drop_of_length-le l {i = i} (omega arith))
  flags_left l i (suc k) e h = rw (drop-cons l i 0 (omega arith), h i, ← add-one i, flags_left l (i + 1) k (omega arith) h)

-- the columns are those that the particles were made from
module _ (places speeds : List Float) (flags : List ℕ) where
  pub places-back : length places ≡ length flags * 2 → places_of (particles_from places speeds flags) ≡ places
  unfolding particles_from
  places-back e = places-left (particle_at places speeds flags) places 0 (length flags) (omega arith) (λ j. refl) (λ j. refl)

  pub speeds-back : length speeds ≡ length flags * 2 → speeds_of (particles_from places speeds flags) ≡ speeds
  unfolding particles_from
  speeds-back e = speeds-left (particle_at places speeds flags) speeds 0 (length flags) (omega arith) (λ j. refl) (λ j. refl)

  pub flags_back : flags_of (particles_from places speeds flags) ≡ flags
  unfolding particles_from
  flags_back = flags_left (particle_at places speeds flags) flags 0 (length flags) (omega arith) (λ j. refl)

-- and the particles are those whose columns they are
particles-left : (f : ℕ → Particle) (ps : List Particle) (d : Particle) (i k : ℕ) → length ps ≡ i + k → ((j : ℕ) → j < length ps → f j ≡ get_or ps j d)
    → map f (count_from i k) ≡ drop i ps
particles-left f ps d i zero e h = sym (drop_of_length-le ps {i = i} (omega arith))
particles-left f ps d i (suc k) e h =
    rw (drop-cons ps i d (omega arith), h i (omega arith), ← add-one i, particles-left f ps d (i + 1) k (omega arith) h)

particle_of : (ps : List Particle) (d : Particle) (j : ℕ) → j < length ps → particle_at (places_of ps) (speeds_of ps) (flags_of ps) j ≡ get_or ps j d
particle_of [] d j h = absurd (omega arith)
particle_of (p ∷ ps) d zero h = refl
particle_of (p ∷ ps) d (suc j) h = rw (f, e) (particle_of ps d j (omega arith))
  where
    e : suc j * 2 ≡ suc (suc (j * 2))
    e = omega arith

    f : suc j * 2 + 1 ≡ suc (suc (j * 2 + 1))
    f = omega arith

flags_length : (ps : List Particle) → length (flags_of ps) ≡ length ps
flags_length [] = refl
flags_length (p ∷ ps) = ap suc (flags_length ps)

pub particles-back : (ps : List Particle) → particles_from (places_of ps) (speeds_of ps) (flags_of ps) ≡ ps
unfolding particles_from
particles-back ps = particles-left (particle_at (places_of ps) (speeds_of ps) (flags_of ps)) ps none 0 (length (flags_of ps)) (omega (arith, flags_length ps)) (particle_of ps none)
  where
    none : Particle
    none = particle nan nan nan nan 0

-- ---- the closing move of all

module _ (decay : Float) where
  closing-none : (home : List Float) → closing decay home [] ≡ []
  unfolding closing
  closing-none [] = refl
  closing-none (x ∷ []) = refl
  closing-none (x ∷ y ∷ home) = refl

  closing-map : (home : List Float) (p : ℕ → Particle) (i k : ℕ) → length home ≡ (i + k) * 2
      → closing decay (drop (i * 2) home) (map p (count_from i k)) ≡ map (λ j. moved decay (x_at home j) (y_at home j) (p j)) (count_from i k)
  unfolding closing
  closing-map home p i zero e = closing-none (drop (i * 2) home)
  closing-map home p i (suc k) e = rw (pair-off home i nan (omega arith), closing-map home p (i + 1) k (omega arith))

  module _ (home places speeds : List Float) (flags : List ℕ) where
    -- particle number i after the move
    abbrev pub closed_at : ℕ → Particle
    closed_at i = moved decay (x_at home i) (y_at home i) (particle_at places speeds flags i)

    pub closing-is : length home ≡ length flags * 2 → closing decay home (particles_from places speeds flags) ≡ map closed_at (up_to (length flags))
    unfolding particles_from
    closing-is e = closing-map home (particle_at places speeds flags) 0 (length flags) (omega arith)

    -- the code's particle number i, of columns that are as they were from i on
    pub closed-now : (i : ℕ) (places' speeds' : List Float) → drop (i * 2) places' ≡ drop (i * 2) places → drop (i * 2) speeds' ≡ drop (i * 2) speeds
        → moved decay (x_at home i) (y_at home i) (particle_at places' speeds' flags i) ≡ closed_at i
    closed-now i places' speeds' e f =
        rw (
          same_first places' i places nan e,
          same_second places' i places nan e,
          same_first speeds' i speeds nan f,
          same_second speeds' i speeds nan f,
        )

-- ---- columns written from the front, g j being particle number j as it is to be, and q particle number i

module _ (g : ℕ → Particle) (n : ℕ) (l : List Float) (i : ℕ) where
  module _ (h : i < n) (long : length l ≡ n * 2) (q : Particle) (e : q ≡ g i) where
    left : n - i ≡ suc (n - (i + 1))
    left = omega arith

    pub places-turn : take (i * 2) l ++ places_of (map g (count_from i (n - i)))
        ≡ take ((i + 1) * 2) (set (set l (i * 2) q.x) (i * 2 + 1) q.y) ++ places_of (map g (count_from (i + 1) (n - (i + 1))))
    places-turn = rw (left, ← e) (sym (pair_put l i q.x q.y _ (omega arith)))

    pub speeds-turn : take (i * 2) l ++ speeds_of (map g (count_from i (n - i)))
        ≡ take ((i + 1) * 2) (set (set l (i * 2) q.vx) (i * 2 + 1) q.vy) ++ speeds_of (map g (count_from (i + 1) (n - (i + 1))))
    speeds-turn = rw (left, ← e) (sym (pair_put l i q.vx q.vy _ (omega arith)))

  module _ (h : n ≤ i) (long : length l ≡ n * 2) where
    past : n - i ≡ 0
    past = omega arith

    pub places-end : take (i * 2) l ++ places_of (map g (count_from i (n - i))) ≡ l
    places-end = rw (past, take_all (i * 2) l (omega arith)) (append-nil l)

    pub speeds-end : take (i * 2) l ++ speeds_of (map g (count_from i (n - i))) ≡ l
    speeds-end = rw (past, take_all (i * 2) l (omega arith)) (append-nil l)

-- ---- a fact that stands by itself, over the rules alone

-- A held x returns home, and its velocity becomes +0.
pub held_x : (decay hx hy : Float) (p : Particle) → holds_x p.flags ≡ true → ((moved decay hx hy p).x ≡ hx) × ((moved decay hx hy p).vx ≡ 0·)
unfolding moved moved_axis
held_x decay hx hy p h = (rw h, rw h)
