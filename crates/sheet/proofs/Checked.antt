-- What the checks of records say.
use mathlib.Core.Path.{◌≡◌, refl, ap, ap₂, ◌∙◌}
use mathlib.Core.Bool.{Bool, true, false, ◌&&◌, not, false≢true, and-eq-true_iff}
use mathlib.Core.List.{List, [], ◌∷◌}
use Prim.Native.Nat.{ℕ, zero, suc, ◌+◌, ◌*◌, ◌/◌, ◌<◌}
use native.Mathlib.Omega.{arith}
use lib.Dec.{T, leb}
use lib.ListN.{length, get_or}
use lib.Ieee.{Float, nan, inf, fin, is_nan, neg, le}
use Rattle.rules.specs.declared.Particle.{Particle}
use Rattle.rules.specs.declared.Refusal.{Refusal}
use Rattle.rules.specs.Plain.{all}
use Rattle.rules.specs.Outcome.{Outcome, done, refused, Check, fine, require, ◌then◌, ◌>>=◌, refusal_of, check_from}
use Rattle.rules.specs.Number.{between, within, finite, limit, place_range, x_at, y_at}
use Rattle.rules.specs.Refusal.{coordinate_check, place_check}
use Rattle.rules.specs.Sheet.{record_check, records_check, places_of, speeds_of}
use Rattle.sheet.specs.Columns.{flags_of}

-- ---- refusals

-- a refusal with a number stays, whatever follows
pub stays : {A : Type 0} (c : Check) (f : Unit {0} → Outcome A) → ((refusal_of c).number ≡ 0 → ⊥) → refusal_of c ≡ refusal_of (c >>= f)
stays (done t) f h = absurd (h refl)
stays (refused r) f h = refl

-- the same for a check that another follows, as a call answered it
pub then_stays : (r : Refusal) (c d : Check) → r ≡ refusal_of c → (r.number ≡ 0 → ⊥) → r ≡ refusal_of (c then d)
then_stays r (done t) d e h = absurd (h (ap (λ (r : Refusal). r.number) e))
then_stays r (refused q) d e h = e

-- where the first of two checks refuses nothing, the second decides
pub then_on : (r : Refusal) (c d : Check) → c ≡ fine → r ≡ refusal_of d → r ≡ refusal_of (c then d)
then_on r c d z e = rw z e

-- a coordinate for which no number is answered is fine
pub coordinate_fine : (i : ℕ) (x : Float) → (refusal_of (coordinate_check i x)).number ≡ 0 → coordinate_check i x ≡ fine
coordinate_fine i x e = go (within x) e
  where
    go : (a : Bool) → (refusal_of (require a 4 i)).number ≡ 0 → require a 4 i ≡ fine
    go false e = absurd (omega arith)
    go true e = refl

-- a place too
pub place_fine : (i : ℕ) (x y : Float) → (refusal_of (place_check i x y)).number ≡ 0 → place_check i x y ≡ fine
place_fine i x y e = go (within x) (within y) e
  where
    go : (a b : Bool) → (refusal_of (require a 4 i then require b 4 i)).number ≡ 0 → require a 4 i then require b 4 i ≡ fine
    go false b e = absurd (omega arith)
    go true false e = absurd (omega arith)
    go true true e = refl

-- where two checks are fine, each is
both-fine : (c : Check) (f : Unit {0} → Check) → c >>= f ≡ fine → (c ≡ fine) × (f tt ≡ fine)
both-fine (done t) f h = (refl, h)
both-fine (refused r) f h = absurd (let z : ◌≡◌ {A = ℕ} 0 1 = cc in omega arith)

-- ---- one record

-- a particle that no check refuses
pub record Sound (p : Particle) : Type 0 where
  pub flags : leb p.flags 3 ≡ true
  pub x : within p.x ≡ true
  pub y : within p.y ≡ true
  pub vx : finite p.vx ≡ true
  pub vy : finite p.vy ≡ true

-- a record for which no number is answered is fine
pub record_fine : (i : ℕ) (p : Particle) → (refusal_of (record_check i p)).number ≡ 0 → record_check i p ≡ fine
unfolding record_check
record_fine i p e = go (leb p.flags 3) (within p.x) (within p.y) (finite p.vx && finite p.vy) e
  where
    go : (a b c d : Bool) → (refusal_of (require a 10 i then (require b 4 i then require c 4 i) then require d 5 i)).number ≡ 0
        → require a 10 i then (require b 4 i then require c 4 i) then require d 5 i ≡ fine
    go false b c d e = absurd (omega arith)
    go true false c d e = absurd (omega arith)
    go true true false d e = absurd (omega arith)
    go true true true false e = absurd (omega arith)
    go true true true true e = refl

-- what is fine is sound
fine-sound : (i : ℕ) (p : Particle) → record_check i p ≡ fine → Sound p
unfolding record_check
fine-sound i p e =
    let g = go (leb p.flags 3) (within p.x) (within p.y) (finite p.vx) (finite p.vy) (ap (λ (c : Check). (refusal_of c).number) e) in
    record { flags = g.0; x = g.1; y = g.2; vx = g.3; vy = g.4 }
  where
    go : (a b c d f : Bool) → (refusal_of (require a 10 i then (require b 4 i then require c 4 i) then require (d && f) 5 i)).number ≡ 0
        → (a ≡ true) × (b ≡ true) × (c ≡ true) × (d ≡ true) × (f ≡ true)
    go false b c d f e = absurd (omega arith)
    go true false c d f e = absurd (omega arith)
    go true true false d f e = absurd (omega arith)
    go true true true false f e = absurd (omega arith)
    go true true true true false e = absurd (omega arith)
    go true true true true true e = (refl, refl, refl, refl, refl)

-- what is sound is fine
sound-fine : (i : ℕ) (p : Particle) → Sound p → record_check i p ≡ fine
unfolding record_check
sound-fine i p s = rw (s.flags, s.x, s.y, s.vx, s.vy)

-- where two tests hold together, each does
-- what holds of all holds of each
pub all-at : {A : Type 0} (p : A → Bool) (l : List A) (i : ℕ) (d : A) → all p l ≡ true → i < length l → p (get_or l i d) ≡ true
all-at p [] i d h k = absurd (omega arith)
all-at p (x ∷ l) zero d h k = ((and-eq-true_iff (p x) (all p l)).0 h).0
all-at p (x ∷ l) (suc i) d h k = all-at p l i d ((and-eq-true_iff (p x) (all p l)).0 h).1 (omega arith)

-- both coordinates of each place
pub all_ranged : (at : List Float) → all within at ≡ true → (i : ℕ) → i < length at / 2 → (within (x_at at i) ≡ true) × (within (y_at at i) ≡ true)
all_ranged at h i k = (all-at within at (i * 2) nan h (omega arith), all-at within at (i * 2 + 1) nan h (omega arith))

-- ---- numbers in range are no NaN

pub within-number : (x : Float) → within x ≡ true → T (not (is_nan x))
unfolding between le is_nan
within-number nan h = absurd (false≢true ((and-eq-true_iff (le (neg limit) nan) false).0 h).1)
within-number (inf s) h = tt
within-number (fin s m e) h = tt

pub finite_number : (x : Float) → finite x ≡ true → T (not (is_nan x))
unfolding finite is_nan
finite_number nan h = absurd (false≢true h)
finite_number (inf s) h = tt
finite_number (fin s m e) h = tt

-- ---- all records

-- every coordinate is within 2 ^ 40 of zero, every velocity is finite, every flag is known
pub record AllSound (ps : List Particle) : Type 0 where
  pub places : all within (places_of ps) ≡ true
  pub speeds : all finite (speeds_of ps) ≡ true
  pub flags : all (λ f. leb f 3) (flags_of ps) ≡ true

-- the first record and the rest
pub checks_split : (i : ℕ) (p : Particle) (ps : List Particle) → check_from record_check i (p ∷ ps) ≡ fine → Sound p × (check_from record_check (i + 1) ps ≡ fine)
checks_split i p ps h = let b = both-fine (record_check i p) (λ _. check_from record_check (i + 1) ps) h in (fine-sound i p b.0, b.1)

checks_sound : (i : ℕ) (ps : List Particle) → check_from record_check i ps ≡ fine → AllSound ps
checks_sound i [] h = record { places = refl; speeds = refl; flags = refl }
checks_sound i (p ∷ ps) h =
    let b = checks_split i p ps h in
    let r = checks_sound (i + 1) ps b.1 in
    record {
      places = rw (b.0.x, b.0.y) r.places;
      speeds = rw (b.0.vx, b.0.vy) r.speeds;
      flags = rw b.0.flags r.flags;
    }

-- what the check of all records lets pass is in range
pub records-sound : (ps : List Particle) → records_check ps ≡ fine → AllSound ps
unfolding records_check
records-sound ps h = checks_sound 0 ps h

places-from : (i : ℕ) (ps : List Particle) → check_from record_check i ps ≡ fine → (k : ℕ) → k < length ps → place_range (x_at (places_of ps) k) (y_at (places_of ps) k) ≡ true
places-from i [] h k l = absurd (omega arith)
places-from i (p ∷ ps) h zero l = let s = (checks_split i p ps h).0 in rw (s.x, s.y)
places-from i (p ∷ ps) h (suc k) l =
    let e : suc k * 2 ≡ suc (suc (k * 2)) = omega arith in
    let f : suc k * 2 + 1 ≡ suc (suc (k * 2 + 1)) = omega arith in
    ap₂ (λ (a b : ℕ). place_range (get_or (places_of (p ∷ ps)) a nan) (get_or (places_of (p ∷ ps)) b nan)) e f ∙ places-from (i + 1) ps (checks_split i p ps h).1 k (omega arith)

-- the place of each particle too
pub places_ranged : (ps : List Particle) → records_check ps ≡ fine → (k : ℕ) → k < length ps → place_range (x_at (places_of ps) k) (y_at (places_of ps) k) ≡ true
unfolding records_check
places_ranged ps h = places-from 0 ps h

sound_checks : (i : ℕ) (ps : List Particle) → AllSound ps → check_from record_check i ps ≡ fine
sound_checks i [] s = refl
sound_checks i (p ∷ ps) s =
    let x = (and-eq-true_iff (within p.x) (within p.y && all within (places_of ps))).0 s.places in
    let y = (and-eq-true_iff (within p.y) (all within (places_of ps))).0 x.1 in
    let vx = (and-eq-true_iff (finite p.vx) (finite p.vy && all finite (speeds_of ps))).0 s.speeds in
    let vy = (and-eq-true_iff (finite p.vy) (all finite (speeds_of ps))).0 vx.1 in
    let f = (and-eq-true_iff (leb p.flags 3) (all (λ f. leb f 3) (flags_of ps))).0 s.flags in
    rw (sound-fine i p (record { flags = f.0; x = x.0; y = y.0; vx = vx.0; vy = vy.0 }))
    (sound_checks (i + 1) ps (record { places = y.1; speeds = vy.1; flags = f.1 }))

-- and what is in range it lets pass
pub sound-records : (ps : List Particle) → AllSound ps → records_check ps ≡ fine
unfolding records_check
sound-records ps s = sound_checks 0 ps s
