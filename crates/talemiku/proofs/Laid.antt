-- Lists that are laid from the front, part after part of one length: records into a sheet, and particles into a list.
use mathlib.Core.Path.{◌≡◌, refl, sym, ap, ◌∙◌}
use mathlib.Core.List.{List, [], ◌∷◌, ◌++◌, append_assoc, append-nil}
use Prim.Native.Nat.{ℕ, zero, suc, ◌+◌, ◌*◌, ◌≤◌, ◌<◌}
use native.Mathlib.Omega.{arith}
use lib.ListN.{length, get_or, set, take, length-append}
use lib.Seq.{take_all}
use Rattle.rules.specs.declared.Particle.{Particle}
use Rattle.rules.specs.Plain.{overwritten}
use Rattle.rules.specs.Sheet.{record_size, record_at, records_from, record_bytes, sheet_of}
use Rattle.sheet.proofs.Lists.{overwritten-length, overwritten-next, overwritten-none, store_first}
use Rattle.talemiku.proofs.Passes.{none}

-- ---- parts of length k

module _ {A : Type 0} (k : ℕ) (part : ℕ → List A) where
  -- with the first i parts laid
  abbrev pub lay_to : ℕ → List A → List A
  lay_to zero l = l
  lay_to (suc i) l = overwritten (lay_to i l) (i * k) (part i)

  -- these parts, one after another
  abbrev parts : ℕ → List A
  parts zero = []
  parts (suc i) = parts i ++ part i

  module _ (wide : (i : ℕ) → length (part i) ≡ k) where
    parts-length : (i : ℕ) → length (parts i) ≡ i * k
    parts-length zero = omega arith
    parts-length (suc i) = length-append (parts i) (part i) ∙ omega (arith, parts-length i, wide i)

    lay-is : (i : ℕ) (l : List A) → i * k ≤ length l → lay_to i l ≡ overwritten l 0 (parts i)
    lay-is zero l h = refl
    lay-is (suc i) l h =
        let e : i * k ≡ 0 + length (parts i) = omega (arith, parts-length i) in
        ap (λ (m : List A). overwritten m (i * k) (part i)) (lay-is i l (omega (arith, h)))
        ∙ ap (λ (n : ℕ). overwritten (overwritten l 0 (parts i)) n (part i)) e
        ∙ overwritten-next l 0 (parts i) (part i) (omega (arith, h, parts-length i))

    pub lay-length : (i : ℕ) (l : List A) → i * k ≤ length l → length (lay_to i l) ≡ length l
    lay-length i l h = ap length (lay-is i l h) ∙ overwritten-length l 0 (parts i) (omega (arith, h, parts-length i))

-- ---- records into a sheet

module _ (ps : List Particle) where
  abbrev pub record_of : ℕ → List ℕ
  record_of i = record_bytes (get_or ps i none)

  pub record_wide : (i : ℕ) → length (record_of i) ≡ record_size
  unfolding record_bytes
  record_wide i = refl

-- one record more
sheet-more : (ps : List Particle) (i : ℕ) → i < length ps → sheet_of (take (suc i) ps) ≡ sheet_of (take i ps) ++ record_of ps i
sheet-more [] i h = absurd (omega arith)
sheet-more (p ∷ ps) zero h = append-nil (record_bytes p)
sheet-more (p ∷ ps) (suc i) h =
    ap (λ (l : List ℕ). record_bytes p ++ l) (sheet-more ps i (omega arith)) ∙ sym (append_assoc (record_bytes p) (sheet_of (take i ps)) (record_of ps i))

records-laid : (ps : List Particle) (i : ℕ) → i ≤ length ps → parts record_size (record_of ps) i ≡ sheet_of (take i ps)
records-laid ps zero h = refl
records-laid ps (suc i) h = ap (λ (l : List ℕ). l ++ record_of ps i) (records-laid ps i (omega arith)) ∙ sym (sheet-more ps i (omega arith))

-- all of them laid
pub sheet-laid : (ps : List Particle) (s : List ℕ) → length ps * record_size ≤ length s → lay_to record_size (record_of ps) (length ps) s ≡ overwritten s 0 (sheet_of ps)
sheet-laid ps s h =
    lay-is record_size (record_of ps) (record_wide ps) (length ps) s h
    ∙ ap (overwritten s 0) (records-laid ps (length ps) (omega arith) ∙ ap sheet_of (take_all (length ps) ps (omega arith)))

-- ---- particles into a list

module _ (s : List ℕ) where
  abbrev pub particle_at : ℕ → List Particle
  particle_at i = record_at s (i * record_size) ∷ []

  pub particle-wide : (i : ℕ) → length (particle_at i) ≡ 1
  particle-wide i = refl

  -- one particle more
  records-more : (at k : ℕ) → records_from s at (suc k) ≡ records_from s at k ++ (record_at s (at + k * record_size) ∷ [])
  records-more at zero = ap (λ (n : ℕ). record_at s n ∷ []) (omega arith)
  records-more at (suc k) =
      ap (λ (l : List Particle). record_at s at ∷ l)
      (records-more (at + record_size) k ∙ ap (λ (n : ℕ). records_from s (at + record_size) k ++ (record_at s n ∷ [])) (omega arith))

  particles-laid : (i : ℕ) → parts 1 particle_at i ≡ records_from s 0 i
  particles-laid zero = refl
  particles-laid (suc i) =
      let e : i * record_size ≡ 0 + i * record_size = omega arith in
      ap (λ (l : List Particle). l ++ particle_at i) (particles-laid i)
      ∙ ap (λ (n : ℕ). records_from s 0 i ++ (record_at s n ∷ [])) e
      ∙ sym (records-more 0 i)

  pub list_laid : (n : ℕ) (l : List Particle) → n ≤ length l → lay_to 1 particle_at n l ≡ overwritten l 0 (records_from s 0 n)
  list_laid n l h = lay-is 1 particle_at particle-wide n l (omega arith) ∙ ap (overwritten l 0) (particles-laid n)

-- a particle that is stored is laid
pub stored : (l : List Particle) (i : ℕ) (p : Particle) → i < length l → set l i p ≡ overwritten l (i * 1) (p ∷ [])
stored l i p h =
    let e : i ≡ i * 1 = omega arith in
    sym (store_first l i p [] (omega arith) ∙ overwritten-none (set l i p) (i + 1)) ∙ ap (λ (n : ℕ). overwritten l n (p ∷ [])) e
