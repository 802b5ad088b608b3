-- The lists behind the force slots, part by part: each slot's own part and its check. Definitions only.
use Rattle.std.specs.Prelude.{false, List, [], ◌∷◌, ℕ, ◌*◌, take, drop, Float}
use Rattle.rules.specs.declared.ForceEntry.{ForceEntry}
use Rattle.rules.specs.Outcome.{Check, fine, require, require_all, ◌then◌}
use Rattle.rules.specs.Refusal.{strengths_check, distances_check, settings_check}
use Rattle.rules.specs.declared.Kind.{Kind}
use Rattle.rules.specs.declared.Kind.TheVariants.{Empty, ManyBody, Collide, Link, Center, Unknown}
use Rattle.rules.specs.Force.{kind_of, ends_of, ends_range}
use Rattle.rules.specs.Tick.{links_needed, numbers_needed}

-- slots that share a list one after another, each with a check of its own part: the first that refuses
abbrev pub each_part : {A : Type 0} → (ForceEntry → ℕ) → (ForceEntry → List A → Check) → List ForceEntry → List A → Check
each_part need check [] l = fine
each_part need check (e ∷ es) l = check e (take (need e) l) then each_part need check es (drop (need e) l)

-- 3, of a slot's own link ends
abbrev pub own_ends : ℕ → List ℕ → Check
own_ends n part = require_all (ends_range n) 3 (ends_of part)

-- 5, of a slot's own numbers and settings
unfoldable pub kind_ranges : Kind → ForceEntry → List Float → Check
kind_ranges Empty e part = fine
kind_ranges ManyBody e part = strengths_check part
kind_ranges Collide e part = distances_check part then settings_check (e.a ∷ [])
kind_ranges Link e part = strengths_check (take e.strengths part) then distances_check (drop e.strengths part)
kind_ranges Center e part = settings_check (e.a ∷ e.b ∷ e.c ∷ [])
kind_ranges Unknown e part = require false 5 0

abbrev pub own_ranges : ForceEntry → List Float → Check
own_ranges e part = kind_ranges (kind_of e.kind) e part

-- 3 of all slots, for n particles
abbrev pub ends_each : ℕ → List ForceEntry → List ℕ → Check
ends_each n es links = each_part (λ e. links_needed e * 2) (λ e part. own_ends n part) es links

-- 5 of all slots, for n particles
abbrev pub ranges_each : ℕ → List ForceEntry → List Float → Check
ranges_each n es numbers = each_part (numbers_needed n) own_ranges es numbers
