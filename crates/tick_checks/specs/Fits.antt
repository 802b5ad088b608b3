-- What 1, 2 and 3 let pass of the force slots and the lists behind them. Definitions only.
use Rattle.std.specs.Prelude.{◌≡◌, true, List, ℕ, ◌≤◌, length, Float}
use Rattle.rules.specs.declared.ForceEntry.{ForceEntry}
use Rattle.rules.specs.Outcome.{fine, check_each}
use Rattle.rules.specs.Refusal.{most_particles}
use Rattle.rules.specs.Tick.{entry_counts, entry_lengths, force_ends, forces_from}

-- few particles, iterations and links; lists as long as the entries need; every link end a particle
pub record Fits (n : ℕ) (entries : List ForceEntry) (numbers : List Float) (links : List ℕ) : Type 0 where
  pub few : n ≤ most_particles
  pub counts : check_each (λ _ e. entry_counts e) entries ≡ fine
  pub lengths : entry_lengths n entries (length numbers) (length links) ≡ true
  pub ends : check_each (λ _ f. force_ends n f) (forces_from n entries numbers links) ≡ fine
