-- What the steps to a root owe one another. Definitions only.
use Rattle.std.specs.Prelude.{◌≡◌, ℕ, ◌+◌, ◌-◌, ◌*◌, ◌/◌, ◌^◌, ◌≤◌, ◌<◌}
use Rattle.rules.specs.Root.{units}

-- the square of the root, in square units, is m * 2 ^ k, with m of 53 digits
pub record Unpacked (b m k : ℕ) : Type 0 where
  pub lo : 2 ^ 52 ≤ m
  pub hi : m < 2 ^ 53
  pub least : 1022 ≤ k
  pub most : k ≤ 3119
  pub value : units b * 2 ^ 1074 ≡ m * 2 ^ k

-- m * 2 ^ k is a * 2 ^ 52 times a square
pub record Radicand (m k a : ℕ) : Type 0 where
  pub lo : m ≤ a
  pub hi : a ≤ 2 * m
  pub value : m * 2 ^ k ≡ a * 2 ^ 52 * (2 ^ ((k - 52) / 2) * 2 ^ ((k - 52) / 2))

-- between two steps: the root q of the digits taken, what is left of them, and the digits to come, at the top of 54
pub record BetweenSteps (q rem rest : ℕ) : Type 0 where
  pub rem_le : rem ≤ 2 * q
  pub rest_lt : rest < 2 ^ 54

-- what the three stand for: the radicand's digits, those to come behind 54 places
abbrev pub radicand_of : ℕ → ℕ → ℕ → ℕ
radicand_of q rem rest = (q * q + rem) * 2 ^ 54 + rest

-- a step shifts the radicand by two digits and the root by one
pub record Stepped (q rem rest q' rem' rest' : ℕ) : Type 0 where
  pub ready : BetweenSteps q' rem' rest'
  pub q_le : q' ≤ 2 * q + 1
  pub same : radicand_of q' rem' rest' ≡ 4 * radicand_of q rem rest

-- q is the whole part of the root of a * 2 ^ 52
pub record Rooted (a q rem : ℕ) : Type 0 where
  pub lo : 2 ^ 52 ≤ q
  pub hi : q < 2 ^ 53
  pub small : rem ≤ 2 * q
  pub value : q * q + rem ≡ a * 2 ^ 52
