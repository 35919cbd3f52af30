-- What the functions of this crate are given, and the ranges of what they answer. Assumes nothing.
use Rattle.std.specs.Prelude.{◌≡◌, Bool, not, List, ℕ, ◌*◌, ◌/◌, ◌≤◌, ◌<◌, length, get_or, eqb, Option, Some, None, Result, Ok, Err}
use Rattle.page.specs.Page.{all}
use Rattle.ring_log.specs.Ring.{most_blocks}
use Rattle.chip.specs.declared.Halt.{Halt}

-- a chip of B blocks with the head h, an index of n entries, and noise: ranges alone, which the public calls test. (A clause, and no invariant of a type: the
-- public functions that ask it stand in docs/STATEMENTS.md, and a type would ask more of who calls them)
pub record Sane (B : ℕ) (c ix noise : List ℕ) (n h : ℕ) : Type 0 where
  pub some_blocks : 4 ≤ B
  pub few_blocks : B ≤ most_blocks
  pub size : length c ≡ 4096 * B
  pub entries : n ≤ length ix
  pub loud : length noise ≡ 4096
  pub inside : h < B

-- the entry of a live value is one of n
abbrev pub LiveWithin : ℕ → Option ℕ → Type 0
LiveWithin n (Some j) = j < n
LiveWithin n None = Unit {0}

-- page p is in another block than x; none of the first n entries is a page of block x
abbrev pub elsewhere : ℕ → ℕ → Bool
elsewhere x p = not (eqb (p / 16) x)

unfoldable pub unlisted : ℕ → List ℕ → ℕ → Bool
unlisted x ix n = all (λ j. elsewhere x (get_or ix j 0)) n

-- at most 15 places are used
abbrev pub Few : Result ℕ Halt → Type 0
Few (Ok k) = k ≤ 15
Few (Err e) = Unit {0}
