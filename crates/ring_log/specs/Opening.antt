-- THE OPENING OF THE NEXT BLOCK, as a loop: what holds between its operations. The chip before was c₀, with head h; place t of the oldest block is the next
-- to be looked at, and place s of the spare the next to be written. The contracts of crates/opening speak of it. Assumes nothing.
use Rattle.std.specs.Prelude.{◌≡◌, ◌⊎◌, [], true, false, ℕ, ◌+◌, ◌-◌, ◌*◌, ◌≤◌, ◌<◌, length, get_or}
use Rattle.std.proofs.Math.Option.{some}
use Rattle.ring_log.specs.Key.{Key}
use Rattle.ring_log.specs.Map.{Map, lookup}
use Rattle.ring_log.specs.Log.{Placed, page_of, oldest, run, bytes, U}
use Rattle.ring_log.specs.Ring.{Chip, sealed, spare, First, Later, Ring, next, table, map_of, room}
use Rattle.ring_log.specs.Wear.{ages, ripes, phi, potential}

-- where a list has no row
abbrev pub none_there : Key × Placed
none_there = ([], (0, []))

-- the key at place i of a map, and past its end that of d
abbrev pub key_at : {A : Type 0} → Key × A → Map A → ℕ → Key
key_at d m i = (get_or m i d).0

-- every value stands at t or later
abbrev pub From : Map Placed → ℕ → Type 0
From m t = (k : Key) (a : Placed) → lookup k m ≡ some a → t ≤ a.0

-- the first round, and the oldest block was never used either
abbrev pub Fresh : ℕ → Chip → ℕ → Type 0
Fresh B c h = (h + 2 < B) × First B c h

module _ (B : ℕ) where
  -- the first place of the spare, by its number
  abbrev pub fresh : ℕ → ℕ
  fresh h = 15 * (h + B) + 15

  -- THE INVARIANT of the loop over the places of the oldest block
  pub record Opening (h : ℕ) (c₀ c : Chip) (t s : ℕ) : Type 0 where
    pub ring : Ring B c h
    -- the spare may be written: it was erased, or never used
    pub round : Later B c h ⊎ Fresh B c h
    pub unsealed : sealed c (spare B h) ≡ false
    pub blank : (u : ℕ) → s ≤ u → u < fresh h + 15 → c.full (page_of B u) ≡ false
    pub dense : (u : ℕ) → fresh h ≤ u → u < s → c.full (page_of B u) ≡ true
    pub copies : fresh h ≤ s
    pub fewer : s + oldest B (h + B) ≤ t + fresh h
    pub inside : t ≤ oldest B (h + B) + 15
    pub from : From (run B c.recs (h + B) s) t
    -- the map in memory is the map of before, and so is that of the chip
    pub memory : bytes (run B c.recs (h + B) s) ≡ map_of B c₀
    pub chip : map_of B c ≡ map_of B c₀
    pub still : potential B c ≡ potential B c₀
    pub same : table B c ≡ table B c₀
    pub here : next c h ≡ next c₀ h
    -- the potential of memory, seen from the next head, is no more than the ages were; and of the values older than w there is one less for each copy
    pub older : length (table B c₀) ≤ room B
        → phi (B - 2) (s - fresh h) (ages (h + B + 1) (s - fresh h) (run B c.recs (h + B) s)) ≤ ages (h + B) 15 (table B c₀)
    pub ripened : (w : ℕ) → w ≤ U * (B - 2)
        → ripes (w + (s - fresh h)) (h + B + 1) (s - fresh h) (run B c.recs (h + B) s) + (s - fresh h) ≡ ripes w (h + B) 15 (table B c₀)
    pub count : length (run B c.recs (h + B) s) ≡ length (table B c₀)

  -- NO VALUE IS MOVED TWICE IN A CALL: it has opened j blocks and moved K values to the places written since it began
  pub record Moved (c : Chip) (h j K : ℕ) : Type 0 where
    pub rows : K + ripes K (h + B) (next c h) (table B c) ≤ room B
    pub most : U * j + next c h ≤ K + 15
